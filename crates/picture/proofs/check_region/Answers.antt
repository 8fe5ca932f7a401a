-- The first test that fails gives its number.
-- Assumes nothing.
use mathlib.Core.Bool.{not}
use mathlib.Core.Path.{ap}
use native.Mathlib.Omega.{arith}
use Rattle.picture.proofs.Regions.{region_found}
use Rattle.picture.proofs.check_region.Goals as goal

pub payload_good-requires : goal.payload_good-requires
payload_good-requires c =
    let a = c.args in
    omega (arith, region_found a.shape.bytes a.shape.rows a.region.x a.region.y a.region.width a.region.height _ c.region_good.ensures (ap not c.if-not-region_good.false))
