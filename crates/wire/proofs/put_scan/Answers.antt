use native.Mathlib.Omega.{arith}
use Rattle.wire.proofs.Scans.{scans_marked, scans_bare}
use Rattle.wire.proofs.put_scan.Goals as goal

pub returns-then-place-n : goal.returns-then-place-n
returns-then-place-n c =
    let a = c.args in
    rw c.scan_mark.ensures (scans_marked a.n a.y a.at a.out.now c.fill_at.ensures (omega arith) (omega arith))

pub returns-else-place-n : goal.returns-else-place-n
returns-else-place-n c = let a = c.args in scans_bare a.n a.y a.at a.out.now c.fill_at.ensures (omega arith)
