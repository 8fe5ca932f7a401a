-- `has_prefix`: std's answer is that of the definition. Assumes nothing.
use mathlib.Core.Path.{◌≡◌, ◌∙◌}
use native.Mathlib.Omega.{arith}
use Prim.Native.Nat.{◌-◌}
use lib.ListN.{length, take, drop, length-drop}
use lib.Seq.{take_all}
use Rattle.settings.proofs.Prefix.{prefix_is}
use Rattle.settings.proofs.has_prefix.Goals as goal

pub returns : goal.returns
returns c =
    let s = drop c.args.at c.args.file.now in
    let rest : take (length c.args.file.now - c.args.at) s ≡ s = take_all _ s (omega (arith, length-drop c.args.at c.args.file.now)) in
    rw rest at c.starts_with.ensures.value ∙ prefix_is s c.args.prefix.now
