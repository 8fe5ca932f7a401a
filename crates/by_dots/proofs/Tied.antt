-- On the same arguments both ways give the same number and leave the same picture: over the contracts as the checker makes them from
-- the source, so that a contract that is weakened in src/ is refused here, even where every function is still proved.
-- Assumes nothing.
use mathlib.Core.Path.{◌≡◌, sym, ◌∙◌}
use mathlib.Core.List.{List}
use Prim.Native.Nat.{ℕ}
use Rattle.lists.proofs.Calls.{Call}
use Rattle.by_dots.proofs.region_by_bytes.Kinds as bytes-kinds
use Rattle.by_dots.proofs.region_by_bytes.Reads as bytes-reads
use Rattle.by_dots.proofs.region_by_dots.Kinds as dots-kinds
use Rattle.by_dots.proofs.region_by_dots.Reads as dots-reads

abbrev pub ByBytes : Type 0
ByBytes = Call 2 bytes-kinds.ps bytes-kinds.r bytes-reads.Learnt

abbrev pub ByDots : Type 0
ByDots = Call 2 dots-kinds.ps dots-kinds.r dots-reads.Learnt

-- the places of arguments and results are named here and nowhere else
pub record SameArguments (c : ByBytes) (d : ByDots) : Type 0 where
  pub x_is : c.args.0 ≡ d.args.0
  pub y_is : c.args.1.0 ≡ d.args.1.0
  pub width_is : c.args.1.1.0 ≡ d.args.1.1.0
  pub height_is : c.args.1.1.1.0 ≡ d.args.1.1.1.0
  pub payload_is : c.args.1.1.1.1.0.now ≡ d.args.1.1.1.1.0.now
  pub picture_is : c.args.1.1.1.1.1.0.now ≡ d.args.1.1.1.1.1.0.now

-- the number that a call gives, and the picture that it leaves
abbrev pub left_by_bytes : ByBytes → ℕ × List ℕ
left_by_bytes c = (c.result, c.exit.1.1.1.1.1.0.now)

abbrev pub left_by_dots : ByDots → ℕ × List ℕ
left_by_dots d = (d.result, d.exit.1.1.1.1.1.0.now)

pub ways_agree : (c : ByBytes) (d : ByDots) → SameArguments c d → left_by_bytes c ≡ left_by_dots d
ways_agree c d s =
    let e = rw (s.x_is, s.y_is, s.width_is, s.height_is, s.payload_is, s.picture_is) at c.promised in
    e ∙ sym d.promised
