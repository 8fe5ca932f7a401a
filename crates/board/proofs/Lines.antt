-- What polls put out: a register write of a settings file pushes no dot, and a line pushes the dots of its row.
-- Assumes nothing.
use mathlib.Core.Path.{◌≡◌, refl, sym, ap, ◌∙◌}
use mathlib.Core.Bool.{Bool, true, false, cond, ◌||◌, false≢true}
use mathlib.Core.List.{List, [], ◌∷◌}
use Prim.Native.Nat.{ℕ, zero, suc, ◌%◌, ◌<◌}
use native.Mathlib.Omega.{arith}
use borrow.Author.Tests.{eqb-false, ne_eqb}
use lib.Dec.{eqb, leb}
use lib.IntN.{pos}
use lib.ListN.{length, take, drop}
use Rattle.lists.specs.Lists.{overlay}
use Rattle.lists.proofs.Lists.{take-overlay}
use Rattle.panel.specs.Registers.{data_length}
use Rattle.panel.specs.Codes.{code_of}
use Rattle.panel.specs.Dots.{row_dot, dot}
use Rattle.panel.proofs.Dots.{dot_row}
use Rattle.panel.proofs.Registers.{no_register}
use Rattle.wire.specs.Line.{handed_line}
use Rattle.wire.specs.Reading.{push_of}
use Rattle.wire.proofs.Reading.{pushed-line, pushed_write}
use Rattle.settings.specs.Settings.{Step, write, wait, malformed, step_of, size_of, steps_of, is_write_to, writes_to}
use Rattle.settings.specs.Steps.{from_write}
use Rattle.settings.proofs.Steps.{step_cases}
use Rattle.picture.specs.Slots.{slot_picture, picture_row}
use Rattle.balance.specs.Sums.{picture_of_stage}
use Rattle.balance.proofs.Stores.{Dots, Silent, Drives}
use Rattle.poll.specs.HandOut.{step_bytes}
use Rattle.board.proofs.Views.{silent_none}

-- ---- the steps of a settings file write no line: register 0x0A takes no data, so no step writes it

abbrev line_register : ℕ
line_register = 0x0A

step_no_line : (panel : ℕ) (s : List ℕ) → is_write_to line_register (step_of panel s) ≡ false
step_no_line panel s =
    step_cases panel s (λ step. is_write_to line_register step ≡ false)
    (λ register n e some fits. ne_eqb register line_register (λ q. none register n e some q))
    (λ ms long low high. refl)
    refl
  where
    none : (register n : ℕ) → n ≡ data_length register → 0 < n → register ≡ line_register → ⊥
    none register n e some q = omega (arith, no_register register (omega arith))

no_writes : (step : Step) (steps : List Step) → is_write_to line_register step ≡ false → writes_to line_register steps ≡ false
    → writes_to line_register (step ∷ steps) ≡ false
no_writes step steps e f = rw (e, f)

steps_no_line : (panel n : ℕ) (s : List ℕ) → writes_to line_register (steps_of panel n s) ≡ false
steps_no_line panel zero s = refl
steps_no_line panel (suc n) s =
    no_writes (step_of panel s) (steps_of panel n (drop (size_of (step_of panel s)) s)) (step_no_line panel s)
    (steps_no_line panel n (drop (size_of (step_of panel s)) s))

neither : (a b : Bool) → (a || b) ≡ false → (a ≡ false) × (b ≡ false)
neither true b e = absurd (false≢true (sym e))
neither false b e = (refl, e)

pub head_no_line : (step : Step) (steps : List Step) → writes_to line_register (step ∷ steps) ≡ false
    → (is_write_to line_register step ≡ false) × (writes_to line_register steps ≡ false)
head_no_line step steps = neither (is_write_to line_register step) (writes_to line_register steps)

drop_no_line : (k : ℕ) (steps : List Step) → writes_to line_register steps ≡ false → writes_to line_register (drop k steps) ≡ false
drop_no_line zero steps e = e
drop_no_line (suc k) [] e = refl
drop_no_line (suc k) (step ∷ steps) e = drop_no_line k steps (head_no_line step steps e).1

from_no_line : (steps : List Step) → writes_to line_register steps ≡ false → writes_to line_register (from_write steps) ≡ false
from_no_line [] e = refl
from_no_line (write register bytes ∷ steps) e = e
from_no_line (wait ms ∷ steps) e = from_no_line steps e
from_no_line (malformed ∷ steps) e = e

-- what is left from the next write on
pub rest_no_line : (panel n : ℕ) (s : List ℕ) (k : ℕ) → writes_to line_register (from_write (drop k (steps_of panel n s))) ≡ false
rest_no_line panel n s k = from_no_line (drop k (steps_of panel n s)) (drop_no_line k (steps_of panel n s) (steps_no_line panel n s))

-- ---- what is put out

-- of the picture that a stage looks at
by_stage : {A B : Type 0} (f : A → B) (stage : ℕ) (shown new : A)
    → f (picture_of_stage stage shown new) ≡ picture_of_stage stage (f shown) (f new)
unfolding picture_of_stage
by_stage {A} {B} f stage shown new = either (leb stage 2)
  where
    either : (t : Bool) → f (cond t shown new) ≡ cond t (f shown) (f new)
    either true = refl
    either false = refl

module _ (b h : ℕ) where
  pub silent_step : (step : Step) → is_write_to line_register step ≡ false → Silent b h (step_bytes step)
  silent_step (write register bytes) e x y = pushed_write b h register bytes x y (eqb-false register line_register e)
  silent_step (wait ms) e x y = silent_none b h x y
  silent_step malformed e x y = silent_none b h x y

  -- the bytes put out are those that were laid over the output
  pub silent_out : (bytes out : List ℕ) → Silent b h bytes → Silent b h (take (length bytes) (overlay bytes out))
  silent_out bytes out silent x y = rw (take-overlay bytes out) (silent x y)

  pub drives_out : (bytes out : List ℕ) (stage row : ℕ) (picture : Dots) → Drives b h bytes stage row picture
      → Drives b h (take (length bytes) (overlay bytes out)) stage row picture
  drives_out bytes out stage row picture drives x y fx fy = rw (take-overlay bytes out) (drives x y fx fy)

  -- the line of a row pushes its dots as the stage does where its picture has them
  pub line_drives : (memory : List ℕ) (slot stage row : ℕ) → h % 4 ≡ 0
      → Drives b h (handed_line b h stage row (row_dot (picture_row b (slot_picture b h memory (picture_of_stage stage 0 slot)) row))) stage row
      (picture_of_stage stage (dot b (slot_picture b h memory 0)) (dot b (slot_picture b h memory slot)))
  line_drives memory slot stage row fours x y fx fy =
      let picture = slot_picture b h memory (picture_of_stage stage 0 slot) in
      pushed-line b h stage row (row_dot (picture_row b picture row)) x y fours fx fy
      ∙ ap (λ (d : ℕ). cond (eqb y row) (push_of (code_of stage d)) (pos 0))
      (dot_row b picture x row fx ∙ ap (λ (f : Dots). f x row) (by_stage (λ (t : ℕ). dot b (slot_picture b h memory t)) stage 0 slot))
