-- What an accepted opening leaves: the settings file that it was given, and all slots white.
-- Assumes nothing.
use mathlib.Core.Path.{◌≡◌, refl, ◌∙◌}
use mathlib.Core.Bool.{true, ◌&&◌}
use mathlib.Core.List.{List, ◌++◌}
use Prim.Native.Nat.{ℕ, ◌+◌, ◌-◌, ◌*◌, ◌/◌, ◌%◌, ◌≤◌, ◌<◌}
use native.Mathlib.Nat.{zero-mul}
use native.Mathlib.Omega.{arith}
use borrow.Author.Tests.{not-false, leb-true, eqb-true, eqb-false}
use lib.Arith.{digits_lt}
use lib.Dec.{eqb, leb}
use lib.ListN.{length, take, replicate, length-replicate, get_or-replicate, replicate-append-replicate}
use lib.Seq.{take_at}
use Rattle.lists.proofs.Rules.{None, and_left, and_right, by_cases}
use Rattle.lists.proofs.Rules as rules
use Rattle.lists.proofs.Lists.{take-overlay}
use Rattle.lists.proofs.Cases.{none, more, each}
use Rattle.panel.specs.Dots.{bit, dot}
use Rattle.settings.specs.Settings.{settings_good, shape_in, longest_file}
use Rattle.picture.specs.Slots.{slot_bytes, slot_picture}
use Rattle.picture.proofs.Slots.{blank_picture}
use Rattle.slots.specs.Slots.{store_bytes}
use Rattle.store.specs.Refusals.{open_cases}
use Rattle.board.specs.State.{file_of, empty_state, opened_state}
use Rattle.board.specs.Calls.{reply, opening}
use Rattle.board.specs.declared.Reply.{Reply}

-- ---- the call

-- what an accepted opening has tested, and what it leaves
pub record Opened (file : List ℕ) (n : ℕ) (lent : List ℕ) (r : Reply × List ℕ) : Type 0 where
  pub good : settings_good file ≡ true
  pub some : 1 ≤ n
  pub few : n ≤ 7
  pub exact : length lent ≡ store_bytes (shape_in file) n
  pub leaves : r ≡ (reply 0 (opened_state file n), replicate (length lent) 0xFF)

pub opened : (file : List ℕ) (n : ℕ) (lent : List ℕ) → (opening file n lent).0.number ≡ 0 → Opened file n lent (opening file n lent)
unfolding opening
opened file n lent =
    by_cases (λ (r : Reply × List ℕ). r.0.number ≡ 0 → Opened file n lent r) (open_cases file n (length lent))
    (λ number. (reply number empty_state, lent)) (reply 0 (opened_state file n), replicate (length lent) 0xFF) refl
    (λ number e z. absurd (eqb-false number 0 e z)) accepted
  where
    accepted : None (open_cases file n (length lent)) → ◌≡◌ {A = ℕ} 0 0
        → Opened file n lent (reply 0 (opened_state file n), replicate (length lent) 0xFF)
    accepted (rules.past good (rules.past sized rest)) z =
        let all = not-false _ sized in
        let slots = and_left (leb 1 n && leb n 7) (eqb (length lent) (store_bytes (shape_in file) n)) all in
        record {
          good = not-false _ good;
          some = leb-true _ _ (and_left (leb 1 n) (leb n 7) slots);
          few = leb-true _ _ (and_right (leb 1 n) (leb n 7) slots);
          exact = eqb-true _ _ (and_right (leb 1 n && leb n 7) (eqb (length lent) (store_bytes (shape_in file) n)) all);
          leaves = refl;
        }

pub opened_file_lem : (file : List ℕ) (n : ℕ) → file_of (opened_state file n) ≡ file
opened_file_lem file n = take-overlay file (replicate longest_file 0)

-- ---- white slots

take-replicate : (k l v : ℕ) → k ≤ l → take k (replicate l v) ≡ replicate k v
take-replicate k l v le =
    let e : k + (l - k) ≡ l = omega arith in
    let split : replicate k v ++ replicate (l - k) v ≡ replicate l v = replicate-append-replicate k (l - k) v ∙ rw e in
    rw (← split) (take_at (replicate k v) (replicate (l - k) v) k (length-replicate k v))

-- slot 0 of bytes FF is a picture of bytes FF
pub blank_slot : (b h l : ℕ) → h * b ≤ l → slot_picture b h (replicate l 0xFF) 0 ≡ replicate (h * b) 0xFF
unfolding slot_picture slot_bytes
blank_slot b h l le = rw (zero-mul, take-replicate (h * b) l 0xFF le) (blank_picture b h)

bit_white : (j : ℕ) → j < 8 → bit 0xFF j ≡ 1
bit_white =
    each (λ j. bit 0xFF j ≡ 1) 8
    (more (more (more (more (more (more (more (more none refl) refl) refl) refl) refl) refl) refl) refl)

-- and every dot of it is white
pub blank_dot : (b h x y : ℕ) → x < 8 * b → y < h → dot b (replicate (h * b) 0xFF) x y ≡ 1
unfolding dot
blank_dot b h x y fx fy =
    let in_row : x / 8 < b = omega arith in
    rw (get_or-replicate {A = ℕ} (h * b) (y * b + x / 8) 0xFF 0 (digits_lt fy in_row)) (bit_white (x % 8) (omega arith))
