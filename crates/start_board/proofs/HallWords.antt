-- Laws of the hall display's answers: what an answer of the Rattle call says of the C call's.
-- Assumes nothing.
use mathlib.Core.Path.{◌≡◌, refl, sym, ap, ◌∙◌}
use mathlib.Core.Bool.{Bool, true, false, not, cond}
use mathlib.Core.List.{List, [], ◌∷◌}
use Prim.Native.Nat.{ℕ, ◌+◌, ◌-◌, ◌≤◌, ◌<◌}
use native.Mathlib.Omega.{arith}
use borrow.Author.Tests.{eq-eqb, ne_eqb, lt-ltb, le-ltb}
use lib.Dec.{ltb}
use lib.ListN.{length}
use Rattle.lists.specs.Lists.{overlay, overlay_at}
use Rattle.lists.specs.Rules.{case, first_of}
use Rattle.hall_commands.specs.Reading.{Reply, reader_at, reading}
use Rattle.hall_commands.proofs.Reading.{read_accepted}
use Rattle.hall_display.specs.Panels.{is_display, header}
use Rattle.hall_display.specs.Upload.{Answer, make_header}
use Rattle.refusal.specs.Numbers.{number_of}
use Rattle.refusal.specs.declared.Refusal.{Refusal}
use Rattle.refusal.specs.declared.Refusal.TheVariants as refusals
use Rattle.std.proofs.Common.{Result, Ok, Err}
use Rattle.start_board.specs.Words.{word, as_word}
use Rattle.start_board.specs.Hall.{header_put, command_word, read_word}

-- ---- the header

module _ (panel depth : ℕ) (out : List ℕ) where
  pub header_refused : (e : Refusal) → ◌≡◌ {A = Result (List ℕ) Refusal} (Err e) (make_header panel depth)
      → (number_of e, out) ≡ header_put panel depth out
  unfolding header_put make_header
  header_refused e made = of_test (is_display panel depth) made where
    of_test : (good : Bool) → ◌≡◌ {A = Result (List ℕ) Refusal} (Err e) (cond good (Ok (header panel depth)) (Err refusals.Display))
        → ◌≡◌ {A = ℕ × List ℕ} (number_of e, out)
        (first_of (case (not good) 24 ∷ case (ltb (length out) 16) 11 ∷ []) (λ number. (number, out)) (0, overlay (header panel depth) out))
    of_test true made = absurd (cc)
    of_test false made = let is : e ≡ refusals.Display = cc in rw is

  module _ (bytes : List ℕ) (made : ◌≡◌ {A = Result (List ℕ) Refusal} (Ok bytes) (make_header panel depth)) where
    given : (is_display panel depth ≡ true) × (bytes ≡ header panel depth)
    unfolding make_header
    given = of_test (is_display panel depth) made where
      of_test : (good : Bool) → ◌≡◌ {A = Result (List ℕ) Refusal} (Ok bytes) (cond good (Ok (header panel depth)) (Err refusals.Display))
          → (good ≡ true) × (bytes ≡ header panel depth)
      of_test true made = (refl, cc)
      of_test false made = absurd (cc)

    pub header_short : length out < 16 → (11, out) ≡ header_put panel depth out
    unfolding header_put
    header_short h = rw (given.0, lt-ltb (length out) 16 h)

    pub header_given : {after : List ℕ} → 16 ≤ length out → after ≡ overlay_at 0 bytes out → (0, after) ≡ header_put panel depth out
    unfolding header_put
    header_given h e = rw (given.0, le-ltb (length out) 16 h, e, given.1)

-- ---- a command

pub command-answered : {called : Answer × List ℕ} {answer : Answer} {after : List ℕ} {w : ℕ} → (answer, after) ≡ called
    → w ≡ command_word answer → (w, after) ≡ as_word command_word called
command-answered is e = rw (e, ← is)

-- ---- a reading

module _ (slot at : ℕ) (command memory : List ℕ) {answer : Reply} {after : List ℕ}
    (is : (answer, after) ≡ reading (reader_at slot at) command memory) where
  pub read_refused : {w : ℕ} → (answer.number ≡ 0 → ⊥) → w ≡ word 0 answer.number
      → (w, after) ≡ as_word (read_word at) (reading (reader_at slot at) command memory)
  read_refused d e = rw (e, ← is, ne_eqb answer.number 0 d)

  pub read_data : {w : ℕ} → answer.number ≡ 0 → w ≡ word 1 (answer.reader.at - at)
      → (w, after) ≡ as_word (read_word at) (reading (reader_at slot at) command memory)
  read_data z e = rw (e, ← is, eq-eqb answer.number 0 z)

  -- how far the pointer moved
  pub read_moved : answer.number ≡ 0 → (at ≤ answer.reader.at) × (answer.reader.at ≤ at + 251)
  read_moved z =
      let a = read_accepted (reader_at slot at) command memory (sym (ap (λ (c : Reply × List ℕ). c.0.number) is) ∙ z) in
      let e = ap (λ (c : Reply × List ℕ). c.0.reader.at) (is ∙ a.0) in
      (omega (arith, e, a.1), omega (arith, e, a.1))
