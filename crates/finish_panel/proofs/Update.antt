-- The ways out of a call.
-- Assumes nothing.
use mathlib.Core.Path.{◌≡◌, refl, ◌∙◌}
use mathlib.Core.List.{List, [], ◌∷◌}
use Prim.Native.Nat.{ℕ, ◌+◌, ◌-◌, ◌≤◌, ◌<◌}
use native.Mathlib.Omega.{arith}
use borrow.Author.Tests.{lt-ltb, le-ltb}
use borrow.Rule.Slice.PartMut.{put_mid}
use lib.ListN.{length, set}
use Rattle.refusal.specs.Numbers.{number_of}
use Rattle.refusal.specs.declared.Refusal.{Refusal}
use Rattle.finish_panel.specs.declared.Given.{Given}
use Rattle.finish_panel.specs.Facts.{second_frame, shown_length, update_in, Begun}
use Rattle.lists.specs.Lists.{overlay, overlay_at}
use Rattle.lists.specs.Rules.{Case, first_of}
use Rattle.lists.proofs.Rules.{None as Free, some_append, none_append}
use lib.IntN.{ℤ}
use Rattle.refusal.proofs.Numbers.{number_some}
use Rattle.finish_order.specs.Order.{Thing, write, things_of, thing_at}
use Rattle.finish_rules.specs.declared.Mode.{Mode}
use Rattle.finish_rules.specs.Rules.{good_in, index_in, refusals, Accepted}
use Rattle.finish_rules.proofs.Rules.{none_refused}
use denote.Ref.{Bor}
use Rattle.std.specs.Prelude.{Option, Some, None, IfSome, unwrap_or, option_copied, Ok, Err}
use Rattle.finish_panel.specs.Update.{Answer, bytes_of, answer_of, too_short, give_out}

module _ (thing : Thing) (out : List ℕ) where
  pub short : length out < length (bytes_of thing) → (Err 11, out) ≡ give_out [] thing out
  unfolding give_out
  short l = rw (lt-ltb _ _ l)

  pub put : (after : List ℕ) → length (bytes_of thing) ≤ length out → after ≡ overlay (bytes_of thing) out
      → (answer_of thing, after) ≡ give_out [] thing out
  unfolding give_out
  put after l o = rw (le-ltb _ _ l, o)

  -- what is no write has room in any output, and leaves it
  pub no_write : bytes_of thing ≡ [] → (answer_of thing, out) ≡ give_out [] thing out
  no_write e = put out (rw e (omega arith)) (rw e)

  -- the first refusal of some cases, and a thing that none of them refuses
  module _ (cases : List Case) where
    pub refuse : {r : ℕ} → r ≡ first_of cases (λ n. n) 0 → (r ≡ 0 → ⊥) → (Err r, out) ≡ give_out cases thing out
    unfolding give_out
    refuse e d = some_append cases (too_short thing out) (λ n. (Err n, out)) (answer_of thing, overlay (bytes_of thing) out) e d

    pub give : Free cases → {given : Answer × List ℕ} → given ≡ give_out [] thing out → given ≡ give_out cases thing out
    unfolding give_out
    give free e = e ∙ none_append cases (too_short thing out) (λ n. (Err n, out)) (answer_of thing, overlay (bytes_of thing) out) free

-- bytes that are laid over a list after its first are put in the place of as many
pub put_after : (bytes after : List ℕ) → overlay_at 1 bytes after ≡ put_mid 1 (length bytes + 1 - 1) after bytes
put_after bytes after = let e : length bytes + 1 - 1 ≡ length bytes = omega arith in rw e

-- a write that was begun: there was too little room, or its n bytes come after the register
module _ (register n : ℕ) (bytes out : List ℕ) (size : n ≡ length bytes) where
  pub refused : {refusal : Refusal} {after : List ℕ} → Begun register n out (Err refusal) after
      → (Err (number_of refusal), after) ≡ give_out [] (write register bytes) out
  refused b = rw (b.1, b.2) (short (write register bytes) out (omega (arith, b.0)))

  pub written : {given : Given} {after : List ℕ} → Begun register n out (Ok given) after
      → (Ok given, put_mid 1 (n + 1 - 1) after bytes) ≡ give_out [] (write register bytes) out
  written b =
      rw (b.1, b.2, size) (put (write register bytes) out _ (omega (arith, b.0)) (laid out (omega (arith, b.0)))) where
        laid : (out : List ℕ) → length bytes < length out
            → put_mid 1 (length bytes + 1 - 1) (set out 0 register) bytes ≡ overlay (register ∷ bytes) out
        laid [] h = absurd (omega arith)
        laid (x ∷ xs) h = let e : length bytes + 1 - 1 ≡ length bytes = omega arith in rw e

-- the picture that has to be as long as the new one, and the shown picture, which is as long as that one
pub shown_as : (shown : Option (Bor (List ℕ))) (new : Bor (List ℕ))
    → length (unwrap_or shown new).now ≡ shown_length (option_copied shown) new.now
shown_as (Some shown) new = refl
shown_as None new = refl

pub shown_size : (shown : Option (Bor (List ℕ))) (new : List ℕ) (n : ℕ) → shown_length (option_copied shown) new ≤ n
    → IfSome shown (λ s. length s.now ≤ n)
shown_size (Some shown) new n h = h
shown_size None new n h = tt

-- the ways out of a call in a mode: the first refusal, or the thing after `given` others
module _ (mode : Mode) (otp : List ℕ) (temperature : ℤ) (new : List ℕ) (shown : Option (List ℕ)) (given : ℕ) (out : List ℕ) where
  abbrev cases : List Case
  cases = refusals otp (good_in mode temperature) (length new) (shown_length shown new)

  abbrev thing : Thing
  thing = thing_at (things_of otp (index_in mode temperature) new (second_frame shown (length new))) given

  pub refused_in : (refusal : Refusal) → number_of refusal ≡ first_of cases (λ n. n) 0
      → (Err (number_of refusal), out) ≡ update_in mode otp temperature new shown given out
  refused_in refusal e = refuse thing out cases e (λ z. omega (arith, z, number_some refusal))

  pub given_in : Accepted otp (good_in mode temperature) (length new) (shown_length shown new) → {answer : Answer × List ℕ}
      → answer ≡ give_out [] thing out → answer ≡ update_in mode otp temperature new shown given out
  given_in taken e = give thing out cases (none_refused taken) e
