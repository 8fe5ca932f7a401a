-- A whole update of a finish panel: the words and bytes of its calls are those of the published order.
-- Assumes nothing.
use mathlib.Core.Path.{◌≡◌, refl, sym, ap, ◌∙◌}
use mathlib.Core.List.{List}
use Prim.Native.Nat.{ℕ, suc, ◌+◌, ◌^◌, ◌≤◌, ◌<◌}
use native.Mathlib.Omega.{arith}
use lib.IntN.{ℤ}
use lib.ListN.{length, take}
use Rattle.finish_order.specs.Order.{Thing, write, delay, busy_high, done, thing_at}
use Rattle.finish_rules.specs.Rules.{normal_good, fast_good, Accepted}
use Rattle.finish_panel.specs.Update.{Answer, bytes_of, answer_of, answer_value, put_out, normal_things, fast_things, normal_update, fast_update, room_for_all, InOrder}
use Rattle.finish_panel.proofs.Whole.{normal_in_order, fast_in_order}
use Rattle.start_board.specs.Words.{as_word, kind_in, value_in}
use Rattle.start_board.specs.Finish.{finish_kind, finish_word, WordsInOrder}
use Rattle.start_board.proofs.Reading.{kind_of_lem, value_of}

-- the bytes that were put out for a thing are as many as it has
put-length : (thing : Thing) (out : List ℕ) → take (length (bytes_of thing)) out ≡ put_out (answer_of thing) out
put-length (write register bytes) out =
    let e : 1 + length bytes ≡ suc (length bytes) = omega arith in
    rw e
put-length (delay ms) out = refl
put-length busy_high out = refl
put-length done out = refl

-- where the answers are in order, so are their words
as_words : (things : List Thing) (answer : ℕ → Answer) (after : ℕ → List ℕ) → InOrder things answer after
    → (words : ℕ → ℕ) (left : ℕ → List ℕ)
    → ((k : ℕ) → k ≤ length things → (words k, left k) ≡ as_word finish_word (answer k, after k)) → WordsInOrder things words left
as_words things answer after o words left e =
    let is : (k : ℕ) → k ≤ length things → words k ≡ finish_word (answer k) = λ k h. ap (λ (c : ℕ × List ℕ). c.0) (e k h) in
    let within : (k : ℕ) → k < length things → answer_value (answer k) < 2 ^ 24 = λ k h. omega (arith, o.small k h) in
    record {
      kinds = λ k h.
          ap kind_in (is k (omega arith)) ∙ kind_of_lem (finish_kind (answer k)) (answer_value (answer k)) (within k h) ∙ ap finish_kind (o.answers k h);
      values = λ k h.
          ap value_in (is k (omega arith)) ∙ value_of (finish_kind (answer k)) (answer_value (answer k)) (within k h) ∙ ap answer_value (o.answers k h);
      puts = λ k h.
          let thing = thing_at things k in
          ap (take (length (bytes_of thing))) (ap (λ (c : ℕ × List ℕ). c.1) (e k (omega arith)))
          ∙ put-length thing (after k)
          ∙ ap (λ (a : Answer). put_out a (after k)) (sym (o.answers k h))
          ∙ o.puts k h;
      ends = is (length things) (omega arith) ∙ ap finish_word o.ends;
    }

module _ (otp : List ℕ) (temperature : ℤ) (new : List ℕ) (out : ℕ → List ℕ) (words : ℕ → ℕ) (after : ℕ → List ℕ) where
  pub normal_words : Accepted otp (normal_good temperature) (length new) (length new)
      → ((k : ℕ) → k ≤ length (normal_things otp temperature new) → room_for_all ≤ length (out k))
      → ((k : ℕ) → k ≤ length (normal_things otp temperature new) → (words k, after k) ≡ as_word finish_word (normal_update otp temperature new k (out k)))
      → WordsInOrder (normal_things otp temperature new) words after
  normal_words a room called =
      as_words (normal_things otp temperature new) _ _ (normal_in_order otp temperature new out _ _ a room (λ k h. refl)) words after called

  pub fast_words : (shown : List ℕ) → Accepted otp (fast_good temperature) (length new) (length shown)
      → ((k : ℕ) → k ≤ length (fast_things otp temperature new shown) → room_for_all ≤ length (out k))
      → ((k : ℕ) → k ≤ length (fast_things otp temperature new shown) → (words k, after k) ≡ as_word finish_word (fast_update otp temperature new shown k (out k)))
      → WordsInOrder (fast_things otp temperature new shown) words after
  fast_words shown a room called =
      as_words (fast_things otp temperature new shown) _ _ (fast_in_order otp temperature new out _ _ shown a room (λ k h. refl)) words after called
