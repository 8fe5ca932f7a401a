-- Where the things of an update stand in their order.
-- Assumes nothing.
use mathlib.Core.Path.{◌≡◌, refl, sym, ap, ◌∙◌}
use mathlib.Core.List.{List, [], ◌∷◌, ◌++◌, append_assoc}
use Prim.Native.Nat.{ℕ, zero, suc, ◌+◌, ◌-◌, ◌*◌, ◌/◌, ◌%◌, ◌≤◌, ◌<◌}
use native.Mathlib.Nat.{not-suc-le-zero, le_of_suc-le-suc, one-mul, suc-mul}
use native.Mathlib.Omega.{arith}
use lib.ListN.{length, get_or}
use Rattle.lists.proofs.Elements.{at_left, at_right}
use Rattle.finish_order.specs.declared.Step.{Step}
use Rattle.finish_order.specs.Order.{Thing, done, otp_byte, raise, one_repeat, repeats, stage, start_dc_dc, send_update, stop_dc_dc, things_of, thing_at}
use Rattle.finish_order.specs.Facts.{StandsFor, before_start, after_start, stages_from, from_start}

-- ---- a stage of the soft start

-- a phase after some repeats of its stage
abbrev pub phase_after : (initial variation turn : ℕ) → ℕ
phase_after initial variation turn = (initial + turn * variation) % 256

-- one repeat more
phase_more : (a v n : ℕ) → phase_after ((a + v) % 256) v n ≡ phase_after a v (suc n)
phase_more a v n = rw suc-mul (omega arith)

module _ (otp : List ℕ) (at : ℕ) where
  abbrev pub phases_after : (phases : ℕ × ℕ) (turn : ℕ) → ℕ × ℕ
  phases_after phases turn =
      (phase_after phases.0 (otp_byte otp (at + 3)) turn, phase_after phases.1 (otp_byte otp (at + 4)) turn)

  raised_once : (phases : ℕ × ℕ) → raise otp at phases ≡ phases_after phases 1
  raised_once phases = rw (one-mul (otp_byte otp (at + 3)), one-mul (otp_byte otp (at + 4)))

  raised_more : (phases : ℕ × ℕ) (turn : ℕ) → phases_after (raise otp at phases) turn ≡ phases_after phases (suc turn)
  raised_more phases turn =
      rw (phase_more phases.0 (otp_byte otp (at + 3)) turn, phase_more phases.1 (otp_byte otp (at + 4)) turn)

  repeats-length : (n : ℕ) (phases : ℕ × ℕ) → length (repeats otp at n phases) ≡ n * 4
  repeats-length zero phases = refl
  repeats-length (suc n) phases = rw (repeats-length n (raise otp at phases), suc-mul) (omega arith)

  pub stage-length : length (stage otp at) ≡ otp_byte otp at % 128 * 4
  unfolding stage
  stage-length = repeats-length (otp_byte otp at % 128) (otp_byte otp (at + 1), otp_byte otp (at + 2))

  -- element r of the repeat after q others
  at_repeat : (n : ℕ) (phases : ℕ × ℕ) (q r : ℕ) → q < n → r < 4
      → thing_at (repeats otp at n phases) (q * 4 + r) ≡ thing_at (one_repeat otp at (phases_after phases (suc q))) r
  at_repeat zero phases q r h l = absurd (not-suc-le-zero h)
  at_repeat (suc n) phases zero r h l =
      let e : 0 * 4 + r ≡ r = omega arith in
      let next : ℕ × ℕ = raise otp at phases in
      rw e (at_left (one_repeat otp at next) (repeats otp at n next) done r l)
      ∙ ap (λ (p : ℕ × ℕ). thing_at (one_repeat otp at p) r) (raised_once phases)
  at_repeat (suc n) phases (suc q) r h l =
      let e : suc q * 4 + r ≡ suc (suc (suc (suc (q * 4 + r)))) = rw suc-mul (omega arith) in
      rw e (at_repeat n (raise otp at phases) q r (le_of_suc-le-suc h) l)
      ∙ ap (λ (p : ℕ × ℕ). thing_at (one_repeat otp at p) r) (raised_more phases (suc q))

  -- place k stands in repeat k / 4 + 1
  pub turn_le : (k : ℕ) → k < length (stage otp at) → k / 4 + 1 ≤ 127
  turn_le k h = let l : k < otp_byte otp at % 128 * 4 = rw stage-length at h in omega arith

  -- element k is one of that repeat's four
  pub stage_at : (k r : ℕ) → k < length (stage otp at) → k % 4 ≡ r
      → thing_at (one_repeat otp at (phases_after (otp_byte otp (at + 1), otp_byte otp (at + 2)) (k / 4 + 1))) r ≡ thing_at (stage otp at) k
  unfolding stage
  stage_at k r h p =
      let n = otp_byte otp at % 128 in
      let phases : ℕ × ℕ = (otp_byte otp (at + 1), otp_byte otp (at + 2)) in
      let l : k < n * 4 = rw stage-length at h in
      let q : k / 4 < n = omega arith in
      let e : k / 4 * 4 + r ≡ k = omega arith in
      let t : suc (k / 4) ≡ k / 4 + 1 = omega arith in
      sym
      (ap (λ (i : ℕ). thing_at (repeats otp at n phases) i) (sym e)
      ∙ at_repeat n phases (k / 4) r q (omega arith)
      ∙ ap (λ (turn : ℕ). thing_at (one_repeat otp at (phases_after phases turn)) r) t)

-- ---- the stages, and what comes after them

-- the stages begin eight bytes apart
pub stage_start : (i : ℕ) → i < 4 → get_or (0x28 ∷ 0x30 ∷ 0x38 ∷ 0x40 ∷ []) i 0 ≡ 0x28 + 8 * i
stage_start zero h = refl
stage_start (suc zero) h = refl
stage_start (suc (suc zero)) h = refl
stage_start (suc (suc (suc zero))) h = refl
stage_start (suc (suc (suc (suc i)))) h = absurd (omega arith)

-- n stages from an index on: place k is in the first, or it is counted on from the next
module _ (otp : List ℕ) (at k n : ℕ) (some : 0 < n) where
  one_more : n ≡ suc (n - 1)
  one_more = omega arith

  pub in_stage : k < length (stage otp at) → thing_at (stage otp at) k ≡ thing_at (stages_from otp at n) k
  in_stage h =
      sym (at_left (stage otp at) (stages_from otp (at + 8) (n - 1)) done k h)
      ∙ ap (λ (m : ℕ). thing_at (stages_from otp at m) k) (sym one_more)

  pub past_stage : length (stage otp at) ≤ k
      → thing_at (stages_from otp (at + 8) (n - 1)) (k - length (stage otp at)) ≡ thing_at (stages_from otp at n) k
  past_stage h =
      sym (at_right (stage otp at) (stages_from otp (at + 8) (n - 1)) done k h)
      ∙ ap (λ (m : ℕ). thing_at (stages_from otp at m) k) (sym one_more)

-- ---- the whole order

pub in_order_lem : (otp : List ℕ) (index : ℕ) (new second : List ℕ)
    → things_of otp index new second ≡ before_start otp index new second ++ from_start otp
unfolding things_of
in_order_lem otp index new second =
    let s = stage otp in
    ap (λ (l : List Thing). before_start otp index new second ++ l)
    (append_assoc (start_dc_dc otp) send_update stop_dc_dc
    ∙ append_assoc (s 0x28 ++ s 0x30 ++ s 0x38) (s 0x40) after_start
    ∙ append_assoc (s 0x28 ++ s 0x30) (s 0x38) (s 0x40 ++ after_start)
    ∙ append_assoc (s 0x28) (s 0x30) (s 0x38 ++ (s 0x40 ++ after_start)))

module _ (otp : List ℕ) (k : ℕ) where
  pub before-start : k < 33 → (index : ℕ) (new second : List ℕ)
      → thing_at (before_start otp index new second) k ≡ thing_at (things_of otp index new second) k
  before-start h index new second =
      rw (in_order_lem otp index new second) (sym (at_left (before_start otp index new second) (from_start otp) done k h))

  pub from_start_lem : 33 ≤ k → (index : ℕ) (new second : List ℕ)
      → thing_at (from_start otp) (k - 33) ≡ thing_at (things_of otp index new second) k
  from_start_lem h index new second =
      rw (in_order_lem otp index new second) (sym (at_right (before_start otp index new second) (from_start otp) done k h))

-- a step stands for a thing wherever that thing stands
pub elsewhere : {otp : List ℕ} {given : Step} {here there : ℕ → List ℕ → List ℕ → List Thing} {i j : ℕ}
    → StandsFor otp given here i
    → ((index : ℕ) (new second : List ℕ) → thing_at (here index new second) i ≡ thing_at (there index new second) j)
    → StandsFor otp given there j
elsewhere s e = record { within = s.within; is = λ index new second. s.is index new second ∙ e index new second }
