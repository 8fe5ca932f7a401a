-- The first refusal, and inputs that are accepted.
-- Assumes nothing.
use mathlib.Core.Path.{◌≡◌, refl, sym}
use mathlib.Core.Bool.{Bool, true, false, ◌&&◌}
use mathlib.Core.List.{List}
use mathlib.Core.Logic.{⊎_elim}
use Prim.Native.Nat.{ℕ, ◌≤◌, ◌<◌}
use native.Mathlib.Omega.{arith}
use borrow.Author.Tests.{not-false, eqb-true, eq-eqb, ne_eqb}
use lib.Dec.{eqb}
use lib.ListN.{length, get_or}
use Rattle.lists.specs.Rules.{first_of}
use Rattle.lists.proofs.Rules.{and_left, and_right, either, broken, decides, none, keep, None, past, none_of}
use Rattle.finish_order.specs.Order.{otp_length}
use Rattle.finish_rules.specs.Rules.{stage_good, stage_tests, stages_good, is_picture, refusals, Accepted}

pub picture_size : (n : ℕ) → is_picture n ≡ true → (0 < n) × (n ≤ 48000)
unfolding is_picture
picture_size n e =
    ⊎_elim
    (λ p. let q : n ≡ 23040 = eqb-true n 23040 p in (omega arith, omega arith))
    (λ p. let q : n ≡ 48000 = eqb-true n 48000 p in (omega arith, omega arith))
    (either (eqb n 23040) (eqb n 48000) e)

-- where nothing is refused, the inputs are accepted; and the other way round
pub accepted : (otp : List ℕ) (good : Bool) (new shown : ℕ) → None (refusals otp good new shown) → Accepted otp good new shown
accepted otp good new shown (past l (past s (past g (past p rest)))) =
    let both : (is_picture new && eqb new shown) ≡ true = not-false _ p in
    record {
      otp_whole = eqb-true _ _ (not-false _ l);
      stages_good = not-false _ s;
      in_range = not-false _ g;
      picture = and_left (is_picture new) (eqb new shown) both;
      same_size = eqb-true _ _ (and_right (is_picture new) (eqb new shown) both);
    }

pub none_refused : {otp : List ℕ} {good : Bool} {new shown : ℕ} → Accepted otp good new shown → None (refusals otp good new shown)
none_refused a =
    past (rw (eq-eqb _ _ a.otp_whole)) (past (rw a.stages_good) (past (rw a.in_range) (past (rw (a.picture, eq-eqb _ _ a.same_size)) none)))
