-- Every call keeps the conditions of a fill.
-- Assumes nothing.
use mathlib.Core.Path.{◌≡◌, ap, ◌∙◌}
use mathlib.Core.Bool.{Bool, true, false, cond, not}
use mathlib.Core.List.{List, [], ◌∷◌, ◌++◌}
use Prim.Native.Nat.{ℕ, ◌≤◌, ◌<◌}
use native.Mathlib.Omega.{arith}
use lib.Dec.{eqb}
use Rattle.lists.specs.Rules.{case, first_of}
use Rattle.lists.proofs.Rules.{by_test}
use Rattle.bitmap.specs.Header.{file_length}
use Rattle.bitmap_prefix.specs.Begins.{begins_good}
use Rattle.fill.specs.Fills.{empty_fill, fill_of}
use Rattle.fill_calls.specs.Calls.{fed, ended, feeding, finishing, cancelling}
use Rattle.fill.specs.Conditions.{fill_valid}
use Rattle.fill.specs.declared.Fill.{Fill}
use Rattle.fill_calls.specs.declared.Fed.{Fed}
use Rattle.fill.proofs.Kept.{valid_of, valid-begun, Stands, stands}
use Rattle.fill_calls.proofs.SoFar.{fill_so_far}

module _ (b h s : ℕ) (some : 0 < b) (narrow : b ≤ 33) (within : b ≤ s) (stride : s ≤ 36) (low : h ≤ 176) where
  empty_valid : fill_valid b h s empty_fill ≡ true
  empty_valid = valid-begun b h s some narrow within stride low 0

  module _ (fill : Fill) (valid : fill_valid b h s fill ≡ true) (begun : eqb fill.slot 0 ≡ false) (chunk raw : List ℕ) where
    -- a chunk, taken or refused
    pub valid_kept : fill_valid b h s (feeding b h s fill chunk raw).0.fill ≡ true
    valid_kept = go (stands b h s some narrow within stride low fill valid)
      where
        go : Stands b h s some narrow within stride low fill valid → fill_valid b h s (feeding b h s fill chunk raw).0.fill ≡ true
        go (l, are, begins, is, e) =
            let slot : ℕ = fill.slot in
            let more : Fed = fed 0 (fill_of s slot (l ++ chunk)) in
            let f : (feeding b h s fill chunk raw).0 ≡ cond (begins_good b h s (l ++ chunk)) more (fed 4 empty_fill) =
            ap (λ (x : Fill). (feeding b h s x chunk raw).0) e ∙ fill_so_far b h s (omega arith) (omega arith) slot l begins chunk raw in
            rw f
            (by_test (λ (r : Fed). fill_valid b h s r.fill ≡ true) (begins_good b h s (l ++ chunk)) more (fed 4 empty_fill)
            (λ t. valid_of b h s some narrow within stride low slot (l ++ chunk) t (rw begun)) (λ t. empty_valid))

  -- the end of a file, taken or refused, and a fill that is given up
  pub valid-ended : (fill : Fill) (raw : List ℕ)
      → (fill_valid b h s (finishing b h s fill raw).0.fill ≡ true) × (fill_valid b h s (cancelling b h).0.fill ≡ true)
  unfolding finishing cancelling
  valid-ended fill raw = (go (eqb fill.came (file_length h s)), empty_valid)
    where
      go : (t : Bool)
          → fill_valid b h s (first_of {A = Fed × List ℕ} (case (not t) 4 ∷ []) (ended b h) (fed 0 empty_fill, raw)).0.fill ≡ true
      go true = empty_valid
      go false = empty_valid
