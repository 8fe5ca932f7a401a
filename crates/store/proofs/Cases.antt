-- What each call has tested where it refuses nothing, by name: only this file knows in which order a call's own cases stand.
-- Assumes nothing.
use mathlib.Core.Path.{◌≡◌, ap}
use mathlib.Core.Bool.{Bool, true, false, not}
use mathlib.Core.List.{List, [], ◌∷◌, ◌++◌}
use Prim.Native.Nat.{ℕ, ◌≤◌}
use borrow.Author.Tests.{leb-true, ltb-false, le-leb, le-ltb, not-false}
use lib.Dec.{leb}
use Rattle.std.specs.Prelude.{Ok, Err}
use Rattle.refusal.specs.Numbers.{number_of}
use Rattle.refusal.specs.declared.Refusal.{Refusal}
use Rattle.lists.specs.Rules.{Case, case, first_of}
use Rattle.lists.proofs.Rules.{numbered, and_left, and_right, None, none, past, none_parts}
use Rattle.panel.specs.Panels.{Sizes}
use Rattle.settings.specs.declared.Plan.{Plan}
use Rattle.bitmap.specs.Header.{file_length}
use Rattle.store.specs.Conditions.{is_runs_slot}
use Rattle.store.specs.Refusals.{takes_pictures, is_running, is_abandoned, is_filled, is_filling, upload_own, begin_own, fill_own, start_own, abandon_own, write_own}
use Rattle.store.specs.Facts.{Found}
use Rattle.store.specs.declared.Store.{Store}
use Rattle.store.proofs.Numbers.{by_first, by_own}

-- ---- a call's own cases

-- a slot that takes pictures: 1 to n
pub record Takes (store : Store) (slot : ℕ) : Type 0 where
  pub low : 1 ≤ slot
  pub high : slot ≤ store.slots

takes : (store : Store) (slot : ℕ) → not (takes_pictures store.slots slot) ≡ false → Takes store slot
takes store slot e =
    let both = not-false (takes_pictures store.slots slot) e in
    record {
      low = leb-true _ _ (and_left (leb 1 slot) (leb slot store.slots) both);
      high = leb-true _ _ (and_right (leb 1 slot) (leb slot store.slots) both);
    }

pub record Uploadable (store : Store) (slot : ℕ) : Type 0 where
  pub takes : Takes store slot
  pub not_runs : is_runs_slot store.phase slot ≡ false
  pub not_filled : is_filled store.fill slot ≡ false

pub uploadable : (store : Store) (slot : ℕ) → None (upload_own store slot) → Uploadable store slot
uploadable store slot (past e (past f (past g rest))) = record { takes = takes store slot e; not_runs = f; not_filled = g }

pub upload_free : (store : Store) (slot : ℕ) → Uploadable store slot → None (upload_own store slot)
upload_free store slot may =
    let both : takes_pictures store.slots slot ≡ true =
    rw (le-leb 1 slot may.takes.low, le-leb slot store.slots may.takes.high) in
    past (ap not both) (past may.not_runs (past may.not_filled none))

-- a slot that may be filled, where none is being filled
pub record Fillable (store : Store) (slot : ℕ) : Type 0 where
  pub upload : Uploadable store slot
  pub none_filled : is_filling store.fill ≡ false

pub fillable : (store : Store) (slot : ℕ) → None (begin_own store slot) → Fillable store slot
fillable store slot free =
    let parts = none_parts (upload_own store slot) _ free in
    record { upload = uploadable store slot parts.0; none_filled = last parts.1 }
  where
    last : {t : Bool} {n : ℕ} → None (case t n ∷ []) → t ≡ false
    last (past e rest) = e

pub filling : (store : Store) → None (fill_own store) → is_filling store.fill ≡ true
filling store (past e rest) = not-false (is_filling store.fill) e

pub fill_free : (store : Store) → is_filling store.fill ≡ true → None (fill_own store)
fill_free store e = past (ap not e) none

pub record Startable (store : Store) (slot : ℕ) : Type 0 where
  pub idle : is_running store.phase ≡ false
  pub whole : is_abandoned store.phase ≡ false
  pub takes : Takes store slot
  pub not_filled : is_filled store.fill slot ≡ false

pub startable : (store : Store) (slot : ℕ) → None (start_own store slot) → Startable store slot
startable store slot (past e (past f (past g (past k rest)))) =
    record { idle = e; whole = f; takes = takes store slot g; not_filled = k }

pub running : (store : Store) → None (abandon_own store) → is_running store.phase ≡ true
running store (past e rest) = not-false (is_running store.phase) e

pub record Writable (store : Store) (shape : Sizes) (slot out_length : ℕ) : Type 0 where
  pub high : slot ≤ store.slots
  pub room : file_length shape.rows shape.stride ≤ out_length

pub writable : (store : Store) (shape : Sizes) (slot out_length : ℕ) → None (write_own store shape slot out_length) → Writable store shape slot out_length
writable store shape slot out_length (past e (past f rest)) = record { high = ltb-false _ _ e; room = ltb-false _ _ f }

pub write_free : (store : Store) (shape : Sizes) (slot out_length : ℕ) → Writable store shape slot out_length → None (write_own store shape slot out_length)
write_free store shape slot out_length may = past (le-ltb _ _ may.high) (past (le-ltb _ _ may.room) none)

-- ---- what the functions found

module _ (file : List ℕ) (cases own : List Case) where
  -- the store's refusal stands
  pub first_found : (r : Refusal) → Found file cases (Err r) → Found file (cases ++ own) (Err r)
  first_found r found = record { number_is = by_first cases own r found.number_is; plan = tt }

  -- where there is none, its own after it, or the plan
  pub own_found : numbered cases ≡ true → (plan : Plan) → Found file cases (Ok plan) → (r : Refusal) → number_of r ≡ first_of own (λ n. n) 0
      → Found file (cases ++ own) (Err r)
  own_found p plan found r is = record { number_is = by_own cases own p found.number_is is; plan = tt }

  pub none_found : numbered cases ≡ true → (plan : Plan) → Found file cases (Ok plan) → 0 ≡ first_of own (λ n. n) 0
      → Found file (cases ++ own) (Ok plan)
  none_found p plan found is = record { number_is = by_own cases own p found.number_is is; plan = found.plan }
