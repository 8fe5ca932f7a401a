-- Demand 3: over every list of calls since an accepted opening, whatever they bring and whether they are refused, each dot's sum lies
-- between -N and 0, and at rest it is that of the shown picture.
-- Assumes nothing.
use mathlib.Core.Path.{◌≡◌, refl, sym, ap, subst, ◌∙◌}
use mathlib.Core.Bool.{true}
use mathlib.Core.List.{List, [], ◌∷◌}
use Prim.Native.Nat.{ℕ, ◌+◌, ◌*◌, ◌≤◌, ◌<◌}
use native.Mathlib.Nat.{mul-le-mul_right}
use native.Mathlib.Omega.{arith}
use lib.ListN.{length, replicate}
use Rattle.panel.specs.Dots.{dot}
use Rattle.settings.specs.Settings.{panel_of, settings_good, row_bytes_in, rows_in, shape_in}
use Rattle.panel.proofs.Panels.{size_of}
use Rattle.settings.proofs.Accepted.{good-panel}
use Rattle.picture.specs.Slots.{slot_picture}
use Rattle.balance.specs.Sums.{sum_of, rest_sum}
use Rattle.balance.proofs.Stores.{Dots, View, Moves}
use Rattle.balance.proofs.Stores as moves
use Rattle.balance.proofs.Moves.{moves_within, moves_rest}
use Rattle.run.specs.Due.{run_frames}
use Rattle.run.specs.declared.Phase.{Phase}
use Rattle.run.specs.declared.Phase.TheVariants.{Idle, Abandoned, Running}
use Rattle.slots.specs.Slots.{store_bytes}
use Rattle.board.specs.State.{file_of, opened_state}
use Rattle.board.specs.History.{Call, call_on, events_of, memory_after, handed_out, at_rest, Seen, seen_after}
use Rattle.board.specs.Balance.{seen_at_opening, Balanced, Demand3}
use Rattle.board.specs.declared.State.{State}
use Rattle.board.proofs.Views.{Sees, rests, runs, stopped, standing_of, Agree, AgreeIn, OneMove}
use Rattle.board.proofs.Effects.{effect}
use Rattle.board.proofs.Moves.{one_move}
use Rattle.board.proofs.Opening.{opened, opened_file_lem, blank_slot, blank_dot}

-- ---- every list of calls is a list of moves

-- a call is one move, where the settings file is known by this name
move_of : (file : List ℕ) (state : State) → file_of state ≡ file → (memory : List ℕ) (seen : Seen) (view : View)
    → AgreeIn file state.store.phase memory seen view
    → (call : Call) → OneMove file view seen (call_on state memory call)
move_of file state e memory seen view agree call =
    subst
    (λ (f : List ℕ). AgreeIn f state.store.phase memory seen view → OneMove f view seen (call_on state memory call))
    e (λ a. one_move state memory seen view a (effect state memory call)) agree

-- moves lead from a view to one that agrees with the store at the end
pub record Reaches (b h N : ℕ) (view : View) (handed : List (List ℕ)) (memory : List ℕ) (seen : Seen) : Type 0 where
  pub phase : Phase
  pub last : View
  pub moved : Moves b h N view handed last
  pub agree : Agree b h phase memory seen last

pub all_moves : (file : List ℕ) (state : State) → file_of state ≡ file → (memory : List ℕ) (seen : Seen) (view : View)
    → AgreeIn file state.store.phase memory seen view
    → (calls : List Call)
    → Reaches (row_bytes_in file) (rows_in file) (run_frames file) view (handed_out (events_of state memory calls))
    (memory_after state memory calls) (seen_after (row_bytes_in file) (rows_in file) seen (events_of state memory calls))
all_moves file state e memory seen view agree [] = record { phase = state.store.phase; last = view; moved = moves.none; agree = agree }
all_moves file state e memory seen view agree (call ∷ calls) =
    let one = move_of file state e memory seen view agree call in
    let rest =
    all_moves file (call_on state memory call).state one.file_kept (call_on state memory call).memory _
    one.leads.next one.leads.agree calls in
    record { phase = rest.phase; last = rest.last; moved = moves.more one.leads.move rest.moved; agree = rest.agree }

-- with no run under way or abandoned, the last view is at rest and shows slot 0
at_rest_lem : (b h : ℕ) (memory : List ℕ) (phase : Phase) (view : View) → at_rest ≡ standing_of phase → Sees b h memory phase view
    → view ≡ moves.resting (dot b (slot_picture b h memory 0))
at_rest_lem b h memory Idle view e rests = refl
at_rest_lem b h memory (Running run) view e runs = absurd (let z : ◌≡◌ {A = ℕ} 0 1 = cc in omega arith)
at_rest_lem b h memory Abandoned view e stopped = absurd (let z : ◌≡◌ {A = ℕ} 0 1 = cc in omega arith)

-- ---- the sums

module _ (b h N : ℕ) (some : 0 < N) {first : Dots} (white : (x y : ℕ) → x < 8 * b → y < h → first x y ≡ 1)
    {handed : List (List ℕ)} {memory : List ℕ} {seen : Seen} (r : Reaches b h N (moves.resting first) handed memory seen) where
  sum-at-rest : seen.standing ≡ at_rest → (x y : ℕ) → x < 8 * b → y < h → sum_of b h x y handed ≡ rest_sum N (dot b seen.shown x y)
  sum-at-rest still x y fx fy =
      let is = at_rest_lem b h memory r.phase r.last (sym still ∙ r.agree.stands) r.agree.sees in
      moves_rest b h N x y some fx fy (subst (λ (v : View). Moves b h N (moves.resting first) handed v) is r.moved) (white x y fx fy)
      ∙ rw r.agree.shows

-- ---- the theorem

-- from the state and the memory that an accepted opening leaves
from_opened : (file : List ℕ) (n : ℕ) (l : ℕ) → settings_good file ≡ true → l ≡ store_bytes (shape_in file) n → (calls : List Call)
    → Balanced (row_bytes_in file) (rows_in file) (run_frames file)
    (events_of (opened_state file n) (replicate l 0xFF) calls)
    (memory_after (opened_state file n) (replicate l 0xFF) calls)
from_opened file n l good exact calls =
    let b = row_bytes_in file in
    let h = rows_in file in
    let N = run_frames file in
    let some : 0 < N = (size_of (panel_of file) (good-panel file good)).frames_some in
    let fits : h * b ≤ l = rw exact (first_fits n (h * b)) in
    let blank = blank_slot b h l fits in
    let white : (x y : ℕ) → x < 8 * b → y < h → dot b (slot_picture b h (replicate l 0xFF) 0) x y ≡ 1 =
    λ x y fx fy. ap (λ (p : List ℕ). dot b p x y) blank ∙ blank_dot b h x y fx fy in
    let r =
    all_moves file (opened_state file n) (opened_file_lem file n) (replicate l 0xFF) (seen_at_opening b h)
    (moves.resting (dot b (slot_picture b h (replicate l 0xFF) 0)))
    (record { sees = rests; stands = refl; shows = blank }) calls in
    record {
      within = λ x y fx fy. moves_within b h N x y some fx fy r.moved (white x y fx fy);
      resting = sum-at-rest b h N some white r;
      shown = r.agree.shows;
    }
  where
    first_fits : (k p : ℕ) → p ≤ (k + 1) * p
    first_fits k p = omega (arith, mul-le-mul_right {m = 1} {n = k + 1} p (omega arith))

pub demand3 : Demand3
demand3 file n lent accepted calls =
    let o = opened file n lent accepted in
    rw o.leaves (from_opened file n (length lent) o.good o.exact calls)
