-- Laws of the items of a run: the next thing from each place, what stands after it, and when it is due. The frame rule is over any
-- rows, any frame count and any frame from which the schedule counts.
-- Assumes nothing.
use mathlib.Core.Path.{◌≡◌, refl, sym, ap, ◌∙◌}
use mathlib.Core.Bool.{true, false≢true}
use mathlib.Core.List.{List, [], ◌∷◌, ◌++◌, append_assoc}
use Prim.Native.Nat.{ℕ, zero, suc, ◌+◌, ◌-◌, ◌*◌, ◌/◌, ◌%◌, ◌≤◌, ◌<◌, max}
use native.Mathlib.Decide.{dec_lt}
use native.Mathlib.Nat.{sub-zero, suc-mul}
use native.Mathlib.Numerals.{add-one}
use native.Mathlib.Omega.{arith}
use borrow.Author.Tests.{ne_eqb}
use lib.Arith.{digits_div, digits_mod}
use Rattle.settings.specs.Settings.{Step, write, wait, malformed, all_steps, start_steps, stop_steps, rows_in}
use Rattle.settings.specs.Steps.{waits_before, from_write}
use Rattle.run.specs.Place.{frame_number, next_position}
use Rattle.run.specs.Due.{run_frames}
use Rattle.run.proofs.Place.{frame_lt, next_row, next_frame, next_stage, next_stop, next_cases, stage-number, end_number}
use Rattle.theorems.specs.Order.{Thing, a_write, a_line, the_end, writes_of, rows_from, frames_from, stages_from, things_of_run}
use Rattle.theorems.specs.Timing.{Item, pause, frame_begins, out, step_items, row_items, frame_items, frames_on, items_of_run, next_thing, after_next, First, known, due_from}
use Rattle.theorems.specs.Past.{first_at, after_lines, line_items, items_from}

-- the next of the items, and what stands after it
pub record Next (items : List Item) (thing : Thing) (rest : List Item) : Type 0 where
  pub next : next_thing items ≡ thing ∷ []
  pub after : after_next items ≡ rest

-- ---- steps, and what stands after them

module _ (rest : List Item) where
  -- the next write
  pub write_next : (steps : List Step) (step : Step) (more : List Step) → all_steps steps ≡ true → from_write steps ≡ step ∷ more
      → Next (step_items steps ++ rest) (a_write step) (step_items more ++ rest)
  write_next [] step more all e = absurd (let z : ◌≡◌ {A = ℕ} 0 1 = cc in omega arith)
  write_next (wait ms ∷ steps) step more all e =
      let found = write_next steps step more all e in record { next = found.next; after = found.after }
  write_next (write register bytes ∷ steps) step more all e =
      let p : write register bytes ≡ step = cc in
      let q : steps ≡ more = cc in
      record { next = ap (λ (s : Step). a_write s ∷ []) p; after = ap (λ (l : List Step). step_items l ++ rest) q }
  write_next (malformed ∷ steps) step more all e = absurd (false≢true all)

  -- with no write left what stands after the steps
  pub none_next : (steps : List Step) → all_steps steps ≡ true → from_write steps ≡ [] → {thing : Thing} {more : List Item}
      → Next rest thing more → Next (step_items steps ++ rest) thing more
  none_next [] all e next = next
  none_next (wait ms ∷ steps) all e next =
      let found = none_next steps all e next in record { next = found.next; after = found.after }
  none_next (write register bytes ∷ steps) all e next = absurd (let z : ◌≡◌ {A = ℕ} 0 1 = cc in omega arith)
  none_next (malformed ∷ steps) all e next = absurd (false≢true all)

  module _ (from : ℕ) (first : First) where
    -- waits that stand together add up
    pub write_due : (steps : List Step) (step : Step) (more : List Step) → all_steps steps ≡ true → from_write steps ≡ step ∷ more
        → (moment : ℕ) → due_from from first moment (step_items steps ++ rest) ≡ moment + waits_before steps
    write_due [] step more all e moment = absurd (let z : ◌≡◌ {A = ℕ} 0 1 = cc in omega arith)
    write_due (wait ms ∷ steps) step more all e moment = omega (arith, write_due steps step more all e (moment + ms))
    write_due (write register bytes ∷ steps) step more all e moment = omega arith
    write_due (malformed ∷ steps) step more all e moment = absurd (false≢true all)

    pub none_due : (steps : List Step) → all_steps steps ≡ true → from_write steps ≡ [] → (moment : ℕ)
        → due_from from first moment (step_items steps ++ rest) ≡ due_from from first (moment + waits_before steps) rest
    none_due [] all e moment = let z : moment ≡ moment + 0 = omega arith in ap (λ (m : ℕ). due_from from first m rest) z
    none_due (wait ms ∷ steps) all e moment =
        let z : moment + ms + waits_before steps ≡ moment + (ms + waits_before steps) = omega arith in
        none_due steps all e (moment + ms) ∙ ap (λ (m : ℕ). due_from from first m rest) z
    none_due (write register bytes ∷ steps) all e moment = absurd (let z : ◌≡◌ {A = ℕ} 0 1 = cc in omega arith)
    none_due (malformed ∷ steps) all e moment = absurd (false≢true all)

-- ---- lines

-- frame i as the code counts it: by its stage, and its frame of that stage
module _ (N stage frame : ℕ) (low : 1 ≤ stage) (inside : frame < N) where
  stage_of : frame_number N stage frame / N + 1 ≡ stage
  stage_of = rw (digits_div (stage - 1) inside) (omega arith)

  frame_of : frame_number N stage frame % N ≡ frame
  frame_of = digits_mod (stage - 1) inside

module _ (h N : ℕ) (rest : List Item) where
  -- the frames from frame i on, and what stands after them
  abbrev onward : (i : ℕ) → List Item
  onward i = frames_on h N i (4 * N - i) ++ rest

  -- the lines from a row on, and what stands after them
  abbrev lines_from : (stage frame row : ℕ) → List Item
  lines_from stage frame row = row_items stage frame row (h - row) ++ onward (frame_number N stage frame + 1)

  pub frame_begins_lem : (stage frame : ℕ) → 1 ≤ stage → stage ≤ 4 → frame < N
      → onward (frame_number N stage frame) ≡ frame_begins (frame_number N stage frame) ∷ lines_from stage frame 0
  frame_begins_lem stage frame low high inside =
      let i = frame_number N stage frame in
      let e : 4 * N - i ≡ suc (4 * N - (i + 1)) = omega (arith, frame_lt N stage frame high inside) in
      let more : List Item = frames_on h N (i + 1) (4 * N - (i + 1)) in
      let rows : row_items (i / N + 1) (i % N) 0 h ≡ row_items stage frame 0 (h - 0) =
      rw (stage_of N stage frame low inside, frame_of N stage frame low inside, sub-zero) in
      ap (λ (n : ℕ). frames_on h N i n ++ rest) e
      ∙ ap (λ (l : List Item). frame_begins i ∷ l)
      (append_assoc (row_items (i / N + 1) (i % N) 0 h) more rest ∙ ap (λ (l : List Item). l ++ (more ++ rest)) rows)

  pub lines_begin : 0 < N → onward 0 ≡ frame_begins (frame_number N 1 0) ∷ lines_from 1 0 0
  lines_begin some =
      let e : 0 ≡ frame_number N 1 0 = omega arith in
      ap onward e ∙ frame_begins_lem 1 0 (omega arith) (omega arith) some

  -- after a line: the next row, else the next frame, else what stands after the lines
  module _ (stage frame row : ℕ) where
    row_more : row + 1 < h → lines_from stage frame row ≡ out (a_line stage frame row) ∷ lines_from stage frame (row + 1)
    row_more r =
        let e : h - row ≡ suc (h - (row + 1)) = omega arith in
        ap (λ (n : ℕ). row_items stage frame row n ++ onward (frame_number N stage frame + 1)) e

    row_last : row < h → h ≤ row + 1 → (i : ℕ) → i ≡ frame_number N stage frame + 1
        → lines_from stage frame row ≡ out (a_line stage frame row) ∷ onward i
    row_last some last i next =
        let e : h - row ≡ 1 = omega arith in
        ap (λ (n : ℕ). row_items stage frame row n ++ onward (frame_number N stage frame + 1)) e
        ∙ ap (λ (j : ℕ). out (a_line stage frame row) ∷ onward j) (sym next)

-- a line is the next thing, and after it stands what its next position has
pub line_items_lem : (file : List ℕ) (stage frame row : ℕ) → 1 ≤ stage → stage ≤ 4 → frame < run_frames file → row < rows_in file
    → line_items file stage frame row
    ≡ out (a_line stage frame row) ∷ items_from file (next_position (rows_in file) (run_frames file) stage frame row)
line_items_lem file stage frame row low high f r =
    let h = rows_in file in
    let N = run_frames file in
    let rest : List Item = after_lines file in
    let line = out (a_line stage frame row) in
    elim (dec_lt (row + 1) h) [
      | yes q ↦
          let later : (row + 1 ≡ 0 → ⊥) = λ z. omega arith in
          rw (next_row h N stage frame row q, ne_eqb (row + 1) 0 later) (row_more h N rest stage frame row q)
      | no q ↦
          let last : h ≤ row + 1 = omega arith in
          let after = row_last h N rest stage frame row r last in
          elim (dec_lt (frame + 1) N) [
            | yes g ↦
                let number : frame_number N stage (frame + 1) ≡ frame_number N stage frame + 1 = omega arith in
                rw (next_frame h N stage frame row last g)
                (after (frame_number N stage (frame + 1)) number
                ∙ ap (λ (l : List Item). line ∷ l) (frame_begins_lem h N rest stage (frame + 1) low high g))
            | no g ↦
                let full : N ≤ frame + 1 = omega arith in
                let all : frame + 1 ≡ N = omega arith in
                elim (dec_lt stage 4) [
                  | yes t ↦
                      rw (next_stage h N stage frame row last full t)
                      (after (frame_number N (stage + 1) 0) (stage-number N stage frame low all)
                      ∙ ap (λ (l : List Item). line ∷ l) (frame_begins_lem h N rest (stage + 1) 0 (omega arith) (omega arith) (omega arith)))
                  | no t ↦
                      let four : 4 ≤ stage = omega arith in
                      let stage4 : stage ≡ 4 = omega arith in
                      let none : 4 * N - 4 * N ≡ 0 = omega arith in
                      rw (next_stop h N stage frame row last full four)
                      (after (4 * N) (end_number N stage frame stage4 all)
                      ∙ ap (λ (n : ℕ). line ∷ (frames_on h N (4 * N) n ++ rest)) none)
                ]
          ]
    ]

-- after a line F is known
pub first_next : (moment h N stage frame row : ℕ) → first_at moment (next_position h N stage frame row) ≡ known moment
first_next moment h N stage frame row =
    next_cases (λ p. first_at moment p ≡ known moment) h N stage frame row (λ r. refl) (λ f. refl) (λ f s. refl) (λ f s. refl)

-- ---- the frame rule: over any rows, any frame count, and any frame from which the schedule counts

module _ (from F moment : ℕ) where
  -- the first line of frame i: not before the frame may begin
  pub frame_due_lem : (h N i count : ℕ) (rest : List Item) → 0 < h → 0 < count
      → due_from from (known F) moment (frames_on h N i count ++ rest) ≡ max moment (F + 30 * (i - from))
  frame_due_lem h N i count rest rows some =
      let e : count ≡ suc (count - 1) = omega arith in
      let z : h ≡ suc (h - 1) = omega arith in
      let more : List Item = frames_on h N (i + 1) (count - 1) in
      ap (λ (n : ℕ). due_from from (known F) moment (frames_on h N i n ++ rest)) e
      ∙ ap (λ (n : ℕ). due_from from (known F) (max moment (F + 30 * (i - from))) ((row_items (i / N + 1) (i % N) 0 n ++ more) ++ rest)) z

  -- a later line: at once
  pub later_due : (stage frame row count : ℕ) (rest : List Item) → 0 < count
      → due_from from (known F) moment (row_items stage frame row count ++ rest) ≡ moment
  later_due stage frame row count rest some =
      let e : count ≡ suc (count - 1) = omega arith in
      ap (λ (n : ℕ). due_from from (known F) moment (row_items stage frame row n ++ rest)) e

-- after the last frame of all: the waits count from its end or from the last line, whichever is later; after a stop write they count
-- from that write
pub stop_due : (from : ℕ) (first : First) (steps : List Step) → all_steps steps ≡ true → (moment : ℕ)
    → due_from from first moment (step_items steps ++ (out the_end ∷ [])) ≡ moment + waits_before steps
stop_due from first steps all moment = by_next (from_write steps) refl
  where
    by_next : (found : List Step) → from_write steps ≡ found
        → due_from from first moment (step_items steps ++ (out the_end ∷ [])) ≡ moment + waits_before steps
    by_next [] e = none_due (out the_end ∷ []) from first steps all e moment
    by_next (step ∷ more) e = write_due (out the_end ∷ []) from first steps step more all e moment

pub end_due : (from F frames : ℕ) (steps : List Step) → all_steps steps ≡ true → (moment : ℕ)
    → due_from from (known F) moment (frame_begins frames ∷ (step_items steps ++ (out the_end ∷ [])))
    ≡ max moment (F + 30 * (frames - from)) + waits_before steps
end_due from F frames steps all moment = stop_due from (known F) steps all (max moment (F + 30 * (frames - from)))

-- ---- the things among the items are the things of a run

abbrev things_among : List Item → List Thing
things_among [] = []
things_among (pause ms ∷ items) = things_among items
things_among (frame_begins i ∷ items) = things_among items
things_among (out thing ∷ items) = thing ∷ things_among items

among_append : (left right : List Item) → things_among (left ++ right) ≡ things_among left ++ things_among right
among_append [] right = refl
among_append (pause ms ∷ items) right = among_append items right
among_append (frame_begins i ∷ items) right = among_append items right
among_append (out thing ∷ items) right = ap (λ (l : List Thing). thing ∷ l) (among_append items right)

among_steps : (steps : List Step) → things_among (step_items steps) ≡ writes_of steps
among_steps [] = refl
among_steps (write register bytes ∷ steps) = ap (λ (l : List Thing). a_write (write register bytes) ∷ l) (among_steps steps)
among_steps (wait ms ∷ steps) = among_steps steps
among_steps (malformed ∷ steps) = among_steps steps

among_rows : (stage frame row count : ℕ) → things_among (row_items stage frame row count) ≡ rows_from stage frame row count
among_rows stage frame row zero = refl
among_rows stage frame row (suc count) = ap (λ (l : List Thing). a_line stage frame row ∷ l) (among_rows stage frame (row + 1) count)

-- the frames of a stage, and the 4N frames stage by stage
among_frames : (h N s frame count : ℕ) → frame + count ≤ N
    → things_among (frames_on h N (s * N + frame) count) ≡ frames_from h (s + 1) frame count
among_frames h N s frame zero fits = refl
among_frames h N s frame (suc count) fits =
    let inside : frame < N = omega arith in
    let i = s * N + frame in
    let next : i + 1 ≡ s * N + (frame + 1) = omega arith in
    among_append (row_items (i / N + 1) (i % N) 0 h) (frames_on h N (i + 1) count)
    ∙ rw (
      among_rows (i / N + 1) (i % N) 0 h,
      digits_div s inside,
      digits_mod s inside,
      next,
      among_frames h N s (frame + 1) count (omega arith),
    )

frames_split : (h N i a b : ℕ) → frames_on h N i (a + b) ≡ frames_on h N i a ++ frames_on h N (i + a) b
frames_split h N i zero b =
    let e : 0 + b ≡ b = omega arith in
    let z : i ≡ i + 0 = omega arith in
    ap (λ (n : ℕ). frames_on h N i n) e ∙ ap (λ (j : ℕ). frames_on h N j b) z
frames_split h N i (suc a) b =
    let e : suc a + b ≡ suc (a + b) = omega arith in
    let z : i + 1 + a ≡ i + suc a = omega arith in
    ap (λ (n : ℕ). frames_on h N i n) e
    ∙ ap (λ (l : List Item). frame_items h N i ++ l) (frames_split h N (i + 1) a b ∙ ap (λ (j : ℕ). frames_on h N (i + 1) a ++ frames_on h N j b) z)
    ∙ sym (append_assoc (frame_items h N i) (frames_on h N (i + 1) a) (frames_on h N (i + suc a) b))

among_stages : (h N s count : ℕ) → things_among (frames_on h N (s * N) (count * N)) ≡ stages_from h N (s + 1) count
among_stages h N s zero = let e : 0 * N ≡ 0 = omega arith in ap (λ (n : ℕ). things_among (frames_on h N (s * N) n)) e
among_stages h N s (suc count) =
    let e : suc count * N ≡ N + count * N = suc-mul count N ∙ omega arith in
    let z : s * N ≡ s * N + 0 = omega arith in
    let next : s * N + N ≡ (s + 1) * N = omega (arith, suc-mul s N, add-one s) in
    ap (λ (n : ℕ). things_among (frames_on h N (s * N) n)) e
    ∙ ap things_among (frames_split h N (s * N) N (count * N))
    ∙ among_append (frames_on h N (s * N) N) (frames_on h N (s * N + N) (count * N))
    ∙ ap (λ (j : ℕ). things_among (frames_on h N j N) ++ things_among (frames_on h N (s * N + N) (count * N))) z
    ∙ rw (among_frames h N s 0 N (omega arith), next, among_stages h N (s + 1) count)

pub items_in_order : (file : List ℕ) → things_among (items_of_run file) ≡ things_of_run file
items_in_order file =
    let h = rows_in file in
    let N = run_frames file in
    let stops : List Item = step_items (stop_steps file) ++ (out the_end ∷ []) in
    let lines : things_among (frames_on h N 0 (4 * N - 0)) ≡ stages_from h N 1 4 =
    let e : 4 * N - 0 ≡ 4 * N = omega arith in
    let z : 0 ≡ 0 * N = omega arith in
    ap (λ (n : ℕ). things_among (frames_on h N 0 n)) e ∙ ap (λ (j : ℕ). things_among (frames_on h N j (4 * N))) z ∙ among_stages h N 0 4 in
    among_append (step_items (start_steps file)) (frames_on h N 0 (4 * N - 0) ++ (frame_begins (4 * N) ∷ stops))
    ∙ rw (
      among_steps (start_steps file),
      among_append (frames_on h N 0 (4 * N - 0)) (frame_begins (4 * N) ∷ stops),
      lines,
      among_append (step_items (stop_steps file)) (out the_end ∷ []),
      among_steps (stop_steps file),
    )
