-- What holds of every file that is accepted.
-- Assumes nothing.
use mathlib.Core.Path.{◌≡◌}
use mathlib.Core.Bool.{true, false≢true}
use mathlib.Core.List.{List}
use mathlib.Core.Logic.{⊎_elim}
use Prim.Native.Nat.{ℕ, zero, suc, ◌+◌, ◌*◌, ◌≤◌, ◌<◌}
use native.Mathlib.Omega.{arith}
use borrow.Author.Tests.{leb-true, ltb-true, eqb-true}
use lib.ListN.{length, get_or, drop, length-drop}
use Rattle.lists.proofs.Rules.{holds, either}
use Rattle.panel.specs.Registers.{data_length}
use Rattle.panel.proofs.Registers.{data_length-le}
use Rattle.settings.specs.Settings.{Step, write, wait, malformed, step_of, size_of, steps_of, rest_of, all_steps, is_write_to, writes_to, longest_file, panel_of, start_count, start_steps, stop_section, stop_count, stop_steps, end_of, settings_rules, settings_good}
use Rattle.settings.proofs.Steps.{length_steps}

-- ---- how long steps are

size_le : (step : Step) → size_of step ≤ 10
size_le (write r d) = omega (arith, data_length-le r)
size_le (wait ms) = omega arith
size_le malformed = omega arith

written_size : (register : ℕ) (step : Step) → is_write_to register step ≡ true → size_of step ≡ 2 + data_length register
written_size register (write r d) e = rw (eqb-true r register e)
written_size register (wait ms) e = absurd (false≢true e)
written_size register malformed e = absurd (false≢true e)

-- n steps take at most ten bytes each
pub steps_le : (panel n : ℕ) (s : List ℕ) → length s ≤ 10 * n + length (rest_of panel n s)
steps_le panel zero s = omega arith
steps_le panel (suc n) s =
    let z = size_of (step_of panel s) in
    omega (arith, size_le (step_of panel s), length-drop z s, steps_le panel n (drop z s))

-- and fewer where a register with less data is written among them
pub written_le : (register panel n : ℕ) (s : List ℕ) → writes_to register (steps_of panel n s) ≡ true
    → length s + 8 ≤ 10 * n + data_length register + length (rest_of panel n s)
written_le register panel zero s e = absurd (false≢true e)
written_le register panel (suc n) s e =
    let step = step_of panel s in
    let z = size_of step in
    ⊎_elim
    (λ (t : is_write_to register step ≡ true).
    omega (arith, written_size register step t, length-drop z s, steps_le panel n (drop z s)))
    (λ (t : writes_to register (steps_of panel n (drop z s)) ≡ true).
    omega (arith, size_le step, length-drop z s, written_le register panel n (drop z s) t))
    (either (is_write_to register step) (writes_to register (steps_of panel n (drop z s))) e)

-- ---- an accepted file

module _ (file : List ℕ) (good : settings_good file ≡ true) where
  kept : (k : ℕ) → get_or (settings_rules file) k true ≡ true
  unfolding settings_good
  kept k = holds k (settings_rules file) good

  pub good-long : 3 ≤ length file
  good-long = leb-true _ _ (kept 0)

  pub good-panel : panel_of file < 3
  good-panel = ltb-true _ _ (kept 2)

  pub good-starts : start_count file ≤ 32
  good-starts = leb-true _ _ (kept 4)

  pub good_stops : stop_count file ≤ 32
  good_stops = leb-true _ _ (kept 9)

  -- every step is one
  pub all_starts : all_steps (start_steps file) ≡ true
  all_starts = kept 5

  pub all_stops : all_steps (stop_steps file) ≡ true
  all_stops = kept 10

  -- the counts are those of the steps
  pub length-starts : length (start_steps file) ≡ start_count file
  length-starts = length_steps (panel_of file) (start_count file) (drop 3 file)

  pub length_stops : length (stop_steps file) ≡ stop_count file
  length_stops = length_steps (panel_of file) (stop_count file) (drop 1 (stop_section file))

  -- three bytes, 31 start steps of ten bytes and the write of 0x04, a count, and 32 stop steps of ten bytes
  pub good_short : length file ≤ longest_file
  unfolding data_length
  good_short =
      let none : length (end_of file) ≡ 0 = eqb-true _ _ (kept 11) in
      let start : length (drop 3 file) + 8 ≤ 10 * start_count file + 1 + length (stop_section file) =
      written_le 0x04 (panel_of file) (start_count file) (drop 3 file) (kept 7) in
      omega (
        arith,
        good-starts,
        good_stops,
        length-drop 3 file,
        length-drop 1 (stop_section file),
        steps_le (panel_of file) (stop_count file) (drop 1 (stop_section file)),
      )
