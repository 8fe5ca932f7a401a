-- Each turn takes in one row more.
-- Assumes nothing.
use mathlib.Core.Path.{◌≡◌}
use Prim.Native.Nat.{ℕ, ◌+◌, ◌*◌, ◌≤◌}
use lib.ListN.{length, take}
use Rattle.bitmap.specs.Header.{header_length}
use Rattle.fill.specs.Fills.{fill_with, none_kept, rows_come}
use Rattle.fill.specs.Feeding.{bytes_fed}
use Rattle.fill.proofs.take_rows.Given as goal

abbrev pub invariant-loop-k : goal.invariant-loop-k
invariant-loop-k l = (length l.raw ≡ l.shape.rows * l.shape.bytes) × (l.came ≡ header_length + rows_come l.shape.stride l.came * l.shape.stride)
    × (rows_come l.shape.stride l.came + l.n ≤ l.shape.rows)
    × ((slot : ℕ) → (fill_with slot (l.came + l.k * l.shape.stride) l.palette none_kept, l.raw)
    ≡ bytes_fed l.shape.bytes l.shape.rows l.shape.stride (fill_with slot l.came l.palette none_kept, l.initial.raw) (take (l.k * l.shape.stride) l.rows))
