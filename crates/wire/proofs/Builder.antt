-- What `inRange` says, as facts, and the ways out of the line builder.
-- Assumes nothing.
use mathlib.Core.Path.{◌≡◌, ap, ◌∙◌}
use mathlib.Core.Bool.{true, false}
use mathlib.Core.List.{List, [], ◌∷◌}
use Prim.Native.Nat.{ℕ, ◌≤◌, ◌<◌}
use borrow.Author.Tests.{ltb-true, leb-true, eqb-true, lt-ltb, le-ltb}
use lib.Dec.{eqb, leb, ltb}
use lib.ListN.{length}
use Rattle.lists.specs.Lists.{overlay}
use Rattle.lists.proofs.Rules.{holds, broken}
use Rattle.lists.specs.Rules.{every}
use Rattle.panel.specs.Panels.{Sizes, is_panel, rows_of, row_bytes_of, shape_of}
use Rattle.panel.specs.Facts.{sizes}
use Rattle.panel.specs.Names.{panel_code}
use Rattle.panel.specs.declared.sizes.Shape.{Shape}
use Rattle.panel.specs.declared.table.Panel.{Panel}
use Rattle.panel.proofs.Panels.{code_lt}
use Rattle.panel.specs.Dots.{row_dot}
use Rattle.wire.specs.Line.{line, line_length}
use Rattle.wire.specs.Builder.{range_tests, in_range, build_line}

pub record InRange (panel stage y row_length : ℕ) : Type 0 where
  pub panel_ok : panel < 3
  pub stage-low : 1 ≤ stage
  pub stage-high : stage ≤ 4
  pub row_ok : y < rows_of panel
  pub bytes_ok : row_length ≡ row_bytes_of panel

pub in_range_lem : (panel stage y row_length : ℕ) → in_range panel stage y row_length ≡ true → InRange panel stage y row_length
unfolding in_range
in_range_lem panel stage y row_length e =
    let tests = range_tests panel stage y row_length in
    record {
      panel_ok = ltb-true _ _ (holds 0 tests e);
      stage-low = leb-true _ _ (holds 1 tests e);
      stage-high = leb-true _ _ (holds 2 tests e);
      row_ok = ltb-true _ _ (holds 3 tests e);
      bytes_ok = eqb-true _ _ (holds 4 tests e);
    }

-- what the code has: a panel that the number names, and its sizes
module _ (code stage y row_length : ℕ) where
  pub unnamed_lem : 3 ≤ code → in_range code stage y row_length ≡ false
  unfolding in_range
  unnamed_lem h = broken 0 (range_tests code stage y row_length) (le-ltb code 3 h)

  module _ (panel : Panel) (shape : Shape) (named : panel_code panel ≡ code) (is : sizes shape ≡ shape_of (panel_code panel)) where
    pub rows_named : shape.rows ≡ rows_of code
    rows_named = ap (λ (s : Sizes). s.rows) is ∙ ap rows_of named

    pub bytes_named : shape.bytes ≡ row_bytes_of code
    bytes_named = ap (λ (s : Sizes). s.bytes) is ∙ ap row_bytes_of named

    pub named_lem : every (leb 1 stage ∷ leb stage 4 ∷ ltb y shape.rows ∷ eqb row_length shape.bytes ∷ []) ≡ in_range code stage y row_length
    unfolding in_range
    named_lem =
        let p : is_panel code ≡ true = lt-ltb code 3 (rw named at (code_lt panel)) in
        rw (p, rows_named, bytes_named)

-- ---- the ways out of the builder

module _ (panel stage y : ℕ) (row out : List ℕ) where
  pub out_of_range : in_range panel stage y (length row) ≡ false → (14, out) ≡ build_line panel stage y row out
  unfolding build_line
  out_of_range e = rw e

  -- `rows` is the panel's rows
  module _ (rows : ℕ) (e : in_range panel stage y (length row) ≡ true) (r : rows ≡ rows_of panel) where
    pub too_short_lem : length out < line_length (length row) rows → (11, out) ≡ build_line panel stage y row out
    unfolding build_line
    too_short_lem l = rw (e, ← r, ← (in_range_lem panel stage y (length row) e).bytes_ok, lt-ltb _ _ l)

    pub built : (after : List ℕ) → line_length (length row) rows ≤ length out
        → after ≡ overlay (line (length row) rows stage y (row_dot row)) out
        → (0, after) ≡ build_line panel stage y row out
    unfolding build_line
    built after l o = rw (e, ← r, ← (in_range_lem panel stage y (length row) e).bytes_ok, le-ltb _ _ l, o)
