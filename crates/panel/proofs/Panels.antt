-- What holds of each of the three panels.
-- Assumes nothing.
use mathlib.Core.Path.{◌≡◌, refl}
use mathlib.Core.List.{[], ◌∷◌, map}
use Prim.Native.Nat.{ℕ, ◌%◌, ◌≤◌, ◌<◌}
use native.Mathlib.Omega.{arith}
use Rattle.lists.proofs.Cases.{none, more, each, entry_lt}
use Rattle.panel.specs.Panels.{rows_of, row_bytes_of, picture_bytes_of, frames_of, stride_of, shape_of}
use Rattle.panel.specs.Facts.{Sized, sizes}
use Rattle.panel.specs.Names.{panel_code}
use Rattle.panel.specs.declared.sizes.Shape.{Shape}
use Rattle.panel.specs.declared.table.Panel.{Panel}
use Rattle.panel.specs.declared.table.Panel.TheVariants.{Inch144, Inch200, Inch270}

pub each_panel : (P : ℕ → Type 0) → P 0 → P 1 → P 2 → (panel : ℕ) → panel < 3 → P panel
each_panel P a b c = each P 3 (more (more (more none a) b) c)

-- the largest entry of each column
pub rows-le : (panel : ℕ) → rows_of panel ≤ 176
rows-le panel = omega (arith, entry_lt 177 (96 ∷ 96 ∷ 176 ∷ []) refl panel)

pub row_bytes_le : (panel : ℕ) → row_bytes_of panel ≤ 33
row_bytes_le panel = omega (arith, entry_lt 265 (128 ∷ 200 ∷ 264 ∷ []) refl panel)

pub frames-le : (panel : ℕ) → frames_of panel ≤ 21
frames-le panel = omega (arith, entry_lt 22 (16 ∷ 16 ∷ 21 ∷ []) refl panel)

pub stride_le : (panel : ℕ) → stride_of panel ≤ 36
stride_le panel = omega (arith, entry_lt 37 (16 ∷ 28 ∷ 36 ∷ []) refl panel)

-- the picture bytes that document 01 prints
pub picture_bytes : map picture_bytes_of (0 ∷ 1 ∷ 2 ∷ []) ≡ 1536 ∷ 2400 ∷ 5808 ∷ []
picture_bytes = refl

-- ---- what holds of every panel's sizes

sized : (b h s n : ℕ) → 0 < b → b ≤ 33 → 0 < h → h ≤ 176 → h % 4 ≡ 0 → b ≤ s → s ≤ 36 → 0 < n → n ≤ 21
    → Sized (record { bytes = b; rows = h; stride = s; frames = n })
sized b h s n q₁ q₂ q₃ q₄ q₅ q₆ q₇ q₈ q₉ =
    record {
      some = q₁;
      narrow = q₂;
      high = q₃;
      low = q₄;
      fours = q₅;
      within = q₆;
      small = q₇;
      frames_some = q₈;
      frames-few = q₉;
    }

pub size_of : (panel : ℕ) → panel < 3 → Sized (shape_of panel)
size_of =
    each_panel (λ p. Sized (shape_of p))
    (sized 16 96 16 16 (omega arith) (omega arith) (omega arith) (omega arith) refl (omega arith) (omega arith) (omega arith) (omega arith))
    (sized 25 96 28 16 (omega arith) (omega arith) (omega arith) (omega arith) refl (omega arith) (omega arith) (omega arith) (omega arith))
    (sized 33 176 36 21 (omega arith) (omega arith) (omega arith) (omega arith) refl (omega arith) (omega arith) (omega arith) (omega arith))

-- a panel's number is below 3
pub code_lt : (panel : Panel) → panel_code panel < 3
code_lt Inch144 = omega arith
code_lt Inch200 = omega arith
code_lt Inch270 = omega arith

-- what a shape's type says of it
pub sized_of : (shape : Shape) → Sized (sizes shape)
sized_of shape = record {
  some = shape.some;
  narrow = shape.narrow;
  high = shape.high;
  low = shape.low;
  fours = shape.fours;
  within = shape.within;
  small = shape.small;
  frames_some = shape.frames_some;
  frames-few = shape.frames_few;
}
