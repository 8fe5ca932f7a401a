-- Laws of the check's sizes and answer.
-- Assumes nothing.
use mathlib.Core.Path.{◌≡◌}
use mathlib.Core.Bool.{Bool, true, false, not}
use mathlib.Core.List.{List, [], ◌∷◌}
use Prim.Native.Nat.{ℕ, ◌+◌, ◌*◌, ◌≤◌}
use native.Mathlib.Nat.{mul-le-mul}
use native.Mathlib.Omega.{arith}
use mir.Val.{Fits}
use mir.Syntax.{w64}
use borrow.Author.Tests.{ne_eqb}
use lib.ListN.{length}
use Rattle.lists.specs.Rules.{case, first_of}
use Rattle.panel.specs.Panels.{is_panel, rows_of, row_bytes_of, stride_of}
use Rattle.bitmap.specs.Header.{file_length}
use Rattle.bitmap.specs.Bitmap.{bitmap_good, check_bitmap}

pub rows-small : (h s : ℕ) → h ≤ 176 → s ≤ 36 → h * s ≤ 6336
rows-small h s p q = mul-le-mul {n₁ = h} {m₁ = s} {n₂ = 176} {m₂ = 36} p q

-- the bytes of the rows, with those of the header and without, can be counted
pub rows_fit : (h s : ℕ) → h ≤ 176 → s ≤ 36 → Fits w64 (h * s)
rows_fit h s p q = omega (arith, rows-small h s p q)

pub file_fits : (n h s : ℕ) → n ≤ 100 → h ≤ 176 → s ≤ 36 → Fits w64 (n + h * s)
file_fits n h s l p q = omega (arith, rows-small h s p q)

-- a file of another length is no bitmap
pub wrong_length : (b h s : ℕ) (file : List ℕ) → (length file ≡ file_length h s → ⊥) → false ≡ bitmap_good b h s file
unfolding bitmap_good
wrong_length b h s file n = rw (ne_eqb (length file) (file_length h s) n)

-- where the panel is one, the file decides
pub check_file : (panel : ℕ) (file : List ℕ) (b h s : ℕ) (t : Bool) → is_panel panel ≡ true
    → b ≡ row_bytes_of panel → h ≡ rows_of panel → s ≡ stride_of panel → t ≡ bitmap_good b h s file
    → check_bitmap panel file ≡ first_of (case (not t) 4 ∷ []) (λ number. number) 0
unfolding check_bitmap
check_file panel file b h s t p e f g q = rw (p, q, e, f, g)
