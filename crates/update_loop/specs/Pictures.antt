-- The two parts of a bitmap upload, its copy and its count, each by itself on a picture that is lent by itself.
-- Assumes nothing.
use Rattle.std.specs.Prelude.{ℕ, ◌≡◌, Bool, cond, not, ◌&&◌, List, [], ◌∷◌, length, ◌==◌, Option, is_some, IfSome}
use Rattle.lists.specs.Rules.{Case, case, first_of}
use Rattle.panel.specs.Panels.{is_panel, row_bytes_of, rows_of, stride_of, picture_bytes_of, shape_of}
use Rattle.panel.specs.Facts.{sizes}
use Rattle.panel.specs.declared.sizes.Shape.{Shape}
use Rattle.picture.specs.Slots.{picture_of, raw_of}
use Rattle.bitmap.specs.Header.{file_length}
use Rattle.bitmap_codec.specs.Codec.{read_picture}
use Rattle.summary.specs.Summaries.{black_dots}

-- a picture of n bytes is one of a panel
abbrev pub is_picture : (panel n : ℕ) → Bool
is_picture panel n = is_panel panel && n == picture_bytes_of panel

-- the shape of a panel, where a picture of n bytes is one of it
pub record PictureShape (panel n : ℕ) (r : Option Shape) : Type 0 where
  pub found : is_some r ≡ is_picture panel n
  pub shape : IfSome r (λ shape. sizes shape ≡ shape_of panel)

-- 1: no picture of a panel; 4: a file of another length
abbrev pub copy_cases : (panel : ℕ) (bitmap picture : List ℕ) → List Case
copy_cases panel bitmap picture =
    case (not (is_picture panel (length picture))) 1
    ∷ case (not ((length bitmap) == file_length (rows_of panel) (stride_of panel))) 4
    ∷ []

-- the copy: the number, and the picture of the file
unfoldable pub picture_copied : (panel : ℕ) (bitmap picture : List ℕ) → ℕ × List ℕ
picture_copied panel bitmap picture =
    let b = row_bytes_of panel in
    let h = rows_of panel in
    first_of (copy_cases panel bitmap picture) (λ number. (number, picture)) (0, raw_of b h (read_picture b h (stride_of panel) bitmap))

-- the count: the black dots
unfoldable pub picture_counted : (panel : ℕ) (picture : List ℕ) → ℕ
picture_counted panel picture =
    let b = row_bytes_of panel in
    let h = rows_of panel in
    cond (is_picture panel (length picture)) (black_dots b h (picture_of b h picture)) 0
