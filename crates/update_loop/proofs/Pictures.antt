-- Laws of the two parts of an upload. A panel's sizes come as those of a shape, which are `shape_of` of it.
-- Assumes nothing.
use Rattle.std.proofs.Common.{◌≡◌, ℕ, List, length, ap, ◌∙◌, eq-eqb, ne_eqb, Some, None}
use Rattle.panel.specs.Panels.{row_bytes_of, rows_of, stride_of, Sizes}
use Rattle.panel.specs.declared.sizes.Shape.{Shape}
use Rattle.picture.specs.Slots.{picture_of, raw_of}
use Rattle.bitmap.specs.Header.{file_length}
use Rattle.bitmap_codec.specs.Codec.{read_picture}
use Rattle.summary.specs.Summaries.{summary_of}
use Rattle.summary.specs.declared.Summary.{Summary}
use Rattle.update_loop.specs.Pictures.{PictureShape, picture_copied, picture_counted}

-- ---- the copy

module _ (code : ℕ) (bitmap picture : List ℕ) where
  pub copy_1 : PictureShape code (length picture) None → (1, picture) ≡ picture_copied code bitmap picture
  unfolding picture_copied
  copy_1 p = rw (← p.found)

  module _ (shape : Shape) (p : PictureShape code (length picture) (Some shape)) {n : ℕ} (en : n ≡ file_length shape.rows shape.stride) where
    file_long : n ≡ file_length (rows_of code) (stride_of code)
    file_long = en ∙ ap (λ (s : Sizes). file_length s.rows s.stride) p.shape

    pub copy_4 : (length bitmap ≡ n → ⊥) → (4, picture) ≡ picture_copied code bitmap picture
    unfolding picture_copied
    copy_4 d = rw (← p.found, ← file_long, ne_eqb (length bitmap) n d)

    pub copied : (after : List ℕ) → length bitmap ≡ n
        → after ≡ raw_of shape.bytes shape.rows (read_picture shape.bytes shape.rows shape.stride bitmap)
        → (0, after) ≡ picture_copied code bitmap picture
    unfolding picture_copied
    copied after l ea =
        let r : after ≡ raw_of (row_bytes_of code) (rows_of code) (read_picture (row_bytes_of code) (rows_of code) (stride_of code) bitmap) =
        ea ∙ ap (λ (s : Sizes). raw_of s.bytes s.rows (read_picture s.bytes s.rows s.stride bitmap)) p.shape in
        rw (← p.found, ← file_long, eq-eqb (length bitmap) n l, r)

-- ---- the count

module _ (code : ℕ) (picture : List ℕ) where
  pub not-counted : PictureShape code (length picture) None → 0 ≡ picture_counted code picture
  unfolding picture_counted
  not-counted p = rw (← p.found)

  pub counted : (found : Summary) (shape : Shape) → PictureShape code (length picture) (Some shape)
      → found ≡ summary_of shape.bytes shape.rows (picture_of shape.bytes shape.rows picture)
      → found.black ≡ picture_counted code picture
  unfolding picture_counted summary_of
  counted found shape p is =
      let f : found ≡ summary_of (row_bytes_of code) (rows_of code) (picture_of (row_bytes_of code) (rows_of code) picture) =
      is ∙ ap (λ (s : Sizes). summary_of s.bytes s.rows (picture_of s.bytes s.rows picture)) p.shape in
      rw (← p.found, f)
