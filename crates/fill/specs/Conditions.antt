-- Request 2026-02: the conditions that a fill keeps, for number 13. They describe the fills that chunks can leave. That the slot is one of
-- the store's, and not that of the run, is for the store to say.
-- Assumes nothing.
use Rattle.std.specs.Prelude.{ℕ, Bool, true, cond, not, ◌&&◌, ◌||◌, List, [], ◌∷◌, eqb, leb, ltb, length, take, drop}
use Rattle.lists.specs.Rules.{every}
use Rattle.bitmap.specs.Header.{header_length, file_length}
use Rattle.bitmap.specs.Palettes.{black_and_white}
use Rattle.bitmap_prefix.specs.Begins.{header_begins}
use Rattle.fill.specs.Fills.{kept_count}
use Rattle.fill.specs.declared.Fill.{Fill}

-- every byte is 0
abbrev pub all_zero : List ℕ → Bool
all_zero [] = true
all_zero (byte ∷ bytes) = eqb byte 0 && all_zero bytes

-- before the header has come whole, its bytes are kept, begin a good one, and the palette is not known; then the palette is good
abbrev pub header_rule : (b h s : ℕ) (fill : Fill) → Bool
header_rule b h s fill =
    cond (ltb fill.came header_length)
    (header_begins b h s (take fill.came fill.kept) && not (black_and_white fill.palette))
    (black_and_white fill.palette)

-- with no slot no byte has come; no more came than a file has; there is room for a header, and after the bytes that are kept there is 0
abbrev pub fill_rules : (b h s : ℕ) (fill : Fill) → List Bool
fill_rules b h s fill =
    (not (eqb fill.slot 0) || eqb fill.came 0)
    ∷ leb fill.came (file_length h s)
    ∷ eqb (length fill.kept) header_length
    ∷ all_zero (drop (kept_count s fill.came) fill.kept)
    ∷ header_rule b h s fill
    ∷ []

unfoldable pub fill_valid : (b h s : ℕ) (fill : Fill) → Bool
fill_valid b h s fill = every (fill_rules b h s fill)
