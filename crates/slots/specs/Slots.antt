-- Document 01, "Store and bitmaps": the slots of the lent memory, what an upload draws into one, what the writer gives of one, and what a
-- fill (2026-02) does to one; and a fresh count of a slot (2026-05).
-- Assumes nothing.
use Rattle.std.specs.Prelude.{ℕ, ◌+◌, ◌*◌, Bool, not, ◌||◌, List, [], ◌∷◌, eqb, set}
use Rattle.lists.specs.Lists.{overlay}
use Rattle.lists.specs.Rules.{Case, case}
use Rattle.panel.specs.Panels.{Sizes}
use Rattle.picture.specs.Slots.{slot_bytes, with_bytes, slot_picture, with_picture}
use Rattle.picture.specs.Regions.{with_region}
use Rattle.bitmap.specs.Bitmap.{bitmap_good}
use Rattle.bitmap_codec.specs.Codec.{read_picture, written_file}
use Rattle.fill.specs.Fills.{rows_come}
use Rattle.fill.specs.declared.Fill.{Fill}
use Rattle.fill_calls.specs.declared.Fed.{Fed}
use Rattle.summary.specs.Summaries.{summary_of}
use Rattle.summary.specs.declared.Summary.{Summary}

-- lent memory holds slots 0 to n, P bytes each, exactly
abbrev pub store_bytes : Sizes → (n : ℕ) → ℕ
store_bytes shape n = (n + 1) * (shape.rows * shape.bytes)

-- ---- uploads and the writer

-- a bitmap file that breaks a rule earns 4
abbrev pub bitmap_cases : (shape : Sizes) (file : List ℕ) → List Case
bitmap_cases shape file = case (not (bitmap_good shape.bytes shape.rows shape.stride file)) 4 ∷ []

-- the memory with the dots of a region painted, and with a slot that holds the picture of a bitmap file
abbrev pub region_drawn : (shape : Sizes) (memory : List ℕ) (slot x y width height : ℕ) (payload : List ℕ) → List ℕ
region_drawn shape = with_region shape.bytes shape.rows

abbrev pub bitmap_drawn : (shape : Sizes) (memory : List ℕ) (slot : ℕ) (file : List ℕ) → List ℕ
bitmap_drawn shape memory slot file =
    with_picture shape.bytes shape.rows memory slot (read_picture shape.bytes shape.rows shape.stride file)

-- the output with the bitmap file of a slot's picture at its front
abbrev pub bitmap_written : (shape : Sizes) (memory : List ℕ) (slot : ℕ) (out : List ℕ) → List ℕ
bitmap_written shape memory slot =
    overlay (written_file shape.bytes shape.rows shape.stride (slot_picture shape.bytes shape.rows memory slot))

-- ---- fills

-- what is done to the bytes of a slot: what it gives back, and the memory with the bytes that it leaves in the slot
abbrev pub on_slot : (shape : Sizes) (memory : List ℕ) (slot : ℕ) (act : List ℕ → Fed × List ℕ) → Fed × List ℕ
on_slot shape memory slot act =
    let r = act (slot_bytes shape.bytes shape.rows memory slot) in
    (r.0, with_bytes shape.bytes shape.rows memory slot r.1)

-- a chunk wrote the slot where it earned 4, which makes the slot white, or where it made rows whole
abbrev pub chunk_writes : (s : ℕ) (before : Fill) → Fed → Bool
chunk_writes s before fed = not (eqb fed.number 0) || not (eqb (rows_come s fed.fill.came) (rows_come s before.came))

-- finish wrote it where it earned 4; a cancel always does
abbrev pub finish_writes : Fed → Bool
finish_writes fed = not (eqb fed.number 0)

-- ---- summaries

-- the summaries with a fresh count of a slot at its place
abbrev pub counted_in : (shape : Sizes) (memory : List ℕ) (slot : ℕ) → List Summary → List Summary
counted_in shape memory slot summaries =
    set summaries slot (summary_of shape.bytes shape.rows (slot_picture shape.bytes shape.rows memory slot))
