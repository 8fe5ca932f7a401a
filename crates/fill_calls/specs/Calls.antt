-- Request 2026-02: which chunks are taken, what the calls do to a fill and to the slot that it fills, and how a fill ends.
-- Assumes nothing.
use Rattle.std.specs.Prelude.{ℕ, ◌+◌, ◌*◌, Bool, cond, not, ◌&&◌, ◌||◌, List, [], ◌∷◌, ◌++◌, eqb, leb, length, take, replicate}
use Rattle.lists.specs.Rules.{case, first_of}
use Rattle.bitmap.specs.Header.{header_length, file_length}
use Rattle.bitmap_prefix.specs.Begins.{header_begins}
use Rattle.fill.specs.Fills.{begun_fill, empty_fill}
use Rattle.fill.specs.Feeding.{bytes_fed}
use Rattle.fill.specs.declared.Fill.{Fill}
use Rattle.fill_calls.specs.declared.Fed.{Fed}

-- with this chunk the bytes so far still begin a good file: they are not too many, and the header, as long as it is kept, begins well
unfoldable pub goes_on : (b h s : ℕ) (fill : Fill) (chunk : List ℕ) → Bool
goes_on b h s fill chunk =
    leb (fill.came + length chunk) (file_length h s)
    && (leb header_length fill.came || header_begins b h s (take fill.came fill.kept ++ chunk))

-- ---- what the calls do

abbrev pub fed : (number : ℕ) (fill : Fill) → Fed
fed number fill = record { number = number; fill = fill }

-- a slot that is all white
abbrev pub white_slot : (b h : ℕ) → List ℕ
white_slot b h = replicate (h * b) 0xFF

-- a fill that ends with a number leaves the empty fill and a white slot
abbrev pub ended : (b h number : ℕ) → Fed × List ℕ
ended b h number = (fed number empty_fill, white_slot b h)

-- a chunk: 4 where no good file can follow any more
unfoldable pub feeding : (b h s : ℕ) (fill : Fill) (chunk raw : List ℕ) → Fed × List ℕ
feeding b h s fill chunk raw =
    let after = bytes_fed b h s (fill, raw) chunk in
    first_of (case (not (goes_on b h s fill chunk)) 4 ∷ []) (ended b h) (fed 0 after.0, after.1)

-- the end of a file: 4 where it comes too early
unfoldable pub finishing : (b h s : ℕ) (fill : Fill) (raw : List ℕ) → Fed × List ℕ
finishing b h s fill raw =
    first_of (case (not (eqb fill.came (file_length h s))) 4 ∷ []) (ended b h) (fed 0 empty_fill, raw)

-- a fill that is given up
unfoldable pub cancelling : (b h : ℕ) → Fed × List ℕ
cancelling b h = ended b h 0

-- ---- a file in chunks

-- the bytes of chunks, one after the other
abbrev pub joined : (chunks : List (List ℕ)) → List ℕ
joined [] = []
joined (chunk ∷ chunks) = chunk ++ joined chunks

-- chunks fed one after the other, up to the first that is refused
abbrev pub fed_all : (b h s : ℕ) (here : Fed × List ℕ) (chunks : List (List ℕ)) → Fed × List ℕ
fed_all b h s here [] = here
fed_all b h s here (chunk ∷ chunks) =
    cond (eqb here.0.number 0) (fed_all b h s (feeding b h s here.0.fill chunk here.1) chunks) here

-- a fill of a slot from its begin to its finish, which comes where no chunk was refused
unfoldable pub sent : (b h s slot : ℕ) (chunks : List (List ℕ)) (raw : List ℕ) → Fed × List ℕ
sent b h s slot chunks raw =
    let after = fed_all b h s (fed 0 (begun_fill slot), raw) chunks in
    cond (eqb after.0.number 0) (finishing b h s after.0.fill after.1) after
