-- Document 01, "Store and bitmaps": region uploads, on slots of h rows of b bytes.
-- Assumes nothing.
use Rattle.std.specs.Prelude.{ℕ, ◌+◌, ◌-◌, ◌*◌, ◌/◌, ◌%◌, ◌^◌, Bool, not, ◌&&◌, List, [], ◌∷◌, eqb, leb, length, get_or}
use Rattle.lists.specs.Rules.{every, all_below, Case, case}
use Rattle.panel.specs.Dots.{dot}
use Rattle.picture.specs.Pictures.{overdrawn}
use Rattle.picture.specs.Slots.{slot_picture, with_picture}

-- 5: width and height are at least 1, x + width at most X, y + height at most Y, as whole numbers
unfoldable pub region_good : (b h x y width height : ℕ) → Bool
region_good b h x y width height =
    every (leb 1 width ∷ leb 1 height ∷ leb (x + width) (8 * b) ∷ leb (y + height) h ∷ [])

-- the bytes of a payload row, width / 8 rounded up
abbrev pub payload_row : (width : ℕ) → ℕ
payload_row width = (width + 7) / 8

-- the unused low bits of payload row j are 0
abbrev pub row_clear : (width : ℕ) (payload : List ℕ) (j : ℕ) → Bool
row_clear width payload j =
    eqb (get_or payload (j * payload_row width + payload_row width - 1) 0 % 2 ^ (payload_row width * 8 - width)) 0

-- 6: the payload's length is exact, and no unused bit is set
unfoldable pub payload_good : (width height : ℕ) (payload : List ℕ) → Bool
payload_good width height payload =
    eqb (length payload) (height * payload_row width) && all_below height (row_clear width payload)

-- the refusals of a region
abbrev pub region_cases : (b h x y width height : ℕ) (payload : List ℕ) → List Case
region_cases b h x y width height payload =
    case (not (region_good b h x y width height)) 5
    ∷ case (not (payload_good width height payload)) 6
    ∷ []

-- the memory with a region painted on a slot: those dots of that slot change, and no others
unfoldable pub with_region : (b h : ℕ) (memory : List ℕ) (slot x y width height : ℕ) (payload : List ℕ) → List ℕ
with_region b h memory slot x y width height payload =
    with_picture b h memory slot
    (overdrawn b h (slot_picture b h memory slot) x y width height (dot (payload_row width) payload))
