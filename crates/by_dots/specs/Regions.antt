-- A region on a picture of the 2.7" panel that is lent by itself, not in a slot of a store: what both ways of painting promise.
-- Assumes nothing.
use Rattle.std.specs.Prelude.{ℕ, ◌*◌, not, List, ◌∷◌, eqb, length}
use Rattle.lists.specs.Rules.{Case, case, first_of}
use Rattle.picture.specs.Regions.{region_cases, with_region}

-- 1: the picture is not 176 rows of 33 bytes; 5 and 6 as for every region
abbrev pub picture_cases : (x y width height : ℕ) (payload picture : List ℕ) → List Case
picture_cases x y width height payload picture =
    case (not (eqb (length picture) (176 * 33))) 1 ∷ region_cases 33 176 x y width height payload

-- the number, and the picture with the region painted on it, as on slot 0 of a memory of that slot alone
unfoldable pub picture_region : (x y width height : ℕ) (payload picture : List ℕ) → ℕ × List ℕ
picture_region x y width height payload picture =
    first_of (picture_cases x y width height payload picture) (λ number. (number, picture))
    (0, with_region 33 176 picture 0 x y width height payload)
