-- What internal functions ask and say: a slot that lies in the memory, and what is put into one.
-- Assumes nothing.
use Rattle.std.specs.Prelude.{ℕ, List}
use Rattle.lists.specs.Rules.{first_of}
use Rattle.panel.specs.Facts.{Sized}
use Rattle.panel.specs.Panels.{Sizes}
use Rattle.picture.specs.Facts.{SlotIn}
use Rattle.picture.specs.Regions.{region_cases}
use Rattle.slots.specs.Slots.{bitmap_cases, region_drawn, bitmap_drawn}

-- a slot of a panel's sizes that lies in the memory
pub record SlotOf (shape : Sizes) (memory_length slot : ℕ) : Type 0 where
  pub sized : Sized shape
  pub slot_in : SlotIn shape.bytes shape.rows memory_length slot

-- the number of a bitmap file or a region that is put into a slot, and the memory afterwards
abbrev pub bitmap_placed : (shape : Sizes) (memory : List ℕ) (slot : ℕ) (file : List ℕ) → ℕ × List ℕ
bitmap_placed shape memory slot file =
    first_of (bitmap_cases shape file) (λ number. (number, memory)) (0, bitmap_drawn shape memory slot file)

abbrev pub region_placed : (shape : Sizes) (memory : List ℕ) (slot x y width height : ℕ) (payload : List ℕ) → ℕ × List ℕ
region_placed shape memory slot x y width height payload =
    first_of (region_cases shape.bytes shape.rows x y width height payload)
    (λ number. (number, memory))
    (0, region_drawn shape memory slot x y width height payload)
