-- Request 2026-02: what it means that bytes begin a good file, as a statement about all that can follow.
-- Assumes nothing.
use Rattle.std.specs.Prelude.{◌≡◌, true, List, ◌++◌, ℕ, ◌≤◌, ◌<◌, get_or}
use Rattle.bitmap.specs.Bitmap.{bitmap_good}
use Rattle.bitmap_prefix.specs.Begins.{begins_good}

-- every element of a list is a byte
abbrev pub AreBytes : List ℕ → Type 0
AreBytes l = (k : ℕ) → get_or l k 0 < 256

-- some rest of bytes makes these bytes a good file
abbrev pub CanBeGood : (b h s : ℕ) (bytes : List ℕ) → Type 0
CanBeGood b h s bytes = (rest : List ℕ) × AreBytes rest × (bitmap_good b h s (bytes ++ rest) ≡ true)

-- the test holds exactly where some rest makes a good file
pub record Exact (b h s : ℕ) (bytes : List ℕ) : Type 0 where
  pub can : begins_good b h s bytes ≡ true → CanBeGood b h s bytes
  pub begins : CanBeGood b h s bytes → begins_good b h s bytes ≡ true

-- of any bytes, and pictures of up to the largest panel's size
abbrev pub BeginsMeans : Type 0
BeginsMeans = (b h s : ℕ) → b ≤ 33 → h ≤ 176 → s ≤ 36 → (bytes : List ℕ) → AreBytes bytes → Exact b h s bytes
