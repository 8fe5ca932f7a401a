-- Names for parts of internal contracts.
-- Assumes nothing.
use Rattle.std.specs.Prelude.{ℕ, cond, List, [], eqb, length}
use Rattle.mend.specs.Mending.{byte_by}
use Rattle.mend.specs.Changes.{changed, change_bytes, listed}
use Rattle.mend.specs.declared.Mending.{Mending}

-- what the byte at an index adds to the list: nothing where it stays
unfoldable pub entry_bytes : (k old new : ℕ) → List ℕ
entry_bytes k old new = cond (eqb new old) [] (change_bytes k old new)

-- byte k of the mended file, the indexes of the bytes that change, and their list, by a header and a white byte that were made before
abbrev pub byte_in : Mending → ℕ → ℕ
byte_in m = byte_by m.shape.bytes m.shape.stride m.header m.white m.file.now

abbrev pub changed_in : Mending → List ℕ
changed_in m = changed m.file.now (byte_in m) (length m.file.now)

abbrev pub listed_in : Mending → List ℕ
listed_in m = listed m.file.now (byte_in m) (changed_in m)
