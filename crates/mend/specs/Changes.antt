-- Request 2026-11: the list of changed bytes, and how it is undone. `mended` is the rule that gives each byte of the mended file.
-- Assumes nothing.
use Rattle.std.specs.Prelude.{ℕ, zero, suc, ◌+◌, ◌*◌, ◌/◌, ◌%◌, Bool, cond, ◌&&◌, List, [], ◌∷◌, ◌++◌, eqb, leb, get_or, set, take, drop}

-- ---- how it is made

-- the first n indexes without those whose byte stays, in file order
abbrev pub changed : (file : List ℕ) (mended : ℕ → ℕ) (n : ℕ) → List ℕ
changed file mended zero = []
changed file mended (suc n) = changed file mended n ++ cond (eqb (mended n) (get_or file n 0)) [] (n ∷ [])

-- a change, in four bytes: the offset, high byte first, the old byte and the new
abbrev pub change_bytes : (k old new : ℕ) → List ℕ
change_bytes k old new = k / 256 ∷ k % 256 ∷ old ∷ new ∷ []

-- the list of the changes at some indexes
abbrev pub listed : (file : List ℕ) (mended : ℕ → ℕ) (indexes : List ℕ) → List ℕ
listed file mended [] = []
listed file mended (k ∷ indexes) = change_bytes k (get_or file k 0) (mended k) ++ listed file mended indexes

-- ---- how it is read

-- the offset of a list's first change
abbrev pub offset_in : (list : List ℕ) → ℕ
offset_in list = 256 * get_or list 0 0 + get_or list 1 0

-- the offsets of its first n
abbrev pub offsets_in : (n : ℕ) (list : List ℕ) → List ℕ
offsets_in zero list = []
offsets_in (suc n) list = offset_in list ∷ offsets_in n (drop 4 list)

-- indexes that rise, from one on, and end before another
abbrev pub rising : (from end : ℕ) (indexes : List ℕ) → Bool
rising from end [] = leb from end
rising from end (k ∷ indexes) = leb from k && rising (suc k) end indexes

-- bytes with the first n changes of a list undone
abbrev pub undone : (n : ℕ) (list bytes : List ℕ) → List ℕ
undone zero list bytes = bytes
undone (suc n) list bytes = undone n (drop 4 list) (set bytes (offset_in list) (get_or list 2 0))

-- bytes without those that were added, which are the last: 0 and 0 where none were
abbrev pub without_added : (offset count : ℕ) (bytes : List ℕ) → List ℕ
without_added offset zero bytes = bytes
without_added offset (suc count) bytes = take offset bytes
