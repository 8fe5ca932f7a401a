-- Document 01, "One line on the wire": a register write.
-- Assumes nothing.
use Rattle.std.specs.Prelude.{ℕ, List, ◌∷◌}

-- a write is 70, the register, 72, the data
abbrev pub register_write : (register : ℕ) (bytes : List ℕ) → List ℕ
register_write register bytes = 0x70 ∷ register ∷ 0x72 ∷ bytes
