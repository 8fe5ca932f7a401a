-- Document 003, 5.6.1.3: the checksum as its C code has it, and the same on a table of 256 entries.
-- Assumes nothing.
use Rattle.std.specs.Prelude.{ℕ, ◌+◌, ◌*◌, ◌/◌, ◌%◌, ◌^◌, List, [], ◌∷◌, get_or}
use Rattle.std.specs.Int.Bits.{bit_and, bit_or, bit_xor}
use Rattle.lists.specs.Lists.{tabulate}

-- the checksum of no bytes
abbrev pub initial : ℕ
initial = 0x6363

-- ---- as printed

-- an assignment to 16 bits: what C's promotion leaves above them is cut off
abbrev pub cut : ℕ → ℕ
cut n = n % 2 ^ 16

-- first, the byte is added
unfoldable pub add_byte : (byte acc : ℕ) → ℕ
add_byte byte acc = cut (bit_xor acc byte)

-- second, the two bytes change places
unfoldable pub swap_bytes : (acc : ℕ) → ℕ
swap_bytes acc = cut (bit_or (acc / 2 ^ 8) (acc * 2 ^ 8))

-- third, the high byte is added four bits further up
unfoldable pub mix_up : (acc : ℕ) → ℕ
mix_up acc = cut (bit_xor acc (bit_and acc 0xFF00 * 2 ^ 4))

-- fourth, the high byte is added to the low one, four bits down
unfoldable pub mix_down : (acc : ℕ) → ℕ
mix_down acc = cut (bit_xor acc (acc / 2 ^ 8 / 2 ^ 4))

-- fifth, the high byte is added across both, five bits down
unfoldable pub mix_across : (acc : ℕ) → ℕ
mix_across acc = cut (bit_xor acc (bit_and acc 0xFF00 / 2 ^ 5))

-- one byte more: the five assignments, one after the other
unfoldable pub crc16_add : (byte acc : ℕ) → ℕ
crc16_add byte acc = mix_across (mix_down (mix_up (swap_bytes (add_byte byte acc))))

-- the checksum of some bytes, from a start value on
abbrev pub checksum_from : (acc : ℕ) (bytes : List ℕ) → ℕ
checksum_from acc [] = acc
checksum_from acc (byte ∷ bytes) = checksum_from (crc16_add byte acc) bytes

-- ---- on the table

-- entry x: below, what one byte 0 makes of x; above it, what a second one makes of that
abbrev pub entry_of : (x : ℕ) → ℕ
entry_of x = crc16_add 0 (crc16_add 0 x) * 2 ^ 16 + crc16_add 0 x

unfoldable pub crc_table : List ℕ
crc_table = tabulate 256 entry_of

-- an entry's two halves
abbrev pub one_on : (x : ℕ) → ℕ
one_on x = get_or crc_table x 0 % 2 ^ 16

abbrev pub two_on : (x : ℕ) → ℕ
two_on x = get_or crc_table x 0 / 2 ^ 16

-- one byte more: the high byte moves down, and the entry of what the byte makes of the low one is added
abbrev pub table_add : (byte acc : ℕ) → ℕ
table_add byte acc = bit_xor (acc / 2 ^ 8) (one_on (bit_xor acc byte % 2 ^ 8))

-- two bytes more: each byte of the value so far takes one of them and is looked up, the low one two bytes on, the high one a byte on
abbrev pub table_add_two : (first second acc : ℕ) → ℕ
table_add_two first second acc = bit_xor (two_on (bit_xor acc first % 2 ^ 8)) (one_on (bit_xor (acc / 2 ^ 8) second % 2 ^ 8))

-- two bytes at a time, and a last one by itself
abbrev pub table_checksum : (acc : ℕ) (bytes : List ℕ) → ℕ
table_checksum acc [] = acc
table_checksum acc (byte ∷ []) = table_add byte acc
table_checksum acc (first ∷ second ∷ bytes) = table_checksum (table_add_two first second acc) bytes
