-- Laws of the checksum. A value of 16 bits is written as its two bytes, h * 256 + l.
-- Assumes nothing.
use mathlib.Core.Path.{◌≡◌, refl, sym, ap, ap₂, ◌∙◌}
use mathlib.Core.Bool.{Bool, true}
use mathlib.Core.List.{List, [], ◌∷◌, ◌++◌}
use Prim.Native.Nat.{ℕ, zero, suc, ◌+◌, ◌*◌, ◌/◌, ◌%◌, ◌≤◌, ◌<◌}
use native.Mathlib.Nat.{zero-add}
use native.Mathlib.Numerals.{add-one}
use native.Mathlib.Omega.{arith}
use borrow.Author.Tests.{eqb-true}
use lib.Bits.{bit_and, bit_or, bit_xor, or_shifted_r, and_high, xor_block, xor_shr, xor_mod, xor_lt, xor_comm, xor_zero_r, or_mod}
use lib.Dec.{eqb}
use lib.ListN.{length, get_or, take, drop, drop_of_length-le}
use lib.Seq.{drop-cons, get_or-take, get_or-drop}
use Rattle.std.proofs.lemmas.List.{drop-drop}
use Rattle.std.specs.Simd.{first_chunks}
use Rattle.lists.specs.Rules.{all_below}
use Rattle.lists.proofs.Lists.{get_or-tabulate, is-tabulate}
use Rattle.lists.proofs.Rules.{below_all}
use Rattle.hall_checksum.specs.Checksum.{add_byte, swap_bytes, mix_up, mix_down, mix_across, crc16_add, checksum_from, entry_of, crc_table, one_on, two_on, table_add, table_add_two, table_checksum}
use Rattle.hall_checksum.proofs.Bits.{xor_assoc, xor_middle, xor_by}

-- ---- the assignments, byte by byte

-- the bits that 0xff00 keeps
keep_high : (n : ℕ) → n < 65536 → bit_and n 0xFF00 ≡ n / 256 * 256
keep_high n h = and_high n 8 8 ∙ omega arith

module _ (h l : ℕ) (high : h < 256) (low : l < 256) where
  swapped : swap_bytes (h * 256 + l) ≡ l * 256 + h
  unfolding swap_bytes
  swapped =
      let e : (h * 256 + l) / 256 ≡ h = omega arith in
      rw (e, or_shifted_r (h * 256 + l) 8 h high) (omega arith)

  mixed_up : mix_up (h * 256 + l) ≡ bit_xor h (h * 16 % 256) * 256 + l
  unfolding mix_up
  mixed_up =
      let e : (h * 256 + l) / 256 * 256 * 16 ≡ h * 16 * 256 + 0 = omega arith in
      let m : h % 256 ≡ h = omega arith in
      let p : bit_xor h (h * 16) % 256 ≡ bit_xor h (h * 16 % 256) = xor_mod h (h * 16) 8 ∙ rw m in
      rw (keep_high (h * 256 + l) (omega arith), e, xor_block 8 h (h * 16) l 0 low (omega arith), xor_zero_r l, ← p) (omega arith)

  mixed_down : mix_down (h * 256 + l) ≡ h * 256 + bit_xor l (h / 16)
  unfolding mix_down
  mixed_down =
      let e : (h * 256 + l) / 256 / 16 ≡ 0 * 256 + h / 16 = omega arith in
      let b : bit_xor l (h / 16) < 256 = xor_lt 8 l (h / 16) low (omega arith) in
      rw (e, xor_block 8 h 0 l (h / 16) low (omega arith), xor_zero_r h) (omega arith)

  mixed_across : mix_across (h * 256 + l) ≡ bit_xor (h * 256 + l) (h * 8)
  unfolding mix_across
  mixed_across =
      let e : (h * 256 + l) / 256 * 256 / 32 ≡ h * 8 = omega arith in
      let b : bit_xor (h * 256 + l) (h * 8) < 65536 = xor_lt 16 (h * 256 + l) (h * 8) (omega arith) (omega arith) in
      rw (keep_high (h * 256 + l) (omega arith), e) (omega arith)

-- ---- one byte more, by the two bytes of the value so far

-- the low byte after `mix_up`
abbrev mixed : ℕ → ℕ
mixed l = bit_xor l (l * 16 % 256)

mixed_lt : (l : ℕ) → l < 256 → mixed l < 256
mixed_lt l h = xor_lt 8 l (l * 16 % 256) h (omega arith)

-- what the last four assignments make of the two bytes
two_bytes_lem : (byte acc h l : ℕ) → add_byte byte acc ≡ h * 256 + l → h < 256 → l < 256
    → crc16_add byte acc ≡ bit_xor (mixed l * 256 + bit_xor h (mixed l / 16)) (mixed l * 8)
unfolding crc16_add
two_bytes_lem byte acc h l e high low =
    let m : mixed l < 256 = mixed_lt l low in
    rw (e, swapped h l high low, mixed_up l h low high, mixed_down (mixed l) h m high)
    (mixed_across (mixed l) (bit_xor h (mixed l / 16)) m (xor_lt 8 h (mixed l / 16) high (omega arith)))

-- what they make of the low byte alone
abbrev spread : ℕ → ℕ
spread m = bit_xor (m * 256 + m / 16) (m * 8)

low_part : (l : ℕ) → l < 256 → crc16_add 0 l ≡ spread (mixed l)
unfolding add_byte
low_part l low =
    let e : bit_xor l 0 % 65536 ≡ 0 * 256 + l = rw xor_zero_r (omega arith) in
    two_bytes_lem 0 l 0 l e (omega arith) low

-- the high byte only adds to what the low byte makes
pub crc16_high : (byte acc : ℕ) → byte < 256 → acc < 65536
    → crc16_add byte acc ≡ bit_xor (acc / 256) (crc16_add 0 (bit_xor acc byte % 256))
unfolding add_byte
crc16_high byte acc small fits =
    let h : ℕ = acc / 256 in
    let x : ℕ = bit_xor acc byte in
    let l : ℕ = x % 256 in
    let m : ℕ = mixed l in
    let high : h < 256 = omega arith in
    let low : l < 256 = omega arith in
    let z : byte / 256 ≡ 0 = omega arith in
    let s : x / 256 ≡ h = xor_shr acc byte 8 ∙ rw z (xor_zero_r h) in
    let e : x % 65536 ≡ h * 256 + l = omega arith in
    let b : m < 256 = mixed_lt l low in
    let p : m * 256 + bit_xor h (m / 16) ≡ bit_xor h (m * 256 + m / 16) = rw zero-add at (sym (xor_block 8 0 m h (m / 16) high (omega arith))) in
    two_bytes_lem byte acc h l e high low
    ∙ rw (p, xor_assoc h (m * 256 + m / 16) (m * 8), low_part l low)

crc16_lt : (byte acc : ℕ) → crc16_add byte acc < 65536
unfolding crc16_add mix_across
crc16_lt byte acc = omega arith

-- ---- two bytes more

-- the low byte's way is linear
mixed_xor : (a b : ℕ) → mixed (bit_xor a b) ≡ bit_xor (mixed a) (mixed b)
mixed_xor a b =
    let e : bit_xor a b * 16 % 256 ≡ bit_xor (a * 16 % 256) (b * 16 % 256) =
    ap (λ (n : ℕ). n % 256) (xor_by 4 a b (omega arith)) ∙ xor_mod (a * 16) (b * 16) 8 in
    ap (bit_xor (bit_xor a b)) e ∙ xor_middle a b (a * 16 % 256) (b * 16 % 256)

spread_xor : (m n : ℕ) → m < 256 → n < 256 → spread (bit_xor m n) ≡ bit_xor (spread m) (spread n)
spread_xor m n p q =
    let e : bit_xor m n * 256 + bit_xor m n / 16 ≡ bit_xor (m * 256 + m / 16) (n * 256 + n / 16) =
    ap (λ (k : ℕ). bit_xor m n * 256 + k) (xor_shr m n 4) ∙ sym (xor_block 8 m n (m / 16) (n / 16) (omega arith) (omega arith)) in
    ap₂ bit_xor e (xor_by 3 m n (omega arith)) ∙ xor_middle (m * 256 + m / 16) (n * 256 + n / 16) (m * 8) (n * 8)

crc16_xor : (a b : ℕ) → a < 256 → b < 256 → crc16_add 0 (bit_xor a b) ≡ bit_xor (crc16_add 0 a) (crc16_add 0 b)
crc16_xor a b p q =
    low_part (bit_xor a b) (xor_lt 8 a b p q)
    ∙ ap spread (mixed_xor a b)
    ∙ spread_xor (mixed a) (mixed b) (mixed_lt a p) (mixed_lt b q)
    ∙ ap₂ bit_xor (sym (low_part a p)) (sym (low_part b q))

-- the high byte meets the second one
pub crc16_two : (first second acc : ℕ) → first < 256 → second < 256 → acc < 65536
    → crc16_add second (crc16_add first acc)
    ≡ bit_xor (crc16_add 0 (crc16_add 0 (bit_xor acc first % 256))) (crc16_add 0 (bit_xor (acc / 256) second % 256))
crc16_two first second acc p q fits =
    let h : ℕ = acc / 256 in
    let t : ℕ = crc16_add 0 (bit_xor acc first % 256) in
    let u : ℕ = bit_xor h second % 256 in
    let high : h < 256 = omega arith in
    let small : t < 65536 = crc16_lt 0 (bit_xor acc first % 256) in
    let wide : bit_xor h t < 65536 = xor_lt 16 h t (omega arith) small in
    let z : h / 256 ≡ 0 = omega arith in
    let up : bit_xor h t / 256 ≡ t / 256 = xor_shr h t 8 ∙ ap (λ (n : ℕ). bit_xor n (t / 256)) z in
    let order : bit_xor (bit_xor h t) second ≡ bit_xor t (bit_xor h second) =
    ap (λ (n : ℕ). bit_xor n second) (xor_comm h t) ∙ xor_assoc t h second in
    let down : bit_xor (bit_xor h t) second % 256 ≡ bit_xor (t % 256) u =
    ap (λ (n : ℕ). n % 256) order ∙ xor_mod t (bit_xor h second) 8 in
    let again : crc16_add 0 t ≡ bit_xor (t / 256) (crc16_add 0 (t % 256)) =
    crc16_high 0 t (omega arith) small ∙ ap (λ (n : ℕ). bit_xor (t / 256) (crc16_add 0 (n % 256))) (xor_zero_r t) in
    ap (crc16_add second) (crc16_high first acc p fits)
    ∙ crc16_high second (bit_xor h t) q wide
    ∙ ap₂ bit_xor up (ap (crc16_add 0) down ∙ crc16_xor (t % 256) u (omega arith) (omega arith))
    ∙ sym (xor_assoc (t / 256) (crc16_add 0 (t % 256)) (crc16_add 0 u))
    ∙ ap (λ (n : ℕ). bit_xor n (crc16_add 0 u)) (sym again)

-- ---- the table

-- the rule of an entry, as a test that is computed over a whole table
abbrev pub follows : (table : List ℕ) (x : ℕ) → Bool
follows table x = eqb (get_or table x 0) (entry_of x)

pub table_is : (table : List ℕ) → length table ≡ 256 → all_below 256 (follows table) ≡ true → table ≡ crc_table
unfolding crc_table
table_is table l e =
    is-tabulate table 256 entry_of l (λ k h. eqb-true (get_or table k 0) (entry_of k) (below_all 256 (follows table) e k h))

module _ (x : ℕ) (small : x < 256) where
  entry : get_or crc_table x 0 ≡ entry_of x
  unfolding crc_table
  entry = get_or-tabulate 256 entry_of x 0 small

  one_on_lem : one_on x ≡ crc16_add 0 x
  one_on_lem = omega (arith, entry, crc16_lt 0 x)

  two_on_lem : two_on x ≡ crc16_add 0 (crc16_add 0 x)
  two_on_lem = omega (arith, entry, crc16_lt 0 x)

-- the high half of an entry has 16 bits
pub entry_high : (table : List ℕ) (x : ℕ) → table ≡ crc_table → x < 256 → get_or table x 0 / 65536 < 65536
entry_high table x e small = rw (e, two_on_lem x small) (crc16_lt 0 (crc16_add 0 x))

table_right : (byte acc : ℕ) → byte < 256 → acc < 65536 → table_add byte acc ≡ crc16_add byte acc
table_right byte acc small fits =
    ap (bit_xor (acc / 256)) (one_on_lem (bit_xor acc byte % 256) (omega arith)) ∙ sym (crc16_high byte acc small fits)

table_two_right : (first second acc : ℕ) → first < 256 → second < 256 → acc < 65536
    → table_add_two first second acc ≡ crc16_add second (crc16_add first acc)
table_two_right first second acc p q fits =
    ap₂ bit_xor (two_on_lem (bit_xor acc first % 256) (omega arith)) (one_on_lem (bit_xor (acc / 256) second % 256) (omega arith))
    ∙ sym (crc16_two first second acc p q fits)

-- ---- as the code computes it, on 16 bits

abbrev pub code_swap : ℕ → ℕ
code_swap x = bit_or (x / 256) (x * 256 % 65536)

abbrev pub code_up : ℕ → ℕ
code_up x = bit_xor x (bit_and x 0xFF00 * 16 % 65536)

abbrev pub code_down : ℕ → ℕ
code_down x = bit_xor x (x / 256 / 16)

abbrev pub code_across : ℕ → ℕ
code_across x = bit_xor x (bit_and x 0xFF00 / 32)

cut-xor : (a b : ℕ) → a < 65536 → bit_xor a (b % 65536) ≡ bit_xor a b % 65536
cut-xor a b h = let e : a % 65536 ≡ a = omega arith in sym (xor_mod a b 16 ∙ rw e)

-- ---- the code's five assignments are those of `crc16_add`

code_add : (byte acc : ℕ) → byte < 65536 → acc < 65536 → bit_xor acc byte ≡ add_byte byte acc
unfolding add_byte
code_add byte acc p q =
    let e : byte % 65536 ≡ byte = omega arith in
    rw e at (cut-xor acc byte q)

code_swap_lem : (x : ℕ) → x < 65536 → code_swap x ≡ swap_bytes x
unfolding swap_bytes
code_swap_lem x h = let e : x / 256 % 65536 ≡ x / 256 = omega arith in sym (or_mod (x / 256) (x * 256) 16 ∙ rw e)

code_up_lem : (x : ℕ) → x < 65536 → code_up x ≡ mix_up x
unfolding mix_up
code_up_lem x h = cut-xor x (bit_and x 0xFF00 * 16) h

code_down_lem : (x : ℕ) → x < 65536 → code_down x ≡ mix_down x
unfolding mix_down
code_down_lem x h =
    let e : x / 256 / 16 % 65536 ≡ x / 256 / 16 = omega arith in
    rw e at (cut-xor x (x / 256 / 16) h)

code_across_lem : (x : ℕ) → x < 65536 → code_across x ≡ mix_across x
unfolding mix_across
code_across_lem x h =
    let e : bit_and x 0xFF00 / 32 % 65536 ≡ bit_and x 0xFF00 / 32 = omega (arith, keep_high x h) in
    rw e at (cut-xor x (bit_and x 0xFF00 / 32) h)

pub code_right : (byte acc : ℕ) → byte < 65536 → acc < 65536
    → code_across (code_down (code_up (code_swap (bit_xor acc byte)))) ≡ crc16_add byte acc
unfolding crc16_add add_byte swap_bytes mix_up mix_down
code_right byte acc p q =
    let x₁ = add_byte byte acc in
    let x₂ = swap_bytes x₁ in
    let x₃ = mix_up x₂ in
    let x₄ = mix_down x₃ in
    ap (λ (x : ℕ). code_across (code_down (code_up (code_swap x)))) (code_add byte acc p q)
    ∙ ap (λ (x : ℕ). code_across (code_down (code_up x))) (code_swap_lem x₁ (omega arith))
    ∙ ap (λ (x : ℕ). code_across (code_down x)) (code_up_lem x₂ (omega arith))
    ∙ ap code_across (code_down_lem x₃ (omega arith))
    ∙ code_across_lem x₄ (omega arith)

-- ---- lists of bytes

-- one byte less is left
pub checksum_next : (bytes : List ℕ) (i acc : ℕ) {next : ℕ} → i < length bytes → next ≡ crc16_add (get_or bytes i 0) acc
    → checksum_from next (drop (i + 1) bytes) ≡ checksum_from acc (drop i bytes)
checksum_next bytes i acc h e = rw (e, add-one, drop-cons bytes i 0)

-- nothing is left
pub checksum_end : (bytes : List ℕ) (i acc : ℕ) → length bytes ≤ i → acc ≡ checksum_from acc (drop i bytes)
checksum_end bytes i acc h = rw (drop_of_length-le bytes h)

-- on the table: two bytes less are left, one is, or none
module _ (bytes : List ℕ) (i acc : ℕ) {next : ℕ} where
  pub table_next : i + 1 < length bytes → next ≡ table_add_two (get_or bytes i 0) (get_or bytes (i + 1) 0) acc
      → table_checksum next (drop (i + 2) bytes) ≡ table_checksum acc (drop i bytes)
  table_next h e =
      let one : i + 1 ≡ suc i = add-one i in
      let two : i + 2 ≡ suc (suc i) = omega arith in
      let d : drop i bytes ≡ get_or bytes i 0 ∷ get_or bytes (suc i) 0 ∷ drop (suc (suc i)) bytes =
      drop-cons bytes i 0 (omega arith) ∙ ap (λ (l : List ℕ). get_or bytes i 0 ∷ l) (drop-cons bytes (suc i) 0 (omega arith)) in
      rw (e, one, two, d)

  pub table_last : i < length bytes → length bytes ≤ i + 1 → next ≡ table_add (get_or bytes i 0) acc
      → next ≡ table_checksum acc (drop i bytes)
  table_last h l e =
      let d : drop i bytes ≡ get_or bytes i 0 ∷ [] =
      drop-cons bytes i 0 h ∙ ap (λ (r : List ℕ). get_or bytes i 0 ∷ r) (drop_of_length-le bytes {i = suc i} (omega arith)) in
      rw (e, d)

-- the pairs of the bytes, in order
pair_at : (n : ℕ) (bytes : List ℕ) (i : ℕ) (d : List ℕ) → i < n → get_or (first_chunks 2 n bytes) i d ≡ take 2 (drop (2 * i) bytes)
pair_at zero bytes i d h = absurd (omega arith)
pair_at (suc n) bytes zero d h = refl
pair_at (suc n) bytes (suc i) d h =
    let e : 2 + 2 * i ≡ 2 * suc i = omega arith in
    pair_at n (drop 2 bytes) i d (omega arith) ∙ ap (take 2) (drop-drop (2 * i) 2 bytes) ∙ ap (λ (k : ℕ). take 2 (drop k bytes)) e

pub table_pair : (bytes : List ℕ) (i acc : ℕ) {next : ℕ} (d : List ℕ) → i < length bytes / 2
    → (let pair = get_or (first_chunks 2 (length bytes / 2) bytes) i d in next ≡ table_add_two (get_or pair 0 0) (get_or pair 1 0) acc)
    → table_checksum next (drop (2 * (i + 1)) bytes) ≡ table_checksum acc (drop (2 * i) bytes)
table_pair bytes i acc {next} d h e =
    let pair : get_or (first_chunks 2 (length bytes / 2) bytes) i d ≡ take 2 (drop (2 * i) bytes) = pair_at (length bytes / 2) bytes i d h in
    let at : (j : ℕ) → j < 2 → get_or (take 2 (drop (2 * i) bytes)) j 0 ≡ get_or bytes (2 * i + j) 0 =
    λ j l. get_or-take 2 (drop (2 * i) bytes) j 0 l ∙ get_or-drop (2 * i) bytes j 0 in
    let k : 2 * i + 0 ≡ 2 * i = omega arith in
    let m : 2 * (i + 1) ≡ 2 * i + 2 = omega arith in
    let is : next ≡ table_add_two (get_or bytes (2 * i) 0) (get_or bytes (2 * i + 1) 0) acc =
    rw (pair, at 0 (omega arith), at 1 (omega arith), k) at e in
    rw m (table_next bytes (2 * i) acc (omega arith) is)

pub table_odd : (bytes last : List ℕ) (i acc : ℕ) {next : ℕ} → i ≡ length bytes / 2 → last ≡ drop (length bytes / 2 * 2) bytes
    → length bytes % 2 ≡ 1 → next ≡ table_add (get_or last 0 0) acc → next ≡ table_checksum acc (drop (2 * i) bytes)
table_odd bytes last i acc half e odd is =
    let k : length bytes / 2 * 2 + 0 ≡ 2 * i = omega arith in
    let byte : get_or last 0 0 ≡ get_or bytes (2 * i) 0 =
    ap (λ (l : List ℕ). get_or l 0 0) e ∙ get_or-drop (length bytes / 2 * 2) bytes 0 0 ∙ ap (λ (n : ℕ). get_or bytes n 0) k in
    table_last bytes (2 * i) acc (omega arith) (omega arith) (rw byte at is)

pub table_end : (bytes : List ℕ) (i acc : ℕ) → length bytes ≤ i → acc ≡ table_checksum acc (drop i bytes)
table_end bytes i acc h = rw (drop_of_length-le bytes h)

-- the checksum of some bytes is the start value for those after them
pub checksum_append : (start : ℕ) (xs ys : List ℕ) → checksum_from start (xs ++ ys) ≡ checksum_from (checksum_from start xs) ys
checksum_append start [] ys = refl
checksum_append start (x ∷ xs) ys = checksum_append (crc16_add x start) xs ys

-- every element is a byte
abbrev pub Bytes : List ℕ → Type 0
Bytes bytes = (k : ℕ) → get_or bytes k 0 < 256

-- the checksum on the table is the checksum as document 003 prints it
pub checksums_equal : (start : ℕ) (bytes : List ℕ) → start < 65536 → Bytes bytes → table_checksum start bytes ≡ checksum_from start bytes
checksums_equal start [] fits small = refl
checksums_equal start (byte ∷ []) fits small = table_right byte start (small 0) fits
checksums_equal start (first ∷ second ∷ bytes) fits small =
    rw (table_two_right first second start (small 0) (small 1) fits)
    (checksums_equal (crc16_add second (crc16_add first start)) bytes (crc16_lt second (crc16_add first start)) (λ k. small (suc (suc k))))
