-- Laws of the calls as the code makes them: whether a chunk goes on.
-- Assumes nothing.
use mathlib.Core.Path.{◌≡◌, sym, ap, ◌∙◌}
use mathlib.Core.Bool.{true}
use mathlib.Core.List.{List, ◌++◌, append_assoc}
use Prim.Native.Nat.{ℕ, ◌+◌, ◌-◌, ◌≤◌, ◌<◌, min}
use native.Mathlib.Omega.{arith}
use native.Mathlib.Decide.{dec_le}
use borrow.Author.Tests.{leb-true}
use lib.Dec.{leb}
use lib.ListN.{length, take, drop, length-append, take-append-drop}
use lib.Seq.{take_all, length-take-le}
use Rattle.lists.specs.Lists.{overlay_at}
use Rattle.lists.proofs.Lists.{take-overlay_at}
use Rattle.lists.proofs.Rules.{and_left}
use Rattle.bitmap.specs.Header.{header_length, file_length}
use Rattle.bitmap_prefix.specs.Begins.{header_begins}
use Rattle.bitmap_prefix.proofs.Begins.{header_same}
use Rattle.fill_calls.specs.Calls.{goes_on}
use Rattle.fill.specs.declared.Fill.{Fill}

-- ---- whether a chunk goes on

-- the first bytes of a header that is kept, and of a chunk, as far as there is room
pub header_goes : (b h s : ℕ) (kept chunk : List ℕ) (came n : ℕ) (out : List ℕ) → header_length ≡ length kept → came < header_length
    → n ≡ min (length chunk) (header_length - came) → out ≡ overlay_at came (take n chunk) kept
    → header_begins b h s (take (came + n) out) ≡ header_begins b h s (take came kept ++ chunk)
header_goes b h s kept chunk came n out is l e f =
    let short : length (take n chunk) ≡ n = length-take-le n chunk (omega arith) in
    let front : take (came + n) out ≡ take came kept ++ take n chunk =
    rw f (take-overlay_at came kept (take n chunk) (came + n) (omega arith) (omega arith)) in
    elim (dec_le (length chunk) n) [
      | yes q ↦ rw (front, take_all n chunk q)
      | no q ↦
          let long : header_length ≤ length (take came kept ++ take n chunk) =
          simp length-append (omega (arith, length-take-le came kept (omega arith))) in
          let whole : take came kept ++ chunk ≡ (take came kept ++ take n chunk) ++ drop n chunk =
          ap (λ (t : List ℕ). take came kept ++ t) (sym (take-append-drop n chunk))
          ∙ sym (append_assoc (take came kept) (take n chunk) (drop n chunk)) in
          rw (front, whole) (sym (header_same (take came kept ++ take n chunk) (drop n chunk) long b h s))
    ]

-- and a chunk that goes on fits
pub goes_fits : (b h s : ℕ) (fill : Fill) (chunk : List ℕ) → goes_on b h s fill chunk ≡ true → fill.came + length chunk ≤ file_length h s
unfolding goes_on
goes_fits b h s fill chunk e = leb-true (fill.came + length chunk) (file_length h s) (and_left (leb (fill.came + length chunk) (file_length h s)) _ e)
