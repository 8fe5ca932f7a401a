-- What the three loops leave is a line, and its length.
-- Assumes nothing.
use mathlib.Core.Path.{◌≡◌}
use mathlib.Core.List.{List}
use Prim.Native.Nat.{ℕ, ◌+◌, ◌*◌, ◌/◌, ◌≤◌}
use native.Mathlib.Omega.{arith}
use lib.ListN.{length, length-append}
use Rattle.lists.specs.Lists.{tabulate, overlay, overlay_at}
use Rattle.lists.proofs.Lists.{length-tabulate}
use Rattle.panel.specs.Codes.{where_white, where_black, code_by}
use Rattle.wire.specs.Line.{even_byte, odd_byte, scan_byte, line, line_length, handed_line}
use Rattle.lists.proofs.Parts.{overlay_three}

module _ (b h stage y : ℕ) (row : ℕ → ℕ) where
  pub length-line : length (line b h stage y row) ≡ line_length b h
  unfolding line
  length-line = simp (length-append, length-tabulate)

  pub length-handed : length (handed_line b h stage y row) ≡ line_length b h + 7
  unfolding handed_line
  length-handed = rw (length-append, length-line) (omega arith)

  -- white and black are the stage's two codes
  pub line_laid : (white black : ℕ) (out o₁ o₂ o₃ : List ℕ) → white ≡ where_white stage → black ≡ where_black stage → b + h / 4 ≤ length out
      → o₁ ≡ overlay_at 0 (tabulate b (even_byte (λ x. code_by white black (row x)))) out
      → o₂ ≡ overlay_at b (tabulate (h / 4) (scan_byte y)) o₁
      → o₃ ≡ overlay_at (b + h / 4) (tabulate b (odd_byte (8 * b) (λ x. code_by white black (row x)))) o₂
      → o₃ ≡ overlay (line b h stage y row) out
  unfolding line
  line_laid white black out o₁ o₂ o₃ w k l =
      let evens = tabulate b (even_byte (λ x. code_by white black (row x))) in
      let scans = tabulate (h / 4) (scan_byte y) in
      let odds = tabulate b (odd_byte (8 * b) (λ x. code_by white black (row x))) in
      rw (← w, ← k)
      (overlay_three out o₁ o₂ o₃ evens scans odds b (b + h / 4) (rw length-tabulate) (rw length-tabulate) l)
