-- The scan bytes: zeros, and the row's mark in one of them where that is among them.
-- Assumes nothing.
use Rattle.std.proofs.Common.{arith, ◌≡◌, ℕ, ◌+◌, ◌-◌, ◌/◌, ◌%◌, ◌<◌, ◌≤◌, ◌++◌, List, length, take, drop, ap, ◌∙◌}
use mathlib.Core.Path.{refl}
use native.Mathlib.Decide.{ℕ_discrete}
use borrow.Author.Tests.{eq-eqb, ne_eqb}
use lib.ListN.{set, replicate}
use Rattle.std.proofs.lemmas.List.{length-set, length-replicate, length-take-le, get_or-replicate, get_or-set_same, get_or-set_other, set-append_left, set-append_right}
use Rattle.lists.specs.Lists.{tabulate, overlay_at}
use Rattle.lists.proofs.Lists.{is-tabulate}
use Rattle.panel.specs.Codes.{scan_mark}
use Rattle.wire.specs.Line.{scan_byte}

-- one byte of those that were laid over a list is replaced
set_overlay_at : (at : ℕ) (bytes out : List ℕ) (i v : ℕ) → i < length bytes → at + length bytes ≤ length out
    → set (overlay_at at bytes out) (at + i) v ≡ overlay_at at (set bytes i v) out
set_overlay_at at bytes out i v h fits =
    let rest = drop (length bytes) (drop at out) in
    let back : at + i - at ≡ i = omega arith in
    set-append_right (take at out) (bytes ++ rest) at (at + i) v (length-take-le at out (omega arith)) (omega arith)
    ∙ rw (back, length-set bytes i v) (ap (λ (l : List ℕ). take at out ++ l) (set-append_left bytes rest i v h))

module _ (n y : ℕ) where
  abbrev zeros : List ℕ
  zeros = replicate n 0

  zeros_long : length zeros ≡ n
  zeros_long = length-replicate n 0

  scan_marked : y / 4 < n → set zeros (y / 4) (scan_mark (y % 4)) ≡ tabulate n (scan_byte y)
  unfolding scan_byte
  scan_marked h =
      let long = zeros_long in
      is-tabulate (set zeros (y / 4) (scan_mark (y % 4))) n (scan_byte y) (length-set zeros (y / 4) (scan_mark (y % 4)) ∙ long)
      (λ k l.
      elim (ℕ_discrete k (y / 4)) [
        | yes q ↦ rw (q, eq-eqb (y / 4) (y / 4) refl) (get_or-set_same zeros (y / 4) (scan_mark (y % 4)) 0 (omega (arith, long)))
        | no d ↦ rw (ne_eqb k (y / 4) d) (get_or-set_other zeros (y / 4) k (scan_mark (y % 4)) 0 d ∙ get_or-replicate n k 0 0 l)
      ])

  scan_bare : n ≤ y / 4 → zeros ≡ tabulate n (scan_byte y)
  unfolding scan_byte
  scan_bare h =
      is-tabulate zeros n (scan_byte y) zeros_long
      (λ k l. rw (ne_eqb k (y / 4) (λ q. absurd (omega (arith, q)))) (get_or-replicate n k 0 0 l))

  module _ (at : ℕ) (out : List ℕ) {d : List ℕ} (e : d ≡ overlay_at at zeros out) where
    pub scans_marked : at + n ≤ length out → y / 4 < n → set d (at + y / 4) (scan_mark (y % 4)) ≡ overlay_at at (tabulate n (scan_byte y)) out
    scans_marked fits h =
        let long = zeros_long in
        rw e
        (set_overlay_at at zeros out (y / 4) (scan_mark (y % 4)) (omega (arith, long)) (omega (arith, long))
        ∙ ap (λ (l : List ℕ). overlay_at at l out) (scan_marked h))

    pub scans_bare : n ≤ y / 4 → d ≡ overlay_at at (tabulate n (scan_byte y)) out
    scans_bare h = e ∙ ap (λ (l : List ℕ). overlay_at at l out) (scan_bare h)
