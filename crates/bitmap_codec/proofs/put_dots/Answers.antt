-- Only where white is first are the dots turned over.
-- Assumes nothing.
use Rattle.std.proofs.Common.{ℕ, ◌≡◌, List, Option, Some, refl, ap, ◌∙◌, take, drop}
use mathlib.Core.List.{map}
use Rattle.bitmap.specs.Palettes.{dots_of}
use Rattle.bitmap.specs.declared.Palette.{Palette}
use Rattle.bitmap.specs.declared.Palette.TheVariants.{BlackFirst}
use Rattle.bitmap.proofs.Palettes.{dots_same}
use Rattle.bitmap_codec.proofs.put_dots.Goals as goal

-- a palette that is known to leave each byte leaves them all
stays : (palette : Option Palette) {known : Option Palette} → palette ≡ known → ((byte : ℕ) → dots_of known byte ≡ byte)
    → (l : List ℕ) → map (dots_of palette) l ≡ l
stays palette e same = dots_same palette (λ byte. rw e (same byte))

pub returns-in-Some-BlackFirst : goal.returns-in-Some-BlackFirst
returns-in-Some-BlackFirst c =
    let a = c.args in
    let inner : c.in-Some-BlackFirst.field-0 ≡ BlackFirst = rw c.in-Some-BlackFirst.is at c.in-Some-BlackFirst.field-0-is in
    let known : a.palette ≡ Some BlackFirst = rw c.in-Some-BlackFirst.is (ap Some inner) in
    let same = stays a.palette known (λ _. refl) (take a.shape.bytes (drop a.at a.rows.now)) in
    c.put_row.ensures ∙ rw same

pub returns-in-None : goal.returns-in-None
returns-in-None c =
    let a = c.args in
    let same = stays a.palette c.in-None.is (λ _. refl) (take a.shape.bytes (drop a.at a.rows.now)) in
    c.put_row-in-None.ensures ∙ rw same
