-- A file that keeps the rules is listed; any other gives one line. Assumes nothing.
use mathlib.Core.Path.{◌≡◌, sym, ap, ◌∙◌}
use mathlib.Core.List.{List, ◌++◌}
use Prim.Native.Nat.{ℕ}
use Rattle.listing.specs.Text.{ascii, decimal, newline}
use Rattle.listing.proofs.File.{listing_good, listing_bad}
use Rattle.listing.proofs.put_listing.Goals as goal

pub returns-in-Some : goal.returns-in-Some
returns-in-Some c = rw (← listing_good c.args.file.now (sym c.in-Some.ensures.accepted)) c.put_file.ensures

pub returns-in-None : goal.returns-in-None
returns-in-None c =
    let old = c.args.page.now.items in
    let put : c.put_number_line.new.page.items ≡ old ++ (ascii "refused " ++ decimal c.from.result ++ newline) = c.put_number_line.ensures in
    put ∙ ap (λ (n : ℕ). old ++ (ascii "refused " ++ decimal n ++ newline)) (c.from.ensures ∙ c.number.ensures)
    ∙ ap (λ (t : List ℕ). old ++ t) (listing_bad c.args.file.now (sym c.in-None.ensures.accepted))
