-- The listing once more, from its contract as the checker makes it from the source. A contract that is weakened in src/, or that asks
-- something of the file, is refused here, even where every function is still proved.
-- Assumes nothing.
use mathlib.Core.Path.{◌≡◌}
use Rattle.lists.proofs.Calls.{Call, AsksNothing}
use Rattle.listing.specs.Listing.{listed}
use Rattle.listing.proofs.listing_of.Kinds as listing-kinds
use Rattle.listing.proofs.listing_of.Reads as listing-reads

abbrev pub ListingOf : Type 0
ListingOf = Call 1 listing-kinds.ps listing-kinds.r listing-reads.Learnt

pub listing_tied : (c : ListingOf) → c.result ≡ listed c.args.0.now
listing_tied c = c.promised

pub asks_nothing : AsksNothing 1 listing-kinds.ps listing-reads.Asked
asks_nothing = λ l args. tt
