-- The records that list_all wrote are those of the listing.
use Rattle.numbers.proofs.Basics.{arith}
use Rattle.rules.specs.Listing.{ascii, shown}
use Rattle.listing_text.proofs.{Lines.records-listed}
use Rattle.listing_text.proofs.write_pending.Goals as goal

pub list_all-requires : goal.list_all-requires
list_all-requires c = (c.requires, omega (arith, c.pending_whole-n.ensures.count, c.pending_whole-n.ensures.few))

pub returns : goal.returns
returns c = unfold shown ascii in let n = c.pending_whole-n.ensures in
    rw (c.records.ensures, c.number.ensures.text, c.new-text.ensures, c.list_all.ensures, records-listed _ _ _ n.count n.whole, n.count) at c.copy_to.ensures
