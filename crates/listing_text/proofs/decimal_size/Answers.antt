use Rattle.numbers.proofs.Basics.{sym}
use Rattle.listing_text.proofs.{Lines.size-logarithm}
use Rattle.listing_text.proofs.decimal_size.Goals as goal

pub returns : goal.returns
returns c = let h = c.ilog10.ensures in
    sym (size-logarithm _ c.args.v (rw c.max.ensures at h.power_le) (rw c.max.ensures at h.next_power_gt))
