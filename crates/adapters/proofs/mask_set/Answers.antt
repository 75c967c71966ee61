-- `adapters::mask_set` meets its contract: used or not, by the test.
use Rattle.numbers.proofs.Basics.{refl, sym, ◌∙◌, true≢false}
use Rattle.rules.specs.Bytes.{choose}
use Rattle.adapters.specs.Values.{place_of, masked_as}
use Rattle.adapters.proofs.mask_set.Goals as goal

pub returns-then-p : goal.returns-then-p
returns-then-p c = unfold place_of masked_as choose in record {
  result_value = rw c.if-p.true;
  canonical = λ k m. record { unused_one = λ e. absurd (true≢false (sym c.if-p.true ∙ e)); isc_small = k.isc_small; masked_maskable = m };
  others = rw c.if-p.true;
}

pub returns : goal.returns
returns c = unfold place_of masked_as choose in record { result_value = rw c.if-p.false; canonical = λ k m. k; others = refl }
