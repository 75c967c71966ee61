-- `adapters::registered` meets its contract: the place is used and not masked.
use mathlib.Core.{Path.refl, Bool.true≢false, Bool.false≢true}
use Rattle.rules.specs.Bytes.{choose}
use Rattle.adapters.specs.Values.{place_of}
use Rattle.adapters.proofs.registered.Goals as goal

pub returns : goal.returns
returns c = unfold place_of choose in
    record {
      result_value = refl;
      canonical = λ h. record { unused_one = λ e. absurd (true≢false e); isc_small = h; masked_maskable = λ e. absurd (false≢true e) };
    }
