-- `adapter_requests::mode_in` meets its contract.
use Rattle.numbers.proofs.Basics.{ℕ, refl, ap, eqb}
use Rattle.adapter_requests.proofs.mode_in.Goals as goal

pub returns : goal.returns
returns c = (refl, ap (λ (n : ℕ). eqb n 1) c.read_be.ensures.0)
