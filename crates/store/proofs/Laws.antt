-- Laws of the lent memory as pending records.
use Rattle.numbers.proofs.Basics.{◌≡◌, none, List, [], ℕ, replicate}
use Rattle.rules.specs.State.{nothing}
use Rattle.store_queues.specs.Queues.{queues}
use Rattle.store_singles.specs.Singles.{service_of, mchk_of}
use Rattle.store.specs.Memory.{pending_of}

pub none_left : (o c b g : List ℕ) → queues o c b ≡ replicate 9 [] → service_of g ≡ none → mchk_of g ≡ none → pending_of o c b g ≡ nothing
unfolding pending_of
none_left o c b g e f k = rw (e, f, k)
