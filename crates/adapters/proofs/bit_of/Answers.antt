-- A shift is a product with a power of 2: the eight bits one by one.
use Rattle.numbers.proofs.{Basics.◌≡◌, Basics.refl, Basics.◌-◌, Basics.◌*◌, Basics.◌%◌, Basics.◌^◌, Basics.◌<◌, Laws.each-subclass}
use lib.Dec.{lit<}
use Rattle.rules.specs.State.{bit}
use Rattle.adapters.proofs.bit_of.Goals as goal

pub returns : goal.returns
returns c =
    each-subclass (λ n. (1 * 2 ^ (7 - n) % 256 ≡ bit n) × (0 < 1 * 2 ^ (7 - n) % 256)) (refl, lit< tt) (refl, lit< tt)
    (refl, lit< tt) (refl, lit< tt) (refl, lit< tt) (refl, lit< tt) (refl, lit< tt) (refl, lit< tt) c.args.isc.0 c.requires
