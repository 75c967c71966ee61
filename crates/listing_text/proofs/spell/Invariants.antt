-- The lowest digits of v stand at the end of out, from index i on.
use Rattle.numbers.proofs.Basics.{◌≡◌, ◌-◌, ◌/◌, ◌^◌, length}
use Rattle.numbers.proofs.{Basics.paste}
use Rattle.rules.specs.Listing.{digits}
use Rattle.listing_text.proofs.spell.Given as goal

abbrev pub invariant-loop-i : goal.invariant-loop-i
invariant-loop-i l =
    let n = length l.initial.out - l.i in
    (l.w ≡ l.v / l.base ^ n) × (l.out ≡ paste l.initial.out l.i (digits l.base n l.v) n)
