-- Laws on the bits of a mask and on places.
use Rattle.numbers.proofs.{Basics.ℕ, Basics.◌+◌, Basics.◌≤◌, Basics.◌<◌, Basics.◌≡◌, Basics.refl, Basics.Bool, Basics.true, Basics.false, Basics.arith, Basics.eqb-true, Basics.eqb-false, Laws.each-subclass}
use Rattle.rules.specs.{Bytes.choose, State.free, State.holds, State.bit, State.has_bit}
use Rattle.adapters.specs.{declared.Place.Place, Values.adapter_of, Values.place_of, Values.unused, Values.Canonical}

-- a bit that is not set has room in a byte, and one that is set is at most the mask: by the eight subclasses
pub bit-room : (n m : ℕ) → n ≤ 7 → m < 256 → (has_bit n m ≡ false → m + bit n < 256) × (has_bit n m ≡ true → bit n ≤ m)
unfolding has_bit
bit-room n m h l =
    each-subclass (λ n. (has_bit n m ≡ false → m + bit n < 256) × (has_bit n m ≡ true → bit n ≤ m))
    (λ e. omega (arith, eqb-false), λ e. omega (arith, eqb-true)) (λ e. omega (arith, eqb-false), λ e. omega (arith, eqb-true))
    (λ e. omega (arith, eqb-false), λ e. omega (arith, eqb-true)) (λ e. omega (arith, eqb-false), λ e. omega (arith, eqb-true))
    (λ e. omega (arith, eqb-false), λ e. omega (arith, eqb-true)) (λ e. omega (arith, eqb-false), λ e. omega (arith, eqb-true))
    (λ e. omega (arith, eqb-false), λ e. omega (arith, eqb-true)) (λ e. omega (arith, eqb-false), λ e. omega (arith, eqb-true))
    n h

pub place-used : (p : Place) → p.used ≡ true → place_of p ≡ holds (adapter_of p)
unfolding place_of choose
place-used p e = rw e

pub place-free : (p : Place) → p.used ≡ false → place_of p ≡ free
unfolding place_of choose
place-free p e = rw e

-- the unused place
pub canonical-unused : Canonical unused
canonical-unused = record { unused_one = λ e. refl; isc_small = omega arith; masked_maskable = λ e. e }

pub place-is-free : (p : Place) → place_of p ≡ free → p.used ≡ false
place-is-free p e = go p.used refl
  where
    go : (b : Bool) → p.used ≡ b → p.used ≡ false
    go true u = let z : ◌≡◌ {A = ℕ} 0 1 = cc (place-used p u) in absurd (omega arith)
    go false u = u
