-- Packing a place and unpacking the number.
use Rattle.numbers.proofs.Basics.{◌≡◌, refl, Bool, true, false, List, [], ◌∷◌, map, ℕ, ◌+◌, ◌*◌, ◌/◌, ◌%◌}
use Rattle.numbers.proofs.Basics.{◌≤◌, dec_lt, arith, eqb, lt-ltb, le-ltb, eq-eqb, ne_eqb}
use Rattle.rules.specs.{Bytes.choose, MoveList.one_if, Invariant.All}
use Rattle.rules.proofs.Decode.{flag-le}
use Rattle.adapters.specs.{declared.Place.Place, Values.unused, Values.Canonical}
use Rattle.list_image.specs.Image.{packed, unpacked}

pub unpacked-zero : unpacked 0 ≡ unused
unfolding unpacked choose
unpacked-zero = refl

pub unpacked-isc : (b : ℕ) → (unpacked b).isc.0 ≤ 7
unfolding unpacked choose
unpacked-isc b = elim (dec_lt b 128) [ yes lt ↦ rw (lt-ltb b 128 lt) (omega arith) | no ge ↦ rw (le-ltb b 128 (omega arith)) (omega arith) ]

flag-back : (n : ℕ) (a : Bool) → n ≡ one_if a → eqb n 1 ≡ a
flag-back n true e = eq-eqb n 1 e
flag-back n false e = ne_eqb n 1 (λ h. omega arith)

-- a number with the digits of a used place stands for it
used-back : (p : Place) (b : ℕ) → p.isc.0 ≤ 7 → p.used ≡ true
    → b ≡ 128 + p.isc.0 % 8 * 16 + one_if p.maskable * 8 + one_if p.swap * 4 + one_if p.suppressible * 2 + one_if p.masked → unpacked b ≡ p
unfolding unpacked choose
used-back p b small e is =
    let a = flag-le p.maskable in
    let f = flag-le p.swap in
    let g = flag-le p.suppressible in
    let h = flag-le p.masked in
    let isc : b / 16 % 8 ≡ p.isc.0 = omega arith in
    let maskable = flag-back (b / 8 % 2) p.maskable (omega arith) in
    let swap = flag-back (b / 4 % 2) p.swap (omega arith) in
    let suppressible = flag-back (b / 2 % 2) p.suppressible (omega arith) in
    let masked = flag-back (b % 2) p.masked (omega arith) in
    rw (le-ltb b 128 (omega arith)) (rw (isc, maskable, swap, suppressible, masked, ← e))

pub unpacked-packed : (p : Place) → Canonical p → unpacked (packed p) ≡ p
unfolding packed choose
unpacked-packed p k = go p.used refl
  where
    go : (u : Bool) → p.used ≡ u → unpacked (packed p) ≡ p
    go true e = used-back p _ k.isc_small e (rw e)
    go false e = rw (k.unused_one e) unpacked-zero

pub unpacked-table : (t : List Place) → All Canonical t → map unpacked (map packed t) ≡ t
unpacked-table [] k = refl
unpacked-table (p ∷ t) k = rw (unpacked-packed p k.0, unpacked-table t k.1)
