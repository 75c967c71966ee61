-- The two groups are the numbers whose half is 3.
use Rattle.numbers.proofs.Basics.{◌≡◌, ℕ, ◌/◌, arith, dec_lt, eqb, eq-eqb, ne_eqb}
use Rattle.adapter_requests.specs.States.{on_place}
use Rattle.adapter_requests.proofs.on_place.Goals as goal

half-is-3 : (g : ℕ) → eqb (g / 2) 3 ≡ on_place g
unfolding on_place
half-is-3 g = elim (dec_lt g 6) [
  | yes low ↦ rw (ne_eqb (g / 2) 3 (λ e. omega (arith, e)), ne_eqb g 6 (λ e. omega (arith, e)), ne_eqb g 7 (λ e. omega (arith, e)))
  | no high ↦ elim (dec_lt g 7) [
    | yes six ↦ rw (eq-eqb (g / 2) 3 (omega arith), eq-eqb g 6 (omega arith))
    | no more ↦ elim (dec_lt g 8) [
      | yes seven ↦ rw (eq-eqb (g / 2) 3 (omega arith), ne_eqb g 6 (λ e. omega (arith, e)), eq-eqb g 7 (omega arith))
      | no past ↦ rw (ne_eqb (g / 2) 3 (λ e. omega (arith, e)), ne_eqb g 6 (λ e. omega (arith, e)), ne_eqb g 7 (λ e. omega (arith, e)))
    ]
  ]
]

pub returns : goal.returns
returns c = half-is-3 c.args.group
