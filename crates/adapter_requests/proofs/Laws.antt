-- What each request comes to once its checks are known.
use Rattle.numbers.proofs.Basics.{leb, lt-leb, ◌<◌, ℕ, zero, suc, ◌≤◌, ◌≡◌, refl, ap, sym, ◌∙◌, Bool, true, false}
use Rattle.numbers.proofs.Basics.{true≢false, List, [], ◌∷◌, arith, length, get_or, set, drop, eqb, eq-eqb, ne_eqb}
use Rattle.numbers.proofs.Basics.{eqb-true, le-leb, ltb, lt-ltb, le-ltb}
use lib.Seq.{set-get_or}
use Rattle.std.specs.Prelude.{Result, Ok, Err, OnOk}
use Rattle.answers.specs.declared.Refusal.{Refusal}
use Rattle.rules.specs.{Bytes.choose, Bytes.byte, Bytes.field, Requests.set_request, Requests.no_request, Requests.with_mask, State.Limits, State.State, Outcome.Outcome, Outcome.refuse, Outcome.need◌else◌⨾◌}
use Rattle.rules.proofs.Checks.{passes, fails, chosen, passed}
use Rattle.rules.specs.State as rules
use Rattle.adapters.specs.{Values.masked_as, Values.mode_set}
use Rattle.adapter_requests.specs.States.{payload_id, on_place, with_place, modes_after}

-- ---- what holds in any case holds of a check that is passed
pub on-ok : {P : Type 0} (r : Result (Unit {0}) Refusal) → P → OnOk r P
on-ok (Ok x) p = p
on-ok (Err e) p = tt

-- ---- the groups about a place
pub on-place-7 : (g : ℕ) → on_place g ≡ true → (g ≡ 6 → ⊥) → g ≡ 7
unfolding on_place
on-place-7 g o n = eqb-true g 7 (rw (ne_eqb g 6 n) at o)

pub not-on-place : (g : ℕ) → on_place g ≡ false → (g ≡ 6 → ⊥) × (g ≡ 7 → ⊥)
unfolding on_place
not-on-place g o = (λ e. true≢false (sym (ap on_place e) ∙ o), λ e. true≢false (sym (ap on_place e) ∙ o))

-- an accepted MODIFY, whether its type is 1 or not
pub modified : (s : State) (id id' : ℕ) (t on : Bool) (x : rules.Adapter) (p : rules.Place) → id' ≡ id → p ≡ rules.holds x → get_or s.adapters id rules.free ≡ p
    → ◌≡◌ {A = State} (choose t (rules.with_adapter id (with_mask on x) s) s) (with_place id' (choose t (masked_as p on) p) s)
unfolding choose masked_as
modified s id id' true on x p e h g = λ i. record { ais = s.ais; adapters = set s.adapters ((sym e) i) (masked_as ((sym h) i) on); pending = s.pending; device = s.device }
modified s id id' false on x p e h g =
    λ i. record { ais = s.ais; adapters = (sym (set-get_or s.adapters id rules.free) ∙ (λ j. set s.adapters ((sym e) j) (g j))) i; pending = s.pending; device = s.device }

-- ---- the groups about the device record
module _ (group : ℕ) (b : List ℕ) (d : rules.Device) where
  pub after-mode : group ≡ 9 → modes_after group b d ≡ mode_set d (byte 0 b) (eqb (field 2 2 b) 1)
  unfolding modes_after
  after-mode e = chosen _ _ _ (eq-eqb group 9 e)

  pub after-masks : (group ≡ 9 → ⊥) → group ≡ 11 → modes_after group b d ≡ record { simm = byte 0 b; nimm = byte 1 b; apf = d.apf }
  unfolding modes_after
  after-masks n e = passed _ _ _ (ne_eqb group 9 n) ∙ chosen _ _ _ (eq-eqb group 11 e)

  pub after-flag : (group ≡ 9 → ⊥) → (group ≡ 11 → ⊥) → modes_after group b d ≡ record { simm = d.simm; nimm = d.nimm; apf = eqb group 4 }
  unfolding modes_after
  after-flag n m = passed _ _ _ (ne_eqb group 9 n) ∙ passed _ _ _ (ne_eqb group 11 m)

-- ---- the checks that come first: the attribute, the capability, the lent length
pub bad-attr : {attr : ℕ} (rest : Outcome State) → (attr ≡ 0 → ⊥) → (need eqb attr 0 else 22 ⨾ rest) ≡ refuse 22
bad-attr {attr} rest h = fails _ _ _ (ne_eqb attr 0 h)

module _ {attr n len : ℕ} (rest : Outcome State) (z : attr ≡ 0) where
  pub short : len < n → (need eqb attr 0 else 22 ⨾ need leb n len else 14 ⨾ rest) ≡ refuse 14
  short h = passes _ _ _ (eq-eqb attr 0 z) ∙ fails _ _ _ (lt-leb n len h)

  pub opened : n ≤ len → (need eqb attr 0 else 22 ⨾ need leb n len else 14 ⨾ rest) ≡ rest
  opened h = passes _ _ _ (eq-eqb attr 0 z) ∙ passes _ _ _ (le-leb n len h)

pub no-ais : {attr : ℕ} {ais : Bool} (rest : Outcome State) → attr ≡ 0 → ais ≡ false → (need eqb attr 0 else 22 ⨾ need ais else 95 ⨾ rest) ≡ refuse 95
no-ais {attr} rest z a = passes _ _ _ (eq-eqb attr 0 z) ∙ fails _ _ _ a

module _ {attr n len : ℕ} {ais : Bool} (rest : Outcome State) (z : attr ≡ 0) (a : ais ≡ true) where
  pub short-ais : len < n → (need eqb attr 0 else 22 ⨾ need ais else 95 ⨾ need leb n len else 14 ⨾ rest) ≡ refuse 14
  short-ais h = passes _ _ _ (eq-eqb attr 0 z) ∙ passes _ _ _ a ∙ fails _ _ _ (lt-leb n len h)

  pub opened-ais : n ≤ len → (need eqb attr 0 else 22 ⨾ need ais else 95 ⨾ need leb n len else 14 ⨾ rest) ≡ rest
  opened-ais h = passes _ _ _ (eq-eqb attr 0 z) ∙ passes _ _ _ a ∙ passes _ _ _ (le-leb n len h)

-- the attribute, the lent length and the id of a request about an adapter's place
module _ (L : Limits) (b : List ℕ) {attr n places id : ℕ} (rest : Outcome State) (z : attr ≡ 0) (l : n ≤ length b) (p : L.places ≡ places) (e : id ≡ field 0 4 b) where
  abbrev checked : Outcome State
  checked = need eqb attr 0 else 22 ⨾ need leb n (length b) else 14 ⨾ need ltb (field 0 4 b) L.places else 22 ⨾ rest

  pub past-table : places ≤ id → checked ≡ refuse 22
  past-table h = opened _ z l ∙ fails _ _ _ (le-ltb (field 0 4 b) L.places (omega (arith, h, p, e)))

  pub in_table : id < places → checked ≡ rest
  in_table h = opened _ z l ∙ passes _ _ _ (lt-ltb (field 0 4 b) L.places (omega (arith, h, p, e)))

-- the payload's id, where there is one
pub id-there : (b : List ℕ) → 4 ≤ length b → payload_id b ≡ field 0 4 b
unfolding payload_id
id-there b n = chosen _ _ _ (le-leb 4 (length b) n)

-- the place that a request is about, at that id
pub place-there : (b : List ℕ) → 4 ≤ length b → (ps : List rules.Place) {x : rules.Place} → get_or ps (payload_id b) rules.free ≡ x → get_or ps (field 0 4 b) rules.free ≡ x
place-there b n ps e = ap (λ (id : ℕ). get_or ps id rules.free) (sym (id-there b n)) ∙ e

-- a mode of 0 or 1, as the rules set it and as the code does
pub mode-is : (d : rules.Device) (isc mode : ℕ) → mode ≤ 1
    → ◌≡◌ {A = rules.Device}
    (record {
      simm = choose (eqb mode 0) (rules.without_bit isc d.simm) (rules.with_bit isc d.simm);
      nimm = rules.without_bit isc d.nimm;
      apf = d.apf;
    })
    (mode_set d isc (eqb mode 1))
unfolding mode_set choose
mode-is d isc zero h = refl
mode-is d isc (suc zero) h = refl
mode-is d isc (suc (suc n)) h = let z : ⊥ = omega arith in absurd z

-- ---- which request a group number is
pub no-set : (g : ℕ) → (g ≡ 2 → ⊥) → (g ≡ 3 → ⊥) → (g ≡ 4 → ⊥) → (g ≡ 5 → ⊥) → (g ≡ 6 → ⊥) → (g ≡ 7 → ⊥) → (g ≡ 8 → ⊥) → (g ≡ 9 → ⊥) → (g ≡ 10 → ⊥)
    → (g ≡ 11 → ⊥) → set_request g ≡ no_request
no-set zero h2 h3 h4 h5 h6 h7 h8 h9 h10 h11 = refl
no-set (suc zero) h2 h3 h4 h5 h6 h7 h8 h9 h10 h11 = refl
no-set (suc (suc zero)) h2 h3 h4 h5 h6 h7 h8 h9 h10 h11 = absurd (h2 refl)
no-set (suc (suc (suc zero))) h2 h3 h4 h5 h6 h7 h8 h9 h10 h11 = absurd (h3 refl)
no-set (suc (suc (suc (suc zero)))) h2 h3 h4 h5 h6 h7 h8 h9 h10 h11 = absurd (h4 refl)
no-set (suc (suc (suc (suc (suc zero))))) h2 h3 h4 h5 h6 h7 h8 h9 h10 h11 = absurd (h5 refl)
no-set (suc (suc (suc (suc (suc (suc zero)))))) h2 h3 h4 h5 h6 h7 h8 h9 h10 h11 = absurd (h6 refl)
no-set (suc (suc (suc (suc (suc (suc (suc zero))))))) h2 h3 h4 h5 h6 h7 h8 h9 h10 h11 = absurd (h7 refl)
no-set (suc (suc (suc (suc (suc (suc (suc (suc zero)))))))) h2 h3 h4 h5 h6 h7 h8 h9 h10 h11 = absurd (h8 refl)
no-set (suc (suc (suc (suc (suc (suc (suc (suc (suc zero))))))))) h2 h3 h4 h5 h6 h7 h8 h9 h10 h11 = absurd (h9 refl)
no-set (suc (suc (suc (suc (suc (suc (suc (suc (suc (suc zero)))))))))) h2 h3 h4 h5 h6 h7 h8 h9 h10 h11 = absurd (h10 refl)
no-set (suc (suc (suc (suc (suc (suc (suc (suc (suc (suc (suc zero))))))))))) h2 h3 h4 h5 h6 h7 h8 h9 h10 h11 = absurd (h11 refl)
no-set (suc (suc (suc (suc (suc (suc (suc (suc (suc (suc (suc (suc n)))))))))))) h2 h3 h4 h5 h6 h7 h8 h9 h10 h11 = refl

-- ---- the first two bytes written
pub two-written : (l : List ℕ) (x y : ℕ) → 2 ≤ length l → set (set l 0 x) 1 y ≡ x ∷ y ∷ drop 2 l
two-written [] x y h = let z : ⊥ = omega arith in absurd z
two-written (a ∷ []) x y h = let z : ⊥ = omega arith in absurd z
two-written (a ∷ c ∷ l) x y h = refl
