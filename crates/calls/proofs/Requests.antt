-- The cases of an injection, and which get request a group number is.
use Rattle.numbers.proofs.Basics.{ℕ, zero, suc, ◌≤◌, ◌<◌, ◌≡◌, refl, ap, sym, ◌∙◌, subst, Bool, true, false, ◌&&◌}
use Rattle.numbers.proofs.Basics.{◌||◌, List, [], get_or, take, ltb, leb, eqb, lt-ltb, le-ltb}
use Rattle.rules.specs.{Bytes.choose, State.Limits, State.Pending, State.State, State.with_pending, State.with_device, State.add_io, State.queued, Outcome.refuse, Outcome.accept, Outcome.need◌else◌⨾◌, Requests.under_ais as rules-under_ais}
use Rattle.rules.specs.State as rules
use Rattle.rules.specs.Requests.{holding, no_request, airq_inject, get_request, injected, injects, adapter_interrupt, request}
use Rattle.rules.proofs.Checks.{passes, fails, found, missing, chosen, passed}
use Rattle.std.specs.Prelude.{Result}
use Rattle.answers.specs.{declared.Answer.Answer, declared.Refusal.Refusal, Answers.Answers, Answers.answered, Answers.as_answer}
use Rattle.adapters.specs.{declared.Device.Device, declared.Place.Place, declared.Injection.Injection, declared.Injection.TheVariants.NoAdapter, declared.Injection.TheVariants.Dropped, declared.Injection.TheVariants.Full, declared.Injection.TheVariants.Appended, Values.place_of, Values.device_of, Values.adapter_of, Values.under_ais, Values.injection_of, Values.injected_device}
use Rattle.adapters.proofs.Laws.{place-used, place-free}
use Rattle.numbers.specs.declared.Subclass.{Subclass}
use Rattle.list_image.specs.Places.{places_of}
use Rattle.calls.specs.{Inner.Injected, Inner.limits_from, Inner.image_state, Inner.noted_in, Inner.SetTo, Cases.answer_for}

-- the state that the values stand for is the state itself
pub as_it_was : (s : State) (device : Device) (p : Pending) → s.pending ≡ p → s.device ≡ device_of device → s ≡ with_device (device_of device) (with_pending p s)
as_it_was s device p q d = λ i. record { ais = s.ais; adapters = s.adapters; pending = q i; device = d i }

-- ---- the cases of an injection
module _ (i : Subclass) where
  abbrev pub which : Bool → Bool → Bool → Injection
  which used drop full = choose used (choose drop Dropped (choose full Full (Appended i))) NoAdapter

  pub none-there : (u m f : Bool) → which u m f ≡ NoAdapter → u ≡ false
  unfolding choose
  none-there true true f e = let z : true ≡ false = cc in z
  none-there true false true e = let z : true ≡ false = cc in z
  none-there true false false e = let z : true ≡ false = cc in z
  none-there false m f e = refl

  pub dropped-there : (u m f : Bool) → which u m f ≡ Dropped → (u ≡ true) × (m ≡ true)
  unfolding choose
  dropped-there true true f e = (refl, refl)
  dropped-there true false true e = (refl, (cc))
  dropped-there true false false e = (refl, (cc))
  dropped-there false m f e = ((cc), (cc))

  pub full-there : (u m f : Bool) → which u m f ≡ Full → (u ≡ true) × (m ≡ false) × (f ≡ true)
  unfolding choose
  full-there true true f e = (refl, (cc), (cc))
  full-there true false true e = (refl, refl, refl)
  full-there true false false e = (refl, refl, (cc))
  full-there false m f e = ((cc), (cc), (cc))

  pub appended-there : (u m f : Bool) (i' : Subclass) → which u m f ≡ Appended i' → (u ≡ true) × (m ≡ false) × (f ≡ false) × (i' ≡ i)
  unfolding choose
  appended-there true true f i' e = (refl, (cc), (cc), (cc))
  appended-there true false true i' e = (refl, refl, (cc), (cc))
  appended-there true false false i' e = (refl, refl, refl, (cc))
  appended-there false m f i' e = ((cc), (cc), (cc), (cc))

-- what an injection by an adapter comes to, in the rules' terms and by the code's values
module _ (L : Limits) (s : State) (ais : Bool) (device : Device) (place : Place) (id : ℕ) (b : List ℕ) where
  pub out_of_range : L.places ≤ id → request L s airq_inject id b ≡ refuse 22
  unfolding request injects
  out_of_range h = fails _ _ _ (le-ltb id L.places h)

  module _ (h : id < L.places) (e6 : get_or s.adapters id rules.free ≡ place_of place) where
    pub nobody-there : place.used ≡ false → request L s airq_inject id b ≡ refuse 22
    unfolding request injects
    nobody-there u = passes _ _ _ (lt-ltb id L.places h) ∙ missing _ _ _ (ap holding (e6 ∙ place-free place u))

    module _ (u : place.used ≡ true) (e3 : s.ais ≡ ais) (e5 : s.device ≡ device_of device) where
      looked-up : request L s airq_inject id b
          ≡ choose (place.masked || rules-under_ais s (adapter_of place) s.device.nimm) (accept 0 s [])
          (need ltb (queued s.pending) L.room else 16 ⨾ accept 1 (injected s (adapter_of place)) [])
      unfolding request injects
      looked-up = passes _ _ _ (lt-ltb id L.places h) ∙ found _ (adapter_of place) _ _ (ap holding (e6 ∙ place-used place u))

      same_test : (place.masked || rules-under_ais s (adapter_of place) s.device.nimm) ≡ (place.masked || under_ais ais place device.nimm)
      same_test = λ i. place.masked || (e3 i && (place.suppressible && rules.has_bit place.isc.0 (e5 i).nimm))

      pub is-dropped : (place.masked || under_ais ais place device.nimm) ≡ true → request L s airq_inject id b ≡ accept 0 s []
      is-dropped m = looked-up ∙ chosen _ _ _ (same_test ∙ m)

      pub is-full : (place.masked || under_ais ais place device.nimm) ≡ false → L.room ≤ queued s.pending → request L s airq_inject id b ≡ refuse 16
      is-full m f = looked-up ∙ passed _ _ _ (same_test ∙ m) ∙ fails _ _ _ (le-ltb (queued s.pending) L.room f)

      pub is-appended : (place.masked || under_ais ais place device.nimm) ≡ false → queued s.pending < L.room
          → request L s airq_inject id b ≡ accept 1 (injected s (adapter_of place)) []
      is-appended m f = looked-up ∙ passed _ _ _ (same_test ∙ m) ∙ passes _ _ _ (lt-ltb (queued s.pending) L.room f)

      pub injected-is : (p₀ : Pending) → s.pending ≡ p₀
          → injected s (adapter_of place)
          ≡ with_device (device_of (injected_device ais device place)) (with_pending (add_io place.isc.0 (adapter_interrupt place.isc.0) p₀) s)
      unfolding injected injected_device
      injected-is p₀ e4 =
          λ i. record {
            ais = s.ais;
            adapters = s.adapters;
            pending = add_io place.isc.0 (adapter_interrupt place.isc.0) (e4 i);
            device =
                record {
                  simm = (e5 i).simm;
                  nimm =
                      choose (e3 i && (place.suppressible && rules.has_bit place.isc.0 (e5 i).simm)) (rules.with_bit place.isc.0 (e5 i).nimm) (e5 i).nimm;
                  apf = (e5 i).apf;
                };
          }

-- ---- which request a group number is
pub no-get : (g : ℕ) → (g ≡ 1 → ⊥) → (g ≡ 11 → ⊥) → get_request g ≡ no_request
no-get zero h1 h11 = refl
no-get (suc zero) h1 h11 = absurd (h1 refl)
no-get (suc (suc zero)) h1 h11 = refl
no-get (suc (suc (suc zero))) h1 h11 = refl
no-get (suc (suc (suc (suc zero)))) h1 h11 = refl
no-get (suc (suc (suc (suc (suc zero))))) h1 h11 = refl
no-get (suc (suc (suc (suc (suc (suc zero)))))) h1 h11 = refl
no-get (suc (suc (suc (suc (suc (suc (suc zero))))))) h1 h11 = refl
no-get (suc (suc (suc (suc (suc (suc (suc (suc zero)))))))) h1 h11 = refl
no-get (suc (suc (suc (suc (suc (suc (suc (suc (suc zero))))))))) h1 h11 = refl
no-get (suc (suc (suc (suc (suc (suc (suc (suc (suc (suc zero)))))))))) h1 h11 = refl
no-get (suc (suc (suc (suc (suc (suc (suc (suc (suc (suc (suc zero))))))))))) h1 h11 = absurd (h11 refl)
no-get (suc (suc (suc (suc (suc (suc (suc (suc (suc (suc (suc (suc n)))))))))))) h1 h11 = refl

-- an answer to the get request of one group number is one to that of an equal number
pub as-get : (L : Limits) (s : State) (attr : ℕ) (b c : List ℕ) {a : Answer} (k : ℕ) {g : ℕ} → g ≡ k
    → Answers L s b (request L s (get_request k) attr b) a s c → Answers L s b (request L s (get_request g) attr b) a s c
as-get L s attr b c {a} k e h = subst (λ (x : ℕ). Answers L s b (request L s (get_request x) attr b) a s c) (sym e) h

-- the device record after an injection: one that was appended, of count 1, is noted in it, and no other
not_noted : (x d : Device) (code : ℕ) {r : Answer} → r ≡ answered code 0 → d ≡ choose (eqb r.count 1) x d
unfolding choose
not_noted x d code e = rw e

noted : (x d : Device) {r : Answer} → r ≡ answered 0 1 → x ≡ choose (eqb r.count 1) x d
unfolding choose
noted x d e = rw e

-- an injection from its answer: one that leaves everything as it was, and one that was appended
module _ (places room id queued : ℕ) (ais : Bool) (d : Device) (p : Place) (was : List ℕ → Pending) (r : Answer) where
  abbrev Came : (List ℕ → Pending) → Device → Type 0
  Came is d' = (L : Limits) (s : State) (singles b : List ℕ) → L.places ≡ places → L.room ≡ room → s.ais ≡ ais → s.pending ≡ was singles → s.device ≡ device_of d → get_or s.adapters id rules.free ≡ place_of p
      → Answers L s b (request L s airq_inject id b) r (with_device (device_of d') (with_pending (is singles) s)) b

  -- the answer by the case
  abbrev ByCase : Type 0
  ByCase = id < places → r ≡ answer_for (injection_of ais d p (leb room queued))

  pub nothing-changes : (code : ℕ) → r ≡ answered code 0 → ByCase → Came was d → Injected places room id queued ais d p was was r
  nothing-changes code e t f =
      let n = not_noted (injected_device ais d p) d code e in
      record { answer = subst (Came was) n f; unnoted = λ k. sym n; told = t }

  pub is-noted : (is : List ℕ → Pending) → r ≡ answered 0 1 → ByCase → Came is (injected_device ais d p) → Injected places room id queued ais d p was is r
  is-noted is e t f = record { answer = subst (Came is) (noted (injected_device ais d p) d e) f; unnoted = λ k. absurd (k (ap (λ (x : Answer). x.code) e)); told = t }

-- an injection as a set request on an image, where the device record is d' afterwards
pub set-injected : {places room id queued : ℕ} {ais : Bool} {d : Device} {p : Place} {was is : List ℕ → Pending} (r : Result ℕ Refusal) → Injected places room id queued ais d p was is (as_answer r) → (image : List ℕ)
    → place_of p ≡ get_or (take places (places_of image)) id rules.free → (d' : Device) → noted_in ais d p (as_answer r) ≡ d'
    → (singles b : List ℕ) → SetTo places room ais 10 id b image (was singles) d image (is singles) d' r
set-injected {places} {room} {id} {queued} {ais} {d} {p} {was} {is} r f image l d' e singles b =
    subst (λ (y : Device). SetTo places room ais 10 id b image (was singles) d image (is singles) y r) e
    (f.answer (limits_from places room) (image_state ais places image (was singles) d) singles b refl refl refl refl refl (sym l))
