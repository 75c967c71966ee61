-- Laws of playing: one request on the values, and the requests of a table in turn.
use Rattle.numbers.proofs.Basics.{ℕ, zero, suc, ◌+◌, ◌-◌, ◌≤◌, ◌<◌, ◌≡◌, refl, ap, sym, ◌∙◌, subst, Bool, true, false, List}
use Rattle.numbers.proofs.Basics.{[], ◌∷◌, not-suc-le-zero, le_of_suc-le-suc, add-one, arith, take, drop}
use Rattle.numbers.proofs.Basics.{replicate}
use Rattle.rules.specs.{Bytes.choose, Bytes.part, State.Limits, State.Pending, State.State, State.nothing, State.fresh, Requests.set_request, Requests.request, MoveList.ListRequest, MoveList.TableEntry, MoveList.onward, MoveList.applies, MoveList.requests_in, MoveList.plays, Machine.answer_of}
use Rattle.rules.specs.State as rules
use Rattle.rules.specs.Outcome.{Outcome, refuse_with, accept, reset_with, refuse, reset, result, tell}
use Rattle.rules.specs.Outcome as told
use Rattle.rules.proofs.{Checks.Comes, Outcomes.Known, Outcomes.known-request, Outcomes.never-zero}
use Rattle.std.specs.Prelude.{Result, Ok, Err}
use Rattle.answers.specs.{declared.Refusal.Refusal, Answers.Answers, Answers.as_answer, Answers.code_of}
use Rattle.answers.proofs.Laws.{not-0}
use Rattle.adapters.specs.{declared.Device.Device, Values.device_of}
use Rattle.list_image.specs.Image.{image_size}
use Rattle.list_image.specs.Places.{places_of}
use Rattle.list_image.proofs.Laws.{places-none}
use Rattle.list_form.specs.Form.{slot_at}
use Rattle.list_form.proofs.Laws.{slots_from, next-slot, last-slot}
use Rattle.calls.specs.Inner.{limits_from, image_state}
use Rattle.list_play.specs.Play.{ran_to, told as said, made_fresh}
use Rattle.list_play.specs.declared.PlayError.{PlayError}
use Rattle.list_play.specs.declared.PlayError.TheVariants.{Form, Request}

-- the request of a table entry
abbrev request_in : Limits → State → List ℕ → TableEntry → Outcome State
request_in L s b e = request L s (set_request e.group) e.attr (part e.at e.size b)

-- the request of a table entry, by the numbers that were read of it
pub as-slot : (L : Limits) (s t : State) (b : List ℕ) (e : TableEntry) (r : Result ℕ Refusal) (at size group attr : ℕ) → at ≡ e.at → size ≡ e.size → group ≡ e.group
    → attr ≡ e.attr
    → Answers L s (take (at + size - at) (drop at b)) (request L s (set_request group) attr (take (at + size - at) (drop at b))) (as_answer r) t (take (at + size - at) (drop at b))
    → Answers L s (part e.at e.size b) (request_in L s b e) (as_answer r) t (part e.at e.size b)
as-slot L s t b e r at size group attr p q g x h =
    let n : at + size - at ≡ size = omega arith in
    rw (← p, ← q, ← g, ← x) (rw n at h)

-- what an answer to a request makes of the list that it stands in
module _ (L : Limits) (s t : State) (b : List ℕ) (ais : Bool) (o : Outcome State) (k : Known ais ⊥ o) (place : ℕ) (rest : State → Outcome State) where
  onward-accepts : (n : ℕ) → Answers L s b o (as_answer (Ok n)) t b → onward o place rest ≡ rest t
  unfolding onward result
  onward-accepts n h = go o k h
    where
      go : (o : Outcome State) → Known ais ⊥ o → Answers L s b o (as_answer (Ok n)) t b → onward o place rest ≡ rest t
      go (refuse_with code count) k h = absurd (never-zero code k.0 (ap (λ (x : told.Answer State). x.code) h))
      go (accept count next written) k h = ap (λ (x : told.Answer State). rest x.next) h
      go (reset_with code at further) k h = absurd k.0

  onward-refuses : (e : Refusal) → Answers L s b o (as_answer (Err e)) t b → onward o place rest ≡ reset (code_of e) place
  unfolding onward result
  onward-refuses e h = go o k h
    where
      go : (o : Outcome State) → Known ais ⊥ o → Answers L s b o (as_answer (Err e)) t b → onward o place rest ≡ reset (code_of e) place
      go (refuse_with code count) k h = ap (λ (x : told.Answer State). reset x.code place) h
      go (accept count next written) k h = absurd (not-0 e (sym (ap (λ (x : told.Answer State). x.code) h)))
      go (reset_with code at further) k h = absurd k.0

-- a turn of the list: the request at a place, of n
module _ (L : Limits) (s t : State) (b : List ℕ) (place n : ℕ) (i : place < n) where
  pub applies-next : (m : ℕ) → (let e = slot_at place b in Answers L s (part e.at e.size b) (request_in L s b e) (as_answer (Ok m)) t (part e.at e.size b))
      → applies L place s (requests_in b (slots_from place n b)) ≡ applies L (place + 1) t (requests_in b (slots_from (place + 1) n b))
  unfolding applies requests_in
  applies-next m h = rw (next-slot place n b i, add-one place) (onward-accepts L s t _ _ _ (known-request L s _ _ _) place _ m h)

  pub applies-stops : (r : Refusal) → (let e = slot_at place b in Answers L s (part e.at e.size b) (request_in L s b e) (as_answer (Err r)) t (part e.at e.size b))
      → applies L place s (requests_in b (slots_from place n b)) ≡ reset (code_of r) place
  unfolding applies requests_in
  applies-stops r h = rw (next-slot place n b i) (onward-refuses L s t _ _ _ (known-request L s _ _ _) place _ r h)

pub applies-ends : (L : Limits) (s : State) (b : List ℕ) (place n : ℕ) → n ≤ place → applies L place s (requests_in b (slots_from place n b)) ≡ accept place s []
unfolding applies requests_in
applies-ends L s b place n h = rw (last-slot place n b h)

-- a list whose requests are applied is not refused as a whole
abbrev Applied : Outcome State → Type 0
Applied = Comes (λ code count. ⊥) (λ count next written. Unit {0}) (λ code place further. Unit {0})

applied-onward : (o : Outcome State) (place : ℕ) (rest : State → Outcome State) → ((t : State) → Applied (rest t)) → Applied (onward o place rest)
unfolding onward
applied-onward (refuse_with code count) place rest h = tt
applied-onward (accept count next written) place rest h = h next
applied-onward (reset_with code at further) place rest h = tt

applied : (L : Limits) (place : ℕ) (s : State) (es : List ListRequest) → Applied (applies L place s es)
unfolding applies
applied L place s [] = tt
applied L place s (e ∷ es) = applied-onward _ place (λ t. applies L (suc place) t es) (λ t. applied L (suc place) t es)

pub not-refused : (L : Limits) (place : ℕ) (s : State) (es : List ListRequest) (code count : ℕ) (o : Outcome State) → o ≡ applies L place s es → o ≡ refuse_with code count → ⊥
not-refused L place s es code count o e f = subst Applied (sym e ∙ f) (applied L place s es)

-- the values of a fresh controller
take-replicate : {A : Type 0} (m n : ℕ) (x : A) → m ≤ n → take m (replicate n x) ≡ replicate m x
take-replicate zero n x h = refl
take-replicate (suc m) zero x h = absurd (not-suc-le-zero h)
take-replicate (suc m) (suc n) x h = rw (take-replicate m n x (le_of_suc-le-suc h))

pub fresh-is : (places room : ℕ) (ais : Bool) (image : List ℕ) (device : Device) (p : Pending) → places ≤ image_size → image ≡ replicate image_size 0 → p ≡ nothing → device ≡ record { simm = 0; nimm = 0; apf = false }
    → fresh (limits_from places room) ais ≡ image_state ais places image p device
unfolding fresh
fresh-is places room ais image device p h z e d =
    λ i. record {
      ais = ais;
      adapters = (sym (ap (λ (l : List ℕ). take places (places_of l)) z ∙ ap (take places) (places-none image_size) ∙ take-replicate places image_size rules.free h)) i;
      pending = sym e i;
      device = device_of (sym d i);
    }

-- ---- the answer of a played list: its form is refused, all its requests are applied, or one of them is refused
pub not-played : (L : Limits) (s t : State) (b : List ℕ) (e : Refusal) → plays L s b ≡ refuse (code_of e)
    → Answers L s b (plays L s b) (said (Err (Form e))) (choose false t s) b
unfolding result choose
not-played L s t b e p = ap (answer_of L s b) p

module _ (places room : ℕ) (ais : Bool) (b : List ℕ) (es : List ListRequest) (start next : State) (f : fresh (limits_from places room) ais ≡ start) (L : Limits) (s : State)
    (e1 : L.places ≡ places) (e2 : L.room ≡ room) (e3 : s.ais ≡ ais) (p : plays L s b ≡ applies L 0 (fresh L ais) es) where
  abbrev Ran : Result ℕ PlayError → Type 0
  Ran r = applies (limits_from places room) 0 start es ≡ ran_to r next

  comes-to : (r : Result ℕ PlayError) → Ran r → plays L s b ≡ ran_to r next
  comes-to r a =
      p ∙ (λ i. let K : Limits = record { places = e1 i; room = e2 i } in applies K 0 (fresh K ais) es)
      ∙ ap (λ (x : State). applies (limits_from places room) 0 x es) f ∙ a

  pub played-all : (n : ℕ) → Ran (Ok n) → Answers L s b (plays L s b) (said (Ok n)) (choose true next s) b
  unfolding result choose
  played-all n a = ap (answer_of L s b) (comes-to (Ok n) a)

  stopped : (at : ℕ) (e : Refusal) → Ran (Err (Request at e)) → (t : State) → fresh (limits_from places room) ais ≡ t
      → Answers L s b (plays L s b) (said (Err (Request at e))) (choose true t s) b
  unfolding result choose
  stopped at e a t g =
      ap (answer_of L s b) (comes-to (Err (Request at e)) a)
      ∙ (λ i. tell (code_of e) at (((λ j. let K : Limits = record { places = e1 j; room = e2 j } in fresh K (e3 j)) ∙ g) i) b)

  pub played-part : (e : PlayError) → Ran (Err e)
      → (t : State) → fresh (limits_from places room) ais ≡ t → Answers L s b (plays L s b) (said (Err e)) (choose (made_fresh (Err e)) t s) b
  played-part (Form e) a = absurd (not-refused _ _ _ _ (code_of e) 0 _ refl a)
  played-part (Request at e) a = stopped at e a

-- the requests of a list are not refused as a whole
pub part-way : (L : Limits) (start next : State) (es : List ListRequest) (e : PlayError) → applies L 0 start es ≡ ran_to (Err e) next → made_fresh (Err e) ≡ true
part-way L start next es (Form e) a = absurd (not-refused _ _ _ _ (code_of e) 0 _ refl a)
part-way L start next es (Request at e) a = refl
