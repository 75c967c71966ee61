-- From what the inner functions promise to what the public calls promise.
use Rattle.numbers.proofs.Basics.{ℕ, ◌≤◌, ◌≡◌, refl, ap, sym, ◌∙◌, subst, Bool, true, false, List, map, arith, length}
use Rattle.numbers.proofs.Basics.{get_or, take, replicate, length-take, length-map, list-get_or-map, eqb, eq-eqb, ne_eqb}
use Rattle.numbers.proofs.Basics.{eqb-true, eqb-false, true≢false}
use lib.ListN.{length-replicate}
use Rattle.rules.specs.{Bytes.choose, State.Limits, State.State, State.free, State.fresh, State.nothing, State.paper_limits, State.with_pending, Outcome.Outcome, Outcome.refuse_with, Outcome.refuse, Outcome.need◌else◌⨾◌, Outcome.result, Outcome.tell, Outcome.Seen, Outcome.Answer as Told, Requests.enqueue, Requests.clear_irqs, Requests.clear_io_irq, Requests.set_request, Requests.request, Invariant.All, Invariant.Sound, Take.takes}
use Rattle.rules.specs.Machine.{Ask, set_attr, get_attr, guest_take, write_list, play_list, outcome, step, answer_of}
use Rattle.rules.proofs.{Checks.passes, Checks.fails, Checks.chosen, Checks.passed, Lists.all_replicate, Outcomes.Known, Outcomes.Plays, Outcomes.known-outcome, Outcomes.never-zero, Reachable.kept_step, Reachable.fresh-sound}
use Rattle.std.specs.Prelude.{Result, Ok, Err, OnErr}
use Rattle.answers.specs.{declared.Answer.Answer, declared.Refusal.Refusal, Answers.Answers, Answers.answered, Answers.as_answer, Answers.saw}
use Rattle.adapters.specs.{declared.Device.Device, declared.Place.Place, Values.place_of, Values.device_of, Values.unused, Values.Canonical}
use Rattle.adapters.proofs.Laws.{canonical-unused}
use Rattle.list_image.specs.{Image.image_size, Image.unpacked, Places.places_of, Places.AllCanonical}
use Rattle.list_image.proofs.{Laws.places-all, Laws.places-take, Packed.unpacked-zero, Packed.unpacked-table}
use Rattle.list_write.specs.Write.{Written}
use Rattle.lent_table.specs.Table.{snap_to, restored}
use Rattle.lent_requests.specs.Requests.{ModesSet, PlaceSet}
use Rattle.lent_table.proofs.Tables.{snap-all, restored-all, restored-whole}
use Rattle.lent_requests.proofs.{Maps.map-replicate}
use Rattle.store.specs.{declared.Controller.Controller, Memory.pending_in}
use Rattle.calls.specs.{Limits.limits_of, Inner.noted_in, Inner.Injected, Inner.Got}
use Rattle.list_play.specs.{declared.PlayError.PlayError, Play.PlayedTo, Play.told, Play.made_fresh}
use Rattle.calls.proofs.Sized.{paper-sized}
use Rattle.calls.proofs.Limits.{limits-sized, limits-made, limits-kept}
use Rattle.flic.specs.Surface.{state_of, Ready, Valid, Steps, Made, Requested, Taken}
use Rattle.store_queues.specs.Queues.{total, Held}
use Rattle.store.specs.Memory.{pending_of}

-- what a refusal keeps, by its code
pub refused-keeps : {P : Type 0} (r : Result ℕ Refusal) → OnErr r P → ((as_answer r).code ≡ 0 → ⊥) → P
refused-keeps (Ok n) k h = absurd (h refl)
refused-keeps (Err e) k h = k

-- a refusal that changes nothing has a code that is not 0
refused-code : (ask : Ask) (c c' : Controller) (d d' : Device) (t t' : List Place) (b : List ℕ) (x : Seen) → Steps ask c c' d d' t t' b x
    → (code count : ℕ) → outcome (limits_of c) (state_of c d t) ask (length t) b ≡ refuse_with code count → x.code ≡ 0 → ⊥
unfolding step result
refused-code ask c c' d d' t t' b x f code count o z =
    let k = subst (Known (state_of c d t).ais (Plays ask)) o (known-outcome (limits_of c) (state_of c d t) ask (length t) b) in
    never-zero code k.0 (sym (ap (λ (u : Outcome State). (answer_of (limits_of c) (state_of c d t) b u).code) o) ∙ ap (λ (a : Told State). a.code) f ∙ z)

-- the promise of a request, from its step and from what it keeps where its code is not 0
module _ (ask : Ask) {c c' : Controller} {d d' : Device} {t t' : List Place} (b : List ℕ) (x : Seen) (h : Valid c d t) (s : Steps ask c c' d d' t t' b x) (ready : Ready c') (places : All Canonical t') where
  pub next-valid : Valid c' d' t'
  next-valid =
      let next-sound = subst (Sound (limits_of c)) (ap (λ (a : Told State). a.next) s) (kept_step (limits_of c) (state_of c d t) h.sound _).sound in
      record { ready = ready; places = places; sound = subst (λ (L : Limits). Sound L (state_of c' d' t')) (sym (limits-kept c c')) next-sound }

  promises : ((x.code ≡ 0 → ⊥) → (c' ≡ c) × (d' ≡ d) × (t' ≡ t) × (x.buffer ≡ b)) → Requested ask c c' d d' t t' b x
  promises kept = record { steps = s; kept = λ code count o. kept (refused-code ask c c' d d' t t' b x s code count o); valid = λ _. next-valid; limits = limits-kept c c' }

-- a table that is checked first: its length is right, or not
module _ (L : Limits) (n : ℕ) (code : ℕ) (o : Outcome State) where
  pub right-table : n ≡ L.places → (need eqb n L.places else code ⨾ o) ≡ o
  right-table e = passes _ _ _ (eq-eqb n L.places e)

  pub wrong-table : (n ≡ L.places → ⊥) → (need eqb n L.places else code ⨾ o) ≡ refuse code
  wrong-table e = fails _ _ _ (ne_eqb n L.places e)

pub by_length {ℓ} : {A : Type ℓ} (L : Limits) (n : ℕ) → (n ≡ L.places → A) → ((n ≡ L.places → ⊥) → A) → A
by_length {A = A} L n f g = go (eqb n L.places) refl
  where
    go : (t : Bool) → eqb n L.places ≡ t → A
    go true e = f (eqb-true n L.places e)
    go false e = g (eqb-false n L.places e)

-- every call but the take is lent a table
abbrev pub Tabled : Ask → Type 0
Tabled (set_attr group attr) = Unit {0}
Tabled (get_attr group attr) = Unit {0}
Tabled (guest_take subclasses external mcheck) = ⊥
Tabled write_list = Unit {0}
Tabled play_list = Unit {0}

-- a call that is lent a wrong table is refused, whatever the state
pub refused-table : (L : Limits) (s : State) (ask : Ask) (n : ℕ) (b : List ℕ) → Tabled ask → (n ≡ L.places → ⊥) → outcome L s ask n b ≡ refuse 14
unfolding outcome
refused-table L s (set_attr group attr) n b t w = wrong-table L n 14 _ w
refused-table L s (get_attr group attr) n b t w = wrong-table L n 14 _ w
refused-table L s (guest_take subclasses external mcheck) n b t w = absurd t
refused-table L s write_list n b t w = wrong-table L n 14 _ w
refused-table L s play_list n b t w = wrong-table L n 14 _ w

-- ---- a wrong table: 14, and everything stays
module _ (c : Controller) (d : Device) (t : List Place) (b : List ℕ) (w : length t ≡ (limits_of c).places → ⊥) where
  pub wrong-promises : (ask : Ask) → Tabled ask → Requested ask c c d d t t b (saw (answered 14 0) b)
  unfolding step result
  wrong-promises ask tabled =
      record { steps = ap (answer_of (limits_of c) (state_of c d t) b) (refused-table (limits_of c) (state_of c d t) ask (length t) b tabled w); kept = λ code count o. (refl, refl, refl, refl); valid = λ e. absurd (w e); limits = refl }

pub wrong-makes : (L : Limits) (ais : Bool) (c : Controller) (d : Device) (t : List Place) → (length t ≡ L.places → ⊥) → Made L ais c c d d t t (answered 14 0)
wrong-makes L ais c d t w = record { right = λ e. absurd (w e); wrong = λ _. (refl, refl, refl, refl) }

-- ---- What the functions about pending records promise, of the controller c and what it is then, and of the bytes b and what is left in them.
-- a set request that changes pending records alone
pub record SetRecords (group attr : ℕ) (c c' : Controller) (b : List ℕ) (r : Answer) : Type 0 where
  pub answer : (s : State) → s.pending ≡ pending_in c → Answers (limits_of c) s b (request (limits_of c) s (set_request group) attr b) r (with_pending (pending_in c') s) b
  pub kept : (r.code ≡ 0 → ⊥) → c' ≡ c
  pub held : Held c'.order c'.counts

module _ (c c' : Controller) (attr : ℕ) (b : List ℕ) (r : Result ℕ Refusal) (h : Held c'.order c'.counts) (k : OnErr r (c' ≡ c)) where
  pub enqueued : ((L : Limits) (s : State) → L.room ≡ 256 → s.pending ≡ pending_in c → Answers L s b (request L s enqueue attr b) (as_answer r) (with_pending (pending_in c') s) b)
      → SetRecords 2 attr c c' b (as_answer r)
  enqueued f = record { answer = λ s p. f _ s (limits-sized c).room p; kept = refused-keeps r k; held = h }

  pub cleared : c'.slots ≡ c.slots
      → ((L : Limits) (s : State) (slots b : List ℕ) → s.pending ≡ pending_of c.order c.counts slots c.singles → Answers L s b (request L s clear_irqs attr b) (as_answer r) (with_pending (pending_of c'.order c'.counts slots c'.singles) s) b)
      → SetRecords 3 attr c c' b (as_answer r)
  cleared e f = record { answer = λ s p. rw e (f _ s c.slots b p); kept = refused-keeps r k; held = h }

  pub cleared-io : c'.singles ≡ c.singles
      → ((L : Limits) (s : State) (singles : List ℕ) → s.pending ≡ pending_of c.order c.counts c.slots singles → Answers L s b (request L s clear_io_irq attr b) (as_answer r) (with_pending (pending_of c'.order c'.counts c'.slots singles) s) b)
      → SetRecords 8 attr c c' b (as_answer r)
  cleared-io e f = record { answer = λ s p. rw e (f _ s c.singles p); kept = refused-keeps r k; held = h }

-- a set request of one group number is one of an equal number
pub of-group : (c c' : Controller) (attr : ℕ) (b : List ℕ) (r : Answer) (k g : ℕ) → g ≡ k → SetRecords k attr c c' b r → SetRecords g attr c c' b r
of-group c c' attr b r k g e = subst (λ (x : ℕ). SetRecords x attr c c' b r) (sym e)

-- ---- set requests, with the right table
module _ (group attr : ℕ) (c c' : Controller) (d : Device) (t : List Place) (b : List ℕ) (r : Answer) (e : length t ≡ (limits_of c).places) (h : Valid c d t) where
  -- the request's answer is the step's
  as_step : (d' : Device) (t' : List Place) → answer_of (limits_of c) (state_of c d t) b (request (limits_of c) (state_of c d t) (set_request group) attr b)
      ≡ tell r.code r.count (state_of c' d' t') b → Steps (set_attr group attr) c c' d d' t t' b (saw r b)
  unfolding step outcome
  as_step d' t' f = ap (answer_of (limits_of c) (state_of c d t) b) (right-table (limits_of c) (length t) 14 _ e) ∙ f

  -- about pending records alone: the device record and the table are as they were
  record-steps : c'.ais ≡ c.ais → SetRecords group attr c c' b r → Steps (set_attr group attr) c c' d d t t b (saw r b)
  unfolding state_of
  record-steps a f =
      as_step d t (f.answer (state_of c d t) refl
      ∙ (λ i. tell r.code r.count (record { ais = (sym a) i; adapters = map place_of t; pending = pending_in c'; device = device_of d }) b))

  pub record-promises : c'.ais ≡ c.ais → SetRecords group attr c c' b r → Requested (set_attr group attr) c c' d d t t b (saw r b)
  record-promises a f = promises (set_attr group attr) b (saw r b) h (record-steps a f) f.held h.places (λ n. (f.kept n, refl, refl, refl))

-- what `answer_inject` promises of the controller
pub record InjectedTo (attr : ℕ) (c c' : Controller) (d : Device) (p : Place) (r : Result ℕ Refusal) : Type 0 where
  pub injected : Injected image_size 256 attr (total c.counts) c.ais d p (pending_of c.order c.counts c.slots) (pending_of c'.order c'.counts c'.slots) (as_answer r)
  pub held : Held c'.order c'.counts
  pub singles : c'.singles ≡ c.singles
  pub ais : c'.ais ≡ c.ais
  pub kept : OnErr r (c' ≡ c)

-- an injection: the two single records and the table are as they were
module _ (attr : ℕ) (c c' : Controller) (d : Device) (t : List Place) (b : List ℕ) (r : Result ℕ Refusal) (e : length t ≡ (limits_of c).places) (h : Valid c d t) (f : InjectedTo attr c c' d (get_or t attr unused) r) where
  abbrev noted : Device
  noted = noted_in c.ais d (get_or t attr unused) (as_answer r)

  inject-steps : Steps (set_attr 10 attr) c c' d noted t t b (saw (as_answer r) b)
  unfolding state_of place_of choose
  inject-steps =
      as_step 10 attr c c' d t b (as_answer r) e h noted t (
      f.injected.answer (limits_of c) (state_of c d t) c.singles b (limits-sized c).places (limits-sized c).room refl refl refl (list-get_or-map place_of t attr unused)
      ∙ (λ i. tell (as_answer r).code (as_answer r).count (record { ais = (sym f.ais) i; adapters = map place_of t; pending = pending_of c'.order c'.counts c'.slots ((sym f.singles) i); device = device_of noted }) b))

  pub inject-promises : Requested (set_attr 10 attr) c c' d noted t t b (saw (as_answer r) b)
  inject-promises = promises (set_attr 10 attr) b (saw (as_answer r) b) h inject-steps f.held h.places (λ n. (refused-keeps r f.kept n, f.injected.unnoted n, refl, refl))

  -- the same for a group that is 10, and a device record that is the noted one
  pub noted-promises : (group : ℕ) → group ≡ 10 → (m : Device) → noted ≡ m → Requested (set_attr group attr) c c' d m t t b (saw (as_answer r) b)
  noted-promises group g m n =
      subst (λ (x : Device). Requested (set_attr group attr) c c' d x t t b (saw (as_answer r) b)) n
      (subst (λ (g : ℕ). Requested (set_attr g attr) c c' d noted t t b (saw (as_answer r) b)) (sym g) inject-promises)

-- about an adapter's place, and about the device record: nothing else changes
module _ (group attr : ℕ) (c : Controller) (d : Device) (t : List Place) (b : List ℕ) (r : Result ℕ Refusal) (e : length t ≡ (limits_of c).places) (h : Valid c d t) where
  place-steps : (t' : List Place) → PlaceSet group attr t t' b r → Steps (set_attr group attr) c c d d t t' b (saw (as_answer r) b)
  unfolding state_of
  place-steps t' f = as_step group attr c c d t b (as_answer r) e h d t' (f.answer (limits_of c) (state_of c d t) (limits-sized c).places refl)

  pub place-promises : (t' : List Place) → PlaceSet group attr t t' b r → Requested (set_attr group attr) c c d d t t' b (saw (as_answer r) b)
  place-promises t' f = promises (set_attr group attr) b (saw (as_answer r) b) h (place-steps t' f) h.ready (f.canonical h.places) (λ n. (refl, refl, refused-keeps r f.kept n, refl))

  modes-steps : (d' : Device) → ModesSet c.ais group attr d d' b r → Steps (set_attr group attr) c c d d' t t b (saw (as_answer r) b)
  unfolding state_of
  modes-steps d' f = as_step group attr c c d t b (as_answer r) e h d' t (f.answer (limits_of c) (state_of c d t) refl refl)

  pub modes-promises : (d' : Device) → ModesSet c.ais group attr d d' b r → Requested (set_attr group attr) c c d d' t t b (saw (as_answer r) b)
  modes-promises d' f = promises (set_attr group attr) b (saw (as_answer r) b) h (modes-steps d' f) h.ready h.places (λ n. (refl, refused-keeps r f.kept n, refl, refl))

-- ---- get requests, with the right table
module _ (group attr : ℕ) (c : Controller) (d : Device) (t : List Place) (b b' : List ℕ) (r : Result ℕ Refusal) (e : length t ≡ (limits_of c).places) (h : Valid c d t) (f : Got group attr c d b b' r) where
  get-steps : Steps (get_attr group attr) c c d d t t b (saw (as_answer r) b')
  unfolding step outcome state_of
  get-steps = ap (answer_of (limits_of c) (state_of c d t) b) (right-table (limits_of c) (length t) 14 _ e) ∙ f.answer (state_of c d t) refl refl refl

  pub get-promises : Requested (get_attr group attr) c c d d t t b (saw (as_answer r) b')
  get-promises = promises (get_attr group attr) b (saw (as_answer r) b') h get-steps h.ready h.places (λ n. (refl, refl, refl, refused-keeps r f.kept n))

-- ---- a take: for every device record and every table
pub take-promises : (subclasses : ℕ) (external mcheck : Bool) (c c' : Controller) (b b' : List ℕ) (r : Result ℕ Refusal)
    → ((L : Limits) (s : State) → s.pending ≡ pending_in c → Answers L s b (takes s subclasses external mcheck b) (as_answer r) (with_pending (pending_in c') s) b')
    → Held c'.order c'.counts → c'.ais ≡ c.ais → OnErr r ((c' ≡ c) × (b' ≡ b))
    → Taken subclasses external mcheck c c' b (saw (as_answer r) b')
unfolding step outcome state_of
take-promises subclasses external mcheck c c' b b' r f h e k =
    record {
      steps = λ d t. f _ (state_of c d t) refl
          ∙ (λ i. tell (as_answer r).code (as_answer r).count (record { ais = (sym e) i; adapters = map place_of t; pending = pending_in c'; device = device_of d }) b');
      kept = refused-keeps r k;
      ready = h;
      limits = limits-kept c _;
    }

-- ---- a fresh controller, with the right table
abbrev pub fresh_device : Device
fresh_device = record { simm = 0; nimm = 0; apf = false }

unused-free : place_of unused ≡ free
unfolding place_of choose
unused-free = refl

module _ (c c' : Controller) (d : Device) (t : List Place) (e : length t ≡ paper_limits.places) (h : Held c'.order c'.counts) (f : (slots : List ℕ) → pending_of c'.order c'.counts slots c'.singles ≡ nothing) where
  abbrev ais : Bool
  ais = c'.ais

  abbrev cleared-table : List Place
  cleared-table = restored t (replicate image_size 0) image_size

  -- a table that is restored from an image of zeros
  table-cleared : cleared-table ≡ replicate paper_limits.places unused
  table-cleared =
      restored-whole t (replicate image_size 0) image_size (e ∙ paper-sized.places) (length-replicate {A = ℕ} image_size 0)
      ∙ map-replicate unpacked image_size 0 ∙ (λ i. replicate (sym paper-sized.places i) (unpacked-zero i))

  made-fresh : state_of c' fresh_device cleared-table ≡ fresh paper_limits ais
  unfolding state_of fresh
  made-fresh =
      λ i. record {
        ais = ais;
        adapters = (ap (map place_of) table-cleared ∙ map-replicate place_of paper_limits.places unused ∙ ap (replicate paper_limits.places) unused-free) i;
        pending = f c'.slots i;
        device = device_of fresh_device;
      }

  pub make-promises : Made paper_limits ais c c' d fresh_device t cleared-table (answered 0 0)
  make-promises =
      record {
        right = λ _. (
          refl,
          limits-made c',
          made-fresh,
          record {
            ready = h;
            places = subst (All Canonical) (sym table-cleared) (all_replicate Canonical paper_limits.places unused canonical-unused);
            sound = subst (λ (L : Limits). Sound L (state_of c' fresh_device cleared-table)) (sym (limits-made c')) (subst (Sound paper_limits) (sym made-fresh) (fresh-sound paper_limits ais));
          },
        );
        wrong = λ w. absurd (w e);
      }

-- ---- move lists, with the right table
module _ (c : Controller) (d : Device) (t : List Place) (b b' : List ℕ) (r : Result ℕ Refusal) (e : length t ≡ (limits_of c).places) (h : Valid c d t) (f : Written c.ais d (snap_to t image_size) (pending_in c) b b' r) where
  imaged : map place_of t ≡ map place_of (map unpacked (snap_to t image_size))
  imaged = sym (ap (λ (l : List ℕ). map place_of (map unpacked l)) (snap-all t (e ∙ (limits-sized c).places)) ∙ ap (map place_of) (unpacked-table t h.places))

  write-steps : Steps write_list c c d d t t b (saw (as_answer r) b')
  unfolding step outcome state_of
  write-steps = ap (answer_of (limits_of c) (state_of c d t) b) (right-table (limits_of c) (length t) 14 _ e) ∙ f.answer _ (state_of c d t) refl (imaged ∙ sym (places-all (snap_to t image_size))) refl refl

  pub write-promises : Requested write_list c c d d t t b (saw (as_answer r) b')
  write-promises = promises write_list b (saw (as_answer r) b') h write-steps h.ready h.places (λ n. (refl, refl, refl, refused-keeps r f.kept n))

-- the state that a controller's arrays and the first places of an image stand for
abbrev played_state : (places : ℕ) → Controller → List ℕ → Device → State
played_state places c image d = record { ais = c.ais; adapters = map place_of (map unpacked (take places image)); pending = pending_in c; device = device_of d }

-- what `play_list` promises of the controller, and of the image
pub record Replayed (c c' : Controller) (image : List ℕ) (d d' : Device) (b : List ℕ) (r : Result ℕ PlayError) : Type 0 where
  pub played : PlayedTo image_size 256 c.ais b image (pending_in c') d' r
  pub held : Held c'.order c'.counts
  pub ais : c'.ais ≡ c.ais
  pub kept : made_fresh r ≡ false → (c' ≡ c) × (d' ≡ d)

module _ (c c' : Controller) (image : List ℕ) (d d' : Device) (t : List Place) (b : List ℕ) (r : Result ℕ PlayError) (e : length t ≡ (limits_of c).places) (h : Valid c d t) (f : Replayed c c' image d d' b r) where
  -- the machine's next state, whether the controller was made fresh or not
  next : State
  next = choose (made_fresh r) (played_state (limits_of c).places c' image d') (state_of c d t)

  stepped : step (limits_of c) (state_of c d t) (record { ask = play_list; buffer = b; table_length = length t })
      ≡ tell (told r).code (told r).count next b
  unfolding step outcome state_of next
  stepped = ap (answer_of (limits_of c) (state_of c d t) b) (right-table (limits_of c) (length t) 14 _ e) ∙ f.played.answer (limits_of c) (state_of c d t) (limits-sized c).places (limits-sized c).room refl
      ∙ (λ i. tell (told r).code (told r).count (choose (made_fresh r) (record { ais = (sym f.ais) i; adapters = images i; pending = pending_in c'; device = device_of d' }) (state_of c d t)) b)
    where
      images : take image_size (places_of image) ≡ map place_of (map unpacked (take (limits_of c).places image))
      images = places-take image_size image ∙ ap (λ (k : ℕ). map place_of (map unpacked (take k image))) (sym (limits-sized c).places)

  -- a refusal of form
  form : (code count : ℕ) → outcome (limits_of c) (state_of c d t) play_list (length t) b ≡ refuse_with code count → made_fresh r ≡ false
  unfolding outcome state_of
  form code count o = f.played.refused (limits_of c) (state_of c d t) refl code count (sym (right-table (limits_of c) (length t) 14 _ e) ∙ o)

  -- nothing was changed
  module _ (z : made_fresh r ≡ false) where
    same-steps : Steps play_list c c' d d t t b (saw (told r) b)
    unfolding next
    same-steps = stepped ∙ (λ i. tell (told r).code (told r).count ((passed _ (played_state (limits_of c).places c' image d') (state_of c d t) z ∙ (λ j. state_of ((sym (f.kept z).0) j) d t)) i) b)

    pub same-promises : Requested play_list c c' d d' t t b (saw (told r) b)
    same-promises =
        subst (λ (x : Device). Requested play_list c c' d x t t b (saw (told r) b)) (sym (f.kept z).1)
        (promises play_list b (saw (told r) b) h same-steps f.held h.places (λ _. ((f.kept z).0, refl, refl, refl)))

  -- made fresh: the image has all places, since the next state is sound
  module _ (n : made_fresh r ≡ true) where
    abbrev after : List Place
    after = restored t image image_size

    next-played : next ≡ played_state (limits_of c).places c' image d'
    unfolding next
    next-played = chosen _ _ _ n

    long : (limits_of c).places ≤ length image
    long =
        let k = subst (Sound (limits_of c)) (ap (λ (x : Told State). x.next) stepped ∙ next-played) (kept_step (limits_of c) (state_of c d t) h.sound _).sound in
        let l = sym (length-map (take (limits_of c).places image) unpacked) ∙ sym (length-map (map unpacked (take (limits_of c).places image)) place_of) ∙ k.table in
        omega (arith, l, length-take (limits_of c).places image)

    after_is : after ≡ map unpacked (take (limits_of c).places image)
    after_is = ap (restored t image) (sym (limits-sized c).places) ∙ restored-all t image (limits_of c).places e long

    canonical : All Canonical (map unpacked (take (limits_of c).places image))
    unfolding AllCanonical
    canonical = subst (λ (k : ℕ). All Canonical (map unpacked (take k image))) (sym (limits-sized c).places) f.played.canonical

    play-steps : Steps play_list c c' d d' t after b (saw (told r) b)
    unfolding state_of
    play-steps = stepped ∙ (λ i. tell (told r).code (told r).count ((next-played ∙ ap (λ (l : List Place). state_of c' d' l) (sym after_is)) i) b)

    pub play-promises : Requested play_list c c' d d' t after b (saw (told r) b)
    play-promises =
        record {
          steps = play-steps;
          kept = λ code count o. absurd (true≢false (sym n ∙ form code count o));
          valid = λ _. next-valid play_list b (saw (told r) b) h play-steps f.held (subst (All Canonical) (sym after_is) canonical);
          limits = limits-kept c c';
        }
