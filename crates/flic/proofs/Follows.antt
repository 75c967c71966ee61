-- A list of calls on a host: what its callers saw is what the plain machine answers, and the host stands for the machine's state.
use Rattle.numbers.proofs.Basics.{ℕ, ◌≡◌, refl, ap, sym, ◌∙◌, subst, Bool, List, ◌∷◌, length, length-map}
use Rattle.rules.specs.{State.Limits, State.State, Outcome.result, Outcome.tell, Outcome.Seen, Outcome.seen, Outcome.answering}
use Rattle.rules.specs.Machine.{Ask, set_attr, get_attr, guest_take, write_list, play_list, Call, outcome, step, answers, after, answer_of}
use Rattle.adapters.specs.{declared.Device.Device, declared.Place.Place, Values.place_of}
use Rattle.store.specs.declared.Controller.{Controller}
use Rattle.calls.specs.Limits.{limits_of}
use Rattle.flic.specs.Surface.{state_of, Valid, Requested, Taken}
use Rattle.flic.specs.Chain.{Host, Lends, its_own, another, asked, Leaves, Ran, end, asks, take}
use Rattle.flic.proofs.Promises.{next-valid, Tabled, refused-table}

abbrev pub host_state : Host → State
host_state h = state_of h.ctl h.dev h.tab

-- the facts that a fresh host has and every call keeps
abbrev pub Good : Host → Type 0
Good h = Valid h.ctl h.dev h.tab

pub own-length : (h : Host) → Good h → length h.tab ≡ (limits_of h.ctl).places
unfolding state_of
own-length h g = sym (length-map h.tab place_of) ∙ g.sound.table

-- ---- one call
-- what one call comes to on a host: the machine's step, and a host of the same limits that stands for the machine's next state
pub record Stepped (h : Host) (c : Call) (x : Seen) (k : Host) : Type 0 where
  pub steps : step (limits_of h.ctl) (host_state h) c ≡ answering x (host_state k)
  pub good : Good k
  pub limits : limits_of k.ctl ≡ limits_of h.ctl

-- a call that leaves anything is lent a table
pub tabled : (ask : Ask) (c c' : Controller) (d d' : Device) (t t' : List Place) (b b' : List ℕ) → Leaves ask c c' d d' t t' b b' → Tabled ask
tabled (set_attr group attr) c c' d d' t t' b b' k = tt
tabled (get_attr group attr) c c' d d' t t' b b' k = tt
tabled (guest_take subclasses external mcheck) c c' d d' t t' b b' k = k
tabled write_list c c' d d' t t' b b' k = tt
tabled play_list c c' d d' t t' b b' k = tt

module _ (h : Host) (g : Good h) (ask : Ask) (lent-one : Tabled ask) (b : List ℕ) (c' : Controller) (d' : Device) (t t' : List Place) (x : Seen)
    (f : Requested ask h.ctl c' h.dev d' t t' b x) where
  abbrev L : Limits
  L = limits_of h.ctl

  refused-step : (s : State) → (length t ≡ L.places → ⊥) → step L s (asked ask b (length t)) ≡ tell 14 0 s b
  unfolding step result
  refused-step s w = ap (answer_of L s b) (refused-table L s ask (length t) b lent-one w)

  pub requested : (u : List Place) → Lends L h.tab t t' u → Stepped h (asked ask b (length t)) x (record { ctl = c'; dev = d'; tab = u })
  requested u (its_own e) =
      record {
        steps = subst (λ (l : List Place). step L (state_of h.ctl h.dev l) (asked ask b (length t)) ≡ answering x (state_of c' d' t')) e f.steps;
        good = f.valid (ap length e ∙ own-length h g);
        limits = f.limits;
      }
  requested u (another w) =
      let a = sym f.steps ∙ refused-step (state_of h.ctl h.dev t) w in
      let k = f.kept 14 0 (refused-table L (state_of h.ctl h.dev t) ask (length t) b lent-one w) in
      record {
        steps = refused-step (host_state h) w ∙ (λ i. answering (seen ((sym a) i)) (state_of ((sym k.0) i) ((sym k.1) i) h.tab));
        good = subst (λ (y : Host). Good y) (λ i. record { ctl = (sym k.0) i; dev = (sym k.1) i; tab = h.tab }) g;
        limits = f.limits;
      }

module _ (h : Host) (g : Good h) where
  pub taken : (subclasses : ℕ) (external mcheck : Bool) (b : List ℕ) (c' : Controller) (n : ℕ) (x : Seen) → Taken subclasses external mcheck h.ctl c' b x
      → Stepped h (asked (guest_take subclasses external mcheck) b n) x (record { ctl = c'; dev = h.dev; tab = h.tab })
  unfolding step outcome
  taken subclasses external mcheck b c' n x f =
      let s = f.steps h.dev h.tab in
      record { steps = s; good = next-valid (guest_take subclasses external mcheck) b x g s f.ready g.places; limits = f.limits }

-- ---- every list of calls
pub record Follows (h : Host) (cs : List Call) (xs : List Seen) (e : Host) : Type 0 where
  pub seen : xs ≡ answers (limits_of h.ctl) (host_state h) cs
  pub state : host_state e ≡ after (limits_of h.ctl) (host_state h) cs
  pub good : Good e
  pub limits : limits_of e.ctl ≡ limits_of h.ctl

onward : {h k e : Host} {cs : List Call} {xs : List Seen} (c : Call) (x : Seen) → Stepped h c x k → Follows k cs xs e → Follows h (c ∷ cs) (x ∷ xs) e
unfolding answers after
onward {h} {k} {e} {cs} c x f g =
    record {
      seen = λ i. seen ((sym f.steps) i) ∷ (g.seen ∙ (λ j. answers (f.limits j) ((sym f.steps) j).next cs)) i;
      state = g.state ∙ (λ j. after (f.limits j) ((sym f.steps) j).next cs);
      good = g.good;
      limits = g.limits ∙ f.limits;
    }

pub follows : {h e : Host} {cs : List Call} {xs : List Seen} → Good h → Ran h cs xs e → Follows h cs xs e
unfolding answers after
follows g end = record { seen = refl; state = refl; good = g; limits = refl }
follows {h} g (asks ask b c' d' t t' u x k l f rest) =
    let s = requested h g ask (tabled ask _ _ _ _ _ _ _ _ k) b c' d' t t' x f u l in onward _ _ s (follows s.good rest)
follows {h} g (take subclasses external mcheck b c' n x f rest) =
    let s = taken h g subclasses external mcheck b c' n x f in onward _ _ s (follows s.good rest)
