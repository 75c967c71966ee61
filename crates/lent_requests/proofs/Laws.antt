-- From the check of a request, and what it changes where that is passed, to what the request promises.
use Rattle.numbers.proofs.Basics.{ℕ, ◌≡◌, refl, ap, sym, ◌∙◌, Bool, List, map, get_or, set}
use Rattle.numbers.proofs.Basics.{length-set, list-get_or-map, rules}
use Rattle.rules.specs.{Bytes.choose, State.State, State.free, State.with_device, Outcome.result, Outcome.tell, Machine.answer_of}
use Rattle.rules.proofs.Lists.{all_set, all-get}
use Rattle.adapters.specs.{declared.Device.Device, declared.Place.Place, Values.place_of, Values.device_of, Values.device_from, Values.unused, Values.Canonical}
use Rattle.adapters.proofs.Laws.{canonical-unused}
use Rattle.list_image.specs.Image.{image_size}
use Rattle.std.specs.Prelude.{Ok, Err}
use Rattle.answers.specs.declared.Refusal.{Refusal}
use Rattle.answers.specs.Answers.{code_of}
use Rattle.adapter_requests.specs.States.{payload_id, place_after, modes_after, DecidesModes, DecidesPlace}
use Rattle.lent_requests.specs.Requests.{ModesSet, with_table, PlaceSet}
use Rattle.lent_requests.proofs.{Maps.map-set}

-- ---- the device record
module _ (ais : Bool) (group attr : ℕ) (d : Device) (b : List ℕ) where
  pub modes-refused : (e : Refusal) → DecidesModes group ais attr b (Err e) → ModesSet ais group attr d d b (Err e)
  unfolding result
  modes-refused e f =
      record {
        answer = λ L s a h. ap (answer_of L s b) (f L s a) ∙ (λ i. tell (code_of e) 0 (with_device (h i) s) b);
        kept = refl;
      }

  pub modes-accepted : DecidesModes group ais attr b (Ok tt) → ModesSet ais group attr d (device_from (modes_after group b (device_of d))) b (Ok 0)
  unfolding result
  modes-accepted f =
      record {
        answer = λ L s a h. ap (answer_of L s b) (f L s a) ∙ (λ i. tell 0 0 (with_device (modes_after group b (h i)) s) b);
        kept = tt;
      }

-- ---- the table. `kept` is searched for, so that another clause is judged by what it says and not by the form of its proof.
module _ (group attr : ℕ) (t : List Place) (b : List ℕ) where
  abbrev id : ℕ
  id = payload_id b

  abbrev place : Place
  place = get_or t id unused

  -- the place as the rules see it
  seen : (s : State) → s.adapters ≡ map place_of t → get_or s.adapters id free ≡ place_of place
  unfolding place_of choose
  seen s h = ap (λ l. get_or l id free) h ∙ list-get_or-map place_of t id unused

  pub place-refused : (e : Refusal) → DecidesPlace group image_size place attr b (Err e) → PlaceSet group attr t t b (Err e)
  unfolding result
  place-refused e f =
      record {
        answer = λ L s l h. ap (answer_of L s b) (f L s l (seen s h)) ∙ (λ i. tell (code_of e) 0 (with_table (h i) s) b);
        kept = search rules;
        canonical = λ c. c;
        same_length = refl;
      }

  pub place-accepted : DecidesPlace group image_size place attr b (Ok tt) → (p : Place) → place_of p ≡ place_after group b (place_of place) → (Canonical place → Canonical p) → PlaceSet group attr t (set t id p) b (Ok 0)
  unfolding result
  place-accepted f p e c =
      record {
        answer = λ L s l h. ap (answer_of L s b) (f L s l (seen s h))
            ∙ (λ i. tell 0 0 (with_table (((λ j. set (h j) id ((sym e) j)) ∙ sym (map-set place_of t id p)) i) s) b);
        kept = search rules;
        canonical = λ a. all_set Canonical t id p a (c (all-get Canonical t id unused a canonical-unused));
        same_length = length-set t id p;
      }
