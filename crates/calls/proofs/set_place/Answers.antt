-- `calls::set_place` meets its contract: the check decides, and an accepted request changes one place of the image.
use Rattle.numbers.proofs.Basics.{List, ℕ, ◌≡◌, refl, sym, ap, ◌∙◌, [], get_or, set, take}
use Rattle.rules.specs.State as rules
use Rattle.rules.specs.{State.free, Outcome.accept}
use Rattle.std.proofs.lemmas.Result.{err_from_is_err_and}
use Rattle.answers.proofs.Laws.{refused_as, accepted}
use Rattle.adapters.specs.Values.{device_of}
use Rattle.adapter_requests.specs.States.{payload_id}
use Rattle.list_image.specs.Places.{places_of}
use Rattle.calls.specs.Inner.{limits_from, image_state}
use Rattle.calls.proofs.set_place.Goals as goal

-- the place that was looked up is the one at the payload's id
looked : (places : ℕ) (image payload : List ℕ) (id : ℕ) (p : rules.Place) → p ≡ get_or (take places (places_of image)) id free → id ≡ payload_id payload
    → get_or (take places (places_of image)) (payload_id payload) free ≡ p
looked places image payload id p h e = sym (h ∙ ap (λ (id : ℕ). get_or (take places (places_of image)) id free) e)

pub returns-in_err-check_place : goal.returns-in_err-check_place
returns-in_err-check_place c =
    let p = err_from_is_err_and c.from_residual.result c.from_residual.ensures.1 in
    rw (p.1, p.2) (
    record {
      by_index = λ room ais p d. refused_as _ _ _ _ _ _ _ refl (c.in_err-check_place.ensures.decides _ _ refl (looked _ _ _ _ _ c.look_up-place.ensures.0 c.payload_id-id.ensures)) refl;
      held = c.requires.1;
      kept = refl;
    })

pub returns : goal.returns
returns c =
    let a = c.args in
    let t = c.put.ensures in record {
      by_index = λ room ais p d.
          let s = image_state ais a.places a.image.now p d in
          accepted _ _ _ _ _ 0 _ [] _
          (c.in_ok-check_place.ensures.decides (limits_from a.places room) s refl (looked _ _ _ _ _ c.look_up-place.ensures.0 c.payload_id-id.ensures)
          ∙ (λ i. accept 0 (record { ais = ais; adapters = (sym (t.0 ∙ (λ j. set (take a.places (places_of a.image.now)) (c.payload_id-id.ensures j) (c.place_after-after.ensures.0 j)))) i; pending = p; device = device_of d }) []))
          refl refl;
      held = t.1;
      kept = tt;
    }

pub put-requires : goal.put-requires
put-requires c = (c.requires.0, c.requires.1, c.place_after-after.ensures.1 c.look_up-place.ensures.1)
