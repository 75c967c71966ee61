-- `lent_requests::set_place` meets its contract: refused by the check, or accepted with the place that it asks for.
use Rattle.numbers.proofs.Basics.{◌≡◌, List, ℕ, ap, sym, ◌∙◌, get_or, set}
use Rattle.std.proofs.Common.{subst}
use Rattle.std.specs.Prelude.{Ok, Err}
use Rattle.std.proofs.lemmas.Result.{err_from_is_err_and}
use Rattle.adapters.specs.{declared.Place.Place, Values.unused, Values.place_of, Values.Canonical}
use Rattle.list_image.specs.Image.{image_size}
use Rattle.adapter_requests.specs.States.{payload_id, place_after, stored_by, DecidesPlace}
use Rattle.lent_requests.proofs.Laws.{place-refused, place-accepted}
use Rattle.lent_requests.proofs.set_place.Goals as goal

-- the place at the payload's id
at-payload : (t : List Place) (b : List ℕ) {p : Place} {id : ℕ} → p ≡ get_or t id unused → id ≡ payload_id b → p ≡ get_or t (payload_id b) unused
at-payload t b e i = e ∙ ap (λ (k : ℕ). get_or t k unused) i

pub returns-in_err-check_place : goal.returns-in_err-check_place
returns-in_err-check_place c =
    let b = c.args.payload.now in
    let is = at-payload c.args.t.now b c.look_up-place.ensures c.payload_id-id.ensures in
    let e = c.in_err-check_place.field-0.0 in
    let p = err_from_is_err_and c.from_residual.result c.from_residual.ensures.1 in
    rw (p.1, p.2)
    (place-refused c.args.group c.args.attr c.args.t.now b e
    (subst (λ (p : Place). DecidesPlace c.args.group image_size p c.args.attr b (Err e)) is c.in_err-check_place.ensures.decides))

pub returns : goal.returns
returns c =
    let b = c.args.payload.now in
    let after = c.place_after-after.result in
    let is = at-payload c.args.t.now b c.look_up-place.ensures c.payload_id-id.ensures in
    let stored : stored_by c.args.group after (get_or c.args.t.now c.payload_id-id.result.0 unused) ≡ after
    = ap (stored_by c.args.group after) (sym c.look_up-place.ensures) ∙ c.place_after-after.ensures.2 in
    let new : c.change_place.new.t ≡ set c.args.t.now (payload_id b) after
    = c.change_place.ensures ∙ ap (set c.args.t.now c.payload_id-id.result.0) stored ∙ ap (λ (k : ℕ). set c.args.t.now k after) c.payload_id-id.ensures in
    rw new
    (place-accepted c.args.group c.args.attr c.args.t.now b
    (subst (λ (p : Place). DecidesPlace c.args.group image_size p c.args.attr b (Ok tt)) is c.in_ok-check_place.ensures.decides) after
    (subst (λ (p : Place). place_of after ≡ place_after c.args.group b (place_of p)) is c.place_after-after.ensures.0)
    (subst (λ (p : Place). Canonical p → Canonical after) is c.place_after-after.ensures.1))
