-- The invariant: what is left to apply, to the values as they are now, comes to what all comes to.
use Rattle.numbers.proofs.Basics.{◌≡◌}
use Rattle.rules.specs.MoveList.{requests_in, applies}
use Rattle.store_queues.specs.Queues.{Held}
use Rattle.store.specs.Memory.{pending_in}
use Rattle.list_image.specs.Places.{Imaged}
use Rattle.list_form.specs.Form.{slots_of}
use Rattle.list_form.proofs.Laws.{slots_from}
use Rattle.calls.specs.Inner.{limits_from, image_state}
use Rattle.list_play.proofs.apply_all.Given as goal

abbrev pub invariant-loop-i : goal.invariant-loop-i
invariant-loop-i l =
    Held l.c.order l.c.counts × Imaged l.image × (l.c.ais ≡ l.initial.c.ais)
    × (applies (limits_from l.bounds.places l.bounds.room) 0 (image_state l.initial.c.ais l.bounds.places l.initial.image (pending_in l.initial.c) l.initial.device) (requests_in l.list (slots_of l.list))
    ≡ applies (limits_from l.bounds.places l.bounds.room) l.i (image_state l.initial.c.ais l.bounds.places l.image (pending_in l.c) l.device) (requests_in l.list (slots_from l.i l.count l.list)))
