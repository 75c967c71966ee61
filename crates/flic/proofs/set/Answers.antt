-- The table's length is looked at first; then each class of requests does what the machine does. What an injection leaves in
-- the device record is found among the facts (`grind`), not named: code that notes otherwise then fails at that goal.
use Rattle.numbers.proofs.Basics.{refl, ◌∙◌, sym, get_or, arith, eq-eqb, ne_eqb}
use Rattle.std.specs.Prelude.{Ok, Err}
use Rattle.std.proofs.lemmas.Result.{err_from_is_err_and}
use Rattle.rules.specs.Machine.{set_attr}
use Rattle.rules.proofs.{Checks.chosen, Checks.passed, Lists.all-get}
use Rattle.adapters.specs.{Values.Canonical, Values.unused, Values.injected_device}
use Rattle.adapters.proofs.Laws.{canonical-unused}
use Rattle.calls.proofs.Limits.{right-length, wrong-length}
use Rattle.flic.proofs.Promises.{enqueued, cleared, cleared-io, of-group, wrong-promises, record-promises, noted-promises, place-promises, modes-promises}
use Rattle.flic.proofs.set.Goals as goal

pub returns-then-t-ne-PLACES : goal.returns-then-t-ne-PLACES
returns-then-t-ne-PLACES c =
    let a = c.args in
    (wrong-promises a.c.now a.d.now a.t.now a.payload.now (wrong-length a.c.now _ c.if-t-ne-PLACES.true) (set_attr a.group a.attr) tt)

pub enqueue_irqs-requires : goal.enqueue_irqs-requires
enqueue_irqs-requires c = (omega arith, (c.requires (right-length c.args.c.now _ c.if-t-ne-PLACES.false)).ready)

pub returns-then-group-eq-ENQUEUE : goal.returns-then-group-eq-ENQUEUE
returns-then-group-eq-ENQUEUE c =
    let a = c.args in
    let right = right-length a.c.now _ c.if-t-ne-PLACES.false in
    let e = c.enqueue_irqs.ensures in
    record-promises a.group a.attr a.c.now _ a.d.now a.t.now a.payload.now _ right (c.requires right) e.held.1
    (of-group a.c.now _ a.attr a.payload.now _ 2 a.group c.if-group-eq-ENQUEUE.true (enqueued a.c.now _ a.attr a.payload.now c.enqueue_irqs.result e.held.0 e.kept e.answer))

pub clear_irqs-requires : goal.clear_irqs-requires
clear_irqs-requires c = (c.requires (right-length c.args.c.now _ c.if-t-ne-PLACES.false)).ready

pub returns-then-group-eq-CLEAR_IRQS : goal.returns-then-group-eq-CLEAR_IRQS
returns-then-group-eq-CLEAR_IRQS c =
    let a = c.args in
    let right = right-length a.c.now _ c.if-t-ne-PLACES.false in
    let e = c.clear_irqs.ensures in
    record-promises a.group a.attr a.c.now _ a.d.now a.t.now a.payload.now _ right (c.requires right) e.others.1
    (of-group a.c.now _ a.attr a.payload.now _ 3 a.group c.if-group-eq-CLEAR_IRQS.true (cleared a.c.now _ a.attr a.payload.now c.clear_irqs.result e.held e.kept e.others.0 e.answer))

pub clear_io-requires : goal.clear_io-requires
clear_io-requires c = (c.requires (right-length c.args.c.now _ c.if-t-ne-PLACES.false)).ready

pub returns-then-group-eq-CLEAR_IO_IRQ : goal.returns-then-group-eq-CLEAR_IO_IRQ
returns-then-group-eq-CLEAR_IO_IRQ c =
    let a = c.args in
    let right = right-length a.c.now _ c.if-t-ne-PLACES.false in
    let e = c.clear_io.ensures in
    record-promises a.group a.attr a.c.now _ a.d.now a.t.now a.payload.now _ right (c.requires right) e.others.2
    (of-group a.c.now _ a.attr a.payload.now _ 8 a.group c.if-group-eq-CLEAR_IO_IRQ.true (cleared-io a.c.now _ a.attr a.payload.now c.clear_io.result e.held e.kept e.others.1 e.answer))

pub answer_inject-requires : goal.answer_inject-requires
answer_inject-requires c =
    let v = c.requires (right-length c.args.c.now _ c.if-t-ne-PLACES.false) in
    (omega arith, v.ready, rw c.look_up-place.ensures (all-get Canonical c.args.t.now c.args.attr unused v.places canonical-unused))

pub returns-in_err-appended : goal.returns-in_err-appended
returns-in_err-appended c =
    let a = c.args in
    let right = right-length a.c.now _ c.if-t-ne-PLACES.false in
    let place = get_or a.t.now a.attr unused in
    let f = rw (c.read_device-device.ensures, c.look_up-place.ensures) at c.in_err-appended.ensures in
    let p = err_from_is_err_and c.from_residual.result c.from_residual.ensures.1 in
    rw (p.1, p.2)
    (noted-promises a.attr a.c.now _ a.d.now a.t.now a.payload.now (Err c.in_err-appended.field-0.0) right (c.requires right) (record { injected = f.injected; held = f.held; singles = f.others.0; ais = f.others.1; kept = f.kept }) a.group c.if-group-eq-AIRQ_INJECT.true _
    (passed _ (injected_device a.c.now.ais a.d.now place) a.d.now refl ∙ grind arith))

pub note_injection-requires : goal.note_injection-requires
note_injection-requires c =
    let v = c.requires (right-length c.args.c.now _ c.if-t-ne-PLACES.false) in
    (rw (sym c.look_up-place.ensures) at (all-get Canonical c.args.t.now c.args.attr unused v.places canonical-unused)).isc_small

pub returns-then-appended-eq1 : goal.returns-then-appended-eq1
returns-then-appended-eq1 c =
    let a = c.args in
    let right = right-length a.c.now _ c.if-t-ne-PLACES.false in
    let place = get_or a.t.now a.attr unused in
    let f = rw (c.read_device-device.ensures, c.look_up-place.ensures) at c.in_ok-appended.ensures in
    noted-promises a.attr a.c.now _ a.d.now a.t.now a.payload.now (Ok _) right (c.requires right) (record { injected = f.injected; held = f.held; singles = f.others.0; ais = f.others.1; kept = f.kept }) a.group c.if-group-eq-AIRQ_INJECT.true _
    (chosen _ (injected_device a.c.now.ais a.d.now place) a.d.now (eq-eqb _ 1 c.if-appended-eq1.true) ∙ grind arith)

pub returns-else-appended-eq1 : goal.returns-else-appended-eq1
returns-else-appended-eq1 c =
    let a = c.args in
    let right = right-length a.c.now _ c.if-t-ne-PLACES.false in
    let place = get_or a.t.now a.attr unused in
    let f = rw (c.read_device-device.ensures, c.look_up-place.ensures) at c.in_ok-appended.ensures in
    noted-promises a.attr a.c.now _ a.d.now a.t.now a.payload.now (Ok _) right (c.requires right) (record { injected = f.injected; held = f.held; singles = f.others.0; ais = f.others.1; kept = f.kept }) a.group c.if-group-eq-AIRQ_INJECT.true _
    (passed _ (injected_device a.c.now.ais a.d.now place) a.d.now (ne_eqb _ 1 c.if-appended-eq1.false) ∙ grind arith)

pub returns-then-on_place : goal.returns-then-on_place
returns-then-on_place c =
    let a = c.args in
    let right = right-length a.c.now _ c.if-t-ne-PLACES.false in
    place-promises a.group a.attr a.c.now a.d.now a.t.now a.payload.now c.set_place.result right (c.requires right) _ c.set_place.ensures

pub returns : goal.returns
returns c =
    let a = c.args in
    let right = right-length a.c.now _ c.if-t-ne-PLACES.false in
    modes-promises a.group a.attr a.c.now a.d.now a.t.now a.payload.now c.set_modes.result right (c.requires right) _ c.set_modes.ensures
