-- With a table of another length everything stays; else every array, the device record and the table are made fresh.
use Rattle.numbers.proofs.Basics.{◌∙◌, sym}
use Rattle.calls.proofs.Sized.{paper-sized}
use Rattle.rules.specs.State.{paper_limits}
use Rattle.flic.proofs.Promises.{wrong-makes, make-promises}
use Rattle.flic.proofs.flic_make.Goals as goal

pub returns-then-t-ne-PLACES : goal.returns-then-t-ne-PLACES
returns-then-t-ne-PLACES c =
    let a = c.args in
    rw c.from.ensures (wrong-makes paper_limits a.ais a.c.now a.d.now a.t.now (λ e. c.if-t-ne-PLACES.true (e ∙ paper-sized.places)))

pub returns : goal.returns
returns c =
    let a = c.args in
    rw (c.from-2.ensures, c.clear.ensures, c.store_device.ensures, c.fresh_device.ensures)
    (make-promises a.c.now _ a.d.now a.t.now (c.if-t-ne-PLACES.false ∙ sym paper-sized.places) c.fresh.ensures.fresh.0 c.fresh.ensures.fresh.1)
