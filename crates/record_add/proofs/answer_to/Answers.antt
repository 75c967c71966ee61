-- By the check, then by the room.
use Rattle.numbers.proofs.Basics.{arith, le-leb, lt-leb}
use Rattle.std.proofs.lemmas.Result.{err_from_is_err_and}
use Rattle.rules.specs.Bytes.{choose}
use Rattle.record_add.specs.Cases.{answer_to}
use Rattle.record_add.proofs.Laws.{good-few}
use Rattle.record_add.proofs.answer_to.Goals as goal

pub overflow_add-queued : goal.overflow_add-queued
overflow_add-queued c = omega (arith, c.requires.2, good-few c.args.n _ c.args.b.now c.in_ok-wanted.ensures)

pub returns-in_err-wanted : goal.returns-in_err-wanted
unfolding answer_to
returns-in_err-wanted c =
    let p = err_from_is_err_and c.from_residual.result c.from_residual.ensures.1 in
    rw (p.1, p.2, ← c.in_err-wanted.ensures)

pub returns-then-room-queued : goal.returns-then-room-queued
unfolding answer_to choose
returns-then-room-queued c = rw (← c.in_ok-wanted.ensures, lt-leb _ _ c.if-room-queued.true)

pub returns : goal.returns
unfolding answer_to choose
returns c = rw (← c.in_ok-wanted.ensures, le-leb _ _ c.if-room-queued.false)
