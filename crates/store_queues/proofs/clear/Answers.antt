-- Where nothing is queued nothing has to be done.
use Rattle.store_queues.proofs.{Laws.clear-already}
use Rattle.store_queues.proofs.clear.Goals as goal

pub returns-then-c-eq0 : goal.returns-then-c-eq0
returns-then-c-eq0 c = clear-already c.args.o.now c.args.c.now c.requires c.if-c-eq0.true
