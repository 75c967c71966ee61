-- Only bytes 4 and 16 of an interrupt are not 0.
use Rattle.record_add.proofs.{Laws.interrupt-bytes}
use Rattle.record_add.proofs.interrupt.Goals as goal

pub returns : goal.returns
returns c = interrupt-bytes c.args.isc.0 c.requires
