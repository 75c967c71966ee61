-- Every slot and both single records have 72 bytes.
use Rattle.numbers.proofs.Basics.{arith}
use Rattle.record_take.proofs.{Laws.whole-listing}
use Rattle.record_take.proofs.pending_whole.Goals as goal

pub returns-clause-whole : goal.returns-clause-whole
returns-clause-whole c = whole-listing _ _ _ _ c.requires c.name_slots.ensures (omega arith) (omega arith)
