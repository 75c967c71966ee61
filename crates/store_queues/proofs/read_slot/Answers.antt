-- The record's bytes are those of the slot.
use Rattle.store_queues.specs.Slots.{slot}
use Rattle.store_queues.proofs.read_slot.Goals as goal

pub returns : goal.returns
returns c = unfold slot in rw c.from.ensures at c.load.ensures
