-- The queued records, and one for each of the other two.
use Rattle.record_take.proofs.{Laws.count-is}
use Rattle.record_take.proofs.pending.Goals as goal

pub returns-clause-count : goal.returns-clause-count
returns-clause-count c = λ order slots h. count-is order _ slots _ _ _ _ _ _ h c.queued.ensures c.is_there.ensures c.is_there-2.ensures c.from.ensures c.from-2.ensures
