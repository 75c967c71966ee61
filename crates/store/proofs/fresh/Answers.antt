-- Nothing is queued, and neither service record nor machine check is there.
use Rattle.numbers.proofs.Basics.{◌∙◌}
use Rattle.store.proofs.{Laws.none_left}
use Rattle.store.proofs.fresh.Goals as goal

pub returns-clause-fresh : goal.returns-clause-fresh
returns-clause-fresh c = (
  c.reset.ensures.held,
  λ slots. none_left _ _ slots _ (c.reset.ensures.queue slots) (c.remove-2.ensures.1 ∙ c.remove.ensures.0) c.remove-2.ensures.0,
)
