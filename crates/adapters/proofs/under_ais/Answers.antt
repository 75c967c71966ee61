-- `adapters::under_ais` meets its contract, by the tests.
use Rattle.adapters.proofs.under_ais.Goals as goal

pub returns-then-p : goal.returns-then-p
returns-then-p c = rw (c.if-ais.true, c.if-p.true) c.has_bit.ensures

pub returns-else-p : goal.returns-else-p
returns-else-p c = rw (c.if-ais.true, c.if-p.false)

pub returns-else-ais : goal.returns-else-ais
returns-else-ais c = rw c.if-ais.false
