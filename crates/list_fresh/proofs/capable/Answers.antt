-- The flag is read where there is one.
use Rattle.numbers.proofs.Basics.{arith}
use Rattle.list_fresh.proofs.capable.Goals as goal

pub returns-then-list-lt20 : goal.returns-then-list-lt20
returns-then-list-lt20 c = (λ h. absurd (omega arith))

pub returns : goal.returns
returns c = (λ h. rw c.read_be.ensures.0)
