-- The record lies from its start, its flag is 1, and the other one stays.
use Rattle.numbers.proofs.Basics.{arith}
use Rattle.store_singles.proofs.Laws.{put_one}
use Rattle.store_singles.proofs.put.Goals as goal

pub returns : goal.returns
returns c = let a = c.args in
    rw (c.flag.ensures.0, rw c.start.ensures.0 at c.save.ensures) (put_one a.g.now a.r a.which (omega arith) (omega arith))
