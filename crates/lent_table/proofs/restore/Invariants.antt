-- `lent_table::restore`: the first i places are those of the image.
use Rattle.std.proofs.Common.{◌≡◌}
use Rattle.lent_table.specs.Table.{restored}
use Rattle.lent_table.proofs.restore.Given as goal

abbrev pub invariant-loop-i : goal.invariant-loop-i
invariant-loop-i l = l.t ≡ restored l.fn.t l.all l.i
