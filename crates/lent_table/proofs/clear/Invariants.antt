-- `lent_table::clear`: the first i places are free.
use Rattle.std.proofs.Common.{◌≡◌, replicate}
use Rattle.list_image.specs.Image.{image_size}
use Rattle.lent_table.specs.Table.{restored}
use Rattle.lent_table.proofs.clear.Given as goal

abbrev pub invariant-loop-i : goal.invariant-loop-i
invariant-loop-i l = l.t ≡ restored l.fn.t (replicate image_size 0) l.i
