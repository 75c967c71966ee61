-- `lent_table::snapshot`: the image has the first i places.
use Rattle.std.proofs.Common.{◌≡◌}
use Rattle.lent_table.specs.Table.{snap_to}
use Rattle.lent_table.proofs.snapshot.Given as goal

abbrev pub invariant-loop-i : goal.invariant-loop-i
invariant-loop-i l = l.all ≡ snap_to l.t l.i
