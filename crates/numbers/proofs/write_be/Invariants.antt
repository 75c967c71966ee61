-- The n - i lowest bytes of v stand in b from index at + i.
use Rattle.numbers.proofs.Basics.{◌≡◌, ◌+◌, ◌-◌, ◌/◌, ◌^◌, paste}
use Rattle.rules.specs.Bytes.{bytes}
use Rattle.numbers.proofs.write_be.Given as goal

abbrev pub invariant-loop-i : goal.invariant-loop-i
invariant-loop-i l = (l.w ≡ l.v / 256 ^ (l.n - l.i)) × (l.b ≡ paste l.initial.b (l.at + l.i) (bytes (l.n - l.i) l.v) (l.n - l.i))
