-- The number that the first i bytes say, below 256 ^ i.
use Rattle.numbers.proofs.Basics.{◌≡◌, ◌^◌, ◌<◌, take, drop}
use Rattle.rules.specs.Bytes.{number}
use Rattle.numbers.proofs.read_be.Given as goal

abbrev pub invariant-loop-x : goal.invariant-loop-x
invariant-loop-x l = (l.v ≡ number (take l.x-index (drop l.at l.b))) × (l.v < 256 ^ l.x-index)
