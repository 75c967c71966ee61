-- The type is tested against the numbers of the rules.
use Rattle.numbers.proofs.Basics.{◌≡◌, arith, le-leb, lt-leb, ne_eqb}
use Rattle.rules.specs.{Bytes.choose}
use Rattle.rules.specs.State as rules
use Rattle.record_add.specs.Cases.{as_case}
use Rattle.record_add.proofs.{Laws.kind-at-is}
use Rattle.record_add.proofs.kind_at.Goals as goal

pub returns-then-t-le4294836223 : goal.returns-then-t-le4294836223
unfolding as_case choose rules.kind_of
returns-then-t-le4294836223 c = rw (kind-at-is c.args.at _ c.args.b.now c.read_doubleword-t.ensures.0, le-leb _ 0xfffdffff c.if-t-le4294836223.true, c.subclass_at.ensures)

pub returns-in-4294836229 : goal.returns-in-4294836229
unfolding as_case choose rules.kind_of
returns-in-4294836229 c = rw (kind-at-is c.args.at _ c.args.b.now c.read_doubleword-t.ensures.0, c.in-4294836229.is)

pub returns-in-4294840320 : goal.returns-in-4294840320
unfolding as_case choose rules.kind_of
returns-in-4294840320 c = rw (kind-at-is c.args.at _ c.args.b.now c.read_doubleword-t.ensures.0, c.in-4294840320.is)

pub returns-in-4294910977 : goal.returns-in-4294910977
unfolding as_case choose rules.kind_of
returns-in-4294910977 c = rw (kind-at-is c.args.at _ c.args.b.now c.read_doubleword-t.ensures.0, c.in-4294910977.is)

pub returns-in_default-2 : goal.returns-in_default-2
unfolding as_case choose rules.kind_of
returns-in_default-2 c =
    let i : c.read_doubleword-t.result ≡ 0xfffe0005 → ⊥ = omega arith in
    let j : c.read_doubleword-t.result ≡ 0xfffe1000 → ⊥ = omega arith in
    let k : c.read_doubleword-t.result ≡ 0xffff2401 → ⊥ = omega arith in
    rw (kind-at-is c.args.at _ c.args.b.now c.read_doubleword-t.ensures.0, lt-leb _ 0xfffdffff c.if-t-le4294836223.false, ne_eqb _ 0xfffe0005 i, ne_eqb _ 0xfffe1000 j, ne_eqb _ 0xffff2401 k)
