use Rattle.numbers.proofs.Basics.{sym, ◌∙◌, arith}
use Rattle.record_add.proofs.{Laws.add-next, Laws.add-ends, Laws.want-next}
use Rattle.record_add.proofs.add_all.Goals as goal

pub loop-i-preserved : goal.loop-i-preserved
loop-i-preserved c =
    let a = c.args in
    let v = c.loop-i.invariant in
    let h = c.add_one-held.ensures.held in (
      h.1,
      h.0,
      omega (arith, v.0, v.2, h.1, h.2, want-next c.loop-i.i a.n a.b.now c.loop-i-test.true),
      v.3 ∙ add-next c.loop-i.i a.n a.b.now _ _ c.loop-i-test.true c.add_one-held.ensures.pending,
      c.add_one-held.ensures.others ∙ v.4,
    )

pub add_one-held-requires : goal.add_one-held-requires
add_one-held-requires c =
    let v = c.loop-i.invariant in
    (omega arith, v.0, v.1, omega (arith, v.2, want-next c.loop-i.i c.args.n c.args.b.now c.loop-i-test.true))

pub returns-clause-pending : goal.returns-clause-pending
returns-clause-pending c = sym (c.loop-i.invariant.3 ∙ add-ends c.loop-i.i c.args.n c.args.b.now _ c.loop-i-test.false)
