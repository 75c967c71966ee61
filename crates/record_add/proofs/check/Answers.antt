use Rattle.numbers.proofs.Basics.{◌≡◌, sym, ◌∙◌, true, ◌+◌, ◌*◌, ◌≤◌, arith}
use Rattle.rules.specs.{Bytes.part, State.Record, State.kind, State.subclass, Requests.kind_accepted, Requests.wants}
use Rattle.record_add.proofs.Laws.{kind-known, kind_for, queue-wants, single-wants, check-next, check-stops, check-ends}
use Rattle.record_add.specs.declared.Kind.TheVariants.{Other}
use Rattle.record_add.proofs.check.Goals as goal
use Rattle.record_add.proofs.check.Goals.{in-Io, in-Service}

pub returns-in-Other : goal.returns-in-Other
unfolding kind_accepted
returns-in-Other c =
    let r : Record = part (c.loop-place.place * 72) 72 c.args.b.now in
    let k : kind r ≡ kind_for Other = kind-known (kind r) (subclass r) _ c.in-Other.ensures in
    sym (c.loop-place.invariant.1 ∙ check-stops c.loop-place.place c.args.n _ c.args.b.now c.loop-place-test.true (rw k))

pub loop-place-preserved : goal.loop-place-preserved
loop-place-preserved c =
    let r : Record = part (c.loop-place.place * 72) 72 c.args.b.now in
    let u : (kind_accepted (kind r) ≡ true) × (c.match-kind_at.wanted ≡ c.loop-place.wanted + wants (kind r)) × (c.match-kind_at.wanted ≤ c.loop-place.wanted + 1) =
    elim c.match-kind_at.branch [ in-Io w ↦ let g = queue-wants _ _ _ c.kind_at.ensures w.in-Io.is in (g.0, omega arith, omega arith) | in-Service w ↦ let g = single-wants _ _ _ c.kind_at.ensures w.in-Service.is in (g.0, omega arith, omega arith) ] in
    (omega arith, c.loop-place.invariant.1 ∙ check-next c.loop-place.place c.args.n _ c.args.b.now _ c.loop-place-test.true u.0 u.1)

pub returns : goal.returns
returns c = sym (c.loop-place.invariant.1 ∙ check-ends c.loop-place.place c.args.n _ c.args.b.now c.loop-place-test.false)
