-- Machine check, service record, then the next of the queues; each is handed out and then removed.
use Rattle.numbers.proofs.Basics.{◌≡◌, length, lt-leb, rules}
use Rattle.rules.specs.Take.{takes}
use Rattle.rules.proofs.Checks.{fails, passed}
use Rattle.store.specs.Memory.{pending_in}
use Rattle.answers.specs.declared.Refusal.TheVariants.{Fault}
use Rattle.answers.proofs.Laws.{refuses}
use Rattle.record_take.proofs.Laws.{service-there, service-absent, mchk-there, mchk-absent, NoMchk, NoService, no-mchk, no-service, hands-mchk, hands-service, hands-nothing, hands-queued, hands, hands_none}
use Rattle.record_take.proofs.take.Goals as goal
use Rattle.record_take.proofs.take.Goals.{Joined-else-mcheck, Joined-else-external, else-mcheck-via-then-mcheck+else-is_there, else-mcheck-via-else-mcheck, else-external-via-then-external+else-is_there-2, else-external-via-else-external}

-- where neither machine check nor service record was handed out
no_mchk : (c : Joined-else-mcheck) → NoMchk (pending_in c.args.c.now) c.args.mcheck
no_mchk c = elim c.else-mcheck.branch [
  | else-mcheck-via-then-mcheck+else-is_there w ↦ no-mchk _ _ _ _ (mchk-absent _ _ w.is_there.ensures w.if-is_there.false) _
  | else-mcheck-via-else-mcheck w ↦ passed _ _ _ w.if-mcheck.false
]

no_serv : (c : Joined-else-external) → NoService (pending_in c.args.c.now) c.args.external
no_serv c = elim c.else-external.branch [
  | else-external-via-then-external+else-is_there-2 w ↦ no-service _ _ _ _ (service-absent _ _ w.is_there-then-external.ensures w.if-is_there-2.false) _
  | else-external-via-else-external w ↦ passed _ _ _ w.if-external.false
]

pub returns-then-out-lt72-clause-answer : goal.returns-then-out-lt72-clause-answer
unfolding takes
returns-then-out-lt72-clause-answer c = λ L s e. refuses L s _ _ Fault _ e (fails _ _ _ (lt-leb 72 _ c.if-out-lt72.true))

pub returns-then-is_there-clause-answer : goal.returns-then-is_there-clause-answer
returns-then-is_there-clause-answer c =
    let l : length c.read.result ≡ 72 = search rules in
    λ L s e. hands L s _ _ _ _ _ e c.if-out-lt72.false _ _ _ _ l
    (hands-mchk _ _ _ _ _ _ _ _ _ c.if-mcheck.true (mchk-there _ _ _ c.is_there.ensures c.if-is_there.true c.read.ensures) c.remove.ensures.0 c.remove.ensures.1)
    c.hand-count.ensures

pub returns-then-is_there-2-clause-answer : goal.returns-then-is_there-2-clause-answer
returns-then-is_there-2-clause-answer c =
    let l : length c.read-then-is_there-2.result ≡ 72 = search rules in
    λ L s e. hands L s _ _ _ _ _ e c.if-out-lt72.false _ _ _ _ l
    (hands-service _ _ _ _ _ _ _ (no_mchk (goal.at.returns-then-is_there-2-clause-answer c).Joined-else-mcheck) _ _ c.if-external.true (service-there _ _ _ c.is_there-then-external.ensures c.if-is_there-2.true c.read-then-is_there-2.ensures) c.remove-then-is_there-2.ensures.0 c.remove-then-is_there-2.ensures.1)
    c.hand-count-then-is_there-2.ensures

pub returns-in_default-clause-answer : goal.returns-in_default-clause-answer
returns-in_default-clause-answer c =
    λ L s e. hands_none L s _ _ _ _ _ e c.if-out-lt72.false (hands-nothing _ _ _ _ _ _ _ (no_mchk (goal.at.returns-in_default-clause-answer c).Joined-else-mcheck) (no_serv (goal.at.returns-in_default-clause-answer c).Joined-else-external) (c.in_default.ensures.hands _))

pub returns-clause-answer : goal.returns-clause-answer
returns-clause-answer c =
    let l : length c.read-2.result ≡ 72 = search rules in
    λ L s e. hands L s _ _ _ _ _ e c.if-out-lt72.false _ _ _ _ l
    (hands-queued _ _ _ _ _ _ _ (no_mchk (goal.at.returns-clause-answer c).Joined-else-mcheck) (no_serv (goal.at.returns-clause-answer c).Joined-else-external) c.in-Some.q c.in-Some.at _ _ _ (c.in-Some.ensures.hands _) c.read-2.ensures (c.remove-2.ensures.queue _))
    c.hand-count-2.ensures
