-- `adapter_requests::check_flag` meets its contract.
use borrow.Author.Tests.{eq-eqb}
use Rattle.rules.specs.{Bytes.choose, Requests.request, Requests.sets_apf}
use Rattle.rules.proofs.Checks.{passes}
use Rattle.adapter_requests.specs.States.{modes_after}
use Rattle.adapter_requests.proofs.{Laws.bad-attr}
use Rattle.adapter_requests.proofs.check_flag.Goals as goal

pub returns-then-attr-ne0 : goal.returns-then-attr-ne0
returns-then-attr-ne0 c = unfold request in λ L s b. (bad-attr _ c.if-attr-ne0.true, bad-attr _ c.if-attr-ne0.true)

pub returns : goal.returns
returns c = unfold request sets_apf modes_after choose in λ L s b.
    (passes _ _ _ (eq-eqb _ 0 c.if-attr-ne0.false), passes _ _ _ (eq-eqb _ 0 c.if-attr-ne0.false))
