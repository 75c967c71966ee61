-- `adapter_requests::payload_id` meets its contract.
use Rattle.numbers.proofs.Basics.{sym, ◌∙◌, lt-leb}
use Rattle.rules.proofs.Checks.{passed}
use Rattle.adapter_requests.specs.States.{payload_id}
use Rattle.adapter_requests.proofs.{Laws.id-there}
use Rattle.adapter_requests.proofs.payload_id.Goals as goal

pub returns-then-payload-lt4 : goal.returns-then-payload-lt4
returns-then-payload-lt4 c = unfold payload_id in sym (passed _ _ _ (lt-leb 4 _ c.if-payload-lt4.true))

pub returns : goal.returns
returns c = c.read_be.ensures.0 ∙ sym (id-there c.args.payload.now c.if-payload-lt4.false)
