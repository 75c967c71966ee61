-- `adapter_requests::check_place` meets its contract: REGISTER's code or MODIFY's.
use Rattle.adapter_requests.proofs.{Laws.on-place-7}
use Rattle.adapter_requests.proofs.check_place.Goals as goal

pub returns-then-group-eq-ADAPTER_REGISTER : goal.returns-then-group-eq-ADAPTER_REGISTER
returns-then-group-eq-ADAPTER_REGISTER c = record { decides = rw c.if-group-eq-ADAPTER_REGISTER.true c.check_register.ensures.decides; asked = rw c.if-group-eq-ADAPTER_REGISTER.true c.check_register.ensures.asked }

pub returns : goal.returns
returns c = record { decides = rw (on-place-7 _ c.requires c.if-group-eq-ADAPTER_REGISTER.false) c.check_modify.ensures.decides; asked = rw (on-place-7 _ c.requires c.if-group-eq-ADAPTER_REGISTER.false) c.check_modify.ensures.asked }
