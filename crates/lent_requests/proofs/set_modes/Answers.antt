-- `lent_requests::set_modes` meets its contract: refused by the check, or accepted with the record that it asks for.
use Rattle.std.proofs.lemmas.Result.{err_from_is_err_and}
use Rattle.lent_requests.proofs.Laws.{modes-refused, modes-accepted}
use Rattle.lent_requests.proofs.set_modes.Goals as goal

pub returns-in_err-check_modes : goal.returns-in_err-check_modes
returns-in_err-check_modes c =
    let p = err_from_is_err_and c.from_residual.result c.from_residual.ensures.1 in
    rw (p.1, p.2) (modes-refused c.args.ais c.args.group c.args.attr c.args.d.now c.args.payload.now _ c.in_err-check_modes.ensures.decides)

pub returns : goal.returns
returns c = rw c.change_modes.ensures
    (modes-accepted c.args.ais c.args.group c.args.attr c.args.d.now c.args.payload.now c.in_ok-check_modes.ensures.decides)
