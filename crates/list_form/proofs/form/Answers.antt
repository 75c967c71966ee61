-- `list_form::form` meets its contract: the checks in order.
use Rattle.numbers.proofs.{Basics.arith, Laws.flag}
use Rattle.list_form.proofs.Laws.{short, other_total, no_flag, many, no_offsets, ill_formed, not_capable, good_form}
use Rattle.list_form.proofs.form.Goals.{then-not-offsets-via-then-not-offsets, then-not-offsets-via-else-not-offsets+then-not-slots_formed}
use Rattle.list_form.proofs.form.Goals as goal

pub returns-then-list-lt20 : goal.returns-then-list-lt20
returns-then-list-lt20 c = short _ _ (omega arith)

pub returns-then-read_be-list : goal.returns-then-read_be-list
returns-then-read_be-list c = other_total _ _ (omega arith) (λ e. omega arith)

pub returns-then-flag-gt1 : goal.returns-then-flag-gt1
returns-then-flag-gt1 c = no_flag _ _ (omega arith) (omega arith) (omega arith)

pub returns-then-count-gt-MOST_REQUESTS : goal.returns-then-count-gt-MOST_REQUESTS
returns-then-count-gt-MOST_REQUESTS c = many _ _ (omega arith) (omega arith) (omega arith) (omega arith)

pub returns-then-not-offsets : goal.returns-then-not-offsets
returns-then-not-offsets c =
    elim c.then-not-offsets.branch [
      | then-not-offsets-via-then-not-offsets w ↦ no_offsets _ _ (omega arith) (omega arith) (omega arith) (omega arith) (cc)
      | then-not-offsets-via-else-not-offsets+then-not-slots_formed w ↦ ill_formed _ _ (omega arith) (omega arith) (omega arith) (omega arith) (cc) (cc)
    ]

pub returns-then-flag-from : goal.returns-then-flag-from
returns-then-flag-from c = not_capable _ _ (omega arith) (omega arith) (omega arith) (omega arith) (cc) (cc) (λ e. omega (arith, c.from.ensures, flag c.args.ais))

pub returns : goal.returns
returns c = good_form _ _ (omega arith) (omega arith) (omega arith) (omega arith) (cc) (cc) (omega (arith, c.from.ensures, flag c.args.ais))
