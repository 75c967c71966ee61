-- One word of the slot is the subchannel's id and number.
use Rattle.numbers.proofs.Basics.{ap, ◌∙◌, ℕ, ◌+◌, ◌*◌}
use Rattle.store_search.proofs.{Laws.is-for-at}
use Rattle.store_search.proofs.is_for.Goals as goal

pub returns : goal.returns
returns c =
    let a = c.args in
    let w = c.read_word.ensures in
    c.eq.ensures ∙ is-for-at a.b.now a.s a.word.0 _ c.read_word.result (ap (λ (n : ℕ). n * 72 + 8) c.from.ensures) w.value w.halves.1
