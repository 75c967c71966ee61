-- `xive::initialise` meets its contract.
use Rattle.xive.proofs.Laws.{initialise-short, initialise-unknown, initialise-done}
use Rattle.xive.proofs.initialise.Goals as goal

pub returns-then-payload-lt-WORD_BYTES : goal.returns-then-payload-lt-WORD_BYTES
returns-then-payload-lt-WORD_BYTES c = initialise-short _ _ _ c.if-payload-lt-WORD_BYTES.true

pub returns-then-number : goal.returns-then-number
returns-then-number c = initialise-unknown _ _ _ c.if-payload-lt-WORD_BYTES.false c.if-number.true

pub returns : goal.returns
returns c =
    let word = c.read_doubleword-word.ensures.0 in
    rw c.store.ensures (initialise-done _ _ _ c.if-payload-lt-WORD_BYTES.false c.if-number.false _ (rw (← word) c.initialised_with.ensures))
