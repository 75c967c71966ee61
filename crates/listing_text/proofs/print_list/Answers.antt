-- What comes of the list decides the text.
use Rattle.numbers.proofs.Basics.{refl, ◌∙◌, ne_eqb}
use Rattle.answers.proofs.Laws.{not-0}
use Rattle.rules.proofs.Checks.{chosen, passed}
use Rattle.listing_text.proofs.{Laws.whole, Laws.too_long, Laws.printed-is}
use Rattle.listing_text.proofs.print_list.Goals as goal

pub returns-then-input-gt-MOST_BYTES : goal.returns-then-input-gt-MOST_BYTES
returns-then-input-gt-MOST_BYTES c =
    let w = whole _ (rw c.code.ensures at c.write_refusal.ensures) (too_long _ c.if-input-gt-MOST_BYTES.true) in
    record { text = w.0; fits = w.1 }

pub returns-in-Err : goal.returns-in-Err
returns-in-Err c =
    let w = whole _ (rw (c.code-in-Err.ensures, c.refusal.ensures) at c.write_refusal-in-Err.ensures)
    (printed-is _ _ _ c.if-input-gt-MOST_BYTES.false c.in-Err.ensures.answer ∙ passed _ _ _ (ne_eqb _ 0 (not-0 _))) in
    record { text = w.0; fits = w.1 }

pub returns : goal.returns
returns c =
    let w = whole _ c.write_pending.ensures (printed-is _ _ _ c.if-input-gt-MOST_BYTES.false c.in_default.ensures.answer ∙ chosen _ _ _ refl) in
    record { text = w.0; fits = w.1 }
