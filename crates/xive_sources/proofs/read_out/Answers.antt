-- `xive_sources::read_out` meets its contract.
use mathlib.Core.Path.{refl}
use borrow.Author.Tests.{eq-eqb, ne_eqb}
use Rattle.xive_sources.proofs.Laws.{masked-values, targeted-values}
use Rattle.xive_sources.proofs.read_out.Goals as goal

pub returns-then-masked : goal.returns-then-masked
returns-then-masked c =
    (refl, refl, λ x h. rw (c.level_of.ensures, eq-eqb _ 0 c.if-masked.true) (masked-values _ x h c.if-masked.true))

pub returns-else-masked : goal.returns-else-masked
returns-else-masked c =
    let t = c.targeting_of.ensures in (
      refl,
      refl,
      λ x h. rw (c.level_of.ensures, ne_eqb _ 0 c.if-masked.false, c.word_of.ensures, t.0, t.1, t.2, t.3)
          (targeted-values _ x h c.if-masked.false),
    )
