use Rattle.numbers.proofs.Basics.{◌≡◌, refl, sym, ◌∙◌, ◌+◌, ◌-◌, length, zero-add, append-nil}
use Rattle.std.proofs.lemmas.{List.drop_all, List.Edits.paste_all}
use Rattle.numbers.proofs.{Basics.arith, Laws.write-turn}
use Rattle.rules.specs.Listing.{digit, digits}
use Rattle.listing_text.proofs.Lines.{length_digits}
use Rattle.listing_text.proofs.spell.Goals as goal

pub loop-i-preserved : goal.loop-i-preserved
loop-i-preserved c = let a = c.args in
    let l = c.loop-i in
    let t = rw zero-add at (write-turn digit (λ k. digits a.base k a.v) a.base a.v (λ k. unfold digits in refl) l.out a.out.now 0 (length a.out.now) l.i l.w (omega arith) (omega arith) (omega arith) l.invariant.0 (rw zero-add l.invariant.1)) in
    (t.0, rw c.letter.ensures t.1)

pub returns : goal.returns
returns c = let a = c.args in
    let n = length a.out.now in
    let p : c.loop-i.i ≡ 0 = omega arith in
    let q : n - 0 ≡ n = omega arith in
    rw (p, q) at c.loop-i.invariant.1 ∙ paste_all a.out.now 0 _ n (sym (length_digits a.base n a.v)) ∙ rw (drop_all (0 + n) a.out.now (omega arith)) (append-nil _)
