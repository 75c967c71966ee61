use Rattle.numbers.proofs.Basics.{◌≡◌, ◌∙◌, List, ℕ, ◌+◌, ◌<◌, append-nil, arith, length, length-drop, get_or, get_or-drop, paste, set}
use Rattle.std.proofs.lemmas.List.Edits.{paste_more}
use Rattle.numbers.proofs.load.Goals as goal

one_more : (b d s : List ℕ) (i j : ℕ) → i ≡ 0 + j → i < length d → i < length s → b ≡ paste d 0 s j → set b i (get_or s j 0) ≡ paste d 0 s (j + 1)
one_more b d s i j p h k e = rw (e, p) (paste_more d 0 s j 0 (omega arith) (omega arith))

pub loop-i-preserved : goal.loop-i-preserved
loop-i-preserved c = let l = c.loop-i in
    rw (← get_or-drop) (one_more l.r _ _ l.i l.i (omega arith) (omega arith) (simp length-drop (omega arith)) l.invariant)

pub returns : goal.returns
returns c = let e : c.loop-i.i ≡ 72 = omega arith in rw e at c.loop-i.invariant ∙ append-nil _
