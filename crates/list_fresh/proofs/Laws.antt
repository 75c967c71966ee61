-- The capability of a fresh controller is the list's flag; of a list without one it decides nothing.
use Rattle.numbers.proofs.Basics.{◌≡◌, refl, ap, ◌∙◌, Bool, true, false, List, ℕ, ◌≤◌, ◌<◌, leb-true, leb-false}
use Rattle.numbers.proofs.Basics.{lt-leb, length, leb, eqb}
use Rattle.rules.specs.{Bytes.choose, State.State, State.Pending, State.paper_limits, State.fresh, Outcome.result, Outcome.refuse, MoveList.header_bytes, MoveList.ais_flag_in, MoveList.plays, Machine.answer_of}
use Rattle.rules.specs.Outcome as outcome
use Rattle.rules.proofs.Checks.{fails}
use Rattle.answers.specs.{Answers.Answers, declared.Answer.Answer}
use Rattle.list_fresh.specs.Fresh.{played_fresh, PlayedFresh}

-- what is told of an answer on a fresh controller of a capability
on : Bool → List ℕ → outcome.Answer State
on ais b = answer_of paper_limits (fresh paper_limits ais) b (plays paper_limits (fresh paper_limits ais) b)

-- a list too short for a header is refused, whatever the capability
too_short : (ais : Bool) (b : List ℕ) → length b < header_bytes → plays paper_limits (fresh paper_limits ais) b ≡ refuse 14
unfolding plays
too_short ais b h = fails (leb header_bytes (length b)) 14 _ (lt-leb header_bytes (length b) h)

-- the pending records of either state
either : (t : Bool) (x y : State) (p : Pending) → x.pending ≡ p → (t ≡ false → y.pending ≡ p) → (choose t x y).pending ≡ p
unfolding choose
either true x y p h k = h
either false x y p h k = k refl

alike : (b : List ℕ) (ais t : Bool) → leb header_bytes (length b) ≡ t → (header_bytes ≤ length b → ais ≡ eqb (ais_flag_in b) 1)
    → ((played_fresh b).code ≡ (on ais b).code) × ((played_fresh b).count ≡ (on ais b).count) × ((played_fresh b).next.pending ≡ (on ais b).next.pending)
unfolding on fresh
alike b ais true e h = rw (h (leb-true header_bytes (length b) e)) (refl, refl, refl)
alike b ais false e h =
    let k = leb-false header_bytes (length b) e in
    rw (too_short (eqb (ais_flag_in b) 1) b k, too_short ais b k) (unfold result in (refl, refl, refl))

pub played-is : (b : List ℕ) (ais : Bool) (a : Answer) (new : Bool) (next : State) (p : Pending) → (header_bytes ≤ length b → ais ≡ eqb (ais_flag_in b) 1)
    → Answers paper_limits (fresh paper_limits ais) b (plays paper_limits (fresh paper_limits ais) b) a (choose new next (fresh paper_limits ais)) b
    → next.pending ≡ p → (new ≡ false → (fresh paper_limits ais).pending ≡ p) → PlayedFresh b p a
unfolding on
played-is b ais a new next p f e k z =
    let s = alike b ais (leb header_bytes (length b)) refl f in
    record {
      code = s.0 ∙ ap (λ (x : outcome.Answer State). x.code) e;
      count = s.1 ∙ ap (λ (x : outcome.Answer State). x.count) e;
      pending = s.2 ∙ ap (λ (x : outcome.Answer State). x.next.pending) e ∙ either new next (fresh paper_limits ais) p k z;
    }
