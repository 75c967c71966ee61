-- From an outcome of the rules to the answer that tells it.
use Prim.Native.Nat.{ℕ}
use mathlib.Core.{Path.◌≡◌, Path.refl, Path.ap, Path.sym, Path.◌∙◌, Path.subst, List.List, List.◌++◌}
use lib.ListN.{length, drop}
use Rattle.rules.specs.{State.Limits, State.Pending, State.State, State.with_pending, Outcome.Outcome, Outcome.refuse, Outcome.accept, Outcome.result, Outcome.tell, Requests.set_request, Requests.request, Machine.answer_of}
use Rattle.std.specs.Prelude.{Ok, Err}
use Rattle.std.proofs.Common.{arith}
use Rattle.answers.specs.declared.Refusal.TheVariants.{NoEntry, TooBig, NoMemory, Fault, Busy, Invalid, NotSupported}
use Rattle.answers.specs.{declared.Answer.Answer, declared.Refusal.Refusal, Answers.Answers, Answers.answered, Answers.as_answer, Answers.code_of}

pub same-state : (s : State) (p : Pending) → s.pending ≡ p → with_pending p s ≡ s
same-state s p e = ap (λ (q : Pending). with_pending q s) (sym e)

module _ (L : Limits) (s : State) (b : List ℕ) (o : Outcome State) (a : Answer) (n : ℕ) where
  -- a refusal leaves the state, whatever form it is given in
  pub refused_as : (t : State) → s ≡ t → o ≡ refuse n → a ≡ answered n 0 → Answers L s b o a t b
  unfolding result
  refused_as t e f k = ap (answer_of L s b) f ∙ (λ i. tell (sym k i).code (sym k i).count (e i) b)

  pub refused : (p : Pending) → s.pending ≡ p → o ≡ refuse n → a ≡ answered n 0 → Answers L s b o a (with_pending p s) b
  refused p e = refused_as (with_pending p s) (sym (same-state s p e))

  pub accepted : (t : State) (w d : List ℕ) → o ≡ accept n t w → a ≡ answered 0 n → d ≡ w ++ drop (length w) b → Answers L s b o a t d
  unfolding result
  accepted t w d e f k = rw (e, f, k)

pub not-refused : {A : Type 0} (a : Answer) (n : ℕ) → a ≡ answered 0 n → (a.code ≡ 0 → ⊥) → A
not-refused a n e h = absurd (h (ap (λ (x : Answer). x.code) e))

-- an answer to the set request of one group number is one to that of an equal number; and so is an equal answer
pub as-answer : (L : Limits) (s : State) (attr : ℕ) (b : List ℕ) (t : State) (k : ℕ) {g : ℕ} {a a' : Answer} → g ≡ k → a' ≡ a
    → Answers L s b (request L s (set_request k) attr b) a t b → Answers L s b (request L s (set_request g) attr b) a' t b
as-answer L s attr b t k {g} {a} {a'} e ea h =
    subst (λ (x : ℕ). Answers L s b (request L s (set_request x) attr b) a' t b) (sym e)
    (subst (λ (x : Answer). Answers L s b (request L s (set_request k) attr b) x t b) (sym ea) h)

-- the same of an outcome of the code
module _ (L : Limits) (s : State) (b : List ℕ) (o : Outcome State) where
  pub refuses : (r : Refusal) (p : Pending) → s.pending ≡ p → o ≡ refuse (code_of r) → Answers L s b o (as_answer (Err r)) (with_pending p s) b
  refuses r p e f = refused L s b o _ (code_of r) p e f refl

  pub accepts : (n : ℕ) (t : State) (w d : List ℕ) → o ≡ accept n t w → d ≡ w ++ drop (length w) b → Answers L s b o (as_answer (Ok n)) t d
  accepts n t w d f = accepted L s b o _ n t w d f refl

-- no refusal has the code of what is accepted
pub not-0 : (r : Refusal) → code_of r ≡ 0 → ⊥
not-0 NoEntry e = omega (arith, e)
not-0 TooBig e = omega (arith, e)
not-0 NoMemory e = omega (arith, e)
not-0 Fault e = omega (arith, e)
not-0 Busy e = omega (arith, e)
not-0 Invalid e = omega (arith, e)
not-0 NotSupported e = omega (arith, e)
