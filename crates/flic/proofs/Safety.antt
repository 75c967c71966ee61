-- Demand 1 as one theorem, `safety`: from what each public function's own contract ensures, as the source states it,
-- follows what specs/Safety says of that call, for every input; and where the lent table has another length, the
-- contract requires nothing. The theorem's statement names the contracts themselves and nothing of Surface. So a
-- promise of demand 1 that is dropped or weakened, in Surface or in the source, is refused here, even where all other
-- proofs are adapted to that. The contracts have answers, so this is not about nothing: Runs (`answer-to`, `take-to`,
-- `make-to`).
use Rattle.numbers.proofs.Basics.{ℕ, zero, suc, ◌≡◌, refl, ap, sym, ◌∙◌, subst, Bool, true, false, true≢false, List}
use Rattle.numbers.proofs.Basics.{[], ◌∷◌, map, length, replicate}
use mathlib.Core.List.Memᴰ
use seplogic.Ra.Ura.{Ura}
use base.Logic.{SProp, ent, emp, id⊢}
use prog.Memory.{Memory}
use prog.Routine.{Routine}
use types.Logic.{Logic}
use contract.Lifetimes.{Lfts}
use contract.Monad.{Fun, fact, fact_i, fact_mono}
use denote.Triple.{Entry.Args, Entry.Res, Clauses.Ended, Clauses.AtExit, Clauses.Clauses}
use Rattle.rules.specs.{State.State, State.paper_limits, State.free, State.fresh, Outcome.Outcome, Outcome.refuse_with, Outcome.accept, Outcome.reset_with, Outcome.refuse, Outcome.result, Outcome.answering, Outcome.Answer as Told, Invariant.All}
use Rattle.rules.specs.Machine.{Ask, set_attr, get_attr, guest_take, write_list, play_list, outcome, step, answer_of}
use Rattle.rules.proofs.Outcomes.{Known, Plays, known-outcome, plays-fresh, Answered, every-answer}
use Rattle.answers.specs.{declared.Answer.Answer, Answers.answered, Answers.saw}
use Rattle.adapters.specs.{declared.Device.Device, declared.Place.Place, Values.place_of, Values.unused, Values.Canonical}
use Rattle.adapters.proofs.Laws.{place-is-free}
use Rattle.store.specs.declared.Controller.{Controller}
use Rattle.calls.specs.Limits.{limits_of}
use Rattle.flic.specs.{Surface.state_of, Surface.Steps, Surface.Requested, Surface.Taken, Surface.Made, Chain.asked, Safety.SafeRequest, Safety.SafeTake, Safety.IsFresh, Safety.playing, Safety.SafePlay, Safety.SafeMake}
use Rattle.flic.proofs.{Promises.right-table, Promises.by_length, Promises.Tabled, Promises.refused-table}
use Rattle.flic.specs.contracts.flic_make as flic-make
use Rattle.flic.specs.contracts.flic_set as flic-set
use Rattle.flic.specs.contracts.flic_get as flic-get
use Rattle.flic.specs.contracts.flic_take as flic-take
use Rattle.flic.specs.contracts.flic_write_list as flic-write
use Rattle.flic.specs.contracts.flic_play_list as flic-play

-- ---- from the machine's step
module _ (ask : Ask) (c c' : Controller) (d d' : Device) (t t' : List Place) (b b' : List ℕ) (r : Answer)
    (f : Steps ask c c' d d' t t' b (saw r b')) where
  abbrev left : Told State
  left = answering (saw r b') (state_of c' d' t')

  -- what holds of every answer of the machine
  says : Answered ask (state_of c d t) left
  says = subst (Answered ask (state_of c d t)) f (every-answer (limits_of c) (state_of c d t) (asked ask b (length t)))

  same-ais : c'.ais ≡ c.ais
  unfolding state_of
  same-ais = says.same-ais

  -- the answer, from what the rules make of the call
  by-outcome : (o : Outcome State) → outcome (limits_of c) (state_of c d t) ask (length t) b ≡ o → left ≡ answer_of (limits_of c) (state_of c d t) b o
  unfolding step
  by-outcome o e = sym f ∙ ap (answer_of (limits_of c) (state_of c d t) b) e

  answer-is : (code count : ℕ) (o : Outcome State) → outcome (limits_of c) (state_of c d t) ask (length t) b ≡ o
      → (answer_of (limits_of c) (state_of c d t) b o).code ≡ code → (answer_of (limits_of c) (state_of c d t) b o).count ≡ count → r ≡ answered code count
  answer-is code count o e p q = λ i. record { code = (ap (λ (a : Told State). a.code) (by-outcome o e) ∙ p) i; count = (ap (λ (a : Told State). a.count) (by-outcome o e) ∙ q) i }

  wrong_answer : Tabled ask → (length t ≡ (limits_of c).places → ⊥) → r ≡ answered 14 0
  unfolding result
  wrong_answer tabled w = answer-is 14 0 (refuse 14) (refused-table (limits_of c) (state_of c d t) ask (length t) b tabled w) refl refl

  -- a code that is not 0 is that of a refusal which changes nothing, unless a list is played
  refusal-of : {X : Type 0} → (Plays ask → ⊥) → (r.code ≡ 0 → ⊥) → ((code count : ℕ) → outcome (limits_of c) (state_of c d t) ask (length t) b ≡ refuse_with code count → X) → X
  unfolding result
  refusal-of {X} other n then = go _ refl (known-outcome (limits_of c) (state_of c d t) ask (length t) b)
    where
      go : (o : Outcome State) → outcome (limits_of c) (state_of c d t) ask (length t) b ≡ o → Known (state_of c d t).ais (Plays ask) o → X
      go (refuse_with code count) e k = then code count e
      go (accept count next written) e k = absurd (n (ap (λ (a : Told State). a.code) (by-outcome _ e)))
      go (reset_with code place further) e k = absurd (other k.0)

-- ---- each call
safe-request : (ask : Ask) → Tabled ask → (Plays ask → ⊥) → (c c' : Controller) (d d' : Device) (t t' : List Place) (b b' : List ℕ) (r : Answer)
    → Requested ask c c' d d' t t' b (saw r b') → SafeRequest c c' d d' t t' b b' r
safe-request ask tabled other c c' d d' t t' b b' r f =
    let s = says ask c c' d d' t t' b b' r f.steps in
    record {
      refused = λ n.
          refusal-of ask c c' d d' t t' b b' r f.steps other n
          (λ code count o. let k = f.kept code count o in (s.no-count other n, k.0, k.1, k.2, k.3));
      wrong-table = λ w.
          let k = f.kept 14 0 (refused-table (limits_of c) (state_of c d t) ask (length t) b tabled w) in
          (wrong_answer ask c c' d d' t t' b b' r f.steps tabled w, k.0, k.1, k.2, k.3);
      code = s.code;
      capability = same-ais ask c c' d d' t t' b b' r f.steps;
      limits = f.limits;
    }

-- a take promises its step for every device record and every table
safe-take : (subclasses : ℕ) (external mcheck : Bool) (c c' : Controller) (b b' : List ℕ) (r : Answer) → Taken subclasses external mcheck c c' b (saw r b') → SafeTake c c' b b' r
safe-take subclasses external mcheck c c' b b' r f =
    let d : Device = record { simm = 0; nimm = 0; apf = false } in
    let s = says (guest_take subclasses external mcheck) c c' d d [] [] b b' r (f.steps d []) in
    record {
      refused = λ n. let k = f.kept n in (s.no-count (λ p. p) n, k.0, k.1);
      code = s.code;
      capability = same-ais (guest_take subclasses external mcheck) c c' d d [] [] b b' r (f.steps d []);
      limits = f.limits;
    }

safe-make : (ais : Bool) (c c' : Controller) (d d' : Device) (t t' : List Place) (r : Answer) → Made paper_limits ais c c' d d' t t' r → SafeMake c c' d d' t t' r
safe-make ais c c' d d' t t' r f =
    record {
      accepted = λ e. (f.right e).0;
      wrong-table = f.wrong;
      code =
          by_length paper_limits (length t)
          (λ e. Memᴰ.head (ap (λ (a : Answer). a.code) (f.right e).0))
          (λ w. let e = ap (λ (a : Answer). a.code) (f.wrong w).0 in
          Memᴰ.tail (Memᴰ.tail (Memᴰ.tail (Memᴰ.head e))));
    }

-- a table whose places are all free: each is the one unused place
all-unused : (n : ℕ) (t : List Place) → All Canonical t → map place_of t ≡ replicate n free → t ≡ replicate n unused
all-unused zero [] k e = refl
all-unused zero (p ∷ t) k e = absurd (true≢false (let z : true ≡ false = cc in z))
all-unused (suc n) [] k e = absurd (true≢false (let z : true ≡ false = cc in z))
all-unused (suc n) (p ∷ t) k e = λ i. k.0.unused_one (place-is-free p (cc)) i ∷ all-unused n t k.1 (cc) i

module _ (c c' : Controller) (d d' : Device) (t t' : List Place) (b : List ℕ) (r : Answer)
    (f : Requested play_list c c' d d' t t' b (saw r b)) where
  -- with a table of the controller's length the outcome is the rules' playing of the list
  outcome-is : length t ≡ (limits_of c).places → outcome (limits_of c) (state_of c d t) play_list (length t) b ≡ playing c b
  unfolding outcome state_of
  outcome-is n = right-table (limits_of c) (length t) 14 _ n ∙ plays-fresh (limits_of c) (state_of c d t) b

  -- a state that is fresh, in terms of the values
  made-fresh : All Canonical t' → state_of c' d' t' ≡ fresh (limits_of c) c.ais → IsFresh (limits_of c) c' d' t'
  unfolding state_of fresh
  made-fresh k e =
      record {
        places = all-unused (limits_of c).places t' k (ap (λ (s : State). s.adapters) e);
        pending = ap (λ (s : State). s.pending) e;
        device = λ i. record { simm = (e i).device.simm; nimm = (e i).device.nimm; apf = (e i).device.apf };
      }

  -- the answer and the next state, from that outcome
  answers : (code count : ℕ) (o : Outcome State) → outcome (limits_of c) (state_of c d t) play_list (length t) b ≡ o
      → (answer_of (limits_of c) (state_of c d t) b o).code ≡ code → (answer_of (limits_of c) (state_of c d t) b o).count ≡ count → r ≡ answered code count
  answers = answer-is play_list c c' d d' t t' b b r f.steps

  becomes : (o : Outcome State) → outcome (limits_of c) (state_of c d t) play_list (length t) b ≡ o → state_of c' d' t' ≡ (answer_of (limits_of c) (state_of c d t) b o).next
  becomes o e = ap (λ (a : Told State). a.next) (by-outcome play_list c c' d d' t t' b b r f.steps o e)

  -- what is known of it
  known : {o : Outcome State} → outcome (limits_of c) (state_of c d t) play_list (length t) b ≡ o → Known (state_of c d t).ais (Unit {0}) o
  known e = subst (Known (state_of c d t).ais (Unit {0})) e (known-outcome (limits_of c) (state_of c d t) play_list (length t) b)

  safe-play : SafePlay c c' d d' t t' b r
  unfolding result state_of
  safe-play =
      record {
        wrong-table = λ w.
            let k = f.kept 14 0 (refused-table (limits_of c) (state_of c d t) play_list (length t) b tt w) in
            (wrong_answer play_list c c' d d' t t' b b r f.steps tt w, k.0, k.1, k.2);
        refused = λ n code count e.
            let o = outcome-is n ∙ e in
            let k = f.kept code count o in
            (answers code 0 (refuse_with code count) o refl (known o).1, k.0, k.1, k.2);
        part-way = λ n code place further e.
            let o = outcome-is n ∙ e in
            let m = made-fresh (f.valid n).places (becomes (reset_with code place further) o) in
            (answers code place (reset_with code place further) o refl refl, m);
        played = λ n count next written e. answers 0 count (accept count next written) (outcome-is n ∙ e) refl refl;
        code = (says play_list c c' d d' t t' b b r f.steps).code;
        capability = same-ais play_list c c' d d' t t' b b r f.steps;
        limits = f.limits;
      }

-- ---- the theorem
module _ {M : Type 1} (𝓤 : Ura M) where
  -- what the contract ensures of the parameters at entry, the result and the parameters at exit has this consequence, for
  -- every ghost value
  abbrev pub Ensures : (T : Ended) → Clauses 𝓤 T → ((κs : Lfts T.signature.lifetimes) → Args T.signature κs → Res T.signature κs → AtExit T κs → Type 0) → Type 1
  Ensures T f P =
      (κs : Lfts T.signature.lifetimes) (a : Args T.signature κs) (g : (f κs a).ghost)
      (r : Res T.signature κs) (e : AtExit T κs)
      → ent 𝓤 ((f κs a).ensures g r e) (fact 𝓤 (P κs a r e))

  -- the contract requires nothing of such parameters, for some ghost value
  abbrev pub RequiresNothing : (T : Ended) → Clauses 𝓤 T → ((κs : Lfts T.signature.lifetimes) → Args T.signature κs → Type 0) → Type 1
  RequiresNothing T f W =
      (κs : Lfts T.signature.lifetimes) (a : Args T.signature κs)
      → W κs a → (g : (f κs a).ghost) × ent 𝓤 (emp 𝓤) ((f κs a).requires g)

module _ {M : Type 1} {𝓤 : Ura M} (𝓛 : Logic 𝓤) (mem : Memory → SProp 𝓤) (run : Routine → Fun 𝓤) where
  -- Demand 1. A parameter is named as at entry, and with a prime as at exit.
  pub record Safety : Type 1 where
    pub make : Ensures 𝓤 flic-make.ended (flic-make.clauses 𝓛 mem run) (λ κs (c, (d, (t, _))) r (c', (d', (t', _))). SafeMake c.now c'.now d.now d'.now t.now t'.now r)
    pub set : Ensures 𝓤 flic-set.ended (flic-set.clauses 𝓛 mem run) (λ κs (c, (d, (t, (_, (_, (b, _)))))) r (c', (d', (t', _))). SafeRequest c.now c'.now d.now d'.now t.now t'.now b.now b.now r)
    pub get : Ensures 𝓤 flic-get.ended (flic-get.clauses 𝓛 mem run) (λ κs (c, (d, (t, (_, (_, (b, _)))))) r (_, (_, (_, (_, (_, (b', _)))))).
        SafeRequest c.now c.now d.now d.now t.now t.now b.now b'.now r)
    pub take : Ensures 𝓤 flic-take.ended (flic-take.clauses 𝓛 mem run) (λ κs (c, (_, (_, (_, (b, _))))) r (c', (_, (_, (_, (b', _))))). SafeTake c.now c'.now b.now b'.now r)
    pub write : Ensures 𝓤 flic-write.ended (flic-write.clauses 𝓛 mem run) (λ κs (c, (d, (t, (b, _)))) r (_, (_, (_, (b', _)))). SafeRequest c.now c.now d.now d.now t.now t.now b.now b'.now r)
    pub play : Ensures 𝓤 flic-play.ended (flic-play.clauses 𝓛 mem run) (λ κs (c, (d, (t, (b, _)))) r (c', (d', (t', _))). SafePlay c.now c'.now d.now d'.now t.now t'.now b.now r)
    -- the one premise is asked of no call with a table of another length than the controller's; `flic_make` has none at all
    pub set-wrong-table : RequiresNothing 𝓤 flic-set.ended (flic-set.clauses 𝓛 mem run) (λ κs (c, (d, (t, _))). length t.now ≡ (limits_of c.now).places → ⊥)
    pub get-wrong-table : RequiresNothing 𝓤 flic-get.ended (flic-get.clauses 𝓛 mem run) (λ κs (c, (d, (t, _))). length t.now ≡ (limits_of c.now).places → ⊥)
    pub write-wrong-table : RequiresNothing 𝓤 flic-write.ended (flic-write.clauses 𝓛 mem run) (λ κs (c, (d, (t, _))). length t.now ≡ (limits_of c.now).places → ⊥)
    pub play-wrong-table : RequiresNothing 𝓤 flic-play.ended (flic-play.clauses 𝓛 mem run) (λ κs (c, (d, (t, _))). length t.now ≡ (limits_of c.now).places → ⊥)
    pub make-always : RequiresNothing 𝓤 flic-make.ended (flic-make.clauses 𝓛 mem run) (λ κs a. Unit {0})

  pub safety : Safety
  safety =
      record {
        make = λ κs a g r e. fact_mono 𝓤 _ _ (safe-make _ _ _ _ _ _ _ _);
        set = λ κs a g r e. fact_mono 𝓤 _ _ (safe-request (set_attr _ _) tt (λ p. p) _ _ _ _ _ _ _ _ _);
        get = λ κs a g r e. fact_mono 𝓤 _ _ (safe-request (get_attr _ _) tt (λ p. p) _ _ _ _ _ _ _ _ _);
        take = λ κs a g r e. fact_mono 𝓤 _ _ (safe-take _ _ _ _ _ _ _ _);
        write = λ κs a g r e. fact_mono 𝓤 _ _ (safe-request write_list tt (λ p. p) _ _ _ _ _ _ _ _ _);
        play = λ κs a g r e. fact_mono 𝓤 _ _ (safe-play _ _ _ _ _ _ _ _);
        set-wrong-table = λ κs a w. (tt, fact_i 𝓤 _ (emp 𝓤) (λ e. absurd (w e)));
        get-wrong-table = λ κs a w. (tt, fact_i 𝓤 _ (emp 𝓤) (λ e. absurd (w e)));
        write-wrong-table = λ κs a w. (tt, fact_i 𝓤 _ (emp 𝓤) (λ e. absurd (w e)));
        play-wrong-table = λ κs a w. (tt, fact_i 𝓤 _ (emp 𝓤) (λ e. absurd (w e)));
        make-always = λ κs a w. (tt, id⊢ 𝓤 (emp 𝓤));
      }
