-- Demand 3 holds: its statement is specs/Claim.
use Rattle.numbers.proofs.Basics.{ℕ, ◌≤◌, ◌≡◌, refl, ap, sym, ◌∙◌, subst, Bool, List, [], ◌∷◌, ◌++◌, length, take}
use Rattle.rules.specs.{State.Limits, State.State, State.fresh, Outcome.Answer as Told, Outcome.Seen, Outcome.seen, Outcome.answering, MoveList.count_in, MoveList.most_requests, Machine.write_list, Machine.play_list, Machine.Call, Machine.step, Machine.answers, Machine.after}
use Rattle.rules.proofs.{Reachable.fresh-ais, Reachable.reachable, Move.Move, Move.move, Replay.Movable}
use Rattle.calls.specs.Limits.{limits_of}
use Rattle.calls.proofs.Limits.{limits-sized}
use Rattle.flic.specs.{Claim.Fresh, Claim.machine, Claim.Moved, Claim.list_of, Claim.calls_of, Claim.Claim, Chain.Host, Chain.its_own, Chain.asked, Chain.Ran}
use Rattle.flic.proofs.Follows.{host_state, Good, own-length, Stepped, requested, follows}

-- what the plain machine answers to one list after another
answers-append : (L : Limits) (s : State) (cs ds : List Call) → answers L s (cs ++ ds) ≡ answers L s cs ++ answers L (after L s cs) ds
unfolding answers after
answers-append L s [] ds = refl
answers-append L s (c ∷ cs) ds = ap (λ (l : List Seen). seen (step L s c) ∷ l) (answers-append L (step L s c).next cs ds)

after-append : (L : Limits) (s : State) (cs ds : List Call) → after L s (cs ++ ds) ≡ after L (after L s cs) ds
unfolding after
after-append L s [] ds = refl
after-append L s (c ∷ cs) ds = after-append L (step L s c).next cs ds

-- a fresh host is good, stands for the fresh state and has the limits that it was made with
module _ {L : Limits} {ais : Bool} {f : Host} (h : Fresh L ais f) where
  pub fresh-limits : limits_of f.ctl ≡ L
  fresh-limits = (h.made.right h.right).1

  pub fresh-good : Good f
  fresh-good = (h.made.right h.right).3

  pub fresh-state : host_state f ≡ fresh L ais
  fresh-state = (h.made.right h.right).2

-- a host that a list of calls left stands for the plain machine's state
module _ {L : Limits} {ais : Bool} {f h : Host} {cs : List Call} {xs : List Seen} (made : Fresh L ais f) (ran : Ran f cs xs h) where
  pub ran-good : Good h
  ran-good = (follows (fresh-good made) ran).good

  ran-limits : limits_of h.ctl ≡ L
  ran-limits = (follows (fresh-good made) ran).limits ∙ fresh-limits made

  ran-places : length h.tab ≡ L.places
  ran-places = own-length h ran-good ∙ ap (λ (l : Limits). l.places) ran-limits

  ran-state : host_state h ≡ after L (fresh L ais) cs
  ran-state = (follows (fresh-good made) ran).state ∙ (λ i. after (fresh-limits made i) (fresh-state made i) cs)

  ran-seen : xs ≡ answers L (fresh L ais) cs
  ran-seen = (follows (fresh-good made) ran).seen ∙ (λ i. answers (fresh-limits made i) (fresh-state made i) cs)

  ran-ais : (host_state h).ais ≡ ais
  ran-ais = ap (λ (s : State). s.ais) ran-state ∙ (reachable L ais cs).same-ais ∙ fresh-ais L ais

-- The claim.
module _ (m : Moved) where
  abbrev L : Limits
  L = m.limits

  limits₁ : limits_of m.first.ctl ≡ L
  limits₁ = ran-limits m.fresh₁ m.ran₁

  limits₂ : limits_of m.before.ctl ≡ L
  limits₂ = ran-limits m.fresh₂ m.ran₂

  pub good₁ : Good m.first
  good₁ = ran-good m.fresh₁ m.ran₁

  good₂ : Good m.before
  good₂ = ran-good m.fresh₂ m.ran₂

  first-is : host_state m.first ≡ machine L m.ais m.calls₁
  first-is = ran-state m.fresh₁ m.ran₁

  moves : Move L m.ais m.calls₁ m.buffer (host_state m.before)
  moves = move L (subst Movable limits₁ (limits-sized m.first.ctl).list) m.ais m.calls₁ m.buffer (host_state m.before) m.long (ran-ais m.fresh₂ m.ran₂)

  -- the writing, as the machine's step
  abbrev told : Told State
  told = step L (machine L m.ais m.calls₁) (asked write_list m.buffer L.places)

  write_step : Stepped m.first (asked write_list m.buffer (length m.first.tab)) m.wrote m.first
  write_step = requested m.first good₁ write_list tt m.buffer m.first.ctl m.first.dev m.first.tab m.first.tab m.wrote m.writes m.first.tab (its_own refl)

  wrote-is : told ≡ answering m.wrote (host_state m.first)
  wrote-is =
      (λ i. step ((sym limits₁) i) ((sym first-is) i) (asked write_list m.buffer ((sym (ran-places m.fresh₁ m.ran₁)) i)))
      ∙ write_step.steps

  list-is : take told.count told.buffer ≡ list_of m
  list-is = ap (λ (a : Told State). take a.count a.buffer) wrote-is

  -- the playing, as the machine's step
  play-step : Stepped m.before (asked play_list (list_of m) (length m.before.tab)) m.played m.second
  play-step = requested m.before good₂ play_list tt (list_of m) m.second.ctl m.second.dev m.before.tab m.second.tab m.played m.plays m.second.tab (its_own refl)

  pub good-second : Good m.second
  good-second = play-step.good

  played-is : step L (host_state m.before) (asked play_list (take told.count told.buffer) L.places)
      ≡ answering m.played (host_state m.second)
  played-is =
      (λ i. step ((sym limits₂) i) (host_state m.before) (asked play_list (list-is i) ((sym (ran-places m.fresh₂ m.ran₂)) i)))
      ∙ play-step.steps

  then_is : machine L m.ais (calls_of m) ≡ machine L m.ais m.calls₁
  unfolding after
  then_is = after-append L (fresh L m.ais) m.calls₁ (asked write_list m.buffer L.places ∷ []) ∙ moves.write_keeps

  second_is : host_state m.second ≡ machine L m.ais m.calls₁
  second_is = sym (ap (λ (a : Told State). a.next) played-is) ∙ moves.play-state ∙ moves.write_keeps

  pub claim : Claim m
  unfolding answers after
  claim =
      record {
        first-seen =
            (λ i. ran-seen m.fresh₁ m.ran₁ i ++ (seen ((sym wrote-is) i) ∷ []))
            ∙ sym (answers-append L (fresh L m.ais) m.calls₁ (asked write_list m.buffer L.places ∷ []));
        written = (
          sym (ap (λ (a : Told State). a.code) wrote-is) ∙ moves.write-accepted,
          sym (ap (λ (a : Told State). a.count) wrote-is) ∙ moves.write-count,
          ap length (sym list-is) ∙ moves.write-length ∙ ap (λ (a : Told State). a.count) wrote-is,
        );
        accepted = (
          sym (ap (λ (a : Told State). a.code) played-is) ∙ moves.play-accepted,
          sym (ap (λ (a : Told State). a.count) played-is) ∙ moves.play-count ∙ ap count_in list-is,
          subst (λ (n : ℕ). n ≤ most_requests) (ap (λ (a : Told State). a.count) played-is) moves.play-few,
        );
        alike = λ ds xs ys e₁ e₂ r₁ r₂. (
          (follows good₁ r₁).seen ∙ (λ i. answers (limits₁ i) ((first-is ∙ sym then_is) i) ds),
          (follows play-step.good r₂).seen ∙ (λ i. answers ((play-step.limits ∙ limits₂) i) ((second_is ∙ sym then_is) i) ds),
        );
      }
