-- `adapter_requests::check_modes` meets its contract: each group's own code, and 22 for a number that is no group.
use Rattle.numbers.proofs.Basics.{arith, ◌≡◌, ℕ, List}
use Rattle.rules.specs.{Requests.request}
use Rattle.adapter_requests.specs.States.{ModesAsked}
use Rattle.adapter_requests.proofs.{Laws.on-ok, Laws.not-on-place, Laws.no-set}
use Rattle.adapter_requests.proofs.check_modes.Goals as goal

-- groups 4 and 5 ask nothing of a payload
no_payload : {g : ℕ} {b : List ℕ} → (g ≡ 9 → ⊥) → (g ≡ 11 → ⊥) → ModesAsked g b
no_payload h k = record { mode = λ e. absurd (h e); masks = λ e. absurd (k e) }

pub returns : goal.returns
unfolding request
returns c =
    let n = not-on-place c.args.group c.requires.4 in record {
      decides = λ L s e. rw (no-set c.args.group c.requires.0 c.requires.1 c.if-group-eq-APF_ENABLE.false c.if-group-eq-APF_DISABLE_WAIT.false n.0 n.1 c.requires.2 c.if-group-eq-AISM.false c.requires.3 c.if-group-eq-AISM_ALL.false);
      asked = tt;
    }

pub returns-then-group-eq-APF_ENABLE : goal.returns-then-group-eq-APF_ENABLE
returns-then-group-eq-APF_ENABLE c = record { decides = rw c.if-group-eq-APF_ENABLE.true (λ L s e. (c.check_flag.ensures L s _).0); asked = rw c.if-group-eq-APF_ENABLE.true (on-ok c.check_flag.result (no_payload (λ e. omega (arith, e)) (λ e. omega (arith, e)))) }

pub returns-then-group-eq-APF_DISABLE_WAIT : goal.returns-then-group-eq-APF_DISABLE_WAIT
returns-then-group-eq-APF_DISABLE_WAIT c = record { decides = rw c.if-group-eq-APF_DISABLE_WAIT.true (λ L s e. (c.check_flag-then-group-eq-APF_DISABLE_WAIT.ensures L s _).1); asked = rw c.if-group-eq-APF_DISABLE_WAIT.true (on-ok c.check_flag-then-group-eq-APF_DISABLE_WAIT.result (no_payload (λ e. omega (arith, e)) (λ e. omega (arith, e)))) }

pub returns-then-group-eq-AISM : goal.returns-then-group-eq-AISM
returns-then-group-eq-AISM c = record { decides = rw c.if-group-eq-AISM.true c.check_mode.ensures.decides; asked = rw c.if-group-eq-AISM.true c.check_mode.ensures.asked }

pub returns-then-group-eq-AISM_ALL : goal.returns-then-group-eq-AISM_ALL
returns-then-group-eq-AISM_ALL c = record { decides = rw c.if-group-eq-AISM_ALL.true c.check_masks.ensures.decides; asked = rw c.if-group-eq-AISM_ALL.true c.check_masks.ensures.asked }
