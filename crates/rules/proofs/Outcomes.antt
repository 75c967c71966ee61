-- What holds of every answer of the machine, in every state: its code is 0 or one of the paper's six; the next state
-- has the capability of the state before; a refusal has count 0, unless a list is played; no answer has a further
-- number. One pass through the checks of every request, in their order.
use Prim.Native.Nat.{ℕ, suc, ◌<◌}
use mathlib.Core.Path.{◌≡◌, refl, ◌∙◌}
use mathlib.Core.Bool.{Bool, true, false}
use mathlib.Core.Option.{Option, none, some}
use mathlib.Core.List.{List, [], ◌∷◌, Memᴰ}
use Rattle.rules.specs.Bytes.{choose}
use Rattle.rules.specs.State.{Limits, Adapter, Record, Pending, State, fresh}
use Rattle.rules.specs.Outcome.{EINVAL, EOPNOTSUPP, EFAULT, ENOMEM, EBUSY, E2BIG, Outcome, refuse_with, accept, reset_with, need◌else◌⨾◌, present◌else◌⨾◌, Answer, result}
use Rattle.rules.specs.Requests.{Request, no_request, get_all_irqs, enqueue, clear_irqs, apf_enable, apf_disable_wait, adapter_register, adapter_modify, clear_io_irq, aism, airq_inject, set_aism_all, get_aism_all, set_request, get_request, gets_all, enqueues, clears, sets_apf, registers, modifies, removes, clears_io, sets_mode, injected, injects, request}
use Rattle.rules.specs.Take.{Handed, handed, hands_out, takes}
use Rattle.rules.specs.MoveList.{ListRequest, writes, onward, applies, plays}
use native.Mathlib.Omega.{arith}
use Rattle.rules.specs.Invariant.{All}
use Rattle.rules.proofs.Checks.{Comes, need-comes, present-comes, choose-comes}
use Rattle.rules.specs.Machine.{Ask, set_attr, get_attr, guest_take, write_list, play_list, Call, outcome, step, answer_of}

-- the paper's six codes, and one of them
abbrev pub codes : List ℕ
codes = EINVAL ∷ EOPNOTSUPP ∷ EFAULT ∷ ENOMEM ∷ EBUSY ∷ E2BIG ∷ []

abbrev pub Refusal : ℕ → Type 0
Refusal code = Memᴰ code codes

einval : Refusal EINVAL
einval = Memᴰ.head refl

eopnotsupp : Refusal EOPNOTSUPP
eopnotsupp = Memᴰ.tail (Memᴰ.head refl)

efault : Refusal EFAULT
efault = Memᴰ.tail (Memᴰ.tail (Memᴰ.head refl))

enomem : Refusal ENOMEM
enomem = Memᴰ.tail (Memᴰ.tail (Memᴰ.tail (Memᴰ.head refl)))

ebusy : Refusal EBUSY
ebusy = Memᴰ.tail (Memᴰ.tail (Memᴰ.tail (Memᴰ.tail (Memᴰ.head refl))))

e2big : Refusal E2BIG
e2big = Memᴰ.tail (Memᴰ.tail (Memᴰ.tail (Memᴰ.tail (Memᴰ.tail (Memᴰ.head refl)))))

-- none of them is 0
pub never-zero : (code : ℕ) → Refusal code → code ≡ 0 → ⊥
never-zero code k z = above codes (omega arith, (omega arith, (omega arith, (omega arith, (omega arith, (omega arith, tt)))))) k
  where
    above : (l : List ℕ) → All (λ (n : ℕ). 0 < n) l → Memᴰ code l → ⊥
    above l h (Memᴰ.head e) = omega (arith, h.0, e, z)
    above l h (Memᴰ.tail m) = above _ h.1 m

-- Refused with one of the six codes and count 0; accepted with this capability; refused part-way with one of the six
-- codes and no further number, and only if Z.
module _ (ais : Bool) (Z : Type 0) where
  abbrev Refuses : ℕ → ℕ → Type 0
  Refuses code count = Refusal code × (count ≡ 0)

  abbrev Accepts : ℕ → State → List ℕ → Type 0
  Accepts count next written = next.ais ≡ ais

  abbrev Resets : ℕ → ℕ → ℕ → Type 0
  Resets code place further = Z × Refusal code × (further ≡ 0)

  abbrev pub Known : Outcome State → Type 0
  Known = Comes Refuses Accepts Resets

  needs : (t : Bool) (code : ℕ) (o : Outcome State) → Refusal code → Known o → Known (need t else code ⨾ o)
  needs t code o k h = need-comes Refuses Accepts Resets t code o (k, refl) (λ e. h)

  presents : (p : Option Adapter) (code : ℕ) (f : Adapter → Outcome State) → Refusal code → ((x : Adapter) → Known (f x))
      → Known (present p else code ⨾ f)
  presents p code f k h = present-comes Refuses Accepts Resets p code f (k, refl) (λ x e. h x)

  chooses : (t : Bool) (x y : Outcome State) → Known x → Known y → Known (choose t x y)
  chooses t x y h k = choose-comes Refuses Accepts Resets t x y (λ e. h) (λ e. k)

-- ---- requests: none is refused part-way
module _ (L : Limits) (s : State) where
  abbrev K : Outcome State → Type 0
  K = Known s.ais ⊥

  check : (t : Bool) (code : ℕ) (o : Outcome State) → Refusal code → K o → K (need t else code ⨾ o)
  check = needs s.ais ⊥

  known-removed : (o : Option (List (List Record))) → K (removes s o)
  unfolding removes
  known-removed none = refl
  known-removed (some qs) = refl

  known-masked : (t : Bool) (x y : State) → x.ais ≡ s.ais → y.ais ≡ s.ais → (choose t x y).ais ≡ s.ais
  unfolding choose
  known-masked true x y h k = h
  known-masked false x y h k = k

  pub known-request : (q : Request) (attr : ℕ) (b : List ℕ) → K (request L s q attr b)
  unfolding request gets_all enqueues clears sets_apf registers modifies clears_io sets_mode injected injects
  known-request no_request attr b = (einval, refl)
  known-request get_all_irqs attr b = check _ _ _ einval (check _ _ _ efault (check _ _ _ enomem refl))
  known-request enqueue attr b = check _ _ _ einval (check _ _ _ efault (check _ _ _ einval (check _ _ _ ebusy refl)))
  known-request clear_irqs attr b = check _ _ _ einval refl
  known-request apf_enable attr b = check _ _ _ einval refl
  known-request apf_disable_wait attr b = check _ _ _ einval refl
  known-request adapter_register attr b =
      check _ _ _ einval (check _ _ _ efault (check _ _ _ einval (check _ _ _ einval (check _ _ _ einval refl))))
  known-request adapter_modify attr b =
      check _ _ _ einval (check _ _ _ efault (check _ _ _ einval (presents s.ais ⊥ _ _ _ einval (λ x.
      check _ _ _ einval (check _ _ _ einval (known-masked _ _ _ refl refl))))))
  known-request clear_io_irq attr b = check _ _ _ einval (check _ _ _ efault (check _ _ _ einval (known-removed _)))
  known-request aism attr b =
      check _ _ _ einval (check _ _ _ eopnotsupp (check _ _ _ efault (check _ _ _ einval (check _ _ _ einval refl))))
  known-request airq_inject attr b =
      check _ _ _ einval (presents s.ais ⊥ _ _ _ einval (λ x. chooses s.ais ⊥ _ _ _ refl (check _ _ _ ebusy refl)))
  known-request set_aism_all attr b = check _ _ _ einval (check _ _ _ eopnotsupp (check _ _ _ efault refl))
  known-request get_aism_all attr b = check _ _ _ einval (check _ _ _ eopnotsupp (check _ _ _ efault refl))

  known-handed : (o : Option (Handed Pending)) → K (hands_out s o)
  unfolding hands_out
  known-handed none = refl
  known-handed (some h) = refl

-- ---- the playing of a list
abbrev P : Bool → Outcome State → Type 0
P ais = Known ais (Unit {0})

known-onward : (ais was : Bool) (o : Outcome State) (place : ℕ) (rest : State → Outcome State) → Known was ⊥ o
    → ((t : State) → t.ais ≡ was → P ais (rest t)) → P ais (onward o place rest)
unfolding onward
known-onward ais was (refuse_with code count) place rest k f = (tt, k.0, refl)
known-onward ais was (accept count next written) place rest k f = f next k
known-onward ais was (reset_with code at further) place rest k f = absurd k.0

known-applies : (L : Limits) (ais : Bool) (place : ℕ) (s : State) (es : List ListRequest) → s.ais ≡ ais
    → P ais (applies L place s es)
unfolding applies
known-applies L ais place s [] h = h
known-applies L ais place s (e ∷ es) h =
    known-onward ais s.ais _ place (λ t. applies L (suc place) t es)
    (known-request L s (set_request e.group) e.attr e.payload)
    (λ t k. known-applies L ais (suc place) t es (k ∙ h))

-- of the state, the playing of a list looks at the capability alone
pub plays-fresh : (L : Limits) (s : State) (b : List ℕ) → plays L s b ≡ plays L (fresh L s.ais) b
unfolding plays fresh
plays-fresh L s b = refl

known-plays : (L : Limits) (s : State) (b : List ℕ) → P s.ais (plays L s b)
unfolding plays fresh
known-plays L s b =
    go _ _ _ efault (go _ _ _ einval (go _ _ _ einval (go _ _ _ e2big (go _ _ _ einval (go _ _ _ einval
    (go _ _ _ eopnotsupp (known-applies L s.ais 0 (fresh L s.ais) _ refl)))))))
  where
    go : (t : Bool) (code : ℕ) (o : Outcome State) → Refusal code → P s.ais o → P s.ais (need t else code ⨾ o)
    go = needs s.ais (Unit {0})

-- ---- every call
-- whether a call plays a list
abbrev pub Plays : Ask → Type 0
Plays (set_attr group attr) = ⊥
Plays (get_attr group attr) = ⊥
Plays (guest_take subclasses external_allowed mchk_allowed) = ⊥
Plays write_list = ⊥
Plays play_list = Unit {0}

pub known-outcome : (L : Limits) (s : State) (ask : Ask) (table : ℕ) (b : List ℕ)
    → Known s.ais (Plays ask) (outcome L s ask table b)
unfolding outcome writes takes
known-outcome L s (set_attr group attr) table b = check L s _ _ _ efault (known-request L s (set_request group) attr b)
known-outcome L s (get_attr group attr) table b = check L s _ _ _ efault (known-request L s (get_request group) attr b)
known-outcome L s (guest_take subclasses external_allowed mchk_allowed) table b =
    check L s _ _ _ efault (known-handed L s (handed s.pending subclasses external_allowed mchk_allowed))
known-outcome L s write_list table b = check L s _ _ _ efault (check L s _ _ _ enomem refl)
known-outcome L s play_list table b = needs s.ais (Unit {0}) _ _ _ efault (known-plays L s b)

-- what holds of the answer to a call in a state
pub record Answered (ask : Ask) (s : State) (a : Answer State) : Type 0 where
  pub code : Memᴰ a.code (0 ∷ codes)
  pub same-ais : a.next.ais ≡ s.ais
  pub no-count : (Plays ask → ⊥) → (a.code ≡ 0 → ⊥) → a.count ≡ 0
  pub no-further : a.further ≡ 0

answer-to : (L : Limits) (ask : Ask) (s : State) (b : List ℕ) (o : Outcome State) → Known s.ais (Plays ask) o
    → Answered ask s (answer_of L s b o)
unfolding result fresh
answer-to L ask s b (refuse_with code count) k =
    record { code = Memᴰ.tail k.0; same-ais = refl; no-count = λ p n. k.1; no-further = refl }
answer-to L ask s b (accept count next written) k =
    record { code = Memᴰ.head refl; same-ais = k; no-count = λ p n. absurd (n refl); no-further = refl }
answer-to L ask s b (reset_with code place further) k =
    record { code = Memᴰ.tail k.1; same-ais = refl; no-count = λ p n. absurd (p k.0); no-further = k.2 }

pub every-answer : (L : Limits) (s : State) (c : Call) → Answered c.ask s (step L s c)
unfolding step
every-answer L s c = answer-to L c.ask s c.buffer _ (known-outcome L s c.ask c.table_length c.buffer)
