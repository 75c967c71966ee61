-- What the outcome of an accepted call can be: a set request and the playing of a list write nothing, a get request and the writing of a list leave the
-- state as it was.
use Prim.Native.Nat.{ℕ, suc}
use mathlib.Core.Path.{◌≡◌, refl}
use mathlib.Core.Bool.{Bool}
use mathlib.Core.Option.{Option, none, some}
use mathlib.Core.List.{List, [], ◌∷◌}
use Rattle.rules.specs.Bytes.{choose}
use Rattle.rules.specs.State.{Limits, Adapter, Record, State}
use Rattle.rules.specs.Outcome.{Outcome, refuse_with, accept, reset_with, need◌else◌⨾◌, present◌else◌⨾◌}
use Rattle.rules.specs.Requests.{Request, no_request, get_all_irqs, enqueue, clear_irqs, apf_enable, apf_disable_wait, adapter_register, adapter_modify, clear_io_irq, aism, airq_inject, set_aism_all, get_aism_all, set_groups, get_groups, set_request, get_request, gets_all, enqueues, clears, sets_apf, registers, modifies, removes, clears_io, sets_mode, injects, request}
use Rattle.rules.specs.MoveList.{ListRequest, writes, onward, applies, plays}
use Rattle.rules.specs.Machine.{Ask, set_attr, get_attr, guest_take, write_list, play_list, outcome}
use Rattle.rules.proofs.Checks.{Comes, need-comes, present-comes, choose-comes}
use Rattle.rules.proofs.Lists.{all-get}

-- accepted with such a next state and such bytes written
module _ (N : State → Type 0) (B : List ℕ → Type 0) where
  abbrev Accepts : ℕ → State → List ℕ → Type 0
  Accepts count next written = N next × B written

  abbrev pub Shape : Outcome State → Type 0
  Shape = Comes (λ code count. Unit {0}) Accepts (λ code place further. Unit {0})

  needs : (t : Bool) (code : ℕ) (o : Outcome State) → Shape o → Shape (need t else code ⨾ o)
  needs t code o h = need-comes (λ code count. Unit {0}) Accepts (λ code place further. Unit {0}) t code o tt (λ e. h)

  presents : (p : Option Adapter) (code : ℕ) (f : Adapter → Outcome State) → ((x : Adapter) → Shape (f x)) → Shape (present p else code ⨾ f)
  presents p code f h = present-comes (λ code count. Unit {0}) Accepts (λ code place further. Unit {0}) p code f tt (λ x e. h x)

  chooses : (t : Bool) (x y : Outcome State) → Shape x → Shape y → Shape (choose t x y)
  chooses t x y h k = choose-comes (λ code count. Unit {0}) Accepts (λ code place further. Unit {0}) t x y (λ e. h) (λ e. k)

abbrev pub Any {ℓ} : {A : Type ℓ} → A → Type 0
Any a = Unit {0}

abbrev pub None : List ℕ → Type 0
None w = w ≡ []

-- ---- requests that set, and the playing of a list
abbrev pub Sets : Outcome State → Type 0
Sets = Shape Any None

set-need : (t : Bool) (code : ℕ) (o : Outcome State) → Sets o → Sets (need t else code ⨾ o)
set-need = needs Any None

abbrev IsSet : Request → Type 0
IsSet no_request = Unit {0}
IsSet get_all_irqs = ⊥
IsSet enqueue = Unit {0}
IsSet clear_irqs = Unit {0}
IsSet apf_enable = Unit {0}
IsSet apf_disable_wait = Unit {0}
IsSet adapter_register = Unit {0}
IsSet adapter_modify = Unit {0}
IsSet clear_io_irq = Unit {0}
IsSet aism = Unit {0}
IsSet airq_inject = Unit {0}
IsSet set_aism_all = Unit {0}
IsSet get_aism_all = ⊥

sets-removed : (s : State) (o : Option (List (List Record))) → Sets (removes s o)
unfolding removes
sets-removed s none = (tt, refl)
sets-removed s (some qs) = (tt, refl)

sets-one : (L : Limits) (s : State) (q : Request) (attr : ℕ) (b : List ℕ) → IsSet q → Sets (request L s q attr b)
unfolding request enqueues clears sets_apf registers modifies clears_io sets_mode injects
sets-one L s no_request attr b k = tt
sets-one L s get_all_irqs attr b k = absurd k
sets-one L s enqueue attr b k = set-need _ _ _ (set-need _ _ _ (set-need _ _ _ (set-need _ _ _ (tt, refl))))
sets-one L s clear_irqs attr b k = set-need _ _ _ (tt, refl)
sets-one L s apf_enable attr b k = set-need _ _ _ (tt, refl)
sets-one L s apf_disable_wait attr b k = set-need _ _ _ (tt, refl)
sets-one L s adapter_register attr b k =
    set-need _ _ _ (set-need _ _ _ (set-need _ _ _ (set-need _ _ _ (set-need _ _ _ (tt, refl)))))
sets-one L s adapter_modify attr b k =
    set-need _ _ _ (set-need _ _ _ (set-need _ _ _ (presents Any None _ _ _ (λ x.
    set-need _ _ _ (set-need _ _ _ (tt, refl))))))
sets-one L s clear_io_irq attr b k = set-need _ _ _ (set-need _ _ _ (set-need _ _ _ (sets-removed s _)))
sets-one L s aism attr b k =
    set-need _ _ _ (set-need _ _ _ (set-need _ _ _ (set-need _ _ _ (set-need _ _ _ (tt, refl)))))
sets-one L s airq_inject attr b k =
    set-need _ _ _ (presents Any None _ _ _ (λ x. chooses Any None _ _ _ (tt, refl) (set-need _ _ _ (tt, refl))))
sets-one L s set_aism_all attr b k = set-need _ _ _ (set-need _ _ _ (set-need _ _ _ (tt, refl)))
sets-one L s get_aism_all attr b k = absurd k

set-group : (group : ℕ) → IsSet (set_request group)
set-group group = all-get IsSet set_groups group no_request (tt, (tt, (tt, (tt, (tt, (tt, (tt, (tt, (tt, (tt, (tt, (tt, tt)))))))))))) tt

set-shape : (L : Limits) (s : State) (group attr table : ℕ) (b : List ℕ) → Sets (outcome L s (set_attr group attr) table b)
unfolding outcome
set-shape L s group attr table b = set-need _ _ _ (sets-one L s (set_request group) attr b (set-group group))

-- ---- requests that get, and the writing of a list
abbrev pub Gets : State → Outcome State → Type 0
Gets s = Shape (λ t. t ≡ s) Any

abbrev IsGet : Request → Type 0
IsGet no_request = Unit {0}
IsGet get_all_irqs = Unit {0}
IsGet enqueue = ⊥
IsGet clear_irqs = ⊥
IsGet apf_enable = ⊥
IsGet apf_disable_wait = ⊥
IsGet adapter_register = ⊥
IsGet adapter_modify = ⊥
IsGet clear_io_irq = ⊥
IsGet aism = ⊥
IsGet airq_inject = ⊥
IsGet set_aism_all = ⊥
IsGet get_aism_all = Unit {0}

module _ (L : Limits) (s : State) where
  get-need : (t : Bool) (code : ℕ) (o : Outcome State) → Gets s o → Gets s (need t else code ⨾ o)
  get-need = needs (λ t. t ≡ s) Any

  gets-one : (q : Request) (attr : ℕ) (b : List ℕ) → IsGet q → Gets s (request L s q attr b)
  unfolding request gets_all
  gets-one no_request attr b k = tt
  gets-one get_all_irqs attr b k = get-need _ _ _ (get-need _ _ _ (get-need _ _ _ (refl, tt)))
  gets-one enqueue attr b k = absurd k
  gets-one clear_irqs attr b k = absurd k
  gets-one apf_enable attr b k = absurd k
  gets-one apf_disable_wait attr b k = absurd k
  gets-one adapter_register attr b k = absurd k
  gets-one adapter_modify attr b k = absurd k
  gets-one clear_io_irq attr b k = absurd k
  gets-one aism attr b k = absurd k
  gets-one airq_inject attr b k = absurd k
  gets-one set_aism_all attr b k = absurd k
  gets-one get_aism_all attr b k = get-need _ _ _ (get-need _ _ _ (get-need _ _ _ (refl, tt)))

  get-group : (group : ℕ) → IsGet (get_request group)
  get-group group = all-get IsGet get_groups group no_request (tt, (tt, (tt, (tt, (tt, (tt, (tt, (tt, (tt, (tt, (tt, (tt, tt)))))))))))) tt

  get-shape : (group attr table : ℕ) (b : List ℕ) → Gets s (outcome L s (get_attr group attr) table b)
  unfolding outcome
  get-shape group attr table b = get-need _ _ _ (gets-one (get_request group) attr b (get-group group))

  write_shape : (table : ℕ) (b : List ℕ) → Gets s (outcome L s write_list table b)
  unfolding outcome writes
  write_shape table b = get-need _ _ _ (get-need _ _ _ (refl, tt))

-- ---- the playing of a list writes nothing
apply-shape : (o : Outcome State) (place : ℕ) (rest : State → Outcome State) → ((t : State) → Sets (rest t)) → Sets (onward o place rest)
unfolding onward
apply-shape (refuse_with code count) place rest h = tt
apply-shape (accept count next written) place rest h = h next
apply-shape (reset_with code at further) place rest h = tt

applies-shape : (L : Limits) (place : ℕ) (s : State) (es : List ListRequest) → Sets (applies L place s es)
unfolding applies
applies-shape L place s [] = (tt, refl)
applies-shape L place s (e ∷ es) = apply-shape _ place (λ t. applies L (suc place) t es) (λ t. applies-shape L (suc place) t es)

play-shape : (L : Limits) (s : State) (table : ℕ) (b : List ℕ) → Sets (outcome L s play_list table b)
unfolding outcome plays
play-shape L s table b =
    set-need _ _ _ (set-need _ _ _ (set-need _ _ _ (set-need _ _ _
    (set-need _ _ _ (set-need _ _ _ (set-need _ _ _ (set-need _ _ _ (applies-shape L 0 _ _))))))))

-- ---- every call that is lent a table
abbrev pub Shaped : State → Ask → Outcome State → Type 0
Shaped s (set_attr group attr) = Sets
Shaped s (get_attr group attr) = Gets s
Shaped s (guest_take subclasses external mcheck) = Any
Shaped s write_list = Gets s
Shaped s play_list = Sets

pub shaped : (L : Limits) (s : State) (ask : Ask) (table : ℕ) (b : List ℕ) → Shaped s ask (outcome L s ask table b)
shaped L s (set_attr group attr) table b = set-shape L s group attr table b
shaped L s (get_attr group attr) table b = get-shape L s group attr table b
shaped L s (guest_take subclasses external mcheck) table b = tt
shaped L s write_list table b = write_shape L s table b
shaped L s play_list table b = play-shape L s table b
