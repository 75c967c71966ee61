-- The order of checks, and choices: what a test's value makes of them, for any controller.
use Prim.Native.Nat.{ℕ}
use mathlib.Core.Path.{◌≡◌, refl}
use mathlib.Core.Bool.{Bool, true, false, ◌&&◌}
use mathlib.Core.Option.{Option, none, some}
use mathlib.Core.List.{List}
use Rattle.rules.specs.Bytes.{choose}
use Rattle.rules.specs.Outcome.{Outcome, refuse_with, accept, reset_with, refuse, need◌else◌⨾◌, present◌else◌⨾◌}

pub passes : {A : Type 0} (t : Bool) (code : ℕ) (rest : Outcome A) → t ≡ true → (need t else code ⨾ rest) ≡ rest
unfolding need◌else◌⨾◌
passes t code rest h = rw h

pub fails : {A : Type 0} (t : Bool) (code : ℕ) (rest : Outcome A) → t ≡ false → (need t else code ⨾ rest) ≡ refuse code
unfolding need◌else◌⨾◌
fails t code rest h = rw h

pub found : {X A : Type 0} (o : Option X) (x : X) (code : ℕ) (rest : X → Outcome A) → o ≡ some x → (present o else code ⨾ rest) ≡ rest x
unfolding present◌else◌⨾◌
found o x code rest h = rw h

pub missing : {X A : Type 0} (o : Option X) (code : ℕ) (rest : X → Outcome A) → o ≡ none → (present o else code ⨾ rest) ≡ refuse code
unfolding present◌else◌⨾◌
missing o code rest h = rw h

-- What holds of an outcome, by its form: R of a refusal's code and count; P of what is accepted; Z of a reset's code,
-- place and further number. It holds of checks in order if it holds of their refusals, and of the rest where the tests
-- hold.
abbrev pub Comes : {A : Type 0} → (ℕ → ℕ → Type 0) → (ℕ → A → List ℕ → Type 0) → (ℕ → ℕ → ℕ → Type 0) → Outcome A → Type 0
Comes R P Z (refuse_with code count) = R code count
Comes R P Z (accept count next written) = P count next written
Comes R P Z (reset_with code place further) = Z code place further

module _ {A : Type 0} (R : ℕ → ℕ → Type 0) (P : ℕ → A → List ℕ → Type 0) (Z : ℕ → ℕ → ℕ → Type 0) where
  pub need-comes : (t : Bool) (code : ℕ) (o : Outcome A) → Comes {A = A} R P Z (refuse code) → (t ≡ true → Comes R P Z o) → Comes R P Z (need t else code ⨾ o)
  unfolding need◌else◌⨾◌
  need-comes true code o r h = h refl
  need-comes false code o r h = r

  pub present-comes : {X : Type 0} (o : Option X) (code : ℕ) (f : X → Outcome A) → Comes {A = A} R P Z (refuse code) → ((x : X) → o ≡ some x → Comes R P Z (f x))
      → Comes R P Z (present o else code ⨾ f)
  unfolding present◌else◌⨾◌
  present-comes none code f r h = r
  present-comes (some x) code f r h = h x refl

  pub choose-comes : (t : Bool) (x y : Outcome A) → (t ≡ true → Comes R P Z x) → (t ≡ false → Comes R P Z y) → Comes R P Z (choose t x y)
  unfolding choose
  choose-comes true x y h k = h refl
  choose-comes false x y h k = k refl

pub chosen {ℓ} : {A : Type ℓ} (t : Bool) (a b : A) → t ≡ true → choose t a b ≡ a
unfolding choose
chosen t a b h = rw h

pub passed {ℓ} : {A : Type ℓ} (t : Bool) (a b : A) → t ≡ false → choose t a b ≡ b
unfolding choose
passed t a b h = rw h

-- a conjunction of tests
pub both : (a b : Bool) → a ≡ true → b ≡ true → (a && b) ≡ true
both a b p q = rw (p, q)

pub left : (a b : Bool) → (a && b) ≡ true → a ≡ true
left true b h = refl
left false b h = h

pub right : (a b : Bool) → (a && b) ≡ true → b ≡ true
right true b h = h
right false b h = cc
