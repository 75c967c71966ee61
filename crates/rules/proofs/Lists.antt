-- Facts of every element of a list, and lists of lists.
use Prim.Native.Nat.{ℕ, zero, suc, ◌+◌, ◌<◌}
use mathlib.Core.Path.{◌≡◌, refl}
use mathlib.Core.List.{List, [], ◌∷◌, ◌++◌, flatten, append_assoc}
use native.Mathlib.Omega.{arith}
use native.Mathlib.Nat.{not-suc-le-zero, le_of_suc-le-suc}
use lib.ListN.{length, get_or, set, replicate, length-append}
use Rattle.rules.specs.Invariant.{All}

module _ {ℓ} {A : Type ℓ} (P : A → Type 0) where
  pub all_append : (xs ys : List A) → All P xs → All P ys → All P (xs ++ ys)
  all_append [] ys h k = k
  all_append (x ∷ xs) ys h k = (h.0, all_append xs ys h.1 k)

  pub all_set : (xs : List A) (i : ℕ) (x : A) → All P xs → P x → All P (set xs i x)
  all_set [] i x h k = tt
  all_set (y ∷ ys) zero x h k = (k, h.1)
  all_set (y ∷ ys) (suc i) x h k = (h.0, all_set ys i x h.1 k)

  pub all-get : (xs : List A) (i : ℕ) (d : A) → All P xs → P d → P (get_or xs i d)
  all-get [] i d h k = k
  all-get (y ∷ ys) zero d h k = h.0
  all-get (y ∷ ys) (suc i) d h k = all-get ys i d h.1 k

  pub all_replicate : (n : ℕ) (x : A) → P x → All P (replicate n x)
  all_replicate zero x k = tt
  all_replicate (suc n) x k = (k, all_replicate n x k)

module _ {ℓ} {A : Type ℓ} where
  pub flatten-append : (xs ys : List (List A)) → flatten (xs ++ ys) ≡ flatten xs ++ flatten ys
  unfolding flatten
  flatten-append [] ys = refl
  flatten-append (x ∷ xs) ys = rw (flatten-append xs ys, append_assoc x (flatten xs) (flatten ys))

  pub flatten-empty : (n : ℕ) → flatten (replicate n (let e : List A = [] in e)) ≡ []
  unfolding flatten
  flatten-empty zero = refl
  flatten-empty (suc n) = flatten-empty n

  -- one more at the end of one of the lists
  pub flatten-more : (qs : List (List A)) (i : ℕ) (a : A) → i < length qs
      → length (flatten (set qs i (get_or qs i [] ++ (a ∷ [])))) ≡ length (flatten qs) + 1
  unfolding flatten
  flatten-more [] i a h = absurd (not-suc-le-zero h)
  flatten-more (q ∷ qs) zero a h =
      simp length-append (omega arith)
  flatten-more (q ∷ qs) (suc i) a h =
      simp length-append (omega (arith, flatten-more qs i a (le_of_suc-le-suc h)))
