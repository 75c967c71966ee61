-- Laws of maps of lists.
use Rattle.numbers.proofs.Basics.{ℕ, zero, suc, ◌≡◌, refl, ap, List, [], ◌∷◌, map, set, replicate}

pub map-set {ℓ} : {A B : Type ℓ} (f : A → B) (t : List A) (i : ℕ) (x : A) → map f (set t i x) ≡ set (map f t) i (f x)
map-set f [] i x = refl
map-set f (y ∷ t) zero x = refl
map-set f (y ∷ t) (suc i) x = ap (λ l. f y ∷ l) (map-set f t i x)

pub map-replicate {ℓ} : {A B : Type ℓ} (f : A → B) (n : ℕ) (x : A) → map f (replicate n x) ≡ replicate n (f x)
map-replicate f zero x = refl
map-replicate f (suc n) x = ap (λ l. f x ∷ l) (map-replicate f n x)
