-- Reading and writing one number of an image is reading and writing one of its places.
use Rattle.numbers.proofs.Basics.{◌≡◌, refl, sym, ◌∙◌, List, [], ◌∷◌, map, ℕ, zero, suc, ◌≤◌, ◌<◌, arith, get_or, set}
use Rattle.numbers.proofs.{Basics.take, Basics.replicate, Basics.length-take, Basics.length-set, Basics.list-get_or-map, Basics.list-get_or-eq-default, Basics.take-set-lt, Basics.get_or-take}
use Rattle.std.proofs.lemmas.List.{map-set, take-map}
use lib.ListN.{length-replicate}
use Rattle.rules.specs.Invariant.{All}
use Rattle.rules.specs.State as rules
use Rattle.rules.proofs.Lists.{all_set, all-get, all_replicate}
use Rattle.adapters.specs.{declared.Place.Place, Values.place_of, Values.unused, Values.Canonical}
use Rattle.adapters.proofs.Laws.{canonical-unused, place-free}
use Rattle.list_image.specs.{Image.image_size, Image.packed, Image.unpacked, Places.places_of, Places.AllCanonical, Places.Imaged}
use Rattle.list_image.proofs.Packed.{unpacked-zero, unpacked-packed}

map-replicate : {A B : Type 0} (f : A → B) (n : ℕ) (a : A) → map f (replicate n a) ≡ replicate n (f a)
map-replicate f zero a = refl
map-replicate f (suc n) a = rw (map-replicate f n a)

place_none : place_of (unpacked 0) ≡ rules.free
place_none = rw unpacked-zero (place-free unused refl)

canonical-none : Canonical (unpacked 0)
canonical-none = rw unpacked-zero canonical-unused

-- an image of zeros
pub places-none : (n : ℕ) → places_of (replicate n 0) ≡ replicate n rules.free
unfolding places_of
places-none n = map-replicate (λ b. place_of (unpacked b)) n 0 ∙ rw place_none

pub canonical-zeros : (n : ℕ) → AllCanonical (replicate n 0)
unfolding AllCanonical
canonical-zeros n = rw (map-replicate unpacked n 0) (all_replicate Canonical n (unpacked 0) canonical-none)

pub imaged-zeros : Imaged (replicate image_size 0)
imaged-zeros = record { whole = length-replicate {A = ℕ} image_size 0; canonical = canonical-zeros image_size }

-- one place read
module _ (image : List ℕ) (places id : ℕ) where
  pub read_in : id < places → place_of (unpacked (get_or image id 0)) ≡ get_or (take places (places_of image)) id rules.free
  unfolding places_of
  read_in h =
      sym (list-get_or-map (λ b. place_of (unpacked b)) image id 0) ∙ rw (place_none, get_or-take places (map (λ b. place_of (unpacked b)) image) id rules.free h)

  pub read_out : places ≤ id → (place_of unused ≡ get_or (take places (places_of image)) id rules.free) × Canonical unused
  read_out h =
      (place-free unused refl ∙ sym (list-get_or-eq-default (take places (places_of image)) rules.free (rw length-take (omega arith))), canonical-unused)

  pub read_canonical : AllCanonical image → Canonical (unpacked (get_or image id 0))
  unfolding AllCanonical
  read_canonical h = rw (← list-get_or-map unpacked image id 0) (all-get Canonical (map unpacked image) id (unpacked 0) h canonical-none)

  -- one place written
  module _ (p : Place) (k : Canonical p) where
    pub write_in : id < places → take places (places_of (set image id (packed p))) ≡ set (take places (places_of image)) id (place_of p)
    unfolding places_of
    write_in h =
        rw (map-set (λ b. place_of (unpacked b)) image id (packed p), unpacked-packed p k) (take-set-lt places (places_of image) id (place_of p) h)

    write-canonical : AllCanonical image → AllCanonical (set image id (packed p))
    unfolding AllCanonical
    write-canonical h = rw (map-set unpacked image id (packed p), unpacked-packed p k) (all_set Canonical (map unpacked image) id p h k)

    pub write_imaged : Imaged image → Imaged (set image id (packed p))
    write_imaged h = record { whole = length-set image id (packed p) ∙ h.whole; canonical = write-canonical h.canonical }

-- the first places of an image
all_take : {A : Type 0} (P : A → Type 0) (n : ℕ) (l : List A) → All P l → All P (take n l)
all_take P zero l h = tt
all_take P (suc n) [] h = tt
all_take P (suc n) (x ∷ l) h = (h.0, all_take P n l h.1)

pub canonical-take : (n : ℕ) (image : List ℕ) → AllCanonical image → AllCanonical (take n image)
unfolding AllCanonical
canonical-take n image h = rw (← take-map unpacked n image) (all_take Canonical n (map unpacked image) h)

-- the places of an image, and its first ones, as a table of the code's places
pub places-all : (image : List ℕ) → places_of image ≡ map place_of (map unpacked image)
unfolding places_of
places-all [] = refl
places-all (b ∷ image) = rw (places-all image)

pub places-take : (n : ℕ) (image : List ℕ) → take n (places_of image) ≡ map place_of (map unpacked (take n image))
places-take n image = rw (places-all image) (simp take-map)
