-- Laws on a table's image and on a table restored from one.
use Rattle.numbers.proofs.Basics.{ℕ, zero, suc, ◌+◌, ◌<◌, ◌≤◌, ◌≡◌, refl, sym, ◌∙◌, ap, List, map}
use Rattle.numbers.proofs.Basics.{add-one, arith, length, get_or, set, take, replicate, length-set}
use Rattle.numbers.proofs.{Basics.length-map, Basics.list-get_or-map, Basics.get_or-take, Basics.length-take-le, Basics.take_all}
use Rattle.std.proofs.lemmas.{Grind.get_or-set_at, List.get_or-set_other, List.get_or-replicate}
use lib.ListN.{length-replicate}
use lib.Seq.{ext_get_or}
use Rattle.adapters.specs.{declared.Place.Place, Values.unused}
use Rattle.list_image.specs.Image.{image_size, packed, unpacked}
use Rattle.list_image.proofs.Packed.{unpacked-zero}
use Rattle.lent_table.specs.Table.{snap_to, restored}

pub snap-none : (t : List Place) → replicate image_size 0 ≡ snap_to t 0
unfolding snap_to
snap-none t = refl

pub snap-next : (t : List Place) (i : ℕ) → set (snap_to t i) i (packed (get_or t i unused)) ≡ snap_to t (i + 1)
unfolding snap_to
snap-next t i = rw (add-one i)

pub ruleset snapping = (snap-none, snap-next)

pub length-snap : (t : List Place) (n : ℕ) → length (snap_to t n) ≡ image_size
unfolding snap_to
length-snap t zero = length-replicate {A = ℕ} image_size 0
length-snap t (suc n) = length-set (snap_to t n) n _ ∙ length-snap t n

pub restored-none : (t : List Place) (all : List ℕ) → restored t all 0 ≡ t
unfolding restored
restored-none t all = refl

pub restored-next : (t : List Place) (all : List ℕ) (i : ℕ) → set (restored t all i) i (unpacked (get_or all i 0)) ≡ restored t all (i + 1)
unfolding restored
restored-next t all i = rw (add-one i)

pub ruleset restoring = (restored-none, restored-next)

-- the same of an image of unused places
pub cleared-next : (t : List Place) (i : ℕ) → i < image_size
    → set (restored t (replicate image_size 0) i) i unused ≡ restored t (replicate image_size 0) (i + 1)
cleared-next t i h = rw (← restored-next t (replicate image_size 0) i, get_or-replicate {A = ℕ} image_size i 0 0 h, unpacked-zero)

pub ruleset clearing = (restored-none, cleared-next)

pub length-restored : (t : List Place) (all : List ℕ) (n : ℕ) → length (restored t all n) ≡ length t
unfolding restored
length-restored t all zero = refl
length-restored t all (suc n) = length-set (restored t all n) n _ ∙ length-restored t all n

-- an element that was set: that one, or another
set_below : {A : Type 0} (l : List A) (n i : ℕ) (a d x : A) → n < length l → i < suc n → (i ≡ n → a ≡ x) → (i < n → get_or l i d ≡ x) → get_or (set l n a) i d ≡ x
set_below l n i a d x h below here there = grind (arith, get_or-set_at, get_or-set_other)

-- the first n numbers of an image are those of the places
pub snap-at : (t : List Place) (n i d : ℕ) → i < n → n ≤ image_size → get_or (snap_to t n) i d ≡ packed (get_or t i unused)
unfolding snap_to
snap-at t zero i d h m = absurd (omega arith)
snap-at t (suc n) i d h m = set_below (snap_to t n) n i _ d _ (omega (arith, length-snap t n)) h (λ e. rw e) (λ l. snap-at t n i d l (omega arith))

-- the image of a table with as many places as an image has numbers has the number of each
pub snap-all : (t : List Place) → length t ≡ image_size → snap_to t image_size ≡ map packed t
snap-all t e =
    ext_get_or (packed unused) (snap_to t image_size) (map packed t) (length-snap t image_size ∙ sym e ∙ sym (length-map t packed))
    (λ i h. snap-at t image_size i (packed unused) (omega (arith, length-snap t image_size)) (omega arith) ∙ sym (list-get_or-map packed t i unused))

-- the first n places are those of the image, and the rest stays
pub restored_at : (t : List Place) (all : List ℕ) (n i : ℕ) (d : Place) → i < n → n ≤ length t → get_or (restored t all n) i d ≡ unpacked (get_or all i 0)
unfolding restored
restored_at t all zero i d h m = absurd (omega arith)
restored_at t all (suc n) i d h m =
    set_below (restored t all n) n i _ d _ (omega (arith, length-restored t all n)) h (λ e. rw e) (λ l. restored_at t all n i d l (omega arith))

pub restored-rest : (t : List Place) (all : List ℕ) (n i : ℕ) (d : Place) → n ≤ i → get_or (restored t all n) i d ≡ get_or t i d
unfolding restored
restored-rest t all zero i d h = refl
restored-rest t all (suc n) i d h = get_or-set_other (restored t all n) n i _ d (λ e. omega arith) ∙ restored-rest t all n i d (omega arith)

-- a table of n places restored whole has the places of the image
pub restored-all : (t : List Place) (all : List ℕ) (n : ℕ) → length t ≡ n → n ≤ length all → restored t all n ≡ map unpacked (take n all)
restored-all t all n e h =
    let long : length (restored t all n) ≡ n = length-restored t all n ∙ e in
    ext_get_or (unpacked 0) (restored t all n) (map unpacked (take n all)) (long ∙ sym (length-map (take n all) unpacked ∙ length-take-le n all h))
    (λ i l. let below : i < n = omega arith in restored_at t all n i (unpacked 0) below (omega arith) ∙ ap unpacked (sym (get_or-take n all i 0 below)) ∙ sym (list-get_or-map unpacked (take n all) i 0))

pub restored-whole : (t : List Place) (all : List ℕ) (n : ℕ) → length t ≡ n → length all ≡ n → restored t all n ≡ map unpacked all
restored-whole t all n e h = restored-all t all n e (omega arith) ∙ ap (map unpacked) (take_all n all (omega arith))
