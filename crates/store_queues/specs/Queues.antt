-- The nine queues as lists, from rows of slot numbers, counts and slots.
use Rattle.std.specs.Prelude.{ℕ, zero, suc, ◌+◌, ◌*◌, ◌-◌, ◌/◌, ◌≤◌, ◌≡◌, length, get_or, set, take, drop, replicate}
use mathlib.Core.List.{List, [], ◌∷◌, ◌++◌, flatten, map}
use Rattle.rules.specs.State.{Record}
use Rattle.store_queues.specs.Slots.{slot_count, remove_at, slot, Apart}

-- The order is ten rows of slot_count slot numbers: a row for each queue, and a last one of the free slots. Of each row
-- the first entries are used, as many as counted.
unfoldable pub row : (order : List ℕ) (q n : ℕ) → List ℕ
row order q n = take n (drop (q * slot_count) order)

-- the rows from q on, by their counts
unfoldable pub rows : (order : List ℕ) (q : ℕ) (counts : List ℕ) → List (List ℕ)
rows order q [] = []
rows order q (n ∷ ns) = row order q n ∷ rows order (suc q) ns

-- The counts: one for each of the nine queues, how many records they hold together, and the subclasses that have
-- records.
abbrev pub each : List ℕ → List ℕ
each counts = take 9 counts

abbrev pub total : List ℕ → ℕ
total counts = get_or counts 9 0

abbrev pub waiting : List ℕ → ℕ
waiting counts = get_or counts 10 0

-- the slots of the queues' records, queue by queue, and the free slots
abbrev pub used : (order counts : List ℕ) → List (List ℕ)
used order counts = rows order 0 (each counts)

abbrev pub spare : (order counts : List ℕ) → List ℕ
spare order counts = row order 9 (slot_count - total counts)

-- the records in slots
abbrev pub listed : (slots : List ℕ) → List ℕ → List Record
listed slots = map (slot 72 slots)

unfoldable pub queues : (order counts slots : List ℕ) → List (List Record)
queues order counts slots = map (listed slots) (used order counts)

-- queues without the record at a place of queue q
unfoldable pub without_at {ℓ} : {A : Type ℓ} (q at : ℕ) → List (List A) → List (List A)
without_at q at qs = set qs q (remove_at at (get_or qs q []))

unfoldable pub sum : List ℕ → ℕ
sum [] = 0
sum (n ∷ ns) = n + sum ns

-- a mask with a bit for each queue that is not empty: the first queue has bit w, the next w / 2 and so on. From 128 the
-- eight subclasses have the bits that the rules give them, and the finished page faults none.
unfoldable pub some : ℕ → ℕ
some zero = 0
some (suc n) = 1

unfoldable pub bits : (w : ℕ) → List ℕ → ℕ
bits w [] = 0
bits w (n ∷ ns) = some n * w + bits (w / 2) ns

-- what every call keeps of the counts
pub record Counted (counts : List ℕ) : Type 0 where
  pub long : length counts ≡ 11
  pub all : total counts ≡ sum (each counts)
  pub few : total counts ≤ slot_count
  pub marked : waiting counts ≡ bits 128 (each counts)

-- and of the order with them: no slot is named twice, among the queues' and the free ones
pub record Held (order counts : List ℕ) : Type 0 where
  pub long : length order ≡ 10 * slot_count
  pub counted : Counted counts
  pub apart : Apart (flatten (used order counts) ++ spare order counts)

-- what appending the record r to queue q leaves
pub record Appended (q : ℕ) (r o c b o' c' b' : List ℕ) : Type 0 where
  pub queue : queues o' c' b' ≡ set (queues o c b) q (get_or (queues o c b) q [] ++ (r ∷ []))
  pub held : Held o' c'
  pub count : total c' ≡ total c + 1

-- what removing the record at a place of queue q leaves
pub record Removed (q at : ℕ) (o c o' c' : List ℕ) : Type 0 where
  pub queue : (b : List ℕ) → queues o' c' b ≡ without_at q at (queues o c b)
  pub held : Held o' c'

-- what emptying leaves
pub record Emptied (o' c' : List ℕ) : Type 0 where
  pub queue : (b : List ℕ) → queues o' c' b ≡ replicate 9 []
  pub held : Held o' c'

-- n numbers from i up: the free slots of a fresh controller
unfoldable pub up_from : ℕ → ℕ → List ℕ
up_from i zero = []
up_from i (suc n) = i ∷ up_from (suc i) n
