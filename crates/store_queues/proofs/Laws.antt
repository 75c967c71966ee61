-- Laws of the queues: what the order and the counts say of them, and what a record more and a record less leave.
use Rattle.numbers.proofs.Basics.{◌≡◌, refl, sym, ap, ◌∙◌, subst, Bool, true, false, List, [], ◌∷◌, ◌++◌, flatten}
use Rattle.numbers.proofs.Basics.{map, map-append, append-nil, zero-add, ℕ, zero, suc, ◌+◌, ◌-◌, ◌*◌, ◌/◌, ◌^◌}
use Rattle.numbers.proofs.Basics.{◌≤◌, ◌<◌, not-suc-le-zero, le_of_suc-le-suc, add-one, arith, length, take, drop}
use Rattle.numbers.proofs.Basics.{get_or, set, replicate, length-append, length-drop, length-map, length-set, get_or-take}
use Rattle.numbers.proofs.Basics.{get_or-drop, take_all, take-suc, paste, length-paste, eqb, eqb-true}
use Rattle.numbers.proofs.{Basics.ne_eqb, Laws.map-set, Laws.part_same}
use Rattle.rules.specs.{Bytes.choose, State.Record, Invariant.All}
use Rattle.rules.proofs.Lists.{all_append, flatten-append}
use Rattle.std.proofs.lemmas.{List.get_or-map, List.Edits.paste-paste}
use Rattle.store_queues.specs.Slots.{slot_count, remove_at, slot, occurs, Apart, Stored}
use Rattle.store_queues.proofs.{Slots.map-remove_at, Slots.occurs-append, Slots.occurs-out, Slots.occurs-self, Slots.occurs-set, Slots.maps-lack, Counts.sum-next, Counts.length-each, Counts.count_small, Counts.Changed, Counts.counted-again, Counts.some_one, Counts.all-zero}
use Rattle.store_queues.specs.Queues.{row, rows, each, total, waiting, used, spare, listed, queues, without_at, sum, some, bits, up_from, Held, Appended, Removed, Emptied}
use Rattle.store_queues.proofs.Rows.{length-row, row_at, row_more, row-stored, row-down, row-beside, row-past, length-rows, rows_at, rows-changed}

-- ---- the queues
flatten-next : {A : Type 0} (l : List (List A)) (k : ℕ) → k < length l → flatten (take (k + 1) l) ≡ flatten (take k l) ++ get_or l k []
flatten-next l k h = rw (add-one, take-suc l k [] h, flatten-append) (unfold flatten in rw append-nil)

length-listed : (b o : List ℕ) (q : ℕ) (ns : List ℕ) → q * slot_count + length ns * slot_count ≤ length o → sum ns ≤ slot_count
    → length (flatten (map (listed b) (rows o q ns))) ≡ sum ns
unfolding rows sum flatten
length-listed b o q [] h k = refl
length-listed b o q (n ∷ ns) h k =
    let l : length (row o q n) ≡ n = length-row o q (omega arith) n (omega arith) in
    rw (length-append, length-map (row o q n) (slot 72 b), l, length-listed b o (suc q) ns (omega arith) (omega arith))

-- the records that a row names
module _ (b o : List ℕ) (q : ℕ) (h : q * slot_count + slot_count ≤ length o) (n : ℕ) (k : n ≤ slot_count) where
  pub length-named : length (listed b (row o q n)) ≡ n
  length-named = length-map (row o q n) (slot 72 b) ∙ length-row o q h n k

  pub named-at : (at : ℕ) → at < n → get_or (listed b (row o q n)) at [] ≡ slot 72 b (get_or o (q * slot_count + at) 0)
  named-at at f =
      let l : length (row o q n) ≡ n = length-row o q h n k in
      get_or-map (slot 72 b) (row o q n) at 0 [] (omega arith) ∙ ap (slot 72 b) (row_at o q h n at f)

module _ (o c : List ℕ) (h : Held o c) where
  eachs : length (each c) ≡ 9
  eachs = length-each c h.counted

  -- a queue's row lies within the order
  pub within : (q : ℕ) → q < 10 → q * slot_count + slot_count ≤ length o
  within q k = omega (arith, h.long)

  pub count_fits : (q : ℕ) → q < 9 → get_or c q 0 ≤ slot_count
  count_fits q k = omega (arith, count_small c h.counted q k, h.counted.few)

  pub each_fits : (q : ℕ) → q < 9 → get_or (each c) q 0 ≤ slot_count
  each_fits q k = rw (get_or-take 9 c q 0 k) (count_fits q k)

  row-used : (q : ℕ) → q < 9 → get_or (used o c) q [] ≡ row o q (get_or c q 0)
  row-used q k = rows_at o 0 (each c) q (omega (arith, eachs)) ∙ rw (get_or-take 9 c q 0 k, zero-add q)

  length-used : length (used o c) ≡ 9
  length-used = length-rows o 0 (each c) ∙ eachs

  module _ (b : List ℕ) where
    pub length-queues : length (queues o c b) ≡ 9
    unfolding queues
    length-queues = length-map (used o c) (listed b) ∙ length-used

    -- those of the subclasses, then the ninth
    pub flatten-queues : flatten (take 8 (queues o c b)) ++ get_or (queues o c b) 8 [] ≡ flatten (queues o c b)
    flatten-queues =
        sym (flatten-next (queues o c b) 8 (omega (arith, length-queues))) ∙ ap flatten (take_all 9 (queues o c b) (omega (arith, length-queues)))

    queue-is : (q : ℕ) → q < 9 → get_or (queues o c b) q [] ≡ listed b (row o q (get_or c q 0))
    unfolding queues
    queue-is q k = get_or-map (listed b) (used o c) q [] [] (omega (arith, length-used)) ∙ ap (listed b) (row-used q k)

    pub length-queue : (q : ℕ) → q < 9 → length (get_or (queues o c b) q []) ≡ get_or c q 0
    length-queue q k = rw (queue-is q k) (length-named b o q (within q (omega arith)) (get_or c q 0) (count_fits q k))

    pub queue-record : (q at : ℕ) → q < 9 → at < get_or c q 0 → get_or (get_or (queues o c b) q []) at [] ≡ slot 72 b (get_or o (q * slot_count + at) 0)
    queue-record q at k f = rw (queue-is q k) (named-at b o q (within q (omega arith)) (get_or c q 0) (count_fits q k) at f)

    pub length-flatten-queues : length (flatten (queues o c b)) ≡ total c
    unfolding queues
    length-flatten-queues = length-listed b o 0 (each c) (omega (arith, eachs, h.long)) (omega (arith, h.counted.all, h.counted.few)) ∙ sym h.counted.all

  -- a slot of the queues and a free one, and how often each stands
  abbrev named : ℕ → ℕ
  named s = occurs s (flatten (used o c)) + occurs s (spare o c)

  once : (s : ℕ) → named s ≤ 1
  unfolding Apart
  once s = omega (arith, h.apart s, occurs-append s (flatten (used o c)) (spare o c))

  -- the last of the free slots
  module _ (n : ℕ) (en : n ≡ total c) (f : n < slot_count) where
    abbrev pub next : ℕ
    next = get_or o (10 * slot_count - 1 - n) 0

    free_more : spare o c ≡ row o 9 (slot_count - (n + 1)) ++ (next ∷ [])
    free_more =
        let m : ℕ = slot_count - (n + 1) in
        let e : slot_count - total c ≡ m + 1 = omega arith in
        let z : 9 * slot_count + m ≡ 10 * slot_count - 1 - n = omega arith in
        ap (row o 9) e ∙ row_more o 9 (within 9 (omega arith)) m (omega arith) ∙ ap (λ (j : ℕ). row o 9 m ++ (get_or o j 0 ∷ [])) z

    -- it is none of the queues'
    next-free : occurs next (flatten (used o c)) ≡ 0
    next-free =
        omega (arith, once next, ap (occurs next) free_more, occurs-append next (row o 9 (slot_count - (n + 1))) (next ∷ []), occurs-self next)

    module _ (q : ℕ) (k : q < 9) (c' : List ℕ) (w : ℕ) (d : Changed c q (get_or c q 0 + 1) (n + 1) w c') where
      abbrev u : List ℕ
      u = set o (q * slot_count + get_or c q 0) next

      not_full : get_or c q 0 < slot_count
      not_full = omega (arith, count_small c h.counted q k)

      used-more : used u c' ≡ set (used o c) q (row o q (get_or c q 0) ++ (next ∷ []))
      used-more =
          ap (rows u 0) d.each-is
          ∙ rows-changed u o 0 (each c) q (get_or c q 0 + 1) _ (omega (arith, eachs))
          (rw (zero-add q) (row-stored o q (within q (omega arith)) (get_or c q 0) next not_full))
          (λ j ne l. row-beside o (0 + j) q (get_or c q 0) next _ (λ e. ne (omega (arith, e))) not_full
          (each_fits j (omega (arith, eachs))))

      spare-less : spare u c' ≡ row o 9 (slot_count - (n + 1))
      spare-less =
          ap (λ (t : ℕ). row u 9 (slot_count - t)) d.total-is
          ∙ row-beside o 9 q (get_or c q 0) next (slot_count - (n + 1)) (λ e. omega (arith, e)) not_full (omega arith)

      apart_more : Apart (flatten (used u c') ++ spare u c')
      unfolding Apart
      apart_more s =
          omega (
            arith,
            once s,
            occurs-append s (flatten (used u c')) (spare u c'),
            ap (λ (l : List (List ℕ)). occurs s (flatten l)) used-more,
            occurs-set s (used o c) q (row o q (get_or c q 0) ++ (next ∷ [])) (omega (arith, length-used)),
            ap (occurs s) (row-used q k),
            occurs-append s (row o q (get_or c q 0)) (next ∷ []),
            ap (occurs s) spare-less,
            ap (occurs s) free_more,
            occurs-append s (row o 9 (slot_count - (n + 1))) (next ∷ []),
          )

      queues-more : (b b' r : List ℕ) → Stored next r b b' → queues u c' b' ≡ set (queues o c b) q (get_or (queues o c b) q [] ++ (r ∷ []))
      unfolding queues
      queues-more b b' r st =
          let e : queues o c b' ≡ queues o c b = maps-lack (slot 72 b') (slot 72 b) next st.others (used o c) next-free in
          let x : listed b' (row o q (get_or c q 0) ++ (next ∷ [])) ≡ get_or (queues o c b) q [] ++ (r ∷ []) =
          map-append (slot 72 b') (row o q (get_or c q 0)) (next ∷ [])
          ∙ (λ i. (sym (queue-is b' q k) ∙ ap (λ (l : List (List (List ℕ))). get_or l q []) e) i ++ (st.here i ∷ [])) in
          ap (map (listed b')) used-more ∙ map-set (listed b') (used o c) q _ ∙ (λ i. set (e i) q (x i))

      pub append-leaves : (b b' r : List ℕ) → Stored next r b b'
          → w + some (get_or c q 0) * (128 / 2 ^ q) ≡ waiting c + 128 / 2 ^ q → Appended q r o c b u c' b'
      append-leaves b b' r st ew =
          record {
            queue = queues-more b b' r st;
            held =
                record {
                  long = length-set o (q * slot_count + get_or c q 0) next ∙ h.long;
                  counted = counted-again c h.counted q _ _ w k c' d (omega arith) (omega arith) (rw (some_one (get_or c q 0 + 1) (λ e. omega (arith, e))) (omega (arith, ew)));
                  apart = apart_more;
                };
            count = d.total-is ∙ ap (λ (m : ℕ). m + 1) en;
          }

  -- ---- one record less
  module _ (q at : ℕ) (k : q < 9) (f : at < get_or c q 0) where
    abbrev pub freed : ℕ
    freed = get_or o (q * slot_count + at) 0

    -- the entries behind it move down
    abbrev v : List ℕ
    v = paste o (q * slot_count + at) (drop (q * slot_count + at + 1) o) (q * slot_count + (get_or c q 0 - 1) - (q * slot_count + at))

    some-queued : 0 < total c
    some-queued = omega (arith, count_small c h.counted q k)

    long : length v ≡ length o
    long =
        length-paste o (q * slot_count + at) (drop (q * slot_count + at + 1) o) (q * slot_count + (get_or c q 0 - 1) - (q * slot_count + at))
        (omega (arith, within q (omega arith), count_fits q k)) (rw length-drop (omega (arith, within q (omega arith), count_fits q k)))

    beside : (p n : ℕ) → (p ≡ q → ⊥) → n ≤ slot_count → row v p n ≡ row o p n
    beside p n ne l = row-past o p q at (get_or c q 0 - 1) n ne (omega arith) (omega (arith, count_fits q k)) l (within q (omega arith))

    -- its slot joins the free ones
    module _ (c' : List ℕ) (w : ℕ) (d : Changed c q (get_or c q 0 - 1) (total c - 1) w c') where
      abbrev y : List ℕ
      y = set v (10 * slot_count - total c) freed

      y-is : y ≡ set v (9 * slot_count + (slot_count - total c)) freed
      y-is = ap (λ (j : ℕ). set v j freed) (let z : 10 * slot_count - total c ≡ 9 * slot_count + (slot_count - total c) = omega (arith, h.counted.few) in z)

      kept : (p n : ℕ) → p < 9 → n ≤ slot_count → row y p n ≡ row v p n
      kept p n l m = ap (λ (t : List ℕ). row t p n) y-is ∙ row-beside v p 9 (slot_count - total c) freed n (λ e. omega (arith, e, l)) (omega (arith, some-queued)) m

      used-less : used y c' ≡ set (used o c) q (remove_at at (row o q (get_or c q 0)))
      used-less =
          ap (rows y 0) d.each-is
          ∙ rows-changed y o 0 (each c) q (get_or c q 0 - 1) _ (omega (arith, eachs))
          (rw (zero-add q) (kept q (get_or c q 0 - 1) k (omega (arith, count_fits q k)) ∙ row-down o q (within q (omega arith)) (get_or c q 0) at f (count_fits q k)))
          (λ j ne l.
          let j9 : j < 9 = omega (arith, eachs, l) in
          let z : 0 + j ≡ j = omega arith in
          let m : get_or (each c) j 0 ≤ slot_count = each_fits j j9 in
          rw z (kept j _ j9 m ∙ beside j _ ne m))

      spare_more : spare y c' ≡ spare o c ++ (freed ∷ [])
      spare_more =
          let e : slot_count - (total c - 1) ≡ slot_count - total c + 1 = omega (arith, some-queued, h.counted.few) in
          ap (λ (t : ℕ). row y 9 (slot_count - t)) d.total-is
          ∙ ap (row y 9) e
          ∙ ap (λ (t : List ℕ). row t 9 (slot_count - total c + 1)) y-is
          ∙ row-stored v 9 (rw long (within 9 (omega arith))) (slot_count - total c) freed (omega (arith, some-queued))
          ∙ ap (λ (t : List ℕ). t ++ (freed ∷ [])) (beside 9 (slot_count - total c) (λ e. omega (arith, e)) (omega arith))

      apart-less : Apart (flatten (used y c') ++ spare y c')
      unfolding Apart
      apart-less s =
          let l : length (row o q (get_or c q 0)) ≡ get_or c q 0 = length-row o q (within q (omega arith)) (get_or c q 0) (count_fits q k) in
          let x : get_or (row o q (get_or c q 0)) at 0 ≡ freed = row_at o q (within q (omega arith)) (get_or c q 0) at f in
          omega (
            arith,
            once s,
            occurs-append s (flatten (used y c')) (spare y c'),
            ap (λ (t : List (List ℕ)). occurs s (flatten t)) used-less,
            occurs-set s (used o c) q (remove_at at (row o q (get_or c q 0))) (omega (arith, length-used)),
            ap (occurs s) (row-used q k),
            rw x at (occurs-out s at (row o q (get_or c q 0)) (omega arith)),
            ap (occurs s) spare_more,
            occurs-append s (spare o c) (freed ∷ []),
          )

      pub remove-leaves : w + some (get_or c q 0) * (128 / 2 ^ q) ≡ waiting c + some (get_or c q 0 - 1) * (128 / 2 ^ q) → Removed q at o c y c'
      unfolding queues without_at
      remove-leaves ew =
          record {
            queue = λ b.
                ap (map (listed b)) used-less ∙ map-set (listed b) (used o c) q _
                ∙ ap (set (queues o c b) q) (map-remove_at (slot 72 b) at (row o q (get_or c q 0)) ∙ ap (remove_at at) (sym (queue-is b q k)));
            held =
                record {
                  long = length-set v (10 * slot_count - total c) freed ∙ long ∙ h.long;
                  counted = counted-again c h.counted q _ _ w k c' d (omega (arith, some-queued)) (omega (arith, h.counted.few)) ew;
                  apart = apart-less;
                };
          }

  -- ---- nothing queued
  pub clear-already : total c ≡ 0 → Emptied o c
  unfolding queues rows row
  clear-already e =
      let z : each c ≡ replicate 9 0 = all-zero (each c) (sym h.counted.all ∙ e) ∙ ap (λ (n : ℕ). replicate n 0) eachs in
      record { queue = λ b. ap (λ (ns : List ℕ). map (listed b) (rows o 0 ns)) z; held = h }

-- ---- a fact of the record in every slot that the order may name is one of every queued record
module _ (P : Record → Type 0) (b : List ℕ) where
  all_listed : (l : List ℕ) (n : ℕ) → ((k : ℕ) → P (slot 72 b (get_or l k 0))) → All P (listed b (take n l))
  all_listed l zero h = tt
  all_listed [] (suc n) h = tt
  all_listed (x ∷ l) (suc n) h = (h 0, all_listed l n (λ k. h (suc k)))

  all-rows : (o : List ℕ) (q : ℕ) (ns : List ℕ) → ((k : ℕ) → P (slot 72 b (get_or o k 0))) → All P (flatten (map (listed b) (rows o q ns)))
  unfolding rows row flatten
  all-rows o q [] h = tt
  all-rows o q (n ∷ ns) h =
      all_append P (listed b (row o q n)) (flatten (map (listed b) (rows o (suc q) ns)))
      (all_listed (drop (q * slot_count) o) n (λ k. subst (λ (s : ℕ). P (slot 72 b s)) (sym (get_or-drop (q * slot_count) o k 0)) (h (q * slot_count + k)))) (all-rows o (suc q) ns h)

  pub all-queued : (o c : List ℕ) → ((k : ℕ) → P (slot 72 b (get_or o k 0))) → All P (flatten (queues o c b))
  unfolding queues
  all-queued o c h = all-rows o 0 (each c) h

-- ---- numbers from i up: no two are equal
-- a number below the first is not there, any number is there at most once
below-first : (s i n : ℕ) → s < i → occurs s (up_from i n) ≡ 0
unfolding up_from occurs choose
below-first s i zero h = refl
below-first s i (suc n) h = rw (ne_eqb i s (λ e. omega (arith, e, h))) (below-first s (suc i) n (omega arith))

at_most_one : (s i n : ℕ) (t : Bool) → eqb i s ≡ t → occurs s (up_from (suc i) n) ≤ 1
    → choose t (suc (occurs s (up_from (suc i) n))) (occurs s (up_from (suc i) n)) ≤ 1
unfolding choose
at_most_one s i n true e h = omega (arith, below-first s (suc i) n (omega (arith, eqb-true i s e)))
at_most_one s i n false e h = h

pub up-once : (s i n : ℕ) → occurs s (up_from i n) ≤ 1
unfolding up_from occurs
up-once s i zero = omega arith
up-once s i (suc n) = at_most_one s i n (eqb i s) refl (up-once s (suc i) n)

pub length_up : (i n : ℕ) → length (up_from i n) ≡ n
unfolding up_from
length_up i zero = refl
length_up i (suc n) = ap suc (length_up (suc i) n)

pub up_at : (i n k : ℕ) → k < n → get_or (up_from i n) k 0 ≡ i + k
unfolding up_from
up_at i zero k h = absurd (not-suc-le-zero h)
up_at i (suc n) zero h = omega arith
up_at i (suc n) (suc k) h = up_at (suc i) n k (le_of_suc-le-suc h) ∙ omega arith

-- every slot is free
pub reset-leaves : (o u c : List ℕ) → length o ≡ 10 * slot_count → u ≡ paste o (9 * slot_count) (up_from 0 slot_count) slot_count → c ≡ replicate 11 0 → Emptied u c
unfolding queues rows row sum bits some Apart flatten
reset-leaves o u c l eu ec =
    rw (eu, ec)
    (record {
      queue = λ b. refl;
      held =
          record {
            long = length-paste o (9 * slot_count) (up_from 0 slot_count) slot_count (omega arith) (omega (arith, length_up 0 slot_count)) ∙ l;
            counted = record { long = refl; all = refl; few = omega arith; marked = refl };
            apart = λ s. rw (part_same o (9 * slot_count) (up_from 0 slot_count) slot_count (omega arith) (length_up 0 slot_count)) (up-once s 0 slot_count);
          };
    })

-- ---- the listing
-- the records of one queue, one by one, from index at
module _ (l : List (List ℕ)) (out d : List ℕ) (at k : ℕ) (h : k < length l) (lr : length (get_or l k []) ≡ 72) (lf : length (flatten (take k l)) ≡ k * 72) (fits : at + k * 72 + 72 ≤ length out) where
  pub list-turn : d ≡ paste out at (flatten (take k l)) (k * 72)
      → (length (flatten (take (k + 1) l)) ≡ (k + 1) * 72) × (paste d (at + k * 72) (get_or l k []) 72 ≡ paste out at (flatten (take (k + 1) l)) ((k + 1) * 72))
  list-turn e =
      let m : (k + 1) * 72 ≡ k * 72 + 72 = omega arith in
      (rw (flatten-next l k h, length-append, lf, lr, m), rw (e, flatten-next l k h, m) (paste-paste out at (flatten (take k l)) (get_or l k []) (k * 72) 72 (sym lf) (sym lr) (omega arith)))

-- there is room for the next queue's records
pub queue_fits : (o c : List ℕ) (i at n : ℕ) → Held o c → i < 9 → at ≡ sum (take i (each c)) * 72 → total c * 72 ≤ n
    → (at + get_or (each c) i 0 * 72 ≤ n) × (get_or (each c) i 0 ≤ slot_count)
queue_fits o c i at n h k ea fits =
    (omega (arith, (sum-next (each c) i (omega (arith, length-each c h.counted))).1, h.counted.all, ea, fits), each_fits o c h i k)

-- the queues one by one
module _ (o c b : List ℕ) (hd : Held o c) (out d : List ℕ) (i at : ℕ) (h : i < 9) (ea : at ≡ sum (take i (each c)) * 72) (fits : total c * 72 ≤ length out) where
  abbrev qs : List (List (List ℕ))
  qs = queues o c b

  pub queues-turn : (e : List ℕ) → length (flatten (flatten (take i qs))) ≡ at → d ≡ paste out 0 (flatten (flatten (take i qs))) at
      → length (flatten (listed b (row o i (get_or (each c) i 0)))) ≡ get_or (each c) i 0 * 72 → e ≡ paste d at (flatten (listed b (row o i (get_or (each c) i 0)))) (get_or (each c) i 0 * 72)
      → (at + get_or (each c) i 0 * 72 ≡ sum (take (i + 1) (each c)) * 72) × (length (flatten (flatten (take (i + 1) qs))) ≡ at + get_or (each c) i 0 * 72)
      × (e ≡ paste out 0 (flatten (flatten (take (i + 1) qs))) (at + get_or (each c) i 0 * 72))
  queues-turn e lg ed lr ee =
      let r : List ℕ = flatten (listed b (row o i (get_or (each c) i 0))) in
      let g : List ℕ = flatten (flatten (take i qs)) in
      let n : ℕ = get_or (each c) i 0 in
      let more : flatten (flatten (take (i + 1) qs)) ≡ g ++ r =
      ap flatten (flatten-next qs i (rw (length-queues o c hd b) (omega arith)) ∙ ap (λ (t : List (List ℕ)). flatten (take i qs) ++ t) (queue-is o c hd b i h ∙ ap (λ (n : ℕ). listed b (row o i n)) (sym (get_or-take 9 c i 0 h))))
      ∙ flatten-append (flatten (take i qs)) (listed b (row o i (get_or (each c) i 0))) in
      let z : 0 + at ≡ at = omega arith in (
        omega (arith, (sum-next (each c) i (omega (arith, length-each c hd.counted))).0, ea),
        rw (more, length-append) (omega (arith, lg, lr)),
        ee ∙ ap (λ (t : List ℕ). paste t at r (n * 72)) ed ∙ ap (λ (j : ℕ). paste (paste out 0 g at) j r (n * 72)) (sym z)
            ∙ paste-paste out 0 g r at (n * 72) (sym lg) (sym lr) (omega arith) ∙ ap (λ (t : List ℕ). paste out 0 t (at + n * 72)) (sym more),
      )

pub list-leaves : (o c b out d : List ℕ) (at : ℕ) → Held o c → at ≡ sum (take 9 (each c)) * 72 → length (flatten (flatten (take 9 (queues o c b)))) ≡ at
    → d ≡ paste out 0 (flatten (flatten (take 9 (queues o c b)))) at → d ≡ flatten (flatten (queues o c b)) ++ drop (total c * 72) out
list-leaves o c b out d at h ea lg e =
    let q : take 9 (queues o c b) ≡ queues o c b = take_all 9 (queues o c b) (omega (arith, length-queues o c h b)) in
    let s : take 9 (each c) ≡ each c = take_all 9 (each c) (omega (arith, length-each c h.counted)) in
    let ea' : at ≡ total c * 72 = rw h.counted.all (rw s at ea) in
    let z : 0 + at ≡ at = omega arith in
    rw (← ea') (rw (z, q, take_all at (flatten (flatten (queues o c b))) (omega (arith, rw q at lg))) at e)
