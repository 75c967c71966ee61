-- Laws of the counts: their sum, the mask of the queues that have records, and one count that changes.
use Rattle.numbers.proofs.Basics.{◌≡◌, refl, sym, ap, ◌∙◌, true, List, [], ◌∷◌, ℕ, zero, suc, ◌+◌, ◌-◌, ◌*◌, ◌/◌, ◌%◌}
use Rattle.numbers.proofs.{Basics.◌^◌, Basics.◌≤◌, Basics.◌<◌, Basics.not-suc-le-zero, Basics.le_of_suc-le-suc, Basics.div-div-eq-div-mul, Basics.pow-suc, Basics.take-set-lt, Basics.take-set-le, Basics.length-take-le, Basics.get_or-take, Basics.get_or-drop, Basics.get_or-set_same, Basics.get_or-set_other, Basics.drop-drop, Basics.eq-eqb, Laws.each-subclass}
use Rattle.numbers.proofs.Basics.{mul_comm, add-one, arith, length, take, drop, get_or, set, replicate, length-set}
use Rattle.rules.specs.State.{has_bit, bit}
use Rattle.store_queues.specs.{Slots.slot_count, Queues.each, Queues.total, Queues.waiting, Queues.sum, Queues.some, Queues.bits, Queues.Counted, Queues.Held}

-- ---- sums
pub sum-at : (ns : List ℕ) (i : ℕ) → get_or ns i 0 ≤ sum ns
unfolding sum
sum-at [] i = omega arith
sum-at (n ∷ ns) zero = omega arith
sum-at (n ∷ ns) (suc i) = omega (arith, sum-at ns i)

-- the sum of the first i + 1
sum_more : (ns : List ℕ) (i : ℕ) → i < length ns → sum (take (suc i) ns) ≡ sum (take i ns) + get_or ns i 0
unfolding sum
sum_more [] i h = absurd (not-suc-le-zero h)
sum_more (n ∷ ns) zero h = omega arith
sum_more (n ∷ ns) (suc i) h = omega (arith, sum_more ns i (le_of_suc-le-suc h))

sum-part : (ns : List ℕ) (i : ℕ) → sum (take i ns) ≤ sum ns
unfolding sum
sum-part ns zero = omega arith
sum-part [] (suc i) = omega arith
sum-part (n ∷ ns) (suc i) = omega (arith, sum-part ns i)

pub sum-next : (ns : List ℕ) (i : ℕ) → i < length ns → (sum (take (i + 1) ns) ≡ sum (take i ns) + get_or ns i 0) × (sum (take i ns) + get_or ns i 0 ≤ sum ns)
sum-next ns i h = (rw add-one (sum_more ns i h), omega (arith, sum_more ns i h, sum-part ns (suc i)))

sum-set : (ns : List ℕ) (i n : ℕ) → i < length ns → sum (set ns i n) + get_or ns i 0 ≡ sum ns + n
unfolding sum
sum-set [] i n h = absurd (not-suc-le-zero h)
sum-set (m ∷ ns) zero n h = omega arith
sum-set (m ∷ ns) (suc i) n h = omega (arith, sum-set ns i n (le_of_suc-le-suc h))

pub all-zero : (ns : List ℕ) → sum ns ≡ 0 → ns ≡ replicate (length ns) 0
unfolding sum
all-zero [] e = refl
all-zero (n ∷ ns) e = λ i. (let z : n ≡ 0 = omega arith in z) i ∷ all-zero ns (omega arith) i

-- ---- bits
pub some-zero : (n : ℕ) → n ≡ 0 → some n ≡ 0
unfolding some
some-zero zero e = refl
some-zero (suc n) e = absurd (omega arith)

pub some_one : (n : ℕ) → (n ≡ 0 → ⊥) → some n ≡ 1
unfolding some
some_one zero f = absurd (f refl)
some_one (suc n) f = refl

some-times : (n w : ℕ) → some n * w ≤ w
unfolding some
some-times zero w = omega arith
some-times (suc n) w = omega arith

bits_small : (w : ℕ) (ns : List ℕ) → bits w ns ≤ 2 * w - 1
unfolding bits
bits_small w [] = omega arith
bits_small w (n ∷ ns) = omega (arith, bits_small (w / 2) ns, some-times n w)

pub halves : (w i : ℕ) → w / 2 / 2 ^ i ≡ w / 2 ^ suc i
halves w i = div-div-eq-div-mul w 2 (2 ^ i) ∙ ap (λ (x : ℕ). w / x) (mul_comm 2 (2 ^ i) ∙ sym (pow-suc 2 i))

bits-set : (w : ℕ) (ns : List ℕ) (i n : ℕ) → i < length ns
    → bits w (set ns i n) + some (get_or ns i 0) * (w / 2 ^ i) ≡ bits w ns + some n * (w / 2 ^ i)
unfolding bits
bits-set w [] i n h = absurd (not-suc-le-zero h)
bits-set w (m ∷ ns) zero n h = let e : w / 2 ^ 0 ≡ w = omega arith in rw e (omega arith)
bits-set w (m ∷ ns) (suc i) n h = omega (arith, rw halves at (bits-set (w / 2) ns i n (le_of_suc-le-suc h)))

-- the bits, one by one
bits-first : (w : ℕ) (ns : List ℕ) → bits w ns ≡ some (get_or ns 0 0) * w + bits (w / 2) (drop 1 ns)
unfolding bits some
bits-first w [] = omega arith
bits-first w (n ∷ ns) = refl

bits_none : (ns : List ℕ) → bits 0 ns ≡ 0
bits_none ns = omega (arith, bits_small 0 ns)

-- the mask of eight queues and more that have records, as their eight bits
module _ (ns : List ℕ) where
  bits-from : (w k : ℕ) → bits w (drop k ns) ≡ some (get_or ns k 0) * w + bits (w / 2) (drop (k + 1) ns)
  bits-from w k = bits-first w (drop k ns) ∙ rw (get_or-drop, drop-drop, let z : k + 0 ≡ k = omega arith in z)

  eight : bits 128 ns ≡ some (get_or ns 0 0) * 128 + (some (get_or ns 1 0) * 64 + (some (get_or ns 2 0) * 32 + (some (get_or ns 3 0) * 16 + (some (get_or ns 4 0) * 8 + (some (get_or ns 5 0) * 4 + (some (get_or ns 6 0) * 2 + (some (get_or ns 7 0) * 1)))))))
  eight = omega (arith, bits-from 128 0, bits-from 64 1, bits-from 32 2, bits-from 16 3, bits-from 8 4, bits-from 4 5, bits-from 2 6, bits-from 1 7, bits_none (drop 8 ns))

  abbrev Small : ℕ → Type 0
  Small i = some (get_or ns i 0) ≤ 1

  digit : Small 0 × Small 1 × Small 2 × Small 3 × Small 4 × Small 5 × Small 6 × Small 7 → (i : ℕ) → i ≤ 7 → bits 128 ns / bit i % 2 ≡ some (get_or ns i 0)
  digit s =
      let e = eight in
      each-subclass (λ i. bits 128 ns / bit i % 2 ≡ some (get_or ns i 0))
      (omega arith) (omega arith) (omega arith) (omega arith) (omega arith) (omega arith) (omega arith) (omega arith)

module _ (c : List ℕ) (h : Counted c) where
  pub length-each : length (each c) ≡ 9
  length-each = length-take-le 9 c (omega (arith, h.long))

  pub count_small : (i : ℕ) → i < 9 → get_or c i 0 ≤ total c
  count_small i k = omega (arith, rw (get_or-take 9 c i 0 k) at (sum-at (each c) i), h.all)

  pub waiting-small : waiting c < 256
  waiting-small = omega (arith, h.marked, bits_small 128 (each c))

  -- the bit of a queue that has records is in the mask
  pub bit-there : (i : ℕ) → i < 9 → (get_or c i 0 ≡ 0 → ⊥) → 128 / 2 ^ i ≤ waiting c
  bit-there i k f =
      omega (arith, rw (get_or-take 9 c i 0 k, some_one (get_or c i 0) f, some-zero 0 refl) at (bits-set 128 (each c) i 0 (omega (arith, length-each))), h.marked)

  pub waiting-bit : (i : ℕ) → i ≤ 7 → (get_or c i 0 ≡ 0 → ⊥) → has_bit i (waiting c) ≡ true
  unfolding has_bit
  waiting-bit i k f =
      let s : (i : ℕ) → some (get_or (each c) i 0) ≤ 1 = λ i. omega (arith, some-times (get_or (each c) i 0) 1) in
      let e : waiting c / bit i % 2 ≡ some (get_or c i 0) = rw (h.marked, ← get_or-take 9 c i 0 (omega arith)) (digit (each c) (s 0, s 1, s 2, s 3, s 4, s 5, s 6, s 7) i k) in
      eq-eqb _ 1 (e ∙ some_one (get_or c i 0) f)

-- ---- one count changes, and with it the total and the mask
pub record Changed (c : List ℕ) (i m t w : ℕ) (c' : List ℕ) : Type 0 where
  pub long : length c' ≡ 11
  pub each-is : each c' ≡ set (each c) i m
  pub total-is : total c' ≡ t
  pub waiting-is : waiting c' ≡ w

module _ (c : List ℕ) (l : length c ≡ 11) (i m t : ℕ) (h : i < 9) where
  pub mask-stays : Changed c i m t (waiting c) (set (set c i m) 9 t)
  mask-stays =
      let n : length (set c i m) ≡ 11 = length-set c i m ∙ l in
      record {
        long = length-set (set c i m) 9 t ∙ n;
        each-is = take-set-le 9 (set c i m) 9 t (omega arith) ∙ take-set-lt 9 c i m h;
        total-is = get_or-set_same (set c i m) 9 t 0 (omega arith);
        waiting-is = get_or-set_other (set c i m) 9 10 t 0 (λ e. omega (arith, e)) ∙ get_or-set_other c i 10 m 0 (λ e. omega (arith, e));
      }

  pub mask-set : (w : ℕ) → Changed c i m t w (set (set (set c i m) 9 t) 10 w)
  mask-set w =
      let d : List ℕ = set (set c i m) 9 t in
      let k = mask-stays in
      record {
        long = length-set d 10 w ∙ k.long;
        each-is = take-set-le 9 d 10 w (omega arith) ∙ k.each-is;
        total-is = get_or-set_other d 10 9 w 0 (λ e. omega (arith, e)) ∙ k.total-is;
        waiting-is = get_or-set_same d 10 w 0 (omega (arith, k.long));
      }

-- the counts are kept right by one record more, and by one less
module _ (c : List ℕ) (h : Counted c) (i m t w : ℕ) (k : i < 9) (c' : List ℕ) (d : Changed c i m t w c') where
  pub counted-again : t + get_or c i 0 ≡ total c + m → t ≤ slot_count → w + some (get_or c i 0) * (128 / 2 ^ i) ≡ waiting c + some m * (128 / 2 ^ i) → Counted c'
  counted-again et ft ew =
      let e : get_or (each c) i 0 ≡ get_or c i 0 = get_or-take 9 c i 0 k in
      let l : i < length (each c) = omega (arith, length-each c h) in
      record {
        long = d.long;
        all = rw (d.each-is, d.total-is) (omega (arith, rw e at (sum-set (each c) i m l), h.all));
        few = omega (arith, d.total-is);
        marked = rw (d.each-is, d.waiting-is) (omega (arith, rw e at (bits-set 128 (each c) i m l), h.marked));
      }

-- what a queue holds is at most what all hold, and that at most the slots
pub held_few : (o c : List ℕ) (q : ℕ) → Held o c → q < 9 → (get_or c q 0 ≤ get_or c 9 0) × (get_or c 9 0 ≤ slot_count)
held_few o c q h k = (count_small c h.counted q k, h.counted.few)
