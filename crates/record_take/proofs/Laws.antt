-- Laws of the pending records in lent memory: the listing, what a removal leaves, and the four cases of the take.
use Rattle.numbers.proofs.Basics.{◌≡◌, refl, sym, ap, ◌∙◌, Bool, true, false, not, ◌&&◌, true≢false, ◌⊎◌, inl, inr}
use Rattle.numbers.proofs.Basics.{Option, none, some, List, [], ◌∷◌, ◌++◌, flatten, append_assoc, append-nil, ℕ, zero}
use Rattle.numbers.proofs.Basics.{suc, ◌+◌, ◌*◌, ◌/◌, ◌%◌, ◌≤◌, ◌<◌, not-suc-le-zero, arith, length, take, drop, get_or}
use Rattle.numbers.proofs.{Basics.length-append, Basics.length-take, Basics.length-drop, Basics.take_all, Basics.take_at, Basics.drop_at, Basics.drop-drop, Basics.take-set-le, Basics.take-set-lt, Basics.get_or-take, Basics.get_or-set_same, Basics.get_or-set_other, Basics.paste, Basics.length-paste, Basics.eqb, Basics.bit_and, Basics.le-leb, Basics.lt-leb, Basics.ne_eqb}
use Rattle.rules.specs.{Bytes.choose, Bytes.byte, Bytes.part, Bytes.field, Outcome.refuse, Outcome.accept, Invariant.All, Invariant.Whole}
use Rattle.rules.specs.State.{Limits, State, Record, Pending, nothing, with_pending, single, listing}
use Rattle.rules.specs.Requests.{is_zero, without_first, request, clear_io_irq, clears_io, removes, clears, gets_all}
use Rattle.rules.specs.Take.{first_allowed, or_else, hand_mchk, hand_service, hand_done, hand_io, handed, hands_out, takes}
use Rattle.rules.proofs.{Checks.passes, Checks.fails, Lists.all_append, Lists.flatten-append}
use Rattle.std.specs.Prelude.{Ok, Some}
use Rattle.std.specs.Int.{from_bool}
use Rattle.answers.specs.Answers.{Answers, as_answer}
use Rattle.answers.proofs.Laws.{same-state, accepts}
use Rattle.numbers.specs.declared.Queue.{Queue}
use Rattle.store_queues.specs.{Slots.slot_count, Slots.remove_at, Queues.total, Queues.waiting, Queues.queues, Queues.without_at, Queues.Held}
use Rattle.store_queues.proofs.{Slots.length-slot, Laws.length-queues, Laws.length-queue, Laws.flatten-queues, Laws.length-flatten-queues, Laws.all-queued, Counts.waiting-bit}
use Rattle.store_singles.specs.Singles.{if_there, service_of, mchk_of}
use Rattle.store_singles.proofs.Laws.{absent-if, there-if}
use Rattle.store_search.specs.{declared.Found.Found, declared.Found.TheVariants.At, declared.Found.TheVariants.None, Search.is_for_word, Search.left_at, Search.handed_at}
use Rattle.store_search.proofs.Laws.{has_both, same-mask}
use Rattle.store.specs.Memory.{pending_of}
use Rattle.record_take.specs.Next.{with_queues, hands_queued, handed_next}

-- ---- the listing of nine queues and two records
module _ (o c b g : List ℕ) (h : Held o c) where
  pub listing-is : listing (pending_of o c b g) ≡ (flatten (queues o c b) ++ single (service_of g)) ++ single (mchk_of g)
  unfolding listing pending_of
  listing-is =
      sym (append_assoc (flatten (take 8 (queues o c b))) (get_or (queues o c b) 8 []) _)
      ∙ rw (flatten-queues o c h b) (sym (append_assoc (flatten (queues o c b)) (single (service_of g)) (single (mchk_of g))))

  pub length-listing : length (listing (pending_of o c b g)) ≡ total c + length (single (service_of g)) + length (single (mchk_of g))
  length-listing = rw (listing-is, length-append, length-append, length-flatten-queues o c h b)

-- what is_there says of the two
module _ (g : List ℕ) (t : Bool) where
  pub service-there : (r : Record) → t ≡ not (eqb (byte 144 g) 0) → t ≡ true → r ≡ part 0 72 g → service_of g ≡ some r
  unfolding service_of
  service-there r e f k = rw k (there-if (byte 144 g) (part 0 72 g) t e f)

  pub service-absent : t ≡ not (eqb (byte 144 g) 0) → t ≡ false → service_of g ≡ none
  unfolding service_of
  service-absent = absent-if (byte 144 g) (part 0 72 g) t

  pub mchk-there : (r : Record) → t ≡ not (eqb (byte 145 g) 0) → t ≡ true → r ≡ part 72 72 g → mchk_of g ≡ some r
  unfolding mchk_of
  mchk-there r e f k = rw k (there-if (byte 145 g) (part 72 72 g) t e f)

  pub mchk-absent : t ≡ not (eqb (byte 145 g) 0) → t ≡ false → mchk_of g ≡ none
  unfolding mchk_of
  mchk-absent = absent-if (byte 145 g) (part 72 72 g) t

-- one for a record that is there
one-there : (n : ℕ) (r : Record) (t : Bool) → t ≡ not (eqb n 0) → from_bool t ≡ length (single (if_there n r))
one-there n r true e = rw (there-if n r true e refl)
one-there n r false e = rw (absent-if n r false e refl)

pub count-is : (o c b g : List ℕ) (q x y : ℕ) (t u : Bool) → Held o c → q ≡ total c → t ≡ not (eqb (byte 144 g) 0)
    → u ≡ not (eqb (byte 145 g) 0) → x ≡ from_bool t → y ≡ from_bool u → q + x + y ≡ length (listing (pending_of o c b g))
unfolding service_of mchk_of
count-is o c b g q x y t u h eq et eu ex ey =
    rw (eq, ex, ey, one-there (byte 144 g) (part 0 72 g) t et, one-there (byte 145 g) (part 72 72 g) u eu) (sym (length-listing o c b g h))

-- every record of the listing is whole
one-whole : (n at : ℕ) (g : List ℕ) → at + 72 ≤ length g → All Whole (single (if_there n (part at 72 g)))
unfolding if_there
one-whole zero at g h = tt
one-whole (suc n) at g h = (simp (length-take, length-drop) (omega arith), tt)

pub whole-listing : (o c b g : List ℕ) → Held o c → ((k : ℕ) → get_or o k 0 < slot_count) → slot_count * 72 ≤ length b → length g ≡ 146
    → All Whole (listing (pending_of o c b g))
unfolding service_of mchk_of
whole-listing o c b g h f m q =
    let both = all_append Whole (flatten (queues o c b)) (single (service_of g)) (all-queued Whole b o c (λ k. length-slot 72 slot_count b (get_or o k 0) (f k) m)) (one-whole (byte 144 g) 0 g (omega arith)) in
    rw (listing-is o c b g h) (all_append Whole (flatten (queues o c b) ++ single (service_of g)) (single (mchk_of g)) both (one-whole (byte 145 g) 72 g (omega arith)))

-- ---- what stands in out: the records l, and out's own bytes from n on
pub record Wrote (out d : List ℕ) (l : List Record) (n : ℕ) : Type 0 where
  pub text : d ≡ flatten l ++ drop n out
  pub size : length (flatten l) ≡ n
  pub count : n ≡ 72 * length l
  pub long : length d ≡ length out

-- a record that may be there: if it is, it is written at n, and what stands in out then goes on at n'
module _ (out d : List ℕ) (l : List Record) (n : ℕ) (w : Wrote out d l n) (x : Option Record) where
  pub one_more : (r : Record) → x ≡ some r → 72 * length (l ++ single x) ≤ length out → n + 72 ≤ length d
  one_more r e h = omega (arith, rw (e, length-append) at h, w.count, w.long)

  pub written : (d' : List ℕ) (n' : ℕ) → 72 * length (l ++ single x) ≤ length out
      → ((r : Record) × (x ≡ some r) × (length r ≡ 72) × (d' ≡ paste d n r 72) × (n' ≡ n + 72)) ⊎ ((x ≡ none) × (d' ≡ d) × (n' ≡ n)) → Wrote out d' (l ++ single x) n'
  unfolding flatten
  written d' n' h (inr (e, f, g)) = rw (e, append-nil, f, g) w
  written d' n' h (inl (r, e, f, g, k)) =
      let m : n + 72 ≤ length d = one_more r e h in
      let t : flatten (l ++ single x) ≡ flatten l ++ r = rw (e, flatten-append) (ap (λ (t : Record). flatten l ++ t) (append-nil r)) in
      let front : take n d ≡ flatten l = rw w.text (take_at (flatten l) (drop n out) n w.size) in
      let back : drop (n + 72) d ≡ drop (n + 72) out = sym (drop-drop 72 n d) ∙ rw (w.text, drop_at (flatten l) (drop n out) n w.size) (drop-drop 72 n out) in
      rw (g, k) (record {
        text = rw (t, front, back, take_all 72 r (omega arith));
        size = rw (t, length-append, w.size, f);
        count = rw (e, length-append) (omega (arith, w.count));
        long = length-paste d n r 72 m (omega arith) ∙ w.long;
      })

pub front : (k l : List Record) (m : ℕ) → 72 * length (k ++ l) ≤ m → 72 * length k ≤ m
front k l m h = omega (arith, rw length-append at h)

pub wrote-all : (o c b g out d : List ℕ) (n : ℕ) → Held o c → Wrote out d ((flatten (queues o c b) ++ single (service_of g)) ++ single (mchk_of g)) n
    → d ≡ flatten (listing (pending_of o c b g)) ++ drop (72 * length (listing (pending_of o c b g))) out
wrote-all o c b g out d n h w = rw (listing-is o c b g h, ← w.count) w.text

pub wrote-queues : (o c b out d : List ℕ) (n : ℕ) → n ≡ total c → Held o c → total c * 72 ≤ length out → length d ≡ length out
    → d ≡ flatten (flatten (queues o c b)) ++ drop (total c * 72) out → Wrote out d (flatten (queues o c b)) (n * 72)
wrote-queues o c b out d n en h m f e =
    record {
      text = rw en e;
      size = omega (arith, ap length e, length-append (flatten (flatten (queues o c b))) (drop (total c * 72) out), length-drop (total c * 72) out);
      count = rw (length-flatten-queues o c h b) (omega arith);
      long = f;
    }

-- ---- what a removal leaves
-- without a record of the first eight queues: what is left of these, and the ninth
module _ (qs : List (List Record)) (i k : ℕ) (h : i < 8) where
  pub eight-left : take 8 (without_at i k qs) ≡ without_at i k (take 8 qs)
  unfolding without_at
  eight-left = rw (take-set-lt 8 qs i (remove_at k (get_or qs i [])) h, get_or-take 8 qs i [] h)

  pub ninth-left : get_or (without_at i k qs) 8 [] ≡ get_or qs 8 []
  unfolding without_at
  ninth-left = get_or-set_other qs i 8 (remove_at k (get_or qs i [])) [] (λ e. omega (arith, e))

-- the queues are others
pub queues-left : (o c u v b g : List ℕ) (qs : List (List Record)) → queues u v b ≡ qs → pending_of u v b g ≡ with_queues qs (pending_of o c b g)
unfolding pending_of
queues-left o c u v b g qs e = rw e

-- ---- CLEAR_IO_IRQ: the word is the subchannel's id and number
module _ (b : List ℕ) (w : ℕ) (e : w ≡ field 0 2 b * 65536 + field 2 2 b) where
  pub word-zero : w ≡ 0 → not (is_zero (field 0 2 b) && is_zero (field 2 2 b)) ≡ false
  word-zero h =
      let x : field 0 2 b ≡ 0 = omega arith in
      let y : field 2 2 b ≡ 0 = omega arith in
      rw (x, y)

  some-half : (x y : ℕ) → (x * 65536 + y ≡ 0 → ⊥) → (is_zero x && is_zero y) ≡ false
  some-half zero zero h = absurd (h refl)
  some-half zero (suc y) h = ne_eqb (suc y) 0 (λ z. omega (arith, z))
  some-half (suc x) y h = rw (ne_eqb (suc x) 0 (λ z. omega (arith, z)))

  pub word_some : (w ≡ 0 → ⊥) → (is_zero (field 0 2 b) && is_zero (field 2 2 b)) ≡ false
  word_some h = some-half (field 0 2 b) (field 2 2 b) (λ z. h (e ∙ z))

  -- what the rules do by the answer of the search
  module _ (small : field 2 2 b < 65536) (L : Limits) (s : State) (attr : ℕ) (h : 4 ≤ attr) (k : 4 ≤ length b) (f : w ≡ 0 → ⊥) (o c m g : List ℕ) (ep : s.pending ≡ pending_of o c m g) where
    clears-by : (v : Found) → without_first (is_for_word w) (take 8 (queues o c m)) ≡ left_at v (take 8 (queues o c m)) → request L s clear_io_irq attr b ≡ removes s (left_at v (take 8 (queues o c m)))
    unfolding request clears_io pending_of
    clears-by v t =
        let x : w / 65536 ≡ field 0 2 b = omega (arith, e, small) in
        let y : w % 65536 ≡ field 2 2 b = omega (arith, e, small) in
        passes _ _ _ (le-leb 4 attr h) ∙ passes _ _ _ (le-leb 4 (length b) k) ∙ passes _ _ _ (ap not (word_some f))
        ∙ rw (ep, ← x, ← y, t)

    pub clears-none : without_first (is_for_word w) (take 8 (queues o c m)) ≡ none → request L s clear_io_irq attr b ≡ accept 0 (with_pending (pending_of o c m g) s) []
    unfolding removes
    clears-none t = clears-by None t ∙ ap (λ (t : State). accept 0 t []) (sym (same-state s (pending_of o c m g) ep))

    pub clears-one : (i j : ℕ) (u d : List ℕ) → i < 8 → without_first (is_for_word w) (take 8 (queues o c m)) ≡ some (without_at i j (take 8 (queues o c m)))
        → queues u d m ≡ without_at i j (queues o c m) → request L s clear_io_irq attr b ≡ accept 1 (with_pending (pending_of u d m g) s) []
    unfolding removes
    clears-one i j u d l t q =
        clears-by (At (record { 0 = i }) j) t
        ∙ rw (queues-left o c u d m g _ q, eight-left (queues o c m) i j l, ninth-left (queues o c m) i j l, ep) (unfold pending_of in refl)

-- ---- the take: a class of records that hands nothing out
abbrev pub NoMchk : Pending → Bool → Type 0
NoMchk p k = choose k (hand_mchk p p.mchk) none ≡ none

abbrev pub NoService : Pending → Bool → Type 0
NoService p e = choose e (hand_service p p.service) none ≡ none

module _ (o c b g : List ℕ) where
  pub no-mchk : mchk_of g ≡ none → (k : Bool) → NoMchk (pending_of o c b g) k
  unfolding pending_of choose
  no-mchk e true = rw e
  no-mchk e false = refl

  pub no-service : service_of g ≡ none → (k : Bool) → NoService (pending_of o c b g) k
  unfolding pending_of choose
  no-service e true = rw e
  no-service e false = refl

-- ---- the take from the queues
module _ (o c b g : List ℕ) (h : Held o c) where
  -- a finished page fault
  first_of : (q : List Record) → 0 < length q → (p : Pending) → hand_done p q
      ≡ some (record { given = get_or q 0 []; left = record { io = p.io; done = remove_at 0 q; service = p.service; mchk = p.mchk } })
  unfolding remove_at
  first_of [] k p = absurd (not-suc-le-zero k)
  first_of (x ∷ q) k p = refl

  pub next-done : (m : ℕ) (e : Bool) → e ≡ true → 0 < get_or c 8 0
      → hands_queued (pending_of o c b g) m e ≡ handed_next (Some (record { 0 = 8 }, 0)) (queues o c b) (pending_of o c b g)
  unfolding pending_of or_else choose without_at
  next-done m e ee k =
      let qs = queues o c b in
      let f = first_of (get_or qs 8 []) (rw (length-queue o c h b 8 (omega arith)) k) (pending_of o c b g) in
      let l : 8 < length qs = omega (arith, length-queues o c h b) in
      rw (ee, f, take-set-le 8 qs 8 (remove_at 0 (get_or qs 8 [])) (omega arith), get_or-set_same qs 8 (remove_at 0 (get_or qs 8 [])) [] l)

  -- no finished page fault
  none_first : (q : List Record) → length q ≡ 0 → (p : Pending) → hand_done p q ≡ none
  none_first [] k p = refl
  none_first (x ∷ q) k p = absurd (omega arith)

  pub no-done : (e : Bool) → (e ≡ false) ⊎ (get_or c 8 0 ≡ 0) → choose e (hand_done (pending_of o c b g) (pending_of o c b g).done) none ≡ none
  unfolding pending_of choose
  no-done false k = refl
  no-done true (inl k) = absurd (true≢false k)
  no-done true (inr k) = none_first (get_or (queues o c b) 8 []) (length-queue o c h b 8 (omega arith) ∙ k) (pending_of o c b g)

  -- the subclasses that have no records decide nothing
  same_first : (m : ℕ) → first_allowed 0 (bit_and m (waiting c)) (take 8 (queues o c b)) ≡ first_allowed 0 m (take 8 (queues o c b))
  same_first m =
      let qs = queues o c b in
      same-mask 0 (bit_and m (waiting c)) m (take 8 qs) (λ i k l.
      let i8 : i < 8 = omega (arith, length-take 8 qs, k) in
      let n : get_or c i 0 ≡ 0 → ⊥ = λ z. omega (arith, rw (get_or-take 8 qs i [] i8) at l, length-queue o c h b i (omega arith), z) in
      let e : 0 + i ≡ i = omega arith in
      rw e (has_both i m (waiting c) (omega arith) (waiting-bit c h.counted i (omega arith) n)))

  module _ (m w : ℕ) (e : Bool) (ew : w ≡ waiting c) (nd : (e ≡ false) ⊎ (get_or c 8 0 ≡ 0)) where
    by-search : (u : Found) → first_allowed 0 (bit_and m w) (take 8 (queues o c b)) ≡ handed_at u (take 8 (queues o c b))
        → hands_queued (pending_of o c b g) m e ≡ hand_io (pending_of o c b g) (handed_at u (take 8 (queues o c b)))
    unfolding or_else pending_of
    by-search u eu = rw (no-done e nd, ← same_first m, ← ew, eu)

    pub next-none : first_allowed 0 (bit_and m w) (take 8 (queues o c b)) ≡ none → hands_queued (pending_of o c b g) m e ≡ none
    next-none = by-search None

    pub next-io : (i k : ℕ) → i < 8 → first_allowed 0 (bit_and m w) (take 8 (queues o c b)) ≡ handed_at (At (record { 0 = i }) k) (take 8 (queues o c b))
        → hands_queued (pending_of o c b g) m e ≡ handed_next (Some (record { 0 = i }, k)) (queues o c b) (pending_of o c b g)
    next-io i k l eu =
        by-search (At (record { 0 = i }) k) eu
        ∙ rw (eight-left (queues o c b) i k l, ninth-left (queues o c b) i k l, get_or-take 8 (queues o c b) i [] l) (unfold pending_of in refl)

-- the three cases: what is handed out, and what is left
module _ (o c b g : List ℕ) (m : ℕ) (e k : Bool) where
  pub hands-mchk : (d r : List ℕ) → k ≡ true → mchk_of g ≡ some r → mchk_of d ≡ none → service_of d ≡ service_of g
      → handed (pending_of o c b g) m e k ≡ some (record { given = r; left = pending_of o c b d })
  unfolding handed or_else choose pending_of
  hands-mchk d r f u x y = rw (f, u, x, y)

  module _ (n₁ : NoMchk (pending_of o c b g) k) where
    pub hands-service : (d r : List ℕ) → e ≡ true → service_of g ≡ some r → service_of d ≡ none → mchk_of d ≡ mchk_of g
        → handed (pending_of o c b g) m e k ≡ some (record { given = r; left = pending_of o c b d })
    unfolding handed or_else choose pending_of
    hands-service d r f u x y = rw (f, x, y, n₁, u)

    module _ (n₂ : NoService (pending_of o c b g) e) where
      pub hands-nothing : hands_queued (pending_of o c b g) m e ≡ none → handed (pending_of o c b g) m e k ≡ none
      unfolding handed or_else
      hands-nothing t = rw (n₁, n₂) (unfold or_else in t)

      pub hands-queued : (q : Queue) (n : ℕ) (u d r : List ℕ) → hands_queued (pending_of o c b g) m e ≡ handed_next (Some (q, n)) (queues o c b) (pending_of o c b g)
          → r ≡ get_or (get_or (queues o c b) q.0 []) n [] → queues u d b ≡ without_at q.0 n (queues o c b)
          → handed (pending_of o c b g) m e k ≡ some (record { given = r; left = pending_of u d b g })
      unfolding handed or_else
      hands-queued q n u d r t er eq = rw (n₁, n₂, er, queues-left o c u d b g _ eq) (unfold or_else in t)

-- from what is handed out to the answer
module _ (L : Limits) (s : State) (p : Pending) (m : ℕ) (e k : Bool) (b : List ℕ) (x : s.pending ≡ p) (h : 72 ≤ length b) where
  pub hands : (d r : List ℕ) (q : Pending) (n : ℕ) → length r ≡ 72 → handed p m e k ≡ some (record { given = r; left = q })
      → (n ≡ 1) × (d ≡ r ++ drop 72 b) → Answers L s b (takes s m e k b) (as_answer (Ok n)) (with_pending q s) d
  unfolding takes hands_out
  hands d r q n l f w =
      accepts L s b _ n (with_pending q s) r d (passes _ _ _ (le-leb 72 (length b) h) ∙ rw (x, f, w.0)) (rw l w.1)

  pub hands_none : handed p m e k ≡ none → Answers L s b (takes s m e k b) (as_answer (Ok 0)) (with_pending p s) b
  unfolding takes hands_out
  hands_none f = accepts L s b _ 0 (with_pending p s) [] b (passes _ _ _ (le-leb 72 (length b) h) ∙ rw (x, f)) refl

-- ---- CLEAR_IRQS
pub clears-all : (s : State) (p q : Pending) (n : ℕ) → s.pending ≡ p → n ≡ length (listing p) → q ≡ nothing → clears s ≡ accept n (with_pending q s) []
unfolding clears
clears-all s p q n e f k = rw (e, f, k)

-- ---- GET_ALL_IRQS
module _ (s : State) (p : Pending) (n attr : ℕ) (e : s.pending ≡ p) (f : n ≡ length (listing p)) where
  pub lists-none : attr < n * 72 → gets_all s attr ≡ refuse 12
  unfolding gets_all
  lists-none h = fails _ _ _ (lt-leb (72 * length (listing s.pending)) attr (rw e (omega arith)))

  pub lists-all : n * 72 ≤ attr → gets_all s attr ≡ accept n s (flatten (listing p))
  unfolding gets_all
  lists-all h = passes _ _ _ (le-leb (72 * length (listing s.pending)) attr (rw e (omega arith))) ∙ rw (e, f)

-- what is written fills the place up to where the old bytes go on
pub records-size : (rs : List Record) (b d : List ℕ) → 72 * length rs ≤ length b → length d ≡ length b → d ≡ flatten rs ++ drop (72 * length rs) b
    → length (flatten rs) ≡ 72 * length rs
records-size rs b d h l e = omega (arith, ap length e, length-append (flatten rs) (drop (72 * length rs) b), length-drop (72 * length rs) b)
