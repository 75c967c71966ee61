-- Every sound state of the plain machine is the state of some host.
use Rattle.numbers.proofs.Basics.{ℕ, zero, suc, ◌+◌, ◌*◌, ◌-◌, ◌≤◌, ◌≡◌, refl, ap, ap₂, sym, ◌∙◌, subst, Bool, true}
use Rattle.numbers.proofs.Basics.{true≢false, Option, none, some, List, [], ◌∷◌, ◌++◌, flatten, map, append_assoc}
use Rattle.numbers.proofs.Basics.{append-nil, arith, zero-add, suc-add, length, get_or, take, drop, replicate}
use Rattle.numbers.proofs.Basics.{length-append, length-map, take_at, drop_at}
use lib.ListN.{length-replicate}
use Rattle.rules.specs.{Bytes.choose, Invariant.All, Invariant.Maybe, Invariant.SoundPlace, Invariant.Whole, Invariant.IsKind, Invariant.SoundPending, Invariant.Sound}
use Rattle.rules.specs.State as rules
use Rattle.rules.specs.State.{Limits, State, Pending, Record, free, holds, queued, listing}
use Rattle.rules.proofs.{Lists.flatten-append, Reachable.listing-sendable}
use Rattle.adapters.specs.{declared.Place.Place, Values.place_of, Values.unused, Values.Canonical}
use Rattle.store_queues.specs.Slots.{slot_count, slot, Apart}
use Rattle.store_queues.specs.Queues.{row, rows, each, total, used, spare, listed, queues, sum, bits, up_from, Held}
use Rattle.store_queues.proofs.Laws.{length_up, up-once}
use Rattle.store_singles.specs.Singles.{if_there, service_of, mchk_of}
use Rattle.store.specs.Memory.{pending_of}
use Rattle.store.specs.declared.Controller.{Controller}
use Rattle.calls.specs.Limits.{limits_of}
use Rattle.calls.proofs.Limits.{limits-sized, limits-kept}
use Rattle.flic.specs.{Surface.state_of, Surface.Ready, Surface.Valid, Chain.Host}

-- ---- places
place_for : rules.Place → Place
place_for free = unused
place_for (holds x) = record { used = true; isc = record { 0 = x.isc }; maskable = x.maskable; swap = x.swap; suppressible = x.suppressible; masked = x.masked }

place-back : (p : rules.Place) → place_of (place_for p) ≡ p
unfolding place_of choose place_for
place-back free = refl
place-back (holds x) = refl

places-back : (ps : List rules.Place) → map place_of (map place_for ps) ≡ ps
places-back [] = refl
places-back (p ∷ ps) = ap₂ (λ (q : rules.Place) (qs : List rules.Place). q ∷ qs) (place-back p) (places-back ps)

place-canonical : (p : rules.Place) → SoundPlace p → Canonical (place_for p)
unfolding place_for
place-canonical free h = record { unused_one = λ e. refl; isc_small = omega arith; masked_maskable = λ e. e }
place-canonical (holds x) h = record { unused_one = λ e. absurd (true≢false e); isc_small = h.subclass-small; masked_maskable = h.masked-maskable }

places-canonical : (ps : List rules.Place) → All SoundPlace ps → All Canonical (map place_for ps)
places-canonical [] h = tt
places-canonical (p ∷ ps) h = (place-canonical p h.0, places-canonical ps h.1)

-- ---- lists
module _ {ℓ} {A : Type ℓ} where
  all_left : (P : A → Type 0) (xs ys : List A) → All P (xs ++ ys) → All P xs
  all_left P [] ys h = tt
  all_left P (x ∷ xs) ys h = (h.0, all_left P xs ys h.1)

  all_right : (P : A → Type 0) (xs ys : List A) → All P (xs ++ ys) → All P ys
  all_right P [] ys h = h
  all_right P (x ∷ xs) ys h = all_right P xs ys h.1

  get_d_past : (xs ys : List A) (n i : ℕ) (d : A) → length xs ≡ n → get_or (xs ++ ys) (n + i) d ≡ get_or ys i d
  get_d_past xs ys n i d e = subst (λ (k : ℕ). get_or (xs ++ ys) (k + i) d ≡ get_or ys i d) e (go xs)
    where
      go : (zs : List A) → get_or (zs ++ ys) (length zs + i) d ≡ get_or ys i d
      go [] = ap (λ (k : ℕ). get_or ys k d) (zero-add i)
      go (z ∷ zs) = ap (λ (k : ℕ). get_or (z ∷ (zs ++ ys)) k d) (suc-add (length zs) i) ∙ go zs

-- ---- records in slots that are numbered as the records are listed: a run of numbers for each queue
slots-from : (pre : List ℕ) (k : ℕ) (rs : List Record) (rest : List ℕ) → length pre ≡ k * 72 → All Whole rs → listed (pre ++ (flatten rs ++ rest)) (up_from k (length rs)) ≡ rs
unfolding up_from slot flatten
slots-from pre k [] rest e h = refl
slots-from pre k (r ∷ rs) rest e h =
    ap₂ (λ (x : Record) (l : List Record). x ∷ l)
    (ap (take 72) (drop_at pre (flatten (r ∷ rs) ++ rest) (k * 72) e ∙ append_assoc r (flatten rs) rest) ∙ take_at r (flatten rs ++ rest) 72 h.0)
    (ap (λ (b : List ℕ). listed b (up_from (suc k) (length rs)))
    (ap (λ (b : List ℕ). pre ++ b) (append_assoc r (flatten rs) rest) ∙ sym (append_assoc pre r (flatten rs ++ rest)))
    ∙ slots-from (pre ++ r) (suc k) rs rest (omega (arith, length-append pre r, e, h.0)) h.1)

runs : ℕ → List (List Record) → List (List ℕ)
runs k [] = []
runs k (q ∷ qs) = up_from k (length q) ∷ runs (k + length q) qs

length_whole : (rs : List Record) → All Whole rs → length (flatten rs) ≡ length rs * 72
unfolding flatten
length_whole [] h = refl
length_whole (r ∷ rs) h = omega (arith, length-append r (flatten rs), h.0, length_whole rs h.1)

runs-back : (pre : List ℕ) (k : ℕ) (qs : List (List Record)) (rest : List ℕ) → length pre ≡ k * 72 → All Whole (flatten qs) → map (listed (pre ++ (flatten (flatten qs) ++ rest))) (runs k qs) ≡ qs
unfolding runs flatten
runs-back pre k [] rest e h = refl
runs-back pre k (q ∷ qs) rest e h =
    let hq = all_left Whole q (flatten qs) h in
    let more : flatten (q ++ flatten qs) ++ rest ≡ flatten q ++ (flatten (flatten qs) ++ rest) =
    ap (λ (t : List ℕ). t ++ rest) (flatten-append q (flatten qs)) ∙ append_assoc (flatten q) (flatten (flatten qs)) rest in
    let lq : length (pre ++ flatten q) ≡ (k + length q) * 72 = omega (arith, length-append pre (flatten q), e, length_whole q hq) in
    ap₂ (λ (x : List Record) (l : List (List Record)). x ∷ l)
    (ap (λ (t : List ℕ). listed (pre ++ t) (up_from k (length q))) more ∙ slots-from pre k q (flatten (flatten qs) ++ rest) e hq)
    (ap (λ (t : List ℕ). map (listed t) (runs (k + length q) qs)) (ap (λ (t : List ℕ). pre ++ t) more ∙ sym (append_assoc pre (flatten q) (flatten (flatten qs) ++ rest)))
    ∙ runs-back (pre ++ flatten q) (k + length q) qs rest lq (all_right Whole q (flatten qs) h))

-- together the runs are the numbers from the first on
up_more : (i m n : ℕ) → up_from i m ++ up_from (i + m) n ≡ up_from i (m + n)
unfolding up_from
up_more i zero n = rw (let z : i + 0 ≡ i = omega arith in z, zero-add)
up_more i (suc m) n = rw (suc-add) (ap (λ (l : List ℕ). i ∷ l) (ap (λ (j : ℕ). up_from (suc i) m ++ up_from j n) (let z : i + suc m ≡ suc i + m = omega arith in z) ∙ up_more (suc i) m n))

runs-all : (k : ℕ) (qs : List (List Record)) → flatten (runs k qs) ≡ up_from k (length (flatten qs))
unfolding runs flatten up_from
runs-all k [] = refl
runs-all k (q ∷ qs) = rw (runs-all (k + length q) qs, length-append) (up_more k (length q) (length (flatten qs)))

-- ---- the rows of the order, each filled up to its size
padded : List ℕ → List ℕ
padded l = l ++ replicate (slot_count - length l) 0

length-padded : (l : List ℕ) → length l ≤ slot_count → length (padded l) ≡ slot_count
unfolding padded
length-padded l h = simp (length-append, length-replicate) (omega arith)

order_of : List (List ℕ) → List ℕ
order_of [] = []
order_of (l ∷ ls) = padded l ++ order_of ls

-- a row that starts where pre ends
row-padded : (pre l rest : List ℕ) (q : ℕ) → length pre ≡ q * slot_count → row (pre ++ (padded l ++ rest)) q (length l) ≡ l
unfolding row padded
row-padded pre l rest q e =
    ap (take (length l)) (drop_at pre ((l ++ replicate (slot_count - length l) 0) ++ rest) (q * slot_count) e ∙ append_assoc l (replicate (slot_count - length l) 0) rest)
    ∙ take_at l (replicate (slot_count - length l) 0 ++ rest) (length l) refl

rows_back : (pre : List ℕ) (q : ℕ) (ls : List (List ℕ)) (rest : List ℕ) → length pre ≡ q * slot_count → All (λ l. length l ≤ slot_count) ls → rows (pre ++ (order_of ls ++ rest)) q (map length ls) ≡ ls
unfolding rows order_of
rows_back pre q [] rest e h = refl
rows_back pre q (l ∷ ls) rest e h =
    let more : (padded l ++ order_of ls) ++ rest ≡ padded l ++ (order_of ls ++ rest) = append_assoc (padded l) (order_of ls) rest in
    let lp : length (pre ++ padded l) ≡ suc q * slot_count = omega (arith, length-append pre (padded l), e, length-padded l h.0) in
    ap₂ (λ (x : List ℕ) (t : List (List ℕ)). x ∷ t)
    (ap (λ (t : List ℕ). row (pre ++ t) q (length l)) more ∙ row-padded pre l (order_of ls ++ rest) q e)
    (ap (λ (t : List ℕ). rows t (suc q) (map length ls)) (ap (λ (t : List ℕ). pre ++ t) more ∙ sym (append_assoc pre (padded l) (order_of ls ++ rest)))
    ∙ rows_back (pre ++ padded l) (suc q) ls rest lp h.1)

length-order : (ls : List (List ℕ)) → All (λ l. length l ≤ slot_count) ls → length (order_of ls) ≡ length ls * slot_count
unfolding order_of
length-order [] h = refl
length-order (l ∷ ls) h = omega (arith, length-append (padded l) (order_of ls), length-padded l h.0, length-order ls h.1)

-- ---- the counts
runs-lengths : (k : ℕ) (qs : List (List Record)) → map length (runs k qs) ≡ map length qs
unfolding runs
runs-lengths k [] = refl
runs-lengths k (q ∷ qs) = ap₂ (λ (x : ℕ) (l : List ℕ). x ∷ l) (length_up k (length q)) (runs-lengths (k + length q) qs)

runs-short : (k : ℕ) (qs : List (List Record)) → length (flatten qs) ≤ slot_count → All (λ l. length l ≤ slot_count) (runs k qs)
unfolding runs flatten
runs-short k [] h = tt
runs-short k (q ∷ qs) h = (omega (arith, length_up k (length q), length-append q (flatten qs)), runs-short (k + length q) qs (omega (arith, length-append q (flatten qs))))

sum-lengths : (qs : List (List Record)) → sum (map length qs) ≡ length (flatten qs)
unfolding sum flatten
sum-lengths [] = refl
sum-lengths (q ∷ qs) = omega (arith, length-append q (flatten qs), sum-lengths qs)

-- ---- the service record and the machine check
body : Option Record → Record
body none = replicate 72 0
body (some r) = r

there : Option Record → ℕ
there none = 0
there (some r) = 1

singles_for : Option Record → Option Record → List ℕ
singles_for s m = (body s ++ body m) ++ (there s ∷ there m ∷ [])

length-body : (k : rules.Kind) (o : Option Record) → Maybe (IsKind k) o → length (body o) ≡ 72
unfolding body
length-body k none h = length-replicate {A = ℕ} 72 0
length-body k (some r) h = h.whole

back : (o : Option Record) → if_there (there o) (body o) ≡ o
unfolding if_there body there
back none = refl
back (some r) = refl

module _ (s m : Option Record) (hs : length (body s) ≡ 72) (hm : length (body m) ≡ 72) where
  both : length (body s ++ body m) ≡ 144
  both = omega (arith, length-append (body s) (body m), hs, hm)

  service-back : service_of (singles_for s m) ≡ s
  unfolding service_of singles_for
  service-back =
      ap₂ if_there (get_d_past (body s ++ body m) (there s ∷ there m ∷ []) 144 0 0 both)
      (ap (take 72) (append_assoc (body s) (body m) _) ∙ take_at (body s) _ 72 hs)
      ∙ back s

  mchk-back : mchk_of (singles_for s m) ≡ m
  unfolding mchk_of singles_for
  mchk-back =
      ap₂ if_there (get_d_past (body s ++ body m) (there s ∷ there m ∷ []) 144 1 0 both)
      (ap (λ (b : List ℕ). take 72 (drop 72 b)) (append_assoc (body s) (body m) _) ∙ ap (take 72) (drop_at (body s) _ 72 hs) ∙ take_at (body m) _ 72 hm)
      ∙ back m

-- ---- a host for a state
module _ (p : Pending) (h : SoundPending p) (few : queued p ≤ slot_count) where
  qs : List (List Record)
  qs = p.io ++ (p.done ∷ [])

  all-records : flatten qs ≡ flatten p.io ++ p.done
  unfolding qs flatten
  all-records = flatten-append p.io (p.done ∷ []) ∙ ap (λ (l : List Record). flatten p.io ++ l) (append-nil p.done)

  whole : All Whole (flatten qs)
  unfolding listing
  whole = subst (All Whole) (sym all-records) (all_left Whole (flatten p.io ++ p.done) _ (subst (All Whole) (sym (append_assoc (flatten p.io) p.done _)) (listing-sendable p h).whole))

  fits : length (flatten qs) ≤ slot_count
  fits = omega (arith, ap length all-records, length-append (flatten p.io) p.done, few)

  -- nine queues of the records, and how many they hold
  nine : length qs ≡ 9
  unfolding qs
  nine = omega (arith, length-append p.io (p.done ∷ []), h.eight)

  abbrev n : ℕ
  n = length (flatten qs)

  abbrev ls : List (List ℕ)
  ls = runs 0 qs

  nine-runs : length ls ≡ 9
  nine-runs = sym (length-map ls length) ∙ ap length (runs-lengths 0 qs) ∙ length-map qs length ∙ nine

  abbrev free-run : List ℕ
  free-run = padded (up_from n (slot_count - n))

  abbrev mask : ℕ
  mask = bits 128 (map length qs)

  controller_for : Bool → Controller
  controller_for ais =
      record {
        slots = flatten (flatten qs) ++ replicate (slot_count * 72 - length (flatten (flatten qs))) 0;
        order = order_of ls ++ free-run;
        counts = map length qs ++ (n ∷ mask ∷ []);
        singles = singles_for p.service p.mchk;
        ais = ais;
      }

  counts-long : length (map length qs) ≡ 9
  counts-long = length-map qs length ∙ nine

  each_back : each (map length qs ++ (n ∷ mask ∷ [])) ≡ map length qs
  each_back = take_at (map length qs) (n ∷ mask ∷ []) 9 counts-long

  total-back : total (map length qs ++ (n ∷ mask ∷ [])) ≡ n
  total-back = get_d_past (map length qs) (n ∷ mask ∷ []) 9 0 0 counts-long

  used-back : used (order_of ls ++ free-run) (map length qs ++ (n ∷ mask ∷ [])) ≡ ls
  used-back = ap (rows (order_of ls ++ free-run) 0) (each_back ∙ sym (runs-lengths 0 qs)) ∙ rows_back [] 0 ls free-run refl (runs-short 0 qs fits)

  spare-back : spare (order_of ls ++ free-run) (map length qs ++ (n ∷ mask ∷ [])) ≡ up_from n (slot_count - n)
  spare-back =
      let l : length (order_of ls) ≡ 9 * slot_count = length-order ls (runs-short 0 qs fits) ∙ ap (λ (m : ℕ). m * slot_count) nine-runs in
      ap (λ (m : ℕ). row (order_of ls ++ free-run) 9 (slot_count - m)) total-back
      ∙ ap₂ (λ (o : List ℕ) (m : ℕ). row (order_of ls ++ o) 9 m) (sym (append-nil free-run)) (sym (length_up n (slot_count - n))) ∙ row-padded (order_of ls) (up_from n (slot_count - n)) [] 9 l

  held : (ais : Bool) → Held (controller_for ais).order (controller_for ais).counts
  unfolding controller_for
  held ais =
      record {
        long = omega (arith, length-append (order_of ls) free-run, length-order ls (runs-short 0 qs fits), nine-runs, length-padded (up_from n (slot_count - n)) (omega (arith, length_up n (slot_count - n))));
        counted =
            record {
              long = omega (arith, length-append (map length qs) (n ∷ mask ∷ []), counts-long);
              all = total-back ∙ sym (ap sum each_back ∙ sum-lengths qs);
              few = omega (arith, total-back, fits);
              marked = get_d_past (map length qs) (n ∷ mask ∷ []) 9 1 0 counts-long ∙ ap (bits 128) (sym each_back);
            };
        apart = subst Apart (sym (ap₂ (λ (a : List (List ℕ)) (b : List ℕ). flatten a ++ b) used-back spare-back ∙ ap (λ (l : List ℕ). l ++ up_from n (slot_count - n)) (runs-all 0 qs) ∙ joined)) (unfold Apart in λ s. up-once s 0 (n + (slot_count - n)));
      }
    where
      joined : up_from 0 n ++ up_from n (slot_count - n) ≡ up_from 0 (n + (slot_count - n))
      joined = ap (λ (i : ℕ). up_from 0 n ++ up_from i (slot_count - n)) (sym (zero-add n)) ∙ up_more 0 n (slot_count - n)

  queues-back : (ais : Bool) → queues (controller_for ais).order (controller_for ais).counts (controller_for ais).slots ≡ qs
  unfolding queues controller_for
  queues-back ais =
      ap (map (listed (flatten (flatten qs) ++ replicate (slot_count * 72 - length (flatten (flatten qs))) 0))) used-back
      ∙ runs-back [] 0 qs (replicate (slot_count * 72 - length (flatten (flatten qs))) 0) refl whole

  pending-back : (ais : Bool) → pending_of (controller_for ais).order (controller_for ais).counts (controller_for ais).slots (controller_for ais).singles ≡ p
  unfolding pending_of qs controller_for
  pending-back ais =
      λ i. record {
        io = (ap (take 8) (queues-back ais) ∙ take_at p.io (p.done ∷ []) 8 h.eight) i;
        done = (ap (λ (l : List (List Record)). get_or l 8 []) (queues-back ais) ∙ get_d_past p.io (p.done ∷ []) 8 0 [] h.eight) i;
        service = service-back p.service p.mchk (length-body rules.Kind.service p.service h.in-service) (length-body rules.Kind.mchk p.mchk h.in-mchk) i;
        mchk = mchk-back p.service p.mchk (length-body rules.Kind.service p.service h.in-service) (length-body rules.Kind.mchk p.mchk h.in-mchk) i;
      }

-- a controller for pending records and a capability
pub record Keeps (p : Pending) (ais : Bool) : Type 0 where
  pub ctl : Controller
  pub pending : pending_of ctl.order ctl.counts ctl.slots ctl.singles ≡ p
  pub same-ais : ctl.ais ≡ ais
  pub ready : Ready ctl

pub keep : (p : Pending) → SoundPending p → queued p ≤ slot_count → (ais : Bool) → Keeps p ais
unfolding controller_for
keep p h few ais = record { ctl = controller_for p h few ais; pending = pending-back p h few ais; same-ais = refl; ready = held p h few ais }

-- a host for a state, with the limits of a controller
pub record Represents (c : Controller) (s : State) : Type 0 where
  pub host : Host
  pub state : state_of host.ctl host.dev host.tab ≡ s
  pub good : Valid host.ctl host.dev host.tab
  pub limits : limits_of host.ctl ≡ limits_of c

pub represent : (c : Controller) (s : State) → Sound (limits_of c) s → Represents c s
unfolding state_of
represent c s h =
    record {
      host = host;
      state = is;
      good =
          record {
            ready = k.ready;
            places = places-canonical s.adapters h.adapters;
            sound = subst (λ (L : Limits). Sound L (state_of host.ctl host.dev host.tab)) (limits-kept k.ctl c) (subst (Sound (limits_of c)) (sym is) h);
          };
      limits = limits-kept c k.ctl;
    }
  where
    k : Keeps s.pending s.ais
    k = keep s.pending h.pending (subst (λ (n : ℕ). queued s.pending ≤ n) (limits-sized c).room h.within) s.ais

    host : Host
    host = record { ctl = k.ctl; dev = record { simm = s.device.simm; nimm = s.device.nimm; apf = s.device.apf }; tab = map place_for s.adapters }

    is : state_of host.ctl host.dev host.tab ≡ s
    is = λ i. record { ais = k.same-ais i; adapters = places-back s.adapters i; pending = k.pending i; device = s.device }
