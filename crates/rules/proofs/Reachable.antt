-- What every state that a fresh one can reach satisfies, kept by every call.
use Prim.Native.Nat.{ℕ, zero, suc, ◌+◌, ◌*◌, ◌/◌, ◌<◌, ◌≤◌}
use mathlib.Core.Path.{◌≡◌, refl, ap, sym, ◌∙◌, subst}
use mathlib.Core.Bool.{Bool, true, false, not, ◌&&◌, ◌||◌}
use mathlib.Core.Option.{Option, none, some}
use mathlib.Core.List.{List, [], ◌∷◌, ◌++◌, flatten, zip_with, append-nil}
use native.Mathlib.Omega.{arith}
use native.Mathlib.Nat.{mod-lt, div-mul-le_self, add-zero, add-suc, suc-add, zero-add, mul-zero, suc_inj}
use lib.ListN.{length, get_or, set, take, drop, length-append, length-take, length-drop, length-set, length-replicate}
use lib.Seq.{take_at, length-take-le}
use lib.Dec.{eqb}
use lib.Bits.{bit_or}
use borrow.Author.Tests.{leb-true, ltb-true}
use Rattle.rules.specs.Bytes.{choose, field, bytes, number}
use Rattle.rules.specs.State.{Limits, Adapter, Place, free, holds, Record, record_bytes, Pending, Device, State, nothing, fresh, with_pending, with_device, with_adapter, has_bit, with_bit, Kind, kind_of, kind, subclass, merged, add_io, first_or, merged_or, add_as, add, add_all, queued, single, listing}
use Rattle.rules.specs.Outcome.{Outcome, refuse_with, accept, reset_with, need◌else◌⨾◌, present◌else◌⨾◌, result}
use Rattle.rules.specs.Requests.{holding, adapter_at, Request, no_request, get_all_irqs, enqueue, clear_irqs, apf_enable, apf_disable_wait, adapter_register, adapter_modify, clear_io_irq, aism, airq_inject, set_aism_all, get_aism_all, set_request, get_request, gets_all, records_in, kind_accepted, all_accepted, wants, all_want, enqueues, clears, sets_apf, place_of, registers, adapter_in, with_mask, modifies, cons_to, without, or_in, without_first, removes, clears_io, with_masks, sets_mode, adapter_interrupt, injected, injects, request}
use Rattle.rules.specs.Take.{Handed, or_else, hand_mchk, hand_service, hand_done, keep, first_allowed, hand_io, handed, hands_out, takes}
use Rattle.rules.specs.MoveList.{ListRequest, writes, requests_in, table_entries_in, count_in, header_bytes, onward, applies, plays}
use Rattle.rules.specs.Machine.{Ask, set_attr, get_attr, guest_take, write_list, play_list, Call, outcome, step, after, answer_of}
use Rattle.rules.proofs.Checks.{Comes, need-comes, present-comes, choose-comes}
use Rattle.rules.proofs.Decode.{length-move_list}
use Rattle.rules.specs.Invariant.{All, Maybe, SoundAdapter, SoundPlace, Whole, IsKind, IsIo, IoQueues, SoundPending, Sound}
use Rattle.rules.proofs.Lists.{all_append, all_set, all-get, all_replicate, flatten-more}

-- ---- records that come

queues-get : (n : ℕ) (qs : List (List Record)) (i : ℕ) → IoQueues n qs → All (IsIo (n + i)) (get_or qs i [])
queues-get n [] i h = tt
queues-get n (q ∷ qs) zero h = rw add-zero h.0
queues-get n (q ∷ qs) (suc i) h = rw (add-suc n i, ← (suc-add n i)) (queues-get (suc n) qs i h.1)

queues-set : (n : ℕ) (qs : List (List Record)) (i : ℕ) (q : List Record) → IoQueues n qs → All (IsIo (n + i)) q → IoQueues n (set qs i q)
queues-set n [] i q h k = tt
queues-set n (x ∷ qs) zero q h k = (rw add-zero at k, h.1)
queues-set n (x ∷ qs) (suc i) q h k = (h.0, queues-set (suc n) qs i q h.1 (rw (add-suc n i, ← (suc-add n i)) at k))

add-io : (isc : ℕ) (r : Record) (p : Pending) → IsIo isc r → SoundPending p → SoundPending (add_io isc r p)
unfolding add_io
add-io isc r p k h =
    record {
      eight = rw length-set h.eight;
      in-io =
          queues-set 0 p.io isc (get_or p.io isc [] ++ (r ∷ [])) h.in-io
          (rw zero-add (all_append (IsIo isc) (get_or p.io isc []) (r ∷ []) (rw zero-add at (queues-get 0 p.io isc h.in-io)) (k, tt)));
      in-done = h.in-done;
      in-service = h.in-service;
      in-mchk = h.in-mchk;
    }

length-zip_with : (f : ℕ → ℕ → ℕ) (xs ys : List ℕ) → length xs ≡ length ys → length (zip_with f xs ys) ≡ length xs
unfolding zip_with
length-zip_with f [] ys h = refl
length-zip_with f (x ∷ xs) [] h = sym h
length-zip_with f (x ∷ xs) (y ∷ ys) h = ap suc (length-zip_with f xs ys (suc_inj h))

-- a merged machine check is a whole record of the first one's type
pub merged-sound : (a b : Record) → IsKind Kind.mchk a → length b ≡ record_bytes → IsKind Kind.mchk (merged a b)
unfolding merged kind
merged-sound a b h k =
    record {
      whole = simp (length-append, length-zip_with bit_or (take 16 (drop 8 a)) (take 16 (drop 8 b)) same) (simp (length-take, length-drop) (omega (arith, h.whole)));
      is-kind = ap (λ (x : List ℕ). kind_of (number x)) (take_at (take 8 a) _ 8 (simp length-take (omega (arith, h.whole)))) ∙ h.is-kind;
    }
  where
    same : length (take 16 (drop 8 a)) ≡ length (take 16 (drop 8 b))
    same = simp (length-take, length-drop) (omega (arith, h.whole, k))

add-as : (k : Kind) (r : Record) (p : Pending) → kind r ≡ k → length r ≡ record_bytes → SoundPending p → SoundPending (add_as k r p)
unfolding add_as
add-as Kind.io r p e w h = add-io (subclass r) r p (record { whole = w; is-io = e; is-subclass = refl }) h
add-as Kind.done r p e w h =
    record {
      eight = h.eight;
      in-io = h.in-io;
      in-done = all_append (IsKind Kind.done) p.done (r ∷ []) h.in-done (record { whole = w; is-kind = e }, tt);
      in-service = h.in-service;
      in-mchk = h.in-mchk;
    }
add-as Kind.service r p e w h =
    record { eight = h.eight; in-io = h.in-io; in-done = h.in-done; in-service = kept p.service h.in-service; in-mchk = h.in-mchk }
  where
    kept : (o : Option Record) → Maybe (IsKind Kind.service) o → IsKind Kind.service (first_or o r)
    kept none t = record { whole = w; is-kind = e }
    kept (some a) t = t
add-as Kind.mchk r p e w h =
    record { eight = h.eight; in-io = h.in-io; in-done = h.in-done; in-service = h.in-service; in-mchk = kept p.mchk h.in-mchk }
  where
    kept : (o : Option Record) → Maybe (IsKind Kind.mchk) o → IsKind Kind.mchk (merged_or o r)
    kept none t = record { whole = w; is-kind = e }
    kept (some a) t = merged-sound a r t w
add-as Kind.other r p e w h = h

-- and what the nine queues hold then
subclass-lt : (r : Record) → subclass r < 8
unfolding subclass
subclass-lt r = mod-lt _ (omega arith)

queued-io : (isc : ℕ) (r : Record) (p : Pending) → isc < length p.io → queued (add_io isc r p) ≡ queued p + 1
unfolding add_io
queued-io isc r p h = omega (arith, flatten-more p.io isc r h)

queued-as : (k : Kind) (r : Record) (p : Pending) → length p.io ≡ 8 → queued (add_as k r p) ≡ queued p + wants k
unfolding add_as wants
queued-as Kind.io r p e = queued-io (subclass r) r p (rw e (subclass-lt r))
queued-as Kind.done r p e = simp length-append (omega arith)
queued-as Kind.service r p e = omega arith
queued-as Kind.mchk r p e = omega arith
queued-as Kind.other r p e = omega arith

pub add-all : (rs : List Record) (p : Pending) → All Whole rs → SoundPending p → SoundPending (add_all rs p)
unfolding add_all add
add-all [] p w h = h
add-all (r ∷ rs) p w h = add-all rs (add r p) w.1 (add-as (kind r) r p refl w.0 h)

queued-all : (rs : List Record) (p : Pending) → All Whole rs → SoundPending p
    → queued (add_all rs p) ≡ queued p + all_want rs
unfolding add_all add all_want
queued-all [] p w h = omega arith
queued-all (r ∷ rs) p w h =
    omega (arith, queued-all rs (add r p) w.1 (add-as (kind r) r p refl w.0 h), queued-as (kind r) r p h.eight)

whole-records : (n : ℕ) (b : List ℕ) → n * record_bytes ≤ length b → All Whole (records_in n b)
unfolding records_in
whole-records zero b h = tt
whole-records (suc n) b h = (
  length-take-le record_bytes b (omega arith),
  whole-records n (drop record_bytes b) (rw length-drop (omega arith)),
)

-- ---- the listing: whole records of the types taken

-- whole records of the types taken, that want so many places of the nine queues
pub record Sendable (n : ℕ) (rs : List Record) : Type 0 where
  pub whole : All Whole rs
  pub good : all_accepted rs ≡ true
  pub wanted : all_want rs ≡ n

sendable-none : Sendable 0 []
unfolding all_accepted all_want
sendable-none = record { whole = tt; good = refl; wanted = refl }

sendable-more : (k : Kind) (n : ℕ) (r : Record) (rs : List Record) → IsKind k r → kind_accepted k ≡ true → Sendable n rs → Sendable (wants k + n) (r ∷ rs)
unfolding all_accepted all_want
sendable-more k n r rs h ok u =
    record { whole = (h.whole, u.whole); good = rw (h.is-kind, ok) u.good; wanted = rw (h.is-kind, u.wanted) }

-- records of one kind, before others
sendable-kind : (k : Kind) (n : ℕ) (q rs : List Record) → kind_accepted k ≡ true → All (IsKind k) q → Sendable n rs → Sendable (wants k * length q + n) (q ++ rs)
sendable-kind k n [] rs ok h u = rw (mul-zero, zero-add) u
sendable-kind k n (r ∷ q) rs ok h u =
    subst (λ (m : ℕ). Sendable m (r ∷ q ++ rs)) (omega arith)
    (sendable-more k (wants k * length q + n) r (q ++ rs) h.0 ok (sendable-kind k n q rs ok h.1 u))

all-single : (k : Kind) (o : Option Record) → Maybe (IsKind k) o → All (IsKind k) (single o)
all-single k none h = tt
all-single k (some r) h = (h, tt)

all-io : (n : ℕ) (q : List Record) → All (IsIo n) q → All (IsKind Kind.io) q
all-io n [] h = tt
all-io n (r ∷ q) h = (record { whole = h.0.whole; is-kind = h.0.is-io }, all-io n q h.1)

all-queues : (n : ℕ) (qs : List (List Record)) → IoQueues n qs → All (IsKind Kind.io) (flatten qs)
unfolding flatten
all-queues n [] h = tt
all-queues n (q ∷ qs) h = all_append (IsKind Kind.io) q (flatten qs) (all-io n q h.0) (all-queues (suc n) qs h.1)

pub listing-sendable : (p : Pending) → SoundPending p → Sendable (queued p) (listing p)
unfolding listing wants kind_accepted
listing-sendable p h =
    subst (λ (m : ℕ). Sendable m (listing p)) (omega arith)
    (sendable-kind Kind.io _ (flatten p.io) _ refl (all-queues 0 p.io h.in-io)
    (sendable-kind Kind.done _ p.done _ refl h.in-done
    (sendable-kind Kind.service _ (single p.service) _ refl (all-single Kind.service p.service h.in-service)
    (subst (λ (rs : List Record). Sendable (0 * length (single p.mchk) + 0) rs) (append-nil (single p.mchk))
    (sendable-kind Kind.mchk 0 (single p.mchk) [] refl (all-single Kind.mchk p.mchk h.in-mchk) sendable-none)))))

-- at most two more than the nine queues hold
single-le : (o : Option Record) → length (single o) ≤ 1
single-le none = omega arith
single-le (some r) = omega arith

pub listing-length : (p : Pending) → length (listing p) ≤ queued p + 2
unfolding listing
listing-length p = simp length-append (omega (arith, single-le p.service, single-le p.mchk))

pub length-records : (rs : List Record) → All Whole rs → length (flatten rs) ≡ record_bytes * length rs
unfolding flatten
length-records [] h = refl
length-records (r ∷ rs) h = simp length-append (omega (arith, h.0, length-records rs h.1))

-- ---- records that go: one record less in one of the queues

data Less : List Record → List Record → Type 0 where
  less-here : {r : Record} {q : List Record} → Less (r ∷ q) q
  less-there : {r : Record} {q q' : List Record} → Less q q' → Less (r ∷ q) (r ∷ q')

data QueuesLess : List (List Record) → List (List Record) → Type 0 where
  in-this : {q q' : List Record} {qs : List (List Record)} → Less q q' → QueuesLess (q ∷ qs) (q' ∷ qs)
  in-later : {q : List Record} {qs qs' : List (List Record)} → QueuesLess qs qs' → QueuesLess (q ∷ qs) (q ∷ qs')

less-all : {q q' : List Record} (P : Record → Type 0) → Less q q' → All P q → All P q'
less-all P less-here h = h.1
less-all P (less-there l) h = (h.0, less-all P l h.1)

less-length : {q q' : List Record} → Less q q' → length q ≡ suc (length q')
less-length less-here = refl
less-length (less-there l) = ap suc (less-length l)

less-queues : {qs qs' : List (List Record)} (n : ℕ) → QueuesLess qs qs' → IoQueues n qs → IoQueues n qs'
less-queues n (in-this l) h = (less-all (IsIo n) l h.0, h.1)
less-queues n (in-later l) h = (h.0, less-queues (suc n) l h.1)

less-eight : {qs qs' : List (List Record)} → QueuesLess qs qs' → length qs' ≡ length qs
less-eight (in-this l) = refl
less-eight (in-later l) = ap suc (less-eight l)

less-flatten : {qs qs' : List (List Record)} → QueuesLess qs qs' → length (flatten qs) ≡ suc (length (flatten qs'))
unfolding flatten
less-flatten (in-this l) = simp length-append (omega (arith, less-length l))
less-flatten (in-later l) = simp length-append (omega (arith, less-flatten l))

less-sound : (p : Pending) (qs : List (List Record)) → QueuesLess p.io qs → SoundPending p
    → SoundPending (record { io = qs; done = p.done; service = p.service; mchk = p.mchk })
less-sound p qs l h =
    record {
      eight = less-eight l ∙ h.eight;
      in-io = less-queues 0 l h.in-io;
      in-done = h.in-done;
      in-service = h.in-service;
      in-mchk = h.in-mchk;
    }

without-less : (f : Record → Bool) (q : List Record) → Maybe (Less q) (without f q)
unfolding without choose
without-less f [] = tt
without-less f (r ∷ q) = go (f r) (without f q) (without-less f q)
  where
    go : (t : Bool) (o : Option (List Record)) → Maybe (Less q) o → Maybe (Less (r ∷ q)) (choose t (some q) (cons_to r o))
    go true o h = less-here
    go false none h = tt
    go false (some q') h = less-there h

without-first-less : (f : Record → Bool) (qs : List (List Record)) → Maybe (QueuesLess qs) (without_first f qs)
unfolding without_first
without-first-less f [] = tt
without-first-less f (q ∷ qs) = go (without f q) (without_first f qs) (without-less f q) (without-first-less f qs)
  where
    go : (o : Option (List Record)) (l : Option (List (List Record))) → Maybe (Less q) o → Maybe (QueuesLess qs) l
        → Maybe (QueuesLess (q ∷ qs)) (or_in o q qs l)
    go none none h k = tt
    go none (some qs') h k = in-later k
    go (some q') l h k = in-this h

abbrev LeftLess : List (List Record) → Handed (List (List Record)) → Type 0
LeftLess qs h = QueuesLess qs h.left

keep-less : (q : List Record) (qs : List (List Record)) (o : Option (Handed (List (List Record)))) → Maybe (LeftLess qs) o
    → Maybe (LeftLess (q ∷ qs)) (keep q o)
keep-less q qs none k = tt
keep-less q qs (some h) k = in-later k

first-allowed-less : (n allowed : ℕ) (qs : List (List Record)) → Maybe (LeftLess qs) (first_allowed n allowed qs)
unfolding first_allowed choose
first-allowed-less n allowed [] = tt
first-allowed-less n allowed ([] ∷ qs) = keep-less [] qs (first_allowed (suc n) allowed qs) (first-allowed-less (suc n) allowed qs)
first-allowed-less n allowed ((r ∷ q) ∷ qs) =
    go (has_bit n allowed) (keep-less (r ∷ q) qs (first_allowed (suc n) allowed qs) (first-allowed-less (suc n) allowed qs))
  where
    go : (t : Bool) → Maybe (LeftLess ((r ∷ q) ∷ qs)) (keep (r ∷ q) (first_allowed (suc n) allowed qs))
        → Maybe (LeftLess ((r ∷ q) ∷ qs)) (choose t (some (record { given = r; left = q ∷ qs })) (keep (r ∷ q) (first_allowed (suc n) allowed qs)))
    go true k = in-this less-here
    go false k = k

abbrev GivenWhole : Handed (List (List Record)) → Type 0
GivenWhole h = Whole h.given

keep-whole : (q : List Record) (o : Option (Handed (List (List Record)))) → Maybe GivenWhole o → Maybe GivenWhole (keep q o)
keep-whole q none k = tt
keep-whole q (some h) k = k

first-allowed-whole : (n allowed isc : ℕ) (qs : List (List Record)) → IoQueues isc qs → Maybe GivenWhole (first_allowed n allowed qs)
unfolding first_allowed choose
first-allowed-whole n allowed isc [] h = tt
first-allowed-whole n allowed isc ([] ∷ qs) h = keep-whole [] (first_allowed (suc n) allowed qs) (first-allowed-whole (suc n) allowed (suc isc) qs h.1)
first-allowed-whole n allowed isc ((r ∷ q) ∷ qs) h =
    go (has_bit n allowed) (keep-whole (r ∷ q) (first_allowed (suc n) allowed qs) (first-allowed-whole (suc n) allowed (suc isc) qs h.1))
  where
    go : (t : Bool) → Maybe GivenWhole (keep (r ∷ q) (first_allowed (suc n) allowed qs))
        → Maybe GivenWhole (choose t (some (record { given = r; left = q ∷ qs })) (keep (r ∷ q) (first_allowed (suc n) allowed qs)))
    go true k = h.0.0.whole
    go false k = k

-- ---- the facts are kept, with the capability

pub record Kept (L : Limits) (s t : State) : Type 0 where
  pub sound : Sound L t
  pub same-ais : t.ais ≡ s.ais

-- what an outcome gives: P of the next state, and no more bytes written than are lent
module _ (P : State → Type 0) (b : List ℕ) where
  abbrev Within : ℕ → State → List ℕ → Type 0
  Within count next written = P next × (length written ≤ length b)

  abbrev pub Gives : Outcome State → Type 0
  Gives = Comes (λ code count. Unit {0}) Within (λ code place further. Unit {0})

  gives-need : (t : Bool) (code : ℕ) (o : Outcome State) → (t ≡ true → Gives o) → Gives (need t else code ⨾ o)
  gives-need t code o h = need-comes (λ code count. Unit {0}) Within (λ code place further. Unit {0}) t code o tt h

  gives-present : (p : Option Adapter) (code : ℕ) (f : Adapter → Outcome State) → ((x : Adapter) → p ≡ some x → Gives (f x))
      → Gives (present p else code ⨾ f)
  gives-present p code f h = present-comes (λ code count. Unit {0}) Within (λ code place further. Unit {0}) p code f tt h

  gives-choose : (t : Bool) (x y : Outcome State) → Gives x → (t ≡ false → Gives y) → Gives (choose t x y)
  gives-choose t x y h k = choose-comes (λ code count. Unit {0}) Within (λ code place further. Unit {0}) t x y (λ e. h) k

-- where nothing is written
quietly : {A : Type 0} (b : List ℕ) → A → A × (0 ≤ length b)
quietly b h = (h, omega arith)

held-sound : (p : Place) → SoundPlace p → Maybe SoundAdapter (holding p)
held-sound free h = tt
held-sound (holds x) h = h

module _ (L : Limits) (s : State) (h : Sound L s) where
  as_it_was : Kept L s s
  as_it_was = record { sound = h; same-ais = refl }

  with-pending : (p : Pending) → SoundPending p → queued p ≤ L.room → Kept L s (with_pending p s)
  with-pending p k w =
      record {
        sound = record { table = h.table; adapters = h.adapters; pending = k; within = w; no-masks = h.no-masks };
        same-ais = refl;
      }

  with-device : (d : Device) → (s.ais ≡ false → (d.simm ≡ 0) × (d.nimm ≡ 0)) → Kept L s (with_device d s)
  with-device d k =
      record {
        sound = record { table = h.table; adapters = h.adapters; pending = h.pending; within = h.within; no-masks = k };
        same-ais = refl;
      }

  with-adapter : (id : ℕ) (x : Adapter) → SoundAdapter x → Kept L s (with_adapter id x s)
  with-adapter id x k =
      record {
        sound =
            record {
              table = length-set s.adapters id (holds x) ∙ h.table;
              adapters = all_set SoundPlace s.adapters id (holds x) h.adapters k;
              pending = h.pending;
              within = h.within;
              no-masks = h.no-masks;
            };
        same-ais = refl;
      }

  held : (id : ℕ) (x : Adapter) → adapter_at s id ≡ some x → SoundAdapter x
  held id x e = subst (Maybe SoundAdapter) e (held-sound (place_of s id) (all-get SoundPlace s.adapters id free h.adapters tt))

nothing-sound : SoundPending nothing
nothing-sound =
    record {
      eight = refl;
      in-io = (tt, (tt, (tt, (tt, (tt, (tt, (tt, (tt, tt))))))));
      in-done = tt;
      in-service = tt;
      in-mchk = tt;
    }

nothing-within : (L : Limits) → queued nothing ≤ L.room
unfolding flatten
nothing-within L = omega arith

pub fresh-ais : (L : Limits) (ais : Bool) → (fresh L ais).ais ≡ ais
unfolding fresh
fresh-ais L ais = refl

pub fresh-sound : (L : Limits) (ais : Bool) → Sound L (fresh L ais)
unfolding fresh
fresh-sound L ais =
    record {
      table = length-replicate L.places free;
      adapters = all_replicate SoundPlace L.places free tt;
      pending = nothing-sound;
      within = nothing-within L;
      no-masks = λ e. (refl, refl);
    }

-- an adapter interrupt is an I/O record of its subclass: looked at for each of the eight
interrupt-sound : (isc : ℕ) → isc ≤ 7 → IsIo isc (adapter_interrupt isc)
unfolding bytes kind kind_of number choose subclass
interrupt-sound zero h = record { whole = refl; is-io = refl; is-subclass = refl }
interrupt-sound (suc zero) h = record { whole = refl; is-io = refl; is-subclass = refl }
interrupt-sound (suc (suc zero)) h = record { whole = refl; is-io = refl; is-subclass = refl }
interrupt-sound (suc (suc (suc zero))) h = record { whole = refl; is-io = refl; is-subclass = refl }
interrupt-sound (suc (suc (suc (suc zero)))) h = record { whole = refl; is-io = refl; is-subclass = refl }
interrupt-sound (suc (suc (suc (suc (suc zero))))) h = record { whole = refl; is-io = refl; is-subclass = refl }
interrupt-sound (suc (suc (suc (suc (suc (suc zero)))))) h = record { whole = refl; is-io = refl; is-subclass = refl }
interrupt-sound (suc (suc (suc (suc (suc (suc (suc zero))))))) h = record { whole = refl; is-io = refl; is-subclass = refl }
interrupt-sound (suc (suc (suc (suc (suc (suc (suc (suc n)))))))) h = let z : ⊥ = omega arith in absurd z

module _ (L : Limits) (s : State) (h : Sound L s) (b : List ℕ) where
  abbrev K : State → Type 0
  K = Kept L s

  kept-lists : (claimed : ℕ) → claimed ≤ length b → Gives K b (gets_all s claimed)
  unfolding gets_all
  kept-lists claimed w =
      gives-need K b _ _ _ (λ e. (
        as_it_was L s h,
        omega (arith, length-records (listing s.pending) (listing-sendable s.pending h.pending).whole, leb-true (record_bytes * length (listing s.pending)) claimed e, w),
      ))

  kept-enqueues : (rs : List Record) → All Whole rs → Gives K b (enqueues L s rs)
  unfolding enqueues
  kept-enqueues rs w =
      gives-need K b _ _ _ (λ e. gives-need K b _ _ _ (λ f.
      quietly b (with-pending L s h (add_all rs s.pending) (add-all rs s.pending w h.pending)
      (rw (queued-all rs s.pending w h.pending) (leb-true _ _ f)))))

  kept-registers : (id : ℕ) (x : Adapter) → x.masked ≡ false → Gives K b (registers L s id x)
  unfolding registers
  kept-registers id x m =
      gives-need K b _ _ _ (λ e. gives-need K b _ _ _ (λ f. gives-need K b _ _ _ (λ g.
      quietly b (with-adapter L s h id x (record { subclass-small = leb-true _ _ g; masked-maskable = λ k. cc })))))

  kept-modifies : (id type : ℕ) (on : Bool) → Gives K b (modifies L s id type on)
  unfolding modifies choose
  kept-modifies id type on =
      gives-need K b _ _ _ (λ e. gives-present K b _ _ _ (λ x p. gives-need K b _ _ _ (λ f. gives-need K b _ _ _ (λ g.
      quietly b (go (eqb type 1) x (held L s h id x p) g)))))
    where
      go : (t : Bool) (x : Adapter) → SoundAdapter x → (not t || x.maskable) ≡ true → K (choose t (with_adapter id (with_mask on x) s) s)
      go true x k g = with-adapter L s h id (with_mask on x) (record { subclass-small = k.subclass-small; masked-maskable = λ m. g })
      go false x k g = as_it_was L s h

  kept-removes : (o : Option (List (List Record))) → Maybe (QueuesLess s.pending.io) o → Gives K b (removes s o)
  unfolding removes
  kept-removes none k = quietly b (as_it_was L s h)
  kept-removes (some qs) k =
      quietly b
      (with-pending L s h (record { io = qs; done = s.pending.done; service = s.pending.service; mchk = s.pending.mchk })
      (less-sound s.pending qs k h.pending) (omega (arith, less-flatten k, h.within)))

  -- without the capability no mask is set
  kept-masks : (simm nimm : ℕ) → s.ais ≡ true → K (with_masks simm nimm s)
  kept-masks simm nimm e = with-device L s h (record { simm = simm; nimm = nimm; apf = s.device.apf }) (λ k. ((cc), (cc)))

  kept-injected : (x : Adapter) → SoundAdapter x → queued s.pending < L.room → K (injected s x)
  unfolding injected choose
  kept-injected x k room =
      record {
        sound =
            record {
              table = h.table;
              adapters = h.adapters;
              pending = add-io x.isc (adapter_interrupt x.isc) s.pending (interrupt-sound x.isc k.subclass-small) h.pending;
              within =
                  omega
                  (arith, queued-io x.isc (adapter_interrupt x.isc) s.pending (rw h.pending.eight (omega (arith, k.subclass-small))), room);
              no-masks = λ e. ((h.no-masks e).0, go e s.ais e);
            };
        same-ais = refl;
      }
    where
      go : s.ais ≡ false → (a : Bool) → a ≡ false
          → choose (a && (x.suppressible && has_bit x.isc s.device.simm)) (with_bit x.isc s.device.nimm) s.device.nimm ≡ 0
      go e true f = cc
      go e false f = (h.no-masks e).1

  pub kept-request : (q : Request) (attr : ℕ) → Gives K b (request L s q attr b)
  unfolding request clears sets_apf clears_io sets_mode injects adapter_in
  kept-request no_request attr = tt
  kept-request get_all_irqs attr = gives-need K b _ _ _ (λ e. gives-need K b _ _ _ (λ f. kept-lists attr (leb-true attr (length b) f)))
  kept-request enqueue attr =
      gives-need K b _ _ _ (λ e. gives-need K b _ _ _ (λ f.
      kept-enqueues (records_in (attr / record_bytes) b)
      (whole-records (attr / record_bytes) b (omega (arith, div-mul-le_self attr record_bytes, leb-true attr (length b) f)))))
  kept-request clear_irqs attr = gives-need K b _ _ _ (λ e. quietly b (with-pending L s h nothing nothing-sound (nothing-within L)))
  kept-request apf_enable attr = gives-need K b _ _ _ (λ e. quietly b (with-device L s h _ h.no-masks))
  kept-request apf_disable_wait attr = gives-need K b _ _ _ (λ e. quietly b (with-device L s h _ h.no-masks))
  kept-request adapter_register attr =
      gives-need K b _ _ _ (λ e. gives-need K b _ _ _ (λ f. kept-registers (field 0 4 b) (adapter_in b) refl))
  kept-request adapter_modify attr =
      gives-need K b _ _ _ (λ e. gives-need K b _ _ _ (λ f. kept-modifies _ _ _))
  kept-request clear_io_irq attr =
      gives-need K b _ _ _ (λ e. gives-need K b _ _ _ (λ f. gives-need K b _ _ _ (λ g.
      kept-removes _ (without-first-less _ s.pending.io))))
  kept-request aism attr =
      gives-need K b _ _ _ (λ e. gives-need K b _ _ _ (λ f. gives-need K b _ _ _ (λ g. gives-need K b _ _ _ (λ i. gives-need K b _ _ _ (λ j.
      quietly b (kept-masks _ _ f))))))
  kept-request airq_inject attr =
      gives-need K b _ _ _ (λ e. gives-present K b _ _ _ (λ x p.
      gives-choose K b _ _ _ (quietly b (as_it_was L s h)) (λ f. gives-need K b _ _ _ (λ g.
      quietly b (kept-injected x (held L s h attr x p) (ltb-true _ _ g))))))
  kept-request set_aism_all attr =
      gives-need K b _ _ _ (λ e. gives-need K b _ _ _ (λ f. gives-need K b _ _ _ (λ g. quietly b (kept-masks _ _ f))))
  kept-request get_aism_all attr =
      gives-need K b _ _ _ (λ e. gives-need K b _ _ _ (λ f. gives-need K b _ _ _ (λ g. (as_it_was L s h, leb-true 2 (length b) g))))

  -- the guest take: what is handed out is a whole record, and what is left is sound
  abbrev HandedSound : Handed Pending → Type 0
  HandedSound o = SoundPending o.left × (queued o.left ≤ L.room) × Whole o.given

  H : Option (Handed Pending) → Type 0
  H = Maybe HandedSound

  or-else : (x y : Option (Handed Pending)) → H x → H y → H (or_else x y)
  unfolding or_else
  or-else none y k l = l
  or-else (some x) y k l = k

  if-allowed : (t : Bool) (x : Option (Handed Pending)) → H x → H (choose t x none)
  unfolding choose H
  if-allowed true x k = k
  if-allowed false x k = tt

  mchk-handed : (o : Option Record) → Maybe (IsKind Kind.mchk) o → H (hand_mchk s.pending o)
  unfolding H
  mchk-handed none k = tt
  mchk-handed (some r) k = (
    record {
      eight = h.pending.eight;
      in-io = h.pending.in-io;
      in-done = h.pending.in-done;
      in-service = h.pending.in-service;
      in-mchk = tt;
    },
    h.within,
    k.whole,
  )

  service-handed : (o : Option Record) → Maybe (IsKind Kind.service) o → H (hand_service s.pending o)
  unfolding H
  service-handed none k = tt
  service-handed (some r) k = (
    record {
      eight = h.pending.eight;
      in-io = h.pending.in-io;
      in-done = h.pending.in-done;
      in-service = tt;
      in-mchk = h.pending.in-mchk;
    },
    h.within,
    k.whole,
  )

  done-handed : (q : List Record) → All (IsKind Kind.done) q → length (flatten s.pending.io) + length q ≤ L.room → H (hand_done s.pending q)
  unfolding H
  done-handed [] k w = tt
  done-handed (r ∷ q) k w = (
    record {
      eight = h.pending.eight;
      in-io = h.pending.in-io;
      in-done = k.1;
      in-service = h.pending.in-service;
      in-mchk = h.pending.in-mchk;
    },
    omega (arith, w),
    k.0.whole,
  )

  io-handed : (o : Option (Handed (List (List Record)))) → Maybe (LeftLess s.pending.io) o → Maybe GivenWhole o → H (hand_io s.pending o)
  unfolding H
  io-handed none k g = tt
  io-handed (some x) k g = (less-sound s.pending x.left k h.pending, omega (arith, less-flatten k, h.within), g)

  kept-hands : (o : Option (Handed Pending)) → H o → record_bytes ≤ length b → Gives K b (hands_out s o)
  unfolding hands_out H
  kept-hands none k w = quietly b (as_it_was L s h)
  kept-hands (some x) k w = (with-pending L s h x.left k.0 k.1, omega (arith, k.2, w))

  kept-takes : (subclasses : ℕ) (external_allowed mchk_allowed : Bool) → Gives K b (takes s subclasses external_allowed mchk_allowed b)
  unfolding takes handed
  kept-takes subclasses external_allowed mchk_allowed =
      gives-need K b _ _ _ (λ e.
      kept-hands (handed s.pending subclasses external_allowed mchk_allowed)
      (or-else _ _ (if-allowed mchk_allowed _ (mchk-handed s.pending.mchk h.pending.in-mchk))
      (or-else _ _ (if-allowed external_allowed _ (service-handed s.pending.service h.pending.in-service))
      (or-else _ _ (if-allowed external_allowed _ (done-handed s.pending.done h.pending.in-done h.within))
      (io-handed (first_allowed 0 subclasses s.pending.io) (first-allowed-less 0 subclasses s.pending.io)
      (first-allowed-whole 0 subclasses 0 s.pending.io h.pending.in-io)))))
      (leb-true record_bytes (length b) e))

  kept-writes : Gives K b (writes s b)
  unfolding writes
  kept-writes = gives-need K b _ _ _ (λ e. (as_it_was L s h, rw length-move_list (leb-true _ _ e)))

-- a played list: each request in turn, from the fresh state on; it writes nothing
kept-onward : (P Q : State → Type 0) (b c : List ℕ) (o : Outcome State) (place : ℕ) (rest : State → Outcome State)
    → Gives Q c o → ((t : State) → Q t → Gives P b (rest t)) → Gives P b (onward o place rest)
unfolding onward
kept-onward P Q b c (refuse_with code count) place rest k f = tt
kept-onward P Q b c (accept count next written) place rest k f = f next k.0
kept-onward P Q b c (reset_with code at further) place rest k f = tt

kept-applies : (L : Limits) (s : State) (b : List ℕ) (place : ℕ) (t : State) (es : List ListRequest) → Kept L s t → Gives (Kept L s) b (applies L place t es)
unfolding applies
kept-applies L s b place t [] k = quietly b k
kept-applies L s b place t (e ∷ es) k =
    kept-onward (Kept L s) (Kept L t) b e.payload (request L t (set_request e.group) e.attr e.payload) place (λ u. applies L (suc place) u es)
    (kept-request L t k.sound e.payload (set_request e.group) e.attr)
    (λ u l. kept-applies L s b (suc place) u es (record { sound = l.sound; same-ais = l.same-ais ∙ k.same-ais }))

kept-plays : (L : Limits) (s : State) (b : List ℕ) → Gives (Kept L s) b (plays L s b)
unfolding plays
kept-plays L s b =
    gives-need K b _ _ _ (λ e1. gives-need K b _ _ _ (λ e2. gives-need K b _ _ _ (λ e3. gives-need K b _ _ _ (λ e4.
    gives-need K b _ _ _ (λ e5. gives-need K b _ _ _ (λ e6. gives-need K b _ _ _ (λ e7.
    kept-applies L s b 0 (fresh L s.ais) (requests_in b (table_entries_in (count_in b) (drop header_bytes b)))
    (record { sound = fresh-sound L s.ais; same-ais = fresh-ais L s.ais }))))))))
  where
    K : State → Type 0
    K = Kept L s

-- every call of every kind keeps the facts, and writes within its buffer
kept-outcome : (L : Limits) (s : State) → Sound L s → (ask : Ask) (table : ℕ) (b : List ℕ) → Gives (Kept L s) b (outcome L s ask table b)
unfolding outcome
kept-outcome L s h (set_attr group attr) table b = gives-need (Kept L s) b _ _ _ (λ e. kept-request L s h b (set_request group) attr)
kept-outcome L s h (get_attr group attr) table b = gives-need (Kept L s) b _ _ _ (λ e. kept-request L s h b (get_request group) attr)
kept-outcome L s h (guest_take subclasses external_allowed mchk_allowed) table b = kept-takes L s h b subclasses external_allowed mchk_allowed
kept-outcome L s h write_list table b = gives-need (Kept L s) b _ _ _ (λ e. kept-writes L s h b)
kept-outcome L s h play_list table b = gives-need (Kept L s) b _ _ _ (λ e. kept-plays L s b)

kept_result : (L : Limits) (s : State) → Sound L s → (b : List ℕ) (o : Outcome State) → Gives (Kept L s) b o
    → Kept L s (answer_of L s b o).next × (length (answer_of L s b o).buffer ≡ length b)
unfolding result
kept_result L s h b (refuse_with code count) k = (as_it_was L s h, refl)
kept_result L s h b (accept count next written) k = (k.0, simp (length-append, length-drop) (omega (arith, k.1)))
kept_result L s h b (reset_with code place further) k = (record { sound = fresh-sound L s.ais; same-ais = fresh-ais L s.ais }, refl)

pub kept_step : (L : Limits) (s : State) → Sound L s → (c : Call) → Kept L s (step L s c).next
unfolding step
kept_step L s h c = (kept_result L s h c.buffer _ (kept-outcome L s h c.ask c.table_length c.buffer)).0

-- no byte past the lent buffer is written: what a call leaves is as long as what it was lent
pub lent_length : (L : Limits) (s : State) → Sound L s → (c : Call) → length (step L s c).buffer ≡ length c.buffer
unfolding step
lent_length L s h c = (kept_result L s h c.buffer _ (kept-outcome L s h c.ask c.table_length c.buffer)).1

-- and so does every list of calls, from a fresh state too
pub kept-after : (L : Limits) (s : State) → Sound L s → (cs : List Call) → Kept L s (after L s cs)
unfolding after
kept-after L s h [] = as_it_was L s h
kept-after L s h (c ∷ cs) =
    let k = kept_step L s h c in
    let l = kept-after L (step L s c).next k.sound cs in
    record { sound = l.sound; same-ais = l.same-ais ∙ k.same-ais }

pub reachable : (L : Limits) (ais : Bool) (cs : List Call) → Kept L (fresh L ais) (after L (fresh L ais) cs)
reachable L ais cs = kept-after L (fresh L ais) (fresh-sound L ais) cs
