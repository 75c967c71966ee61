-- The requests of a move list, applied to a fresh state, give back the very state that they were written from.
use Prim.Native.Nat.{ℕ, suc, ◌+◌, ◌*◌, ◌%◌, ◌^◌, ◌<◌, ◌≤◌}
use mathlib.Core.Path.{◌≡◌, refl, ap, sym, ◌∙◌, subst}
use mathlib.Core.Bool.{Bool, true, false, not, ◌&&◌, ◌||◌}
use mathlib.Core.Option.{Option, none, some}
use mathlib.Core.List.{List, [], ◌∷◌, ◌++◌, map, flatten, append_assoc, append-nil}
use native.Mathlib.Omega.{arith}
use native.Mathlib.Nat.{add-zero, zero-add, add_assoc, mul-div_cancel_left, mul-mod_right}
use native.Mathlib.Numerals.{add-one}
use lib.ListN.{length, replicate, length-append}
use lib.Seq.{take_at, drop_at, set_at, get_or_at, append_snoc}
use lib.Dec.{eqb}
use borrow.Author.Tests.{le-leb, lt-ltb, eq-eqb, ne_eqb, eqb-true}
use Rattle.rules.specs.Bytes.{choose, bytes}
use Rattle.rules.specs.State.{Limits, Adapter, Place, free, holds, Record, record_bytes, Pending, Device, State, nothing, fresh, with_pending, with_device, Kind, add_io, add_as, add, add_all, queued, single, listing}
use Rattle.rules.specs.Outcome.{accept}
use Rattle.rules.specs.Requests.{holding, enqueue, set_request, enqueue_bytes, non_zero, records_in, all_want, enqueues, sets_apf, is_free, registers, adapter_in, with_mask, modifies, with_masks, request}
use Rattle.rules.specs.MoveList.{ListRequest, one_if, by_rising_id, register_request, modify_request, enqueue_request, aism_all_request, apf_request, list_requests, onward, applies, most_requests}
use Rattle.rules.proofs.Checks.{passes, found, both, left}
use Rattle.rules.specs.Invariant.{All, Maybe, Whole, SoundAdapter, SoundPlace, IsKind, IsIo, IoQueues, SoundPending, Sound}
use Rattle.rules.proofs.Codec.{field-here}
use Rattle.rules.proofs.Reachable.{Sendable, listing-sendable, listing-length, length-records}

-- ---- requests in turn

-- the requests, applied at a place, lead from one state to another, whatever follows them
abbrev pub Leads : Limits → ℕ → State → List ListRequest → State → Type 0
Leads L place s es t = (fs : List ListRequest) → applies L place s (es ++ fs) ≡ applies L (place + length es) t fs

leads-none : (L : Limits) (place : ℕ) (s : State) → Leads L place s [] s
leads-none L place s fs = rw add-zero

leads_one : (L : Limits) (place : ℕ) (s t : State) (e : ListRequest) (count : ℕ)
    → request L s (set_request e.group) e.attr e.payload ≡ accept count t [] → Leads L place s (e ∷ []) t
unfolding applies onward
leads_one L place s t e count h fs = rw (h, add-one)

leads-then : (L : Limits) (place : ℕ) (s t u : State) (es fs : List ListRequest) → Leads L place s es t → Leads L (place + length es) t fs u
    → Leads L place s (es ++ fs) u
leads-then L place s t u es fs h k gs =
    ap (applies L place s) (append_assoc es fs gs) ∙ h (fs ++ gs) ∙ k gs
    ∙ ap (λ (n : ℕ). applies L n u gs) (add_assoc place (length es) (length fs) ∙ ap (place +◌) (sym (length-append es fs)))

-- ---- adapters: one pass by rising id

abbrev with_adapters : List Place → State → State
with_adapters ps s = record { ais = s.ais; adapters = ps; pending = s.pending; device = s.device }

module _ (L : Limits) (s : State) (f : ℕ → Adapter → List ListRequest) (from to : Place → Place) (same : from free ≡ to free)
    (turn : (place : ℕ) (pre post : List Place) (x : Adapter) → SoundAdapter x → length pre < L.places
    → Leads L place (with_adapters (pre ++ (from (holds x) ∷ post)) s) (f (length pre) x) (with_adapters (pre ++ (to (holds x) ∷ post)) s))
  where
    -- what is behind one place more
    behind : (place : ℕ) (pre ps : List Place) (p : Place)
        → Leads L place (with_adapters (pre ++ (p ∷ []) ++ map from ps) s) (by_rising_id f (length (pre ++ (p ∷ []))) ps) (with_adapters (pre ++ (p ∷ []) ++ map to ps) s)
        → Leads L place (with_adapters (pre ++ (p ∷ map from ps)) s) (by_rising_id f (suc (length pre)) ps) (with_adapters (pre ++ (p ∷ map to ps)) s)
    behind place pre ps p h =
        rw (append_snoc pre p (map from ps), append_snoc pre p (map to ps), length-append pre (p ∷ []), add-one) at h

    pub pass : (place : ℕ) (pre ps : List Place) → All SoundPlace ps → length pre + length ps ≤ L.places
        → Leads L place (with_adapters (pre ++ map from ps) s) (by_rising_id f (length pre) ps) (with_adapters (pre ++ map to ps) s)
    unfolding by_rising_id
    pass place pre [] h k = leads-none L place (with_adapters (pre ++ []) s)
    pass place pre (free ∷ ps) h k =
        rw same (behind place pre ps (to free) (pass place (pre ++ (to free ∷ [])) ps h.1 (rw length-append (omega arith))))
    pass place pre (holds x ∷ ps) h k =
        leads-then L place _ _ _ (f (length pre) x) (by_rising_id f (suc (length pre)) ps) (turn place pre (map from ps) x h.0 (omega arith))
        (behind (place + length (f (length pre) x)) pre ps (to (holds x))
        (pass (place + length (f (length pre) x)) (pre ++ (to (holds x) ∷ [])) ps h.1 (rw length-append (omega arith))))

-- REGISTER: from free places to unmasked adapters
abbrev unmasked : Place → Place
unmasked free = free
unmasked (holds x) = holds (with_mask false x)

abbrev freed : Place → Place
freed p = free

flag-yes : (m : Bool) → non_zero (one_if m) ≡ m
flag-yes true = refl
flag-yes false = refl

flag-odd : (m : Bool) → eqb (one_if m % 2) 1 ≡ m
flag-odd true = refl
flag-odd false = refl

abbrev register_bytes : ℕ → Adapter → List ℕ
register_bytes id x = bytes 4 id ++ (x.isc ∷ one_if x.maskable ∷ one_if x.swap ∷ one_if x.suppressible ∷ [])

adapter-back : (id : ℕ) (x : Adapter) → adapter_in (register_bytes id x) ≡ with_mask false x
unfolding adapter_in bytes
adapter-back id x =
    λ i. record {
      isc = x.isc;
      maskable = flag-yes x.maskable i;
      swap = flag-yes x.swap i;
      suppressible = flag-odd x.suppressible i;
      masked = false;
    }

module _ (L : Limits) (s : State) (pre post : List Place) where
  registers-at : (x : Adapter) → length pre < L.places → x.isc ≤ 7
      → registers L (with_adapters (pre ++ (free ∷ post)) s) (length pre) x ≡ accept 0 (with_adapters (pre ++ (holds x ∷ post)) s) []
  unfolding registers
  registers-at x w k =
      passes _ _ _ (lt-ltb _ _ w) ∙ passes _ _ _ (ap is_free (get_or_at pre free post free (length pre) refl)) ∙ passes _ _ _ (le-leb _ _ k)
      ∙ ap (λ (ps : List Place). accept 0 (with_adapters ps s) []) (set_at pre free post (holds x) (length pre) refl)

  register-turn : L.places ≤ 2 ^ 32 → (place : ℕ) (x : Adapter) → SoundAdapter x → length pre < L.places
      → Leads L place (with_adapters (pre ++ (free ∷ post)) s) (register_request (length pre) x) (with_adapters (pre ++ (holds (with_mask false x) ∷ post)) s)
  unfolding register_request request bytes
  register-turn few place x k w =
      leads_one L place _ _ _ 0
      (passes _ _ _ refl ∙ passes _ _ _ refl
      ∙ ap (λ (id : ℕ). registers L (with_adapters (pre ++ (free ∷ post)) s) id (adapter_in (register_bytes (length pre) x))) (field-here 4 (length pre) (x.isc ∷ one_if x.maskable ∷ one_if x.swap ∷ one_if x.suppressible ∷ []) (omega arith))
      ∙ ap (registers L (with_adapters (pre ++ (free ∷ post)) s) (length pre)) (adapter-back (length pre) x)
      ∙ registers-at (with_mask false x) w k.subclass-small)

  -- MODIFY: from unmasked adapters to the adapters themselves
  modifies-at : (x : Adapter) → length pre < L.places → x.maskable ≡ true
      → modifies L (with_adapters (pre ++ (holds x ∷ post)) s) (length pre) 1 true ≡ accept 0 (with_adapters (pre ++ (holds (with_mask true x) ∷ post)) s) []
  unfolding modifies choose
  modifies-at x w m =
      passes _ _ _ (lt-ltb _ _ w) ∙ found _ x _ _ (ap holding (get_or_at pre (holds x) post free (length pre) refl)) ∙ passes _ _ _ refl ∙ passes _ _ _ m
      ∙ ap (λ (ps : List Place). accept 0 (with_adapters ps s) []) (set_at pre (holds x) post (holds (with_mask true x)) (length pre) refl)

  modify-turn : L.places ≤ 2 ^ 32 → (place : ℕ) (x : Adapter) → SoundAdapter x → length pre < L.places
      → Leads L place (with_adapters (pre ++ (holds (with_mask false x) ∷ post)) s) (modify_request (length pre) x) (with_adapters (pre ++ (holds x ∷ post)) s)
  unfolding modify_request choose request bytes
  modify-turn few place x k w = go x.masked refl
    where
      as-masked : (m : Bool) → x.masked ≡ m → with_mask m x ≡ x
      as-masked m e = λ i. record { isc = x.isc; maskable = x.maskable; swap = x.swap; suppressible = x.suppressible; masked = sym e i }

      go : (m : Bool) → x.masked ≡ m
          → Leads L place (with_adapters (pre ++ (holds (with_mask false x) ∷ post)) s)
          (choose m (record { group = 7; attr = 0; payload = bytes 4 (length pre) ++ (1 ∷ 1 ∷ replicate 10 0) } ∷ []) [])
          (with_adapters (pre ++ (holds x ∷ post)) s)
      go true e =
          leads_one L place _ _ _ 0
          (passes _ _ _ refl ∙ passes _ _ _ refl
          ∙ ap (λ (id : ℕ). modifies L (with_adapters (pre ++ (holds (with_mask false x) ∷ post)) s) id 1 true) (field-here 4 (length pre) (1 ∷ 1 ∷ replicate 10 0) (omega arith))
          ∙ modifies-at (with_mask false x) w (k.masked-maskable e)
          ∙ ap (λ (y : Adapter). accept 0 (with_adapters (pre ++ (holds y ∷ post)) s) []) (as-masked true e))
      go false e = rw (as-masked false e) (leads-none L place (with_adapters (pre ++ (holds x ∷ post)) s))

-- ---- pending records: the listing, added to nothing

add-all-append : (a b : List Record) (p : Pending) → add_all (a ++ b) p ≡ add_all b (add_all a p)
unfolding add_all
add-all-append [] b p = refl
add-all-append (r ∷ a) b p = add-all-append a b (add r p)

module _ (done : List Record) (service mchk : Option Record) where
  abbrev filled : List (List Record) → Pending
  filled io = record { io = io; done = done; service = service; mchk = mchk }

  fill-queue : (pre post : List (List Record)) (q rs : List Record) → All (IsIo (length pre)) rs
      → add_all rs (filled (pre ++ (q ∷ post))) ≡ filled (pre ++ ((q ++ rs) ∷ post))
  unfolding add_all add add_as add_io
  fill-queue pre post q [] h = rw append-nil
  fill-queue pre post q (r ∷ rs) h =
      rw (h.0.is-io, h.0.is-subclass, get_or_at pre q post [] (length pre) refl, set_at pre q post (q ++ (r ∷ [])) (length pre) refl)
      (fill-queue pre post (q ++ (r ∷ [])) rs h.1 ∙ ap (λ (l : List Record). filled (pre ++ (l ∷ post))) (append_snoc q r rs))

  fill-queues : (pre qs : List (List Record)) → IoQueues (length pre) qs
      → add_all (flatten qs) (filled (pre ++ replicate (length qs) [])) ≡ filled (pre ++ qs)
  unfolding flatten add_all
  fill-queues pre [] h = refl
  fill-queues pre (q ∷ qs) h =
      add-all-append q (flatten qs) _
      ∙ ap (add_all (flatten qs)) (fill-queue pre (replicate (length qs) []) [] q h.0 ∙ ap filled (sym (append_snoc pre q (replicate (length qs) []))))
      ∙ fill-queues (pre ++ (q ∷ [])) qs (rw (length-append pre (q ∷ []), add-one) h.1)
      ∙ ap filled (append_snoc pre q qs)

fill_done : (io : List (List Record)) (q rs : List Record) → All (IsKind Kind.done) rs
    → add_all rs (filled q none none io) ≡ filled (q ++ rs) none none io
unfolding add_all add add_as
fill_done io q [] h = rw append-nil
fill_done io q (r ∷ rs) h =
    rw h.0.is-kind (fill_done io (q ++ (r ∷ [])) rs h.1 ∙ ap (λ (l : List Record). filled l none none io) (append_snoc q r rs))

fill-service : (io : List (List Record)) (q : List Record) (o : Option Record) → Maybe (IsKind Kind.service) o
    → add_all (single o) (filled q none none io) ≡ filled q o none io
unfolding add_all add add_as
fill-service io q none h = refl
fill-service io q (some r) h = rw h.is-kind

fill-mchk : (io : List (List Record)) (q : List Record) (v o : Option Record) → Maybe (IsKind Kind.mchk) o
    → add_all (single o) (filled q v none io) ≡ filled q v o io
unfolding add_all add add_as
fill-mchk io q v none h = refl
fill-mchk io q v (some r) h = rw h.is-kind

pub listing-back : (p : Pending) → SoundPending p → add_all (listing p) nothing ≡ p
unfolding listing
listing-back p h =
    add-all-append (flatten p.io) _ nothing
    ∙ ap (add_all (p.done ++ (single p.service ++ single p.mchk)))
    (ap (λ (n : ℕ). add_all (flatten p.io) (filled [] none none (replicate n []))) (sym h.eight)
    ∙ fill-queues [] none none [] p.io h.in-io)
    ∙ add-all-append p.done _ _
    ∙ ap (add_all (single p.service ++ single p.mchk)) (fill_done p.io [] p.done h.in-done)
    ∙ add-all-append (single p.service) _ _
    ∙ ap (add_all (single p.mchk)) (fill-service p.io p.done p.service h.in-service)
    ∙ fill-mchk p.io p.done p.service p.mchk h.in-mchk

nothing-added : (L : Limits) (place : ℕ) (s : State) → Leads L place s [] (with_pending (add_all [] s.pending) s)
unfolding add_all
nothing-added L place s = leads-none L place s

-- ---- the listing is accepted by ENQUEUE

records-back : (rs : List Record) → All Whole rs → records_in (length rs) (flatten rs) ≡ rs
unfolding flatten records_in
records-back [] h = refl
records-back (r ∷ rs) h = rw (take_at r (flatten rs) record_bytes h.0, drop_at r (flatten rs) record_bytes h.0, records-back rs h.1)

enqueue-accepted : (L : Limits) (s : State) (n : ℕ) (rs : List Record) → Sendable n rs → queued s.pending + n ≤ L.room
    → record_bytes * length rs ≤ enqueue_bytes → 0 < length rs
    → request L s enqueue (record_bytes * length rs) (flatten rs) ≡ accept (length rs) (with_pending (add_all rs s.pending) s) []
unfolding request enqueues
enqueue-accepted L s n rs u w k more =
    passes _ _ _
    (both _ _ (ap not (ne_eqb (record_bytes * length rs) 0 (λ e. omega (arith, e, more))))
    (both _ _ (le-leb _ _ k) (eq-eqb _ _ (mul-mod_right record_bytes (length rs)))))
    ∙ passes _ _ _ (le-leb (record_bytes * length rs) (length (flatten rs)) (omega (arith, length-records rs u.whole)))
    ∙ ap (enqueues L s) (ap (λ (m : ℕ). records_in m (flatten rs)) (mul-div_cancel_left (length rs) (omega arith)) ∙ records-back rs u.whole)
    ∙ passes _ _ _ u.good
    ∙ passes _ _ _ (le-leb (queued s.pending + all_want rs) L.room (rw u.wanted w))

enqueue-leads : (L : Limits) (place : ℕ) (s : State) (n : ℕ) (rs : List Record) → Sendable n rs → queued s.pending + n ≤ L.room
    → record_bytes * length rs ≤ enqueue_bytes → Leads L place s (enqueue_request rs) (with_pending (add_all rs s.pending) s)
unfolding enqueue_request
enqueue-leads L place s n [] u w k = nothing-added L place s
enqueue-leads L place s n (r ∷ rs) u w k =
    leads_one L place s _ _ (length (r ∷ rs)) (enqueue-accepted L s n (r ∷ rs) u w k (omega arith))

-- ---- masks and page-fault flag

neither : (a b : Bool) → (not a || not b) ≡ false → (a ≡ true) × (b ≡ true)
neither true true h = (refl, refl)
neither true false h = (refl, sym h)
neither false b h = (sym h, (cc))

module _ (L : Limits) (place : ℕ) (s : State) where
  masks-leads : (simm nimm : ℕ) → s.device.simm ≡ 0 → s.device.nimm ≡ 0
      → (s.ais ≡ false → (simm ≡ 0) × (nimm ≡ 0)) → Leads L place s (aism_all_request s.ais simm nimm) (with_masks simm nimm s)
  unfolding aism_all_request choose request
  masks-leads simm nimm z y h = go (s.ais && (non_zero simm || non_zero nimm)) refl
    where
      zeros : (a : Bool) → s.ais ≡ a → (a && (non_zero simm || non_zero nimm)) ≡ false → (simm ≡ 0) × (nimm ≡ 0)
      zeros true e k = let n = neither (eqb simm 0) (eqb nimm 0) k in (eqb-true simm 0 n.0, eqb-true nimm 0 n.1)
      zeros false e k = h e

      kept : (simm ≡ 0) × (nimm ≡ 0) → s ≡ with_masks simm nimm s
      kept k =
          λ i. record {
            ais = s.ais;
            adapters = s.adapters;
            pending = s.pending;
            device = record { simm = (z ∙ sym k.0) i; nimm = (y ∙ sym k.1) i; apf = s.device.apf };
          }

      go : (t : Bool) → (s.ais && (non_zero simm || non_zero nimm)) ≡ t
          → Leads L place s (choose t (record { group = 11; attr = 0; payload = simm ∷ nimm ∷ [] } ∷ []) []) (with_masks simm nimm s)
      go true e = leads_one L place _ _ _ 0 (passes _ _ _ refl ∙ passes _ _ _ (left s.ais (non_zero simm || non_zero nimm) e) ∙ passes _ _ _ refl)
      go false e = subst (Leads L place s []) (kept (zeros s.ais refl e)) (leads-none L place s)

  flag-leads : (on : Bool) → s.device.apf ≡ false
      → Leads L place s (apf_request on) (with_device (record { simm = s.device.simm; nimm = s.device.nimm; apf = on }) s)
  unfolding apf_request request sets_apf
  flag-leads true e = leads_one L place _ _ _ 0 (passes _ _ _ refl)
  flag-leads false e =
      subst (Leads L place s [])
      (λ i. record {
        ais = s.ais;
        adapters = s.adapters;
        pending = s.pending;
        device = record { simm = s.device.simm; nimm = s.device.nimm; apf = e i };
      })
      (leads-none L place s)

-- ---- all of them

-- Limits for which what is written can be played: 01 refuses more than 131 requests and ENQUEUE above 18,576 bytes.
pub record Movable (L : Limits) : Type 0 where
  pub few-places : 2 * L.places + 3 ≤ most_requests
  pub little-room : record_bytes * (L.room + 2) ≤ enqueue_bytes

nothing-queued : queued nothing ≡ 0
unfolding flatten
nothing-queued = refl

map-freed : (ps : List Place) → map freed ps ≡ replicate (length ps) free
map-freed [] = refl
map-freed (p ∷ ps) = ap (free ∷◌) (map-freed ps)

map_same : (ps : List Place) → map (λ (p : Place). p) ps ≡ ps
map_same [] = refl
map_same (p ∷ ps) = ap (p ∷◌) (map_same ps)

module _ (L : Limits) (fits : Movable L) (s : State) (h : Sound L s) where
  stage : List Place → Pending → Device → State
  stage ps p d = record { ais = s.ais; adapters = ps; pending = p; device = d }

  unset : Device
  unset = record { simm = 0; nimm = 0; apf = false }

  fresh-is : fresh L s.ais ≡ stage (map freed s.adapters) nothing unset
  unfolding fresh stage unset
  fresh-is = rw (map-freed, h.table)

  few : L.places ≤ 2 ^ 32
  few = omega (arith, fits.few-places)

  registered : (place : ℕ)
      → Leads L place (stage (map freed s.adapters) nothing unset) (by_rising_id register_request 0 s.adapters) (stage (map unmasked s.adapters) nothing unset)
  unfolding stage
  registered place =
      pass L (stage [] nothing unset) register_request freed unmasked refl
      (λ place pre post x k w. register-turn L (stage [] nothing unset) pre post few place x k w)
      place [] s.adapters h.adapters (omega (arith, h.table))

  modified : (place : ℕ)
      → Leads L place (stage (map unmasked s.adapters) nothing unset) (by_rising_id modify_request 0 s.adapters) (stage s.adapters nothing unset)
  unfolding stage
  modified place =
      rw map_same at
      (pass L (stage [] nothing unset) modify_request unmasked (λ p. p) refl
      (λ place pre post x k w. modify-turn L (stage [] nothing unset) pre post few place x k w)
      place [] s.adapters h.adapters (omega (arith, h.table)))

  listed : (place : ℕ) → Leads L place (stage s.adapters nothing unset) (enqueue_request (listing s.pending)) (stage s.adapters s.pending unset)
  unfolding stage
  listed place =
      rw (listing-back s.pending h.pending) at
      (enqueue-leads L place (stage s.adapters nothing unset) (queued s.pending) (listing s.pending) (listing-sendable s.pending h.pending)
      (rw nothing-queued (omega (arith, h.within)))
      (omega (arith, fits.little-room, listing-length s.pending, h.within)))

  -- the five parts of the list, and where each begins
  abbrev r : List ListRequest
  r = by_rising_id register_request 0 s.adapters

  abbrev m : List ListRequest
  m = by_rising_id modify_request 0 s.adapters

  abbrev q : List ListRequest
  q = enqueue_request (listing s.pending)

  abbrev a : List ListRequest
  a = aism_all_request s.ais s.device.simm s.device.nimm

  abbrev f : List ListRequest
  f = apf_request s.device.apf

  all-lead : Leads L 0 (stage (map freed s.adapters) nothing unset) (list_requests s) s
  unfolding list_requests stage unset
  all-lead =
      let i : ℕ = 0 + length r in
      let j : ℕ = i + length m in
      let k : ℕ = j + length q in
      let u : State = stage s.adapters s.pending unset in
      let v : State = with_masks s.device.simm s.device.nimm u in
      leads-then L 0 _ (stage (map unmasked s.adapters) nothing unset) s r (m ++ (q ++ (a ++ f))) (registered 0)
      (leads-then L i _ (stage s.adapters nothing unset) s m (q ++ (a ++ f)) (modified i)
      (leads-then L j _ u s q (a ++ f) (listed j)
      (leads-then L k u v s a f (masks-leads L k u s.device.simm s.device.nimm refl refl h.no-masks)
      (flag-leads L (k + length a) v s.device.apf refl))))

  pub replays : applies L 0 (fresh L s.ais) (list_requests s) ≡ accept (length (list_requests s)) s []
  unfolding applies
  replays =
      ap (applies L 0 (fresh L s.ais)) (sym (append-nil (list_requests s))) ∙ ap (λ (t : State). applies L 0 t (list_requests s ++ [])) fresh-is
      ∙ all-lead [] ∙ ap (λ (n : ℕ). accept n s []) (zero-add (length (list_requests s)))
