-- The move at machine level: a list that is written can be played on any state of the same capability, and gives back the very state.
use Prim.Native.Nat.{ℕ, zero, suc, ◌+◌, ◌*◌, ◌^◌, ◌<◌, ◌≤◌}
use mathlib.Core.Path.{◌≡◌, refl, ap, ap₂, sym, ◌∙◌}
use mathlib.Core.Bool.{Bool, true, false, ◌||◌}
use mathlib.Core.List.{List, [], ◌∷◌, ◌++◌}
use native.Mathlib.Omega.{arith}
use lib.ListN.{length, take, drop, replicate, length-append}
use lib.Seq.{take_at}
use borrow.Author.Tests.{le-leb, eq-eqb}
use Rattle.rules.specs.Bytes.{choose, bytes}
use Rattle.rules.specs.State.{Limits, paper_limits, Adapter, Place, free, holds, Record, record_bytes, State, fresh, listing}
use Rattle.rules.specs.Outcome.{accept, Answer, result}
use Rattle.rules.specs.Requests.{non_zero}
use Rattle.rules.specs.MoveList.{ListRequest, one_if, by_rising_id, register_request, modify_request, enqueue_request, aism_all_request, apf_request, list_requests, payloads, payload_offset, total, move_list, writes, count_in, most_requests}
use Rattle.rules.specs.Machine.{Call, set_attr, write_list, play_list, outcome, step, answers, after, answer_of}
use Rattle.rules.proofs.Checks.{passes}
use Rattle.rules.proofs.Computes.{computes}
use Rattle.rules.specs.Invariant.{All, Whole, Sound}
use Rattle.rules.proofs.Lists.{all_append}
use Rattle.rules.proofs.Decode.{Fits, flag-le, length-move_list, count-written, reads-back}
use Rattle.rules.proofs.Reachable.{listing-sendable, listing-length, length-records, reachable, fresh-ais}
use Rattle.rules.proofs.Replay.{Movable, replays}

-- ---- how long a list is

payloads-append : (es fs : List ListRequest) → length (payloads (es ++ fs)) ≡ length (payloads es) + length (payloads fs)
unfolding payloads
payloads-append [] fs = omega arith
payloads-append (e ∷ es) fs = simp length-append (omega (arith, payloads-append es fs))

-- entries that fit a slot, so many at most, with so many payload bytes at most
record Short (count size : ℕ) (es : List ListRequest) : Type 0 where
  fits : All Fits es
  few : length es ≤ count
  small : length (payloads es) ≤ size

short-append : (m n a b : ℕ) (es fs : List ListRequest) → Short m a es → Short n b fs → Short (m + n) (a + b) (es ++ fs)
short-append m n a b es fs h k =
    record {
      fits = all_append Fits es fs h.fits k.fits;
      few = rw length-append (omega (arith, h.few, k.few));
      small = rw payloads-append (omega (arith, h.small, k.small));
    }

short-wider : (m n a b : ℕ) (es : List ListRequest) → m ≤ n → a ≤ b → Short m a es → Short n b es
short-wider m n a b es p q h = record { fits = h.fits; few = omega (arith, h.few); small = omega (arith, h.small) }

short_none : (count size : ℕ) → Short count size []
unfolding payloads
short_none count size = record { fits = tt; few = omega arith; small = omega arith }

short-one : (e : ListRequest) → Fits e → Short 1 (length e.payload) (e ∷ [])
unfolding payloads
short-one e h = record { fits = (h, tt); few = omega arith; small = simp length-append (omega arith) }

short-by-id : (size : ℕ) (f : ℕ → Adapter → List ListRequest) → ((id : ℕ) (x : Adapter) → Short 1 size (f id x))
    → (id : ℕ) (ps : List Place) → Short (length ps) (size * length ps) (by_rising_id f id ps)
unfolding by_rising_id
short-by-id size f h id [] = short_none _ _
short-by-id size f h id (free ∷ ps) = short-wider _ _ _ _ _ (omega arith) (omega arith) (short-by-id size f h (suc id) ps)
short-by-id size f h id (holds x ∷ ps) =
    short-wider _ _ _ _ _ (omega arith) (omega arith) (short-append _ _ _ _ (f id x) (by_rising_id f (suc id) ps) (h id x) (short-by-id size f h (suc id) ps))

register-short : (id : ℕ) (x : Adapter) → Short 1 8 (register_request id x)
unfolding register_request bytes
register-short id x = short-one _ (record { moves = refl; group = omega arith; attr = omega arith })

modify-short : (id : ℕ) (x : Adapter) → Short 1 16 (modify_request id x)
unfolding modify_request choose bytes
modify-short id x = go x.masked
  where
    go : (m : Bool) → Short 1 16 (choose m (record { group = 7; attr = 0; payload = bytes 4 id ++ (1 ∷ 1 ∷ replicate 10 0) } ∷ []) [])
    go true = short-one _ (record { moves = refl; group = omega arith; attr = omega arith })
    go false = short_none 1 16

enqueue-short : (size : ℕ) (rs : List Record) → All Whole rs → record_bytes * length rs ≤ size → size < 2 ^ 64
    → Short 1 size (enqueue_request rs)
unfolding enqueue_request
enqueue-short size [] w h k = short_none 1 size
enqueue-short size (r ∷ rs) w h k =
    short-wider _ _ _ _ _ (omega arith) (rw (length-records (r ∷ rs) w) h)
    (short-one _ (record { moves = refl; group = omega arith; attr = omega arith }))

masks-short : (ais : Bool) (simm nimm : ℕ) → Short (one_if ais) (2 * one_if ais) (aism_all_request ais simm nimm)
unfolding aism_all_request choose
masks-short false simm nimm = short_none 0 0
masks-short true simm nimm = go (non_zero simm || non_zero nimm)
  where
    go : (m : Bool) → Short 1 2 (choose m (record { group = 11; attr = 0; payload = simm ∷ nimm ∷ [] } ∷ []) [])
    go true = short-one _ (record { moves = refl; group = omega arith; attr = omega arith })
    go false = short_none 1 2

flag-short : (on : Bool) → Short 1 0 (apf_request on)
unfolding apf_request
flag-short true = short-one _ (record { moves = refl; group = omega arith; attr = omega arith })
flag-short false = short_none 1 0

-- the longest list over the limits: REGISTER and MODIFY for each place, ENQUEUE of a full listing, APF_ENABLE, AISM_ALL if capable
abbrev pub most_written : Limits → Bool → ℕ
most_written L ais = 2 * L.places + 2 + one_if ais

abbrev pub longest : Limits → Bool → ℕ
longest L ais = payload_offset (most_written L ais) + (8 + 16) * L.places + record_bytes * (L.room + 2) + 2 * one_if ais

module _ (L : Limits) (fits : Movable L) (s : State) (h : Sound L s) where
  entries-short : Short (most_written L s.ais) ((8 + 16) * L.places + record_bytes * (L.room + 2) + 2 * one_if s.ais) (list_requests s)
  unfolding list_requests
  entries-short =
      short-wider _ _ _ _ _ (omega (arith, h.table)) (omega (arith, h.table))
      (short-append _ _ _ _ (by_rising_id register_request 0 s.adapters) _ (short-by-id 8 register_request register-short 0 s.adapters)
      (short-append _ _ _ _ (by_rising_id modify_request 0 s.adapters) _ (short-by-id 16 modify_request modify-short 0 s.adapters)
      (short-append _ _ _ _ (enqueue_request (listing s.pending)) _
      (enqueue-short (record_bytes * (L.room + 2)) (listing s.pending) (listing-sendable s.pending h.pending).whole
      (omega (arith, listing-length s.pending, h.within)) (omega (arith, fits.little-room)))
      (short-append _ _ _ _ (aism_all_request s.ais s.device.simm s.device.nimm) _ (masks-short s.ais s.device.simm s.device.nimm)
      (flag-short s.device.apf)))))

  pub requests-bound : length (list_requests s) ≤ most_written L s.ais
  requests-bound = entries-short.few

  pub total-bound : total (list_requests s) ≤ longest L s.ais
  total-bound = omega (arith, entries-short.few, entries-short.small)

  few-requests : length (list_requests s) ≤ most_requests
  few-requests = omega (arith, requests-bound, flag-le s.ais, fits.few-places)

  fits_word : total (list_requests s) < 2 ^ 32
  fits_word = omega (arith, total-bound, flag-le s.ais, fits.few-places, fits.little-room)

  writes-list : (b : List ℕ) → total (list_requests s) ≤ length b → outcome L s write_list L.places b ≡ accept (total (list_requests s)) s (move_list s.ais (list_requests s))
  unfolding outcome writes
  writes-list b k = passes _ _ _ (eq-eqb L.places L.places refl) ∙ passes _ _ _ (le-leb _ _ k)

  pub plays-list : (t : State) → t.ais ≡ s.ais → outcome L t play_list L.places (move_list s.ais (list_requests s)) ≡ accept (length (list_requests s)) s []
  unfolding outcome
  plays-list t e =
      passes _ _ _ (eq-eqb L.places L.places refl)
      ∙ reads-back L t s.ais (list_requests s) e entries-short.fits fits_word few-requests ∙ replays L fits s h

-- ---- the move

-- A list of calls on a fresh controller; then its move list is written into a buffer, and exactly as many bytes as the count says
-- are played on a second controller. Each of the two calls gets its controller's own table.
module _ (L : Limits) (ais : Bool) (cs : List Call) (b : List ℕ) (t : State) where
  abbrev pub first : State
  first = after L (fresh L ais) cs

  abbrev pub written : Answer State
  written = step L first (record { ask = write_list; buffer = b; table_length = L.places })

  abbrev pub list : List ℕ
  list = take written.count written.buffer

  abbrev pub played : Answer State
  played = step L t (record { ask = play_list; buffer = list; table_length = L.places })

  pub record Move : Type 0 where
    -- writing is accepted, its count is the list's length, and the rest of the buffer stays
    pub write-accepted : written.code ≡ 0
    pub write-count : written.count ≡ total (list_requests first)
    pub write-length : length list ≡ written.count
    pub write-rest : written.buffer ≡ list ++ drop written.count b
    pub write_keeps : written.next ≡ first
    -- playing is accepted, applies as many requests as the header says, and leaves the very state that was written
    pub play-accepted : played.code ≡ 0
    pub play-count : played.count ≡ count_in list
    pub play-few : played.count ≤ most_requests
    pub play-keeps : played.buffer ≡ list
    pub play-state : played.next ≡ written.next
    -- so every later list of calls gets the same answers, counts and bytes
    pub later : (ds : List Call) → answers L played.next ds ≡ answers L written.next ds

-- For every list of calls, a buffer that is long enough, and any state of the same capability.
pub move : (L : Limits) → Movable L → (ais : Bool) (cs : List Call) (b : List ℕ) (t : State)
    → total (list_requests (after L (fresh L ais) cs)) ≤ length b → t.ais ≡ ais → Move L ais cs b t
unfolding step result
move L fits ais cs b t long same =
    record {
      write-accepted = ap (λ (a : Answer State). a.code) w;
      write-count = ap (λ (a : Answer State). a.count) w;
      write-length = ap length is-list ∙ length-move_list s.ais (list_requests s) ∙ sym (ap (λ (a : Answer State). a.count) w);
      write-rest =
          ap (λ (a : Answer State). a.buffer) w
          ∙ sym (ap₂ (λ (l : List ℕ) (n : ℕ). l ++ drop n b) is-list (ap (λ (a : Answer State). a.count) w ∙ sym (length-move_list s.ais (list_requests s))));
      write_keeps = ap (λ (a : Answer State). a.next) w;
      play-accepted = ap (λ (a : Answer State). a.code) p;
      play-count = ap (λ (a : Answer State). a.count) p ∙ sym (ap count_in is-list ∙ count-written s.ais (list_requests s) (fits_word L fits s h));
      play-few = rw (ap (λ (a : Answer State). a.count) p) (few-requests L fits s h);
      play-keeps = ap (λ (a : Answer State). a.buffer) p;
      play-state = ap (λ (a : Answer State). a.next) p ∙ sym (ap (λ (a : Answer State). a.next) w);
      later = λ ds. ap (λ (u : State). answers L u ds) (ap (λ (a : Answer State). a.next) p ∙ sym (ap (λ (a : Answer State). a.next) w));
    }
  where
    s : State
    s = after L (fresh L ais) cs

    h : Sound L s
    h = (reachable L ais cs).sound

    capable : t.ais ≡ s.ais
    capable = same ∙ sym ((reachable L ais cs).same-ais ∙ fresh-ais L ais)

    w : written L ais cs b t ≡ answer_of L s b (accept (total (list_requests s)) s (move_list s.ais (list_requests s)))
    w = ap (answer_of L s b) (writes-list L fits s h b long)

    is-list : list L ais cs b t ≡ move_list s.ais (list_requests s)
    is-list =
        ap (λ (a : Answer State). take a.count a.buffer) w
        ∙ take_at (move_list s.ais (list_requests s)) _ (total (list_requests s)) (length-move_list s.ais (list_requests s))

    p : played L ais cs b t ≡ answer_of L t (list L ais cs b t) (accept (length (list_requests s)) s [])
    p =
        ap (answer_of L t (list L ais cs b t))
        (ap (outcome L t play_list L.places) is-list ∙ plays-list L fits s h t capable)

-- ---- the longest list of the paper's controller, and that it is reached

pub movable-paper : Movable paper_limits
unfolding paper_limits
movable-paper = record { few-places = omega arith; little-room = omega arith }

pub longest-bound : (ais : Bool) (cs : List Call) → total (list_requests (after paper_limits (fresh paper_limits ais) cs)) ≤ 23278
unfolding paper_limits
longest-bound ais cs =
    let s = after paper_limits (fresh paper_limits ais) cs in
    omega (arith, total-bound paper_limits movable-paper s (reachable paper_limits ais cs).sound, flag-le s.ais)

full_call : ℕ → ℕ → List ℕ → Call
full_call group attr payload = record { ask = set_attr group attr; buffer = payload; table_length = paper_limits.places }

for_each_id : ℕ → (ℕ → Call) → List Call
for_each_id zero f = []
for_each_id (suc id) f = f id ∷ for_each_id id f

-- every place registered and masked, the queues full, a service record and a machine check, masks not 0, page faults on
full_calls : List Call
full_calls =
    for_each_id paper_limits.places (λ id. full_call 6 0 (bytes 4 id ++ (7 ∷ 1 ∷ 1 ∷ 1 ∷ [])))
    ++ (for_each_id paper_limits.places (λ id. full_call 7 0 (bytes 4 id ++ (1 ∷ 1 ∷ replicate 10 0)))
    ++ (full_call 2 18576 (replicate (record_bytes * paper_limits.room) 0 ++ (bytes 8 0xffff2401 ++ (replicate 64 0 ++ (bytes 8 0xfffe1000 ++ replicate 64 0))))
    ∷ full_call 11 0 (255 ∷ 0 ∷ [])
    ∷ full_call 4 0 []
    ∷ []))

longest-reached : (total (list_requests (after paper_limits (fresh paper_limits true) full_calls)) ≡ 23278)
    × (length (list_requests (after paper_limits (fresh paper_limits true) full_calls)) ≡ 131)
unfolding full_call for_each_id full_calls computes
longest-reached = (refl, refl)
