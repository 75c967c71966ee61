-- The premise says exactly what paper 01 allows: a state has the facts of the invariant if and only if a fresh one can
-- reach it. It is left by playing its own move list on a fresh controller, and that list consists of bytes if the state does.
use Prim.Native.Nat.{ℕ, zero, suc, ◌+◌}
use mathlib.Core.Path.{ap, subst}
use mathlib.Core.Bool.{Bool, true, false, ◌&&◌, ◌||◌}
use mathlib.Core.List.{List, [], ◌∷◌, ◌++◌, flatten}
use native.Mathlib.Omega.{arith}
use native.Mathlib.Nat.{mod-lt}
use lib.ListN.{length, replicate}
use Rattle.rules.specs.Bytes.{choose, bytes}
use Rattle.rules.specs.State.{Limits, Adapter, Place, free, holds, Record, State, fresh, listing}
use Rattle.rules.specs.Outcome.{Outcome, result}
use Rattle.rules.specs.Requests.{non_zero}
use Rattle.rules.specs.MoveList.{ListRequest, one_if, by_rising_id, register_request, modify_request, enqueue_request, aism_all_request, apf_request, list_requests, payloads, written_table, move_list}
use Rattle.rules.specs.Machine.{play_list, step, after, answer_of}
use Rattle.rules.specs.Invariant.{All, SoundAdapter, SoundPlace, Sound, Reached, IsByte, OfBytes, LentBytes}
use Rattle.rules.proofs.Lists.{all_append, all_replicate}
use Rattle.rules.proofs.Reachable.{fresh-ais, reachable}
use Rattle.rules.proofs.Replay.{Movable}
use Rattle.rules.proofs.Move.{plays-list}

-- ---- a state with the invariant is reached

abbrev its_list : State → List ℕ
its_list s = move_list s.ais (list_requests s)

pub reached : (L : Limits) → Movable L → (s : State) → Sound L s → Reached L s
unfolding after step result
reached L fits s h =
    record {
      ais = s.ais;
      calls = record { ask = play_list; buffer = its_list s; table_length = L.places } ∷ [];
      is = ap (λ (o : Outcome State). (answer_of L (fresh L s.ais) (its_list s) o).next) (plays-list L fits s h (fresh L s.ais) (fresh-ais L s.ais));
    }

pub exactly : (L : Limits) → Movable L → (s : State) → (Sound L s → Reached L s) × (Reached L s → Sound L s)
exactly L fits s = (reached L fits s, λ r. subst (Sound L) r.is (reachable L r.ais r.calls).sound)

-- ---- by bytes, if it consists of bytes

bytes_small : (n v : ℕ) → All IsByte (bytes n v)
unfolding bytes
bytes_small zero v = tt
bytes_small (suc n) v = (mod-lt _ (omega arith), bytes_small n v)

one-small : (b : Bool) → IsByte (one_if b)
one-small true = omega arith
one-small false = omega arith

flatten-small : (rs : List Record) → All (All IsByte) rs → All IsByte (flatten rs)
unfolding flatten
flatten-small [] h = tt
flatten-small (r ∷ rs) h = all_append IsByte r (flatten rs) h.0 (flatten-small rs h.1)

-- the payload of a request
abbrev OfSmall : ListRequest → Type 0
OfSmall e = All IsByte e.payload

by-id : (f : ℕ → Adapter → List ListRequest) → ((id : ℕ) (x : Adapter) → SoundAdapter x → All OfSmall (f id x)) → (id : ℕ) (ps : List Place) → All SoundPlace ps → All OfSmall (by_rising_id f id ps)
unfolding by_rising_id
by-id f k id [] h = tt
by-id f k id (free ∷ ps) h = by-id f k (suc id) ps h.1
by-id f k id (holds x ∷ ps) h = all_append OfSmall (f id x) (by_rising_id f (suc id) ps) (k id x h.0) (by-id f k (suc id) ps h.1)

register-small : (id : ℕ) (x : Adapter) → SoundAdapter x → All OfSmall (register_request id x)
unfolding register_request
register-small id x h = (
  all_append IsByte (bytes 4 id) _ (bytes_small 4 id)
      (omega (arith, h.subclass-small), (one-small x.maskable, (one-small x.swap, (one-small x.suppressible, tt)))),
  tt,
)

modify-small : (id : ℕ) (x : Adapter) → SoundAdapter x → All OfSmall (modify_request id x)
unfolding modify_request choose
modify-small id x h = go x.masked
  where
    go : (m : Bool) → All OfSmall (choose m (record { group = 7; attr = 0; payload = bytes 4 id ++ (1 ∷ 1 ∷ replicate 10 0) } ∷ []) [])
    go true = (all_append IsByte (bytes 4 id) _ (bytes_small 4 id) (omega arith, (omega arith, all_replicate IsByte 10 0 (omega arith))), tt)
    go false = tt

enqueue-small : (rs : List Record) → All (All IsByte) rs → All OfSmall (enqueue_request rs)
unfolding enqueue_request
enqueue-small [] h = tt
enqueue-small (r ∷ rs) h = (flatten-small (r ∷ rs) h, tt)

masks-small : (ais : Bool) (simm nimm : ℕ) → IsByte simm → IsByte nimm → All OfSmall (aism_all_request ais simm nimm)
unfolding aism_all_request choose
masks-small ais simm nimm h k = go (ais && (non_zero simm || non_zero nimm))
  where
    go : (m : Bool) → All OfSmall (choose m (record { group = 11; attr = 0; payload = simm ∷ nimm ∷ [] } ∷ []) [])
    go true = ((h, (k, tt)), tt)
    go false = tt

flag_small : (on : Bool) → All OfSmall (apf_request on)
unfolding apf_request
flag_small true = (tt, tt)
flag_small false = tt

requests-small : (s : State) → All SoundPlace s.adapters → OfBytes s → All OfSmall (list_requests s)
unfolding list_requests
requests-small s h k =
    all_append OfSmall (by_rising_id register_request 0 s.adapters) _ (by-id register_request register-small 0 s.adapters h)
    (all_append OfSmall (by_rising_id modify_request 0 s.adapters) _ (by-id modify_request modify-small 0 s.adapters h)
    (all_append OfSmall (enqueue_request (listing s.pending)) _ (enqueue-small (listing s.pending) k.records)
    (all_append OfSmall (aism_all_request s.ais s.device.simm s.device.nimm) _ (masks-small s.ais s.device.simm s.device.nimm k.simm k.nimm)
    (flag_small s.device.apf))))

payloads-small : (es : List ListRequest) → All OfSmall es → All IsByte (payloads es)
unfolding payloads
payloads-small [] h = tt
payloads-small (e ∷ es) h = all_append IsByte e.payload (payloads es) h.0 (payloads-small es h.1)

-- four bytes of a number, then more
word_small : (v : ℕ) (b : List ℕ) → All IsByte b → All IsByte (bytes 4 v ++ b)
word_small v b h = all_append IsByte (bytes 4 v) b (bytes_small 4 v) h

table-small : (at : ℕ) (es : List ListRequest) → All IsByte (written_table at es)
unfolding written_table
table-small at [] = tt
table-small at (e ∷ es) =
    word_small at _ (word_small e.group _ (word_small (length e.payload) _ (word_small 0 _ (all_append IsByte (bytes 8 e.attr) _ (bytes_small 8 e.attr) (table-small (at + length e.payload) es)))))

list-small : (ais : Bool) (es : List ListRequest) → All OfSmall es → All IsByte (move_list ais es)
unfolding move_list
list-small ais es h =
    word_small _ _ (word_small _ _ (word_small _ _ (word_small _ _ (word_small _ _ (all_append IsByte (written_table _ es) (payloads es) (table-small _ es) (payloads-small es h))))))

pub by_bytes : (L : Limits) (fits : Movable L) (s : State) (h : Sound L s) → OfBytes s → All LentBytes (reached L fits s h).calls
unfolding reached
by_bytes L fits s h k = (list-small s.ais (list_requests s) (requests-small s h.adapters k), tt)
