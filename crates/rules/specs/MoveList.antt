-- Paper 01, 'Move list'. Its codes are from 'Codes and the order of checks'.
use Rattle.std.specs.Prelude.{ℕ, zero, suc, ◌+◌, ◌*◌, Bool, true, false, ◌&&◌, ◌||◌, length, drop, replicate, leb, eqb}
use mathlib.Core.List.{List, [], ◌∷◌, ◌++◌, flatten}
use Rattle.rules.specs.Bytes.{choose, bytes, part, field}
use Rattle.rules.specs.State.{Limits, Adapter, Place, free, holds, Record, record_bytes, State, fresh, listing}
use Rattle.rules.specs.Outcome.{EINVAL, EOPNOTSUPP, EFAULT, ENOMEM, E2BIG}
use Rattle.rules.specs.Outcome.{Outcome, refuse_with, accept, reset_with, reset, need◌else◌⨾◌}
use Rattle.rules.specs.Requests.{is_zero, non_zero, set_request, request}

-- A request of a list with its payload. It is always a set.
pub record ListRequest : Type 0 where
  pub group : ℕ
  pub attr : ℕ
  pub payload : List ℕ

-- 1 for true and 0 for false.
abbrev pub one_if : Bool → ℕ
one_if true = 1
one_if false = 0

-- What f gives for each adapter, by rising id; the first place of the list has the id given.
unfoldable pub by_rising_id : (ℕ → Adapter → List ListRequest) → ℕ → List Place → List ListRequest
by_rising_id f id [] = []
by_rising_id f id (free ∷ ps) = by_rising_id f (suc id) ps
by_rising_id f id (holds x ∷ ps) = f id x ++ by_rising_id f (suc id) ps

-- Written first: REGISTER for each adapter by rising id (bytes 0 or 1).
unfoldable pub register_request : ℕ → Adapter → List ListRequest
register_request id x =
    record {
      group = 6;
      attr = 0;
      payload = bytes 4 id ++ (x.isc ∷ one_if x.maskable ∷ one_if x.swap ∷ one_if x.suppressible ∷ []);
    } ∷ []

-- Written second: MODIFY type 1 for each masked adapter by rising id (mask 1, unread bytes 0).
unfoldable pub modify_request : ℕ → Adapter → List ListRequest
modify_request id x =
    choose x.masked (record { group = 7; attr = 0; payload = bytes 4 id ++ (1 ∷ 1 ∷ replicate 10 0) } ∷ []) []

-- Written third: one ENQUEUE of the whole listing, if any. Its attribute is the length; the other requests have 0.
unfoldable pub enqueue_request : List Record → List ListRequest
enqueue_request [] = []
enqueue_request (r ∷ rs) = record { group = 2; attr = record_bytes * length (r ∷ rs); payload = flatten (r ∷ rs) } ∷ []

-- Written fourth: AISM_ALL, if capable and a mask is not 0.
unfoldable pub aism_all_request : Bool → ℕ → ℕ → List ListRequest
aism_all_request ais simm nimm =
    choose (ais && (non_zero simm || non_zero nimm))
    (record { group = 11; attr = 0; payload = simm ∷ nimm ∷ [] } ∷ []) []

-- Written last: APF_ENABLE, if the page-fault flag is on.
unfoldable pub apf_request : Bool → List ListRequest
apf_request true = record { group = 4; attr = 0; payload = [] } ∷ []
apf_request false = []

-- The requests that are written, in order.
unfoldable pub list_requests : State → List ListRequest
list_requests s =
    by_rising_id register_request 0 s.adapters
    ++ (by_rising_id modify_request 0 s.adapters
    ++ (enqueue_request (listing s.pending)
    ++ (aism_all_request s.ais s.device.simm s.device.nimm ++ apf_request s.device.apf)))

-- The header has five 4-byte numbers: total length, request count, table offset (20), payload offset (20 + 24 x count),
-- flag (AIS capability 0 or 1). A table entry has 24 bytes: payload offset, group, payload length, zero (4 each),
-- attribute (8). The payloads follow without gaps in table order, the last ending at the total.
abbrev pub header_bytes : ℕ
header_bytes = 20

abbrev pub table_entry_bytes : ℕ
table_entry_bytes = 24

-- The bytes of all payloads.
unfoldable pub payloads : List ListRequest → List ℕ
payloads [] = []
payloads (e ∷ es) = e.payload ++ payloads es

-- The bytes of the table. The first payload is at the offset given.
unfoldable pub written_table : ℕ → List ListRequest → List ℕ
written_table at [] = []
written_table at (e ∷ es) =
    bytes 4 at ++ (bytes 4 e.group ++ (bytes 4 (length e.payload) ++ (bytes 4 0 ++ (bytes 8 e.attr
    ++ written_table (at + length e.payload) es))))

-- The payload offset of a list of so many requests.
abbrev pub payload_offset : ℕ → ℕ
payload_offset count = header_bytes + table_entry_bytes * count

-- The total length of a list of these requests.
abbrev pub total : List ListRequest → ℕ
total es = payload_offset (length es) + length (payloads es)

-- The bytes of a move list: header, table, payloads.
unfoldable pub move_list : Bool → List ListRequest → List ℕ
move_list ais es =
    bytes 4 (total es) ++ (bytes 4 (length es) ++ (bytes 4 header_bytes
    ++ (bytes 4 (payload_offset (length es)) ++ (bytes 4 (one_if ais)
    ++ (written_table (payload_offset (length es)) es ++ payloads es)))))

-- Writing: the list is written from the buffer's start; count: its length. Bytes after it stay. 12 where the buffer is
-- too short, also below 20 bytes.
unfoldable pub writes : State → List ℕ → Outcome State
writes s b =
    need leb (total (list_requests s)) (length b) else ENOMEM ⨾
    accept (total (list_requests s)) s (move_list s.ais (list_requests s))

-- A played list. The header's numbers as they stand: total length, request count, table offset, payload offset, flag.
abbrev pub total_in : List ℕ → ℕ
total_in b = field 0 4 b

abbrev pub count_in : List ℕ → ℕ
count_in b = field 4 4 b

abbrev pub table_offset_in : List ℕ → ℕ
table_offset_in b = field 8 4 b

abbrev pub payload_offset_in : List ℕ → ℕ
payload_offset_in b = field 12 4 b

abbrev pub ais_flag_in : List ℕ → ℕ
ais_flag_in b = field 16 4 b

-- A table entry as it stands: payload offset, group, payload length, zero word, attribute.
pub record TableEntry : Type 0 where
  pub at : ℕ
  pub group : ℕ
  pub size : ℕ
  pub zero_word : ℕ
  pub attr : ℕ

abbrev pub table_entry_in : List ℕ → TableEntry
table_entry_in b =
    record { at = field 0 4 b; group = field 4 4 b; size = field 8 4 b; zero_word = field 12 4 b; attr = field 16 8 b }

-- So many table entries.
unfoldable pub table_entries_in : ℕ → List ℕ → List TableEntry
table_entries_in zero b = []
table_entries_in (suc n) b = table_entry_in b ∷ table_entries_in n (drop table_entry_bytes b)

-- The groups that a list may hold: 2, 4, 6, 7 and 11, each as a set.
abbrev pub movable : ℕ → Bool
movable group = eqb group 2 || (eqb group 4 || (eqb group 6 || (eqb group 7 || eqb group 11)))

-- The form of the table. In each entry the payload starts where the one before ended, the zero word is 0, and the group
-- is one that a list may hold. The last payload ends at the end. (A payload that ends past the total is refused by the
-- check of the last end. No offset can wrap, because numbers have no bound.)
unfoldable pub formed : ℕ → ℕ → List TableEntry → Bool
formed end at [] = eqb at end
formed end at (e ∷ es) =
    eqb e.at at && (is_zero e.zero_word && (movable e.group && formed end (at + e.size) es))

-- The requests that well-formed table entries stand for.
unfoldable pub requests_in : List ℕ → List TableEntry → List ListRequest
requests_in b [] = []
requests_in b (e ∷ es) =
    record { group = e.group; attr = e.attr; payload = part e.at e.size b } ∷ requests_in b es

-- The first refused request ends the list, with its code and its place, counted from 0.
unfoldable pub onward : Outcome State → ℕ → (State → Outcome State) → Outcome State
onward (refuse_with code count) place rest = reset code place
onward (accept count next written) place rest = rest next
-- This case does not occur: no request comes to a reset.
onward (reset_with code at further) place rest = reset code place

-- The requests are applied one after another; the first of them has the place given. Count: the number applied.
unfoldable pub applies : Limits → ℕ → State → List ListRequest → Outcome State
applies L place s [] = accept place s []
applies L place s (e ∷ es) =
    onward (request L s (set_request e.group) e.attr e.payload) place (λ t. applies L (suc place) t es)

-- The most requests of a played list: 64 REGISTER, 64 MODIFY, and one each of ENQUEUE, AISM_ALL and APF_ENABLE are
-- 64 + 64 + 3. It is a number of its own and does not follow the limits.
abbrev pub most_requests : ℕ
most_requests = 131

-- Playing a list. Checked in order: 20 bytes there (14); total equals lent length (22); flag 0 or 1 (22); count (7);
-- both offsets, the payload offset not above the total (22); entry by entry and last end (22); capability (95). Then
-- the controller is made fresh and the requests are applied.
unfoldable pub plays : Limits → State → List ℕ → Outcome State
plays L s b =
    need leb header_bytes (length b) else EFAULT ⨾
    need eqb (total_in b) (length b) else EINVAL ⨾
    need leb (ais_flag_in b) 1 else EINVAL ⨾
    need leb (count_in b) most_requests else E2BIG ⨾
    need eqb (table_offset_in b) header_bytes && (eqb (payload_offset_in b) (payload_offset (count_in b))
    && leb (payload_offset_in b) (length b)) else EINVAL ⨾
    need formed (length b) (payload_offset_in b) (table_entries_in (count_in b) (drop header_bytes b)) else EINVAL ⨾
    need eqb (ais_flag_in b) (one_if s.ais) else EOPNOTSUPP ⨾
    applies L 0 (fresh L s.ais) (requests_in b (table_entries_in (count_in b) (drop header_bytes b)))
