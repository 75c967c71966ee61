-- Paper 01, 'Request numbers and effects', with the checks of 'Codes and the order of checks' that come after the check
-- of the adapter table. Comments say what a group does and then, as the paper's table does, its count. Source document
-- 000 decides what each group means. It is named where it says something that paper 01 does not repeat.
use Rattle.std.specs.Prelude.{ℕ, zero, suc, ◌+◌, ◌*◌, ◌/◌, ◌%◌, ◌^◌, Bool, true, false, not, ◌&&◌, ◌||◌, length}
use Rattle.std.specs.Prelude.{get_or, take, drop, replicate, leb, ltb, eqb}
use mathlib.Core.Option.{Option, none, some}
use mathlib.Core.List.{List, [], ◌∷◌, ◌++◌, flatten}
use Rattle.rules.specs.Bytes.{choose, bytes, byte, field}
use Rattle.rules.specs.State.{Limits, Adapter, Place, free, holds, Record, record_bytes, State, nothing}
use Rattle.rules.specs.State.{with_pending, with_device, with_adapter, has_bit, with_bit, without_bit, Kind, kind}
use Rattle.rules.specs.State.{subchannel_id, subchannel_number, add_io, add_all, queued, listing}
use Rattle.rules.specs.Outcome.{EINVAL, EOPNOTSUPP, EFAULT, ENOMEM, EBUSY}
use Rattle.rules.specs.Outcome.{Outcome, refuse, accept, need◌else◌⨾◌, present◌else◌⨾◌}

-- The requests, by group number and direction. A group that is unknown, or whose direction (set or get) is wrong for
-- it, is no request.
pub data Request : Type 0 where
  no_request get_all_irqs enqueue clear_irqs apf_enable apf_disable_wait adapter_register adapter_modify : Request
  clear_io_irq aism airq_inject set_aism_all get_aism_all : Request

-- What is asked by a set of group 0, 1, 2 and so on.
abbrev pub set_groups : List Request
set_groups =
    no_request  -- 0
    ∷ no_request  -- 1
    ∷ enqueue  -- 2 ENQUEUE
    ∷ clear_irqs  -- 3 CLEAR_IRQS
    ∷ apf_enable  -- 4 APF_ENABLE
    ∷ apf_disable_wait  -- 5 APF_DISABLE_WAIT
    ∷ adapter_register  -- 6 ADAPTER_REGISTER
    ∷ adapter_modify  -- 7 ADAPTER_MODIFY
    ∷ clear_io_irq  -- 8 CLEAR_IO_IRQ
    ∷ aism  -- 9 AISM
    ∷ airq_inject  -- 10 AIRQ_INJECT
    ∷ set_aism_all  -- 11 AISM_ALL
    ∷ []

-- What is asked by a get of group 0, 1, 2 and so on.
abbrev pub get_groups : List Request
get_groups =
    no_request  -- 0
    ∷ get_all_irqs  -- 1 GET_ALL_IRQS
    ∷ no_request  -- 2
    ∷ no_request  -- 3
    ∷ no_request  -- 4
    ∷ no_request  -- 5
    ∷ no_request  -- 6
    ∷ no_request  -- 7
    ∷ no_request  -- 8
    ∷ no_request  -- 9
    ∷ no_request  -- 10
    ∷ get_aism_all  -- 11 AISM_ALL
    ∷ []

abbrev pub set_request : ℕ → Request
set_request group = get_or set_groups group no_request

abbrev pub get_request : ℕ → Request
get_request group = get_or get_groups group no_request

-- The longest ENQUEUE that is not refused with 22: 258 records of 72 bytes (256 for the queues, a service record and a
-- machine check). It is a number of its own and does not follow the limits.
abbrev pub enqueue_bytes : ℕ
enqueue_bytes = 18576

abbrev pub is_zero : ℕ → Bool
is_zero n = eqb n 0

abbrev pub non_zero : ℕ → Bool
non_zero n = not (eqb n 0)

-- 1 GET_ALL_IRQS: the listing is written; count: records written. All interrupts remain pending (000). 12 where the
-- listing is longer than the claimed length. (The attribute of groups 1, 2 and 8 is the claimed length.)
unfoldable pub gets_all : State → ℕ → Outcome State
gets_all s claimed =
    need leb (record_bytes * length (listing s.pending)) claimed else ENOMEM ⨾
    accept (length (listing s.pending)) s (flatten (listing s.pending))

-- For 2 ENQUEUE: the first n records of a payload.
unfoldable pub records_in : ℕ → List ℕ → List Record
records_in zero b = []
records_in (suc n) b = take record_bytes b ∷ records_in n (drop record_bytes b)

-- Whether records of a kind are accepted.
unfoldable pub kind_accepted : Kind → Bool
kind_accepted Kind.io = true
kind_accepted Kind.done = true
kind_accepted Kind.service = true
kind_accepted Kind.mchk = true
kind_accepted Kind.other = false

unfoldable pub all_accepted : List Record → Bool
all_accepted [] = true
all_accepted (r ∷ rs) = kind_accepted (kind r) && all_accepted rs

-- How much of the nine queues' room a record takes. A service record and a machine check take none.
unfoldable pub wants : Kind → ℕ
wants Kind.io = 1
wants Kind.done = 1
wants Kind.service = 0
wants Kind.mchk = 0
wants Kind.other = 0

unfoldable pub all_want : List Record → ℕ
all_want [] = 0
all_want (r ∷ rs) = wants (kind r) + all_want rs

-- 2 ENQUEUE: all records are added in order; count: records given. Every record is checked before room, and all are
-- added or none. `queued` is what the queues hold now, so room freed by a take or a clear is usable at once.
unfoldable pub enqueues : Limits → State → List Record → Outcome State
enqueues L s rs =
    need all_accepted rs else EINVAL ⨾
    need leb (queued s.pending + all_want rs) L.room else EBUSY ⨾
    accept (length rs) (with_pending (add_all rs s.pending) s) []

-- 3 CLEAR_IRQS: nothing is pending any more; count: records removed. Adapters, masks and page-fault flag stay.
unfoldable pub clears : State → Outcome State
clears s = accept (length (listing s.pending)) (with_pending nothing s) []

-- 4 APF_ENABLE turns the page-fault flag on, 5 APF_DISABLE_WAIT turns it off; count: 0.
unfoldable pub sets_apf : State → Bool → Outcome State
sets_apf s on = accept 0 (with_device (record { simm = s.device.simm; nimm = s.device.nimm; apf = on }) s) []

-- The adapter place of an id.
abbrev pub place_of : State → ℕ → Place
place_of s id = get_or s.adapters id free

-- The adapter of an id, where its place holds one.
abbrev pub holding : Place → Option Adapter
holding free = none
holding (holds x) = some x

abbrev pub adapter_at : State → ℕ → Option Adapter
adapter_at s id = holding (place_of s id)

abbrev pub is_free : Place → Bool
is_free free = true
is_free (holds x) = false

-- 6 ADAPTER_REGISTER: an unmasked adapter; count: 0. Refused: id above 63, id in use, isc above 7.
unfoldable pub registers : Limits → State → ℕ → Adapter → Outcome State
registers L s id x =
    need ltb id L.places else EINVAL ⨾
    need is_free (place_of s id) else EINVAL ⨾
    need leb x.isc 7 else EINVAL ⨾
    accept 0 (with_adapter id x s) []

-- REGISTER's payload: id (4), isc, maskable, swap, flags. Any non-zero maskable or swap means yes. The bit of value 1
-- of the flags byte means suppressible; the others are ignored (000) and not kept.
unfoldable pub adapter_in : List ℕ → Adapter
adapter_in b =
    record {
      isc = byte 4 b;
      maskable = non_zero (byte 5 b);
      swap = non_zero (byte 6 b);
      suppressible = eqb (byte 7 b % 2) 1;
      masked = false;
    }

-- The adapter, masked or unmasked.
abbrev pub with_mask : Bool → Adapter → Adapter
with_mask on x =
    record { isc = x.isc; maskable = x.maskable; swap = x.swap; suppressible = x.suppressible; masked = on }

-- 7 ADAPTER_MODIFY: type 1 masks (mask not 0) or unmasks; types 2 and 3 (MAP, UNMAP) do nothing (000); count: 0.
-- Refused: id above 63, free id, type not 1 to 3, type 1 on an unmaskable adapter.
unfoldable pub modifies : Limits → State → ℕ → ℕ → Bool → Outcome State
modifies L s id type on =
    need ltb id L.places else EINVAL ⨾
    present adapter_at s id else EINVAL ⨾ λ x.
    need leb 1 type && leb type 3 else EINVAL ⨾
    need not (eqb type 1) || x.maskable else EINVAL ⨾
    accept 0 (choose (eqb type 1) (with_adapter id (with_mask on x) s) s) []

-- For 8 CLEAR_IO_IRQ: whether an I/O record has both this subchannel id and this number.
abbrev pub is_for : ℕ → ℕ → Record → Bool
is_for id nr r = eqb (subchannel_id r) id && eqb (subchannel_number r) nr

-- The list with a in front, where there is a list.
abbrev pub cons_to {ℓ} : {A : Type ℓ} → A → Option (List A) → Option (List A)
cons_to a none = none
cons_to a (some l) = some (a ∷ l)

-- A queue without its first record of which f holds; `none` where there is no such record.
unfoldable pub without : (Record → Bool) → List Record → Option (List Record)
without f [] = none
without f (r ∷ q) = choose (f r) (some q) (cons_to r (without f q))

-- The queues q ∷ qs after a removal. If the record was in q: the shortened queue, then qs. Otherwise: q, then the
-- result for qs (later).
abbrev pub or_in : Option (List Record) → List Record → List (List Record) → Option (List (List Record))
    → Option (List (List Record))
or_in none q qs later = cons_to q later
or_in (some q') q qs later = some (q' ∷ qs)

-- The queues without the first record, in listing order, of which f holds; `none` where there is no such record.
unfoldable pub without_first : (Record → Bool) → List (List Record) → Option (List (List Record))
without_first f [] = none
without_first f (q ∷ qs) = or_in (without f q) q qs (without_first f qs)

-- What CLEAR_IO_IRQ comes to, given the I/O queues without the record. `none`: there is no such record, and nothing
-- changes.
unfoldable pub removes : State → Option (List (List Record)) → Outcome State
removes s none = accept 0 s []
removes s (some qs) =
    accept 1
    (with_pending (record { io = qs; done = s.pending.done; service = s.pending.service; mchk = s.pending.mchk }) s)
    []

-- 8 CLEAR_IO_IRQ: the first I/O record in listing order that has both subchannel id and number is removed; count: 0 or
-- 1. None: code 0, count 0. Word 0, which is id 0 and number 0, is refused (000, last note).
unfoldable pub clears_io : State → ℕ → ℕ → Outcome State
clears_io s id nr =
    need not (is_zero id && is_zero nr) else EINVAL ⨾
    removes s (without_first (is_for id nr) s.pending.io)

-- The state with other masks.
abbrev pub with_masks : ℕ → ℕ → State → State
with_masks simm nimm s = with_device (record { simm = simm; nimm = nimm; apf = s.device.apf }) s

-- 9 AISM: the mode of one subclass; count: 0. Mode 0 (ALL) clears both bits; mode 1 (SINGLE) sets the simm bit and
-- clears the nimm bit. Refused: isc above 7, mode not 0 or 1.
unfoldable pub sets_mode : State → ℕ → ℕ → Outcome State
sets_mode s isc mode =
    need leb isc 7 else EINVAL ⨾
    need leb mode 1 else EINVAL ⨾
    accept 0 (with_masks (choose (eqb mode 0) (without_bit isc s.device.simm) (with_bit isc s.device.simm))
    (without_bit isc s.device.nimm) s) []

-- For 10 AIRQ_INJECT: there is AIS capability, the adapter is suppressible, and the bit of its subclass is set in a
-- mask.
abbrev pub under_ais : State → Adapter → ℕ → Bool
under_ais s x mask = s.ais && (x.suppressible && has_bit x.isc mask)

-- The record of an adapter interrupt: type 0x04000000, subchannel id, number and parameter 0, word 0x80000000 +
-- subclass x 2^27, rest 0.
abbrev pub adapter_interrupt : ℕ → Record
adapter_interrupt isc =
    bytes 8 0x04000000 ++ (bytes 2 0 ++ (bytes 2 0 ++ (bytes 4 0
    ++ (bytes 4 (0x80000000 + isc * 2 ^ 27) ++ replicate 52 0))))

-- The record is appended. Then the nimm bit is set, if there is AIS capability, the adapter is suppressible and the
-- simm bit is set.
unfoldable pub injected : State → Adapter → State
injected s x =
    with_pending (add_io x.isc (adapter_interrupt x.isc) s.pending)
    (with_masks s.device.simm
    (choose (under_ais s x s.device.simm) (with_bit x.isc s.device.nimm) s.device.nimm) s)

-- 10 AIRQ_INJECT: code 0, count 0 and no change, if the adapter is masked, or if there is AIS capability, the adapter
-- is suppressible and its nimm bit is set. Otherwise the record is appended; count: 1. Refused: id above 63, free id;
-- 16 without room.
unfoldable pub injects : Limits → State → ℕ → Outcome State
injects L s id =
    need ltb id L.places else EINVAL ⨾
    present adapter_at s id else EINVAL ⨾ λ x.
    choose (x.masked || under_ais s x s.device.nimm) (accept 0 s [])
    (need ltb (queued s.pending) L.room else EBUSY ⨾ accept 1 (injected s x) [])

-- A request with its attribute and payload. The attribute has 64 bits in the paper and in the code; here it is any
-- number. The order of checks after the adapter table (Machine): group and direction, which is the first clause;
-- attribute zero; 95; claimed length; 14; payload contents in the order of the paper's table (22); then 12 or 16.
unfoldable pub request : Limits → State → Request → ℕ → List ℕ → Outcome State
request L s no_request attr b = refuse EINVAL
-- 1 GET_ALL_IRQS: the claimed length has no upper bound and need not be a multiple of 72.
request L s get_all_irqs attr b =
    need non_zero attr else EINVAL ⨾
    need leb attr (length b) else EFAULT ⨾
    gets_all s attr
-- 2 ENQUEUE: bytes past the claimed length are not read.
request L s enqueue attr b =
    need non_zero attr && (leb attr enqueue_bytes && is_zero (attr % record_bytes)) else EINVAL ⨾
    need leb attr (length b) else EFAULT ⨾
    enqueues L s (records_in (attr / record_bytes) b)
-- 3, 4, 5 and 10 read no payload and accept any.
request L s clear_irqs attr b =
    need is_zero attr else EINVAL ⨾
    clears s
request L s apf_enable attr b =
    need is_zero attr else EINVAL ⨾
    sets_apf s true
request L s apf_disable_wait attr b =
    need is_zero attr else EINVAL ⨾
    sets_apf s false
-- 6 ADAPTER_REGISTER: id (4), then what `adapter_in` reads.
request L s adapter_register attr b =
    need is_zero attr else EINVAL ⨾
    need leb 8 (length b) else EFAULT ⨾
    registers L s (field 0 4 b) (adapter_in b)
-- 7 ADAPTER_MODIFY: id (4), type, mask, 2 and 8 unread bytes.
request L s adapter_modify attr b =
    need is_zero attr else EINVAL ⨾
    need leb 16 (length b) else EFAULT ⨾
    modifies L s (field 0 4 b) (byte 4 b) (non_zero (byte 5 b))
-- 8 CLEAR_IO_IRQ: the word is subchannel id (2) then number (2). The claimed length has no upper bound, and is not
-- compared with what is lent.
request L s clear_io_irq attr b =
    need leb 4 attr else EINVAL ⨾
    need leb 4 (length b) else EFAULT ⨾
    clears_io s (field 0 2 b) (field 2 2 b)
-- 9 AISM: isc, one unread byte, mode (2).
request L s aism attr b =
    need is_zero attr else EINVAL ⨾
    need s.ais else EOPNOTSUPP ⨾
    need leb 4 (length b) else EFAULT ⨾
    sets_mode s (byte 0 b) (field 2 2 b)
-- 10 AIRQ_INJECT: the attribute is the adapter id.
request L s airq_inject attr b =
    injects L s attr
-- 11 AISM_ALL, 2 bytes, simm and nimm: a set stores both, a get writes both; count: 0.
request L s set_aism_all attr b =
    need is_zero attr else EINVAL ⨾
    need s.ais else EOPNOTSUPP ⨾
    need leb 2 (length b) else EFAULT ⨾
    accept 0 (with_masks (byte 0 b) (byte 1 b) s) []
request L s get_aism_all attr b =
    need is_zero attr else EINVAL ⨾
    need s.ais else EOPNOTSUPP ⨾
    need leb 2 (length b) else EFAULT ⨾
    accept 0 s (s.device.simm ∷ s.device.nimm ∷ [])
