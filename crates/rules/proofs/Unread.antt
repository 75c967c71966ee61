-- Payload bytes that paper 01 does not read decide nothing: payloads that agree on the bytes it reads, both long enough, give equal code,
-- count and state, the same written bytes, and leave all their other bytes.
use Prim.Native.Nat.{ℕ, zero, suc, ◌+◌, ◌-◌, ◌*◌, ◌/◌, ◌≤◌, ◌<◌, min}
use mathlib.Core.Path.{◌≡◌, refl, ap, ap₂, fun_ext}
use mathlib.Core.Bool.{Bool, true, false, not, ◌&&◌, ◌||◌, or-true}
use mathlib.Core.List.{List, [], ◌∷◌, ◌++◌}
use native.Mathlib.Omega.{arith}
use native.Mathlib.Decide.{dec_lt}
use lib.ListN.{length, drop, length-take, length-drop, get_or-eq_default}
use lib.Seq.{ext_get_or, get_or-take, get_or-drop}
use lib.Dec.{leb, ltb, eqb}
use borrow.Author.Tests.{leb-true, le-leb, lt-ltb, ne_eqb}
use Rattle.rules.specs.Bytes.{byte, part}
use Rattle.rules.specs.State.{Limits, State, record_bytes, fresh}
use Rattle.rules.specs.Outcome.{Outcome, refuse_with, accept, reset_with, need◌else◌⨾◌, Answer, result}
use Rattle.rules.specs.Requests.{Request, no_request, get_all_irqs, enqueue, clear_irqs, apf_enable, apf_disable_wait, adapter_register, adapter_modify, clear_io_irq, aism, airq_inject, set_aism_all, get_aism_all, set_request, get_request, records_in, adapter_in, request}
use Rattle.rules.specs.Take.{takes}
use Rattle.rules.specs.MoveList.{list_requests, header_bytes, table_entry_bytes, payload_offset, total, writes, count_in, TableEntry, table_entries_in, requests_in, onward, applies, plays}
use Rattle.rules.specs.Machine.{Ask, set_attr, get_attr, guest_take, write_list, play_list, Call, outcome, step, answer_of}

-- 01, 'Request numbers and effects': whether a request looks at the payload byte at a place. Of MODIFY's 16 bytes the last 10 are unread,
-- of AISM's 4 the second.
unfoldable pub reads : Request → ℕ → ℕ → Bool
reads no_request attr i = false
reads get_all_irqs attr i = false
reads enqueue attr i = ltb i attr
reads clear_irqs attr i = false
reads apf_enable attr i = false
reads apf_disable_wait attr i = false
reads adapter_register attr i = ltb i 8
reads adapter_modify attr i = ltb i 6
reads clear_io_irq attr i = ltb i 4
reads aism attr i = ltb i 4 && not (eqb i 1)
reads airq_inject attr i = false
reads set_aism_all attr i = ltb i 2
reads get_aism_all attr i = false

-- 01, 'Codes and the order of checks', code 14: how many payload bytes a request must be lent.
unfoldable pub needs : Request → ℕ → ℕ
needs no_request attr = 0
needs get_all_irqs attr = attr
needs enqueue attr = attr
needs clear_irqs attr = 0
needs apf_enable attr = 0
needs apf_disable_wait attr = 0
needs adapter_register attr = 8
needs adapter_modify attr = 16
needs clear_io_irq attr = 4
needs aism attr = 4
needs airq_inject attr = 0
needs set_aism_all attr = 2
needs get_aism_all attr = 2

-- 01, 'Move list': whether a byte at a place of the list lies in the payload of one of the table's requests that looks at it.
unfoldable pub slots_read : List TableEntry → ℕ → Bool
slots_read [] i = false
slots_read (e ∷ es) i =
    leb e.at i && (ltb i (e.at + e.size) && reads (set_request e.group) e.attr (i - e.at)) || slots_read es i

-- 01, 'Request numbers and effects' and 'Move list': whether a call looks at the byte at a place of its buffer. A take and the writing of a
-- list look at none; playing one looks at header and table, and at what its requests read.
unfoldable pub call_reads : Ask → List ℕ → ℕ → Bool
call_reads (set_attr group attr) b i = reads (set_request group) attr i
call_reads (get_attr group attr) b i = reads (get_request group) attr i
call_reads (guest_take subclasses external_allowed mchk_allowed) b i = false
call_reads write_list b i = false
call_reads play_list b i = ltb i (payload_offset (count_in b)) || slots_read (table_entries_in (count_in b) (drop header_bytes b)) i

-- 01, 'Codes and the order of checks', codes 14 and 12: how many bytes a call must be lent. Of two played lists each must be as long as the
-- other, since a list's length has to be its total.
unfoldable pub call_needs : State → Ask → List ℕ → ℕ
call_needs s (set_attr group attr) other = needs (set_request group) attr
call_needs s (get_attr group attr) other = needs (get_request group) attr
call_needs s (guest_take subclasses external_allowed mchk_allowed) other = record_bytes
call_needs s write_list other = total (list_requests s)
call_needs s play_list other = length other

-- Buffers that have the same byte wherever one is looked at.
abbrev pub Agree : (ℕ → Bool) → List ℕ → List ℕ → Type 0
Agree looked b c = (i : ℕ) → looked i ≡ true → byte i b ≡ byte i c

-- Calls that ask the same, lent tables of one length and buffers that are long enough and agree on what is read.
pub record Alike (s : State) (c d : Call) : Type 0 where
  pub ask : c.ask ≡ d.ask
  pub table : c.table_length ≡ d.table_length
  pub first_lent : call_needs s c.ask d.buffer ≤ length c.buffer
  pub second_lent : call_needs s c.ask c.buffer ≤ length d.buffer
  pub agree : Agree (call_reads c.ask c.buffer) c.buffer d.buffer

-- Answers of equal code, count, further number and state, with the same bytes written from the start of each buffer, whose other bytes are left.
pub record SameAnswer (b c : List ℕ) (x y : Answer State) : Type 0 where
  pub code : x.code ≡ y.code
  pub count : x.count ≡ y.count
  pub further : x.further ≡ y.further
  pub next : x.next ≡ y.next
  pub written : List ℕ
  pub first_left : x.buffer ≡ written ++ drop (length written) b
  pub second_left : y.buffer ≡ written ++ drop (length written) c

-- Lists that are the same from one place up to another: both reach as far, and have the same bytes there.
record Same (from to : ℕ) (b c : List ℕ) : Type 0 where
  reach : min to (length b) ≡ min to (length c)
  bytes : (i : ℕ) → from ≤ i → i < to → byte i b ≡ byte i c

part_at : (at n : ℕ) (b : List ℕ) (i : ℕ) → i < n → byte i (part at n b) ≡ byte (at + i) b
part_at at n b i p = rw (get_or-take n (drop at b), get_or-drop at b)

part-past : (at n : ℕ) (b : List ℕ) (i : ℕ) → n ≤ i → byte i (part at n b) ≡ 0
part-past at n b i p = get_or-eq_default (part at n b) 0 (simp length-take (omega arith))

part_same : {from to : ℕ} {b c : List ℕ} → Same from to b c → (at n : ℕ) → (from ≤ at) × (at + n ≤ to) → part at n b ≡ part at n c
part_same {b} {c} S at n p =
    ext_get_or 0 (part at n b) (part at n c) (simp (length-take, length-drop) (omega arith))
    (λ i q.
    let hi : i < n = omega (arith, simp length-take at q) in
    rw (part_at at n b, part_at at n c) (S.bytes (at + i) (omega arith) (omega arith)))

drop-same : {from to : ℕ} {b c : List ℕ} → Same from to b c → (at n : ℕ) → (from ≤ at) × (at + n ≤ to) → Same 0 n (drop at b) (drop at c)
drop-same {b} {c} S at n p =
    record {
      reach = simp length-drop (omega arith);
      bytes = λ i lo hi. rw (get_or-drop at b, get_or-drop at c) (S.bytes (at + i) (omega arith) (omega arith));
    }

records-same : (n : ℕ) {to : ℕ} {b c : List ℕ} → Same 0 to b c → record_bytes * n ≤ to → records_in n b ≡ records_in n c
unfolding records_in
records-same zero S p = refl
records-same (suc n) S p =
    ap₂ ◌∷◌ (part_same S 0 record_bytes (omega arith)) (records-same n (drop-same S record_bytes (record_bytes * n) (omega arith)) (omega arith))

-- a list's header and its table's entries begin with four numbers of 4 bytes
words_same : {to : ℕ} {b c : List ℕ} → Same 0 to b c → 16 ≤ to
    → (part 0 4 b ≡ part 0 4 c) × (part 4 4 b ≡ part 4 4 c) × (part 8 4 b ≡ part 8 4 c) × (part 12 4 b ≡ part 12 4 c)
words_same S p = (part_same S 0 4 (omega arith), part_same S 4 4 (omega arith), part_same S 8 4 (omega arith), part_same S 12 4 (omega arith))

slots_same : (n : ℕ) {to : ℕ} {b c : List ℕ} → Same 0 to b c → table_entry_bytes * n ≤ to → table_entries_in n b ≡ table_entries_in n c
unfolding table_entries_in
slots_same zero S p = refl
slots_same (suc n) S p =
    let words = words_same S (omega arith) in
    cc (part_same S 16 8 (omega arith), slots_same n (drop-same S table_entry_bytes (table_entry_bytes * n) (omega arith)) (omega arith))

-- A check, and what comes after it; the check of the lent length, which both pass or neither does.
check-same : (t : Bool) (code : ℕ) (x y : Outcome State) → (t ≡ true → x ≡ y) → (need t else code ⨾ x) ≡ (need t else code ⨾ y)
unfolding need◌else◌⨾◌
check-same true code x y h = h refl
check-same false code x y h = refl

lent_same : (n code : ℕ) (b c : List ℕ) (x y : Outcome State) → leb n (length b) ≡ leb n (length c) → (n ≤ length b → n ≤ length c → x ≡ y)
    → (need leb n (length b) else code ⨾ x) ≡ (need leb n (length c) else code ⨾ y)
lent_same n code b c x y e h = rw (← e) (check-same _ code x y (λ t. h (leb-true n (length b) t) (leb-true n (length c) (cc))))

long-enough : {n m k : ℕ} → n ≤ m → n ≤ k → leb n m ≡ leb n k
long-enough {n} {m} {k} p q = rw (le-leb n m p, le-leb n k q)

start-same : (k : ℕ) (b c : List ℕ) → k ≤ length b → k ≤ length c → Agree (λ i. ltb i k) b c → Same 0 k b c
start-same k b c p q h = record { reach = omega arith; bytes = λ i lo hi. h i (lt-ltb i k hi) }

-- One request. Payloads that are both too short are refused alike, as a played list's may be.
request-same : (L : Limits) (s : State) (q : Request) (attr : ℕ) (b c : List ℕ) → leb (needs q attr) (length b) ≡ leb (needs q attr) (length c)
    → Agree (reads q attr) b c → request L s q attr b ≡ request L s q attr c
unfolding request reads needs adapter_in
request-same L s no_request attr b c e h = refl
request-same L s get_all_irqs attr b c e h = rw e
request-same L s enqueue attr b c e h =
    ap (need◌else◌⨾◌ _ _) (lent_same attr _ b c _ _ e λ p q.
    cc (records-same (attr / record_bytes) (start-same attr b c p q h) (omega arith)))
request-same L s clear_irqs attr b c e h = refl
request-same L s apf_enable attr b c e h = refl
request-same L s apf_disable_wait attr b c e h = refl
request-same L s adapter_register attr b c e h =
    ap (need◌else◌⨾◌ _ _) (lent_same 8 _ b c _ _ e λ p q.
    cc (part_same (start-same 8 b c p q h) 0 4 (omega arith), h 4 refl, h 5 refl, h 6 refl, h 7 refl))
request-same L s adapter_modify attr b c e h =
    ap (need◌else◌⨾◌ _ _) (lent_same 16 _ b c _ _ e λ p q.
    cc (part_same (start-same 6 b c (omega arith) (omega arith) h) 0 4 (omega arith), h 4 refl, h 5 refl))
request-same L s clear_io_irq attr b c e h =
    ap (need◌else◌⨾◌ _ _) (lent_same 4 _ b c _ _ e λ p q.
    let S = start-same 4 b c p q h in
    cc (part_same S 0 2 (omega arith), part_same S 2 2 (omega arith)))
request-same L s aism attr b c e h =
    ap (need◌else◌⨾◌ _ _) (ap (need◌else◌⨾◌ _ _) (lent_same 4 _ b c _ _ e λ p q.
    let read : (i : ℕ) → 2 ≤ i → i < 4 → reads aism attr i ≡ true = λ i lo hi. rw (lt-ltb i 4 hi, ne_eqb i 1 (omega arith)) in
    let mode : Same 2 4 b c = record { reach = omega arith; bytes = λ i lo hi. h i (read i lo hi) } in
    cc (h 0 refl, part_same mode 2 2 (omega arith))))
request-same L s airq_inject attr b c e h = refl
request-same L s set_aism_all attr b c e h = rw (e, h 0 refl, h 1 refl)
request-same L s get_aism_all attr b c e h = rw e

pub request-unread : (L : Limits) (s : State) (q : Request) (attr : ℕ) (b c : List ℕ) → needs q attr ≤ length b → needs q attr ≤ length c
    → Agree (reads q attr) b c → request L s q attr b ≡ request L s q attr c
request-unread L s q attr b c m n h = request-same L s q attr b c (long-enough m n) h

-- A played list: the payload of a request, the requests in order, the whole.
payload_same : (x : TableEntry) (es : List TableEntry) (b c : List ℕ) → Agree (slots_read (x ∷ es)) b c
    → Agree (reads (set_request x.group) x.attr) (part x.at x.size b) (part x.at x.size c)
unfolding slots_read
payload_same x es b c h i r = elim (dec_lt i x.size) [
  | yes p ↦
      let back : x.at + i - x.at ≡ i = omega arith in
      rw (part_at x.at x.size b, part_at x.at x.size c)
      (h (x.at + i) (rw (le-leb x.at (x.at + i) (omega arith), lt-ltb (x.at + i) (x.at + x.size) (omega arith), back, r)))
  | no p ↦ rw (part-past x.at x.size b i (omega arith), part-past x.at x.size c i (omega arith))
]

applies-same : (L : Limits) (b c : List ℕ) → length b ≡ length c → (es : List TableEntry) → Agree (slots_read es) b c → (place : ℕ) (s : State)
    → applies L place s (requests_in b es) ≡ applies L place s (requests_in c es)
unfolding applies requests_in slots_read
applies-same L b c e [] h place s = refl
applies-same L b c e (x ∷ es) h place s =
    ap₂ (λ o rest. onward o place rest)
    (request-same L s (set_request x.group) x.attr _ _ (simp (length-take, length-drop, e)) (payload_same x es b c h))
    (fun_ext λ t. applies-same L b c e es (λ i r. h i (rw (r, or-true))) (suc place) t)

plays-same : (L : Limits) (s : State) (b c : List ℕ) → length b ≡ length c → Agree (call_reads play_list b) b c → plays L s b ≡ plays L s c
unfolding plays call_reads
plays-same L s b c e h =
    let S : Same 0 (payload_offset (count_in b)) b c = record { reach = rw e; bytes = λ i lo hi. h i (rw (lt-ltb i _ hi)) } in
    let words = words_same S (omega arith) in
    cc (
      part_same S 16 4 (omega arith),
      slots_same (count_in b) (drop-same S header_bytes (table_entry_bytes * count_in b) (omega arith)) (omega arith),
      applies-same L b c e (table_entries_in (count_in b) (drop header_bytes b)) (λ i r. h i (rw (r, or-true))) 0 (fresh L s.ais),
    )

outcome-same : (L : Limits) (s : State) (ask : Ask) (table : ℕ) (b c : List ℕ) → call_needs s ask c ≤ length b → call_needs s ask b ≤ length c
    → Agree (call_reads ask b) b c → outcome L s ask table b ≡ outcome L s ask table c
unfolding outcome call_reads call_needs takes writes
outcome-same L s (set_attr group attr) table b c m n h = ap (need◌else◌⨾◌ _ _) (request-unread L s (set_request group) attr b c m n h)
outcome-same L s (get_attr group attr) table b c m n h = ap (need◌else◌⨾◌ _ _) (request-unread L s (get_request group) attr b c m n h)
outcome-same L s (guest_take subclasses external_allowed mchk_allowed) table b c m n h = rw (long-enough m n)
outcome-same L s write_list table b c m n h = rw (long-enough m n)
outcome-same L s play_list table b c m n h = ap (need◌else◌⨾◌ _ _) (plays-same L s b c (omega arith) h)

-- An outcome, given to each of two buffers.
result-same : (L : Limits) (s : State) (b c : List ℕ) (o : Outcome State) → SameAnswer b c (answer_of L s b o) (answer_of L s c o)
unfolding result
result-same L s b c (refuse_with code count) = record { code = refl; count = refl; further = refl; next = refl; written = []; first_left = refl; second_left = refl }
result-same L s b c (accept count next w) = record { code = refl; count = refl; further = refl; next = refl; written = w; first_left = refl; second_left = refl }
result-same L s b c (reset_with code place further) = record { code = refl; count = refl; further = refl; next = refl; written = []; first_left = refl; second_left = refl }

pub unread : (L : Limits) (s : State) (c d : Call) → Alike s c d → SameAnswer c.buffer d.buffer (step L s c) (step L s d)
unfolding step
unread L s c d h =
    rw (← h.ask, ← h.table, ← (outcome-same L s c.ask c.table_length c.buffer d.buffer h.first_lent h.second_lent h.agree))
    (result-same L s c.buffer d.buffer _)
