-- Laws of the records in given bytes, of the lent memory that they join, and of their check.
use Rattle.numbers.proofs.Basics.{◌≡◌, refl, sym, ap, ◌∙◌, Bool, true, false, ◌&&◌, ◌⊎◌, ⊎_elim, some, List, [], ◌∷◌}
use Rattle.numbers.proofs.Basics.{◌++◌, flatten, ℕ, zero, suc, ◌+◌, ◌-◌, ◌*◌, ◌/◌, ◌%◌, ◌^◌, ◌≤◌, ◌<◌, add-zero}
use Rattle.numbers.proofs.Basics.{add-one, arith, length, take, drop, get_or, set, replicate, length-append, drop-drop}
use Rattle.numbers.proofs.{Basics.take-set-lt, Basics.take-set-le, Basics.get_or-set_same, Basics.get_or-set_other, Basics.get_or-take, Basics.leb, Basics.eq-eqb, Basics.ne_eqb, Basics.le-leb, Basics.lt-leb, Basics.leb-true, Basics.leb-false, Laws.field-part}
use Rattle.rules.specs.{Bytes.choose, Bytes.bytes, Bytes.part, Bytes.field, Outcome.refuse, Outcome.need◌else◌⨾◌}
use Rattle.rules.specs.State as rules
use Rattle.rules.specs.State.{Limits, State, Record, Pending, with_pending, kind, subclass, add_io, add_as, add, add_all, first_or, merged_or, queued}
use Rattle.rules.specs.Requests.{records_in, kind_accepted, all_accepted, wants, all_want, enqueue_bytes, enqueue, enqueues, adapter_interrupt, request}
use Rattle.rules.proofs.Checks.{passes, fails}
use Rattle.store_queues.specs.Queues.{total, queues, Held}
use Rattle.store_queues.proofs.Laws.{length-queues, flatten-queues, length-flatten-queues}
use Rattle.store_singles.specs.Singles.{service_of, mchk_of}
use Rattle.numbers.specs.declared.Subclass.{Subclass}
use Rattle.numbers.proofs.Basics.{subst}
use Rattle.std.specs.Prelude.{Result, Ok, Err}
use Rattle.answers.specs.{declared.Refusal.Refusal, declared.Refusal.TheVariants.Busy, Answers.Answers, Answers.as_answer, Answers.code_of}
use Rattle.answers.proofs.Laws.{refuses, accepts}
use Rattle.record_add.specs.{declared.Kind.Kind, declared.Kind.TheVariants.Io, declared.Kind.TheVariants.Done, declared.Kind.TheVariants.Service, declared.Kind.TheVariants.MachineCheck, declared.Kind.TheVariants.Other, declared.BadRecord.BadRecord, Cases.as_case, Cases.kind_case, Cases.check_from, Cases.answer_to}
use Rattle.store.specs.Memory.{pending_of}

-- ---- a record within bytes
pub kind-at-is : (at t : ℕ) (b : List ℕ) → t ≡ field at 8 b → kind (part at 72 b) ≡ rules.kind_of t
unfolding kind
kind-at-is at t b e = rw (field-part 0 8 72 at b (omega arith), add-zero, e)

-- the rules' kind that a case stands for
abbrev pub kind_for : Kind → rules.Kind
kind_for (Io isc) = rules.Kind.io
kind_for Done = rules.Kind.done
kind_for Service = rules.Kind.service
kind_for MachineCheck = rules.Kind.mchk
kind_for Other = rules.Kind.other

pub kind-known : (k : rules.Kind) (isc : ℕ) (r : Kind) → r ≡ as_case k isc → k ≡ kind_for r
unfolding as_case
kind-known rules.Kind.io isc r e = rw e
kind-known rules.Kind.done isc r e = rw e
kind-known rules.Kind.service isc r e = rw e
kind-known rules.Kind.mchk isc r e = rw e
kind-known rules.Kind.other isc r e = rw e

-- a case that the code found tells the kind, and of an I/O record the subclass
pub io-told : (r : Record) (k : Kind) (s : Subclass) → k ≡ kind_case r → k ≡ Io s → (kind r ≡ rules.Kind.io) × (s.0 ≡ subclass r) × (s.0 < 8)
unfolding as_case subclass
io-told r k s e f =
    let g : kind r ≡ rules.Kind.io = kind-known (kind r) (subclass r) k e ∙ ap kind_for f in
    let m : Io s ≡ Io (record { 0 = subclass r }) = sym f ∙ rw g at e in
    let h : s.0 ≡ subclass r = ap (λ (x : Subclass). x.0) (cc) in
    (g, h, omega arith)

-- a case tells what a record of its kind wants: a place in a queue, or none
pub queue-wants : (k : rules.Kind) (isc : ℕ) (r : Kind) → r ≡ as_case k isc → ((x : Subclass) × (r ≡ Io x)) ⊎ (r ≡ Done)
    → (kind_accepted k ≡ true) × (wants k ≡ 1)
unfolding kind_accepted wants
queue-wants k isc r e h =
    ⊎_elim (λ (p : (x : Subclass) × (r ≡ Io x)). let f : k ≡ kind_for (Io p.0) = kind-known k isc r e ∙ ap kind_for p.1 in (rw f, rw f))
    (λ d. let f : k ≡ kind_for Done = kind-known k isc r e ∙ ap kind_for d in (rw f, rw f)) h

pub single-wants : (k : rules.Kind) (isc : ℕ) (r : Kind) → r ≡ as_case k isc → (r ≡ Service) ⊎ (r ≡ MachineCheck)
    → (kind_accepted k ≡ true) × (wants k ≡ 0)
unfolding kind_accepted wants
single-wants k isc r e h =
    ⊎_elim (λ d. let f : k ≡ kind_for Service = kind-known k isc r e ∙ ap kind_for d in (rw f, rw f))
    (λ d. let f : k ≡ kind_for MachineCheck = kind-known k isc r e ∙ ap kind_for d in (rw f, rw f)) h

-- ---- the records in given bytes: those from place i on
abbrev pub records_from : ℕ → ℕ → List ℕ → List Record
records_from i n b = records_in (n - i) (drop (i * 72) b)

pub records-next : (i n : ℕ) (b : List ℕ) → i < n → records_from i n b ≡ part (i * 72) 72 b ∷ records_from (i + 1) n b
unfolding records_in
records-next i n b h =
    let e : n - i ≡ suc (n - (i + 1)) = omega arith in
    let f : (i + 1) * 72 ≡ i * 72 + 72 = omega arith in
    rw (e, f, ← drop-drop 72 (i * 72) b)

pub records-none : (i n : ℕ) (b : List ℕ) → n ≤ i → records_from i n b ≡ []
unfolding records_in
records-none i n b h =
    let e : n - i ≡ 0 = omega arith in
    rw e

pub length-records : (n : ℕ) (b : List ℕ) → length (records_in n b) ≡ n
unfolding records_in
length-records zero b = refl
length-records (suc n) b = ap suc (length-records n (drop 72 b))

-- ---- the check
-- what a result says of records: whether every one has an accepted type, and how many go to a queue
abbrev pub Says : Bool → ℕ → Result ℕ BadRecord → Type 0
Says accepted n (Ok w) = (accepted ≡ true) × (w ≡ n)
Says accepted n (Err bad) = accepted ≡ false

says-more : (t a : Bool) (m n : ℕ) (x : Result ℕ BadRecord) (bad : BadRecord) → m ≡ n → Says a m x → Says (t && a) n (choose t x (Err bad))
unfolding choose
says-more true a m n (Ok w) bad e h = (h.0, h.1 ∙ e)
says-more true a m n (Err x) bad e h = h
says-more false a m n x bad e h = refl

check-says : (rs : List Record) (place n : ℕ) → Says (all_accepted rs) (n + all_want rs) (check_from place n rs)
unfolding check_from all_accepted all_want
check-says [] place n = (refl, omega arith)
check-says (r ∷ rs) place n =
    says-more (kind_accepted (kind r)) (all_accepted rs) _ _ (check_from (suc place) (n + wants (kind r)) rs) _ (omega arith)
    (check-says rs (suc place) (n + wants (kind r)))

checked : (rs : List Record) (x : Result ℕ BadRecord) → x ≡ check_from 0 0 rs → Says (all_accepted rs) (all_want rs) x
checked rs x e = let z : 0 + all_want rs ≡ all_want rs = omega arith in rw e (rw z at (check-says rs 0 0))

-- what the answer to checked records tells: all are taken and there is room, or the rules refuse them with its code
module _ (rs : List Record) (n q room : ℕ) where
  abbrev pub Told : Result ℕ Refusal → Type 0
  Told (Ok m) = (m ≡ n) × (all_accepted rs ≡ true) × (q + all_want rs ≤ room)
  Told (Err r) = (L : Limits) (s : State) → queued s.pending ≡ q → L.room ≡ room → enqueues L s rs ≡ refuse (code_of r)

  pub told : (x : Result ℕ Refusal) → x ≡ answer_to (check_from 0 0 rs) n q room → Told x
  unfolding choose answer_to enqueues
  told x e = subst Told (sym e) (go (check_from 0 0 rs) (checked rs _ refl))
    where
      by-room : (w : ℕ) → Says (all_accepted rs) (all_want rs) (Ok w) → (t : Bool) → leb (q + w) room ≡ t → Told (choose t (Ok n) (Err Busy))
      by-room w g true k = (refl, g.0, omega (arith, leb-true (q + w) room k, g.1))
      by-room w g false k = λ L s eq er. passes _ _ _ g.0 ∙ fails _ _ _ (lt-leb _ L.room (omega (arith, leb-false (q + w) room k, g.1)))

      go : (x : Result ℕ BadRecord) → Says (all_accepted rs) (all_want rs) x → Told (answer_to x n q room)
      go (Ok w) g = by-room w g (leb (q + w) room) refl
      go (Err bad) g = λ L s eq er. fails _ _ _ g

-- a record wants at most one place
wants-few : (k : rules.Kind) → wants k ≤ 1
unfolding wants
wants-few rules.Kind.io = omega arith
wants-few rules.Kind.done = omega arith
wants-few rules.Kind.service = omega arith
wants-few rules.Kind.mchk = omega arith
wants-few rules.Kind.other = omega arith

pub all-want-few : (rs : List Record) → all_want rs ≤ length rs
unfolding all_want
all-want-few [] = omega arith
all-want-few (r ∷ rs) = omega (arith, wants-few (kind r), all-want-few rs)

pub good-few : (n w : ℕ) (b : List ℕ) → Ok w ≡ check_from 0 0 (records_in n b) → w ≤ n
good-few n w b e = omega (arith, (checked (records_in n b) (Ok w) e).1, all-want-few (records_in n b), length-records n b)

-- a turn of the check, and its ends
module _ (i n w : ℕ) (b : List ℕ) where
  pub check-next : (w' : ℕ) → i < n → kind_accepted (kind (part (i * 72) 72 b)) ≡ true → w' ≡ w + wants (kind (part (i * 72) 72 b))
      → check_from i w (records_from i n b) ≡ check_from (i + 1) w' (records_from (i + 1) n b)
  unfolding check_from choose
  check-next w' h k e = rw (records-next i n b h, k, e, add-one)

  pub check-stops : i < n → kind_accepted (kind (part (i * 72) 72 b)) ≡ false → check_from i w (records_from i n b) ≡ Err (record { at = i })
  unfolding check_from choose
  check-stops h k = rw (records-next i n b h, k)

  pub check-ends : n ≤ i → check_from i w (records_from i n b) ≡ Ok w
  unfolding check_from
  check-ends h = rw (records-none i n b h)

-- ---- the lent memory
pub io-joins : (o c b o' c' b' g : List ℕ) (q : ℕ) (r : Record) → q < 8 → queues o' c' b' ≡ set (queues o c b) q (get_or (queues o c b) q [] ++ (r ∷ []))
    → pending_of o' c' b' g ≡ add_io q r (pending_of o c b g)
unfolding pending_of add_io
io-joins o c b o' c' b' g q r h e =
    let n : 8 ≡ q → ⊥ = omega arith in
    rw (e, take-set-lt, get_or-set_other, get_or-take 8 (queues o c b) q [] h)

pub done-joins : (o c b o' c' b' g : List ℕ) (r : Record) → Held o c → queues o' c' b' ≡ set (queues o c b) 8 (get_or (queues o c b) 8 [] ++ (r ∷ []))
    → pending_of o' c' b' g ≡ add_as rules.Kind.done r (pending_of o c b g)
unfolding pending_of add_as
done-joins o c b o' c' b' g r l e =
    let h : 8 < length (queues o c b) = omega (arith, length-queues o c l b) in
    let k : 8 ≤ 8 = omega arith in
    rw (e, take-set-le, get_or-set_same)

-- a record x that is r is added
module _ (o c b g : List ℕ) (r x : Record) (ex : x ≡ r) where
  pub adds-io : (o' c' b' : List ℕ) (q : ℕ) → kind r ≡ rules.Kind.io → q ≡ subclass r → q < 8
      → queues o' c' b' ≡ set (queues o c b) q (get_or (queues o c b) q [] ++ (x ∷ [])) → pending_of o' c' b' g ≡ add r (pending_of o c b g)
  unfolding add add_as
  adds-io o' c' b' q k eq h e = rw (k, ← eq, ← ex) (io-joins o c b o' c' b' g q x h e)

  pub adds-done : (o' c' b' : List ℕ) → kind r ≡ rules.Kind.done → Held o c
      → queues o' c' b' ≡ set (queues o c b) 8 (get_or (queues o c b) 8 [] ++ (x ∷ [])) → pending_of o' c' b' g ≡ add r (pending_of o c b g)
  unfolding add
  adds-done o' c' b' k l e = rw (k, ← ex) (done-joins o c b o' c' b' g x l e)

  pub adds-service : (g' : List ℕ) → kind r ≡ rules.Kind.service
      → (service_of g' ≡ some (first_or (service_of g) x)) × (mchk_of g' ≡ mchk_of g) → pending_of o c b g' ≡ add r (pending_of o c b g)
  unfolding add add_as pending_of
  adds-service g' k e = rw (k, e.0, e.1, ex)

  pub adds-mchk : (g' : List ℕ) → kind r ≡ rules.Kind.mchk
      → (mchk_of g' ≡ some (merged_or (mchk_of g) x)) × (service_of g' ≡ service_of g) → pending_of o c b g' ≡ add r (pending_of o c b g)
  unfolding add add_as pending_of
  adds-mchk g' k e = rw (k, e.0, e.1, ex)

  pub adds-other : kind r ≡ rules.Kind.other → pending_of o c b g ≡ add r (pending_of o c b g)
  unfolding add add_as
  adds-other k = rw k

-- a turn of add_all, and what is left to add at its end
module _ (i n : ℕ) (b : List ℕ) (p : Pending) where
  pub add-next : (p' : Pending) → i < n → p' ≡ add (part (i * 72) 72 b) p → add_all (records_from i n b) p ≡ add_all (records_from (i + 1) n b) p'
  unfolding add_all
  add-next p' h e = rw (records-next i n b h, e)

  pub add-ends : n ≤ i → add_all (records_from i n b) p ≡ p
  unfolding add_all
  add-ends h = rw (records-none i n b h)

pub want-next : (i n : ℕ) (b : List ℕ) → i < n → all_want (records_from i n b) ≡ wants (kind (part (i * 72) 72 b)) + all_want (records_from (i + 1) n b)
unfolding all_want
want-next i n b h = rw (records-next i n b h)

pub queued-total : (o c b g : List ℕ) → Held o c → queued (pending_of o c b g) ≡ total c
unfolding pending_of
queued-total o c b g h =
    rw (← length-append (flatten (take 8 (queues o c b))) (get_or (queues o c b) 8 []), flatten-queues o c h b) (length-flatten-queues o c h b)

-- ---- an adapter's interrupt
pub interrupt-bytes : (isc : ℕ) → isc ≤ 7 → set (set (replicate 72 0) 4 4) 16 (128 + isc * 8) ≡ adapter_interrupt isc
unfolding bytes
interrupt-bytes isc h =
    let v : ℕ = 0x80000000 + isc * 2 ^ 27 in
    let e3 : v / 256 ^ 3 % 256 ≡ 128 + isc * 8 = omega arith in
    let e2 : v / 256 ^ 2 % 256 ≡ 0 = omega arith in
    let e1 : v / 256 ^ 1 % 256 ≡ 0 = omega arith in
    let e0 : v / 256 ^ 0 % 256 ≡ 0 = omega arith in
    rw (e3, e2, e1, e0)

-- ---- the request
module _ (L : Limits) (s : State) (attr : ℕ) (b : List ℕ) (h : attr ≡ 0 → ⊥) (k : attr ≤ enqueue_bytes) (e : attr % 72 ≡ 0) where
  pub enqueuing : request L s enqueue attr b ≡ (need leb attr (length b) else 14 ⨾ enqueues L s (records_in (attr / 72) b))
  unfolding request
  enqueuing = passes _ _ _ (rw (ne_eqb attr 0 h, le-leb attr enqueue_bytes k, eq-eqb (attr % 72) 0 e))

  -- the answer to the records of the payload, where q are queued
  module _ (f : attr ≤ length b) (q : ℕ) (eq : queued s.pending ≡ q) (room : ℕ) (er : L.room ≡ room) where
    checking : request L s enqueue attr b ≡ enqueues L s (records_in (attr / 72) b)
    checking = enqueuing ∙ passes _ _ _ (le-leb attr (length b) f)

    pub enqueue-good : (m : ℕ) → Ok m ≡ answer_to (check_from 0 0 (records_in (attr / 72) b)) (attr / 72) q room
        → (p : Pending) → p ≡ add_all (records_in (attr / 72) b) s.pending → Answers L s b (request L s enqueue attr b) (as_answer (Ok m)) (with_pending p s) b
    unfolding enqueues
    enqueue-good m ea p ep =
        let g = told (records_in (attr / 72) b) (attr / 72) q room (Ok m) ea in
        accepts L s b _ m (with_pending p s) [] b
        (checking ∙ passes _ _ _ g.1 ∙ passes _ _ _ (le-leb _ L.room (omega (arith, eq, er, g.2))) ∙ rw (length-records (attr / 72) b, g.0, ep)) refl

    pub enqueue-bad : (r : Refusal) → Err r ≡ answer_to (check_from 0 0 (records_in (attr / 72) b)) (attr / 72) q room
        → (p : Pending) → s.pending ≡ p → Answers L s b (request L s enqueue attr b) (as_answer (Err r)) (with_pending p s) b
    enqueue-bad r ea p ep = refuses L s b _ r p ep (checking ∙ told (records_in (attr / 72) b) (attr / 72) q room (Err r) ea L s eq er)
