-- Paper 01, 'What it holds'.
use Rattle.std.specs.Prelude.{ℕ, ◌+◌, ◌-◌, ◌/◌, ◌%◌, ◌^◌, Bool, false, length, get_or, take, drop, set, replicate}
use Rattle.std.specs.Prelude.{leb, eqb}
use mathlib.Core.Option.{Option, none, some}
use mathlib.Core.List.{List, [], ◌∷◌, ◌++◌, flatten, zip_with}
use Rattle.std.specs.Int.Bits.{bit_or}
use Rattle.rules.specs.Bytes.{choose, field}

-- 'How much each promise says': the limits of 64 and 256 enter proofs as parameters, once. A definition that makes a
-- controller fresh, or asks whether there is an id or room for a record, takes them as its first argument L. (What the
-- listing program prints is for the paper's limits.) No other number in these files follows them.
pub record Limits : Type 0 where
  -- how many adapter places there are: ids 0 to places - 1
  pub places : ℕ
  -- how many records the nine queues hold together at most
  pub room : ℕ

-- The paper's controller.
unfoldable pub paper_limits : Limits
paper_limits = record { places = 64; room = 256 }

-- An adapter: subclass 0 to 7, maskable, swap, suppressible, masked.
pub record Adapter : Type 0 where
  pub isc : ℕ
  pub maskable : Bool
  pub swap : Bool
  pub suppressible : Bool
  pub masked : Bool

-- An adapter place is free or holds an adapter. The adapter's id is the position of its place in the table.
pub data Place : Type 0 where
  free : Place
  holds : Adapter → Place

-- A pending record is 72 bytes: type (8), then 64 bytes. All 72 are kept as given.
abbrev pub Record : Type 0
Record = List ℕ

abbrev pub record_bytes : ℕ
record_bytes = 72

-- What is pending: eight I/O queues, one per subclass, and one queue of finished page faults, each oldest first; at
-- most one service record and at most one machine check.
pub record Pending : Type 0 where
  -- the queues of subclass 0 to 7
  pub io : List (List Record)
  -- the queue of finished page faults
  pub done : List Record
  pub service : Option Record
  pub mchk : Option Record

-- The device record: the masks simm and nimm, one byte each, and the async page fault flag.
pub record Device : Type 0 where
  pub simm : ℕ
  pub nimm : ℕ
  pub apf : Bool

-- What a controller holds. The AIS capability is chosen when the controller is made, and fixed from then on.
pub record State : Type 0 where
  pub ais : Bool
  pub adapters : List Place
  pub pending : Pending
  pub device : Device

-- Nothing is pending.
abbrev pub nothing : Pending
nothing = record { io = replicate 8 []; done = []; service = none; mchk = none }

-- A fresh controller: nothing registered or pending, masks 0, flag off.
unfoldable pub fresh : Limits → Bool → State
fresh L ais =
    record {
      ais = ais;
      adapters = replicate L.places free;
      pending = nothing;
      device = record { simm = 0; nimm = 0; apf = false };
    }

-- The state with other pending records.
abbrev pub with_pending : Pending → State → State
with_pending p s = record { ais = s.ais; adapters = s.adapters; pending = p; device = s.device }

-- The state with another device record.
abbrev pub with_device : Device → State → State
with_device d s = record { ais = s.ais; adapters = s.adapters; pending = s.pending; device = d }

-- The state with another adapter at an id.
abbrev pub with_adapter : ℕ → Adapter → State → State
with_adapter id x s =
    record { ais = s.ais; adapters = set s.adapters id (holds x); pending = s.pending; device = s.device }

-- Subclass n, 0 to 7, is the bit 128 / 2^n of a mask (000: MSB0 bit 0 to ISC 0 and so on). `bit` is used for no other
-- n.
abbrev pub bit : ℕ → ℕ
bit n = 128 / 2 ^ n

-- Whether subclass n's bit is set in a mask.
unfoldable pub has_bit : ℕ → ℕ → Bool
has_bit n mask = eqb (mask / bit n % 2) 1

-- The mask with that bit set.
unfoldable pub with_bit : ℕ → ℕ → ℕ
with_bit n mask = choose (has_bit n mask) mask (mask + bit n)

-- The mask with that bit cleared.
unfoldable pub without_bit : ℕ → ℕ → ℕ
without_bit n mask = choose (has_bit n mask) (mask - bit n) mask

-- What a record's type means: 0 to 0xfffdffff I/O; 0xfffe0005 page fault done; 0xfffe1000 machine check; 0xffff2401
-- service. Every other type is refused.
pub data Kind : Type 0 where
  io done service mchk other : Kind

unfoldable pub kind_of : ℕ → Kind
kind_of type =
    choose (leb type 0xfffdffff) io
    (choose (eqb type 0xfffe0005) done (choose (eqb type 0xfffe1000) mchk (choose (eqb type 0xffff2401) service other)))

-- The kind of a record. Its type is the first 8 bytes.
unfoldable pub kind : Record → Kind
kind r = kind_of (field 0 8 r)

-- After the type an I/O record has: subchannel id (2), subchannel number (2), parameter (4), interruption word (4). No
-- rule reads the parameter.
abbrev pub subchannel_id : Record → ℕ
subchannel_id r = field 8 2 r

abbrev pub subchannel_number : Record → ℕ
subchannel_number r = field 10 2 r

abbrev pub interruption_word : Record → ℕ
interruption_word r = field 16 4 r

-- An I/O record's subclass is bits 27 to 29 of its word, bit 0 lowest.
unfoldable pub subclass : Record → ℕ
subclass r = interruption_word r / 2 ^ 27 % 8

-- After the type a machine check has: cr14 (8), mcic (8), further fields. A second machine check adds its cr14 and mcic
-- bits to the first one by OR. The first one's other bytes stay.
unfoldable pub merged : Record → Record → Record
merged first second =
    take 8 first ++ (zip_with bit_or (take 16 (drop 8 first)) (take 16 (drop 8 second)) ++ drop 24 first)

-- Adding a record. An I/O record goes to the end of the queue of its subclass.
unfoldable pub add_io : ℕ → Record → Pending → Pending
add_io isc r p =
    record {
      io = set p.io isc (get_or p.io isc [] ++ (r ∷ []));
      done = p.done;
      service = p.service;
      mchk = p.mchk;
    }

-- The service record that is pending after r came. A second one is accepted and dropped.
abbrev pub first_or : Option Record → Record → Record
first_or none r = r
first_or (some first) r = first

-- The machine check that is pending after r came. A second one is merged into the first.
abbrev pub merged_or : Option Record → Record → Record
merged_or none r = r
merged_or (some first) r = merged first r

-- A page fault done goes to the end of its queue. A record of another type is never added.
unfoldable pub add_as : Kind → Record → Pending → Pending
add_as io r p = add_io (subclass r) r p
add_as done r p = record { io = p.io; done = p.done ++ (r ∷ []); service = p.service; mchk = p.mchk }
add_as service r p = record { io = p.io; done = p.done; service = some (first_or p.service r); mchk = p.mchk }
add_as mchk r p = record { io = p.io; done = p.done; service = p.service; mchk = some (merged_or p.mchk r) }
add_as other r p = p

unfoldable pub add : Record → Pending → Pending
add r p = add_as (kind r) r p

-- Records are added in the order given.
unfoldable pub add_all : List Record → Pending → Pending
add_all [] p = p
add_all (r ∷ rs) p = add_all rs (add r p)

-- How many records the nine queues hold together. The service record and the machine check do not count.
abbrev pub queued : Pending → ℕ
queued p = length (flatten p.io) + length p.done

-- The service record or the machine check as a list: of one record or of none.
abbrev pub single : Option Record → List Record
single none = []
single (some r) = r ∷ []

-- 'Request numbers and effects', listing order: I/O by subclass 0 to 7, page faults done, service, machine check.
unfoldable pub listing : Pending → List Record
listing p = flatten p.io ++ (p.done ++ (single p.service ++ single p.mchk))
