-- 01, 'Checked examples': P1 to P12 as one list under one claim, and further examples of single rules. Each line is a call and what its
-- caller must see: code, count, and the bytes written from the buffer's start; the bytes after those must stay. More are in Boundaries.
use Prim.Native.Nat.{ℕ, ◌+◌, ◌*◌}
use mathlib.Core.Path.{◌≡◌, refl}
use mathlib.Core.Bool.{Bool, true, false}
use mathlib.Core.List.{List, [], ◌∷◌, ◌++◌, map}
use lib.ListN.{length, drop, replicate}
use Rattle.rules.specs.Bytes.{bytes}
use Rattle.rules.specs.State.{paper_limits, fresh}
use Rattle.rules.specs.Outcome.{Seen}
use Rattle.rules.specs.Machine.{Ask, set_attr, get_attr, guest_take, write_list, play_list, Call, answers}
use Rattle.rules.proofs.Computes.{computes}

-- P1 to P12 and move_after_p9 are the paper's own
data Label : Type 0 where
  P1 P2 P3 P4 P5 P6 P7 P8 P9 P10 P11 P12 : Label
  move_after_p9 masked_then_moved nimm_alone nimm_on_full_queue take_order clear_io_order service_dropped mchk_merged refused_part_way wrong_table : Label

pub record Line : Type 0 where
  pub ask : Ask
  pub buffer : List ℕ
  pub code : ℕ
  pub count : ℕ
  pub written : List ℕ
  pub table : ℕ

unfoldable pub line : Ask → List ℕ → ℕ → ℕ → List ℕ → Line
line ask buffer code count written = record { ask = ask; buffer = buffer; code = code; count = count; written = written; table = 64 }

-- a call that leaves its buffer as it was
unfoldable pub quiet : Ask → List ℕ → ℕ → ℕ → Line
quiet ask buffer code count = line ask buffer code count []

-- the same, lent a table of so many places
unfoldable pub lent : ℕ → Ask → List ℕ → ℕ → ℕ → Line
lent table ask buffer code count = record { ask = ask; buffer = buffer; code = code; count = count; written = []; table = table }

-- a list of calls to a fresh controller, and the rule that it is about
pub record Example (A : Type 0) : Type 0 where
  pub label : A
  pub ais : Bool
  pub lines : List Line

pub record Outlook (A : Type 0) : Type 0 where
  pub label : A
  pub seen : List Seen

unfoldable pub call_of : Line → Call
call_of l = record { ask = l.ask; buffer = l.buffer; table_length = l.table }

-- It is written out here, and not by `sees`, so that a wrong `seen` does not change both sides.
unfoldable pub expected_of : Line → Seen
expected_of l = record { code = l.code; count = l.count; further = 0; buffer = l.written ++ drop (length l.written) l.buffer }

unfoldable pub given : {A : Type 0} → Example A → Outlook A
given e = record { label = e.label; seen = answers paper_limits (fresh paper_limits e.ais) (map call_of e.lines) }

unfoldable pub expected : {A : Type 0} → Example A → Outlook A
expected e = record { label = e.label; seen = map expected_of e.lines }

-- payloads of the examples
unfoldable pub zeros : ℕ → List ℕ
zeros n = replicate n 0

unfoldable pub record_of : ℕ → List ℕ
record_of type = bytes 8 type ++ replicate 64 0

unfoldable pub io_record : ℕ → List ℕ
io_record word = replicate 16 0 ++ (bytes 4 word ++ replicate 52 0)

unfoldable pub airq_record : ℕ → List ℕ
airq_record word = bytes 8 0x04000000 ++ (replicate 8 0 ++ (bytes 4 word ++ replicate 52 0))

unfoldable pub adapter_of : ℕ → ℕ → List ℕ
adapter_of id isc = bytes 4 id ++ (isc ∷ 1 ∷ 0 ∷ 1 ∷ [])

unfoldable pub mask_of : ℕ → ℕ → List ℕ
mask_of id mask = bytes 4 id ++ (1 ∷ mask ∷ replicate 10 0)

unfoldable pub empty_list : ℕ → List ℕ
empty_list flag = bytes 4 20 ++ (bytes 4 0 ++ (bytes 4 20 ++ (bytes 4 20 ++ bytes 4 flag)))

-- `unfolding shows` lets the machine and the lines compute.
unfoldable pub shows : Unit {0}
unfolding line quiet lent call_of expected_of given expected zeros record_of io_record airq_record adapter_of mask_of empty_list computes
shows = tt

paper_examples : List (Example Label)
paper_examples =
    record { label = P1; ais = false; lines = quiet (set_attr 2 0) [] 22 0 ∷ [] }
    ∷ record {
      label = P2;
      ais = false;
      lines = quiet (set_attr 2 71) (zeros 71) 22 0 ∷ quiet (set_attr 2 72) (zeros 72) 0 1 ∷ [];
    }
    ∷ record { label = P3; ais = false; lines = quiet (set_attr 2 72) (zeros 71) 14 0 ∷ [] }
    ∷ record {
      label = P4;
      ais = false;
      lines =
          quiet (set_attr 2 18432) (zeros 18432) 0 256
          ∷ quiet (set_attr 2 72) (zeros 72) 16 0
          ∷ quiet (set_attr 2 72) (record_of 0xffff2401) 0 1
          ∷ [];
    }
    ∷ record {
      label = P5;
      ais = false;
      lines =
          quiet (get_attr 1 1) (7 ∷ []) 0 0
          ∷ quiet (set_attr 2 72) (zeros 72) 0 1
          ∷ quiet (get_attr 1 71) (replicate 72 7) 12 0
          ∷ [];
    }
    ∷ record {
      label = P6;
      ais = false;
      lines = quiet (set_attr 6 0) (adapter_of 63 0) 0 0 ∷ quiet (set_attr 6 0) (adapter_of 64 0) 22 0 ∷ [];
    }
    ∷ record {
      label = P7;
      ais = true;
      lines = quiet (set_attr 9 0) (7 ∷ 0 ∷ 0 ∷ 1 ∷ []) 0 0 ∷ quiet (set_attr 9 0) (8 ∷ 0 ∷ 0 ∷ 1 ∷ []) 22 0 ∷ [];
    }
    ∷ record {
      label = P8;
      ais = false;
      lines =
          quiet (set_attr 6 0) (adapter_of 0 0) 0 0
          ∷ quiet (set_attr 10 0) [] 0 1
          ∷ quiet (set_attr 8 4) (zeros 4) 22 0
          ∷ line (get_attr 1 72) (replicate 72 7) 0 1 (airq_record 0x80000000)
          ∷ [];
    }
    ∷ record {
      label = P9;
      ais = true;
      lines =
          quiet (set_attr 6 0) (adapter_of 5 3) 0 0
          ∷ quiet (set_attr 9 0) (3 ∷ 0 ∷ 0 ∷ 1 ∷ []) 0 0
          ∷ line (get_attr 11 0) (7 ∷ 7 ∷ 7 ∷ []) 0 0 (0x10 ∷ 0 ∷ [])
          ∷ quiet (set_attr 10 5) [] 0 1
          ∷ line (get_attr 1 100) (replicate 100 7) 0 1 (airq_record 0x98000000)
          ∷ line (get_attr 11 0) (7 ∷ 7 ∷ 7 ∷ []) 0 0 (0x10 ∷ 0x10 ∷ [])
          ∷ quiet (set_attr 10 5) [] 0 0
          ∷ line (get_attr 1 100) (replicate 100 7) 0 1 (airq_record 0x98000000)
          ∷ [];
    }
    ∷ record { label = P10; ais = false; lines = quiet (set_attr 9 0) (9 ∷ 0 ∷ 0 ∷ 0 ∷ []) 95 0 ∷ [] }
    ∷ record {
      label = P11;
      ais = false;
      lines =
          quiet (set_attr 2 144) (zeros 72 ++ record_of 0xffff2603) 22 0
          ∷ quiet (get_attr 1 1) (7 ∷ []) 0 0
          ∷ [];
    }
    ∷ record {
      label = P12;
      ais = true;
      lines =
          quiet (set_attr 6 0) (adapter_of 5 3) 0 0
          ∷ quiet (set_attr 7 0) (mask_of 5 1) 0 0
          ∷ quiet (set_attr 2 72) (zeros 72) 0 1
          ∷ quiet (set_attr 2 72) (record_of 0xfffe0005) 0 1
          ∷ quiet (set_attr 2 72) (record_of 0xffff2401) 0 1
          ∷ quiet (set_attr 2 72) (record_of 0xfffe1000) 0 1
          ∷ quiet (set_attr 11 0) (0xff ∷ 0xff ∷ []) 0 0
          ∷ quiet (set_attr 4 0) [] 0 0
          ∷ quiet play_list (empty_list 1) 0 0
          ∷ quiet (get_attr 1 1) (7 ∷ []) 0 0
          ∷ line (get_attr 11 0) (7 ∷ 7 ∷ []) 0 0 (0 ∷ 0 ∷ [])
          ∷ line write_list (replicate 30 7) 0 20 (empty_list 1)
          ∷ quiet (set_attr 6 0) (adapter_of 5 3) 0 0
          ∷ [];
    }
    ∷ []

-- P1 to P12, proved together
paper-examples : map given paper_examples ≡ map expected paper_examples
unfolding shows paper_examples
paper-examples = refl

-- further payloads
unfoldable pub header_of : ℕ → ℕ → ℕ → List ℕ
header_of total count flag = bytes 4 total ++ (bytes 4 count ++ (bytes 4 20 ++ (bytes 4 (20 + 24 * count) ++ bytes 4 flag)))

unfoldable pub slot_of : ℕ → ℕ → ℕ → ℕ → List ℕ
slot_of at group size attr = bytes 4 at ++ (bytes 4 group ++ (bytes 4 size ++ (bytes 4 0 ++ bytes 8 attr)))

unfoldable pub mchk_of : ℕ → ℕ → ℕ → List ℕ
mchk_of cr14 mcic rest = bytes 8 0xfffe1000 ++ (bytes 8 cr14 ++ (bytes 8 mcic ++ replicate 48 rest))

unfoldable pub service_of : ℕ → List ℕ
service_of parameter = bytes 8 0xffff2401 ++ (bytes 4 parameter ++ replicate 60 0)

unfoldable pub io_for : ℕ → ℕ → ℕ → List ℕ
io_for id nr word = bytes 8 0 ++ (bytes 2 id ++ (bytes 2 nr ++ (bytes 4 9 ++ (bytes 4 word ++ replicate 52 0))))

unfoldable pub after_p9 : List ℕ
after_p9 =
    header_of 174 3 1
    ++ (slot_of 92 6 8 0
    ++ (slot_of 100 2 72 72 ++ (slot_of 172 11 2 0 ++ (adapter_of 5 3 ++ (airq_record 0x98000000 ++ (0x10 ∷ 0x10 ∷ []))))))

masked_list : List ℕ
masked_list =
    header_of 188 3 0
    ++ (slot_of 92 6 8 0 ++ (slot_of 100 7 16 0 ++ (slot_of 116 2 72 72 ++ (adapter_of 5 3 ++ (mask_of 5 1 ++ airq_record 0x98000000)))))

nimm_list : List ℕ
nimm_list = header_of 46 1 1 ++ (slot_of 44 11 2 0 ++ (0 ∷ 0x80 ∷ []))

further_examples : List (Example Label)
further_examples =
    -- the paper's own: after P9 the move list is 174 bytes, payloads at 92, 100 and 172
    record {
      label = move_after_p9;
      ais = true;
      lines =
          quiet (set_attr 6 0) (adapter_of 5 3) 0 0
          ∷ quiet (set_attr 9 0) (3 ∷ 0 ∷ 0 ∷ 1 ∷ []) 0 0
          ∷ quiet (set_attr 10 5) [] 0 1
          ∷ quiet write_list (replicate 173 7) 12 0
          ∷ line write_list (replicate 180 7) 0 174 after_p9
          ∷ quiet (set_attr 3 0) [] 0 1
          ∷ quiet play_list after_p9 0 3
          ∷ line (get_attr 1 72) (replicate 72 7) 0 1 (airq_record 0x98000000)
          ∷ quiet (set_attr 10 5) [] 0 0
          ∷ [];
    }
    ∷ record {
      label = masked_then_moved;
      ais = false;
      lines =
          quiet (set_attr 6 0) (adapter_of 5 3) 0 0
          ∷ quiet (set_attr 10 5) [] 0 1
          ∷ quiet (set_attr 7 0) (mask_of 5 1) 0 0
          ∷ line write_list (replicate 188 7) 0 188 masked_list
          ∷ quiet play_list masked_list 0 3
          ∷ line (get_attr 1 72) (replicate 72 7) 0 1 (airq_record 0x98000000)
          ∷ quiet (set_attr 10 5) [] 0 0
          ∷ [];
    }
    ∷ record {
      label = nimm_alone;
      ais = true;
      lines =
          quiet (set_attr 11 0) (0 ∷ 0x80 ∷ []) 0 0
          ∷ line write_list (replicate 46 7) 0 46 nimm_list
          ∷ quiet play_list nimm_list 0 1
          ∷ quiet (set_attr 6 0) (adapter_of 0 0) 0 0
          ∷ quiet (set_attr 10 0) [] 0 0
          ∷ [];
    }
    ∷ record {
      label = nimm_on_full_queue;
      ais = true;
      lines =
          quiet (set_attr 6 0) (adapter_of 5 3) 0 0
          ∷ quiet (set_attr 9 0) (3 ∷ 0 ∷ 0 ∷ 1 ∷ []) 0 0
          ∷ quiet (set_attr 2 18432) (zeros 18432) 0 256
          ∷ quiet (set_attr 10 5) [] 16 0
          ∷ line (get_attr 11 0) (7 ∷ 7 ∷ []) 0 0 (0x10 ∷ 0 ∷ [])
          ∷ line (guest_take 0x80 false false) (replicate 72 7) 0 1 (zeros 72)
          ∷ quiet (set_attr 10 5) [] 0 1
          ∷ [];
    }
    ∷ record {
      label = take_order;
      ais = false;
      lines =
          quiet (set_attr 2 144) (io_record 0x38000000 ++ io_record 0x08000000) 0 2
          ∷ quiet (set_attr 2 144) (record_of 0xfffe0005 ++ service_of 5) 0 2
          ∷ quiet (set_attr 2 72) (mchk_of 1 2 3) 0 1
          ∷ quiet (guest_take 0xff true true) (replicate 71 7) 14 0
          ∷ quiet (guest_take 0xbe false false) (replicate 72 7) 0 0
          ∷ line (guest_take 0xff true true) (replicate 80 7) 0 1 (mchk_of 1 2 3)
          ∷ line (guest_take 0xff true true) (replicate 72 7) 0 1 (service_of 5)
          ∷ line (guest_take 0x01 false true) (replicate 72 7) 0 1 (io_record 0x38000000)
          ∷ line (guest_take 0xff true true) (replicate 72 7) 0 1 (record_of 0xfffe0005)
          ∷ line (guest_take 0xff true true) (replicate 72 7) 0 1 (io_record 0x08000000)
          ∷ quiet (guest_take 0xff true true) (replicate 72 7) 0 0
          ∷ [];
    }
    ∷ record {
      label = clear_io_order;
      ais = false;
      lines =
          quiet (set_attr 2 144) (io_for 1 0 0x10000000 ++ io_for 1 0 0x08000000) 0 2
          ∷ quiet (set_attr 8 4) (0 ∷ 0 ∷ 0 ∷ 1 ∷ []) 0 0
          ∷ quiet (set_attr 8 4) (0 ∷ 1 ∷ 0 ∷ 0 ∷ []) 0 1
          ∷ line (get_attr 1 144) (replicate 144 7) 0 1 (io_for 1 0 0x10000000)
          ∷ [];
    }
    ∷ record {
      label = service_dropped;
      ais = false;
      lines =
          quiet (set_attr 2 144) (service_of 5 ++ service_of 10) 0 2
          ∷ line (get_attr 1 144) (replicate 144 7) 0 1 (service_of 5)
          ∷ quiet (set_attr 3 0) [] 0 1
          ∷ quiet (get_attr 1 144) (replicate 144 7) 0 0
          ∷ [];
    }
    ∷ record {
      label = mchk_merged;
      ais = false;
      lines =
          quiet (set_attr 2 144) (mchk_of 0x50 0x8000000000000001 3 ++ mchk_of 0x30 2 4) 0 2
          ∷ line (get_attr 1 144) (replicate 144 7) 0 1 (mchk_of 0x70 0x8000000000000003 3)
          ∷ [];
    }
    ∷ record {
      label = refused_part_way;
      ais = false;
      lines =
          quiet (set_attr 2 72) (zeros 72) 0 1
          ∷ quiet play_list (header_of 70 2 0 ++ (slot_of 68 4 0 0 ++ (slot_of 68 11 2 0 ++ (1 ∷ 1 ∷ [])))) 95 1
          ∷ line write_list (replicate 20 7) 0 20 (empty_list 0)
          ∷ [];
    }
    ∷ record {
      label = wrong_table;
      ais = true;
      lines =
          lent 63 (set_attr 4 0) [] 14 0
          ∷ lent 65 (set_attr 4 0) [] 14 0
          ∷ lent 63 (get_attr 11 0) (7 ∷ 7 ∷ []) 14 0
          ∷ lent 65 (get_attr 77 1) [] 14 0
          ∷ lent 0 write_list (replicate 20 7) 14 0
          ∷ lent 65 write_list (replicate 20 7) 14 0
          ∷ lent 63 play_list (empty_list 1) 14 0
          ∷ lent 65 play_list (empty_list 1) 14 0
          ∷ lent 0 (guest_take 0xff true true) (replicate 72 7) 0 0
          ∷ line write_list (replicate 20 7) 0 20 (empty_list 1)
          ∷ [];
    }
    ∷ []

further-examples : map given further_examples ≡ map expected further_examples
unfolding shows header_of slot_of mchk_of service_of io_for after_p9 masked_list nimm_list further_examples
further-examples = refl
