-- 01, 'Request numbers and effects', 'Codes and the order of checks', 'Move list': each rule where it begins and ends. Lines as in Examples.
use Prim.Native.Nat.{ℕ, ◌+◌}
use mathlib.Core.Path.{◌≡◌, refl}
use mathlib.Core.Bool.{true, false}
use mathlib.Core.List.{List, [], ◌∷◌, ◌++◌, flatten, map}
use lib.ListN.{length, replicate}
use Rattle.rules.specs.Bytes.{bytes}
use Rattle.rules.specs.Machine.{set_attr, get_attr, guest_take, write_list, play_list}
use Rattle.rules.proofs.Examples.{line, quiet, Example, given, expected, shows, zeros, record_of, airq_record, adapter_of, mask_of, empty_list, header_of, slot_of, mchk_of, service_of, io_for}

-- the rule that a list is about
data Rule : Type 0 where
  group_and_direction attribute_then_capability lent_length enqueue_bounds full_queues clear_io_word registering modifying : Rule
  injecting modes flag_and_clear listing_order take_allowed take_buffer claimed_unbounded played_form played_capability played_attributes : Rule

-- REGISTER's payload and MODIFY's, with unread bytes that are not 0
register : ℕ → ℕ → ℕ → ℕ → ℕ → List ℕ
register id isc maskable swap flags = bytes 4 id ++ (isc ∷ maskable ∷ swap ∷ flags ∷ [])

modify : ℕ → ℕ → ℕ → List ℕ
modify id type mask = bytes 4 id ++ (type ∷ mask ∷ replicate 10 9)

-- a finished page fault; its first four bytes are where an I/O record has its subchannel
done_of : ℕ → List ℕ
done_of parameter = bytes 8 0xfffe0005 ++ (bytes 4 parameter ++ replicate 60 0)

-- a list's header alone, a list of one request without payload, a list of APF_ENABLE and then another request
header : ℕ → ℕ → ℕ → ℕ → ℕ → List ℕ
header total count table payloads flag = bytes 4 total ++ (bytes 4 count ++ (bytes 4 table ++ (bytes 4 payloads ++ bytes 4 flag)))

one : ℕ → ℕ → ℕ → ℕ → List ℕ
one at group size zero_word = header_of 44 1 0 ++ (bytes 4 at ++ (bytes 4 group ++ (bytes 4 size ++ (bytes 4 zero_word ++ bytes 8 0))))

second : ℕ → List ℕ
second group = header_of 68 2 0 ++ (slot_of 68 4 0 0 ++ slot_of 68 group 0 0)

-- APF_ENABLE and then a request with an attribute and a payload
after_apf : ℕ → ℕ → List ℕ → List ℕ
after_apf group attr payload = header_of (68 + length payload) 2 1 ++ (slot_of 68 4 0 0 ++ (slot_of 68 group (length payload) attr ++ payload))

-- as many requests as a list may hold
most_requests_list : List ℕ
most_requests_list = header_of 3164 131 0 ++ flatten (replicate 131 (slot_of 3164 4 0 0))

-- what is written of two adapters, of two masked ones, and of records of all four kinds
two_adapters : List ℕ
two_adapters = header_of 84 2 0 ++ (slot_of 68 6 8 0 ++ (slot_of 76 6 8 0 ++ (register 3 0 1 1 1 ++ register 5 7 1 0 0)))

two_masked : List ℕ
two_masked =
    header_of 164 4 0
    ++ (slot_of 116 6 8 0
    ++ (slot_of 124 6 8 0
    ++ (slot_of 132 7 16 0
    ++ (slot_of 148 7 16 0 ++ (register 3 0 1 1 1 ++ (register 5 7 1 0 0 ++ (mask_of 3 1 ++ mask_of 5 1)))))))

all_kinds : List ℕ
all_kinds = io_for 2 1 0 ++ (io_for 3 1 0xc7ffffff ++ (io_for 1 1 0x38000000 ++ (done_of 2 ++ (done_of 1 ++ (service_of 5 ++ mchk_of 1 2 3)))))

boundary_examples : List (Example Rule)
boundary_examples =
    record {
      label = group_and_direction;
      ais = true;
      lines =
          quiet (set_attr 6 0) (adapter_of 0 0) 0 0
          ∷ quiet (set_attr 0 0) [] 22 0
          ∷ quiet (set_attr 0 72) (zeros 72) 22 0
          ∷ quiet (set_attr 1 72) (zeros 72) 22 0
          ∷ quiet (set_attr 12 0) [] 22 0
          ∷ quiet (set_attr 259 0) [] 22 0
          ∷ quiet (get_attr 0 0) [] 22 0
          ∷ quiet (get_attr 0 72) (zeros 72) 22 0
          ∷ quiet (get_attr 2 72) (zeros 72) 22 0
          ∷ quiet (get_attr 3 0) [] 22 0
          ∷ quiet (get_attr 4 0) [] 22 0
          ∷ quiet (get_attr 5 0) [] 22 0
          ∷ quiet (get_attr 6 0) (adapter_of 1 0) 22 0
          ∷ quiet (get_attr 7 0) (mask_of 0 1) 22 0
          ∷ quiet (get_attr 8 4) (0 ∷ 1 ∷ 0 ∷ 2 ∷ []) 22 0
          ∷ quiet (get_attr 9 0) (zeros 4) 22 0
          ∷ quiet (get_attr 10 0) [] 22 0
          ∷ quiet (get_attr 12 0) (zeros 2) 22 0
          ∷ quiet (get_attr 257 72) (zeros 72) 22 0
          ∷ [];
    }
    ∷ record {
      label = attribute_then_capability;
      ais = false;
      lines =
          quiet (set_attr 3 1) [] 22 0
          ∷ quiet (set_attr 4 1) [] 22 0
          ∷ quiet (set_attr 5 1) [] 22 0
          ∷ quiet (set_attr 6 1) [] 22 0
          ∷ quiet (set_attr 7 1) [] 22 0
          ∷ quiet (set_attr 9 1) [] 22 0
          ∷ quiet (set_attr 11 1) [] 22 0
          ∷ quiet (get_attr 11 1) [] 22 0
          ∷ quiet (set_attr 9 0) [] 95 0
          ∷ quiet (set_attr 11 0) [] 95 0
          ∷ quiet (get_attr 11 0) [] 95 0
          ∷ [];
    }
    ∷ record {
      label = lent_length;
      ais = true;
      lines =
          quiet (get_attr 1 0) [] 22 0
          ∷ quiet (get_attr 1 1) [] 14 0
          ∷ quiet (set_attr 2 71) [] 22 0
          ∷ quiet (set_attr 6 0) (bytes 4 64 ++ zeros 3) 14 0
          ∷ quiet (set_attr 7 0) (zeros 15) 14 0
          ∷ quiet (set_attr 8 3) (zeros 3) 22 0
          ∷ quiet (set_attr 8 4) (zeros 3) 14 0
          ∷ quiet (set_attr 9 0) (8 ∷ 0 ∷ 0 ∷ []) 14 0
          ∷ quiet (set_attr 11 0) (1 ∷ []) 14 0
          ∷ quiet (get_attr 11 0) (7 ∷ []) 14 0
          ∷ quiet (set_attr 2 72) (zeros 72) 0 1
          ∷ quiet (get_attr 1 71) (replicate 70 7) 14 0
          ∷ [];
    }
    ∷ record {
      label = enqueue_bounds;
      ais = false;
      lines =
          quiet (set_attr 2 18648) [] 22 0
          ∷ quiet (set_attr 2 64) (zeros 72) 22 0
          ∷ quiet (set_attr 2 80) (zeros 80) 22 0
          ∷ quiet (set_attr 2 72) (record_of 0xfffdffff) 0 1
          ∷ quiet (set_attr 2 72) (record_of 0xfffe0000) 22 0
          ∷ quiet (set_attr 2 72) (record_of 0xfffe0004) 22 0
          ∷ quiet (set_attr 2 72) (record_of 0xfffe0006) 22 0
          ∷ quiet (set_attr 2 72) (record_of 0xfffe1001) 22 0
          ∷ quiet (set_attr 2 72) (record_of 0xffff2402) 22 0
          ∷ quiet (set_attr 2 72) (record_of 0x100000000) 22 0
          ∷ quiet (set_attr 2 72) (zeros 100) 0 1
          ∷ line (get_attr 1 144) (replicate 144 7) 0 2 (record_of 0xfffdffff ++ zeros 72)
          ∷ [];
    }
    ∷ record {
      label = full_queues;
      ais = true;
      lines =
          quiet (set_attr 6 0) (adapter_of 5 3) 0 0
          ∷ quiet (set_attr 2 18576) (io_for 1 2 0 ++ (zeros 18360 ++ (service_of 5 ++ mchk_of 1 2 3))) 0 258
          ∷ quiet (set_attr 2 72) (done_of 0) 16 0
          ∷ quiet (set_attr 2 72) (mchk_of 1 2 3) 0 1
          ∷ quiet (set_attr 2 144) (zeros 72 ++ record_of 0xffff2603) 22 0
          ∷ quiet (set_attr 7 0) (modify 5 1 1) 0 0
          ∷ quiet (set_attr 10 5) [] 0 0
          ∷ quiet (set_attr 7 0) (modify 5 1 0) 0 0
          ∷ quiet (set_attr 11 0) (0 ∷ 0x10 ∷ []) 0 0
          ∷ quiet (set_attr 10 5) [] 0 0
          ∷ quiet (set_attr 11 0) (0 ∷ 0xef ∷ []) 0 0
          ∷ quiet (set_attr 10 5) [] 16 0
          ∷ quiet (set_attr 8 4) (0 ∷ 1 ∷ 0 ∷ 2 ∷ []) 0 1
          ∷ quiet (set_attr 2 144) (zeros 144) 16 0
          ∷ quiet (set_attr 2 72) (done_of 0) 0 1
          ∷ quiet (set_attr 10 5) [] 16 0
          ∷ quiet (set_attr 3 0) [] 0 258
          ∷ quiet (set_attr 10 5) [] 0 1
          ∷ [];
    }
    ∷ record {
      label = clear_io_word;
      ais = false;
      lines =
          quiet (set_attr 8 4) (zeros 4) 22 0
          ∷ quiet (set_attr 8 3) (0 ∷ 1 ∷ 0 ∷ 2 ∷ []) 22 0
          ∷ quiet (set_attr 8 1000) (0 ∷ 1 ∷ 0 ∷ 2 ∷ []) 0 0
          ∷ quiet (set_attr 2 216) (done_of 0x10002 ++ (io_for 0x101 2 0 ++ io_for 1 0x102 0)) 0 3
          ∷ quiet (set_attr 8 4) (0 ∷ 1 ∷ 0 ∷ 2 ∷ []) 0 0
          ∷ quiet (set_attr 2 216) (io_for 1 2 0 ++ (io_for 1 3 0 ++ io_for 1 2 1)) 0 3
          ∷ quiet (set_attr 8 4) (0 ∷ 1 ∷ 0 ∷ 3 ∷ []) 0 1
          ∷ quiet (set_attr 8 4) (0 ∷ 1 ∷ 0 ∷ 3 ∷ []) 0 0
          ∷ quiet (set_attr 8 4) (0 ∷ 2 ∷ 0 ∷ 2 ∷ []) 0 0
          ∷ quiet (set_attr 8 4) (0 ∷ 1 ∷ 0 ∷ 2 ∷ 9 ∷ []) 0 1
          ∷ line (get_attr 1 294) (replicate 294 7) 0 4 (io_for 0x101 2 0 ++ (io_for 1 0x102 0 ++ (io_for 1 2 1 ++ done_of 0x10002)))
          ∷ quiet (set_attr 8 4) (0 ∷ 1 ∷ 0 ∷ 2 ∷ []) 0 1
          ∷ quiet (set_attr 8 4) (0 ∷ 1 ∷ 0 ∷ 2 ∷ []) 0 0
          ∷ [];
    }
    ∷ record {
      label = registering;
      ais = false;
      lines =
          quiet (set_attr 6 0) (register 5 8 1 0 1) 22 0
          ∷ quiet (set_attr 6 0) (register 0xffffffff 7 1 0 1) 22 0
          ∷ quiet (set_attr 6 0) (register 0x105 7 1 0 1) 22 0
          ∷ quiet (set_attr 6 0) (register 5 7 2 0 2) 0 0
          ∷ quiet (set_attr 6 0) (register 5 7 1 0 1) 22 0
          ∷ quiet (set_attr 6 0) (register 3 0 1 2 3 ++ (9 ∷ [])) 0 0
          ∷ line write_list (replicate 90 7) 0 84 two_adapters
          ∷ quiet (set_attr 7 0) (modify 5 1 2) 0 0
          ∷ quiet (set_attr 7 0) (modify 3 1 1) 0 0
          ∷ line write_list (replicate 164 7) 0 164 two_masked
          ∷ [];
    }
    ∷ record {
      label = modifying;
      ais = false;
      lines =
          quiet (set_attr 7 0) (modify 64 1 1) 22 0
          ∷ quiet (set_attr 7 0) (modify 5 2 1) 22 0
          ∷ quiet (set_attr 6 0) (register 5 3 0 0 1) 0 0
          ∷ quiet (set_attr 7 0) (modify 5 1 0) 22 0
          ∷ quiet (set_attr 7 0) (modify 5 1 1) 22 0
          ∷ quiet (set_attr 7 0) (modify 5 2 1) 0 0
          ∷ quiet (set_attr 7 0) (modify 0x105 2 1) 22 0
          ∷ quiet (set_attr 7 0) (modify 5 3 1 ++ (9 ∷ [])) 0 0
          ∷ quiet (set_attr 7 0) (modify 5 0 1) 22 0
          ∷ quiet (set_attr 7 0) (modify 5 4 1) 22 0
          ∷ quiet (set_attr 7 0) (modify 5 130 1) 22 0
          ∷ quiet (set_attr 10 5) [] 0 1
          ∷ quiet (set_attr 6 0) (register 6 3 1 0 0) 0 0
          ∷ quiet (set_attr 7 0) (modify 6 2 1) 0 0
          ∷ quiet (set_attr 10 6) [] 0 1
          ∷ quiet (set_attr 7 0) (modify 6 1 2) 0 0
          ∷ quiet (set_attr 10 6) [] 0 0
          ∷ quiet (set_attr 7 0) (modify 6 3 0) 0 0
          ∷ quiet (set_attr 10 6) [] 0 0
          ∷ quiet (set_attr 7 0) (modify 6 1 0) 0 0
          ∷ quiet (set_attr 10 6) [] 0 1
          ∷ [];
    }
    ∷ record {
      label = injecting;
      ais = true;
      lines =
          quiet (set_attr 10 5) [] 22 0
          ∷ quiet (set_attr 10 64) [] 22 0
          ∷ quiet (set_attr 6 0) (register 5 3 1 0 1) 0 0
          ∷ quiet (set_attr 10 0x100000005) [] 22 0
          ∷ quiet (set_attr 6 0) (register 6 3 1 0 0) 0 0
          ∷ quiet (set_attr 6 0) (register 7 4 1 0 1) 0 0
          ∷ quiet (set_attr 11 0) (0x10 ∷ 0 ∷ []) 0 0
          ∷ quiet (set_attr 10 6) [] 0 1
          ∷ line (get_attr 11 0) (7 ∷ 7 ∷ []) 0 0 (0x10 ∷ 0 ∷ [])
          ∷ quiet (set_attr 10 5) [] 0 1
          ∷ quiet (set_attr 10 5) [] 0 0
          ∷ quiet (set_attr 10 6) [] 0 1
          ∷ quiet (set_attr 10 7) [] 0 1
          ∷ line (get_attr 11 0) (7 ∷ 7 ∷ []) 0 0 (0x10 ∷ 0x10 ∷ [])
          ∷ quiet (set_attr 11 0) (0x18 ∷ 0x80 ∷ []) 0 0
          ∷ quiet (set_attr 10 5) (7 ∷ []) 0 1
          ∷ line (get_attr 11 0) (7 ∷ 7 ∷ []) 0 0 (0x18 ∷ 0x90 ∷ [])
          ∷ quiet (guest_take 0x80 false false) (replicate 72 7) 0 0
          ∷ line (guest_take 0x10 false false) (replicate 72 7) 0 1 (airq_record 0x98000000)
          ∷ quiet (set_attr 6 0) (register 63 0 0 0 0) 0 0
          ∷ quiet (set_attr 10 63) [] 0 1
          ∷ [];
    }
    ∷ record {
      label = modes;
      ais = true;
      lines =
          quiet (set_attr 9 0) (3 ∷ 0 ∷ 0 ∷ 2 ∷ []) 22 0
          ∷ quiet (set_attr 9 0) (131 ∷ 0 ∷ 0 ∷ 1 ∷ []) 22 0
          ∷ quiet (set_attr 9 0) (3 ∷ 0 ∷ 1 ∷ 1 ∷ []) 22 0
          ∷ quiet (set_attr 11 0) (0xff ∷ 0xff ∷ 1 ∷ []) 0 0
          ∷ quiet (set_attr 9 0) (0 ∷ 1 ∷ 0 ∷ 0 ∷ []) 0 0
          ∷ line (get_attr 11 0) (7 ∷ 7 ∷ []) 0 0 (0x7f ∷ 0x7f ∷ [])
          ∷ quiet (set_attr 9 0) (7 ∷ 1 ∷ 0 ∷ 1 ∷ 9 ∷ []) 0 0
          ∷ line (get_attr 11 0) (7 ∷ 7 ∷ []) 0 0 (0x7f ∷ 0x7e ∷ [])
          ∷ quiet (set_attr 9 0) (0 ∷ 1 ∷ 0 ∷ 1 ∷ []) 0 0
          ∷ line (get_attr 11 0) (7 ∷ 7 ∷ []) 0 0 (0xff ∷ 0x7e ∷ [])
          ∷ [];
    }
    ∷ record {
      label = flag_and_clear;
      ais = true;
      lines =
          quiet (set_attr 4 0) (7 ∷ []) 0 0
          ∷ line write_list (replicate 50 7) 0 44 (header_of 44 1 1 ++ slot_of 44 4 0 0)
          ∷ quiet (set_attr 5 0) (7 ∷ []) 0 0
          ∷ line write_list (replicate 50 7) 0 20 (empty_list 1)
          ∷ quiet (set_attr 11 0) (0x80 ∷ 1 ∷ []) 0 0
          ∷ quiet (set_attr 4 0) [] 0 0
          ∷ quiet (set_attr 2 72) (zeros 72) 0 1
          ∷ quiet (set_attr 3 0) (7 ∷ []) 0 1
          ∷ line write_list (replicate 70 7) 0 70 (header_of 70 2 1 ++ (slot_of 68 11 2 0 ++ (slot_of 70 4 0 0 ++ (0x80 ∷ 1 ∷ []))))
          ∷ quiet (set_attr 11 0) (0x80 ∷ 0 ∷ []) 0 0
          ∷ line write_list (replicate 70 7) 0 70 (header_of 70 2 1 ++ (slot_of 68 11 2 0 ++ (slot_of 70 4 0 0 ++ (0x80 ∷ 0 ∷ []))))
          ∷ quiet (set_attr 11 0) (0 ∷ 0 ∷ []) 0 0
          ∷ line write_list (replicate 50 7) 0 44 (header_of 44 1 1 ++ slot_of 44 4 0 0)
          ∷ quiet play_list (header_of 44 1 1 ++ slot_of 44 6 0 0) 14 0
          ∷ line write_list (replicate 50 7) 0 20 (empty_list 1)
          ∷ [];
    }
    ∷ record {
      label = listing_order;
      ais = false;
      lines =
          quiet (set_attr 2 144) (mchk_of 1 2 3 ++ service_of 5) 0 2
          ∷ quiet (set_attr 2 144) (done_of 2 ++ done_of 1) 0 2
          ∷ quiet (set_attr 2 216) (io_for 1 1 0x38000000 ++ (io_for 2 1 0 ++ io_for 3 1 0xc7ffffff)) 0 3
          ∷ line (get_attr 1 504) (replicate 510 7) 0 7 all_kinds
          ∷ line write_list (replicate 550 7) 0 548 (header_of 548 1 0 ++ (slot_of 44 2 504 504 ++ all_kinds))
          ∷ [];
    }
    ∷ record {
      label = take_allowed;
      ais = false;
      lines =
          quiet (set_attr 2 72) (mchk_of 1 2 3) 0 1
          ∷ quiet (guest_take 0xff true false) (replicate 72 7) 0 0
          ∷ quiet (set_attr 2 216) (done_of 2 ++ (service_of 5 ++ done_of 1)) 0 3
          ∷ quiet (guest_take 0xff false false) (replicate 72 7) 0 0
          ∷ line (guest_take 0 true false) (replicate 73 7) 0 1 (service_of 5)
          ∷ line (guest_take 0 true false) (replicate 73 7) 0 1 (done_of 2)
          ∷ line (guest_take 0 false true) (replicate 73 7) 0 1 (mchk_of 1 2 3)
          ∷ quiet (set_attr 2 216) (io_for 1 1 0x08000000 ++ (io_for 2 1 0x08000000 ++ io_for 3 1 0)) 0 3
          ∷ quiet (guest_take 0x3f false true) (replicate 72 7) 0 0
          ∷ line (guest_take 0x40 false true) (replicate 72 7) 0 1 (io_for 1 1 0x08000000)
          ∷ line (guest_take 0xff false true) (replicate 72 7) 0 1 (io_for 3 1 0)
          ∷ line (guest_take 0xff true true) (replicate 72 7) 0 1 (done_of 1)
          ∷ line (guest_take 0xff true true) (replicate 72 7) 0 1 (io_for 2 1 0x08000000)
          ∷ quiet (set_attr 2 216) (io_for 1 1 0 ++ (service_of 5 ++ mchk_of 1 2 3)) 0 3
          ∷ line (guest_take 0xff false false) (replicate 72 7) 0 1 (io_for 1 1 0)
          ∷ line (get_attr 1 144) (replicate 144 7) 0 2 (service_of 5 ++ mchk_of 1 2 3)
          ∷ [];
    }
    ∷ record {
      label = take_buffer;
      ais = false;
      lines =
          quiet (guest_take 0xff true true) (replicate 71 7) 14 0
          ∷ quiet (set_attr 2 72) (zeros 72) 0 1
          ∷ quiet (guest_take 0 true true) (replicate 71 7) 14 0
          ∷ quiet (guest_take 0 false false) [] 14 0
          ∷ line (guest_take 0x80 false false) (replicate 72 7) 0 1 (zeros 72)
          ∷ [];
    }
    ∷ record {
      label = claimed_unbounded;
      ais = false;
      lines =
          quiet (get_attr 1 18577) (replicate 18577 7) 0 0
          ∷ quiet (get_attr 1 0xffffffffffffffff) (replicate 72 7) 14 0
          ∷ quiet (set_attr 2 72) (io_for 1 2 0) 0 1
          ∷ line (get_attr 1 18577) (replicate 18577 7) 0 1 (io_for 1 2 0)
          ∷ quiet (set_attr 8 18577) (0 ∷ 1 ∷ 0 ∷ 2 ∷ []) 0 1
          ∷ quiet (set_attr 8 0xffffffffffffffff) (0 ∷ 1 ∷ 0 ∷ 2 ∷ []) 0 0
          ∷ [];
    }
    ∷ record {
      label = played_form;
      ais = false;
      lines =
          quiet (set_attr 4 0) [] 0 0
          ∷ quiet play_list (zeros 19) 14 0
          ∷ quiet play_list (header 20 1 20 44 0 ++ slot_of 44 4 0 0) 22 0
          ∷ quiet play_list (header 21 0 20 20 0) 22 0
          ∷ quiet play_list (header 20 0 20 20 2) 22 0
          ∷ quiet play_list (header 20 132 20 20 2) 22 0
          ∷ quiet play_list (header 20 132 20 20 1) 7 0
          ∷ quiet play_list (header_of 20 131 0) 22 0
          ∷ quiet play_list (header 0x10014 0 20 20 0) 22 0
          ∷ quiet play_list (header 20 256 20 20 0) 7 0
          ∷ quiet play_list (header 20 0 0x114 20 0) 22 0
          ∷ quiet play_list (header 20 0 20 0x10014 0) 22 0
          ∷ quiet play_list (header 20 0 20 20 256) 22 0
          ∷ quiet play_list (header 20 0 24 20 0) 22 0
          ∷ quiet play_list (header 20 0 16 20 0) 22 0
          ∷ quiet play_list (header 45 1 20 45 0 ++ (slot_of 45 4 0 0 ++ (0 ∷ []))) 22 0
          ∷ quiet play_list (header 44 1 20 20 0 ++ slot_of 20 4 24 0) 22 0
          ∷ quiet play_list (header_of 20 1 0) 22 0
          ∷ quiet play_list (one 45 4 0 0) 22 0
          ∷ quiet play_list (one 43 4 0 0) 22 0
          ∷ quiet play_list (one 0x1002c 4 0 0) 22 0
          ∷ quiet play_list (one 44 4 0x10000 0) 22 0
          ∷ quiet play_list (one 44 4 0 256) 22 0
          ∷ quiet play_list (one 44 4 0 1) 22 0
          ∷ quiet play_list (one 44 4 1 0) 22 0
          ∷ quiet play_list (header_of 45 1 0 ++ (slot_of 44 4 0 0 ++ (0 ∷ []))) 22 0
          ∷ quiet play_list (second 0) 22 0
          ∷ quiet play_list (second 1) 22 0
          ∷ quiet play_list (second 3) 22 0
          ∷ quiet play_list (second 5) 22 0
          ∷ quiet play_list (second 8) 22 0
          ∷ quiet play_list (second 9) 22 0
          ∷ quiet play_list (second 10) 22 0
          ∷ quiet play_list (second 12) 22 0
          ∷ quiet play_list (second 260) 22 0
          ∷ quiet play_list (header_of 44 1 1 ++ slot_of 44 3 0 0) 22 0
          ∷ quiet play_list (empty_list 1) 95 0
          ∷ line write_list (replicate 44 7) 0 44 (one 44 4 0 0)
          ∷ quiet play_list (header_of 69 2 0 ++ (slot_of 68 4 1 0 ++ (slot_of 69 4 0 0 ++ (9 ∷ [])))) 0 2
          ∷ quiet play_list most_requests_list 0 131
          ∷ quiet play_list (one 44 6 0 0) 14 0
          ∷ line write_list (replicate 44 7) 0 20 (empty_list 0)
          ∷ [];
    }
    ∷ record {
      label = played_capability;
      ais = true;
      lines =
          quiet (set_attr 4 0) [] 0 0
          ∷ quiet play_list (empty_list 0) 95 0
          ∷ quiet play_list (one 44 4 0 0) 95 0
          ∷ line write_list (replicate 44 7) 0 44 (header_of 44 1 1 ++ slot_of 44 4 0 0)
          ∷ [];
    }
    ∷ record {
      label = played_attributes;
      ais = true;
      lines =
          quiet play_list (after_apf 4 1 []) 22 1
          ∷ quiet play_list (after_apf 4 0x100000000 []) 22 1
          ∷ quiet play_list (after_apf 6 1 (register 5 3 1 0 1)) 22 1
          ∷ quiet play_list (after_apf 7 1 []) 22 1
          ∷ quiet play_list (after_apf 11 1 (1 ∷ 1 ∷ [])) 22 1
          ∷ quiet play_list (after_apf 2 0 (io_for 1 2 0)) 22 1
          ∷ quiet play_list (after_apf 2 71 (io_for 1 2 0)) 22 1
          ∷ quiet play_list (after_apf 2 144 (io_for 1 2 0)) 14 1
          ∷ quiet play_list (header_of 76 2 1 ++ (slot_of 68 6 4 0 ++ (slot_of 72 4 4 0 ++ register 5 3 1 0 1))) 14 0
          ∷ quiet play_list (after_apf 2 72 (io_for 1 2 0 ++ io_for 3 4 0)) 0 2
          ∷ line (get_attr 1 144) (replicate 144 7) 0 1 (io_for 1 2 0)
          ∷ [];
    }
    ∷ []

-- all of them, proved together
boundary-examples : map given boundary_examples ≡ map expected boundary_examples
unfolding shows header_of slot_of mchk_of service_of io_for register modify done_of header one second after_apf most_requests_list two_adapters two_masked all_kinds boundary_examples
boundary-examples = refl
