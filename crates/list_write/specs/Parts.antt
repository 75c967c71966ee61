-- 01, 'Move list', written: the parts of a list, and the entries of the adapters of an image.
use Rattle.std.specs.Prelude.{ℕ, ◌+◌, Bool, ◌&&◌, List, [], ◌∷◌, ◌++◌, length, take, drop}
use Rattle.std.specs.Prelude.{replicate}
use Rattle.rules.specs.Bytes.{bytes}
use Rattle.rules.specs.State.{Adapter}
use Rattle.rules.specs.MoveList.{ListRequest, one_if, by_rising_id, register_request, modify_request}
use Rattle.list_write.specs.declared.Entry.{Entry}
use Rattle.list_write.specs.declared.Entry.TheVariants.{Register, Modify}
use Rattle.adapters.specs.declared.Place.{Place}
use Rattle.list_image.specs.Places.{places_of}

-- a buffer with these bytes from a place on
unfoldable pub put : List ℕ → ℕ → List ℕ → List ℕ
put b at xs = take at b ++ (xs ++ drop (at + length xs) b)

-- Four words and a number of w bytes: the header with w = 4, a table entry with w = 8.
abbrev pub five : (w a b c d e : ℕ) → List ℕ
five w a b c d e = bytes 4 a ++ (bytes 4 b ++ (bytes 4 c ++ (bytes 4 d ++ bytes w e)))

-- `entry_of`: the entry of an adapter, MODIFY (if it is masked) or REGISTER. `each`: such entries of all adapters of an
-- image, by rising id.
abbrev pub entry_of : Entry → ℕ → Adapter → List ListRequest
entry_of Modify = modify_request
entry_of Register = register_request

abbrev pub each : Entry → List ℕ → List ListRequest
each entry image = by_rising_id (entry_of entry) 0 (places_of image)

-- whether a place has such an entry; the entry's group; the length of its payload
abbrev pub is_written : Entry → Place → Bool
is_written Modify p = p.used && p.masked
is_written Register p = p.used

abbrev pub group_of : Entry → ℕ
group_of Modify = 7
group_of Register = 6

abbrev pub size_of : Entry → ℕ
size_of Modify = 16
size_of Register = 8

-- the payload: MODIFY type 1 with mask 1 and unread bytes 0, or REGISTER with bytes 0 or 1
unfoldable pub payload_of : Entry → ℕ → Place → List ℕ
payload_of Modify id p = bytes 4 id ++ (1 ∷ 1 ∷ replicate 10 0)
payload_of Register id p = bytes 4 id ++ (p.isc.0 ∷ one_if p.maskable ∷ one_if p.swap ∷ one_if p.suppressible ∷ [])
