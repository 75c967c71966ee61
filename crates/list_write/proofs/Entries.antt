-- Laws of bytes put one after another into a buffer, and of the entries of an image's adapters.
use Rattle.numbers.proofs.Basics.{◌≡◌, refl, sym, ap, ◌∙◌, Bool, true, false, List, [], ◌∷◌, ◌++◌, append_assoc}
use Rattle.numbers.proofs.Basics.{append-nil, ℕ, suc, ◌+◌, ◌*◌, ◌/◌, ◌%◌, ◌^◌, ◌≤◌, ◌<◌, add-zero, add_assoc, mul-add}
use Rattle.numbers.proofs.Basics.{add-one, arith, length, get_or, set, take, drop, length-append, length-map}
use Rattle.numbers.proofs.{Basics.take-append-drop, Basics.drop_of_length-le, Basics.list-get_or-map, Basics.take_at, Basics.take_all, Basics.drop_at, Basics.drop-cons, Basics.drop-drop, Basics.length-take-le, Basics.paste}
use Rattle.rules.specs.{Bytes.choose, Bytes.bytes, MoveList.ListRequest, MoveList.one_if, MoveList.by_rising_id, MoveList.register_request, MoveList.modify_request, MoveList.payloads, MoveList.written_table}
use Rattle.rules.specs.State as rules
use Rattle.rules.proofs.{Codec.length-bytes, Decode.flag-le}
use Rattle.adapters.specs.{declared.Place.Place, Values.place_of}
use Rattle.list_image.specs.{Image.unpacked, Places.places_of}
use lib.Seq.{paste-zero, paste-suc}
pub use Rattle.list_image.proofs.Packed.{unpacked-isc}
pub use Rattle.numbers.proofs.Laws.{flag}
use Rattle.list_write.specs.declared.Entry.{Entry}
use Rattle.list_write.specs.declared.Entry.TheVariants.{Register, Modify}
use Rattle.list_write.specs.Parts.{put, five, entry_of, is_written, group_of, size_of, payload_of}

-- ---- bytes put into a buffer
module _ (b : List ℕ) (at : ℕ) where
  pub put_none : b ≡ put b at []
  unfolding put
  put_none = rw (add-zero at) (sym (take-append-drop at b))

  -- what is put behind what was put
  pub put-put : (n : ℕ) (x y : List ℕ) → length x ≡ n → at + n ≤ length b → put (put b at x) (at + n) y ≡ put b at (x ++ y)
  unfolding put
  put-put n x y e h =
      let k : length (take at b ++ x) ≡ at + n = rw length-append (omega (arith, length-take-le at b (omega arith))) in
      let front : take (at + n) (take at b ++ x ++ drop (at + n) b) ≡ take at b ++ x = take_at (take at b ++ x) (drop (at + n) b) (at + n) k in
      let back : drop (at + n + length y) (take at b ++ x ++ drop (at + n) b) ≡ drop (at + n + length y) b =
      sym (drop-drop (length y) (at + n) _)
      ∙ rw (drop_at (take at b ++ x) (drop (at + n) b) (at + n) k) (drop-drop (length y) (at + n) b) in
      let m : at + n + length y ≡ at + length (x ++ y) = rw (length-append, e) (omega arith) in
      rw (e, ← append_assoc (take at b) x (drop (at + n) b), front, back, m) (simp append_assoc)

  -- what was written by one call
  pub put-paste : (x : List ℕ) (n : ℕ) → length x ≡ n → paste b at x n ≡ put b at x
  unfolding put
  put-paste x n e = rw (e, take_all n x (omega arith)) (append_assoc (take at b) x (drop (at + n) b))

-- two bytes
pub put_bytes : (b : List ℕ) (i x y : ℕ) → i + 2 ≤ length b → set (set b i x) (i + 1) y ≡ put b i (x ∷ y ∷ [])
put_bytes b i x y h =
    let xs : List ℕ = x ∷ y ∷ [] in
    let e₀ : set b i x ≡ set (paste b i xs 0) (i + 0) x = λ j. set (paste-zero b i xs j) (sym (add-zero i) j) x in
    let e₁ = paste-suc b i xs 0 0 (omega arith) (omega arith) in
    let e₂ = paste-suc b i xs 1 0 (omega arith) (omega arith) in
    ap (λ (o : List ℕ). set o (i + 1) y) (e₀ ∙ e₁) ∙ e₂ ∙ put-paste b i xs 2 refl

pub ruleset two = (put_none, put_bytes)

-- one more number behind what was put
pub put-number : (b o o' : List ℕ) (at n w v : ℕ) (x : List ℕ) → length x ≡ n → at + n ≤ length b → o ≡ put b at x → o' ≡ paste o (at + n) (bytes w v) w
    → o' ≡ put b at (x ++ bytes w v)
put-number b o o' at n w v x e h p q =
    q ∙ put-paste o (at + n) (bytes w v) w (length-bytes w v) ∙ rw p (put-put b at n x (bytes w v) e h)

pub length-five : (w a b c d e : ℕ) → length (five w a b c d e) ≡ 16 + w
length-five w a b c d e = simp (length-append, length-bytes) (omega arith)

pub five_numbers : (o₀ o₁ o₂ o₃ o₄ o₅ : List ℕ) (at w a b c d e : ℕ) → at + 16 + w ≤ length o₀ → o₁ ≡ paste o₀ at (bytes 4 a) 4
    → o₂ ≡ paste o₁ (at + 4) (bytes 4 b) 4 → o₃ ≡ paste o₂ (at + 8) (bytes 4 c) 4 → o₄ ≡ paste o₃ (at + 12) (bytes 4 d) 4
    → o₅ ≡ paste o₄ (at + 16) (bytes w e) w → o₅ ≡ put o₀ at (five w a b c d e)
five_numbers o₀ o₁ o₂ o₃ o₄ o₅ at w a b c d e h p q r s t =
    let f₁ = p ∙ put-paste o₀ at (bytes 4 a) 4 (length-bytes 4 a) in
    let f₂ = put-number o₀ o₁ o₂ at 4 4 b (bytes 4 a) (length-bytes 4 a) (omega arith) f₁ q in
    let f₃ = put-number o₀ o₂ o₃ at 8 4 c (bytes 4 a ++ bytes 4 b) (simp (length-append, length-bytes)) (omega arith) f₂ r in
    let f₄ = put-number o₀ o₃ o₄ at 12 4 d (bytes 4 a ++ bytes 4 b ++ bytes 4 c) (simp (length-append, length-bytes)) (omega arith) f₃ s in
    put-number o₀ o₄ o₅ at 16 w e (bytes 4 a ++ bytes 4 b ++ bytes 4 c ++ bytes 4 d) (simp (length-append, length-bytes)) (omega arith) f₄ t
    ∙ ap (put o₀ at) (simp append_assoc)

-- ---- tables and payloads of lists one after another
pub payloads-append : (es fs : List ListRequest) → payloads (es ++ fs) ≡ payloads es ++ payloads fs
unfolding payloads
payloads-append [] fs = refl
payloads-append (e ∷ es) fs = rw (payloads-append es fs, append_assoc e.payload (payloads es) (payloads fs))

pub table-append : (at : ℕ) (es fs : List ListRequest) → written_table at (es ++ fs) ≡ written_table at es ++ written_table (at + length (payloads es)) fs
unfolding written_table payloads
table-append at [] fs = rw (add-zero at)
table-append at (e ∷ es) fs =
    rw (table-append (at + length e.payload) es fs, length-append e.payload (payloads es), ← add_assoc at (length e.payload) (length (payloads es)))
    (simp append_assoc)

-- ---- the entry of one place
abbrev pub entry_at : Entry → ℕ → Place → ListRequest
entry_at entry id p = record { group = group_of entry; attr = 0; payload = payload_of entry id p }

abbrev pub maybe : Bool → ListRequest → List ListRequest
maybe on e = choose on (e ∷ []) []

pub length-payload : (entry : Entry) (id : ℕ) (p : Place) → length (payload_of entry id p) ≡ size_of entry
unfolding payload_of
length-payload Modify id p = simp (length-append, length-bytes)
length-payload Register id p = simp (length-append, length-bytes)

module _ (e : ListRequest) where
  pub maybe-length : (on : Bool) → length (maybe on e) ≡ one_if on
  unfolding choose
  maybe-length true = refl
  maybe-length false = refl

  pub maybe-payloads : (on : Bool) → payloads (maybe on e) ≡ choose on e.payload []
  unfolding choose payloads
  maybe-payloads true = append-nil e.payload
  maybe-payloads false = refl

  pub maybe-size : (on : Bool) → length (payloads (maybe on e)) ≡ length e.payload * one_if on
  unfolding choose payloads
  maybe-size true = rw append-nil (omega arith)
  maybe-size false = omega arith

  pub maybe-table : (on : Bool) (at : ℕ) → written_table at (maybe on e) ≡ choose on (five 8 at e.group (length e.payload) 0 e.attr) []
  unfolding choose written_table
  maybe-table true at = rw append-nil
  maybe-table false at = refl

by_place : (entry : Entry) (id : ℕ) (p : Place) (ps : List rules.Place)
    → by_rising_id (entry_of entry) id (place_of p ∷ ps) ≡ maybe (is_written entry p) (entry_at entry id p) ++ by_rising_id (entry_of entry) (suc id) ps
unfolding place_of choose by_rising_id register_request modify_request payload_of
by_place entry id p ps = go entry p.used p.masked refl refl
  where
    go : (entry : Entry) (u m : Bool) → p.used ≡ u → p.masked ≡ m
        → by_rising_id (entry_of entry) id (place_of p ∷ ps) ≡ maybe (is_written entry p) (entry_at entry id p) ++ by_rising_id (entry_of entry) (suc id) ps
    go Modify true true e f = rw (e, f)
    go Modify true false e f = rw (e, f)
    go Modify false m e f = rw e
    go Register true m e f = rw e
    go Register false m e f = rw e

-- ---- the entries of an image, from an id on
abbrev pub each_from : Entry → ℕ → List ℕ → List ListRequest
each_from entry i image = by_rising_id (entry_of entry) i (drop i (places_of image))

length-places : (image : List ℕ) → length (places_of image) ≡ length image
unfolding places_of
length-places image = length-map image (λ b. place_of (unpacked b))

-- where none is left
module _ (entry : Entry) (i : ℕ) (image : List ℕ) (h : length image ≤ i) where
  pub each_last : each_from entry i image ≡ []
  unfolding by_rising_id
  each_last = rw (drop_of_length-le (places_of image) {i = i} (rw (length-places image) h))

  pub count-done : length (each_from entry i image) ≡ 0
  count-done = ap length each_last

  pub slots-done : (out : List ℕ) (a p : ℕ) → put out a (written_table p (each_from entry i image)) ≡ out
  unfolding written_table
  slots-done out a p = rw each_last (sym (put_none out a))

  pub payloads-done : (out : List ℕ) (a : ℕ) → put out a (payloads (each_from entry i image)) ≡ out
  unfolding payloads
  payloads-done out a = rw each_last (sym (put_none out a))

module _ (entry : Entry) (i : ℕ) (image : List ℕ) (h : i < length image) where
  abbrev pub here : Place
  here = unpacked (get_or image i 0)

  pub each_next : each_from entry i image ≡ maybe (is_written entry here) (entry_at entry i here) ++ each_from entry (i + 1) image
  unfolding places_of
  each_next =
      let k : drop i (places_of image) ≡ place_of here ∷ drop (i + 1) (places_of image) =
      drop-cons (places_of image) i (place_of (unpacked 0)) (rw (length-places image) h)
      ∙ rw (list-get_or-map (λ b. place_of (unpacked b)) image i 0, add-one i) in
      rw (k, add-one i) (by_place entry i here _)

  -- a place that has an entry, and one that has none
  pub taken : is_written entry here ≡ true → each_from entry i image ≡ entry_at entry i here ∷ each_from entry (i + 1) image
  unfolding choose
  taken t = each_next ∙ rw t

  pub passed-by : is_written entry here ≡ false → each_from entry i image ≡ each_from entry (i + 1) image
  unfolding choose
  passed-by t = each_next ∙ rw t

  -- how many are left, and the room for k bytes of each
  module _ (t : is_written entry here ≡ true) where
    pub count-taken : length (each_from entry i image) ≡ 1 + length (each_from entry (i + 1) image)
    count-taken = ap length (taken t) ∙ omega arith

    pub room-taken : (a k n : ℕ) → a + k * length (each_from entry i image) ≤ n → a + k + k * length (each_from entry (i + 1) image) ≤ n
    room-taken a k n r = omega (arith, rw count-taken at r, mul-add k 1 (length (each_from entry (i + 1) image)))

  table-cons : (p : ℕ) (es : List ListRequest)
      → written_table p (entry_at entry i here ∷ es) ≡ five 8 p (group_of entry) (size_of entry) 0 0 ++ written_table (p + size_of entry) es
  unfolding written_table
  table-cons p es = rw (length-payload entry i here) (simp append_assoc)

  -- a turn of the loops where a place has an entry: of the table's, and of the payloads'
  module _ (t : is_written entry here ≡ true) (out out' : List ℕ) (a : ℕ) where
    pub slots-turn : (p : ℕ) → a + 24 ≤ length out → out' ≡ put out a (five 8 p (group_of entry) (size_of entry) 0 0)
        → put out a (written_table p (each_from entry i image)) ≡ put out' (a + 24) (written_table (p + size_of entry) (each_from entry (i + 1) image))
    slots-turn p r e =
        rw (taken t, table-cons p, e) (sym (put-put out a 24 (five 8 p (group_of entry) (size_of entry) 0 0) _ (length-five 8 p (group_of entry) (size_of entry) 0 0) r))

    pub payloads-turn : a + size_of entry ≤ length out → out' ≡ put out a (payload_of entry i here)
        → put out a (payloads (each_from entry i image)) ≡ put out' (a + size_of entry) (payloads (each_from entry (i + 1) image))
    unfolding payloads
    payloads-turn r e = rw (taken t, e) (sym (put-put out a (size_of entry) (payload_of entry i here) _ (length-payload entry i here) r))

pub ruleset turns = (count-taken, count-done, room-taken, passed-by, slots-turn, payloads-turn, slots-done, payloads-done, unpacked-isc)

-- the four bytes of REGISTER behind the id
pub four_bytes : (a b c d : ℕ) → a < 256 → b ≤ 1 → c ≤ 1 → d ≤ 1 → bytes 4 (a * 16777216 + (b * 65536 + c * 256 + d)) ≡ a ∷ b ∷ c ∷ d ∷ []
unfolding bytes
four_bytes a b c d p q r s =
    let v : ℕ = a * 16777216 + (b * 65536 + c * 256 + d) in
    let e₁ : v / 256 ^ 3 % 256 ≡ a = omega arith in
    let e₂ : v / 256 ^ 2 % 256 ≡ b = omega arith in
    let e₃ : v / 256 ^ 1 % 256 ≡ c = omega arith in
    let e₄ : v / 256 ^ 0 % 256 ≡ d = omega arith in
    λ i. e₁ i ∷ e₂ i ∷ e₃ i ∷ e₄ i ∷ []

-- what the calls write of a MODIFY and of a REGISTER
module _ (o₀ o₁ o₂ : List ℕ) (at id : ℕ) (p : Place) (h : at + 8 ≤ length o₀) (f : o₁ ≡ paste o₀ at (bytes 4 id) 4) where
  pub modify-put : (o₃ : List ℕ) → o₂ ≡ paste o₁ (at + 4) (bytes 4 16842752) 4 → o₃ ≡ paste o₂ (at + 8) (bytes 8 0) 8
      → o₃ ≡ put o₀ at (payload_of Modify id p)
  unfolding payload_of bytes
  modify-put o₃ g k =
      let f₁ = f ∙ put-paste o₀ at (bytes 4 id) 4 (length-bytes 4 id) in
      let f₂ = put-number o₀ o₁ o₂ at 4 4 16842752 (bytes 4 id) (length-bytes 4 id) (omega arith) f₁ g in
      put-number o₀ o₂ o₃ at 8 8 0 (bytes 4 id ++ bytes 4 16842752) (simp length-append) h f₂ k

  pub register-put : o₂ ≡ paste o₁ (at + 4) (bytes 4 (p.isc.0 * 16777216 + (one_if p.maskable * 65536 + one_if p.swap * 256 + one_if p.suppressible))) 4
      → p.isc.0 ≤ 7 → o₂ ≡ put o₀ at (payload_of Register id p)
  unfolding payload_of
  register-put g k =
      put-number o₀ o₁ o₂ at 4 4 _ (bytes 4 id) (length-bytes 4 id) (omega arith) (f ∙ put-paste o₀ at (bytes 4 id) 4 (length-bytes 4 id)) g
      ∙ rw (four_bytes p.isc.0 (one_if p.maskable) (one_if p.swap) (one_if p.suppressible) (omega arith) (flag-le p.maskable) (flag-le p.swap) (flag-le p.suppressible))

pub ruleset payload = (modify-put, register-put, flag)

-- the payloads of all adapters' entries have one length each
pub each-size : (entry : Entry) (id : ℕ) (image : List ℕ)
    → let es = by_rising_id (entry_of entry) id (places_of image) in length (payloads es) ≡ size_of entry * length es
unfolding places_of by_rising_id payloads
each-size entry id [] = omega arith
each-size entry id (b ∷ image) =
    let x = maybe (is_written entry (unpacked b)) (entry_at entry id (unpacked b)) in
    let es = by_rising_id (entry_of entry) (suc id) (places_of image) in
    rw (
      by_place entry id (unpacked b) (places_of image),
      payloads-append x es,
      length-append (payloads x) (payloads es),
      length-append x es,
      mul-add (size_of entry) (length x) (length es),
      each-size entry (suc id) image,
      maybe-size (entry_at entry id (unpacked b)) (is_written entry (unpacked b)),
      maybe-length (entry_at entry id (unpacked b)) (is_written entry (unpacked b)),
      length-payload entry id (unpacked b),
    )
