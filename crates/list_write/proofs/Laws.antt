-- Laws of a list's parts put one after another, and of what is counted of them.
use Rattle.numbers.proofs.Basics.{◌≡◌, refl, sym, ap, ◌∙◌, Bool, true, false, ◌&&◌, ◌||◌, List, [], ◌∷◌, ◌++◌}
use Rattle.numbers.proofs.Basics.{flatten, append_assoc, append-nil, ℕ, ◌+◌, ◌-◌, ◌*◌, ◌≤◌, ◌<◌}
use Rattle.numbers.proofs.Basics.{zero-add, arith, length, take, drop, length-append, length-drop, drop_of_length-le}
use Rattle.numbers.proofs.Basics.{take_all, drop-drop, ltb, lt-ltb, le-leb, lt-leb}
use Rattle.rules.specs.{Bytes.choose, State.Limits, State.State, State.Pending, State.Record, State.listing, Outcome.result, Requests.non_zero, Machine.answer_of}
use Rattle.rules.specs.MoveList.{ListRequest, one_if, by_rising_id, register_request, modify_request, enqueue_request, aism_all_request, apf_request, list_requests, payloads, written_table, total, move_list, writes}
use Rattle.rules.proofs.{Checks.passes, Checks.fails, Decode.length-table}
use Rattle.answers.specs.{Answers.Answers, Answers.answered}
use Rattle.adapters.specs.{declared.Device.Device, Values.device_of}
use Rattle.list_image.specs.Places.{places_of}
use Rattle.list_write.specs.declared.Entry.TheVariants.{Register, Modify}
use Rattle.list_write.specs.{Parts.put, Parts.five, Parts.each, declared.Parts.Parts}
use Rattle.list_write.proofs.Entries.{put-put, length-five, maybe, maybe-length, maybe-payloads, maybe-size, maybe-table, payloads-append, table-append, each-size}
use Rattle.list_write.specs.Write.{mask_entry, adapter_entries, other_entries, entries_from, other_count, count_of, bytes_of, Counted, WholeListing}

-- ---- parts one after another
pub put_next : (b o o' : List ℕ) (at n k : ℕ) (x y : List ℕ) → length x ≡ n → at + n ≤ length b → k ≡ at + n → o ≡ put b at x → o' ≡ put o k y
    → o' ≡ put b at (x ++ y)
put_next b o o' at n k x y e h j p q = q ∙ rw (j, p) (put-put b at n x y e h)

module _ (b o o' : List ℕ) (at : ℕ) (es fs : List ListRequest) where
  pub table-next : (start k m j t : ℕ) → length es ≡ k → length (payloads es) ≡ m → at + 24 * k ≤ length b → j ≡ at + 24 * k → t ≡ start + m
      → o ≡ put b at (written_table start es) → o' ≡ put o j (written_table t fs) → o' ≡ put b at (written_table start (es ++ fs))
  table-next start k m j t ek em h ej et p q =
      let n : length (written_table start es) ≡ 24 * k = rw (length-table start es, ek) in
      put_next b o o' at (24 * k) j (written_table start es) (written_table t fs) n h ej p q ∙ rw (table-append start es fs, em, et)

  pub payloads-next : (m j : ℕ) → length (payloads es) ≡ m → at + m ≤ length b → j ≡ at + m → o ≡ put b at (payloads es) → o' ≡ put o j (payloads fs)
      → o' ≡ put b at (payloads (es ++ fs))
  payloads-next m j em h ej p q = put_next b o o' at m j (payloads es) (payloads fs) em h ej p q ∙ rw (payloads-append es fs)

-- ---- ENQUEUE, AISM_ALL, APF_ENABLE: each is one entry or none
abbrev of_records : List Record → ListRequest
of_records rs = record { group = 2; attr = 72 * length rs; payload = flatten rs }

abbrev of_masks : ℕ → ℕ → ListRequest
of_masks simm nimm = record { group = 11; attr = 0; payload = simm ∷ nimm ∷ [] }

abbrev of_apf : ListRequest
of_apf = record { group = 4; attr = 0; payload = [] }

enqueue-is : (rs : List Record) (n : ℕ) → length rs ≡ n → enqueue_request rs ≡ maybe (ltb 0 n) (of_records rs)
unfolding enqueue_request choose
enqueue-is [] n e = rw (← e)
enqueue-is (r ∷ rs) n e = rw (lt-ltb 0 n (omega arith))

apf-is : (apf : Bool) → apf_request apf ≡ maybe apf of_apf
unfolding apf_request choose
apf-is true = refl
apf-is false = refl

none-of-apf : (apf : Bool) → payloads (apf_request apf) ≡ []
unfolding apf_request payloads
none-of-apf true = refl
none-of-apf false = refl

enqueue-payloads : (rs : List Record) → payloads (enqueue_request rs) ≡ flatten rs
unfolding enqueue_request payloads flatten
enqueue-payloads [] = refl
enqueue-payloads (r ∷ rs) = append-nil (flatten (r ∷ rs))

module _ (rs : List Record) (n : ℕ) (w : WholeListing rs n) where
  enqueue-count : length (enqueue_request rs) ≡ one_if (ltb 0 n)
  enqueue-count = rw (enqueue-is rs n w.count) (maybe-length (of_records rs) (ltb 0 n))

  enqueue-size : length (payloads (enqueue_request rs)) ≡ 72 * n
  enqueue-size = rw (enqueue-payloads rs) w.size

-- ---- how many they are, and how long
module _ (image : List ℕ) (p : Parts) (k : Counted image p) where
  pub registers-size : length (payloads (each Register image)) ≡ 8 * p.registers
  registers-size = rw k.registers (each-size Register 0 image)

  modifies-size : length (payloads (each Modify image)) ≡ 16 * p.modifies
  modifies-size = rw k.modifies (each-size Modify 0 image)

  pub adapters-count : length (adapter_entries image) ≡ p.registers + p.modifies
  unfolding adapter_entries
  adapters-count = rw (length-append, k.registers, k.modifies)

  pub adapters-size : length (payloads (adapter_entries image)) ≡ 8 * p.registers + 16 * p.modifies
  unfolding adapter_entries
  adapters-size = rw (payloads-append (each Register image) (each Modify image), length-append, registers-size, modifies-size)

  module _ (rs : List Record) (simm nimm : ℕ) (w : WholeListing rs p.records) where
    others-count : length (other_entries rs p.masks simm nimm p.apf) ≡ other_count p
    unfolding other_entries
    others-count =
        simp length-append
        (omega (arith, enqueue-count rs p.records w, maybe-length (of_masks simm nimm) p.masks, ap length (apf-is p.apf), maybe-length of_apf p.apf))

    others-size : length (payloads (other_entries rs p.masks simm nimm p.apf)) ≡ 72 * p.records + 2 * one_if p.masks
    unfolding other_entries
    others-size =
        simp (payloads-append, length-append)
        (omega (arith, enqueue-size rs p.records w, maybe-size (of_masks simm nimm) p.masks, ap length (none-of-apf p.apf)))

    pub entries-count : length (entries_from image rs p.masks simm nimm p.apf) ≡ count_of p
    entries-count = rw (length-append, adapters-count, others-count)

    pub entries-size : length (payloads (entries_from image rs p.masks simm nimm p.apf)) ≡ bytes_of p
    entries-size =
        rw (payloads-append (adapter_entries image) (other_entries rs p.masks simm nimm p.apf), length-append, adapters-size, others-size) (omega arith)

-- ---- where the listing is put
pub listing_put : (b ys fs : List ℕ) (at n : ℕ) → at + n ≤ length b → length fs ≡ n → ys ≡ fs ++ drop n (take (length b - at) (drop at b))
    → take at b ++ (ys ++ drop (length b - at) (drop at b)) ≡ put b at fs
unfolding put
listing_put b ys fs at n h e p =
    let long : length (drop at b) ≤ length b - at = rw length-drop (omega arith) in
    rw (p, drop_of_length-le (drop at b) {i = length b - at} long, append-nil, take_all (length b - at) (drop at b) long, drop-drop n at b, e)

-- ---- the whole list
pub entries-are : (s : State) (ais : Bool) (image : List ℕ) (p : Pending) (d : Device) (masks : Bool) → s.ais ≡ ais → s.adapters ≡ places_of image
    → s.pending ≡ p → s.device ≡ device_of d → masks ≡ (ais && (non_zero d.simm || non_zero d.nimm))
    → list_requests s ≡ entries_from image (listing p) masks d.simm d.nimm d.apf
unfolding list_requests adapter_entries other_entries aism_all_request
entries-are s ais image p d masks e1 e2 e3 e4 em =
    (λ i. by_rising_id register_request 0 (e2 i)
    ++ (by_rising_id modify_request 0 (e2 i)
    ++ (enqueue_request (listing (e3 i)) ++ (aism_all_request (e1 i) (e4 i).simm (e4 i).nimm ++ apf_request (e4 i).apf))))
    ∙ rw em (sym (append_assoc (each Register image) (each Modify image) _))

at-start : (b x : List ℕ) → put b 0 x ≡ x ++ drop (length x) b
unfolding put
at-start b x = rw (zero-add (length x))

module _ (ais : Bool) (es : List ListRequest) (o₀ o₁ o₂ o₃ : List ℕ) (n t : ℕ) (en : length es ≡ n) (et : t ≡ total es) (h : t ≤ length o₀) where
  pub list_put : o₁ ≡ put o₀ 0 (five 4 t n 20 (20 + 24 * n) (one_if ais)) → o₂ ≡ put o₁ 20 (written_table (20 + 24 * n) es) → o₃ ≡ put o₂ (20 + 24 * n) (payloads es)
      → o₃ ≡ move_list ais es ++ drop (length (move_list ais es)) o₀
  unfolding move_list
  list_put p q r =
      let f₁ = put_next o₀ o₁ o₂ 0 20 20 _ _ (length-five 4 t n 20 (20 + 24 * n) (one_if ais)) (omega (arith, en)) refl p q in
      let k : length (five 4 t n 20 (20 + 24 * n) (one_if ais) ++ written_table (20 + 24 * n) es) ≡ 20 + 24 * n =
      rw (length-append, length-five 4 t n 20 (20 + 24 * n) (one_if ais), length-table (20 + 24 * n) es, en) in
      let f₂ = put_next o₀ o₂ o₃ 0 (20 + 24 * n) (20 + 24 * n) _ _ k (omega (arith, en)) (omega arith) f₁ r in
      let x : five 4 t n 20 (20 + 24 * n) (one_if ais) ++ written_table (20 + 24 * n) es ++ payloads es ≡ move_list ais es = rw (et, ← en) (simp append_assoc) in
      f₂ ∙ rw x (at-start o₀ (move_list ais es))

-- the answer where the list does not fit, and where it does
module _ (L : Limits) (s : State) (b : List ℕ) (t : ℕ) (es : List ListRequest) (e : es ≡ list_requests s) (et : t ≡ total es) where
  pub too_short : length b < t → Answers L s b (writes s b) (answered 12 0) s b
  unfolding writes result
  too_short h = ap (answer_of L s b) (fails _ _ _ (lt-leb (total (list_requests s)) (length b) (rw (← e, ← et) h)))

  pub written : (out : List ℕ) (ais : Bool) → s.ais ≡ ais → t ≤ length b
      → out ≡ move_list ais es ++ drop (length (move_list ais es)) b → Answers L s b (writes s b) (answered 0 t) s out
  unfolding writes result
  written out ais ea h g =
      ap (answer_of L s b) (passes _ _ _ (le-leb (total (list_requests s)) (length b) (rw (← e, ← et) h)))
      ∙ rw (← e, ea) (rw (← et, g))

-- ---- what the calls put
module _ (p : Parts) (rs : List Record) (simm nimm : ℕ) (w : WholeListing rs p.records) where
  pub others_put : (at pay q m : ℕ) (o₀ o₁ o₂ o₃ : List ℕ) → q ≡ one_if (ltb 0 p.records) → m ≡ one_if p.masks → at + 24 * other_count p ≤ length o₀
      → o₁ ≡ put o₀ at (choose (ltb 0 p.records) (five 8 pay 2 (72 * p.records) 0 (72 * p.records)) [])
      → o₂ ≡ put o₁ (at + 24 * q) (choose p.masks (five 8 (pay + 72 * p.records) 11 2 0 0) [])
      → o₃ ≡ put o₂ (at + 24 * q + 24 * m) (choose p.apf (five 8 (pay + 72 * p.records + 2 * m) 4 0 0 0) [])
      → o₃ ≡ put o₀ at (written_table pay (other_entries rs p.masks simm nimm p.apf))
  unfolding other_entries
  others_put at pay q m o₀ o₁ o₂ o₃ eq em h f g k =
      let E = enqueue_request rs in
      let M = mask_entry p.masks simm nimm in
      let c = enqueue-count rs p.records w in
      let z = enqueue-size rs p.records w in
      let g₂ = table-next o₀ o₁ o₂ at E M pay _ _ (at + 24 * q) (pay + 72 * p.records) c z (omega arith) (omega arith) refl
      (rw (enqueue-is rs p.records w.count, maybe-table (of_records rs) (ltb 0 p.records) pay, w.size, w.count) f) (rw (maybe-table (of_masks simm nimm) p.masks (pay + 72 * p.records)) g) in
      let d : length (E ++ M) ≡ one_if (ltb 0 p.records) + one_if p.masks = rw (length-append, c, maybe-length (of_masks simm nimm) p.masks) in
      let y : length (payloads (E ++ M)) ≡ 72 * p.records + 2 * one_if p.masks = rw (payloads-append E M, length-append, z, maybe-size (of_masks simm nimm) p.masks) in
      table-next o₀ o₂ o₃ at (E ++ M) (apf_request p.apf) pay _ _ (at + 24 * q + 24 * m) (pay + 72 * p.records + 2 * m) d y (omega arith) (omega arith) (omega arith) g₂
      (rw (apf-is p.apf, maybe-table of_apf p.apf (pay + 72 * p.records + 2 * m)) k)
      ∙ ap (λ (es : List ListRequest). put o₀ at (written_table pay es)) (append_assoc E M (apf_request p.apf))

  pub payloads_put : (image : List ℕ) → Counted image p → (start : ℕ) (o₀ o₁ o₂ o₃ o₄ : List ℕ) → start + bytes_of p ≤ length o₀
      → o₁ ≡ put o₀ start (payloads (each Register image)) → o₂ ≡ put o₁ (start + 8 * p.registers) (payloads (each Modify image))
      → o₃ ≡ put o₂ (start + 8 * p.registers + 16 * p.modifies) (flatten rs)
      → o₄ ≡ put o₃ (start + 8 * p.registers + 16 * p.modifies + 72 * p.records) (choose p.masks (simm ∷ nimm ∷ []) [])
      → o₄ ≡ put o₀ start (payloads (entries_from image rs p.masks simm nimm p.apf))
  unfolding adapter_entries other_entries
  payloads_put image k start o₀ o₁ o₂ o₃ o₄ h f g i j =
      let A = adapter_entries image in
      let E = enqueue_request rs in
      let M = mask_entry p.masks simm nimm in
      let s = adapters-size image p k in
      let g₂ = payloads-next o₀ o₁ o₂ start (each Register image) (each Modify image) _ _ (registers-size image p k) (omega arith) refl f g in
      let g₃ = payloads-next o₀ o₂ o₃ start A E _ (start + 8 * p.registers + 16 * p.modifies) s (omega arith) (omega arith) g₂ (rw (enqueue-payloads rs) i) in
      let y : length (payloads (A ++ E)) ≡ 8 * p.registers + 16 * p.modifies + 72 * p.records = rw (payloads-append A E, length-append, s, enqueue-size rs p.records w) in
      payloads-next o₀ o₃ o₄ start (A ++ E) M _ (start + 8 * p.registers + 16 * p.modifies + 72 * p.records) y (omega arith) (omega arith) g₃ (rw (maybe-payloads (of_masks simm nimm) p.masks) j)
      ∙ ap (put o₀ start) (simp (payloads-append, none-of-apf, append-nil, append_assoc))
