-- 01, 'Move list', written: the entries of a list, by what the code counts of them.
use Rattle.std.specs.Prelude.{ℕ, ◌+◌, ◌*◌, ◌≤◌, ◌≡◌, Bool, length, ltb, Result, OnErr}
use mathlib.Core.List.{List, [], ◌∷◌, ◌++◌, flatten}
use Rattle.rules.specs.Bytes.{choose}
use Rattle.rules.specs.State.{Limits, State, Pending, Record, record_bytes}
use Rattle.rules.specs.MoveList.{ListRequest, one_if, enqueue_request, apf_request, writes}
use Rattle.list_write.specs.Parts.{each}
use Rattle.list_write.specs.declared.Entry.TheVariants.{Register, Modify}
use Rattle.list_write.specs.declared.Parts.{Parts}
use Rattle.answers.specs.declared.Refusal.{Refusal}
use Rattle.answers.specs.Answers.{Answers, as_answer}
use Rattle.adapters.specs.declared.Device.{Device}
use Rattle.adapters.specs.Values.{device_of}
use Rattle.list_image.specs.Image.{image_size}
use Rattle.list_image.specs.Places.{places_of}
use Rattle.store_queues.specs.Slots.{most_pending}

-- AISM_ALL, where it is written
abbrev pub mask_entry : Bool → ℕ → ℕ → List ListRequest
mask_entry masks simm nimm = choose masks (record { group = 11; attr = 0; payload = simm ∷ nimm ∷ [] } ∷ []) []

-- the entries REGISTER and MODIFY of an image's adapters; the entries ENQUEUE of the records, AISM_ALL and APF_ENABLE;
-- all of these
unfoldable pub adapter_entries : List ℕ → List ListRequest
adapter_entries image = each Register image ++ each Modify image

unfoldable pub other_entries : List Record → Bool → ℕ → ℕ → Bool → List ListRequest
other_entries rs masks simm nimm apf = enqueue_request rs ++ (mask_entry masks simm nimm ++ apf_request apf)

abbrev pub entries_from : List ℕ → List Record → Bool → ℕ → ℕ → Bool → List ListRequest
entries_from image rs masks simm nimm apf = adapter_entries image ++ other_entries rs masks simm nimm apf

-- how many entries there are, and how many bytes their payloads have
abbrev pub other_count : Parts → ℕ
other_count p = one_if (ltb 0 p.records) + one_if p.masks + one_if p.apf

abbrev pub count_of : Parts → ℕ
count_of p = p.registers + p.modifies + other_count p

abbrev pub bytes_of : Parts → ℕ
bytes_of p = 8 * p.registers + 16 * p.modifies + record_bytes * p.records + 2 * one_if p.masks

-- the most of both: every place is registered and masked, the listing is full, and AISM_ALL and APF_ENABLE are written
abbrev pub most_entries : ℕ
most_entries = 2 * image_size + 3

abbrev pub most_payload : ℕ
most_payload = (8 + 16) * image_size + record_bytes * most_pending + 2

-- the counts of a whole image's entries, with their bounds and that of the records
pub record Counted (image : List ℕ) (p : Parts) : Type 0 where
  pub whole : length image ≡ image_size
  pub registers : p.registers ≡ length (each Register image)
  pub modifies : p.modifies ≡ length (each Modify image)
  pub few_registers : p.registers ≤ image_size
  pub few_modifies : p.modifies ≤ image_size
  pub few_records : p.records ≤ most_pending

-- n whole records
pub record WholeListing (rs : List Record) (n : ℕ) : Type 0 where
  pub count : length rs ≡ n
  pub size : length (flatten rs) ≡ record_bytes * n

-- writing a list: p is what is pending, the table is given as an image, and the device record by value
pub record Written (ais : Bool) (d : Device) (image : List ℕ) (p : Pending) (b b' : List ℕ) (r : Result ℕ Refusal)
    : Type 0 where
  pub answer : (L : Limits) (s : State) → s.ais ≡ ais → s.adapters ≡ places_of image → s.pending ≡ p
      → s.device ≡ device_of d → Answers L s b (writes s b) (as_answer r) s b'
  pub kept : OnErr r (b' ≡ b)
