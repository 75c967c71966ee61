-- What every list of calls leaves of fresh sources: as many sources as there were; of each that is initialised type and
-- level are one bit, the level of an MSI is 0, and the server of the targeting is one that there is.
use Prim.Native.Nat.{ℕ, ◌<◌}
use mathlib.Core.Path.{◌≡◌, refl, ◌∙◌, subst}
use mathlib.Core.Bool.{Bool, true, false}
use mathlib.Core.Option.{Option, none, some}
use mathlib.Core.List.{List, [], ◌∷◌}
use native.Mathlib.Omega.{arith}
use borrow.Author.Tests.{ltb-true}
use lib.ListN.{length, get_or, length-set, length-replicate}
use lib.Dec.{leb, ltb, eqb}
use Rattle.rules.specs.Bytes.{choose}
use Rattle.rules.specs.Outcome.{EINVAL, EFAULT, E2BIG, Outcome, refuse_with, accept, reset_with, result}
use Rattle.rules.specs.Invariant.{All}
use Rattle.rules.proofs.Lists.{all_set, all-get, all_replicate}
use Rattle.rules.proofs.Checks.{Comes, need-comes, present-comes}
use Rattle.xive_rules.specs.Words.{word_bytes, word_in, kind_in, level_in, server_in}
use Rattle.xive_rules.specs.Sources.{ENOENT, Limits, Source, Sources, fresh, with_source, initial, targeted, initialises, targets, on_source, leaves, Ask, initialise, target, sync, reading, outcome, Call, step, after, values_of, source_at, reads}
use Rattle.xive_rules.proofs.Laws.{Never, not_some}

pub record SoundSource (L : Limits) (x : Source) : Type 0 where
  pub kind : x.kind < 2
  pub level : x.level < 2
  pub msi : x.kind ≡ 0 → x.level ≡ 0
  pub server : (word : ℕ) → x.targeting ≡ some word → server_in word < L.servers

abbrev pub SoundPlace : Limits → Option Source → Type 0
SoundPlace L none = Unit {0}
SoundPlace L (some x) = SoundSource L x

pub record Sound (L : Limits) (s : Sources) : Type 0 where
  pub number : length s ≡ L.sources
  pub each : All (SoundPlace L) s

pub fresh-sound : (L : Limits) → Sound L (fresh L)
unfolding fresh
fresh-sound L = record { number = length-replicate L.sources none; each = all_replicate (SoundPlace L) L.sources none tt }

pub level-chosen : (t : Bool) (l : ℕ) → l < 2 → choose t l 0 < 2
unfolding choose
level-chosen true l h = h
level-chosen false l h = omega arith

pub msi-level : (k l : ℕ) → k ≡ 0 → choose (eqb k 1) l 0 ≡ 0
unfolding choose
msi-level k l h = rw h

initial-sound : (L : Limits) (word : ℕ) → SoundSource L (initial word)
unfolding initial
initial-sound L word =
    record {
      kind = omega arith;
      level = level-chosen (eqb (kind_in word) 1) (level_in word) (omega arith);
      msi = msi-level (kind_in word) (level_in word);
      server = λ w h. not_some w h;
    }

targeted-sound : (L : Limits) (word : ℕ) (x : Source) → SoundSource L x → server_in word < L.servers → SoundSource L (targeted word x)
unfolding targeted
targeted-sound L word x h k =
    record {
      kind = h.kind;
      level = h.level;
      msi = h.msi;
      server = λ w e. subst (λ (v : ℕ). server_in v < L.servers) (same e) k;
    }
  where
    same : {v w : ℕ} → some v ≡ some w → v ≡ w
    same e = cc

-- every call keeps it
module _ (L : Limits) (s : Sources) (sound : Sound L s) where
  abbrev Any : ℕ → ℕ → Type 0
  Any code count = Unit {0}

  abbrev Leaves : ℕ → Sources → List ℕ → Type 0
  Leaves count next written = Sound L next

  abbrev Keeps : Outcome Sources → Type 0
  Keeps = Comes Any Leaves Never

  with-one : (n : ℕ) (x : Source) → SoundSource L x → Sound L (with_source n x s)
  with-one n x h =
      record { number = length-set s n (some x) ∙ sound.number; each = all_set (SoundPlace L) s n (some x) sound.each h }

  on_one : (n : ℕ) (rest : Source → Outcome Sources) → ((x : Source) → SoundSource L x → Keeps (rest x)) → Keeps (on_source L s n rest)
  unfolding on_source
  on_one n rest h =
      need-comes Any Leaves Never (ltb n L.sources) ENOENT _ tt
      (λ e. present-comes Any Leaves Never (get_or s n none) EINVAL rest tt (λ x k. h x (subst (SoundPlace L) k (all-get (SoundPlace L) s n none sound.each tt))))

  keeps : (ask : Ask) (b : List ℕ) → Keeps (outcome L s ask b)
  unfolding outcome initialises targets leaves
  keeps (initialise n) b =
      need-comes Any Leaves Never (leb word_bytes (length b)) EFAULT _ tt
      (λ e. need-comes Any Leaves Never (ltb n L.sources) E2BIG _ tt (λ k. with-one n (initial (word_in b)) (initial-sound L (word_in b))))
  keeps (target n) b =
      need-comes Any Leaves Never (leb word_bytes (length b)) EFAULT _ tt
      (λ e. on_one n _
      (λ x h. need-comes Any Leaves Never (ltb (server_in (word_in b)) L.servers) EINVAL _ tt
      (λ k. with-one n (targeted (word_in b) x) (targeted-sound L (word_in b) x h (ltb-true (server_in (word_in b)) L.servers k)))))
  keeps (sync n) b = on_one n _ (λ x h. sound)
  keeps (reading n) b = on_one n _ (λ x h. sound)

  pub step-sound : (c : Call) → Sound L (step L s c).next
  unfolding step result
  step-sound c = told (outcome L s c.ask c.payload) (keeps c.ask c.payload)
    where
      told : (o : Outcome Sources) → Keeps o → Sound L (result (fresh L) s c.payload o).next
      told (refuse_with code count) h = sound
      told (accept count next written) h = h
      told (reset_with code place further) h = absurd h

pub reachable : (L : Limits) (cs : List Call) (s : Sources) → Sound L s → Sound L (after L s cs)
unfolding after
reachable L [] s h = h
reachable L (c ∷ cs) s h = reachable L cs (step L s c).next (step-sound L s h c)

-- 'Level is .. 0 for an MSI': so it is read after every list of calls
pub msi-reads-zero : (L : Limits) (cs : List Call) (n : ℕ) → (reads L (after L (fresh L) cs) n).kind ≡ 0 → (reads L (after L (fresh L) cs) n).level ≡ 0
unfolding source_at values_of choose
msi-reads-zero L cs n = by-test (ltb n L.sources) _ (all-get (SoundPlace L) (after L (fresh L) cs) n none (reachable L cs (fresh L) (fresh-sound L)).each tt)
  where
    of_one : (o : Option Source) → SoundPlace L o → (values_of o).kind ≡ 0 → (values_of o).level ≡ 0
    of_one none h k = refl
    of_one (some x) h k = h.msi k

    by-test : (t : Bool) (o : Option Source) → SoundPlace L o → (values_of (choose t o none)).kind ≡ 0 → (values_of (choose t o none)).level ≡ 0
    by-test true o h k = of_one o h k
    by-test false o h k = refl
