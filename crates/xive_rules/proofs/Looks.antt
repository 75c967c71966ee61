-- The look for an initialised source comes to a refusal or goes on with the source, by what there is at the number.
--
use Prim.Native.Nat.{ℕ}
use mathlib.Core.Path.{◌≡◌, refl}
use mathlib.Core.Bool.{Bool, true, false}
use mathlib.Core.Option.{Option, none, some}
use lib.ListN.{get_or}
use lib.Dec.{ltb}
use Rattle.rules.specs.Bytes.{choose}
use Rattle.rules.specs.Outcome.{EINVAL, Outcome, refuse, need◌else◌⨾◌, present◌else◌⨾◌}
use Rattle.xive_rules.specs.Sources.{ENOENT, Limits, Source, Sources, on_source, source_at}

lacks : {A : Type 0} (t : Bool) (o : Option Source) (rest : Source → Outcome A) → choose t o none ≡ none
    → (need t else ENOENT ⨾ present o else EINVAL ⨾ rest) ≡ refuse (choose t EINVAL ENOENT)
unfolding choose need◌else◌⨾◌ present◌else◌⨾◌
lacks true o rest h = rw h
lacks false o rest h = refl

finds : {A : Type 0} (t : Bool) (o : Option Source) (x : Source) (rest : Source → Outcome A) → choose t o none ≡ some x
    → (need t else ENOENT ⨾ present o else EINVAL ⨾ rest) ≡ rest x
unfolding choose need◌else◌⨾◌ present◌else◌⨾◌
finds true o x rest h = rw h
finds false o x rest h = cc

module _ {A : Type 0} (L : Limits) (s : Sources) (n : ℕ) (rest : Source → Outcome A) where
  pub lacking : source_at L s n ≡ none → on_source L s n rest ≡ refuse (choose (ltb n L.sources) EINVAL ENOENT)
  unfolding source_at on_source
  lacking h = lacks (ltb n L.sources) (get_or s n none) rest h

  pub finding : (x : Source) → source_at L s n ≡ some x → on_source L s n rest ≡ rest x
  unfolding source_at on_source
  finding x h = finds (ltb n L.sources) (get_or s n none) x rest h
