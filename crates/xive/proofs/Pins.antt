-- The whole contract that the source states of each public function: it requires nothing, and ensures this, by
-- computation. A clause that is added, dropped or weakened in the source is refused here.
use mathlib.Core.Path.{◌≡◌, refl}
use mathlib.Core.List.{[]}
use seplogic.Ra.Ura.{Ura}
use base.Logic.{SProp}
use prog.Memory.{Memory}
use prog.Routine.{Routine}
use types.Logic.{Logic}
use contract.Lifetimes.{Lfts}
use contract.Monad.{Fun, fact}
use contract.Notation.{connectives}
use denote.Triple.Entry.{Args, Res}
use denote.Triple.Clauses.{Ended, AtExit, Clauses}
use Rattle.answers.specs.Answers.{saw}
use Rattle.xive_rules.specs.Sources.{ticket_limits, fresh, initialise, target, sync}
use Rattle.xive_sources.specs.Stored.{sources_of}
use Rattle.xive.specs.Surface.{Called, Read}
use Rattle.xive.specs.contracts.xive_make as xive-make
use Rattle.xive.specs.contracts.xive_initialise as xive-initialise
use Rattle.xive.specs.contracts.xive_target as xive-target
use Rattle.xive.specs.contracts.xive_sync as xive-sync
use Rattle.xive.specs.contracts.xive_read as xive-read

module _ {M : Type 1} (𝓤 : Ura M) where
  abbrev Always : (T : Ended) → ((κs : Lfts T.signature.lifetimes) → Args T.signature κs → Res T.signature κs → AtExit T κs → Type 0) → Clauses 𝓤 T
  Always T Q = λ κs a. record { ghost = Unit {0}; requires = λ g. (connectives 𝓤).⊤ₛ; ensures = λ g r e. fact 𝓤 (Q κs a r e) }

-- A parameter is named as at entry, and with a prime as at exit.
module _ {M : Type 1} {𝓤 : Ura M} (𝓛 : Logic 𝓤) (mem : Memory → SProp 𝓤) (run : Routine → Fun 𝓤) where
  make-is : xive-make.clauses 𝓛 mem run ≡ Always 𝓤 xive-make.ended (λ κs a r (s', _). sources_of s'.now ≡ fresh ticket_limits)
  make-is = refl

  initialise-is : xive-initialise.clauses 𝓛 mem run
      ≡ Always 𝓤 xive-initialise.ended (λ κs (s, (n, (b, _))) r (s', _). Called (initialise n) s.now s'.now b.now (saw r b.now))
  initialise-is = refl

  target_is : xive-target.clauses 𝓛 mem run
      ≡ Always 𝓤 xive-target.ended (λ κs (s, (n, (b, _))) r (s', _). Called (target n) s.now s'.now b.now (saw r b.now))
  target_is = refl

  sync-is : xive-sync.clauses 𝓛 mem run ≡ Always 𝓤 xive-sync.ended (λ κs (s, (n, _)) r e. Called (sync n) s.now s.now [] (saw r []))
  sync-is = refl

  read_is : xive-read.clauses 𝓛 mem run ≡ Always 𝓤 xive-read.ended (λ κs (s, (n, _)) r e. Read n s.now r)
  read_is = refl
