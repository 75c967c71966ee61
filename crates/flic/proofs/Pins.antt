-- The whole contract that the source states of each public function, what it requires and what it ensures, is the one that the chains and the claim
-- speak of, by computation. A clause that is added, dropped or weakened in the source is refused here.
use mathlib.Core.Path.{◌≡◌, refl}
use seplogic.Ra.Ura.{Ura}
use base.Logic.{SProp}
use prog.Memory.{Memory}
use prog.Routine.{Routine}
use types.Logic.{Logic}
use contract.Lifetimes.{Lfts}
use contract.Monad.{Fun, fact}
use contract.Notation.{connectives}
use denote.Triple.{Entry.Args, Entry.Res, Clauses.Ended, Clauses.AtExit, Clauses.Clauses}
use Rattle.rules.specs.{State.paper_limits, Machine.set_attr, Machine.get_attr, Machine.write_list, Machine.play_list}
use Rattle.answers.specs.Answers.{saw}
use Rattle.flic.specs.Surface.{Ready, Premise, Made, Requested, Taken}
use Rattle.flic.specs.contracts.flic_make as flic-make
use Rattle.flic.specs.contracts.flic_set as flic-set
use Rattle.flic.specs.contracts.flic_get as flic-get
use Rattle.flic.specs.contracts.flic_take as flic-take
use Rattle.flic.specs.contracts.flic_write_list as flic-write
use Rattle.flic.specs.contracts.flic_play_list as flic-play

module _ {M : Type 1} (𝓤 : Ura M) where
  -- A contract that requires no more than a plain fact of the parameters at entry, and ensures one of these, the result and the parameters at exit.
  abbrev Plain : (T : Ended) → ((κs : Lfts T.signature.lifetimes) → Args T.signature κs → SProp 𝓤)
      → ((κs : Lfts T.signature.lifetimes) → Args T.signature κs → Res T.signature κs → AtExit T κs → Type 0) → Clauses 𝓤 T
  Plain T P Q = λ κs a. record { ghost = Unit {0}; requires = λ g. P κs a; ensures = λ g r e. fact 𝓤 (Q κs a r e) }

-- A parameter is named as at entry, and with a prime as at exit.
module _ {M : Type 1} {𝓤 : Ura M} (𝓛 : Logic 𝓤) (mem : Memory → SProp 𝓤) (run : Routine → Fun 𝓤) where
  make-is : flic-make.clauses 𝓛 mem run ≡ Plain 𝓤 flic-make.ended (λ κs a. (connectives 𝓤).⊤ₛ)
      (λ κs (c, (d, (t, (ais, _)))) r (c', (d', (t', _))). Made paper_limits ais c.now c'.now d.now d'.now t.now t'.now r)
  make-is = refl

  set-is : flic-set.clauses 𝓛 mem run ≡ Plain 𝓤 flic-set.ended (λ κs (c, (d, (t, _))). fact 𝓤 (Premise c.now d.now t.now))
      (λ κs (c, (d, (t, (group, (attr, (b, _)))))) r (c', (d', (t', _))). Requested (set_attr group attr) c.now c'.now d.now d'.now t.now t'.now b.now (saw r b.now))
  set-is = refl

  get-is : flic-get.clauses 𝓛 mem run ≡ Plain 𝓤 flic-get.ended (λ κs (c, (d, (t, _))). fact 𝓤 (Premise c.now d.now t.now))
      (λ κs (c, (d, (t, (group, (attr, (b, _)))))) r (_, (_, (_, (_, (_, (b', _)))))). Requested (get_attr group attr) c.now c.now d.now d.now t.now t.now b.now (saw r b'.now))
  get-is = refl

  take-is : flic-take.clauses 𝓛 mem run ≡ Plain 𝓤 flic-take.ended (λ κs (c, _). fact 𝓤 (Ready c.now))
      (λ κs (c, (subclasses, (external, (mcheck, (b, _))))) r (c', (_, (_, (_, (b', _))))). Taken subclasses external mcheck c.now c'.now b.now (saw r b'.now))
  take-is = refl

  write-is : flic-write.clauses 𝓛 mem run ≡ Plain 𝓤 flic-write.ended (λ κs (c, (d, (t, _))). fact 𝓤 (Premise c.now d.now t.now))
      (λ κs (c, (d, (t, (b, _)))) r (_, (_, (_, (b', _)))). Requested write_list c.now c.now d.now d.now t.now t.now b.now (saw r b'.now))
  write-is = refl

  play-is : flic-play.clauses 𝓛 mem run ≡ Plain 𝓤 flic-play.ended (λ κs (c, (d, (t, _))). fact 𝓤 (Premise c.now d.now t.now))
      (λ κs (c, (d, (t, (b, _)))) r (c', (d', (t', _))). Requested play_list c.now c'.now d.now d'.now t.now t'.now b.now (saw r b.now))
  play-is = refl
