-- `adapters::inject` meets its contract, by the tests.
use Rattle.numbers.proofs.Basics.{Bool, true, false, ◌||◌, ap, not-true, not-false, sym, ◌∙◌}
use Rattle.rules.specs.Bytes.{choose}
use Rattle.numbers.specs.declared.Subclass.{Subclass}
use Rattle.adapters.specs.{declared.Injection.Injection, declared.Injection.TheVariants.NoAdapter, declared.Injection.TheVariants.Dropped, declared.Injection.TheVariants.Full, declared.Injection.TheVariants.Appended, Values.injection_of}
use Rattle.adapters.proofs.inject.Goals as goal

-- what an injection comes to, by the four tests
abbrev comes : Subclass → (full used masked suppressed : Bool) → Injection
comes isc full used masked suppressed = choose used (choose (masked || suppressed) Dropped (choose full Full (Appended isc))) NoAdapter

pub returns-then-not-p : goal.returns-then-not-p
returns-then-not-p c = unfold injection_of choose in rw (not-true c.args.p.used c.if-not-p.true)

pub returns-then-p : goal.returns-then-p
returns-then-p c = unfold injection_of choose in rw (not-false _ c.if-not-p.false, c.if-p.true)

pub returns-then-under_ais : goal.returns-then-under_ais
unfolding injection_of choose
returns-then-under_ais c =
    rw (not-false _ c.if-not-p.false, c.if-p.false) (ap (comes c.args.p.isc c.args.full true false) (sym c.if-under_ais.true ∙ c.under_ais.ensures))

pub returns-then-full : goal.returns-then-full
unfolding injection_of choose
returns-then-full c =
    rw (not-false _ c.if-not-p.false, c.if-p.false, c.if-full.true) (ap (comes c.args.p.isc true true false) (sym c.if-under_ais.false ∙ c.under_ais.ensures))

pub returns : goal.returns
unfolding injection_of choose
returns c =
    rw (not-false _ c.if-not-p.false, c.if-p.false, c.if-full.false) (ap (comes c.args.p.isc false true false) (sym c.if-under_ais.false ∙ c.under_ais.ensures))
