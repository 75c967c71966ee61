-- The place, then what its kind shows.
use Rattle.numbers.proofs.Basics.{refl, arith}
use Rattle.rules.specs.{Bytes.part, Listing.ascii, Listing.name, Listing.of_io}
use Rattle.record_add.specs.declared.{Kind.TheVariants.Done, Kind.TheVariants.Service, Kind.TheVariants.MachineCheck, Kind.TheVariants.Other}
use Rattle.record_add.proofs.Laws.{io-told}
use Rattle.listing_text.proofs.{Lines.io-line, Lines.other-line}
use Rattle.listing_text.proofs.Text.record.Goals as goal

pub io-requires : goal.io-requires
io-requires c =
    let k = io-told (part c.args.from 72 c.args.b.now) _ c.in-Io.isc c.in-Io.ensures refl in
    (k.2, omega (arith, c.decimal.ensures.len))

pub returns-in-Io-clause-text : goal.returns-in-Io-clause-text
unfolding ascii
returns-in-Io-clause-text c =
    let a = c.args in
    let k = io-told (part a.from 72 a.b.now) _ c.in-Io.isc c.in-Io.ensures refl in
    let l = io-line a.self.now a.place a.from _ a.b.now c.read_be-t.ensures.0 _ _ k.0 k.1 c.read_be-w.ensures.0 in
    rw (c.io.ensures.text, c.decimal.ensures.text) l

pub returns-in-Done-clause-text : goal.returns-in-Done-clause-text
unfolding ascii name of_io
returns-in-Done-clause-text c =
    let a = c.args in
    let l = other-line a.self.now a.place a.from _ a.b.now c.read_be-t.ensures.0 Done c.in-Done.ensures (λ w. refl) in
    rw (c.other.ensures.text, c.decimal.ensures.text) l

pub returns-in-Service-clause-text : goal.returns-in-Service-clause-text
unfolding ascii name of_io
returns-in-Service-clause-text c =
    let a = c.args in
    let l = other-line a.self.now a.place a.from _ a.b.now c.read_be-t.ensures.0 Service c.in-Service.ensures (λ w. refl) in
    rw (c.other-in-Service.ensures.text, c.decimal.ensures.text) l

pub returns-in-MachineCheck-clause-text : goal.returns-in-MachineCheck-clause-text
unfolding ascii name of_io
returns-in-MachineCheck-clause-text c =
    let a = c.args in
    let l = other-line a.self.now a.place a.from _ a.b.now c.read_be-t.ensures.0 MachineCheck c.in-MachineCheck.ensures (λ w. refl) in
    rw (c.other-in-MachineCheck.ensures.text, c.decimal.ensures.text) l

pub returns-in-Other-clause-text : goal.returns-in-Other-clause-text
unfolding ascii name of_io
returns-in-Other-clause-text c =
    let a = c.args in
    let l = other-line a.self.now a.place a.from _ a.b.now c.read_be-t.ensures.0 Other c.in-Other.ensures (λ w. refl) in
    rw (c.other-in-Other.ensures.text, c.decimal.ensures.text) l
