-- The record joins what its kind names.
use Rattle.numbers.proofs.Basics.{◌≡◌, refl, arith}
use Rattle.rules.specs.{Bytes.part, State.kind, State.subclass, Requests.wants}
use Rattle.record_add.proofs.Laws.{kind-known, kind_for, io-told, adds-io, adds-done, adds-service, adds-mchk, adds-other}
use Rattle.record_add.specs.declared.Kind.TheVariants.{Done, Service, MachineCheck, Other}
use Rattle.record_add.proofs.add_one.Goals as goal

pub returns-in-Io : goal.returns-in-Io
unfolding wants
returns-in-Io c =
    let r = part c.args.at 72 c.args.b.now in
    let k = io-told r _ c.in-Io.isc c.in-Io.ensures refl in record {
      pending = adds-io _ _ _ _ r _ c.load.ensures _ _ _ _ k.0 k.1 k.2 (rw c.of.ensures at c.append.ensures.queue);
      held = (c.append.ensures.held, omega (arith, c.requires.1, c.append.ensures.count), rw k.0);
      others = refl;
    }

pub returns-in-Done : goal.returns-in-Done
unfolding wants
returns-in-Done c =
    let r = part c.args.at 72 c.args.b.now in
    let k : kind r ≡ kind_for Done = kind-known (kind r) (subclass r) _ c.in-Done.ensures in record {
      pending = adds-done _ _ _ _ r _ c.load-in-Done.ensures _ _ _ k c.requires.2 (rw c.done.ensures at c.append-in-Done.ensures.queue);
      held = (c.append-in-Done.ensures.held, omega (arith, c.requires.1, c.append-in-Done.ensures.count), rw k);
      others = refl;
    }

pub append-requires : goal.append-requires
append-requires c = unfold wants in
    let r = part c.args.at 72 c.args.b.now in
    let k = io-told r _ c.in-Io.isc c.in-Io.ensures refl in
    (rw c.of.ensures (omega (arith, k.2)), c.requires.1, omega (arith, c.requires.1, rw k.0 at c.requires.3), c.requires.2)

pub append-requires-in-Done : goal.append-requires-in-Done
append-requires-in-Done c = unfold wants in
    let r = part c.args.at 72 c.args.b.now in
    let k : kind r ≡ kind_for Done = kind-known (kind r) (subclass r) _ c.in-Done.ensures in
    (rw c.done.ensures (omega arith), c.requires.1, omega (arith, c.requires.1, rw k at c.requires.3), c.requires.2)

pub returns-in-Service : goal.returns-in-Service
returns-in-Service c = unfold wants in
    let r = part c.args.at 72 c.args.b.now in
    let k : kind r ≡ kind_for Service = kind-known (kind r) (subclass r) _ c.in-Service.ensures in record {
      pending = adds-service _ _ _ _ r _ c.load-in-Service.ensures _ k c.add_service.ensures;
      held = (c.requires.2, c.requires.1, rw k (omega arith));
      others = refl;
    }

pub returns-in-MachineCheck : goal.returns-in-MachineCheck
returns-in-MachineCheck c = unfold wants in
    let r = part c.args.at 72 c.args.b.now in
    let k : kind r ≡ kind_for MachineCheck = kind-known (kind r) (subclass r) _ c.in-MachineCheck.ensures in record {
      pending = adds-mchk _ _ _ _ r _ c.load-in-MachineCheck.ensures _ k c.add_mchk.ensures;
      held = (c.requires.2, c.requires.1, rw k (omega arith));
      others = refl;
    }

pub returns-in-Other : goal.returns-in-Other
returns-in-Other c = unfold wants in
    let r = part c.args.at 72 c.args.b.now in
    let k : kind r ≡ kind_for Other = kind-known (kind r) (subclass r) _ c.in-Other.ensures in record {
      pending = adds-other _ _ _ _ r _ refl k;
      held = (c.requires.2, c.requires.1, rw k (omega arith));
      others = refl;
    }
