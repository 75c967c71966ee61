-- What each case of the code's enums stands for.
use Rattle.std.specs.Prelude.{ℕ, suc, ◌+◌, List, [], ◌∷◌, leb, Result, Ok, Err}
use Rattle.rules.specs.Bytes.{choose}
use Rattle.rules.specs.State as rules
use Rattle.rules.specs.State.{Record, kind, subclass}
use Rattle.rules.specs.Requests.{kind_accepted, wants}
use Rattle.answers.specs.declared.Refusal.{Refusal}
use Rattle.answers.specs.declared.Refusal.TheVariants.{Busy, Invalid}
use Rattle.record_add.specs.declared.Kind.{Kind}
use Rattle.record_add.specs.declared.Kind.TheVariants.{Io, Done, Service, MachineCheck, Other}
use Rattle.record_add.specs.declared.BadRecord.{BadRecord}

-- 01, 'What it holds': a record's kind, with the subclass of an I/O record
unfoldable pub as_case : rules.Kind → ℕ → Kind
as_case rules.Kind.io isc = Io (record { 0 = isc })
as_case rules.Kind.done isc = Done
as_case rules.Kind.service isc = Service
as_case rules.Kind.mchk isc = MachineCheck
as_case rules.Kind.other isc = Other

abbrev pub kind_case : Record → Kind
kind_case r = as_case (kind r) (subclass r)

-- 01, group 2: the check of records from a place on, after n that go to a queue. Either every record has an accepted
-- type, and the result is how many go to a queue; or it is the index of the first record of another type.
unfoldable pub check_from : ℕ → ℕ → List Record → Result ℕ BadRecord
check_from place n [] = Ok n
check_from place n (r ∷ rs) =
    choose (kind_accepted (kind r)) (check_from (suc place) (n + wants (kind r)) rs) (Err (record { at = place }))

-- 01, group 2 and 'Codes and the order of checks': the answer to n checked records, by the types, then by the room
unfoldable pub answer_to : Result ℕ BadRecord → (n queued room : ℕ) → Result ℕ Refusal
answer_to (Err bad) n queued room = Err Invalid
answer_to (Ok wanted) n queued room = choose (leb (queued + wanted) room) (Ok n) (Err Busy)
