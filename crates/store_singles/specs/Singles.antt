-- The service record and the machine check in their lent bytes.
use Rattle.std.specs.Prelude.{ℕ, zero, suc, List}
use mathlib.Core.Option.{Option, none, some}
use Rattle.rules.specs.Bytes.{byte, part}
use Rattle.rules.specs.State.{Record}
use Rattle.store_singles.specs.declared.Single.{Single}
use Rattle.store_singles.specs.declared.Single.TheVariants.{Service, MachineCheck}

-- a record that is there or not
unfoldable pub if_there : ℕ → Record → Option Record
if_there zero r = none
if_there (suc n) r = some r

unfoldable pub service_of : List ℕ → Option Record
service_of g = if_there (byte 144 g) (part 0 72 g)

unfoldable pub mchk_of : List ℕ → Option Record
mchk_of g = if_there (byte 145 g) (part 72 72 g)

-- for each of the two: where its record starts, and the byte that says whether it is there
abbrev pub start_of : Single → ℕ
start_of Service = 0
start_of MachineCheck = 72

abbrev pub flag_of : Single → ℕ
flag_of Service = 144
flag_of MachineCheck = 145

-- that record, and which is the other one
abbrev pub single_of : Single → List ℕ → Option Record
single_of Service g = service_of g
single_of MachineCheck g = mchk_of g

abbrev pub other : Single → Single
other Service = MachineCheck
other MachineCheck = Service
