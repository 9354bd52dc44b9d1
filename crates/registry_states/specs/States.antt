-- What reading a state gives.
use Rattle.std.specs.Prelude.{◌≡◌, ◌⊎◌, ℕ, Result, Ok, Err}
use Rattle.registry_defs.specs.Nodes.{Node}
use Rattle.registry_defs.specs.StateFields.{Stop, Cut, Bad}
use Rattle.registry_states.specs.declared.fault.StateFault.{StateFault}
use Rattle.registry_states.specs.declared.fault.StateFault.TheVariants as faults

-- A field that is cut off is at fault too, where no more bytes will come.
abbrev pub IsFaultAt : ℕ → Result Node Stop → Type 0
IsFaultAt place read = (read ≡ Err (Bad place)) ⊎ (read ≡ Err (Cut place))

-- The registry below the root, or the first field at fault, unless memory ran out.
abbrev pub Decodes : Result Node StateFault → Result Node Stop → Type 0
Decodes (Ok root) read = read ≡ Ok root
Decodes (Err (faults.Bad place)) read = IsFaultAt place read
Decodes (Err faults.Memory) read = Unit {0}
