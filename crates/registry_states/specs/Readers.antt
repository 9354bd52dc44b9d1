-- What the readers of a state's parts give, unless memory ran out.
use Rattle.std.specs.Prelude.{◌≡◌, ℕ, List, ◌&&◌, Option, Some, None, Result, Ok, Err, option_map}
use Rattle.std.specs.List.{last_or}
use Rattle.wire_fields.specs.Reading.{Reading}
use Rattle.clus_names.specs.Limits.{lacks_zero}
use Rattle.registry_defs.specs.Nodes.{Node}
use Rattle.registry_defs.specs.StateFields.{Stop, units_at}
use Rattle.registry_defs.specs.StateFields as stops
use Rattle.registry_defs.specs.StateGrammar.{is_above}
use Rattle.registry_tree.specs.declared.value.Value.{Value}
use Rattle.registry_states.specs.declared.read_fault.ReadFault.{ReadFault}
use Rattle.registry_states.specs.declared.read_fault.ReadFault.TheVariants.{Cut, Bad, Memory}

abbrev pub FailsAt : {A : Type 0} → ReadFault → Result A Stop → Type 0
FailsAt (Cut place) read = read ≡ Err (stops.Cut place)
FailsAt (Bad place) read = read ≡ Err (stops.Bad place)
FailsAt Memory read = Unit {0}

-- The value, and the reader behind it.
abbrev pub Takes : {X Y : Type 0} → (X → Y) → Result X ReadFault → Result (Y × Reading) Stop → Reading → Type 0
Takes view (Ok x) read now = read ≡ Ok (view x, now)
Takes view (Err fault) read now = FailsAt fault read

-- Something that is cut off as a whole.
abbrev pub whole : {A : Type 0} → ℕ → Option (A × Reading) → Result (A × Reading) Stop
whole place None = Err (stops.Cut place)
whole place (Some x) = Ok x

-- The name of the last one of those read so far.
abbrev pub last_name : List Value → Option (List ℕ)
last_name values = option_map (λ value. value.name) (last_or None values)

abbrev pub last_part : List Node → Option (List ℕ)
last_part subkeys = option_map (λ node. node.here.part) (last_or None subkeys)

-- The name of a value behind the one with the name that is given.
abbrev pub name_at : Option (List ℕ) → ℕ → Reading → Result (List ℕ × Reading) Stop
name_at last end s = units_at 0 1023 (λ units. lacks_zero units && is_above last units) end s
