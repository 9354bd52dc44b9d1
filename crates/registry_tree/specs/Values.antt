-- Values of the code as those of the definitions.
use Rattle.std.specs.Prelude.{ℕ, List, map}
use Rattle.clus_names.specs.Folding.{folded, name_cmp}
use Rattle.registry_defs.specs.Keys.{ValueData, Values}
use Rattle.registry_defs.specs.Rising.{Rising}
use Rattle.registry_tree.specs.declared.value.Value.{Value}

abbrev pub value_data : Value → ValueData
value_data value = record { name = value.name; kind = value.kind; bytes = value.bytes }

abbrev pub value_name : Value → List ℕ
value_name value = folded value.name

abbrev pub value_entry : Value → List ℕ × ValueData
value_entry value = (value_name value, value_data value)

abbrev pub entries_of : List Value → Values
entries_of values = map value_entry values

abbrev pub RisingValues : List Value → Type 0
RisingValues values = Rising name_cmp value_name values
