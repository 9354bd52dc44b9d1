-- The bytes of the handles that a node makes.
use Rattle.std.specs.Prelude.{ℕ, ◌==◌, ◌&&◌, Bool, List, ◌++◌, replicate}
use Rattle.std.specs.Str.{bytes_eq}
use Rattle.wire_fields.specs.declared.endian.Endian.TheVariants.{Big}
use Rattle.wire_fields.specs.Numbers.{num}
use Rattle.ndr_values.specs.declared.handle.WireHandle.{WireHandle}

-- The node's number is the first field of the identifier, the next two are 0, and the serial number is the last 8 bytes.
abbrev pub id_of : ℕ → ℕ → List ℕ
id_of node serial = num Big 4 node ++ (replicate 4 0 ++ num Big 8 serial)

abbrev pub handle_of : ℕ → ℕ → WireHandle
handle_of node serial = record { attributes = 0; id = id_of node serial }

abbrev pub is_handle_of : ℕ → WireHandle → ℕ → Bool
is_handle_of node handle serial = (handle.attributes == 0) && bytes_eq handle.id (id_of node serial)
