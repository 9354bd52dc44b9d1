-- The 16 bytes in front of a PDU (C706 12.6.3.1), read by place.
use Rattle.std.specs.Prelude.{◌≡◌, ℕ, ◌≤◌, Bool, false, ◌&&◌, ◌||◌, List, [], ◌∷◌, length, slice_index, nat_le, nat_lt, ◌==◌, Option, Some, None, is_some, IsTrue, Result, Ok, Err, if◌then◌else◌}
use Rattle.wire_fields.specs.declared.endian.Endian.{Endian}
use Rattle.wire_fields.specs.declared.endian.Endian.TheVariants.{Little, Big}
use Rattle.wire_fields.specs.Reading.{number_in}
use Rattle.rpc_pdu.specs.declared.head.Head.{Head}
use Rattle.rpc_pdu.specs.declared.pdu_fault.PduFault.{PduFault}
use Rattle.rpc_pdu.specs.declared.pdu_fault.PduFault.TheVariants.{BadVersion, BadType, BadRep, BadLength, HasAuth, BadFlags}
use Rattle.rpc_pdu.specs.declared.pdu_type.PduType.{PduType}
use Rattle.rpc_pdu.specs.Flags.{flags_fit}
use Rattle.rpc_pdu.specs.PduTypes.{type_with}

-- The byte order that the first byte of a data representation names (C706 14.1).
abbrev pub order_with : ℕ → Endian
order_with mark = if mark == 0x10 then Little else Big

abbrev pub mark_of : Endian → ℕ
mark_of Little = 0x10
mark_of Big = 0x00

-- The byte order of a fragment.
abbrev pub order_of : List ℕ → Endian
order_of bytes = order_with (slice_index bytes 4)

-- How long a fragment says that it is.
abbrev pub frag_length : List ℕ → ℕ
frag_length bytes = number_in (order_of bytes) 2 8 bytes

-- How long the verifier behind its body is.
abbrev pub auth_length : List ℕ → ℕ
auth_length bytes = number_in (order_of bytes) 2 10 bytes

-- The frag_length, once enough of the header is there.
abbrev pub peek_at : List ℕ → Option ℕ
peek_at bytes = if nat_lt (length bytes) 10 then None else Some (frag_length bytes)

-- The bytes begin with the header of a PDU, and are as many as it says.
pub record IsHeader (bytes : List ℕ) (kind : PduType) (head : Head) : Type 0 where
  pub long : 16 ≤ length bytes
  pub version : slice_index bytes 0 ≡ 5
  pub minor : slice_index bytes 1 ≡ head.minor
  pub minor_known : head.minor ≤ 1
  pub type_known : type_with (slice_index bytes 2) ≡ Some kind
  pub flags : slice_index bytes 3 ≡ head.flags
  pub flags_fit : IsTrue (flags_fit kind head.flags)
  pub order : slice_index bytes 4 ≡ mark_of head.endian
  pub frag_length : number_in head.endian 2 8 bytes ≡ length bytes
  pub auth_length : number_in head.endian 2 10 bytes ≡ 0
  pub call_id : number_in head.endian 4 12 bytes ≡ head.call_id

abbrev pub flags_of_type_fit : Option PduType → ℕ → Bool
flags_of_type_fit None flags = false
flags_of_type_fit (Some kind) flags = flags_fit kind flags

-- What a header must pass, in this order, and the fault where it doesn't.
abbrev pub header_checks : List ℕ → List (Bool × PduFault)
header_checks bytes =
    (nat_le 16 (length bytes), BadLength)
    ∷ (slice_index bytes 0 == 5 && nat_le (slice_index bytes 1) 1, BadVersion)
    ∷ (is_some (type_with (slice_index bytes 2)), BadType)
    ∷ (slice_index bytes 4 == 0x10 || slice_index bytes 4 == 0x00, BadRep)
    ∷ (frag_length bytes == length bytes, BadLength)
    ∷ (auth_length bytes == 0, HasAuth)
    ∷ (flags_of_type_fit (type_with (slice_index bytes 2)) (slice_index bytes 3), BadFlags)
    ∷ []

-- The fault of the first check that isn't passed.
abbrev pub first_failed : List (Bool × PduFault) → Option PduFault
first_failed [] = None
first_failed (check ∷ checks) = if check.0 then first_failed checks else Some check.1

-- The fault of the header, if it has one.
unfoldable pub header_fault : List ℕ → Option PduFault
header_fault bytes = first_failed (header_checks bytes)

-- What a header says.
unfoldable pub head_at : List ℕ → Head
head_at bytes = record {
  endian = order_of bytes;
  minor = slice_index bytes 1;
  flags = slice_index bytes 3;
  call_id = number_in (order_of bytes) 4 12 bytes;
}

-- What reading a header gave: its type and the rest, where it passes, and else its fault.
abbrev pub HeaderGives : Result (PduType × Head) PduFault → List ℕ → Type 0
HeaderGives (Ok header) bytes =
    (header_fault bytes ≡ None) × (16 ≤ length bytes) × (type_with (slice_index bytes 2) ≡ Some header.0) × (header.1 ≡ head_at bytes)
HeaderGives (Err fault) bytes = header_fault bytes ≡ Some fault
