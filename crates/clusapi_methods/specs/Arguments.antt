-- Which arguments are refused, and with which status. The checks of a method are in order.
use Rattle.std.specs.Prelude.{ℕ, List, ◌++◌, length, Bool, not, Option, None, Some, nat_lt, ◌==◌, bit_and, if◌then◌else◌}
use Rattle.std.specs.Option.{option_map}
use Rattle.clus_names.specs.declared.fault.NameFault.{NameFault}
use Rattle.clus_names.specs.declared.fault.NameFault.TheVariants.{EmptyPart}
use Rattle.clus_names.specs.Faults.{text_fault}
use Rattle.clus_names.specs.Parts.{parts_of, text_of}
use Rattle.clusapi_stubs.specs.declared.input.In.{In}
use Rattle.clusapi_stubs.specs.declared.input.In.TheVariants.{CreateKey, DeleteKey, DeleteValue, OpenKey, QueryValue, SetValue}

abbrev pub or_else : Option ℕ → Option ℕ → Option ℕ
or_else (Some status) later = Some status
or_else None later = later

-- 87, an invalid parameter, where something is so.
abbrev pub invalid_if : Bool → Option ℕ
invalid_if is_so = if is_so then Some 87 else None

-- 161, a bad path name, for a part without a unit.
abbrev pub status_of : NameFault → ℕ
status_of EmptyPart = 161
status_of fault = 87

-- No path has more than 1,023 units, nor has that of a key with a subkey behind it.
abbrev pub subkey_refusal : List (List ℕ) → List ℕ → Option ℕ
subkey_refusal key subkey =
    or_else (option_map status_of (text_fault subkey)) (invalid_if (nat_lt 1023 (length (text_of (key ++ parts_of subkey)))))

abbrev pub name_refusal : List ℕ → Option ℕ
name_refusal name = invalid_if (nat_lt 1023 (length name))

-- A key that the next start forgets can't be had.
abbrev pub is_volatile : ℕ → Bool
is_volatile options = not (bit_and options 1 == 0)

-- The status for a call on the key at a path; None where its arguments are fit.
abbrev pub refusal : List (List ℕ) → In → Option ℕ
refusal key (CreateKey handle subkey options sam security) = or_else (subkey_refusal key subkey) (invalid_if (is_volatile options))
refusal key (OpenKey handle subkey sam) = subkey_refusal key subkey
refusal key (SetValue handle name kind bytes cb_data) = or_else (name_refusal name) (invalid_if (nat_lt 49152 (length bytes)))
refusal key (DeleteValue handle name) = name_refusal name
refusal key (QueryValue handle name cb_data) = name_refusal name
refusal key (DeleteKey handle subkey) = or_else (subkey_refusal key subkey) (invalid_if (length subkey == 0))
refusal key _ = None
