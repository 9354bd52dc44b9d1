-- Why a text is that of no path: the length of the whole is checked first, then part by part from the left.
use Rattle.std.specs.Prelude.{◌≡◌, ℕ, ◌<◌, List, [], ◌∷◌, length, Option, Some, None, Result, Ok, Err, nat_lt, ◌==◌, if◌then◌else◌}
use Rattle.clus_names.specs.declared.fault.NameFault.{NameFault}
use Rattle.clus_names.specs.declared.fault.NameFault.TheVariants.{TooLong, EmptyPart, PartTooLong, Memory}
use Rattle.clus_names.specs.Parts.{pieces_of}

abbrev pub part_fault : List ℕ → Option NameFault
part_fault part =
    if length part == 0 then Some EmptyPart
    else if nat_lt 255 (length part) then Some PartTooLong
    else None

abbrev pub or_else : Option NameFault → Option NameFault → Option NameFault
or_else (Some fault) later = Some fault
or_else None later = later

abbrev pub first_fault : List (List ℕ) → Option NameFault
first_fault [] = None
first_fault (part ∷ parts) = or_else (part_fault part) (first_fault parts)

abbrev pub text_fault : List ℕ → Option NameFault
text_fault text =
    if nat_lt 1023 (length text) then Some TooLong
    else if length text == 0 then None
    else first_fault (pieces_of text)

-- The call gave this path, unless memory ran out.
abbrev pub GivesPath : Result (List (List ℕ)) NameFault → List (List ℕ) → Type 0
GivesPath (Ok given) path = given ≡ path
GivesPath (Err Memory) path = Unit {0}
GivesPath (Err fault) path = ⊥

-- The only refusal is of a length above 1,023 units.
abbrev pub IsTooLong : ℕ → NameFault → Type 0
IsTooLong count TooLong = 1023 < count
IsTooLong count Memory = Unit {0}
IsTooLong count fault = ⊥
