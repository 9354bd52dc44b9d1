-- What the checks of a subkey and of a value's name give.
use Rattle.std.specs.Prelude.{◌≡◌, ℕ, ◌<◌, ◌≤◌, List, ◌++◌, length, Option, None, Some, Result, Ok, Err}
use Rattle.clus_names.specs.Parts.{parts_of, text_of}
use Rattle.clusapi_methods.specs.Arguments.{name_refusal, subkey_refusal}
use Rattle.clusapi_methods.specs.Sizes.{IsShortText}

-- The subkey fits behind the path of the key.
pub record IsFit (key : List (List ℕ)) (subkey : List ℕ) (path : List (List ℕ)) : Type 0 where
  pub fits : subkey_refusal key subkey ≡ None
  pub parts : path ≡ parts_of subkey
  pub text : text_of path ≡ subkey
  pub short : length (text_of (key ++ path)) ≤ 1023

abbrev pub IsSubkey : List (List ℕ) → List ℕ → Result (List (List ℕ)) ℕ → Type 0
IsSubkey key subkey (Ok path) = IsFit key subkey path
IsSubkey key subkey (Err status) = subkey_refusal key subkey ≡ Some status

abbrev pub IsName : List ℕ → Option (List ℕ) → Type 0
IsName text None = name_refusal text ≡ Some 87
IsName text (Some name) = (name_refusal text ≡ None) × (name ≡ text)

abbrev pub IsWithin : List (List ℕ) → List (List ℕ) → Result (List (List ℕ)) ℕ → Type 0
IsWithin key below (Ok path) = (path ≡ below) × (length (text_of (key ++ below)) ≤ 1023)
IsWithin key below (Err status) = (1023 < length (text_of (key ++ below))) × (status ≡ 87)

-- A name and data as a registry keeps them.
pub record IsTold (name bytes : List ℕ) : Type 0 where
  pub text : IsShortText name
  pub short : length bytes ≤ 49152
