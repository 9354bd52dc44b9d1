-- Which names and paths there are.
use Rattle.std.specs.Prelude.{◌≡◌, ℕ, ◌<◌, ◌≤◌, ◌^◌, ◌≢◌, List, length, All, Bool, IsTrue, nat_lt}
use Rattle.std.specs.List.{list_all}
use Rattle.clus_names.specs.Parts.{separator, text_of, parts_of}

abbrev pub lacks_zero : List ℕ → Bool
lacks_zero units = list_all (λ unit. nat_lt 0 unit) units

abbrev pub LacksZero : List ℕ → Type 0
LacksZero units = IsTrue (lacks_zero units)

-- A unit of UTF-16 that a name may have.
pub record IsNameUnit (unit : ℕ) : Type 0 where
  pub not_zero : 0 < unit
  pub in_range : unit < 2 ^ 16

-- The name of a value.
pub record IsName (name : List ℕ) : Type 0 where
  pub short : length name ≤ 1023
  pub units : All IsNameUnit name

-- A unit that the name of a key may have.
pub record IsPartUnit (unit : ℕ) : Type 0 where
  pub not_zero : 0 < unit
  pub in_range : unit < 2 ^ 16
  pub not_separator : unit ≢ separator

-- The name of a key.
pub record IsPart (part : List ℕ) : Type 0 where
  pub not_empty : 0 < length part
  pub short : length part ≤ 255
  pub units : All IsPartUnit part

-- A path from the root: the names of the keys on the way.
pub record IsPath (path : List (List ℕ)) : Type 0 where
  pub parts : All IsPart path
  pub short : length (text_of path) ≤ 1023

-- The text of a path, which its parts give back.
pub record IsPathText (text : List ℕ) : Type 0 where
  pub path : IsPath (parts_of text)
  pub joined : text_of (parts_of text) ≡ text
