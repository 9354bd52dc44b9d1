-- Messages, as contracts see them: what each one keeps, and which there are.
use Rattle.std.specs.Prelude.{ℕ, ◌<◌, ◌≤◌, ◌^◌, List, length, Option, None, Some}
use Rattle.wire_fields.specs.Numbers.{IsBytes}
use Rattle.update_records.specs.Entry.{Entry, IsId, IsRecord}
use Rattle.update_records.specs.Limits.{IsUpdate}
use Rattle.update_records.specs.Validity.{IsValid}
use Rattle.gum_messages.specs.declared.body.Body.{Body}
use Rattle.gum_messages.specs.declared.body.Body.TheVariants.{Ask, Granted, Apply, Applied, Release, Offer, Need, Piece, Ready, OpenView}

pub record Sent : Type 0 where
  pub view : ℕ
  pub from : ℕ
  pub to : ℕ
  pub body : Body

pub record IsOffered (count cap : ℕ) : Type 0 where
  pub counted : count < 2 ^ 63
  pub least_cap : 4096 ≤ cap
  pub most_cap : cap ≤ 16777216

-- What each message keeps. A record keeps its own limits.
abbrev pub IsKept : Body → Type 0
IsKept (Ask req update) = IsValid update
IsKept (Offer count cap last) = IsOffered count cap
IsKept body = Unit {0}

abbrev pub IsLast : Option Entry → Type 0
IsLast None = Unit {0}
IsLast (Some entry) = IsRecord entry

pub record IsPiece (total offset : ℕ) (bytes : List ℕ) : Type 0 where
  pub small_total : total < 2 ^ 32
  pub small_offset : offset < 2 ^ 32
  pub short : length bytes < 2 ^ 32
  pub are_bytes : IsBytes bytes

-- The bodies that there are.
abbrev pub IsBody : Body → Type 0
IsBody (Ask req update) = (req < 2 ^ 64) × IsUpdate update
IsBody (Granted entry) = IsRecord entry
IsBody (Apply entry) = IsRecord entry
IsBody (Applied place) = place < 2 ^ 64
IsBody (Release req) = req < 2 ^ 64
IsBody (Offer count cap last) = IsOffered count cap × IsLast last
IsBody (Need offset) = offset < 2 ^ 32
IsBody (Piece total offset bytes) = IsPiece total offset bytes
IsBody Ready = Unit {0}
IsBody OpenView = Unit {0}

pub record IsNode (node : ℕ) : Type 0 where
  pub first : 1 ≤ node
  pub last : node ≤ 16

-- The messages that there are: between two nodes, in a view, with a body of its kind's limits.
pub record IsMessage (m : Sent) : Type 0 where
  pub view : 1 ≤ m.view
  pub last_view : m.view < 2 ^ 32
  pub from : IsNode m.from
  pub to : IsNode m.to
  pub body : IsBody m.body

-- What the types leave open: the numbers of the nodes and the view, and the ids of records.
abbrev pub HasLastId : Option Entry → Type 0
HasLastId None = Unit {0}
HasLastId (Some entry) = IsId entry.id

abbrev pub HasIds : Body → Type 0
HasIds (Granted entry) = IsId entry.id
HasIds (Apply entry) = IsId entry.id
HasIds (Offer count cap last) = HasLastId last
HasIds body = Unit {0}

pub record IsNumbered (m : Sent) : Type 0 where
  pub view : 1 ≤ m.view
  pub from : IsNode m.from
  pub to : IsNode m.to
  pub ids : HasIds m.body

-- A piece's length is written as a number of 4 bytes.
abbrev pub FitsPiece : Body → Type 0
FitsPiece (Piece total offset bytes) = length bytes < 2 ^ 32
FitsPiece body = Unit {0}
