-- The one connection that a door hands out.
use Rattle.std.specs.Prelude.{◌≡◌, ℕ, List, [], ◌∷◌, ◌++◌, take, Option, None}
use Rattle.edge_io.specs.Visits.{Tells, Visit, Visits, hung_up}

-- So much of its peer's stream was read, and it was sent that text.
pub record HasExchanged (stream text : List ℕ) (visit : Visit) : Type 0 where
  pub taken : visit.taken ≡ stream
  pub written : visit.written ≡ text

-- And nothing is left of its peer's stream.
pub record HasEnded (stream text : List ℕ) (visit : Visit) : Type 0 where
  pub exchanged : HasExchanged stream text visit
  pub nothing_left : visit.left ≡ []

-- The stream is a front of what was read, and a front of the text was sent.
pub record HasBegun (stream text : List ℕ) (visit : Visit) : Type 0 where
  pub behind : List ℕ
  pub count : ℕ
  pub taken : visit.taken ≡ stream ++ behind
  pub written : visit.written ≡ take count text

-- The door handed out its next connection, and ended it.
pub record IsOver (old : Visits) (visit : Visit) (now : Visits) : Type 0 where
  pub rest : List (List ℕ)
  pub came : old.coming ≡ (visit.taken ++ visit.left) ∷ rest
  pub is : now ≡ record { coming = rest; present = None; ended = (hung_up old).ended ++ visit ∷ [] }

-- Where the door tells: it did, and of this connection that is so.
abbrev pub Visited : (Visit → Type 0) → Option Visits → Option Visits → Type 0
Visited is before now = Tells before now (λ old new. (visit : Visit) × IsOver old visit new × is visit)
