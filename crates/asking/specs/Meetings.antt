-- The connection that is present. Clauses of private functions alone cite this.
use Rattle.std.specs.Prelude.{◌≡◌, ℕ, List, ◌∷◌, ◌++◌, Option, Some, Result, Ok, Err}
use Rattle.edge_io.specs.declared.failed.Failed.{Failed}
use Rattle.edge_io.specs.Visits.{Tells, Visit, Visits, hung_up}
use Rattle.asking.specs.Connections.{HasBegun, HasExchanged}

abbrev pub Fact : Type 1
Fact = Visit → Type 0

-- The door handed out its next connection, which is present.
pub record IsPresent (old : Visits) (visit : Visit) (now : Visits) : Type 0 where
  pub rest : List (List ℕ)
  pub came : old.coming ≡ (visit.taken ++ visit.left) ∷ rest
  pub is : now ≡ record { coming = rest; present = Some visit; ended = (hung_up old).ended }

-- Where the door tells: it did, and of this connection that is so.
abbrev pub Talks : Fact → Option Visits → Option Visits → Type 0
Talks is before now = Tells before now (λ old new. (visit : Visit) × IsPresent old visit new × is visit)

-- From whatever moment on one was so, the other is so.
abbrev pub Leads : Fact → Fact → Option Visits → Option Visits → Type 0
Leads one other old new = (first : Option Visits) → Talks one first old → Talks other first new

-- The connection is sent these bytes, or a front of them.
abbrev pub Sends : {X : Type 0} → List ℕ → Result X Failed → Option Visits → Option Visits → Type 0
Sends bytes (Ok done) old new = (stream text : List ℕ) → Leads (HasExchanged stream text) (HasExchanged stream (text ++ bytes)) old new
Sends bytes (Err fault) old new = (stream text : List ℕ) → Leads (HasExchanged stream text) (HasBegun stream (text ++ bytes)) old new
