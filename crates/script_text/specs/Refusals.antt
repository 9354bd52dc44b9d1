-- What a user is told of a line that can't be played.
use Rattle.std.specs.Prelude.{ℕ, List, ◌++◌, codes}
use Rattle.std.specs.Fmt.{decimal}
use Rattle.view_reconcile.specs.declared.chain_fault.ChainFault.{ChainFault}
use Rattle.view_reconcile.specs.declared.chain_fault.ChainFault.TheVariants.{NotNext, Empty, Returned, Memory}
use Rattle.cluster_worlds.specs.declared.bad_event.BadEvent.{BadEvent}
use Rattle.cluster_worlds.specs.declared.bad_event.BadEvent.TheVariants.{NotRunning, Running, NotStarted, UnknownView, UnknownMessage, UnknownConnection, UsedConnection, Chain}

-- Why a view doesn't continue the chain.
unfoldable pub chain_text : ChainFault → List ℕ
chain_text NotNext = codes "view not next"
chain_text Empty = codes "view empty"
chain_text (Returned node inc) = codes "returned " ++ (decimal node ++ (codes "." ++ decimal inc))
-- no world tells this
chain_text Memory = codes "no memory"

-- Why a world refuses an event.
unfoldable pub refusal_text : BadEvent → List ℕ
refusal_text (NotRunning node) = codes "not running " ++ decimal node
refusal_text (Running node) = codes "running " ++ decimal node
refusal_text (NotStarted node inc) = codes "not started " ++ (decimal node ++ (codes "." ++ decimal inc))
refusal_text (UnknownView view) = codes "unknown view " ++ decimal view
refusal_text (UnknownMessage number) = codes "unknown message " ++ decimal number
refusal_text (UnknownConnection conn) = codes "unknown connection " ++ decimal conn
refusal_text (UsedConnection conn) = codes "used connection " ++ decimal conn
refusal_text (Chain fault) = chain_text fault

-- The line's words are at fault from this column on.
unfoldable pub bad_column_text : ℕ → ℕ → List ℕ
bad_column_text line column = codes "bad script: line " ++ (decimal line ++ (codes ", column " ++ decimal column))

-- The world refuses the line's event.
unfoldable pub bad_event_text : ℕ → BadEvent → List ℕ
bad_event_text line fault = codes "bad script: line " ++ (decimal line ++ (codes ": " ++ refusal_text fault))
