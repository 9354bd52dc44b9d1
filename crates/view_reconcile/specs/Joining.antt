-- How a node joins its view: what it keeps, and what each event of joining makes of it. Each rule gives what is kept
-- afterwards and the step that the node takes.
use Rattle.std.specs.Prelude.{ℕ, ◌+◌, ◌-◌, min, Bool, true, false, not, ◌&&◌, ◌||◌, List, [], ◌∷◌, length, replicate, slice_get, slice_set, unwrap_or, Option, Some, None, nat_eq, nat_lt, nat_le, if◌then◌else◌, count_by}
use Rattle.std.specs.List.{list_all}
use Rattle.gum_messages.specs.declared.view.View.{View}
use Rattle.gum_messages.specs.Members.{inc_of, index_of, is_locker, is_member}
use Rattle.gum_messages.specs.Views.{no_view}
use Rattle.view_reconcile.specs.declared.stage.Stage.{Stage}
use Rattle.view_reconcile.specs.declared.stage.Stage.TheVariants as stage
use Rattle.view_reconcile.specs.declared.step.Step.{Step}
use Rattle.view_reconcile.specs.declared.step.Step.TheVariants as step

pub record ReconcileState : Type 0 where
  pub node : ℕ
  pub inc : ℕ
  -- Number 0 and no members before the first view.
  pub view : View
  pub stage : Stage
  -- Of each member of the view, in their order, whether its Ready came.
  pub ready : List Bool

abbrev pub fresh : ℕ → ℕ → ReconcileState
fresh node inc = record { node = node; inc = inc; view = no_view; stage = stage.Waiting; ready = [] }

-- An open node is also ready.
abbrev pub is_ready : ReconcileState → Bool
is_ready s = elim s.stage [ stage.Ready ↦ true | stage.Open ↦ true | _ ↦ false ]

abbrev pub is_open : ReconcileState → Bool
is_open s = elim s.stage [ stage.Open ↦ true | _ ↦ false ]

-- How many bytes of the locker's state it has, where it pulls.
abbrev pub pulled_bytes : ReconcileState → Option ℕ
pulled_bytes s = elim s.stage [ stage.Pulling got ↦ Some got | _ ↦ None ]

-- This node is the locker of its view.
abbrev pub locks : ReconcileState → Bool
locks s = is_locker s.view.members s.node

-- The Ready of a member came.
abbrev pub is_marked : ReconcileState → ℕ → Bool
is_marked s node = unwrap_or (slice_get s.ready (index_of s.view.members node)) false

-- A member counts as ready once its Ready came, this node itself also once it is ready.
abbrev pub counts_ready : ReconcileState → ℕ → Bool
counts_ready s node = is_marked s node || (nat_eq node s.node && is_ready s)

-- A locker that isn't open waits for each member of its view that isn't ready.
abbrev pub waits_for : ReconcileState → ℕ → Bool
waits_for s node = locks s && not (is_open s) && nat_lt 0 (inc_of s.view.members node) && not (counts_ready s node)

abbrev pub awaited : ReconcileState → ℕ
awaited s = count_by (λ m. waits_for s m.node) s.view.members

-- A view of a greater number, of which this incarnation is a member, is taken: not ready, not open, nothing pulled.
abbrev pub installed : ReconcileState → View → ReconcileState × Bool
installed s v =
    if nat_lt s.view.number v.number && is_member v.members s.node s.inc
    then (record s { view = v; stage = stage.Waiting; ready = replicate (length v.members) false }, true)
    else (s, false)

-- A locker without other members opens as soon as it is ready.
abbrev pub is_alone : ReconcileState → Bool
is_alone s = elim s.view.members [ [] ↦ false | m ∷ ms ↦ elim ms [ [] ↦ nat_eq m.node s.node | _ ↦ false ] ]

abbrev pub becomes_ready : ReconcileState → ReconcileState × Step
becomes_ready s =
    if is_alone s
    then (record s { stage = stage.Open }, step.Open)
    else (record s { stage = stage.Ready }, step.Ready)

-- A member that has this many bytes of the state pulls the next ones; the locker takes the state that it recovered
-- from the log.
abbrev pub pulls_from : ReconcileState → ℕ → ReconcileState × Step
pulls_from s got = (record s { stage = if locks s then stage.Taking else stage.Pulling got }, step.Pull got)

-- It pulls from the beginning.
abbrev pub pulls : ReconcileState → ReconcileState × Step
pulls s = pulls_from s 0

-- Where it pulls already it keeps the bytes that it has.
abbrev pub pulls_on : ReconcileState → ReconcileState × Step
pulls_on s = pulls_from s (unwrap_or (pulled_bytes s) 0)

-- The node has applied as many records as the Offer counts.
abbrev pub has_all : Option ℕ → ℕ → Bool
has_all done count = elim done [ None ↦ false | Some k ↦ nat_eq k count ]

-- It lacks the last one alone, and the Offer has it.
abbrev pub lacks_last : Option ℕ → ℕ → Option ℕ → Bool
lacks_last done count last = elim done [
  | None ↦ false
  | Some k ↦ elim last [ None ↦ false | Some place ↦ nat_eq (k + 1) count && nat_eq place count ]
]

-- An Offer, whose last record has this place, at a node that has applied `done` records, or has no state.
abbrev pub offered : ReconcileState → ℕ → Option ℕ → Option ℕ → ReconcileState × Step
offered s count last done =
    if nat_eq s.view.number 0 then (s, step.Nothing)
    else (if is_ready s then (s, if locks s then step.Nothing else step.Ready)
    else (if has_all done count then becomes_ready s
    else (if lacks_last done count last then (record s { stage = stage.Taking }, step.ApplyLast)
    else pulls_on s)))

-- The record was applied or the state was taken, or neither could be done.
abbrev pub taken : ReconcileState → Bool → ReconcileState × Step
taken s good = if good then becomes_ready s else pulls s

-- How many bytes a locker sends of a state of `total` bytes, from an offset on.
abbrev pub piece_length : ℕ → ℕ → Option ℕ
piece_length total offset = if nat_le offset total then Some (min 4096 (total - offset)) else None

-- A Piece of `count` bytes counts at the offset that was asked for.
abbrev pub pulled : ReconcileState → ℕ → ℕ → ℕ → ReconcileState × Step
pulled s total offset count = elim (pulled_bytes s) [
  | None ↦ (s, step.Nothing)
  | Some got ↦
      if nat_eq offset got
      then (if nat_lt (got + count) total
      then (record s { stage = stage.Pulling (got + count) }, step.Pull (got + count))
      else (record s { stage = stage.Taking }, step.Whole))
      else (s, step.Nothing)
]

abbrev pub marked : ReconcileState → ℕ → ReconcileState
marked s node = record s { ready = slice_set s.ready (index_of s.view.members node) true }

abbrev pub all_counted : ReconcileState → Bool
all_counted s = list_all (λ m. counts_ready s m.node) s.view.members

abbrev pub all_ready : ReconcileState → Bool
all_ready s = is_ready s && all_counted s

-- A Ready at the locker.
abbrev pub readied : ReconcileState → ℕ → ReconcileState × Step
readied s from =
    if locks s
    then (if is_open s then (s, step.OpenAgain from)
    else (if all_ready (marked s from)
    then (record (marked s from) { stage = stage.Open }, step.Open)
    else (marked s from, step.Nothing)))
    else (s, step.Nothing)

-- An OpenView at a node that is ready and not open.
abbrev pub opened : ReconcileState → ReconcileState × Bool
opened s =
    if is_ready s && not (is_open s)
    then (record s { stage = stage.Open }, true)
    else (s, false)

-- A tick: a locker that isn't open offers to each member that isn't ready; a pulling member asks for the next piece;
-- a ready member that isn't open says so.
abbrev pub ticked : ReconcileState → Step
ticked s =
    if locks s
    then (if nat_lt 0 (awaited s) then step.OfferTo (awaited s) else step.Nothing)
    else elim (pulled_bytes s) [
      | Some got ↦ step.Pull got
      | None ↦ if is_ready s && not (is_open s) then step.Ready else step.Nothing
    ]
