-- Global Update: what a node keeps of it, and what each event makes of it. Each rule gives what is kept afterwards and
-- the decision. Vogels et al., FTCS 1998: the locker orders the updates, and the sender spreads each to the others.
use Rattle.std.specs.Prelude.{◌≡◌, ℕ, ◌+◌, ◌<◌, ◌≤◌, Bool, true, false, ◌&&◌, List, [], ◌∷◌, ◌++◌, length, drop, replicate, All, Option, Some, None, is_none, unwrap_or, nat_eq, nat_lt, nat_le, if◌then◌else◌, slice_get, slice_set}
use Rattle.gum_messages.specs.declared.member.Member.{Member}
use Rattle.gum_messages.specs.declared.view.View.{View}
use Rattle.gum_messages.specs.Members.{index_of, is_locker, spread_of}
use Rattle.update_records.specs.declared.update.Update.{Update}
use Rattle.update_records.specs.Validity.{IsValid}
use Rattle.gum_core.specs.declared.decision.Decision.{Decision}
use Rattle.gum_core.specs.declared.decision.Decision.TheVariants.{Nothing, Ask, Write, Grant, Spread, Finish, Free, ReleaseAgain, Take, Again}
use Rattle.gum_core.specs.declared.lock.Lock.{Lock}
use Rattle.gum_core.specs.declared.spreading.Spreading.{Spreading}

pub record CoreState : Type 0 where
  pub node : ℕ
  -- The members of its view; none before the first one.
  pub members : List Member
  pub is_open : Bool
  -- How many requests have left the queue; the head's number is one more.
  pub passed : ℕ
  pub queue : List Update
  -- The head spreads, or is still to be asked for.
  pub spreading : Option Spreading
  pub lock : Option Lock
  -- Of each member, in their order, its greatest request that was logged in this view; 0 where none was.
  pub greatest : List ℕ

abbrev pub core_of : ℕ → List Member → Bool → ℕ → List Update → Option Spreading → Option Lock → List ℕ → CoreState
core_of node members is_open passed queue spreading lock greatest =
    record { node = node; members = members; is_open = is_open; passed = passed; queue = queue; spreading = spreading; lock = lock; greatest = greatest }

abbrev pub fresh : ℕ → CoreState
fresh node = record { node = node; members = []; is_open = false; passed = 0; queue = []; spreading = None; lock = None; greatest = [] }

-- This node is the locker of its view.
abbrev pub locks : CoreState → Bool
locks c = is_locker c.members c.node

abbrev pub greatest_of : CoreState → ℕ → ℕ
greatest_of c node = unwrap_or (slice_get c.greatest (index_of c.members node)) 0

-- A view begins: it isn't open, and lock and spreading are forgotten; the queue stays.
abbrev pub entered : CoreState → View → CoreState
entered c v = record c { members = v.members; is_open = false; spreading = None; lock = None; greatest = replicate (length v.members) 0 }

-- The greatest request number.
abbrev pub last_request : ℕ
last_request = 9223372036854775807

-- The request of the queue's head.
abbrev pub head_request : CoreState → Option ℕ
head_request c = if nat_lt 0 (length c.queue) then Some (c.passed + 1) else None

-- An update is queued under the next request number; as the head of an open node it is asked for.
abbrev pub first_ask : CoreState → Decision
first_ask c = if c.is_open && nat_eq (length c.queue) 0 then Ask (c.passed + 1) else Nothing

abbrev pub submitted : CoreState → Update → CoreState × (ℕ × Decision)
submitted c update = (
  record c { queue = c.queue ++ update ∷ [] },
  (c.passed + length c.queue + 1, first_ask c),
)

-- The head leaves the queue, and the one behind it is asked for.
abbrev pub finished : CoreState → ℕ → CoreState × Decision
finished c place = (
  record c { passed = c.passed + 1; queue = drop 1 c.queue; spreading = None },
  Finish (c.passed + 1) place (if nat_lt 1 (length c.queue) then Some (c.passed + 2) else None),
)

-- The view opens. A head whose record is in the log already, at this place, is finished; another is asked for.
abbrev pub opened : CoreState → Option ℕ → CoreState × Decision
opened c settled =
    if nat_eq (length c.queue) 0 then (record c { is_open = true }, Nothing)
    else elim settled [
      | None ↦ (record c { is_open = true }, Ask (c.passed + 1))
      | Some place ↦ finished (record c { is_open = true }) place
    ]

-- The greatest place that a record may have.
abbrev pub last_place : ℕ
last_place = 9223372036854775807

-- A request may be logged once in a view, while there are places.
abbrev pub may_log : CoreState → ℕ → ℕ → ℕ → Bool
may_log c from req done = nat_lt (greatest_of c from) req && nat_lt done last_place

-- An Ask at a locker that has applied `done` records.
abbrev pub asked : CoreState → ℕ → ℕ → ℕ → Decision
asked c from req done =
    if c.is_open && locks c
    then elim c.lock [
      | None ↦ if may_log c from req done then Write from req else Nothing
      | Some l ↦ if nat_eq l.node from && nat_eq l.req req then Grant from req l.place else Nothing
    ]
    else Nothing

-- The locker logged a request, and its sender holds the lock.
abbrev pub logged : CoreState → ℕ → ℕ → ℕ → CoreState × Decision
logged c from req place = (
  record c { lock = Some (record { node = from; req = req; place = place }); greatest = slice_set c.greatest (index_of c.members from) req },
  Grant from req place,
)

-- The head's request is this one, and it doesn't spread yet.
abbrev pub asks_for : CoreState → ℕ → Bool
asks_for c req = nat_lt 0 (length c.queue) && nat_eq req (c.passed + 1) && is_none c.spreading

-- The request was given and has left the queue.
abbrev pub has_left : CoreState → ℕ → Bool
has_left c req = nat_lt 0 req && nat_le req c.passed

-- The node at an index of the spreading order.
abbrev pub receiver : CoreState → ℕ → Option ℕ
receiver c at = elim (slice_get (spread_of c.members) at) [ None ↦ None | Some m ↦ Some m.node ]

-- The head's record goes to the member at an index of the spreading order; behind the last one the head is finished.
abbrev pub spread : CoreState → ℕ → ℕ → CoreState × Decision
spread c place at = elim (receiver c at) [
  | None ↦ finished c place
  | Some to ↦ (record c { spreading = Some (record { place = place; at = at }) }, Spread to place)
]

-- A Granted: the head's record was logged at this place and spreads, or its request was finished before.
abbrev pub granted : CoreState → ℕ → ℕ → CoreState × Decision
granted c req place =
    if c.is_open && asks_for c req
    then spread c place 0
    else (c, if c.is_open && has_left c req then ReleaseAgain req else Nothing)

-- An Apply at a member that has applied `done` records: records are applied in order, each once.
abbrev pub applying : ℕ → ℕ → Decision
applying done place =
    if nat_eq place (done + 1) then Take
    else if nat_le place done then Again
    else Nothing

-- An Applied of the awaited member, for the place that spreads.
abbrev pub awaits : CoreState → Spreading → ℕ → Bool
awaits c s from = elim (receiver c s.at) [ None ↦ false | Some to ↦ nat_eq to from ]

abbrev pub applied : CoreState → ℕ → ℕ → CoreState × Decision
applied c from place = elim c.spreading [
  | None ↦ (c, Nothing)
  | Some s ↦ if nat_eq s.place place && awaits c s from then spread c place (s.at + 1) else (c, Nothing)
]

-- The lock is held by this node's request.
abbrev pub is_held : CoreState → ℕ → ℕ → Bool
is_held c from req = elim c.lock [ None ↦ false | Some l ↦ nat_eq l.node from && nat_eq l.req req ]

-- A Release at the locker by the lock's holder.
abbrev pub released : CoreState → ℕ → ℕ → CoreState × Decision
released c from req =
    if locks c && is_held c from req
    then (record c { lock = None }, Free)
    else (c, Nothing)

-- A tick: an open node asks again for its head, or sends its record again to the member that is waited for.
abbrev pub ticked : CoreState → Decision
ticked c =
    if c.is_open && nat_lt 0 (length c.queue)
    then elim c.spreading [
      | None ↦ Ask (c.passed + 1)
      | Some s ↦ elim (receiver c s.at) [ None ↦ Nothing | Some to ↦ Spread to s.place ]
    ]
    else Nothing

abbrev pub holder : CoreState → Option (ℕ × ℕ × ℕ)
holder c = elim c.lock [ None ↦ None | Some l ↦ Some (l.node, l.req, l.place) ]

-- What every core keeps: no request number passes its limit, a record spreads only for a head and to a member that is
-- there, each member has an entry, and each update is valid.
pub record IsCore (c : CoreState) : Type 0 where
  pub bounded : c.passed + length c.queue ≤ last_request
  pub headed : (s : Spreading) → c.spreading ≡ Some s → 0 < length c.queue
  pub awaiting : (s : Spreading) → c.spreading ≡ Some s → s.at < length c.members
  pub few : length c.members ≤ 16
  pub entries : length c.greatest ≡ length c.members
  pub valid : All IsValid c.queue
