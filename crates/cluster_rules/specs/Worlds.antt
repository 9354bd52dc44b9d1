-- The world of the protocol: nodes, messages and the log, without connections. What the disk answers is part of an
-- event, and so is which message comes next, if any: losses, repeats and reorderings are choices of the events.
use Rattle.std.specs.Prelude.{ℕ, ◌+◌, ◌^◌, Bool, true, not, ◌&&◌, List, [], ◌∷◌, ◌++◌, length, Option, Some, None, is_none, nat_eq, nat_lt, nat_le, if◌then◌else◌}
use Rattle.std.specs.List.{list_all}
use Rattle.gum_messages.specs.declared.member.Member.{Member}
use Rattle.gum_messages.specs.declared.view.View.{View}
use Rattle.gum_messages.specs.Members.{is_locker}
use Rattle.gum_messages.specs.Places.{at_place}
use Rattle.update_records.specs.Entry.{Entry}
use Rattle.update_records.specs.declared.update.Update.{Update}
use Rattle.update_records.specs.Limits.{IsUpdate}
use Rattle.view_reconcile.specs.Chains.{fault_of, view_in}
use Rattle.view_reconcile.specs.Joining as joining
use Rattle.cluster_rules.specs.Machines.{Machine}
use Rattle.cluster_rules.specs.declared.effect.HaltCause.{HaltCause}
use Rattle.cluster_rules.specs.declared.effect.HaltCause.TheVariants as halt
use Rattle.gum_messages.specs.Messages.{Sent}
use Rattle.cluster_rules.specs.declared.effect.Effect.{Effect}
use Rattle.cluster_rules.specs.declared.effect.Effect.TheVariants.{Acked, Send}
use Rattle.cluster_rules.specs.Nodes.{NodeState, Out, done_of, fresh, halts, nothing, number_of}
use Rattle.cluster_rules.specs.Updates.{Answer, Logged, may_submit, submit}
use Rattle.cluster_rules.specs.Joins.{entered, recovers, takes_view}
use Rattle.cluster_rules.specs.Receiving.{checkpoint, clock, receive, tick}

-- What the protocol sees of the quorum log.
pub record Log : Type 0 where
  pub cap : ℕ
  pub order : List Entry
  -- The record of a failed append, which the log may hold behind the order or not.
  pub doubtful : Option Entry
  -- The greatest view that has claimed the log; an owner of a smaller one is fenced.
  pub held : ℕ
  -- History, which no node reads: the view in which the record at a place was logged, that of the doubtful one, and
  -- how many records a view's log had right after its locker recovered it.
  pub view_at : ℕ → ℕ
  pub doubtful_view : ℕ
  pub count : ℕ → Option ℕ

-- A node answered in one of its incarnations: a reader by the registry behind so many records, or an update by its place.
pub record Point (M : Machine) : Type 0 where
  pub node : ℕ
  pub inc : ℕ
  pub place : ℕ
  -- The request, 0 for a reader, and what its client was told.
  pub req : ℕ
  pub outcome : Option M.Outcome

pub record World (M : Machine) : Type 0 where
  pub nodes : ℕ → Option (NodeState M)
  -- How often each node was started.
  pub starts : ℕ → ℕ
  pub chain : List View
  -- All messages that were ever sent.
  pub pool : List Sent
  -- All acknowledgements: view and place.
  pub acks : List (ℕ × ℕ)
  -- History, which no node reads: the updates that a node took in each of its incarnations; request q is the q-th.
  pub requests : ℕ → ℕ → List Update
  -- History: all points of the order at which nodes answered, in the order in which they did.
  pub points : List (Point M)
  pub log : Log

abbrev pub opening : (M : Machine) → ℕ → World M
opening M cap = record {
  nodes = λ n. None;
  starts = λ n. 0;
  chain = [];
  pool = [];
  acks = [];
  requests = λ n i. [];
  points = [];
  log = record { cap = cap; order = []; doubtful = None; held = 0; view_at = λ k. 0; doubtful_view = 0; count = λ v. None };
}

abbrev pub put : {A : Type 0} → (ℕ → A) → ℕ → A → ℕ → A
put f n v m = if nat_eq m n then v else f m

-- What comes of opening the log for a view, where no later view has claimed it.
pub data Opening : Type 0 where
  -- The log is recovered; the doubtful record, where there is one, was found in it or not.
  Recovered : (found : Bool) → Opening
  -- A call failed; the claim was raised before or not.
  Refused : (raised : Bool) → (cause : HaltCause) → Opening

pub data Event : Type 0 where
  Start : (node : ℕ) → Event
  Declare : (view : View) → Event
  Install : (node view : ℕ) → (opening : Opening) → Event
  -- Messages count from 1 in the order in which they were sent.
  Deliver : (message : ℕ) → (answer : Answer) → Event
  -- An updating call or a batch, whose update is valid.
  Submit : (node : ℕ) → (update : Update) → IsUpdate update → Event
  -- A reader of an open node is answered.
  Read : (node : ℕ) → Event
  Tick : (node : ℕ) → Event
  -- The clock shows a stamp of 64 bits; another shows nothing.
  Clock : (node stamp : ℕ) → Event
  Checkpoint : (node : ℕ) → (good : Bool) → Event
  -- A node dies, also inside an event that makes no call of the log which leaves a trace.
  Die : (node : ℕ) → Event
  -- It dies inside a delivery: what it was about to append may be in the log.
  DieInDeliver : (message : ℕ) → (answer : Answer) → Event
  -- It dies while it opens the log: the claim was raised before or not.
  DieInInstall : (node view : ℕ) → (raised : Bool) → Event

abbrev pub sent : List Effect → List Sent
sent [] = []
sent (e ∷ es) = elim e [ Send p ↦ p ∷ sent es | _ ↦ sent es ]

abbrev pub acked : List Effect → List (ℕ × ℕ)
acked [] = []
acked (e ∷ es) = elim e [ Acked view place ↦ (view, place) ∷ acked es | _ ↦ acked es ]

-- An acknowledgement is an answer at its place.
abbrev pub points_of : {M : Machine} → ℕ → ℕ → ℕ → Option M.Outcome → List (ℕ × ℕ) → List (Point M)
points_of node inc req outcome [] = []
points_of {M} node inc req outcome (a ∷ as_) =
    record { node = node; inc = inc; place = a.1; req = req; outcome = outcome } ∷ points_of {M = M} node inc req outcome as_

-- The request of the head that a node has, where it has one.
abbrev pub head_of : {M : Machine} → Option (NodeState M) → ℕ
head_of x = elim x [ None ↦ 0 | Some y ↦ y.core.passed + 1 ]

-- A node has done this. The incarnation that runs is the last one that was started.
abbrev pub absorb : {M : Machine} → ℕ → Out M → World M → World M
absorb n o w = record w {
  nodes = put w.nodes n o.node;
  pool = w.pool ++ sent o.effects;
  acks = w.acks ++ acked o.effects;
  points = w.points ++ points_of n (w.starts n) (head_of (w.nodes n)) o.outcome (acked o.effects);
}

abbrev pub stopped : {M : Machine} → ℕ → World M → World M
stopped n w = record w { nodes = put w.nodes n None }

abbrev pub with_log : {M : Machine} → Log → World M → World M
with_log log w = record w { log = log }

-- What becomes of the log.
abbrev pub append : Option Entry → ℕ → Log → Log
append r view l = elim r [ None ↦ l | Some e ↦ record l { order = l.order ++ e ∷ []; view_at = put l.view_at (length l.order + 1) view } ]

abbrev pub leave : Option Entry → ℕ → Log → Log
leave r view l = elim r [ None ↦ l | Some e ↦ record l { doubtful = Some e; doubtful_view = view } ]

-- The log that a recovery finds.
abbrev pub found_log : Bool → Log → Log
found_log found l = elim l.doubtful [
  | None ↦ l
  | Some e ↦ if found
      then record l { order = l.order ++ e ∷ []; view_at = put l.view_at (length l.order + 1) l.doubtful_view; doubtful = None }
      else record l { doubtful = None }
]

-- The log is recovered in a view.
abbrev pub claimed : ℕ → Log → Log
claimed view l = record l { held = view; count = put l.count view (Some (length l.order)) }

abbrev pub raise : Bool → ℕ → Log → Log
raise raised view l = if raised then record l { held = view } else l

abbrev pub logs : {M : Machine} → ℕ → Logged M → World M → World M
logs view d w = with_log (leave d.doubtful view (append d.appended view w.log)) w

abbrev pub deliver : {M : Machine} → World M → Sent → Answer → World M
deliver w p answer = elim (w.nodes p.to) [
  | None ↦ w
  | Some x ↦ absorb p.to (receive x p w.log.held answer).out (logs (number_of x) (receive x p w.log.held answer) w)
]

-- The record that an event would have appended, or may have.
abbrev pub written : {M : Machine} → Logged M → Option Entry
written d = elim d.appended [ None ↦ d.doubtful | Some e ↦ Some e ]

abbrev pub die_in_deliver : {M : Machine} → World M → Sent → Answer → World M
die_in_deliver w p answer = elim (w.nodes p.to) [
  | None ↦ w
  | Some x ↦ stopped p.to (with_log (leave (written (receive x p w.log.held answer)) (number_of x) w.log) w)
]

abbrev pub recover : {M : Machine} → World M → ℕ → NodeState M → View → Opening → World M
recover w n x v opening =
    if nat_lt v.number w.log.held then absorb n (halts (halt.Fenced w.log.held)) w
    else elim opening [
      | Recovered found ↦ absorb n (recovers (entered v x) w.log.cap (found_log found w.log).order) (with_log (claimed v.number (found_log found w.log)) w)
      | Refused raised cause ↦ absorb n (halts cause) (with_log (raise raised v.number w.log) w)
    ]

abbrev pub install : {M : Machine} → World M → ℕ → NodeState M → View → Opening → World M
install w n x v opening =
    if takes_view x v
    then (if is_locker v.members x.join.node then recover w n x v opening else absorb n (nothing (entered v x)) w)
    else w

abbrev pub opens_log : {M : Machine} → World M → NodeState M → View → Bool
opens_log w x v = takes_view x v && (is_locker v.members x.join.node && not (nat_lt v.number w.log.held))

abbrev pub die_in_install : {M : Machine} → World M → ℕ → NodeState M → View → Bool → World M
die_in_install w n x v raised = stopped n (with_log (raise (opens_log w x v && raised) v.number w.log) w)

-- An update that a node takes is its next request.
abbrev pub noted : {M : Machine} → ℕ → NodeState M → Update → World M → World M
noted n x update w =
    if may_submit x then record w { requests = put w.requests n (put (w.requests n) x.join.inc (w.requests n x.join.inc ++ update ∷ [])) } else w

abbrev pub reads : {M : Machine} → ℕ → NodeState M → World M → World M
reads n x w = record w { points = w.points ++ record { node = n; inc = x.join.inc; place = done_of x; req = 0; outcome = None } ∷ [] }

abbrev pub was_started : (ℕ → ℕ) → Member → Bool
was_started starts m = nat_lt 0 m.inc && nat_le m.inc (starts m.node)

-- Nodes of 1 to 16 in ascending order above a floor, each with an incarnation.
abbrev pub ascends : ℕ → List Member → Bool
ascends floor [] = true
ascends floor (m ∷ ms) = nat_lt floor m.node && (nat_le m.node 16 && (nat_le 1 m.inc && ascends m.node ms))

abbrev pub is_view : View → Bool
is_view v = nat_le 1 v.number && ascends 0 v.members

-- A view may be declared whose members are in their order and were started, and which continues the chain.
abbrev pub may_declare : {M : Machine} → World M → View → Bool
may_declare w v = is_view v && (list_all (was_started w.starts) v.members && is_none (fault_of w.chain v))

abbrev pub at_node : {M : Machine} → World M → ℕ → (NodeState M → World M) → World M
at_node w n f = elim (w.nodes n) [ None ↦ w | Some x ↦ f x ]

abbrev pub start : {M : Machine} → World M → ℕ → World M
start {M} w n = elim (w.nodes n) [
  | Some x ↦ w
  | None ↦ record w { nodes = put w.nodes n (Some (fresh M n (w.starts n + 1))); starts = put w.starts n (w.starts n + 1) }
]

abbrev pub happens : {M : Machine} → World M → Event → World M
happens w (Start n) = start w n
happens w (Declare v) = if may_declare w v then record w { chain = w.chain ++ v ∷ [] } else w
happens w (Install n v opening) = at_node w n (λ x. elim (view_in w.chain v) [ None ↦ w | Some u ↦ install w n x u opening ])
happens w (Deliver k answer) = elim (at_place w.pool k) [ None ↦ w | Some p ↦ deliver w p answer ]
happens w (Submit n update valid) = at_node w n (λ x. absorb n (submit x update) (noted n x update w))
happens w (Read n) = at_node w n (λ x. if joining.is_open x.join then absorb n (nothing x) (reads n x w) else w)
happens w (Tick n) = at_node w n (λ x. absorb n (tick x) w)
happens w (Clock n stamp) = if nat_lt stamp (2 ^ 64) then at_node w n (λ x. absorb n (clock x stamp) w) else w
happens w (Checkpoint n good) = at_node w n (λ x. absorb n (checkpoint x w.log.held good) w)
happens w (Die n) = stopped n w
happens w (DieInDeliver k answer) = elim (at_place w.pool k) [ None ↦ w | Some p ↦ die_in_deliver w p answer ]
happens w (DieInInstall n v raised) = at_node w n (λ x. elim (view_in w.chain v) [ None ↦ w | Some u ↦ die_in_install w n x u raised ])

abbrev pub run : {M : Machine} → List Event → World M → World M
run [] w = w
run (e ∷ es) w = run es (happens w e)
