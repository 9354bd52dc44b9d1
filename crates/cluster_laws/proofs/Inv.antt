-- The invariants of the world.
use Rattle.std.proofs.Common.{◌≡◌, ◌≢◌, ℕ, ◌+◌, ◌-◌, ◌<◌, ◌≤◌, ◌^◌, Bool, true, false, List, [], ◌∷◌, length, take, drop, Option, Some, None, slice_get}
use Rattle.std.specs.List.{AllByRecursion}
use Rattle.gum_messages.specs.declared.member.Member.{Member}
use Rattle.gum_messages.specs.declared.view.View.{View}
use Rattle.gum_messages.specs.Members.{inc_of, locker_of, spread_of}
use Rattle.gum_messages.specs.Places.{at_place}
use Rattle.update_records.specs.Entry.{Entry}
use Rattle.update_records.specs.declared.update.Update.{Update}
use Rattle.update_records.specs.Limits.{IsUpdate}
use Rattle.gum_core.specs.declared.lock.Lock.{Lock}
use Rattle.gum_core.specs.declared.spreading.Spreading.{Spreading}
use Rattle.gum_core.specs.Updating.{greatest_of}
use Rattle.view_reconcile.specs.declared.stage.Stage.TheVariants as stage
use Rattle.view_reconcile.specs.Joining.{ReconcileState}
use Rattle.view_reconcile.specs.Joining as joining
use Rattle.view_reconcile.specs.Chains.{IsChain, view_in}
use Rattle.cluster_rules.specs.Machines.{Machine, outcome_at, registry_at}
use Rattle.gum_messages.specs.declared.body.Body.{Body}
use Rattle.gum_messages.specs.declared.body.Body.TheVariants.{Ask, Granted, Apply, Applied, Release, Offer, Need, Piece, Ready, OpenView}
use Rattle.gum_messages.specs.Messages.{Sent}
use Rattle.cluster_rules.specs.declared.offering.Offering.{Offering}
use Rattle.cluster_rules.specs.Nodes.{NodeState, Replica, done_of, has_state}
use Rattle.cluster_rules.specs.Worlds.{Log, Point, World}

module _ {M : Machine} where
  -- What once true stays true, of one incarnation of a node, where it runs

  -- it has applied the first k records
  pub record Reached (w : World M) (n i k : ℕ) : Type 0 where
    pub started : i ≤ w.starts n
    pub done : (x : NodeState M) → w.nodes n ≡ Some x → x.join.inc ≡ i → k ≤ done_of x

  -- each member of a list has
  pub record AllReached (w : World M) (ms : List Member) (k : ℕ) : Type 0 where
    pub each : (n i : ℕ) → inc_of ms n ≡ i → 0 < i → Reached w n i k

  -- it has finished this request
  pub record Finished (w : World M) (n i req : ℕ) : Type 0 where
    pub started : i ≤ w.starts n
    pub passed : (x : NodeState M) → w.nodes n ≡ Some x → x.join.inc ≡ i → req ≤ x.core.passed

  -- it has asked for this request
  abbrev pub greatest_asked : NodeState M → ℕ
  greatest_asked x = elim x.core.queue [ [] ↦ x.core.passed | u ∷ us ↦ x.core.passed + 1 ]

  pub record Asked (w : World M) (n i req : ℕ) : Type 0 where
    pub started : i ≤ w.starts n
    pub asks : (x : NodeState M) → w.nodes n ≡ Some x → x.join.inc ≡ i → req ≤ greatest_asked x

  -- it answered at this point: it has the records, and a settled head stands no lower
  pub record Past (w : World M) (n i d : ℕ) : Type 0 where
    pub started : i ≤ w.starts n
    pub done : (x : NodeState M) → w.nodes n ≡ Some x → x.join.inc ≡ i → d ≤ done_of x
    pub settled : (x : NodeState M) (k : ℕ) → w.nodes n ≡ Some x → x.join.inc ≡ i → x.settled ≡ Some k → d ≤ k

  -- the update of a request
  abbrev pub Requested : World M → ℕ → ℕ → ℕ → Update → Type 0
  Requested w n i q u = at_place (w.requests n i) q ≡ Some u

  -- it has come to this view
  pub record Entered (w : World M) (n i v : ℕ) : Type 0 where
    pub started : i ≤ w.starts n
    pub view : (x : NodeState M) → w.nodes n ≡ Some x → x.join.inc ≡ i → v ≤ x.join.view.number

  -- its head is waiting for its record
  abbrev pub waits : NodeState M → Type 0
  waits x = (x.core.queue ≢ []) × (x.settled ≡ None)

  abbrev pub at_head : NodeState M → ℕ
  at_head x = x.core.passed + 1

-- a record of the order at its place
pub record Stands (l : Log) (r : Entry) : Type 0 where
  pub at : at_place l.order r.place ≡ Some r

-- one that was logged in a view
pub record LoggedIn (l : Log) (r : Entry) (v : ℕ) : Type 0 where
  pub at : at_place l.order r.place ≡ Some r
  pub view : l.view_at r.place ≡ v

-- it has the id of a request
pub record Has (r : Entry) (n i q : ℕ) : Type 0 where
  pub node : r.id.node ≡ n
  pub inc : r.id.inc ≡ i
  pub req : r.id.req ≡ q

-- no record of the order up to place k has this id
pub record NotBefore (l : Log) (n i req k : ℕ) : Type 0 where
  pub none : (r : Entry) → at_place l.order r.place ≡ Some r → Has r n i req → k < r.place

-- what the machine asks of a log: its capacity is one that a log may have, and each record of the order and the
-- doubtful one fits
pub record FittingLog (M : Machine) (cap : ℕ) (order : List Entry) (doubtful : Option Entry) : Type 0 where
  pub is_cap : M.IsCap cap
  pub records : AllByRecursion M.Fits order
  pub doubt : (r : Entry) → doubtful ≡ Some r → M.Fits r

-- What the facts of a node alone speak of
pub record Own : Type 0 where
  pub node : ℕ
  pub inc : ℕ
  pub view : View
  pub ready : Bool
  pub open_ : Bool
  pub core_node : ℕ
  pub members : List Member
  pub core_open : Bool
  pub greatest : List ℕ
  pub queue : List Update
  pub spreading : Option Spreading
  pub settled : Option ℕ
  pub has_state : Bool
  pub done : ℕ
  pub offer : Option Offering

-- One node, whatever its world is
pub record Local (n : ℕ) (o : Own) : Type 0 where
  pub node : o.node ≡ n
  pub positive : 0 < o.inc
  -- what the core keeps of the view
  pub core_node : o.core_node ≡ n
  pub core_members : o.members ≡ o.view.members
  pub core_open : o.core_open ≡ o.open_
  pub entries : length o.greatest ≡ length o.members
  -- it has members, or is ready, in declared views alone
  pub peopled : (m : ℕ) → 0 < inc_of o.view.members m → o.view.number ≢ 0
  pub ready_view : o.ready ≡ true → o.view.number ≢ 0
  -- the head; that of an open node isn't settled
  pub idle : o.queue ≡ [] → (o.spreading ≡ None) × (o.settled ≡ None)
  pub unsettled : o.open_ ≡ true → o.settled ≡ None
  pub full_state : o.queue ≢ [] → o.has_state ≡ true
  -- who pulls with a state is two records away or more
  pub pulling : (f : Offering) → o.offer ≡ Some f → o.has_state ≡ true → o.done + 1 < f.count

module _ {M : Machine} where
  -- no waiting head of it has its record among the first c
  pub record Clear (w : World M) (n i c : ℕ) : Type 0 where
    pub started : i ≤ w.starts n
    pub within : c ≤ length w.log.order
    pub clear : (x : NodeState M) (r : Entry) → w.nodes n ≡ Some x → x.join.inc ≡ i → waits x → Stands w.log r → Has r n i (at_head x) → c < r.place

  -- it was ready in the view of this number
  pub record WasReady (w : World M) (n i v : ℕ) : Type 0 where
    pub count : ℕ
    pub counted : w.log.count v ≡ Some count
    pub reached : Reached w n i count
    pub clear : Clear w n i count

  -- the bytes that a locker of a view sends
  abbrev pub state_bytes : World M → ℕ → List ℕ
  state_bytes w c = M.encode (registry_at M w.log.cap w.log.order c)

  -- Messages
  abbrev pub MsgOk : World M → View → ℕ → ℕ → Body → Type 0
  MsgOk w v from to (Ask req u) =
      (c : ℕ) × (w.log.count v.number ≡ Some c) × NotBefore w.log from (inc_of v.members from) req c × Asked w from (inc_of v.members from) req × Requested w from (inc_of v.members from) req u
  MsgOk w v from to (Granted r) = LoggedIn w.log r v.number × (r.id.node ≡ to) × (r.id.inc ≡ inc_of v.members to) × Reached w (locker_of v.members) (inc_of v.members (locker_of v.members)) r.place
  MsgOk w v from to (Apply r) = LoggedIn w.log r v.number
  MsgOk w v from to (Applied k) = Reached w from (inc_of v.members from) k
  MsgOk w v from to (Release req) =
      Finished w from (inc_of v.members from) req × (r : Entry) × Stands w.log r × Has r from (inc_of v.members from) req × AllReached w v.members r.place
  MsgOk w v from to (Offer c cap last) = (w.log.count v.number ≡ Some c) × (cap ≡ w.log.cap) × (at_place w.log.order c ≡ last)
  MsgOk w v from to (Need offset) = Unit {0}
  MsgOk w v from to (Piece total offset bytes) =
      (c : ℕ) × (w.log.count v.number ≡ Some c) × (total ≡ length (state_bytes w c)) × (bytes ≡ take (length bytes) (drop offset (state_bytes w c)))
  MsgOk w v from to Ready = WasReady w from (inc_of v.members from) v.number
  MsgOk w v from to OpenView = (n : ℕ) → 0 < inc_of v.members n → WasReady w n (inc_of v.members n) v.number

  pub record Pooled (w : World M) (p : Sent) : Type 0 where
    pub view : View
    pub declared : view_in w.chain p.view ≡ Some view
    pub number : view.number ≡ p.view
    pub ok : MsgOk w view p.from p.to p.body

  abbrev pub own : NodeState M → Own
  own x = record {
    node = x.join.node;
    inc = x.join.inc;
    view = x.join.view;
    ready = joining.is_ready x.join;
    open_ = joining.is_open x.join;
    core_node = x.core.node;
    members = x.core.members;
    core_open = x.core.is_open;
    greatest = x.core.greatest;
    queue = x.core.queue;
    spreading = x.core.spreading;
    settled = x.settled;
    has_state = has_state x;
    done = done_of x;
    offer = x.offer;
  }

  abbrev pub done_in : Option (Replica M) → ℕ
  done_in replica = elim replica [ None ↦ 0 | Some r ↦ r.done ]

  abbrev pub is_held : Option (Replica M) → Bool
  is_held replica = elim replica [ None ↦ false | Some r ↦ true ]

  -- Its registry, and the one that it pulls, against the order of the log and the counts of views
  pub record Prefix (cap : ℕ) (order : List Entry) (count : ℕ → Option ℕ) (s : ReconcileState) (replica : Option (Replica M)) (shown : Option Entry) (offer : Option Offering) (bytes : List ℕ) : Type 0 where
    pub within : done_in replica ≤ length order
    pub registry : (r : Replica M) → replica ≡ Some r → r.registry ≡ registry_at M cap order r.done
    pub last : (r : Replica M) → replica ≡ Some r → shown ≡ at_place order r.done
    -- counts of views
    pub ready_state : joining.is_ready s ≡ true → (is_held replica ≡ true) × (c : ℕ) × (count s.view.number ≡ Some c) × (c ≤ done_in replica)
    pub below : (v c : ℕ) → count v ≡ Some c → s.view.number < v → done_in replica ≤ c
    pub unready : (c : ℕ) → count s.view.number ≡ Some c → joining.is_ready s ≡ false → done_in replica ≤ c
    pub closed : joining.is_ready s ≡ true → joining.locks s ≡ true → joining.is_open s ≡ false → count s.view.number ≡ Some (done_in replica)
    -- what it follows while it pulls
    pub pull : (o : Offering) → offer ≡ Some o → (joining.is_ready s ≡ false) × (count s.view.number ≡ Some o.count) × (o.cap ≡ cap) × (o.last ≡ at_place order o.count) × (joining.locks s ≡ false)
    pub pulled : (got : ℕ) → s.stage ≡ stage.Pulling got → (o : Offering) × (offer ≡ Some o) × (bytes ≡ take got (M.encode (registry_at M cap order o.count)))

  -- One node in its world
  pub record NodeOk (w : World M) (n : ℕ) (x : NodeState M) : Type 0 where
    pub local : Local n (own x)
    pub prefix : Prefix w.log.cap w.log.order w.log.count x.join x.replica x.last x.offer x.bytes
    pub inc : x.join.inc ≡ w.starts n
    -- declared views
    pub view : x.join.view.number ≢ 0 → (view_in w.chain x.join.view.number ≡ Some x.join.view) × (inc_of x.join.view.members n ≡ x.join.inc)
    -- the lock
    pub lock : (l : Lock) → x.core.lock ≡ Some l → (joining.is_open x.join ≡ true) × (joining.locks x.join ≡ true) × (r : Entry) × (at_place w.log.order (done_of x) ≡ Some r) × LoggedIn w.log r x.join.view.number × (r.id.node ≡ l.node) × (r.id.inc ≡ inc_of x.join.view.members l.node) × (r.id.req ≡ l.req) × (r.place ≡ l.place)
    -- the members that a locker counts as ready, and those of an open view
    pub marked : (m : ℕ) → joining.is_marked x.join m ≡ true → 0 < inc_of x.join.view.members m → WasReady w m (inc_of x.join.view.members m) x.join.view.number
    pub all_ready : joining.is_open x.join ≡ true → (m : ℕ) → 0 < inc_of x.join.view.members m → WasReady w m (inc_of x.join.view.members m) x.join.view.number
    pub settled : (k : ℕ) → x.settled ≡ Some k → (r : Entry) × Stands w.log r × (r.place ≡ k) × Has r n x.join.inc (at_head x) × (k ≤ done_of x) × (joining.is_ready x.join ≡ true → (c : ℕ) → w.log.count x.join.view.number ≡ Some c → k ≤ c)
    pub spreading : (s : Spreading) → x.core.spreading ≡ Some s → (r : Entry) × (x.spreads ≡ Some r) × (r.place ≡ s.place) × (joining.is_open x.join ≡ true) × LoggedIn w.log r x.join.view.number × Has r n x.join.inc (at_head x) × Reached w (locker_of x.join.view.members) (inc_of x.join.view.members (locker_of x.join.view.members)) r.place × ((j : ℕ) (m : Member) → j < s.at → slice_get (spread_of x.join.view.members) j ≡ Some m → Reached w m.node (inc_of x.join.view.members m.node) r.place)
    -- heads and records: no record of a view with this incarnation stands behind a waiting head's
    pub waiting : (r s : Entry) (u : View) → waits x → Stands w.log r → Has r n x.join.inc (at_head x) → Stands w.log s → r.place < s.place → view_in w.chain (w.log.view_at s.place) ≡ Some u → inc_of u.members n ≢ x.join.inc
    pub waiting_doubt : (r s : Entry) (u : View) → waits x → Stands w.log r → Has r n x.join.inc (at_head x) → w.log.doubtful ≡ Some s → view_in w.chain w.log.doubtful_view ≡ Some u → inc_of u.members n ≢ x.join.inc
    pub behind : (r : Entry) (c : ℕ) → waits x → Stands w.log r → Has r n x.join.inc (at_head x) → joining.is_ready x.join ≡ true → w.log.count x.join.view.number ≡ Some c → c < r.place
    -- its waiting head's record is the next one or an applied one
    pub near_head : (r : Entry) → waits x → Stands w.log r → Has r n x.join.inc (at_head x) → r.place ≤ done_of x + 1
    pub near_doubt : (r : Entry) → waits x → w.log.doubtful ≡ Some r → Has r n x.join.inc (at_head x) → length w.log.order ≤ done_of x
    -- what came of the head is kept once its record was applied
    pub outcome : (r : Entry) → x.core.queue ≢ [] → Stands w.log r → Has r n x.join.inc (at_head x) → r.place ≤ done_of x → x.outcome ≡ Some (outcome_at M w.log.cap w.log.order (r.place - 1) r)
    -- the queued updates are those of the requests behind the ones that left
    pub queued : (k : ℕ) (u : Update) → slice_get x.core.queue k ≡ Some u → Requested w n x.join.inc (x.core.passed + (k + 1)) u
    pub all_requests : length (w.requests n x.join.inc) ≡ x.core.passed + length x.core.queue
    -- acks and finished requests: each request that it finished was acknowledged
    pub finished : (q : ℕ) → 1 ≤ q → q ≤ x.core.passed → (r : Entry) × (a v : ℕ) × Stands w.log r × Has r n x.join.inc q × (slice_get w.acks a ≡ Some (v, r.place)) × (v ≤ x.join.view.number)

  -- A locker that owns the log
  pub record Owner (w : World M) (n : ℕ) (x : NodeState M) : Type 0 where
    pub runs : w.nodes n ≡ Some x
    pub ready : joining.is_ready x.join ≡ true
    pub locker : joining.locks x.join ≡ true
    pub held : x.join.view.number ≡ w.log.held

  -- what the owner knows of a member of its view
  pub record MemberOk (l : Log) (lock : Option Lock) (m : ℕ) (y : NodeState M) : Type 0 where
    pub near : length l.order ≤ done_of y + 1
    pub free : lock ≡ None → length l.order ≤ done_of y
    pub heads : (r : Entry) → waits y → Stands l r → Has r m y.join.inc (at_head y) → (k : Lock) × (lock ≡ Some k) × (k.node ≡ m) × (k.req ≡ at_head y)

  pub record OwnerOk (w : World M) (n : ℕ) (x : NodeState M) : Type 0 where
    -- disk of the owner
    pub sure : w.log.doubtful ≡ None
    pub all_done : done_of x ≡ length w.log.order
    -- counts of views
    pub closed : joining.is_open x.join ≡ false → (x.core.lock ≡ None) × (w.log.count x.join.view.number ≡ Some (length w.log.order))
    -- greatest request
    pub greatest : (r : Entry) (c : ℕ) → w.log.count x.join.view.number ≡ Some c → Stands w.log r → c < r.place → 0 < inc_of x.core.members r.id.node → r.id.req ≤ greatest_of x.core r.id.node
    -- lock and members
    pub members : joining.is_open x.join ≡ true → (m : ℕ) (y : NodeState M) → w.nodes m ≡ Some y → inc_of x.join.view.members m ≡ y.join.inc → MemberOk w.log x.core.lock m y

  -- The log's history
  pub record LogOk (w : World M) : Type 0 where
    pub places : (k : ℕ) (r : Entry) → at_place w.log.order k ≡ Some r → r.place ≡ k
    -- ids of taken calls
    pub ids : (r s : Entry) → Stands w.log r → Stands w.log s → r.id.node ≡ s.id.node → r.id.inc ≡ s.id.inc → r.id.req ≡ s.id.req → r.place ≡ s.place
    pub asked : (r : Entry) → Stands w.log r → (1 ≤ r.id.req) × Asked w r.id.node r.id.inc r.id.req
    pub logged : (r : Entry) → Stands w.log r → (u : View) × (view_in w.chain (w.log.view_at r.place) ≡ Some u) × (r.id.inc ≡ inc_of u.members r.id.node) × (0 < r.id.inc)
    pub doubt : (r : Entry) → w.log.doubtful ≡ Some r → (r.place ≡ length w.log.order + 1) × (1 ≤ r.id.req) × Asked w r.id.node r.id.inc r.id.req × NotBefore w.log r.id.node r.id.inc r.id.req (length w.log.order)
    pub doubt_view : (r : Entry) → w.log.doubtful ≡ Some r → (u : View) × (view_in w.chain w.log.doubtful_view ≡ Some u) × (r.id.inc ≡ inc_of u.members r.id.node) × (0 < r.id.inc)
    -- each record is the update of its request
    pub requested : (r : Entry) → Stands w.log r → Requested w r.id.node r.id.inc r.id.req r.update
    pub doubt_requested : (r : Entry) → w.log.doubtful ≡ Some r → Requested w r.id.node r.id.inc r.id.req r.update
    pub unasked : (n i : ℕ) → w.starts n < i → length (w.requests n i) ≡ 0
    -- counts of views
    pub counts : (v c : ℕ) → w.log.count v ≡ Some c → (c ≤ length w.log.order) × (v ≤ w.log.held) × (u : View) × (view_in w.chain v ≡ Some u) × Entered w (locker_of u.members) (inc_of u.members (locker_of u.members)) v
    -- each record was logged in a view whose log had been recovered
    pub recovered : (r : Entry) → Stands w.log r → (c : ℕ) × (w.log.count (w.log.view_at r.place) ≡ Some c)
    pub doubt_recovered : (r : Entry) → w.log.doubtful ≡ Some r → (c : ℕ) × (w.log.count w.log.doubtful_view ≡ Some c)
    pub rising : (v u c d : ℕ) → w.log.count v ≡ Some c → w.log.count u ≡ Some d → v ≤ u → c ≤ d
    -- a record among the first count(v) was logged in a view below v, and one behind them in v or one above
    pub early : (v c : ℕ) (r : Entry) → w.log.count v ≡ Some c → Stands w.log r → r.place ≤ c → w.log.view_at r.place < v
    pub ordered : (r s : Entry) → Stands w.log r → Stands w.log s → r.place ≤ s.place → w.log.view_at r.place ≤ w.log.view_at s.place
    pub by_held : (r : Entry) → Stands w.log r → w.log.view_at r.place ≤ w.log.held
    pub doubt_held : (r : Entry) → w.log.doubtful ≡ Some r → w.log.doubtful_view ≤ w.log.held
    pub doubt_last : (r s : Entry) → w.log.doubtful ≡ Some r → Stands w.log s → w.log.view_at s.place ≤ w.log.doubtful_view
    pub doubt_low : (r : Entry) (u c : ℕ) → w.log.doubtful ≡ Some r → w.log.count u ≡ Some c → u ≤ w.log.doubtful_view
    pub bounds : (v c : ℕ) (r : Entry) → w.log.count v ≡ Some c → Stands w.log r → w.log.view_at r.place < v → r.place ≤ c
    pub held : w.log.held ≢ 0 → (u : View) × (view_in w.chain w.log.held ≡ Some u) × Entered w (locker_of u.members) (inc_of u.members (locker_of u.members)) w.log.held

  -- Acknowledgements
  pub record AckOk (w : World M) (v k : ℕ) : Type 0 where
    pub view : View
    pub declared : view_in w.chain v ≡ Some view
    pub place : k ≤ length w.log.order
    pub later : (u c : ℕ) → w.log.count u ≡ Some c → v < u → k ≤ c
    pub members : AllReached w view.members k

  -- What the machine asks of the world: its log is as above, each update that a node took is valid, and each node's
  -- stamp is one of 64 bits.
  pub record Fitting (w : World M) : Type 0 where
    pub log : FittingLog M w.log.cap w.log.order w.log.doubtful
    pub updates : (n i : ℕ) → AllByRecursion IsUpdate (w.requests n i)
    pub stamps : (n : ℕ) (x : NodeState M) → w.nodes n ≡ Some x → x.stamp < 2 ^ 64

  pub record ChainOk (w : World M) : Type 0 where
    pub chain : IsChain w.chain
    pub started : (v n : ℕ) (u : View) → view_in w.chain v ≡ Some u → inc_of u.members n ≤ w.starts n
    pub locker : (v : ℕ) (u : View) → view_in w.chain v ≡ Some u → 0 < inc_of u.members (locker_of u.members)

  pub record Invariant (w : World M) : Type 0 where
    pub chain : ChainOk w
    pub log : LogOk w
    pub nodes : (n : ℕ) (x : NodeState M) → w.nodes n ≡ Some x → NodeOk w n x
    pub owner : (n : ℕ) (x : NodeState M) → Owner w n x → OwnerOk w n x
    pub pool : (k : ℕ) (p : Sent) → slice_get w.pool k ≡ Some p → Pooled w p
    pub acks : (a v k : ℕ) → slice_get w.acks a ≡ Some (v, k) → AckOk w v k
    pub points : (a : ℕ) (p : Point M) → slice_get w.points a ≡ Some p → Past w p.node p.inc p.place
    pub steady : (a b : ℕ) (p q : Point M) → slice_get w.points a ≡ Some p → slice_get w.points b ≡ Some q → a ≤ b → p.node ≡ q.node → p.inc ≡ q.inc → p.place ≤ q.place
