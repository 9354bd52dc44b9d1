-- The rules, seen to run: what comes of some lists of events, by computation alone.
use Rattle.std.proofs.Common.{◌≡◌, ℕ, ◌+◌, ◌^◌, Bool, true, false, List, [], ◌∷◌, length, replicate, Option, Some, None, refl, sym}
use Rattle.std.specs.Prelude.{⊤}
use Rattle.gum_messages.specs.declared.member.Member.{Member}
use Rattle.gum_messages.specs.declared.view.View.{View}
use Rattle.update_records.specs.declared.update.Update.{Update}
use Rattle.update_records.specs.Limits.{IsUpdate}
use Rattle.view_reconcile.specs.Joining as joining
use Rattle.update_records.specs.Entry.{Entry}
use Rattle.cluster_rules.specs.Machines.{IsMachine, Machine, replay}
use Rattle.gum_messages.specs.declared.body.Body.TheVariants.{Need}
use Rattle.gum_messages.specs.Messages.{Sent}
use Rattle.cluster_rules.specs.Nodes.{NodeState, done_of}
use Rattle.cluster_rules.specs.Joins.{entered, on_need, recovers}
use Rattle.cluster_rules.specs.Updates.{InDoubt, Written}
use Rattle.cluster_rules.specs.Worlds.{Checkpoint, Clock, Declare, Deliver, Die, DieInDeliver, DieInInstall, Event, Install, Point, Read, Recovered, Start, Submit, Tick, World, opening, run}

abbrev listed : List (ℕ × ℕ) → List Member
listed [] = []
listed (m ∷ ms) = record { node = m.0; inc = m.1 } ∷ listed ms

abbrev view : ℕ → List (ℕ × ℕ) → View
view number members = record { number = number; members = listed members }

-- A registry that counts its records, over its capacity.
abbrev pub tally : Machine
tally = record {
  Registry = ℕ × ℕ;
  Outcome = ℕ;
  empty = λ cap. (cap, 0);
  cap = λ r. r.0;
  apply = λ e r. ((r.0, r.1 + 1), r.1);
  encode = λ r. r.1 ∷ [];
  decode = λ cap bytes. elim bytes [ [] ↦ None | b ∷ bs ↦ Some (cap, b) ];
  IsCap = λ cap. ⊤;
  Fits = λ e. ⊤;
}

tally_cap : (order : List Entry) (r : ℕ × ℕ) → (replay tally order r).0 ≡ r.0
tally_cap [] r = refl
tally_cap (e ∷ es) r = tally_cap es (r.0, r.1 + 1)

-- It is such a machine as the theorem asks for.
pub tally_is_machine : IsMachine tally
tally_is_machine = record {
  begins = λ cap. refl;
  keeps = λ e r. refl;
  reads_back = λ cap order is_cap fits. let same : (replay tally order (cap, 0)).0 ≡ cap = tally_cap order (cap, 0) in λ i. Some (sym same i, (replay tally order (cap, 0)).1);
  fits = λ e above below stamp valid. tt;
}

abbrev begin : World tally
begin = opening tally 4096

-- What a script shows of a node: whether it is open, in which view, and how many records it has applied.
abbrev shown : Option (NodeState tally) → Option (Bool × (ℕ × ℕ))
shown None = None
shown (Some x) = Some (joining.is_open x.join, (x.join.view.number, done_of x))

module _ (u : Update) (valid : IsUpdate u) where
  -- One member: it opens, submits, is granted its own lock, and acknowledges at once.
  abbrev one : List Event
  one = Start 1 ∷ Declare (view 1 ((1, 1) ∷ [])) ∷ Install 1 1 (Recovered false) ∷ Submit 1 u valid ∷ Deliver 1 Written ∷ Deliver 2 Written ∷ Deliver 3 Written ∷ []

  pub one_acks : (run one begin).acks ≡ (1, 1) ∷ []
  one_acks = refl

  pub one_applies : shown ((run one begin).nodes 1) ≡ Some (true, (1, 1))
  one_applies = refl

  pub one_logs : length (run one begin).log.order ≡ 1
  one_logs = refl

  -- Two members: node 2 pulls the state, the view opens, and an update of node 2 spreads and finishes.
  abbrev both : List Event
  both =
      Start 1 ∷ Start 2 ∷ Declare (view 1 ((1, 1) ∷ (2, 1) ∷ [])) ∷ Install 2 1 (Recovered false) ∷ Install 1 1 (Recovered false)
      -- Offer, Need, Piece, Ready, OpenView
      ∷ Deliver 1 Written ∷ Deliver 2 Written ∷ Deliver 3 Written ∷ Deliver 4 Written ∷ Deliver 5 Written ∷ []

  pub both_open : shown ((run both begin).nodes 1) ∷ shown ((run both begin).nodes 2) ∷ [] ≡ Some (true, (1, 0)) ∷ Some (true, (1, 0)) ∷ []
  both_open = refl

  abbrev joined : World tally
  joined = run both begin

  -- Ask, Granted; then Apply, Applied, Release
  abbrev granted : List Event
  granted = Submit 2 u valid ∷ Deliver 6 Written ∷ Deliver 7 Written ∷ []

  abbrev spread : List Event
  spread = Deliver 8 Written ∷ Deliver 9 Written ∷ Deliver 10 Written ∷ []

  pub not_yet : (run granted joined).acks ≡ []
  not_yet = refl

  pub both_ack : (run spread (run granted joined)).acks ≡ (1, 1) ∷ []
  both_ack = refl

  pub both_apply : shown ((run spread (run granted joined)).nodes 1) ∷ shown ((run spread (run granted joined)).nodes 2) ∷ [] ≡ Some (true, (1, 1)) ∷ Some (true, (1, 1)) ∷ []
  both_apply = refl

  -- Readers of node 2 are answered before its record reached it, and after; so is the update itself.
  abbrev place_of_point : List (Point tally) → List ℕ
  place_of_point [] = []
  place_of_point (p ∷ ps) = p.place ∷ place_of_point ps

  pub points : place_of_point (run (Read 2 ∷ []) (run spread (run granted (run (Read 2 ∷ []) joined)))).points ≡ 0 ∷ 1 ∷ 1 ∷ []
  points = refl

  -- An Ask that comes again while its sender has the lock is granted again and not logged again.
  abbrev asked_twice : List Event
  asked_twice = Submit 2 u valid ∷ Deliver 6 Written ∷ Deliver 6 Written ∷ []

  pub logged_once : length (run asked_twice joined).log.order ≡ 1
  logged_once = refl

  pub granted_twice : length (run asked_twice joined).pool ≡ 8
  granted_twice = refl

  -- A message that comes twice changes nothing: the update is logged once and acknowledged once.
  abbrev again : List Event
  again = Deliver 6 Written ∷ Deliver 7 Written ∷ Deliver 8 Written ∷ Deliver 9 Written ∷ []

  pub once : length (run again (run spread (run granted joined))).log.order ≡ 1
  once = refl

  pub acked_once : (run again (run spread (run granted joined))).acks ≡ (1, 1) ∷ []
  acked_once = refl

  -- A settled head: the Granted is lost, and the next view's offer shows node 2 its own record.
  abbrev settled : List Event
  settled = Submit 2 u valid ∷ Deliver 6 Written ∷ Declare (view 2 ((1, 1) ∷ (2, 1) ∷ [])) ∷ Install 1 2 (Recovered false) ∷ Install 2 2 (Recovered false) ∷ Deliver 8 Written ∷ []

  -- Its sender dies, and the locker goes on alone with the record, which nobody acknowledges.
  abbrev dies : List Event
  dies = Die 2 ∷ Declare (view 3 ((1, 1) ∷ [])) ∷ Install 1 3 (Recovered false) ∷ []

  pub dead_acks : (run dies (run settled joined)).acks ≡ []
  dead_acks = refl

  pub dead_kept : shown ((run dies (run settled joined)).nodes 1) ≡ Some (true, (3, 1))
  dead_kept = refl

  -- Or the view opens, and it is acknowledged without being logged again.
  abbrev lives : List Event
  lives = Deliver 9 Written ∷ Deliver 10 Written ∷ []

  pub alive_acks : (run lives (run settled joined)).acks ≡ (2, 1) ∷ []
  alive_acks = refl

  pub alive_logs : length (run lives (run settled joined)).log.order ≡ 1
  alive_logs = refl

  -- A record in doubt: the append failed and the node halted; a recovery takes the record or drops it.
  abbrev doubtful : List Event
  doubtful = Start 1 ∷ Declare (view 1 ((1, 1) ∷ [])) ∷ Install 1 1 (Recovered false) ∷ Submit 1 u valid ∷ Deliver 1 InDoubt ∷ []

  abbrev reopens : Bool → List Event
  reopens found = Start 1 ∷ Declare (view 2 ((1, 2) ∷ [])) ∷ Install 1 2 (Recovered found) ∷ []

  pub halted : shown ((run doubtful begin).nodes 1) ≡ None
  halted = refl

  pub taken : shown ((run (reopens true) (run doubtful begin)).nodes 1) ≡ Some (true, (2, 1))
  taken = refl

  pub dropped : shown ((run (reopens false) (run doubtful begin)).nodes 1) ≡ Some (true, (2, 0))
  dropped = refl

  -- The locker's append of node 2's update failed, and node 2 goes on alone. Where the record is found its head is
  -- settled and acknowledged; where it isn't, the update is asked for again and logged once.
  abbrev orphaned : Bool → List Event
  orphaned found = Submit 2 u valid ∷ Deliver 6 InDoubt ∷ Declare (view 2 ((2, 1) ∷ [])) ∷ Install 2 2 (Recovered found) ∷ []

  pub found_acks : (run (orphaned true) joined).acks ≡ (2, 1) ∷ []
  found_acks = refl

  pub lost_asks : (run (orphaned false) joined).acks ≡ []
  lost_asks = refl

  abbrev asks_again : List Event
  asks_again = Deliver 7 Written ∷ Deliver 8 Written ∷ []

  pub lost_acks : (run asks_again (run (orphaned false) joined)).acks ≡ (2, 1) ∷ []
  lost_acks = refl

  pub lost_logs : length (run asks_again (run (orphaned false) joined)).log.order ≡ 1
  lost_logs = refl

  -- A death inside an append leaves the record in doubt as well, and one inside an opening may have raised the claim.
  abbrev torn : List Event
  torn = Start 1 ∷ Declare (view 1 ((1, 1) ∷ [])) ∷ Install 1 1 (Recovered false) ∷ Submit 1 u valid ∷ DieInDeliver 1 Written ∷ []

  pub torn_taken : shown ((run (reopens true) (run torn begin)).nodes 1) ≡ Some (true, (2, 1))
  torn_taken = refl

  abbrev raised : List Event
  raised = Start 1 ∷ Declare (view 1 ((1, 1) ∷ [])) ∷ DieInInstall 1 1 true ∷ []

  pub raised_held : (run raised begin).log.held ≡ 1
  raised_held = refl

  -- An owner of an older view is fenced: it halts at its next append, and nothing is logged.
  abbrev fenced : List Event
  fenced = Start 2 ∷ Declare (view 2 ((2, 1) ∷ [])) ∷ Install 2 2 (Recovered false) ∷ Submit 1 u valid ∷ Deliver 1 Written ∷ []

  abbrev first : List Event
  first = Start 1 ∷ Declare (view 1 ((1, 1) ∷ [])) ∷ Install 1 1 (Recovered false) ∷ []

  pub fenced_halts : shown ((run fenced (run first begin)).nodes 1) ≡ None
  fenced_halts = refl

  pub fenced_logs : length (run fenced (run first begin)).log.order ≡ 0
  fenced_logs = refl

  -- What a node repeats at a tick. The Offer is lost, and the locker's tick makes another: the view opens by it.
  abbrev unoffered : List Event
  unoffered = Start 1 ∷ Start 2 ∷ Declare (view 1 ((1, 1) ∷ (2, 1) ∷ [])) ∷ Install 2 1 (Recovered false) ∷ Install 1 1 (Recovered false) ∷ []

  abbrev offered_again : List Event
  offered_again = Tick 1 ∷ Deliver 2 Written ∷ Deliver 3 Written ∷ Deliver 4 Written ∷ Deliver 5 Written ∷ Deliver 6 Written ∷ []

  pub ticks_open : shown ((run offered_again (run unoffered begin)).nodes 1) ∷ shown ((run offered_again (run unoffered begin)).nodes 2) ∷ [] ≡ Some (true, (1, 0)) ∷ Some (true, (1, 0)) ∷ []
  ticks_open = refl

  -- An Ask is lost, and its sender's tick makes another, which is logged.
  pub tick_asks : length (run (Submit 2 u valid ∷ Tick 2 ∷ Deliver 7 Written ∷ []) joined).log.order ≡ 1
  tick_asks = refl

  -- A checkpoint leaves an open locker as it is; one that fails halts it, and so does a claim of a later view.
  abbrev checkpoints : Bool → List Event
  checkpoints good = Checkpoint 1 good ∷ []

  pub checkpoint_good : shown ((run (checkpoints true) (run one begin)).nodes 1) ≡ Some (true, (1, 1))
  checkpoint_good = refl

  pub checkpoint_fails : shown ((run (checkpoints false) (run one begin)).nodes 1) ≡ None
  checkpoint_fails = refl

  pub checkpoint_fenced : shown ((run (checkpoints true) (run (Start 2 ∷ Declare (view 2 ((2, 1) ∷ [])) ∷ Install 2 2 (Recovered false) ∷ []) (run one begin))).nodes 1) ≡ None
  checkpoint_fenced = refl

  -- The clock sets the stamp of the records that a locker logs; a stamp of more than 64 bits sets none.
  abbrev stamps : List Entry → List ℕ
  stamps [] = []
  stamps (e ∷ es) = e.stamp ∷ stamps es

  pub clock_stamps : stamps (run (Clock 1 5 ∷ Clock 1 (2 ^ 64) ∷ Submit 1 u valid ∷ Deliver 1 Written ∷ []) (run first begin)).log.order ≡ 5 ∷ []
  clock_stamps = refl

  -- A Ready that comes again is answered by another OpenView, and that changes nothing at its member.
  pub opened_again : length (run (Deliver 4 Written ∷ []) joined).pool ≡ 6
  opened_again = refl

  pub stays_open : shown ((run (Deliver 4 Written ∷ Deliver 6 Written ∷ []) joined).nodes 2) ≡ Some (true, (1, 0))
  stays_open = refl

  pub opens_once : length (run (Deliver 4 Written ∷ Deliver 6 Written ∷ []) joined).pool ≡ 6
  opens_once = refl

  -- An Offer at a member that is ready is answered by another Ready.
  abbrev ready : List Event
  ready = Deliver 1 Written ∷ Deliver 2 Written ∷ Deliver 3 Written ∷ []

  pub ready_again : length (run (Deliver 1 Written ∷ []) (run ready (run unoffered begin))).pool ≡ 5
  ready_again = refl

  -- Three members: the record goes to one after the other, and its sender is the last.
  abbrev three : List Event
  three =
      Start 1 ∷ Start 2 ∷ Start 3 ∷ Declare (view 1 ((1, 1) ∷ (2, 1) ∷ (3, 1) ∷ [])) ∷ Install 3 1 (Recovered false) ∷ Install 2 1 (Recovered false) ∷ Install 1 1 (Recovered false)
      -- the Offer to node 2, its Need, Piece; the Offer to node 3, its Need, Piece; both Ready and both OpenView
      ∷ Deliver 1 Written ∷ Deliver 3 Written ∷ Deliver 4 Written ∷ Deliver 2 Written ∷ Deliver 6 Written ∷ Deliver 7 Written ∷ Deliver 5 Written ∷ Deliver 8 Written ∷ Deliver 9 Written ∷ Deliver 10 Written ∷ []

  abbrev third_asks : List Event
  third_asks = Submit 3 u valid ∷ Deliver 11 Written ∷ Deliver 12 Written ∷ Deliver 13 Written ∷ Deliver 14 Written ∷ []

  -- Node 2 has the record, and node 3 doesn't yet.
  pub second_applies : shown ((run third_asks (run three begin)).nodes 2) ∷ shown ((run third_asks (run three begin)).nodes 3) ∷ [] ≡ Some (true, (1, 1)) ∷ Some (true, (1, 0)) ∷ []
  second_applies = refl

  pub third_acks : (run (Deliver 15 Written ∷ Deliver 16 Written ∷ []) (run third_asks (run three begin))).acks ≡ (1, 1) ∷ []
  third_acks = refl

  -- A second request waits behind the head, and is asked for once the head is acknowledged. Each client is told the place
  -- of its own record, and how many records stood before it.
  abbrev twice : List Event
  twice = Submit 1 u valid ∷ Submit 1 u valid ∷ Deliver 1 Written ∷ Deliver 2 Written ∷ Deliver 3 Written ∷ Deliver 4 Written ∷ Deliver 5 Written ∷ []

  abbrev answers : List (Point tally) → List (ℕ × (ℕ × Option ℕ))
  answers [] = []
  answers (p ∷ ps) = (p.req, (p.place, p.outcome)) ∷ answers ps

  pub behind_the_head : length (run (Submit 1 u valid ∷ Submit 1 u valid ∷ []) (run first begin)).pool ≡ 1
  behind_the_head = refl

  pub both_answered : answers (run twice (run first begin)).points ≡ (1, (1, Some 0)) ∷ (2, (2, Some 1)) ∷ []
  both_answered = refl

  -- A Need behind the state's end isn't answered; one at its end is, by a piece of no bytes.
  abbrev replies : ℕ → Option (NodeState tally) → ℕ
  replies offset None = 0
  replies offset (Some x) = length (on_need x 2 offset).effects

  pub need_past_the_end : replies 0 ((run unoffered begin).nodes 1) ∷ replies 1 ((run unoffered begin).nodes 1) ∷ replies 2 ((run unoffered begin).nodes 1) ∷ [] ≡ 1 ∷ 1 ∷ 0 ∷ []
  need_past_the_end = refl

  -- A registry of another capacity than the log's counts as no state: the recovered one is taken in its place.
  abbrev cap_of : Option (NodeState tally) → Option ℕ
  cap_of None = None
  cap_of (Some x) = elim x.replica [ None ↦ None | Some r ↦ Some (r.registry).0 ]

  abbrev over : ℕ → Option (NodeState tally) → Option ℕ
  over cap None = None
  over cap (Some x) = cap_of (recovers (entered (view 2 ((1, 1) ∷ [])) x) cap (run one begin).log.order).node

  pub other_capacity : over 4096 ((run one begin).nodes 1) ∷ over 8192 ((run one begin).nodes 1) ∷ [] ≡ Some 4096 ∷ Some 8192 ∷ []
  other_capacity = refl

-- A state of two pieces: an Offer that comes again between them takes nothing back, and the pull ends.
abbrev pub bulky : Machine
bulky = record tally { encode = λ r. r.1 ∷ replicate 4096 0 }

abbrev pieces : List Event
pieces =
    Start 1 ∷ Start 2 ∷ Declare (view 1 ((1, 1) ∷ (2, 1) ∷ [])) ∷ Install 2 1 (Recovered false) ∷ Install 1 1 (Recovered false)
    -- Offer, Need, Piece; the Offer again; Need, Piece, Ready, OpenView
    ∷ Deliver 1 Written ∷ Deliver 2 Written ∷ Deliver 3 Written ∷ Deliver 1 Written ∷ Deliver 5 Written ∷ Deliver 6 Written ∷ Deliver 7 Written ∷ Deliver 8 Written ∷ []

abbrev opened : {M : Machine} → Option (NodeState M) → Bool
opened None = false
opened (Some x) = joining.is_open x.join

pub pieces_open : opened ((run pieces (opening bulky 4096)).nodes 1) ∷ opened ((run pieces (opening bulky 4096)).nodes 2) ∷ [] ≡ true ∷ true ∷ []
pieces_open = refl

-- A state that doesn't decode is forgotten and pulled again.
abbrev pub deaf : Machine
deaf = record tally { decode = λ cap bytes. None }

abbrev pulls_again : List Event
pulls_again = Start 1 ∷ Start 2 ∷ Declare (view 1 ((1, 1) ∷ (2, 1) ∷ [])) ∷ Install 2 1 (Recovered false) ∷ Install 1 1 (Recovered false) ∷ Deliver 1 Written ∷ Deliver 2 Written ∷ Deliver 3 Written ∷ []

abbrev asked_for : List Sent → List ℕ
asked_for [] = []
asked_for (p ∷ ps) = elim p.body [ Need offset ↦ offset ∷ asked_for ps | _ ↦ asked_for ps ]

pub undecoded : asked_for (run pulls_again (opening deaf 4096)).pool ≡ 0 ∷ 0 ∷ []
undecoded = refl

-- Between the two pieces of a state it asks for the one that is missing.
pub asks_on : asked_for (run pieces (opening bulky 4096)).pool ≡ 0 ∷ 4096 ∷ 4096 ∷ []
asks_on = refl
