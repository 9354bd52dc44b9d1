-- Joining leaves a node's queue as it is, until the view opens.
use Rattle.std.proofs.Common.{◌≡◌, ℕ, Bool, true, false, not, ◌&&◌, List, [], ◌∷◌, ◌++◌, length, Option, Some, None, nat_eq, if◌then◌else◌, refl, sym, ap, ◌∙◌, subst}
use Rattle.std.proofs.lemmas.List.{append-nil}
use Rattle.gum_messages.specs.declared.body.Body.{Body}
use Rattle.gum_messages.specs.declared.body.Body.TheVariants.{Ask, Granted, Apply, Applied, Release, Offer, Need, Piece, Ready, OpenView}
use Rattle.gum_messages.specs.declared.view.View.{View}
use Rattle.gum_messages.specs.Members.{spread_of}
use Rattle.gum_messages.specs.Messages.{Sent}
use Rattle.gum_core.specs.Updating.{CoreState}
use Rattle.gum_core.specs.Updating as updating
use Rattle.update_records.specs.Entry.{Entry}
use Rattle.view_reconcile.specs.declared.step.Step.{Step}
use Rattle.view_reconcile.specs.declared.step.Step.TheVariants as step
use Rattle.view_reconcile.specs.Joining.{ReconcileState}
use Rattle.view_reconcile.specs.Joining as joining
use Rattle.cluster_rules.specs.Machines.{Machine}
use Rattle.cluster_rules.specs.declared.effect.HaltCause.TheVariants as halt
use Rattle.cluster_rules.specs.declared.offering.Offering.{Offering}
use Rattle.cluster_rules.specs.Nodes.{NodeState, Out, Replica, becomes, halts, locker_at, members_of, nothing, number_of, place_of, tells, to_each}
use Rattle.cluster_rules.specs.Updates.{Answer, applied, opens, unlogged}
use Rattle.cluster_rules.specs.Joins.{done_within, entered, follows, gathers, goes_on, hears_itself, joined, marks_ready, on_need, on_offer, on_open_view, on_piece, on_ready, opens_view, piece, recovers_from, says_ready, sends_piece, takes_state, with_replica}
use Rattle.cluster_rules.specs.Receiving.{checkpoint, counts, hears, receive}
use Rattle.cluster_rules.specs.Worlds.{acked}
use Rattle.cluster_node.specs.Explained.{told_to_clients}
use Rattle.cluster_node.proofs.ForClients.{told_acks}
use Rattle.cluster_node.proofs.Turns.{Headed, Moves, Same, Turn, applied_turn, apply_turn, ask_turn, begins_opened, granted_turn, halted, no_acks, no_tells, opens_turn, quiet, release_turn, still}

moves_on : (v : View) (c d : CoreState) (acks : List (ℕ × ℕ)) → Moves (updating.entered c v) acks d → Moves c acks d
moves_on v c d [] kept = record { passed = kept.passed; queue = kept.queue }
moves_on v c d (ack ∷ acks) (popped, none) = (record { had = popped.had; passed = popped.passed; queue = popped.queue }, none)

module _ {M : Machine} where
  -- ---- an Offer

  last_by : (x : NodeState M) (o : Offering) (join : ReconcileState) (last : Option Entry) → Headed x.core
      → Turn x.core (elim last [ None ↦ nothing x | Some e ↦ says_ready (joined (applied e x) o.count o.last join) ])
  last_by x o join None h = still x [] refl h
  last_by x o join (Some e) h = still (joined (applied e x) o.count o.last join) _ refl h

  pulls_to : (x : NodeState M) (o : Offering) (join : ReconcileState) (offset to : ℕ) (begins : Bool) → Headed x.core
      → Turn x.core (tells (if begins then record x { join = join; offer = Some o; bytes = [] } else record x { join = join }) to (Need offset))
  pulls_to x o join offset to true h = still (record x { join = join; offer = Some o; bytes = [] }) _ refl h
  pulls_to x o join offset to false h = still (record x { join = join }) _ refl h

  follows_turn : (x : NodeState M) (o : Offering) (join : ReconcileState) (s : Step) → Headed x.core → Turn x.core (follows x o (join, s))
  follows_turn x o join step.Ready h = still (joined x o.count o.last join) _ refl h
  follows_turn x o join step.ApplyLast h = last_by x o (joining.taken join true).0 o.last h
  follows_turn x o join (step.Pull offset) h = pulls_to x o join offset (locker_at x) (nat_eq offset 0) h
  follows_turn x o join step.Nothing h = still x [] refl h
  follows_turn x o join step.Whole h = still x [] refl h
  follows_turn x o join step.Open h = still x [] refl h
  follows_turn x o join (step.OpenAgain to) h = still x [] refl h
  follows_turn x o join (step.OfferTo count) h = still x [] refl h

  offer_by : (x : NodeState M) (o : Offering) (r : ReconcileState × Step) (heard ready : Bool) → Headed x.core
      → Turn x.core (if heard then (if ready then says_ready x else follows x o r) else nothing x)
  offer_by x o r true true h = still x _ refl h
  offer_by x o r true false h = follows_turn x o r.0 r.1 h
  offer_by x o r false ready h = still x [] refl h

  offer_turn : (x : NodeState M) (from : ℕ) (o : Offering) → Headed x.core → Turn x.core (on_offer x from o)
  offer_turn x from o h = offer_by x o _ (nat_eq from (locker_at x) && not (joining.locks x.join)) (joining.is_ready x.join) h

  -- ---- a Need and a Piece

  piece_by : (x : NodeState M) (to : ℕ) (bytes : List ℕ) (offset : ℕ) (count : Option ℕ) → Headed x.core
      → Turn x.core (elim count [ None ↦ nothing x | Some n ↦ tells x to (piece bytes offset n) ])
  piece_by x to bytes offset None h = still x [] refl h
  piece_by x to bytes offset (Some n) h = still x _ refl h

  sends_by : (x : NodeState M) (to : ℕ) (bytes : List ℕ) (offset : ℕ) (sends : Bool) → Headed x.core → Turn x.core (if sends then sends_piece x to bytes offset else nothing x)
  sends_by x to bytes offset true h = piece_by x to bytes offset (joining.piece_length (length bytes) offset) h
  sends_by x to bytes offset false h = still x [] refl h

  need_by : (x : NodeState M) (from offset : ℕ) (replica : Option (Replica M)) → Headed x.core
      → Turn x.core (elim replica [ None ↦ nothing x | Some r ↦ if joining.locks x.join && not (joining.is_open x.join) then sends_piece x from (M.encode r.registry) offset else nothing x ])
  need_by x from offset None h = still x [] refl h
  need_by x from offset (Some r) h = sends_by x from (M.encode r.registry) offset (joining.locks x.join && not (joining.is_open x.join)) h

  need_turn : (x : NodeState M) (from offset : ℕ) → Headed x.core → Turn x.core (on_need x from offset)
  need_turn x from offset h = need_by x from offset x.replica h

  decoded_by : (x : NodeState M) (o : Offering) (join : ReconcileState) (registry : Option M.Registry) → Headed x.core
      → Turn x.core (elim registry [
        | Some found ↦ says_ready (joined (with_replica x found o.count) o.count o.last (joining.taken join true).0)
        | None ↦ tells (record x { join = (joining.taken join false).0; bytes = [] }) (locker_at x) (Need 0)
      ])
  decoded_by x o join (Some found) h = still (joined (with_replica x found o.count) o.count o.last (joining.taken join true).0) _ refl h
  decoded_by x o join None h = still (record x { join = (joining.taken join false).0; bytes = [] }) _ refl h

  whole_by : (x : NodeState M) (bytes : List ℕ) (join : ReconcileState) (offer : Option Offering) → Headed x.core
      → Turn x.core (elim offer [
        | None ↦ nothing x
        | Some o ↦ elim (M.decode o.cap bytes) [
          | Some registry ↦ says_ready (joined (with_replica x registry o.count) o.count o.last (joining.taken join true).0)
          | None ↦ tells (record x { join = (joining.taken join false).0; bytes = [] }) (locker_at x) (Need 0)
        ]
      ])
  whole_by x bytes join None h = still x [] refl h
  whole_by x bytes join (Some o) h = decoded_by x o join (M.decode o.cap bytes) h

  gathers_turn : (x : NodeState M) (bytes : List ℕ) (join : ReconcileState) (s : Step) → Headed x.core → Turn x.core (gathers x bytes (join, s))
  gathers_turn x bytes join (step.Pull offset) h = still (record x { join = join; bytes = x.bytes ++ bytes }) _ refl h
  gathers_turn x bytes join step.Whole h = whole_by x (x.bytes ++ bytes) join x.offer h
  gathers_turn x bytes join step.Nothing h = still x [] refl h
  gathers_turn x bytes join step.Ready h = still x [] refl h
  gathers_turn x bytes join step.ApplyLast h = still x [] refl h
  gathers_turn x bytes join step.Open h = still x [] refl h
  gathers_turn x bytes join (step.OpenAgain to) h = still x [] refl h
  gathers_turn x bytes join (step.OfferTo count) h = still x [] refl h

  piece_turn : (x : NodeState M) (total offset : ℕ) (bytes : List ℕ) → Headed x.core → Turn x.core (on_piece x total offset bytes)
  piece_turn x total offset bytes h = gathers_turn x bytes (joining.pulled x.join total offset (length bytes)).0 (joining.pulled x.join total offset (length bytes)).1 h

  -- ---- a Ready and an OpenView

  opens_view_turn : (x : NodeState M) → Headed x.core → Turn x.core (opens_view x)
  opens_view_turn x h =
      let t = begins_opened x h in
      let acks = no_acks x OpenView (spread_of (members_of x)) _ in
      record { moves = λ y e. subst (λ (told : List (ℕ × ℕ)). Moves x.core told y.core) (sym acks) (t.moves y e); headed = t.headed; clients = no_tells x OpenView (spread_of (members_of x)) _ ∙ t.clients ∙ ap told_acks (sym acks) }

  ready_by : (x : NodeState M) (join : ReconcileState) (s : Step) → Headed x.core → Turn x.core (marks_ready x (join, s))
  ready_by x join (step.OpenAgain to) h = still x _ refl h
  ready_by x join step.Open h = opens_view_turn (record x { join = join }) h
  ready_by x join step.Nothing h = still (record x { join = join }) [] refl h
  ready_by x join step.Ready h = still (record x { join = join }) [] refl h
  ready_by x join step.ApplyLast h = still (record x { join = join }) [] refl h
  ready_by x join (step.Pull offset) h = still (record x { join = join }) [] refl h
  ready_by x join step.Whole h = still (record x { join = join }) [] refl h
  ready_by x join (step.OfferTo count) h = still (record x { join = join }) [] refl h

  ready_turn : (x : NodeState M) (from : ℕ) → Headed x.core → Turn x.core (on_ready x from)
  ready_turn x from h = ready_by x (joining.readied x.join from).0 (joining.readied x.join from).1 h

  open_by : (x : NodeState M) (join : ReconcileState) (opening : Bool) → Headed x.core → Turn x.core (if opening then opens (record x { join = join }) else nothing x)
  open_by x join true h = opens_turn (record x { join = join }) h
  open_by x join false h = still x [] refl h

  open_turn : (x : NodeState M) (from : ℕ) → Headed x.core → Turn x.core (on_open_view x from)
  open_turn x from h = open_by x (joining.opened x.join).0 (nat_eq from (locker_at x) && (joining.opened x.join).1) h

  -- ---- a message

  hears_turn : (x : NodeState M) (from : ℕ) (body : Body) (held : ℕ) (answer : Answer) → Headed x.core → Turn x.core (hears x from body held answer).out
  hears_turn x from (Ask req update) held answer h = ask_turn x from req update held answer h
  hears_turn x from (Granted e) held answer h = granted_turn x e h
  hears_turn x from (Apply e) held answer h = apply_turn x from e h
  hears_turn x from (Applied place) held answer h = applied_turn x from place h
  hears_turn x from (Release req) held answer h = release_turn x from req h
  hears_turn x from (Offer count cap last) held answer h = offer_turn x from (record { count = count; cap = cap; last = last }) h
  hears_turn x from (Need offset) held answer h = need_turn x from offset h
  hears_turn x from (Piece total offset bytes) held answer h = piece_turn x total offset bytes h
  hears_turn x from Ready held answer h = ready_turn x from h
  hears_turn x from OpenView held answer h = open_turn x from h

  receive_by : (x : NodeState M) (p : Sent) (held : ℕ) (answer : Answer) (counted : Bool) → Headed x.core
      → Turn x.core (if counted then hears x p.from p.body held answer else unlogged (nothing x)).out
  receive_by x p held answer true h = hears_turn x p.from p.body held answer h
  receive_by x p held answer false h = still x [] refl h

  pub receive_turn : (x : NodeState M) (p : Sent) (held : ℕ) (answer : Answer) → Headed x.core → Turn x.core (receive x p held answer).out
  receive_turn x p held answer h = receive_by x p held answer (counts x p) h

  -- ---- a checkpoint

  checkpoint_by : (x : NodeState M) (held : ℕ) (locks fenced good : Bool) → Headed x.core
      → Turn x.core (if locks then (if fenced then halts (halt.Fenced held) else (if good then nothing x else halts halt.Disk)) else nothing x)
  checkpoint_by x held true true good h = halted x.core (halt.Fenced held)
  checkpoint_by x held true false true h = still x [] refl h
  checkpoint_by x held true false false h = halted x.core halt.Disk
  checkpoint_by x held false fenced good h = still x [] refl h

  pub checkpoint_turn : (x : NodeState M) (held : ℕ) (good : Bool) → Headed x.core → Turn x.core (checkpoint x held good)
  checkpoint_turn x held good h = checkpoint_by x held (x.core.is_open && updating.locks x.core) _ good h

  -- ---- a view

  goes_on_turn : (x : NodeState M) (o : Offering) (s : Step) → Headed x.core → Turn x.core (goes_on x o s)
  goes_on_turn x o step.Open h = opens_turn x h
  goes_on_turn x o step.Ready h =
      let body = Offer o.count o.cap o.last in
      still x (to_each x body (spread_of (members_of x))) (ap told_to_clients (sym (append-nil (to_each x body (spread_of (members_of x))))) ∙ no_tells x body (spread_of (members_of x)) []) h
  goes_on_turn x o step.Nothing h = still x [] refl h
  goes_on_turn x o step.ApplyLast h = still x [] refl h
  goes_on_turn x o (step.Pull offset) h = still x [] refl h
  goes_on_turn x o step.Whole h = still x [] refl h
  goes_on_turn x o (step.OpenAgain to) h = still x [] refl h
  goes_on_turn x o (step.OfferTo count) h = still x [] refl h

  lacks_by : (x : NodeState M) (o : Offering) (join : ReconcileState) (s : Step) (last : Option Entry) → Headed x.core
      → Turn x.core (elim last [ None ↦ nothing x | Some e ↦ goes_on (joined (applied e x) o.count o.last join) o s ])
  lacks_by x o join s None h = still x [] refl h
  lacks_by x o join s (Some e) h = goes_on_turn (joined (applied e x) o.count o.last join) o s h

  itself_turn : (x : NodeState M) (o : Offering) (registry : M.Registry) (join : ReconcileState) (s : Step) → Headed x.core → Turn x.core (hears_itself x o registry (join, s))
  itself_turn x o registry join step.ApplyLast h = lacks_by x o (joining.taken join true).0 (joining.taken join true).1 o.last h
  itself_turn x o registry join (step.Pull offset) h = goes_on_turn (joined (with_replica x registry o.count) o.count o.last (joining.taken join true).0) o (joining.taken join true).1 h
  itself_turn x o registry join step.Open h = goes_on_turn (joined x o.count o.last join) o step.Open h
  itself_turn x o registry join step.Ready h = goes_on_turn (joined x o.count o.last join) o step.Ready h
  itself_turn x o registry join step.Nothing h = goes_on_turn (joined x o.count o.last join) o step.Nothing h
  itself_turn x o registry join step.Whole h = goes_on_turn (joined x o.count o.last join) o step.Whole h
  itself_turn x o registry join (step.OpenAgain to) h = goes_on_turn (joined x o.count o.last join) o (step.OpenAgain to) h
  itself_turn x o registry join (step.OfferTo count) h = goes_on_turn (joined x o.count o.last join) o (step.OfferTo count) h

  pub recovers_turn : (x : NodeState M) (o : Offering) (registry : M.Registry) → Headed x.core → Turn x.core (recovers_from x o registry)
  recovers_turn x o registry h =
      let offered : ReconcileState × Step = joining.offered x.join o.count (place_of o.last) (done_within x o.cap) in itself_turn x o registry offered.0 offered.1 h

  -- what was so once the view was entered
  pub entered_turn : (v : View) (x : NodeState M) (o : Out M) → Turn (entered v x).core o → Turn x.core o
  entered_turn v x o t = record { moves = λ y e. moves_on v x.core y.core (acked o.effects) (t.moves y e); headed = t.headed; clients = t.clients }

  pub entered_headed : (v : View) (x : NodeState M) → Headed (entered v x).core
  entered_headed v x s e = absurd (cc)
