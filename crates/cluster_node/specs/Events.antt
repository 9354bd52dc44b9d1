-- The events of a node. One that has stopped does nothing, and so does one that runs out of memory from then on.
use Rattle.std.specs.Prelude.{◌≡◌, ℕ, List, [], ◌∷◌, Option, Some, None, Result, IfOk, OnErr, option_to_list, unwrap_or}
use Rattle.disk_core.specs.Views.{DiskView}
use Rattle.update_records.specs.declared.update.Update.{Update}
use Rattle.gum_messages.specs.declared.view.View.{View}
use Rattle.gum_messages.specs.Messages.{Sent}
use Rattle.gum_core.specs.Updating as updating
use Rattle.cluster_rules.specs.declared.effect.Effect.{Effect}
use Rattle.cluster_rules.specs.Receiving as rules
use Rattle.cluster_member.specs.declared.stop.Stop.{Stop}
use Rattle.member_rules.specs.declared.told.Told.{Told}
use Rattle.cluster_member.specs.Events.{Installs, Receives, WritesCheckpoint}
use Rattle.cluster_member.specs.States.{MemberState}
use Rattle.client_connections.specs.Clients.{Clients, client_at, closings, connected, hung_up}
use Rattle.client_connections.specs.Finishing.{batched}
use Rattle.cluster_node.specs.Acting.{Follows, HearsPiece, Submits}
use Rattle.cluster_node.specs.States.{RunningNode, runs}

-- The request of the queue's head; 0 where the queue is empty, and then none is acknowledged.
abbrev pub head_request : RunningNode → ℕ
head_request x = unwrap_or (updating.head_request x.member.rules.core) 0

-- Nothing is done where the node has stopped.
pub record IsSilent {E : Type 0} (v : DiskView) (r : Result (List Effect) E) (y : Option RunningNode) (w : DiskView) : Type 0 where
  pub stopped : y ≡ None
  pub effects : IfOk r (λ effects. effects ≡ [])
  pub disk : w ≡ v

-- ---- events that may call the disk

-- An event of the member, and what the node does behind it. Where memory ran out the member's calls of the disk were made all the same.
pub record Leads {E : Type 0} (Event : Result Told Stop → MemberState → Type 0) (x : RunningNode) (r : Result (List Effect) E) (y : Option RunningNode) : Type 0 where
  pub came : Result Told Stop
  pub member : MemberState
  pub event : Event came member
  pub follows : IfOk r (λ effects. Follows came (head_request x) member x.clients y effects)
  pub stops : OnErr r (y ≡ None)

abbrev pub NodeInstalls : {E : Type 0} → DiskView → Option RunningNode → View → Result (List Effect) E → Option RunningNode → DiskView → Type 0
NodeInstalls v None view r y w = IsSilent v r y w
NodeInstalls v (Some x) view r y w = Leads (λ came member. Installs v x.member view came member w) x r y

abbrev pub NodeReceives : {E : Type 0} → DiskView → Option RunningNode → Sent → Result (List Effect) E → Option RunningNode → DiskView → Type 0
NodeReceives v None p r y w = IsSilent v r y w
NodeReceives v (Some x) p r y w = Leads (λ came member. Receives v x.member p came member w) x r y

abbrev pub NodeChecks : {E : Type 0} → DiskView → Option RunningNode → Result (List Effect) E → Option RunningNode → DiskView → Type 0
NodeChecks v None r y w = IsSilent v r y w
NodeChecks v (Some x) r y w = Leads (λ came member. WritesCheckpoint v x.member came member w) x r y

-- ---- the other events, where memory sufficed

abbrev pub Ticks : Option RunningNode → Option RunningNode → List Effect → Type 0
Ticks None None effects = effects ≡ []
Ticks (Some x) (Some y) effects = (y ≡ x) × (effects ≡ (rules.tick x.member.rules).effects)
Ticks x y effects = ⊥

-- The connections change, and tell one effect at most.
abbrev pub ClientsTell : RunningNode → Clients × Option Effect → RunningNode → List Effect → Type 0
ClientsTell x changed y effects = (y ≡ runs x.member changed.0) × (effects ≡ option_to_list changed.1)

abbrev pub Connects : ℕ → Option RunningNode → Option RunningNode → List Effect → Type 0
Connects conn None None effects = effects ≡ []
Connects conn (Some x) (Some y) effects = ClientsTell x (connected conn x.clients) y effects
Connects conn x y effects = ⊥

abbrev pub HangsUp : ℕ → Option RunningNode → Option RunningNode → List Effect → Type 0
HangsUp conn None None effects = effects ≡ []
HangsUp conn (Some x) (Some y) effects = ClientsTell x (hung_up conn (client_at conn x.clients) x.clients) y effects
HangsUp conn x y effects = ⊥

-- Each connection is closed, and the node runs no longer.
abbrev pub Dies : Option RunningNode → Option RunningNode → List Effect → Type 0
Dies None None effects = effects ≡ []
Dies (Some x) None effects = effects ≡ closings x.clients.conns
Dies x y effects = ⊥

abbrev pub HearsBytes : ℕ → List ℕ → Option RunningNode → Option RunningNode → List Effect → Type 0
HearsBytes conn piece None None effects = effects ≡ []
HearsBytes conn piece (Some x) (Some y) effects = HearsPiece conn piece x.member x.clients y.member y.clients effects
HearsBytes conn piece x y effects = ⊥

-- A batch is refused, or its update is submitted.
abbrev pub Refuses : Option Effect → Update → MemberState → MemberState → List Effect → Type 0
Refuses (Some refused) update m n effects = (n ≡ m) × (effects ≡ refused ∷ [])
Refuses None update m n effects = Submits (Some update) [] m n effects

pub record BatchesAt (update : Update) (x y : RunningNode) (effects : List Effect) : Type 0 where
  pub clients : y.clients ≡ (batched x.member.rules.core.is_open x.clients).0
  pub submits : Refuses (batched x.member.rules.core.is_open x.clients).1 update x.member y.member effects

abbrev pub Batches : Update → Option RunningNode → Option RunningNode → List Effect → Type 0
Batches update None None effects = effects ≡ []
Batches update (Some x) (Some y) effects = BatchesAt update x y effects
Batches update x y effects = ⊥
