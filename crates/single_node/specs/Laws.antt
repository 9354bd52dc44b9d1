-- The events of a node lead on where it is alone, as Alone says.
use Rattle.std.specs.Prelude.{◌≡◌, ◌≢◌, ◌⊎◌, ℕ, ◌<◌, List, [], ◌∷◌, ◌++◌, Option, Some, None, Result, Ok, Err, option_to_list}
use Rattle.std.specs.declared.alloc.AllocError.{AllocError}
use Rattle.disk_core.specs.Views.{DiskView}
use Rattle.gum_messages.specs.Messages.{Sent}
use Rattle.quorum_log.specs.Logs.{LogValue}
use Rattle.update_records.specs.Entry.{Entry}
use Rattle.record_log.specs.declared.fault.AddFault.{AddFault}
use Rattle.record_log.specs.declared.fault.AddFault.TheVariants as add
use Rattle.cluster_rules.specs.declared.effect.Effect.{Effect}
use Rattle.cluster_rules.specs.declared.effect.Effect.TheVariants.{Halted}
use Rattle.cluster_rules.specs.declared.effect.HaltCause.{HaltCause}
use Rattle.cluster_rules.specs.Receiving.{receive}
use Rattle.cluster_rules.specs.Worlds.{sent}
use Rattle.single_rules.specs.Logging.{to_log}
use Rattle.cluster_member.specs.Logging.{Logs, answer_to}
use Rattle.client_connections.specs.Clients.{closings}
use Rattle.cluster_node.specs.Events.{HearsBytes, NodeReceives}
use Rattle.cluster_node.specs.States.{RunningNode}
use Rattle.single_items.specs.Alone.{AloneRun}
use Rattle.single_items.specs.Events.{told_to}
use Rattle.single_items.specs.Promises.{IsReason, IsRefused, TellsFirst}
use Rattle.single_items.specs.Standing.{StandsAt}
use Rattle.single_node.specs.Standing.{LogsOne, alone_node, work}

-- A piece of the stream of connection `c` comes while no message is under way: it was heard, or it is no part of the stream.
abbrev pub BytesLead : Type 0
BytesLead =
    (c : ℕ) (first : AloneRun) (stream piece : List ℕ) (x y : RunningNode) (es : List Effect) (output : List ℕ) (records : List Entry)
    → StandsAt c first stream (alone_node x []) output records → HearsBytes c piece (Some x) (Some y) es
    → StandsAt c first (stream ++ piece) (alone_node y (sent es)) (output ++ told_to c es) records
    ⊎ (StandsAt c first stream (alone_node y (sent es)) output records × IsRefused c piece x.clients es)

-- The oldest message was heard, with these effects.
pub record HeardOne (c : ℕ) (first : AloneRun) (stream : List ℕ) (p : Sent) (left : List Sent) (x : RunningNode) (v : DiskView) (y : RunningNode) (w : DiskView) (es : List Effect) (output : List ℕ) (records : List Entry) : Type 0 where
  pub logged : Option Entry
  pub logs : LogsOne logged x.member v y.member w
  pub stands : StandsAt c first stream (alone_node y (left ++ sent es)) (output ++ told_to c es) (records ++ option_to_list logged)
  pub less : work (alone_node y (left ++ sent es)) < work (alone_node x (p ∷ left))

abbrev pub MessageLeads : Type 0
MessageLeads =
    (c : ℕ) (first : AloneRun) (stream : List ℕ) (p : Sent) (left : List Sent) (x : RunningNode) (v : DiskView) (y : RunningNode) (w : DiskView) (es : List Effect) (output : List ℕ) (records : List Entry)
    → StandsAt c first stream (alone_node x (p ∷ left)) output records → NodeReceives {E = AllocError} v (Some x) p (Ok es) (Some y) w
    → HeardOne c first stream p left x v y w es output records

-- The node halted at the oldest message, where it stood: what was told and logged before is the first of Alone's, with the
-- record in doubt.
pub record HaltedAt (c : ℕ) (first : AloneRun) (stream : List ℕ) (p : Sent) (x : RunningNode) (v w : DiskView) (es : List Effect) (output : List ℕ) (records : List Entry) : Type 0 where
  pub cause : HaltCause
  pub effects : es ≡ Halted cause ∷ closings x.clients.conns
  pub left : List Sent
  pub stood : StandsAt c first stream (alone_node x (p ∷ left)) output records
  pub added : Option (Result LogValue AddFault)
  pub logs : Logs (to_log x.member.rules p) x.member v added w
  -- Its log didn't take the record, for another reason than that memory ran out, or is claimed by a later view.
  pub why : IsReason cause first.single.view v.current.held (answer_to added)
  pub had_memory : added ≢ Some (Err add.Memory)
  pub first_of : TellsFirst c first stream output (records ++ option_to_list (receive x.member.rules p v.current.held (answer_to added)).doubtful)

abbrev pub HaltLeads : Type 0
HaltLeads =
    (c : ℕ) (first : AloneRun) (stream : List ℕ) (p : Sent) (left : List Sent) (x : RunningNode) (v w : DiskView) (es : List Effect) (output : List ℕ) (records : List Entry)
    → StandsAt c first stream (alone_node x (p ∷ left)) output records → NodeReceives {E = AllocError} v (Some x) p (Ok es) None w
    → HaltedAt c first stream p x v w es output records
