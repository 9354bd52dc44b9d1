-- Where the node halts at its oldest message.
use Rattle.std.proofs.Common.{◌≡◌, ℕ, List, ◌∷◌, None, Result, Ok, Err, refl}
use Rattle.disk_core.specs.Views.{DiskView}
use Rattle.gum_messages.specs.Messages.{Sent}
use Rattle.update_records.specs.Entry.{Entry}
use Rattle.cluster_rules.specs.declared.effect.Effect.{Effect}
use Rattle.member_rules.specs.declared.told.Told.{Told}
use Rattle.cluster_member.specs.declared.stop.Stop.{Stop}
use Rattle.cluster_member.specs.declared.stop.Stop.TheVariants as stop
use Rattle.cluster_member.specs.Events.{Receives}
use Rattle.cluster_member.specs.Logging.{answer_to}
use Rattle.cluster_member.specs.States.{MemberState}
use Rattle.cluster_node.specs.Acting.{Follows}
use Rattle.cluster_node.specs.Events.{head_request}
use Rattle.cluster_node.specs.States.{RunningNode}
use Rattle.single_items.specs.Alone.{AloneRun}
use Rattle.single_items.specs.Standing.{StandsAt}
use Rattle.single_items.proofs.Halting.{halts_alone}
use Rattle.single_items.proofs.Reasons.{halts_because}
use Rattle.single_node.specs.Laws.{HaltLeads, HaltedAt}
use Rattle.single_node.specs.Standing.{alone_node}

module _ (c : ℕ) (first : AloneRun) (stream : List ℕ) (p : Sent) (left : List Sent) (x : RunningNode) (v w : DiskView) (es : List Effect) (output : List ℕ) (records : List Entry)
    (stands : StandsAt c first stream (alone_node x (p ∷ left)) output records) where
  halted_as : (came : Result Told Stop) (m : MemberState) → Receives v x.member p came m w → Follows came (head_request x) m x.clients None es → HaltedAt c first stream p x v w es output records
  halted_as (Ok told) m r follows = absurd follows
  halted_as (Err stop.Memory) m r follows = absurd follows
  halted_as (Err (stop.Halted cause)) m r follows = record {
    cause = cause;
    effects = follows;
    left = left;
    stood = stands;
    added = r.added;
    logs = r.logs;
    why = halts_because c first stream (alone_node x (p ∷ left)) output records stands p left v.current.held (answer_to r.added) cause refl r.comes.0 r.comes.1;
    had_memory = λ out. let e : ◌≡◌ {A = Result Told Stop} (Err (stop.Halted cause)) (Err stop.Memory) = r.memory out in absurd (cc);
    first_of = halts_alone c first stream (alone_node x (p ∷ left)) output records stands p left v.current.held (answer_to r.added) refl r.comes.0;
  }

pub halt_leads : HaltLeads
halt_leads c first stream p left x v w es output records stands receives =
    halted_as c first stream p left x v w es output records stands receives.came receives.member receives.event receives.follows
