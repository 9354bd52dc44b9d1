-- A connection at the door begins and ends, and the next one begins where Alone says.
use Rattle.std.proofs.Common.{◌≡◌, inl, inr, ℕ, ◌+◌, ◌≤◌, ◌<◌, true, false, List, [], ◌++◌, Option, Some, None, is_some, refl, sym, ap, ◌∙◌, subst, arith}
use Rattle.edge_io.specs.Visits.{Visits}
use Rattle.disk_core.specs.Views.{DiskView}
use Rattle.gum_messages.specs.Messages.{Sent}
use Rattle.update_records.specs.Entry.{Entry}
use Rattle.cluster_rules.specs.declared.effect.Effect.{Effect}
use Rattle.cluster_rules.specs.Worlds.{sent}
use Rattle.client_connections.specs.Clients.{Client, Clients, client_at, has_waiting, hung_up}
use Rattle.cluster_node.specs.Events.{Connects, HangsUp}
use Rattle.cluster_node.specs.States.{RunningNode, client_in}
use Rattle.cluster_member.specs.States.{MemberState}
use Rattle.single_items.specs.Alone.{AloneRun, alone, begins_alone, next_alone}
use Rattle.single_items.specs.Events.{told_to}
use Rattle.single_items.specs.Promises.{IsAlone}
use Rattle.single_items.specs.Standing.{StandsAt}
use Rattle.single_items.proofs.AllTaken.{ends_unconnected}
use Rattle.single_node.specs.Delivering.{LogsAll}
use Rattle.single_node.specs.Opening.{LeftAlone}
use Rattle.single_node.specs.Singles.{Sends, SingleState}
use Rattle.single_node.specs.Standing.{alone_node}
use Rattle.single_node.proofs.Connecting.{hang_up_leads}
use Rattle.single_server.specs.declared.ended.Ended.TheVariants.{NoMemory}
use Rattle.single_server.specs.Hearing.{Beginning, IsHeard}
use Rattle.single_server.specs.Serving.{IsCutShort}
use Rattle.single_server.specs.Session.{Starts, beginning_at}
use Rattle.single_server.specs.Talking.{Exchanged, IsAttended, IsCutOffAt, IsFree, IsHeardOutAt, IsOverAt, Leads, waits_in}
use Rattle.single_server.specs.Visits.{IsSent, IsServed}
use Rattle.single_server.proofs.ClosingLaws.{hung_conns}
use Rattle.single_server.proofs.DoorLaws.{leads_so}
use Rattle.single_server.proofs.EndLaws.{cut_is_front, is_alone}
use Rattle.single_server.proofs.SessionLaws.{connection_begins, connection_queues_none}

abbrev Doors : Type 0
Doors = Option Visits

-- ---- memory runs out

-- As the connection was to begin.
pub unconnected_at : (c : ℕ) (b : Beginning) (old : Doors) → IsCutOffAt NoMemory c b b.disk old old
unconnected_at c b old = record {
  off = record { stream = []; told = []; cut = inr (refl, refl, refl); first_of = cut_is_front c b [] [] NoMemory b.disk (inr (refl, refl, refl)) };
  over = leads_so (Exchanged [] [] false) (Exchanged [] [] false) (IsCutShort c [] []) old old (λ v e. record { unused = []; taken = e.taken; short = omega arith; sent = inl e.sent }) (λ first talks. talks);
}

-- As it was to be hung up.
pub unended_at : (c : ℕ) (b : Beginning) (t : SingleState) (w : DiskView) (old new : Doors) → IsHeardOutAt c b t w old new → IsCutOffAt NoMemory c b w old new
unended_at c b t w old new out = record {
  off = record { stream = out.talk.stream; told = out.told; cut = inl (t, w, out.heard, inl refl); first_of = cut_is_front c b out.talk.stream out.told NoMemory w (inl (t, w, out.heard, inl refl)) };
  over = leads_so (Exchanged [] [] false) (IsOverAt out.talk (told_to c out.told)) (IsCutShort c out.talk.stream out.told) old new
      (λ v e. record { unused = out.talk.unused; taken = e.taken; short = out.short; sent = e.sent }) out.over;
}

-- ---- the connection begins

module _ (c : ℕ) (first : AloneRun) (x : RunningNode) (s t : SingleState) (v : DiskView) (es : List Effect) (free : IsFree c first x s) (connects : Connects c s.node.running t.node.running es) (sends : Sends s es t) where
  pub begins_there : Starts c (beginning_at first x v) t v × (t.left ≡ []) × (is_some (client_in c t.node) ≡ true)
  begins_there = connection_begins c s t v es x first free.runs free.quiet free.unconnected (free.unwaited c (omega arith)) free.begun connects sends

  pub begins_heard : IsHeard c t v
  begins_heard = (beginning_at first x v, [], [], begins_there.0)

  pub unwaited_there : (d : ℕ) → c ≤ d → waits_in d t.node ≡ false
  unwaited_there d le = connection_queues_none c s t v es x first free.runs free.quiet free.unconnected (free.unwaited c (omega arith)) free.begun connects sends d ∙ free.unwaited d le

-- ---- and ends

hung_waiting : (c d : ℕ) (s : Clients) (client : Option Client) → has_waiting d (hung_up c client s).0.common ≡ has_waiting d s.common
hung_waiting c d s None = refl
hung_waiting c d s (Some k) = refl

-- Alone's next beginning.
next_begun : (r : AloneRun) → next_alone r ≡ begins_alone (next_alone r).single (next_alone r).client.handles (next_alone r).taken
next_begun r = refl

module _ (c : ℕ) (b : Beginning) (t u : SingleState) (w : DiskView) (old new : Doors) (es : List Effect) (out : IsHeardOutAt c b t w old new) (unwaited : (d : ℕ) → c < d → waits_in d t.node ≡ false)
    (hangs : HangsUp c t.node.running u.node.running es) (sends : Sends t es u) where
  abbrev At : RunningNode
  At = out.heard.now

  stood : StandsAt c b.first out.talk.stream (alone_node At []) (told_to c out.told) out.heard.under_way.added
  stood = subst (λ (l : List Sent). StandsAt c b.first out.talk.stream (alone_node At l) (told_to c out.told) out.heard.under_way.added) out.quiet out.heard.under_way.stands

  abbrev Behind : Type 0
  Behind = IsAttended c b u w (λ talk. Leads (Exchanged [] [] false) (IsServed c b.first talk) old new)

  hangs_at : (r : Option RunningNode) → u.node.running ≡ r → HangsUp c (Some At) r es
  hangs_at r is = subst (λ (q : Option RunningNode). HangsUp c (Some At) q es) is (subst (λ (q : Option RunningNode). HangsUp c q u.node.running es) out.heard.runs hangs)

  module _ (y : RunningNode) (is : u.node.running ≡ Some y) (to : HangsUp c (Some At) (Some y) es) where
    hung : LeftAlone c b.first out.talk.stream y es (told_to c out.told) out.heard.under_way.added
    hung = hang_up_leads c b.first out.talk.stream At y es (told_to c out.told) out.heard.under_way.added stood to

    none_open : y.clients.conns ≡ []
    none_open = ap (λ (n : RunningNode). n.clients.conns) to.0 ∙ hung_conns c b.first out.talk.stream (alone_node At []) (told_to c out.told) out.heard.under_way.added stood

    unwaited_at : (d : ℕ) → c + 1 ≤ d → has_waiting d y.clients.common ≡ false
    unwaited_at d le =
        ap (λ (n : RunningNode). has_waiting d n.clients.common) to.0 ∙ hung_waiting c d At.clients (client_at c At.clients)
        ∙ sym (ap (λ (r : Option RunningNode). elim r [ None ↦ false | Some z ↦ has_waiting d z.clients.common ]) out.heard.runs) ∙ unwaited d (omega (arith, le))

    alone_is : IsAlone c b.first out.talk.given (told_to c out.told) out.heard.under_way.added
    alone_is = is_alone c b out.talk.stream out.told t w out.heard out.quiet out.talk.given out.talk.fault out.items

    free_at : IsFree (c + 1) (next_alone (alone c b.first out.talk.given)) y u
    free_at = record {
      runs = is;
      quiet = sends ∙ ap (λ (l : List Sent). l ++ sent es) out.quiet ∙ hung.silent;
      unconnected = ends_unconnected c b.first out.talk.stream (alone_node y []) (told_to c out.told) out.heard.under_way.added hung.stands refl none_open out.talk.given out.talk.fault out.items;
      begun = next_begun (alone c b.first out.talk.given);
      unwaited = unwaited_at;
    }

    logs_at : LogsAll (alone c b.first out.talk.given).records b.member b.disk y.member w
    logs_at =
        subst (λ (m : MemberState). LogsAll (alone c b.first out.talk.given).records b.member b.disk m w) (sym (ap (λ (n : RunningNode). n.member) to.0))
        (subst (λ (l : List Entry). LogsAll l b.member b.disk At.member w) alone_is.logged out.heard.under_way.logs)

    behind_at : Behind
    behind_at = record {
      talk = out.talk;
      items = out.items;
      node = y;
      free = free_at;
      logs = logs_at;
      told = leads_so (Exchanged [] [] false) (IsOverAt out.talk (told_to c out.told)) (IsServed c b.first out.talk) old new
          (λ v e. record { taken = e.taken; short = out.short; over = e.over; sent = subst (λ (l : List ℕ). IsSent v l) alone_is.told e.sent }) out.over;
    }

  by_running : (r : Option RunningNode) → u.node.running ≡ r → HangsUp c (Some At) r es → Behind
  by_running None is to = absurd to
  by_running (Some y) is to = behind_at y is to

  pub attended : IsAttended c b u w (λ talk. Leads (Exchanged [] [] false) (IsServed c b.first talk) old new)
  attended = by_running u.node.running refl (hangs_at u.node.running refl)
