-- A piece of the connection's stream.
use Rattle.std.proofs.Common.{ℕ, List, [], refl, sym, ap, subst}
use Rattle.update_records.specs.Entry.{Entry}
use Rattle.cluster_rules.specs.declared.effect.Effect.{Effect}
use Rattle.cluster_rules.specs.Nodes.{NodeState}
use Rattle.registry_machine.specs.Machine.{registry_machine}
use Rattle.client_connections.specs.Clients.{client_at}
use Rattle.client_connections.specs.Taking.{Hears, Serving}
use Rattle.cluster_node.specs.Acting.{HearsPiece}
use Rattle.cluster_node.specs.States.{RunningNode}
use Rattle.single_items.specs.Alone.{AloneRun}
use Rattle.single_items.specs.Events.{PieceComes, serving_by}
use Rattle.single_items.specs.Standing.{NodeAlone, StandsAt}
use Rattle.single_items.proofs.Pieces.{hears_piece}
use Rattle.single_node.specs.Laws.{BytesLead}
use Rattle.single_node.specs.Standing.{alone_node}
use Rattle.single_node.proofs.Agreeing.{AgreesOpen, open_on, served_by, serves_by}

pub piece_comes : (c : ℕ) (piece : List ℕ) (x y : RunningNode) (es : List Effect) → AgreesOpen x.member.rules → HearsPiece c piece x.member x.clients y.member y.clients es
    → PieceComes c piece x.member.rules x.clients y.member.rules y.clients es
piece_comes c piece x y es same h =
    served_by (Hears (serving_by x.member.rules) c piece (client_at c x.clients) x.clients) h.told h.queued x.member y.member y.clients es
    (subst (λ (v : Serving). Hears v c piece (client_at c x.clients) x.clients y.clients h.told h.queued) (serves_by x.member same) h.hears) h.submits

pub stands_open : (c : ℕ) (first : AloneRun) (stream : List ℕ) (z : NodeAlone) (output : List ℕ) (records : List Entry) → StandsAt c first stream z output records → AgreesOpen z.node
stands_open c first stream z output records h =
    subst (λ (x : NodeState registry_machine). AgreesOpen x) (sym (ap (λ (n : NodeAlone). n.node) h.is)) (open_on h.phase.way h.phase.run.single)

pub bytes_lead : BytesLead
bytes_lead c first stream piece x y es output records stands heard =
    hears_piece c first stream (alone_node x []) output records stands piece y.member.rules y.clients es refl
    (piece_comes c piece x y es (stands_open c first stream (alone_node x []) output records stands) heard)
