-- A log was opened, with what it holds.
use Rattle.std.proofs.Common.{◌≡◌, ℕ, ◌+◌, IsTrue, List, [], ◌∷◌, Option, Some, inl, refl, sym, ap, ◌∙◌, subst, arith}
use Rattle.disk_core.specs.Images.{EachImage}
use Rattle.disk_core.specs.Views.{DiskView}
use Rattle.gum_messages.specs.Messages.{Sent}
use Rattle.quorum_log.specs.Image.{Holds}
use Rattle.quorum_log.specs.Logs.{LogValue}
use Rattle.quorum_log.specs.Opening.{IsInOpen}
use Rattle.quorum_log.proofs.Moments.{passes_here, passes_weaken}
use Rattle.cluster_rules.specs.declared.effect.Effect.{Effect}
use Rattle.cluster_rules.specs.Nodes.{NodeState, Replica}
use Rattle.registry_machine.specs.Machine.{ReplicatedRegistry, registry_machine}
use Rattle.single_rules.specs.Single.{Single}
use Rattle.cluster_node.specs.States.{RunningNode}
use Rattle.single_items.specs.Standing.{Asked, Calm, Granting, NodeAlone, Stuck, Way, left_on, node_on}
use Rattle.single_node.specs.Opening.{OpenedAlone, opened_with}
use Rattle.single_log.specs.Contents.{count_found, registry_found}
use Rattle.single_log.specs.Images.{HoldsFront, IsBefore}
use Rattle.single_log.specs.Keeping.{KeepsLog}
use Rattle.single_log.specs.Opening.{AloneOpens, OpenedKeeps, contents_by, found_by}
use Rattle.single_log.specs.Running.{KeepsMember}
use Rattle.single_log.proofs.Adding.{holds_now}
use Rattle.single_log.proofs.Fronts.{front_all}
use Rattle.single_log.proofs.Steps.{further_none}

pub opened_keeps : OpenedKeeps
opened_keeps token v log r w h told = record {
  found_is = h.recovered.holds;
  next = tt;
  now = h.found;
  stands = h.stands told;
  is = further_none h.found h.recovered.contents h.recovered.holds;
  claimed = h.held ∙ sym (ap (λ (l : LogValue). l.claim) h.value);
}

-- What a node without connections has applied.
record AppliesAs (a : Single registry_machine) (x : NodeState registry_machine) : Type 0 where
  replica : x.replica ≡ Some (record { registry = a.registry; done = a.done })
  last : x.last ≡ a.last

applies_on : (way : Way) (a : Single registry_machine) → left_on way a ≡ [] → AppliesAs a (node_on way a)
applies_on (Calm lately) a left = record { replica = refl; last = refl }
applies_on (Asked lately origin u) a left = record { replica = refl; last = refl }
applies_on (Granting origin u) a left = absurd (some_left left)
  where
    some_left : {p : Sent} → ◌≡◌ {A = List Sent} (p ∷ []) [] → ⊥
    some_left is = cc
applies_on (Stuck head others origins) a left = record { replica = refl; last = refl }

abbrev replica_of : ReplicatedRegistry → ℕ → Option (Replica registry_machine)
replica_of registry done = Some (record { registry = registry; done = done })

module _ (node inc stamp number : ℕ) (v : DiskView) (y : RunningNode) (w : DiskView) (es : List Effect) (h : OpenedAlone node inc stamp number v y w es) (told : IsTrue v.tells) where
  applies : AppliesAs (opened_with node inc number stamp h.recovered) y.member.rules
  applies = subst (λ (z : NodeAlone). AppliesAs (opened_with node inc number stamp h.recovered) z.node) (sym h.unconnected.is)
      (applies_on h.unconnected.way (opened_with node inc number stamp h.recovered) h.unconnected.left)

  log_keeps : KeepsLog (found_by h) (contents_by h) [] h.log w
  log_keeps = opened_keeps number v h.log h.recovered w h.opened told

  pub member_keeps : KeepsMember (found_by h) (contents_by h) [] y.member w
  member_keeps =
      let r = h.opened.recovered in
      let count : h.recovered.count ≡ count_found (found_by h) + 0 = (let c = r.count in omega (arith, c)) in
      record {
        log = h.log;
        has = h.has;
        keeps = log_keeps;
        replica = applies.replica ∙ ap (λ (g : ReplicatedRegistry). replica_of g h.recovered.count) r.registry ∙ ap (replica_of (registry_found (contents_by h))) count;
        last = applies.last ∙ r.last;
      }

  pub kept_here : HoldsFront (found_by h) (contents_by h) [] w.current
  kept_here = front_all (found_by h) (contents_by h) [] w.current (holds_now (found_by h) (contents_by h) [] h.log w log_keeps)

pub alone_opens : AloneOpens
alone_opens node inc stamp number v y w es h told = record {
  keeps = member_keeps node inc stamp number v y w es h told;
  kept = record {
    was = record {
      decodes = h.opened.recovered.holds;
      held = inl (subst (λ (c : List ℕ). Holds c (found_by h)) (h.claims.seen told) (h.opened.stands told).holds);
    };
    opened = w;
    opening = passes_weaken (IsInOpen v.current number) (EachImage (IsBefore v.current (found_by h) (contents_by h))) v w (λ m is c image. inl (is.1 c image)) (h.claims.moments told);
    since = passes_here (HoldsFront (found_by h) (contents_by h) []) w (kept_here node inc stamp number v y w es h told);
  };
}
