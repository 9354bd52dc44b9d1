-- What a node does behind an event of its member.
use Rattle.std.proofs.Common.{◌≡◌, ℕ, ◌++◌, List, [], Option, None, Some, Result, Ok, Err, IfOk, OnErr, refl, sym, ap, ◌∙◌, subst}
use Rattle.cluster_rules.specs.declared.effect.Effect.{Effect}
use Rattle.cluster_rules.specs.Worlds.{acked}
use Rattle.client_connections.specs.declared.finishing.Finished.{Finished}
use Rattle.client_connections.specs.Clients.{Clients}
use Rattle.client_connections.specs.Finishing.{Finish, finish, finished}
use Rattle.cluster_member.specs.declared.stop.Stop.{Stop}
use Rattle.member_rules.specs.declared.told.Told.{Told}
use Rattle.cluster_member.specs.States.{MemberState}
use Rattle.cluster_node.specs.Acknowledged.{IsAckAt}
use Rattle.cluster_node.specs.Acting.{Acts, ContinuesAt, EndsAs, Finishes, Follows, FollowsTo, answered_with}
use Rattle.cluster_node.specs.Events.{Leads, head_request}
use Rattle.cluster_node.specs.declared.following.Followed.{Followed}
use Rattle.cluster_node.specs.declared.following.Followed.TheVariants.{GoesOn, Stops}
use Rattle.cluster_node.specs.States.{RunningNode, runs}

-- ---- the head is acknowledged

pub finishes : (end : Finished) (s : Clients) (f : Finish) (m n : MemberState) (t : Clients) (told answered more all : List Effect) → finish s end ≡ f
    → answered ≡ answered_with end.effect told → ContinuesAt end.resumes m s n t more → all ≡ answered ++ more → Finishes f m told n t all
finishes end s f m n t told answered more all is answers continues behind = subst (λ (g : Finish). Finishes g m told n t all) is (record {
  more = more;
  continues = continues;
  effects = behind ∙ ap (λ (front : List Effect). front ++ more) answers;
})

pub acts_at : (req : ℕ) (m : MemberState) (s : Clients) (told : Told) (n : MemberState) (t : Clients) (effects : List Effect) (i place : ℕ) → IsAckAt i place told.effects
    → Finishes (finished s.common.waiting req place told.outcome s) m told.effects n t effects → Acts (acked told.effects) req m s told n t effects
acts_at req m s told n t effects i place at finishes = subst (λ (acks : List (ℕ × ℕ)). Acts acks req m s told n t effects) (sym at.first) finishes

pub acts_not : (req : ℕ) (m : MemberState) (s : Clients) (told : Told) → acked told.effects ≡ [] → Acts (acked told.effects) req m s told m s told.effects
acts_not req m s told none = subst (λ (acks : List (ℕ × ℕ)). Acts acks req m s told m s told.effects) (sym none) (refl, refl, refl)

-- ---- an event of the member

pub leads_by : {E F : Type 0} (Event : Result Told Stop → MemberState → Type 0) (x z : RunningNode) (came : Result Told Stop) (m : MemberState)
    (followed : Result Followed F) (r : Result (List Effect) E) (y : Option RunningNode)
    → Event came m → IfOk followed (λ f. FollowsTo came (head_request x) (runs m x.clients) z f) → IfOk r (λ effects. EndsAs followed (Some z) effects y) → OnErr r (y ≡ None)
    → Leads Event x r y
leads_by Event x z came m followed (Err fault) y event follows ends stops = record { came = came; member = m; event = event; follows = tt; stops = stops }
leads_by Event x z came m (Ok (GoesOn told)) (Ok effects) y event follows ends stops = record {
  came = came;
  member = m;
  event = event;
  follows = subst (λ (q : Option RunningNode). Follows came (head_request x) m x.clients q effects) (sym ends.1)
      (subst (λ (l : List Effect). Follows came (head_request x) m x.clients (Some z) l) (sym ends.0) follows);
  stops = tt;
}
leads_by Event x z came m (Ok (Stops told)) (Ok effects) y event follows ends stops = record {
  came = came;
  member = m;
  event = event;
  follows = subst (λ (q : Option RunningNode). Follows came (head_request x) m x.clients q effects) (sym ends.1)
      (subst (λ (l : List Effect). Follows came (head_request x) m x.clients None l) (sym ends.0) follows);
  stops = tt;
}
leads_by Event x z came m (Err fault) (Ok effects) y event follows ends stops = absurd ends
