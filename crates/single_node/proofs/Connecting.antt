-- A connection begins, and the client hangs up.
use Rattle.std.proofs.Common.{◌≡◌, ℕ, Bool, true, List, [], length, nat_lt, Option, Some, None, if◌then◌else◌, refl, sym, ap, ◌∙◌, subst}
use Rattle.std.specs.Prelude.{option_to_list}
use Rattle.cluster_rules.specs.declared.effect.CloseCause.TheVariants.{Limit}
use Rattle.cluster_rules.specs.declared.effect.Effect.{Effect}
use Rattle.cluster_rules.specs.declared.effect.Effect.TheVariants.{Closed}
use Rattle.cluster_rules.specs.Worlds.{sent}
use Rattle.client_connections.specs.Clients.{Client, Clients, client_at, connected, hung_up, most_clients, with_new}
use Rattle.cluster_node.specs.States.{RunningNode, runs}
use Rattle.single_items.specs.Alone.{begins_alone}
use Rattle.single_items.specs.Events.{told_to}
use Rattle.single_items.specs.Standing.{NodeAlone, StandsAt}
use Rattle.single_items.proofs.Connecting.{connects_alone, hangs_up}
use Rattle.single_node.specs.Opening.{ConnectLeads, HangUpLeads}
use Rattle.single_node.specs.Standing.{alone_node}

pub connects_first : (c : ℕ) (s : Clients) → s.conns ≡ [] → connected c s ≡ (with_new c s, None)
connects_first c s none =
    let room : nat_lt (length s.conns) most_clients ≡ true = ap (λ (l : List (ℕ × Client)). nat_lt (length l) most_clients) none in
    ap (λ (b : Bool). if b then (with_new c s, None) else (s, Some (Closed c Limit))) room

pub connect_leads : ConnectLeads
connect_leads c x y es a table taken h free (there, told) =
    let s : Clients = x.clients in
    let to : connected c s ≡ (with_new c s, None) = connects_first c s (ap (λ (z : NodeAlone). z.clients.conns) h.is) in
    let is : y ≡ runs x.member (with_new c s) = there ∙ ap (λ (p : Clients × Option Effect). runs x.member p.0) to in (
      subst (λ (n : RunningNode). StandsAt c (begins_alone a table taken) [] (alone_node n []) [] []) (sym is) (connects_alone c (alone_node x []) a table taken h free),
      told ∙ ap (λ (p : Clients × Option Effect). option_to_list p.1) to,
    )

hang_up_sends : (c : ℕ) (s : Clients) (client : Option Client) → sent (option_to_list (hung_up c client s).1) ≡ []
hang_up_sends c s None = refl
hang_up_sends c s (Some k) = refl

hang_up_tells : (c : ℕ) (s : Clients) (client : Option Client) → told_to c (option_to_list (hung_up c client s).1) ≡ []
hang_up_tells c s None = refl
hang_up_tells c s (Some k) = refl

pub hang_up_leads : HangUpLeads
hang_up_leads c first stream x y es output records h (there, told) = record {
  stands = subst (λ (n : RunningNode). StandsAt c first stream (alone_node n []) output records) (sym there) (hangs_up c first stream (alone_node x []) output records h refl);
  silent = ap sent told ∙ hang_up_sends c x.clients (client_at c x.clients);
  told = ap (told_to c) told ∙ hang_up_tells c x.clients (client_at c x.clients);
}
