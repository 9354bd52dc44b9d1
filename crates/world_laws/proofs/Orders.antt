-- The order grows by the records that are told, and by nothing else.
use Rattle.std.proofs.Common.{◌≡◌, ℕ, ◌+◌, List, [], ◌∷◌, ◌++◌, length, Option, Some, None, refl, sym, ap, ◌∙◌, append-nil, append_assoc}
use Rattle.std.specs.Prelude.{map}
use Rattle.std.proofs.lemmas.List.{map-append}
use Rattle.update_records.specs.Entry.{Entry, record_text}
use Rattle.disk_core.specs.Views.{DiskView}
use Rattle.cluster_rules.specs.declared.effect.CloseCause.TheVariants.{NodeStopped}
use Rattle.cluster_rules.specs.declared.effect.Effect.{Effect}
use Rattle.cluster_rules.specs.declared.effect.Effect.TheVariants.{Acked, Batched, Closed, Halted, Opened, Reply, Send}
use Rattle.cluster_rules.specs.Worlds.{sent}
use Rattle.cluster_node.specs.States.{NodeValue}
use Rattle.cluster_worlds.specs.declared.event.Event.{Event}
use Rattle.cluster_worlds.specs.declared.event.Event.TheVariants as event
use Rattle.cluster_worlds.specs.declared.inner.Inner.{Inner}
use Rattle.cluster_worlds.specs.declared.inner.Inner.TheVariants as inner
use Rattle.cluster_worlds.specs.declared.told.Told.{Told}
use Rattle.cluster_worlds.specs.declared.told.Told.TheVariants as trace
use Rattle.cluster_worlds.specs.Happening.{ActsAt, Dies, DiesIn, Does, begun, reached, with_clock, with_conn}
use Rattle.cluster_worlds.specs.Telling.{joined, told_effects, told_order}
use Rattle.cluster_worlds.specs.Worlds.{WorldState, node_at}
use Rattle.world_laws.specs.Growing.{Grew, as_told, orders_told}
use Rattle.world_laws.specs.Typed.{RunsTyped}

-- ---- what is told

told_both : (rs : List Entry) (ts : List Told) → orders_told (told_order rs ++ ts) ≡ as_told rs ++ orders_told ts
unfolding orders_told
told_both [] ts = refl
told_both (r ∷ rs) ts = ap (λ (l : List (ℕ × List ℕ)). (r.place, record_text r) ∷ l) (told_both rs ts)

effects_none : (node count : ℕ) (es : List Effect) → orders_told (told_effects node count es) ≡ []
unfolding orders_told told_effects
effects_none node count [] = refl
effects_none node count (Send p ∷ es) = effects_none node (count + length (sent (Send p ∷ []))) es
effects_none node count (Reply conn point bytes ∷ es) = effects_none node (count + length (sent (Reply conn point bytes ∷ []))) es
effects_none node count (Closed conn cause ∷ es) = effects_none node (count + length (sent (Closed conn cause ∷ []))) es
effects_none node count (Acked view place ∷ es) = effects_none node (count + length (sent (Acked view place ∷ []))) es
effects_none node count (Opened view ∷ es) = effects_none node (count + length (sent (Opened view ∷ []))) es
effects_none node count (Batched req point status index ∷ es) = effects_none node (count + length (sent (Batched req point status index ∷ []))) es
effects_none node count (Halted cause ∷ es) = effects_none node (count + length (sent (Halted cause ∷ []))) es

closed_none : (conns : List ℕ) → orders_told (map (λ conn. trace.Closed conn NodeStopped) conns) ≡ []
unfolding orders_told
closed_none [] = refl
closed_none (c ∷ cs) = closed_none cs

-- ---- an event

record GrewBy (before : List Entry) (told : List Told) (after : List Entry) : Type 0 where
  rest : List Entry
  order : after ≡ before ++ rest
  tells : orders_told told ≡ as_told rest

grew_none : (before after : List Entry) (told : List Told) → orders_told told ≡ [] → after ≡ before → GrewBy before told after
grew_none before after told none same = record { rest = []; order = same ∙ sym (append-nil before); tells = none }

nothing_told : (told : List Told) → told ≡ [] → orders_told told ≡ []
unfolding orders_told
nothing_told told e = ap orders_told e

quiet_grew : (w u : WorldState) (told : List Told) → told ≡ [] → u.order ≡ w.order → GrewBy w.order told u.order
quiet_grew w u told none same = grew_none w.order u.order told (nothing_told told none) same

order_of : (w u : WorldState) → u ≡ w → u.order ≡ w.order
order_of w u e = ap (λ (v : WorldState). v.order) e

acts_grew : (P : NodeValue → List Effect → NodeValue → DiskView → Type 0) (o : Option NodeValue) (w : WorldState) (told : List Told) (u : WorldState) → ActsAt P o w told u → GrewBy w.order told u.order
acts_grew P None w told u h = quiet_grew w u told h.0 (order_of w u h.1)
acts_grew P (Some n) w told u h = record {
  rest = joined w.order h.after;
  order = ap (λ (v : WorldState). v.order) h.world;
  tells = ap orders_told h.tells ∙ told_both (joined w.order h.after) (told_effects h.after.number (length w.pool) h.effects)
      ∙ ap (λ (l : List (ℕ × List ℕ)). as_told (joined w.order h.after) ++ l) (effects_none h.after.number (length w.pool) h.effects) ∙ append-nil (as_told (joined w.order h.after));
}

dies_grew : (o : Option NodeValue) (w : WorldState) (told : List Told) (u : WorldState) → Dies o w told u → GrewBy w.order told u.order
dies_grew None w told u h = quiet_grew w u told h.0 (order_of w u h.1)
dies_grew (Some n) w told u h = grew_none w.order u.order told (ap orders_told h.0 ∙ closed_none _) (ap (λ (v : WorldState). v.order) h.1)

died_grew : (moment : ℕ) (bytes : List ℕ) (i : Inner) (o : Option NodeValue) (w : WorldState) (told : List Told) (u : WorldState) → DiesIn moment bytes i o w told u → GrewBy w.order told u.order
died_grew moment bytes i None w told u h = quiet_grew w u told h.0 (order_of w u h.1)
died_grew moment bytes i (Some n) w told u h = grew_none w.order u.order told (ap orders_told h.tells ∙ closed_none _) (ap (λ (v : WorldState). v.order) h.world)

clock_order : (stamp : ℕ) (o : Option NodeValue) (w : WorldState) → (with_clock stamp o w).order ≡ w.order
clock_order stamp None w = refl
clock_order stamp (Some n) w = refl

does_grew : (e : Event) (w : WorldState) (told : List Told) (u : WorldState) → Does e w told u → GrewBy w.order told u.order
does_grew (event.Start node) w told u h = quiet_grew w u told h.0 (ap (λ (v : WorldState). v.order) h.1)
does_grew (event.Declare view) w told u h = quiet_grew w u told h.0 (ap (λ (v : WorldState). v.order) h.1)
does_grew (event.Install node view) w told u h = acts_grew _ (reached (inner.Install node view) w) w told u h
does_grew (event.Connect conn node) w told u h = acts_grew _ (node_at node w) (with_conn conn node w) told u h
does_grew (event.Bytes conn piece) w told u h = acts_grew _ (reached (inner.Bytes conn piece) w) w told u h
does_grew (event.HangUp conn) w told u h = acts_grew _ (reached (inner.HangUp conn) w) w told u h
does_grew (event.Deliver number) w told u h = acts_grew _ (reached (inner.Deliver number) w) w told u h
does_grew (event.Tick node) w told u h = acts_grew _ (reached (inner.Tick node) w) w told u h
does_grew (event.Checkpoint node) w told u h = acts_grew _ (reached (inner.Checkpoint node) w) w told u h
does_grew (event.Fail call) w told u h = quiet_grew w u told h.0 (ap (λ (v : WorldState). v.order) h.1)
does_grew (event.Die node) w told u h = dies_grew (node_at node w) w told u h
does_grew (event.Clock node stamp) w told u h = quiet_grew w u told h.0 (ap (λ (v : WorldState). v.order) h.1 ∙ clock_order stamp (node_at node w) w)
does_grew (event.Batch node update) w told u h = acts_grew _ (node_at node w) w told u h
does_grew (event.DieIn moment bytes i) w told u h = died_grew moment bytes i (reached i w) w told u h

-- ---- a run

pub grew : (events : List Event) (w : WorldState) (tolds : List (List Told)) (u : WorldState) → RunsTyped w events tolds u → Grew w tolds u
unfolding RunsTyped
grew [] w [] u h = record { rest = []; order = ap (λ (v : WorldState). v.order) h ∙ sym (append-nil w.order); told = refl }
grew (e ∷ es) w (told ∷ tolds) u h =
    let one : GrewBy w.order told h.0.order = does_grew e (begun h.3.1.disk w) told h.0 h.3.1.does in
    let others : Grew h.0 tolds u = grew es h.0 tolds u h.4 in
    record {
      rest = one.rest ++ others.rest;
      order = others.order ∙ ap (λ (l : List Entry). l ++ others.rest) one.order ∙ append_assoc w.order one.rest others.rest;
      told = (λ i. (one.tells i) ++ others.told i) ∙ sym (map-append (λ (e : Entry). (e.place, record_text e)) one.rest others.rest);
    }
grew [] w (told ∷ tolds) u h = absurd h
grew (e ∷ es) w [] u h = absurd h
