-- What becomes of a node's slot in an event.
use Rattle.std.proofs.Common.{◌≡◌, ◌≢◌, ◌⊎◌, inl, inr, ℕ, ◌+◌, ◌-◌, Bool, true, false, List, Option, Some, None, nat_eq, if◌then◌else◌, refl, sym, ap, ◌∙◌, arith}
use Rattle.std.specs.Prelude.{is_some, slice_set, unwrap_or}
use Rattle.std.specs.Option.{option_flatten}
use Rattle.gum_messages.specs.Messages.{IsNode, Sent}
use Rattle.gum_messages.specs.Places.{at_place}
use Rattle.disk_core.specs.Views.{DiskView}
use Rattle.cluster_rules.specs.declared.effect.Effect.{Effect}
use Rattle.cluster_node.specs.States.{NodeValue, clocked, started}
use Rattle.cluster_worlds.specs.declared.bad_event.BadEvent.TheVariants as bad
use Rattle.cluster_worlds.specs.declared.event.Event.{Event}
use Rattle.cluster_worlds.specs.declared.event.Event.TheVariants as event
use Rattle.cluster_worlds.specs.declared.inner.Inner.{Inner}
use Rattle.cluster_worlds.specs.declared.inner.Inner.TheVariants as inner
use Rattle.cluster_worlds.specs.declared.told.Told.{Told}
use Rattle.cluster_worlds.specs.Conditions.{IsEvent}
use Rattle.cluster_worlds.specs.Happening.{ActsAt, Dies, DiesIn, Does, addressee, reached, with_clock, with_conn, with_start}
use Rattle.cluster_worlds.specs.Refusing.{refusal}
use Rattle.cluster_worlds.specs.Worlds.{WorldState, home_of, node_at, slot_of, starts_of}
use Rattle.world_laws.proofs.Happening.{served_is}
use Rattle.world_laws.proofs.Slots.{Placed, at_set, node_set, node_within, slot_cases}
use Rattle.world_answers.specs.Histories.{concerned}

-- The event doesn't concern the node.
pub record Stays (event : Event) (node : ℕ) (w u : WorldState) : Type 0 where
  pub apart : (m : NodeValue) → concerned event w ≡ Some m → m.number ≢ node
  pub slot : node_at node u ≡ node_at node w
  pub starts : starts_of node u ≡ starts_of node w

-- The node begins its next incarnation.
pub record Begins (event : Event) (node : ℕ) (w u : WorldState) : Type 0 where
  pub none : concerned event w ≡ None
  pub before : node_at node w ≡ None
  pub slot : node_at node u ≡ Some (started node (starts_of node w + 1))
  pub starts : starts_of node u ≡ starts_of node w + 1

-- The event concerns the incarnation that runs there.
pub record Acts (event : Event) (node : ℕ) (w u : WorldState) : Type 0 where
  pub value : NodeValue
  pub concerns : concerned event w ≡ Some value
  pub before : node_at node w ≡ Some value
  pub inc : (m : NodeValue) → node_at node u ≡ Some m → m.inc ≡ value.inc
  pub starts : starts_of node u ≡ starts_of node w

abbrev pub Fate : Event → ℕ → WorldState → WorldState → Type 0
Fate event node w u = Stays event node w u ⊎ (Begins event node w u ⊎ Acts event node w u)

same_number : (j k : ℕ) → nat_eq j k ≡ true → j ≡ k
same_number j k e = grind arith

other_number : (j k : ℕ) → nat_eq j k ≡ false → j ≡ k → ⊥
other_number j k e same = grind arith

-- no slot changes
untouched : (event : Event) (node : ℕ) (w u : WorldState) → concerned event w ≡ None → u.nodes ≡ w.nodes → u.starts ≡ w.starts → Fate event node w u
untouched event node w u none nodes starts = inl (record {
  apart = λ m e. absurd (cc (none, e));
  slot = ap (λ (l : List (Option NodeValue)). option_flatten (at_place l node)) nodes;
  starts = ap (λ (l : List ℕ). unwrap_or (at_place l node) 0) starts;
})

-- one slot changes
touched : (event : Event) (node k : ℕ) (w u : WorldState) (value : NodeValue) (s : Option NodeValue) → Placed w → concerned event w ≡ Some value → node_at k w ≡ Some value
    → u.nodes ≡ slice_set w.nodes (k - 1) s → u.starts ≡ w.starts → ((m : NodeValue) → s ≡ Some m → m.inc ≡ value.inc) → Fate event node w u
touched event node k w u value s p concerns at nodes starts inc =
    let n = node_within w k value p at in
    let found : node_at node u ≡ (if nat_eq node k then s else node_at node w) = ap (λ (l : List (Option NodeValue)). option_flatten (at_place l node)) nodes ∙ node_set w k node s p n in
    let begun : starts_of node u ≡ starts_of node w = ap (λ (l : List ℕ). unwrap_or (at_place l node) 0) starts in
    by (nat_eq node k) refl found begun
  where
    by : (c : Bool) → nat_eq node k ≡ c → node_at node u ≡ (if c then s else node_at node w) → starts_of node u ≡ starts_of node w → Fate event node w u
    by true same found begun = inr (inr (record {
      value = value;
      concerns = concerns;
      before = ap (λ (j : ℕ). node_at j w) (same_number node k same) ∙ at;
      inc = λ m e. inc m (sym found ∙ e);
      starts = begun;
    }))
    by false other found begun = inl (record {
      apart = λ m e number.
          let q : value ≡ m = cc (concerns, e) in
          other_number node k other (sym number ∙ ap (λ (v : NodeValue). v.number) (sym q) ∙ (p.slots k value at).number);
      slot = found;
      starts = begun;
    })

slot_inc : (after : NodeValue) (inc : ℕ) → after.inc ≡ inc → (m : NodeValue) → slot_of after ≡ Some m → m.inc ≡ inc
slot_inc after inc same = slot_cases (λ (s : Option NodeValue). (m : NodeValue) → s ≡ Some m → m.inc ≡ inc) after
    (λ none m e. absurd (cc))
    (λ x some m e. let q : after ≡ m = cc in ap (λ (v : NodeValue). v.inc) (sym q) ∙ same)

-- ---- the events

acts_fate : (event : Event) (node : ℕ) (w v : WorldState) (P : NodeValue → List Effect → NodeValue → DiskView → Type 0) (o : Option NodeValue) (told : List Told) (u : WorldState) → Placed w
    → v.nodes ≡ w.nodes → v.starts ≡ w.starts → concerned event w ≡ o → ((m : NodeValue) → o ≡ Some m → (k : ℕ) × (node_at k w ≡ Some m)) → ActsAt P o v told u → Fate event node w u
acts_fate event node w v P None told u p nodes starts concerns there h =
    untouched event node w u concerns (ap (λ (t : WorldState). t.nodes) h.1 ∙ nodes) (ap (λ (t : WorldState). t.starts) h.1 ∙ starts)
acts_fate event node w v P (Some m) told u p nodes starts concerns there h =
    let k = there m refl in
    let number : h.after.number ≡ k.0 = h.same.number ∙ (p.slots k.0 m k.1).number in
    touched event node k.0 w u m (slot_of h.after) p concerns k.1
    (ap (λ (t : WorldState). t.nodes) h.world ∙ (λ i. slice_set (nodes i) (number i - 1) (slot_of h.after)))
    (ap (λ (t : WorldState). t.starts) h.world ∙ starts) (slot_inc h.after m.inc h.same.inc)

gone_fate : (event : Event) (node : ℕ) (w u : WorldState) (m : NodeValue) (k : ℕ) → Placed w → concerned event w ≡ Some m → node_at k w ≡ Some m → u.nodes ≡ slice_set w.nodes (m.number - 1) None → u.starts ≡ w.starts → Fate event node w u
gone_fate event node w u m k p concerns at nodes starts =
    touched event node k w u m None p concerns at (nodes ∙ ap (λ (j : ℕ). slice_set w.nodes (j - 1) None) (p.slots k m at).number) starts (λ v e. absurd (cc))

dies_fate : (event : Event) (node k : ℕ) (o : Option NodeValue) (w : WorldState) (told : List Told) (u : WorldState) → Placed w → concerned event w ≡ o → node_at k w ≡ o → Dies o w told u → Fate event node w u
dies_fate event node k None w told u p concerns at h = untouched event node w u concerns (ap (λ (t : WorldState). t.nodes) h.1) (ap (λ (t : WorldState). t.starts) h.1)
dies_fate event node k (Some m) w told u p concerns at h = gone_fate event node w u m k p concerns at (ap (λ (t : WorldState). t.nodes) h.1) (ap (λ (t : WorldState). t.starts) h.1)

died_fate : (event : Event) (node moment : ℕ) (bytes : List ℕ) (i : Inner) (o : Option NodeValue) (w : WorldState) (told : List Told) (u : WorldState) → Placed w → concerned event w ≡ o
    → ((m : NodeValue) → o ≡ Some m → (k : ℕ) × (node_at k w ≡ Some m)) → DiesIn moment bytes i o w told u → Fate event node w u
died_fate event node moment bytes i None w told u p concerns there h = untouched event node w u concerns (ap (λ (t : WorldState). t.nodes) h.1) (ap (λ (t : WorldState). t.starts) h.1)
died_fate event node moment bytes i (Some m) w told u p concerns there h =
    let k = there m refl in
    gone_fate event node w u m k.0 p concerns k.1 (ap (λ (t : WorldState). t.nodes) h.world) (ap (λ (t : WorldState). t.starts) h.world)

clock_fate : (node k stamp : ℕ) (o : Option NodeValue) (w u : WorldState) → Placed w → node_at k w ≡ o → u ≡ with_clock stamp o w → Fate (event.Clock k stamp) node w u
clock_fate node k stamp None w u p at h = untouched (event.Clock k stamp) node w u at (ap (λ (t : WorldState). t.nodes) h) (ap (λ (t : WorldState). t.starts) h)
clock_fate node k stamp (Some m) w u p at h =
    touched (event.Clock k stamp) node k w u m (Some (clocked stamp m)) p at at
    (ap (λ (t : WorldState). t.nodes) h ∙ ap (λ (j : ℕ). slice_set w.nodes (j - 1) (Some (clocked stamp m))) (p.slots k m at).number)
    (ap (λ (t : WorldState). t.starts) h) (λ v e. let q : clocked stamp m ≡ v = cc in ap (λ (t : NodeValue). t.inc) (sym q))

not_there : (node : ℕ) (o : Option NodeValue) → (if is_some o then Some (bad.Running node) else None) ≡ None → o ≡ None
not_there node None e = refl
not_there node (Some m) e = absurd (cc)

starts_if : (c : Bool) (s : ℕ) (o : Option ℕ) → unwrap_or (if c then Some s else o) 0 ≡ (if c then s else unwrap_or o 0)
starts_if true s o = refl
starts_if false s o = refl

start_fate : (node k : ℕ) (w u : WorldState) → Placed w → IsNode k → node_at k w ≡ None → u ≡ with_start k w → Fate (event.Start k) node w u
start_fate node k w u p n none h =
    let s : Option NodeValue = Some (started k (starts_of k w + 1)) in
    let found : node_at node u ≡ (if nat_eq node k then s else node_at node w) = ap (λ (t : WorldState). node_at node t) h ∙ node_set w k node s p n in
    let begun : starts_of node u ≡ (if nat_eq node k then starts_of k w + 1 else starts_of node w) =
    ap (λ (t : WorldState). starts_of node t) h
    ∙ ap (λ (o : Option ℕ). unwrap_or o 0) (at_set w.starts k node (starts_of k w + 1) n.first (let l = n.last in let long = p.starts in omega (arith, l, long)))
    ∙ starts_if (nat_eq node k) (starts_of k w + 1) (at_place w.starts node) in
    by (nat_eq node k) refl found begun
  where
    by : (c : Bool) → nat_eq node k ≡ c → node_at node u ≡ (if c then Some (started k (starts_of k w + 1)) else node_at node w) → starts_of node u ≡ (if c then starts_of k w + 1 else starts_of node w)
        → Fate (event.Start k) node w u
    by true same found begun =
        let q : node ≡ k = same_number node k same in
        inr (inl (record {
          none = refl;
          before = ap (λ (j : ℕ). node_at j w) q ∙ none;
          slot = found ∙ (λ i. Some (started (sym q i) (starts_of (sym q i) w + 1)));
          starts = begun ∙ ap (λ (j : ℕ). starts_of j w + 1) (sym q);
        }))
    by false other found begun = inl (record { apart = λ m e. absurd (cc); slot = found; starts = begun })

pub addressed : (o : Option Sent) (w : WorldState) (m : NodeValue) → addressee o w ≡ Some m → (k : ℕ) × (node_at k w ≡ Some m)
addressed None w m e = absurd (cc)
addressed (Some message) w m e = (message.to, e)

pub reached_there : (i : Inner) (w : WorldState) (m : NodeValue) → reached i w ≡ Some m → (k : ℕ) × (node_at k w ≡ Some m)
reached_there (inner.Install node view) w m e = (node, e)
reached_there (inner.Bytes conn piece) w m e = served_is conn (home_of conn w) w m e
reached_there (inner.HangUp conn) w m e = served_is conn (home_of conn w) w m e
reached_there (inner.Deliver number) w m e = addressed (at_place w.pool number) w m e
reached_there (inner.Tick node) w m e = (node, e)
reached_there (inner.Checkpoint node) w m e = (node, e)

pub fate : (e : Event) (node : ℕ) (w : WorldState) (told : List Told) (u : WorldState) → Placed w → IsEvent e → refusal e w ≡ None → Does e w told u → Fate e node w u
fate (event.Start k) node w told u p is none h = start_fate node k w u p is (not_there k (node_at k w) none) h.1
fate (event.Declare view) node w told u p is none h = untouched (event.Declare view) node w u refl (ap (λ (t : WorldState). t.nodes) h.1) (ap (λ (t : WorldState). t.starts) h.1)
fate (event.Install k view) node w told u p is none h = acts_fate (event.Install k view) node w w _ (node_at k w) told u p refl refl refl (λ m e. (k, e)) h
fate (event.Connect conn k) node w told u p is none h = acts_fate (event.Connect conn k) node w (with_conn conn k w) _ (node_at k w) told u p refl refl refl (λ m e. (k, e)) h
fate (event.Bytes conn piece) node w told u p is none h = acts_fate (event.Bytes conn piece) node w w _ (reached (inner.Bytes conn piece) w) told u p refl refl refl (reached_there (inner.Bytes conn piece) w) h
fate (event.HangUp conn) node w told u p is none h = acts_fate (event.HangUp conn) node w w _ (reached (inner.HangUp conn) w) told u p refl refl refl (reached_there (inner.HangUp conn) w) h
fate (event.Deliver number) node w told u p is none h = acts_fate (event.Deliver number) node w w _ (reached (inner.Deliver number) w) told u p refl refl refl (reached_there (inner.Deliver number) w) h
fate (event.Tick k) node w told u p is none h = acts_fate (event.Tick k) node w w _ (node_at k w) told u p refl refl refl (λ m e. (k, e)) h
fate (event.Checkpoint k) node w told u p is none h = acts_fate (event.Checkpoint k) node w w _ (node_at k w) told u p refl refl refl (λ m e. (k, e)) h
fate (event.Fail call) node w told u p is none h = untouched (event.Fail call) node w u refl (ap (λ (t : WorldState). t.nodes) h.1) (ap (λ (t : WorldState). t.starts) h.1)
fate (event.Die k) node w told u p is none h = dies_fate (event.Die k) node k (node_at k w) w told u p refl refl h
fate (event.Clock k stamp) node w told u p is none h = clock_fate node k stamp (node_at k w) w u p refl h.1
fate (event.Batch k update) node w told u p is none h = acts_fate (event.Batch k update) node w w _ (node_at k w) told u p refl refl refl (λ m e. (k, e)) h
fate (event.DieIn moment bytes i) node w told u p is none h = died_fate (event.DieIn moment bytes i) node moment bytes i (reached i w) w told u p refl (reached_there i w) h
