-- The records of a node alone, and what they have made of it.
use Rattle.std.proofs.Common.{◌≡◌, ℕ, ◌+◌, ◌<◌, ◌≤◌, Bool, true, false, List, [], ◌∷◌, ◌++◌, length, nat_lt, if◌then◌else◌, Option, Some, None, refl, sym, ap, ◌∙◌, subst, arith, append_assoc, length-append}
use Rattle.std.proofs.lemmas.List.{append-nil, append_cancel_left}
use Rattle.std.specs.Prelude.{option_to_list}
use Rattle.std.specs.List.{AllByRecursion}
use Rattle.update_records.specs.Entry.{Entry}
use Rattle.update_records.specs.declared.update.Update.{Update}
use Rattle.gum_core.specs.Updating.{last_place}
use Rattle.gum_messages.specs.Messages.{Sent}
use Rattle.cluster_rules.specs.Machines.{replay}
use Rattle.cluster_rules.specs.Nodes.{Replica, done_of}
use Rattle.cluster_rules.specs.Receiving.{counts, receive}
use Rattle.cluster_rules.specs.Updates.{InDoubt, Logged, Written, replica_after}
use Rattle.registry_machine.specs.Machine.{ReplicatedRegistry, registry_machine}
use Rattle.log_order.specs.Orders.{last_behind}
use Rattle.client_connections.specs.declared.origin.Origin.{Origin}
use Rattle.client_connections.specs.Items.{most_taken}
use Rattle.single_rules.specs.Logging.{no_entry, to_log}
use Rattle.single_rules.specs.Rounds.{after_all, all_made}
use Rattle.single_rules.specs.Single.{IsSound, Single, ask, asking, grant, granting, made, release, updated}
use Rattle.single_rules.proofs.Orders.{counts_done, counts_made, counts_passed, replays}
use Rattle.single_rules.proofs.Refused.{grants_none, halts_in_doubt}
use Rattle.single_rules.proofs.Told.{logs_ask, logs_in_doubt, logs_written}
use Rattle.cluster_member.specs.States.{MemberState}
use Rattle.cluster_node.specs.States.{RunningNode}
use Rattle.single_items.specs.Alone.{AloneRun}
use Rattle.single_items.specs.Promises.{TellsFirst}
use Rattle.single_items.specs.Standing.{Asked, Calm, Granting, GrownFrom, NodeAlone, StandsAt, Stuck, Way, left_on, logged_on, node_on, queued_on}
use Rattle.single_items.proofs.Fronts.{tells_first}
use Rattle.single_items.proofs.Growing.{after_both, made_both}
use Rattle.single_items.proofs.Halting.{halts_alone}
use Rattle.single_items.proofs.Hearing.{on_first, sound_now}
use Rattle.single_node.specs.Recording.{HasApplied, HasId, IsNamed, IsNext, NextIsAlones, RecordsApplied, RecordsNamed}
use Rattle.single_node.specs.Standing.{IsStill, alone_node}
use Rattle.single_node.proofs.Going.{Changes, State}

-- ---- the log, the registry and the last record stay

pub still_self : (x : MemberState) → IsStill x x
still_self x = record { log = refl; replica = refl; last = refl }

pub still_both : (x y z : MemberState) → IsStill x y → IsStill y z → IsStill x z
still_both x y z a b = record { log = b.log ∙ a.log; replica = b.replica ∙ a.replica; last = b.last ∙ a.last }

-- ---- what the records make

lasts : (a : Single registry_machine) (us : List Update) → (after_all a us).last ≡ last_behind a.last (all_made a us)
lasts a [] = refl
lasts a (u ∷ us) = lasts (updated a u) us

abbrev replica_of : ReplicatedRegistry → ℕ → Option (Replica registry_machine)
replica_of registry done = Some (record { registry = registry; done = done })

applied_by : (first : AloneRun) (us : List Update) (records : List Entry) (x : State) → records ≡ first.records ++ all_made first.single us
    → x.replica ≡ replica_of (after_all first.single us).registry (after_all first.single us).done → x.last ≡ (after_all first.single us).last → HasApplied first records x
applied_by first us records x whole replica last =
    let count : (after_all first.single us).done ≡ first.single.done + length (all_made first.single us) =
    counts_done first.single us ∙ ap (λ (n : ℕ). first.single.done + n) (sym (counts_made first.single us)) in
    record {
      made = all_made first.single us;
      whole = whole;
      replica = replica ∙ ap (λ (g : ReplicatedRegistry). replica_of g (after_all first.single us).done) (replays first.single us)
          ∙ ap (replica_of (replay registry_machine (all_made first.single us) first.single.registry)) count;
      last = last ∙ lasts first.single us;
    }

module _ (first : AloneRun) (r : AloneRun) (queued : ℕ) (g : GrownFrom first queued r) where
  applied_still : (x : State) → x.replica ≡ replica_of r.single.registry r.single.done → x.last ≡ r.single.last → HasApplied first r.records x
  applied_still x replica last =
      applied_by first g.updates r.records x g.records (replica ∙ ap (λ (a : Single registry_machine). replica_of a.registry a.done) g.single) (last ∙ ap (λ (a : Single registry_machine). a.last) g.single)

  applied_more : (u : Update) (x : State) → x.replica ≡ replica_of (updated r.single u).registry (updated r.single u).done → x.last ≡ (updated r.single u).last
      → HasApplied first (r.records ++ made r.single u ∷ []) x
  applied_more u x replica last =
      let single : updated r.single u ≡ after_all first.single (g.updates ++ u ∷ []) = ap (λ (a : Single registry_machine). updated a u) g.single ∙ sym (after_both first.single g.updates u) in
      let whole : r.records ++ made r.single u ∷ [] ≡ first.records ++ all_made first.single (g.updates ++ u ∷ []) =
      ap (λ (l : List Entry). l ++ made r.single u ∷ []) g.records
      ∙ append_assoc first.records (all_made first.single g.updates) (made r.single u ∷ [])
      ∙ ap (λ (a : Single registry_machine). first.records ++ (all_made first.single g.updates ++ made a u ∷ [])) g.single
      ∙ ap (λ (l : List Entry). first.records ++ l) (sym (made_both first.single g.updates u)) in
      applied_by first (g.updates ++ u ∷ []) (r.records ++ made r.single u ∷ []) x whole (replica ∙ ap (λ (a : Single registry_machine). replica_of a.registry a.done) single)
      (last ∙ ap (λ (a : Single registry_machine). a.last) single)

applied_on : (first : AloneRun) (way : Way) (r : AloneRun) → GrownFrom first (queued_on way) r → HasApplied first (logged_on way r) (node_on way r.single)
applied_on first (Calm lately) r g = applied_still first r 0 g (node_on (Calm lately) r.single) refl refl
applied_on first (Asked lately origin u) r g = applied_still first r 1 g (node_on (Asked lately origin u) r.single) refl refl
applied_on first (Granting origin u) r g = applied_more first r 1 g u (granting r.single u) refl refl
applied_on first (Stuck head others origins) r g = applied_still first r (1 + length others) g (node_on (Stuck head others origins) r.single) refl refl

pub records_applied : RecordsApplied
records_applied c first stream z output records h =
    subst (λ (n : NodeAlone). HasApplied first records n.node) (sym h.is)
    (subst (λ (l : List Entry). HasApplied first l (node_on h.phase.way h.phase.run.single)) (sym h.logged) (applied_on first h.phase.way h.phase.run h.grown))

-- ---- what an event changes

cancelled : (front a b all : List Entry) → all ≡ front ++ a → all ≡ front ++ b → a ≡ b
cancelled front a b all is same = append_cancel_left front a b (sym is ∙ same)

still_applied : (first : AloneRun) (records : List Entry) (x y : State) → HasApplied first records x → HasApplied first records y → Changes None x y
still_applied first records x y a b =
    let same : b.made ≡ a.made = cancelled first.records b.made a.made records b.whole a.whole in (
      b.replica ∙ ap (λ (l : List Entry). replica_of (replay registry_machine l first.single.registry) (first.single.done + length l)) same ∙ sym a.replica,
      b.last ∙ ap (last_behind first.single.last) same ∙ sym a.last,
    )

pub replay_more : (es : List Entry) (e : Entry) (registry : ReplicatedRegistry) → replay registry_machine (es ++ e ∷ []) registry ≡ (registry_machine.apply e (replay registry_machine es registry)).0
replay_more [] e registry = refl
replay_more (d ∷ ds) e registry = replay_more ds e (registry_machine.apply d registry).0

pub last_more : (last : Option Entry) (es : List Entry) (e : Entry) → last_behind last (es ++ e ∷ []) ≡ Some e
last_more last [] e = refl
last_more last (d ∷ ds) e = last_more (Some d) ds e

more_applied : (first : AloneRun) (records : List Entry) (e : Entry) (x y : State) → e.place ≡ done_of x + 1 → HasApplied first records x → HasApplied first (records ++ e ∷ []) y → Changes (Some e) x y
more_applied first records e x y place a b =
    let whole : records ++ e ∷ [] ≡ first.records ++ (a.made ++ e ∷ []) = ap (λ (l : List Entry). l ++ e ∷ []) a.whole ∙ append_assoc first.records a.made (e ∷ []) in
    let same : b.made ≡ a.made ++ e ∷ [] = cancelled first.records b.made (a.made ++ e ∷ []) (records ++ e ∷ []) b.whole whole in
    let count : first.single.done + length (a.made ++ e ∷ []) ≡ first.single.done + length a.made + 1 = omega (arith, length-append a.made (e ∷ [])) in (
      place,
      b.replica ∙ ap (λ (l : List Entry). replica_of (replay registry_machine l first.single.registry) (first.single.done + length l)) same
          ∙ ap (λ (g : ReplicatedRegistry). replica_of g (first.single.done + length (a.made ++ e ∷ []))) (replay_more a.made e first.single.registry)
          ∙ ap (replica_of (registry_machine.apply e (replay registry_machine a.made first.single.registry)).0) count
          ∙ ap (replica_after e) (sym a.replica),
      b.last ∙ ap (last_behind first.single.last) same ∙ last_more first.single.last a.made e,
    )

changed_by : (first : AloneRun) (entry : Option Entry) (records : List Entry) (x y : State) → ((e : Entry) → entry ≡ Some e → e.place ≡ done_of x + 1) → HasApplied first records x → HasApplied first (records ++ option_to_list entry) y
    → Changes entry x y
changed_by first None records x y place a b = still_applied first records x y a (subst (λ (l : List Entry). HasApplied first l y) (append-nil records) b)
changed_by first (Some e) records x y place a b = more_applied first records e x y (place e refl) a b

-- Where the node stands before and behind an event tells what that has changed.
pub changes_as_stands : (c : ℕ) (first : AloneRun) (stream : List ℕ) (entry : Option Entry) (x y : RunningNode) (before behind : List Sent) (output more : List ℕ) (records : List Entry)
    → ((e : Entry) → entry ≡ Some e → e.place ≡ done_of x.member.rules + 1) → StandsAt c first stream (alone_node x before) output records
    → StandsAt c first stream (alone_node y behind) more (records ++ option_to_list entry) → Changes entry x.member.rules y.member.rules
changes_as_stands c first stream entry x y before behind output more records place h g =
    changed_by first entry records x.member.rules y.member.rules place (records_applied c first stream (alone_node x before) output records h)
    (records_applied c first stream (alone_node y behind) more (records ++ option_to_list entry) g)

pub still_as_stands : (c : ℕ) (first : AloneRun) (stream longer : List ℕ) (x y : RunningNode) (before behind : List Sent) (output more : List ℕ) (records : List Entry)
    → y.member.log ≡ x.member.log → StandsAt c first stream (alone_node x before) output records → StandsAt c first longer (alone_node y behind) more records → IsStill x.member y.member
still_as_stands c first stream longer x y before behind output more records log h g =
    let same = still_applied first records x.member.rules y.member.rules (records_applied c first stream (alone_node x before) output records h)
    (records_applied c first longer (alone_node y behind) more records g) in
    record { log = log; replica = same.0; last = same.1 }

-- ---- the names of the records

named_all : (a : Single registry_machine) (us : List Update) → IsNamed a → a.passed + length us ≤ most_taken → AllByRecursion HasId (all_made a us)
named_all a [] named few = tt
named_all a (u ∷ us) named few = (
  record { node = named.node; last_node = named.last_node; inc = named.inc; last_inc = named.last_inc; req = omega arith; last_req = omega (arith, few) },
  named_all (updated a u) us (record { node = named.node; last_node = named.last_node; inc = named.inc; last_inc = named.last_inc }) (omega (arith, few)),
)

all_both : (P : Entry → Type 0) (es fs : List Entry) → AllByRecursion P es → AllByRecursion P fs → AllByRecursion P (es ++ fs)
all_both P [] fs a b = b
all_both P (e ∷ es) fs a b = (a.0, all_both P es fs a.1 b)

named_after : (a : Single registry_machine) (us : List Update) → IsNamed a → IsNamed (after_all a us)
named_after a [] named = named
named_after a (u ∷ us) named = named_after (updated a u) us (record { node = named.node; last_node = named.last_node; inc = named.inc; last_inc = named.last_inc })

module _ (first : AloneRun) (r : AloneRun) (queued : ℕ) (g : GrownFrom first queued r) (named : IsNamed first.single) where
  named_still : AllByRecursion HasId first.records → AllByRecursion HasId r.records
  named_still before =
      let few : first.single.passed + length g.updates ≤ most_taken =
      (let count = counts_passed first.single g.updates in let single : r.single.passed ≡ (after_all first.single g.updates).passed = ap (λ (a : Single registry_machine). a.passed) g.single in
      let m = g.requests in let n = g.items in omega (arith, count, single, m, n)) in
      subst (λ (l : List Entry). AllByRecursion HasId l) (sym g.records) (all_both HasId first.records (all_made first.single g.updates) before (named_all first.single g.updates named few))

  named_now : IsNamed r.single
  named_now = subst (λ (a : Single registry_machine). IsNamed a) (sym g.single) (named_after first.single g.updates named)

  named_one : (u : Update) → 1 ≤ queued → HasId (made r.single u)
  named_one u one =
      let n = named_now in
      let m = g.requests in
      let few = g.items in
      record { node = n.node; last_node = n.last_node; inc = n.inc; last_inc = n.last_inc; req = omega arith; last_req = omega (arith, one, m, few) }

named_on : (first : AloneRun) (way : Way) (r : AloneRun) → GrownFrom first (queued_on way) r → IsNamed first.single → AllByRecursion HasId first.records → AllByRecursion HasId (logged_on way r)
named_on first (Calm lately) r g named before = named_still first r 0 g named before
named_on first (Asked lately origin u) r g named before = named_still first r 1 g named before
named_on first (Granting origin u) r g named before =
    all_both HasId r.records (made r.single u ∷ []) (named_still first r 1 g named before) (named_one first r 1 g named u (omega arith), tt)
named_on first (Stuck head others origins) r g named before = named_still first r (1 + length others) g named before

pub records_named : RecordsNamed
records_named c first stream z output records h named before =
    subst (λ (l : List Entry). AllByRecursion HasId l) (sym h.logged) (named_on first h.phase.way h.phase.run h.grown named before)

-- ---- the next record

-- The oldest message is the Ask of an update that is queued, and has its record logged.
pub record AsksFor (way : Way) (a : Single registry_machine) (p : Sent) (e : Entry) : Type 0 where
  pub origin : Origin
  pub update : Update
  pub way_is : way ≡ Asked None origin update
  pub asked : p ≡ ask a update
  pub entry : e ≡ made a update
  pub room : a.done < last_place

abbrev Asks : Way → Single registry_machine → Sent → Type 0
Asks way a p = (e : Entry) → to_log (node_on way a) p ≡ Some e → AsksFor way a p e

quiet : (counted : Bool) (e : Entry) → (if counted then no_entry else no_entry) ≡ Some e → ⊥
quiet true e is = cc
quiet false e is = cc

asks_made : (a : Single registry_machine) (origin : Origin) (u : Update) → IsSound a → (room : Bool) → nat_lt a.done last_place ≡ room → Asks (Asked None origin u) a (ask a u)
asks_made a origin u sound true room e is =
    let there : a.done < last_place = grind (arith, room) in
    let same : Some (made a u) ≡ Some e = sym (logs_ask a u sound there) ∙ is in
    record { origin = origin; update = u; way_is = refl; asked = refl; entry = cc; room = there }
asks_made a origin u sound false full e is =
    let most : last_place ≤ a.done = grind (arith, full) in
    let none : None ≡ to_log (asking a u) (ask a u) = sym (ap (λ (d : Logged registry_machine). d.appended) (grants_none a u 0 Written sound most)) ∙ logs_written (asking a u) (ask a u) 0 (omega arith) in
    absurd (no_one (none ∙ is))
  where
    no_one : None ≡ Some e → ⊥
    no_one is = cc

asks_on : (way : Way) (a : Single registry_machine) (p : Sent) (left : List Sent) → IsSound a → left_on way a ≡ p ∷ left → Asks way a p
asks_on (Calm None) a p left sound at = absurd (cc)
asks_on (Calm (Some l)) a p left sound at =
    on_first (λ q rest. Asks (Calm (Some l)) a q) (release l.before) p [] left at (λ e is. absurd (quiet (counts (node_on (Calm (Some l)) a) (release l.before)) e is))
asks_on (Asked None origin u) a p left sound at = on_first (λ q rest. Asks (Asked None origin u) a q) (ask a u) p [] left at (asks_made a origin u sound (nat_lt a.done last_place) refl)
asks_on (Asked (Some l) origin u) a p left sound at =
    on_first (λ q rest. Asks (Asked (Some l) origin u) a q) (release l.before) p (ask a u ∷ []) left at
    (λ e is. absurd (quiet (counts (node_on (Asked (Some l) origin u) a) (release l.before)) e is))
asks_on (Granting origin u) a p left sound at =
    on_first (λ q rest. Asks (Granting origin u) a q) (grant a u) p [] left at (λ e is. absurd (quiet (counts (granting a u) (grant a u)) e is))
asks_on (Stuck head others origins) a p left sound at = absurd (cc)

-- A failed append would halt the node there.
halts_there : (way : Way) (a : Single registry_machine) (p : Sent) (e : Entry) → IsSound a → AsksFor way a p e → (receive (node_on way a) p 0 InDoubt).out.node ≡ None
halts_there way a p e sound asks =
    let P : Way → Sent → Type 0 = λ w q. (receive (node_on w a) q 0 InDoubt).out.node ≡ None in
    subst (λ (w : Way). P w p) (sym asks.way_is)
    (subst (λ (q : Sent). P (Asked None asks.origin asks.update) q) (sym asks.asked)
    (ap (λ (d : Logged registry_machine). d.out.node) (halts_in_doubt a asks.update 0 sound asks.room (omega arith))))

module _ (c : ℕ) (first : AloneRun) (stream : List ℕ) (z : NodeAlone) (output : List ℕ) (records : List Entry) (p : Sent) (left : List Sent) (h : StandsAt c first stream z output records) (at : z.left ≡ p ∷ left) where
  abbrev A : Single registry_machine
  A = h.phase.run.single

  sound : IsSound A
  sound = sound_now first h.phase.run (queued_on h.phase.way) h.grown

  asks_here : Asks h.phase.way A p
  asks_here = asks_on h.phase.way A p left sound (sym (ap (λ (n : NodeAlone). n.left) h.is) ∙ at)

  here : (e : Entry) → to_log z.node p ≡ Some e → AsksFor h.phase.way A p e
  here e is = asks_here e (sym (ap (λ (n : NodeAlone). to_log n.node p) h.is) ∙ is)

  first_with : (next : Option Entry) → to_log z.node p ≡ next → TellsFirst c first stream output (records ++ option_to_list next)
  first_with None is = subst (λ (l : List Entry). TellsFirst c first stream output l) (sym (append-nil records)) (tells_first c first stream z output records h)
  first_with (Some e) is =
      let stops : (receive z.node p 0 InDoubt).out.node ≡ None = ap (λ (n : NodeAlone). (receive n.node p 0 InDoubt).out.node) h.is ∙ halts_there h.phase.way A p e sound (here e is) in
      subst (λ (d : Option Entry). TellsFirst c first stream output (records ++ option_to_list d)) (logs_in_doubt z.node p 0 (omega arith) ∙ is)
      (halts_alone c first stream z output records h p left 0 InDoubt at stops)

  one_queued : (way : Way) (e : Entry) → AsksFor way A p e → 1 ≤ queued_on way
  one_queued way e asks = subst (λ (w : Way). 1 ≤ queued_on w) (sym asks.way_is) (omega arith)

  pub next_is : IsNext c first stream output records (to_log z.node p)
  next_is = record {
    first_of = first_with (to_log z.node p) refl;
    named = λ named e is.
        (let asks = here e is in
        subst HasId (sym asks.entry) (named_one first h.phase.run (queued_on h.phase.way) h.grown named asks.update (one_queued h.phase.way e asks)));
  }

pub next_is_alones : NextIsAlones
next_is_alones c first stream z output records p left h at = next_is c first stream z output records p left h at
