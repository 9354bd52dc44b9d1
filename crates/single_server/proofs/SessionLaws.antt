-- How a session begins and ends.
use Rattle.std.proofs.Common.{◌≡◌, inl, inr, ℕ, ◌+◌, ◌≤◌, ◌<◌, true, false, List, [], ◌++◌, length, Option, Some, None, is_some, Result, refl, sym, ap, ◌∙◌, subst, arith}
use Rattle.std.specs.Prelude.{⊤}
use Rattle.std.specs.List.{list_any}
use Rattle.disk_core.specs.Views.{DiskView}
use Rattle.context_handles.specs.Table.{Table}
use Rattle.gum_messages.specs.Messages.{Sent}
use Rattle.registry_machine.specs.Machine.{registry_machine}
use Rattle.cluster_rules.specs.declared.effect.Effect.{Effect}
use Rattle.cluster_rules.specs.Worlds.{sent}
use Rattle.client_connections.specs.Clients.{Clients, client_at, fresh_client, has_waiting, waits_at, with_new}
use Rattle.cluster_node.specs.Events.{Connects}
use Rattle.cluster_node.specs.States.{RunningNode, client_in, runs}
use Rattle.single_rules.specs.Single.{Single}
use Rattle.single_items.specs.Alone.{AloneRun, begins_alone}
use Rattle.single_items.specs.Promises.{IsUnconnected, IsUnconnectedFor}
use Rattle.single_items.specs.Standing.{Asked, Calm, Granting, NodeAlone, StandsAt, Stuck, Way, left_on, queued_on, waiting_on}
use Rattle.single_items.proofs.Keeping.{found_one}
use Rattle.single_node.specs.Singles.{Sends, SingleState}
use Rattle.single_node.specs.Standing.{IsStill, alone_node}
use Rattle.single_node.proofs.Applied.{still_self}
use Rattle.single_node.proofs.Connecting.{connect_leads, connects_first}
use Rattle.single_server.specs.Hearing.{Beginning}
use Rattle.single_server.proofs.Answering.{none_logged}
use Rattle.single_server.specs.declared.ended.Ended.{Ended}
use Rattle.single_server.specs.declared.ended.Ended.TheVariants.{BadLog, DiskFault, Done, Fenced, NoMemory, ReadFault, WriteFault}
use Rattle.single_server.specs.Begins.{IsBegun, NotBegun}
use Rattle.single_server.specs.Talking.{waits_in}
use Rattle.single_server.specs.Session.{Converses, IsCutOff, IsFresh, IsHeardOut, Serves, ServesStream, Starts, beginning_at}
use Rattle.single_server.proofs.ConverseLaws.{no_bytes}
use Rattle.single_server.proofs.Written.{wrote_nothing}

-- ---- the connection begins

-- Nothing is queued where no item was taken.
waits_for : (way : Way) (a : Single registry_machine) (c : ℕ) → left_on way a ≡ [] → queued_on way ≤ 0 → list_any (waits_at c) (waiting_on way) ≡ false
waits_for (Calm lately) a c quiet few = refl
waits_for (Asked None origin u) a c quiet few = absurd (cc)
waits_for (Asked (Some l) origin u) a c quiet few = absurd (cc)
waits_for (Granting origin u) a c quiet few = absurd (cc)
waits_for (Stuck head others origins) a c quiet few = let no : 1 + length others ≤ 0 = few in absurd (omega (arith, no))

pub none_waits : (c : ℕ) (z : NodeAlone) (a : Single registry_machine) (table : Table) (taken : ℕ) → IsUnconnected z a table taken → taken ≡ 0 → has_waiting c z.clients.common ≡ false
none_waits c z a table taken h none =
    ap (λ (n : NodeAlone). list_any (waits_at c) n.clients.common.waiting) h.is
    ∙ waits_for h.way a c h.left (let r = h.requests in omega (arith, r, none))

none_open : (c : ℕ) (z : NodeAlone) (a : Single registry_machine) (table : Table) (taken : ℕ) → IsUnconnected z a table taken → client_at c z.clients ≡ None
none_open c z a table taken h = ap (λ (n : NodeAlone). client_at c n.clients) h.is

pub is_unused : (c : ℕ) (s : SingleState) (x : RunningNode) (a : Single registry_machine) (table : Table) (taken : ℕ) → s.node.running ≡ Some x → IsUnconnected (alone_node x []) a table taken → client_in c s.node ≡ None
is_unused c s x a table taken runs h =
    ap (λ (r : Option RunningNode). elim r [ None ↦ None | Some y ↦ client_at c y.clients ]) runs ∙ none_open c (alone_node x []) a table taken h

module _ (c : ℕ) (s t : SingleState) (v : DiskView) (es : List Effect) (x : RunningNode) (first : AloneRun) (running : s.node.running ≡ Some x) (quiet : s.left ≡ [])
    (free : IsUnconnectedFor first (alone_node x [])) (unwaited : has_waiting c x.clients.common ≡ false) (begun : first ≡ begins_alone first.single first.client.handles first.taken)
    (connects : Connects c s.node.running t.node.running es) (sends : Sends s es t) where
  connects_to : (r : Option RunningNode) → t.node.running ≡ r → Connects c (Some x) r es
  connects_to r is = subst (λ (q : Option RunningNode). Connects c (Some x) q es) is (subst (λ (q : Option RunningNode). Connects c q t.node.running es) running connects)

  no_conns : x.clients.conns ≡ []
  no_conns = ap (λ (n : NodeAlone). n.clients.conns) free.is

  -- The connection is the only one.
  is_open : (y : RunningNode) → Connects c (Some x) (Some y) es → is_some (client_at c y.clients) ≡ true
  is_open y (there, told) =
      ap (λ (n : RunningNode). is_some (client_at c n.clients)) (there ∙ ap (λ (p : Clients × Option Effect). runs x.member p.0) (connects_first c x.clients no_conns))
      ∙ ap (λ l. is_some (client_at c (with_new c (record { common = x.clients.common; conns = l })))) no_conns
      ∙ ap is_some (found_one x.clients.common c fresh_client)

  abbrev Begun : Type 0
  Begun = Starts c (beginning_at first x v) t v × (t.left ≡ []) × (is_some (client_in c t.node) ≡ true)

  by_running : (r : Option RunningNode) → t.node.running ≡ r → Connects c (Some x) r es → Begun
  by_running None is to = absurd to
  by_running (Some y) is to =
      let f = connect_leads c x y es first.single first.client.handles first.taken free unwaited to in
      let left_is : t.left ≡ [] = sends ∙ ap (λ (l : List Sent). l ++ sent es) quiet ∙ ap sent f.1 in
      let stands : StandsAt c first [] (alone_node y []) [] [] = subst (λ (r : AloneRun). StandsAt c r [] (alone_node y []) [] []) (sym begun) f.0 in (
        record {
          now = y;
          runs = is;
          under_way = record { added = []; logs = (refl, subst (λ (n : RunningNode). IsStill x.member n.member) (sym to.0) (still_self x.member)); stands = subst (λ (l : List Sent). StandsAt c first [] (alone_node y l) [] []) (sym left_is) stands };
          answered = none_logged c first [] (ap (λ (r : AloneRun). r.output) begun) (ap (λ (r : AloneRun). r.records) begun);
        },
        left_is,
        ap (λ (q : Option RunningNode). is_some (elim q [ None ↦ None | Some n ↦ client_at c n.clients ])) is ∙ is_open y to,
      )

  pub connection_begins : Starts c (beginning_at first x v) t v × (t.left ≡ []) × (is_some (client_in c t.node) ≡ true)
  connection_begins = by_running t.node.running refl (connects_to t.node.running refl)

  -- No update is queued by that.
  queues_by : (d : ℕ) (r : Option RunningNode) → Connects c (Some x) r es → elim r [ None ↦ false | Some y ↦ has_waiting d y.clients.common ] ≡ has_waiting d x.clients.common
  queues_by d None to = absurd to
  queues_by d (Some y) to =
      ap (λ (n : RunningNode). has_waiting d n.clients.common) (to.0 ∙ ap (λ (p : Clients × Option Effect). runs x.member p.0) (connects_first c x.clients no_conns))

  pub connection_queues_none : (d : ℕ) → waits_in d t.node ≡ has_waiting d x.clients.common
  connection_queues_none d = queues_by d t.node.running (connects_to t.node.running refl)

-- The first one, of a node that has taken no item.
pub first_begins : (c : ℕ) (s t : SingleState) (v : DiskView) (es : List Effect) (x : RunningNode) (first : AloneRun) → s.node.running ≡ Some x → s.left ≡ [] → IsUnconnectedFor first (alone_node x []) → first.taken ≡ 0
    → first ≡ begins_alone first.single first.client.handles first.taken → Connects c s.node.running t.node.running es → Sends s es t
    → Starts c (beginning_at first x v) t v × (t.left ≡ []) × (is_some (client_in c t.node) ≡ true)
first_begins c s t v es x first running quiet free none begun connects sends =
    connection_begins c s t v es x first running quiet free (none_waits c (alone_node x []) first.single first.client.handles first.taken free none) begun connects sends

-- ---- the run ends

-- As the connection was to begin, memory ran out.
pub not_connected : (b : Beginning) (left written : Option (List ℕ)) → IsCutOff NoMemory 1 b left left written written b.disk
not_connected b left written = record {
  stream = [];
  unused = [];
  told = [];
  cut = inr (refl, refl, refl);
  consumed = no_bytes left;
  short = omega arith;
  writes = wrote_nothing written;
}

-- Behind the last piece it ran out.
pub not_hung_up : (b : Beginning) (left now written holds : Option (List ℕ)) (s : SingleState) (w : DiskView) → IsHeardOut 1 b left now written holds s w → IsCutOff NoMemory 1 b left now written holds w
not_hung_up b left now written holds s w out = record {
  stream = out.stream;
  unused = out.unused;
  told = out.told;
  cut = inl (s, w, out.heard, inl refl);
  consumed = out.consumed;
  short = out.short;
  writes = out.wrote;
}

pub unserved : (ended : Ended) (stamp : ℕ) (left written : Option (List ℕ)) (v w : DiskView) → NotBegun ended v w → Serves ended stamp left left written written v w
unserved Done stamp left written v w h = absurd h
unserved ReadFault stamp left written v w h = absurd h
unserved WriteFault stamp left written v w h = absurd h
unserved DiskFault stamp left written v w h = inl (record { fault = h; unread = refl; unwritten = refl })
unserved NoMemory stamp left written v w h = inl (record { fault = h; unread = refl; unwritten = refl })
unserved (BadLog place) stamp left written v w h = record { fault = h; unread = refl; unwritten = refl }
unserved (Fenced held) stamp left written v w h = record { fault = h; unread = refl; unwritten = refl }

-- ---- the node that was opened

pub begun_as : (first : AloneRun) (a : Single registry_machine) (table : Table) → first ≡ begins_alone a table 0 → first ≡ begins_alone first.single first.client.handles first.taken
begun_as first a table e = e ∙ ap (λ (r : AloneRun). begins_alone r.single r.client.handles r.taken) (sym e)

pub is_fresh : (stamp : ℕ) (v : DiskView) (s : SingleState) (w : DiskView) → IsBegun stamp v s w → IsFresh s
is_fresh stamp v s w h = record {
  first = h.first;
  node = h.node;
  runs = ap (λ (x : SingleState). x.node.running) h.runs;
  quiet = ap (λ (x : SingleState). x.left) h.runs;
  unconnected = h.unconnected;
  none_taken = ap (λ (r : AloneRun). r.taken) h.begins.is;
  begun = begun_as h.first _ _ h.begins.is;
}

-- What serving the stream came to, from where Alone begins.
pub served_from : (result : Result ⊤ Ended) (stamp : ℕ) (left now written holds : Option (List ℕ)) (v u w : DiskView) (s : SingleState) (h : IsBegun stamp v s u) → ServesStream result s left now written holds u w
    → (t : SingleState) × Converses result 1 (beginning_at h.first h.node u) t w left now written holds
served_from result stamp left now written holds v u w s h serves =
    serves h.first h.node (ap (λ (x : SingleState). x.node.running) h.runs) h.unconnected (ap (λ (r : AloneRun). r.taken) h.begins.is) (begun_as h.first _ _ h.begins.is)

-- ---- its causes

pub fenced_at : (ended : Ended) (stamp : ℕ) (left now written holds : Option (List ℕ)) (v w : DiskView) → Serves ended stamp left now written holds v w → (held : ℕ) → ended ≡ Fenced held
    → (1 < v.current.held) × (held ≡ v.current.held)
fenced_at ended stamp left now written holds v w h held e = (subst (λ (r : Ended). Serves r stamp left now written holds v w) e h).fault
