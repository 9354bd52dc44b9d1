-- A connection that was open is closed, since its stream has a fault or the node refuses a piece of it.
use Rattle.std.proofs.Common.{◌≡◌, ◌≢◌, ◌⊎◌, inl, inr, ℕ, Bool, true, false, cond, List, [], ◌∷◌, ◌++◌, Option, Some, None, Result, Ok, Err, is_some, refl, sym, ap, ◌∙◌, subst}
use Rattle.std.specs.Prelude.{unwrap_or}
use Rattle.std.specs.BTreeMap.{is_at}
use Rattle.std.specs.Map.{lookup, set_value}
use Rattle.std.specs.Ordering.{nat_cmp}
use Rattle.std.specs.declared.alloc.AllocError.{AllocError}
use Rattle.std.proofs.lemmas.List.{append-nil}
use Rattle.disk_core.specs.Views.{DiskView}
use Rattle.ndr_values.specs.declared.handle.WireHandle.{WireHandle}
use Rattle.context_handles.specs.Table.{Table}
use Rattle.update_records.specs.Entry.{Entry}
use Rattle.update_records.specs.declared.update.Update.{Update}
use Rattle.registry_defs.specs.declared.outcome.Outcome.{Outcome}
use Rattle.gum_messages.specs.Messages.{Sent}
use Rattle.rpc_calls.specs.declared.intake_fault.IntakeFault.{IntakeFault}
use Rattle.rpc_calls.specs.declared.item.Item.{Item}
use Rattle.rpc_calls.specs.declared.side.Side.TheVariants.{Server}
use Rattle.rpc_calls.specs.Intakes.{Holds, Kept}
use Rattle.rpc_calls.specs.Streams.{Items}
use Rattle.rpc_calls.proofs.HoldingLaws.{holds_fed}
use Rattle.rpc_assoc.specs.State.{State, group_of}
use Rattle.cluster_rules.specs.declared.effect.CloseCause.{CloseCause}
use Rattle.cluster_rules.specs.declared.effect.Effect.{Effect}
use Rattle.cluster_rules.specs.Worlds.{acked, sent}
use Rattle.cluster_member.specs.declared.stop.Stop.{Stop}
use Rattle.cluster_member.specs.declared.stop.Stop.TheVariants as stop
use Rattle.cluster_member.specs.States.{MemberState}
use Rattle.member_rules.specs.declared.told.Told.{Told}
use Rattle.client_connections.specs.declared.origin.Origin.{Origin}
use Rattle.client_connections.specs.declared.origin.Origin.TheVariants.{Call, Batch}
use Rattle.client_connections.specs.declared.took.Ending.{Ending}
use Rattle.client_connections.specs.declared.took.Ending.TheVariants.{Fails, Rests, Waits}
use Rattle.client_connections.specs.Clients.{Client, Clients, client_at, hung_up, left_by}
use Rattle.client_connections.specs.Finishing.{Finish, call_finished, finished, finished_for, not_applied, opened_in, opened_on, replied, without_first}
use Rattle.client_connections.specs.Taking.{Ends, GoesOn, Hears, HearsBy, Resumes, Serving, closes, fed_client, goes_on, refusal}
use Rattle.cluster_node.specs.Acting.{Acts, ContinuesAt, Follows, Submits, serving_of}
use Rattle.cluster_node.specs.Events.{HearsBytes, NodeReceives, head_request}
use Rattle.cluster_node.specs.States.{RunningNode, client_in}
use Rattle.single_items.specs.Alone.{AloneRun}
use Rattle.single_items.specs.Events.{told_to}
use Rattle.single_items.specs.Promises.{IsRefused}
use Rattle.single_items.specs.Standing.{Asked, Calm, FitsWay, Granting, IsCallOf, IsHeardOn, IsKeptFrom, NodeAlone, StandsAt, Stuck, Way, clients_of, left_on, waiting_on}
use Rattle.single_items.proofs.Connecting.{hangs_up}
use Rattle.single_items.proofs.Keeping.{found_one, left_one}
use Rattle.single_items.proofs.Serving.{client_of}
use Rattle.single_items.proofs.Telling.{told_both}
use Rattle.single_node.specs.Singles.{Sends, SingleState}
use Rattle.single_node.specs.Standing.{alone_node}
use Rattle.single_node.proofs.Pieces.{bytes_lead}
use Rattle.single_server.specs.Hearing.{Beginning, Heard, RepliesLogged}
use Rattle.single_server.specs.Talking.{IsClosedFor}
use Rattle.single_server.specs.Visits as visits
use Rattle.single_server.proofs.PieceLaws.{heard_at, heard_of, left_is, stands, taken_answered}

abbrev Conns : Type 0
Conns = List (ℕ × Client)

-- ---- an entry that is set stays

set_still : (test : ℕ → Bool) (e : ℕ × Client) (es : Conns) (w : Client) (here : Bool) → test e.0 ≡ here → (lookup test es ≢ None → lookup test (set_value test es w) ≢ None)
    → cond here (Some e.1) (lookup test es) ≢ None → lookup test (cond here ((e.0, w) ∷ es) (e ∷ set_value test es w)) ≢ None
set_still test e es w true is behind some none = let g : cond (test e.0) (Some w) (lookup test es) ≡ None = none in let f : ◌≡◌ {A = Option Client} (Some w) None = sym (ap (λ (b : Bool). cond b (Some w) (lookup test es)) is) ∙ g in absurd (cc)
set_still test e es w false is behind some none =
    let g : cond (test e.0) (Some e.1) (lookup test (set_value test es w)) ≡ None = none in
    behind some (sym (ap (λ (b : Bool). cond b (Some e.1) (lookup test (set_value test es w))) is) ∙ g)

stays_open : (test : ℕ → Bool) (es : Conns) (w : Client) → lookup test es ≢ None → lookup test (set_value test es w) ≢ None
stays_open test [] w some none = some none
stays_open test (e ∷ es) w some none = set_still test e es w (test e.0) refl (stays_open test es w) some none

-- ---- items are taken

module _ (c : ℕ) where
  abbrev pub Faulty : List ℕ → Type 0
  Faulty stream = (given : List Item) × (fault : IntakeFault) × Items Server stream given (Some fault)

  module _ (v : Serving) (k : Client) (s t : Clients) (told : List Effect) (update : Option Update) (g : GoesOn v c k s t told update) (open_ : client_at c s ≢ None) (gone : client_at c t ≡ None) where
    by_ending : (ending : Ending) → g.ending ≡ ending → (stream : List ℕ) (given : List Item) → Holds k.intake stream given → Faulty stream
    by_ending Waits is stream given holds =
        let e : client_at c (goes_on c g.intake g.course Waits s) ≡ None = sym (ap (client_at c) (g.clients ∙ ap (λ (a : Ending). goes_on c g.intake g.course a s) is)) ∙ gone in
        absurd (stays_open (is_at (nat_cmp c)) s.conns _ open_ e)
    by_ending Rests is stream given holds =
        let e : client_at c (goes_on c g.intake g.course Rests s) ≡ None = sym (ap (client_at c) (g.clients ∙ ap (λ (a : Ending). goes_on c g.intake g.course a s) is)) ∙ gone in
        absurd (stays_open (is_at (nat_cmp c)) s.conns _ open_ e)
    by_ending (Fails fault) is stream given holds =
        (given ++ g.takes.items, fault, subst (λ (a : Ending). Ends a stream (given ++ g.takes.items)) is (g.takes.stands stream given holds).1)

    goes_for : (stream : List ℕ) (given : List Item) → Holds k.intake stream given → Faulty stream
    goes_for = by_ending g.ending refl

  -- ---- the head is acknowledged

  -- The updates that wait are of this connection, one at most.
  AreOwn : List Origin → Type 0
  AreOwn waiting = (waiting ≡ []) ⊎ ((origin : Origin) × (waiting ≡ origin ∷ []) × IsCallOf c origin)

  record FinishesOwn (s : Clients) (end : Finish) : Type 0 where
    pub conns : end.clients.conns ≡ s.conns
    pub own : (end.resumes ≡ None) ⊎ (end.resumes ≡ Some c)

  replied_own : (call_id context opnum place : ℕ) (outcome : Outcome) (association : State) (p : Option WireHandle × Table) (s : Clients)
      → FinishesOwn s (replied c call_id context opnum outcome place association p s)
  replied_own call_id context opnum place outcome association (handle, table) s = record { conns = refl; own = inr refl }

  call_own : (call_id context opnum : ℕ) (target : Option (List (List ℕ))) (place : ℕ) (outcome : Outcome) (client : Option Client) (s : Clients) → FinishesOwn s (call_finished c call_id context opnum target place outcome client s)
  call_own call_id context opnum target place outcome None s = record { conns = refl; own = inl refl }
  call_own call_id context opnum target place outcome (Some k) s =
      replied_own call_id context opnum place outcome k.association (opened_in (group_of k.association) (opened_on target outcome) s.common.table) s

  origin_own : (origin : Origin) (req place : ℕ) (outcome : Outcome) (s : Clients) → IsCallOf c origin → FinishesOwn s (finished_for origin req place outcome s)
  origin_own Batch req place outcome s own = absurd own
  origin_own (Call conn call_id context opnum target) req place outcome s own =
      subst (λ (n : ℕ). FinishesOwn s (call_finished n call_id context opnum target place outcome (client_at n s) s)) (sym own) (call_own call_id context opnum target place outcome (client_at c s) s)

  finishes_own : (waiting : List Origin) (req place : ℕ) (outcome : Option Outcome) (s : Clients) → AreOwn waiting → FinishesOwn s (finished waiting req place outcome s)
  unfolding AreOwn
  finishes_own waiting req place outcome s (inl none) =
      subst (λ (l : List Origin). FinishesOwn s (finished l req place outcome s)) (sym none) (record { conns = refl; own = inl refl })
  finishes_own waiting req place outcome s (inr (origin, is, own)) =
      let end = origin_own origin req place (unwrap_or outcome not_applied) (without_first s []) own in
      subst (λ (l : List Origin). FinishesOwn s (finished l req place outcome s)) (sym is) (record { conns = end.conns; own = end.own })

  same_conns : (s t : Clients) → t.conns ≡ s.conns → client_at c t ≡ client_at c s
  same_conns s t same = ap (λ (l : Conns). lookup (is_at (nat_cmp c)) l) same

  -- The intake of the connection has kept the stream.
  KeptBy : Clients → List ℕ → Type 0
  KeptBy s stream = (k : Client) × (client_at c s ≡ Some k) × ((given : List Item) × Holds k.intake stream given)

  open_by : (s : Clients) (stream : List ℕ) → KeptBy s stream → client_at c s ≢ None
  unfolding KeptBy
  open_by s stream (k, here, held) none = let e : ◌≡◌ {A = Option Client} (Some k) None = sym here ∙ none in absurd (cc)

  continues_for : (resumes : Option ℕ) (m n : MemberState) (s t : Clients) (all : List Effect) (stream : List ℕ) → (resumes ≡ None) ⊎ (resumes ≡ Some c) → ContinuesAt resumes m s n t all → KeptBy s stream
      → client_at c t ≡ None → Faulty stream
  unfolding KeptBy
  continues_for None m n s t all stream own (same, clients, silent) kept gone = absurd (open_by s stream kept (sym (ap (client_at c) clients) ∙ gone))
  continues_for (Some conn) m n s t all stream (inl none) g kept gone = absurd (cc)
  continues_for (Some conn) m n s t all stream (inr is) g (k, here, (given, holds)) gone =
      let e : conn ≡ c = cc in
      let r = subst (λ (a : ℕ). Resumes (serving_of m) a (client_at a s) s t g.told g.queued) e g.resumes in
      let f = subst (λ (q : Option Client). Resumes (serving_of m) c q s t g.told g.queued) here r in
      goes_for (serving_of m) k s t g.told g.queued f (open_by s stream (k, here, (given, holds))) gone stream given holds

  acts_for : (acks : List (ℕ × ℕ)) (req : ℕ) (m n : MemberState) (s t : Clients) (told : Told) (all : List Effect) (stream : List ℕ) → Acts acks req m s told n t all → AreOwn s.common.waiting → KeptBy s stream
      → client_at c t ≡ None → Faulty stream
  unfolding KeptBy
  acts_for [] req m n s t told all stream (same, clients, effects) own kept gone = absurd (open_by s stream kept (sym (ap (client_at c) clients) ∙ gone))
  acts_for (ack ∷ acks) req m n s t told all stream g own (k, here, held) gone =
      let end = finishes_own s.common.waiting req ack.1 told.outcome s own in
      let f : Finish = finished s.common.waiting req ack.1 told.outcome s in
      continues_for f.resumes m n f.clients t g.more stream end.own g.continues (k, same_conns s f.clients end.conns ∙ here, held) gone

  follows_for : (came : Result Told Stop) (req : ℕ) (m : MemberState) (s : Clients) (y : RunningNode) (all : List Effect) (stream : List ℕ) → Follows came req m s (Some y) all → AreOwn s.common.waiting → KeptBy s stream
      → client_at c y.clients ≡ None → Faulty stream
  follows_for (Ok told) req m s y all stream follows own kept gone = acts_for (acked told.effects) req m y.member s y.clients told all stream follows own kept gone
  follows_for (Err (stop.Halted cause)) req m s y all stream follows own kept gone = absurd follows
  follows_for (Err stop.Memory) req m s y all stream follows own kept gone = absurd follows

  -- ---- where the node stands

  kept_on : (way : Way) (r : AloneRun) (kept : Kept) (stream : List ℕ) (given : List Item) → IsHeardOn way r (Some kept) stream given → IsKeptFrom kept stream given
  kept_on (Calm lately) r kept stream given h = h.0
  kept_on (Asked lately origin u) r kept stream given h = h
  kept_on (Granting origin u) r kept stream given h = h
  kept_on (Stuck head others origins) r kept stream given h = h.0

  own_on : (way : Way) (r : AloneRun) (intake : Option Kept) (p : Sent) (left : List Sent) → FitsWay c way r intake → left_on way r.single ≡ p ∷ left → AreOwn (waiting_on way)
  unfolding AreOwn
  own_on (Calm lately) r intake p left fits is = inl refl
  own_on (Asked lately origin u) r intake p left fits is = inr (origin, refl, fits.2)
  own_on (Granting origin u) r intake p left fits is = inr (origin, refl, fits.2)
  own_on (Stuck head others origins) r intake p left fits is = absurd (cc)

  -- The connection is open, and its intake has kept the stream; or it is gone.
  kept_at : (first : AloneRun) (stream : List ℕ) (z : NodeAlone) (output : List ℕ) (records : List Entry) → StandsAt c first stream z output records
      → ((k : Client) × (client_at c z.clients ≡ Some k) × ((given : List Item) × IsKeptFrom k.intake stream given)) ⊎ (client_at c z.clients ≡ None)
  kept_at first stream z output records h = by_intake h.phase.intake refl
    where
      by_intake : (intake : Option Kept) → h.phase.intake ≡ intake → ((k : Client) × (client_at c z.clients ≡ Some k) × ((given : List Item) × IsKeptFrom k.intake stream given)) ⊎ (client_at c z.clients ≡ None)
      by_intake None is = inr (ap (λ (x : NodeAlone). client_at c x.clients) h.is ∙ ap (λ (i : Option Kept). client_at c (clients_of c (waiting_on h.phase.way) h.phase.run i)) is)
      by_intake (Some kept) is = inl (
        client_of kept h.phase.run,
        ap (λ (x : NodeAlone). client_at c x.clients) h.is ∙ ap (λ (i : Option Kept). client_at c (clients_of c (waiting_on h.phase.way) h.phase.run i)) is
            ∙ found_one (clients_of c (waiting_on h.phase.way) h.phase.run (Some kept)).common c (client_of kept h.phase.run),
        (h.given, kept_on h.phase.way h.phase.run kept stream h.given (subst (λ (i : Option Kept). IsHeardOn h.phase.way h.phase.run i stream h.given) is h.heard)),
      )

  -- Behind a hang-up there is no connection.
  hung_at : (waiting : List Origin) (r : AloneRun) (intake : Option Kept) → (hung_up c (client_at c (clients_of c waiting r intake)) (clients_of c waiting r intake)).0.conns ≡ []
  hung_at waiting r None = refl
  hung_at waiting r (Some kept) =
      let s : Clients = clients_of c waiting r (Some kept) in
      ap (λ (client : Option Client). (hung_up c client s).0.conns) (found_one s.common c (client_of kept r)) ∙ ap (λ (t : Clients). t.conns) (left_one s.common c (client_of kept r) (client_of kept r))

  pub hung_conns : (first : AloneRun) (stream : List ℕ) (z : NodeAlone) (output : List ℕ) (records : List Entry) → StandsAt c first stream z output records → (hung_up c (client_at c z.clients) z.clients).0.conns ≡ []
  hung_conns first stream z output records h =
      ap (λ (x : NodeAlone). (hung_up c (client_at c x.clients) x.clients).0.conns) h.is ∙ hung_at (waiting_on h.phase.way) h.phase.run h.phase.intake

  -- ---- a message

  -- A connection that is gone behind it was gone before, or its stream has a fault.
  pub message_closes : (first : AloneRun) (stream : List ℕ) (output : List ℕ) (records : List Entry) (v w : DiskView) (p : Sent) (left : List Sent) (x y : RunningNode) (es : List Effect)
      → StandsAt c first stream (alone_node x (p ∷ left)) output records → NodeReceives {E = AllocError} v (Some x) p (Ok es) (Some y) w
      → (client_at c x.clients ≡ None → Faulty stream) → client_at c y.clients ≡ None → Faulty stream
  unfolding KeptBy
  message_closes first stream output records v w p left x y es h receives before gone = by_kept (kept_at first stream (alone_node x (p ∷ left)) output records h)
    where
      own : AreOwn x.clients.common.waiting
      own = subst AreOwn (sym (ap (λ (z : NodeAlone). z.clients.common.waiting) h.is ∙ by_waiting h.phase.intake))
          (own_on h.phase.way h.phase.run h.phase.intake p left h.fits (sym (ap (λ (z : NodeAlone). z.left) h.is)))
        where
          by_waiting : (intake : Option Kept) → (clients_of c (waiting_on h.phase.way) h.phase.run intake).common.waiting ≡ waiting_on h.phase.way
          by_waiting None = refl
          by_waiting (Some kept) = refl

      by_kept : ((k : Client) × (client_at c x.clients ≡ Some k) × ((given : List Item) × IsKeptFrom k.intake stream given)) ⊎ (client_at c x.clients ≡ None) → Faulty stream
      by_kept (inr none) = before none
      by_kept (inl (k, here, (given, kept))) = follows_for receives.came (head_request x) receives.member x.clients y es stream receives.follows own (k, here, (given, kept.holds)) gone

-- ---- a piece

module _ (c : ℕ) (b : Beginning) (stream piece : List ℕ) (told : List Effect) (s t : SingleState) (v : DiskView) (es : List Effect) (h : Heard c b stream told s v) (quiet : s.left ≡ [])
    (heard : HearsBytes c piece s.node.running t.node.running es) (sends : Sends s es t) where
  abbrev At : StandsAt c b.first stream (alone_node h.now []) (told_to c told) h.under_way.added
  At = stands c b stream piece told s t v es h quiet heard sends

  -- It is behind the stream now, or it was refused.
  abbrev Comes : Type 0
  Comes = (Heard c b (stream ++ piece) (told ++ es) t v × IsClosedFor c (stream ++ piece) t.node)
      ⊎ (Heard c b stream (told ++ es) t v × (client_in c t.node ≡ None) × (t.left ≡ []) × visits.IsRefused stream piece)

  module _ (y : RunningNode) (is : t.node.running ≡ Some y) (k : Client) (here : client_at c h.now.clients ≡ Some k) (given : List Item) (kept : IsKeptFrom k.intake stream given) where
    gone_at : client_at c y.clients ≡ None → client_in c t.node ≡ None
    gone_at gone = ap (λ (r : Option RunningNode). elim r [ None ↦ None | Some x ↦ client_at c x.clients ]) is ∙ gone

    gone_from_node : client_in c t.node ≡ None → client_at c y.clients ≡ None
    gone_from_node gone = sym (ap (λ (r : Option RunningNode). elim r [ None ↦ None | Some x ↦ client_at c x.clients ]) is) ∙ gone

    hears_by : (refused : Option CloseCause) → refusal k.intake piece ≡ refused
        → HearsBy refused (serving_of h.now.member) c piece k h.now.clients y.clients (heard_at c b stream piece told s t v es h quiet heard sends y is).told (heard_at c b stream piece told s t v es h quiet heard sends y is).queued
    hears_by refused because =
        let a = heard_at c b stream piece told s t v es h quiet heard sends y is in
        let f = subst (λ (q : Option Client). Hears (serving_of h.now.member) c piece q h.now.clients y.clients a.told a.queued) here a.hears in
        subst (λ (q : Option CloseCause). HearsBy q (serving_of h.now.member) c piece k h.now.clients y.clients a.told a.queued) because f

    -- The node has only closed the connection, as where the client hangs up.
    refused_at : (cause : CloseCause) → refusal k.intake piece ≡ Some cause → Comes
    refused_at cause because =
        let a = heard_at c b stream piece told s t v es h quiet heard sends y is in
        let g = hears_by (Some cause) because in
        let u = subst (λ (q : Option Update). Submits q a.told h.now.member y.member es) g.update a.submits in
        let rules : y.member.rules ≡ h.now.member.rules = (let e : Some h.now.member.rules ≡ Some y.member.rules = u.rules in cc) in
        let says : es ≡ closes c cause = u.effects ∙ append-nil a.told ∙ g.effects in
        let left : left_by c k h.now.clients ≡ (hung_up c (client_at c h.now.clients) h.now.clients).0 = sym (ap (λ (q : Option Client). (hung_up c q h.now.clients).0) here) in
        let clients : y.clients ≡ (hung_up c (client_at c h.now.clients) h.now.clients).0 = g.clients ∙ left in
        let hung = hangs_up c b.first stream (alone_node h.now []) (told_to c told) h.under_way.added At refl in
        let none : sent es ≡ [] = ap sent says in
        let is_there : record (alone_node h.now []) { clients = (hung_up c (client_at c h.now.clients) h.now.clients).0 } ≡ alone_node y (sent es) =
        (λ i. record { node = sym rules i; clients = sym clients i; left = sym none i }) in
        let silent : told_to c told ≡ told_to c (told ++ es) = sym (told_both c told es ∙ ap (λ (l : List ℕ). told_to c told ++ l) (ap (told_to c) says) ∙ append-nil (told_to c told)) in
        let there : StandsAt c b.first stream (alone_node y (sent es)) (told_to c (told ++ es)) h.under_way.added =
        subst (λ (l : List ℕ). StandsAt c b.first stream (alone_node y (sent es)) l h.under_way.added) silent
        (subst (λ (z : NodeAlone). StandsAt c b.first stream z (told_to c told) h.under_way.added) is_there hung) in
        inr (
          heard_of c b stream piece told s t v es h quiet heard sends y stream is there (subst (λ (l : List ℕ). RepliesLogged c b.first stream l h.under_way.added) silent h.answered),
          gone_at (ap (client_at c) clients ∙ ap (λ (l : Conns). lookup (is_at (nat_cmp c)) l) (hung_conns c b.first stream (alone_node h.now []) (told_to c told) h.under_way.added At)),
          left_is c b stream piece told s t v es h quiet heard sends ∙ none,
          (k.intake, given, cause, kept, because),
        )

    taken_at : refusal k.intake piece ≡ None → Comes
    taken_at because = by_case (bytes_lead c b.first stream piece h.now y es (told_to c told) h.under_way.added At (heard_at c b stream piece told s t v es h quiet heard sends y is))
      where
        closed : client_in c t.node ≡ None → (all : List Item) × (fault : IntakeFault) × Items Server (stream ++ piece) all (Some fault)
        closed gone =
            let a = heard_at c b stream piece told s t v es h quiet heard sends y is in
            goes_for c (serving_of h.now.member) (fed_client k piece) h.now.clients y.clients a.told a.queued (hears_by None because) (λ none. let e : ◌≡◌ {A = Option Client} (Some k) None = sym here ∙ none in absurd (cc))
            (gone_from_node gone) (stream ++ piece) given (holds_fed k.intake stream piece given kept.holds)

        by_case : StandsAt c b.first (stream ++ piece) (alone_node y (sent es)) (told_to c told ++ told_to c es) h.under_way.added ⊎ (StandsAt c b.first stream (alone_node y (sent es)) (told_to c told) h.under_way.added × IsRefused c piece h.now.clients es)
            → Comes
        by_case (inl there) = inl (
          heard_of c b stream piece told s t v es h quiet heard sends y (stream ++ piece) is
              (subst (λ (l : List ℕ). StandsAt c b.first (stream ++ piece) (alone_node y (sent es)) l h.under_way.added) (sym (told_both c told es)) there)
              (taken_answered c b stream piece told s t v es h quiet heard sends y is there),
          closed,
        )
        by_case (inr (there, inl (none, silent))) = let e : ◌≡◌ {A = Option Client} (Some k) None = sym here ∙ none in absurd (cc)
        by_case (inr (there, inr (j, cause, at, why, says))) =
            let same : ◌≡◌ {A = Option Client} (Some k) (Some j) = sym here ∙ at in
            let one : k ≡ j = cc in
            let e : ◌≡◌ {A = Option CloseCause} None (Some cause) = sym because ∙ ap (λ (q : Client). refusal q.intake piece) one ∙ why in absurd (cc)

    by_refusal : (refused : Option CloseCause) → refusal k.intake piece ≡ refused → Comes
    by_refusal None because = taken_at because
    by_refusal (Some cause) because = refused_at cause because

  by_running : (r : Option RunningNode) → t.node.running ≡ r → is_some (client_in c s.node) ≡ true → Comes
  by_running None is open_ = absurd (subst (λ (r : Option RunningNode). HearsBytes c piece (Some h.now) r es) is (subst (λ (r : Option RunningNode). HearsBytes c piece r t.node.running es) h.runs heard))
  by_running (Some y) is open_ = by_kept (kept_at c b.first stream (alone_node h.now []) (told_to c told) h.under_way.added At)
    where
      by_kept : ((k : Client) × (client_at c h.now.clients ≡ Some k) × ((given : List Item) × IsKeptFrom k.intake stream given)) ⊎ (client_at c h.now.clients ≡ None) → Comes
      by_kept (inl (k, here, (given, kept))) = by_refusal y is k here given kept (refusal k.intake piece) refl
      by_kept (inr none) =
          let e : true ≡ false = sym open_ ∙ ap (λ (r : Option RunningNode). is_some (elim r [ None ↦ None | Some x ↦ client_at c x.clients ])) h.runs ∙ ap is_some none in absurd (cc)

  pub piece_comes_to : is_some (client_in c s.node) ≡ true → (Heard c b (stream ++ piece) (told ++ es) t v × IsClosedFor c (stream ++ piece) t.node)
      ⊎ (Heard c b stream (told ++ es) t v × (client_in c t.node ≡ None) × (t.left ≡ []) × visits.IsRefused stream piece)
  piece_comes_to open_ = by_running t.node.running refl open_
