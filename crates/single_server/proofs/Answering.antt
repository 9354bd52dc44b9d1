-- In each event of a node that is alone a reply comes behind the record of its update.
use Rattle.std.proofs.Common.{◌≡◌, ℕ, ◌+◌, ◌<◌, ◌≤◌, Bool, true, false, ◌&&◌, List, [], ◌∷◌, ◌++◌, Option, Some, None, Result, Ok, Err, nat_lt, unwrap_or, if◌then◌else◌, refl, sym, ap, ◌∙◌, subst, append_assoc}
use Rattle.std.proofs.lemmas.List.{append-nil}
use Rattle.std.specs.List.{list_any}
use Rattle.std.specs.declared.alloc.AllocError.{AllocError}
use Rattle.disk_core.specs.Views.{DiskView}
use Rattle.update_records.specs.Entry.{Entry}
use Rattle.update_records.specs.declared.update.Update.{Update}
use Rattle.gum_core.specs.Updating.{CoreState, last_place}
use Rattle.gum_core.specs.Updating as updating
use Rattle.gum_core.specs.declared.decision.Decision.{Decision}
use Rattle.gum_core.specs.declared.decision.Decision.TheVariants as decision
use Rattle.gum_messages.specs.declared.body.Body.TheVariants.{Ask, Granted, Release}
use Rattle.gum_messages.specs.Messages.{Sent}
use Rattle.rpc_assoc.specs.State.{State as Association}
use Rattle.rpc_calls.proofs.HoldingLaws.{holds_fed}
use Rattle.rpc_calls.specs.declared.item.Item.{Item}
use Rattle.rpc_calls.specs.Intakes.{Kept, fed}
use Rattle.cluster_rules.specs.declared.effect.CloseCause.{CloseCause}
use Rattle.cluster_rules.specs.declared.effect.Effect.{Effect}
use Rattle.cluster_rules.specs.declared.effect.Effect.TheVariants.{Acked, Reply, Send}
use Rattle.cluster_rules.specs.Nodes.{NodeState, Out, asks, done_of, locker_at, nothing, number_of, packet, tells}
use Rattle.cluster_rules.specs.Receiving.{counts, hears, receive}
use Rattle.cluster_rules.specs.Updates.{Answer, InDoubt, Logged, Unwritten, Written, answers, asked_for, entry_for, may_submit, submits, unlogged}
use Rattle.cluster_rules.specs.Worlds.{acked, sent}
use Rattle.registry_machine.specs.Machine.{registry_machine}
use Rattle.client_connections.specs.declared.origin.Origin.{Origin}
use Rattle.client_connections.specs.Clients.{Client, Clients, client_at, waits_at}
use Rattle.client_connections.specs.Finishing.{Finish, finished}
use Rattle.client_connections.specs.Items.{ClientState, most_taken}
use Rattle.client_connections.specs.Taking.{Hears, HearsBy, Resumes, Serving, closes, refusal, serving}
use Rattle.cluster_member.specs.declared.stop.Stop.{Stop}
use Rattle.cluster_member.specs.declared.stop.Stop.TheVariants as stop
use Rattle.cluster_member.specs.Events.{Receives}
use Rattle.cluster_member.specs.Logging.{answer_to}
use Rattle.cluster_member.specs.States.{MemberState}
use Rattle.member_rules.specs.declared.told.Told.{Told}
use Rattle.cluster_node.specs.Acting.{Acts, Continues, Finishes, Follows, HearsPiece, answered_with as answered_in, keys_if_open, serving_of, submitted_by}
use Rattle.cluster_node.specs.Events.{NodeReceives, head_request}
use Rattle.cluster_node.specs.States.{RunningNode}
use Rattle.single_rules.proofs.Comparisons.{less, same}
use Rattle.single_rules.proofs.Events.{finishes_one}
use Rattle.single_rules.specs.Single.{Single, ask, grant, granting, made, outcome_of, release, releasing}
use Rattle.single_items.specs.Alone.{AloneRun, alone, answer_alone, done_alone, update_alone}
use Rattle.single_items.specs.Events.{told_to}
use Rattle.single_items.specs.Standing.{Asked, Calm, FitsWay, Granting, GrownFrom, IsCallOf, IsHeardOn, IsKeptFrom, NodeAlone, Phase, StandsAt, Stuck, Way, clients_of, left_on, logged_on, node_on, promised_on, queued_on, waiting_on}
use Rattle.single_items.proofs.Finishing.{answered_clients, answered_with, finishes, keeps_association}
use Rattle.single_items.proofs.Fronts.{among}
use Rattle.single_items.proofs.Hearing.{on_first, sound_now}
use Rattle.single_items.proofs.Keeping.{found_one}
use Rattle.single_items.proofs.Serving.{client_of}
use Rattle.single_items.proofs.Taking.{serving_with}
use Rattle.single_items.proofs.Telling.{told_both}
use Rattle.single_node.specs.Standing.{alone_node}
use Rattle.single_node.proofs.Falling.{ask_light, release_light}
use Rattle.single_node.proofs.Going.{State, writes_if}
use Rattle.single_server.specs.Hearing.{RepliesLogged}
use Rattle.single_server.proofs.Fronts.{goes_logged}

-- ---- nothing is told

-- So it stays where nothing is told, whatever records are added.
pub more_logged : (c : ℕ) (first : AloneRun) (stream text : List ℕ) (es : List Effect) (records more : List Entry) → told_to c es ≡ [] → RepliesLogged c first stream text records
    → RepliesLogged c first stream (text ++ told_to c es) (records ++ more)
more_logged c first stream text es records more silent h given fault items =
    let a = h given fault items in
    let x : AloneRun = alone c first a.front in
    record {
      front = a.front;
      among = a.among;
      told = ap (λ (l : List ℕ). text ++ l) silent ∙ append-nil text ∙ a.told;
      logged = (a.logged.0 ++ more, ap (λ (l : List Entry). l ++ more) a.logged.1 ∙ append_assoc x.records a.logged.0 more);
    }

-- As a connection begins nothing was told.
pub none_logged : (c : ℕ) (first : AloneRun) (records : List Entry) → first.output ≡ [] → first.records ≡ [] → RepliesLogged c first [] [] records
none_logged c first records silent none given fault items = record {
  front = [];
  among = (given, refl);
  told = sym silent;
  logged = (records, ap (λ (l : List Entry). l ++ records) (sym none));
}

asks_silent : (c : ℕ) (x : State) (next : Option ℕ) → told_to c (asks x next) ≡ []
asks_silent c x None = refl
asks_silent c x (Some req) = by_queue x.core.queue
  where
    by_queue : (queue : List Update) → told_to c (elim queue [ [] ↦ [] | u ∷ us ↦ Send (packet x (locker_at x) (Ask req u)) ∷ [] ]) ≡ []
    by_queue [] = refl
    by_queue (u ∷ us) = refl

submits_silent : (c : ℕ) (x : State) (may : Bool) (r : CoreState × (ℕ × Decision)) → told_to c (let o : Out registry_machine = if may then submits x r else nothing x in o.effects) ≡ []
submits_silent c x true r = asks_silent c (record x { core = r.0 }) (asked_for r.1.1)
submits_silent c x false r = refl

submitted_silent : (c : ℕ) (queued : Option Update) (x : State) → told_to c (submitted_by queued x).effects ≡ []
submitted_silent c None x = refl
submitted_silent c (Some u) x = submits_silent c x (may_submit x) (updating.submitted x.core u)

-- ---- a message that acknowledges nothing

granted_silent : (c : ℕ) (last : Option Entry) (x : State) (to : ℕ) → told_to c (let o : Out registry_machine = elim last [ None ↦ nothing x | Some e ↦ tells x to (Granted e) ] in o.effects) ≡ []
granted_silent c None x to = refl
granted_silent c (Some e) x to = refl

written_silent : (c : ℕ) (fenced : Bool) (x : State) (e : Entry) (held : ℕ) (answer : Answer) → told_to c (writes_if fenced x e held answer).out.effects ≡ []
written_silent c true x e held answer = refl
written_silent c false x e held Written = refl
written_silent c false x e held InDoubt = refl
written_silent c false x e held Unwritten = refl

answers_silent : (c : ℕ) (x : State) (u : Update) (held : ℕ) (answer : Answer) (d : Decision) → told_to c (answers x u held answer d).out.effects ≡ []
answers_silent c x u held answer decision.Nothing = refl
answers_silent c x u held answer (decision.Ask req) = refl
answers_silent c x u held answer (decision.Write from req) = written_silent c (nat_lt (number_of x) held) x (entry_for x from req u) held answer
answers_silent c x u held answer (decision.Grant to req place) = granted_silent c x.last x to
answers_silent c x u held answer (decision.Spread to place) = refl
answers_silent c x u held answer (decision.Finish req place next) = refl
answers_silent c x u held answer decision.Free = refl
answers_silent c x u held answer (decision.ReleaseAgain req) = refl
answers_silent c x u held answer decision.Take = refl
answers_silent c x u held answer decision.Again = refl

ask_counted : (c : ℕ) (counted : Bool) (x : State) (from req : ℕ) (u : Update) (held : ℕ) (answer : Answer)
    → told_to c (let d : Logged registry_machine = if counted then hears x from (Ask req u) held answer else unlogged (nothing x) in d.out.effects) ≡ []
ask_counted c true x from req u held answer = answers_silent c x u held answer (updating.asked x.core from req (done_of x))
ask_counted c false x from req u held answer = refl

release_counted : (c : ℕ) (counted : Bool) (x : State) (from req held : ℕ) (answer : Answer)
    → told_to c (let d : Logged registry_machine = if counted then hears x from (Release req) held answer else unlogged (nothing x) in d.out.effects) ≡ []
release_counted c true x from req held answer = refl
release_counted c false x from req held answer = refl

-- Nothing is acknowledged, and nothing told.
record IsSilent (c : ℕ) (o : Out registry_machine) : Type 0 where
  pub acks : acked o.effects ≡ []
  pub told : told_to c o.effects ≡ []

ask_silent : (c : ℕ) (x : State) (a : Single registry_machine) (u : Update) (held : ℕ) (answer : Answer) → IsSilent c (receive x (ask a u) held answer).out
ask_silent c x a u held answer = record { acks = (ask_light x a u held answer).acks; told = ask_counted c (counts x (ask a u)) x a.node (a.passed + 1) u held answer }

release_silent : (c : ℕ) (x : State) (a : Single registry_machine) (held : ℕ) (answer : Answer) → IsSilent c (receive x (release a) held answer).out
release_silent c x a held answer = record { acks = (release_light x a held answer).acks; told = release_counted c (counts x (release a)) x a.node (a.passed + 1) held answer }

acts_silent : (c : ℕ) (o : Out registry_machine) (req : ℕ) (m n : MemberState) (s t : Clients) (told : Told) (es : List Effect) → IsSilent c o → o.effects ≡ told.effects → Acts (acked told.effects) req m s told n t es
    → told_to c es ≡ []
acts_silent c o req m n s t told es silent says acts =
    let h = subst (λ (l : List (ℕ × ℕ)). Acts l req m s told n t es) (ap acked (sym says) ∙ silent.acks) acts in
    ap (told_to c) (h.2 ∙ sym says) ∙ silent.told

-- ---- nothing is under way

module _ (c : ℕ) (first : AloneRun) (stream : List ℕ) (given : List Item) where
  exact_logged : (way : Way) (r : AloneRun) (intake : Option Kept) → r ≡ alone c first given → IsHeardOn way r intake stream given → RepliesLogged c first stream r.output r.records
  exact_logged way r intake run heard all fault items = record {
    front = given;
    among = among stream given all fault items way r intake heard;
    told = ap (λ (x : AloneRun). x.output) run;
    logged = ([], ap (λ (x : AloneRun). x.records) run ∙ sym (append-nil (alone c first given).records));
  }

  quiet_on : (way : Way) (r : AloneRun) (intake : Option Kept) → left_on way r.single ≡ [] → promised_on way r ≡ alone c first given → IsHeardOn way r intake stream given
      → RepliesLogged c first stream r.output (logged_on way r)
  quiet_on (Calm None) r intake none promised heard = exact_logged (Calm None) r intake promised heard
  quiet_on (Calm (Some l)) r intake none promised heard = absurd (cc)
  quiet_on (Asked None origin u) r intake none promised heard = absurd (cc)
  quiet_on (Asked (Some l) origin u) r intake none promised heard = absurd (cc)
  quiet_on (Granting origin u) r intake none promised heard = absurd (cc)
  quiet_on (Stuck head others origins) r intake none promised heard = exact_logged (Stuck head others origins) r intake promised heard

pub quiet_logged : (c : ℕ) (first : AloneRun) (stream : List ℕ) (z : NodeAlone) (output : List ℕ) (records : List Entry) → StandsAt c first stream z output records → z.left ≡ [] → RepliesLogged c first stream output records
quiet_logged c first stream z output records h quiet =
    let p : Phase = h.phase in
    let none : left_on p.way p.run.single ≡ [] = sym (ap (λ (x : NodeAlone). x.left) h.is) ∙ quiet in
    subst (λ (l : List ℕ). RepliesLogged c first stream l records) (sym h.told)
    (subst (λ (l : List Entry). RepliesLogged c first stream p.run.output l) (sym h.logged) (quiet_on c first stream h.given p.way p.run p.intake none h.promised h.heard))

-- ---- a piece

-- A connection that is open has given these items of the stream.
abbrev GaveAll : List ℕ → List Item → Option Kept → Type 0
GaveAll stream given None = Unit {0}
GaveAll stream given (Some kept) = IsKeptFrom kept stream given

module _ (c : ℕ) (first : AloneRun) (stream piece : List ℕ) (given : List Item) (old : List Origin) (r : AloneRun) (t : Clients) (es told : List Effect) (queued : Option Update) (x : State)
    (run : r ≡ alone c first given) (waits : r.waits ≡ list_any (waits_at c) old) (few : r.taken ≤ most_taken) (says : es ≡ told ++ (submitted_by queued x).effects) where
  abbrev Here : Type 0
  Here = RepliesLogged c first (stream ++ piece) (r.output ++ told_to c es) r.records

  told_is : told_to c told ≡ told_to c es
  told_is = sym (ap (told_to c) says ∙ told_both c told (submitted_by queued x).effects ∙ ap (λ (l : List ℕ). told_to c told ++ l) (submitted_silent c queued x) ∙ append-nil (told_to c told))

  closed_silent : (wanted : List Effect) → told ≡ wanted → queued ≡ None → sent (wanted ++ []) ≡ [] → sent es ≡ []
  closed_silent wanted is none silent =
      ap sent (says ∙ ap (λ (q : Option Update). told ++ (submitted_by q x).effects) none ∙ ap (λ (l : List Effect). l ++ []) is) ∙ silent

  by_refusal : (kept : Kept) (cause : Option CloseCause) → (sent es ≡ [] → Here) → IsKeptFrom kept stream given
      → HearsBy cause (serving_with r) c piece (client_of kept r) (clients_of c old r (Some kept)) t told queued → Here
  by_refusal kept (Some cause) quiet holds g = quiet (closed_silent (closes c cause) g.effects g.update refl)
  by_refusal kept None quiet holds g =
      let longer : IsKeptFrom (fed kept piece) (stream ++ piece) given = record { side = holds.side; holds = holds_fed kept stream piece given holds.holds } in
      subst (λ (l : List ℕ). RepliesLogged c first (stream ++ piece) (r.output ++ l) r.records) told_is
      (goes_logged c first (stream ++ piece) given old r (fed kept piece) kept t told queued run waits few longer g)

  pub piece_by : (intake : Option Kept) → (sent es ≡ [] → Here) → GaveAll stream given intake → Hears (serving_with r) c piece (client_at c (clients_of c old r intake)) (clients_of c old r intake) t told queued → Here
  piece_by None quiet holds h = quiet (closed_silent [] h.effects h.update refl)
  piece_by (Some kept) quiet holds h =
      let s : Clients = clients_of c old r (Some kept) in
      by_refusal kept (refusal kept piece) quiet holds (subst (λ (k : Option Client). Hears (serving_with r) c piece k s t told queued) (found_one s.common c (client_of kept r)) h)

-- From where the node stands, with nothing under way.
module _ (c : ℕ) (first : AloneRun) (stream piece : List ℕ) (x y : RunningNode) (es : List Effect) (h : HearsPiece c piece x.member x.clients y.member y.clients es) where
  abbrev Leads : AloneRun → Type 0
  Leads r = RepliesLogged c first (stream ++ piece) (r.output ++ told_to c es) r.records

  piece_at : (given : List Item) (old : List Origin) (r : AloneRun) (intake : Option Kept) → r ≡ alone c first given → r.waits ≡ list_any (waits_at c) old → r.taken ≤ most_taken
      → GaveAll stream given intake → (sent es ≡ [] → Leads r)
      → serving_of x.member ≡ serving_with r → x.clients ≡ clients_of c old r intake → Leads r
  piece_at given old r intake run waits few holds quiet serves is =
      let hears = subst (λ (v : Serving). Hears v c piece (client_at c x.clients) x.clients y.clients h.told h.queued) serves h.hears in
      piece_by c first stream piece given old r y.clients es h.told h.queued x.member.rules run waits few h.submits.effects intake quiet holds
      (subst (λ (s : Clients). Hears (serving_with r) c piece (client_at c s) s y.clients h.told h.queued) is hears)

  serves_at : (way : Way) (a : Single registry_machine) (v : Serving) → x.member.rules ≡ node_on way a → serving (keys_if_open (node_on way a)) (done_of (node_on way a)) ≡ v → serving_of x.member ≡ v
  serves_at way a v is here = ap (λ (n : State). serving (keys_if_open n) (done_of n)) is ∙ here

  piece_on : (given : List Item) (way : Way) (r : AloneRun) (intake : Option Kept) → FitsWay c way r intake → r.taken ≤ most_taken → promised_on way r ≡ alone c first given → IsHeardOn way r intake stream given
      → left_on way r.single ≡ [] → (sent es ≡ [] → Leads r) → x.member.rules ≡ node_on way r.single → x.clients ≡ clients_of c (waiting_on way) r intake → Leads r
  piece_on given (Calm None) r None fits few promised heard none quiet node is =
      piece_at given [] r None promised fits.1 few tt quiet (serves_at (Calm None) r.single (serving_with r) node refl) is
  piece_on given (Calm None) r (Some kept) fits few promised heard none quiet node is =
      piece_at given [] r (Some kept) promised fits.1 few heard.0 quiet (serves_at (Calm None) r.single (serving_with r) node refl) is
  piece_on given (Calm (Some l)) r intake fits few promised heard none quiet node is = absurd (cc)
  piece_on given (Asked None origin u) r intake fits few promised heard none quiet node is = absurd (cc)
  piece_on given (Asked (Some l) origin u) r intake fits few promised heard none quiet node is = absurd (cc)
  piece_on given (Granting origin u) r intake fits few promised heard none quiet node is = absurd (cc)
  piece_on given (Stuck head others origins) r None fits few promised heard none quiet node is =
      piece_at given origins r None promised fits.1 few tt quiet (serves_at (Stuck head others origins) r.single (serving_with r) node refl) is
  piece_on given (Stuck head others origins) r (Some kept) fits few promised heard none quiet node is =
      piece_at given origins r (Some kept) promised fits.1 few heard.0 quiet (serves_at (Stuck head others origins) r.single (serving_with r) node refl) is

records_quiet : (way : Way) (r : AloneRun) → left_on way r.single ≡ [] → logged_on way r ≡ r.records
records_quiet (Calm lately) r none = refl
records_quiet (Asked lately origin u) r none = refl
records_quiet (Granting origin u) r none = absurd (cc)
records_quiet (Stuck head others origins) r none = refl

pub piece_logged : (c : ℕ) (first : AloneRun) (stream piece : List ℕ) (x y : RunningNode) (es : List Effect) (output : List ℕ) (records : List Entry) → StandsAt c first stream (alone_node x []) output records
    → HearsPiece c piece x.member x.clients y.member y.clients es → StandsAt c first (stream ++ piece) (alone_node y (sent es)) (output ++ told_to c es) records
    → RepliesLogged c first (stream ++ piece) (output ++ told_to c es) records
piece_logged c first stream piece x y es output records h heard behind =
    let p : Phase = h.phase in
    let none : left_on p.way p.run.single ≡ [] = sym (ap (λ (z : NodeAlone). z.left) h.is) in
    let logged : records ≡ p.run.records = h.logged ∙ records_quiet p.way p.run none in
    let quiet : sent es ≡ [] → RepliesLogged c first (stream ++ piece) (p.run.output ++ told_to c es) p.run.records =
    λ silent. subst (λ (l : List ℕ). RepliesLogged c first (stream ++ piece) (l ++ told_to c es) p.run.records) h.told
    (subst (λ (l : List Entry). RepliesLogged c first (stream ++ piece) (output ++ told_to c es) l) logged
    (quiet_logged c first (stream ++ piece) (alone_node y (sent es)) (output ++ told_to c es) records behind silent)) in
    subst (λ (l : List ℕ). RepliesLogged c first (stream ++ piece) (l ++ told_to c es) records) (sym h.told)
    (subst (λ (l : List Entry). RepliesLogged c first (stream ++ piece) (p.run.output ++ told_to c es) l) (sym logged)
    (piece_on c first stream piece x y es heard h.given p.way p.run p.intake h.fits h.grown.items h.promised h.heard none quiet (ap (λ (z : NodeAlone). z.node) h.is) (ap (λ (z : NodeAlone). z.clients) h.is)))

-- ---- an acknowledgement

module _ (c : ℕ) (first : AloneRun) (stream : List ℕ) (given : List Item) (origin : Origin) (u : Update) (r : AloneRun) (kept : Kept) (room : r.single.done < last_place) (waits : r.waits ≡ false) (own : IsCallOf c origin)
    (few : r.taken ≤ most_taken) (promised : update_alone origin u r ≡ alone c first given) (heard : IsKeptFrom kept stream given) (m n : MemberState) (t : Clients) where
  abbrev Given : List ℕ × ClientState
  Given = answer_alone origin (outcome_of r.single u) r.client

  abbrev Behind : AloneRun
  Behind = done_alone u Given r

  behind_run : Behind ≡ alone c first given
  behind_run =
      let p = less r.single.done last_place room in
      sym (ap (λ (b : Bool). if b then done_alone u (answer_alone origin (outcome_of r.single u) r.client) r else record r { waits = true }) p) ∙ promised

  clients_behind : answered_clients c r kept Given ≡ clients_of c [] Behind (Some kept)
  clients_behind = of_pair Given (keeps_association origin (outcome_of r.single u) r.client)
    where
      of_pair : (p : List ℕ × ClientState) → p.1.association ≡ r.client.association → answered_clients c r kept p ≡ clients_of c [] (done_alone u p r) (Some kept)
      of_pair (bytes, n) e = ap (λ (association : Association). record {
        common = record { table = n.handles; waiting = []; taken = r.taken };
        conns = (c, record { intake = kept; association = association }) ∷ [];
      }) (sym e)

  goes_further : m.rules ≡ releasing r.single u → (more : List Effect) → Continues c m (answered_clients c r kept Given) n t more → RepliesLogged c first stream (Behind.output ++ told_to c more) Behind.records
  goes_further there more h =
      let s : Clients = clients_of c [] Behind (Some kept) in
      let serves : serving_of m ≡ serving_with Behind = ap (λ (x : State). serving (keys_if_open x) (done_of x)) there in
      let at = subst (λ (v : Clients). Resumes (serving_of m) c (client_at c v) v t h.told h.queued) clients_behind h.resumes in
      let on = subst (λ (k : Option Client). Resumes (serving_with Behind) c k s t h.told h.queued) (found_one s.common c (client_of kept Behind))
      (subst (λ (v : Serving). Resumes v c (client_at c s) s t h.told h.queued) serves at) in
      subst (λ (l : List ℕ). RepliesLogged c first stream (Behind.output ++ l) Behind.records)
      (told_is c first stream [] given [] Behind t more h.told h.queued m.rules behind_run waits few h.submits.effects)
      (goes_logged c first stream given [] Behind kept kept t h.told h.queued behind_run waits few heard on)

  abbrev Acks : List Effect
  Acks = Acked r.single.view (r.single.done + 1) ∷ Send (release r.single) ∷ []

  answers_told : (more : List Effect) → r.output ++ told_to c (answered_in (Some (Reply c (Some (r.single.done + 1)) Given.0)) Acks ++ more) ≡ Behind.output ++ told_to c more
  unfolding answered_in
  answers_told more = simp (same, append_assoc)

  answered_logged : m.rules ≡ releasing r.single u → (es : List Effect) → Finishes (answered_with c (r.single.done + 1) r kept Given) m Acks n t es → RepliesLogged c first stream (r.output ++ told_to c es) Behind.records
  answered_logged there es h =
      subst (λ (l : List ℕ). RepliesLogged c first stream l Behind.records) (sym (ap (λ (l : List Effect). r.output ++ told_to c l) h.effects ∙ answers_told h.more))
      (goes_further there h.more h.continues)

  pub acks_logged : m.rules ≡ releasing r.single u → (told : Told) → told.effects ≡ Acks → told.outcome ≡ Some (outcome_of r.single u) → (es : List Effect)
      → Acts (acked told.effects) (r.single.passed + 1) m (clients_of c (origin ∷ []) r (Some kept)) told n t es → RepliesLogged c first stream (r.output ++ told_to c es) (r.records ++ made r.single u ∷ [])
  acks_logged there told says came es acts =
      let s : Clients = clients_of c (origin ∷ []) r (Some kept) in
      let h = subst (λ (l : List (ℕ × ℕ)). Acts l (r.single.passed + 1) m s told n t es) (ap acked says) acts in
      let is : finished (origin ∷ []) (r.single.passed + 1) (r.single.done + 1) told.outcome s ≡ answered_with c (r.single.done + 1) r kept Given =
      ap (λ o. finished (origin ∷ []) (r.single.passed + 1) (r.single.done + 1) o s) came ∙ finishes c (r.single.passed + 1) (r.single.done + 1) origin (outcome_of r.single u) r kept own in
      answered_logged there es (subst (λ (l : List Effect). Finishes (answered_with c (r.single.done + 1) r kept Given) m l n t es) says (subst (λ (f : Finish). Finishes f m told.effects n t es) is h))

-- ---- any message

-- The request of the queue's head.
abbrev head_number : State → ℕ
head_number x = unwrap_or (updating.head_request x.core) 0

module _ (c : ℕ) (first : AloneRun) (stream : List ℕ) (given : List Item) (x y : RunningNode) (v w : DiskView) (es : List Effect) (told : Told) (m : MemberState) where
  -- What a message comes to, for a node on its way, whatever records are added.
  abbrev Answers : Way → AloneRun → Option Kept → Sent → Type 0
  Answers way r intake p =
      (held : ℕ) (answer : Answer) → let d : Logged registry_machine = receive (node_on way r.single) p held answer in
      d.out.node ≡ Some m.rules → d.out.effects ≡ told.effects → d.out.outcome ≡ told.outcome
      → Acts (acked told.effects) (head_number (node_on way r.single)) m (clients_of c (waiting_on way) r intake) told y.member y.clients es
      → RepliesLogged c first stream r.output (logged_on way r) → (more : List Entry) → RepliesLogged c first stream (r.output ++ told_to c es) (logged_on way r ++ more)

  silently : (way : Way) (r : AloneRun) (intake : Option Kept) (p : Sent) → ((held : ℕ) (answer : Answer) → IsSilent c (receive (node_on way r.single) p held answer).out) → Answers way r intake p
  silently way r intake p silent held answer node says came acts before more =
      more_logged c first stream r.output es (logged_on way r) more
      (acts_silent c (receive (node_on way r.single) p held answer).out (head_number (node_on way r.single)) m y.member (clients_of c (waiting_on way) r intake) y.clients told es (silent held answer) says acts) before

  acknowledged : (origin : Origin) (u : Update) (r : AloneRun) (kept : Kept) → FitsWay c (Granting origin u) r (Some kept) → GrownFrom first 1 r → update_alone origin u r ≡ alone c first given → IsKeptFrom kept stream given
      → Answers (Granting origin u) r (Some kept) (grant r.single u)
  acknowledged origin u r kept fits grown promised heard held answer node says came acts before more =
      let d = finishes_one r.single u held answer (sound_now first r 1 grown) in
      let there : Some (releasing r.single u) ≡ Some m.rules = sym (ap (λ (e : Logged registry_machine). e.out.node) d) ∙ node in
      let rules : m.rules ≡ releasing r.single u = cc in
      let tells_this : told.effects ≡ Acked r.single.view (r.single.done + 1) ∷ Send (release r.single) ∷ [] = sym says ∙ ap (λ (e : Logged registry_machine). e.out.effects) d in
      let outcome : told.outcome ≡ Some (outcome_of r.single u) = sym came ∙ ap (λ (e : Logged registry_machine). e.out.outcome) d in
      let on = acks_logged c first stream given origin u r kept fits.0 fits.1 fits.2 grown.items promised heard m y.member y.clients rules told tells_this outcome es acts in
      λ all fault items. let a = on all fault items in record {
        front = a.front;
        among = a.among;
        told = a.told;
        logged = (a.logged.0 ++ more, ap (λ (l : List Entry). l ++ more) a.logged.1 ∙ append_assoc (alone c first a.front).records a.logged.0 more);
      }

  answers_on : (way : Way) (r : AloneRun) (intake : Option Kept) (p : Sent) (left : List Sent) → FitsWay c way r intake → GrownFrom first (queued_on way) r → promised_on way r ≡ alone c first given → IsHeardOn way r intake stream given
      → left_on way r.single ≡ p ∷ left → Answers way r intake p
  answers_on (Calm None) r intake p left fits grown promised heard at = absurd (cc)
  answers_on (Calm (Some l)) r intake p left fits grown promised heard at =
      on_first (λ q rest. Answers (Calm (Some l)) r intake q) (release l.before) p [] left at
      (silently (Calm (Some l)) r intake (release l.before) (release_silent c (node_on (Calm (Some l)) r.single) l.before))
  answers_on (Asked (Some l) origin u) r intake p left fits grown promised heard at =
      on_first (λ q rest. Answers (Asked (Some l) origin u) r intake q) (release l.before) p (ask r.single u ∷ []) left at
      (silently (Asked (Some l) origin u) r intake (release l.before) (release_silent c (node_on (Asked (Some l) origin u) r.single) l.before))
  answers_on (Asked None origin u) r intake p left fits grown promised heard at =
      on_first (λ q rest. Answers (Asked None origin u) r intake q) (ask r.single u) p [] left at
      (silently (Asked None origin u) r intake (ask r.single u) (ask_silent c (node_on (Asked None origin u) r.single) r.single u))
  answers_on (Granting origin u) r None p left fits grown promised heard at = absurd fits.3
  answers_on (Granting origin u) r (Some kept) p left fits grown promised heard at =
      on_first (λ q rest. Answers (Granting origin u) r (Some kept) q) (grant r.single u) p [] left at (acknowledged origin u r kept fits grown promised heard)
  answers_on (Stuck head others origins) r intake p left fits grown promised heard at = absurd (cc)

module _ (c : ℕ) (first : AloneRun) (stream : List ℕ) (p : Sent) (left : List Sent) (x : RunningNode) (v : DiskView) (y : RunningNode) (w : DiskView) (es : List Effect) (output : List ℕ) (records more : List Entry)
    (h : StandsAt c first stream (alone_node x (p ∷ left)) output records) (before : RepliesLogged c first stream output records) where
  heard_ok : (told : Told) (m : MemberState) → Receives v x.member p (Ok told) m w → Acts (acked told.effects) (head_request x) m x.clients told y.member y.clients es
      → RepliesLogged c first stream (output ++ told_to c es) (records ++ more)
  heard_ok told m e acts =
      let q : Phase = h.phase in
      let node : x.member.rules ≡ node_on q.way q.run.single = ap (λ (z : NodeAlone). z.node) h.is in
      let clients : x.clients ≡ clients_of c (waiting_on q.way) q.run q.intake = ap (λ (z : NodeAlone). z.clients) h.is in
      let at : left_on q.way q.run.single ≡ p ∷ left = sym (ap (λ (z : NodeAlone). z.left) h.is) in
      let held : ℕ = v.current.held in
      let answer : Answer = answer_to e.added in
      let on = answers_on c first stream h.given x y v w es told m q.way q.run q.intake p left h.fits h.grown h.promised h.heard at held answer
      (subst (λ (n : State). (receive n p held answer).out.node ≡ Some m.rules) node e.comes.node)
      (subst (λ (n : State). (receive n p held answer).out.effects ≡ told.effects) node e.comes.effects)
      (subst (λ (n : State). (receive n p held answer).out.outcome ≡ told.outcome) node e.comes.outcome)
      (subst (λ (n : State). Acts (acked told.effects) (head_number n) m (clients_of c (waiting_on q.way) q.run q.intake) told y.member y.clients es) node
      (subst (λ (s : Clients). Acts (acked told.effects) (head_request x) m s told y.member y.clients es) clients acts))
      (subst (λ (l : List ℕ). RepliesLogged c first stream l (logged_on q.way q.run)) h.told (subst (λ (l : List Entry). RepliesLogged c first stream output l) h.logged before)) more in
      subst (λ (l : List ℕ). RepliesLogged c first stream (l ++ told_to c es) (records ++ more)) (sym h.told)
      (subst (λ (l : List Entry). RepliesLogged c first stream (q.run.output ++ told_to c es) (l ++ more)) (sym h.logged) on)

  heard_as : (came : Result Told Stop) (m : MemberState) → Receives v x.member p came m w → Follows came (head_request x) m x.clients (Some y) es → RepliesLogged c first stream (output ++ told_to c es) (records ++ more)
  heard_as (Ok told) m e follows = heard_ok told m e follows
  heard_as (Err (stop.Halted cause)) m e follows = absurd follows
  heard_as (Err stop.Memory) m e follows = absurd follows

  pub message_logged : NodeReceives {E = AllocError} v (Some x) p (Ok es) (Some y) w → RepliesLogged c first stream (output ++ told_to c es) (records ++ more)
  message_logged receives = heard_as receives.came receives.member receives.event receives.follows
