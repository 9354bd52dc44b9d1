-- What a connection took leaves the node where Alone says.
use Rattle.std.proofs.Common.{◌≡◌, inl, inr, ℕ, ◌+◌, ◌≤◌, ◌<◌, true, List, [], ◌∷◌, ◌++◌, Option, Some, None, refl, sym, ap, ◌∙◌, arith}
use Rattle.std.proofs.lemmas.List.{append-nil, length-append}
use Rattle.std.proofs.lemmas.List.Sums.{fold-append}
use Rattle.std.specs.List.{list_any}
use Rattle.update_records.specs.declared.update.Update.{Update}
use Rattle.rpc_calls.specs.declared.intake_fault.IntakeFault.{IntakeFault}
use Rattle.rpc_calls.specs.declared.item.Item.{Item}
use Rattle.rpc_calls.specs.declared.side.Side.TheVariants.{Server}
use Rattle.rpc_calls.specs.Intakes.{Kept}
use Rattle.rpc_calls.specs.Streams.{Items}
use Rattle.gum_messages.specs.Messages.{Sent}
use Rattle.gum_core.specs.Updating.{last_place, last_request}
use Rattle.cluster_rules.specs.declared.effect.Effect.{Effect}
use Rattle.cluster_rules.specs.Nodes.{NodeState, Out, becomes}
use Rattle.cluster_rules.specs.Worlds.{sent}
use Rattle.registry_machine.specs.Machine.{registry_machine}
use Rattle.client_connections.specs.declared.origin.Origin.{Origin}
use Rattle.client_connections.specs.Clients.{Clients, waits_at}
use Rattle.client_connections.specs.Items.{most_taken}
use Rattle.client_connections.specs.Taking.{GoesOn}
use Rattle.single_rules.proofs.Comparisons.{not_less}
use Rattle.single_rules.specs.Single.{Single}
use Rattle.single_items.specs.Alone.{AloneRun, alone, item_alone, update_alone}
use Rattle.single_items.specs.Events.{IsServedBy, submitted_if, told_to}
use Rattle.single_items.specs.Standing.{Asked, Calm, FitsWay, GrownFrom, IsAllTaken, IsCallOf, IsHeardOn, IsKeptFrom, Granting, NodeAlone, StandsAt, Stuck, Way, clients_of, left_on, logged_on, node_on, promised_on, queued_on, waiting_on}
use Rattle.single_items.proofs.Serving.{Went, WentAway, WentCalmly, WentQueueing, client_of, goes_alone}
use Rattle.single_items.proofs.Submitting.{IsIdle, asks_on, pushed, submits_on}
use Rattle.single_items.proofs.Taking.{Reached, any_last, serving_with, waits_for_it}
use Rattle.single_items.proofs.Telling.{sent_both, told_both}

pub some_is : {A : Type 0} (a b : A) → Some a ≡ Some b → a ≡ b
some_is a b e = cc

abbrev pub stand : NodeState registry_machine → Clients → List Sent → NodeAlone
stand node clients left = record { node = node; clients = clients; left = left }

pub stand_is : (x y : NodeState registry_machine) (s t : Clients) (ps qs : List Sent) → x ≡ y → s ≡ t → ps ≡ qs → stand x s ps ≡ stand y t qs
stand_is x y s t ps qs a b d = λ i. record { node = a i; clients = b i; left = d i }

-- The items of two lists, one behind the other.
pub alone_both : (c : ℕ) (first : AloneRun) (is js : List Item) → alone c (alone c first is) js ≡ alone c first (is ++ js)
alone_both c first is js = sym (fold-append (item_alone c) first is js)

-- ---- the run behind items without an update

module _ (c : ℕ) (first : AloneRun) (stream : List ℕ) (given : List Item) (way : Way) (idle : IsIdle way) (r : AloneRun) (before : Kept) where
  pub record Ready : Type 0 where
    pub waits : r.waits ≡ list_any (waits_at c) (waiting_on way)
    pub behind : (intake : Option Kept) (x : AloneRun) → x.single ≡ r.single → x.waits ≡ r.waits → FitsWay c way x intake
    pub grown : GrownFrom first (queued_on way) r
    pub run : r ≡ alone c first given
    pub holds : IsKeptFrom before stream given

  grown_on : Ready → (x : AloneRun) → x.single ≡ r.single → x.records ≡ r.records → r.taken ≤ x.taken → x.taken ≤ most_taken → GrownFrom first (queued_on way) x
  grown_on h x single records further few =
      let g = h.grown in
      let p : x.single.passed ≡ r.single.passed = ap (λ (a : Single registry_machine). a.passed) single in
      record { sound = g.sound; updates = g.updates; single = single ∙ g.single; records = records ∙ g.records; requests = let q = g.requests in omega arith; items = few }

  promised_calm : (w : Way) (x : AloneRun) → IsIdle w → promised_on w x ≡ x
  promised_calm (Calm lately) x i = refl
  promised_calm (Asked lately origin u) x i = absurd i
  promised_calm (Granting origin u) x i = absurd i
  promised_calm (Stuck head others origins) x i = refl

  logged_calm : (w : Way) (x : AloneRun) → IsIdle w → logged_on w x ≡ x.records
  logged_calm (Calm lately) x i = refl
  logged_calm (Asked lately origin u) x i = absurd i
  logged_calm (Granting origin u) x i = absurd i
  logged_calm (Stuck head others origins) x i = refl

  heard_calm : (w : Way) (x : AloneRun) (intake : Kept) (all : List Item) → IsIdle w → IsKeptFrom intake stream all × IsAllTaken stream all x → IsHeardOn w x (Some intake) stream all
  heard_calm (Calm lately) x intake all i h = h
  heard_calm (Asked lately origin u) x intake all i h = absurd i
  heard_calm (Granting origin u) x intake all i h = absurd i
  heard_calm (Stuck head others origins) x intake all i h = h

  heard_away : (w : Way) (x : AloneRun) (all : List Item) (fault : IntakeFault) → Items Server stream all (Some fault) → IsHeardOn w x None stream all
  heard_away (Calm lately) x all fault h = inr (fault, h)
  heard_away (Asked lately origin u) x all fault h = inr (fault, h)
  heard_away (Granting origin u) x all fault h = inr (fault, h)
  heard_away (Stuck head others origins) x all fault h = inr (fault, h)

  module _ (ready : Ready) (y : NodeState registry_machine) (t : Clients) (es told : List Effect) where
    abbrev Stood : Type 0
    Stood = StandsAt c first stream (stand y t (left_on way r.single ++ sent es)) (r.output ++ told_to c es) r.records

    calm_out : (x : AloneRun) → Reached c r.output r x told → es ≡ told ++ [] → r.output ++ told_to c es ≡ x.output
    calm_out x took e = ap (λ (l : List Effect). r.output ++ told_to c l) (e ∙ append-nil told) ∙ sym took.output

    calm_left : (x : AloneRun) → Reached c r.output r x told → es ≡ told ++ [] → left_on way r.single ++ sent es ≡ left_on way x.single
    calm_left x took e =
        ap (λ (l : List Sent). left_on way r.single ++ l) (ap sent (e ∙ append-nil told) ∙ took.silent)
        ∙ append-nil (left_on way r.single) ∙ ap (left_on way) (sym took.single)

    calm_node : (x : AloneRun) → x.single ≡ r.single → Some (node_on way r.single) ≡ Some y → y ≡ node_on way x.single
    calm_node x single e = sym (some_is (node_on way r.single) y e) ∙ ap (node_on way) (sym single)

    stays_calm : WentCalmly c (waiting_on way) r before t told None → Some (node_on way r.single) ≡ Some y → es ≡ told ++ [] → Stood
    stays_calm g node effects =
        let x : AloneRun = alone c r g.items in
        let h = g.carries stream given ready.holds in
        record {
          phase = record { run = x; way = way; intake = Some g.intake };
          given = given ++ g.items;
          is = stand_is y (node_on way x.single) t (clients_of c (waiting_on way) x (Some g.intake)) (left_on way r.single ++ sent es) (left_on way x.single)
              (calm_node x g.took.single node) g.clients (calm_left x g.took effects);
          fits = ready.behind (Some g.intake) x g.took.single g.took.waits;
          grown = grown_on ready x g.took.single g.took.records g.further g.few;
          promised = promised_calm way x idle ∙ ap (λ (s : AloneRun). alone c s g.items) ready.run ∙ alone_both c first given g.items;
          heard = heard_calm way x g.intake (given ++ g.items) idle h;
          told = calm_out x g.took effects;
          logged = sym g.took.records ∙ sym (logged_calm way x idle);
        }

    goes_away : WentAway c (waiting_on way) r before t told None → Some (node_on way r.single) ≡ Some y → es ≡ told ++ [] → Stood
    goes_away g node effects =
        let x : AloneRun = alone c r g.items in
        record {
          phase = record { run = x; way = way; intake = None };
          given = given ++ g.items;
          is = stand_is y (node_on way x.single) t (clients_of c (waiting_on way) x None) (left_on way r.single ++ sent es) (left_on way x.single)
              (calm_node x g.took.single node) g.clients (calm_left x g.took effects);
          fits = ready.behind None x g.took.single g.took.waits;
          grown = grown_on ready x g.took.single g.took.records g.further g.few;
          promised = promised_calm way x idle ∙ ap (λ (s : AloneRun). alone c s g.items) ready.run ∙ alone_both c first given g.items;
          heard = heard_away way x (given ++ g.items) g.fault (g.ends stream given ready.holds);
          told = calm_out x g.took effects;
          logged = sym g.took.records ∙ sym (logged_calm way x idle);
        }

-- ---- the run behind an update

-- Where the log is full the update waits.
abbrev run_on : Way → AloneRun → AloneRun
run_on (Stuck head others origins) r = record r { waits = true }
run_on way r = r

clients_on : (c : ℕ) (way : Way) (origin : Origin) (u : Update) (r : AloneRun) (intake : Kept) → IsIdle way
    → clients_of c (waiting_on way ++ origin ∷ []) r (Some intake) ≡ clients_of c (waiting_on (pushed way origin u)) (run_on way r) (Some intake)
clients_on c (Calm lately) origin u r intake idle = refl
clients_on c (Asked lately o v) origin u r intake idle = absurd idle
clients_on c (Granting o v) origin u r intake idle = absurd idle
clients_on c (Stuck head others origins) origin u r intake idle = refl

single_on : (way : Way) (r : AloneRun) → (run_on way r).single ≡ r.single
single_on (Calm lately) r = refl
single_on (Asked lately o v) r = refl
single_on (Granting o v) r = refl
single_on (Stuck head others origins) r = refl

output_on : (way : Way) (r : AloneRun) → (run_on way r).output ≡ r.output
output_on (Calm lately) r = refl
output_on (Asked lately o v) r = refl
output_on (Granting o v) r = refl
output_on (Stuck head others origins) r = refl

sent_on : (way : Way) (a : Single registry_machine) (origin : Origin) (u : Update) → IsIdle way → left_on way a ++ sent (asks_on way a u) ≡ left_on (pushed way origin u) a
sent_on (Calm lately) a origin u idle = refl
sent_on (Asked lately o v) a origin u idle = absurd idle
sent_on (Granting o v) a origin u idle = absurd idle
sent_on (Stuck head others origins) a origin u idle = refl

tells_nothing : (c : ℕ) (way : Way) (a : Single registry_machine) (u : Update) → told_to c (asks_on way a u) ≡ []
tells_nothing c (Calm lately) a u = refl
tells_nothing c (Asked lately o v) a u = refl
tells_nothing c (Granting o v) a u = refl
tells_nothing c (Stuck head others origins) a u = refl

logged_push : (way : Way) (r : AloneRun) (origin : Origin) (u : Update) → IsIdle way → logged_on (pushed way origin u) (run_on way r) ≡ r.records
logged_push (Calm lately) r origin u idle = refl
logged_push (Asked lately o v) r origin u idle = absurd idle
logged_push (Granting o v) r origin u idle = absurd idle
logged_push (Stuck head others origins) r origin u idle = refl

fits_push : (c : ℕ) (way : Way) (r : AloneRun) (origin : Origin) (u : Update) (intake : Kept) → IsIdle way → FitsWay c way r None → r.waits ≡ list_any (waits_at c) (waiting_on way) → IsCallOf c origin
    → FitsWay c (pushed way origin u) (run_on way r) (Some intake)
fits_push c (Calm lately) r origin u intake idle fits waits own = (fits.0, fits.1, own, tt)
fits_push c (Asked lately o v) r origin u intake idle fits waits own = absurd idle
fits_push c (Granting o v) r origin u intake idle fits waits own = absurd idle
fits_push c (Stuck head others origins) r origin u intake idle fits waits own = (fits.0, sym (any_last (waits_at c) origins origin (waits_for_it c origin own)))

promised_push : (c : ℕ) (way : Way) (r : AloneRun) (origin : Origin) (u : Update) → IsIdle way → FitsWay c way r None → promised_on (pushed way origin u) (run_on way r) ≡ update_alone origin u r
promised_push c (Calm lately) r origin u idle fits = refl
promised_push c (Asked lately o v) r origin u idle fits = absurd idle
promised_push c (Granting o v) r origin u idle fits = absurd idle
promised_push c (Stuck head others origins) r origin u idle fits = let p = not_less r.single.done last_place fits.0 in simp p

heard_push : (way : Way) (r : AloneRun) (origin : Origin) (u : Update) (intake : Kept) (stream : List ℕ) (all : List Item) → IsIdle way → IsKeptFrom intake stream all
    → IsHeardOn (pushed way origin u) (run_on way r) (Some intake) stream all
heard_push (Calm lately) r origin u intake stream all idle h = h
heard_push (Asked lately o v) r origin u intake stream all idle h = absurd idle
heard_push (Granting o v) r origin u intake stream all idle h = absurd idle
heard_push (Stuck head others origins) r origin u intake stream all idle h = (h, inr refl)

module _ (c : ℕ) (first : AloneRun) (stream : List ℕ) (given : List Item) (way : Way) (idle : IsIdle way) (r : AloneRun) (before : Kept) (ready : Ready c first stream given way idle r before)
    (y : NodeState registry_machine) (t : Clients) (es told : List Effect) where
  queued_one : (w : Way) (origin : Origin) (u : Update) → IsIdle w → queued_on (pushed w origin u) ≡ queued_on w + 1
  queued_one (Calm lately) origin u i = refl
  queued_one (Asked lately o v) origin u i = absurd i
  queued_one (Granting o v) origin u i = absurd i
  queued_one (Stuck head others origins) origin u i = let l = length-append others (u ∷ []) in omega (arith, l)

  module _ (u : Update) (g : WentQueueing c (waiting_on way) r before t told (Some u)) where
    abbrev Next : AloneRun
    Next = run_on way g.run

    abbrev Beyond : Way
    Beyond = pushed way g.origin u

    grown_next : GrownFrom first (queued_on Beyond) Next
    grown_next =
        let old = ready.grown in
        let p : g.run.single.passed ≡ r.single.passed = ap (λ (a : Single registry_machine). a.passed) g.took.single in
        let q = queued_one way g.origin u idle in
        by_way way idle q (record {
          sound = old.sound;
          updates = old.updates;
          single = g.took.single ∙ old.single;
          records = g.took.records ∙ old.records;
          requests = let m = old.requests in let f = g.further in omega arith;
          items = g.few;
        })
      where
        by_way : (w : Way) → IsIdle w → queued_on (pushed w g.origin u) ≡ queued_on w + 1 → GrownFrom first (queued_on w + 1) g.run → GrownFrom first (queued_on (pushed w g.origin u)) (run_on w g.run)
        by_way (Calm lately) i q k = k
        by_way (Asked lately o v) i q k = absurd i
        by_way (Granting o v) i q k = absurd i
        by_way (Stuck head others origins) i q k = record { sound = k.sound; updates = k.updates; single = k.single; records = k.records; requests = let m = k.requests in omega arith; items = k.items }

    room_next : r.single.passed + queued_on way < last_request
    room_next = let m = ready.grown.requests in let f = g.further in let n = g.few in omega arith

    goes_queueing : (submitted_if (Some u) (node_on way r.single)).node ≡ Some y → es ≡ told ++ (submitted_if (Some u) (node_on way r.single)).effects
        → StandsAt c first stream (stand y t (left_on way r.single ++ sent es)) (r.output ++ told_to c es) r.records
    goes_queueing node effects =
        let asked : u ≡ g.asked = some_is u g.asked g.update in
        let b : submitted_if (Some u) (node_on way r.single) ≡ becomes (node_on Beyond r.single) (asks_on way r.single u) = submits_on way r.single g.origin u idle room_next in
        let says : es ≡ told ++ asks_on way r.single u = effects ∙ ap (λ (o : Out registry_machine). told ++ o.effects) b in
        let here : Some (node_on Beyond r.single) ≡ Some y = sym (ap (λ (o : Out registry_machine). o.node) b) ∙ node in
        let same : Next.single ≡ r.single = single_on way g.run ∙ g.took.single in
        let all : List Item = given ++ g.items in
        let waits : g.run.waits ≡ list_any (waits_at c) (waiting_on way) = g.took.waits ∙ ready.waits in
        record {
          phase = record { run = Next; way = Beyond; intake = Some g.intake };
          given = all;
          is = stand_is y (node_on Beyond Next.single) t (clients_of c (waiting_on Beyond) Next (Some g.intake)) (left_on way r.single ++ sent es) (left_on Beyond Next.single)
              (sym (some_is (node_on Beyond r.single) y here) ∙ ap (node_on Beyond) (sym same))
              (g.clients ∙ clients_on c way g.origin u g.run g.intake idle)
              (ap (λ (l : List Effect). left_on way r.single ++ sent l) says
              ∙ ap (λ (l : List Sent). left_on way r.single ++ l) (sent_both told (asks_on way r.single u) ∙ ap (λ (l : List Sent). l ++ sent (asks_on way r.single u)) g.took.silent)
              ∙ sent_on way r.single g.origin u idle ∙ ap (left_on Beyond) (sym same));
          fits = fits_push c way g.run g.origin u g.intake idle (ready.behind None g.run g.took.single g.took.waits) waits g.own;
          grown = grown_next;
          promised = promised_push c way g.run g.origin u idle (ready.behind None g.run g.took.single g.took.waits)
              ∙ ap (λ (v : Update). update_alone g.origin v g.run) asked ∙ sym g.promised
              ∙ ap (λ (s : AloneRun). alone c s g.items) ready.run ∙ alone_both c first given g.items;
          heard = heard_push way g.run g.origin u g.intake stream all idle (g.carries stream given ready.holds).0;
          told = ap (λ (l : List Effect). r.output ++ told_to c l) says
              ∙ ap (λ (l : List ℕ). r.output ++ l) (told_both c told (asks_on way r.single u) ∙ ap (λ (l : List ℕ). told_to c told ++ l) (tells_nothing c way r.single u) ∙ append-nil (told_to c told))
              ∙ sym g.took.output ∙ sym (output_on way g.run);
          logged = sym g.took.records ∙ sym (logged_push way g.run g.origin u idle);
        }

-- ---- all together

module _ (c : ℕ) (first : AloneRun) (stream : List ℕ) (given : List Item) (way : Way) (idle : IsIdle way) (r : AloneRun) (before : Kept) (ready : Ready c first stream given way idle r before)
    (y : NodeState registry_machine) (t : Clients) (es told : List Effect) where
  goes : (queued : Option Update) → Went c (waiting_on way) r before t told queued → (submitted_if queued (node_on way r.single)).node ≡ Some y → es ≡ told ++ (submitted_if queued (node_on way r.single)).effects
      → StandsAt c first stream (stand y t (left_on way r.single ++ sent es)) (r.output ++ told_to c es) r.records
  goes None (inl g) node effects = stays_calm c first stream given way idle r before ready y t es told g node effects
  goes None (inr (inl g)) node effects = goes_away c first stream given way idle r before ready y t es told g node effects
  goes None (inr (inr g)) node effects = let e : ◌≡◌ {A = Option Update} None (Some g.asked) = g.update in absurd (cc)
  goes (Some u) (inl g) node effects = let e : ◌≡◌ {A = Option Update} (Some u) None = g.update in absurd (cc)
  goes (Some u) (inr (inl g)) node effects = let e : ◌≡◌ {A = Option Update} (Some u) None = g.update in absurd (cc)
  goes (Some u) (inr (inr g)) node effects = goes_queueing c first stream given way idle r before ready y t es told u g node effects

pub served : (c : ℕ) (first : AloneRun) (stream : List ℕ) (given : List Item) (way : Way) (idle : IsIdle way) (r : AloneRun) (before kept : Kept) → Ready c first stream given way idle r before
    → (y : NodeState registry_machine) (t : Clients) (es : List Effect)
    → IsServedBy (GoesOn (serving_with r) c (client_of before r) (clients_of c (waiting_on way) r (Some kept))) (node_on way r.single) y t es
    → StandsAt c first stream (stand y t (left_on way r.single ++ sent es)) (r.output ++ told_to c es) r.records
served c first stream given way idle r before kept ready y t es h =
    goes c first stream given way idle r before ready y t es h.told h.update
    (goes_alone c (waiting_on way) r before kept t h.told h.update ready.waits ready.grown.items h.took) h.node h.effects
