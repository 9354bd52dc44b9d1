-- No connection is open behind an event that wasn't before, but for one that begins.
use Rattle.std.proofs.Common.{◌≡◌, ◌≢◌, ℕ, Bool, true, false, Ordering, Less, Equal, Greater, cond, List, [], ◌∷◌, length, Option, Some, None, Result, Ok, Err, nat_lt, if◌then◌else◌, refl, sym, ap, ◌∙◌, subst, arith}
use Rattle.std.specs.Prelude.{option_map}
use Rattle.std.specs.Bool.{Decides}
use Rattle.std.specs.BTreeMap.{insert_entry, is_at}
use Rattle.std.specs.Map.{lookup, remove_entry, set_value}
use Rattle.std.specs.Ordering.{match_ordering, nat_cmp}
use Rattle.std.specs.declared.alloc.AllocError.{AllocError}
use Rattle.std.proofs.lemmas.Bool.Decides.{nat_tests}
use Rattle.disk_core.specs.Views.{DiskView}
use Rattle.ndr_values.specs.declared.handle.WireHandle.{WireHandle}
use Rattle.context_handles.specs.Table.{Table}
use Rattle.update_records.specs.declared.update.Update.{Update}
use Rattle.registry_defs.specs.declared.outcome.Outcome.{Outcome}
use Rattle.rpc_assoc.specs.State.{State, group_of}
use Rattle.rpc_calls.specs.Intakes.{Kept}
use Rattle.cluster_rules.specs.declared.effect.CloseCause.{CloseCause}
use Rattle.cluster_rules.specs.declared.effect.Effect.{Effect}
use Rattle.cluster_rules.specs.Worlds.{acked}
use Rattle.gum_messages.specs.declared.view.View.{View}
use Rattle.gum_messages.specs.Messages.{Sent}
use Rattle.cluster_member.specs.declared.stop.Stop.{Stop}
use Rattle.cluster_member.specs.declared.stop.Stop.TheVariants as stop
use Rattle.cluster_member.specs.States.{MemberState}
use Rattle.member_rules.specs.declared.told.Told.{Told}
use Rattle.client_connections.specs.declared.origin.Origin.{Origin}
use Rattle.client_connections.specs.declared.origin.Origin.TheVariants.{Batch, Call}
use Rattle.client_connections.specs.declared.took.Ending.{Ending}
use Rattle.client_connections.specs.declared.took.Ending.TheVariants.{Fails, Rests, Waits}
use Rattle.client_connections.specs.Clients.{Client, Clients, client_at, connected, fresh_client, hung_up, left_by, most_clients, with_new}
use Rattle.client_connections.specs.Finishing.{Finish, batched, call_finished, finished, finished_for, may_batch, not_applied, opened_in, opened_on, queued, refused_batch, replied, without_first}
use Rattle.client_connections.specs.Taking.{Course, GoesOn, Hears, HearsBy, Resumes, Serving, Tells, fed_client, goes_on, refusal}
use Rattle.std.specs.Prelude.{unwrap_or}
use Rattle.cluster_node.specs.Acting.{Acts, ContinuesAt, Finishes, Follows, serving_of}
use Rattle.cluster_node.specs.Events.{Batches, Connects, HangsUp, HearsBytes, Leads, NodeChecks, NodeInstalls, NodeReceives, Ticks}
use Rattle.cluster_node.specs.Numbers.{BatchUsesNoMore, BytesUseNoMore, CheckpointUsesNoMore, ClockUsesNoMore, ConnectUsesOne, HangUpUsesNoMore, InstallUsesNoMore, ReceiveUsesNoMore, StartUsesNone, StoppedUsesNone, TickUsesNoMore}
use Rattle.cluster_node.specs.States.{NodeValue, RunningNode, runs, with_stamp}

abbrev Conns : Type 0
Conns = List (ℕ × Client)

-- ---- lists of entries

set_at : (test : ℕ → Bool) (e : ℕ × Client) (es others : Conns) (w : Client) (here put : Bool) → test e.0 ≡ here
    → (lookup test es ≡ None → lookup test others ≡ None)
    → cond here (Some e.1) (lookup test es) ≡ None → lookup test (cond put ((e.0, w) ∷ es) (e ∷ others)) ≡ None
set_at test e es others w true put here behind none = absurd (cc)
set_at test e es others w false true here behind none = rw here none
set_at test e es others w false false here behind none = rw here (behind none)

none_set : (test put : ℕ → Bool) (es : Conns) (w : Client) → lookup test es ≡ None → lookup test (set_value put es w) ≡ None
none_set test put [] w none = refl
none_set test put (e ∷ es) w none = set_at test e es (set_value put es w) w (test e.0) (put e.0) refl (none_set test put es w) none

removed_at : (test : ℕ → Bool) (e : ℕ × Client) (es others : Conns) (here gone : Bool) → test e.0 ≡ here → (lookup test es ≡ None → lookup test others ≡ None)
    → cond here (Some e.1) (lookup test es) ≡ None → lookup test (cond gone es (e ∷ others)) ≡ None
removed_at test e es others true gone here behind none = absurd (cc)
removed_at test e es others false true here behind none = none
removed_at test e es others false false here behind none = rw here (behind none)

none_removed : (test gone : ℕ → Bool) (es : Conns) → lookup test es ≡ None → lookup test (remove_entry gone es) ≡ None
none_removed test gone [] none = refl
none_removed test gone (e ∷ es) none = removed_at test e es (remove_entry gone es) (test e.0) (gone e.0) refl (none_removed test gone es) none

inserted_at : (test : ℕ → Bool) (e : ℕ × Client) (es others : Conns) (k : ℕ) (w : Client) (here : Bool) (order : Ordering) → test e.0 ≡ here → test k ≡ false
    → (lookup test es ≡ None → lookup test others ≡ None) → cond here (Some e.1) (lookup test es) ≡ None
    → lookup test (match_ordering order ((k, w) ∷ e ∷ es) ((e.0, w) ∷ es) (e ∷ others)) ≡ None
inserted_at test e es others k w true order here other behind none = absurd (cc)
inserted_at test e es others k w false Less here other behind none = rw (other, here) none
inserted_at test e es others k w false Equal here other behind none = rw here none
inserted_at test e es others k w false Greater here other behind none = rw here (behind none)

none_inserted : (test : ℕ → Bool) (cmp : ℕ → ℕ → Ordering) (es : Conns) (k : ℕ) (w : Client) → test k ≡ false → lookup test es ≡ None
    → lookup test (insert_entry cmp es k w) ≡ None
none_inserted test cmp [] k w other none = rw other refl
none_inserted test cmp (e ∷ es) k w other none =
    inserted_at test e es (insert_entry cmp es k w) k w (test e.0) (cmp k e.0) refl other (none_inserted test cmp es k w other) none

is_number : (x y : ℕ) → Decides (is_at (nat_cmp x) y) (x ≡ y)
is_number x y = grind (arith, nat_tests)

is_other : (x y : ℕ) → x ≢ y → is_at (nat_cmp x) y ≡ false
is_other x y differs = by_test (is_at (nat_cmp x) y) refl
  where
    by_test : (test : Bool) → is_at (nat_cmp x) y ≡ test → is_at (nat_cmp x) y ≡ false
    by_test true is = absurd (differs ((is_number x y).0 is))
    by_test false is = is

-- ---- the connections of a node

NoMore : Clients → Clients → Type 0
NoMore s t = (conn : ℕ) → client_at conn s ≡ None → client_at conn t ≡ None

same_conns : (s t : Clients) → t.conns ≡ s.conns → NoMore s t
unfolding NoMore
same_conns s t same conn none = ap (λ (conns : Conns). lookup (is_at (nat_cmp conn)) conns) same ∙ none

same_clients : (s t : Clients) → t ≡ s → NoMore s t
same_clients s t same = same_conns s t (ap (λ (u : Clients). u.conns) same)

then_more : (s m t : Clients) → NoMore s m → NoMore m t → NoMore s t
unfolding NoMore
then_more s m t first second conn none = second conn (first conn none)

then_same : (s m t : Clients) → t ≡ m → NoMore s m → NoMore s t
then_same s m t same first = then_more s m t first (same_clients m t same)

leaves : (c : ℕ) (k : Client) (s : Clients) → NoMore s (left_by c k s)
unfolding NoMore
leaves c k s conn none = none_removed (is_at (nat_cmp conn)) (is_at (nat_cmp c)) s.conns none

goes_by : (c : ℕ) (intake : Kept) (q : Course) (ending : Ending) (s : Clients) → NoMore s (goes_on c intake q ending s)
unfolding NoMore
goes_by c intake q Waits s conn none = none_set (is_at (nat_cmp conn)) (is_at (nat_cmp c)) s.conns _ none
goes_by c intake q Rests s conn none = none_set (is_at (nat_cmp conn)) (is_at (nat_cmp c)) s.conns _ none
goes_by c intake q (Fails fault) s conn none =
    none_removed (is_at (nat_cmp conn)) (is_at (nat_cmp c)) _ (none_set (is_at (nat_cmp conn)) (is_at (nat_cmp c)) s.conns _ none)

goes : (v : Serving) (c : ℕ) (k : Client) (s t : Clients) (told : List Effect) (update : Option Update) → GoesOn v c k s t told update → NoMore s t
goes v c k s t told update on = then_same s (goes_on c on.intake on.course on.ending s) t on.clients (goes_by c on.intake on.course on.ending s)

resumes_more : (v : Serving) (c : ℕ) (client : Option Client) (s t : Clients) (told : List Effect) (update : Option Update)
    → Resumes v c client s t told update → NoMore s t
resumes_more v c None s t told update tells = same_clients s t tells.clients
resumes_more v c (Some k) s t told update on = goes v c k s t told update on

heard_by : (refused : Option CloseCause) (v : Serving) (c : ℕ) (piece : List ℕ) (k : Client) (s t : Clients) (told : List Effect) (update : Option Update)
    → HearsBy refused v c piece k s t told update → NoMore s t
heard_by (Some cause) v c piece k s t told update tells = then_same s (left_by c k s) t tells.clients (leaves c k s)
heard_by None v c piece k s t told update on = goes v c (fed_client k piece) s t told update on

hears_more : (v : Serving) (c : ℕ) (piece : List ℕ) (client : Option Client) (s t : Clients) (told : List Effect) (update : Option Update)
    → Hears v c piece client s t told update → NoMore s t
hears_more v c piece None s t told update tells = same_clients s t tells.clients
hears_more v c piece (Some k) s t told update hears = heard_by (refusal k.intake piece) v c piece k s t told update hears

-- ---- the head is acknowledged

replied_conns : (conn call_id context opnum place : ℕ) (outcome : Outcome) (association : State) (opened : Option WireHandle × Table) (s : Clients)
    → (replied conn call_id context opnum outcome place association opened s).clients.conns ≡ s.conns
replied_conns conn call_id context opnum place outcome association (handle, table) s = refl

call_conns : (conn call_id context opnum : ℕ) (target : Option (List (List ℕ))) (place : ℕ) (outcome : Outcome) (client : Option Client) (s : Clients)
    → (call_finished conn call_id context opnum target place outcome client s).clients.conns ≡ s.conns
call_conns conn call_id context opnum target place outcome None s = refl
call_conns conn call_id context opnum target place outcome (Some k) s =
    replied_conns conn call_id context opnum place outcome k.association (opened_in (group_of k.association) (opened_on target outcome) s.common.table) s

finish_conns : (origin : Origin) (req place : ℕ) (outcome : Outcome) (s : Clients) → (finished_for origin req place outcome s).clients.conns ≡ s.conns
finish_conns Batch req place outcome s = refl
finish_conns (Call conn call_id context opnum target) req place outcome s = call_conns conn call_id context opnum target place outcome (client_at conn s) s

finished_conns : (waiting : List Origin) (req place : ℕ) (outcome : Option Outcome) (s : Clients)
    → (finished waiting req place outcome s).clients.conns ≡ s.conns
finished_conns [] req place outcome s = refl
finished_conns (origin ∷ others) req place outcome s = finish_conns origin req place (unwrap_or outcome not_applied) (without_first s others)

continues_more : (resumes : Option ℕ) (m n : MemberState) (s t : Clients) (all : List Effect) → ContinuesAt resumes m s n t all → NoMore s t
continues_more None m n s t all (same, clients, none) = same_clients s t clients
continues_more (Some conn) m n s t all continues = resumes_more (serving_of m) conn (client_at conn s) s t continues.told continues.queued continues.resumes

acts_more : (acks : List (ℕ × ℕ)) (req : ℕ) (m n : MemberState) (s t : Clients) (told : Told) (all : List Effect) → Acts acks req m s told n t all
    → NoMore s t
acts_more [] req m n s t told all (same, clients, effects) = same_clients s t clients
acts_more (ack ∷ acks) req m n s t told all finishes =
    let end : Finish = finished s.common.waiting req ack.1 told.outcome s in
    then_more s end.clients t (same_conns s end.clients (finished_conns s.common.waiting req ack.1 told.outcome s))
    (continues_more end.resumes m n end.clients t finishes.more finishes.continues)

-- ---- an event of the member

abbrev client_of : ℕ → Option RunningNode → Option Client
client_of conn running = elim running [ None ↦ None | Some x ↦ client_at conn x.clients ]

none_of : (conn : ℕ) (running : Option RunningNode) → running ≡ None → client_of conn running ≡ None
none_of conn running stopped = ap (client_of conn) stopped

follows_more : (came : Result Told Stop) (req : ℕ) (m : MemberState) (s : Clients) (y : Option RunningNode) (all : List Effect) (conn : ℕ)
    → Follows came req m s y all
    → client_at conn s ≡ None → client_of conn y ≡ None
unfolding NoMore
follows_more (Ok told) req m s (Some y) all conn follows none = acts_more (acked told.effects) req m y.member s y.clients told all follows conn none
follows_more (Err (stop.Halted cause)) req m s (Some y) all conn follows none = absurd follows
follows_more (Err stop.Memory) req m s (Some y) all conn follows none = absurd follows
follows_more came req m s None all conn follows none = refl

leads_more : (Event : Result Told Stop → MemberState → Type 0) (x : RunningNode) (r : Result (List Effect) AllocError) (y : Option RunningNode) (conn : ℕ) → Leads Event x r y
    → client_at conn x.clients ≡ None → client_of conn y ≡ None
leads_more Event x (Ok effects) y conn leads none = follows_more leads.came _ leads.member x.clients y effects conn leads.follows none
leads_more Event x (Err fault) y conn leads none = none_of conn y leads.stops

installs_by : (running y : Option RunningNode) (v w : DiskView) (view : View) (r : Result (List Effect) AllocError) (conn : ℕ)
    → NodeInstalls v running view r y w
    → client_of conn running ≡ None → client_of conn y ≡ None
installs_by None y v w view r conn silent none = none_of conn y silent.stopped
installs_by (Some x) y v w view r conn leads none = leads_more _ x r y conn leads none

receives_by : (running y : Option RunningNode) (v w : DiskView) (p : Sent) (r : Result (List Effect) AllocError) (conn : ℕ) → NodeReceives v running p r y w
    → client_of conn running ≡ None → client_of conn y ≡ None
receives_by None y v w p r conn silent none = none_of conn y silent.stopped
receives_by (Some x) y v w p r conn leads none = leads_more _ x r y conn leads none

checks_by : (running y : Option RunningNode) (v w : DiskView) (r : Result (List Effect) AllocError) (conn : ℕ) → NodeChecks v running r y w
    → client_of conn running ≡ None → client_of conn y ≡ None
checks_by None y v w r conn silent none = none_of conn y silent.stopped
checks_by (Some x) y v w r conn leads none = leads_more _ x r y conn leads none

pub install_uses_no_more : InstallUsesNoMore
install_uses_no_more n m v w view r installs conn none = installs_by n.running m.running v w view r conn installs none

pub receive_uses_no_more : ReceiveUsesNoMore
receive_uses_no_more n m v w p r receives conn none = receives_by n.running m.running v w p r conn receives none

pub checkpoint_uses_no_more : CheckpointUsesNoMore
checkpoint_uses_no_more n m v w r checks conn none = checks_by n.running m.running v w r conn checks none

-- ---- the others

pub start_uses_none : StartUsesNone
start_uses_none number inc conn = refl

pub stopped_uses_none : StoppedUsesNone
stopped_uses_none n conn stopped = none_of conn n.running stopped

ticks_by : (running y : Option RunningNode) (effects : List Effect) (conn : ℕ) → Ticks running y effects → client_of conn running ≡ None
    → client_of conn y ≡ None
ticks_by running None effects conn ticks none = refl
ticks_by None (Some y) effects conn ticks none = absurd ticks
ticks_by (Some x) (Some y) effects conn (same, told) none = ap (λ (z : RunningNode). client_at conn z.clients) same ∙ none

pub tick_uses_no_more : TickUsesNoMore
tick_uses_no_more n m effects ticks conn none = ticks_by n.running m.running effects conn ticks none

clocked_by : (stamp : ℕ) (running : Option RunningNode) (conn : ℕ) → client_of conn running ≡ None
    → client_of conn (option_map (with_stamp stamp) running) ≡ None
clocked_by stamp None conn none = refl
clocked_by stamp (Some x) conn none = none

pub clock_uses_no_more : ClockUsesNoMore
clock_uses_no_more n stamp conn none = clocked_by stamp n.running conn none

-- The clients behind are those, at the same member.
runs_with : (conn : ℕ) (x y : RunningNode) (t : Clients) → y ≡ runs x.member t → NoMore x.clients t → client_at conn x.clients ≡ None
    → client_at conn y.clients ≡ None
unfolding NoMore
runs_with conn x y t same no_more none = ap (λ (z : RunningNode). client_at conn z.clients) same ∙ no_more conn none

hung_up_more : (c : ℕ) (client : Option Client) (s : Clients) → NoMore s (hung_up c client s).0
hung_up_more c None s = same_conns s s refl
hung_up_more c (Some k) s = leaves c k s

hangs_up_by : (c : ℕ) (running y : Option RunningNode) (effects : List Effect) (conn : ℕ) → HangsUp c running y effects → client_of conn running ≡ None
    → client_of conn y ≡ None
hangs_up_by c running None effects conn hangs none = refl
hangs_up_by c None (Some y) effects conn hangs none = absurd hangs
hangs_up_by c (Some x) (Some y) effects conn (same, told) none =
    let client : Option Client = client_at c x.clients in
    runs_with conn x y (hung_up c client x.clients).0 same (hung_up_more c client x.clients) none

pub hang_up_uses_no_more : HangUpUsesNoMore
hang_up_uses_no_more n m c effects hangs conn none = hangs_up_by c n.running m.running effects conn hangs none

hears_by : (c : ℕ) (piece : List ℕ) (running y : Option RunningNode) (effects : List Effect) (conn : ℕ) → HearsBytes c piece running y effects
    → client_of conn running ≡ None
    → client_of conn y ≡ None
unfolding NoMore
hears_by c piece running None effects conn hears none = refl
hears_by c piece None (Some y) effects conn hears none = absurd hears
hears_by c piece (Some x) (Some y) effects conn hears none =
    hears_more (serving_of x.member) c piece (client_at c x.clients) x.clients y.clients hears.told hears.queued hears.hears conn none

pub bytes_use_no_more : BytesUseNoMore
bytes_use_no_more n m c piece effects hears conn none = hears_by c piece n.running m.running effects conn hears none

batched_conns : (s : Clients) (may : Bool)
    → (let r : Clients × Option Effect = if may then (record s { common = queued Batch s.common }, None) else (s, refused_batch) in r.0.conns) ≡ s.conns
batched_conns s true = refl
batched_conns s false = refl

batches_by : (update : Update) (running y : Option RunningNode) (effects : List Effect) (conn : ℕ) → Batches update running y effects
    → client_of conn running ≡ None
    → client_of conn y ≡ None
unfolding NoMore
batches_by update running None effects conn batch none = refl
batches_by update None (Some y) effects conn batch none = absurd batch
batches_by update (Some x) (Some y) effects conn batch none =
    let is_open : Bool = x.member.rules.core.is_open in
    let t : Clients = (batched is_open x.clients).0 in
    let same : t.conns ≡ x.clients.conns = batched_conns x.clients (may_batch is_open x.clients.common) in
    same_conns x.clients y.clients (ap (λ (u : Clients). u.conns) batch.clients ∙ same) conn none

pub batch_uses_no_more : BatchUsesNoMore
batch_uses_no_more n m update effects batch conn none = batches_by update n.running m.running effects conn batch none

connected_by : (c other : ℕ) (s : Clients) (effect : Option Effect) (may : Bool) → other ≢ c → client_at other s ≡ None
    → client_at other (let r : Clients × Option Effect = if may then (with_new c s, None) else (s, effect) in r.0) ≡ None
connected_by c other s effect true differs none = none_inserted (is_at (nat_cmp other)) nat_cmp s.conns c fresh_client (is_other other c differs) none
connected_by c other s effect false differs none = none

connects_by : (c other : ℕ) (running y : Option RunningNode) (effects : List Effect) → Connects c running y effects → other ≢ c
    → client_of other running ≡ None → client_of other y ≡ None
connects_by c other running None effects connects differs none = refl
connects_by c other None (Some y) effects connects differs none = absurd connects
connects_by c other (Some x) (Some y) effects (same, told) differs none =
    ap (λ (z : RunningNode). client_at other z.clients) same ∙ connected_by c other x.clients _ (nat_lt (length x.clients.conns) most_clients) differs none

pub connect_uses_one : ConnectUsesOne
connect_uses_one n m c other effects connects differs none = connects_by c other n.running m.running effects connects differs none
