-- The log that a node writes keeps its cap, and the disk its size.
use Rattle.std.proofs.Common.{◌≡◌, ℕ, ◌≤◌, Bool, true, false, ◌&&◌, MatchBool, List, [], ◌∷◌, length, Option, Some, None, Result, Ok, Err, IfSome, OnOk, refl, sym, ap, ◌∙◌, subst}
use Rattle.std.specs.Prelude.{option_map}
use Rattle.std.specs.declared.alloc.AllocError.{AllocError}
use Rattle.disk_core.specs.Calls.{SameDisk}
use Rattle.disk_core.specs.Views.{DiskView}
use Rattle.update_records.specs.declared.update.Update.{Update}
use Rattle.update_records.specs.Entry.{Entry, record_text}
use Rattle.gum_messages.specs.declared.view.View.{View}
use Rattle.gum_messages.specs.Members.{is_locker}
use Rattle.gum_messages.specs.Messages.{Sent}
use Rattle.gum_core.specs.Updating as updating
use Rattle.quorum_log.specs.Layout.{image_size}
use Rattle.quorum_log.specs.Logs.{LogValue}
use Rattle.cluster_rules.specs.declared.effect.Effect.{Effect}
use Rattle.cluster_rules.specs.Joins.{entered, takes_view}
use Rattle.cluster_rules.specs.Nodes.{nothing}
use Rattle.cluster_rules.specs.Worlds.{acked}
use Rattle.single_rules.specs.Logging.{to_log}
use Rattle.record_log.specs.declared.recovered.Recovered.{Recovered}
use Rattle.record_log.specs.declared.fault.RecordFault.{RecordFault}
use Rattle.record_log.specs.declared.fault.AddFault.{AddFault}
use Rattle.record_log.specs.declared.fault.AddFault.TheVariants as add
use Rattle.record_log.specs.Adding.{Adds, AppendsTo, CheckpointsTo, is_due}
use Rattle.record_log.specs.Opening.{OpensTo}
use Rattle.cluster_member.specs.declared.stop.Stop.{Stop}
use Rattle.cluster_member.specs.declared.stop.Stop.TheVariants as stop
use Rattle.member_rules.specs.declared.told.Told.{Told}
use Rattle.cluster_member.specs.Events.{Enters, Installs, Recovers, log_opened}
use Rattle.cluster_member.specs.Logging.{Logs, LogsState, last_bytes, log_after, log_left, state_bytes}
use Rattle.cluster_member.specs.States.{MemberState}
use Rattle.client_connections.specs.Clients.{Clients}
use Rattle.client_connections.specs.Finishing.{Finish, batched, finished}
use Rattle.cluster_node.specs.Acting.{Acts, ContinuesAt, Finishes, Follows, Submits}
use Rattle.cluster_node.specs.Events.{Batches, Connects, HangsUp, HearsBytes, Leads, NodeChecks, NodeInstalls, NodeReceives, Refuses, Ticks}
use Rattle.cluster_node.specs.Rooms.{BatchKeepsRoom, BytesKeepRoom, CheckpointKeepsRoom, ClockKeepsRoom, ConnectKeepsRoom, HangUpKeepsRoom, InstallGivesRoom, InstallKeepsRoom, ReceiveKeepsRoom, SameDiskHasRoom, StartHasRoom, StoppedHasRoom, TickKeepsRoom}
use Rattle.cluster_node.specs.States.{HasRoom, NodeValue, RunningNode, runs, with_stamp}

-- A log, if there is one, fits in so many bytes.
abbrev Fits : Option LogValue → ℕ → Type 0
Fits log size = IfSome log (λ l. image_size l.cap ≤ size)

abbrev log_of : Option RunningNode → Option LogValue
log_of running = elim running [ None ↦ None | Some x ↦ x.member.log ]

abbrev FitsIn : Option RunningNode → ℕ → Type 0
FitsIn running size = Fits (log_of running) size

same_fits : {log other : Option LogValue} (size : ℕ) → other ≡ log → Fits log size → Fits other size
same_fits size same fits = subst (λ (l : Option LogValue). Fits l size) (sym same) fits

none_fits : (running : Option RunningNode) (size : ℕ) → running ≡ None → FitsIn running size
none_fits running size stopped = subst (λ (y : Option RunningNode). FitsIn y size) (sym stopped) tt

same_size : (running : Option RunningNode) (v w : DiskView) → SameDisk v w → FitsIn running v.size → FitsIn running w.size
same_size running v w same fits = subst (λ (size : ℕ). FitsIn running size) (sym same.size) fits

-- ---- the log answers

cap_fits : (size : ℕ) (log : Option LogValue) (old new : LogValue) → log ≡ Some old → new.cap ≡ old.cap → Fits log size → Fits (Some new) size
cap_fits size log old new had same fits =
    let before : image_size old.cap ≤ size = subst (λ (l : Option LogValue). Fits l size) had fits in
    subst (λ (cap : ℕ). image_size cap ≤ size) (sym same) before

added_cap : (due : Bool) (old new : LogValue) (state last bytes : List ℕ) (v w : DiskView) → Adds due old state last bytes v (Ok new) w → new.cap ≡ old.cap
added_cap true old new state last bytes v w (u, checkpoints, appends) = ap (λ (log : LogValue). log.cap) appends.value
added_cap false old new state last bytes v w appends = ap (λ (log : LogValue). log.cap) appends.value

logged : (entry : Option Entry) (x : MemberState) (v w : DiskView) (added : Option (Result LogValue AddFault)) (size : ℕ) → Logs entry x v added w
    → Fits x.log size
    → Fits (log_left x.log added) size
logged None x v w None size logs fits = fits
logged None x v w (Some added) size logs fits = absurd logs
logged (Some e) x v w None size logs fits = absurd logs
logged (Some e) x v w (Some (Err fault)) size logs fits = tt
logged (Some e) x v w (Some (Ok new)) size (old, had, adds, sound) fits =
    cap_fits size x.log old new had (added_cap (is_due old (length (record_text e))) old new (state_bytes x) (last_bytes x) (record_text e) v w adds) fits

saved : (is_to : Bool) (x : MemberState) (v w : DiskView) (written : Option (Result LogValue AddFault)) (size : ℕ) → LogsState is_to x v written w
    → Fits x.log size
    → Fits (log_left x.log written) size
saved false x v w None size logs fits = fits
saved false x v w (Some written) size logs fits = absurd logs
saved true x v w None size logs fits = absurd logs
saved true x v w (Some (Err fault)) size logs fits = tt
saved true x v w (Some (Ok new)) size (old, had, writes) fits = cap_fits size x.log old new had (ap (λ (log : LogValue). log.cap) writes.value) fits

-- A log that was opened was read whole from its disk.
opened_fits : (claim : ℕ) (v w : DiskView) (opened : Result (LogValue × Recovered) RecordFault) → OpensTo claim v opened w → Fits (log_opened opened) v.size
opened_fits claim v w (Err fault) opens = tt
opened_fits claim v w (Ok (log, r)) opens =
    subst (λ (cap : ℕ). image_size cap ≤ v.size) (sym (ap (λ (l : LogValue). l.cap) opens.value)) opens.read.within

-- ---- what the node does behind an event of its member

submits_fits : (queued : Option Update) (told all : List Effect) (m n : MemberState) (size : ℕ) → Submits queued told m n all → Fits m.log size
    → Fits n.log size
submits_fits queued told all m n size submits fits = same_fits size submits.log fits

continues_fits : (resumes : Option ℕ) (m n : MemberState) (s t : Clients) (all : List Effect) (size : ℕ) → ContinuesAt resumes m s n t all
    → Fits m.log size → Fits n.log size
continues_fits None m n s t all size (same, clients, none) fits = same_fits size (ap (λ (x : MemberState). x.log) same) fits
continues_fits (Some conn) m n s t all size continues fits = submits_fits continues.queued continues.told all m n size continues.submits fits

acts_fits : (acks : List (ℕ × ℕ)) (req : ℕ) (m n : MemberState) (s t : Clients) (told : Told) (all : List Effect) (size : ℕ) → Acts acks req m s told n t all
    → Fits m.log size → Fits n.log size
acts_fits [] req m n s t told all size (same, clients, effects) fits = same_fits size (ap (λ (x : MemberState). x.log) same) fits
acts_fits (ack ∷ acks) req m n s t told all size finishes fits =
    let end : Finish = finished s.common.waiting req ack.1 told.outcome s in
    continues_fits end.resumes m n end.clients t finishes.more size finishes.continues fits

-- Where the member goes on, its log fits.
FitsBehind : Result Told Stop → MemberState → ℕ → Type 0
FitsBehind came m size = OnOk came (Fits m.log size)

follows_fits : (came : Result Told Stop) (req : ℕ) (m : MemberState) (s : Clients) (y : Option RunningNode) (all : List Effect) (size : ℕ)
    → FitsBehind came m size
    → Follows came req m s y all → FitsIn y size
unfolding FitsBehind
follows_fits (Ok told) req m s (Some y) all size fits follows = acts_fits (acked told.effects) req m y.member s y.clients told all size follows fits
follows_fits (Err (stop.Halted cause)) req m s (Some y) all size fits follows = absurd follows
follows_fits (Err stop.Memory) req m s (Some y) all size fits follows = absurd follows
follows_fits came req m s None all size fits follows = tt

leads_fits : (Event : Result Told Stop → MemberState → Type 0) (x : RunningNode) (r : Result (List Effect) AllocError) (y : Option RunningNode) (size : ℕ)
    → ((came : Result Told Stop) (m : MemberState) → Event came m → FitsBehind came m size) → Leads Event x r y → FitsIn y size
leads_fits Event x (Ok effects) y size fits leads = follows_fits leads.came _ leads.member x.clients y effects size (fits leads.came leads.member leads.event) leads.follows
leads_fits Event x (Err fault) y size fits leads = none_fits y size leads.stops

behind : (came : Result Told Stop) (m : MemberState) (log : Option LogValue) (size : ℕ) → OnOk came (m.log ≡ log) → Fits log size → FitsBehind came m size
unfolding FitsBehind
behind (Ok told) m log size same fits = same_fits size same fits
behind (Err fault) m log size same fits = tt

-- ---- the events that may call the disk

-- Where the view is taken, no room is needed before.
installed : (takes locks : Bool) (x : MemberState) (v w : DiskView) (view : View) (came : Result Told Stop) (m : MemberState)
    → (takes ≡ false → Fits x.log v.size)
    → MatchBool takes (MatchBool locks (Recovers v x view came m w) (Enters v (nothing (entered view x.rules)) None came m w)) (Enters v (nothing x.rules) x.log came m w)
    → FitsBehind came m v.size
installed true true x v w view came m before recovers = behind came m (log_opened recovers.opened) v.size recovers.kept (opened_fits view.number v w recovers.opened recovers.opens)
installed true false x v w view came m before enters = behind came m None v.size enters.kept tt
installed false locks x v w view came m before enters = behind came m x.log v.size enters.kept (before refl)

install_fits : (x : RunningNode) (v w : DiskView) (view : View) (r : Result (List Effect) AllocError) (y : Option RunningNode)
    → (takes_view x.member.rules view ≡ false → Fits x.member.log v.size)
    → NodeInstalls v (Some x) view r y w → FitsIn y v.size
install_fits x v w view r y before leads =
    leads_fits _ x r y v.size (λ came m event. installed (takes_view x.member.rules view) (is_locker view.members x.member.rules.join.node) x.member v w view came m before event) leads

installs_by : (running y : Option RunningNode) (v w : DiskView) (view : View) (r : Result (List Effect) AllocError) → NodeInstalls v running view r y w
    → FitsIn running v.size → FitsIn y v.size
installs_by None y v w view r silent fits = none_fits y v.size silent.stopped
installs_by (Some x) y v w view r leads fits = install_fits x v w view r y (λ e. fits) leads

pub install_keeps_room : InstallKeepsRoom
install_keeps_room n m v w view r installs same fits = same_size m.running v w same (installs_by n.running m.running v w view r installs fits)

pub install_gives_room : InstallGivesRoom
install_gives_room x m v w view r takes installs same =
    same_size m.running v w same (install_fits x v w view r m.running (λ e. absurd (cc (takes, e))) installs)

receives_by : (running y : Option RunningNode) (v w : DiskView) (p : Sent) (r : Result (List Effect) AllocError) → NodeReceives v running p r y w
    → FitsIn running v.size → FitsIn y v.size
receives_by None y v w p r silent fits = none_fits y v.size silent.stopped
receives_by (Some x) y v w p r leads fits =
    leads_fits _ x r y v.size (λ came m event. behind came m (log_left x.member.log event.added) v.size event.kept
    (logged (to_log x.member.rules p) x.member v w event.added v.size event.logs fits)) leads

pub receive_keeps_room : ReceiveKeepsRoom
receive_keeps_room n m v w p r receives same fits = same_size m.running v w same (receives_by n.running m.running v w p r receives fits)

checks_by : (running y : Option RunningNode) (v w : DiskView) (r : Result (List Effect) AllocError) → NodeChecks v running r y w → FitsIn running v.size
    → FitsIn y v.size
checks_by None y v w r silent fits = none_fits y v.size silent.stopped
checks_by (Some x) y v w r leads fits =
    leads_fits _ x r y v.size (λ came m event. behind came m (log_left x.member.log event.written) v.size event.kept
    (saved (x.member.rules.core.is_open && updating.locks x.member.rules.core) x.member v w event.written v.size event.logs fits)) leads

pub checkpoint_keeps_room : CheckpointKeepsRoom
checkpoint_keeps_room n m v w r checks same fits = same_size m.running v w same (checks_by n.running m.running v w r checks fits)

-- ---- the others

pub start_has_room : StartHasRoom
start_has_room number inc v = tt

pub stopped_has_room : StoppedHasRoom
stopped_has_room n v stopped = none_fits n.running v.size stopped

pub same_disk_has_room : SameDiskHasRoom
same_disk_has_room n v w same fits = same_size n.running v w same fits

ticks_by : (running y : Option RunningNode) (effects : List Effect) (size : ℕ) → Ticks running y effects → FitsIn running size → FitsIn y size
ticks_by running None effects size ticks fits = tt
ticks_by None (Some y) effects size ticks fits = absurd ticks
ticks_by (Some x) (Some y) effects size (same, told) fits = same_fits size (ap (λ (z : RunningNode). z.member.log) same) fits

pub tick_keeps_room : TickKeepsRoom
tick_keeps_room n m v effects ticks fits = ticks_by n.running m.running effects v.size ticks fits

clocked_by : (stamp : ℕ) (running : Option RunningNode) (size : ℕ) → FitsIn running size → FitsIn (option_map (with_stamp stamp) running) size
clocked_by stamp None size fits = tt
clocked_by stamp (Some x) size fits = fits

pub clock_keeps_room : ClockKeepsRoom
clock_keeps_room n v stamp fits = clocked_by stamp n.running v.size fits

connects_by : (conn : ℕ) (running y : Option RunningNode) (effects : List Effect) (size : ℕ) → Connects conn running y effects → FitsIn running size
    → FitsIn y size
connects_by conn running None effects size connects fits = tt
connects_by conn None (Some y) effects size connects fits = absurd connects
connects_by conn (Some x) (Some y) effects size (same, told) fits = same_fits size (ap (λ (z : RunningNode). z.member.log) same) fits

pub connect_keeps_room : ConnectKeepsRoom
connect_keeps_room n m v conn effects connects fits = connects_by conn n.running m.running effects v.size connects fits

hears_by : (conn : ℕ) (piece : List ℕ) (running y : Option RunningNode) (effects : List Effect) (size : ℕ) → HearsBytes conn piece running y effects
    → FitsIn running size → FitsIn y size
hears_by conn piece running None effects size hears fits = tt
hears_by conn piece None (Some y) effects size hears fits = absurd hears
hears_by conn piece (Some x) (Some y) effects size hears fits = submits_fits hears.queued hears.told effects x.member y.member size hears.submits fits

pub bytes_keep_room : BytesKeepRoom
bytes_keep_room n m v conn piece effects hears fits = hears_by conn piece n.running m.running effects v.size hears fits

hangs_up_by : (conn : ℕ) (running y : Option RunningNode) (effects : List Effect) (size : ℕ) → HangsUp conn running y effects → FitsIn running size
    → FitsIn y size
hangs_up_by conn running None effects size hangs fits = tt
hangs_up_by conn None (Some y) effects size hangs fits = absurd hangs
hangs_up_by conn (Some x) (Some y) effects size (same, told) fits = same_fits size (ap (λ (z : RunningNode). z.member.log) same) fits

pub hang_up_keeps_room : HangUpKeepsRoom
hang_up_keeps_room n m v conn effects hangs fits = hangs_up_by conn n.running m.running effects v.size hangs fits

refuses_fits : (refused : Option Effect) (update : Update) (m n : MemberState) (effects : List Effect) (size : ℕ) → Refuses refused update m n effects
    → Fits m.log size → Fits n.log size
refuses_fits (Some refused) update m n effects size (same, told) fits = same_fits size (ap (λ (x : MemberState). x.log) same) fits
refuses_fits None update m n effects size submits fits = submits_fits (Some update) [] effects m n size submits fits

batches_by : (update : Update) (running y : Option RunningNode) (effects : List Effect) (size : ℕ) → Batches update running y effects
    → FitsIn running size → FitsIn y size
batches_by update running None effects size batch fits = tt
batches_by update None (Some y) effects size batch fits = absurd batch
batches_by update (Some x) (Some y) effects size batch fits =
    refuses_fits (batched x.member.rules.core.is_open x.clients).1 update x.member y.member effects size batch.submits fits

pub batch_keeps_room : BatchKeepsRoom
batch_keeps_room n m v update effects batch fits = batches_by update n.running m.running effects v.size batch fits
