-- How a run over the connections of a door begins and ends.
use Rattle.std.proofs.Common.{◌≡◌, inl, inr, ℕ, ◌+◌, ◌≤◌, ◌<◌, Bool, true, false, List, [], ◌∷◌, length, nat_lt, if◌then◌else◌, Option, Some, None, refl, ap, ◌∙◌, subst, arith}
use Rattle.causes.specs.Counts.{Rose}
use Rattle.edge_io.specs.Visits.{Visits}
use Rattle.disk_core.specs.Views.{DiskView}
use Rattle.rpc_calls.specs.declared.item.Item.{Item}
use Rattle.update_records.specs.declared.update.Update.{Update}
use Rattle.gum_core.specs.Updating.{last_place}
use Rattle.cluster_rules.specs.declared.effect.HaltCause.{HaltCause}
use Rattle.cluster_rules.specs.declared.effect.HaltCause.TheVariants as halt
use Rattle.client_connections.specs.declared.origin.Origin.{Origin}
use Rattle.client_connections.specs.declared.took.Took.{Took}
use Rattle.client_connections.specs.declared.took.Took.TheVariants.{Nothing, Reply, Queues}
use Rattle.client_connections.specs.Items.{ClientState, item_of}
use Rattle.cluster_node.specs.States.{RunningNode}
use Rattle.single_rules.specs.Single.{outcome_of}
use Rattle.single_items.specs.Alone.{AloneRun, alone, answer_alone, counted_alone, done_alone, item_alone, next_alone, takes_alone, took_alone, update_alone}
use Rattle.single_node.specs.Singles.{SingleState}
use Rattle.single_node.specs.Standing.{alone_node}
use Rattle.single_server.specs.declared.ended.Ended.{Ended}
use Rattle.single_server.specs.declared.ended.Ended.TheVariants.{BadLog, DiskFault, Done, Fenced, NoMemory, ReadFault, WriteFault}
use Rattle.single_server.specs.Begins.{BeginsOn, IsBegun, NotBegun}
use Rattle.single_server.specs.Hearing.{Beginning, HaltsFor}
use Rattle.single_server.specs.Serving.{HaveServedInPart, ServesDoor, ServesFrom, ServesOpened}
use Rattle.single_server.specs.Session.{beginning_at}
use Rattle.single_server.specs.Talking.{HasVisited, IsFree, IsReady, ServesRest}
use Rattle.single_server.specs.Visits.{Talk, first_behind, records_of}
use Rattle.single_server.proofs.EndLaws.{halts_owning, owns_first}
use Rattle.single_server.proofs.SessionLaws.{begun_as, none_waits}
use Rattle.single_server.proofs.Tokens.{Owns, logs_keep, rose_from}

abbrev Doors : Type 0
Doors = Option Visits

-- ---- the node that was opened

pub is_free : (stamp : ℕ) (v : DiskView) (s : SingleState) (w : DiskView) (h : IsBegun stamp v s w) → IsFree 1 h.first h.node s
is_free stamp v s w h = record {
  runs = ap (λ (x : SingleState). x.node.running) h.runs;
  quiet = ap (λ (x : SingleState). x.left) h.runs;
  unconnected = h.unconnected;
  begun = begun_as h.first _ _ h.begins.is;
  unwaited = λ d le. none_waits d (alone_node h.node []) h.first.single h.first.client.handles h.first.taken h.unconnected (ap (λ (r : AloneRun). r.taken) h.begins.is);
}

pub is_ready : (stamp : ℕ) (v : DiskView) (s : SingleState) (w : DiskView) → IsBegun stamp v s w → IsReady 1 s
is_ready stamp v s w h = (h.first, h.node, is_free stamp v s w h)

pub unvisited : (ended : Ended) (stamp count : ℕ) (old : Doors) (v w : DiskView) → NotBegun ended v w → ServesDoor ended stamp count old old v w
unvisited Done stamp count old v w h = absurd h
unvisited ReadFault stamp count old v w h = absurd h
unvisited WriteFault stamp count old v w h = absurd h
unvisited DiskFault stamp count old v w h = inl (record { fault = h; unvisited = refl })
unvisited NoMemory stamp count old v w h = inl (record { fault = h; unvisited = refl })
unvisited (BadLog place) stamp count old v w h = record { fault = h; unvisited = refl }
unvisited (Fenced held) stamp count old v w h = record { fault = h; unvisited = refl }

-- ---- the view stays

done_view : (u : Update) (p : List ℕ × ClientState) (r : AloneRun) → (done_alone u p r).single.view ≡ r.single.view
done_view u (bytes, n) r = refl

update_view : (origin : Origin) (u : Update) (r : AloneRun) → (update_alone origin u r).single.view ≡ r.single.view
update_view origin u r = by_test (nat_lt r.single.done last_place)
  where
    by_test : (b : Bool) → (if b then done_alone u (answer_alone origin (outcome_of r.single u) r.client) r else record r { waits = true }).single.view ≡ r.single.view
    by_test true = done_view u (answer_alone origin (outcome_of r.single u) r.client) r
    by_test false = refl

took_view : (t : Took × ClientState) (r : AloneRun) → (took_alone t r).single.view ≡ r.single.view
took_view (Nothing, n) r = refl
took_view (Reply bytes reads, n) r = refl
took_view (Queues origin u, n) r = update_view origin u (counted_alone n r)

item_view : (c : ℕ) (r : AloneRun) (i : Item) → (item_alone c r i).single.view ≡ r.single.view
item_view c r i = by_test (takes_alone r)
  where
    by_test : (b : Bool) → (if b then took_alone (item_of (Some r.single.registry.keys) c r.client i) r else r).single.view ≡ r.single.view
    by_test true = took_view (item_of (Some r.single.registry.keys) c r.client i) r
    by_test false = refl

alone_view : (c : ℕ) (r : AloneRun) (items : List Item) → (alone c r items).single.view ≡ r.single.view
alone_view c r [] = refl
alone_view c r (i ∷ items) = alone_view c (item_alone c r i) items ∙ item_view c r i

behind_view : (c : ℕ) (first : AloneRun) (talks : List Talk) → (first_behind c first talks).single.view ≡ first.single.view
unfolding first_behind
behind_view c first [] = refl
behind_view c first (t ∷ talks) = behind_view (c + 1) (next_alone (alone c first t.given)) talks ∙ alone_view c first t.given

-- ---- the run ends

module _ (stamp count : ℕ) (old new : Doors) (v w : DiskView) (b : Beginning) (begins : BeginsOn stamp v b.first b.member b.disk) where
  -- The node halts for a failed call of the disk alone.
  module _ (ended : Ended) (h : HaveServedInPart ended b count old new w) where
    kept : Owns 1 h.last.member h.last.disk × (b.disk.faults ≤ h.last.disk.faults)
    kept = logs_keep 1 (records_of 1 b.first h.talks) b.member h.last.member b.disk h.last.disk h.logs (owns_first stamp None None None None v w b begins)

    view : h.last.first.single.view ≡ 1
    view = ap (λ (r : AloneRun). r.single.view) h.goes_on ∙ behind_view 1 b.first h.talks ∙ ap (λ (r : AloneRun). r.single.view) begins.is

    halts_at : (cause : HaltCause) → HaltsFor cause (1 + length h.talks) h.last h.off.stream h.off.told w → (cause ≡ halt.Disk) × Rose v.faults w.faults
    halts_at cause off =
        let f = halts_owning (1 + length h.talks) h.last w kept.0 view h.off.stream h.off.told cause off in
        let early = begins.same_disk.faults in
        let late = kept.1 in
        (f.0, rose_from v.faults h.last.disk.faults w.faults (omega (arith, early, late)) f.1)

  opened : (ended : Ended) → ServesFrom ended b count old new w → ServesOpened ended stamp count old new v w
  opened ended h = record { start = b; begins = begins; serves = h }

  pub serves_door : (ended : Ended) → ServesFrom ended b count old new w → ServesDoor ended stamp count old new v w
  serves_door Done h = opened Done h
  serves_door ReadFault h = opened ReadFault h
  serves_door WriteFault h = absurd h
  serves_door DiskFault h = inr (opened DiskFault h)
  serves_door NoMemory h = inr (opened NoMemory h)
  serves_door (BadLog place) h = let no : halt.Image place ≡ halt.Disk = (halts_at (BadLog place) h (halt.Image place) h.off.cut).0 in absurd (cc)
  serves_door (Fenced held) h = let no : halt.Fenced held ≡ halt.Disk = (halts_at (Fenced held) h (halt.Fenced held) h.off.cut).0 in absurd (cc)

  pub rose_at : HaveServedInPart DiskFault b count old new w → Rose v.faults w.faults
  rose_at h = (halts_at DiskFault h halt.Disk h.off.cut).1

pub serves_begun : (ended : Ended) (stamp count : ℕ) (old mid new : Doors) (v u w : DiskView) (s : SingleState) (h : IsBegun stamp v s u) → HasVisited [] old mid
    → ((first : AloneRun) (x : RunningNode) → IsFree 1 first x s → ServesRest ended (beginning_at first x u) count mid new w) → ServesDoor ended stamp count old new v w
serves_begun ended stamp count old mid new v u w s h came serves =
    serves_door stamp count old new v w (beginning_at h.first h.node u) h.begins ended (serves h.first h.node (is_free stamp v s u h) old came)

-- ---- its causes

disk_failed : (stamp count : ℕ) (old new : Doors) (v w : DiskView) → ServesDoor DiskFault stamp count old new v w → Rose v.faults w.faults
disk_failed stamp count old new v w (inl u) = u.fault.1
disk_failed stamp count old new v w (inr p) = rose_at stamp count old new v w p.start p.begins p.serves

pub disk_fails : (ended : Ended) (stamp count : ℕ) (old new : Doors) (v w : DiskView) → ServesDoor ended stamp count old new v w → ended ≡ DiskFault → Rose v.faults w.faults
disk_fails ended stamp count old new v w h e = disk_failed stamp count old new v w (subst (λ (r : Ended). ServesDoor r stamp count old new v w) e h)

pub is_fenced : (ended : Ended) (stamp count : ℕ) (old new : Doors) (v w : DiskView) → ServesDoor ended stamp count old new v w → (held : ℕ) → ended ≡ Fenced held → (1 < v.current.held) × (held ≡ v.current.held)
is_fenced ended stamp count old new v w h held e = (subst (λ (r : Ended). ServesDoor r stamp count old new v w) e h).fault
