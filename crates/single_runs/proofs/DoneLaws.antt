-- A run that is done leaves all its records.
use Rattle.std.proofs.Common.{◌≡◌, ℕ, IsTrue, List, [], sym, subst}
use Rattle.std.specs.List.{AllByRecursion}
use Rattle.disk_core.specs.Views.{DiskView}
use Rattle.update_records.specs.Entry.{Entry}
use Rattle.cluster_member.specs.States.{MemberState}
use Rattle.single_items.specs.Alone.{AloneRun}
use Rattle.single_items.specs.Standing.{NodeAlone, StandsAt}
use Rattle.single_node.specs.Delivering.{LogsAll}
use Rattle.single_node.specs.Recording.{HasId, IsNamed}
use Rattle.single_node.proofs.Applied.{records_named}
use Rattle.single_log.proofs.Leaving.{run_is_done}
use Rattle.single_server.specs.Begins.{BeginsOn}
use Rattle.single_runs.specs.Images.{LeavesAll, contents_at, found_at}
use Rattle.single_runs.proofs.Keeps.{keeps_opened, logs_from}

pub leaves_all : (stamp : ℕ) (v : DiskView) (first : AloneRun) (x : MemberState) (u : DiskView) (b : BeginsOn stamp v first x u) (es : List Entry) (y : MemberState) (w : DiskView)
    → AllByRecursion HasId es → LogsAll es x u y w → LeavesAll b es w
leaves_all stamp v first x u b es y w ids logs = λ told.
    run_is_done (found_at b) (contents_at b) es v b.node u y w (keeps_opened stamp v first x u b told) ids (logs_from stamp v first x u b es y w logs)

-- The records of a connection have names.
pub ids_at : (c : ℕ) (first : AloneRun) (stream : List ℕ) (z : NodeAlone) (output : List ℕ) (records : List Entry)
    → StandsAt c first stream z output records → IsNamed first.single → first.records ≡ [] → AllByRecursion HasId records
ids_at c first stream z output records stands named none =
    records_named c first stream z output records stands named (subst (λ (l : List Entry). AllByRecursion HasId l) (sym none) tt)
