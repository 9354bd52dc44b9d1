-- Where the disk holds a greater fencing token a run ends so.
use Rattle.std.proofs.Common.{◌≡◌, ℕ, ◌<◌, ◌≤◌, List, Option, Ok, inl, inr, sym, ap, arith}
use Rattle.edge_io.specs.Visits.{Visits}
use Rattle.disk_core.specs.Views.{DiskView}
use Rattle.quorum_log.proofs.Unchanged.{opened_behind_claim}
use Rattle.cluster_member.specs.States.{MemberState}
use Rattle.single_items.specs.Alone.{AloneRun}
use Rattle.single_server.specs.declared.ended.Ended.{Ended}
use Rattle.single_server.specs.declared.ended.Ended.TheVariants.{BadLog, DiskFault, Done, Fenced, NoMemory, ReadFault, WriteFault}
use Rattle.single_server.specs.Begins.{BeginsOn}
use Rattle.single_server.specs.Serving.{ServesDoor}
use Rattle.single_server.specs.Session.{Serves}

begun_held : (stamp : ℕ) (v : DiskView) (first : AloneRun) (x : MemberState) (w : DiskView) → BeginsOn stamp v first x w → v.current.held ≤ 1
begun_held stamp v first x w b = elim b.holds [
  | inl found ↦ opened_behind_claim 1 v b.ready found.0 found.1.calls
  | inr blank ↦ blank.0.blank.held_before
]

module _ (v w : DiskView) (later : 1 < v.current.held) where
  not_later : {A : Type 0} → v.current.held ≤ 1 → A
  not_later most = absurd (omega (arith, most, later))

  pub session_fences : (ended : Ended) (stamp : ℕ) (left now written holds : Option (List ℕ)) → Serves ended stamp left now written holds v w → ended ≡ Fenced v.current.held
  session_fences Done stamp left now written holds h = not_later (begun_held stamp v h.start.first h.start.member h.start.disk h.begins)
  session_fences ReadFault stamp left now written holds h = not_later (begun_held stamp v h.start.first h.start.member h.start.disk h.begins)
  session_fences WriteFault stamp left now written holds h = not_later (begun_held stamp v h.start.first h.start.member h.start.disk h.begins)
  session_fences DiskFault stamp left now written holds (inl u) = not_later u.fault.0
  session_fences DiskFault stamp left now written holds (inr p) = not_later (begun_held stamp v p.start.first p.start.member p.start.disk p.begins)
  session_fences NoMemory stamp left now written holds (inl u) = not_later u.fault
  session_fences NoMemory stamp left now written holds (inr p) = not_later (begun_held stamp v p.start.first p.start.member p.start.disk p.begins)
  session_fences (BadLog at) stamp left now written holds h = not_later h.fault.0
  session_fences (Fenced held) stamp left now written holds h = ap Fenced h.fault.1

  pub door_fences : (ended : Ended) (stamp count : ℕ) (old now : Option Visits) → ServesDoor ended stamp count old now v w → ended ≡ Fenced v.current.held
  door_fences Done stamp count old now h = not_later (begun_held stamp v h.start.first h.start.member h.start.disk h.begins)
  door_fences ReadFault stamp count old now h = not_later (begun_held stamp v h.start.first h.start.member h.start.disk h.begins)
  door_fences WriteFault stamp count old now h = absurd h
  door_fences DiskFault stamp count old now (inl u) = not_later u.fault.0
  door_fences DiskFault stamp count old now (inr p) = not_later (begun_held stamp v p.start.first p.start.member p.start.disk p.begins)
  door_fences NoMemory stamp count old now (inl u) = not_later u.fault
  door_fences NoMemory stamp count old now (inr p) = not_later (begun_held stamp v p.start.first p.start.member p.start.disk p.begins)
  door_fences (BadLog at) stamp count old now h = not_later h.fault.0
  door_fences (Fenced held) stamp count old now h = ap Fenced h.fault.1
