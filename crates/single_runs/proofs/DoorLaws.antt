-- What a run over the connections of a door leaves.
use Rattle.std.proofs.Common.{◌≡◌, ℕ, ◌+◌, List, [], length, Option, inl, inr, sym, ap, subst, arith}
use Rattle.std.specs.List.{AllByRecursion}
use Rattle.edge_io.specs.Visits.{Visits}
use Rattle.disk_core.specs.Views.{DiskView}
use Rattle.update_records.specs.Entry.{Entry}
use Rattle.single_items.specs.Alone.{AloneRun}
use Rattle.single_node.specs.Recording.{HasId}
use Rattle.single_server.specs.declared.ended.Ended.{Ended}
use Rattle.single_server.specs.declared.ended.Ended.TheVariants.{BadLog, DiskFault, Done, Fenced, NoMemory, ReadFault, WriteFault}
use Rattle.single_server.specs.Begins.{BeginsOn}
use Rattle.single_server.specs.Hearing.{Beginning}
use Rattle.single_server.specs.Serving.{HaveServed, HaveServedInPart, ServesDoor, ServesOpened}
use Rattle.single_server.specs.Visits.{records_of}
use Rattle.single_runs.specs.Door.{RunsDoor, ServesInPart, ServesWhole}
use Rattle.single_runs.proofs.Counting.{IsCounted, behind_counted, behind_none, behind_silent, talks_named}
use Rattle.single_runs.proofs.CutLaws.{leaves_first}
use Rattle.single_runs.proofs.DoneLaws.{leaves_all}
use Rattle.single_runs.proofs.Keeps.{named, none_made, none_told}

module _ (stamp count : ℕ) (old now : Option Visits) (v w : DiskView) where
  starts_counted : (b : Beginning) → BeginsOn stamp v b.first b.member b.disk → IsCounted b.first
  starts_counted b begins =
      let none = none_made stamp v b.first b.member b.disk begins in
      let passed = ap (λ (r : AloneRun). r.single.passed) begins.is in
      let taken = ap (λ (r : AloneRun). r.taken) begins.is in
      record {
        named = named stamp v b.first b.member b.disk begins;
        ids = subst (λ (es : List Entry). AllByRecursion HasId es) (sym none) tt;
        updates = omega (arith, passed, taken);
        items = omega (arith, taken);
      }

  all_served : (b : Beginning) → BeginsOn stamp v b.first b.member b.disk → HaveServed b count old now w → ServesWhole stamp count old now v w
  all_served b begins out = record {
    start = b;
    begins = begins;
    served = out;
    leaves = leaves_all stamp v b.first b.member b.disk begins (records_of 1 b.first out.talks) out.member w (talks_named 1 b.first out.talks (starts_counted b begins)) out.logs;
  }

  in_part : (ended : Ended) (b : Beginning) → BeginsOn stamp v b.first b.member b.disk → HaveServedInPart ended b count old now w → ServesInPart ended stamp count old now v w
  in_part ended b begins part =
      let counted = starts_counted b begins in
      let last : IsCounted part.last.first = subst (λ (r : AloneRun). IsCounted r) (sym part.goes_on) (behind_counted 1 b.first part.talks counted) in
      let none : part.last.first.records ≡ [] = subst (λ (r : AloneRun). r.records ≡ []) (sym part.goes_on) (behind_none 1 b.first part.talks (none_made stamp v b.first b.member b.disk begins)) in
      let silent : part.last.first.output ≡ [] = subst (λ (r : AloneRun). r.output ≡ []) (sym part.goes_on) (behind_silent 1 b.first part.talks (none_told stamp v b.first b.member b.disk begins)) in
      record {
        start = b;
        begins = begins;
        served = part;
        leaves = leaves_first stamp v b.first b.member b.disk begins (records_of 1 b.first part.talks) (1 + length part.talks) part.last part.logs (talks_named 1 b.first part.talks counted) last.named none
            silent ended part.off.stream part.off.told w part.off.cut;
      }

  pub runs_door : (ended : Ended) → ServesDoor ended stamp count old now v w → RunsDoor ended stamp count old now v w
  unfolding all_served
  runs_door Done h = (all_served h.start h.begins h.serves.0, h.serves.1)
  runs_door ReadFault h = (all_served h.start h.begins h.serves.0, h.serves.1)
  runs_door WriteFault h = absurd h
  runs_door DiskFault (inl u) = inl u
  runs_door DiskFault (inr p) = inr (in_part DiskFault p.start p.begins p.serves)
  runs_door NoMemory (inl u) = inl u
  runs_door NoMemory (inr p) = inr (in_part NoMemory p.start p.begins p.serves)
  runs_door (BadLog place) h = h
  runs_door (Fenced held) h = h
