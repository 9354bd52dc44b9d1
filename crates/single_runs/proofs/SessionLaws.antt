-- What a run over one recorded stream leaves.
use Rattle.std.proofs.Common.{◌≡◌, ℕ, List, [], Option, inl, inr, refl}
use Rattle.disk_core.specs.Views.{DiskView}
use Rattle.single_items.specs.Events.{told_to}
use Rattle.single_items.proofs.AllTaken.{tells_alone}
use Rattle.single_node.specs.Standing.{IsStill, alone_node}
use Rattle.single_server.specs.declared.ended.Ended.{Ended}
use Rattle.single_server.specs.declared.ended.Ended.TheVariants.{BadLog, DiskFault, Done, Fenced, NoMemory, ReadFault, WriteFault}
use Rattle.single_server.specs.Session.{IsDone, IsInPart, Serves}
use Rattle.single_runs.specs.Session.{RunsInPart, RunsSession, RunsToEnd}
use Rattle.single_runs.proofs.CutLaws.{leaves_first}
use Rattle.single_runs.proofs.DoneLaws.{ids_at, leaves_all}
use Rattle.single_runs.proofs.Keeps.{named, none_made, none_told}

module _ (stamp : ℕ) (left now written holds : Option (List ℕ)) (v w : DiskView) where
  to_end : IsDone stamp left now written holds v w → RunsToEnd stamp left now written holds v w
  to_end d =
      let b = d.start in
      let h = d.out.heard in
      let way = h.under_way in
      record {
        served = record {
          start = b;
          begins = d.begins;
          state = d.state;
          out = d.out;
          records = way.added;
          member = h.now.member;
          logs = way.logs;
          alone = λ given fault items. tells_alone 1 b.first d.out.stream (alone_node h.now d.state.left) (told_to 1 d.out.told) way.added way.stands d.out.quiet given fault items;
        };
        leaves = leaves_all stamp v b.first b.member b.disk d.begins way.added h.now.member w
            (ids_at 1 b.first d.out.stream (alone_node h.now d.state.left) (told_to 1 d.out.told) way.added way.stands (named stamp v b.first b.member b.disk d.begins)
            (none_made stamp v b.first b.member b.disk d.begins)) way.logs;
      }

  in_part : (ended : Ended) → IsInPart ended stamp left now written holds v w → RunsInPart ended stamp left now written holds v w
  in_part ended p =
      let b = p.start in
      let still : IsStill b.member b.member = record { log = refl; replica = refl; last = refl } in
      record {
        served = p;
        leaves = leaves_first stamp v b.first b.member b.disk p.begins [] 1 b (refl, still) tt (named stamp v b.first b.member b.disk p.begins) (none_made stamp v b.first b.member b.disk p.begins)
            (none_told stamp v b.first b.member b.disk p.begins) ended p.off.stream p.off.told w p.off.cut;
      }

  pub runs_session : (ended : Ended) → Serves ended stamp left now written holds v w → RunsSession ended stamp left now written holds v w
  runs_session Done h = to_end h
  runs_session ReadFault h = in_part ReadFault h
  runs_session WriteFault h = in_part WriteFault h
  runs_session DiskFault (inl u) = inl u
  runs_session DiskFault (inr p) = inr (in_part DiskFault p)
  runs_session NoMemory (inl u) = inl u
  runs_session NoMemory (inr p) = inr (in_part NoMemory p)
  runs_session (BadLog place) h = h
  runs_session (Fenced held) h = h
