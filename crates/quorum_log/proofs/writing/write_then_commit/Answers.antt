use Rattle.std.proofs.Common.{rules, inl, inr}
use Rattle.disk_core.specs.Calls.{Made}
use Rattle.quorum_log.proofs.writing.write_then_commit.Goals as goal

pub returns-in_err-sync : goal.returns-in_err-sync
unfolding Made
returns-in_err-sync g c = inl (_, (_, c.in_ok-write.ensures), inr (_, c.in_err-sync.ensures, search rules))

pub returns-in_err-write-2 : goal.returns-in_err-write-2
unfolding Made
returns-in_err-write-2 g c = inl (_, (_, c.in_ok-write.ensures), inl (_, (_, c.in_ok-sync.ensures), inr (_, c.in_err-write-2.ensures, search rules)))

pub returns-in_err-sync-2 : goal.returns-in_err-sync-2
unfolding Made
returns-in_err-sync-2 g c = inl (_, (_, c.in_ok-write.ensures), inl (_, (_, c.in_ok-sync.ensures), inl (_, (_, c.in_ok-write-2.ensures), inr (_, c.in_err-sync-2.ensures, search rules))))

pub returns : goal.returns
unfolding Made
returns g c = inl (_, (_, c.in_ok-write.ensures), inl (_, (_, c.in_ok-sync.ensures), inl (_, (_, c.in_ok-write-2.ensures), inl (_, (_, c.in_ok-sync-2.ensures), search rules))))
