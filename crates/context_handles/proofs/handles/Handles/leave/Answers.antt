use Rattle.context_handles.proofs.Entries.{others_given}
use Rattle.context_handles.proofs.handles.Handles.leave.Goals as goal

pub invariant_of-self-then-not-has_member : goal.invariant_of-self-then-not-has_member
invariant_of-self-then-not-has_member c = record {
  given = rw c.close_all.ensures (others_given c.args.group c.self.inside.serials c.self.inside.entries.entries c.self.invariant.given);
  few = c.self.invariant.few;
}
