use Rattle.std.proofs.Common.{IfSome, length, option_map}
use Rattle.update_records.specs.Validity.{IsValid}
use Rattle.registry_defs.specs.Contents.{keys_in}
use Rattle.client_connections.specs.Courses.{course_of}
use Rattle.client_connections.specs.Taking.{serving}
use Rattle.client_connections.proofs.TakingLaws.{Carries}
use Rattle.client_connections.proofs.connection.Connection.take.Given as goal

abbrev pub invariant-items : goal.invariant-items
invariant-items l = record {
  carries : Carries (serving (option_map (λ kept. keys_in kept.now) l.registry) l.done) l.conn l.initial.self.intake l.self.intake
      (course_of l.initial.shared l.initial.self.association l.initial.taken) (course_of l.shared l.self.association l.taken);
  valid : IfSome l.taken.update IsValid;
}

abbrev pub decreases-items : goal.decreases-items
decreases-items l = length l.self.intake.rest
