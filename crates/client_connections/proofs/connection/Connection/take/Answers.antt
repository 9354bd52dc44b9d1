use Rattle.std.proofs.Common.{option_map}
use Rattle.registry_defs.specs.Contents.{keys_in}
use Rattle.client_connections.specs.Courses.{course_of}
use Rattle.client_connections.specs.Taking.{serving}
use Rattle.client_connections.proofs.TakingLaws.{begins, carries_on}
use Rattle.client_connections.proofs.connection.Connection.take.Goals as goal

pub items-init : goal.items-init
items-init c = record { carries = begins _ _ _ _; valid = c.requires.valid }

pub items-preserved : goal.items-preserved
items-preserved c = record {
  carries = carries_on (serving (option_map (λ kept. keys_in kept.now) c.args.registry) c.args.done) c.args.conn c.args.self.now.intake c.items.self.intake c.turn.new.self.intake
      (course_of c.args.shared.now c.args.self.now.association c.args.taken.now) (course_of c.items.shared c.items.self.association c.items.taken)
      (course_of c.turn.new.shared c.turn.new.self.association c.turn.new.taken)
      c.items.invariant.carries (rw c.in-None.is at c.in_ok-ending.ensures.turn);
  valid = c.in_ok-ending.ensures.valid;
}
