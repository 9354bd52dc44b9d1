use Rattle.std.proofs.Common.{◌≡◌, Some, option_map, rules, subst}
use Rattle.registry_defs.specs.Contents.{keys_in}
use Rattle.client_connections.specs.Clients.{Clients}
use Rattle.client_connections.specs.Courses.{course_of}
use Rattle.client_connections.specs.Taking.{Takes, serving}
use Rattle.client_connections.proofs.ConnectionLaws.{went_on}
use Rattle.client_connections.proofs.connections.Connections.go_on.Goals as goal

pub returns-in_ok-ending-in-Some-clause-went : goal.returns-in_ok-ending-in-Some-clause-went
returns-in_ok-ending-in-Some-clause-went c =
    went_on (serving (option_map (λ kept. keys_in kept.now) c.args.registry) c.args.done) c.args.conn c.in-Some.client.now c.take.new.self c.args.self.now _ c.args.taken.now c.take.new.taken c.in_ok-ending-in-Some.ending
    (search rules)
    (subst (λ (q : Clients). Takes (serving (option_map (λ kept. keys_in kept.now) c.args.registry) c.args.done) c.args.conn c.in-Some.client.now.intake c.take.new.self.intake
    (course_of q.common c.in-Some.client.now.association c.args.taken.now) (course_of c.take.new.shared c.take.new.self.association c.take.new.taken) c.in_ok-ending-in-Some.ending)
    c.self.view_is c.in_ok-ending-in-Some.ensures.takes)
    (search rules)
