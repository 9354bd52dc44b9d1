use Rattle.std.proofs.Common.{◌≡◌, Some, option_map, rules, subst}
use Rattle.registry_defs.specs.Contents.{keys_in}
use Rattle.client_connections.specs.Clients.{Clients}
use Rattle.client_connections.specs.Courses.{course_of}
use Rattle.client_connections.specs.Taking.{Takes, serving}
use Rattle.client_connections.proofs.ConnectionLaws.{heard_on}
use Rattle.client_connections.proofs.connections.Connections.hear_so_far.Goals as goal

pub returns-in_ok-ending-in-None-2-clause-heard : goal.returns-in_ok-ending-in-None-2-clause-heard
returns-in_ok-ending-in-None-2-clause-heard c =
    heard_on (serving (option_map (λ kept. keys_in kept.now) c.args.registry) c.args.done) c.args.conn c.args.piece.now c.in-Some.client.now c.take.new.self c.args.self.now _ c.args.taken.now c.take.new.taken c.in_ok-ending-in-None-2.ending
    (search rules)
    (search rules)
    (search rules)
    (search rules)
