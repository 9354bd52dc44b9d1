use Rattle.single_node.proofs.Delivery.{delivery_goes_on, delivery_stops, piece_begins}
use Rattle.single_node.proofs.delivering.messages_are_delivered.Goals as goal

pub returns-clause-begins : goal.returns-clause-begins
returns-clause-begins c = piece_begins

pub returns-clause-goes_on : goal.returns-clause-goes_on
returns-clause-goes_on c = delivery_goes_on

pub returns-clause-stops : goal.returns-clause-stops
returns-clause-stops c = delivery_stops
