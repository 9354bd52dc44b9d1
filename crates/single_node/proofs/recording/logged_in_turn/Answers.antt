use Rattle.single_node.proofs.Delivery.{logs_both}
use Rattle.single_node.proofs.recording.logged_in_turn.Goals as goal

pub returns : goal.returns
returns c = logs_both
