use Rattle.single_node.proofs.Applied.{next_is_alones}
use Rattle.single_node.proofs.recording.next_record_is_alones.Goals as goal

pub returns : goal.returns
returns c = next_is_alones
