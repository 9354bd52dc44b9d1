use Rattle.quorum_log.proofs.Values.{fits_after}
use Rattle.quorum_log.proofs.laws.record_fits_after_checkpoint.Goals as goal

pub returns : goal.returns
returns c = fits_after
