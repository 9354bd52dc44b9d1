use Rattle.single_log.proofs.Opens.{alone_opens}
use Rattle.single_log.proofs.opened.alone_opens_kept.Goals as goal

pub returns : goal.returns
returns c = alone_opens
