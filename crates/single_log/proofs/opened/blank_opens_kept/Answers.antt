use Rattle.single_log.proofs.Blank.{blank_opens, format_leaves}
use Rattle.single_log.proofs.opened.blank_opens_kept.Goals as goal

pub returns-clause-format : goal.returns-clause-format
returns-clause-format c = format_leaves

pub returns-clause-opens : goal.returns-clause-opens
returns-clause-opens c = blank_opens
