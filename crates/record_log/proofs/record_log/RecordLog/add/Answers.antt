use Rattle.std.proofs.Common.{◌∙◌}
use Rattle.record_log.proofs.Texts.{written_some}
use Rattle.record_log.proofs.record_log.RecordLog.add.Goals as goal

pub add_behind_checkpoint-requires-clause-some : goal.add_behind_checkpoint-requires-clause-some
add_behind_checkpoint-requires-clause-some g c = written_some c.args.entry.now c.deref.result.now (c.deref.ensures.value ∙ c.in_ok-bytes.ensures.written)

pub append-requires-clause-some : goal.append-requires-clause-some
append-requires-clause-some g c = written_some c.args.entry.now c.deref-2.result.now (c.deref-2.ensures.value ∙ c.in_ok-bytes.ensures.written)
