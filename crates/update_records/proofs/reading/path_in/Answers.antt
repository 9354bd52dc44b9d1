use Rattle.std.proofs.Common.{sym, ◌∙◌}
use Rattle.update_records.proofs.Fields.{path_text_of}
use Rattle.update_records.proofs.reading.path_in.Goals as goal

pub returns-in-Ok : goal.returns-in-Ok
returns-in-Ok c = path_text_of c.in-Ok.path c.args.units.now (sym c.lacks_zero.ensures ∙ c.if-not-lacks_zero.false) c.in-Ok.ensures.found
