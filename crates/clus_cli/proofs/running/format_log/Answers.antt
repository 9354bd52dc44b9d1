use Rattle.std.proofs.Common.{◌≡◌, replicate, refl}
use Rattle.registry_defs.proofs.Held.{root_text}
use Rattle.clus_cli.specs.Commands.{empty_registry}
use Rattle.clus_cli.proofs.FormatLaws.{empty_formatted, empty_passes}
use Rattle.clus_cli.proofs.running.format_log.Goals as goal

zeros : replicate 16 0 ≡ empty_registry
unfolding empty_registry
zeros = root_text

pub returns-in-Ok : goal.returns-in-Ok
returns-in-Ok g c = record {
  ends = (c.in-Ok.ensures.answer, c.in-Ok.ensures.claimed refl);
  formatted = λ told done. empty_formatted c.args.cap _ _ zeros (c.in-Ok.ensures.formatted told refl);
  any_moment = λ told. empty_passes c.args.cap _ _ _ zeros (c.in-Ok.ensures.any_moment told);
}

pub returns-in-Err-Failed : goal.returns-in-Err-Failed
returns-in-Err-Failed g c = record {
  ends = rw c.in-Err-Failed.field-0-is at c.in-Err-Failed.ensures.answer;
  formatted = λ told done. absurd (cc (done));
  any_moment = λ told. empty_passes c.args.cap _ _ _ zeros (c.in-Err-Failed.ensures.any_moment told);
}

pub returns-in-Err-Fenced : goal.returns-in-Err-Fenced
returns-in-Err-Fenced g c = record {
  ends = rw c.in-Err-Fenced.field-0-is at c.in-Err-Fenced.ensures.answer;
  formatted = λ told done. absurd (cc (done));
  any_moment = λ told. empty_passes c.args.cap _ _ _ zeros (c.in-Err-Fenced.ensures.any_moment told);
}
