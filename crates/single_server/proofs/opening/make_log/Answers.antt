use Rattle.std.proofs.Common.{refl}
use Rattle.single_server.proofs.OpenLaws.{made_of, zeros}
use Rattle.single_server.proofs.opening.make_log.Goals as goal

pub returns-in-Ok-clause-made : goal.returns-in-Ok-clause-made
returns-in-Ok-clause-made g c = (
  made_of _ (g.D.Disk.view c.args.disk.now) (g.D.Disk.view c.format.new.disk) zeros c.in-Ok.ensures.answer (c.in-Ok.ensures.claimed refl)
      (λ told. c.in-Ok.ensures.formatted told refl) c.in-Ok.ensures.calls c.in-Ok.ensures.any_moment,
  refl,
)
