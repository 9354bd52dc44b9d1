use Rattle.script_player.proofs.Generating.{few_generated}
use Rattle.script_player.proofs.drilling.drill.Goals as goal

pub play_lines-requires-clause-few : goal.play_lines-requires-clause-few
play_lines-requires-clause-few g c = let few = few_generated c.args.number c.args.count c.requires.rounds in rw (c.deref.ensures.value, c.in-Ok.ensures) few
