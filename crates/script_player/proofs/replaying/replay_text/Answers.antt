use Rattle.std.proofs.Common.{arith}
use Rattle.text_lines.proofs.LineLaws.{few_lines}
use Rattle.script_player.proofs.Reaching.{ends}
use Rattle.script_player.proofs.replaying.replay_text.Goals as goal

pub returns-in-Ok-clause-comes : goal.returns-in-Ok-clause-comes
returns-in-Ok-clause-comes g c =
    let came = c.in-Ok.ensures.lines in
    ends c.print_last.result _ c.play_lines.new.stage _ (g.K.Sink.written c.play_lines.new.output) _ came.0 came.1 came.2 c.print_last.ensures.ends

pub play_lines-requires-clause-few : goal.play_lines-requires-clause-few
play_lines-requires-clause-few g c = let few = few_lines c.args.text.now in omega (arith, few, c.requires.short)
