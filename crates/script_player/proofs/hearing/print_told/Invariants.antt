use Rattle.std.proofs.Common.{◌≡◌, ◌++◌, drop}
use Rattle.script_player.specs.Playing.{text_of}
use Rattle.script_player.proofs.hearing.print_told.Given as goal

abbrev pub invariant-told : goal.invariant-told
invariant-told l = l.text.items ++ text_of (drop l.one-index l.told) ≡ l.initial.text.items ++ text_of l.told
