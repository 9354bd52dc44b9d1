use Rattle.std.proofs.Common.{List, [], ◌∷◌, ◌++◌, sym, ap, ◌∙◌}
use Rattle.hive_text.specs.declared.walk.Level.{Level}
use Rattle.hive_text.proofs.WalkEnds.{ordered, up_step}
use Rattle.hive_text.proofs.walk.Walk.end.Goals as goal

pub go_up-requires : goal.go_up-requires
go_up-requires c = ordered c.args.self.now c.requires.sound.0 c.requires.sound.1

pub returns-in_ok-go_up-in-Some : goal.returns-in_ok-go_up-in-Some
returns-in_ok-go_up-in-Some c = λ s is.
    let up = c.in_ok-go_up-in-Some.ensures.up in
    up_step c.args.self.now s is c.in-Some.next c.go_up.new.self c.if-self.false
    (c.in-Some.ensures.items ∙ ap (λ (l : List Level). l ++ c.in-Some.next ∷ []) (sym c.go_up.ensures.above))
    (record { cap_is = up.cap_is; ended_is = up.ended_is; part_is = up.part_is; birth_is = up.birth_is; written_is = up.written_is; values_are = up.values_are; subkeys_are = up.subkeys_are; size_is = up.size_is; used_is = up.used_is })
