use Rattle.std.proofs.lemmas.Result.{err_from_is_err_and}
use Rattle.std.proofs.Common.{refl}
use Rattle.registry_states.specs.Turns.{course}
use Rattle.registry_states.proofs.ItemReads.{count_fails, count_given}
use Rattle.registry_states.proofs.turning.read_count.Goals as goal

pub returns-in_err-left : goal.returns-in_err-left
returns-in_err-left c =
    let p = err_from_is_err_and c.from_residual.result c.from_residual.ensures.1 in
    rw (p.1, p.2) (count_fails c.args.end c.args.items.now.items c.args.used c.args.depth course c.in_err-left.field-0.0 c.args.fields.now c.u32_field.new.fields c.args.items.now.items c.in_err-left.ensures refl)

pub returns : goal.returns
returns c = count_given c.args.end c.args.items.now.items c.args.used c.args.depth c.args.fields.now c.in_ok-left.left c.u32_field.new.fields c.push.new.self.items c.in_ok-left.ensures c.in_ok-push.ensures.items
