use Rattle.std.proofs.lemmas.Result.{err_from_is_err_and}
use Rattle.std.proofs.Common.{refl}
use Rattle.registry_states.specs.Turns.{course}
use Rattle.registry_states.proofs.ItemReads.{root_fails, root_given}
use Rattle.registry_states.proofs.turning.read_root.Goals as goal

pub returns-in_err-head : goal.returns-in_err-head
returns-in_err-head c =
    let p = err_from_is_err_and c.from_residual.result c.from_residual.ensures.1 in
    let fails = rw c.no_name.ensures at c.in_err-head.ensures.taken in
    rw (p.1, p.2) (root_fails c.args.end c.args.items.now.items course c.in_err-head.field-0.0 c.args.fields.now c.take_head.new.fields c.args.items.now.items fails refl)

pub returns : goal.returns
returns c =
    let taken = rw c.no_name.ensures at c.in_ok-head.ensures.taken in
    root_given c.args.end c.args.items.now.items c.args.fields.now c.in_ok-head.head c.take_head.new.fields c.push.new.self.items taken c.in_ok-push.ensures.items
