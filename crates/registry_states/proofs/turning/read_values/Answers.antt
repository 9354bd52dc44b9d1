use Rattle.std.proofs.lemmas.Result.{err_from_is_err_and}
use Rattle.std.proofs.Common.{refl}
use Rattle.registry_tree.specs.Values.{value_data}
use Rattle.registry_states.specs.Turns.{course}
use Rattle.registry_states.proofs.ItemReads.{values_fail, values_given}
use Rattle.registry_states.proofs.turning.read_values.Goals as goal

pub returns-in_err-value : goal.returns-in_err-value
returns-in_err-value c =
    let p = err_from_is_err_and c.from_residual.result c.from_residual.ensures.1 in
    let fails = rw c.deref.ensures.value at c.in_err-value.ensures in
    rw (p.1, p.2) (values_fail c.args.end c.args.items.now.items c.args.left c.args.used c.args.depth c.if-left-eq0.false course c.in_err-value.field-0.0 c.args.fields.now c.take_value.new.fields c.args.items.now.items fails refl)

pub returns : goal.returns
returns c =
    let taken = rw c.deref.ensures.value at c.in_ok-value.ensures in
    values_given c.args.end c.args.items.now.items c.args.left c.args.used c.args.depth c.if-left-eq0.false c.args.fields.now (value_data c.in_ok-value.value) c.take_value.new.fields c.push.new.self.items taken c.in_ok-push.ensures.items
