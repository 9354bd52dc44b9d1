use Rattle.std.specs.Vec.Iter.{into_iter_items}
use Rattle.std.proofs.Common.{None}
use Rattle.registry_tree.specs.declared.value.Value.{Value}
use Rattle.registry_states.specs.Assembled.{values_in}
use Rattle.registry_states.proofs.Lasts.{rising_more}
use Rattle.registry_states.proofs.TreeLoops.{value_made, value_there, values_done}
use Rattle.registry_states.proofs.assembling.assemble_values.Goals as goal

pub next_value-requires : goal.next_value-requires
next_value-requires c =
    value_there c.values.values.items c.args.count c.values.counter (into_iter_items c.values.items) (values_in c.args.count None (into_iter_items c.args.items.now)) c.values-test.true c.requires c.values.invariant.made

pub values-preserved : goal.values-preserved
values-preserved c =
    let made = value_made c.values.values.items c.args.count c.values.counter (into_iter_items c.values.items) (values_in c.args.count None (into_iter_items c.args.items.now)) c.values-test.true c.requires c.values.invariant.made
    c.next_value.result (into_iter_items c.next_value.new.items) c.next_value.ensures in
    rw c.in_ok-push.ensures.items (record {
      made = made.1;
      rising = rising_more (λ (value : Value). value.name) c.values.values.items c.next_value.result made.0 c.values.invariant.rising;
    })

pub returns-clause-told : goal.returns-clause-told
returns-clause-told c =
    values_done c.values.values.items c.args.count c.values.counter (into_iter_items c.values.items) (values_in c.args.count None (into_iter_items c.args.items.now)) c.values-test.false c.values.invariant.made
