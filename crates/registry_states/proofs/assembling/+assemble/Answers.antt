use Rattle.std.specs.Vec.Iter.{into_iter_items}
use Rattle.std.proofs.Common.{None, arith}
use Rattle.registry_defs.specs.Nodes.{Node}
use Rattle.registry_tree.specs.Values.{entries_of}
use Rattle.registry_states.specs.Assembled.{node_in, nodes_in}
use Rattle.registry_states.proofs.Lasts.{rising_more}
use Rattle.registry_states.proofs.TreeLoops.{count_there, deep_enough, head_there, node_made, node_there, node_whole, nodes_done, subkeys_there, values_there}
use Rattle.registry_states.proofs.assembling.+assemble.Goals as goal

pub assemble-next_head-part-requires : goal.assemble-next_head-part-requires
assemble-next_head-part-requires t c = head_there c.args.depth (into_iter_items c.args.items.now) c.requires

pub assemble-assemble_values-requires : goal.assemble-assemble_values-requires
assemble-assemble_values-requires t c =
    values_there c.args.depth (into_iter_items c.args.items.now) c.requires c.next_head-part.result (into_iter_items c.next_head-part.new.items) c.next_head-part.ensures

pub assemble-next_count-count-requires : goal.assemble-next_count-count-requires
assemble-next_count-count-requires t c =
    count_there c.args.depth (into_iter_items c.args.items.now) c.requires c.next_head-part.result (into_iter_items c.next_head-part.new.items) c.next_head-part.ensures
    (entries_of c.in_ok-values.values.items) (into_iter_items c.assemble_values.new.items) c.in_ok-values.ensures.told

pub assemble-overflow_sub-depth : goal.assemble-overflow_sub-depth
assemble-overflow_sub-depth t c = deep_enough c.args.depth (into_iter_items c.args.items.now) c.requires

pub assemble-assemble_subkeys-requires : goal.assemble-assemble_subkeys-requires
assemble-assemble_subkeys-requires t c =
    let deep = deep_enough c.args.depth (into_iter_items c.args.items.now) c.requires in (
      omega (arith, deep),
      subkeys_there c.args.depth (into_iter_items c.args.items.now) c.requires c.next_head-part.result (into_iter_items c.next_head-part.new.items) c.next_head-part.ensures
          (entries_of c.in_ok-values.values.items) (into_iter_items c.assemble_values.new.items) c.in_ok-values.ensures.told
          c.next_count-count.result (into_iter_items c.next_count-count.new.items) c.next_count-count.ensures,
    )

pub assemble-returns : goal.assemble-returns
assemble-returns t c =
    node_whole c.args.depth (into_iter_items c.args.items.now) c.requires c.next_head-part.result (into_iter_items c.next_head-part.new.items) c.next_head-part.ensures
    (entries_of c.in_ok-values.values.items) (into_iter_items c.assemble_values.new.items) c.in_ok-values.ensures.told
    c.next_count-count.result (into_iter_items c.next_count-count.new.items) c.next_count-count.ensures
    c.in_ok-subkeys.subkeys.items (into_iter_items c.assemble_subkeys.new.items) c.of.result c.in_ok-subkeys.ensures.told c.of.ensures.here c.of.ensures.below

pub assemble_subkeys-assemble-requires : goal.assemble_subkeys-assemble-requires
assemble_subkeys-assemble-requires t c = (
  omega arith,
  node_there (node_in c.args.depth) c.subkeys.subkeys.items c.args.count c.subkeys.counter (into_iter_items c.subkeys.items) (nodes_in (node_in c.args.depth) c.args.count None (into_iter_items c.args.items.now)) c.subkeys-test.true c.requires c.subkeys.invariant.made,
)

pub assemble_subkeys-subkeys-preserved : goal.assemble_subkeys-subkeys-preserved
assemble_subkeys-subkeys-preserved t c =
    let made = node_made (node_in c.args.depth) c.subkeys.subkeys.items c.args.count c.subkeys.counter (into_iter_items c.subkeys.items) (nodes_in (node_in c.args.depth) c.args.count None (into_iter_items c.args.items.now)) c.subkeys-test.true c.requires c.subkeys.invariant.made
    c.in_ok-next.next (into_iter_items c.assemble.new.items) c.in_ok-next.ensures in
    rw c.in_ok-push.ensures.items (record {
      made = made.1;
      rising = rising_more (λ (node : Node). node.here.part) c.subkeys.subkeys.items c.in_ok-next.next made.0 c.subkeys.invariant.rising;
    })

pub assemble_subkeys-returns-clause-told : goal.assemble_subkeys-returns-clause-told
assemble_subkeys-returns-clause-told t c =
    nodes_done (node_in c.args.depth) c.subkeys.subkeys.items c.args.count c.subkeys.counter (into_iter_items c.subkeys.items) (nodes_in (node_in c.args.depth) c.args.count None (into_iter_items c.args.items.now)) c.subkeys-test.false c.subkeys.invariant.made
