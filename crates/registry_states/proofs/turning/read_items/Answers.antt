use Rattle.registry_states.proofs.Reaching.{goes_on, starts}
use Rattle.registry_states.proofs.turning.read_items.Goals as goal

pub items-init : goal.items-init
items-init c = starts c.args.end c.args.items.now.items c.args.ahead.now c.args.fields.now

pub items-preserved : goal.items-preserved
items-preserved c =
    let read = rw c.in-Ok-On.field-0-is at c.in-Ok-On.ensures in
    goes_on c.args.end c.args.items.now.items c.args.ahead.now c.args.fields.now c.items.items.items c.items.ahead c.items.fields c.items.invariant c.advance.new.items.items c.advance.new.ahead c.advance.new.fields read
