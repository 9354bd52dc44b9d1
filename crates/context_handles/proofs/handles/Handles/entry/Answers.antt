use Rattle.std.proofs.Common.{sym, ◌∙◌, arith}
use Rattle.std.specs.BTreeMap.{is_at}
use Rattle.std.specs.Ordering.{nat_cmp}
use Rattle.context_handles.specs.Encoding.{is_handle_of}
use Rattle.context_handles.proofs.Entries.{lookup_by, lookup_none}
use Rattle.context_handles.proofs.Serials.{no_test, same_test}
use Rattle.context_handles.proofs.handles.Handles.entry.Goals as goal

pub returns-then-not-is_handle_of : goal.returns-then-not-is_handle_of
returns-then-not-is_handle_of c =
    let table = c.self.inside in
    let handle = c.args.handle.now in
    rw (← c.self.view_is)
    (sym (lookup_none (is_handle_of table.node handle) table.serials
    (λ k within. no_test table.node handle c.serial_in-serial.result k c.serial_in-serial.ensures (sym c.is_handle_of.ensures ∙ c.if-not-is_handle_of.true) (omega (arith, c.self.invariant.few)))
    table.entries.entries c.self.invariant.given))

pub returns : goal.returns
returns c =
    let table = c.self.inside in
    let handle = c.args.handle.now in
    rw (← c.self.view_is)
    (c.get.ensures.value ∙ lookup_by (is_at (nat_cmp c.serial_in-serial.result)) (is_handle_of table.node handle) table.serials
    (λ k within. same_test table.node handle c.serial_in-serial.result k c.serial_in-serial.ensures (sym c.is_handle_of.ensures ∙ c.if-not-is_handle_of.false) (omega (arith, c.self.invariant.few)))
    table.entries.entries c.self.invariant.given)
