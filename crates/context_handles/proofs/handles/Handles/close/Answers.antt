use Rattle.std.proofs.Common.{◌≡◌, true, is_some, sym, ap, ◌∙◌, subst}
use Rattle.context_handles.specs.Table.{Table, found}
use Rattle.context_handles.proofs.Entries.{removed_given}
use Rattle.context_handles.proofs.Closing.{closes, is_some_map}
use Rattle.context_handles.proofs.handles.Handles.close.Goals as goal

pub invariant_of-self : goal.invariant_of-self
invariant_of-self c = record {
  given = rw c.remove.ensures.entries (removed_given _ c.self.inside.serials c.self.inside.entries.entries c.self.invariant.given);
  few = c.self.invariant.few;
}

pub returns-clause-closed : goal.returns-clause-closed
returns-clause-closed c =
    let table : Table = record {
      node = c.self.inside.node;
      groups = c.self.inside.groups;
      serials = c.self.inside.serials;
      members = c.self.inside.members.items;
      entries = c.self.inside.entries.entries;
    } in
    let is_open : is_some (found c.args.self.now c.args.group c.args.handle.now) ≡ true =
    ap is_some (sym c.find.ensures) ∙ is_some_map (λ held. held.now) c.find.result ∙ c.if-is_none.ensures in
    let open_there : is_some (found table c.args.group c.args.handle.now) ≡ true =
    subst (λ (t : Table). is_some (found t c.args.group c.args.handle.now) ≡ true) (sym c.self.view_is) is_open in
    rw (← c.self.view_is, c.remove.ensures.entries)
    (closes table c.args.group c.args.handle.now c.serial_in.result c.serial_in.ensures c.self.invariant open_there)
