use Rattle.std.proofs.Common.{◌≡◌, refl, ap, arith}
use Rattle.context_handles.specs.declared.held.Entry.{Entry}
use Rattle.context_handles.specs.Table.{Table}
use Rattle.context_handles.proofs.Entries.{insert_last, more_given}
use Rattle.context_handles.proofs.handles.Handles.open.Goals as goal

pub invariant_of-self-2 : goal.invariant_of-self-2
invariant_of-self-2 c =
    let entry : Entry = record { group = c.args.group; held = c.args.held } in
    let table = c.self.inside in
    record {
      given = rw (c.in_ok-insert.ensures.entries, insert_last table.serials entry table.entries.entries c.self.invariant.given) (more_given table.serials entry table.entries.entries c.self.invariant.given);
      few = let same : table.serials ≡ c.args.self.now.serials = ap (λ (t : Table). t.serials) c.self.view_is in omega (arith, c.requires);
    }

pub returns-clause-opened : goal.returns-clause-opened
returns-clause-opened c =
    let entry : Entry = record { group = c.args.group; held = c.args.held } in
    let table = c.self.inside in
    rw (← c.self.view_is, c.in_ok-insert.ensures.entries, insert_last table.serials entry table.entries.entries c.self.invariant.given) refl
