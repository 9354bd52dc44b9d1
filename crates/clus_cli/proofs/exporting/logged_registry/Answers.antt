use Rattle.std.proofs.Common.{◌≡◌, ◌+◌, ◌<◌, List, length, get_or, subst}
use Rattle.registry_defs.specs.Applying.{update_applied}
use Rattle.registry_defs.specs.Contents.{keys_in}
use Rattle.update_records.specs.Entry.{Entry}
use Rattle.clus_registry.specs.Outcomes.{IsApplied}
use Rattle.clus_cli.specs.Export.{logged_keys}
use Rattle.clus_cli.proofs.ExportLaws.{all_applied, more_applied, none_applied, place_of}
use Rattle.clus_cli.proofs.exporting.logged_registry.Goals as goal

pub records-init : goal.records-init
records-init c =
    let found = c.args.opened.found in
    let held = c.args.opened.contents in
    record {
      entries = c.as_slice-entry-items.ensures;
      applied = none_applied found.cap (found.base + 1) c.as_slice-entry-items.result.now held.records held.registry c.as_slice-entry-items.ensures c.requires.state.read.same_cap;
    }

pub records-preserved : goal.records-preserved
records-preserved c =
    let found = c.args.opened.found in
    let held = c.args.opened.contents in
    let entries = c.as_slice-entry-items.result.now in
    let entry = c.entry-item.result in
    let placed = place_of found.version (found.base + 1) found.records held.records c.records.entry-index entry c.requires.records
    (subst (λ (es : List Entry). c.records.entry-index < length es) c.records.invariant.entries c.records-test.true)
    (subst (λ (es : List Entry). entry ≡ get_or es c.records.entry-index entry) c.records.invariant.entries c.entry-item.is) in
    let before = c.records.registry in
    let applied = subst (λ (e : Entry). IsApplied c.in_ok-apply.field-0 before c.apply.new.self (update_applied before.cap e.place e.stamp e.update (keys_in before))) c.entry.view_is c.in_ok-apply.ensures in
    record {
      entries = c.records.invariant.entries;
      applied = more_applied found.cap (found.base + 1) entries (logged_keys found held) c.records.entry-index before c.apply.new.self entry c.in_ok-apply.field-0
          c.records-test.true c.entry-item.is placed c.records.invariant.applied applied;
    }

pub returns : goal.returns
returns c =
    let found = c.args.opened.found in
    all_applied found.cap (found.base + 1) c.as_slice-entry-items.result.now (logged_keys found c.args.opened.contents) c.records.entry-index c.records.registry c.records-test.false c.records.invariant.applied
