use Rattle.std.proofs.Common.{◌≡◌, ◌+◌}
use Rattle.clus_cli.specs.Export.{logged_keys}
use Rattle.clus_cli.proofs.ExportLaws.{IsAppliedTo}
use Rattle.clus_cli.proofs.exporting.logged_registry.Given as goal

abbrev pub invariant-records : goal.invariant-records
invariant-records l = record {
  entries : l.entry-items ≡ l.fn.opened.contents.records;
  applied : IsAppliedTo l.fn.opened.found.cap (l.fn.opened.found.base + 1) l.entry-items (logged_keys l.fn.opened.found l.fn.opened.contents) l.entry-index l.registry;
}
