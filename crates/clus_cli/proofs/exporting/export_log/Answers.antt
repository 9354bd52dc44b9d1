use Rattle.std.proofs.Common.{refl, inl, inr}
use Rattle.clus_cli.specs.Export.{export_text}
use Rattle.clus_cli.specs.Showlog.{IsRefused}
use Rattle.clus_cli.proofs.BadLogs.{refused_at, shown_at}
use Rattle.clus_cli.proofs.ShowLaws.{printed_err}
use Rattle.clus_cli.proofs.exporting.export_log.Goals as goal

pub returns-in-Err-clause-runs : goal.returns-in-Err-clause-runs
returns-in-Err-clause-runs g c =
    let v = g.D.Disk.view c.args.disk.now in
    let w = g.D.Disk.view c.open_log.new.disk in
    let held = g.K.Sink.written c.args.output.now in
    let refused : IsRefused v held c.in-Err.status w held = record { why = c.in-Err.ensures.refused; silent = refl } in
    record {
      ends = inl refused;
      exact = λ told place bad. refused_at v held c.in-Err.status w held place told (g.met.D.Disk.whole c.args.disk.now told) refused bad;
      unchanged = c.in-Err.ensures.unchanged;
    }

pub returns-in-Ok-print_registry-clause-runs : goal.returns-in-Ok-print_registry-clause-runs
returns-in-Ok-print_registry-clause-runs g c =
    let found = c.in-Ok.ensures.found.found in
    record {
      ends = inr (record {
        held_before = found.held_before;
        held = found.held;
        log = c.in-Ok.opened.found;
        contents = c.in-Ok.opened.contents;
        read = found.read;
        decoded = c.in-Ok.ensures.found.decoded;
        good = found.good;
        prints = c.in-Ok-print_registry.ensures.prints;
      });
      exact = λ told place bad. shown_at (g.D.Disk.view c.args.disk.now) c.in-Ok.opened.found place told (g.met.D.Disk.whole c.args.disk.now told) found.good bad;
      unchanged = c.in-Ok.ensures.unchanged;
    }

pub returns-in-Err-print_registry-clause-runs : goal.returns-in-Err-print_registry-clause-runs
returns-in-Err-print_registry-clause-runs g c =
    let found = c.in-Ok.ensures.found.found in
    let text = export_text c.in-Ok.opened.found c.in-Ok.opened.contents in
    let prints = printed_err (g.K.Sink.written c.args.output.now) (g.K.Sink.written c.print_registry.new.output) text c.in-Err-print_registry.status c.in-Err-print_registry.ensures.prints in
    record {
      ends = inr (record {
        held_before = found.held_before;
        held = found.held;
        log = c.in-Ok.opened.found;
        contents = c.in-Ok.opened.contents;
        read = found.read;
        decoded = c.in-Ok.ensures.found.decoded;
        good = found.good;
        prints = prints;
      });
      exact = λ told place bad. shown_at (g.D.Disk.view c.args.disk.now) c.in-Ok.opened.found place told (g.met.D.Disk.whole c.args.disk.now told) found.good bad;
      unchanged = c.in-Ok.ensures.unchanged;
    }
