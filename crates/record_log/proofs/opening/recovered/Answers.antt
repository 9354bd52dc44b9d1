use Rattle.std.proofs.Common.{◌+◌, ◌∙◌, length, refl, ap}
use Rattle.std.specs.Prelude.{List}
use Rattle.update_records.specs.Entry.{Entry}
use Rattle.cluster_rules.specs.Machines.{replay}
use Rattle.registry_machine.specs.Machine.{registry_machine, replicated}
use Rattle.record_log.proofs.Lasts.{recovered_is}
use Rattle.record_log.proofs.opening.recovered.Goals as goal

pub returns : goal.returns
returns c =
    let found = c.args.found.now in
    let contents = c.in_ok-contents.contents in
    let counted = ap length c.as_slice.ensures in
    recovered_is found contents _ c.in_ok-contents.ensures.found (ap (λ n. found.base + n) counted) refl c.last_behind.ensures
    (c.in_ok-registry.ensures.replayed ∙ ap (λ (l : List Entry). replay registry_machine l (replicated contents.registry)) c.as_slice-2.ensures) c.in_ok-registry.ensures.cap
