use Rattle.std.proofs.Common.{ap, length, arith}
use Rattle.hive_text.proofs.ChangeSizes.{length-setting}
use Rattle.hive_text.proofs.batching.take_value.Goals as goal

pub take-requires-clause-size : goal.take-requires-clause-size
take-requires-clause-size c =
    let value = c.args.value.now in
    rw (c.in_ok-key.ensures, c.in_ok-name.ensures, c.in_ok-bytes.ensures)
    (omega (arith, length-setting c.args.path.now value.name value.kind value.bytes, ap length c.units.ensures.text, ap length c.units-2.ensures.units, ap length c.as_slice.ensures))
