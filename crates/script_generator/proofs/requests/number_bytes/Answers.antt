use Rattle.std.proofs.Common.{arith}
use Rattle.wire_fields.specs.declared.endian.Endian.TheVariants.{Little}
use Rattle.wire_fields.proofs.NumberLaws.{length-num}
use Rattle.script_generator.proofs.requests.number_bytes.Goals as goal

pub returns-clause-short : goal.returns-clause-short
returns-clause-short c = rw (c.new.ensures, c.into_bytes.ensures, c.in_ok-u32.ensures, c.new-put.ensures, length-num Little 4 c.args.number) (omega arith)
