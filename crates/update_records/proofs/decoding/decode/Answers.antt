use Rattle.std.proofs.Common.{ap, ◌∙◌, subst, arith}
use Rattle.update_records.specs.Grammar.{record_of}
use Rattle.update_records.specs.Outcomes.{Decodes}
use Rattle.update_records.proofs.RecordLaws.{whole_record_read, record_is_found}
use Rattle.update_records.proofs.decoding.decode.Goals as goal

pub returns-clause-found : goal.returns-clause-found
returns-clause-found c = record_is_found c.args.bytes.now c.read_record.result (λ i. omega (arith, c.type_inv.bytes i)) c.read_record.ensures

pub returns-clause-only : goal.returns-clause-only
returns-clause-only c = λ entry is e. subst (λ read. Decodes c.read_record.result read) (ap record_of e ∙ whole_record_read entry is) c.read_record.ensures
