use Rattle.std.proofs.Common.{ap, ◌∙◌, subst, arith}
use Rattle.update_records.specs.Grammar.{first_record_of}
use Rattle.update_records.specs.Outcomes.{Decodes}
use Rattle.update_records.proofs.RecordLaws.{whole_first_read, first_is_found}
use Rattle.update_records.proofs.decoding.decode_first.Goals as goal

pub returns-clause-found : goal.returns-clause-found
returns-clause-found c = first_is_found c.args.bytes.now c.read_first_record.result (λ i. omega (arith, c.type_inv.bytes i)) c.read_first_record.ensures

pub returns-clause-only : goal.returns-clause-only
returns-clause-only c = λ entry is first e. subst (λ read. Decodes c.read_first_record.result read) (ap first_record_of e ∙ whole_first_read entry is first) c.read_first_record.ensures
