use Rattle.std.proofs.Common.{◌≡◌, ◌↔◌, [], IfOk, Ok, Err, None}
use Rattle.record_log.proofs.Texts.{text_none}
use Rattle.update_records.specs.Entry.{record_text}
use Rattle.record_log.proofs.adding.encode_last.Goals as goal

pub returns-in-Some-clause-none : goal.returns-in-Some-clause-none
returns-in-Some-clause-none c = elim c.encode.result as (λ r. IfOk r (λ bytes. bytes.items ≡ record_text c.in-Some.entry.now) → IfOk r (λ bytes. (bytes.items ≡ []) ↔ (c.args.last ≡ None))) [
  | Ok bytes ↦ λ written. (λ none. absurd (text_none c.in-Some.entry.now bytes.items written none), λ none. absurd (cc (c.in-Some.is, none)))
  | Err e ↦ λ _. tt
] c.encode.ensures.written
