use Rattle.std.proofs.Common.{ℕ, List, length, take, sym, ap, ◌∙◌}
use Rattle.std.proofs.lemmas.List.{append_cancel_left}
use Rattle.causes.proofs.Laws.{front_by_length}
use Rattle.causes.proofs.a_front_was_added.Goals as goal

pub returns : goal.returns
returns c = λ held added bytes (count, is).
    let front = append_cancel_left held added (take count bytes) is in
    front ∙ sym (front_by_length count bytes) ∙ sym (ap (λ (x : List ℕ). take (length x) bytes) front)
