use Rattle.std.proofs.lemmas.List.{append_cancel_left}
use Rattle.causes.proofs.just_the_bytes_were_added.Goals as goal

pub returns : goal.returns
returns c = λ held added bytes is. append_cancel_left held added bytes is
