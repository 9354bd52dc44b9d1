use Rattle.gum_messages.proofs.MessageLaws.{whole_message_read}
use Rattle.gum_messages.proofs.laws.decodes_what_is_encoded.Goals as goal

pub returns : goal.returns
returns c = whole_message_read
