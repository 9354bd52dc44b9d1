-- The record that a message has a node log: an Ask at the open locker, where the lock is free and the request is new.
use Rattle.std.specs.Prelude.{ℕ, Option, Some, None, if◌then◌else◌}
use Rattle.update_records.specs.Entry.{Entry}
use Rattle.update_records.specs.declared.update.Update.{Update}
use Rattle.gum_messages.specs.declared.body.Body.{Body}
use Rattle.gum_messages.specs.declared.body.Body.TheVariants.{Ask}
use Rattle.gum_messages.specs.Messages.{Sent}
use Rattle.gum_core.specs.declared.decision.Decision.{Decision}
use Rattle.gum_core.specs.declared.decision.Decision.TheVariants as decision
use Rattle.gum_core.specs.Updating as updating
use Rattle.cluster_rules.specs.Machines.{Machine}
use Rattle.cluster_rules.specs.Nodes.{NodeState, done_of}
use Rattle.cluster_rules.specs.Updates.{entry_for}
use Rattle.cluster_rules.specs.Receiving.{counts}

abbrev pub no_entry : Option Entry
no_entry = None

abbrev pub entry_of : {M : Machine} → NodeState M → Update → Decision → Option Entry
entry_of x update d = elim d [ decision.Write from req ↦ Some (entry_for x from req update) | _ ↦ no_entry ]

abbrev pub body_to_log : {M : Machine} → NodeState M → ℕ → Body → Option Entry
body_to_log x from body = elim body [ Ask req update ↦ entry_of x update (updating.asked x.core from req (done_of x)) | _ ↦ no_entry ]

abbrev pub to_log : {M : Machine} → NodeState M → Sent → Option Entry
to_log x p = if counts x p then body_to_log x p.from p.body else no_entry
