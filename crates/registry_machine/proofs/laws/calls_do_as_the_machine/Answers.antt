use Rattle.registry_machine.proofs.Calls.{begins_as_machine, applies_as_machine, encodes_as_machine, reads_as_machine, fails_as_machine}
use Rattle.registry_machine.proofs.laws.calls_do_as_the_machine.Goals as goal

pub returns-clause-begins : goal.returns-clause-begins
returns-clause-begins c = begins_as_machine

pub returns-clause-apply : goal.returns-clause-apply
returns-clause-apply c = applies_as_machine

pub returns-clause-encoded : goal.returns-clause-encoded
returns-clause-encoded c = encodes_as_machine

pub returns-clause-read : goal.returns-clause-read
returns-clause-read c = reads_as_machine

pub returns-clause-refused : goal.returns-clause-refused
returns-clause-refused c = fails_as_machine
