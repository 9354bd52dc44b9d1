-- A part that is at fault behind good ones is the first.
use Rattle.std.proofs.Common.{◌+◌, Option, Err, inl, inr}
use Rattle.quorum_log.specs.declared.found.Found.{Found}
use Rattle.update_records.specs.Entry.{Entry}
use Rattle.registry_defs.specs.Contents.{Contents}
use Rattle.log_contents.specs.declared.fault.ContentsFault.{ContentsFault}
use Rattle.log_contents.specs.declared.fault.ContentsFault.TheVariants.{Bad, Memory}
use Rattle.log_contents.specs.Contents.{IsState, IsLast}
use Rattle.log_contents.specs.Faults.{FailsOn, IsPart, ArePart}

pub last_fails : (found : Found) (fault : ContentsFault) (registry : Contents) → IsState found registry → IsPart (IsLast found) found.last_at (Err fault) → FailsOn found fault
last_fails found (Bad place) registry state h = inr (inl (registry, state, h.0, h.1))
last_fails found Memory registry state h = tt

pub records_fail : (found : Found) (fault : ContentsFault) (registry : Contents) (last : Option Entry) → IsState found registry → IsLast found last → ArePart found.version (found.base + 1) found.records (Err fault) → FailsOn found fault
records_fail found (Bad place) registry last state before h = inr (inr (registry, last, state, before, h))
records_fail found Memory registry last state before h = tt
