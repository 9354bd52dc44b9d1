-- What the answers of the log below come to.
use Rattle.std.proofs.Common.{ℕ, ◌≤◌, [], ◌∷◌, Ok, Err, refl, inl, inr}
use Rattle.disk_core.specs.Calls.{Made, claim, sync}
use Rattle.disk_core.specs.Views.{DiskView}
use Rattle.quorum_log.specs.declared.found.Found.{Found}
use Rattle.quorum_log.specs.declared.fault.OpenFault.{OpenFault}
use Rattle.quorum_log.specs.declared.fault.OpenFault.TheVariants as open_faults
use Rattle.quorum_log.specs.Opening.{OpenCalls, OpenFails, WasRead}
use Rattle.record_log.specs.declared.fault.RecordFault.{RecordFault}
use Rattle.record_log.specs.declared.fault.RecordFault.TheVariants.{Failed, Fenced, Image, Memory}
use Rattle.record_log.specs.Faults.{record_fault}
use Rattle.record_log.specs.Opening.{Decoding, OpensTo}

claimed_before : (token : ℕ) (v w : DiskView) → Made (claim token ∷ sync token ∷ []) v (Ok tt) w → v.current.held ≤ token
unfolding Made
claimed_before token v w (inl made) = made.1.1.answer.0
claimed_before token v w (inr refused) = absurd (cc (refused.2))

-- Where the log below was opened, the disk held no greater token before.
pub held_before : (token : ℕ) (v w : DiskView) (found : Found) → OpenCalls token v (Ok found) w → v.current.held ≤ token
held_before token v w found (inl claimed) = claimed_before token v claimed.0 claimed.1
held_before token v w found (inr refused) = absurd (cc (refused.2))

pub opening_fails : (token : ℕ) (v w : DiskView) (fault : OpenFault) → OpenFails token v w fault → OpensTo token v (Err (record_fault fault)) w
opening_fails token v w open_faults.Failed is = is
opening_fails token v w (open_faults.Fenced held) is = is
opening_fails token v w open_faults.Blank is = (is.held_before, inl (refl, is.blank))
opening_fails token v w (open_faults.BadImage place) is = (is.0, inr (inl is.1))
opening_fails token v w open_faults.Memory is = tt

pub decoding_fails : (token : ℕ) (v w : DiskView) (found : Found) (fault : RecordFault) → v.current.held ≤ token → WasRead v found → Decoding found (Err fault) → OpensTo token v (Err fault) w
decoding_fails token v w found Failed held read is = absurd is
decoding_fails token v w found (Fenced other) held read is = absurd is
decoding_fails token v w found (Image place) held read is = (held, inr (inr (found, read, is)))
decoding_fails token v w found Memory held read is = tt
