-- Which fault below a fault of a log of records hands on.
use Rattle.quorum_log.specs.declared.fault.OpenFault.{OpenFault}
use Rattle.quorum_log.specs.declared.fault.OpenFault.TheVariants as open_faults
use Rattle.log_contents.specs.declared.fault.ContentsFault.{ContentsFault}
use Rattle.log_contents.specs.declared.fault.ContentsFault.TheVariants as contents_faults
use Rattle.record_log.specs.declared.fault.RecordFault.{RecordFault}
use Rattle.record_log.specs.declared.fault.RecordFault.TheVariants.{Failed, Fenced, Image, Memory}

abbrev pub record_fault : OpenFault → RecordFault
record_fault open_faults.Failed = Failed
record_fault (open_faults.Fenced held) = Fenced held
record_fault open_faults.Blank = Image 0
record_fault (open_faults.BadImage place) = Image place
record_fault open_faults.Memory = Memory

abbrev pub contents_fault : ContentsFault → RecordFault
contents_fault (contents_faults.Bad place) = Image place
contents_fault contents_faults.Memory = Memory
