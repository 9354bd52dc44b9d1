-- The number and the text of each status.
use Rattle.std.specs.Prelude.{ℕ, List, [], ◌∷◌, ◌++◌, codes}
use Rattle.std.specs.Fmt.{decimal}
use Rattle.std.specs.List.{concat}
use Rattle.script_player.specs.declared.script_fault.ScriptFault.{ScriptFault}
use Rattle.script_player.specs.declared.script_fault.ScriptFault.TheVariants.{Column, Event}
use Rattle.script_text.specs.Refusals.{bad_column_text, bad_event_text}
use Rattle.clus_cli.specs.declared.status.Status.{Status}
use Rattle.clus_cli.specs.declared.status.Status.TheVariants.{Done, BadScript, Usage, ReadFault, WriteFault, DiskFault, NoMemory, BadLog, Fenced, TooLong, BadCommand, BadReply, NoPeer}

abbrev pub number_of : Status → ℕ
number_of Done = 0
number_of (BadScript line fault) = 1
number_of Usage = 2
number_of ReadFault = 3
number_of WriteFault = 4
number_of DiskFault = 5
number_of NoMemory = 6
number_of (BadLog place) = 7
number_of TooLong = 8
number_of (Fenced held) = 9
number_of (BadCommand line column) = 12
number_of (BadReply place) = 13
number_of NoPeer = 14

abbrev pub bad_script_text : ℕ → ScriptFault → List ℕ
bad_script_text line (Column column) = bad_column_text line column
bad_script_text line (Event cause) = bad_event_text line cause

unfoldable pub bad_command_text : ℕ → ℕ → List ℕ
bad_command_text line column = concat (codes "bad command: line " ∷ decimal line ∷ codes ", column " ∷ decimal column ∷ [])

abbrev pub text_of : Status → List ℕ
text_of Done = []
text_of (BadScript line fault) = bad_script_text line fault
text_of Usage = codes "usage: mscs session [STAMP], serve ADDR COUNT [STAMP], replay, drill NUMBER EVENTS, format CAP, showlog"
text_of ReadFault = codes "read fault"
text_of WriteFault = codes "write fault"
text_of DiskFault = codes "disk fault"
text_of NoMemory = codes "no memory"
text_of (BadLog place) = codes "bad log: place " ++ decimal place
text_of TooLong = codes "script too long"
text_of (Fenced held) = codes "fenced by claim " ++ decimal held
text_of (BadCommand line column) = bad_command_text line column
text_of (BadReply place) = codes "bad reply: place " ++ decimal place
text_of NoPeer = codes "no peer"
