-- Why a line isn't played, by what refused it. Only private clauses cite it.
use Rattle.cluster_script.specs.declared.line_fault.LineFault.{LineFault}
use Rattle.cluster_script.specs.declared.line_fault.LineFault.TheVariants as line
use Rattle.cluster_worlds.specs.declared.step_fault.StepFault.{StepFault}
use Rattle.cluster_worlds.specs.declared.step_fault.StepFault.TheVariants as step
use Rattle.script_player.specs.declared.script_fault.ScriptFault.TheVariants.{Column, Event}
use Rattle.script_player.specs.declared.stop.Stop.{Stop}
use Rattle.script_player.specs.declared.stop.Stop.TheVariants.{Bad, Memory}

abbrev pub stop_of_step : StepFault → Stop
stop_of_step (step.BadEvent cause) = Bad (Event cause)
stop_of_step step.Memory = Memory

abbrev pub stop_of_line : LineFault → Stop
stop_of_line (line.Column column) = Bad (Column column)
stop_of_line line.Memory = Memory
