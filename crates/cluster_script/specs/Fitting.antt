-- What a line has, however it was read.
use Rattle.std.specs.Prelude.{◌≤◌, length}
use Rattle.gum_messages.specs.Messages.{IsNode}
use Rattle.cluster_worlds.specs.Conditions.{IsEvent}
use Rattle.cluster_script.specs.declared.line.Line.{Line}
use Rattle.cluster_script.specs.declared.line.Line.TheVariants.{Bind, Cap, Empty, Pick, Pump, Request, Show, Skip, Step}

abbrev pub LineFits : Line → Type 0
LineFits Empty = Unit {0}
LineFits (Cap cap) = (4_096 ≤ cap) × (cap ≤ 16_777_216)
LineFits (Step event) = IsEvent event
LineFits (Pump count) = Unit {0}
LineFits (Skip count) = Unit {0}
LineFits (Pick pick) = Unit {0}
LineFits (Bind conn) = Unit {0}
LineFits (Request conn opnum stub) = length stub ≤ 5_816
LineFits (Show node) = IsNode node
