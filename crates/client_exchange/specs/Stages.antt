-- A client between two replies.
use Rattle.std.specs.Prelude.{◌≡◌, ℕ, ◌+◌, ◌%◌, ◌^◌, ◌<◌, ◌≤◌, Bool, true, false, List, Option, None, Some, IfSome, replicate}
use Rattle.ndr_values.specs.declared.handle.WireHandle.{WireHandle}
use Rattle.client_commands.specs.declared.command.Command.{Command}
use Rattle.client_commands.specs.Commands.{CommandFits}
use Rattle.client_exchange.specs.declared.stage.Stage.{Stage}
use Rattle.client_exchange.specs.declared.stage.Stage.TheVariants.{Acting, Binding, Closing, Listing, Resting, Rooting, Starting}

pub record AskingState : Type 0 where
  pub stage : Stage
  -- the command that was started last
  pub command : Option Command
  -- the handle of the root
  pub root : WireHandle
  -- the request that was sent last: its operation number and its call id
  pub opnum : ℕ
  pub call_id : ℕ
  -- the longest fragment that is sent
  pub max_xmit : ℕ

-- The longest and the shortest fragment that an association may ask for.
abbrev pub greatest : ℕ
greatest = 5840

abbrev pub least : ℕ
least = 1432

abbrev pub no_handle : WireHandle
no_handle = record { attributes = 0; id = replicate 16 0 }

-- A client that was told nothing yet. The bind has the first call id.
abbrev pub fresh : AskingState
fresh = record { stage = Binding; command = None; root = no_handle; opnum = 0; call_id = 1; max_xmit = greatest }

-- An entry is asked for where there is one.
abbrev pub StageFits : Stage → Type 0
StageFits (Listing key index count) = index < count
StageFits stage = Unit {0}

-- What is always so.
pub record IsAsking (stage : Stage) (command : Option Command) (max_xmit : ℕ) : Type 0 where
  pub stage_fits : StageFits stage
  pub command_fits : IfSome command CommandFits
  pub least_xmit : least ≤ max_xmit
  pub greatest_xmit : max_xmit ≤ greatest

abbrev pub is_resting : Stage → Bool
is_resting Resting = true
is_resting stage = false

-- Call ids count up. None comes twice on a connection, which has fewer replies than there are ids.
abbrev pub next_id : AskingState → ℕ
next_id s = (s.call_id + 1) % 2 ^ 32
