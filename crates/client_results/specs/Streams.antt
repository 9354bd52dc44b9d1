-- Streams of whole fragments.
use Rattle.std.specs.Prelude.{◌≡◌, ℕ, List}
use Rattle.std.specs.List.{concat}
use Rattle.rpc_calls.specs.declared.item.Item.{Item}
use Rattle.rpc_calls.specs.declared.side.Side.{Side}
use Rattle.rpc_calls.specs.Assembly.{no_call}
use Rattle.rpc_calls.specs.Streams.{Runs}

-- The stream is whole fragments, which give these items wherever they stand, and leave no call unfinished. So such streams are joined.
pub record IsWhole (side : Side) (stream : List ℕ) (items : List Item) : Type 0 where
  pub frames : List (List ℕ)
  pub joined : stream ≡ concat frames
  pub give : (place : ℕ) → Runs side place no_call frames items no_call
