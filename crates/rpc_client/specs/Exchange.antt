-- What a client says and sends, for its commands and its server's stream.
use Rattle.std.specs.Prelude.{◌≡◌, ℕ, ◌<◌, ◌≤◌, List, [], ◌∷◌, ◌++◌, length, take, Option, None, Some}
use Rattle.std.specs.List.{concat}
use Rattle.rpc_calls.specs.declared.call.Call.{Call}
use Rattle.rpc_calls.specs.declared.intake_fault.IntakeFault.{IntakeFault}
use Rattle.rpc_calls.specs.declared.intake_fault.IntakeFault.TheVariants.{Interleaved, Memory, Pdu, StubTooLong}
use Rattle.rpc_calls.specs.declared.item.Item.{Item}
use Rattle.rpc_calls.specs.declared.side.Side.TheVariants.{Client}
use Rattle.rpc_calls.specs.Streams.{Items, Reads}
use Rattle.client_commands.specs.declared.command.Command.{Command}
use Rattle.rpc_client.specs.declared.ask.Ask.{Ask}
use Rattle.rpc_client.specs.Runs.{Ending, Run, refuses, rests, waits, whole_run}

-- How much of a stream is looked at.
abbrev pub most_stream : ℕ
most_stream = 1_073_741_824

abbrev pub looked_at : List ℕ → List ℕ
looked_at stream = take most_stream stream

-- Where a fault of the stream stands.
abbrev pub place_of : IntakeFault → ℕ
place_of (Pdu place fault) = place
place_of (Interleaved place) = place
place_of (StubTooLong place) = place
place_of Memory = 0

-- Behind these items of the stream stands this one, whose last fragment begins at that place.
pub record StandsAt (stream : List ℕ) (before : List Item) (item : Item) (place : ℕ) : Type 0 where
  pub frames : List (List ℕ)
  pub frame : List ℕ
  pub rest : List ℕ
  pub behind : List ℕ
  pub held : Option Call
  pub left : Option Call
  pub not_before : Reads Client stream frames before held rest
  pub here : Reads Client stream (frames ++ frame ∷ []) (before ++ item ∷ []) left behind
  pub place_is : place ≡ length (concat frames)

-- How an exchange ends: nothing is awaited, more of the stream is awaited, or the stream is at fault at a place.
pub data End : Type 0 where
  nothing : End
  more : End
  fault : ℕ → End

-- An item is refused where its last fragment stands. Where an item is awaited, the place is that of the stream's own fault, or the
-- end of what is looked at, where the stream passes that.
abbrev pub IsBad : List ℕ → List Item → Option IntakeFault → Ending → ℕ → Type 0
IsBad stream items found (refuses (item ∷ others)) place =
    (before : List Item) × (items ≡ before ++ item ∷ others) × StandsAt (looked_at stream) before item place
IsBad stream items (Some found) waits place = place ≡ place_of found
IsBad stream items None waits place = (most_stream < length stream) × (place ≡ most_stream)
IsBad stream items found ending place = ⊥

abbrev pub IsEnd : End → List ℕ → List Item → Option IntakeFault → Ending → Type 0
IsEnd nothing stream items found ending = ending ≡ rests
IsEnd more stream items found ending = (ending ≡ waits) × (found ≡ None) × (length stream ≤ most_stream)
IsEnd (fault place) stream items found ending = IsBad stream items found ending place

-- The run of a client over the items of a stream.
pub record Ends (commands : List Command) (stream : List ℕ) (items : List Item) (found : Option IntakeFault) (given : List Ask) (end : End) : Type 0 where
  pub ending : Ending
  pub run : whole_run commands items ≡ (given, ending)
  pub is : IsEnd end stream items found ending

-- For these commands and this stream that is all that a client says and sends, in turn, and so it ends. A stream has one list of
-- items, and one fault or none.
abbrev pub Exchange : List Command → List ℕ → List Ask → End → Type 0
Exchange commands stream given end =
    (items : List Item) (found : Option IntakeFault) → Items Client (looked_at stream) items found → Ends commands stream items found given end

-- A run gives that first.
pub record GivesFirst (given : List Ask) (run : Run) : Type 0 where
  pub others : List Ask
  pub are : run.0 ≡ given ++ others

-- For these commands and this stream that is the first of what a client says and sends.
abbrev pub Begins : List Command → List ℕ → List Ask → Type 0
Begins commands stream given =
    (items : List Item) (found : Option IntakeFault) → Items Client (looked_at stream) items found → GivesFirst given (whole_run commands items)
