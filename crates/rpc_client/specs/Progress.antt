-- How much a client has yet to give, and how much it may be fed: both come to an end.
use Rattle.std.specs.Prelude.{◌≡◌, ℕ, ◌+◌, ◌*◌, ◌-◌, ◌<◌, Bool, true, false, length, Option, None, Some}
use Rattle.rpc_calls.specs.Intakes.{stream_length}
use Rattle.rpc_client.specs.declared.ask.Ask.{Ask}
use Rattle.rpc_client.specs.declared.ask.Ask.TheVariants.{Line, Wait, Write}
use Rattle.rpc_client.specs.Clients.{Kept}
use Rattle.rpc_client.specs.Exchange.{most_stream}

-- ---- what is to be given

abbrev pub count : {A : Type 0} → Option A → ℕ
count None = 0
count (Some x) = 1

-- The bytes that aren't taken yet, and the item that isn't answered. No fragment has a single byte.
abbrev pub work : Kept → ℕ
work kept = 2 * length kept.intake.rest + count kept.item

-- An item comes to two lines and one request at most.
abbrev pub to_give : Kept → ℕ
to_give kept = 4 * work kept + length kept.lines + count kept.sent

-- What was given isn't given again.
abbrev pub LeavesLess : Ask → Kept → Kept → Type 0
LeavesLess (Line line) old new = to_give new < to_give old
LeavesLess (Write bytes) old new = to_give new < to_give old
LeavesLess ask old new = Unit {0}

-- A turn that gives nothing takes something up.
abbrev pub TurnLeavesLess : Option Ask → Kept → Kept → Type 0
TurnLeavesLess None old new = to_give new < to_give old
TurnLeavesLess (Some ask) old new = LeavesLess ask old new

-- ---- what may be fed

-- Where the stream passes what is looked at, nothing that is fed makes a difference.
abbrev pub if_not_passed : Bool → ℕ
if_not_passed true = 0
if_not_passed false = 1

abbrev pub to_feed : Kept → ℕ
to_feed kept = (most_stream - stream_length kept.intake) + if_not_passed kept.passed

-- A client that waits looks at all of its stream, and fewer bytes are unprocessed than the longest fragment has.
pub record IsOpen (kept : Kept) : Type 0 where
  pub looks : kept.passed ≡ false
  pub few : kept.intake.unprocessed < 65536

abbrev pub IsOpenAfter : Ask → Kept → Type 0
IsOpenAfter Wait kept = IsOpen kept
IsOpenAfter ask kept = Unit {0}
