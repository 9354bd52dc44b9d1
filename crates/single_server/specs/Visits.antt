-- A connection of a door: what the node heard of it, and what the door tells of that.
use Rattle.std.specs.Prelude.{◌≡◌, ◌≢◌, ◌⊎◌, ℕ, ◌+◌, ◌<◌, ◌≤◌, List, [], ◌∷◌, ◌++◌, length, take, Option, Some, None}
use Rattle.edge_io.specs.Visits.{Visit}
use Rattle.rpc_calls.specs.declared.intake_fault.IntakeFault.{IntakeFault}
use Rattle.rpc_calls.specs.declared.item.Item.{Item}
use Rattle.rpc_calls.specs.declared.side.Side.TheVariants.{Server}
use Rattle.rpc_calls.specs.Intakes.{Kept}
use Rattle.rpc_calls.specs.Streams.{Items}
use Rattle.update_records.specs.Entry.{Entry}
use Rattle.cluster_rules.specs.declared.effect.CloseCause.{CloseCause}
use Rattle.client_connections.specs.Taking.{refusal}
use Rattle.single_items.specs.Alone.{AloneRun, alone, next_alone}
use Rattle.single_items.specs.Standing.{IsKeptFrom}
use Rattle.single_server.specs.Session.{most_stream, piece_length}

-- ---- at the node

-- What was heard of a connection: its stream, the items of that, and its fault if it has one. Behind it a piece may have been read
-- that is no part of it.
pub record Talk : Type 0 where
  pub stream : List ℕ
  pub given : List Item
  pub fault : Option IntakeFault
  pub unused : List ℕ

abbrev pub HasItems : Talk → Type 0
HasItems talk = Items Server talk.stream talk.given talk.fault

-- Alone's connections in turn, from number `c` on: the records of all, and where the next one begins.
unfoldable pub records_of : ℕ → AloneRun → List Talk → List Entry
records_of c first [] = []
records_of c first (talk ∷ talks) = (alone c first talk.given).records ++ records_of (c + 1) (next_alone (alone c first talk.given)) talks

unfoldable pub first_behind : ℕ → AloneRun → List Talk → AloneRun
first_behind c first [] = first
first_behind c first (talk ∷ talks) = first_behind (c + 1) (next_alone (alone c first talk.given)) talks

-- ---- at the door

-- All that its client sends.
abbrev pub input_of : Visit → List ℕ
input_of visit = visit.taken ++ visit.left

-- A read or a write of it failed.
abbrev pub IsBroken : Visit → Type 0
IsBroken visit = (0 < visit.failed_reads) ⊎ (0 < visit.failed_writes)

-- The text was sent, and where a write failed, a front of it.
abbrev pub IsSent : Visit → List ℕ → Type 0
IsSent visit text = ((visit.failed_writes ≡ 0) × (visit.written ≡ text)) ⊎ ((0 < visit.failed_writes) × (count : ℕ) × (visit.written ≡ take count text))

-- ---- why no more of it was heard

-- The node refused the piece behind the stream, by what its intake kept of that.
abbrev pub IsRefused : List ℕ → List ℕ → Type 0
IsRefused stream piece = (kept : Kept) × (given : List Item) × (cause : CloseCause) × IsKeptFrom kept stream given × (refusal kept piece ≡ Some cause)

-- All was read; or a call of it failed; or its stream has a fault; or the piece behind it is more than one connection may send, or
-- than may wait unprocessed.
abbrev pub IsOver : Talk → Visit → Type 0
IsOver talk visit =
    ((talk.unused ≡ []) × (visit.left ≡ []))
    ⊎ (IsBroken visit ⊎ ((talk.fault ≢ None) ⊎ ((most_stream < length talk.stream + length talk.unused) ⊎ IsRefused talk.stream talk.unused)))

-- The connection `c` was served, where Alone began with `first`.
pub record IsServed (c : ℕ) (first : AloneRun) (talk : Talk) (visit : Visit) : Type 0 where
  pub taken : visit.taken ≡ talk.stream ++ talk.unused
  pub short : length talk.unused ≤ piece_length
  pub over : IsOver talk visit
  pub sent : IsSent visit (alone c first talk.given).output

-- One after another, from number `c` on.
unfoldable pub AreServed : ℕ → AloneRun → List Talk → List Visit → Type 0
AreServed c first [] [] = Unit {0}
AreServed c first (talk ∷ talks) (visit ∷ visits) = IsServed c first talk visit × AreServed (c + 1) (next_alone (alone c first talk.given)) talks visits
AreServed c first talks visits = ⊥
