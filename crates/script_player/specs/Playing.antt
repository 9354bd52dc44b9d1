-- A script that is played: its state, and what an event makes of it.
use Rattle.std.specs.Prelude.{◌≡◌, ℕ, ◌+◌, Bool, List, [], length, Option, None, Some, Ok, unwrap_or}
use Rattle.std.specs.BTreeMap.{insert_entry, is_at}
use Rattle.std.specs.List.{flat_map}
use Rattle.std.specs.Map.{lookup}
use Rattle.std.specs.Ordering.{nat_cmp}
use Rattle.cluster_worlds.specs.Conditions.{IsEvent}
use Rattle.cluster_worlds.specs.Runs.{Steps}
use Rattle.cluster_worlds.specs.Worlds.{WorldState}
use Rattle.cluster_worlds.specs.declared.event.Event.{Event}
use Rattle.cluster_worlds.specs.declared.event.Event.TheVariants.{Deliver, DieIn}
use Rattle.cluster_worlds.specs.declared.inner.Inner.{Inner}
use Rattle.cluster_worlds.specs.declared.inner.Inner.TheVariants as inner
use Rattle.cluster_worlds.specs.declared.told.Told.{Told}
use Rattle.world_laws.specs.Typed.{IsTypedEvent}
use Rattle.script_text.specs.declared.counts.Counts.{Counts}
use Rattle.script_text.specs.Counting.{counted, nothing}
use Rattle.script_text.specs.Prints.{prints}
use Rattle.script_player.specs.Marks.{grown, marked_if}

pub record Play : Type 0 where
  pub world : WorldState
  -- of each message, whether it was delivered or skipped
  pub marks : List Bool
  -- each connection that had request lines, by ascending numbers, with how many it had
  pub requests : List (ℕ × ℕ)
  -- how often values of each kind were told
  pub counts : Counts

abbrev pub first_play : WorldState → Play
first_play w = record { world = w; marks = []; requests = []; counts = nothing }

-- ---- the request lines

abbrev pub requests_of : ℕ → Play → ℕ
requests_of conn p = unwrap_or (lookup (is_at (nat_cmp conn)) p.requests) 0

-- The call id of the next request line: the bind had the first one.
abbrev pub call_id : ℕ → Play → ℕ
call_id conn p = requests_of conn p + 2

abbrev pub asked : ℕ → Play → Play
asked conn p = record p { requests = insert_entry nat_cmp p.requests conn (requests_of conn p + 1) }

-- ---- what is told

-- Each told value is a line.
unfoldable pub text_of : List Told → List ℕ
text_of told = flat_map prints told

-- ---- an event

abbrev pub delivered_in : Inner → Option ℕ
delivered_in (inner.Deliver number) = Some number
delivered_in event = None

-- The message that the event delivers, also where a node dies inside it.
abbrev pub delivered : Event → Option ℕ
delivered (Deliver number) = Some number
delivered (DieIn moment bytes event) = delivered_in event
delivered event = None

-- The event has come to the world, and this was told.
abbrev pub noted : Event → List Told → Play → Play
noted event told p = record p {
  marks = grown (length p.world.pool) (marked_if (delivered event) p.marks);
  counts = counted p.counts told;
}

abbrev pub in_world : WorldState → Play → Play
in_world w p = record p { world = w }

-- The event comes, and this is told.
pub record Comes (event : Event) (p : Play) (told : List Told) (q : Play) : Type 0 where
  pub allowed : IsEvent event
  pub typed : IsTypedEvent event
  pub steps : Steps event p.world (Ok told) q.world
  pub after : q ≡ noted event told (in_world q.world p)
