-- Cited by private functions alone: one turn of the loop that takes items, and what stands between two steps of an event.
use Rattle.std.specs.Prelude.{◌≡◌, ℕ, ◌<◌, ◌≤◌, ◌+◌, true, not, List, [], ◌∷◌, ◌++◌, length, Option, Some, None}
use Rattle.rpc_calls.specs.declared.item.Item.{Item}
use Rattle.rpc_calls.specs.Intakes.{Holds, Kept}
use Rattle.rpc_assoc.specs.State.{State}
use Rattle.cluster_rules.specs.declared.effect.CloseCause.{CloseCause}
use Rattle.cluster_rules.specs.declared.effect.Effect.TheVariants.{Closed}
use Rattle.client_connections.specs.declared.taken.Taken.{Taken}
use Rattle.client_connections.specs.declared.took.Ending.{Ending}
use Rattle.client_connections.specs.declared.took.Ending.TheVariants.{Fails}
use Rattle.client_connections.specs.declared.connections.Heard.{Heard}
use Rattle.client_connections.specs.declared.connections.Heard.TheVariants.{Refused, Went}
use Rattle.client_connections.specs.declared.origin.Origin.{Origin}
use Rattle.client_connections.specs.Clients.{Client, Clients, Common, client_at, left_if_open, may_take, put_back}
use Rattle.client_connections.specs.Taking.{Course, Ends, Serving, Takes, cause_of, fed_client, is_rest, refusal, takes_one}
use Rattle.client_connections.specs.Items.{most_taken}

abbrev pub course_of : Common → State → Taken → Course
course_of common association taken = record { common = common; association = association; effects = taken.effects.items; update = taken.update }

-- One item was taken.
pub record WentOn (v : Serving) (c : ℕ) (before after : Kept) (p q : Course) : Type 0 where
  pub item : Item
  pub may : may_take c p.common ≡ true
  pub course : q ≡ takes_one v c p item
  pub side : after.side ≡ before.side
  pub holds : (stream : List ℕ) (given : List Item) → Holds before stream given → Holds after stream (given ++ item ∷ [])

-- None was taken.
pub record Ended (c : ℕ) (before after : Kept) (p q : Course) (ending : Ending) : Type 0 where
  pub course : q ≡ p
  pub side : after.side ≡ before.side
  pub rests : may_take c p.common ≡ not (is_rest ending)
  pub stands : (stream : List ℕ) (given : List Item) → Holds before stream given → Holds after stream given × Ends ending stream given

abbrev pub IsTurn : Serving → ℕ → Kept → Kept → Course → Course → Option Ending → Type 0
IsTurn v c before after p q None = WentOn v c before after p q
IsTurn v c before after p q (Some ending) = Ended c before after p q ending

-- Only an item that was taken is followed by a further turn.
abbrev pub IsShorter : Kept → Kept → Option Ending → Type 0
IsShorter before after None = length after.rest < length before.rest
IsShorter before after (Some ending) = Unit {0}

-- The items of a connection that is open were taken, and nothing followed yet.
pub record GoneOn (v : Serving) (c : ℕ) (k : Client) (s t : Clients) (before after : Taken) (ending : Ending) : Type 0 where
  pub client : Client
  pub takes : Takes v c k.intake client.intake (course_of s.common k.association before) (course_of t.common client.association after) ending
  pub clients : t ≡ put_back c t.common client s

abbrev pub GoesSoFar : Serving → ℕ → Option Client → Clients → Clients → Taken → Taken → Option Ending → Type 0
GoesSoFar v c None s t before after None = (t ≡ s) × (after ≡ before)
GoesSoFar v c (Some k) s t before after (Some ending) = GoneOn v c k s t before after ending
GoesSoFar v c client s t before after ending = ⊥

-- The connection was closed.
pub record IsClosed (c : ℕ) (cause : CloseCause) (s t : Clients) (before after : Taken) : Type 0 where
  pub clients : t ≡ left_if_open c (client_at c s) s
  pub effects : after.effects.items ≡ before.effects.items ++ Closed c cause ∷ []
  pub update : after.update ≡ before.update

-- What follows of the ending.
abbrev pub EndsBy : ℕ → Ending → Clients → Clients → Taken → Taken → Type 0
EndsBy c (Fails fault) s t before after = IsClosed c (cause_of fault) s t before after
EndsBy c ending s t before after = (t ≡ s) × (after ≡ before)

-- A piece was taken in or refused, and nothing followed yet.
abbrev pub HeardBy : Option Heard → Serving → ℕ → List ℕ → Client → Clients → Clients → Taken → Taken → Type 0
HeardBy None v c piece k s t before after = ⊥
HeardBy (Some (Refused cause)) v c piece k s t before after = (refusal k.intake piece ≡ Some cause) × (t ≡ put_back c s.common k s) × (after ≡ before)
HeardBy (Some (Went ending)) v c piece k s t before after = (refusal k.intake piece ≡ None) × GoneOn v c (fed_client k piece) s t before after ending

abbrev pub HearsSoFar : Option Client → Option Heard → Serving → ℕ → List ℕ → Clients → Clients → Taken → Taken → Type 0
HearsSoFar None None v c piece s t before after = (t ≡ s) × (after ≡ before)
HearsSoFar None (Some heard) v c piece s t before after = ⊥
HearsSoFar (Some k) heard v c piece s t before after = HeardBy heard v c piece k s t before after

-- A piece isn't kept that is refused.
abbrev pub fed_unless : Option CloseCause → List ℕ → Client → Client
fed_unless None piece k = fed_client k piece
fed_unless (Some cause) piece k = k

-- ---- finishing

-- An update that waits leaves room for a handle.
pub record HasRoom (s : Common) : Type 0 where
  pub handles : s.table.serials + length s.waiting < s.taken
  pub items : s.taken ≤ most_taken

abbrev pub IsPopped : Option Origin → Common → Common → Type 0
IsPopped None old new = (old.waiting ≡ []) × (new ≡ old)
IsPopped (Some origin) old new = (old.waiting ≡ origin ∷ new.waiting) × (new ≡ record old { waiting = new.waiting }) × HasRoom new
