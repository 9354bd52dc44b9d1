-- What clients queue are updates, whatever bytes they send.
use Rattle.std.specs.Prelude.{ℕ, Bool, List, Option, IfSome}
use Rattle.wire_fields.specs.Numbers.{IsBytes}
use Rattle.update_records.specs.declared.update.Update.{Update}
use Rattle.update_records.specs.Limits.{IsUpdate}
use Rattle.registry_defs.specs.declared.outcome.Outcome.{Outcome}
use Rattle.cluster_rules.specs.declared.effect.Effect.{Effect}
use Rattle.client_connections.specs.Clients.{Clients, client_at, connected, hung_up, no_clients}
use Rattle.client_connections.specs.Finishing.{batched, finished}
use Rattle.client_connections.specs.Taking.{Hears, Resumes, Serving}
use Rattle.client_laws.specs.Typed.{AreBornIn, AreTyped, IsBorn}

-- What is queued is an update, and the clients behind the event are typed.
pub record QueuesUpdate (t : Clients) (queued : Option Update) : Type 0 where
  pub clients : AreTyped t
  pub update : IfSome queued IsUpdate

abbrev pub BeginTyped : Type 0
BeginTyped = (node : ℕ) → AreTyped (no_clients node)

abbrev pub HearsTyped : Type 0
HearsTyped =
    (v : Serving) (conn : ℕ) (piece : List ℕ) (s t : Clients) (told : List Effect) (queued : Option Update) → AreTyped s → AreBornIn v.keys → IsBytes piece
    → Hears v conn piece (client_at conn s) s t told queued → QueuesUpdate t queued

abbrev pub ResumesTyped : Type 0
ResumesTyped =
    (v : Serving) (conn : ℕ) (s t : Clients) (told : List Effect) (queued : Option Update) → AreTyped s → AreBornIn v.keys
    → Resumes v conn (client_at conn s) s t told queued → QueuesUpdate t queued

abbrev pub FinishesTyped : Type 0
FinishesTyped =
    (s : Clients) (req place : ℕ) (outcome : Option Outcome) → AreTyped s → IfSome outcome IsBorn
    → AreTyped (finished s.common.waiting req place outcome s).clients

abbrev pub ConnectsTyped : Type 0
ConnectsTyped = (s : Clients) (conn : ℕ) → AreTyped s → AreTyped (connected conn s).0

abbrev pub HangsUpTyped : Type 0
HangsUpTyped = (s : Clients) (conn : ℕ) → AreTyped s → AreTyped (hung_up conn (client_at conn s) s).0

abbrev pub BatchesTyped : Type 0
BatchesTyped = (s : Clients) (is_open : Bool) → AreTyped s → AreTyped (batched is_open s).0
