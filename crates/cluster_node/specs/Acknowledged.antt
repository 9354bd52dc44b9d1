-- Cited by private functions alone: where in a list of effects the head is acknowledged.
use Rattle.std.specs.Prelude.{◌≡◌, ℕ, ◌+◌, ◌<◌, ◌≤◌, List, [], ◌∷◌, ◌++◌, length, take, drop, Option, Some, None, option_to_list}
use Rattle.cluster_rules.specs.declared.effect.Effect.{Effect}
use Rattle.cluster_rules.specs.declared.effect.Effect.TheVariants.{Acked}
use Rattle.cluster_rules.specs.Worlds.{acked}
use Rattle.cluster_node.specs.Acting.{answered_with}
use Rattle.cluster_node.specs.declared.following.Ack.{Ack}

-- The place of the record that an effect acknowledges.
abbrev pub acks : Effect → Option ℕ
acks e = elim e [ Acked view place ↦ Some place | _ ↦ None ]

-- The first acknowledgement stands there.
pub record IsAckAt (index place : ℕ) (es : List Effect) : Type 0 where
  pub within : index < length es
  pub view : ℕ
  pub others : List (ℕ × ℕ)
  pub first : acked es ≡ (view, place) ∷ others
  pub splits : (answer : Option Effect) → answered_with answer es ≡ take (index + 1) es ++ (option_to_list answer ++ drop (index + 1) es)

abbrev pub IsAck : Option Ack → List Effect → Type 0
IsAck None es = acked es ≡ []
IsAck (Some ack) es = IsAckAt ack.index ack.place es

-- No effect before the index acknowledges the head.
pub record IsUnacked (index : ℕ) (es : List Effect) : Type 0 where
  pub within : index ≤ length es
  pub same : acked es ≡ acked (drop index es)
  pub front : (answer : Option Effect) → answered_with answer es ≡ take index es ++ answered_with answer (drop index es)
