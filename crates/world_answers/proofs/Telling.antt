-- What a world tells clients is what the nodes' effects tell them.
use Rattle.std.proofs.Common.{◌≡◌, ℕ, ◌+◌, List, [], ◌∷◌, ◌++◌, length, refl, ap, ◌∙◌}
use Rattle.std.specs.Prelude.{map}
use Rattle.std.specs.Map.{keys_of}
use Rattle.update_records.specs.Entry.{Entry}
use Rattle.cluster_rules.specs.declared.effect.CloseCause.TheVariants.{NodeStopped}
use Rattle.cluster_rules.specs.declared.effect.Effect.{Effect}
use Rattle.cluster_rules.specs.declared.effect.Effect.TheVariants.{Acked, Batched, Closed, Halted, Opened, Reply, Send}
use Rattle.cluster_rules.specs.Worlds.{acked, sent}
use Rattle.client_connections.specs.Clients.{Client, closings}
use Rattle.cluster_node.specs.Explained.{told_to_clients}
use Rattle.cluster_node.specs.States.{NodeValue}
use Rattle.cluster_node.specs.Steps.{input_for}
use Rattle.cluster_worlds.specs.declared.told.Told.{Told}
use Rattle.cluster_worlds.specs.declared.told.Told.TheVariants as trace
use Rattle.cluster_worlds.specs.Telling.{joined, told_effects, told_of, told_order}
use Rattle.cluster_worlds.specs.Worlds.{WorldState}
use Rattle.world_answers.specs.Histories.{acknowledged_in, clients_told}

order_tells_none : (rs : List Entry) (ts : List Told) → clients_told (told_order rs ++ ts) ≡ clients_told ts
unfolding clients_told
order_tells_none [] ts = refl
order_tells_none (r ∷ rs) ts = order_tells_none rs ts

effects_tell : (node count : ℕ) (es : List Effect) → clients_told (told_effects node count es) ≡ told_to_clients es
unfolding clients_told told_effects
effects_tell node count [] = refl
effects_tell node count (Send p ∷ es) = effects_tell node (count + length (sent (Send p ∷ []))) es
effects_tell node count (Reply conn point bytes ∷ es) = ap (λ (t : List Effect). Reply conn point bytes ∷ t) (effects_tell node (count + length (sent (Reply conn point bytes ∷ []))) es)
effects_tell node count (Closed conn cause ∷ es) = ap (λ (t : List Effect). Closed conn cause ∷ t) (effects_tell node (count + length (sent (Closed conn cause ∷ []))) es)
effects_tell node count (Acked view place ∷ es) = ap (λ (t : List Effect). Acked view place ∷ t) (effects_tell node (count + length (sent (Acked view place ∷ []))) es)
effects_tell node count (Opened view ∷ es) = effects_tell node (count + length (sent (Opened view ∷ []))) es
effects_tell node count (Batched req point status index ∷ es) = ap (λ (t : List Effect). Batched req point status index ∷ t) (effects_tell node (count + length (sent (Batched req point status index ∷ []))) es)
effects_tell node count (Halted cause ∷ es) = effects_tell node (count + length (sent (Halted cause ∷ []))) es

-- of a node that did something
pub acts_tell : (effects : List Effect) (after : NodeValue) (w : WorldState) (told : List Told) → told ≡ told_of effects after w → clients_told told ≡ told_to_clients effects
acts_tell effects after w told is = ap clients_told is ∙ order_tells_none (joined w.order after) (told_effects after.number (length w.pool) effects) ∙ effects_tell after.number (length w.pool) effects

closed_tell : (conns : List ℕ) → clients_told (map (λ conn. trace.Closed conn NodeStopped) conns) ≡ map (λ conn. Closed conn NodeStopped) conns
unfolding clients_told
closed_tell [] = refl
closed_tell (c ∷ cs) = ap (λ (t : List Effect). Closed c NodeStopped ∷ t) (closed_tell cs)

-- of a node that died
pub death_tells : (conns : List (ℕ × Client)) (told : List Told) → told ≡ map (λ conn. trace.Closed conn NodeStopped) (keys_of conns) → clients_told told ≡ closings conns
death_tells conns told is = ap clients_told is ∙ closed_tell (keys_of conns)

-- the acknowledgement that came is the first one
pub input_told : (es : List Effect) → acknowledged_in (told_to_clients es) ≡ input_for (acked es)
unfolding acknowledged_in
input_told [] = refl
input_told (Send p ∷ es) = input_told es
input_told (Reply conn point bytes ∷ es) = input_told es
input_told (Closed conn cause ∷ es) = input_told es
input_told (Acked view place ∷ es) = refl
input_told (Opened view ∷ es) = input_told es
input_told (Batched req point status index ∷ es) = input_told es
input_told (Halted cause ∷ es) = input_told es

pub quiet_tells : (told : List Told) → told ≡ [] → clients_told told ≡ []
unfolding clients_told
quiet_tells told none = ap clients_told none
