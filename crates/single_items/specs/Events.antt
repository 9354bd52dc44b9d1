-- An event of a node: an event of the protocol, or a piece of a stream, and what its connections make of it. A connection
-- whose update was acknowledged is answered and takes further items; an update that these queue is submitted.
use Rattle.std.specs.Prelude.{◌≡◌, ℕ, ◌+◌, List, [], ◌∷◌, ◌++◌, Option, Some, None, option_map, nat_eq, if◌then◌else◌}
use Rattle.std.specs.Option.{option_to_list}
use Rattle.update_records.specs.declared.update.Update.{Update}
use Rattle.registry_defs.specs.Keys.{Keys}
use Rattle.gum_messages.specs.Messages.{Sent}
use Rattle.view_reconcile.specs.Joining as joining
use Rattle.cluster_rules.specs.declared.effect.Effect.{Effect}
use Rattle.cluster_rules.specs.declared.effect.Effect.TheVariants.{Acked, Reply}
use Rattle.cluster_rules.specs.Nodes.{NodeState, Out, done_of, nothing}
use Rattle.cluster_rules.specs.Receiving.{receive}
use Rattle.cluster_rules.specs.Updates.{Answer, submit}
use Rattle.cluster_rules.specs.Worlds.{acked}
use Rattle.registry_machine.specs.Machine.{registry_machine}
use Rattle.client_connections.specs.Clients.{Clients, client_at}
use Rattle.client_connections.specs.Finishing.{Finish, finished}
use Rattle.client_connections.specs.Taking.{Hears, Resumes, Serving, serving}

-- ---- what the connections see of the node

abbrev pub keys_if_open : NodeState registry_machine → Option Keys
keys_if_open x = if joining.is_open x.join then option_map (λ replica. replica.registry.keys) x.replica else None

abbrev pub serving_by : NodeState registry_machine → Serving
serving_by x = serving (keys_if_open x) (done_of x)

-- ---- a connection takes items

abbrev pub submitted_if : Option Update → NodeState registry_machine → Out registry_machine
submitted_if None x = nothing x
submitted_if (Some u) x = submit x u

-- The node and its connections behind the items, and the effects.
pub record IsServedBy (Took : Clients → List Effect → Option Update → Type 0) (x y : NodeState registry_machine) (t : Clients) (es : List Effect) : Type 0 where
  pub told : List Effect
  pub update : Option Update
  pub took : Took t told update
  pub node : (submitted_if update x).node ≡ Some y
  pub effects : es ≡ told ++ (submitted_if update x).effects

-- A piece of the stream of connection `c`.
abbrev pub PieceComes : ℕ → List ℕ → NodeState registry_machine → Clients → NodeState registry_machine → Clients → List Effect → Type 0
PieceComes c piece x s y t es = IsServedBy (Hears (serving_by x) c piece (client_at c s) s) x y t es

-- The connection whose update was answered, if it is open, takes further items.
abbrev pub GoesFurther : Option ℕ → NodeState registry_machine → Clients → NodeState registry_machine → Clients → List Effect → Type 0
GoesFurther None x s y t es = (y ≡ x) × (t ≡ s) × (es ≡ [])
GoesFurther (Some c) x s y t es = IsServedBy (Resumes (serving_by x) c (client_at c s) s) x y t es

-- ---- an event of the protocol

-- The answer stands right behind the acknowledgement.
abbrev pub answer_behind : List Effect → List Effect → List Effect
answer_behind answer [] = []
answer_behind answer (Acked view place ∷ es) = Acked view place ∷ (answer ++ es)
answer_behind answer (e ∷ es) = e ∷ answer_behind answer es

abbrev pub AnswersHead : Finish → Out registry_machine → NodeState registry_machine → NodeState registry_machine → Clients → List Effect → Type 0
AnswersHead end out m y t es =
    (more : List Effect) × GoesFurther end.resumes m end.clients y t more × (es ≡ answer_behind (option_to_list end.effect) out.effects ++ more)

-- What follows of the acknowledgements of an event behind `passed` finished requests, which left the node `m`.
abbrev pub FollowsAcks : List (ℕ × ℕ) → ℕ → Clients → Out registry_machine → NodeState registry_machine → NodeState registry_machine → Clients → List Effect → Type 0
FollowsAcks [] passed s out m y t es = (y ≡ m) × (t ≡ s) × (es ≡ out.effects)
FollowsAcks ((view, place) ∷ others) passed s out m y t es = AnswersHead (finished s.common.waiting (passed + 1) place out.outcome s) out m y t es

-- A message comes; `held` is the fencing token of the disk, `answer` what the log's calls came to.
pub record MessageComes (p : Sent) (held : ℕ) (answer : Answer) (x : NodeState registry_machine) (s : Clients) (y : NodeState registry_machine) (t : Clients) (es : List Effect) : Type 0 where
  pub left : NodeState registry_machine
  pub node : (receive x p held answer).out.node ≡ Some left
  pub follows : FollowsAcks (acked (receive x p held answer).out.effects) x.core.passed s (receive x p held answer).out left y t es

-- ---- what a connection is sent

abbrev pub told_by : ℕ → Effect → List ℕ
told_by c (Reply conn point bytes) = if nat_eq conn c then bytes else []
told_by c e = []

abbrev pub told_to : ℕ → List Effect → List ℕ
told_to c [] = []
told_to c (e ∷ es) = told_by c e ++ told_to c es
