-- An update is submitted at a node that is alone.
use Rattle.std.proofs.Common.{◌≡◌, ◌+◌, ◌<◌, false, List, [], ◌∷◌, ◌++◌, length, Option, None, nat_eq, arith}
use Rattle.update_records.specs.declared.update.Update.{Update}
use Rattle.gum_core.specs.declared.lock.Lock.{Lock}
use Rattle.gum_core.specs.Updating.{last_request}
use Rattle.cluster_rules.specs.declared.effect.Effect.{Effect}
use Rattle.cluster_rules.specs.declared.effect.Effect.TheVariants.{Send}
use Rattle.cluster_rules.specs.Nodes.{becomes}
use Rattle.cluster_rules.specs.Updates.{submit}
use Rattle.registry_machine.specs.Machine.{registry_machine}
use Rattle.client_connections.specs.declared.origin.Origin.{Origin}
use Rattle.single_rules.specs.Single.{Single, ask, with_queue}
use Rattle.single_rules.proofs.Comparisons.{less}
use Rattle.single_items.specs.Standing.{Asked, Calm, Granting, Stuck, Way, node_on, queued_on}

-- With an empty queue it is asked for, whether or not the lock is free.
submits_first : (a : Single registry_machine) (lock : Option Lock) (u : Update) → a.passed < last_request
    → submit (with_queue a [] lock None) u ≡ becomes (with_queue a (u ∷ []) lock None) (Send (ask a u) ∷ [])
submits_first a lock u room = let l = less (a.passed + 0) last_request (omega arith) in simp l

-- Behind others it is only queued.
submits_behind : (a : Single registry_machine) (head : Update) (others : List Update) (u : Update) → a.passed + (1 + length others) < last_request
    → submit (with_queue a (head ∷ others) None None) u ≡ becomes (with_queue a (head ∷ (others ++ u ∷ [])) None None) []
submits_behind a head others u room =
    let l = less (a.passed + length (head ∷ others)) last_request (omega (arith, room)) in
    let n : nat_eq (length (head ∷ others)) 0 ≡ false = grind arith in
    simp (l, n)

-- No update is under way.
abbrev pub IsIdle : Way → Type 0
IsIdle (Calm lately) = Unit {0}
IsIdle (Asked lately origin u) = ⊥
IsIdle (Granting origin u) = ⊥
IsIdle (Stuck head others origins) = Unit {0}

abbrev pub pushed : Way → Origin → Update → Way
pushed (Calm lately) origin u = Asked lately origin u
pushed (Stuck head others origins) origin u = Stuck head (others ++ u ∷ []) (origins ++ origin ∷ [])
pushed way origin u = way

abbrev pub asks_on : Way → Single registry_machine → Update → List Effect
asks_on (Calm lately) a u = Send (ask a u) ∷ []
asks_on way a u = []

pub submits_on : (way : Way) (a : Single registry_machine) (origin : Origin) (u : Update) → IsIdle way → a.passed + queued_on way < last_request
    → submit (node_on way a) u ≡ becomes (node_on (pushed way origin u) a) (asks_on way a u)
submits_on (Calm lately) a origin u idle room = submits_first a _ u (omega (arith, room))
submits_on (Asked lately o v) a origin u idle room = absurd idle
submits_on (Granting o v) a origin u idle room = absurd idle
submits_on (Stuck head others origins) a origin u idle room = submits_behind a head others u room
