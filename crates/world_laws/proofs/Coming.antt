-- What an event of a member leaves of it.
use Rattle.std.proofs.Common.{◌≡◌, ◌⊎◌, ℕ, List, [], ◌∷◌, ◌++◌, length, Option, Some, None, Result, Ok, Err, OnOk, refl, ap, ◌∙◌, subst}
use Rattle.update_records.specs.Entry.{Entry}
use Rattle.disk_core.specs.Views.{DiskView}
use Rattle.quorum_log.specs.Logs.{LogValue}
use Rattle.cluster_rules.specs.declared.effect.Effect.{Effect}
use Rattle.cluster_rules.specs.declared.effect.Effect.TheVariants.{Halted}
use Rattle.cluster_rules.specs.Nodes.{NodeState, Out, done_of, number_of}
use Rattle.cluster_rules.specs.Worlds.{Log}
use Rattle.cluster_laws.proofs.Lockers.{StaysAt}
use Rattle.registry_machine.specs.Machine.{registry_machine}
use Rattle.log_order.specs.Refinement.{Owns}
use Rattle.cluster_member.specs.declared.stop.Stop.{Stop}
use Rattle.cluster_member.specs.declared.stop.Stop.TheVariants as stop
use Rattle.cluster_member.specs.Events.{Comes}
use Rattle.cluster_member.specs.States.{MemberState}
use Rattle.member_rules.specs.declared.told.Told.{Told}
use Rattle.world_laws.proofs.Quiet.{KeepsLog, stays_log}
use Rattle.world_laws.proofs.Tied.{Bare, IsLogOfView, OwnFacts, rules_in}

-- What is left of it, and what it told.
abbrev pub left : Result Told Stop → MemberState → Option MemberState
left (Ok told) y = Some y
left (Err fault) y = None

abbrev pub tells : Result Told Stop → List Effect
tells (Ok told) = told.effects
tells (Err (stop.Halted cause)) = Halted cause ∷ []
tells (Err stop.Memory) = []

-- memory sufficed
abbrev pub Sufficed : Result Told Stop → Type 0
Sufficed (Err stop.Memory) = ⊥
Sufficed came = Unit {0}

pub no_memory : (came : Result Told Stop) → Sufficed came → came ≡ Err stop.Memory → ⊥
no_memory (Ok told) s e = cc
no_memory (Err (stop.Halted cause)) s e = cc
no_memory (Err stop.Memory) s e = s

pub comes_left : (out : Out registry_machine) (came : Result Told Stop) (y : MemberState) → Sufficed came → Comes out came y.rules → (out.node ≡ rules_in (left came y)) × (out.effects ≡ tells came)
comes_left out (Ok told) y s c = (c.node, c.effects)
comes_left out (Err (stop.Halted cause)) y s c = c
comes_left out (Err stop.Memory) y s c = absurd s

-- a rule that goes on
pub record WentOn (came : Result Told Stop) (y : MemberState) (z : NodeState registry_machine) : Type 0 where
  pub told : Told
  pub came_is : came ≡ Ok told
  pub rules : y.rules ≡ z

pub went_on : (came : Result Told Stop) (y : MemberState) (z : NodeState registry_machine) → Some z ≡ rules_in (left came y) → WentOn came y z
went_on (Ok told) y z e = record { told = told; came_is = refl; rules = cc }
went_on (Err fault) y z e = absurd (cc)

-- a rule that halts
pub halted : (came : Result Told Stop) (y : MemberState) → None ≡ rules_in (left came y) → left came y ≡ None
halted (Ok told) y e = absurd (cc)
halted (Err fault) y e = refl

pub left_ok : (came : Result Told Stop) (y : MemberState) (told : Told) → came ≡ Ok told → left came y ≡ Some y
left_ok came y told e = ap (λ (r : Result Told Stop). left r y) e

pub kept_ok : (came : Result Told Stop) (told : Told) (P : Type 0) → came ≡ Ok told → OnOk came P → P
kept_ok (Ok told) t P e k = k
kept_ok (Err fault) t P e k = absurd (cc)

pub left_keeps : (b : Bare) (n : ℕ) (m y : MemberState) (came : Result Told Stop) → b.members n ≡ Some m → StaysAt m.rules (rules_in (left came y)) → OnOk came (y.log ≡ m.log) → KeepsLog b n (left came y)
left_keeps b n m y (Ok told) at stays kept = stays_log b n m m.rules y at stays kept
left_keeps b n m y (Err fault) at stays kept = λ z e. absurd (cc)

-- the log that it has behind the event
pub own_left : (came : Result Told Stop) (y : MemberState) (l : Log) (disk : DiskView)
    → ((told : Told) (log : LogValue) → came ≡ Ok told → y.log ≡ Some log → IsLogOfView y log × (number_of y.rules ≡ l.held → Owns l disk log)) → OwnFacts (left came y) l disk
own_left (Ok told) y l disk h z log e f =
    let q : y ≡ z = cc in
    subst (λ (t : MemberState). IsLogOfView t log × (number_of t.rules ≡ l.held → Owns l disk log)) q (h told log refl (ap (λ (t : MemberState). t.log) q ∙ f))
own_left (Err fault) y l disk h z log e f = absurd (cc)

pub own_none : (o : Option MemberState) (l : Log) (disk : DiskView) → o ≡ None → OwnFacts o l disk
own_none o l disk none y log e f = absurd (cc)

-- ---- the order grows

-- It is as before, or has a record more, which the node that is left has applied.
abbrev pub Grows : List Entry → List Entry → Option MemberState → Type 0
Grows old new o = (new ≡ old) ⊎ ((e : Entry) × (y : MemberState) × (new ≡ old ++ e ∷ []) × (o ≡ Some y) × (done_of y.rules ≡ length new))
