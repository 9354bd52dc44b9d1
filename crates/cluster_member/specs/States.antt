-- What a node keeps without its connections: what its rules speak of, and the log that it writes.
use Rattle.std.specs.Prelude.{◌≡◌, ◌↔◌, ℕ, ◌+◌, IsTrue, Option, Some, None, option_map, if◌then◌else◌, nat_eq}
use Rattle.update_records.specs.Entry.{Entry}
use Rattle.quorum_log.specs.Logs.{LogValue}
use Rattle.gum_messages.specs.Messages.{IsOffered}
use Rattle.view_reconcile.specs.Joining as joining
use Rattle.cluster_rules.specs.Nodes.{NodeState, Replica, fresh, number_of}
use Rattle.registry_machine.specs.Machine.{ReplicatedRegistry, registry_machine}

pub record MemberState : Type 0 where
  pub rules : NodeState registry_machine
  -- The log that it opened as the locker of its view.
  pub log : Option LogValue

abbrev pub fresh_member : ℕ → ℕ → MemberState
fresh_member node inc = record { rules = fresh registry_machine node inc; log = None }

-- ---- what a call can see

-- None before the first view.
abbrev pub view_number : MemberState → Option ℕ
view_number m = if nat_eq (number_of m.rules) 0 then None else Some (number_of m.rules)

abbrev pub registry_in : MemberState → Option ReplicatedRegistry
registry_in m = option_map (λ r. r.registry) m.rules.replica

-- ---- what every member keeps

-- The log is that of a view, and holds as many records as the registry has applied.
pub record IsLogOf (view : ℕ) (r : Replica registry_machine) (last : Option Entry) (log : LogValue) : Type 0 where
  pub claim : log.claim ≡ view
  pub cap : log.cap ≡ r.registry.cap
  pub count : log.base + log.records ≡ r.done
  pub none : (last ≡ None) ↔ (r.done ≡ 0)

abbrev pub OwnsLog : ℕ → Option (Replica registry_machine) → Option Entry → Option LogValue → Type 0
OwnsLog view None last log = ⊥
OwnsLog view (Some r) last None = ⊥
OwnsLog view (Some r) last (Some log) = IsLogOf view r last log

-- A locker that is ready has the log of its view.
pub record HasLog (x : NodeState registry_machine) (log : Option LogValue) : Type 0 where
  pub owns : IsTrue (joining.is_ready x.join) → IsTrue (joining.locks x.join) → OwnsLog (number_of x) x.replica x.last log

-- A log that was opened under the number of a view, with so many records.
pub record IsLogAt (view count cap : ℕ) (last : Option Entry) (log : LogValue) : Type 0 where
  pub claim : log.claim ≡ view
  pub same_cap : log.cap ≡ cap
  pub counted : log.base + log.records ≡ count
  pub no_last : (last ≡ None) ↔ (count ≡ 0)
  pub offered : IsOffered count cap
