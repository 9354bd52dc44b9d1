-- The registry and the last record behind the first records of an order.
use Rattle.std.proofs.Common.{◌≡◌, ℕ, ◌≤◌, List, [], ◌∷◌, ◌++◌, length, take, Some, None, refl, sym, ap, ◌∙◌, subst, arith}
use Rattle.std.proofs.lemmas.Option.{slice_get-get_or}
use Rattle.std.specs.List.{AllByRecursion}
use Rattle.std.proofs.lemmas.List.{take-append-le}
use Rattle.update_records.specs.Entry.{Entry, IsRecord}
use Rattle.registry_defs.specs.Contents.{IsCap, keys_in}
use Rattle.registry_defs.specs.Limits.{IsRegistry}
use Rattle.registry_defs.specs.Sizes.{size}
use Rattle.registry_defs.specs.Spelling.{registry_text}
use Rattle.registry_defs.proofs.Held.{entries_are}
use Rattle.clus_registry.specs.States.{IsReadFrom}
use Rattle.cluster_rules.specs.Joins.{last_of}
use Rattle.cluster_rules.specs.Machines.{registry_at, replay}
use Rattle.registry_machine.specs.Machine.{ReplicatedRegistry, IsFitting, empty_registry, registry_machine, record_applied}
use Rattle.registry_machine.specs.Laws.{IsWithin}
use Rattle.registry_machine.proofs.Orders.{order_keeps}
use Rattle.log_order.specs.Orders.{contents_of, last_behind, registry_behind}

-- ---- the registry

fitting : (e : Entry) → IsRecord e → IsFitting e
fitting e is = record { first = is.placed.first; last = is.placed.last; stamp = is.stamp; update = is.update }

pub all_fitting : (order : List Entry) → AllByRecursion IsRecord order → AllByRecursion IsFitting order
all_fitting [] all = tt
all_fitting (e ∷ es) all = (fitting e all.0, all_fitting es all.1)

pub within : (cap : ℕ) (order : List Entry) (count : ℕ) → IsCap cap → AllByRecursion IsRecord order → IsWithin cap (registry_at registry_machine cap order count).keys
within cap order count is all = order_keeps cap order count is (all_fitting order all)

same_cap : (e : Entry) (registry : ReplicatedRegistry) → (record_applied e registry).0.cap ≡ registry.cap
unfolding record_applied
same_cap e registry = refl

replay_cap : (order : List Entry) (registry : ReplicatedRegistry) → (replay registry_machine order registry).cap ≡ registry.cap
replay_cap [] registry = refl
replay_cap (e ∷ es) registry = replay_cap es (record_applied e registry).0 ∙ same_cap e registry

pub cap_behind : (cap : ℕ) (order : List Entry) (count : ℕ) → (registry_behind cap order count).cap ≡ cap
cap_behind cap order count = replay_cap (take count order) (empty_registry cap)

pub keys_behind : (cap : ℕ) (order : List Entry) (count : ℕ) → IsWithin cap (registry_at registry_machine cap order count).keys
    → keys_in (registry_behind cap order count) ≡ (registry_at registry_machine cap order count).keys
keys_behind cap order count is = entries_are (registry_at registry_machine cap order count).keys is.limits

-- It is read from its own bytes.
pub reads_behind : (cap : ℕ) (order : List Entry) (count : ℕ) → IsWithin cap (registry_at registry_machine cap order count).keys
    → IsReadFrom cap (registry_text (keys_in (registry_behind cap order count))) (registry_behind cap order count)
reads_behind cap order count is =
    let keys = keys_behind cap order count is in
    record {
      same_cap = cap_behind cap order count;
      limits = subst IsRegistry (sym keys) is.limits;
      text = refl;
      fits = subst (λ es. size es ≤ cap) (sym keys) is.fits;
    }

-- The first records of a longer order.
pub push_behind : (cap : ℕ) (order more : List Entry) (count : ℕ) → count ≤ length order → registry_behind cap (order ++ more) count ≡ registry_behind cap order count
push_behind cap order more count most = ap (λ es. contents_of (replay registry_machine es (empty_registry cap))) (take-append-le count order more most)

pub replay_joined : (first others : List Entry) (registry : ReplicatedRegistry) → replay registry_machine others (replay registry_machine first registry) ≡ replay registry_machine (first ++ others) registry
replay_joined [] others registry = refl
replay_joined (e ∷ es) others registry = replay_joined es others (record_applied e registry).0

-- ---- the last record

pub last_none : (order : List Entry) → last_of order ≡ None → order ≡ []
last_none [] is = refl
last_none (e ∷ es) is =
    let some = slice_get-get_or (e ∷ es) (length es) e (omega arith) in
    absurd (cc (some, is))

last_first : (e : Entry) (es : List Entry) → last_behind (Some e) es ≡ last_of (e ∷ es)
last_first e [] = refl
last_first e (d ∷ es) = last_first d es

pub last_joined : (first others : List Entry) → last_behind (last_of first) others ≡ last_of (first ++ others)
last_joined [] [] = refl
last_joined [] (e ∷ es) = last_first e es
last_joined (e ∷ []) others = last_first e others
last_joined (e ∷ d ∷ es) others = last_joined (d ∷ es) others
