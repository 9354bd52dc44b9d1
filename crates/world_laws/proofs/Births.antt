-- Creation numbers have 64 bits: those of each registry, and that which an outcome tells.
use Rattle.std.proofs.Common.{◌≡◌, ℕ, zero, suc, ◌+◌, ◌-◌, ◌<◌, ◌^◌, Bool, true, false, List, [], ◌∷◌, ◌++◌, length, Option, Some, None, Result, Ok, Err, slice_get, refl, sym, ap, ◌∙◌, subst, arith}
use Rattle.std.specs.Prelude.{IfSome, is_none, nat_lt, option_map, ◌==◌, if◌then◌else◌}
use Rattle.std.specs.List.{AllByRecursion}
use Rattle.clus_names.specs.Folding.{folded_parts}
use Rattle.gum_messages.specs.Places.{at_place}
use Rattle.update_records.specs.declared.change.Change.{Change}
use Rattle.update_records.specs.declared.change.Change.TheVariants as change
use Rattle.update_records.specs.declared.update.Update.{Update}
use Rattle.update_records.specs.declared.update.Update.TheVariants.{Create, SetValue, DeleteValue, DeleteKey, Batch}
use Rattle.update_records.specs.Entry.{Entry}
use Rattle.registry_defs.specs.declared.outcome.Outcome.{Outcome}
use Rattle.registry_defs.specs.Applying.{Applied, answered, change_applied, changes_applied, create_applied, create_found, delete_key_applied, delete_value_applied, done, has_value, is_born, refused, refused_at, resolved, set_value_applied, update_applied}
use Rattle.registry_defs.specs.Changes.{at_key, created, key_deleted, with_value, without_value}
use Rattle.registry_defs.specs.Keys.{KeyData, Keys, key_at}
use Rattle.registry_defs.specs.Limits.{IsRegistry}
use Rattle.registry_defs.specs.Sections.{has_subkeys}
use Rattle.registry_defs.specs.Sizes.{size}
use Rattle.registry_defs.proofs.Fields.{birth_fits}
use Rattle.registry_defs.proofs.Keeping.{key_limits}
use Rattle.cluster_rules.specs.Machines.{registry_at}
use Rattle.cluster_rules.specs.Nodes.{NodeState, Out, Replica}
use Rattle.cluster_rules.specs.Promises.{Safe}
use Rattle.cluster_rules.specs.Worlds.{Point, World, absorb, acked, head_of, points_of}
use Rattle.cluster_laws.proofs.Answering.{answered_}
use Rattle.cluster_laws.proofs.Theorem.{safe}
use Rattle.registry_machine.specs.Machine.{IsFitting, ReplicatedRegistry, record_applied, registry_machine}
use Rattle.registry_machine.proofs.Orders.{order_keeps}
use Rattle.cluster_member.specs.declared.stop.Stop.{Stop}
use Rattle.cluster_member.specs.Events.{Comes}
use Rattle.member_rules.specs.declared.told.Told.{Told}
use Rattle.cluster_node.specs.Acting.{keys_if_open}
use Rattle.client_laws.specs.Typed.{AreBorn, AreBornIn, IsBorn}
use Rattle.world_laws.proofs.Records.{Good}

key_born : (path : List (List ℕ)) (key : KeyData) (keys : Keys) → IsRegistry keys → key_at path keys ≡ Some key → key.birth < 2 ^ 64
key_born path key keys is found = let below : key.birth < 2 ^ 63 = birth_fits path key (key_limits path key keys is found).named in omega (arith, below)

registry_born : (keys : Keys) → IsRegistry keys → AreBorn keys
registry_born keys is = record { each = λ path key found. key_born path key keys is found }

-- ---- an outcome

abbrev BornBy : Applied → Type 0
BornBy applied = IsBorn applied.outcome

born_if : (c : Bool) (a b : Applied) → BornBy a → BornBy b → BornBy (if c then a else b)
born_if true a b x y = x
born_if false a b x y = y

not_born : 0 < 2 ^ 64
not_born = omega arith

module _ (cap place stamp : ℕ) (last : place < 2 ^ 63) (keys : Keys) (is : IsRegistry keys) where
  create_born : (key subkey : List (List ℕ)) → BornBy (create_applied cap place stamp key subkey keys)
  create_born key subkey = by (key_at (folded_parts (key ++ subkey)) keys) refl
    where
      by : (o : Option KeyData) → key_at (folded_parts (key ++ subkey)) keys ≡ o → BornBy (create_found cap place stamp key subkey o keys)
      by None e =
          let made = answered 0 1 place (created place stamp (folded_parts key) subkey keys) in
          born_if (nat_lt cap (size made.keys)) (refused 112 keys) made not_born (omega (arith, last))
      by (Some target) e = key_born (folded_parts (key ++ subkey)) target keys is e

  change_born : (c : Change) → BornBy (change_applied cap place stamp c keys)
  change_born (change.Create key birth subkey) =
      born_if (is_born birth (key_at (folded_parts key) keys)) (create_applied cap place stamp key subkey keys) (refused 1018 keys) (create_born key subkey) not_born
  change_born (change.SetValue key birth name kind bytes) =
      let made = done (at_key (with_value name kind bytes stamp) (folded_parts key) keys) in
      born_if (is_born birth (key_at (folded_parts key) keys)) (set_value_applied cap stamp key name kind bytes keys) (refused 1018 keys)
      (born_if (nat_lt cap (size made.keys)) (refused 112 keys) made not_born not_born) not_born
  change_born (change.DeleteValue key birth name) =
      born_if (is_born birth (key_at (folded_parts key) keys)) (delete_value_applied stamp key name keys) (refused 1018 keys)
      (born_if (has_value name (key_at (folded_parts key) keys)) (done (at_key (without_value name stamp) (folded_parts key) keys)) (refused 2 keys) not_born not_born) not_born
  change_born (change.DeleteKey key birth subkey) =
      let path = folded_parts (key ++ subkey) in
      born_if (is_born birth (key_at (folded_parts key) keys)) (delete_key_applied stamp path keys) (refused 1018 keys)
      (born_if (is_none (key_at path keys)) (refused 2 keys) (if has_subkeys path keys then refused 1020 keys else done (key_deleted stamp path keys)) not_born
      (born_if (has_subkeys path keys) (refused 1020 keys) (done (key_deleted stamp path keys)) not_born not_born)) not_born

changes_born : (cap place stamp : ℕ) (before : Keys) (index : ℕ) (cs : List Change) (keys : Keys) → BornBy (changes_applied cap place stamp before index cs keys)
unfolding changes_applied
changes_born cap place stamp before index [] keys = not_born
changes_born cap place stamp before index (c ∷ cs) keys =
    let made = change_applied cap place stamp (resolved c keys) keys in
    born_if (made.outcome.status == 0) (changes_applied cap place stamp before (index + 1) cs made.keys) (refused_at index made.outcome.status before)
    (changes_born cap place stamp before (index + 1) cs made.keys) not_born

outcome_born : (cap place stamp : ℕ) (u : Update) (keys : Keys) → place < 2 ^ 63 → IsRegistry keys → BornBy (update_applied cap place stamp u keys)
outcome_born cap place stamp (Create key birth subkey) keys last is = change_born cap place stamp last keys is (change.Create key birth subkey)
outcome_born cap place stamp (SetValue key birth name kind bytes) keys last is = change_born cap place stamp last keys is (change.SetValue key birth name kind bytes)
outcome_born cap place stamp (DeleteValue key birth name) keys last is = change_born cap place stamp last keys is (change.DeleteValue key birth name)
outcome_born cap place stamp (DeleteKey key birth subkey) keys last is = change_born cap place stamp last keys is (change.DeleteKey key birth subkey)
outcome_born cap place stamp (Batch changes) keys last is = changes_born cap place stamp keys 1 changes keys

record_born : (e : Entry) (r : ReplicatedRegistry) → IsFitting e → IsRegistry r.keys → IsBorn (record_applied e r).1
unfolding record_applied
record_born e r fits is = outcome_born r.cap e.place e.stamp e.update r.keys fits.last is

fits_at : (order : List Entry) (k : ℕ) (e : Entry) → AllByRecursion IsFitting order → slice_get order k ≡ Some e → IsFitting e
fits_at [] k e all at = absurd (cc)
fits_at (x ∷ order) zero e all at = let q : x ≡ e = cc in subst IsFitting q all.0
fits_at (x ∷ order) (suc k) e all at = fits_at order k e all.1 at

stands_at : (order : List Entry) (k : ℕ) (e : Entry) → AllByRecursion IsFitting order → at_place order k ≡ Some e → IsFitting e
stands_at order zero e all at = absurd (cc)
stands_at order (suc k) e all at = fits_at order k e all at

-- ---- a world of the protocol

module _ (w : World registry_machine) (g : Good w) where
  is_safe : Safe w
  is_safe = safe registry_machine w g.holds.invariant g.holds.fitting

  within : (count : ℕ) → IsRegistry (registry_at registry_machine w.log.cap w.log.order count).keys
  within count = (order_keeps w.log.cap w.log.order count g.holds.fitting.log.is_cap is_safe.fits).limits

  -- what a node's clients read
  pub node_born : (n : ℕ) (x : NodeState registry_machine) → w.nodes n ≡ Some x → AreBornIn (keys_if_open x)
  node_born n x at = by x.core.is_open
    where
      held : (o : Option (Replica registry_machine)) → x.replica ≡ o → AreBornIn (option_map (λ r. r.registry.keys) o)
      held None e = tt
      held (Some r) e = registry_born r.registry.keys (subst (λ (t : ReplicatedRegistry). IsRegistry t.keys) (sym (is_safe.registry n x r at e)) (within r.done))

      by : (c : Bool) → AreBornIn (if c then option_map (λ r. r.registry.keys) x.replica else None)
      by true = held x.replica refl
      by false = tt

  -- what is answered
  point_born : (a : ℕ) (p : Point registry_machine) → at_place w.points a ≡ Some p → 0 < p.req → IfSome p.outcome IsBorn
  point_born a p at some =
      let s = (answered_ w g.answering).stands a p at some in
      subst (λ (o : Option Outcome). IfSome o IsBorn) (sym s.3)
      (record_born s.0 (registry_at registry_machine w.log.cap w.log.order (p.place - 1)) (stands_at w.log.order p.place s.0 is_safe.fits s.1) (within (p.place - 1)))

-- ---- what an event tells

-- Of a head that was acknowledged.
abbrev pub Born : Result Told Stop → Type 0
Born came = (told : Told) → came ≡ Ok told → (ack : ℕ × ℕ) (acks : List (ℕ × ℕ)) → acked told.effects ≡ ack ∷ acks → IfSome told.outcome IsBorn

-- no head was acknowledged
pub silent_born : (out : Out registry_machine) (came : Result Told Stop) (y : NodeState registry_machine) → out.outcome ≡ None → Comes out came y → Born came
silent_born out (Ok t) y none c told e ack acks some =
    let q : t ≡ told = cc in
    subst (λ (s : Told). IfSome s.outcome IsBorn) q (subst (λ (o : Option Outcome). IfSome o IsBorn) (sym none ∙ c.outcome) tt)
silent_born out (Err fault) y none c told e ack acks some = absurd (cc)

new_point : {A : Type 0} (l rest : List A) (a : A) → slice_get (l ++ a ∷ rest) (length l) ≡ Some a
new_point [] rest a = refl
new_point (x ∷ l) rest a = new_point l rest a

-- it stands among the points of the world behind the event
pub absorb_born : (v : World registry_machine) (n : ℕ) (x : NodeState registry_machine) (out : Out registry_machine) (came : Result Told Stop) (y : NodeState registry_machine) → v.nodes n ≡ Some x
    → Good (absorb n out v) → Comes out came y → Born came
absorb_born v n x out (Ok t) y at g c told e ack acks some =
    let q : t ≡ told = cc in
    let u = absorb n out v in
    let tells : acked out.effects ≡ ack ∷ acks = ap acked c.effects ∙ ap (λ (s : Told). acked s.effects) q ∙ some in
    let p : Point registry_machine = record { node = n; inc = v.starts n; place = ack.1; req = head_of (v.nodes n); outcome = out.outcome } in
    let more : u.points ≡ v.points ++ (p ∷ points_of n (v.starts n) (head_of (v.nodes n)) out.outcome acks) =
    ap (λ (l : List (ℕ × ℕ)). v.points ++ points_of n (v.starts n) (head_of (v.nodes n)) out.outcome l) tells in
    let there : at_place u.points (suc (length v.points)) ≡ Some p = ap (λ (l : List (Point registry_machine)). slice_get l (length v.points)) more ∙ new_point v.points (points_of n (v.starts n) (head_of (v.nodes n)) out.outcome acks) p in
    let asked : 0 < head_of (v.nodes n) = subst (λ (o : Option (NodeState registry_machine)). 0 < head_of o) (sym at) (omega arith) in
    let born : IfSome out.outcome IsBorn = point_born u g (suc (length v.points)) p there asked in
    subst (λ (s : Told). IfSome s.outcome IsBorn) q (subst (λ (o : Option Outcome). IfSome o IsBorn) c.outcome born)
absorb_born v n x out (Err fault) y at g c told e ack acks some = absurd (cc)
