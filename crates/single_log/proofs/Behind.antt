-- The registry and the last record behind the records found and further ones.
use Rattle.std.proofs.Common.{◌≡◌, ℕ, ◌+◌, ◌≤◌, List, [], ◌∷◌, ◌++◌, length, Option, Some, None, sym, ap, ◌∙◌, subst, arith}
use Rattle.std.specs.List.{AllByRecursion}
use Rattle.std.specs.Prelude.{IfSome}
use Rattle.update_records.specs.Entry.{Entry, IsRecord}
use Rattle.registry_defs.specs.Contents.{keys_in}
use Rattle.registry_defs.specs.Limits.{IsRegistry}
use Rattle.registry_defs.specs.Sizes.{size}
use Rattle.registry_defs.specs.Spelling.{registry_text}
use Rattle.registry_defs.proofs.Held.{entries_are}
use Rattle.clus_registry.specs.States.{IsReadFrom}
use Rattle.quorum_log.specs.declared.found.Found.{Found}
use Rattle.log_contents.specs.declared.contents.LogContents.{LogContents}
use Rattle.log_contents.specs.Contents.{IsContents, IsLast}
use Rattle.log_contents.proofs.Lists.{record_good, records_good}
use Rattle.cluster_rules.specs.Machines.{replay}
use Rattle.registry_machine.specs.Machine.{ReplicatedRegistry, registry_machine, replicated}
use Rattle.registry_machine.proofs.Orders.{IsKept, replay_keeps}
use Rattle.log_order.specs.Orders.{contents_of, last_behind}
use Rattle.log_order.proofs.Behind.{all_fitting}
use Rattle.record_log.proofs.Lasts.{last_none, last_placed}
use Rattle.single_log.specs.Contents.{count_found, last_found, registry_found}
use Rattle.single_log.specs.Keeping.{AreNext}

-- ---- the next records

pub next_good : (count : ℕ) (q : List Entry) → AreNext count q → AllByRecursion IsRecord q
next_good count [] next = tt
next_good count (e ∷ es) next = (next.0, next_good (count + 1) es next.2)

pub next_more : (count : ℕ) (q : List Entry) (e : Entry) → AreNext count q → IsRecord e → e.place ≡ count + length q + 1 → AreNext count (q ++ e ∷ [])
next_more count [] e next valid place = (valid, omega (arith, place), tt)
next_more count (d ∷ ds) e next valid place = (next.0, next.1, next_more (count + 1) ds e next.2 valid (omega (arith, place)))

-- ---- the registry

-- The registry of the log that was found obeys all limits and the cap.
pub found_kept : (found : Found) (contents : LogContents) → IsContents found contents → IsKept found.cap (replicated contents.registry)
found_kept found contents is = record {
  same = is.state.read.same_cap;
  within = record { limits = is.state.read.limits; fits = is.state.read.fits };
}

pub behind_kept : (found : Found) (contents : LogContents) (q : List Entry) → IsContents found contents → AllByRecursion IsRecord q → IsKept found.cap (replay registry_machine q (registry_found contents))
behind_kept found contents q is good =
    let own = records_good found.version (found.base + 1) found.records contents.records is.records in
    replay_keeps found.cap q (registry_found contents) (all_fitting q good)
    (replay_keeps found.cap contents.records (replicated contents.registry) (all_fitting contents.records own) (found_kept found contents is))

-- It is read from its own bytes.
pub reads_own : (cap : ℕ) (registry : ReplicatedRegistry) → IsKept cap registry → IsReadFrom cap (registry_text registry.keys) (contents_of registry)
reads_own cap registry is =
    let keys : keys_in (contents_of registry) ≡ registry.keys = entries_are registry.keys is.within.limits in
    record {
      same_cap = is.same;
      limits = subst IsRegistry (sym keys) is.within.limits;
      text = ap registry_text (sym keys);
      fits = subst (λ es. size es ≤ cap) (sym keys) is.within.fits;
    }

-- ---- the last record

-- The last of these has what the one before them and each of them has.
last_has : (P : Entry → Type 0) (last : Option Entry) (es : List Entry) (e : Entry) → ((d : Entry) → last ≡ Some d → P d) → AllByRecursion P es → last_behind last es ≡ Some e → P e
last_has P last [] e before each is = before e is
last_has P last (d ∷ ds) e before each is = last_has P (Some d) ds e (λ b same. subst P (the_same d b same) each.0) each.1 is
  where
    the_same : (d b : Entry) → Some d ≡ Some b → d ≡ b
    the_same d b same = cc

last_good : (found : Found) (last : Option Entry) → IsLast found last → (d : Entry) → last ≡ Some d → IsRecord d
last_good found last is d same = record_good found.version found.base found.last d (subst (IsLast found) same is)

-- It is a record that stands at the place which counts the records.
pub record IsLastAt (count : ℕ) (e : Entry) : Type 0 where
  pub valid : IsRecord e
  pub place_is : e.place ≡ count

some_place : (last : Option Entry) (count : ℕ) (e : Entry) → IfSome last (λ d. d.place ≡ count) → last ≡ Some e → e.place ≡ count
some_place None count e at is = absurd (cc)
some_place (Some d) count e at is = let same : d ≡ e = cc in ap (λ (b : Entry). b.place) (sym same) ∙ at

module _ (found : Found) (contents : LogContents) (is : IsContents found contents) where
  pub found_last : (d : Entry) → last_found contents ≡ Some d → IsLastAt (count_found found) d
  found_last d same = record {
    valid = last_has IsRecord contents.last contents.records d (last_good found contents.last is.last) (records_good found.version (found.base + 1) found.records contents.records is.records) same;
    place_is = some_place (last_found contents) (count_found found) d (last_placed found contents is) same;
  }

  -- where there is none, no record is
  pub found_none : (q : List Entry) → last_behind (last_found contents) q ≡ None → count_found found + length q ≡ 0
  found_none [] none = let zero = (last_none found contents is).0 none in omega (arith, zero)
  found_none (e ∷ es) none = absurd (some_behind e es none)
    where
      some_behind : (e : Entry) (es : List Entry) → last_behind (Some e) es ≡ None → ⊥
      some_behind e [] none = cc
      some_behind e (d ∷ ds) none = some_behind d ds none

pub behind_last : (count : ℕ) (last : Option Entry) (q : List Entry) (e : Entry) → AreNext count q → ((d : Entry) → last ≡ Some d → IsLastAt count d) → last_behind last q ≡ Some e → IsLastAt (count + length q) e
behind_last count last [] e next before is = let at : count ≡ count + 0 = omega arith in subst (λ n. IsLastAt n e) at (before e is)
behind_last count last (d ∷ ds) e next before is =
    let at : count + 1 + length ds ≡ count + length (d ∷ ds) = omega arith in
    let here : IsLastAt (count + 1) d = record { valid = next.0; place_is = next.1 } in
    subst (λ n. IsLastAt n e) at (behind_last (count + 1) (Some d) ds e next.2 (λ b same. subst (IsLastAt (count + 1)) (the_same d b same) here) is)
  where
    the_same : (d b : Entry) → Some d ≡ Some b → d ≡ b
    the_same d b same = cc
