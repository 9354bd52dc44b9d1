-- The last record of an order.
use Rattle.std.proofs.Common.{◌≡◌, ◌↔◌, ℕ, ◌+◌, List, [], ◌∷◌, ◌++◌, length, Option, Some, None, refl, sym, ◌∙◌, subst, arith}
use Rattle.std.specs.Prelude.{IfSome}
use Rattle.quorum_log.specs.declared.found.Found.{Found}
use Rattle.quorum_log.specs.declared.found.FoundRecord.{FoundRecord}
use Rattle.update_records.specs.Entry.{Entry}
use Rattle.log_contents.specs.declared.contents.LogContents.{LogContents}
use Rattle.log_contents.specs.Contents.{AreRecords, IsContents, IsLast}
use Rattle.log_contents.proofs.Lists.{record_good, records_long}
use Rattle.cluster_rules.specs.Machines.{replay}
use Rattle.registry_machine.specs.Machine.{registry_machine, replicated}
use Rattle.record_log.specs.declared.recovered.Recovered.{Recovered}
use Rattle.record_log.specs.Opening.{IsRecovered}
use Rattle.log_order.specs.Orders.{last_behind}

pub last_of_more : (before : Option Entry) (es : List Entry) (e : Entry) → last_behind before (es ++ e ∷ []) ≡ Some e
last_of_more before [] e = refl
last_of_more before (d ∷ ds) e = last_of_more (Some d) ds e

-- It stands at the place that counts the records.
place_behind : (version base : ℕ) (stored : List FoundRecord) (es : List Entry) (last : Option Entry) → AreRecords version (base + 1) stored es
    → IfSome last (λ e. e.place ≡ base) → IfSome (last_behind last es) (λ e. e.place ≡ base + length stored)
place_behind version base [] [] None is at = at
place_behind version base [] [] (Some e) is at = omega (arith, at)
place_behind version base [] (e ∷ es) last is at = absurd is
place_behind version base (s ∷ ss) [] last is at = absurd is
place_behind version base (s ∷ ss) (e ∷ es) last is at =
    let there = place_behind version (base + 1) ss es (Some e) is.1 is.0.place_is in
    let long : base + 1 + length ss ≡ base + length (s ∷ ss) = omega arith in
    subst (λ n. IfSome (last_behind (Some e) es) (λ d. d.place ≡ n)) long there

-- There is none exactly where there are no records.
none_behind : (base : ℕ) (es : List Entry) (last : Option Entry) → (last ≡ None) ↔ (base ≡ 0) → (last_behind last es ≡ None) ↔ (base + length es ≡ 0)
none_behind base [] last is =
    (λ none. (let zero = is.0 none in omega (arith, zero)), λ zero. is.1 (omega (arith, zero)))
none_behind base (e ∷ es) last is =
    let some : (Some e ≡ None) ↔ (base + 1 ≡ 0) = (λ none. absurd (cc), λ zero. (let wrong : ⊥ = omega (arith, zero) in absurd wrong)) in
    let behind = none_behind (base + 1) es (Some e) some in
    (λ none. (let zero = behind.0 none in omega (arith, zero)), λ zero. behind.1 (omega (arith, zero)))

placed_last : (found : Found) (last : Option Entry) → IsLast found last → IfSome last (λ e. e.place ≡ found.base)
placed_last found None is = tt
placed_last found (Some e) is = is.place_is

none_last : (found : Found) (last : Option Entry) → IsLast found last → (last ≡ None) ↔ (found.base ≡ 0)
none_last found None is = (λ _. is.0, λ _. refl)
none_last found (Some e) is =
    let placed = (record_good found.version found.base found.last e is).placed.first in
    let same = is.place_is in
    (λ none. absurd (cc), λ zero. (let wrong : ⊥ = omega (arith, placed, same, zero) in absurd wrong))

module _ (found : Found) (contents : LogContents) (holds : IsContents found contents) where
  pub last_placed : IfSome (last_behind contents.last contents.records) (λ e. e.place ≡ found.base + length found.records)
  last_placed = place_behind found.version found.base found.records contents.records contents.last holds.records (placed_last found contents.last holds.last)

  pub last_none : (last_behind contents.last contents.records ≡ None) ↔ (found.base + length found.records ≡ 0)
  last_none =
      let long = records_long found.version (found.base + 1) found.records contents.records holds.records in
      let is = none_behind found.base contents.records contents.last (none_last found contents.last holds.last) in
      rw long is

-- What was recovered, by its parts.
pub recovered_is : (found : Found) (contents : LogContents) (r : Recovered) → IsContents found contents → r.count ≡ found.base + length found.records → r.cap ≡ found.cap
    → r.last ≡ last_behind contents.last contents.records → replicated r.registry ≡ replay registry_machine contents.records (replicated contents.registry)
    → r.registry.cap ≡ contents.registry.cap → IsRecovered found r
recovered_is found contents r holds count cap last registry kept = record {
  contents = contents;
  holds = holds;
  count = count;
  cap = cap;
  last = last;
  last_place = rw (last, count) (last_placed found contents holds);
  no_last = rw (last, count) (last_none found contents holds);
  registry = registry;
  registry_cap = kept ∙ holds.state.read.same_cap ∙ sym cap;
}
