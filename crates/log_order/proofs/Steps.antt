-- What becomes of the order of a log that was found.
use Rattle.std.proofs.Common.{◌≡◌, ℕ, ◌+◌, ◌≤◌, List, [], ◌∷◌, ◌++◌, length, take, drop, Option, Some, None, Ok, refl, sym, ap, ◌∙◌, subst, arith, length-append}
use Rattle.std.proofs.lemmas.List.{take_all, drop_all, take-append-drop, drop-append-le, take-append-le}
use Rattle.update_records.specs.Entry.{Entry, IsRecord, record_text}
use Rattle.registry_defs.specs.Contents.{Contents, IsCap, keys_in}
use Rattle.registry_defs.specs.Keys.{Keys, root_alone}
use Rattle.registry_defs.specs.Spelling.{registry_text}
use Rattle.quorum_log.specs.declared.found.Found.{Found}
use Rattle.quorum_log.specs.declared.found.FoundRecord.{FoundRecord}
use Rattle.quorum_log.specs.Image.{tail_of}
use Rattle.quorum_log.specs.Changes.{with_record, with_checkpoint}
use Rattle.clus_registry.specs.States.{IsReadFrom}
use Rattle.log_contents.specs.Contents.{AreRecords, IsEncoded, IsLast, IsRecordAt, IsState}
use Rattle.log_contents.proofs.Lists.{one_more, record_good, records_long}
use Rattle.log_contents.proofs.Exact.{gives_contents}
use Rattle.cluster_rules.specs.Joins.{last_of}
use Rattle.cluster_rules.specs.Machines.{registry_at, replay}
use Rattle.registry_machine.specs.Machine.{ReplicatedRegistry, empty_registry, registry_machine, replicated}
use Rattle.registry_machine.specs.Laws.{IsWithin}
use Rattle.log_order.specs.Orders.{IsOrderOf, contents_at, last_behind, last_text, registry_behind}
use Rattle.log_order.specs.OrderLaws.{IsRecoveredOrder, OrderBegun, OrderEmpty, OrderPush, OrderRecovered, state_text}
use Rattle.log_order.proofs.Behind.{keys_behind, last_joined, last_none, push_behind, reads_behind, replay_joined, within}

-- ---- a record more

push_last : (x : Found) (bytes : List ℕ) (o : Option Entry) → IsLast x o → IsLast (with_record x bytes) o
push_last x bytes None is = is
push_last x bytes (Some e) is = is

push_records : (x : Found) (order : List Entry) (e : Entry) → AreRecords x.version (x.base + 1) x.records (drop x.base order) → x.base ≤ length order → x.version ≡ 2
    → IsRecord e → e.place ≡ x.base + 1 + length x.records
    → AreRecords x.version (x.base + 1) (with_record x (record_text e)).records (drop x.base (order ++ e ∷ []))
push_records x order e are low version valid place =
    let r : FoundRecord = record { at = tail_of x + 5; bytes = record_text e } in
    let encoded : IsEncoded x.version (record_text e) e = subst (λ n. IsEncoded n (record_text e) e) (sym version) (valid, refl) in
    let here : IsRecordAt x.version (x.base + 1 + length x.records) (record_text e) e = record { encoded = encoded; place_is = place } in
    subst (λ (es : List Entry). AreRecords x.version (x.base + 1) (x.records ++ r ∷ []) es) (sym (drop-append-le x.base order (e ∷ []) low))
    (one_more x.version (x.base + 1) (length x.records) x.records (drop x.base order) r e are refl here)

pub order_push : OrderPush
order_push cap order x e is version next =
    let counted = is.counted in
    let place = next.place_is in
    let low : x.base ≤ length order = omega (arith, counted) in
    let r : FoundRecord = record { at = tail_of x + 5; bytes = record_text e } in
    let one : length (x.records ++ r ∷ []) ≡ length x.records + 1 = length-append x.records (r ∷ []) in
    let more : length (order ++ e ∷ []) ≡ length order + 1 = length-append order (e ∷ []) in
    let y = with_record x (record_text e) in
    let state : IsState y (registry_behind cap order x.base) = record { range = is.decodes.state.range; read = is.decodes.state.read } in
    record {
      cap_is = is.cap_is;
      counted = omega (arith, counted, one, more);
      decodes = record {
        state = subst (λ (k : Contents). IsState y k) (sym (push_behind cap order (e ∷ []) x.base low)) state;
        last = push_last x (record_text e) (last_of (take x.base (order ++ e ∷ []))) (subst (λ (es : List Entry). IsLast x (last_of es)) (sym (take-append-le x.base order (e ∷ []) low)) is.decodes.last);
        records = push_records x order e is.decodes.records low version next.valid (omega (arith, counted, place));
      };
    }

-- ---- the last record of the order

record IsPlacedBefore (place : ℕ) (e : Entry) : Type 0 where
  valid : IsRecord e
  before : e.place + 1 ≡ place

last_good : (version place : ℕ) (last : Option Entry) (stored : List FoundRecord) (es : List Entry) (e : Entry) → ((d : Entry) → last ≡ Some d → IsPlacedBefore place d)
    → AreRecords version place stored es → last_behind last es ≡ Some e → IsPlacedBefore (place + length es) e
last_good version place last [] [] e good are is = let at : place ≡ place + 0 = omega arith in subst (λ n. IsPlacedBefore n e) at (good e is)
last_good version place last [] (d ∷ ds) e good are is = absurd are
last_good version place last (s ∷ ss) [] e good are is = absurd are
last_good version place last (s ∷ ss) (d ∷ ds) e good are is =
    let here : IsPlacedBefore (place + 1) d = record { valid = record_good version place s.bytes d are.0; before = ap (λ n. n + 1) are.0.place_is } in
    let at : place + 1 + length ds ≡ place + length (d ∷ ds) = omega arith in
    subst (λ n. IsPlacedBefore n e) at (last_good version (place + 1) (Some d) ss ds e (λ b same. subst (IsPlacedBefore (place + 1)) (the_same d b same) here) are.1 is)
  where
    the_same : (d b : Entry) → Some d ≡ Some b → d ≡ b
    the_same d b same = cc

base_good : (x : Found) (last : Option Entry) → IsLast x last → (d : Entry) → last ≡ Some d → IsPlacedBefore (x.base + 1) d
base_good x last is d same =
    let at : IsRecordAt x.version x.base x.last d = subst (IsLast x) same is in
    record { valid = record_good x.version x.base x.last d at; before = ap (λ n. n + 1) at.place_is }

decoded_last : (order : List Entry) (base : ℕ) → last_behind (last_of (take base order)) (drop base order) ≡ last_of order
decoded_last order base = last_joined (take base order) (drop base order) ∙ ap last_of (take-append-drop base order)

last_placed : (cap : ℕ) (order : List Entry) (x : Found) (e : Entry) → IsOrderOf cap order x → last_of order ≡ Some e → IsPlacedBefore (x.base + 1 + length (drop x.base order)) e
last_placed cap order x e is same =
    last_good x.version (x.base + 1) (last_of (take x.base order)) x.records (drop x.base order) e (base_good x (last_of (take x.base order)) is.decodes.last) is.decodes.records (decoded_last order x.base ∙ same)

-- ---- a checkpoint

begun_last : (x : Found) (state : List ℕ) (o : Option Entry) → ((e : Entry) → o ≡ Some e → IsPlacedBefore (x.base + length x.records + 1) e) → (o ≡ None → x.base + length x.records ≡ 0)
    → IsLast (with_checkpoint x state (last_text o)) o
begun_last x state None good none = (none refl, refl)
begun_last x state (Some e) good none =
    let is = good e refl in
    let before = is.before in
    record { encoded = (is.valid, refl); place_is = omega (arith, before) }

pub order_begun : OrderBegun
order_begun cap order x all is =
    let counted = is.counted in
    let count = x.base + length x.records in
    let text = state_text cap order in
    let y = with_checkpoint x text (last_text (last_of order)) in
    let range : IsCap cap = subst IsCap is.cap_is is.decodes.state.range in
    let read : IsReadFrom x.cap text (registry_behind cap order (length order)) =
    subst (λ n. IsReadFrom n text (registry_behind cap order (length order))) (sym is.cap_is) (reads_behind cap order (length order) (within cap order (length order) range all)) in
    let state : IsState y (registry_behind cap order (length order)) = record { range = is.decodes.state.range; read = read } in
    let all_of : take count order ≡ order = take_all count order (omega (arith, counted)) in
    let none_left : drop count order ≡ [] = drop_all count order (omega (arith, counted)) in
    let behind : (e : Entry) → last_of order ≡ Some e → IsPlacedBefore (count + 1) e = λ e same.
    let dropped : length (drop x.base order) ≡ length x.records = dropped_long cap order x is in
    let at : x.base + 1 + length (drop x.base order) ≡ count + 1 = omega (arith, dropped) in
    subst (λ n. IsPlacedBefore n e) at (last_placed cap order x e is same) in
    record {
      cap_is = is.cap_is;
      counted = omega (arith, counted);
      decodes = record {
        state = subst (λ n. IsState y (registry_behind cap order n)) (sym counted) state;
        last = subst (λ (es : List Entry). IsLast y (last_of es)) (sym all_of) (begun_last x text (last_of order) behind (λ none. counted ∙ ap (λ (es : List Entry). length es) (last_none order none)));
        records = subst (λ (es : List Entry). AreRecords 2 (count + 1) [] es) (sym none_left) tt;
      };
    }
  where
    dropped_long : (cap : ℕ) (order : List Entry) (x : Found) → IsOrderOf cap order x → length (drop x.base order) ≡ length x.records
    dropped_long cap order x is = sym (records_long x.version (x.base + 1) x.records (drop x.base order) is.decodes.records)

-- ---- the empty log

pub order_empty : OrderEmpty
order_empty cap is =
    let kept : IsWithin cap root_alone = within cap [] 0 is tt in
    let keys : keys_in (registry_behind cap [] 0) ≡ root_alone = keys_behind cap [] 0 kept in
    let read : IsReadFrom cap (registry_text root_alone) (registry_behind cap [] 0) =
    subst (λ (es : Keys). IsReadFrom cap (registry_text es) (registry_behind cap [] 0)) keys (reads_behind cap [] 0 kept) in
    record {
      cap_is = refl;
      counted = refl;
      decodes = record { state = record { range = is; read = read }; last = (refl, refl); records = tt };
    }

-- ---- what is decoded

decoded_registry : (cap : ℕ) (order : List Entry) (base : ℕ) → IsWithin cap (registry_at registry_machine cap order base).keys
    → replay registry_machine (drop base order) (replicated (registry_behind cap order base)) ≡ registry_at registry_machine cap order (length order)
decoded_registry cap order base kept =
    let r : ReplicatedRegistry = registry_at registry_machine cap order base in
    let keys = keys_behind cap order base kept in
    let same : replicated (registry_behind cap order base) ≡ r = λ i. record { cap = r.cap; keys = keys i } in
    ap (replay registry_machine (drop base order)) same
    ∙ replay_joined (take base order) (drop base order) (empty_registry cap)
    ∙ ap (λ es. replay registry_machine es (empty_registry cap)) (take-append-drop base order ∙ sym (take_all (length order) order (omega arith)))

pub order_recovered : OrderRecovered
order_recovered cap order x held all is contents =
    let same : held ≡ contents_at cap order x.base = gives_contents x (Ok held) (contents_at cap order x.base) contents tt is.decodes in
    let range : IsCap cap = subst IsCap is.cap_is is.decodes.state.range in
    let kept = within cap order x.base range all in
    let there : IsRecoveredOrder cap order (contents_at cap order x.base) = record { last = decoded_last order x.base; registry = decoded_registry cap order x.base kept } in
    subst (IsRecoveredOrder cap order) (sym same) there
