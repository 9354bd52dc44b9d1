-- The log was found, a record was added to it, or it was begun anew.
use Rattle.std.proofs.Common.{◌≡◌, ℕ, ◌+◌, ◌-◌, ◌≤◌, Bool, true, false, List, [], ◌∷◌, ◌++◌, length, take, drop, nat_eq, if◌then◌else◌, Option, Some, None, refl, sym, ap, ◌∙◌, subst, arith, length-append, append_assoc}
use Rattle.std.proofs.lemmas.Bool.Decides.{nat_tests}
use Rattle.std.proofs.lemmas.List.{append-nil, drop-append-le, drop_all, nil_from_length, take-append-le, take_all}
use Rattle.update_records.specs.Entry.{Entry, IsRecord, record_text}
use Rattle.registry_defs.specs.Contents.{IsCap, keys_in}
use Rattle.registry_defs.specs.Sizes.{size}
use Rattle.registry_defs.specs.Spelling.{registry_text}
use Rattle.quorum_log.specs.declared.found.Found.{Found}
use Rattle.quorum_log.specs.declared.found.FoundRecord.{FoundRecord}
use Rattle.quorum_log.specs.Image.{tail_of}
use Rattle.quorum_log.specs.Changes.{with_checkpoint, with_record}
use Rattle.log_contents.specs.declared.contents.LogContents.{LogContents}
use Rattle.log_contents.specs.Contents.{AreRecords, IsContents, IsEncoded, IsLast, IsRecordAt, IsState}
use Rattle.log_contents.proofs.Lists.{one_more, records_long}
use Rattle.cluster_rules.specs.Machines.{replay}
use Rattle.registry_machine.specs.Machine.{registry_machine, replicated}
use Rattle.registry_machine.proofs.Orders.{IsKept}
use Rattle.log_order.specs.Orders.{contents_of, last_behind, last_text}
use Rattle.single_log.specs.Contents.{IsFurther, as_found, begun_behind, count_found, last_found, registry_found}
use Rattle.single_log.specs.Keeping.{AreNext, last_text_behind, state_behind}
use Rattle.single_log.proofs.Behind.{IsLastAt, behind_kept, behind_last, found_last, found_none, next_good, reads_own}

if_contents : (x : Found) (a b : LogContents) (c : Bool) → (c ≡ true → IsContents x a) → (c ≡ false → IsContents x b) → IsContents x (if c then a else b)
if_contents x a b true f g = f refl
if_contents x a b false f g = g refl

is_same : (a b : ℕ) → nat_eq a b ≡ true → a ≡ b
is_same a b e = grind (arith, nat_tests)

is_other : (a b : ℕ) → nat_eq a b ≡ false → a ≡ b → ⊥
is_other a b e same = grind (arith, nat_tests)

-- ---- as it was found

pub further_none : (found : Found) (contents : LogContents) → IsContents found contents → IsFurther found contents [] found
further_none found contents is = record {
  same_cap = refl;
  counted = omega arith;
  decodes = if_contents found (as_found contents []) (begun_behind contents [] (found.base - count_found found)) (nat_eq found.base found.base)
      (λ same. record { state = is.state; last = is.last; records = subst (λ (es : List Entry). AreRecords found.version (found.base + 1) found.records es) (sym (append-nil contents.records)) is.records })
      (λ other. absurd (is_other found.base found.base other refl));
}

-- ---- a record more

abbrev with_more : LogContents → Entry → LogContents
with_more contents e = record { registry = contents.registry; last = contents.last; records = contents.records ++ e ∷ [] }

push_last : (x : Found) (bytes : List ℕ) (o : Option Entry) → IsLast x o → IsLast (with_record x bytes) o
push_last x bytes None is = is
push_last x bytes (Some e) is = is

contents_push : (x : Found) (contents : LogContents) (e : Entry) → IsContents x contents → x.version ≡ 2 → IsRecord e → e.place ≡ x.base + 1 + length x.records → IsContents (with_record x (record_text e)) (with_more contents e)
contents_push x contents e is version valid place =
    let r : FoundRecord = record { at = tail_of x + 5; bytes = record_text e } in
    let encoded : IsEncoded x.version (record_text e) e = subst (λ n. IsEncoded n (record_text e) e) (sym version) (valid, refl) in
    let here : IsRecordAt x.version (x.base + 1 + length x.records) (record_text e) e = record { encoded = encoded; place_is = place } in
    record {
      state = record { range = is.state.range; read = is.state.read };
      last = push_last x (record_text e) contents.last is.last;
      records = one_more x.version (x.base + 1) (length x.records) x.records contents.records r e is.records refl here;
    }

pushed_as_found : (y : Found) (contents : LogContents) (q : List Entry) (e : Entry) → IsContents y (with_more (as_found contents q) e) → IsContents y (as_found contents (q ++ e ∷ []))
pushed_as_found y contents q e is = record {
  state = is.state;
  last = is.last;
  records = subst (λ (es : List Entry). AreRecords y.version (y.base + 1) y.records es) (append_assoc contents.records q (e ∷ [])) is.records;
}

pushed_behind : (y : Found) (contents : LogContents) (q : List Entry) (e : Entry) (count : ℕ) → count ≤ length q → IsContents y (with_more (begun_behind contents q count) e) → IsContents y (begun_behind contents (q ++ e ∷ []) count)
pushed_behind y contents q e count most is =
    let front : take count q ≡ take count (q ++ e ∷ []) = sym (take-append-le count q (e ∷ []) most) in
    record {
      state = subst (λ (es : List Entry). IsState y (contents_of (replay registry_machine es (registry_found contents)))) front is.state;
      last = subst (λ (es : List Entry). IsLast y (last_behind (last_found contents) es)) front is.last;
      records = subst (λ (es : List Entry). AreRecords y.version (y.base + 1) y.records es) (sym (drop-append-le count q (e ∷ []) most)) is.records;
    }

push_if : (c : Bool) (x : Found) (contents : LogContents) (q : List Entry) (e : Entry) (count : ℕ) → count ≤ length q → x.version ≡ 2 → IsRecord e → e.place ≡ x.base + 1 + length x.records
    → IsContents x (if c then as_found contents q else begun_behind contents q count)
    → IsContents (with_record x (record_text e)) (if c then as_found contents (q ++ e ∷ []) else begun_behind contents (q ++ e ∷ []) count)
push_if true x contents q e count most version valid place is = pushed_as_found (with_record x (record_text e)) contents q e (contents_push x (as_found contents q) e is version valid place)
push_if false x contents q e count most version valid place is =
    pushed_behind (with_record x (record_text e)) contents q e count most (contents_push x (begun_behind contents q count) e is version valid place)

pub further_push : (found : Found) (contents : LogContents) (q : List Entry) (x : Found) (e : Entry) → IsFurther found contents q x → x.version ≡ 2 → IsRecord e → e.place ≡ count_found found + length q + 1
    → IsFurther found contents (q ++ e ∷ []) (with_record x (record_text e))
further_push found contents q x e is version valid place =
    let counted = is.counted in
    let r : FoundRecord = record { at = tail_of x + 5; bytes = record_text e } in
    let one : length (x.records ++ r ∷ []) ≡ length x.records + 1 = length-append x.records (r ∷ []) in
    let more : length (q ++ e ∷ []) ≡ length q + 1 = length-append q (e ∷ []) in
    record {
      same_cap = is.same_cap;
      counted = omega (arith, counted, one, more);
      decodes = push_if (nat_eq x.base found.base) x contents q e (x.base - count_found found) (omega (arith, counted)) version valid (omega (arith, counted, place)) is.decodes;
    }

-- ---- a checkpoint

begun_last : (x : Found) (state : List ℕ) (o : Option Entry) → ((e : Entry) → o ≡ Some e → IsLastAt (x.base + length x.records) e) → (o ≡ None → x.base + length x.records ≡ 0)
    → IsLast (with_checkpoint x state (last_text o)) o
begun_last x state None good none = (none refl, refl)
begun_last x state (Some e) good none = let is = good e refl in record { encoded = (is.valid, refl); place_is = is.place_is }

module _ (found : Found) (contents : LogContents) (q : List Entry) (x : Found) (is : IsContents found contents) (next : AreNext (count_found found) q) (further : IsFurther found contents q x) where
  abbrev New : Found
  New = with_checkpoint x (state_behind contents q) (last_text_behind contents q)

  kept : IsKept x.cap (replay registry_machine q (registry_found contents))
  kept = subst (λ n. IsKept n (replay registry_machine q (registry_found contents))) (sym further.same_cap) (behind_kept found contents q is (next_good (count_found found) q next))

  range : IsCap x.cap
  range = subst IsCap (sym further.same_cap) is.state.range

  last_is : IsLast New (last_behind (last_found contents) q)
  last_is = begun_last x (state_behind contents q) (last_behind (last_found contents) q)
      (λ e same. subst (λ n. IsLastAt n e) (sym further.counted) (behind_last (count_found found) (last_found contents) q e next (found_last found contents is) same))
      (λ none. further.counted ∙ found_none found contents is q none)

  -- the base is the one found: no record was found behind it, and none was added
  begun_as_found : x.base + length x.records ≡ found.base → IsContents New (as_found contents q)
  begun_as_found base =
      let counted = further.counted in
      let long = records_long found.version (found.base + 1) found.records contents.records is.records in
      let none : q ≡ [] = nil_from_length q (omega (arith, counted, base)) in
      let own : contents.records ≡ [] = nil_from_length contents.records (omega (arith, counted, base, long)) in
      let last : last_behind (last_found contents) q ≡ contents.last = ap (last_behind (last_found contents)) none ∙ ap (last_behind contents.last) own in
      let all : contents.records ++ q ≡ [] = ap (λ (es : List Entry). es ++ q) own ∙ none in
      let text : state_behind contents q ≡ registry_text (keys_in contents.registry) =
      ap (λ (es : List Entry). registry_text (replay registry_machine es (registry_found contents)).keys) none
      ∙ ap (λ (es : List Entry). registry_text (replay registry_machine es (replicated contents.registry)).keys) own in
      record {
        state = record {
          range = range;
          read = record {
            same_cap = is.state.read.same_cap ∙ sym further.same_cap;
            limits = is.state.read.limits;
            text = text;
            fits = subst (λ n. size (keys_in contents.registry) ≤ n) (sym further.same_cap) is.state.read.fits;
          };
        };
        last = subst (IsLast New) last last_is;
        records = subst (λ (es : List Entry). AreRecords 2 (x.base + length x.records + 1) [] es) (sym all) tt;
      }

  begun_anew : IsContents New (begun_behind contents q (x.base + length x.records - count_found found))
  begun_anew =
      let counted = further.counted in
      let many : length q ≤ x.base + length x.records - count_found found = omega (arith, counted) in
      let all : take (x.base + length x.records - count_found found) q ≡ q = take_all (x.base + length x.records - count_found found) q many in
      let none : drop (x.base + length x.records - count_found found) q ≡ [] = drop_all (x.base + length x.records - count_found found) q many in
      let state : IsState New (contents_of (replay registry_machine q (registry_found contents))) =
      record { range = range; read = reads_own x.cap (replay registry_machine q (registry_found contents)) kept } in
      record {
        state = subst (λ (es : List Entry). IsState New (contents_of (replay registry_machine es (registry_found contents)))) (sym all) state;
        last = subst (λ (es : List Entry). IsLast New (last_behind (last_found contents) es)) (sym all) last_is;
        records = subst (λ (es : List Entry). AreRecords 2 (x.base + length x.records + 1) [] es) (sym none) tt;
      }

  pub further_begun : IsFurther found contents q New
  further_begun =
      let counted = further.counted in
      record {
        same_cap = further.same_cap;
        counted = omega (arith, counted);
        decodes = if_contents New (as_found contents q) (begun_behind contents q (x.base + length x.records - count_found found)) (nat_eq (x.base + length x.records) found.base)
            (λ same. begun_as_found (is_same (x.base + length x.records) found.base same)) (λ other. begun_anew);
      }
