-- The first part at fault of a log begins at one place.
use Rattle.std.proofs.Common.{◌≡◌, ℕ, ◌+◌, List, [], ◌∷◌, ◌++◌, length, sym, ap, ◌∙◌, subst, inl, inr, arith}
use Rattle.quorum_log.specs.declared.found.Found.{Found}
use Rattle.quorum_log.specs.declared.found.FoundRecord.{FoundRecord}
use Rattle.update_records.specs.Entry.{Entry}
use Rattle.log_contents.specs.Contents.{AreRecords, IsRecordAt}
use Rattle.log_contents.specs.Faults.{HasNone, IsFaultAt}

none_at : (version a b : ℕ) (bytes : List ℕ) → a ≡ b → HasNone (IsRecordAt version a bytes) → HasNone (IsRecordAt version b bytes)
none_at version a b bytes same none = subst (λ n. HasNone (IsRecordAt version n bytes)) same none

-- The first bad record isn't one of the good ones before another.
not_before : (version place : ℕ) (bad r : FoundRecord) (rs : List FoundRecord) (entries : List Entry) → bad ≡ r → HasNone (IsRecordAt version (place + 0) bad.bytes) → AreRecords version place (r ∷ rs) entries → ⊥
not_before version place bad r rs [] same none good = good
not_before version place bad r rs (entry ∷ entries) same none good =
    let here : IsRecordAt version (place + 0) bad.bytes entry = subst (λ (q : FoundRecord). IsRecordAt version (place + 0) q.bytes entry) (sym same) (subst (λ n. IsRecordAt version n r.bytes entry) (let e : place ≡ place + 0 = omega arith in e) good.0) in
    none entry here

first_of : (a b : FoundRecord) (xs ys : List FoundRecord) → a ∷ xs ≡ b ∷ ys → a ≡ b
first_of a b xs ys same = cc

others_of : (a b : FoundRecord) (xs ys : List FoundRecord) → a ∷ xs ≡ b ∷ ys → xs ≡ ys
others_of a b xs ys same = cc

one_first : (version place : ℕ) (before before' : List FoundRecord) (bad bad' : FoundRecord) (behind behind' : List FoundRecord) (entries entries' : List Entry)
    → before ++ bad ∷ behind ≡ before' ++ bad' ∷ behind' → AreRecords version place before entries → HasNone (IsRecordAt version (place + length before) bad.bytes)
    → AreRecords version place before' entries' → HasNone (IsRecordAt version (place + length before') bad'.bytes) → bad ≡ bad'
one_first version place [] [] bad bad' behind behind' entries entries' same good none good' none' = first_of bad bad' behind behind' same
one_first version place [] (r ∷ rs) bad bad' behind behind' entries entries' same good none good' none' =
    absurd (not_before version place bad r rs entries' (first_of bad r behind (rs ++ bad' ∷ behind') same) none good')
one_first version place (r ∷ rs) [] bad bad' behind behind' entries entries' same good none good' none' =
    absurd (not_before version place bad' r rs entries (sym (first_of r bad' (rs ++ bad ∷ behind) behind' same)) none' good)
one_first version place (r ∷ rs) (s ∷ ss) bad bad' behind behind' [] entries' same good none good' none' = absurd good
one_first version place (r ∷ rs) (s ∷ ss) bad bad' behind behind' (e ∷ es) [] same good none good' none' = absurd good'
one_first version place (r ∷ rs) (s ∷ ss) bad bad' behind behind' (e ∷ es) (f ∷ fs) same good none good' none' =
    let rest : rs ++ bad ∷ behind ≡ ss ++ bad' ∷ behind' = others_of r s (rs ++ bad ∷ behind) (ss ++ bad' ∷ behind') same in
    let here : place + length (r ∷ rs) ≡ place + 1 + length rs = omega arith in
    let there : place + length (s ∷ ss) ≡ place + 1 + length ss = omega arith in
    one_first version (place + 1) rs ss bad bad' behind behind' es fs rest good.1 (none_at version _ _ bad.bytes here none) good'.1 (none_at version _ _ bad'.bytes there none')

pub one_fault : (found : Found) (a b : ℕ) → IsFaultAt found a → IsFaultAt found b → a ≡ b
one_fault found a b (inl x) (inl y) = x.1 ∙ sym y.1
one_fault found a b (inl x) (inr (inl y)) = absurd (x.0 y.0 y.1)
one_fault found a b (inl x) (inr (inr y)) = absurd (x.0 y.0 y.2)
one_fault found a b (inr (inl x)) (inl y) = absurd (y.0 x.0 x.1)
one_fault found a b (inr (inl x)) (inr (inl y)) = x.3 ∙ sym y.3
one_fault found a b (inr (inl x)) (inr (inr y)) = absurd (x.2 y.1 y.3)
one_fault found a b (inr (inr x)) (inl y) = absurd (y.0 x.0 x.2)
one_fault found a b (inr (inr x)) (inr (inl y)) = absurd (y.2 x.1 x.3)
one_fault found a b (inr (inr x)) (inr (inr y)) =
    let first = x.4 in
    let other = y.4 in
    let same = one_first found.version (found.base + 1) first.before other.before first.bad other.bad first.behind other.behind first.entries other.entries
    (sym first.split ∙ other.split) first.good first.none other.good other.none in
    first.begins ∙ ap (λ (r : FoundRecord). r.at) same ∙ sym other.begins
