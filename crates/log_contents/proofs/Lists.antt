-- Records one after the other, and the first that isn't one.
use Rattle.std.proofs.Common.{◌≡◌, ℕ, ◌+◌, ◌<◌, ◌==◌, Bool, true, false, List, [], ◌∷◌, ◌++◌, length, take, drop, get_or, Err, refl, sym, ap, ◌∙◌, subst, arith}
use Rattle.std.proofs.lemmas.List.{take-append-drop, length-take-le, take_more, drop_more}
use Rattle.quorum_log.specs.declared.found.FoundRecord.{FoundRecord}
use Rattle.std.specs.List.{AllByRecursion}
use Rattle.update_records.specs.Entry.{Entry, IsRecord}
use Rattle.log_contents.specs.Contents.{IsEncodedFirst, IsRecordAt, AreRecords}
use Rattle.log_contents.specs.Faults.{HasNone, IsPart, ArePart}
use Rattle.log_contents.specs.declared.fault.ContentsFault.{ContentsFault}
use Rattle.log_contents.specs.declared.fault.ContentsFault.TheVariants.{Bad, Memory}

pub one_more : (version place number : ℕ) (stored : List FoundRecord) (entries : List Entry) (next : FoundRecord) (entry : Entry)
    → AreRecords version place stored entries → length stored ≡ number → IsRecordAt version (place + number) next.bytes entry → AreRecords version place (stored ++ next ∷ []) (entries ++ entry ∷ [])
one_more version place number [] [] next entry h many is =
    let here : place + number ≡ place = omega (arith, many) in
    (subst (λ p. IsRecordAt version p next.bytes entry) here is, tt)
one_more version place number [] (e ∷ es) next entry h many is = absurd h
one_more version place number (s ∷ ss) [] next entry h many is = absurd h
one_more version place number (s ∷ ss) (e ∷ es) next entry h many is =
    let there : place + number ≡ place + 1 + length ss = omega (arith, many) in
    (h.0, one_more version (place + 1) (length ss) ss es next entry h.1 refl (subst (λ p. IsRecordAt version p next.bytes entry) there is))

-- as many as the log has
pub records_long : (version place : ℕ) (stored : List FoundRecord) (entries : List Entry) → AreRecords version place stored entries → length stored ≡ length entries
records_long version place [] [] h = refl
records_long version place [] (e ∷ es) h = absurd h
records_long version place (s ∷ ss) [] h = absurd h
records_long version place (s ∷ ss) (e ∷ es) h = let behind = records_long version (place + 1) ss es h.1 in omega (arith, behind)

encoded_good : (first : Bool) (bytes : List ℕ) (entry : Entry) → IsEncodedFirst first bytes entry → IsRecord entry
encoded_good true bytes entry is = is.0
encoded_good false bytes entry is = is.0

pub record_good : (version place : ℕ) (bytes : List ℕ) (entry : Entry) → IsRecordAt version place bytes entry → IsRecord entry
record_good version place bytes entry is = encoded_good (version == 1) bytes entry is.encoded

-- each of them is a record
pub records_good : (version place : ℕ) (stored : List FoundRecord) (entries : List Entry) → AreRecords version place stored entries → AllByRecursion IsRecord entries
records_good version place [] [] h = tt
records_good version place [] (e ∷ es) h = absurd h
records_good version place (s ∷ ss) [] h = absurd h
records_good version place (s ∷ ss) (e ∷ es) h = (record_good version place s.bytes e h.0, records_good version (place + 1) ss es h.1)

-- where one of the records isn't that of its place, they are no records
pub none_behind : (version place : ℕ) (before : List FoundRecord) (bad : FoundRecord) (behind : List FoundRecord) (entries : List Entry)
    → HasNone (IsRecordAt version (place + length before) bad.bytes) → AreRecords version place (before ++ bad ∷ behind) entries → ⊥
none_behind version place [] bad behind [] none h = absurd h
none_behind version place [] bad behind (e ∷ es) none h =
    let here : place ≡ place + 0 = omega arith in
    none e (subst (λ p. IsRecordAt version p bad.bytes e) here h.0)
none_behind version place (s ∷ ss) bad behind [] none h = absurd h
none_behind version place (s ∷ ss) bad behind (e ∷ es) none h =
    let there : place + length (s ∷ ss) ≡ place + 1 + length ss = omega arith in
    none_behind version (place + 1) ss bad behind es (subst (λ p. HasNone (IsRecordAt version p bad.bytes)) there none) h.1

-- ---- a loop that reads one after the other, of which so many were read

module _ (version base number i : ℕ) (all : List FoundRecord) (next : FoundRecord) (bytes : List ℕ) (entries : List Entry) where
  -- the next of all records, with its bytes and its number from 1
  pub record IsNext : Type 0 where
    pub within : i < length all
    pub is : next ≡ get_or all i next
    pub same : bytes ≡ next.bytes
    pub counted : number ≡ i + 1
    pub good : AreRecords version (base + 1) (take i all) entries

  long : IsNext → length (take i all) ≡ i
  long n = let within = n.within in length-take-le i all (omega (arith, within))

  there : IsNext → base + number ≡ base + 1 + i
  there n = let counted = n.counted in omega (arith, counted)

  pub read : (entry : Entry) → IsNext → IsRecordAt version (base + number) bytes entry → AreRecords version (base + 1) (take (i + 1) all) (entries ++ entry ∷ [])
  read entry n h =
      let here : IsRecordAt version (base + 1 + i) next.bytes entry = subst (λ b. IsRecordAt version (base + 1 + i) b entry) n.same (subst (λ p. IsRecordAt version p bytes entry) (there n) h) in
      let more : take (i + 1) all ≡ take i all ++ next ∷ [] = take_more all i next n.within ∙ ap (λ (x : FoundRecord). take i all ++ x ∷ []) (sym n.is) in
      subst (λ (l : List FoundRecord). AreRecords version (base + 1) l (entries ++ entry ∷ [])) (sym more) (one_more version (base + 1) i (take i all) entries next entry n.good (long n) here)

  pub fails : (fault : ContentsFault) → IsNext → IsPart (IsRecordAt version (base + number) bytes) next.at (Err fault) → ArePart version (base + 1) all (Err fault)
  fails Memory n h = tt
  fails (Bad place) n h =
      let at : base + number ≡ base + 1 + length (take i all) = there n ∙ ap (λ m. base + 1 + m) (sym (long n)) in
      record {
        before = take i all;
        bad = next;
        behind = drop (i + 1) all;
        split = sym (take-append-drop i all) ∙ ap (λ l. take i all ++ l) (drop_more all i next n.within ∙ ap (λ (x : FoundRecord). x ∷ drop (i + 1) all) (sym n.is));
        entries = entries;
        good = n.good;
        none = λ entry is. h.0 entry (subst (λ b. IsRecordAt version (base + number) b entry) (sym n.same) (subst (λ p. IsRecordAt version p next.bytes entry) (sym at) is));
        begins = h.1;
      }
