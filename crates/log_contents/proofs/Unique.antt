-- A log that was found has one content at most.
use Rattle.std.proofs.Common.{◌≡◌, ℕ, ◌+◌, ◌<◌, ◌==◌, Bool, true, false, List, [], ◌∷◌, Option, Some, None, refl, sym, ap, ◌∙◌, arith}
use Rattle.std.specs.FinMap.{same_entries_map}
use Rattle.quorum_log.specs.declared.found.Found.{Found}
use Rattle.quorum_log.specs.declared.found.FoundRecord.{FoundRecord}
use Rattle.update_records.specs.Entry.{Entry}
use Rattle.update_records.specs.Grammar.{record_of, first_record_of}
use Rattle.update_records.proofs.RecordLaws.{whole_record_read, whole_first_read}
use Rattle.registry_defs.specs.Contents.{Contents, keys_in}
use Rattle.registry_states.proofs.OneState.{HoldsKeys}
use Rattle.registry_states.proofs.OneState.{one_state as keys_one}
use Rattle.log_contents.specs.Contents.{IsEncodedFirst, IsRecordAt, AreRecords, IsState, IsLast}

one_encoded : (first : Bool) (bytes : List ℕ) (a b : Entry) → IsEncodedFirst first bytes a → IsEncodedFirst first bytes b → a ≡ b
one_encoded true bytes a b x y =
    let read_a = ap first_record_of x.2 ∙ whole_first_read a x.0 x.1 in
    let read_b = ap first_record_of y.2 ∙ whole_first_read b y.0 y.1 in
    cc
one_encoded false bytes a b x y =
    let read_a = ap record_of x.1 ∙ whole_record_read a x.0 in
    let read_b = ap record_of y.1 ∙ whole_record_read b y.0 in
    cc

pub one_record : (version place : ℕ) (bytes : List ℕ) (a b : Entry) → IsRecordAt version place bytes a → IsRecordAt version place bytes b → a ≡ b
one_record version place bytes a b x y = one_encoded (version == 1) bytes a b x.encoded y.encoded

pub one_list : (version place : ℕ) (stored : List FoundRecord) (xs ys : List Entry) → AreRecords version place stored xs → AreRecords version place stored ys → xs ≡ ys
one_list version place [] [] [] p q = refl
one_list version place [] [] (y ∷ ys) p q = absurd q
one_list version place [] (x ∷ xs) ys p q = absurd p
one_list version place (s ∷ ss) [] ys p q = absurd p
one_list version place (s ∷ ss) (x ∷ xs) [] p q = absurd q
one_list version place (s ∷ ss) (x ∷ xs) (y ∷ ys) p q =
    let head : x ≡ y = one_record version place s.bytes x y p.0 q.0 in
    let tail : xs ≡ ys = one_list version (place + 1) ss xs ys p.1 q.1 in
    cc

placed_first : (first : Bool) (bytes : List ℕ) (a : Entry) → IsEncodedFirst first bytes a → 0 < a.place
placed_first true bytes a x = x.0.placed.first
placed_first false bytes a x = x.0.placed.first

pub never_zero : (version place : ℕ) (bytes : List ℕ) (a : Entry) → IsRecordAt version place bytes a → 0 < place
never_zero version place bytes a x = let positive = placed_first (version == 1) bytes a x.encoded in let same = x.place_is in omega (arith, positive, same)

pub one_last : (found : Found) (a b : Option Entry) → IsLast found a → IsLast found b → a ≡ b
one_last found None None x y = refl
one_last found None (Some b) x y = absurd (let some = never_zero found.version found.base found.last b y in let none = x.0 in omega (arith, some, none))
one_last found (Some a) None x y = absurd (let some = never_zero found.version found.base found.last a x in let none = y.0 in omega (arith, some, none))
one_last found (Some a) (Some b) x y = ap Some (one_record found.version found.base found.last a b x y)

same_contents : (a b : Contents) → a.cap ≡ b.cap → a.keys ≡ b.keys → a ≡ b
same_contents a b caps keys = λ i. record { cap = caps i; keys = keys i }

pub one_state : (found : Found) (a b : Contents) → IsState found a → IsState found b → a ≡ b
one_state found a b x y =
    let held_a : HoldsKeys found.cap found.state (keys_in a) = record { limits = x.read.limits; fits = x.read.fits; text = x.read.text } in
    let held_b : HoldsKeys found.cap found.state (keys_in b) = record { limits = y.read.limits; fits = y.read.fits; text = y.read.text } in
    let keys = keys_one found.cap found.state (keys_in a) (keys_in b) x.range.1 held_a held_b in
    same_contents a b (x.read.same_cap ∙ sym y.read.same_cap) (same_entries_map a.keys b.keys keys)
