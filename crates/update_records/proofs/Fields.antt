-- Fields that several kinds share: what is read is spelled so, and what is spelled so is read.
use Rattle.std.proofs.Common.{◌≡◌, ℕ, ◌+◌, ◌-◌, ◌<◌, ◌≤◌, ◌^◌, Bool, true, false, cond, eqb, ltb, List, [], ◌∷◌, ◌++◌, length, Option, Some, None, Result, Ok, Err, refl, sym, ap, ◌∙◌, subst, append_assoc, length-append, take, All, arith}
use Rattle.std.specs.Prelude.{◌&&◌, is_none}
use Rattle.std.proofs.lemmas.Bool.{ltb-true, ltb-false, le-ltb}
use Rattle.std.proofs.lemmas.Bool.Decides.{nat_tests}
use Rattle.std.proofs.lemmas.List.Concat.{flat_map-cons}
use Rattle.std.proofs.lemmas.List.Elements.{All-nil, All-cons, All-head, All-tail, All-append}
use Rattle.std.proofs.lemmas.List.Sums.{AllPass-from_list_all, list_all-from_AllPass}
use Rattle.std.proofs.lemmas.List.{append-nil, take_at}
use Rattle.wire_fields.specs.declared.endian.Endian.{Endian}
use Rattle.wire_fields.specs.declared.endian.Endian.TheVariants.{Little}
use Rattle.wire_fields.specs.Lists.{IsList}
use Rattle.wire_fields.specs.Numbers.{IsBytes, num}
use Rattle.wire_fields.specs.Reading.{Reading, number_at, bytes_at, times}
use Rattle.wire_fields.proofs.NumberLaws.{IsBytes-take, length-num}
use Rattle.wire_fields.proofs.FieldLaws.{at, Took, took_then, number_found, number_read, bytes_found, bytes_read}
use Rattle.wire_fields.proofs.ListLaws.{FoundBy, ReadBy, list_found, list_read}
use Rattle.clus_names.specs.Parts.{text_of, parts_of, joined_text}
use Rattle.clus_names.specs.Limits.{IsNameUnit, IsName, IsPart, IsPath, lacks_zero}
use Rattle.clus_names.specs.Faults.{text_fault}
use Rattle.clus_names.proofs.Texts.{path_text, text_passes, only_text, text_of-append}
use Rattle.update_records.specs.Checked.{◌>>=◌, judged, field_at, anything, between}
use Rattle.update_records.specs.Spelling.{units_text, name_text, data_text}
use Rattle.update_records.specs.Validity.{FitTogether}
use Rattle.update_records.specs.Grammar.{is_path_text, units_at, name_at, path_at, data_at, room_below}

-- ---- steps

-- The value of a step that did not fail.
pub bind_ok : {A B : Type 0} (read : Result A ℕ) (next : A → Result B ℕ) (y : B) → (read >>= next) ≡ Ok y → (x : A) × (read ≡ Ok x) × (next x ≡ Ok y)
bind_ok (Ok x) next y e = (x, refl, e)
bind_ok (Err place) next y e = absurd cc

abbrev done : {A : Type 0} → A → Result A ℕ
done x = Ok x

pub ok_is : {A : Type 0} (x y : A) → done x ≡ done y → x ≡ y
ok_is x y e = cc

-- A reader of little-endian bytes.
pub record IsInput (s : Reading) : Type 0 where
  pub bytes : IsBytes s.left
  pub order : s.endian ≡ Little

pub input_behind : (s t : Reading) (text : List ℕ) → IsInput s → Took s text t → IsInput t
input_behind s t text input took = record { bytes = took.bytes; order = took.order ∙ input.order }

-- What a field was read as.
pub record WasField {A : Type 0} (one : Reading → Option (A × Reading)) (obeys : A → Bool) (end : ℕ) (s : Reading) (x : A) (t : Reading) : Type 0 where
  pub read : one s ≡ Some (x, t)
  pub within : t.place ≤ end
  pub obeyed : obeys x ≡ true

abbrev kept : {A : Type 0} → Bool → ℕ → Result A ℕ → Result A ℕ
kept fails place next = cond fails (Err place) next

pub field_found : {A : Type 0} (one : Reading → Option (A × Reading)) (obeys : A → Bool) (end : ℕ) (s : Reading) (x : A) (t : Reading) → field_at one obeys end s ≡ Ok (x, t) → WasField one obeys end s x t
field_found {A} one obeys end s x t e = by (one s) refl e
  where
    passed : (b : Bool) (y : A × Reading) → cond {A = Result (A × Reading) ℕ} b (Ok y) (Err s.place) ≡ Ok (x, t) → (b ≡ true) × (y ≡ (x, t))
    passed true y e = (refl, cc)
    passed false y e = absurd cc

    not_past : (b : Bool) (y : A × Reading) → kept b s.place (cond {A = Result (A × Reading) ℕ} (obeys y.0) (Ok y) (Err s.place)) ≡ Ok (x, t) → (b ≡ false) × (obeys y.0 ≡ true) × (y ≡ (x, t))
    not_past true y e = absurd cc
    not_past false y e = let p = passed (obeys y.0) y e in (refl, p.0, p.1)

    by : (read : Option (A × Reading)) → one s ≡ read → judged obeys end s.place read ≡ Ok (x, t) → WasField one obeys end s x t
    by None is e = absurd cc
    by (Some y) is e =
        let p = not_past (ltb end y.1.place) y e in
        let within : y.1.place ≤ end = ltb-false _ _ p.0 in
        subst (λ (z : A × Reading). WasField one obeys end s z.0 z.1) p.2 (record { read = is; within = within; obeyed = p.1 })

pub field_read : {A : Type 0} (one : Reading → Option (A × Reading)) (obeys : A → Bool) (end : ℕ) (s : Reading) (x : A) (t : Reading) → one s ≡ Some (x, t) → t.place ≤ end → obeys x ≡ true → field_at one obeys end s ≡ Ok (x, t)
field_read one obeys end s x t read within obeyed =
    let enough : ltb end t.place ≡ false = le-ltb _ _ within in
    rw (read, enough, obeyed) refl

pub between_bounds : (low high n : ℕ) → between low high n ≡ true → (low ≤ n) × (n ≤ high)
between_bounds low high n e = (grind (arith, nat_tests), grind (arith, nat_tests))

pub bounds_between : (low high n : ℕ) → low ≤ n → n ≤ high → between low high n ≡ true
bounds_between low high n l h = grind (arith, nat_tests)

-- ---- a number

pub record FoundNumber (w low high end : ℕ) (s : Reading) (n : ℕ) (t : Reading) : Type 0 where
  pub took : Took s (num Little w n) t
  pub input : IsInput t
  pub small : n < 256 ^ w
  pub least : low ≤ n
  pub most : n ≤ high
  pub within : t.place ≤ end

pub bounded_found : (w low high end : ℕ) (s : Reading) (n : ℕ) (t : Reading) → IsInput s → field_at (number_at w) (between low high) end s ≡ Ok (n, t) → FoundNumber w low high end s n t
bounded_found w low high end s n t input e =
    let was = field_found (number_at w) (between low high) end s n t e in
    let found = number_found w s n t input.bytes was.read in
    let bounds = between_bounds low high n was.obeyed in
    let took : Took s (num Little w n) t = subst (λ o. Took s (num o w n) t) input.order found.0 in
    record { took = took; input = input_behind s t _ input took; small = found.1; least = bounds.0; most = bounds.1; within = was.within }

pub record FoundAny (w end : ℕ) (s : Reading) (n : ℕ) (t : Reading) : Type 0 where
  pub took : Took s (num Little w n) t
  pub input : IsInput t
  pub small : n < 256 ^ w
  pub within : t.place ≤ end

pub any_found : (w end : ℕ) (s : Reading) (n : ℕ) (t : Reading) → IsInput s → field_at (number_at w) anything end s ≡ Ok (n, t) → FoundAny w end s n t
any_found w end s n t input e =
    let was = field_found (number_at w) anything end s n t e in
    let found = number_found w s n t input.bytes was.read in
    let took : Took s (num Little w n) t = subst (λ o. Took s (num o w n) t) input.order found.0 in
    record { took = took; input = input_behind s t _ input took; small = found.1; within = was.within }

pub bounded_read : (w low high end place n : ℕ) (rest : List ℕ) → n < 256 ^ w → low ≤ n → n ≤ high → place + w ≤ end
    → field_at (number_at w) (between low high) end (at Little place (num Little w n ++ rest)) ≡ Ok (n, at Little (place + w) rest)
bounded_read w low high end place n rest small least most room =
    field_read (number_at w) (between low high) end (at Little place (num Little w n ++ rest)) n (at Little (place + w) rest) (number_read Little place w n rest small) room (bounds_between low high n least most)

pub any_read : (w end place n : ℕ) (rest : List ℕ) → n < 256 ^ w → place + w ≤ end
    → field_at (number_at w) anything end (at Little place (num Little w n ++ rest)) ≡ Ok (n, at Little (place + w) rest)
any_read w end place n rest small room =
    field_read (number_at w) anything end (at Little place (num Little w n ++ rest)) n (at Little (place + w) rest) (number_read Little place w n rest small) room refl

-- ---- counted units

abbrev pub is_unit : Endian → ℕ → List ℕ → Type 0
is_unit order unit text = (text ≡ num order 2 unit) × (unit < 256 ^ 2)

abbrev pub IsUnit : ℕ → Type 0
IsUnit unit = unit < 2 ^ 16

pub unit_found : FoundBy (number_at 2) is_unit
unit_found s unit t h e = let f = number_found 2 s unit t h e in (num s.endian 2 unit, f.0, (refl, f.1))

pub unit_read : ReadBy (number_at 2) is_unit
unit_read order place unit text rest is =
    rw is.0 (number_read order place 2 unit rest is.1 ∙ ap (λ p. Some (unit, at order p rest)) (omega (arith, length-num order 2 unit)))

pub listed_units : (units text : List ℕ) → IsList (is_unit Little) units text → (text ≡ units_text units) × All IsUnit units
listed_units [] text is = (is, All-nil IsUnit)
listed_units (unit ∷ units) text is =
    let others = listed_units units is.1 is.4 in
    let parts : text ≡ num Little 2 unit ++ units_text units = is.2 ∙ ap (λ t. t ++ is.1) is.3.0 ∙ ap (λ t. num Little 2 unit ++ t) others.0 in
    (parts ∙ sym (flat_map-cons (λ u. num Little 2 u) unit units), All-cons IsUnit unit units is.3.1 others.1)

pub units_listed : (units : List ℕ) → All IsUnit units → IsList (is_unit Little) units (units_text units)
units_listed [] h = refl
units_listed (unit ∷ units) h =
    (num Little 2 unit, units_text units, flat_map-cons (λ u. num Little 2 u) unit units, (refl, All-head IsUnit unit units h), units_listed units (All-tail IsUnit unit units h))

pub length-units_text : (units : List ℕ) → length (units_text units) ≡ length units + length units
length-units_text [] = refl
length-units_text (unit ∷ units) = ap (λ t. length t) (flat_map-cons (λ u. num Little 2 u) unit units) ∙ omega (arith, length-append (num Little 2 unit) (units_text units), length-num Little 2 unit, length-units_text units)

pub record FoundUnits (low high : ℕ) (obeys : List ℕ → Bool) (end : ℕ) (s : Reading) (units : List ℕ) (t : Reading) : Type 0 where
  pub took : Took s (name_text units) t
  pub input : IsInput t
  pub least : low ≤ length units
  pub most : length units ≤ high
  pub obeyed : obeys units ≡ true
  pub each : All IsUnit units
  pub within : t.place ≤ end

pub units_found : (low high : ℕ) (obeys : List ℕ → Bool) (end : ℕ) (s : Reading) (units : List ℕ) (t : Reading) → IsInput s → units_at low high obeys end s ≡ Ok (units, t) → FoundUnits low high obeys end s units t
unfolding units_at name_text
units_found low high obeys end s units t input e =
    let a = bind_ok (field_at (number_at 2) (between low high) end s) (λ count. field_at (times count.0 (number_at 2)) obeys end count.1) (units, t) e in
    let count = bounded_found 2 low high end s a.0.0 a.0.1 input a.1 in
    let was = field_found (times a.0.0 (number_at 2)) obeys end a.0.1 units t a.2 in
    let list = list_found (number_at 2) is_unit unit_found a.0.0 a.0.1 units t count.input.bytes was.read in
    let listed = listed_units units list.text (subst (λ o. IsList (is_unit o) units list.text) count.input.order list.listed) in
    let back : Took a.0.1 (units_text units) t = subst (λ x. Took a.0.1 x t) listed.0 list.took in
    let counted : a.0.0 ≡ length units = sym list.many in
    let front : Took s (num Little 2 (length units)) a.0.1 = subst (λ n. Took s (num Little 2 n) a.0.1) counted count.took in
    let took = took_then s a.0.1 t (num Little 2 (length units)) (units_text units) front back in
    record {
      took = took;
      input = input_behind s t _ input took;
      least = omega (arith, count.least, counted);
      most = omega (arith, count.most, counted);
      obeyed = was.obeyed;
      each = listed.1;
      within = was.within;
    }

pub length-name_text : (units : List ℕ) → length (name_text units) ≡ 2 + (length units + length units)
unfolding name_text
length-name_text units = omega (arith, length-append (num Little 2 (length units)) (units_text units), length-num Little 2 (length units), length-units_text units)

pub units_read : (low high : ℕ) (obeys : List ℕ → Bool) (end place : ℕ) (units rest : List ℕ) → high < 2 ^ 16 → low ≤ length units → length units ≤ high → obeys units ≡ true → All IsUnit units → place + length (name_text units) ≤ end
    → units_at low high obeys end (at Little place (name_text units ++ rest)) ≡ Ok (units, at Little (place + length (name_text units)) rest)
unfolding units_at name_text
units_read low high obeys end place units rest limit least most obeyed each room =
    let long = length-name_text units in
    let count : field_at (number_at 2) (between low high) end (at Little place (num Little 2 (length units) ++ (units_text units ++ rest))) ≡ Ok (length units, at Little (place + 2) (units_text units ++ rest)) =
    bounded_read 2 low high end place (length units) (units_text units ++ rest) (omega arith) least most (omega arith) in
    let list : times (length units) (number_at 2) (at Little (place + 2) (units_text units ++ rest)) ≡ Some (units, at Little (place + 2 + length (units_text units)) rest) =
    list_read (number_at 2) is_unit unit_read Little (place + 2) units (units_text units) rest (units_listed units each) in
    let behind : place + 2 + length (units_text units) ≡ place + length (num Little 2 (length units) ++ units_text units) = omega (arith, length-append (num Little 2 (length units)) (units_text units), length-num Little 2 (length units)) in
    let field = field_read (times (length units) (number_at 2)) obeys end (at Little (place + 2) (units_text units ++ rest)) units (at Little (place + 2 + length (units_text units)) rest) list (omega arith) obeyed in
    rw (append_assoc (num Little 2 (length units)) (units_text units) rest, count) (field ∙ ap (λ p. Ok (units, at Little p rest)) behind)

-- ---- names

pub both_true : (a b : Bool) → (a && b) ≡ true → (a ≡ true) × (b ≡ true)
both_true true b e = (refl, e)
both_true false b e = absurd cc

none_is : {A : Type 0} (o : Option A) → is_none o ≡ true → o ≡ None
none_is None e = refl
none_is (Some x) e = absurd cc

pub name_units : (units : List ℕ) → lacks_zero units ≡ true → All IsUnit units → All IsNameUnit units
name_units units lacks each k d l =
    record { not_zero = ltb-true _ _ (AllPass-from_list_all (λ unit. ltb 0 unit) units lacks k d l); in_range = each k d l }

pub record FoundName (end : ℕ) (s : Reading) (name : List ℕ) (t : Reading) : Type 0 where
  pub took : Took s (name_text name) t
  pub input : IsInput t
  pub is_name : IsName name
  pub within : t.place ≤ end

pub name_found : (end : ℕ) (s : Reading) (name : List ℕ) (t : Reading) → IsInput s → name_at end s ≡ Ok (name, t) → FoundName end s name t
unfolding name_at
name_found end s name t input e =
    let f = units_found 0 1023 lacks_zero end s name t input e in
    record { took = f.took; input = f.input; is_name = record { short = f.most; units = name_units name f.obeyed f.each }; within = f.within }

-- ---- paths

pub path_text_of : (path : List (List ℕ)) (units : List ℕ) → lacks_zero units ≡ true → IsPath path × (text_of path ≡ units) → (is_path_text units ≡ true) × (path ≡ parts_of units)
path_text_of path units lacks is =
    let none : text_fault units ≡ None = subst (λ t. text_fault t ≡ None) is.1 (text_passes path is.0) in
    (rw (lacks, none) refl, sym (only_text units path is.0 is.1))

pub record FoundPath (low high end : ℕ) (s : Reading) (path : List (List ℕ)) (t : Reading) : Type 0 where
  pub took : Took s (name_text (text_of path)) t
  pub input : IsInput t
  pub is_path : IsPath path
  pub least : low ≤ length (text_of path)
  pub most : length (text_of path) ≤ high
  pub within : t.place ≤ end

pub path_found : (low high end : ℕ) (s : Reading) (path : List (List ℕ)) (t : Reading) → IsInput s → path_at low high end s ≡ Ok (path, t) → FoundPath low high end s path t
unfolding path_at
path_found low high end s path t input e =
    let a = bind_ok (units_at low high is_path_text end s) (λ units. Ok (parts_of units.0, units.1)) (path, t) e in
    let units = a.0.0 in
    let f = units_found low high is_path_text end s units a.0.1 input a.1 in
    let both = both_true (lacks_zero units) (is_none (text_fault units)) f.obeyed in
    let valid = path_text units (none_is (text_fault units) both.1) (name_units units both.0 f.each) in
    let whole : FoundPath low high end s (parts_of units) a.0.1 = record {
      took = subst (λ x. Took s (name_text x) a.0.1) (sym valid.joined) f.took;
      input = f.input;
      is_path = valid.path;
      least = rw valid.joined f.least;
      most = rw valid.joined f.most;
      within = f.within;
    } in
    subst (λ (x : List (List ℕ) × Reading). FoundPath low high end s x.0 x.1) (ok_is (parts_of units, a.0.1) (path, t) a.2) whole

-- ---- data

pub record FoundData (end : ℕ) (s : Reading) (bytes : List ℕ) (t : Reading) : Type 0 where
  pub took : Took s (data_text bytes) t
  pub input : IsInput t
  pub short : length bytes ≤ 49152
  pub are_bytes : IsBytes bytes
  pub within : t.place ≤ end

pub front_bytes : (s t : Reading) (text : List ℕ) → IsInput s → Took s text t → IsBytes text
front_bytes s t text input took =
    let whole : IsBytes (take (length text) s.left) = IsBytes-take (length text) s.left input.bytes in
    let front : take (length text) s.left ≡ text = ap (λ l. take (length text) l) took.parts ∙ take_at text t.left (length text) refl in
    subst IsBytes front whole

pub data_found : (end : ℕ) (s : Reading) (bytes : List ℕ) (t : Reading) → IsInput s → data_at end s ≡ Ok (bytes, t) → FoundData end s bytes t
unfolding data_at data_text
data_found end s bytes t input e =
    let a = bind_ok (field_at (number_at 4) (between 0 49152) end s) (λ count. field_at (bytes_at count.0) anything end count.1) (bytes, t) e in
    let count = bounded_found 4 0 49152 end s a.0.0 a.0.1 input a.1 in
    let was = field_found (bytes_at a.0.0) anything end a.0.1 bytes t a.2 in
    let back = bytes_found a.0.0 a.0.1 bytes t count.input.bytes was.read in
    let counted : a.0.0 ≡ length bytes = sym back.1 in
    let front : Took s (num Little 4 (length bytes)) a.0.1 = subst (λ n. Took s (num Little 4 n) a.0.1) counted count.took in
    let took = took_then s a.0.1 t (num Little 4 (length bytes)) bytes front back.0 in
    record {
      took = took;
      input = input_behind s t _ input took;
      short = omega (arith, count.most, counted);
      are_bytes = front_bytes a.0.1 t bytes count.input back.0;
      within = was.within;
    }

pub length-data_text : (bytes : List ℕ) → length (data_text bytes) ≡ 4 + length bytes
unfolding data_text
length-data_text bytes = omega (arith, length-append (num Little 4 (length bytes)) bytes, length-num Little 4 (length bytes))

pub data_read : (end place : ℕ) (bytes rest : List ℕ) → length bytes ≤ 49152 → place + length (data_text bytes) ≤ end
    → data_at end (at Little place (data_text bytes ++ rest)) ≡ Ok (bytes, at Little (place + length (data_text bytes)) rest)
unfolding data_at data_text
data_read end place bytes rest short room =
    let long = length-data_text bytes in
    let count : field_at (number_at 4) (between 0 49152) end (at Little place (num Little 4 (length bytes) ++ (bytes ++ rest))) ≡ Ok (length bytes, at Little (place + 4) (bytes ++ rest)) =
    bounded_read 4 0 49152 end place (length bytes) (bytes ++ rest) (omega arith) (omega arith) short (omega arith) in
    let run : bytes_at (length bytes) (at Little (place + 4) (bytes ++ rest)) ≡ Some (bytes, at Little (place + 4 + length bytes) rest) =
    bytes_read Little (place + 4) (length bytes) bytes rest refl in
    let behind : place + 4 + length bytes ≡ place + length (num Little 4 (length bytes) ++ bytes) = omega (arith, length-append (num Little 4 (length bytes)) bytes, length-num Little 4 (length bytes)) in
    let field = field_read (bytes_at (length bytes)) anything end (at Little (place + 4) (bytes ++ rest)) bytes (at Little (place + 4 + length bytes) rest) run (omega arith) refl in
    rw (append_assoc (num Little 4 (length bytes)) bytes rest, count) (field ∙ ap (λ p. Ok (bytes, at Little p rest)) behind)

-- ---- names and paths are read again

pub lacks_again : (units : List ℕ) → All IsNameUnit units → lacks_zero units ≡ true
lacks_again units h = list_all-from_AllPass (λ unit. ltb 0 unit) units (λ k d l. lt_test _ _ (h k d l).not_zero)
  where
    lt_test : (a b : ℕ) → a < b → ltb a b ≡ true
    lt_test a b l = grind (arith, nat_tests)

pub name_read : (end place : ℕ) (name rest : List ℕ) → IsName name → place + length (name_text name) ≤ end
    → name_at end (at Little place (name_text name ++ rest)) ≡ Ok (name, at Little (place + length (name_text name)) rest)
unfolding name_at
name_read end place name rest h room =
    units_read 0 1023 lacks_zero end place name rest (omega arith) (omega arith) h.short (lacks_again name h.units) (λ k d l. (h.units k d l).in_range) room

pub part_units : (part : List ℕ) → IsPart part → All IsNameUnit part
part_units part h k d l = record { not_zero = (h.units k d l).not_zero; in_range = (h.units k d l).in_range }

path_units : (path : List (List ℕ)) → All IsPart path → All IsNameUnit (text_of path)
path_units [] h = All-nil IsNameUnit
path_units (part ∷ []) h = part_units part (All-head IsPart part [] h)
path_units (part ∷ next ∷ parts) h =
    All-append IsNameUnit part (92 ∷ text_of (next ∷ parts)) (part_units part (All-head IsPart part (next ∷ parts) h))
    (All-cons IsNameUnit 92 (text_of (next ∷ parts)) (record { not_zero = omega arith; in_range = omega arith }) (path_units (next ∷ parts) (All-tail IsPart part (next ∷ parts) h)))

pub path_read : (low high end place : ℕ) (path : List (List ℕ)) (rest : List ℕ) → high < 2 ^ 16 → IsPath path → low ≤ length (text_of path) → length (text_of path) ≤ high → place + length (name_text (text_of path)) ≤ end
    → path_at low high end (at Little place (name_text (text_of path) ++ rest)) ≡ Ok (path, at Little (place + length (name_text (text_of path))) rest)
unfolding path_at
path_read low high end place path rest limit h least most room =
    let text = text_of path in
    let units = path_units path h.parts in
    let again = path_text_of path text (lacks_again text units) (h, refl) in
    let read = units_read low high is_path_text end place text rest limit least most again.0 (λ k d l. (units k d l).in_range) room in
    rw read (ap (λ p. Ok (p, at Little (place + length (name_text text)) rest)) (sym again.1))

-- ---- a key and a path below it

some_text : (part : List ℕ) (parts : List (List ℕ)) → 0 < length part → 0 < length (text_of (part ∷ parts))
some_text part [] l = l
some_text part (next ∷ parts) l = omega (arith, length-append part (92 ∷ text_of (next ∷ parts)))

pub no_parts : (path : List (List ℕ)) → IsPath path → length (text_of path) ≡ 0 → path ≡ []
no_parts [] h e = refl
no_parts (part ∷ parts) h e = absurd (omega (arith, some_text part parts (All-head IsPart part parts h.parts).not_empty))

pub some_parts : (path : List (List ℕ)) → IsPath path → 0 < length path → 0 < length (text_of path)
some_parts [] h l = absurd (omega arith)
some_parts (part ∷ parts) h l = some_text part parts (All-head IsPart part parts h.parts).not_empty

pub counted_parts : (path : List (List ℕ)) → 0 < length (text_of path) → 0 < length path
counted_parts [] l = absurd (omega arith)
counted_parts (part ∷ parts) l = omega arith

joined_length : (above below : List ℕ) → 0 < length above → 0 < length below → length (joined_text above below) ≡ length above + 1 + length below
joined_length above below some more =
    let first : eqb (length above) 0 ≡ false = grind (arith, nat_tests) in
    let second : eqb (length below) 0 ≡ false = grind (arith, nat_tests) in
    rw (first, second) (omega (arith, length-append above (92 ∷ below)))

together : (key subkey : List (List ℕ)) → IsPath key → IsPath subkey → 0 < length key → 0 < length subkey → length (text_of (key ++ subkey)) ≡ length (text_of key) + 1 + length (text_of subkey)
together key subkey h k some more =
    ap (λ t. length t) (text_of-append key subkey h.parts k.parts) ∙ joined_length (text_of key) (text_of subkey) (some_parts key h some) (some_parts subkey k more)

pub fits_room : (key subkey : List (List ℕ)) → IsPath key → IsPath subkey → length (text_of subkey) ≤ room_below key → FitTogether key subkey
fits_room [] subkey h k room = k.short
fits_room (part ∷ parts) [] h k room = subst (λ (path : List (List ℕ)). length (text_of path) ≤ 1023) (sym (append-nil (part ∷ parts))) h.short
fits_room (part ∷ parts) (next ∷ others) h k room =
    let some : eqb (length (part ∷ parts)) 0 ≡ false = grind (arith, nat_tests) in
    let left : length (text_of (next ∷ others)) ≤ 1022 - length (text_of (part ∷ parts)) = rw some at room in
    omega (arith, left, together (part ∷ parts) (next ∷ others) h k (omega arith) (omega arith), some_parts (next ∷ others) k (omega arith))

pub room_fits : (key subkey : List (List ℕ)) → IsPath key → IsPath subkey → FitTogether key subkey → length (text_of subkey) ≤ room_below key
room_fits [] subkey h k fit = fit
room_fits (part ∷ parts) [] h k fit = omega arith
room_fits (part ∷ parts) (next ∷ others) h k fit =
    let some : eqb (length (part ∷ parts)) 0 ≡ false = grind (arith, nat_tests) in
    rw some (omega (arith, fit, together (part ∷ parts) (next ∷ others) h k (omega arith) (omega arith)))

pub room_small : (key : List (List ℕ)) → room_below key < 2 ^ 16
room_small [] = omega arith
room_small (part ∷ parts) =
    let some : eqb (length (part ∷ parts)) 0 ≡ false = grind (arith, nat_tests) in
    rw some (omega arith)
