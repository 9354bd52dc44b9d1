-- Fields of a state: what is read is spelled so.
use Rattle.std.proofs.Common.{◌≡◌, ℕ, ◌<◌, ◌≤◌, ◌^◌, Bool, true, false, cond, ltb, List, length, Option, Some, None, Result, Ok, Err, refl, sym, subst, arith}
use Rattle.std.specs.Prelude.{◌&&◌, nat_le}
use Rattle.std.proofs.lemmas.Bool.{ltb-false}
use Rattle.std.proofs.lemmas.Bool.Decides.{nat_tests}
use Rattle.wire_fields.specs.declared.endian.Endian.TheVariants.{Little}
use Rattle.wire_fields.specs.Lists.{IsList}
use Rattle.wire_fields.specs.Numbers.{num}
use Rattle.wire_fields.specs.Reading.{Reading, number_at, bytes_at, times}
use Rattle.wire_fields.proofs.FieldLaws.{Took, took_then, number_found, bytes_found}
use Rattle.wire_fields.proofs.ListLaws.{list_found}
use Rattle.update_records.specs.Spelling.{units_text, name_text, data_text}
use Rattle.update_records.proofs.Fields.{IsInput, input_behind, WasField, between_bounds, is_unit, unit_found, listed_units, FoundUnits, FoundData, front_bytes}
use Rattle.registry_defs.specs.StateFields.{Stop, Bad, ◌>>=◌, judged, field_at, units_at, data_at}

-- ---- steps

-- The value of a step that did not fail.
pub bind_ok : {A B : Type 0} (read : Result A Stop) (next : A → Result B Stop) (y : B) → (read >>= next) ≡ Ok y → (x : A) × (read ≡ Ok x) × (next x ≡ Ok y)
bind_ok (Ok x) next y e = (x, refl, e)
bind_ok (Err stop) next y e = absurd cc

abbrev done : {A : Type 0} → A → Result A Stop
done x = Ok x

ok_is : {A : Type 0} (x y : A) → done x ≡ done y → x ≡ y
ok_is x y e = cc

-- What is known of a value and the reader behind it is known of the result of the last step.
pub read_as : {A : Type 0} (P : A → Reading → Type 0) (y x : A × Reading) → done y ≡ done x → P y.0 y.1 → P x.0 x.1
read_as P y x e known = subst (λ z. P z.0 z.1) (ok_is y x e) known

abbrev kept : {A : Type 0} → Bool → ℕ → Result A Stop → Result A Stop
kept fails place next = cond fails (Err (Bad place)) next

pub field_found : {A : Type 0} (one : Reading → Option (A × Reading)) (obeys : A → Bool) (end : ℕ) (s : Reading) (x : A) (t : Reading) → field_at one obeys end s ≡ Ok (x, t) → WasField one obeys end s x t
field_found {A} one obeys end s x t e = by (one s) refl e
  where
    passed : (b : Bool) (y : A × Reading) → cond {A = Result (A × Reading) Stop} b (Ok y) (Err (Bad s.place)) ≡ Ok (x, t) → (b ≡ true) × (y ≡ (x, t))
    passed true y e = (refl, cc)
    passed false y e = absurd cc

    not_past : (b : Bool) (y : A × Reading) → kept b s.place (cond {A = Result (A × Reading) Stop} (obeys y.0) (Ok y) (Err (Bad s.place))) ≡ Ok (x, t) → (b ≡ false) × (obeys y.0 ≡ true) × (y ≡ (x, t))
    not_past true y e = absurd cc
    not_past false y e = let p = passed (obeys y.0) y e in (refl, p.0, p.1)

    by : (read : Option (A × Reading)) → one s ≡ read → judged obeys end s.place read ≡ Ok (x, t) → WasField one obeys end s x t
    by None is e = absurd cc
    by (Some y) is e =
        let p = not_past (ltb end y.1.place) y e in
        let within : y.1.place ≤ end = ltb-false _ _ p.0 in
        subst (λ (z : A × Reading). WasField one obeys end s z.0 z.1) p.2 (record { read = is; within = within; obeyed = p.1 })

-- ---- numbers

pub record FoundNumber (w : ℕ) (obeys : ℕ → Bool) (end : ℕ) (s : Reading) (n : ℕ) (t : Reading) : Type 0 where
  pub took : Took s (num Little w n) t
  pub input : IsInput t
  pub small : n < 256 ^ w
  pub obeyed : obeys n ≡ true
  pub within : t.place ≤ end

pub number_was : (w : ℕ) (obeys : ℕ → Bool) (end : ℕ) (s : Reading) (n : ℕ) (t : Reading) → IsInput s → field_at (number_at w) obeys end s ≡ Ok (n, t) → FoundNumber w obeys end s n t
number_was w obeys end s n t input e =
    let was = field_found (number_at w) obeys end s n t e in
    let found = number_found w s n t input.bytes was.read in
    let took : Took s (num Little w n) t = subst (λ o. Took s (num o w n) t) input.order found.0 in
    record { took = took; input = input_behind s t _ input took; small = found.1; obeyed = was.obeyed; within = was.within }

-- the count that was read is that of what stands behind it
pub counted : (w : ℕ) (s t : Reading) (count long : ℕ) → long ≡ count → Took s (num Little w count) t → Took s (num Little w long) t
counted w s t count long many took = subst (λ n. Took s (num Little w n) t) (sym many) took

-- ---- counted units and counted bytes

pub units_were : (low high : ℕ) (obeys : List ℕ → Bool) (end : ℕ) (s : Reading) (units : List ℕ) (t : Reading) → IsInput s → units_at low high obeys end s ≡ Ok (units, t) → FoundUnits low high obeys end s units t
unfolding units_at name_text
units_were low high obeys end s units t input e =
    let a = bind_ok (field_at (number_at 2) (λ count. nat_le low count && nat_le count high) end s) (λ count. field_at (times count.0 (number_at 2)) obeys end count.1) (units, t) e in
    let count = number_was 2 (λ count. nat_le low count && nat_le count high) end s a.0.0 a.0.1 input a.1 in
    let bounds = between_bounds low high a.0.0 count.obeyed in
    let was = field_found (times a.0.0 (number_at 2)) obeys end a.0.1 units t a.2 in
    let list = list_found (number_at 2) is_unit unit_found a.0.0 a.0.1 units t count.input.bytes was.read in
    let listed = listed_units units list.text (subst (λ o. IsList (is_unit o) units list.text) count.input.order list.listed) in
    let back : Took a.0.1 (units_text units) t = subst (λ x. Took a.0.1 x t) listed.0 list.took in
    let front = counted 2 s a.0.1 a.0.0 (length units) list.many count.took in
    let took = took_then s a.0.1 t (num Little 2 (length units)) (units_text units) front back in
    record {
      took = took;
      input = input_behind s t _ input took;
      least = omega (arith, bounds.0, list.many);
      most = omega (arith, bounds.1, list.many);
      obeyed = was.obeyed;
      each = listed.1;
      within = was.within;
    }

pub data_was : (end : ℕ) (s : Reading) (bytes : List ℕ) (t : Reading) → IsInput s → data_at end s ≡ Ok (bytes, t) → FoundData end s bytes t
unfolding data_at data_text
data_was end s bytes t input e =
    let a = bind_ok (field_at (number_at 4) (λ count. nat_le count 49152) end s) (λ count. field_at (bytes_at count.0) (λ bytes. true) end count.1) (bytes, t) e in
    let count = number_was 4 (λ count. nat_le count 49152) end s a.0.0 a.0.1 input a.1 in
    let was = field_found (bytes_at a.0.0) (λ bytes. true) end a.0.1 bytes t a.2 in
    let back = bytes_found a.0.0 a.0.1 bytes t count.input.bytes was.read in
    let front = counted 4 s a.0.1 a.0.0 (length bytes) back.1 count.took in
    let took = took_then s a.0.1 t (num Little 4 (length bytes)) bytes front back.0 in
    record {
      took = took;
      input = input_behind s t _ input took;
      short = most a.0.0 (length bytes) count.obeyed back.1;
      are_bytes = front_bytes a.0.1 t bytes count.input back.0;
      within = was.within;
    }
  where
    most : (n m : ℕ) → nat_le n 49152 ≡ true → m ≡ n → m ≤ 49152
    most n m e is = grind (arith, nat_tests)
