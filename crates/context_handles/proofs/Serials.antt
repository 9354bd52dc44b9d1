-- A serial number reads back from its handle, so a handle names one entry at most.
use Rattle.std.proofs.Common.{◌≡◌, ◌≢◌, ℕ, ◌<◌, ◌^◌, Bool, true, false, List, ◌++◌, length, drop, refl, sym, ap, ◌∙◌, subst, append_assoc, arith, length-append}
use Rattle.std.specs.Prelude.{◌==◌, replicate}
use Rattle.std.specs.Bool.{Decides}
use Rattle.std.specs.BTreeMap.{is_at}
use Rattle.std.specs.Ordering.{nat_cmp}
use Rattle.std.specs.Str.{bytes_eq}
use Rattle.std.proofs.lemmas.Bool.Decides.{Decides-and, Decides-eqb, nat_tests, same_from_decides}
use Rattle.std.proofs.lemmas.List.{drop_at}
use Rattle.std.proofs.lemmas.Slice.Eq.{bytes_eq-Decides}
use Rattle.wire_fields.specs.declared.endian.Endian.TheVariants.{Big}
use Rattle.wire_fields.specs.Numbers.{num, number}
use Rattle.wire_fields.proofs.NumberLaws.{length-num, number-of_num}
use Rattle.ndr_values.specs.declared.handle.WireHandle.{WireHandle}
use Rattle.context_handles.specs.Encoding.{handle_of, id_of, is_handle_of}
use Rattle.context_handles.specs.Laws.{HandlesDiffer}

abbrev pub serial_in : List ℕ → ℕ
serial_in id = number Big 8 (drop 8 id)

pub serial_of_id : (node serial : ℕ) → serial < 256 ^ 8 → serial_in (id_of node serial) ≡ serial
serial_of_id node serial small =
    let front : List ℕ = num Big 4 node ++ replicate 4 0 in
    let split : id_of node serial ≡ front ++ num Big 8 serial = sym (append_assoc (num Big 4 node) (replicate 4 0) (num Big 8 serial)) in
    let long : length front ≡ 8 = omega (arith, length-append (num Big 4 node) (replicate 4 0), length-num Big 4 node) in
    rw (split, drop_at front (num Big 8 serial) 8 long) (number-of_num Big 8 serial small)

pub differ : HandlesDiffer
differ node a b a-small b-small e =
    let same : serial_in (id_of node a) ≡ serial_in (id_of node b) = ap (λ (handle : WireHandle). serial_in handle.id) e in
    sym (serial_of_id node a a-small) ∙ same ∙ serial_of_id node b b-small

pub named_by : (node : ℕ) (handle : WireHandle) (serial : ℕ) → Decides (is_handle_of node handle serial) ((handle.attributes ≡ 0) × (handle.id ≡ id_of node serial))
named_by node handle serial = Decides-and (handle.attributes == 0) (bytes_eq handle.id (id_of node serial)) (Decides-eqb handle.attributes 0) (bytes_eq-Decides handle.id (id_of node serial))

pub serial_is : (node : ℕ) (handle : WireHandle) (serial : ℕ) → serial < 256 ^ 8 → is_handle_of node handle serial ≡ true → serial_in handle.id ≡ serial
serial_is node handle serial small named =
    ap serial_in ((named_by node handle serial).0 named).1 ∙ serial_of_id node serial small

at_number : (x y : ℕ) → Decides (is_at (nat_cmp x) y) (x ≡ y)
at_number x y = grind (arith, nat_tests)

-- The handle that was made with this serial number names what the map has at that number.
pub same_test : (node : ℕ) (handle : WireHandle) (serial other : ℕ) → serial ≡ serial_in handle.id → is_handle_of node handle serial ≡ true → other < 256 ^ 8
    → is_at (nat_cmp serial) other ≡ is_handle_of node handle other
same_test node handle serial other is named small =
    let decided : Decides (is_handle_of node handle other) (serial ≡ other) =
    ((λ e. is ∙ serial_is node handle other small e), (λ e. subst (λ (k : ℕ). is_handle_of node handle k ≡ true) e named)) in
    same_from_decides (is_at (nat_cmp serial) other) (is_handle_of node handle other) (at_number serial other) decided

-- A handle that wasn't made with the serial number in it names nothing.
pub no_test : (node : ℕ) (handle : WireHandle) (serial other : ℕ) → serial ≡ serial_in handle.id → is_handle_of node handle serial ≡ false → other < 256 ^ 8
    → is_handle_of node handle other ≡ false
no_test node handle serial other is unnamed small = by_cases (is_handle_of node handle other) refl where
  by_cases : (test : Bool) → is_handle_of node handle other ≡ test → is_handle_of node handle other ≡ false
  by_cases false e = e
  by_cases true e =
      let k : serial ≡ other = is ∙ serial_is node handle other small e in
      let named : is_handle_of node handle serial ≡ true = subst (λ (n : ℕ). is_handle_of node handle n ≡ true) (sym k) e in
      absurd (cc (named, unnamed))

none : (test : Bool) → (test ≡ true → ⊥) → test ≡ false
none true h = absurd (h refl)
none false h = refl

-- A handle passes the test of its own serial number, and of no other.
pub made_test : (node serial : ℕ) → is_handle_of node (handle_of node serial) serial ≡ true
made_test node serial = (named_by node (handle_of node serial) serial).1 (refl, refl)

pub other_test : (node serial other : ℕ) → serial < 256 ^ 8 → other < 256 ^ 8 → serial ≢ other → is_handle_of node (handle_of node serial) other ≡ false
other_test node serial other small other-small differs =
    none (is_handle_of node (handle_of node serial) other) (λ e. differs (sym (serial_of_id node serial small) ∙ serial_is node (handle_of node serial) other other-small e))
