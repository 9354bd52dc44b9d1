-- The checks of a header pass exactly where the bytes have one.
use Rattle.std.proofs.Common.{◌≡◌, ℕ, ◌≤◌, Bool, true, false, cond, ◌&&◌, ◌||◌, List, [], ◌∷◌, length, slice_index, Option, Some, None, refl, sym, ap, ◌∙◌, subst, arith}
use Rattle.std.specs.Prelude.{nat_le, ◌==◌, is_some}
use Rattle.std.specs.List.{AllByRecursion}
use Rattle.std.proofs.lemmas.Bool.Decides.{nat_tests}
use Rattle.wire_fields.specs.declared.endian.Endian.{Endian}
use Rattle.wire_fields.specs.declared.endian.Endian.TheVariants.{Little, Big}
use Rattle.wire_fields.specs.Reading.{number_in}
use Rattle.rpc_pdu.specs.declared.head.Head.{Head}
use Rattle.rpc_pdu.specs.declared.pdu_fault.PduFault.{PduFault}
use Rattle.rpc_pdu.specs.declared.pdu_type.PduType.{PduType}
use Rattle.rpc_pdu.specs.Flags.{flags_fit}
use Rattle.rpc_pdu.specs.Header.{IsHeader, auth_length, first_failed, flags_of_type_fit, frag_length, head_at, header_checks, header_fault, mark_of, order_of, order_with}
use Rattle.rpc_pdu.specs.PduTypes.{type_with}

abbrev pub IsPassed : Bool × PduFault → Type 0
IsPassed check = check.0 ≡ true

all_passed : (checks : List (Bool × PduFault)) → first_failed checks ≡ None → AllByRecursion IsPassed checks
all_passed [] e = tt
all_passed ((true, fault) ∷ checks) e = (refl, all_passed checks e)
all_passed ((false, fault) ∷ checks) e = absurd cc

none_failed : (checks : List (Bool × PduFault)) → AllByRecursion IsPassed checks → first_failed checks ≡ None
none_failed [] h = refl
none_failed ((true, fault) ∷ checks) h = none_failed checks h.1
none_failed ((false, fault) ∷ checks) h = absurd cc

both : (a b : Bool) → (a && b) ≡ true → (a ≡ true) × (b ≡ true)
both true true e = (refl, refl)
both true false e = absurd cc
both false b e = absurd cc

nat_equal : (a b : ℕ) → (a == b) ≡ true → a ≡ b
nat_equal a b e = grind (arith, nat_tests)

equal_nat : (a b : ℕ) → a ≡ b → (a == b) ≡ true
equal_nat a b e = grind (arith, nat_tests)

nat_at_most : (a b : ℕ) → nat_le a b ≡ true → a ≤ b
nat_at_most a b e = grind (arith, nat_tests)

at_most_nat : (a b : ℕ) → a ≤ b → nat_le a b ≡ true
at_most_nat a b e = grind (arith, nat_tests)

mark_read : (mark : ℕ) (little : Bool) → (mark == 0x10) ≡ little → (little || mark == 0x00) ≡ true → mark ≡ mark_of (cond little Little Big)
mark_read mark true is e = nat_equal mark 0x10 is
mark_read mark false is e = nat_equal mark 0x00 e

order_of_mark : (o : Endian) → order_with (mark_of o) ≡ o
order_of_mark Little = refl
order_of_mark Big = refl

mark_known : (o : Endian) → (mark_of o == 0x10 || mark_of o == 0x00) ≡ true
mark_known Little = refl
mark_known Big = refl

-- A header that passes is that of the PDU that it says.
pub header_found : (bytes : List ℕ) (kind : PduType) → header_fault bytes ≡ None → type_with (slice_index bytes 2) ≡ Some kind → IsHeader bytes kind (head_at bytes)
unfolding header_fault head_at
header_found bytes kind passed known =
    let all = all_passed (header_checks bytes) passed in
    let version = both _ _ all.1.0 in
    let flags : flags_of_type_fit (Some kind) (slice_index bytes 3) ≡ true =
    subst (λ (t : Option PduType). flags_of_type_fit t (slice_index bytes 3) ≡ true) known all.1.1.1.1.1.1.0 in
    record {
      long = nat_at_most 16 (length bytes) all.0;
      version = nat_equal (slice_index bytes 0) 5 version.0;
      minor = refl;
      minor_known = nat_at_most (slice_index bytes 1) 1 version.1;
      type_known = known;
      flags = refl;
      flags_fit = flags;
      order = mark_read (slice_index bytes 4) (slice_index bytes 4 == 0x10) refl all.1.1.1.0;
      frag_length = nat_equal (frag_length bytes) (length bytes) all.1.1.1.1.0;
      auth_length = nat_equal (auth_length bytes) 0 all.1.1.1.1.1.0;
      call_id = refl;
    }

pub order_is : (bytes : List ℕ) (kind : PduType) (head : Head) → IsHeader bytes kind head → order_of bytes ≡ head.endian
order_is bytes _ head is = ap order_with is.order ∙ order_of_mark head.endian

-- The header of a PDU passes.
pub header_passes : (bytes : List ℕ) (kind : PduType) (head : Head) → IsHeader bytes kind head → header_fault bytes ≡ None
unfolding header_fault
header_passes bytes kind head is =
    let order = order_is bytes kind head is in
    let minor : slice_index bytes 1 ≤ 1 = omega (arith, is.minor, is.minor_known) in
    let version : (slice_index bytes 0 == 5 && nat_le (slice_index bytes 1) 1) ≡ true =
    rw (equal_nat (slice_index bytes 0) 5 is.version, at_most_nat (slice_index bytes 1) 1 minor) refl in
    let mark : (slice_index bytes 4 == 0x10 || slice_index bytes 4 == 0x00) ≡ true =
    subst (λ (m : ℕ). (m == 0x10 || m == 0x00) ≡ true) (sym is.order) (mark_known head.endian) in
    let frag : number_in (order_of bytes) 2 8 bytes ≡ length bytes =
    subst (λ (o : Endian). number_in o 2 8 bytes ≡ length bytes) (sym order) is.frag_length in
    let auth : number_in (order_of bytes) 2 10 bytes ≡ 0 =
    subst (λ (o : Endian). number_in o 2 10 bytes ≡ 0) (sym order) is.auth_length in
    let flags : flags_of_type_fit (type_with (slice_index bytes 2)) (slice_index bytes 3) ≡ true =
    subst (λ (t : Option PduType). flags_of_type_fit t (slice_index bytes 3) ≡ true) (sym is.type_known)
    (subst (λ (f : ℕ). flags_fit kind f ≡ true) (sym is.flags) is.flags_fit) in
    none_failed (header_checks bytes)
    (at_most_nat 16 (length bytes) is.long, (version, (ap is_some is.type_known, (mark, (equal_nat _ _ frag, (equal_nat _ _ auth, (flags, tt)))))))

abbrev head_with : Endian → ℕ → ℕ → ℕ → Head
head_with endian minor flags call_id = record { endian = endian; minor = minor; flags = flags; call_id = call_id }

same_head : (o p : Endian) (a b f g c d : ℕ) → o ≡ p → a ≡ b → f ≡ g → c ≡ d → head_with o a f c ≡ head_with p b g d
same_head o p a b f g c d order minor flags call = rw (order, minor, flags, call) refl

pub head_read : (bytes : List ℕ) (kind : PduType) (head : Head) → IsHeader bytes kind head → head_at bytes ≡ head
unfolding head_at
head_read bytes kind head is =
    let order = order_is bytes kind head is in
    let call : number_in (order_of bytes) 4 12 bytes ≡ head.call_id =
    subst (λ (o : Endian). number_in o 4 12 bytes ≡ head.call_id) (sym order) is.call_id in
    same_head (order_of bytes) head.endian (slice_index bytes 1) head.minor (slice_index bytes 3) head.flags (number_in (order_of bytes) 4 12 bytes) head.call_id
    order is.minor is.flags call

-- A header that passes has a known type.
pub type_is_known : (bytes : List ℕ) → header_fault bytes ≡ None → type_with (slice_index bytes 2) ≡ None → ⊥
unfolding header_fault
type_is_known bytes passed none =
    let all = all_passed (header_checks bytes) passed in
    let known : is_some (type_with (slice_index bytes 2)) ≡ true = all.1.1.0 in
    let unknown : is_some (type_with (slice_index bytes 2)) ≡ false = ap is_some none in
    cc
