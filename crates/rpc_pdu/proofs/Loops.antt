-- Loops that read a counted list, where memory may run out, and loops that append one.
use Rattle.std.proofs.Common.{◌≡◌, ℕ, zero, suc, ◌+◌, ◌-◌, ◌<◌, List, [], ◌∷◌, length, take, get_or, Option, sym, subst, arith}
use Rattle.std.specs.List.{AllByRecursion}
use Rattle.wire_fields.specs.Reading.{Reading, times}
use Rattle.wire_fields.proofs.ListLaws.{with_front, ends}
use Rattle.rpc_pdu.specs.declared.pdu_fault.PduFault.{PduFault}
use Rattle.rpc_pdu.specs.declared.pdu_fault.PduFault.TheVariants as faults
use Rattle.rpc_pdu.specs.Reading.{FailsAs}

-- Where one value fails, so do all.
pub fails_on : {A : Type 0} (one : Reading → Option (A × Reading)) (fault : PduFault) (front : List A) (count i : ℕ) (s : Reading) (total : Option (List A × Reading))
    → i < count → FailsAs fault (one s) → with_front front (times (count - i) one s) ≡ total → FailsAs fault total
fails_on one faults.Memory front count i s total lt h so_far = tt
fails_on one faults.BadLength front count i s total lt h so_far = ends one front count i s total lt h so_far
fails_on one faults.BadVersion front count i s total lt h so_far = h
fails_on one faults.BadType front count i s total lt h so_far = h
fails_on one faults.BadRep front count i s total lt h so_far = h
fails_on one faults.HasAuth front count i s total lt h so_far = h
fails_on one faults.BadFlags front count i s total lt h so_far = h

-- What holds of the items so far holds of one more.
pub one_more : {A : Type 0} (P : A → Type 0) (xs : List A) (i : ℕ) (d : A) → i < length xs → AllByRecursion P (take i xs) → P (get_or xs i d) → AllByRecursion P (take (i + 1) xs)
one_more P [] i d lt so_far here = absurd (omega arith)
one_more P (x ∷ xs) zero d lt so_far here = (here, tt)
one_more P (x ∷ xs) (suc i) d lt so_far here =
    let rest = one_more P xs i d (omega arith) so_far.1 here in
    let k : suc i + 1 ≡ suc (i + 1) = omega arith in
    let whole : AllByRecursion P (take (suc (i + 1)) (x ∷ xs)) = (so_far.0, rest) in
    subst (λ (n : ℕ). AllByRecursion P (take n (x ∷ xs))) (sym k) whole
