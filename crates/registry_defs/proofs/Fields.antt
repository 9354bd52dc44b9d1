-- In a registry of bounded size each count has room in its field.
use Rattle.std.proofs.Common.{ℕ, ◌<◌, ◌≤◌, ◌^◌, List, [], ◌∷◌, length, ap, arith}
use Rattle.std.specs.List.{AllByRecursion}
use Rattle.registry_defs.specs.Keys.{Values, KeyData, Keys}
use Rattle.registry_defs.specs.Limits.{IsValue, IsNamed, IsKey, IsRegistry, HasFields, HaveFields}
use Rattle.registry_defs.specs.Sizes.{total, value_size, key_size, size}

few_values : (values : Values) → length values ≤ total value_size values
few_values [] = omega arith
few_values (v ∷ vs) = omega (arith, few_values vs)

few_keys : (es : Keys) → length es ≤ size es
few_keys [] = omega arith
few_keys (([], d) ∷ es) = omega (arith, few_keys es)
few_keys ((p ∷ ps, d) ∷ es) = omega (arith, few_keys es)

names_fit : (values : Values) → AllByRecursion (λ e. IsValue e.1) values → AllByRecursion (λ e. length e.1.name ≤ 1023) values
names_fit [] h = tt
names_fit (v ∷ vs) h = (h.0.name.short, names_fit vs h.1)

bytes_fit : (values : Values) → AllByRecursion (λ e. IsValue e.1) values → AllByRecursion (λ e. length e.1.bytes ≤ 49152) values
bytes_fit [] h = tt
bytes_fit (v ∷ vs) h = (h.0.short, bytes_fit vs h.1)

pub part_fits : (q : List (List ℕ)) (d : KeyData) → IsNamed q d → length d.part ≤ 255
part_fits [] d named = omega (arith, ap (λ p. length p) named.0)
part_fits (p ∷ ps) d named = named.0.short

pub birth_fits : (q : List (List ℕ)) (d : KeyData) → IsNamed q d → d.birth < 2 ^ 63
birth_fits [] d named = omega (arith, named.1)
birth_fits (p ∷ ps) d named = named.2

pub values_within : (q : List (List ℕ)) (d : KeyData) → length d.values ≤ key_size q d
values_within q d = omega (arith, few_values d.values)

has_fields : (q : List (List ℕ)) (d : KeyData) (most : ℕ) → IsKey q d → key_size q d ≤ most → most < 2 ^ 32 → HasFields d
has_fields q d most is within small = record {
  part = part_fits q d is.named;
  birth = birth_fits q d is.named;
  values = omega (arith, values_within q d);
  names = names_fit d.values is.values.limits;
  bytes = bytes_fit d.values is.values.limits;
}

each_has_fields : (es : Keys) (most : ℕ) → AllByRecursion (λ e. IsKey e.0 e.1) es → size es ≤ most → most < 2 ^ 32 → AllByRecursion (λ e. HasFields e.1) es
each_has_fields [] most h within small = tt
each_has_fields (e ∷ es) most h within small = (has_fields e.0 e.1 most h.0 (omega arith) small, each_has_fields es most h.1 (omega arith) small)

pub have_fields : (es : Keys) → IsRegistry es → size es < 2 ^ 32 → HaveFields es
have_fields es registry small =
    let same : size es ≤ size es = omega arith in
    record { few = omega (arith, few_keys es); each = each_has_fields es (size es) registry.limits same small }
