-- What is planned for a call whose parameters fit: its update is one, and a handle is opened on a path.
use Rattle.std.proofs.Common.{◌≡◌, ℕ, ◌<◌, ◌≤◌, Bool, true, false, List, [], ◌++◌, length, Option, Some, None, nat_lt, if◌then◌else◌, refl, arith}
use Rattle.std.specs.Prelude.{All, IfSome, ◌==◌}
use Rattle.std.specs.Option.{option_map}
use Rattle.std.proofs.lemmas.Bool.{ltb-false}
use Rattle.std.proofs.lemmas.Bool.Decides.{nat_tests}
use Rattle.std.proofs.lemmas.List.Elements.{All-append, All-nil}
use Rattle.clus_names.specs.declared.fault.NameFault.{NameFault}
use Rattle.clus_names.specs.Faults.{text_fault}
use Rattle.clus_names.specs.Folding.{folded_parts}
use Rattle.clus_names.specs.Limits.{IsName, IsNameUnit, IsPart, IsPath, IsPathText}
use Rattle.clus_names.specs.Parts.{parts_of, text_of}
use Rattle.clus_names.proofs.Texts.{path_text}
use Rattle.update_records.specs.Limits.{IsKey, IsUpdate}
use Rattle.registry_defs.specs.Applying.{is_born}
use Rattle.registry_defs.specs.Keys.{KeyData, Keys, key_at}
use Rattle.registry_defs.specs.Readings.{birth_at}
use Rattle.context_handles.specs.declared.held.Held.{Held}
use Rattle.clusapi_stubs.specs.declared.input.In.{In}
use Rattle.clusapi_stubs.specs.declared.input.In.TheVariants as call
use Rattle.clusapi_stubs.specs.declared.output.Out.{Out}
use Rattle.clusapi_methods.specs.declared.planned.Planned.{Planned}
use Rattle.clusapi_methods.specs.declared.planned.Planned.TheVariants.{Answer, Open, Send}
use Rattle.clusapi_methods.specs.Arguments.{invalid_if, is_volatile, name_refusal, or_else, refusal, status_of, subkey_refusal}
use Rattle.clusapi_methods.specs.Plans.{if_alive, if_open, opened_at, opened_below, performed, planned_at, told, unless_refused}
use Rattle.clusapi_methods.specs.Refusals.{refused}
use Rattle.clusapi_methods.proofs.Checks.{some_parts}
use Rattle.client_laws.specs.Typed.{AreBorn, AreBornIn}
use Rattle.client_laws.proofs.Stubs.{HasFields}

abbrev pub PlansTyped : Planned → Type 0
PlansTyped (Send u) = IsUpdate u
PlansTyped (Open opnum held reads) = IsKey held.path held.birth
PlansTyped planned = Unit {0}

-- ---- the checks

both_none : (a b : Option ℕ) → or_else a b ≡ None → (a ≡ None) × (b ≡ None)
both_none None b e = (refl, e)
both_none (Some status) b e = absurd (cc)

none_invalid : (b : Bool) → invalid_if b ≡ None → b ≡ false
none_invalid true e = absurd (cc)
none_invalid false e = refl

none_mapped : (fault : Option NameFault) → option_map status_of fault ≡ None → fault ≡ None
none_mapped None e = refl
none_mapped (Some fault) e = absurd (cc)

-- a subkey that isn't refused
record IsBelow (key : List (List ℕ)) (subkey : List ℕ) : Type 0 where
  text : IsPathText subkey
  short : length (text_of (key ++ parts_of subkey)) ≤ 1023

is_below : (key : List (List ℕ)) (subkey : List ℕ) → All IsNameUnit subkey → subkey_refusal key subkey ≡ None → IsBelow key subkey
is_below key subkey units e =
    let checks = both_none (option_map status_of (text_fault subkey)) (invalid_if (nat_lt 1023 (length (text_of (key ++ parts_of subkey))))) e in
    record {
      text = path_text subkey (none_mapped (text_fault subkey) checks.0) units;
      short = ltb-false _ _ (none_invalid (nat_lt 1023 (length (text_of (key ++ parts_of subkey)))) checks.1);
    }

is_name : (name : List ℕ) → All IsNameUnit name → name_refusal name ≡ None → IsName name
is_name name units e = record { short = ltb-false _ _ (none_invalid (nat_lt 1023 (length name)) e); units = units }

not_empty : (text : List ℕ) → (length text == 0) ≡ false → 0 < length text
not_empty text e = grind (arith, nat_tests)

pub joined_path : (key below : List (List ℕ)) → IsPath key → IsPath below → length (text_of (key ++ below)) ≤ 1023 → IsPath (key ++ below)
joined_path key below k b short = record { parts = All-append IsPart key below k.parts b.parts; short = short }

pub root_key : IsKey [] 0
root_key = record { path = record { parts = All-nil IsPart; short = omega arith }; in_range = omega arith }

-- ---- what is done

typed_open : (registry : Option Keys) (input : In) (next : Keys → Planned) → AreBornIn registry → ((keys : Keys) → AreBorn keys → PlansTyped (next keys)) → PlansTyped (if_open registry input next)
typed_open None input next born each = tt
typed_open (Some keys) input next born each = each keys born

typed_alive : (b : Bool) (planned : Planned) (out : Out) → PlansTyped planned → PlansTyped (if b then planned else Answer out true)
typed_alive true planned out is = is
typed_alive false planned out is = tt

typed_told : (registry : Option Keys) (held : Held) (input : In) (results : Keys → Out) → AreBornIn registry → PlansTyped (told registry held input results)
typed_told registry held input results born =
    typed_open registry input (λ keys. if_alive held keys input (Answer (results keys) true)) born
    (λ keys b. typed_alive (is_born held.birth (key_at (folded_parts held.path) keys)) (Answer (results keys) true) (refused 1018 input) tt)

typed_opened : (input : In) (path : List (List ℕ)) (keys : Keys) → IsPath path → AreBorn keys → PlansTyped (opened_at input path (birth_at (folded_parts path) keys))
typed_opened input path keys is born = by (key_at (folded_parts path) keys) refl
  where
    by : (o : Option KeyData) → key_at (folded_parts path) keys ≡ o → PlansTyped (opened_at input path (option_map (λ (k : KeyData). k.birth) o))
    by None e = tt
    by (Some k) e = record { path = is; in_range = born.each (folded_parts path) k e }

module _ (held : Held) (node : ℕ) (registry : Option Keys) (key : IsKey held.path held.birth) (born : AreBornIn registry) where
  typed_performed : (input : In) → HasFields input → refusal held.path input ≡ None → PlansTyped (performed input held node registry)
  typed_performed call.OpenCluster f e = root_key
  typed_performed (call.CloseCluster handle) f e = tt
  typed_performed call.GetClusterName f e = typed_open registry call.GetClusterName _ born (λ keys b. tt)
  typed_performed (call.GetRootKey sam) f e = root_key
  typed_performed (call.CreateKey handle subkey options sam security) f e =
      let below = is_below held.path subkey f (both_none (subkey_refusal held.path subkey) (invalid_if (is_volatile options)) e).0 in
      typed_open registry (call.CreateKey handle subkey options sam security) _ born (λ keys b. record { fields = (key, below.text.path); valid = below.short })
  typed_performed (call.OpenKey handle subkey sam) f e =
      let below = is_below held.path subkey f e in
      let path = held.path ++ parts_of subkey in
      typed_open registry (call.OpenKey handle subkey sam) (λ keys. opened_below held keys (call.OpenKey handle subkey sam) path) born
      (λ keys b. typed_alive (is_born held.birth (key_at (folded_parts held.path) keys)) (opened_at (call.OpenKey handle subkey sam) path (birth_at (folded_parts path) keys)) (refused 1018 (call.OpenKey handle subkey sam))
      (typed_opened (call.OpenKey handle subkey sam) path keys (joined_path held.path (parts_of subkey) key.path below.text.path below.short) b))
  typed_performed (call.EnumKey handle index) f e = typed_told registry held (call.EnumKey handle index) _ born
  typed_performed (call.SetValue handle name kind bytes cb_data) f e =
      let checks = both_none (name_refusal name) (invalid_if (nat_lt 49152 (length bytes))) e in
      typed_open registry (call.SetValue handle name kind bytes cb_data) _ born (λ keys b. record {
        fields = (key, is_name name f.0 checks.0, f.1, f.2);
        valid = ltb-false _ _ (none_invalid (nat_lt 49152 (length bytes)) checks.1);
      })
  typed_performed (call.DeleteValue handle name) f e = typed_open registry (call.DeleteValue handle name) _ born (λ keys b. record { fields = (key, is_name name f e); valid = tt })
  typed_performed (call.QueryValue handle name cb_data) f e = typed_told registry held (call.QueryValue handle name cb_data) _ born
  typed_performed (call.DeleteKey handle subkey) f e =
      let checks = both_none (subkey_refusal held.path subkey) (invalid_if (length subkey == 0)) e in
      let below = is_below held.path subkey f checks.0 in
      let some = some_parts (parts_of subkey) subkey below.text.joined (not_empty subkey (none_invalid (length subkey == 0) checks.1)) in
      typed_open registry (call.DeleteKey handle subkey) _ born (λ keys b. record { fields = (key, below.text.path); valid = (below.short, some) })
  typed_performed (call.EnumValue handle index cb_data) f e = typed_told registry held (call.EnumValue handle index cb_data) _ born
  typed_performed (call.CloseKey handle) f e = tt
  typed_performed (call.QueryInfoKey handle) f e = typed_told registry held (call.QueryInfoKey handle) _ born

  typed_unrefused : (status : Option ℕ) (input : In) → refusal held.path input ≡ status → HasFields input → PlansTyped (unless_refused status input (performed input held node registry))
  typed_unrefused None input e f = typed_performed input f e
  typed_unrefused (Some status) input e f = tt

abbrev pub IsHeldKey : Held → Type 0
IsHeldKey held = IsKey held.path held.birth

pub typed_planned : (o : Option Held) (input : In) (node : ℕ) (registry : Option Keys) → IfSome o IsHeldKey → HasFields input → AreBornIn registry → PlansTyped (planned_at o input node registry)
typed_planned None input node registry held f born = tt
typed_planned (Some held) input node registry key f born = typed_unrefused held node registry key born (refusal held.path input) input refl f
