-- A plan's update is that of its call.
use Rattle.std.proofs.Common.{◌≡◌, ℕ, Bool, true, false, List, ◌++◌, Option, None, Some, Result, Ok, Err, IfOk, sym, subst}
use Rattle.std.specs.Prelude.{if◌then◌else◌}
use Rattle.clusapi_stubs.specs.declared.input.In.{In}
use Rattle.clusapi_stubs.specs.declared.input.In.TheVariants as call
use Rattle.clusapi_stubs.specs.declared.output.Out.{Out}
use Rattle.context_handles.specs.declared.held.Held.{Held}
use Rattle.clus_names.specs.Folding.{folded_parts}
use Rattle.clus_names.specs.Parts.{parts_of}
use Rattle.registry_defs.specs.Applying.{is_born}
use Rattle.registry_defs.specs.Keys.{Keys, key_at}
use Rattle.registry_defs.specs.Readings.{birth_at}
use Rattle.clusapi_methods.specs.declared.planned.Planned.{Planned}
use Rattle.clusapi_methods.specs.declared.planned.Planned.TheVariants.{Answer}
use Rattle.clusapi_methods.specs.Arguments.{refusal}
use Rattle.clusapi_methods.specs.Finishing.{IsFor}
use Rattle.clusapi_methods.specs.Plans.{if_open, opened_at, performed, planned_at, told, unless_refused}
use Rattle.clusapi_methods.specs.Refusals.{refused}

for_open : (input : In) (registry : Option Keys) (next : Keys → Planned) → ((keys : Keys) → IsFor input (next keys)) → IsFor input (if_open registry input next)
for_open input None next each = tt
for_open input (Some keys) next each = each keys

for_either : (b : Bool) (input : In) (planned : Planned) (out : Out) → IsFor input planned → IsFor input (if b then planned else Answer out true)
for_either true input planned out is = is
for_either false input planned out is = tt

for_opened : (input : In) (path : List (List ℕ)) (birth : Option ℕ) → IsFor input (opened_at input path birth)
for_opened input path None = tt
for_opened input path (Some birth) = tt

for_told : (registry : Option Keys) (held : Held) (input : In) (results : Keys → Out) → IsFor input (told registry held input results)
for_told registry held input results =
    for_open input registry _ (λ keys. for_either (is_born held.birth (key_at (folded_parts held.path) keys)) input (Answer (results keys) true) (refused 1018 input) tt)

for_performed : (input : In) (held : Held) (node : ℕ) (registry : Option Keys) → IsFor input (performed input held node registry)
for_performed call.OpenCluster held node registry = tt
for_performed (call.CloseCluster handle) held node registry = tt
for_performed call.GetClusterName held node registry = for_open call.GetClusterName registry _ (λ keys. tt)
for_performed (call.GetRootKey sam) held node registry = tt
for_performed (call.CreateKey handle subkey options sam security) held node registry = for_open (call.CreateKey handle subkey options sam security) registry _ (λ keys. tt)
for_performed (call.OpenKey handle subkey sam) held node registry =
    for_open (call.OpenKey handle subkey sam) registry _
    (λ keys. for_either (is_born held.birth (key_at (folded_parts held.path) keys)) (call.OpenKey handle subkey sam) _ (refused 1018 (call.OpenKey handle subkey sam))
    (for_opened (call.OpenKey handle subkey sam) (held.path ++ parts_of subkey) (birth_at (folded_parts (held.path ++ parts_of subkey)) keys)))
for_performed (call.EnumKey handle index) held node registry = for_told registry held (call.EnumKey handle index) _
for_performed (call.SetValue handle name kind bytes cb_data) held node registry = for_open (call.SetValue handle name kind bytes cb_data) registry _ (λ keys. tt)
for_performed (call.DeleteValue handle name) held node registry = for_open (call.DeleteValue handle name) registry _ (λ keys. tt)
for_performed (call.QueryValue handle name cb_data) held node registry = for_told registry held (call.QueryValue handle name cb_data) _
for_performed (call.DeleteKey handle subkey) held node registry = for_open (call.DeleteKey handle subkey) registry _ (λ keys. tt)
for_performed (call.EnumValue handle index cb_data) held node registry = for_told registry held (call.EnumValue handle index cb_data) _
for_performed (call.CloseKey handle) held node registry = tt
for_performed (call.QueryInfoKey handle) held node registry = for_told registry held (call.QueryInfoKey handle) _

for_unrefused : (status : Option ℕ) (input : In) (planned : Planned) → IsFor input planned → IsFor input (unless_refused status input planned)
for_unrefused None input planned is = is
for_unrefused (Some status) input planned is = tt

for_planned : (input : In) (held : Held) (node : ℕ) (registry : Option Keys) → IsFor input (planned_at (Some held) input node registry)
for_planned input held node registry = for_unrefused (refusal held.path input) input (performed input held node registry) (for_performed input held node registry)

pub is_for : {E : Type 0} (result : Result Planned E) (input : In) (held : Held) (node : ℕ) (registry : Option Keys) → IfOk result (λ p. p ≡ planned_at (Some held) input node registry)
    → IfOk result (IsFor input)
is_for (Ok planned) input held node registry is = subst (IsFor input) (sym is) (for_planned input held node registry)
is_for (Err fault) input held node registry is = tt
