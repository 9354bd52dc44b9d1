-- The results of a plan have encodings and are short, since the array of a query has the size that was asked for.
use Rattle.std.proofs.Common.{◌≡◌, ℕ, ◌+◌, ◌-◌, ◌≤◌, Bool, true, false, List, [], ◌++◌, length, refl, Option, None, Some, Result, Ok, Err, IfOk, sym, subst, length-append, arith}
use Rattle.std.specs.Prelude.{nat_lt, replicate, IfSome, IsTrue, if◌then◌else◌}
use Rattle.std.proofs.lemmas.Bool.{leb-true, ltb-false}
use Rattle.std.proofs.lemmas.List.{length-replicate}
use Rattle.clus_names.specs.Folding.{folded, folded_parts}
use Rattle.clus_names.specs.Parts.{parts_of}
use Rattle.registry_defs.specs.declared.info.Info.{Info}
use Rattle.registry_defs.specs.Applying.{is_born}
use Rattle.registry_defs.specs.Keys.{KeyData, Keys, ValueData, key_at}
use Rattle.registry_defs.specs.Readings.{birth_at, info_at, nth_subkey, nth_value, value_in}
use Rattle.context_handles.specs.declared.held.Held.{Held}
use Rattle.ndr_values.specs.declared.handle.WireHandle.{WireHandle}
use Rattle.clusapi_stubs.specs.declared.input.In.{In}
use Rattle.clusapi_stubs.specs.declared.input.In.TheVariants as call
use Rattle.clusapi_stubs.specs.declared.output.Out.{Out}
use Rattle.clusapi_stubs.specs.declared.output.Out.TheVariants.{CloseCluster, CloseKey, CreateKey, DeleteKey, DeleteValue, EnumKey, EnumValue, GetClusterName, GetRootKey, OpenCluster, OpenKey, QueryInfoKey, QueryValue, SetValue}
use Rattle.clusapi_stubs.specs.Inputs.{size_fits}
use Rattle.clusapi_stubs.specs.Outputs.{CanSpell, IsText}
use Rattle.clusapi_methods.specs.declared.planned.Planned.{Planned}
use Rattle.clusapi_methods.specs.declared.planned.Planned.TheVariants.{Answer, Close, Fault, Open, Send}
use Rattle.clusapi_methods.specs.Arguments.{refusal}
use Rattle.clusapi_methods.specs.Finishing.{CanFollow}
use Rattle.clusapi_methods.specs.Plans.{if_open, opened_at, performed, planned_at, told, unless_refused}
use Rattle.clusapi_methods.specs.Refusals.{refused}
use Rattle.clusapi_methods.specs.Results.{entry_told, info_told, key_told, value_told}
use Rattle.clusapi_methods.specs.Sizes.{FollowsBounded, IsBounded, IsFew, IsShort, IsShortFor, IsShortText}

-- ---- the array of a query

abbrev asked_of : In → ℕ
asked_of (call.QueryValue handle name cb_data) = cb_data
asked_of input = 0

abbrev IsAsked : In → Out → Type 0
IsAsked input (QueryValue kind bytes required rpc_status status) = length bytes ≤ asked_of input
IsAsked input out = Unit {0}

abbrev PlansAsked : In → Planned → Type 0
PlansAsked input (Answer out reads) = IsAsked input out
PlansAsked input planned = Unit {0}

zeros_asked : (count : ℕ) → length {A = ℕ} (replicate count 0) ≤ count
zeros_asked count = omega (arith, length-replicate {A = ℕ} count 0)

refused_asked : (status : ℕ) (input : In) → IsAsked input (refused status input)
refused_asked status call.OpenCluster = tt
refused_asked status (call.CloseCluster handle) = tt
refused_asked status call.GetClusterName = tt
refused_asked status (call.GetRootKey sam) = tt
refused_asked status (call.CreateKey handle subkey options sam security) = tt
refused_asked status (call.OpenKey handle subkey sam) = tt
refused_asked status (call.EnumKey handle index) = tt
refused_asked status (call.SetValue handle name kind bytes cb_data) = tt
refused_asked status (call.DeleteValue handle name) = tt
refused_asked status (call.QueryValue handle name cb_data) = zeros_asked cb_data
refused_asked status (call.DeleteKey handle subkey) = tt
refused_asked status (call.EnumValue handle index cb_data) = tt
refused_asked status (call.CloseKey handle) = tt
refused_asked status (call.QueryInfoKey handle) = tt

open_asked : (input : In) (registry : Option Keys) (next : Keys → Planned) → ((keys : Keys) → PlansAsked input (next keys)) → PlansAsked input (if_open registry input next)
open_asked input None next each = refused_asked 70 input
open_asked input (Some keys) next each = each keys

either_asked : (test : Bool) (input : In) (planned : Planned) → PlansAsked input planned → PlansAsked input (if test then planned else Answer (refused 1018 input) true)
either_asked true input planned is = is
either_asked false input planned is = refused_asked 1018 input

opened_asked : (input : In) (path : List (List ℕ)) (birth : Option ℕ) → PlansAsked input (opened_at input path birth)
opened_asked input path None = refused_asked 2 input
opened_asked input path (Some birth) = tt

told_asked : (registry : Option Keys) (held : Held) (input : In) (results : Keys → Out) → ((keys : Keys) → IsAsked input (results keys)) → PlansAsked input (told registry held input results)
told_asked registry held input results each =
    open_asked input registry _ (λ keys. either_asked (is_born held.birth (key_at (folded_parts held.path) keys)) input (Answer (results keys) true) (each keys))

key_asked : (input : In) (found : Option (List (List ℕ) × KeyData)) → IsAsked input (key_told input found)
key_asked input None = refused_asked 259 input
key_asked input (Some entry) = tt

info_asked : (input : In) (found : Option Info) → IsAsked input (info_told input found)
info_asked input None = refused_asked 1018 input
info_asked input (Some info) = tt

entry_by : (test : Bool) (input : In) (name : List ℕ) (kind : ℕ) (bytes : List ℕ) → IsAsked input (if test then EnumValue (Some name) kind [] 0 (length bytes) 0 234 else EnumValue (Some name) kind bytes (length bytes) (length bytes) 0 0)
entry_by true input name kind bytes = tt
entry_by false input name kind bytes = tt

entry_asked : (input : In) (cb_data : ℕ) (found : Option (List ℕ × ValueData)) → IsAsked input (entry_told input cb_data found)
entry_asked input cb_data None = refused_asked 259 input
entry_asked input cb_data (Some entry) = entry_by (nat_lt cb_data (length entry.1.bytes)) input entry.1.name entry.1.kind entry.1.bytes

padded_asked : (bytes : List ℕ) (cb_data : ℕ) → length bytes ≤ cb_data → length (bytes ++ replicate (cb_data - length bytes) 0) ≤ cb_data
padded_asked bytes cb_data fits =
    omega (arith, fits, length-append bytes (replicate (cb_data - length bytes) 0), length-replicate {A = ℕ} (cb_data - length bytes) 0)

value_by : (test : Bool) (handle : WireHandle) (name : List ℕ) (kind : ℕ) (bytes : List ℕ) (cb_data : ℕ) → nat_lt cb_data (length bytes) ≡ test
    → IsAsked (call.QueryValue handle name cb_data)
    (if test then QueryValue kind (replicate cb_data 0) (length bytes) 0 234 else QueryValue kind (bytes ++ replicate (cb_data - length bytes) 0) (length bytes) 0 0)
value_by true handle name kind bytes cb_data is = zeros_asked cb_data
value_by false handle name kind bytes cb_data is = padded_asked bytes cb_data (ltb-false cb_data (length bytes) is)

value_asked : (handle : WireHandle) (name : List ℕ) (cb_data : ℕ) (found : Option ValueData)
    → IsAsked (call.QueryValue handle name cb_data) (value_told (call.QueryValue handle name cb_data) cb_data found)
value_asked handle name cb_data None = zeros_asked cb_data
value_asked handle name cb_data (Some value) = value_by (nat_lt cb_data (length value.bytes)) handle name value.kind value.bytes cb_data refl

performed_asked : (input : In) (held : Held) (node : ℕ) (registry : Option Keys) → PlansAsked input (performed input held node registry)
performed_asked call.OpenCluster held node registry = tt
performed_asked (call.CloseCluster handle) held node registry = tt
performed_asked call.GetClusterName held node registry = open_asked call.GetClusterName registry _ (λ keys. tt)
performed_asked (call.GetRootKey sam) held node registry = tt
performed_asked (call.CreateKey handle subkey options sam security) held node registry = open_asked (call.CreateKey handle subkey options sam security) registry _ (λ keys. tt)
performed_asked (call.OpenKey handle subkey sam) held node registry =
    open_asked (call.OpenKey handle subkey sam) registry _
    (λ keys. either_asked (is_born held.birth (key_at (folded_parts held.path) keys)) (call.OpenKey handle subkey sam) _
    (opened_asked (call.OpenKey handle subkey sam) (held.path ++ parts_of subkey) (birth_at (folded_parts (held.path ++ parts_of subkey)) keys)))
performed_asked (call.EnumKey handle index) held node registry =
    told_asked registry held (call.EnumKey handle index) _ (λ keys. key_asked (call.EnumKey handle index) (nth_subkey (folded_parts held.path) index keys))
performed_asked (call.SetValue handle name kind bytes cb_data) held node registry = open_asked (call.SetValue handle name kind bytes cb_data) registry _ (λ keys. tt)
performed_asked (call.DeleteValue handle name) held node registry = open_asked (call.DeleteValue handle name) registry _ (λ keys. tt)
performed_asked (call.QueryValue handle name cb_data) held node registry =
    told_asked registry held (call.QueryValue handle name cb_data) _ (λ keys. value_asked handle name cb_data (value_in (folded_parts held.path) (folded name) keys))
performed_asked (call.DeleteKey handle subkey) held node registry = open_asked (call.DeleteKey handle subkey) registry _ (λ keys. tt)
performed_asked (call.EnumValue handle index cb_data) held node registry =
    told_asked registry held (call.EnumValue handle index cb_data) _ (λ keys. entry_asked (call.EnumValue handle index cb_data) cb_data (nth_value (folded_parts held.path) index keys))
performed_asked (call.CloseKey handle) held node registry = tt
performed_asked (call.QueryInfoKey handle) held node registry =
    told_asked registry held (call.QueryInfoKey handle) _ (λ keys. info_asked (call.QueryInfoKey handle) (info_at (folded_parts held.path) keys))

unrefused_asked : (status : Option ℕ) (input : In) (planned : Planned) → PlansAsked input planned → PlansAsked input (unless_refused status input planned)
unrefused_asked None input planned is = is
unrefused_asked (Some status) input planned is = refused_asked status input

planned_asked : (input : In) (held : Held) (node : ℕ) (registry : Option Keys) → PlansAsked input (planned_at (Some held) input node registry)
planned_asked input held node registry = unrefused_asked (refusal held.path input) input (performed input held node registry) (performed_asked input held node registry)

-- ---- bounds

text_there : (text : Option (List ℕ)) → IfSome text IsShortText → IfSome text IsText
text_there None is = tt
text_there (Some text) is = is.text

few_there : (text : Option (List ℕ)) → IfSome text IsShortText → IfSome text IsFew
few_there None is = tt
few_there (Some text) is = is.few

bounded_spells : (out : Out) → IsBounded out → CanSpell out
bounded_spells (OpenCluster status handle) is = tt
bounded_spells (CloseCluster handle status) is = tt
bounded_spells (GetClusterName cluster node status) is = (text_there cluster is.0, text_there node is.1)
bounded_spells (GetRootKey status rpc_status handle) is = tt
bounded_spells (CreateKey disposition status rpc_status handle) is = tt
bounded_spells (OpenKey status rpc_status handle) is = tt
bounded_spells (EnumKey name written rpc_status status) is = text_there name is
bounded_spells (SetValue rpc_status status) is = tt
bounded_spells (DeleteValue rpc_status status) is = tt
bounded_spells (QueryValue kind bytes required rpc_status status) is = is
bounded_spells (DeleteKey rpc_status status) is = tt
bounded_spells (EnumValue name kind bytes cb_data total rpc_status status) is = (text_there name is.0, omega (arith, is.1))
bounded_spells (CloseKey handle status) is = tt
bounded_spells (QueryInfoKey subkeys longest_subkey values longest_name longest_data security written rpc_status status) is = tt

asked_fits : (input : In) → IsTrue (size_fits input) → asked_of input ≤ 1048576
asked_fits (call.QueryValue handle name cb_data) fits = leb-true cb_data 1048576 fits
asked_fits call.OpenCluster fits = omega arith
asked_fits (call.CloseCluster handle) fits = omega arith
asked_fits call.GetClusterName fits = omega arith
asked_fits (call.GetRootKey sam) fits = omega arith
asked_fits (call.CreateKey handle subkey options sam security) fits = omega arith
asked_fits (call.OpenKey handle subkey sam) fits = omega arith
asked_fits (call.EnumKey handle index) fits = omega arith
asked_fits (call.SetValue handle name kind bytes cb_data) fits = omega arith
asked_fits (call.DeleteValue handle name) fits = omega arith
asked_fits (call.DeleteKey handle subkey) fits = omega arith
asked_fits (call.EnumValue handle index cb_data) fits = omega arith
asked_fits (call.CloseKey handle) fits = omega arith
asked_fits (call.QueryInfoKey handle) fits = omega arith

out_short : (input : In) (out : Out) → IsBounded out → IsAsked input out → IsTrue (size_fits input) → IsShort out
out_short input (OpenCluster status handle) is asked fits = tt
out_short input (CloseCluster handle status) is asked fits = tt
out_short input (GetClusterName cluster node status) is asked fits = (few_there cluster is.0, few_there node is.1)
out_short input (GetRootKey status rpc_status handle) is asked fits = tt
out_short input (CreateKey disposition status rpc_status handle) is asked fits = tt
out_short input (OpenKey status rpc_status handle) is asked fits = tt
out_short input (EnumKey name written rpc_status status) is asked fits = few_there name is
out_short input (SetValue rpc_status status) is asked fits = tt
out_short input (DeleteValue rpc_status status) is asked fits = tt
out_short input (QueryValue kind bytes required rpc_status status) is asked fits = omega (arith, asked, asked_fits input fits)
out_short input (DeleteKey rpc_status status) is asked fits = tt
out_short input (EnumValue name kind bytes cb_data total rpc_status status) is asked fits = (few_there name is.0, omega (arith, is.1))
out_short input (CloseKey handle status) is asked fits = tt
out_short input (QueryInfoKey subkeys longest_subkey values longest_name longest_data security written rpc_status status) is asked fits = tt

-- ---- what a plan ensures

pub follows : {E : Type 0} (result : Result Planned E) → IfOk result FollowsBounded → IfOk result CanFollow
follows (Ok (Answer out reads)) is = bounded_spells out is
follows (Ok (Open opnum held reads)) is = is
follows (Ok (Close opnum handle)) is = is
follows (Ok (Send update)) is = is
follows (Ok (Fault status)) is = is
follows (Err fault) is = tt

short_for : (input : In) (planned : Planned) → FollowsBounded planned → PlansAsked input planned → IsShortFor input planned
short_for input (Answer out reads) is asked = out_short input out is asked
short_for input (Open opnum held reads) is asked = tt
short_for input (Close opnum handle) is asked = tt
short_for input (Send update) is asked = tt
short_for input (Fault status) is asked = tt

pub is_short : {E : Type 0} (result : Result Planned E) (input : In) (held : Held) (node : ℕ) (registry : Option Keys) → IfOk result (λ p. p ≡ planned_at (Some held) input node registry)
    → IfOk result FollowsBounded → IfOk result (IsShortFor input)
is_short (Ok planned) input held node registry is bounded = short_for input planned bounded (subst (PlansAsked input) (sym is) (planned_asked input held node registry))
is_short (Err fault) input held node registry is bounded = tt
