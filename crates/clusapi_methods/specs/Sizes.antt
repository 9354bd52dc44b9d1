-- How long results may be.
use Rattle.std.specs.Prelude.{ℕ, ◌≤◌, List, length, IfSome, IsTrue}
use Rattle.clusapi_stubs.specs.declared.input.In.{In}
use Rattle.clusapi_stubs.specs.declared.output.Out.{Out}
use Rattle.clusapi_stubs.specs.declared.output.Out.TheVariants.{EnumKey, EnumValue, GetClusterName, QueryValue}
use Rattle.clusapi_stubs.specs.Inputs.{size_fits}
use Rattle.clusapi_stubs.specs.Outputs.{IsArray, IsText}
use Rattle.clusapi_methods.specs.declared.planned.Planned.{Planned}
use Rattle.clusapi_methods.specs.declared.planned.Planned.TheVariants.{Answer}
use Rattle.clusapi_methods.specs.Finishing.{CanFollow}

-- A text of at most 24,576 units, as the data of a value has.
abbrev pub IsFew : List ℕ → Type 0
IsFew text = length text ≤ 24576

-- Texts have at most 24,576 units, and arrays at most 1,048,576 bytes.
abbrev pub IsShort : Out → Type 0
IsShort (GetClusterName cluster node status) = IfSome cluster IsFew × IfSome node IsFew
IsShort (EnumKey name written rpc_status status) = IfSome name IsFew
IsShort (QueryValue kind bytes required rpc_status status) = length bytes ≤ 1048576
IsShort (EnumValue name kind bytes cb_data total rpc_status status) = IfSome name IsFew × (length bytes ≤ 1048576)
IsShort _ = Unit {0}

-- The results of a call are short, where its size fits.
abbrev pub IsShortFor : In → Planned → Type 0
IsShortFor input (Answer out reads) = IsTrue (size_fits input) → IsShort out
IsShortFor input planned = Unit {0}

-- ---- cited by private functions alone

pub record IsShortText (units : List ℕ) : Type 0 where
  pub text : IsText units
  pub few : IsFew units

-- What is read of a registry is bounded by it. The array of a query has the size that was asked for.
abbrev pub IsBounded : Out → Type 0
IsBounded (GetClusterName cluster node status) = IfSome cluster IsShortText × IfSome node IsShortText
IsBounded (EnumKey name written rpc_status status) = IfSome name IsShortText
IsBounded (QueryValue kind bytes required rpc_status status) = IsArray bytes
IsBounded (EnumValue name kind bytes cb_data total rpc_status status) = IfSome name IsShortText × (length bytes ≤ 49152)
IsBounded _ = Unit {0}

abbrev pub FollowsBounded : Planned → Type 0
FollowsBounded (Answer out reads) = IsBounded out
FollowsBounded planned = CanFollow planned
