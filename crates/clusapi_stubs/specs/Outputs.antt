-- The results of each method, in the order in which they are sent, and their canonical encoding.
use Rattle.std.specs.Prelude.{◌≢◌, ℕ, ◌+◌, ◌<◌, ◌^◌, List, [], ◌∷◌, ◌++◌, length, All, Option, None, Some, IfSome}
use Rattle.wire_fields.specs.declared.endian.Endian.{Endian}
use Rattle.wire_fields.specs.Written.{Written}
use Rattle.ndr_values.specs.Spelling.{Bytes, Handle, Number, Pointer, Text, Time, Value, canonical_bytes, canonical_handle, canonical_number, canonical_text, canonical_time}
use Rattle.clusapi_stubs.specs.declared.output.Out.{Out}
use Rattle.clusapi_stubs.specs.declared.output.Out.TheVariants.{CloseCluster, CloseKey, CreateKey, DeleteKey, DeleteValue, EnumKey, EnumValue, GetClusterName, GetRootKey, OpenCluster, OpenKey, QueryInfoKey, QueryValue, SetValue}

-- ---- results

-- The referent of the first pointer of a stub that isn't null.
abbrev pub first_referent : ℕ
first_referent = 0x00020000

-- A pointer to a text: its referent, which is 0 for null, and the text directly behind it.
abbrev pub text_at : ℕ → Option (List ℕ) → List Value
text_at referent None = Number 0 ∷ []
text_at referent (Some text) = Number referent ∷ Text text ∷ []

-- The referent of the next pointer.
abbrev pub referent_after : ℕ → Option (List ℕ) → ℕ
referent_after referent None = referent
referent_after referent (Some text) = referent + 4

abbrev pub results : Out → List Value
results (OpenCluster status handle) = Number status ∷ Handle handle ∷ []
results (CloseCluster handle status) = Handle handle ∷ Number status ∷ []
results (GetClusterName cluster node status) = text_at first_referent cluster ++ (text_at (referent_after first_referent cluster) node ++ Number status ∷ [])
results (GetRootKey status rpc_status handle) = Number status ∷ Number rpc_status ∷ Handle handle ∷ []
results (CreateKey disposition status rpc_status handle) = Number disposition ∷ Number status ∷ Number rpc_status ∷ Handle handle ∷ []
results (OpenKey status rpc_status handle) = Number status ∷ Number rpc_status ∷ Handle handle ∷ []
results (EnumKey name written rpc_status status) = text_at first_referent name ++ Time written ∷ Number rpc_status ∷ Number status ∷ []
results (SetValue rpc_status status) = Number rpc_status ∷ Number status ∷ []
results (DeleteValue rpc_status status) = Number rpc_status ∷ Number status ∷ []
results (QueryValue kind bytes required rpc_status status) = Number kind ∷ Bytes bytes ∷ Number required ∷ Number rpc_status ∷ Number status ∷ []
results (DeleteKey rpc_status status) = Number rpc_status ∷ Number status ∷ []
results (EnumValue name kind bytes cb_data total rpc_status status) =
    text_at first_referent name ++ Number kind ∷ Bytes bytes ∷ Number cb_data ∷ Number total ∷ Number rpc_status ∷ Number status ∷ []
results (CloseKey handle status) = Handle handle ∷ Number status ∷ []
results (QueryInfoKey subkeys longest_subkey values longest_name longest_data security written rpc_status status) =
    Number subkeys ∷ Number longest_subkey ∷ Number values ∷ Number longest_name ∷ Number longest_data ∷ Number security ∷ Time written ∷ Number rpc_status ∷ Number status ∷ []

-- ---- which results have an encoding

pub record IsText (text : List ℕ) : Type 0 where
  pub units : All (λ unit. unit ≢ 0) text
  pub short : length text + 1 < 2 ^ 32

abbrev pub IsArray : List ℕ → Type 0
IsArray bytes = length bytes < 2 ^ 32

abbrev pub CanSpell : Out → Type 0
CanSpell (GetClusterName cluster node status) = IfSome cluster IsText × IfSome node IsText
CanSpell (EnumKey name written rpc_status status) = IfSome name IsText
CanSpell (QueryValue kind bytes required rpc_status status) = IsArray bytes
CanSpell (EnumValue name kind bytes cb_data total rpc_status status) = IfSome name IsText × IsArray bytes
CanSpell _ = Unit {0}

-- ---- the canonical encoding

-- A value at a place of a stub. A pointer stands among the results by its referent, as a number.
abbrev pub canonical : Endian → ℕ → Value → List ℕ
canonical e place (Text text) = canonical_text e place text
canonical e place (Bytes bytes) = canonical_bytes e place bytes
canonical e place (Pointer present) = canonical_number e place 0
canonical e place (Handle handle) = canonical_handle e place handle
canonical e place (Number number) = canonical_number e place number
canonical e place (Time time) = canonical_time e place time

-- The values one after the other, behind what was written before.
abbrev pub encoding : Endian → List ℕ → List Value → List ℕ
encoding e bytes [] = bytes
encoding e bytes (value ∷ values) = encoding e (bytes ++ canonical e (length bytes) value) values

-- The values were appended.
abbrev pub written : Written → List Value → Written
written before values = record { endian = before.endian; bytes = encoding before.endian before.bytes values }
