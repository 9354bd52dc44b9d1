-- The requests of each command.
use Rattle.std.specs.Prelude.{◌≡◌, ℕ, ◌-◌, ◌≤◌, List, [], ◌∷◌, length, flat_map, None}
use Rattle.wire_fields.specs.declared.endian.Endian.TheVariants.{Little}
use Rattle.ndr_values.specs.declared.handle.WireHandle.{WireHandle}
use Rattle.clusapi_stubs.specs.declared.input.In.{In}
use Rattle.clusapi_stubs.specs.declared.input.In.TheVariants.{CloseKey, CreateKey, DeleteKey, DeleteValue, EnumKey, EnumValue, GetClusterName, GetRootKey, OpenKey, QueryInfoKey, QueryValue, SetValue}
use Rattle.clusapi_stubs.specs.Inputs.{opnum_of, parameters}
use Rattle.clusapi_stubs.specs.Outputs.{encoding}
use Rattle.rpc_pdu.specs.declared.pdu.Pdu.{Pdu}
use Rattle.rpc_pdu.specs.declared.pdu.Pdu.TheVariants.{Bind}
use Rattle.rpc_pdu.specs.Encoding.{spelling}
use Rattle.rpc_calls.specs.Cutting.{request_pieces}
use Rattle.rpc_assoc.specs.Answers.{head_of}
use Rattle.rpc_assoc.specs.Verdicts.{clusapi, ndr}
use Rattle.client_commands.specs.declared.command.Command.{Command}
use Rattle.client_commands.specs.declared.command.Command.TheVariants.{Drop, Get, Keys, Make, Name, Set, Unset, Values}
use Rattle.client_commands.specs.Commands.{most_data}
use Rattle.client_commands.specs.Words.{IsNameText}
use Rattle.client_exchange.specs.Stages.{greatest}

-- All rights on a key.
abbrev pub all_access : ℕ
all_access = 0x000f003f

-- The most bytes of a value that are asked for.
abbrev pub most_value : ℕ
most_value = 49_152

-- What is asked for before the first command.
abbrev pub root_request : In
root_request = GetRootKey all_access

-- The first request of a command, on the root where it is on a key.
abbrev pub first_request : WireHandle → Command → In
first_request root Name = GetClusterName
first_request root (Make path) = CreateKey root path 0 all_access 0
first_request root (Drop path) = DeleteKey root path
first_request root (Set path name kind bytes) = OpenKey root path all_access
first_request root (Unset path name) = OpenKey root path all_access
first_request root (Get path name) = OpenKey root path all_access
first_request root (Keys path) = OpenKey root path all_access
first_request root (Values path) = OpenKey root path all_access

-- The request on the key that the first one opened.
abbrev pub key_request : WireHandle → Command → In
key_request key (Set path name kind bytes) = SetValue key name kind bytes (length bytes)
key_request key (Unset path name) = DeleteValue key name
key_request key (Get path name) = QueryValue key name most_value
key_request key command = QueryInfoKey key

-- The request for an entry of that key.
abbrev pub entry_request : WireHandle → ℕ → Command → In
entry_request key index (Values path) = EnumValue key index most_value
entry_request key index command = EnumKey key index

-- What a request has, however it was made.
abbrev pub RequestFits : In → Type 0
RequestFits (CreateKey handle subkey options sam security) = IsNameText subkey
RequestFits (OpenKey handle subkey sam) = IsNameText subkey
RequestFits (SetValue handle name kind bytes cb_data) = IsNameText name × (length bytes ≤ most_data)
RequestFits (DeleteValue handle name) = IsNameText name
RequestFits (QueryValue handle name cb_data) = IsNameText name
RequestFits (DeleteKey handle subkey) = IsNameText subkey
RequestFits request = Unit {0}

abbrev pub text_of : List Pdu → List ℕ
text_of pdus = flat_map spelling pdus

-- A request with this call id as bytes, on context 0, in fragments of at most so many bytes; 24 of them are no stub.
unfoldable pub request_text : ℕ → ℕ → In → List ℕ
request_text max_xmit call_id request =
    text_of (request_pieces call_id 0 (opnum_of request) (max_xmit - 24) (encoding Little [] (parameters request)))

-- The bind proposes the one interface in the one transfer syntax, as context 0, in a new group.
abbrev pub bind : Pdu
bind = Bind (head_of 1 0x03) greatest greatest 0 (record { id = 0; abstract_syntax = clusapi; transfers = ndr ∷ [] } ∷ [])

unfoldable pub bind_text : List ℕ
bind_text = spelling bind
