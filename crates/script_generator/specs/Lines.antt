-- The lines of a generated script.
use Rattle.std.specs.Prelude.{ℕ, ◌+◌, List, [], ◌∷◌, ◌++◌, codes}
use Rattle.std.specs.Fmt.{decimal}
use Rattle.std.specs.List.{concat}
use Rattle.hex.specs.Hex.{encode_lower}
use Rattle.wire_fields.specs.declared.endian.Endian.TheVariants.{Little}
use Rattle.wire_fields.specs.Numbers.{num}
use Rattle.ndr_values.specs.declared.handle.WireHandle.{WireHandle}
use Rattle.context_handles.specs.Encoding.{handle_of}
use Rattle.clusapi_stubs.specs.declared.input.In.{In}
use Rattle.clusapi_stubs.specs.declared.input.In.TheVariants.{QueryValue, SetValue}
use Rattle.clusapi_stubs.specs.Inputs.{opnum_of, parameters}
use Rattle.clusapi_stubs.specs.Outputs.{encoding}
use Rattle.script_generator.specs.declared.cluster.Cluster.{Cluster}

-- ---- lines of numbers

-- Each number behind a space, and the line feed.
abbrev pub rest_of_line : List ℕ → List ℕ
rest_of_line [] = codes "\n"
rest_of_line (n ∷ ns) = codes " " ++ (decimal n ++ rest_of_line ns)

-- A word and numbers.
abbrev pub line : List ℕ → List ℕ → List ℕ
line word numbers = word ++ rest_of_line numbers

-- ---- views

-- The three nodes, each with its present incarnation.
unfoldable pub view_line : Cluster → List ℕ
view_line c = concat (
    codes "view " ∷ decimal c.view
    ∷ codes " 1." ∷ decimal c.incs.first
    ∷ codes " 2." ∷ decimal c.incs.second
    ∷ codes " 3." ∷ decimal c.incs.third
    ∷ codes "\n" ∷ [])

-- All three hear of the last view.
unfoldable pub install_lines : ℕ → List ℕ
install_lines view =
    line (codes "install") (1 ∷ view ∷ []) ++ (line (codes "install") (2 ∷ view ∷ []) ++ line (codes "install") (3 ∷ view ∷ []))

-- ---- requests

-- A client connects to a node, binds, and asks for the root key with all rights.
unfoldable pub client_lines : ℕ → ℕ → List ℕ
client_lines conn node =
    line (codes "connect") (conn ∷ node ∷ []) ++ (line (codes "bind") (conn ∷ []) ++ (codes "request " ++ (decimal conn ++ codes " 28 3f000f00\n")))

-- A request with its parameters as a stub.
unfoldable pub request_line : ℕ → In → List ℕ
request_line conn input = concat (
    codes "request " ∷ decimal conn
    ∷ codes " " ∷ decimal (opnum_of input)
    ∷ codes " " ∷ encode_lower (encoding Little [] (parameters input))
    ∷ codes "\n" ∷ [])

-- The first handle that a node gives: its root key.
abbrev pub root_of : ℕ → WireHandle
root_of node = handle_of node 1

-- `V` and a digit.
abbrev pub name_of : ℕ → List ℕ
name_of digit = codes "V" ++ (48 + digit) ∷ []

-- The value is a number of 4 bytes; 4 is the type of such a one.
abbrev pub setting : ℕ → ℕ → ℕ → In
setting node digit number = SetValue (root_of node) (name_of digit) 4 (num Little 4 number) 4

abbrev pub query : ℕ → ℕ → In
query node digit = QueryValue (root_of node) (name_of digit) 4
