-- The requests of a script as bytes.
use Rattle.std.specs.Prelude.{ℕ, List, [], ◌∷◌, length, None}
use Rattle.rpc_pdu.specs.declared.pdu.Pdu.{Pdu}
use Rattle.rpc_pdu.specs.declared.pdu.Pdu.TheVariants.{Request}
use Rattle.rpc_pdu.specs.Encoding.{spelling}
use Rattle.rpc_assoc.specs.Answers.{head_of}

-- A request in one fragment, on context 0 and without an object.
abbrev pub request_with : ℕ → ℕ → List ℕ → Pdu
request_with call_id opnum stub = Request (head_of call_id 0x03) (length stub) 0 opnum None stub

unfoldable pub request_text : ℕ → ℕ → List ℕ → List ℕ
request_text call_id opnum stub = spelling (request_with call_id opnum stub)

-- The bind with which a client's connection begins: call 1, fragments of 5,840 bytes, one context, which is 0, of ClusAPI 3.0 with NDR 2.0.
unfoldable pub bind_text : List ℕ
bind_text =
    5 ∷ 0 ∷ 11 ∷ 3 ∷ 16 ∷ 0 ∷ 0 ∷ 0 ∷ 72 ∷ 0 ∷ 0 ∷ 0 ∷ 1 ∷ 0 ∷ 0 ∷ 0
    ∷ 208 ∷ 22 ∷ 208 ∷ 22 ∷ 0 ∷ 0 ∷ 0 ∷ 0 ∷ 1 ∷ 0 ∷ 0 ∷ 0 ∷ 0 ∷ 0 ∷ 1 ∷ 0
    ∷ 178 ∷ 184 ∷ 125 ∷ 185 ∷ 99 ∷ 76 ∷ 207 ∷ 17 ∷ 191 ∷ 246 ∷ 8 ∷ 0 ∷ 43 ∷ 226 ∷ 63 ∷ 47 ∷ 3 ∷ 0 ∷ 0 ∷ 0
    ∷ 4 ∷ 93 ∷ 136 ∷ 138 ∷ 235 ∷ 28 ∷ 201 ∷ 17 ∷ 159 ∷ 232 ∷ 8 ∷ 0 ∷ 43 ∷ 16 ∷ 72 ∷ 96 ∷ 2 ∷ 0 ∷ 0 ∷ 0 ∷ []
