-- The verdict on a context that a client proposes (C706, 12.6.3.1).
use Rattle.std.specs.Prelude.{ℕ, Bool, ◌&&◌, not, ◌==◌, List, [], ◌∷◌, map, filter, replicate, if◌then◌else◌}
use Rattle.std.specs.List.{list_any}
use Rattle.std.specs.Str.{bytes_eq}
use Rattle.rpc_pdu.specs.declared.proposal.Proposal.{Proposal}
use Rattle.rpc_pdu.specs.declared.syntax.Syntax.{Syntax}
use Rattle.rpc_pdu.specs.declared.verdict.Verdict.{Verdict}

-- The interface ClusAPI 3.0, b97db8b2-4c63-11cf-bff6-08002be23f2f ([MS-CMRP] 1.9).
unfoldable pub clusapi : Syntax
clusapi = record {
  id = 0xb9 ∷ 0x7d ∷ 0xb8 ∷ 0xb2 ∷ 0x4c ∷ 0x63 ∷ 0x11 ∷ 0xcf ∷ 0xbf ∷ 0xf6 ∷ 0x08 ∷ 0x00 ∷ 0x2b ∷ 0xe2 ∷ 0x3f ∷ 0x2f ∷ [];
  version = 3;
}

-- The transfer syntax NDR 2.0, 8a885d04-1ceb-11c9-9fe8-08002b104860 (C706, 14.2).
unfoldable pub ndr : Syntax
ndr = record {
  id = 0x8a ∷ 0x88 ∷ 0x5d ∷ 0x04 ∷ 0x1c ∷ 0xeb ∷ 0x11 ∷ 0xc9 ∷ 0x9f ∷ 0xe8 ∷ 0x08 ∷ 0x00 ∷ 0x2b ∷ 0x10 ∷ 0x48 ∷ 0x60 ∷ [];
  version = 2;
}

-- What stands for the transfer syntax of a context that isn't accepted.
unfoldable pub no_syntax : Syntax
no_syntax = record { id = replicate 16 0; version = 0 }

unfoldable pub same_syntax : Syntax → Syntax → Bool
same_syntax a b = bytes_eq a.id b.id && a.version == b.version

-- A provider's rejection, for the reason that the number names.
abbrev pub refusal_for : ℕ → Verdict
refusal_for reason = record { result = 2; reason = reason; syntax = no_syntax }

-- First the interface decides (reason 1: not supported), then the transfer syntaxes (reason 2: none is supported).
unfoldable pub verdict_of : Proposal → Verdict
verdict_of proposal =
    if not (same_syntax proposal.abstract_syntax clusapi) then refusal_for 1
    else if not (list_any (same_syntax ndr) proposal.transfers) then refusal_for 2
    else record { result = 0; reason = 0; syntax = ndr }

abbrev pub is_accepted : Proposal → Bool
is_accepted proposal = (verdict_of proposal).result == 0

-- The ids of the contexts that are accepted.
abbrev pub accepted_in : List Proposal → List ℕ
accepted_in proposals = map (λ proposal. proposal.id) (filter is_accepted proposals)
