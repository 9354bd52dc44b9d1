use Rattle.std.proofs.Common.{◌≡◌, ◌++◌, take}
use Rattle.std.specs.List.{AllByRecursion, flat_map}
use Rattle.rpc_pdu.specs.Encoding.{ProposalInRange, proposal_text}
use Rattle.rpc_pdu.proofs.encoding.put_proposals.Given as goal

abbrev pub invariant-loop-proposal : goal.invariant-loop-proposal
invariant-loop-proposal l = record {
  text : l.put ≡ record { endian = l.initial.put.endian; bytes = l.initial.put.bytes ++ flat_map proposal_text (take l.proposal-index l.proposals) };
  range : AllByRecursion ProposalInRange (take l.proposal-index l.proposals);
}
