use Rattle.std.proofs.Common.{◌≡◌, ◌++◌, take}
use Rattle.std.specs.List.{AllByRecursion, flat_map}
use Rattle.rpc_pdu.specs.Encoding.{VerdictInRange, verdict_text}
use Rattle.rpc_pdu.proofs.encoding.put_verdicts.Given as goal

abbrev pub invariant-loop-verdict : goal.invariant-loop-verdict
invariant-loop-verdict l = record {
  text : l.put ≡ record { endian = l.initial.put.endian; bytes = l.initial.put.bytes ++ flat_map verdict_text (take l.verdict-index l.verdicts) };
  range : AllByRecursion VerdictInRange (take l.verdict-index l.verdicts);
}
