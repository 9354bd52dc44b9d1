use Rattle.std.proofs.Common.{◌≡◌, ◌++◌, take}
use Rattle.std.specs.List.{AllByRecursion, flat_map}
use Rattle.rpc_pdu.specs.Encoding.{SyntaxInRange, syntax_text}
use Rattle.rpc_pdu.proofs.encoding.put_syntaxes.Given as goal

abbrev pub invariant-loop-syntax : goal.invariant-loop-syntax
invariant-loop-syntax l = record {
  text : l.put ≡ record { endian = l.initial.put.endian; bytes = l.initial.put.bytes ++ flat_map syntax_text (take l.syntax-index l.syntaxes) };
  range : AllByRecursion SyntaxInRange (take l.syntax-index l.syntaxes);
}
