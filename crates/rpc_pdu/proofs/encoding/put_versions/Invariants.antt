use Rattle.std.proofs.Common.{◌≡◌, ◌++◌, take}
use Rattle.std.specs.List.{AllByRecursion, flat_map}
use Rattle.rpc_pdu.specs.Encoding.{VersionInRange, version_text}
use Rattle.rpc_pdu.proofs.encoding.put_versions.Given as goal

abbrev pub invariant-loop-version : goal.invariant-loop-version
invariant-loop-version l = record {
  text : l.put ≡ record { endian = l.initial.put.endian; bytes = l.initial.put.bytes ++ flat_map version_text (take l.version-index l.versions) };
  range : AllByRecursion VersionInRange (take l.version-index l.versions);
}
