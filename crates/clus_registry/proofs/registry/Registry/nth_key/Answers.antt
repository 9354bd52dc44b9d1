use Rattle.clus_names.specs.Folding.{folded_parts}
use Rattle.registry_defs.specs.Contents.{keys_in}
use Rattle.registry_defs.specs.Nodes.{subkey_entry}
use Rattle.registry_defs.proofs.Bounds.{subkey_limits}
use Rattle.clus_registry.proofs.Seen.{no_subkeys}
use Rattle.clus_registry.proofs.registry.Registry.nth_key.Goals as goal

pub returns-in-None-clause-found : goal.returns-in-None-clause-found
returns-in-None-clause-found c = no_subkeys (folded_parts c.args.key.now) c.args.index (keys_in c.args.self.now) c.key_at.ensures.limits c.in-None.ensures.found

pub returns-in-Some-nth_subkey-clause-name : goal.returns-in-Some-nth_subkey-clause-name
returns-in-Some-nth_subkey-clause-name c =
    rw c.part.ensures
    (subkey_limits (folded_parts c.args.key.now) c.args.index (keys_in c.args.self.now) c.in-Some.found.now (subkey_entry c.in-Some-nth_subkey.subkey.now) c.key_at.ensures.limits
    c.in-Some.ensures.found c.in-Some-nth_subkey.ensures)
