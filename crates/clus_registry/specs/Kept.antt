-- What a registry's fields are to contracts, and what they keep.
use Rattle.std.specs.Prelude.{◌≡◌, ◌≤◌}
use Rattle.std.specs.FinMap.{from_sorted}
use Rattle.registry_defs.specs.Contents.{Contents, IsCap}
use Rattle.registry_defs.specs.Limits.{IsRegistry}
use Rattle.registry_defs.specs.Nodes.{keys_of}
use Rattle.registry_defs.specs.Sizes as sizes
use Rattle.clus_registry.specs.declared.registry.Registry.TheInside.{Inside}

abbrev pub contents_of : Inside → Contents
contents_of registry = record { cap = registry.cap; keys = from_sorted (keys_of registry.root) }

pub record IsCounted (registry : Inside) : Type 0 where
  pub limits : IsRegistry (keys_of registry.root)
  pub counted : registry.size ≡ sizes.size (keys_of registry.root)
  pub fits : registry.size ≤ registry.cap
  pub range : IsCap registry.cap
