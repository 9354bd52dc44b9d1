-- A text is that of one registry.
use Rattle.std.specs.Prelude.{◌≡◌, ℕ, ◌≤◌}
use Rattle.registry_defs.specs.Keys.{Keys}
use Rattle.registry_defs.specs.Limits.{IsRegistry}
use Rattle.registry_defs.specs.Sizes.{size}
use Rattle.hive_text.specs.HiveText.{hive_text}
use Rattle.hive_text.specs.TextFaults.{FailsAt}

abbrev pub TextsAreOfOneRegistry : Type 0
TextsAreOfOneRegistry = (keys others : Keys) → IsRegistry keys → IsRegistry others → hive_text keys ≡ hive_text others → keys ≡ others

abbrev pub NoTextIsAtFault : Type 0
NoTextIsAtFault = (cap place : ℕ) (keys : Keys) → IsRegistry keys → size keys ≤ cap → FailsAt cap (hive_text keys) place → ⊥
