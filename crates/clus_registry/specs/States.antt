-- What reading a registry's bytes gives.
use Rattle.std.specs.Prelude.{◌≡◌, ℕ, ◌≤◌, List, Result, Ok, Err}
use Rattle.registry_defs.specs.Contents.{Contents, keys_in}
use Rattle.registry_defs.specs.Keys.{Keys}
use Rattle.registry_defs.specs.Limits.{IsRegistry}
use Rattle.registry_defs.specs.Sizes.{size}
use Rattle.registry_defs.specs.Spelling.{registry_text}
use Rattle.registry_defs.specs.StateGrammar.{state_of}
use Rattle.registry_states.specs.States.{IsFaultAt}
use Rattle.registry_states.specs.declared.fault.StateFault.{StateFault}
use Rattle.registry_states.specs.declared.fault.StateFault.TheVariants.{Bad, Memory}

-- The bytes are the one encoding of the registry, which obeys all limits and the cap.
pub record IsReadFrom (cap : ℕ) (bytes : List ℕ) (registry : Contents) : Type 0 where
  pub same_cap : registry.cap ≡ cap
  pub limits : IsRegistry (keys_in registry)
  pub text : bytes ≡ registry_text (keys_in registry)
  pub fits : size (keys_in registry) ≤ cap

-- The keys, unless memory ran out.
abbrev pub GivesKeys : Result Contents StateFault → Keys → Type 0
GivesKeys (Ok registry) keys = keys_in registry ≡ keys
GivesKeys (Err Memory) keys = Unit {0}
GivesKeys (Err (Bad place)) keys = ⊥

-- The bytes encode no registry that fits, and the first field at fault starts at the place; or memory ran out.
abbrev pub FailsOn : ℕ → List ℕ → StateFault → Type 0
FailsOn cap bytes (Bad place) = IsFaultAt place (state_of cap bytes)
FailsOn cap bytes Memory = Unit {0}
