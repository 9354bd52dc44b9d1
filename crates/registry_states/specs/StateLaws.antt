-- The bytes that are read as a registry are those that spell one.
use Rattle.std.specs.Prelude.{◌≡◌, ℕ, ◌≤◌, List, length, Ok}
use Rattle.wire_fields.specs.Numbers.{IsBytes}
use Rattle.registry_defs.specs.Keys.{Keys}
use Rattle.registry_defs.specs.Limits.{IsRegistry}
use Rattle.registry_defs.specs.Nodes.{Node, keys_of}
use Rattle.registry_defs.specs.Sizes.{size}
use Rattle.registry_defs.specs.Spelling.{registry_text}
use Rattle.registry_defs.specs.StateGrammar.{state_of}

-- The bytes are the one spelling of the registry, which obeys all limits and the cap.
pub record IsStateOf (cap : ℕ) (bytes : List ℕ) (root : Node) : Type 0 where
  pub registry : IsRegistry (keys_of root)
  pub text : bytes ≡ registry_text (keys_of root)
  pub fits : length bytes ≤ cap

abbrev pub WhatIsReadIsSpelled : Type 0
WhatIsReadIsSpelled = (cap : ℕ) (bytes : List ℕ) (root : Node) → IsBytes bytes → state_of cap bytes ≡ Ok root → IsStateOf cap bytes root

abbrev pub WhatIsSpelledIsRead : Type 0
WhatIsSpelledIsRead =
    (cap : ℕ) (keys : Keys) → cap ≤ 16777216 → IsRegistry keys → size keys ≤ cap
    → (root : Node) × (keys_of root ≡ keys) × (state_of cap (registry_text keys) ≡ Ok root)
