-- The line that shows a node.
use Rattle.std.specs.Prelude.{ℕ, Bool, List, [], ◌∷◌, codes, Option, None, Some, unwrap_or, if◌then◌else◌}
use Rattle.std.specs.Fmt.{decimal}
use Rattle.registry_defs.specs.Spelling.{registry_text}
use Rattle.registry_machine.specs.Machine.{ReplicatedRegistry}
use Rattle.cluster_node.specs.States.{NodeValue, done, is_open, registry_in, view_number}
use Rattle.script_text.specs.Lines.{hex_word, line, number_or_dash}

abbrev pub open_word : Bool → List ℕ
open_word is_open = if is_open then codes "open" else codes "closed"

-- The registry's encoding.
abbrev pub state_word : Option ReplicatedRegistry → List ℕ
state_word None = codes "-"
state_word (Some registry) = hex_word (registry_text registry.keys)

-- Both are `-` without a registry.
unfoldable pub state_words : NodeValue → List (List ℕ)
state_words n = codes "done" ∷ number_or_dash (done n) ∷ codes "state" ∷ state_word (registry_in n) ∷ []

-- The view is 0 before the first one.
unfoldable pub shows : ℕ → NodeValue → List ℕ
shows number n = line (codes "node") (
    decimal number
    ∷ codes "inc" ∷ decimal n.inc
    ∷ codes "view" ∷ decimal (unwrap_or (view_number n) 0) ∷ open_word (is_open n)
    ∷ state_words n)
