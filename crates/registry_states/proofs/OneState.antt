-- Bytes are the state of one registry at most.
use Rattle.std.proofs.Common.{◌≡◌, ℕ, ◌≤◌, List, sym, ap, ◌∙◌}
use Rattle.registry_defs.specs.Keys.{Keys}
use Rattle.registry_defs.specs.Limits.{IsRegistry}
use Rattle.registry_defs.specs.Nodes.{keys_of}
use Rattle.registry_defs.specs.Sizes.{size}
use Rattle.registry_defs.specs.Spelling.{registry_text}
use Rattle.registry_defs.specs.StateGrammar.{state_of}
use Rattle.registry_states.proofs.OnlyNodes.{spelled_is_read}

-- The bytes are the state of the keys, which obey all limits and the cap.
pub record HoldsKeys (cap : ℕ) (bytes : List ℕ) (keys : Keys) : Type 0 where
  pub limits : IsRegistry keys
  pub fits : size keys ≤ cap
  pub text : bytes ≡ registry_text keys

pub one_state : (cap : ℕ) (bytes : List ℕ) (a b : Keys) → cap ≤ 16777216 → HoldsKeys cap bytes a → HoldsKeys cap bytes b → a ≡ b
one_state cap bytes a b most x y =
    let read_a = spelled_is_read cap a most x.limits x.fits in
    let read_b = spelled_is_read cap b most y.limits y.fits in
    let as_a = ap (state_of cap) x.text ∙ read_a.2 in
    let as_b = ap (state_of cap) y.text ∙ read_b.2 in
    let root : read_a.0 ≡ read_b.0 = cc in
    sym read_a.1 ∙ ap keys_of root ∙ read_b.1
