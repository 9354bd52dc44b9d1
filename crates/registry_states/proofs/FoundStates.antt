-- The bytes that were read as a registry are the one encoding of it.
use Rattle.std.proofs.Common.{◌≡◌, ℕ, Bool, true, false, cond, eqb, List, [], length, Result, Ok, Err, refl, ap, subst, arith}
use Rattle.std.proofs.lemmas.Bool.{eqb-true}
use Rattle.std.proofs.lemmas.List.{nil_from_length}
use Rattle.wire_fields.specs.Reading.{Reading}
use Rattle.clus_names.specs.Folding.{path_cmp}
use Rattle.update_records.proofs.RecordLaws.{started, all_taken}
use Rattle.registry_defs.specs.Limits.{IsRegistry}
use Rattle.registry_defs.specs.Nodes.{Node, keys_of}
use Rattle.registry_defs.specs.Spelling.{registry_text}
use Rattle.registry_defs.specs.StateFields.{Stop, Bad, alone}
use Rattle.registry_defs.specs.StateGrammar.{start, node_at, state_of}
use Rattle.registry_defs.proofs.Orders.{sorted_from_rising}
use Rattle.registry_states.specs.StateLaws.{IsStateOf, WhatIsReadIsSpelled}
use Rattle.registry_states.proofs.FoundFields.{bind_ok}
use Rattle.registry_states.proofs.FoundNodes.{FoundNode, reached_root, node_found}

abbrev alone_of : {A : Type 0} → Bool → A × Reading → Result A Stop
alone_of test x = cond test (Ok x.0) (Err (Bad x.1.place))

pub alone_found : {A : Type 0} (x : A × Reading) (y : A) → alone x ≡ Ok y → (x.1.left ≡ []) × (x.0 ≡ y)
alone_found {A} x y e = by (eqb (length x.1.left) 0) refl e
  where
    by : (b : Bool) → eqb (length x.1.left) 0 ≡ b → alone_of b x ≡ Ok y → (x.1.left ≡ []) × (x.0 ≡ y)
    by true is e = (nil_from_length x.1.left (eqb-true _ _ is), cc)
    by false is e = absurd cc

is_registry : (end : ℕ) (s : Reading) (root : Node) (t : Reading) → FoundNode [] [] end s root t → IsRegistry (keys_of root)
is_registry end s root t found = record {
  rising = sorted_from_rising path_cmp (keys_of root) found.rising;
  limits = found.limits;
  root = refl;
  parents = found.parents;
}

is_state : (cap : ℕ) (bytes : List ℕ) (root : Node) (t : Reading) → FoundNode [] [] cap (start bytes) root t → t.left ≡ [] → IsStateOf cap bytes root
is_state cap bytes root t found nothing =
    let text : bytes ≡ registry_text (keys_of root) = all_taken bytes (registry_text (keys_of root)) t found.took nothing in
    record {
      registry = is_registry cap (start bytes) root t found;
      text = text;
      fits = (let end = found.within in let further = found.took.further in omega (arith, end, further, ap (λ l. length l) text));
    }

pub state_found : WhatIsReadIsSpelled
unfolding state_of
state_found cap bytes root h e =
    let a = bind_ok (node_at 513 cap [] 0 (start bytes)) alone root e in
    let found = node_found 513 cap [] [] 0 (start bytes) a.0 reached_root (started bytes h) a.1 in
    let last = alone_found a.0 root a.2 in
    subst (IsStateOf cap bytes) last.1 (is_state cap bytes a.0.0 a.0.1 found last.0)
