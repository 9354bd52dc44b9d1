-- What is told is written effect by effect.
use Rattle.std.proofs.Common.{◌≡◌, ℕ, ◌+◌, ◌<◌, ◌≤◌, Bool, List, [], ◌∷◌, ◌++◌, length, take, drop, get_or, Option, sym, ap, ◌∙◌, subst}
use Rattle.std.proofs.lemmas.List.{append-nil, take-append-drop, take_all, take_more}
use Rattle.causes.specs.Writing.{Wrote, WroteSome}
use Rattle.edge_io.proofs.Pieces.{Wrote-append}
use Rattle.cluster_rules.specs.declared.effect.Effect.{Effect}
use Rattle.single_items.specs.Events.{told_by, told_to}
use Rattle.single_items.proofs.Telling.{told_both}
use Rattle.edge_io.specs.Visits.{Visits}
use Rattle.single_server.specs.Talking.{Says}
use Rattle.single_server.proofs.DoorLaws.{says_both}
use Rattle.single_server.proofs.Written.{some_front, some_then}

module _ (c : ℕ) (es : List Effect) (i : ℕ) (e : Effect) (lt : i < length es) (is : e ≡ get_or es i e) where
  pub told_more : told_to c (take (i + 1) es) ≡ told_to c (take i es) ++ told_by c e
  told_more =
      ap (told_to c) (take_more es i e lt ∙ ap (λ (f : Effect). take i es ++ f ∷ []) (sym is)) ∙ told_both c (take i es) (e ∷ [])
      ∙ ap (λ (l : List ℕ). told_to c (take i es) ++ l) (append-nil (told_by c e))

  told_rest : told_to c es ≡ (told_to c (take i es) ++ told_by c e) ++ told_to c (drop (i + 1) es)
  told_rest = ap (told_to c) (sym (take-append-drop (i + 1) es)) ∙ told_both c (take (i + 1) es) (drop (i + 1) es) ∙ ap (λ (l : List ℕ). l ++ told_to c (drop (i + 1) es)) told_more

  pub wrote_more : (old mid now : Option (List ℕ)) → Wrote old mid (told_to c (take i es)) → Wrote mid now (told_by c e) → Wrote old now (told_to c (take (i + 1) es))
  wrote_more old mid now one two = subst (λ (l : List ℕ). Wrote old now l) (sym told_more) (Wrote-append old mid now (told_to c (take i es)) (told_by c e) one two)

  pub wrote_some : (old mid now : Option (List ℕ)) → Wrote old mid (told_to c (take i es)) → WroteSome mid now (told_by c e) → WroteSome old now (told_to c es)
  wrote_some old mid now one two =
      subst (λ (l : List ℕ). WroteSome old now l) (sym told_rest) (some_front old now (told_to c (take i es) ++ told_by c e) (told_to c (drop (i + 1) es)) (some_then old mid now (told_to c (take i es)) (told_by c e) one two))

  -- So it is at a door.
  pub says_more : (before between now : Bool) (old mid new : Option Visits) → Says (told_to c (take i es)) before between old mid → Says (told_by c e) between now mid new
      → Says (told_to c (take (i + 1) es)) before now old new
  says_more before between now old mid new one two =
      subst (λ (l : List ℕ). Says l before now old new) (sym told_more) (says_both (told_to c (take i es)) (told_by c e) before between now old mid new one two)

pub says_all : (c : ℕ) (es : List Effect) (i : ℕ) (before now : Bool) (old new : Option Visits) → length es ≤ i → Says (told_to c (take i es)) before now old new → Says (told_to c es) before now old new
says_all c es i before now old new le says = subst (λ (l : List Effect). Says (told_to c l) before now old new) (take_all i es le) says

pub wrote_all : (c : ℕ) (es : List Effect) (i : ℕ) (old now : Option (List ℕ)) → length es ≤ i → Wrote old now (told_to c (take i es)) → Wrote old now (told_to c es)
wrote_all c es i old now le wrote = subst (λ (l : List Effect). Wrote old now (told_to c l)) (take_all i es le) wrote
