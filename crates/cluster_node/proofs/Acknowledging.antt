-- Where in a list of effects the head is acknowledged, one effect after the other.
use Rattle.std.proofs.Common.{◌≡◌, ℕ, ◌+◌, ◌<◌, ◌≤◌, List, [], ◌∷◌, ◌++◌, length, take, drop, get_or, Option, Some, None, refl, sym, ap, ◌∙◌, arith, append_assoc}
use Rattle.std.specs.Prelude.{option_to_list}
use Rattle.std.proofs.lemmas.List.{drop_all, drop_more, take_more}
use Rattle.cluster_rules.specs.declared.effect.Effect.{Effect}
use Rattle.cluster_rules.specs.declared.effect.Effect.TheVariants.{Acked, Batched, Closed, Halted, Opened, Reply, Send}
use Rattle.cluster_rules.specs.Worlds.{acked}
use Rattle.cluster_node.specs.Acknowledged.{IsAckAt, IsUnacked, acks}
use Rattle.cluster_node.specs.Acting.{answered_with}

-- ---- one effect

record Skips (e : Effect) (es : List Effect) : Type 0 where
  others : acked (e ∷ es) ≡ acked es
  behind : (answer : Option Effect) → answered_with answer (e ∷ es) ≡ e ∷ answered_with answer es

skips : (e : Effect) (es : List Effect) → acks e ≡ None → Skips e es
unfolding answered_with
skips (Acked view place) es none = absurd (cc)
skips (Send p) es none = record { others = refl; behind = λ answer. refl }
skips (Reply conn point bytes) es none = record { others = refl; behind = λ answer. refl }
skips (Closed conn cause) es none = record { others = refl; behind = λ answer. refl }
skips (Opened view) es none = record { others = refl; behind = λ answer. refl }
skips (Batched req point status index) es none = record { others = refl; behind = λ answer. refl }
skips (Halted cause) es none = record { others = refl; behind = λ answer. refl }

record Hits (e : Effect) (place : ℕ) (es : List Effect) : Type 0 where
  view : ℕ
  first : acked (e ∷ es) ≡ (view, place) ∷ acked es
  behind : (answer : Option Effect) → answered_with answer (e ∷ es) ≡ e ∷ (option_to_list answer ++ es)

hits : (e : Effect) (place : ℕ) (es : List Effect) → acks e ≡ Some place → Hits e place es
unfolding answered_with
hits (Acked view p) place es is =
    let same : p ≡ place = cc in
    record { view = view; first = ap (λ (q : ℕ). (view, q) ∷ acked es) same; behind = λ answer. refl }
hits (Send p) place es is = absurd (cc)
hits (Reply conn point bytes) place es is = absurd (cc)
hits (Closed conn cause) place es is = absurd (cc)
hits (Opened view) place es is = absurd (cc)
hits (Batched req point status index) place es is = absurd (cc)
hits (Halted cause) place es is = absurd (cc)

-- ---- the effects in turn

pub begins : (es : List Effect) → IsUnacked 0 es
begins [] = record { within = omega arith; same = refl; front = λ answer. refl }
begins (e ∷ es) = record { within = omega arith; same = refl; front = λ answer. refl }

-- The list at one of its effects.
record SplitAt (i : ℕ) (e : Effect) (es : List Effect) : Type 0 where
  rest : drop i es ≡ e ∷ drop (i + 1) es
  front : take (i + 1) es ≡ take i es ++ e ∷ []

splits_at : (es : List Effect) (i : ℕ) (e : Effect) → i < length es → e ≡ get_or es i e → SplitAt i e es
splits_at es i e lt is = record {
  rest = drop_more es i e lt ∙ ap (λ (f : Effect). f ∷ drop (i + 1) es) (sym is);
  front = take_more es i e lt ∙ ap (λ (f : Effect). take i es ++ f ∷ []) (sym is);
}

-- What stands behind that effect.
joins : (es : List Effect) (i : ℕ) (e : Effect) (rest : List Effect) → SplitAt i e es → take i es ++ e ∷ rest ≡ take (i + 1) es ++ rest
joins es i e rest at = sym (append_assoc (take i es) (e ∷ []) rest) ∙ ap (λ (front : List Effect). front ++ rest) (sym at.front)

pub goes_on : (es : List Effect) (i : ℕ) (e : Effect) → i < length es → e ≡ get_or es i e → acks e ≡ None → IsUnacked i es → IsUnacked (i + 1) es
goes_on es i e lt is none before =
    let at = splits_at es i e lt is in
    let skip = skips e (drop (i + 1) es) none in
    record {
      within = omega arith;
      same = before.same ∙ ap acked at.rest ∙ skip.others;
      front = λ answer. before.front answer ∙ ap (λ (rest : List Effect). take i es ++ answered_with answer rest) at.rest
          ∙ ap (λ (rest : List Effect). take i es ++ rest) (skip.behind answer) ∙ joins es i e (answered_with answer (drop (i + 1) es)) at;
    }

pub found : (es : List Effect) (i : ℕ) (e : Effect) (place : ℕ) → i < length es → e ≡ get_or es i e → acks e ≡ Some place → IsUnacked i es → IsAckAt i place es
found es i e place lt is some before =
    let at = splits_at es i e lt is in
    let hit = hits e place (drop (i + 1) es) some in
    record {
      within = lt;
      view = hit.view;
      others = acked (drop (i + 1) es);
      first = before.same ∙ ap acked at.rest ∙ hit.first;
      splits = λ answer. before.front answer ∙ ap (λ (rest : List Effect). take i es ++ answered_with answer rest) at.rest
          ∙ ap (λ (rest : List Effect). take i es ++ rest) (hit.behind answer) ∙ joins es i e (option_to_list answer ++ drop (i + 1) es) at;
    }

pub ends : (es : List Effect) (i : ℕ) → length es ≤ i → IsUnacked i es → acked es ≡ []
ends es i le before = before.same ∙ ap acked (drop_all i es le)
