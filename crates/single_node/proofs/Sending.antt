-- What a node sends to itself, one effect at a time.
use Rattle.std.proofs.Common.{◌≡◌, ℕ, ◌+◌, ◌<◌, List, [], ◌∷◌, ◌++◌, length, take, get_or, refl, sym, ap, ◌∙◌, append_assoc}
use Rattle.std.proofs.lemmas.List.{take_more}
use Rattle.gum_messages.specs.Messages.{Sent}
use Rattle.cluster_rules.specs.declared.effect.Effect.{Effect}
use Rattle.cluster_rules.specs.Worlds.{sent}
use Rattle.single_items.proofs.Telling.{sent_both}

pub sends_more : (es : List Effect) (i : ℕ) (e : Effect) (first left next : List Sent) → i < length es → e ≡ get_or es i e → left ≡ first ++ sent (take i es) → next ≡ left ++ sent (e ∷ [])
    → next ≡ first ++ sent (take (i + 1) es)
sends_more es i e first left next lt is so more =
    more ∙ ap (λ (l : List Sent). l ++ sent (e ∷ [])) so ∙ append_assoc first (sent (take i es)) (sent (e ∷ []))
    ∙ ap (λ (l : List Sent). first ++ l) (sym (sent_both (take i es) (e ∷ [])) ∙ ap sent (sym (take_more es i e lt ∙ ap (λ (f : Effect). take i es ++ f ∷ []) (sym is))))
