-- What a connection is sent by effects in turn.
use Rattle.std.proofs.Common.{◌≡◌, ℕ, true, Option, List, [], ◌∷◌, ◌++◌, nat_eq, refl, sym, ap, ◌∙◌, append_assoc, arith}
use Rattle.std.proofs.lemmas.List.{append-nil}
use Rattle.cluster_rules.specs.declared.effect.Effect.{Effect}
use Rattle.cluster_rules.specs.declared.effect.Effect.TheVariants.{Reply}
use Rattle.cluster_rules.specs.declared.effect.Effect.TheVariants as effects
use Rattle.cluster_rules.specs.Worlds.{sent}
use Rattle.gum_messages.specs.Messages.{Sent}
use Rattle.single_items.specs.Events.{told_by, told_to}

pub told_both : (c : ℕ) (es fs : List Effect) → told_to c (es ++ fs) ≡ told_to c es ++ told_to c fs
told_both c [] fs = refl
told_both c (e ∷ es) fs = ap (λ (l : List ℕ). told_by c e ++ l) (told_both c es fs) ∙ sym (append_assoc (told_by c e) (told_to c es) (told_to c fs))

own : (c : ℕ) → nat_eq c c ≡ true
own c = grind arith

pub told_reply : (c : ℕ) (es : List Effect) (point : Option ℕ) (bytes : List ℕ) → told_to c (es ++ Reply c point bytes ∷ []) ≡ told_to c es ++ bytes
told_reply c es point bytes =
    let mine : told_by c (Reply c point bytes) ≡ bytes = simp (own c) in
    told_both c es (Reply c point bytes ∷ []) ∙ ap (λ (l : List ℕ). told_to c es ++ l) (append-nil (told_by c (Reply c point bytes)) ∙ mine)

pub sent_both : (es fs : List Effect) → sent (es ++ fs) ≡ sent es ++ sent fs
sent_both [] fs = refl
sent_both (e ∷ es) fs = by_first (sent_both es fs) e
  where
    by_first : sent (es ++ fs) ≡ sent es ++ sent fs → (first : Effect) → sent (first ∷ (es ++ fs)) ≡ sent (first ∷ es) ++ sent fs
    by_first rest (effects.Send p) = ap (λ (l : List Sent). p ∷ l) rest
    by_first rest (effects.Reply conn point bytes) = rest
    by_first rest (effects.Closed conn cause) = rest
    by_first rest (effects.Acked view place) = rest
    by_first rest (effects.Opened view) = rest
    by_first rest (effects.Batched req point status index) = rest
    by_first rest (effects.Halted cause) = rest

pub silent_reply : (c : ℕ) (es : List Effect) (point : Option ℕ) (bytes : List ℕ) → sent es ≡ [] → sent (es ++ Reply c point bytes ∷ []) ≡ []
silent_reply c es point bytes none = sent_both es (Reply c point bytes ∷ []) ∙ append-nil (sent es) ∙ none
