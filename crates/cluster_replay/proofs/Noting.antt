-- Effects are noted one after the other.
use Rattle.std.proofs.Common.{◌≡◌, ℕ, ◌+◌, ◌<◌, ◌≤◌, List, [], ◌∷◌, ◌++◌, length, drop, get_or, refl, sym, ap, ◌∙◌, append_assoc, length-append}
use Rattle.std.proofs.lemmas.List.{append-nil, drop_all, drop_more}
use Rattle.cluster_rules.specs.declared.effect.Effect.{Effect}
use Rattle.cluster_rules.specs.declared.effect.Effect.TheVariants.{Send, Reply, Closed, Acked, Opened, Batched, Halted}
use Rattle.cluster_rules.specs.Worlds.{acked, sent}
use Rattle.cluster_worlds.specs.declared.told.Told.{Told}
use Rattle.cluster_worlds.specs.Telling.{told_effect, told_effects}
use Rattle.cluster_replay.specs.Journals.{JournalState, noted}

sent_first : (e : Effect) (es : List Effect) → sent (e ∷ es) ≡ sent (e ∷ []) ++ sent es
sent_first (Send p) es = refl
sent_first (Reply conn point bytes) es = refl
sent_first (Closed conn cause) es = refl
sent_first (Acked view place) es = refl
sent_first (Opened view) es = refl
sent_first (Batched req point status index) es = refl
sent_first (Halted cause) es = refl

acked_first : (e : Effect) (es : List Effect) → acked (e ∷ es) ≡ acked (e ∷ []) ++ acked es
acked_first (Send p) es = refl
acked_first (Reply conn point bytes) es = refl
acked_first (Closed conn cause) es = refl
acked_first (Acked view place) es = refl
acked_first (Opened view) es = refl
acked_first (Batched req point status index) es = refl
acked_first (Halted cause) es = refl

-- One more was noted.
pub noted_first : (e : Effect) (es : List Effect) (j : JournalState) → noted (e ∷ es) j ≡ noted es (noted (e ∷ []) j)
noted_first e es j =
    rw (sent_first e es, acked_first e es, append_assoc j.pool (sent (e ∷ [])) (sent es), append_assoc j.acks (acked (e ∷ [])) (acked es)) refl

-- And told: it stands behind what was told before.
pub told_first : (told : List Told) (node : ℕ) (e : Effect) (es : List Effect) (j : JournalState)
    → told ++ told_effects node (length j.pool) (e ∷ es) ≡ (told ++ told_effect node (length j.pool) e ∷ []) ++ told_effects node (length (noted (e ∷ []) j).pool) es
unfolding told_effects
told_first told node e es j = rw (length-append j.pool (sent (e ∷ [])), append_assoc told (told_effect node (length j.pool) e ∷ []) (told_effects node (length j.pool + length (sent (e ∷ []))) es)) refl

-- One step of a loop over effects.
pub note_one : (told more : List Told) (node i : ℕ) (effects : List Effect) (e : Effect) (event : Told) (j k : JournalState) (all : List Told) (end : JournalState)
    → e ≡ get_or effects i e → i < length effects → event ≡ told_effect node (length j.pool) e → k ≡ noted (e ∷ []) j → more ≡ told ++ event ∷ []
    → told ++ told_effects node (length j.pool) (drop i effects) ≡ all → noted (drop i effects) j ≡ end
    → (more ++ told_effects node (length k.pool) (drop (i + 1) effects) ≡ all) × (noted (drop (i + 1) effects) k ≡ end)
note_one told more node i effects e event j k all end is within told_is noted_is more_is told_all noted_all =
    let here : drop i effects ≡ e ∷ drop (i + 1) effects = drop_more effects i e within ∙ ap (λ (x : Effect). x ∷ drop (i + 1) effects) (sym is) in
    let first : told ++ told_effects node (length j.pool) (drop i effects) ≡ told ++ told_effects node (length j.pool) (e ∷ drop (i + 1) effects) =
    ap (λ (es : List Effect). told ++ told_effects node (length j.pool) es) here in
    let second : noted (drop i effects) j ≡ noted (e ∷ drop (i + 1) effects) j = ap (λ (es : List Effect). noted es j) here in
    rw (more_is, noted_is, told_is) (
      sym (told_first told node e (drop (i + 1) effects) j) ∙ (sym first ∙ told_all),
      sym (noted_first e (drop (i + 1) effects) j) ∙ (sym second ∙ noted_all),
    )

pub note_none : (told : List Told) (node count i : ℕ) (effects : List Effect) (all : List Told) → length effects ≤ i → told ++ told_effects node count (drop i effects) ≡ all → told ≡ all
unfolding told_effects
note_none told node count i effects all behind told_all =
    let none : drop i effects ≡ [] = drop_all i effects behind in
    let bare : told ++ told_effects node count (drop i effects) ≡ told ++ [] = ap (λ (es : List Effect). told ++ told_effects node count es) none in
    sym (append-nil told) ∙ (sym bare ∙ told_all)
