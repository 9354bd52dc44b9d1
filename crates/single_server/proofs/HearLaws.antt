-- A piece was heard, what the node told was written, and its messages were delivered.
use Rattle.std.proofs.Common.{◌≡◌, ◌⊎◌, inl, inr, ℕ, Bool, true, false, List, [], ◌∷◌, ◌++◌, Option, Some, None, is_some, Result, Ok, Err, refl, sym, ap, ◌∙◌, subst}
use Rattle.std.specs.Prelude.{IfOk, ⊤}
use Rattle.causes.specs.Writing.{Wrote, WroteSome}
use Rattle.disk_core.specs.Views.{DiskView}
use Rattle.cluster_rules.specs.declared.effect.Effect.{Effect}
use Rattle.cluster_node.specs.Events.{HearsBytes}
use Rattle.cluster_node.specs.States.{client_in}
use Rattle.single_items.specs.Events.{told_to}
use Rattle.single_node.specs.Singles.{Sends, SingleState}
use Rattle.single_server.specs.declared.ended.Ended.{Ended}
use Rattle.single_server.specs.declared.ended.Ended.TheVariants.{NoMemory, WriteFault}
use Rattle.single_server.specs.Hearing.{Beginning, Delivers, Heard, HearsAll, IsHeard}
use Rattle.single_server.proofs.PieceLaws.{piece_taken}
use Rattle.single_server.proofs.Written.{cut_by_memory, cut_by_write, cut_first, told_first}

module _ (c : ℕ) (piece : List ℕ) (s t : SingleState) (v : DiskView) (es : List Effect) (quiet : s.left ≡ []) (heard : HearsBytes c piece s.node.running t.node.running es) (sends : Sends s es t) where
  pub heard_after : IsHeard c s v → IsHeard c t v
  heard_after (b, stream, told, h) = by_case (piece_taken c b stream piece told s t v es h quiet heard sends)
    where
      by_case : Heard c b (stream ++ piece) (told ++ es) t v ⊎ (Heard c b stream (told ++ es) t v × (client_in c t.node ≡ None) × (t.left ≡ [])) → IsHeard c t v
      by_case (inl h) = (b, stream ++ piece, told ++ es, h)
      by_case (inr (h, gone, none)) = (b, stream, told ++ es, h)

  module _ (b : Beginning) (stream : List ℕ) (told : List Effect) (h : Heard c b stream told s v) where
    pub stops_writing : (old now : Option (List ℕ)) → WroteSome old now (told_to c es) → HearsAll (Err WriteFault) c b stream piece told t v old now
    stops_writing old now some = by_case (piece_taken c b stream piece told s t v es h quiet heard sends)
      where
        by_case : Heard c b (stream ++ piece) (told ++ es) t v ⊎ (Heard c b stream (told ++ es) t v × (client_in c t.node ≡ None) × (t.left ≡ [])) → HearsAll (Err WriteFault) c b stream piece told t v old now
        by_case (inl g) = inl (cut_by_write c b (stream ++ piece) told es t v old now g some)
        by_case (inr (g, gone, none)) = inr (cut_by_write c b stream told es t v old now g some)

    pub hears_all : (result : Result ⊤ Ended) (u : SingleState) (w : DiskView) (old mid now : Option (List ℕ)) → Wrote old mid (told_to c es)
        → ((b : Beginning) (stream : List ℕ) (told : List Effect) → Heard c b stream told t v → Delivers result c b stream told u w mid now) → IfOk result (λ _. t.left ≡ [] → u ≡ t)
        → HearsAll result c b stream piece told u w old now
    hears_all result u w old mid now wrote delivers still = by_case result delivers still (piece_taken c b stream piece told s t v es h quiet heard sends)
      where
        by_case : (r : Result ⊤ Ended) → ((b : Beginning) (stream : List ℕ) (told : List Effect) → Heard c b stream told t v → Delivers r c b stream told u w mid now) → IfOk r (λ _. t.left ≡ [] → u ≡ t)
            → Heard c b (stream ++ piece) (told ++ es) t v ⊎ (Heard c b stream (told ++ es) t v × (client_in c t.node ≡ None) × (t.left ≡ [])) → HearsAll r c b stream piece told u w old now
        by_case (Ok done) delivers still (inl g) = let d = delivers b (stream ++ piece) (told ++ es) g in (inl (told_first c b (stream ++ piece) told es u w old mid now wrote d.0), d.1)
        by_case (Ok done) delivers still (inr (g, gone, none)) =
            let d = delivers b stream (told ++ es) g in
            (inr (told_first c b stream told es u w old mid now wrote d.0, ap (λ (x : SingleState). is_some (client_in c x.node)) (still none) ∙ ap is_some gone), d.1)
        by_case (Err ended) delivers still (inl g) = inl (cut_first c b (stream ++ piece) told ended es w old mid now wrote (delivers b (stream ++ piece) (told ++ es) g))
        by_case (Err ended) delivers still (inr (g, gone, none)) = inr (cut_first c b stream told ended es w old mid now wrote (delivers b stream (told ++ es) g))

pub out_of_memory : (c : ℕ) (piece : List ℕ) (s t : SingleState) (v : DiskView) (b : Beginning) (stream : List ℕ) (told : List Effect) (old : Option (List ℕ)) → Heard c b stream told s v
    → HearsAll (Err NoMemory) c b stream piece told t v old old
out_of_memory c piece s t v b stream told old h = inr (cut_by_memory c b stream told v old old (inl (s, v, h, inl refl)) refl)
