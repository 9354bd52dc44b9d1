-- A connection goes on piece by piece, to its end.
use Rattle.std.proofs.Common.{◌≡◌, ◌⊎◌, inl, inr, ℕ, ◌+◌, ◌≤◌, ◌<◌, Bool, true, false, List, [], ◌∷◌, ◌++◌, length, Option, Some, None, is_some, Result, Ok, Err, refl, sym, ap, ◌∙◌, subst, append_assoc, arith, length-append}
use Rattle.std.specs.Io.KnownBytes.{Consumes, IsAtEnd}
use Rattle.std.proofs.KnownBytes.{Consumes-trans}
use Rattle.std.proofs.lemmas.List.{append-nil}
use Rattle.causes.specs.Writing.{Wrote}
use Rattle.disk_core.specs.Views.{DiskView}
use Rattle.edge_io.proofs.Pieces.{Wrote-append}
use Rattle.cluster_rules.specs.declared.effect.Effect.{Effect}
use Rattle.cluster_node.specs.States.{client_in}
use Rattle.single_items.specs.Events.{told_to}
use Rattle.single_items.proofs.Telling.{told_both}
use Rattle.single_node.specs.Singles.{SingleState}
use Rattle.single_server.specs.declared.ended.Ended.{Ended}
use Rattle.single_server.specs.declared.ended.Ended.TheVariants.{ReadFault}
use Rattle.single_server.specs.Hearing.{Beginning, CutOff, Heard, IsCut, IsHeard, IsTold, TakesPiece, Writes}
use Rattle.single_server.specs.Session.{IsCutOff, IsEnd, IsHeardOut, Reached, Starts, most_stream, piece_length}
use Rattle.single_server.proofs.Written.{writes_then, wrote_nothing}

pub no_bytes : (left : Option (List ℕ)) → Consumes left left []
no_bytes None = tt
no_bytes (Some bytes) = refl

pub starts_there : (c : ℕ) (b : Beginning) (left written : Option (List ℕ)) (s : SingleState) (v : DiskView) → Starts c b s v → Reached c b left left written written 0 s v
starts_there c b left written s v h = record { stream = []; told = []; heard = h; consumed = no_bytes left; counted = refl; wrote = wrote_nothing written }

module _ (c : ℕ) (b : Beginning) (left mid now written between : Option (List ℕ)) (taken : ℕ) (s : SingleState) (v : DiskView) (r : Reached c b left mid written between taken s v) where
  wrote_on : (holds : Option (List ℕ)) (more : List Effect) → Wrote between holds (told_to c more) → Wrote written holds (told_to c (r.told ++ more))
  wrote_on holds more wrote = subst (λ (l : List ℕ). Wrote written holds l) (sym (told_both c r.told more)) (Wrote-append written between holds (told_to c r.told) (told_to c more) r.wrote wrote)

  -- ---- no further piece

  pub ends_there : (piece : List ℕ) → s.left ≡ [] → length piece ≤ piece_length → Consumes mid now piece → IsEnd piece taken now → IsHeardOut c b left now written between s v
  ends_there piece quiet short took end = record {
    stream = r.stream;
    unused = piece;
    told = r.told;
    heard = r.heard;
    quiet = quiet;
    consumed = Consumes-trans left mid now r.stream piece r.consumed took;
    short = short;
    over = inl (subst (λ (n : ℕ). IsEnd piece n now) (sym r.counted) end);
    wrote = r.wrote;
  }

  pub fails_there : Consumes mid now [] → IsCutOff ReadFault c b left now written between v
  fails_there took = record {
    stream = r.stream;
    unused = [];
    told = r.told;
    cut = (s, r.heard);
    consumed = Consumes-trans left mid now r.stream [] r.consumed took;
    short = omega arith;
    writes = r.wrote;
  }

  -- ---- a piece

  module _ (holds : Option (List ℕ)) (piece : List ℕ) (t : SingleState) (w : DiskView) (took : Consumes mid now piece) where
    pub reaches : (size : ℕ) → length piece ≡ size → TakesPiece c b r.stream piece r.told t w between holds → is_some (client_in c t.node) ≡ true → Reached c b left now written holds (taken + size) t w
    reaches size long (inl g) open_ = record {
      stream = r.stream ++ piece;
      told = r.told ++ g.more;
      heard = g.heard;
      consumed = Consumes-trans left mid now r.stream piece r.consumed took;
      counted = (let n = r.counted in let l = length-append r.stream piece in omega (arith, n, l, long));
      wrote = wrote_on holds g.more g.wrote;
    }
    reaches size long (inr (g, gone)) open_ = let e : true ≡ false = sym open_ ∙ gone in absurd (cc)

    pub is_over : length piece ≤ piece_length → t.left ≡ [] → TakesPiece c b r.stream piece r.told t w between holds → is_some (client_in c t.node) ≡ false → IsHeardOut c b left now written holds t w
    is_over short quiet (inl g) gone = record {
      stream = r.stream ++ piece;
      unused = [];
      told = r.told ++ g.more;
      heard = g.heard;
      quiet = quiet;
      consumed = subst (λ (l : List ℕ). Consumes left now l) (sym (append-nil (r.stream ++ piece))) (Consumes-trans left mid now r.stream piece r.consumed took);
      short = omega arith;
      over = inr gone;
      wrote = wrote_on holds g.more g.wrote;
    }
    is_over short quiet (inr (g, none)) gone = record {
      stream = r.stream;
      unused = piece;
      told = r.told ++ g.more;
      heard = g.heard;
      quiet = quiet;
      consumed = Consumes-trans left mid now r.stream piece r.consumed took;
      short = short;
      over = inr gone;
      wrote = wrote_on holds g.more g.wrote;
    }

    pub is_cut : (ended : Ended) → length piece ≤ piece_length → IsCut ended c b (r.stream ++ piece) r.told between holds w ⊎ IsCut ended c b r.stream r.told between holds w → IsCutOff ended c b left now written holds w
    is_cut ended short (inl g) = record {
      stream = r.stream ++ piece;
      unused = [];
      told = r.told ++ g.more;
      cut = g.cut;
      consumed = subst (λ (l : List ℕ). Consumes left now l) (sym (append-nil (r.stream ++ piece))) (Consumes-trans left mid now r.stream piece r.consumed took);
      short = omega arith;
      writes = subst (λ (l : List ℕ). Writes ended written holds l) (sym (told_both c r.told g.more)) (writes_then ended written between holds (told_to c r.told) (told_to c g.more) r.wrote g.writes);
    }
    is_cut ended short (inr g) = record {
      stream = r.stream;
      unused = piece;
      told = r.told ++ g.more;
      cut = g.cut;
      consumed = Consumes-trans left mid now r.stream piece r.consumed took;
      short = short;
      writes = subst (λ (l : List ℕ). Writes ended written holds l) (sym (told_both c r.told g.more)) (writes_then ended written between holds (told_to c r.told) (told_to c g.more) r.wrote g.writes);
    }

-- ---- the connection

pub takes_heard : (c : ℕ) (b : Beginning) (stream piece : List ℕ) (told : List Effect) (t : SingleState) (w : DiskView) (old now : Option (List ℕ)) → TakesPiece c b stream piece told t w old now → IsHeard c t w
takes_heard c b stream piece told t w old now (inl g) = (b, stream ++ piece, told ++ g.more, g.heard)
takes_heard c b stream piece told t w old now (inr (g, gone)) = (b, stream, told ++ g.more, g.heard)
