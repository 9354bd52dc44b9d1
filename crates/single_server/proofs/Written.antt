-- What was told and written is told and written in turn.
use Rattle.std.proofs.Common.{◌≡◌, ◌≢◌, ℕ, ◌+◌, List, [], ◌++◌, length, min, take, Option, Some, None, refl, sym, ◌∙◌, subst, append_assoc, arith}
use Rattle.std.proofs.lemmas.List.{append-nil, take-append-le, take_min}
use Rattle.std.proofs.Math.Seq.{take-append-add}
use Rattle.causes.specs.Writing.{Wrote, WroteSome}
use Rattle.disk_core.specs.Calls.{SameDisk}
use Rattle.disk_core.specs.Views.{DiskView}
use Rattle.edge_io.proofs.Pieces.{Wrote-append}
use Rattle.cluster_rules.specs.declared.effect.Effect.{Effect}
use Rattle.cluster_rules.specs.declared.effect.HaltCause.{HaltCause}
use Rattle.cluster_rules.specs.declared.effect.HaltCause.TheVariants as halt
use Rattle.single_items.specs.Events.{told_to}
use Rattle.single_items.proofs.Telling.{told_both}
use Rattle.single_node.specs.Singles.{SingleState}
use Rattle.single_server.specs.declared.ended.Ended.{Ended}
use Rattle.single_server.specs.declared.ended.Ended.TheVariants.{BadLog, DiskFault, Done, Fenced, NoMemory, ReadFault, WriteFault}
use Rattle.single_server.specs.Endings.{ended_by}
use Rattle.single_server.specs.Hearing.{Beginning, CutOff, HaltsFor, HasRunOut, Heard, IsCut, IsTold, Writes}

-- ---- what was written

pub wrote_nothing : (written : Option (List ℕ)) → Wrote written written []
wrote_nothing None = tt
wrote_nothing (Some bytes) = sym (append-nil bytes)

pub some_front : (a b : Option (List ℕ)) (x y : List ℕ) → WroteSome a b x → WroteSome a b (x ++ y)
some_front a b x y (n, wrote) =
    (min n (length x), subst (λ (t : List ℕ). Wrote a b t) (sym (take-append-le (min n (length x)) x y (omega arith) ∙ take_min n x)) wrote)

pub some_then : (a b c : Option (List ℕ)) (x y : List ℕ) → Wrote a b x → WroteSome b c y → WroteSome a c (x ++ y)
some_then a b c x y one (count, two) =
    (length x + count, subst (λ (t : List ℕ). Wrote a c t) (sym (take-append-add x y count)) (Wrote-append a b c x (take count y) one two))

-- All of one text, and of the next one as the run's end has it.
pub writes_then : (ended : Ended) (a b c : Option (List ℕ)) (x y : List ℕ) → Wrote a b x → Writes ended b c y → Writes ended a c (x ++ y)
writes_then Done a b c x y one two = Wrote-append a b c x y one two
writes_then ReadFault a b c x y one two = Wrote-append a b c x y one two
writes_then WriteFault a b c x y one two = some_then a b c x y one two
writes_then DiskFault a b c x y one two = Wrote-append a b c x y one two
writes_then NoMemory a b c x y one two = Wrote-append a b c x y one two
writes_then (BadLog place) a b c x y one two = Wrote-append a b c x y one two
writes_then (Fenced held) a b c x y one two = Wrote-append a b c x y one two

-- ---- what was told

module _ (c : ℕ) (b : Beginning) (stream : List ℕ) (told : List Effect) where
  pub told_nothing : (t : SingleState) (w : DiskView) (old now : Option (List ℕ)) → Heard c b stream told t w → now ≡ old → IsTold c b stream told t w old now
  told_nothing t w old now h same = record {
    more = [];
    heard = subst (λ (l : List Effect). Heard c b stream l t w) (sym (append-nil told)) h;
    wrote = subst (λ (o : Option (List ℕ)). Wrote old o []) (sym same) (wrote_nothing old);
  }

  pub told_first : (es : List Effect) (t : SingleState) (w : DiskView) (old mid now : Option (List ℕ)) → Wrote old mid (told_to c es) → IsTold c b stream (told ++ es) t w mid now → IsTold c b stream told t w old now
  told_first es t w old mid now wrote g = record {
    more = es ++ g.more;
    heard = subst (λ (l : List Effect). Heard c b stream l t w) (append_assoc told es g.more) g.heard;
    wrote = subst (λ (l : List ℕ). Wrote old now l) (sym (told_both c es g.more)) (Wrote-append old mid now (told_to c es) (told_to c g.more) wrote g.wrote);
  }

  pub cut_first : (ended : Ended) (es : List Effect) (w : DiskView) (old mid now : Option (List ℕ)) → Wrote old mid (told_to c es) → IsCut ended c b stream (told ++ es) mid now w → IsCut ended c b stream told old now w
  cut_first ended es w old mid now wrote g = record {
    more = es ++ g.more;
    cut = subst (λ (l : List Effect). CutOff ended c b stream l w) (append_assoc told es g.more) g.cut;
    writes = subst (λ (l : List ℕ). Writes ended old now l) (sym (told_both c es g.more)) (writes_then ended old mid now (told_to c es) (told_to c g.more) wrote g.writes);
  }

  -- ---- where the run is cut off

  pub halts_cut : (cause : HaltCause) (es : List Effect) (w : DiskView) → HaltsFor cause c b stream (told ++ es) w → CutOff (ended_by cause) c b stream (told ++ es) w
  halts_cut halt.Disk es w h = h
  halts_cut (halt.Fenced held) es w h = h
  halts_cut (halt.Image place) es w h = h

  halts_writes : (cause : HaltCause) (old now : Option (List ℕ)) (text : List ℕ) → Wrote old now text → Writes (ended_by cause) old now text
  halts_writes halt.Disk old now text wrote = wrote
  halts_writes (halt.Fenced held) old now text wrote = wrote
  halts_writes (halt.Image place) old now text wrote = wrote

  wrote_silence : (old now : Option (List ℕ)) (text : List ℕ) → text ≡ [] → now ≡ old → Wrote old now text
  wrote_silence old now text none same = subst (λ (l : List ℕ). Wrote old now l) (sym none) (subst (λ (o : Option (List ℕ)). Wrote old o []) (sym same) (wrote_nothing old))

  pub cut_by_halt : (cause : HaltCause) (es : List Effect) (w : DiskView) (old now : Option (List ℕ)) → HaltsFor cause c b stream (told ++ es) w → told_to c es ≡ [] → now ≡ old
      → IsCut (ended_by cause) c b stream told old now w
  cut_by_halt cause es w old now h silent same = record { more = es; cut = halts_cut cause es w h; writes = halts_writes cause old now (told_to c es) (wrote_silence old now (told_to c es) silent same) }

  pub cut_by_write : (es : List Effect) (t : SingleState) (w : DiskView) (old now : Option (List ℕ)) → Heard c b stream (told ++ es) t w → WroteSome old now (told_to c es) → IsCut WriteFault c b stream told old now w
  cut_by_write es t w old now h some = record { more = es; cut = (t, h); writes = some }

  pub cut_by_memory : (w : DiskView) (old now : Option (List ℕ)) → HasRunOut c b stream told w → now ≡ old → IsCut NoMemory c b stream told old now w
  cut_by_memory w old now out same = record {
    more = [];
    cut = subst (λ (l : List Effect). HasRunOut c b stream l w) (sym (append-nil told)) out;
    writes = wrote_silence old now [] refl same;
  }

  -- ---- one thing behind the other

  pub told_then : (s t : SingleState) (v w : DiskView) (old mid now : Option (List ℕ)) (first : IsTold c b stream told s v old mid) → IsTold c b stream (told ++ first.more) t w mid now → IsTold c b stream told t w old now
  told_then s t v w old mid now first next = told_first first.more t w old mid now first.wrote next

  pub cut_then : (ended : Ended) (s : SingleState) (v w : DiskView) (old mid now : Option (List ℕ)) (first : IsTold c b stream told s v old mid) → IsCut ended c b stream (told ++ first.more) mid now w → IsCut ended c b stream told old now w
  cut_then ended s v w old mid now first next = cut_first ended first.more w old mid now first.wrote next

pub heard_still : (c : ℕ) (b : Beginning) (stream : List ℕ) (told : List Effect) (t : SingleState) (w : DiskView) (old now : Option (List ℕ)) (g : IsTold c b stream told t w old now) → Heard c b stream (told ++ g.more) t w
heard_still c b stream told t w old now g = g.heard

pub same_then : (u v w : DiskView) → SameDisk u v → SameDisk v w → SameDisk u w
same_then u v w a b = record { size = b.size ∙ a.size; tells = b.tells ∙ a.tells; faults = (let x = a.faults in let y = b.faults in omega (arith, x, y)) }

pub same_disk_still : (v : DiskView) → SameDisk v v
same_disk_still v = record { size = refl; tells = refl; faults = omega arith }

-- A node that halts is no failed read.
pub no_read : (cause : HaltCause) → ended_by cause ≢ ReadFault
no_read halt.Disk e = absurd (cc)
no_read (halt.Fenced held) e = absurd (cc)
no_read (halt.Image place) e = absurd (cc)
