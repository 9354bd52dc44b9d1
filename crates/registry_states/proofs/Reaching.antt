-- Reading all items that are there whole: what the loop keeps, and where it ends.
use Rattle.std.proofs.Common.{◌≡◌, ℕ, List, ◌++◌, refl, sym, ap, ◌∙◌, subst, append_assoc, length-append, arith}
use Rattle.wire_fields.specs.Reading.{Reading}
use Rattle.registry_states.specs.declared.ahead.Next.{Next}
use Rattle.registry_states.specs.declared.ahead.Next.TheVariants as nexts
use Rattle.registry_states.specs.declared.item.Item.{Item}
use Rattle.registry_states.specs.Ahead.{Course}
use Rattle.registry_states.specs.Turns.{Breaks, Follows, Grew, IsDone, IsSomething, Rests, Waits, WasRead}
use Rattle.registry_states.proofs.Goings.{grew_none, stays}

grew_on : (a b c : List Item) → Grew a b → Grew b c → Grew a c
grew_on a b c first next = record { added = first.added ++ next.added; all = next.all ∙ ap (λ l. l ++ next.added) first.all ∙ append_assoc a first.added next.added }

pub grew_same : (a b c : List Item) → Grew a b → c ≡ b → Grew a c
grew_same a b c grew same = record { added = grew.added; all = same ∙ grew.all }

-- What the loop keeps.
pub record Kept (end : ℕ) (told : List Item) (ahead : Course) (s : Reading) (told_now : List Item) (ahead_now : Course) (t : Reading) : Type 0 where
  pub grew : Grew told told_now
  pub follows : Follows end told ahead s told_now ahead_now t

pub starts : (end : ℕ) (told : List Item) (ahead : Course) (s : Reading) → Kept end told ahead s told ahead s
starts end told ahead s = record { grew = grew_none told; follows = record { same = λ more. refl; over = stays s; within = λ start. start } }

module _ (end : ℕ) (told : List Item) (ahead : Course) (s : Reading) (told_then : List Item) (ahead_then : Course) (t : Reading) (kept : Kept end told ahead s told_then ahead_then t) where
  pub goes_on : (told_now : List Item) (ahead_now : Course) (u : Reading) → Grew told_then told_now × WasRead end told_then ahead_then t told_now ahead_now u → Kept end told ahead s told_now ahead_now u
  goes_on told_now ahead_now u (grew, read) =
      let first = kept.follows.over in
      let next = read.follows.over in
      record {
        grew = grew_on told told_then told_now kept.grew grew;
        follows = record {
          same = λ more. kept.follows.same more ∙ read.follows.same more;
          over = record {
            front = first.front ++ next.front;
            parts = first.parts ∙ ap (λ l. first.front ++ l) next.parts ∙ sym (append_assoc first.front next.front u.left);
            place = omega (arith, first.place, next.place, length-append first.front next.front);
            order = next.order ∙ first.order;
          };
          within = λ start. read.follows.within (kept.follows.within start);
        };
      }

  -- The bytes were read up to here.
  pub reached : (taken cut : ℕ) (told_now : List Item) (ahead_now : Course) → taken ≡ t.place → told_now ≡ told_then → ahead_now ≡ ahead_then → Rests ahead_then.next end told_then ahead_then t cut
      → (u : Reading) × (u.place ≡ taken) × Follows end told ahead s told_now ahead_now u × Rests ahead_now.next end told_now ahead_now u cut
  reached taken cut told_now ahead_now here same same_ahead rests = (
    t,
    sym here,
    subst (λ (l : List Item). Follows end told ahead s l ahead_now t) (sym same) (subst (λ (a : Course). Follows end told ahead s told_then a t) (sym same_ahead) kept.follows),
    subst (λ (l : List Item). Rests ahead_now.next end l ahead_now t cut) (sym same) (subst (λ (a : Course). Rests a.next end told_then a t cut) (sym same_ahead) rests),
  )

  pub breaks_from : (place : ℕ) → Breaks end told_then ahead_then t place → Breaks end told ahead s place
  breaks_from place breaks more = kept.follows.same more ∙ breaks more

pub done_rests : (end : ℕ) (told : List Item) (ahead : Course) (t : Reading) (cut : ℕ) → IsDone end told ahead t → Rests ahead.next end told ahead t cut
done_rests end told ahead t cut done = subst (λ (next : Next). Rests next end told ahead t cut) (sym done.nothing) done

pub cut_rests : (next : Next) (end : ℕ) (told : List Item) (ahead : Course) (t : Reading) (cut : ℕ) → IsSomething next → Waits end told ahead t cut → Rests next end told ahead t cut
cut_rests nexts.Root end told ahead t cut some waits = waits
cut_rests (nexts.Values left used depth) end told ahead t cut some waits = waits
cut_rests (nexts.Subkeys level) end told ahead t cut some waits = waits
cut_rests nexts.Nothing end told ahead t cut some waits = elim some [ ]
