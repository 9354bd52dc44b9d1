-- Changes cut into batches, change by change.
use Rattle.std.proofs.Common.{◌≡◌, ℕ, suc, ◌+◌, ◌<◌, ◌≤◌, true, false, cond, List, [], ◌∷◌, ◌++◌, length, refl, sym, ap, ◌∙◌, append_assoc, length-append, All, arith}
use Rattle.std.specs.Prelude.{◌&&◌, nat_le, nat_lt, ◌==◌, OnOk, Result, Ok, Err}
use Rattle.std.specs.List.{flat_map}
use Rattle.std.proofs.lemmas.Bool.Decides.{nat_tests}
use Rattle.std.proofs.lemmas.Grind.{flat_map-append}
use Rattle.std.proofs.lemmas.List.{append-nil}
use Rattle.std.proofs.lemmas.List.Concat.{flat_map-cons}
use Rattle.std.proofs.lemmas.List.Elements.{All-nil, All-cons, All-append}
use Rattle.wire_fields.specs.declared.endian.Endian.TheVariants.{Little}
use Rattle.wire_fields.specs.Numbers.{num}
use Rattle.wire_fields.proofs.NumberLaws.{length-num}
use Rattle.update_records.specs.declared.change.Change.{Change}
use Rattle.update_records.specs.declared.update.Update.{Update}
use Rattle.update_records.specs.declared.update.Update.TheVariants.{Batch}
use Rattle.update_records.specs.Spelling.{change_text, update_text}
use Rattle.update_records.specs.Validity.{IsValid, IsValidBatch, IsValidChange}
use Rattle.hive_text.specs.declared.batcher.Batcher.{Batcher}
use Rattle.hive_text.specs.Batches.{may_be_batch, last_batch, cut, changes_in}
use Rattle.hive_text.specs.Batching.{IsSound, IsTaken, Takes, all_batches}

-- ---- lengths

length-batch : (taken : List Change) → length (update_text (Batch taken)) ≡ 3 + length (flat_map change_text taken)
length-batch taken =
    omega (
      arith,
      length-append (num Little 1 5 ++ num Little 2 (length taken)) (flat_map change_text taken),
      length-append (num Little 1 5) (num Little 2 (length taken)),
      length-num Little 1 5,
      length-num Little 2 (length taken),
    )

pub length-more : (taken : List Change) (change : Change) → length (update_text (Batch (taken ++ change ∷ []))) ≡ length (update_text (Batch taken)) + length (change_text change)
length-more taken change =
    let one : flat_map change_text (change ∷ []) ≡ change_text change = flat_map-cons change_text change [] ∙ append-nil (change_text change) in
    let text : flat_map change_text (taken ++ change ∷ []) ≡ flat_map change_text taken ++ change_text change = flat_map-append change_text taken (change ∷ []) ∙ ap (λ t. flat_map change_text taken ++ t) one in
    omega (arith, length-batch taken, length-batch (taken ++ change ∷ []), ap (λ t. length t) text, length-append (flat_map change_text taken) (change_text change))

less_is : (n m : ℕ) → nat_le (n + 1) m ≡ nat_lt n m
less_is n m = grind (arith, nat_tests)

pub room_is : (taken : List Change) (change : Change) (size more : ℕ) → size ≡ length (update_text (Batch taken)) → more ≡ length (change_text change)
    → may_be_batch (taken ++ change ∷ []) ≡ (nat_lt (length taken) 64 && nat_le (size + more) 57310)
room_is taken change size more counted is =
    let long : length (taken ++ change ∷ []) ≡ length taken + 1 = omega (arith, length-append taken (change ∷ [])) in
    let text : length (update_text (Batch (taken ++ change ∷ []))) ≡ size + more = omega (arith, length-more taken change, counted, is) in
    ap (λ n. nat_le n 64 && nat_le (length (update_text (Batch (taken ++ change ∷ [])))) 57310) long
    ∙ ap (λ n. nat_le (length taken + 1) 64 && nat_le n 57310) text
    ∙ ap (λ b. b && nat_le (size + more) 57310) (less_is (length taken) 64)

-- ---- what the changes taken keep

pub none_taken : IsTaken [] 3
none_taken = record {
  counted = omega (arith, length-batch []);
  short = omega arith;
  few = omega arith;
  each = All-nil IsValidChange;
}

pub more_taken : (taken : List Change) (change : Change) (size more : ℕ) → IsTaken taken size → IsValidChange change → more ≡ length (change_text change) → length taken < 64 → size + more ≤ 57310
    → IsTaken (taken ++ change ∷ []) (size + more)
more_taken taken change size more h valid is few short =
    let counted = h.counted in
    record {
      counted = omega (arith, length-more taken change, counted, is);
      short = short;
      few = omega (arith, length-append taken (change ∷ []));
      each = All-append IsValidChange taken (change ∷ []) h.each (All-cons IsValidChange change [] valid (All-nil IsValidChange));
    }

pub batch_is_valid : (taken : List Change) (size : ℕ) → IsTaken taken size → 0 < length taken → IsValidBatch taken
batch_is_valid taken size h some =
    let counted = h.counted in
    let short = h.short in
    record { some = some; few = h.few; each = h.each; short = omega (arith, counted, short) }

pub done_more : (done : List Update) (taken : List Change) (size : ℕ) → All IsValid done → IsTaken taken size → 0 < length taken → All IsValid (done ++ Batch taken ∷ [])
done_more done taken size each h some = All-append IsValid done (Batch taken ∷ []) each (All-cons IsValid (Batch taken) [] (batch_is_valid taken size h some) (All-nil IsValid))

-- ---- taking changes

pub takes_nothing : (old : Batcher) → IsSound old → Takes old [] old
takes_nothing old sound = record { sound = sound; batches = λ rest. refl }

pub takes_more : (old : Batcher) (first : List Change) (between : Batcher) (second : List Change) (new : Batcher) → Takes old first between → Takes between second new → Takes old (first ++ second) new
takes_more old first between second new one two = record {
  sound = two.sound;
  batches = λ rest. two.batches rest ∙ one.batches (second ++ rest) ∙ ap (λ (l : List Change). all_batches old l) (sym (append_assoc first second rest));
}

pub takes_one : (old : Batcher) (change : Change) (new : Batcher) → IsSound new → may_be_batch (old.taken.items ++ change ∷ []) ≡ true → new.done.items ≡ old.done.items → new.taken.items ≡ old.taken.items ++ change ∷ []
    → Takes old (change ∷ []) new
unfolding cut
takes_one old change new sound fits done taken =
    let own = old.taken.items in
    record {
      sound = sound;
      batches = λ rest. ap (λ (l : List Update). l ++ cut new.taken.items rest) done
          ∙ ap (λ (l : List Change). old.done.items ++ cut l rest) taken
          ∙ ap (λ b. old.done.items ++ cond b (cut (own ++ change ∷ []) rest) (Batch own ∷ cut (change ∷ []) rest)) (sym fits);
    }

pub takes_next : (old : Batcher) (change : Change) (new : Batcher) → IsSound new → may_be_batch (old.taken.items ++ change ∷ []) ≡ false → new.done.items ≡ old.done.items ++ Batch old.taken.items ∷ [] → new.taken.items ≡ change ∷ []
    → Takes old (change ∷ []) new
unfolding cut
takes_next old change new sound fits done taken =
    let own = old.taken.items in
    record {
      sound = sound;
      batches = λ rest. ap (λ (l : List Update). l ++ cut new.taken.items rest) done
          ∙ ap (λ (l : List Change). (old.done.items ++ Batch own ∷ []) ++ cut l rest) taken
          ∙ append_assoc old.done.items (Batch own ∷ []) (cut (change ∷ []) rest)
          ∙ ap (λ b. old.done.items ++ cond b (cut (own ++ change ∷ []) rest) (Batch own ∷ cut (change ∷ []) rest)) (sym fits);
    }

-- the same, unless memory ran out on the way
pub takes_one_if : {T E : Type 0} (result : Result T E) (old : Batcher) (change : Change) (new : Batcher) → may_be_batch (old.taken.items ++ change ∷ []) ≡ true
    → OnOk result (IsSound new) → OnOk result (new.done.items ≡ old.done.items) → OnOk result (new.taken.items ≡ old.taken.items ++ change ∷ []) → OnOk result (Takes old (change ∷ []) new)
takes_one_if (Ok x) old change new fits sound done taken = takes_one old change new sound fits done taken
takes_one_if (Err fault) old change new fits sound done taken = tt

pub takes_next_if : {T E : Type 0} (result : Result T E) (old : Batcher) (change : Change) (closed new : Batcher) → may_be_batch (old.taken.items ++ change ∷ []) ≡ false
    → closed.done.items ≡ old.done.items ++ Batch old.taken.items ∷ [] → closed.taken.items ≡ []
    → OnOk result (IsSound new) → OnOk result (new.done.items ≡ closed.done.items) → OnOk result (new.taken.items ≡ closed.taken.items ++ change ∷ []) → OnOk result (Takes old (change ∷ []) new)
takes_next_if (Ok x) old change closed new full was none sound done taken =
    takes_next old change new sound full (done ∙ was) (taken ∙ ap (λ (l : List Change). l ++ change ∷ []) none)
takes_next_if (Err fault) old change closed new full was none sound done taken = tt

too_many : (n : ℕ) → nat_le n 57310 ≡ false → 57310 < n
too_many n is = grind (arith, nat_tests)

-- a batch without room has changes
pub full_has_some : (taken : List Change) (size more : ℕ) → IsTaken taken size → more ≤ 57307 → (nat_lt (length taken) 64 && nat_le (size + more) 57310) ≡ false → 0 < length taken
full_has_some [] size more h small full =
    let counted = h.counted in
    let past = too_many (size + more) full in
    absurd (omega (arith, counted, length-batch [], past))
full_has_some (first ∷ others) size more h small full = omega arith

-- ---- all of them

pub cut_end : (taken : List Change) → cut taken [] ≡ last_batch taken
unfolding cut
cut_end taken = refl

is_some : (n : ℕ) → (suc n == 0) ≡ false
is_some n = grind (arith, nat_tests)

pub cut_whole : (taken changes : List Change) → flat_map changes_in (cut taken changes) ≡ taken ++ changes
unfolding cut
cut_whole [] [] = refl
cut_whole (first ∷ others) [] =
    let some : (length (first ∷ others) == 0) ≡ false = is_some (length others) in
    ap (λ b. flat_map changes_in (cond b [] (Batch (first ∷ others) ∷ []))) some ∙ flat_map-cons changes_in (Batch (first ∷ others)) []
cut_whole taken (change ∷ changes) =
    elim (may_be_batch (taken ++ change ∷ [])) as (λ b. flat_map changes_in (cond b (cut (taken ++ change ∷ []) changes) (Batch taken ∷ cut (change ∷ []) changes)) ≡ taken ++ change ∷ changes) [
      | true ↦ cut_whole (taken ++ change ∷ []) changes ∙ append_assoc taken (change ∷ []) changes
      | false ↦ flat_map-cons changes_in (Batch taken) (cut (change ∷ []) changes) ∙ ap (λ (l : List Change). taken ++ l) (cut_whole (change ∷ []) changes)
    ]

pub all_taken : (old : Batcher) (changes : List Change) (new : Batcher) → old.done.items ≡ [] → old.taken.items ≡ [] → Takes old changes new → new.done.items ++ last_batch new.taken.items ≡ cut [] changes
all_taken old changes new done taken takes =
    ap (λ (l : List Update). new.done.items ++ l) (sym (cut_end new.taken.items))
    ∙ takes.batches []
    ∙ ap (λ (l : List Update). l ++ cut old.taken.items (changes ++ [])) done
    ∙ ap (λ (l : List Change). cut l (changes ++ [])) taken
    ∙ ap (λ (l : List Change). cut [] l) (append-nil changes)
