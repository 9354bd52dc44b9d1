-- Going up from a key that was read whole, and the end.
use Rattle.std.proofs.Common.{◌≡◌, ℕ, ◌-◌, ◌<◌, take, false, List, [], ◌∷◌, ◌++◌, length, Option, Ok, Err, refl, sym, ap, ◌∙◌, subst, arith}
use Rattle.std.specs.Prelude.{◌==◌, reverse}
use Rattle.std.proofs.lemmas.Bool.Decides.{nat_tests}
use Rattle.std.proofs.lemmas.List.{append-nil, reverse-append}
use Rattle.wire_fields.specs.Reading.{Reading}
use Rattle.registry_defs.specs.StateFields.{◌>>=◌, alone}
use Rattle.registry_states.specs.declared.ahead.Level.{Level}
use Rattle.registry_states.specs.declared.ahead.Next.{Next}
use Rattle.registry_states.specs.declared.ahead.Next.TheVariants as nexts
use Rattle.registry_states.specs.declared.item.Head.{Head}
use Rattle.registry_states.specs.declared.item.Item.{Item}
use Rattle.registry_states.specs.declared.item.Item.TheVariants as items
use Rattle.registry_states.specs.declared.read_fault.ReadFault.{ReadFault}
use Rattle.registry_states.specs.declared.read_fault.ReadFault.TheVariants.{Cut, Bad, Memory}
use Rattle.registry_states.specs.Ahead.{Course, above_at, all_at, level_at, rest_at}
use Rattle.registry_states.specs.Items.{Told, behind, followed, items_at, items_below, subkey_at}
use Rattle.registry_states.specs.Moves.{Advanced, further}
use Rattle.registry_states.specs.Readers.{FailsAt}
use Rattle.registry_states.specs.Turns.{Breaks, Grew, IsDone, IsSomething, Reads, Steps, Waits, WasRead, course, level_behind, values_of, weight}
use Rattle.registry_states.proofs.ItemKinds.{none_behind}
use Rattle.registry_states.proofs.ItemReads.{level_fails, level_given}

pub grew_none : (told : List Item) → Grew told told
grew_none told = record { added = []; all = sym (append-nil told) }

pub stays : (s : Reading) → Advanced s s
stays s = record { front = []; parts = refl; place = omega arith; order = refl }

-- The same is to come, and less is to do.
same_rest : (end : ℕ) (told : List Item) (before now : Course) (s : Reading) → ((t : Reading) → rest_at end told before t ≡ rest_at end told now t) → weight now s < weight before s
    → Grew told told × WasRead end told before s told now s
unfolding all_at
same_rest end told before now s same lighter = (
  grew_none told,
  record {
    follows = record { same = λ more. ap (λ (read : Told). behind told read >>= alone) (same (further more s)); over = stays s; within = λ start. start };
    closer = lighter;
  },
)

pub goes_up : (end : ℕ) (told : List Item) (s : Reading) (level : Level) (above : List Level)
    → Grew told told × WasRead end told (course nexts.Nothing (level ∷ above)) s told (course (nexts.Subkeys level) above) s
unfolding above_at
goes_up end told s level above =
    same_rest end told (course nexts.Nothing (level ∷ above)) (course (nexts.Subkeys level) above) s (λ t. none_behind (followed (level_at end level t) (above_at end above))) (omega arith)

no_subkeys : (end : ℕ) (left : ℕ) (used depth : ℕ) (last : Option (List ℕ)) (s : Reading) → left ≡ 0 → items_below (items_at depth end) left last used end s ≡ Ok ([], s)
unfolding items_below
no_subkeys end left used depth last s none = rw none refl

pub leaves : (end : ℕ) (told : List Item) (s : Reading) (level : Level) (above : List Level) → level.left ≡ 0
    → Grew told told × WasRead end told (course (nexts.Subkeys level) above) s told (course nexts.Nothing above) s
leaves end told s level above none =
    same_rest end told (course (nexts.Subkeys level) above) (course nexts.Nothing above) s
    (λ t. ap (λ (read : Told). followed read (above_at end above)) (no_subkeys end level.left level.used level.depth level.last t none)) (omega arith)

nothing_left : {X : Type 0} (xs : List X) → (length xs ≡ 0) → xs ≡ []
nothing_left [] none = refl
nothing_left (x ∷ xs) none = absurd (omega (arith, none))

pub done : (end : ℕ) (told : List Item) (s : Reading) → length s.left ≡ 0 → IsDone end told (course nexts.Nothing []) s
unfolding all_at above_at
done end told s none = record { nothing = refl; all = rw (none, append-nil told) refl; ended = nothing_left s.left none }

some_more : (xs more : List ℕ) → (length xs ≡ 0 → ⊥) → (length (xs ++ more) == 0) ≡ false
some_more [] more some = absurd (some refl)
some_more (x ∷ xs) more some = grind (arith, nat_tests)

pub behind_root : (end : ℕ) (told : List Item) (s : Reading) → (length s.left ≡ 0 → ⊥) → Breaks end told (course nexts.Nothing []) s s.place
unfolding all_at above_at
behind_root end told s some more = rw (some_more s.left more some) refl

-- ---- the keys above, as a stack

course_of : (next next_now : Next) (above above_now : List Level) → next ≡ next_now → above ≡ above_now → course next above ≡ course next_now above_now
course_of next next_now above above_now e f = rw (e, f) refl

top_first : (above : List Level) (level : Level) → reverse (above ++ level ∷ []) ≡ level ∷ reverse above
top_first above level = reverse-append above (level ∷ [])

emptied : (many : ℕ) (all left : List Level) → many ≡ 0 → left ≡ take (many - 1) all → all ≡ left ++ [] → all ≡ []
emptied many all left none rest parts =
    let nothing : left ≡ [] = rw none at rest in
    rw nothing at parts

module _ (end : ℕ) (told : List Item) (s : Reading) (ahead : Course) (nothing : ahead.next ≡ nexts.Nothing) where
  pub level_goes_up : (all left : List Level) (level : Level) → ahead.above ≡ reverse all → all ≡ left ++ level ∷ []
      → Grew told told × WasRead end told ahead s told (course (nexts.Subkeys level) (reverse left)) s
  level_goes_up all left level is parts =
      let above : ahead.above ≡ level ∷ reverse left = is ∙ ap reverse parts ∙ top_first left level in
      subst (λ (before : Course). Grew told told × WasRead end told before s told (course (nexts.Subkeys level) (reverse left)) s)
      (sym (course_of ahead.next nexts.Nothing ahead.above (level ∷ reverse left) nothing above)) (goes_up end told s level (reverse left))

  module _ (many : ℕ) (all left : List Level) (is : ahead.above ≡ reverse all) (none : many ≡ 0) (rest : left ≡ take (many - 1) all) (parts : all ≡ left ++ []) where
    empty_stack : ahead ≡ course nexts.Nothing []
    empty_stack = course_of ahead.next nexts.Nothing ahead.above [] nothing (is ∙ ap reverse (emptied many all left none rest parts))

    pub stack_done : length s.left ≡ 0 → IsDone end told ahead s
    stack_done few = subst (λ (before : Course). IsDone end told before s) (sym empty_stack) (done end told s few)

    pub stack_breaks : (place : ℕ) → place ≡ s.place → (length s.left ≡ 0 → ⊥) → Breaks end told ahead s place
    stack_breaks place at some =
        subst (λ (p : ℕ). Breaks end told ahead s p) (sym at) (subst (λ (before : Course). Breaks end told before s s.place) (sym empty_stack) (behind_root end told s some))

pub same_stack : (next : Next) (all left : List Level) → all ≡ left ++ [] → course next (reverse left) ≡ course next (reverse all)
same_stack next all left parts = ap (λ (above : List Level). course next (reverse above)) (sym (parts ∙ append-nil left))

-- ---- what a turn gives

pub handed : {Y : Type 0} (view : Y → List Level → Course) (fault : ReadFault) (end : ℕ) (told : List Item) (next : Next) (above : List Level) (s t : Reading) (told_now : List Item) (before now : Course)
    → IsSomething next → before ≡ course next above → now ≡ before → Reads view (Err fault) end told next s told_now t → Steps (Err fault) end told before s told_now now t
handed view (Cut place) end told next above s t told_now before now some is same (told_same, waits) =
    (told_same, same, subst (λ (ahead : Course). IsSomething ahead.next) (sym is) some, subst (λ (ahead : Course). Waits end told ahead s place) (sym is) (waits above))
handed view (Bad place) end told next above s t told_now before now some is same (told_same, breaks) = (told_same, subst (λ (ahead : Course). Breaks end told ahead s place) (sym is) (breaks above))
handed view Memory end told next above s t told_now before now some is same told_same = told_same

module _ (before : Course) (inside_next : Next) (all : List Level) (view_is : course inside_next (reverse all) ≡ before) (level : Level) (is : inside_next ≡ nexts.Subkeys level) where
  pub at_level : before ≡ course (nexts.Subkeys level) (reverse all)
  at_level = sym view_is ∙ ap (λ (next : Next). course next (reverse all)) is

  pub leaves_here : (end : ℕ) (told : List Item) (s : Reading) → level.left ≡ 0 → Grew told told × WasRead end told before s told (course nexts.Nothing (reverse all)) s
  leaves_here end told s none =
      subst (λ (ahead : Course). Grew told told × WasRead end told ahead s told (course nexts.Nothing (reverse all)) s) (sym at_level) (leaves end told s level (reverse all) none)

  module _ (end : ℕ) (told : List Item) (s : Reading) (holds : level.left ≡ 0 → ⊥) where
    some : 0 < level.left
    some = omega (arith, holds)

    pub subkey_stops : (fault : ReadFault) (t : Reading) → FailsAt fault (subkey_at level.depth level.last level.used end s) → Steps (Err fault) end told before s told before t
    subkey_stops fault t fails =
        handed (λ (next : Next) (above : List Level). course next above) fault end told (nexts.Subkeys level) (reverse all) s t told before before tt at_level refl
        (level_fails end told level some (λ (next : Next) (above : List Level). course next above) fault s t told fails refl)

    pub subkey_read : (head : Head) (t : Reading) (told_now : List Item) (now : List Level) (after : Level) (next : Next)
        → subkey_at level.depth level.last level.used end s ≡ Ok (head, t) → told_now ≡ told ++ items.Head head ∷ [] → now ≡ all ++ after ∷ [] → after ≡ level_behind level head → next ≡ values_of level head
        → Grew told told_now × WasRead end told before s told_now (course next (reverse now)) t
    subkey_read head t told_now now after next e grown stacked after_is next_is =
        let given = level_given end told level some s head t told_now e grown in
        let above : reverse now ≡ level_behind level head ∷ reverse all = ap reverse stacked ∙ top_first all after ∙ ap (λ (l : Level). l ∷ reverse all) after_is in
        let to : course next (reverse now) ≡ course (values_of level head) (level_behind level head ∷ reverse all) = course_of next (values_of level head) (reverse now) (level_behind level head ∷ reverse all) next_is above in (
          given.0,
          subst (λ (ahead : Course). WasRead end told ahead s told_now (course next (reverse now)) t) (sym at_level)
              (subst (λ (ahead : Course). WasRead end told (course (nexts.Subkeys level) (reverse all)) s told_now ahead t) (sym to) (given.1 (reverse all))),
        )
