-- Items are taken in turn, the next behind those that were.
use Rattle.std.proofs.Common.{◌≡◌, ℕ, true, not, List, [], ◌∷◌, ◌++◌, refl, sym, ap, ◌∙◌, subst, append_assoc}
use Rattle.std.proofs.lemmas.List.{append-nil}
use Rattle.rpc_calls.specs.declared.item.Item.{Item}
use Rattle.rpc_calls.specs.Intakes.{Holds, Kept}
use Rattle.client_connections.specs.declared.took.Ending.{Ending}
use Rattle.client_connections.specs.Clients.{may_take}
use Rattle.client_connections.specs.Courses.{Ended, WentOn}
use Rattle.client_connections.specs.Taking.{Course, MayAll, Serving, Takes, is_rest, takes_all, takes_one}

-- The items so far.
pub record Carries (v : Serving) (c : ℕ) (before after : Kept) (p q : Course) : Type 0 where
  pub items : List Item
  pub may : MayAll v c p items
  pub course : q ≡ takes_all v c p items
  pub side : after.side ≡ before.side
  pub holds : (stream : List ℕ) (given : List Item) → Holds before stream given → Holds after stream (given ++ items)

same_stream : (kept : Kept) (stream : List ℕ) (given : List Item) → Holds kept stream given → Holds kept stream (given ++ [])
same_stream kept stream given holds = subst (λ (all : List Item). Holds kept stream all) (sym (append-nil given)) holds

pub begins : (v : Serving) (c : ℕ) (kept : Kept) (p : Course) → Carries v c kept kept p p
unfolding MayAll
begins v c kept p = record { items = []; may = tt; course = refl; side = refl; holds = same_stream kept }

takes_more : (v : Serving) (c : ℕ) (p : Course) (items : List Item) (item : Item) → takes_all v c p (items ++ item ∷ []) ≡ takes_one v c (takes_all v c p items) item
takes_more v c p [] item = refl
takes_more v c p (i ∷ items) item = takes_more v c (takes_one v c p i) items item

may_more : (v : Serving) (c : ℕ) (p : Course) (items : List Item) (item : Item) → MayAll v c p items → may_take c (takes_all v c p items).common ≡ true → MayAll v c p (items ++ item ∷ [])
unfolding MayAll
may_more v c p [] item all may = (may, tt)
may_more v c p (i ∷ items) item (first, all) may = (first, may_more v c (takes_one v c p i) items item all may)

pub carries_on : (v : Serving) (c : ℕ) (before kept after : Kept) (p q r : Course) → Carries v c before kept p q → WentOn v c kept after q r → Carries v c before after p r
carries_on v c before kept after p q r so_far went =
    let more = went.item in
    let may : may_take c (takes_all v c p so_far.items).common ≡ true = subst (λ (course : Course). may_take c course.common ≡ true) so_far.course went.may in
    record {
      items = so_far.items ++ more ∷ [];
      may = may_more v c p so_far.items more so_far.may may;
      course = went.course ∙ ap (λ (course : Course). takes_one v c course more) so_far.course ∙ sym (takes_more v c p so_far.items more);
      side = went.side ∙ so_far.side;
      holds = λ stream given holds. subst (λ (all : List Item). Holds after stream all) (append_assoc given so_far.items (more ∷ [])) (went.holds stream (given ++ so_far.items) (so_far.holds stream given holds));
    }

pub ends : (v : Serving) (c : ℕ) (before kept after : Kept) (p q r : Course) (ending : Ending) → Carries v c before kept p q → Ended c kept after q r ending → Takes v c before after p r ending
ends v c before kept after p q r ending so_far ended = record {
  items = so_far.items;
  may = so_far.may;
  course = ended.course ∙ so_far.course;
  side = ended.side ∙ so_far.side;
  rests = subst (λ (course : Course). may_take c course.common ≡ not (is_rest ending)) (sym ended.course) ended.rests;
  stands = λ stream given holds. ended.stands stream (given ++ so_far.items) (so_far.holds stream given holds);
}
