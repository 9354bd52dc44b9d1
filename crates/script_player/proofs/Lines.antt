-- What each line leaves of the room for further lines.
use Rattle.std.proofs.Common.{◌≡◌, ℕ, zero, suc, ◌+◌, ◌-◌, ◌*◌, ◌^◌, ◌≤◌, ◌⊎◌, inl, inr, Bool, true, false, cond, List, [], ◌∷◌, length, Option, None, Some, refl, sym, ap, ◌∙◌, subst, arith}
use Rattle.std.specs.Global.{Vec}
use Rattle.std.specs.Prelude.{Result, Ok, Err, unwrap_or}
use Rattle.std.specs.BTreeMap.{insert_entry, is_at}
use Rattle.std.specs.Map.{lookup}
use Rattle.std.specs.Ordering.{match_ordering, nat_cmp}
use Rattle.std.specs.declared.cmp.Ordering.{Ordering}
use Rattle.std.specs.declared.cmp.Ordering.TheVariants.{Less, Equal, Greater}
use Rattle.cluster_script.specs.declared.line.Line.TheVariants.{Show}
use Rattle.cluster_worlds.specs.declared.event.Event.{Event}
use Rattle.cluster_worlds.specs.declared.event.Event.TheVariants.{Deliver}
use Rattle.script_player.specs.declared.script_fault.ScriptFault.TheVariants as faults
use Rattle.script_player.specs.declared.stop.Stop.{Stop}
use Rattle.script_player.specs.declared.stop.Stop.TheVariants.{Bad, Memory}
use Rattle.script_player.specs.Bounds.{HasLines, HasRoomFor, HasSteps, PlaysTo, ShowsTo}
use Rattle.script_player.specs.Lines.{DeliversFirst, Happens, Pumps, Rests}
use Rattle.script_player.specs.Marks.{lowest, marked_if, skipped}
use Rattle.script_player.specs.Playing.{Play, asked, requests_of}
use Rattle.script_player.specs.Yields.{Yield, shown}
use Rattle.script_player.proofs.Bounding.{length_marked}

-- ---- request lines

pub happened_requests : (event : Event) (p q : Play) (y : Yield) → Happens event p y q → q.requests ≡ p.requests
happened_requests event p q y happens = ap (λ (x : Play). x.requests) happens.1.after

pub delivered_requests : (o : Option ℕ) (p q : Play) (y : Yield) → DeliversFirst Rests o p y q → q.requests ≡ p.requests
delivered_requests None p q y rests = ap (λ (x : Play). x.requests) rests.1
delivered_requests (Some number) p q y delivers = ap (λ (x : Play). x.requests) delivers.4.1 ∙ happened_requests (Deliver number) p delivers.1 delivers.0 delivers.3

pump_requests : (count : ℕ) (o : Option ℕ) (p q : Play) (y : Yield) → ((u : Play) (z : Yield) → Pumps count u z q → q.requests ≡ u.requests) → DeliversFirst (Pumps count) o p y q → q.requests ≡ p.requests
pump_requests count None p q y others rests = ap (λ (x : Play). x.requests) rests.1
pump_requests count (Some number) p q y others delivers = others delivers.1 delivers.2 delivers.4 ∙ happened_requests (Deliver number) p delivers.1 delivers.0 delivers.3

pub pumped_requests : (count : ℕ) (p q : Play) (y : Yield) → Pumps count p y q → q.requests ≡ p.requests
unfolding Pumps
pumped_requests zero p q y rests = ap (λ (x : Play). x.requests) rests.1
pumped_requests (suc count) p q y pumps = pump_requests count (lowest p.marks) p q y (λ u z others. pumped_requests count u q z others) pumps

-- ---- room

pub lines_on : (lines : ℕ) (p q : Play) → HasLines (suc lines) p → (HasSteps (suc lines * 2 ^ 32) p → HasSteps (lines * 2 ^ 32) q) → q.requests ≡ p.requests → HasLines lines q
lines_on lines p q room steps same = record {
  steps = steps room.steps;
  requests = λ conn.
      let is : requests_of conn q ≡ requests_of conn p = ap (λ (es : List (ℕ × ℕ)). unwrap_or (lookup (is_at (nat_cmp conn)) es) 0) same in
      let few = room.requests conn in
      omega (arith, is, few);
}

-- Who asks has one request line more, and no other has.
either_one : (b : Bool) (n : ℕ) (o : Option ℕ) → (cond b (Some n) o ≡ Some n) ⊎ (cond b (Some n) o ≡ o)
either_one true n o = inl refl
either_one false n o = inr refl

in_place : (b : Bool) (n m : ℕ) (o : Option ℕ) → (cond b (Some n) o ≡ Some n) ⊎ (cond b (Some n) o ≡ cond b (Some m) o)
in_place true n m o = inl refl
in_place false n m o = inr refl

in_rest : (b : Bool) (n m : ℕ) (o found : Option ℕ) → (o ≡ Some n) ⊎ (o ≡ found) → (cond b (Some m) o ≡ Some n) ⊎ (cond b (Some m) o ≡ cond b (Some m) found)
in_rest true n m o found rest = inr refl
in_rest false n m o found rest = rest

abbrev Found : ℕ → ℕ → List (ℕ × ℕ) → List (ℕ × ℕ) → Type 0
Found q n es now = (lookup (is_at (nat_cmp q)) now ≡ Some n) ⊎ (lookup (is_at (nat_cmp q)) now ≡ lookup (is_at (nat_cmp q)) es)

found_by : (o : Ordering) (conn n q : ℕ) (e : ℕ × ℕ) (es rest : List (ℕ × ℕ)) → Found q n es rest → Found q n (e ∷ es) (match_ordering o ((conn, n) ∷ e ∷ es) ((e.0, n) ∷ es) (e ∷ rest))
found_by Less conn n q e es rest found = either_one (is_at (nat_cmp q) conn) n (lookup (is_at (nat_cmp q)) (e ∷ es))
found_by Equal conn n q e es rest found = in_place (is_at (nat_cmp q) e.0) n e.1 (lookup (is_at (nat_cmp q)) es)
found_by Greater conn n q e es rest found = in_rest (is_at (nat_cmp q) e.0) n e.1 (lookup (is_at (nat_cmp q)) rest) (lookup (is_at (nat_cmp q)) es) found

found_in : (conn n q : ℕ) (es : List (ℕ × ℕ)) → Found q n es (insert_entry nat_cmp es conn n)
found_in conn n q [] = either_one (is_at (nat_cmp q) conn) n None
found_in conn n q (e ∷ es) = found_by (nat_cmp conn e.0) conn n q e es (insert_entry nat_cmp es conn n) (found_in conn n q es)

asked_few : (o found : Option ℕ) (n most : ℕ) → (o ≡ Some n) ⊎ (o ≡ found) → n ≤ most → unwrap_or found 0 ≤ most → unwrap_or o 0 ≤ most
asked_few o found n most (inl is) less few = rw is less
asked_few o found n most (inr is) less few = rw is few

pub asked_lines : (lines conn : ℕ) (p q : Play) → HasLines (suc lines) p → (HasSteps (suc lines * 2 ^ 32) p → HasSteps (lines * 2 ^ 32) q) → q.requests ≡ (asked conn p).requests → HasLines lines q
asked_lines lines conn p q room steps same = record {
  steps = steps room.steps;
  requests = λ c.
      let is : requests_of c q ≡ requests_of c (asked conn p) = ap (λ (es : List (ℕ × ℕ)). unwrap_or (lookup (is_at (nat_cmp c)) es) 0) same in
      let here = room.requests conn in
      let there = room.requests c in
      let few = asked_few (lookup (is_at (nat_cmp c)) (asked conn p).requests) (lookup (is_at (nat_cmp c)) p.requests) (requests_of conn p + 1) (2 ^ 31 - lines) (found_in conn (requests_of conn p + 1) c p.requests) (omega (arith, here)) (omega (arith, there)) in
      omega (arith, is, few, here);
}

-- ---- skipped messages

pub length_skipped : (count : ℕ) (marks : List Bool) → length (skipped count marks) ≡ length marks
unfolding skipped
length_skipped zero marks = refl
length_skipped (suc count) marks = length_skipped count (marked_if (lowest marks) marks) ∙ length_marked (lowest marks) marks

pub skip_room : (lines count : ℕ) (p q : Play) → q ≡ record p { marks = skipped count p.marks } → HasLines (suc lines) p → HasLines lines q
skip_room lines count p q is room = subst (λ (x : Play). HasLines lines x) (sym is) (record {
  steps = record {
    marks = length_skipped count p.marks ∙ room.steps.marks;
    steps = let s = room.steps.steps in omega (arith, s);
    counts = room.steps.counts;
  };
  requests = λ conn. let few = room.requests conn in omega (arith, few);
})

-- ---- shown nodes

pub show_plays : (node : ℕ) (p : Play) (result : Result (Vec ℕ) Stop) → ShowsTo node p result → PlaysTo (Some p) (Show node) result (Some p)
show_plays node p (Ok text) shows = (shown text.items, (p, shows, refl), refl)
show_plays node p (Err (Bad (faults.Column column))) shows = absurd shows
show_plays node p (Err (Bad (faults.Event cause))) shows = inr shows
show_plays node p (Err Memory) shows = tt

-- ---- fewer lines

pub fewer_lines : (more fewer : ℕ) (stage : Option Play) → fewer ≤ more → HasRoomFor more stage → HasRoomFor fewer stage
fewer_lines more fewer None less room = omega (arith, less, room)
fewer_lines more fewer (Some p) less room = record {
  steps = record { marks = room.steps.marks; steps = let s = room.steps.steps in omega (arith, s, less); counts = room.steps.counts };
  requests = λ conn. let few = room.requests conn in omega (arith, few, less);
}
