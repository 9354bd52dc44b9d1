-- A stream has one list of items and one fault, and what was given of it comes first.
use Rattle.std.proofs.Common.{◌≡◌, ℕ, ◌+◌, List, [], ◌∷◌, ◌++◌, length, refl, sym, ap, ◌∙◌, subst, append_assoc, length-append, arith}
use Rattle.std.specs.Prelude.{Option, None}
use Rattle.std.specs.List.{concat}
use Rattle.rpc_calls.specs.declared.call.Call.{Call}
use Rattle.rpc_calls.specs.declared.intake_fault.IntakeFault.{IntakeFault}
use Rattle.rpc_calls.specs.declared.item.Item.{Item}
use Rattle.rpc_calls.specs.declared.side.Side.{Side}
use Rattle.rpc_calls.specs.Intakes.{Holds, Kept}
use Rattle.rpc_calls.specs.Streams.{Items, Runs, StopsBy, put}
use Rattle.rpc_calls.proofs.FrameRuns.{put_front}
use Rattle.rpc_calls.proofs.PartUniqueness.{no_stop, same_step, stops_agree}

-- The run from another place and call that are the same.
moved : (side : Side) (place at : ℕ) (a b left : Option Call) (frames : List (List ℕ)) (given : List Item) → at ≡ place → b ≡ a → Runs side at b frames given left → Runs side place a frames given left
moved side place at a b left frames given here same runs =
    subst (λ (n : ℕ). Runs side n a frames given left) here (subst (λ (c : Option Call). Runs side at c frames given left) same runs)

runs_agree : (side : Side) (place at bt : ℕ) (before l m : Option Call) (xs ys : List (List ℕ)) (a b : List Item) (r t : List ℕ) (x y : Option IntakeFault)
    → Runs side place before xs a l → Runs side place before ys b m → concat xs ++ r ≡ concat ys ++ t
    → at ≡ place + length (concat xs) → bt ≡ place + length (concat ys) → StopsBy side at l r x → StopsBy side bt m t y → (a ≡ b) × (x ≡ y)
unfolding Runs
runs_agree side place at bt before l m [] [] a b r t x y (a_is, l_is) (b_is, m_is) same a_at b_at x_stops y_stops =
    let here : bt ≡ at = omega arith in
    let call : m ≡ l = m_is ∙ sym l_is in
    let there = subst (λ (n : ℕ). StopsBy side n l t y) here (subst (λ (c : Option Call). StopsBy side bt c t y) call y_stops) in
    (a_is ∙ sym b_is, stops_agree side at l r x y x_stops (subst (λ (rest : List ℕ). StopsBy side at l rest y) (sym same) there))
runs_agree side place at bt before l m [] (g ∷ ys) a b r t x y (a_is, l_is) (q, n, j, more, g_is, q_stands, q_does, b_is, q_runs) same a_at b_at x_stops y_stops =
    let here : at ≡ place = omega arith in
    let stops = subst (λ (n : ℕ). StopsBy side n before r x) here (subst (λ (c : Option Call). StopsBy side at c r x) l_is x_stops) in
    absurd (no_stop side place before n g (concat ys ++ t) r q j x g_is q_stands q_does (same ∙ append_assoc g (concat ys) t) stops)
runs_agree side place at bt before l m (f ∷ xs) [] a b r t x y (p, n, i, more, f_is, p_stands, p_does, a_is, p_runs) (b_is, m_is) same a_at b_at x_stops y_stops =
    let here : bt ≡ place = omega arith in
    let stops = subst (λ (n : ℕ). StopsBy side n before t y) here (subst (λ (c : Option Call). StopsBy side bt c t y) m_is y_stops) in
    absurd (no_stop side place before n f (concat xs ++ r) t p i y f_is p_stands p_does (sym same ∙ append_assoc f (concat xs) r) stops)
runs_agree side place at bt before l m (f ∷ xs) (g ∷ ys) a b r t x y (p, n, i, more, f_is, p_stands, p_does, a_is, p_runs) (q, n', j, more', g_is, q_stands, q_does, b_is, q_runs) same a_at b_at x_stops y_stops =
    let split : f ++ (concat xs ++ r) ≡ g ++ (concat ys ++ t) = sym (append_assoc f (concat xs) r) ∙ (same ∙ append_assoc g (concat ys) t) in
    let step = same_step side place before f g (concat xs ++ r) (concat ys ++ t) p q n n' i j f_is g_is p_stands q_stands p_does q_does split in
    let long : length f ≡ length g = ap length step.0 in
    let q_moved = moved side (place + length f) (place + length g) n n' m ys more' (omega arith) (sym step.2) q_runs in
    let rest = runs_agree side (place + length f) at bt n l m xs ys more more' r t x y p_runs q_moved step.1 (omega (arith, length-append f (concat xs))) (omega (arith, length-append g (concat ys))) x_stops y_stops in
    (a_is ∙ (ap (put i) rest.0 ∙ (ap (λ (k : Option Item). put k more') step.3 ∙ sym b_is)), rest.1)

pub items_agree : (side : Side) (stream : List ℕ) (a b : List Item) (x y : Option IntakeFault) → Items side stream a x → Items side stream b y → (a ≡ b) × (x ≡ y)
items_agree side stream a b x y (xs, l, r, reads, stops) (ys, m, t, reads', stops') =
    runs_agree side 0 (length (concat xs)) (length (concat ys)) None l m xs ys a b r t x y reads.runs reads'.runs (sym reads.whole ∙ reads'.whole) (omega arith) (omega arith) stops stops'

-- More items follow what was given.
abbrev Front : List Item → List Item → Type 0
Front given all = (more : List Item) × (all ≡ given ++ more)

front_step : (i j : Option Item) (a b more all tail : List Item) → a ≡ put i more → b ≡ put j all → i ≡ j → all ≡ more ++ tail → b ≡ a ++ tail
front_step i j a b more all tail a_is b_is same rest = rw (b_is, ← same, rest, a_is) (sym (put_front i more tail))

runs_front : (side : Side) (place bt : ℕ) (before l m : Option Call) (xs ys : List (List ℕ)) (a b : List Item) (r t : List ℕ) (y : Option IntakeFault)
    → Runs side place before xs a l → Runs side place before ys b m → concat xs ++ r ≡ concat ys ++ t → bt ≡ place + length (concat ys) → StopsBy side bt m t y → Front a b
unfolding Runs
runs_front side place bt before l m [] ys a b r t y (a_is, l_is) runs same b_at stops = (b, rw a_is refl)
runs_front side place bt before l m (f ∷ xs) [] a b r t y (p, n, i, more, f_is, p_stands, p_does, a_is, p_runs) (b_is, m_is) same b_at y_stops =
    let here : bt ≡ place = omega arith in
    let stops = subst (λ (n : ℕ). StopsBy side n before t y) here (subst (λ (c : Option Call). StopsBy side bt c t y) m_is y_stops) in
    absurd (no_stop side place before n f (concat xs ++ r) t p i y f_is p_stands p_does (sym same ∙ append_assoc f (concat xs) r) stops)
runs_front side place bt before l m (f ∷ xs) (g ∷ ys) a b r t y (p, n, i, more, f_is, p_stands, p_does, a_is, p_runs) (q, n', j, more', g_is, q_stands, q_does, b_is, q_runs) same b_at y_stops =
    let split : f ++ (concat xs ++ r) ≡ g ++ (concat ys ++ t) = sym (append_assoc f (concat xs) r) ∙ (same ∙ append_assoc g (concat ys) t) in
    let step = same_step side place before f g (concat xs ++ r) (concat ys ++ t) p q n n' i j f_is g_is p_stands q_stands p_does q_does split in
    let long : length f ≡ length g = ap length step.0 in
    let q_moved = moved side (place + length f) (place + length g) n n' m ys more' (omega arith) (sym step.2) q_runs in
    let rest = runs_front side (place + length f) bt n l m xs ys more more' r t y p_runs q_moved step.1 (omega (arith, length-append g (concat ys))) y_stops in
    (rest.0, front_step i j a b more more' rest.0 a_is b_is step.3 rest.1)

pub given_front : (kept : Kept) (stream : List ℕ) (given all : List Item) (fault : Option IntakeFault) → Holds kept stream given → Items kept.side stream all fault → Front given all
given_front kept stream given all fault holds (ys, m, t, reads, stops) =
    runs_front kept.side 0 (length (concat ys)) None kept.left m holds.frames ys given all kept.rest t fault holds.reads.runs reads.runs (sym holds.reads.whole ∙ reads.whole) (omega arith) stops
