-- A stream has one exchange, which ends in one way.
use Rattle.std.proofs.Common.{◌≡◌, ℕ, ◌+◌, List, [], ◌∷◌, ◌++◌, length, Option, None, Some, refl, sym, ap, ◌∙◌, subst, append_assoc, length-append, arith}
use Rattle.std.specs.List.{concat}
use Rattle.std.proofs.lemmas.List.{append_cancel_right}
use Rattle.wire_fields.specs.Numbers.{IsBytes}
use Rattle.wire_fields.proofs.NumberLaws.{IsBytes-take}
use Rattle.rpc_calls.specs.declared.call.Call.{Call}
use Rattle.rpc_calls.specs.declared.intake_fault.IntakeFault.{IntakeFault}
use Rattle.rpc_calls.specs.declared.item.Item.{Item}
use Rattle.rpc_calls.specs.declared.side.Side.{Side}
use Rattle.rpc_calls.specs.declared.side.Side.TheVariants as sides
use Rattle.rpc_calls.specs.Assembly.{no_call}
use Rattle.rpc_calls.specs.Streams.{Runs, put}
use Rattle.rpc_calls.proofs.PartUniqueness.{same_step}
use Rattle.rpc_calls.proofs.StreamItems.{items_are_there}
use Rattle.client_commands.specs.declared.command.Command.{Command}
use Rattle.rpc_client.specs.declared.ask.Ask.{Ask}
use Rattle.rpc_client.specs.Exchange.{End, Exchange, IsBad, IsEnd, StandsAt, fault, looked_at, more, most_stream, nothing}
use Rattle.rpc_client.specs.Runs.{Ending, Run, refuses, rests, waits}
use Rattle.rpc_client.proofs.MoreCommands.{awaited}

-- ---- where an item stands

put_same : (i j : Option Item) (items m n : List Item) → items ≡ put i m → items ≡ put j n → i ≡ j → n ≡ m
put_same None None items m n one two same = sym two ∙ one
put_same None (Some b) items m n one two same = absurd (cc same)
put_same (Some a) None items m n one two same = absurd (cc same)
put_same (Some a) (Some b) items m n one two same = cc (one, two)

put_behind : (i j : Option Item) (items m n : List Item) (item : Item) → items ≡ put i m → items ++ item ∷ [] ≡ put j n → i ≡ j → n ≡ m ++ item ∷ []
put_behind i j items m n item one two same = put_same i j (items ++ item ∷ []) (m ++ item ∷ []) n (ap (λ (l : List Item). l ++ item ∷ []) one ∙ front i m item) two same
  where
    front : (o : Option Item) (l : List Item) (x : Item) → put o l ++ x ∷ [] ≡ put o (l ++ x ∷ [])
    front None l x = refl
    front (Some z) l x = refl

-- What gives an item isn't what gives none.
no_item : {A : Type 0} (o : Option Item) (items m n : List Item) (item : Item) → items ≡ [] → m ≡ [] → items ++ item ∷ [] ≡ put o m → items ≡ put o n → A
no_item None items m n item none no_more one two = absurd (cc (rw (none, no_more) at one))
no_item (Some z) items m n item none no_more one two = absurd (cc (none, two))

moved : (side : Side) (place at : ℕ) (a b left : Option Call) (frames : List (List ℕ)) (given now : List Item) → at ≡ place → b ≡ a → given ≡ now → Runs side at b frames given left → Runs side place a frames now left
moved side place at a b left frames given now here same is runs =
    subst (λ (l : List Item). Runs side place a frames l left) is
    (subst (λ (n : ℕ). Runs side n a frames given left) here (subst (λ (c : Option Call). Runs side at c frames given left) same runs))

-- Behind the same items one more stands at one place.
stands_once : (side : Side) (place : ℕ) (call h k l m : Option Call) (xs ys : List (List ℕ)) (f g : List ℕ) (items : List Item) (item other : Item) (r t : List ℕ)
    → Runs side place call xs items h → Runs side place call (xs ++ f ∷ []) (items ++ item ∷ []) l
    → Runs side place call ys items k → Runs side place call (ys ++ g ∷ []) (items ++ other ∷ []) m
    → concat (xs ++ f ∷ []) ++ r ≡ concat (ys ++ g ∷ []) ++ t → length (concat xs) ≡ length (concat ys)
unfolding Runs
stands_once side place call h k l m [] [] f g items item other r t one two three four same = refl
stands_once side place call h k l m [] (y ∷ ys) f g items item other r t (none, h_is) (p, n, i, more_p, f_is, p_stands, p_does, p_gives, (p_none, p_left)) (q, n', j, more_q, y_is, q_stands, q_does, q_gives, q_runs) four same =
    let split : f ++ ([] ++ r) ≡ y ++ (concat (ys ++ g ∷ []) ++ t) = sym (append_assoc f [] r) ∙ (same ∙ append_assoc y (concat (ys ++ g ∷ [])) t) in
    let step = same_step side place call f y ([] ++ r) (concat (ys ++ g ∷ []) ++ t) p q n n' i j f_is y_is p_stands q_stands p_does q_does split in
    no_item j items more_p more_q item none p_none (p_gives ∙ ap (λ (o : Option Item). put o more_p) step.3) q_gives
stands_once side place call h k l m (x ∷ xs) [] f g items item other r t (q, n', j, more_q, x_is, q_stands, q_does, q_gives, q_runs) two (none, k_is) (p, n, i, more_p, g_is, p_stands, p_does, p_gives, (p_none, p_left)) same =
    let split : g ++ ([] ++ t) ≡ x ++ (concat (xs ++ f ∷ []) ++ r) = sym (append_assoc g [] t) ∙ (sym same ∙ append_assoc x (concat (xs ++ f ∷ [])) r) in
    let step = same_step side place call g x ([] ++ t) (concat (xs ++ f ∷ []) ++ r) p q n n' i j g_is x_is p_stands q_stands p_does q_does split in
    no_item j items more_p more_q other none p_none (p_gives ∙ ap (λ (o : Option Item). put o more_p) step.3) q_gives
stands_once side place call h k l m (x ∷ xs) (y ∷ ys) f g items item other r t
    (p1, n1, i1, more1, is1, stands1, does1, gives1, runs1) (p2, n2, i2, more2, is2, stands2, does2, gives2, runs2)
    (p3, n3, i3, more3, is3, stands3, does3, gives3, runs3) (p4, n4, i4, more4, is4, stands4, does4, gives4, runs4) same =
    let us = concat (xs ++ f ∷ []) ++ r in
    let vs = concat (ys ++ g ∷ []) ++ t in
    let split : x ++ us ≡ y ++ vs = sym (append_assoc x (concat (xs ++ f ∷ [])) r) ∙ (same ∙ append_assoc y (concat (ys ++ g ∷ [])) t) in
    let s12 = same_step side place call x x us us p1 p2 n1 n2 i1 i2 is1 is2 stands1 stands2 does1 does2 refl in
    let s13 = same_step side place call x y us vs p1 p3 n1 n3 i1 i3 is1 is3 stands1 stands3 does1 does3 split in
    let s34 = same_step side place call y y vs vs p3 p4 n3 n4 i3 i4 is3 is4 stands3 stands4 does3 does4 refl in
    let long : length x ≡ length y = ap length s13.0 in
    let at = place + length x in
    let there : place + length y ≡ at = omega (arith, long) in
    let three : more3 ≡ more1 = put_same i1 i3 items more1 more3 gives1 gives3 s13.3 in
    let rest = stands_once side at n1 h k l m xs ys f g more1 item other r t
    runs1
    (moved side at at n1 n2 l (xs ++ f ∷ []) more2 (more1 ++ item ∷ []) refl (sym s12.2) (put_behind i1 i2 items more1 more2 item gives1 gives2 s12.3) runs2)
    (moved side at (place + length y) n1 n3 k ys more3 more1 there (sym s13.2) three runs3)
    (moved side at (place + length y) n1 n4 m (ys ++ g ∷ []) more4 (more1 ++ other ∷ []) there (sym (s13.2 ∙ s34.2)) (put_behind i1 i4 items more1 more4 other gives1 gives4 (s13.3 ∙ s34.3)) runs4)
    s13.1 in
    omega (arith, long, rest, length-append x (concat xs), length-append y (concat ys))

one_place : (stream : List ℕ) (before : List Item) (item : Item) (a b : ℕ) → StandsAt stream before item a → StandsAt stream before item b → a ≡ b
one_place stream before item a b one two =
    one.place_is
    ∙ stands_once sides.Client 0 no_call one.held two.held one.left two.left one.frames two.frames one.frame two.frame before item item one.behind two.behind
    one.not_before.runs one.here.runs two.not_before.runs two.here.runs (sym one.here.whole ∙ two.here.whole)
    ∙ sym two.place_is

-- ---- how an exchange ends

one_fault : (stream : List ℕ) (items : List Item) (found : Option IntakeFault) (ending : Ending) (a b : ℕ) → IsBad stream items found ending a → IsBad stream items found ending b → a ≡ b
one_fault stream items found (refuses (item ∷ others)) a b (before, parts, stands) (front, are, is) =
    let same : front ≡ before = append_cancel_right front before (item ∷ others) (sym are ∙ parts) in
    let P : List Item → Type 0 = λ l. StandsAt (looked_at stream) l item b in
    one_place (looked_at stream) before item a b stands (subst P same is)
one_fault stream items (Some found) waits a b one two = one ∙ sym two
one_fault stream items None waits a b one two = one.1 ∙ sym two.1
one_fault stream items None rests a b one two = absurd one
one_fault stream items (Some found) rests a b one two = absurd one
one_fault stream items None (refuses []) a b one two = absurd one
one_fault stream items (Some found) (refuses []) a b one two = absurd one

no_fault : {A : Type 0} (stream : List ℕ) (items : List Item) (found : Option IntakeFault) (ending : Ending) (place : ℕ) → IsEnd more stream items found ending → IsBad stream items found ending place → A
no_fault stream items None waits place ends bad = absurd (omega (arith, ends.2, bad.0))
no_fault stream items (Some found) waits place ends bad = absurd (cc (ends.1))
no_fault stream items found rests place ends bad = absurd (cc (ends.0))
no_fault stream items found (refuses others) place ends bad = absurd (cc (ends.0))

not_both : {A : Type 0} (ending : Ending) → ending ≡ rests → ending ≡ waits → A
not_both ending one two = absurd (cc (one, two))

one_end : (stream : List ℕ) (items : List Item) (found : Option IntakeFault) (ending : Ending) (a b : End) → IsEnd a stream items found ending → IsEnd b stream items found ending → a ≡ b
one_end stream items found ending nothing nothing one two = refl
one_end stream items found ending nothing more one two = not_both ending one two.0
one_end stream items found ending nothing (fault b) one two = absurd (awaited (fault b) stream items found ending tt two one)
one_end stream items found ending more nothing one two = not_both ending two one.0
one_end stream items found ending more more one two = refl
one_end stream items found ending more (fault b) one two = no_fault stream items found ending b one two
one_end stream items found ending (fault a) nothing one two = absurd (awaited (fault a) stream items found ending tt one two)
one_end stream items found ending (fault a) more one two = no_fault stream items found ending a two one
one_end stream items found ending (fault a) (fault b) one two = ap (λ (place : ℕ). fault place) (one_fault stream items found ending a b one two)

pub one_exchange : (commands : List Command) (stream : List ℕ) (given other : List Ask) (a b : End) → IsBytes stream → Exchange commands stream given a → Exchange commands stream other b → (given ≡ other) × (a ≡ b)
one_exchange commands stream given other a b bytes one two =
    let here = items_are_there sides.Client (looked_at stream) (IsBytes-take most_stream stream bytes) in
    let first = one here.0 here.1 here.2 in
    let second = two here.0 here.1 here.2 in
    let same = sym first.run ∙ second.run in
    let P : Ending → Type 0 = λ ending. IsEnd b stream here.0 here.1 ending in
    (ap (λ (run : Run). run.0) same, one_end stream here.0 here.1 first.ending a b first.is (subst P (sym (ap (λ (run : Run). run.1) same)) second.is))
