-- Members to the line's end, one after the other.
use Rattle.std.proofs.Common.{◌≡◌, ℕ, ◌+◌, ◌<◌, ◌≤◌, List, [], ◌∷◌, ◌++◌, length, Option, Some, None, refl, sym, ap, ◌∙◌, subst, append_assoc, append-nil, arith, Vec, Global}
use Rattle.std.specs.Prelude.{Result, Ok, Err}
use Rattle.gum_messages.specs.declared.member.Member.{Member}
use Rattle.gum_messages.specs.Views.{Ascend}
use Rattle.cluster_script.specs.declared.line_fault.LineFault.{LineFault}
use Rattle.cluster_script.specs.declared.line_fault.LineFault.TheVariants.{Column, Memory}
use Rattle.cluster_script.specs.Words.{Takes, Words, read_at, word_at, ◌>>=◌}
use Rattle.cluster_script.specs.Values.{member_of}
use Rattle.cluster_script.specs.Reading.{members_at, members_in}

-- Those that were read, before those that are still read.
abbrev pub with_front : List Member → Result (List Member × Words) ℕ → Result (List Member × Words) ℕ
with_front front (Ok (ms, words)) = Ok (front ++ ms, words)
with_front front (Err column) = Err column

front_of : (front : List Member) (m : Member) (read : Result (List Member × Words) ℕ)
    → with_front front (read >>= λ ms. Ok (m ∷ ms.0, ms.1)) ≡ with_front (front ++ m ∷ []) read
front_of front m (Ok (ms, words)) = ap (λ (l : List Member). Ok (l, words)) (sym (append_assoc front (m ∷ []) ms))
front_of front m (Err column) = refl

abbrev given : Member × Words → Result (Member × Words) ℕ
given x = Ok x

value_of : (x y : Member × Words) → given x ≡ given y → x ≡ y
value_of x y e = cc

abbrev refused : ℕ → Result (Member × Words) ℕ
refused column = Err column

abbrev all_refused : ℕ → Result (List Member × Words) ℕ
all_refused column = Err column

column_of : (next column : ℕ) → refused next ≡ refused column → all_refused next ≡ all_refused column
column_of next column e = let same : next ≡ column = cc in ap all_refused same

abbrev at : ℕ → ℕ → List (List ℕ) → Words
at last next left = record { last = last; next = next; left = left }

goes_on_at : (floor last next : ℕ) (left : List (List ℕ)) (now : Words) (m : Member) (front : List Member) (total : Result (List Member × Words) ℕ)
    → read_at (member_of floor) (at last next left) ≡ Ok (m, now) → with_front front (members_at floor (at last next left)) ≡ total
    → (with_front (front ++ m ∷ []) (members_at m.node now) ≡ total) × (length now.left < length left)
unfolding members_in word_at
goes_on_at floor last next [] now m front total read so_far = absurd (cc read)
goes_on_at floor last next (word ∷ left) now m front total read so_far = by (member_of floor word) refl
  where
    by : (found : Option Member) → member_of floor word ≡ found → (with_front (front ++ m ∷ []) (members_at m.node now) ≡ total) × (length now.left < length (word ∷ left))
    by None none = absurd (cc (rw none at read))
    by (Some n) some =
        let behind : Words = record { last = next; next = next + length word + 1; left = left } in
        let is : Ok (n, behind) ≡ Ok (m, now) = rw some at read in
        let P : Member → Words → Type 0 =
        λ m now. (with_front (front ++ m ∷ []) (members_at m.node now) ≡ total) × (length now.left < length (word ∷ left)) in
        let here : P n behind = (sym (front_of front n (members_in n.node next (next + length word + 1) left)) ∙ (rw some at so_far), omega arith) in
        let same = value_of (n, behind) (m, now) is in
        let same_member : n ≡ m = ap (λ (x : Member × Words). x.0) same in
        let same_words : behind ≡ now = ap (λ (x : Member × Words). x.1) same in
        subst (λ w. P m w) same_words (subst (λ x. P x behind) same_member here)

pub goes_on : (floor : ℕ) (words now : Words) (m : Member) (front : List Member) (total : Result (List Member × Words) ℕ) → read_at (member_of floor) words ≡ Ok (m, now)
    → with_front front (members_at floor words) ≡ total → (with_front (front ++ m ∷ []) (members_at m.node now) ≡ total) × (length now.left < length words.left)
goes_on floor words now m front total read so_far = goes_on_at floor words.last words.next words.left now m front total read so_far

fails_at : (floor last next : ℕ) (left : List (List ℕ)) (column : ℕ) (front : List Member) (total : Result (List Member × Words) ℕ)
    → read_at (member_of floor) (at last next left) ≡ Err column → 0 < length left → with_front front (members_at floor (at last next left)) ≡ total → total ≡ Err column
unfolding members_in word_at
fails_at floor last next [] column front total read some so_far = absurd (omega (arith, some))
fails_at floor last next (word ∷ left) column front total read some so_far = by (member_of floor word) refl
  where
    by : (found : Option Member) → member_of floor word ≡ found → total ≡ Err column
    by None none = sym (rw none at so_far) ∙ column_of next column (rw none at read)
    by (Some n) is = absurd (cc (rw is at read))

pub fails : (floor : ℕ) (words : Words) (column : ℕ) (front : List Member) (total : Result (List Member × Words) ℕ) → read_at (member_of floor) words ≡ Err column
    → 0 < length words.left → with_front front (members_at floor words) ≡ total → total ≡ Err column
fails floor words column front total read some so_far = fails_at floor words.last words.next words.left column front total read some so_far

done_at : (floor last next : ℕ) (left : List (List ℕ)) (front : List Member) (total : Result (List Member × Words) ℕ) → left ≡ []
    → with_front front (members_at floor (at last next left)) ≡ total → total ≡ Ok (front, at last next left)
unfolding members_in
done_at floor last next [] front total none so_far = sym so_far ∙ ap (λ (l : List Member). Ok (l, at last next [])) (append-nil front)
done_at floor last next (word ∷ left) front total none so_far = absurd (cc none)

pub is_done : (floor : ℕ) (words : Words) (front : List Member) (total : Result (List Member × Words) ℕ) → words.left ≡ []
    → with_front front (members_at floor words) ≡ total → total ≡ Ok (front, words)
is_done floor words front total none so_far = done_at floor words.last words.next words.left front total none so_far

pub starts : (read : Result (List Member × Words) ℕ) → with_front [] read ≡ read
starts (Ok (ms, words)) = refl
starts (Err column) = refl

-- Members that ascend above this node ascend behind those that were read.
abbrev pub Rises : List Member → ℕ → Type 0
Rises front floor = (more : List Member) → Ascend floor more → Ascend 0 (front ++ more)

pub rises_on : (front : List Member) (floor : ℕ) (m : Member) → Rises front floor → floor < m.node → m.node ≤ 16 → 1 ≤ m.inc → Rises (front ++ m ∷ []) m.node
unfolding Ascend
rises_on front floor m rises above few some = λ more up. rw (append_assoc front (m ∷ []) more) (rises (m ∷ more) (above, few, some, up))

pub all_rise : (front : List Member) (floor : ℕ) → Rises front floor → Ascend 0 front
unfolding Ascend
all_rise front floor rises = rw (append-nil front) at (rises [] tt)

-- What a loop has read so far.
pub record HaveRead (front : List Member) (floor : ℕ) (words initial : Words) : Type 0 where
  pub read : with_front front (members_at floor words) ≡ members_at 0 initial
  pub within : floor ≤ 16
  pub rises : Rises front floor

-- A member that isn't one is the first word at fault.
pub fails_as : (fault : LineFault) (floor : ℕ) (words now : Words) (front : List Member) (total : Result (List Member × Words) ℕ)
    → Takes {X = Member} {Y = Member} (λ (m : Member). m) (Err fault) (read_at (member_of floor) words) now → 0 < length words.left → with_front front (members_at floor words) ≡ total
    → Takes {X = Vec Member Global} {Y = List Member} (λ (ms : Vec Member Global). ms.items) (Err fault) total now
fails_as (Column column) floor words now front total read some so_far = fails floor words column front total read some so_far
fails_as Memory floor words now front total read some so_far = tt

pub some_left : (left : List (List ℕ)) → ¬ (left ≡ []) → 0 < length left
some_left [] other = absurd (other refl)
some_left (word ∷ left) other = omega arith
