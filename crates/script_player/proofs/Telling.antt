-- What is told is printed one line after the other.
use Rattle.std.proofs.Common.{◌≡◌, ℕ, ◌+◌, ◌<◌, ◌≤◌, List, [], ◌∷◌, ◌++◌, length, drop, get_or, refl, sym, ap, ◌∙◌, append_assoc}
use Rattle.std.proofs.lemmas.List.{append-nil, drop_all, drop_more}
use Rattle.cluster_worlds.specs.declared.told.Told.{Told}
use Rattle.script_text.specs.Prints.{prints}
use Rattle.script_player.specs.Playing.{text_of}

first_told : (one : Told) (others : List Told) → text_of (one ∷ others) ≡ prints one ++ text_of others
unfolding text_of
first_told one others = refl

none_told : text_of [] ≡ []
unfolding text_of
none_told = refl

pub one_printed : (i : ℕ) (told : List Told) (one : Told) (text line now all : List ℕ) → i < length told → one ≡ get_or told i one → line ≡ prints one → now ≡ text ++ line
    → text ++ text_of (drop i told) ≡ all → now ++ text_of (drop (i + 1) told) ≡ all
one_printed i told one text line now all less is line_is now_is sofar =
    let here : drop i told ≡ one ∷ drop (i + 1) told = drop_more told i one less ∙ ap (λ (x : Told). x ∷ drop (i + 1) told) (sym is) in
    let next : text_of (drop i told) ≡ prints one ++ text_of (drop (i + 1) told) = ap text_of here ∙ first_told one (drop (i + 1) told) in
    rw (now_is, line_is) (append_assoc text (prints one) (text_of (drop (i + 1) told)) ∙ (sym (ap (λ (x : List ℕ). text ++ x) next) ∙ sofar))

pub all_printed : (i : ℕ) (told : List Told) (text all : List ℕ) → length told ≤ i → text ++ text_of (drop i told) ≡ all → text ≡ all
all_printed i told text all past sofar =
    let none : text_of (drop i told) ≡ [] = ap text_of (drop_all i told past) ∙ none_told in
    sym (append-nil text) ∙ (sym (ap (λ (x : List ℕ). text ++ x) none) ∙ sofar)
