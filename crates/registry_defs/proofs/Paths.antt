-- Paths: what stands above and below them, and how long their texts are.
use Rattle.std.proofs.Common.{◌≡◌, ℕ, suc, ◌-◌, ◌≤◌, List, [], ◌∷◌, ◌++◌, length, take, refl, sym, ap, ◌∙◌, append_assoc, length-append, arith}
use Rattle.clus_names.specs.Folding.{folded, folded_parts}
use Rattle.clus_names.specs.Parts.{separator, text_of}
use Rattle.registry_defs.specs.Keys.{below}
use Rattle.registry_defs.specs.Sections.{parent_of}
use Rattle.registry_defs.specs.Limits.{EndsIn}

pub length-folded : (name : List ℕ) → length (folded name) ≡ length name
length-folded [] = refl
length-folded (u ∷ us) = omega (arith, length-folded us)

pub folded-below : (key subkey : List (List ℕ)) → folded_parts (key ++ subkey) ≡ folded_parts key ++ folded_parts subkey
folded-below [] subkey = refl
folded-below (p ∷ ps) subkey = ap (λ l. folded p ∷ l) (folded-below ps subkey)

-- ---- parents

pub front_of : (path : List (List ℕ)) (last : List ℕ) → take (length path) (path ++ last ∷ []) ≡ path
front_of [] last = refl
front_of (p ∷ ps) last = ap (λ l. p ∷ l) (front_of ps last)

pub parent_below : (path : List (List ℕ)) (last : List ℕ) → parent_of (path ++ last ∷ []) ≡ path
parent_below path last =
    let long : length (path ++ last ∷ []) - 1 ≡ length path = omega (arith, length-append path (last ∷ [])) in
    ap (λ n. take n (path ++ last ∷ [])) long ∙ front_of path last

pub longer : (path : List (List ℕ)) (last : List ℕ) → path ++ last ∷ [] ≡ path → ⊥
longer path last e = omega (arith, length-append path (last ∷ []), ap (λ l. length l) e)

-- a path that isn't the root's is its parent's and one part
pub record HasParent (path : List (List ℕ)) : Type 0 where
  pub last : List ℕ
  pub is : path ≡ parent_of path ++ last ∷ []

pub has_parent : (first : List ℕ) (others : List (List ℕ)) → HasParent (first ∷ others)
has_parent first [] = record { last = first; is = refl }
has_parent first (next ∷ others) =
    let rest = has_parent next others in
    let one : length (first ∷ next ∷ others) - 1 ≡ suc (length (next ∷ others) - 1) = omega arith in
    record { last = rest.last; is = ap (λ l. first ∷ l) rest.is ∙ ap (λ n. take n (first ∷ next ∷ others) ++ rest.last ∷ []) (sym one) }

pub ends_in : (path : List (List ℕ)) (part : List ℕ) → EndsIn part (below path part)
ends_in [] part = refl
ends_in (p ∷ []) part = refl
ends_in (p ∷ q ∷ ps) part = ends_in (q ∷ ps) part

-- ---- texts

pub text_folded : (parts : List (List ℕ)) → length (text_of (folded_parts parts)) ≡ length (text_of parts)
text_folded [] = refl
text_folded (p ∷ []) = length-folded p
text_folded (p ∷ q ∷ ps) =
    let rest = text_folded (q ∷ ps) in
    omega (arith, rest, length-folded p, length-append (folded p) (separator ∷ text_of (folded_parts (q ∷ ps))), length-append p (separator ∷ text_of (q ∷ ps)))

pub front_shorter : (front back : List (List ℕ)) → length (text_of front) ≤ length (text_of (front ++ back))
front_shorter [] back = omega arith
front_shorter (p ∷ []) [] = omega arith
front_shorter (p ∷ []) (b ∷ bs) = omega (arith, length-append p (separator ∷ text_of (b ∷ bs)))
front_shorter (p ∷ q ∷ ps) back =
    let rest = front_shorter (q ∷ ps) back in
    omega (arith, rest, length-append p (separator ∷ text_of (q ∷ ps)), length-append p (separator ∷ text_of ((q ∷ ps) ++ back)))

pub below-parts : (path : List (List ℕ)) (part : List ℕ) (parts : List (List ℕ)) → below path part ++ folded_parts parts ≡ path ++ folded_parts (part ∷ parts)
below-parts path part parts = append_assoc path (folded part ∷ []) (folded_parts parts)

-- of a path that is short enough each front is
pub short_below : (path : List (List ℕ)) (part : List ℕ) (parts : List (List ℕ)) → length (text_of (path ++ folded_parts (part ∷ parts))) ≤ 1023 → length (text_of (below path part)) ≤ 1023
short_below path part parts short =
    omega (arith, short, front_shorter (below path part) (folded_parts parts), ap (λ l. length (text_of l)) (below-parts path part parts))
