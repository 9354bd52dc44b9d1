-- Sections of a registry: what a key and the keys below it have of the whole list's facts.
use Rattle.std.proofs.Common.{◌≡◌, ℕ, ◌≤◌, Bool, true, false, cond, List, [], ◌∷◌, ◌++◌, length, Option, Some, None, refl, sym, ap, ◌∙◌, arith}
use Rattle.std.specs.Option.{option_and_then}
use Rattle.std.specs.List.{AllByRecursion}
use Rattle.std.specs.declared.cmp.Ordering.TheVariants.{Less}
use Rattle.std.specs.Ordering.{eq_by_cmp, is_eq}
use Rattle.clus_names.specs.Folding.{name_cmp, path_cmp}
use Rattle.registry_defs.specs.Keys.{KeyData, Keys, key_at}
use Rattle.registry_defs.specs.Sections.{path_from, at_front, section}
use Rattle.registry_defs.specs.Rising.{RisingKeys}
use Rattle.registry_defs.proofs.Orders.{same_name, same_path, name_itself, cmp_behind}

-- ---- paths

pub path_from_front : (q x : List (List ℕ)) → path_from q (q ++ x) ≡ Some x
path_from_front [] x = refl
path_from_front (p ∷ ps) x = rw (name_itself p) (path_from_front ps x)

pub path_from_is : (q a x : List (List ℕ)) → path_from q a ≡ Some x → a ≡ q ++ x
path_from_is [] a x e = cc
path_from_is (p ∷ ps) [] x e = absurd cc
path_from_is (p ∷ ps) (n ∷ ns) x e =
    elim (eq_by_cmp name_cmp p n) as (λ b. eq_by_cmp name_cmp p n ≡ b → cond b (path_from ps ns) None ≡ Some x → n ∷ ns ≡ p ∷ (ps ++ x)) [
      | true ↦ λ same found. ap (λ m. m ∷ ns) (sym (same_name p n same)) ∙ ap (λ l. p ∷ l) (path_from_is ps ns x found)
      | false ↦ λ other found. absurd cc
    ] refl e

pub path_from_append : (q r a : List (List ℕ)) → path_from (q ++ r) a ≡ option_and_then (path_from r) (path_from q a)
path_from_append [] r a = refl
path_from_append (p ∷ ps) r [] = refl
path_from_append (p ∷ ps) r (n ∷ ns) =
    elim (eq_by_cmp name_cmp p n) as (λ b. cond b (path_from (ps ++ r) ns) None ≡ option_and_then (path_from r) (cond b (path_from ps ns) None)) [
      | true ↦ path_from_append ps r ns
      | false ↦ refl
    ]

-- ---- sections

pub section_each : (P : KeyData → Type 0) (q : List (List ℕ)) (es : Keys) → AllByRecursion (λ e. P e.1) es → AllByRecursion (λ e. P e.1) (section q es)
section_each P q [] h = tt
section_each P q (e ∷ es) h =
    let rest = section_each P q es h.1 in
    elim (path_from q e.0) as (λ o. AllByRecursion (λ f. P f.1) (at_front o e.1 (section q es))) [ None ↦ rest | Some x ↦ (h.0, rest) ]

pub section_shorter : (q : List (List ℕ)) (es : Keys) → length (section q es) ≤ length es
section_shorter q [] = omega arith
section_shorter q (e ∷ es) =
    let rest = section_shorter q es in
    elim (path_from q e.0) as (λ o. length (at_front o e.1 (section q es)) ≤ length (e ∷ es)) [ None ↦ omega (arith, rest) | Some x ↦ omega (arith, rest) ]

section_after : (q a x : List (List ℕ)) (es : Keys) → a ≡ q ++ x → AllByRecursion (λ e. path_cmp a e.0 ≡ Less) es → AllByRecursion (λ e. path_cmp x e.0 ≡ Less) (section q es)
section_after q a x [] is h = tt
section_after q a x (e ∷ es) is h =
    let rest = section_after q a x es is h.1 in
    elim (path_from q e.0) as (λ o. path_from q e.0 ≡ o → AllByRecursion (λ f. path_cmp x f.0 ≡ Less) (at_front o e.1 (section q es))) [
      | None ↦ λ _. rest
      | Some y ↦ λ found. (sym (cmp_behind q x y) ∙ ap (λ l. path_cmp l (q ++ y)) (sym is) ∙ ap (path_cmp a) (sym (path_from_is q e.0 y found)) ∙ h.0, rest)
    ] refl

pub section_rising : (q : List (List ℕ)) (es : Keys) → RisingKeys es → RisingKeys (section q es)
section_rising q [] h = tt
section_rising q (e ∷ es) h =
    let rest = section_rising q es h.1 in
    elim (path_from q e.0) as (λ o. path_from q e.0 ≡ o → RisingKeys (at_front o e.1 (section q es))) [
      | None ↦ λ _. rest
      | Some x ↦ λ found. (section_after q e.0 x es (path_from_is q e.0 x found) h.0, rest)
    ] refl

abbrev given : {X : Type 0} → X → Option X
given x = Some x

abbrev or_found : Bool → KeyData → Option KeyData → Option KeyData
or_found b d o = cond b (given d) o

-- a path that doesn't begin with q isn't one below q
other_path : (q r a : List (List ℕ)) → path_from q a ≡ None → (b : Bool) → eq_by_cmp path_cmp (q ++ r) a ≡ b → b ≡ false
other_path q r a none true e = absurd (let is = sym (path_from_front q r) ∙ ap (path_from q) (same_path (q ++ r) a e) ∙ none in cc)
other_path q r a none false e = refl

pub key_in_section : (q r : List (List ℕ)) (es : Keys) → key_at r (section q es) ≡ key_at (q ++ r) es
key_in_section q r [] = refl
key_in_section q r (e ∷ es) =
    elim (path_from q e.0) as (λ o. path_from q e.0 ≡ o → key_at r (at_front o e.1 (section q es)) ≡ or_found (eq_by_cmp path_cmp (q ++ r) e.0) e.1 (key_at (q ++ r) es)) [
      | None ↦ λ none. key_in_section q r es ∙ ap (λ b. or_found b e.1 (key_at (q ++ r) es)) (sym (other_path q r e.0 none (eq_by_cmp path_cmp (q ++ r) e.0) refl))
      | Some x ↦ λ found.
          ap (λ t. or_found (is_eq t) e.1 (key_at r (section q es))) (sym (cmp_behind q r x) ∙ ap (path_cmp (q ++ r)) (sym (path_from_is q e.0 x found)))
          ∙ ap (or_found (eq_by_cmp path_cmp (q ++ r) e.0) e.1) (key_in_section q r es)
    ] refl

pub section_in_section : (q r : List (List ℕ)) (es : Keys) → section r (section q es) ≡ section (q ++ r) es
section_in_section q r [] = refl
section_in_section q r (e ∷ es) =
    by (path_from q e.0) ∙ ap (λ o. at_front o e.1 (section r (section q es))) (sym (path_from_append q r e.0)) ∙ ap (at_front (path_from (q ++ r) e.0) e.1) (section_in_section q r es)
  where
    by : (o : Option (List (List ℕ))) → section r (at_front o e.1 (section q es)) ≡ at_front (option_and_then (path_from r) o) e.1 (section r (section q es))
    by None = refl
    by (Some x) = refl
