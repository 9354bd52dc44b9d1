-- The entries of a table: tests that agree on its serial numbers, and what keeps these among those that were given.
use Rattle.std.proofs.Common.{◌≡◌, ℕ, ◌+◌, ◌≤◌, Bool, true, false, cond, not, List, [], ◌∷◌, ◌++◌, get_or, Option, None, Some, is_some, refl, ap, arith}
use Rattle.std.specs.Prelude.{◌==◌}
use Rattle.std.specs.BTreeMap.{insert_entry}
use Rattle.std.specs.Map.{lookup, remove_entry}
use Rattle.std.specs.Ordering.{nat_cmp}
use Rattle.std.specs.declared.cmp.Ordering.TheVariants.{Greater}
use Rattle.std.proofs.lemmas.Bool.Decides.{nat_tests}
use Rattle.std.proofs.lemmas.List.Elements.{All-append, All-cons, All-filter, All-nil, All-tail}
use Rattle.context_handles.specs.declared.held.Entry.{Entry}
use Rattle.context_handles.specs.Table.{AreGiven, held_in, of_others}

abbrev IsGiven : ℕ → ℕ × Entry → Type 0
IsGiven most entry = entry.0 ≤ most

head_given : (most : ℕ) (entry : ℕ × Entry) (entries : List (ℕ × Entry)) → AreGiven most (entry ∷ entries) → entry.0 ≤ most
head_given most entry entries given = given 0 entry (omega arith)

tail_given : (most : ℕ) (entry : ℕ × Entry) (entries : List (ℕ × Entry)) → AreGiven most (entry ∷ entries) → AreGiven most entries
tail_given most entry entries given = All-tail (IsGiven most) entry entries given

-- ---- tests that agree

pub lookup_by : (p q : ℕ → Bool) (most : ℕ) → ((k : ℕ) → k ≤ most → p k ≡ q k) → (entries : List (ℕ × Entry)) → AreGiven most entries → lookup p entries ≡ lookup q entries
lookup_by p q most same [] given = refl
lookup_by p q most same (entry ∷ entries) given =
    let here : p entry.0 ≡ q entry.0 = same entry.0 (head_given most entry entries given) in
    let behind : lookup p entries ≡ lookup q entries = lookup_by p q most same entries (tail_given most entry entries given) in
    rw (here, behind) refl

pub remove_by : (p q : ℕ → Bool) (most : ℕ) → ((k : ℕ) → k ≤ most → p k ≡ q k) → (entries : List (ℕ × Entry)) → AreGiven most entries → remove_entry p entries ≡ remove_entry q entries
remove_by p q most same [] given = refl
remove_by p q most same (entry ∷ entries) given =
    let here : p entry.0 ≡ q entry.0 = same entry.0 (head_given most entry entries given) in
    let behind : remove_entry p entries ≡ remove_entry q entries = remove_by p q most same entries (tail_given most entry entries given) in
    rw (here, behind) refl

abbrev pub nothing : Option Entry
nothing = None

pub lookup_none : (p : ℕ → Bool) (most : ℕ) → ((k : ℕ) → k ≤ most → p k ≡ false) → (entries : List (ℕ × Entry)) → AreGiven most entries → lookup p entries ≡ nothing
lookup_none p most none [] given = refl
lookup_none p most none (entry ∷ entries) given =
    rw (none entry.0 (head_given most entry entries given)) (lookup_none p most none entries (tail_given most entry entries given))

pub lookup_last : (p : ℕ → Bool) (most : ℕ) (entry : Entry) → ((k : ℕ) → k ≤ most → p k ≡ false) → p (most + 1) ≡ true → (entries : List (ℕ × Entry)) → AreGiven most entries
    → lookup p (entries ++ (most + 1, entry) ∷ []) ≡ Some entry
lookup_last p most entry none here [] given = rw here refl
lookup_last p most entry none here (first ∷ entries) given =
    rw (none first.0 (head_given most first entries given)) (lookup_last p most entry none here entries (tail_given most first entries given))

-- ---- the next serial number stands last

above : (most k : ℕ) → k ≤ most → nat_cmp (most + 1) k ≡ Greater
above most k within = grind (arith, nat_tests)

pub insert_last : (most : ℕ) (entry : Entry) (entries : List (ℕ × Entry)) → AreGiven most entries → insert_entry nat_cmp entries (most + 1) entry ≡ entries ++ (most + 1, entry) ∷ []
insert_last most entry [] given = refl
insert_last most entry (first ∷ entries) given =
    rw (above most first.0 (head_given most first entries given)) (ap (λ (others : List (ℕ × Entry)). first ∷ others) (insert_last most entry entries (tail_given most first entries given)))

pub more_given : (most : ℕ) (entry : Entry) (entries : List (ℕ × Entry)) → AreGiven most entries → AreGiven (most + 1) (entries ++ (most + 1, entry) ∷ [])
more_given most entry entries given =
    let before : AreGiven (most + 1) entries = λ k d within. (let below : (get_or entries k d).0 ≤ most = given k d within in omega arith) in
    let last : AreGiven (most + 1) ((most + 1, entry) ∷ []) = All-cons (IsGiven (most + 1)) (most + 1, entry) [] (omega arith) (All-nil (IsGiven (most + 1))) in
    All-append (IsGiven (most + 1)) entries ((most + 1, entry) ∷ []) before last

-- ---- what is taken out

either : (test : Bool) (most : ℕ) (entry : ℕ × Entry) (entries others : List (ℕ × Entry)) → AreGiven most entries → AreGiven most (entry ∷ others) → AreGiven most (cond test entries (entry ∷ others))
either true most entry entries others without with_it = without
either false most entry entries others without with_it = with_it

pub removed_given : (p : ℕ → Bool) (most : ℕ) (entries : List (ℕ × Entry)) → AreGiven most entries → AreGiven most (remove_entry p entries)
removed_given p most [] given = given
removed_given p most (entry ∷ entries) given =
    let behind : AreGiven most entries = tail_given most entry entries given in
    either (p entry.0) most entry entries (remove_entry p entries) behind (All-cons (IsGiven most) entry (remove_entry p entries) (head_given most entry entries given) (removed_given p most entries behind))

pub others_given : (group most : ℕ) (entries : List (ℕ × Entry)) → AreGiven most entries → AreGiven most (of_others group entries)
others_given group most entries given = All-filter (λ entry. not (entry.1.group == group)) (IsGiven most) entries given

-- ---- a handle that is open in the group

pub is_named : (group : ℕ) (entry : Option Entry) → is_some (held_in group entry) ≡ true → is_some entry ≡ true
is_named group None open_there = open_there
is_named group (Some entry) open_there = refl
