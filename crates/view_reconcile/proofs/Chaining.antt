-- A view continues a chain exactly where it has no fault.
use Rattle.std.proofs.Common.{◌≡◌, ◌≢◌, ◌⊎◌, inl, inr, ℕ, ◌+◌, ◌-◌, ◌<◌, ◌≤◌, Bool, true, false, not, ◌&&◌, ◌||◌, List, [], ◌∷◌, ◌++◌, length, Option, Some, None, slice_get, cond, find, nat_eq, nat_lt, refl, subst, sym, ◌∙◌, add-one, arith}
use Rattle.gum_messages.specs.declared.member.Member.{Member}
use Rattle.gum_messages.specs.declared.view.View.{View}
use Rattle.gum_messages.specs.Members.{inc_of}
use Rattle.gum_messages.specs.Views.{Ascend}
use Rattle.gum_messages.proofs.Placing.{at_place-above, place_new, place_old, place_push, place_some, place_within}
use Rattle.view_reconcile.specs.declared.chain_fault.ChainFault.{ChainFault}
use Rattle.view_reconcile.specs.declared.chain_fault.ChainFault.TheVariants.{NotNext, Empty}
use Rattle.view_reconcile.specs.Chains.{IsChain, fault_of, has_left, has_returned, has_stood, is_outdated, last_members, returned, view_in}
use Rattle.view_reconcile.proofs.Standing.{Found, any_index, found, none_found, none_place}

-- a view that was declared, with its number
pub record Declared (chain : List View) (number : ℕ) (v : View) : Type 0 where
  pub at : view_in chain number ≡ Some v
  pub low : 1 ≤ number
  pub high : number ≤ length chain

declared : (chain : List View) (number : ℕ) (v : View) → view_in chain number ≡ Some v → Declared chain number v
declared chain number v at = let within = place_within chain number v at in record { at = at; low = within.0; high = within.1 }

-- the last view of a chain that has one
pub record Last (chain : List View) : Type 0 where
  pub last : View
  pub at : view_in chain (length chain) ≡ Some last
  pub members : last_members chain ≡ last.members

last_of : (chain : List View) → 1 ≤ length chain → Last chain
last_of chain some =
    let it = place_some chain (length chain) some (omega arith) in
    let get : slice_get chain (length chain - 1) ≡ Some it.0 = sym (at_place-above chain (length chain) some) ∙ it.1 in
    record { last = it.0; at = it.1; members = rw (last_members, get) refl }

-- where a member's incarnation stood in the chain
stood : (chain : List View) (m : Member) → has_stood chain m ≡ true → (k : ℕ) × (v : View) × Declared chain k v × (inc_of v.members m.node ≡ m.inc)
stood chain m e =
    let some = any_index (λ v. nat_eq (inc_of v.members m.node) m.inc) chain e in
    let at : view_in chain (some.0 + 1) ≡ Some some.1 = rw add-one some.2 in
    (some.0 + 1, some.1, declared chain (some.0 + 1) some.1 at, let passes : nat_eq (inc_of some.1.members m.node) m.inc ≡ true = some.3 in grind arith)

outdated : (chain : List View) (m : Member) → is_outdated chain m ≡ true → (k : ℕ) × (v : View) × Declared chain k v × (m.inc < inc_of v.members m.node)
outdated chain m e =
    let some = any_index (λ v. nat_lt m.inc (inc_of v.members m.node)) chain e in
    let at : view_in chain (some.0 + 1) ≡ Some some.1 = rw add-one some.2 in
    (some.0 + 1, some.1, declared chain (some.0 + 1) some.1 at, let passes : nat_lt m.inc (inc_of some.1.members m.node) ≡ true = some.3 in grind arith)

-- what a member that may stay owes to each declared view
pub record Stays (chain : List View) (m : Member) : Type 0 where
  pub last : (k : ℕ) (v : View) → view_in chain k ≡ Some v → inc_of v.members m.node ≡ m.inc → inc_of (last_members chain) m.node ≡ m.inc
  pub rises : (k : ℕ) (v : View) → view_in chain k ≡ Some v → inc_of v.members m.node ≤ m.inc

or_false : (a b : Bool) → (a || b) ≡ false → (a ≡ false) × (b ≡ false)
or_false true b e = cc
or_false false b e = (refl, e)

and_not_false : (a b : Bool) → (a && not b) ≡ false → (a ≡ false) ⊎ (b ≡ true)
and_not_false true true e = inr refl
and_not_false true false e = cc
and_not_false false b e = inl refl

not_eq_false : (a b : ℕ) → nat_eq a b ≡ false → a ≢ b
not_eq_false a b e = grind arith

not_lt_false : (a b : ℕ) → nat_lt a b ≡ false → b ≤ a
not_lt_false a b e = grind arith

eq_true : (a b : ℕ) → nat_eq a b ≡ true → a ≡ b
eq_true a b e = grind arith

may_stay : (chain : List View) (m : Member) → has_returned chain m ≡ false → Stays chain m
may_stay chain m e =
    let parts = or_false (has_left chain m) (is_outdated chain m) e in
    record {
      last = λ k v at same. elim (and_not_false (has_stood chain m) (nat_eq (inc_of (last_members chain) m.node) m.inc) parts.0) [
        | inl none ↦ absurd (not_eq_false (inc_of v.members m.node) m.inc (none_place (λ (u : View). nat_eq (inc_of u.members m.node) m.inc) chain k v none at) same)
        | inr here ↦ eq_true (inc_of (last_members chain) m.node) m.inc here
      ];
      rises = λ k v at. not_lt_false m.inc (inc_of v.members m.node) (none_place (λ (u : View). nat_lt m.inc (inc_of u.members m.node)) chain k v parts.1 at);
    }

abbrev people_fault : List View → List Member → Option ChainFault
people_fault chain ms = elim ms [ [] ↦ Some Empty | m ∷ rest ↦ returned (find (has_returned chain) (m ∷ rest)) ]

returned_none : (r : Option Member) → returned r ≡ None → r ≡ None
returned_none None e = refl
returned_none (Some m) e = cc

people_none : (chain : List View) (ms : List Member) → people_fault chain ms ≡ None → (ms ≢ []) × (find (has_returned chain) ms ≡ None)
people_none chain [] e = cc
people_none chain (m ∷ ms) e = (λ h. cc, returned_none (find (has_returned chain) (m ∷ ms)) e)

-- what the absence of a fault says
pub record Continues (chain : List View) (v : View) : Type 0 where
  pub number : v.number ≡ length chain + 1
  pub peopled : v.members ≢ []
  pub stays : (node : ℕ) → 0 < inc_of v.members node → Stays chain (record { node = node; inc = inc_of v.members node })

continues : (chain : List View) (v : View) → fault_of chain v ≡ None → Continues chain v
continues chain v e =
    elim (nat_eq v.number (length chain + 1)) as (λ (b : Bool). nat_eq v.number (length chain + 1) ≡ b → (cond (not b) (Some NotNext) (people_fault chain v.members)) ≡ None → Continues chain v) [
      | true ↦ λ next h. record {
        number = eq_true v.number (length chain + 1) next;
        peopled = (people_none chain v.members h).0;
        stays = λ node some. may_stay chain (record { node = node; inc = inc_of v.members node }) (none_found (has_returned chain) v.members node (people_none chain v.members h).1 some);
      }
      | false ↦ λ next h. cc
    ] refl e

-- the view is declared last
record At_end (chain : List View) (v : View) (k : ℕ) (u : View) : Type 0 where
  place : k ≡ length chain + 1
  is : u ≡ v

placed : (chain : List View) (v : View) (k : ℕ) (u : View) → view_in (chain ++ v ∷ []) k ≡ Some u → Declared chain k u ⊎ At_end chain v k u
placed chain v k u at = elim (place_push chain v k u at) [
  | inl old ↦ inl (declared chain k u old)
  | inr new ↦ inr (record { place = new.0; is = new.1 })
]

numbered_on : (chain : List View) (v : View) → IsChain chain → Continues chain v → (a : ℕ) (u : View) → view_in (chain ++ v ∷ []) a ≡ Some u → u.number ≡ a
numbered_on chain v old more a u at = elim (placed chain v a u at) [
  | inl d ↦ old.numbered a u d.at
  | inr e ↦ subst (λ (w : View). w.number ≡ a) (sym e.is) (more.number ∙ sym e.place)
]

peopled_on : (chain : List View) (v : View) → IsChain chain → Continues chain v → (a : ℕ) (u : View) → view_in (chain ++ v ∷ []) a ≡ Some u → u.members ≢ []
peopled_on chain v old more a u at = elim (placed chain v a u at) [
  | inl d ↦ old.peopled a u d.at
  | inr e ↦ subst (λ (w : View). w.members ≢ []) (sym e.is) more.peopled
]

-- between a declared view and the new one
run_on : (chain : List View) (v : View) → IsChain chain → Continues chain v → (a b : ℕ) (u w : View) (node inc : ℕ) → Declared chain a u → Declared chain b w → a ≤ b → 0 < inc → inc_of u.members node ≡ inc → inc_of v.members node ≡ inc → inc_of w.members node ≡ inc
run_on chain v old more a b u w node inc da db ab some first last =
    let here : 0 < inc_of v.members node = subst (λ (i : ℕ). 0 < i) (sym last) some in
    let stays = more.stays node here in
    let end = last_of chain (let low = da.low in let high = da.high in omega arith) in
    let in_last : inc_of end.last.members node ≡ inc = subst (λ (ms : List Member). inc_of ms node ≡ inc) end.members (stays.last a u da.at (first ∙ sym last) ∙ last) in
    old.unbroken a b (length chain) u w end.last node inc da.at db.at end.at ab db.high some first in_last

unbroken_on : (chain : List View) (v : View) → IsChain chain → Continues chain v → (a b c : ℕ) (u w z : View) (node inc : ℕ) → view_in (chain ++ v ∷ []) a ≡ Some u → view_in (chain ++ v ∷ []) b ≡ Some w → view_in (chain ++ v ∷ []) c ≡ Some z → a ≤ b → b ≤ c → 0 < inc → inc_of u.members node ≡ inc → inc_of z.members node ≡ inc → inc_of w.members node ≡ inc
unbroken_on chain v old more a b c u w z node inc at_a at_b at_c ab bc some first last =
    elim (placed chain v c z at_c) [
      | inl dc ↦ elim (placed chain v b w at_b) [
        | inl db ↦ elim (placed chain v a u at_a) [
          | inl da ↦ old.unbroken a b c u w z node inc da.at db.at dc.at ab bc some first last
          | inr ea ↦ absurd (let high = db.high in let place = ea.place in omega arith)
        ]
        | inr eb ↦ absurd (let high = dc.high in let place = eb.place in omega arith)
      ]
      | inr ec ↦
          let new_last : inc_of v.members node ≡ inc = subst (λ (x : View). inc_of x.members node ≡ inc) ec.is last in
          elim (placed chain v b w at_b) [
            | inl db ↦ elim (placed chain v a u at_a) [
              | inl da ↦ run_on chain v old more a b u w node inc da db ab some first new_last
              | inr ea ↦ absurd (let high = db.high in let place = ea.place in omega arith)
            ]
            | inr eb ↦ subst (λ (x : View). inc_of x.members node ≡ inc) (sym eb.is) new_last
          ]
    ]

rising_on : (chain : List View) (v : View) → IsChain chain → Continues chain v → (a b : ℕ) (u w : View) (node : ℕ) → view_in (chain ++ v ∷ []) a ≡ Some u → view_in (chain ++ v ∷ []) b ≡ Some w → a ≤ b → 0 < inc_of w.members node → inc_of u.members node ≤ inc_of w.members node
rising_on chain v old more a b u w node at_a at_b ab some =
    elim (placed chain v b w at_b) [
      | inl db ↦ elim (placed chain v a u at_a) [
        | inl da ↦ old.rising a b u w node da.at db.at ab some
        | inr ea ↦ absurd (let high = db.high in let place = ea.place in omega arith)
      ]
      | inr eb ↦
          let here : 0 < inc_of v.members node = subst (λ (x : View). 0 < inc_of x.members node) eb.is some in
          subst (λ (x : View). inc_of u.members node ≤ inc_of x.members node) (sym eb.is) (elim (placed chain v a u at_a) [
            | inl da ↦ (more.stays node here).rises a u da.at
            | inr ea ↦ subst (λ (y : View). inc_of y.members node ≤ inc_of v.members node) (sym ea.is) (let same : inc_of v.members node ≤ inc_of v.members node = omega arith in same)
          ])
    ]

pub stays_chain : (chain : List View) (v : View) → IsChain chain → fault_of chain v ≡ None → IsChain (chain ++ v ∷ [])
stays_chain chain v old e =
    let more = continues chain v e in
    record {
      numbered = numbered_on chain v old more;
      peopled = peopled_on chain v old more;
      unbroken = unbroken_on chain v old more;
      rising = rising_on chain v old more;
    }

left_or : (a b c : Bool) → (a && not b || c) ≡ true → ((a ≡ true) × (b ≡ false)) ⊎ (c ≡ true)
left_or true true c e = inr e
left_or true false c e = inl (refl, refl)
left_or false b c e = inr e

left_or_old : (chain : List View) (m : Member) → has_returned chain m ≡ true → ((has_stood chain m ≡ true) × (nat_eq (inc_of (last_members chain) m.node) m.inc ≡ false)) ⊎ (is_outdated chain m ≡ true)
left_or_old chain m e = left_or (has_stood chain m) (nat_eq (inc_of (last_members chain) m.node) m.inc) (is_outdated chain m) e

-- A member that is at fault makes no chain.
no_return : (chain : List View) (v : View) (m : Member) → IsChain (chain ++ v ∷ []) → Found (has_returned chain) 0 v.members m → ⊥
no_return chain v m new f = elim (left_or_old chain m f.passes) [
  | inl left ↦
      let here = stood chain m left.0 in
      let end = last_of chain (let low = here.2.low in let high = here.2.high in omega arith) in
      let run : inc_of end.last.members m.node ≡ m.inc =
      new.unbroken here.0 (length chain) (length chain + 1) here.1 end.last v m.node m.inc (place_old chain v here.0 here.1 here.2.at) (place_old chain v (length chain) end.last end.at) (place_new chain v) here.2.high (omega arith) f.started here.3 f.stands
      in
      not_eq_false (inc_of (last_members chain) m.node) m.inc left.1 (subst (λ (ms : List Member). inc_of ms m.node ≡ m.inc) (sym end.members) run)
  | inr old ↦
      let here = outdated chain m old in
      let at_new : inc_of v.members m.node ≡ m.inc = f.stands in
      let falls : inc_of here.1.members m.node ≤ inc_of v.members m.node =
      new.rising here.0 (length chain + 1) here.1 v m.node (place_old chain v here.0 here.1 here.2.at) (place_new chain v) (let high = here.2.high in omega arith) (let some = f.started in omega arith)
      in
      let above : m.inc < inc_of here.1.members m.node = here.3 in
      omega arith
]

some_returned : (r : Option Member) (f : ChainFault) → returned r ≡ Some f → (m : Member) × (r ≡ Some m)
some_returned None f e = cc
some_returned (Some m) f e = (m, refl)

people_some : (chain : List View) (ms : List Member) (f : ChainFault) → people_fault chain ms ≡ Some f → (ms ≡ []) ⊎ ((m : Member) × (find (has_returned chain) ms ≡ Some m))
people_some chain [] f e = inl refl
people_some chain (m ∷ ms) f e = inr (some_returned (find (has_returned chain) (m ∷ ms)) f e)

people_bad : (chain : List View) (v : View) (f : ChainFault) → Ascend 0 v.members → IsChain (chain ++ v ∷ []) → people_fault chain v.members ≡ Some f → ⊥
people_bad chain v f up new e = elim (people_some chain v.members f e) [
  | inl none ↦ new.peopled (length chain + 1) v (place_new chain v) none
  | inr some ↦ no_return chain v some.0 new (found (has_returned chain) 0 v.members some.0 some.1 up)
]

pub no_chain : (chain : List View) (v : View) (f : ChainFault) → Ascend 0 v.members → fault_of chain v ≡ Some f → IsChain (chain ++ v ∷ []) → ⊥
no_chain chain v f up e new =
    elim (nat_eq v.number (length chain + 1)) as (λ (b : Bool). nat_eq v.number (length chain + 1) ≡ b → cond (not b) (Some NotNext) (people_fault chain v.members) ≡ Some f → ⊥) [
      | true ↦ λ next h. people_bad chain v f up new h
      | false ↦ λ next h. not_eq_false v.number (length chain + 1) next (new.numbered (length chain + 1) v (place_new chain v))
    ] refl e
