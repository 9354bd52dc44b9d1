-- Making the tree of the items: what was made before, and behind it what is still made.
use Rattle.std.proofs.Common.{◌≡◌, ℕ, zero, suc, ◌+◌, ◌-◌, ◌<◌, ◌≤◌, Bool, true, false, List, [], ◌∷◌, ◌++◌, Option, Some, None, refl, sym, ap, ◌∙◌, subst, append_assoc, arith}
use Rattle.std.specs.Prelude.{IsSome, option_map}
use Rattle.std.proofs.lemmas.List.{append-nil, map_push}
use Rattle.registry_defs.specs.Keys.{KeyData, Keys, Values}
use Rattle.registry_defs.specs.Nodes.{Node, spread}
use Rattle.registry_defs.specs.StateGrammar.{is_above}
use Rattle.registry_tree.specs.Values.{entries_of, value_entry}
use Rattle.registry_tree.specs.declared.value.Value.{Value}
use Rattle.registry_states.specs.declared.item.Head.{Head}
use Rattle.registry_states.specs.declared.item.Item.{Item}
use Rattle.registry_states.specs.Assembled.{◌>>=◌, count_in, head_in, node_in, nodes_in, only_if, value_in, values_in}
use Rattle.registry_states.specs.Readers.{last_name, last_part}
use Rattle.registry_states.proofs.Lasts.{last_more}

-- ---- steps that are made

some_first : {A B : Type 0} (found : Option A) (next : A → Option B) → IsSome (found >>= next) → IsSome found
some_first (Some x) next some = refl
some_first None next some = some

-- ---- values

abbrev pub values_behind : List Value → Option (Values × List Item) → Option (Values × List Item)
values_behind front found = found >>= λ others. Some (entries_of front ++ others.0, others.1)

value_regroup : (front : List Value) (value : Value) (found : Option (Values × List Item))
    → values_behind front (found >>= λ others. Some (value_entry value ∷ others.0, others.1)) ≡ values_behind (front ++ value ∷ []) found
value_regroup front value (Some others) = ap (λ (entries : Values). Some (entries, others.1)) (sym (append_assoc (entries_of front) (value_entry value ∷ []) others.0) ∙ ap (λ (es : Values). es ++ others.0) (sym (map_push value_entry front value)))
value_regroup front value None = refl

no_values_before : (found : Option (Values × List Item)) → values_behind [] found ≡ found
no_values_before (Some x) = refl
no_values_before None = refl

pub values_start : (count : ℕ) (told : List Item) → values_behind [] (values_in (count - 0) None told) ≡ values_in count None told
values_start count told =
    let k : count - 0 ≡ count = omega arith in
    rw k (no_values_before (values_in count None told))

abbrev value_step : ℕ → Option (List ℕ) → Value × List Item → Option (Values × List Item)
value_step count last value = only_if (is_above last value.0.name) (values_in count (Some value.0.name) value.1) >>= λ others. Some (value_entry value.0 ∷ others.0, others.1)

no_values_made : (total : Option (Values × List Item)) → None ≡ total → IsSome total → ⊥
no_values_made None made some = absurd cc
no_values_made (Some x) made some = absurd cc

value_by : (front : List Value) (count : ℕ) (last : Option (List ℕ)) (value : Value) (rest : List Item) (total : Option (Values × List Item)) (above : Bool)
    → is_above last value.name ≡ above
    → values_behind front (only_if above (values_in count (Some value.name) rest) >>= λ others. Some (value_entry value ∷ others.0, others.1)) ≡ total → IsSome total
    → (is_above last value.name ≡ true) × (values_behind (front ++ value ∷ []) (values_in count (Some value.name) rest) ≡ total)
value_by front count last value rest total true is made some = (is, sym (value_regroup front value (values_in count (Some value.name) rest)) ∙ made)
value_by front count last value rest total false is made some = absurd (no_values_made total made some)

module _ (front : List Value) (count i : ℕ) (told : List Item) (total : Option (Values × List Item)) (more : i < count) (some : IsSome total)
    (made : values_behind front (values_in (count - i) (last_name front) told) ≡ total) where
  one_less : count - i ≡ suc (count - (i + 1))
  one_less = omega (arith, more)

  as_step : values_behind front (value_in told >>= value_step (count - (i + 1)) (last_name front)) ≡ total
  unfolding values_in
  as_step = rw one_less at made

  pub value_there : IsSome (value_in told)
  value_there =
      let all : IsSome (values_behind front (value_in told >>= value_step (count - (i + 1)) (last_name front))) = subst (λ (o : Option (Values × List Item)). IsSome o) (sym as_step) some in
      some_first (value_in told) (value_step (count - (i + 1)) (last_name front)) (some_first (value_in told >>= value_step (count - (i + 1)) (last_name front)) (λ others. Some (entries_of front ++ others.0, others.1)) all)

  pub value_made : (value : Value) (rest : List Item) → value_in told ≡ Some (value, rest)
      → (is_above (last_name front) value.name ≡ true) × (values_behind (front ++ value ∷ []) (values_in (count - (i + 1)) (last_name (front ++ value ∷ [])) rest) ≡ total)
  value_made value rest is =
      let stepped : values_behind front (value_step (count - (i + 1)) (last_name front) (value, rest)) ≡ total = rw is at as_step in
      let named : last_name (front ++ value ∷ []) ≡ Some value.name = ap (λ (last : Option Value). option_map (λ value. value.name) last) (last_more None front value) in
      rw named (value_by front (count - (i + 1)) (last_name front) value rest total (is_above (last_name front) value.name) refl stepped some)

pub values_done : (front : List Value) (count i : ℕ) (told : List Item) (total : Option (Values × List Item)) → count ≤ i → values_behind front (values_in (count - i) (last_name front) told) ≡ total
    → total ≡ Some (entries_of front, told)
unfolding values_in
values_done front count i told total le made =
    let k : count - i ≡ 0 = omega (arith, le) in
    let step : values_behind front (values_in (count - i) (last_name front) told) ≡ Some (entries_of front, told) = rw k (ap (λ (entries : Values). Some (entries, told)) (append-nil (entries_of front))) in
    sym made ∙ step

-- ---- subkeys

abbrev pub nodes_behind : List Node → Option (List Node × List Item) → Option (List Node × List Item)
nodes_behind front found = found >>= λ others. Some (front ++ others.0, others.1)

node_regroup : (front : List Node) (node : Node) (found : Option (List Node × List Item))
    → nodes_behind front (found >>= λ others. Some (node ∷ others.0, others.1)) ≡ nodes_behind (front ++ node ∷ []) found
node_regroup front node (Some others) = ap (λ (nodes : List Node). Some (nodes, others.1)) (sym (append_assoc front (node ∷ []) others.0))
node_regroup front node None = refl

no_nodes_before : (found : Option (List Node × List Item)) → nodes_behind [] found ≡ found
no_nodes_before (Some x) = refl
no_nodes_before None = refl

module _ (one : List Item → Option (Node × List Item)) where
  pub nodes_start : (count : ℕ) (told : List Item) → nodes_behind [] (nodes_in one (count - 0) None told) ≡ nodes_in one count None told
  nodes_start count told =
      let k : count - 0 ≡ count = omega arith in
      rw k (no_nodes_before (nodes_in one count None told))

  abbrev node_step : ℕ → Option (List ℕ) → Node × List Item → Option (List Node × List Item)
  node_step count last first = only_if (is_above last first.0.here.part) (nodes_in one count (Some first.0.here.part) first.1) >>= λ others. Some (first.0 ∷ others.0, others.1)

  none_made : (total : Option (List Node × List Item)) → None ≡ total → IsSome total → ⊥
  none_made None made some = absurd cc
  none_made (Some x) made some = absurd cc

  node_by : (front : List Node) (count : ℕ) (last : Option (List ℕ)) (node : Node) (rest : List Item) (total : Option (List Node × List Item)) (above : Bool)
      → is_above last node.here.part ≡ above
      → nodes_behind front (only_if above (nodes_in one count (Some node.here.part) rest) >>= λ others. Some (node ∷ others.0, others.1)) ≡ total → IsSome total
      → (is_above last node.here.part ≡ true) × (nodes_behind (front ++ node ∷ []) (nodes_in one count (Some node.here.part) rest) ≡ total)
  node_by front count last node rest total true is made some = (is, sym (node_regroup front node (nodes_in one count (Some node.here.part) rest)) ∙ made)
  node_by front count last node rest total false is made some = absurd (none_made total made some)

  module _ (front : List Node) (count i : ℕ) (told : List Item) (total : Option (List Node × List Item)) (more : i < count) (some : IsSome total)
      (made : nodes_behind front (nodes_in one (count - i) (last_part front) told) ≡ total) where
    one_node_less : count - i ≡ suc (count - (i + 1))
    one_node_less = omega (arith, more)

    as_node_step : nodes_behind front (one told >>= node_step (count - (i + 1)) (last_part front)) ≡ total
    unfolding nodes_in
    as_node_step = rw one_node_less at made

    pub node_there : IsSome (one told)
    node_there =
        let all : IsSome (nodes_behind front (one told >>= node_step (count - (i + 1)) (last_part front))) = subst (λ (o : Option (List Node × List Item)). IsSome o) (sym as_node_step) some in
        some_first (one told) (node_step (count - (i + 1)) (last_part front)) (some_first (one told >>= node_step (count - (i + 1)) (last_part front)) (λ others. Some (front ++ others.0, others.1)) all)

    pub node_made : (node : Node) (rest : List Item) → one told ≡ Some (node, rest)
        → (is_above (last_part front) node.here.part ≡ true) × (nodes_behind (front ++ node ∷ []) (nodes_in one (count - (i + 1)) (last_part (front ++ node ∷ [])) rest) ≡ total)
    node_made node rest is =
        let stepped : nodes_behind front (node_step (count - (i + 1)) (last_part front) (node, rest)) ≡ total = rw is at as_node_step in
        let named : last_part (front ++ node ∷ []) ≡ Some node.here.part = ap (λ (last : Option Node). option_map (λ node. node.here.part) last) (last_more None front node) in
        rw named (node_by front (count - (i + 1)) (last_part front) node rest total (is_above (last_part front) node.here.part) refl stepped some)

  pub nodes_done : (front : List Node) (count i : ℕ) (told : List Item) (total : Option (List Node × List Item)) → count ≤ i → nodes_behind front (nodes_in one (count - i) (last_part front) told) ≡ total
      → total ≡ Some (front, told)
  unfolding nodes_in
  nodes_done front count i told total le made =
      let k : count - i ≡ 0 = omega (arith, le) in
      let step : nodes_behind front (nodes_in one (count - i) (last_part front) told) ≡ Some (front, told) = rw k (ap (λ (nodes : List Node). Some (nodes, told)) (append-nil front)) in
      sym made ∙ step

-- ---- a key

abbrev made_node : Head → Values → List Node → Node
made_node head values subkeys = record { here = record { part = head.part; birth = head.birth; written = head.written; values = values }; below = spread subkeys }

abbrev key_of : Head → Values → KeyData
key_of head values = record { part = head.part; birth = head.birth; written = head.written; values = values }

abbrev node_from : KeyData → Keys → Node
node_from here below = record { here = here; below = below }

abbrev found : Node → List Item → Option (Node × List Item)
found node rest = Some (node, rest)

both : (a b : KeyData) (x y : Keys) → a ≡ b → x ≡ y → node_from a x ≡ node_from b y
both a b x y e f = rw (e, f) refl

abbrev after_count : ℕ → Head → Values → ℕ × List Item → Option (Node × List Item)
after_count depth head values count = nodes_in (node_in depth) count.0 None count.1 >>= λ subkeys. Some (made_node head values subkeys.0, subkeys.1)

abbrev after_values : ℕ → Head → Values × List Item → Option (Node × List Item)
after_values depth head values = count_in values.1 >>= after_count depth head values.0

abbrev after_head : ℕ → Head × List Item → Option (Node × List Item)
after_head depth head = values_in head.0.values None head.1 >>= after_values depth head.0

pub deep_enough : (depth : ℕ) (told : List Item) → IsSome (node_in depth told) → 0 < depth
unfolding node_in
deep_enough zero told some = absurd cc
deep_enough (suc depth) told some = omega arith

module _ (depth : ℕ) (told : List Item) (some : IsSome (node_in depth told)) where
  as_head : node_in depth told ≡ (head_in told >>= after_head (depth - 1))
  unfolding node_in
  as_head =
      let k : depth ≡ suc (depth - 1) = omega (arith, deep_enough depth told some) in
      ap (λ d. node_in d told) k

  some_head : IsSome (head_in told >>= after_head (depth - 1))
  some_head = subst (λ (o : Option (Node × List Item)). IsSome o) as_head some

  pub head_there : IsSome (head_in told)
  head_there = some_first (head_in told) (after_head (depth - 1)) some_head

  module _ (head : Head) (behind : List Item) (head_is : head_in told ≡ Some (head, behind)) where
    some_values : IsSome (after_head (depth - 1) (head, behind))
    some_values = subst (λ (o : Option (Head × List Item)). IsSome (o >>= after_head (depth - 1))) head_is some_head

    pub values_there : IsSome (values_in head.values None behind)
    values_there = some_first (values_in head.values None behind) (after_values (depth - 1) head) some_values

    module _ (values : Values) (next : List Item) (values_are : values_in head.values None behind ≡ Some (values, next)) where
      some_count : IsSome (after_values (depth - 1) head (values, next))
      some_count = subst (λ (o : Option (Values × List Item)). IsSome (o >>= after_values (depth - 1) head)) values_are some_values

      pub count_there : IsSome (count_in next)
      count_there = some_first (count_in next) (after_count (depth - 1) head values) some_count

      module _ (count : ℕ) (last : List Item) (count_is : count_in next ≡ Some (count, last)) where
        some_subkeys : IsSome (after_count (depth - 1) head values (count, last))
        some_subkeys = subst (λ (o : Option (ℕ × List Item)). IsSome (o >>= after_count (depth - 1) head values)) count_is some_count

        pub subkeys_there : IsSome (nodes_in (node_in (depth - 1)) count None last)
        subkeys_there = some_first (nodes_in (node_in (depth - 1)) count None last) (λ subkeys. Some (made_node head values subkeys.0, subkeys.1)) some_subkeys

        pub node_whole : (subkeys : List Node) (rest : List Item) (node : Node) → nodes_in (node_in (depth - 1)) count None last ≡ Some (subkeys, rest)
            → node.here ≡ key_of head values → node.below ≡ spread subkeys → node_in depth told ≡ Some (node, rest)
        node_whole subkeys rest node subkeys_are here below = as_head ∙ rw (head_is, values_are, count_is, subkeys_are) (same_node here below)
          where
            same_node : node.here ≡ key_of head values → node.below ≡ spread subkeys → found (made_node head values subkeys) rest ≡ found node rest
            same_node here below = ap (λ (n : Node). found n rest) (sym (both node.here (key_of head values) node.below (spread subkeys) here below))
