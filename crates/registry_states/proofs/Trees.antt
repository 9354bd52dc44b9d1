-- The items of a state tell the tree that the grammar reads.
use Rattle.std.proofs.Common.{◌≡◌, ℕ, zero, suc, ◌+◌, ◌-◌, Bool, true, false, List, [], ◌∷◌, ◌++◌, length, map, Option, Some, None, Result, Ok, Err, refl, sym, ap, ◌∙◌, append_assoc}
use Rattle.std.specs.Prelude.{length, min, leb, cond, ◌==◌, ◌&&◌}
use Rattle.std.proofs.lemmas.List.{append-nil}
use Rattle.wire_fields.specs.Reading.{Reading, number_at, times}
use Rattle.clus_names.specs.Folding.{folded}
use Rattle.clus_names.specs.Limits.{lacks_zero}
use Rattle.registry_defs.specs.Keys.{KeyData, ValueData, Values}
use Rattle.registry_defs.specs.Nodes.{Node, spread}
use Rattle.registry_defs.specs.StateFields.{Stop, Bad, ◌>>=◌, alone, data_at, field_at, units_at}
use Rattle.registry_defs.specs.StateGrammar.{birth_in, fits_birth, is_above, key_alone_at, lacks_separator, node_at, part_at, start, state_of, subkeys_at, tells_written, value_at, values_at, written_at}
use Rattle.registry_states.specs.declared.item.Head.{Head}
use Rattle.registry_states.specs.declared.item.Item.{Item}
use Rattle.registry_states.specs.declared.item.Item.TheVariants as items
use Rattle.registry_states.specs.Assembled.{node_in, nodes_in, values_in}
use Rattle.registry_states.specs.Items.{Told, behind, counted_below, followed, head_at, items_at, items_below, items_left, items_of, value_item}
use Rattle.registry_states.proofs.Steady.{field_obeys}

-- ---- what is read is above

both_true : (a b : Bool) → a && b ≡ true → (a ≡ true) × (b ≡ true)
both_true true true e = (refl, refl)
both_true true false e = absurd cc
both_true false b e = absurd cc

abbrev Obeys : {A : Type 0} → (A → Bool) → Result (A × Reading) Stop → Type 0
Obeys rule (Ok x) = rule x.0 ≡ true
Obeys rule (Err stop) = Unit {0}

obeyed : {A : Type 0} (one : Reading → Option (A × Reading)) (rule : A → Bool) (end : ℕ) (s : Reading) → Obeys rule (field_at one rule end s)
obeyed {A} one rule end s = by (field_at one rule end s) refl
  where
    by : (read : Result (A × Reading) Stop) → field_at one rule end s ≡ read → Obeys rule read
    by (Ok x) is = field_obeys one rule end s x is
    by (Err stop) is = tt

units_obey : (low high : ℕ) (rule : List ℕ → Bool) (end : ℕ) (s : Reading) → Obeys rule (units_at low high rule end s)
unfolding units_at
units_obey low high rule end s = by (field_at (number_at 2) (λ count. leb low count && leb count high) end s)
  where
    by : (read : Result (ℕ × Reading) Stop) → Obeys rule (read >>= λ count. field_at (times count.0 (number_at 2)) rule end count.1)
    by (Ok count) = obeyed (times count.0 (number_at 2)) rule end count.1
    by (Err stop) = tt

abbrev made_value : List ℕ → ℕ → List ℕ → ValueData
made_value name kind bytes = record { name = name; kind = kind; bytes = bytes }

module _ (last : Option (List ℕ)) (end : ℕ) where
  abbrev is_named_above : ValueData → Bool
  is_named_above value = is_above last value.name

  above_data : (name : List ℕ) (kind : ℕ) (read : Result (List ℕ × Reading) Stop) → is_above last name ≡ true → Obeys is_named_above (read >>= λ bytes. Ok (made_value name kind bytes.0, bytes.1))
  above_data name kind (Ok bytes) above = above
  above_data name kind (Err stop) above = tt

  above_kind : (name : List ℕ) (read : Result (ℕ × Reading) Stop) → is_above last name ≡ true → Obeys is_named_above (read >>= λ kind. data_at end kind.1 >>= λ bytes. Ok (made_value name kind.0 bytes.0, bytes.1))
  above_kind name (Ok kind) above = above_data name kind.0 (data_at end kind.1) above
  above_kind name (Err stop) above = tt

  above_name : (read : Result (List ℕ × Reading) Stop) → Obeys (λ units. lacks_zero units && is_above last units) read
      → Obeys is_named_above (read >>= λ name. field_at (number_at 4) (λ kind. true) end name.1 >>= λ kind. data_at end kind.1 >>= λ bytes. Ok (made_value name.0 kind.0 bytes.0, bytes.1))
  above_name (Ok name) obeys = above_kind name.0 (field_at (number_at 4) (λ kind. true) end name.1) (both_true (lacks_zero name.0) (is_above last name.0) obeys).1
  above_name (Err stop) obeys = tt

  value_above : (s : Reading) → Obeys is_named_above (value_at last end s)
  unfolding value_at
  value_above s = above_name (units_at 0 1023 (λ units. lacks_zero units && is_above last units) end s) (units_obey 0 1023 (λ units. lacks_zero units && is_above last units) end s)

part_rule : (last : Option (List ℕ)) (read : Result (List ℕ × Reading) Stop) → Obeys (λ units. lacks_zero units && (lacks_separator units && is_above last units)) read → Obeys (is_above last) read
part_rule last (Ok part) obeys = (both_true (lacks_separator part.0) (is_above last part.0) (both_true (lacks_zero part.0) (lacks_separator part.0 && is_above last part.0) obeys).1).1
part_rule last (Err stop) obeys = tt

part_above : (last : Option (List ℕ)) (used end : ℕ) (s : Reading) → Obeys (is_above last) (part_at last used end s)
unfolding part_at
part_above last used end s =
    let rule : List ℕ → Bool = λ units. lacks_zero units && (lacks_separator units && is_above last units) in
    part_rule last (units_at 1 (min 255 (1023 - used)) rule end s) (units_obey 1 (min 255 (1023 - used)) rule end s)

-- ---- values

abbrev items_for : Values → List Item
items_for values = map (λ entry. value_item entry.1) values

abbrev TellsValues : ℕ → Option (List ℕ) → Result (Values × Reading) Stop → Type 0
TellsValues count last (Ok x) = (rest : List Item) → values_in count last (items_for x.0 ++ rest) ≡ Some (x.0, rest)
TellsValues count last (Err stop) = Unit {0}

abbrev one_more : ValueData → Result (Values × Reading) Stop → Result (Values × Reading) Stop
one_more value others = others >>= λ others. Ok ((folded value.name, value) ∷ others.0, others.1)

value_then : (count : ℕ) (last : Option (List ℕ)) (value : ValueData) (others : Result (Values × Reading) Stop) → is_above last value.name ≡ true → TellsValues count (Some value.name) others → TellsValues (suc count) last (one_more value others)
unfolding values_in
value_then count last value (Ok others) above tells = λ rest. rw (above, tells rest) refl
value_then count last value (Err stop) above tells = tt

values_then : (count : ℕ) (last : Option (List ℕ)) (end : ℕ) (read : Result (ValueData × Reading) Stop) → Obeys (λ (value : ValueData). is_above last value.name) read
    → ((name : List ℕ) (t : Reading) → TellsValues count (Some name) (values_at count (Some name) end t))
    → TellsValues (suc count) last (read >>= λ first. one_more first.0 (values_at count (Some first.0.name) end first.1))
values_then count last end (Ok first) above tells = value_then count last first.0 (values_at count (Some first.0.name) end first.1) above (tells first.0.name first.1)
values_then count last end (Err stop) above tells = tt

values_tell : (count : ℕ) (last : Option (List ℕ)) (end : ℕ) (s : Reading) → TellsValues count last (values_at count last end s)
unfolding values_at values_in
values_tell zero last end s = λ rest. refl
values_tell (suc count) last end s = values_then count last end (value_at last end s) (value_above last end s) (λ name t. values_tell count (Some name) end t)

-- ---- subkeys

abbrev TellsNode : List ℕ → (List Item → Option (Node × List Item)) → Told → Result (Node × Reading) Stop → Type 0
TellsNode part one (Ok x) read = (node : Node) × (node.here.part ≡ part) × (read ≡ Ok (node, x.1)) × ((rest : List Item) → one (x.0 ++ rest) ≡ Some (node, rest))
TellsNode part one (Err stop) read = read ≡ Err stop

abbrev TellsNodes : (List Item → Option (List Node × List Item)) → Told → Result (List Node × Reading) Stop → Type 0
TellsNodes all (Ok x) read = (nodes : List Node) × (read ≡ Ok (nodes, x.1)) × ((rest : List Item) → all (x.0 ++ rest) ≡ Some (nodes, rest))
TellsNodes all (Err stop) read = read ≡ Err stop

module _ (one : List Item → Option (Node × List Item)) (count : ℕ) (last : Option (List ℕ)) (part : List ℕ) (above : is_above last part ≡ true) (node : Node) (named : node.here.part ≡ part) where
  node_then : (front : List Item) (others : Told) (read : Result (List Node × Reading) Stop) → ((rest : List Item) → one (front ++ rest) ≡ Some (node, rest))
      → TellsNodes (nodes_in one count (Some part)) others read → TellsNodes (nodes_in one (suc count) last) (behind front others) (read >>= λ others. Ok (node ∷ others.0, others.1))
  unfolding nodes_in
  node_then front (Ok others) read here (nodes, is, tells) =
      (node ∷ nodes, rw is refl, λ rest. rw (append_assoc front others.0 rest, here (others.0 ++ rest), named, above, tells rest) refl)
  node_then front (Err stop) read here is = rw is refl

module _ (one : List Item → Option (Node × List Item)) (told_at : List ℕ → ℕ → Reading → Told) (read_at : List ℕ → ℕ → Reading → Result (Node × Reading) Stop)
    (tells : (part : List ℕ) (used : ℕ) (s : Reading) → TellsNode part one (told_at part used s) (read_at part used s)) where
  first_then : (count : ℕ) (last : Option (List ℕ)) (used end : ℕ) (part : List ℕ) (told : Told) (read : Result (Node × Reading) Stop) → is_above last part ≡ true
      → TellsNode part one told read
      → ((t : Reading) → TellsNodes (nodes_in one count (Some part)) (items_below told_at count (Some part) used end t) (subkeys_at read_at count (Some part) used end t))
      → TellsNodes (nodes_in one (suc count) last) (followed told (items_below told_at count (Some part) used end))
      (read >>= λ first. subkeys_at read_at count (Some part) used end first.1 >>= λ others. Ok (first.0 ∷ others.0, others.1))
  first_then count last used end part (Ok x) read above (node, named, is, here) others =
      rw is (node_then one count last part above node named x.0 (items_below told_at count (Some part) used end x.1) (subkeys_at read_at count (Some part) used end x.1) here (others x.1))
  first_then count last used end part (Err stop) read above is others = rw is refl

  named_then : (count : ℕ) (last : Option (List ℕ)) (used end : ℕ) (read : Result (List ℕ × Reading) Stop) → Obeys (is_above last) read
      → ((part : List ℕ) (t : Reading) → TellsNodes (nodes_in one count (Some part)) (items_below told_at count (Some part) used end t) (subkeys_at read_at count (Some part) used end t))
      → TellsNodes (nodes_in one (suc count) last)
      (read >>= λ part. followed (told_at part.0 (used + length part.0 + 1) part.1) (items_below told_at count (Some part.0) used end))
      (read >>= λ part. read_at part.0 (used + length part.0 + 1) part.1 >>= λ first. subkeys_at read_at count (Some part.0) used end first.1 >>= λ others. Ok (first.0 ∷ others.0, others.1))
  named_then count last used end (Ok part) above others =
      let below : ℕ = used + length part.0 + 1 in
      first_then count last used end part.0 (told_at part.0 below part.1) (read_at part.0 below part.1) above (tells part.0 below part.1) (others part.0)
  named_then count last used end (Err stop) above others = refl

  subkeys_tell : (count : ℕ) (last : Option (List ℕ)) (used end : ℕ) (s : Reading) → TellsNodes (nodes_in one count last) (items_below told_at count last used end s) (subkeys_at read_at count last used end s)
  unfolding items_below subkeys_at nodes_in
  subkeys_tell zero last used end s = ([], refl, λ rest. refl)
  subkeys_tell (suc count) last used end s = named_then count last used end (part_at last used end s) (part_above last used end s) (λ part t. subkeys_tell count (Some part) used end t)

-- ---- a key with all below it

abbrev key_data_of : List ℕ → ℕ → ℕ → Values → KeyData
key_data_of part birth written values = record { part = part; birth = birth; written = written; values = values }

abbrev head_of : List ℕ → ℕ → ℕ → ℕ → Head
head_of part birth written values = record { part = part; birth = birth; written = written; values = values }

module _ (depth end : ℕ) (part : List ℕ) (used : ℕ) (below_tells : (below : List ℕ) (used : ℕ) (s : Reading) → TellsNode below (node_in depth) (items_at depth end below used s) (node_at depth end below used s)) where
  abbrev one : List Item → Option (Node × List Item)
  one = node_in (suc depth)

  -- the grammar, from the key on
  abbrev node_from : Result (KeyData × Reading) Stop → Result (Node × Reading) Stop
  node_from key =
      key >>= λ key.
      field_at (number_at 4) (λ count. true) end key.1 >>= λ count.
      subkeys_at (node_at depth end) count.0 None used end count.1 >>= λ subkeys.
      Ok (record { here = key.0; below = spread subkeys.0 }, subkeys.1)

  abbrev key_from_values : ℕ → ℕ → Result (Values × Reading) Stop → Result (KeyData × Reading) Stop
  key_from_values birth written values = values >>= λ values. Ok (key_data_of part birth written values.0, values.1)

  abbrev key_from_count : ℕ → ℕ → Result (ℕ × Reading) Stop → Result (KeyData × Reading) Stop
  key_from_count birth written count = count >>= λ count. key_from_values birth written (values_at count.0 None end count.1)

  abbrev key_from_written : ℕ → Result (ℕ × Reading) Stop → Result (KeyData × Reading) Stop
  key_from_written birth written = written >>= λ written. key_from_count birth written.0 (field_at (number_at 4) (λ count. true) end written.1)

  abbrev key_from_field : Result (ℕ × Reading) Stop → Result (KeyData × Reading) Stop
  key_from_field field = field >>= λ field. key_from_written (birth_in field.0) (written_at (tells_written field.0) end field.1)

  -- the items, from the head on
  abbrev items_from : Result (Head × Reading) Stop → Told
  items_from head = head >>= λ head. behind (items.Head head.0 ∷ []) (items_left (items_at depth end) head.0.values None used end head.1)

  abbrev head_from_count : ℕ → ℕ → Result (ℕ × Reading) Stop → Result (Head × Reading) Stop
  head_from_count birth written count = count >>= λ count. Ok (head_of part birth written count.0, count.1)

  abbrev head_from_written : ℕ → Result (ℕ × Reading) Stop → Result (Head × Reading) Stop
  head_from_written birth written = written >>= λ written. head_from_count birth written.0 (field_at (number_at 4) (λ count. true) end written.1)

  abbrev head_from_field : Result (ℕ × Reading) Stop → Result (Head × Reading) Stop
  head_from_field field = field >>= λ field. head_from_written (birth_in field.0) (written_at (tells_written field.0) end field.1)

  module _ (birth written many : ℕ) where
    abbrev front : List Item
    front = items.Head (head_of part birth written many) ∷ []

    by_subkeys : (values : Values) (count : ℕ) (told : Told) (read : Result (List Node × Reading) Stop)
        → ((rest : List Item) → values_in many None (items_for values ++ rest) ≡ Some (values, rest))
        → TellsNodes (nodes_in (node_in depth) count None) told read
        → TellsNode part one (behind front (behind (items_for values) (behind (items.Subkeys count ∷ []) told)))
        (read >>= λ subkeys. Ok (record { here = key_data_of part birth written values; below = spread subkeys.0 }, subkeys.1))
    unfolding node_in
    by_subkeys values count (Ok x) read tell (nodes, is, tells) = (
      record { here = key_data_of part birth written values; below = spread nodes },
      refl,
      rw is refl,
      λ rest. rw (append_assoc (items_for values) (items.Subkeys count ∷ x.0) rest, tell (items.Subkeys count ∷ (x.0 ++ rest)), tells rest) refl,
    )
    by_subkeys values count (Err stop) read tell is = rw is refl

    by_counted : (values : Values) (read : Result (ℕ × Reading) Stop) → ((rest : List Item) → values_in many None (items_for values ++ rest) ≡ Some (values, rest))
        → TellsNode part one (behind front (behind (items_for values) (read >>= λ count. behind (items.Subkeys count.0 ∷ []) (items_below (items_at depth end) count.0 None used end count.1))))
        (read >>= λ count. subkeys_at (node_at depth end) count.0 None used end count.1 >>= λ subkeys. Ok (record { here = key_data_of part birth written values; below = spread subkeys.0 }, subkeys.1))
    by_counted values (Ok count) tell =
        by_subkeys values count.0 (items_below (items_at depth end) count.0 None used end count.1) (subkeys_at (node_at depth end) count.0 None used end count.1) tell
        (subkeys_tell (node_in depth) (items_at depth end) (node_at depth end) below_tells count.0 None used end count.1)
    by_counted values (Err stop) tell = refl

    by_values : (read : Result (Values × Reading) Stop) → TellsValues many None read
        → TellsNode part one (behind front (followed (read >>= λ values. Ok (items_for values.0, values.1)) (counted_below (items_at depth end) used end))) (node_from (key_from_values birth written read))
    by_values (Ok values) tell = by_counted values.0 (field_at (number_at 4) (λ count. true) end values.1) tell
    by_values (Err stop) tell = refl

  by_count : (birth written : ℕ) (read : Result (ℕ × Reading) Stop) → TellsNode part one (items_from (head_from_count birth written read)) (node_from (key_from_count birth written read))
  by_count birth written (Ok count) = by_values birth written count.0 (values_at count.0 None end count.1) (values_tell count.0 None end count.1)
  by_count birth written (Err stop) = refl

  by_written : (birth : ℕ) (read : Result (ℕ × Reading) Stop) → TellsNode part one (items_from (head_from_written birth read)) (node_from (key_from_written birth read))
  by_written birth (Ok written) = by_count birth written.0 (field_at (number_at 4) (λ count. true) end written.1)
  by_written birth (Err stop) = refl

  by_field : (read : Result (ℕ × Reading) Stop) → TellsNode part one (items_from (head_from_field read)) (node_from (key_from_field read))
  by_field (Ok field) = by_written (birth_in field.0) (written_at (tells_written field.0) end field.1)
  by_field (Err stop) = refl

node_tells : (depth end : ℕ) (part : List ℕ) (used : ℕ) (s : Reading) → TellsNode part (node_in depth) (items_at depth end part used s) (node_at depth end part used s)
unfolding items_at node_at key_alone_at head_at
node_tells zero end part used s = refl
node_tells (suc depth) end part used s = by_field depth end part used (node_tells depth end) (field_at (number_at 8) (fits_birth part) end s)

-- ---- the state

-- The items tell the tree, or the state stops where they do.
abbrev pub TellsState : Result (List Item) Stop → Result Node Stop → Type 0
TellsState (Ok told) read = (root : Node) × (read ≡ Ok root) × (node_in 513 told ≡ Some (root, []))
TellsState (Err stop) read = read ≡ Err stop

alone_tells : (told : List Item) (t : Reading) (node : Node) (none : Bool) → ((rest : List Item) → node_in 513 (told ++ rest) ≡ Some (node, rest))
    → TellsState (cond {A = Result (List Item) Stop} none (Ok told) (Err (Bad t.place))) (cond {A = Result Node Stop} none (Ok node) (Err (Bad t.place)))
alone_tells told t node true tells = (node, refl, ap (λ all. node_in 513 all) (sym (append-nil told)) ∙ tells [])
alone_tells told t node false tells = refl

root_tells : (told : Told) (read : Result (Node × Reading) Stop) → TellsNode [] (node_in 513) told read → TellsState (told >>= alone) (read >>= alone)
root_tells (Ok x) read (node, named, is, tells) = rw is (alone_tells x.0 x.1 node (length x.1.left == 0) tells)
root_tells (Err stop) read is = rw is refl

pub state_tells : (cap : ℕ) (bytes : List ℕ) → TellsState (items_of cap bytes) (state_of cap bytes)
unfolding items_of state_of
state_tells cap bytes = root_tells (items_at 513 cap [] 0 (start bytes)) (node_at 513 cap [] 0 (start bytes)) (node_tells 513 cap [] 0 (start bytes))
