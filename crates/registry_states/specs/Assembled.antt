-- The tree that items tell.
use Rattle.std.specs.Prelude.{ℕ, zero, suc, List, [], ◌∷◌, Bool, Option, Some, None, if◌then◌else◌}
use Rattle.registry_defs.specs.Keys.{Values}
use Rattle.registry_defs.specs.Nodes.{Node, spread}
use Rattle.registry_defs.specs.StateGrammar.{is_above}
use Rattle.registry_tree.specs.Values.{value_entry}
use Rattle.registry_tree.specs.declared.value.Value.{Value}
use Rattle.registry_states.specs.declared.item.Head.{Head}
use Rattle.registry_states.specs.declared.item.Item.{Item}
use Rattle.registry_states.specs.declared.item.Item.TheVariants as items

infixl 10 ◌>>=◌
abbrev pub ◌>>=◌ : {A B : Type 0} → Option A → (A → Option B) → Option B
None >>= next = None
(Some x) >>= next = next x

abbrev pub only_if : {A : Type 0} → Bool → Option A → Option A
only_if holds found = if holds then found else None

-- The front of some items, if it is of this kind, and those behind it.
abbrev pub head_in : List Item → Option (Head × List Item)
head_in (items.Head head ∷ told) = Some (head, told)
head_in told = None

abbrev pub count_in : List Item → Option (ℕ × List Item)
count_in (items.Subkeys count ∷ told) = Some (count, told)
count_in told = None

abbrev pub value_in : List Item → Option (Value × List Item)
value_in (items.Value value ∷ told) = Some (value, told)
value_in told = None

-- So many values in ascending order, the first of them behind the one with the name that is given.
unfoldable pub values_in : ℕ → Option (List ℕ) → List Item → Option (Values × List Item)
values_in zero last told = Some ([], told)
values_in (suc count) last told = do
  value ← value_in told
  others ← only_if (is_above last value.0.name) (values_in count (Some value.0.name) value.1)
  Some (value_entry value.0 ∷ others.0, others.1)

-- So many subkeys in ascending order.
unfoldable pub nodes_in : (List Item → Option (Node × List Item)) → ℕ → Option (List ℕ) → List Item → Option (List Node × List Item)
nodes_in one zero last told = Some ([], told)
nodes_in one (suc count) last told = do
  first ← one told
  others ← only_if (is_above last first.0.here.part) (nodes_in one count (Some first.0.here.part) first.1)
  Some (first.0 ∷ others.0, others.1)

-- A key and what stands below it, so many levels deep at most.
unfoldable pub node_in : ℕ → List Item → Option (Node × List Item)
node_in zero told = None
node_in (suc depth) told = do
  head ← head_in told
  values ← values_in head.0.values None head.1
  count ← count_in values.1
  subkeys ← nodes_in (node_in depth) count.0 None count.1
  Some (record { here = record { part = head.0.part; birth = head.0.birth; written = head.0.written; values = values.0 }; below = spread subkeys.0 }, subkeys.1)
