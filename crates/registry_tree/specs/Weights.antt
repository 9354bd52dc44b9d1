-- A key is heavier than each of its subkeys, so that going down ends.
use Rattle.std.specs.Prelude.{◌≡◌, ℕ, ◌+◌, ◌≤◌, List, [], ◌∷◌, length, refl}
use Rattle.std.proofs.Common.{arith, length-append}
use denote.Param.Weighed.{most}
use Rattle.registry_defs.specs.Keys.{Keys}
use Rattle.registry_defs.specs.Nodes.{Node, keys_of, name_of, under, spread}

abbrev pub weight : Node → ℕ
weight node = length node.below

pub length-under : (name : List ℕ) (keys : Keys) → length (under name keys) ≡ length keys
length-under name [] = refl
length-under name (entry ∷ entries) = let rest = length-under name entries in omega (arith, rest)

pub most_le-spread : (nodes : List Node) → most (λ node. weight node + 1) nodes ≤ length (spread nodes)
most_le-spread [] = omega arith
most_le-spread (node ∷ nodes) =
    omega (arith, most_le-spread nodes, length-append (under (name_of node) (keys_of node)) (spread nodes), length-under (name_of node) (keys_of node))
