-- The connection of a node that has no other is found, put back and taken out.
use Rattle.std.proofs.Common.{◌≡◌, ℕ, Bool, true, [], ◌∷◌, Some, cond, nat_eq, nat_lt, false, ap, arith}
use Rattle.std.specs.BTreeMap.{is_at}
use Rattle.std.specs.Ordering.{nat_cmp}
use Rattle.rpc_assoc.specs.State.{group_of}
use Rattle.registry_server.specs.Servers.{without}
use Rattle.client_connections.specs.Clients.{Client, Clients, Common, client_at, left_by, put_back}

pub at_own : (c : ℕ) → is_at (nat_cmp c) c ≡ true
at_own c =
    let l : nat_lt c c ≡ false = grind arith in
    let e : nat_eq c c ≡ true = grind arith in
    simp (l, e)

abbrev pub with_one : Common → ℕ → Client → Clients
with_one common c k = record { common = common; conns = (c, k) ∷ [] }

pub found_one : (common : Common) (c : ℕ) (k : Client) → client_at c (with_one common c k) ≡ Some k
found_one common c k = ap (λ (b : Bool). cond b (Some k) (client_at c (record { common = common; conns = [] }))) (at_own c)

pub put_one : (old common : Common) (c : ℕ) (j k : Client) → put_back c common k (with_one old c j) ≡ with_one common c k
put_one old common c j k = ap (λ (b : Bool). record { common = common; conns = cond b ((c, k) ∷ []) ((c, j) ∷ []) }) (at_own c)

pub left_one : (common : Common) (c : ℕ) (j k : Client) → left_by c k (with_one common c j) ≡ record { common = record common { table = without (group_of k.association) common.table }; conns = [] }
left_one common c j k =
    ap (λ (b : Bool). record { common = record common { table = without (group_of k.association) common.table }; conns = cond b [] ((c, j) ∷ []) }) (at_own c)
