-- A handle that is opened names the last entry, and named none before.
use Rattle.std.proofs.Common.{◌≡◌, ◌≢◌, ℕ, ◌+◌, ◌≤◌, Bool, true, false, [], ◌∷◌, ◌++◌, Option, None, Some, refl, ap, arith}
use Rattle.std.specs.Prelude.{◌==◌}
use Rattle.std.specs.Map.{lookup}
use Rattle.std.proofs.lemmas.Bool.Decides.{nat_tests}
use Rattle.context_handles.specs.declared.held.Entry.{Entry}
use Rattle.context_handles.specs.declared.held.Held.{Held}
use Rattle.context_handles.specs.Encoding.{handle_of, is_handle_of}
use Rattle.context_handles.specs.Laws.{OpensOne}
use Rattle.context_handles.specs.Table.{held_in}
use Rattle.context_handles.proofs.Entries.{lookup_none, lookup_last}
use Rattle.context_handles.proofs.Serials.{made_test, other_test}

abbrev stands_for : Held → Option Held
stands_for held = Some held

abbrev nobody : Option Held
nobody = None

in_group : (group : ℕ) (held : Held) (entry : Option Entry) → entry ≡ Some (record { group = group; held = held }) → held_in group entry ≡ stands_for held
in_group group held entry is = let same : (group == group) ≡ true = grind (arith, nat_tests) in rw (is, same) refl

in_other : (group other : ℕ) (held : Held) (entry : Option Entry) → other ≢ group → entry ≡ Some (record { group = group; held = held }) → held_in other entry ≡ nobody
in_other group other held entry differs is = let apart : (group == other) ≡ false = grind (arith, nat_tests) in rw (is, apart) refl

pub opens_one : OpensOne
opens_one table group held sound =
    let handle = handle_of table.node (table.serials + 1) in
    let test : ℕ → Bool = is_handle_of table.node handle in
    let entry : Entry = record { group = group; held = held } in
    let below : (k : ℕ) → k ≤ table.serials → is_handle_of table.node handle k ≡ false =
    λ k within. other_test table.node (table.serials + 1) k (omega (arith, sound.few)) (omega (arith, sound.few)) (omega arith) in
    let last : lookup (is_handle_of table.node handle) (table.entries ++ (table.serials + 1, entry) ∷ []) ≡ Some entry =
    lookup_last (is_handle_of table.node handle) table.serials entry below (made_test table.node (table.serials + 1)) table.entries sound.given in (
      (λ g. ap (held_in g) (lookup_none (is_handle_of table.node handle) table.serials below table.entries sound.given)),
      record { here = in_group group held _ last; elsewhere = λ other differs. in_other group other held _ differs last },
    )
