-- What each update makes of a registry within its cap is one.
use Rattle.std.proofs.Common.{◌≡◌, ℕ, ◌+◌, ◌<◌, ◌^◌, true, false, cond, List, [], ◌∷◌, ◌++◌, length, Option, Some, None, refl, sym, ap, ◌∙◌, All, arith}
use Rattle.std.specs.Prelude.{IsSome, is_some, is_none, option_map, nat_lt, ◌==◌}
use Rattle.std.proofs.lemmas.Bool.{ltb-false}
use Rattle.std.proofs.lemmas.List.Elements.{All-head, All-tail}
use Rattle.clus_names.specs.Folding.{folded_parts}
use Rattle.update_records.specs.declared.change.Change.{Change}
use Rattle.update_records.specs.declared.change.Change.TheVariants as change
use Rattle.update_records.specs.declared.update.Update.{Update}
use Rattle.update_records.specs.declared.update.Update.TheVariants.{Create, SetValue, DeleteValue, DeleteKey, Batch}
use Rattle.update_records.specs.Limits.{IsKey, IsChange, IsUpdate}
use Rattle.registry_defs.specs.Applying.{Applied, answered, refused, done, is_born, if_born, if_fits, has_value, create_found, create_applied, set_value_applied, delete_value_applied, delete_key_applied, change_applied, birth_or, resolved, refused_at, changes_applied, update_applied}
use Rattle.registry_defs.specs.Changes.{at_key, with_value, without_value, created, key_deleted}
use Rattle.registry_defs.specs.Keys.{KeyData, Keys, key_at}
use Rattle.registry_defs.specs.Limits.{IsRegistry}
use Rattle.registry_defs.specs.Sections.{has_subkeys, parent_of}
use Rattle.registry_defs.specs.Sizes.{size}
use Rattle.registry_defs.proofs.Fields.{birth_fits}
use Rattle.registry_defs.proofs.Keeping.{IsStamp, tree_of, key_limits, registry_set, registry_unset}
use Rattle.registry_defs.proofs.Steps.{is_below, unset_smaller, create_registry, delete_registry, delete_sum, delete_smaller}
use Rattle.registry_defs.proofs.Trees.{the_found}
use Rattle.registry_machine.specs.Laws.{IsWithin}

-- ---- the checks

pub kept_if_born : (cap birth : ℕ) (o : Option KeyData) (es : Keys) (a : Applied) → IsWithin cap es → (is_born birth o ≡ true → IsWithin cap a.keys) → IsWithin cap (if_born birth o es a).keys
kept_if_born cap birth o es a is then =
    elim (is_born birth o) as (λ b. is_born birth o ≡ b → IsWithin cap (cond b a (refused 1018 es)).keys) [
      | true ↦ λ born. then born
      | false ↦ λ _. is
    ] refl

kept_if_fits : (cap : ℕ) (es : Keys) (a : Applied) → IsWithin cap es → IsRegistry a.keys → IsWithin cap (if_fits cap es a).keys
kept_if_fits cap es a is registry =
    elim (nat_lt cap (size a.keys)) as (λ b. nat_lt cap (size a.keys) ≡ b → IsWithin cap (cond b (refused 112 es) a).keys) [
      | true ↦ λ _. is
      | false ↦ λ within. record { limits = registry; fits = ltb-false _ _ within }
    ] refl

there_if_born : (birth : ℕ) (o : Option KeyData) → is_born birth o ≡ true → IsSome o
there_if_born birth None born = absurd cc
there_if_born birth (Some d) born = refl

there_if_valued : (name : List ℕ) (o : Option KeyData) → has_value name o ≡ true → IsSome o
there_if_valued name None valued = absurd cc
there_if_valued name (Some d) valued = refl

-- ---- the kinds of change

module _ (cap place stamp : ℕ) (fits : IsStamp place stamp) (es : Keys) (is : IsWithin cap es) where
  create_kept : (key subkey : List (List ℕ)) (birth : ℕ) → IsChange (change.Create key birth subkey) → IsSome (key_at (folded_parts key) es) → IsWithin cap (create_applied cap place stamp key subkey es).keys
  create_kept key subkey birth valid there =
      elim (key_at (folded_parts (key ++ subkey)) es) as (λ o. IsWithin cap (create_found cap place stamp key subkey o es).keys) [
        | None ↦ kept_if_fits cap es (answered 0 1 place (created place stamp (folded_parts key) subkey es)) is (create_registry place stamp key subkey es is.limits there fits valid.valid valid.fields.1.parts)
        | Some target ↦ is
      ]

  set_kept : (key : List (List ℕ)) (birth : ℕ) (name : List ℕ) (kind : ℕ) (bytes : List ℕ) → IsChange (change.SetValue key birth name kind bytes) → IsWithin cap (set_value_applied cap stamp key name kind bytes es).keys
  set_kept key birth name kind bytes valid =
      kept_if_fits cap es (done (at_key (with_value name kind bytes stamp) (folded_parts key) es)) is
      (registry_set name kind bytes stamp (folded_parts key) es valid.fields.1 (record { kind_fits = valid.fields.2; short = valid.valid; are_bytes = valid.fields.3 }) fits.small is.limits)

  unset_kept : (key : List (List ℕ)) (name : List ℕ) → IsWithin cap (delete_value_applied stamp key name es).keys
  unset_kept key name =
      elim (has_value name (key_at (folded_parts key) es)) as (λ b. has_value name (key_at (folded_parts key) es) ≡ b → IsWithin cap (cond b (done (at_key (without_value name stamp) (folded_parts key) es)) (refused 2 es)).keys) [
        | true ↦ λ some.
            let found = the_found (key_at (folded_parts key) es) (there_if_valued name (key_at (folded_parts key) es) some) in
            let within = is.fits in
            record {
              limits = registry_unset name stamp (folded_parts key) es fits.small is.limits;
              fits = omega (arith, within, unset_smaller name stamp (folded_parts key) es found.key is.limits found.is (sym (ap (has_value name) found.is) ∙ some));
            }
        | false ↦ λ _. is
      ] refl

  deleted_kept : (key subkey : List (List ℕ)) → 0 < length subkey → IsWithin cap (delete_key_applied stamp (folded_parts (key ++ subkey)) es).keys
  deleted_kept key subkey some =
      by (key_at path es) refl
    where
      path : List (List ℕ)
      path = folded_parts (key ++ subkey)

      goes : (d : KeyData) → key_at path es ≡ Some d → has_subkeys path es ≡ false → IsWithin cap (key_deleted stamp path es)
      goes d found none =
          let below = is_below key subkey some in
          let above = the_found (key_at (parent_of path) es) ((tree_of es is.limits).closed path (ap is_some found)) in
          let sum = delete_sum stamp above.key.written path [] d es below is.limits found (ap (option_map (λ (k : KeyData). k.written)) above.is) in
          let within = is.fits in
          record {
            limits = delete_registry stamp path d es below is.limits fits.small found none;
            fits = omega (arith, within, delete_smaller stamp above.key.written path [] d es sum);
          }

      by : (o : Option KeyData) → key_at path es ≡ o → IsWithin cap (cond (is_none o) (refused 2 es) (cond (has_subkeys path es) (refused 1020 es) (done (key_deleted stamp path es)))).keys
      by None none = is
      by (Some d) found =
          elim (has_subkeys path es) as (λ b. has_subkeys path es ≡ b → IsWithin cap (cond b (refused 1020 es) (done (key_deleted stamp path es))).keys) [
            | true ↦ λ _. is
            | false ↦ λ none. goes d found none
          ] refl

  pub change_keeps : (c : Change) → IsChange c → IsWithin cap (change_applied cap place stamp c es).keys
  change_keeps (change.Create key birth subkey) valid =
      kept_if_born cap birth (key_at (folded_parts key) es) es (create_applied cap place stamp key subkey es) is (λ born. create_kept key subkey birth valid (there_if_born birth (key_at (folded_parts key) es) born))
  change_keeps (change.SetValue key birth name kind bytes) valid =
      kept_if_born cap birth (key_at (folded_parts key) es) es (set_value_applied cap stamp key name kind bytes es) is (λ born. set_kept key birth name kind bytes valid)
  change_keeps (change.DeleteValue key birth name) valid =
      kept_if_born cap birth (key_at (folded_parts key) es) es (delete_value_applied stamp key name es) is (λ born. unset_kept key name)
  change_keeps (change.DeleteKey key birth subkey) valid =
      kept_if_born cap birth (key_at (folded_parts key) es) es (delete_key_applied stamp (folded_parts (key ++ subkey)) es) is (λ born. deleted_kept key subkey valid.valid.1)

-- ---- batches

resolved_birth : (key : List (List ℕ)) (birth : ℕ) (es : Keys) → IsRegistry es → IsKey key birth → IsKey key (birth_or birth (key_at (folded_parts key) es))
resolved_birth key birth es registry is = record { path = is.path; in_range = small (key_at (folded_parts key) es) refl }
  where
    small : (o : Option KeyData) → key_at (folded_parts key) es ≡ o → birth_or birth o < 2 ^ 64
    small None none = is.in_range
    small (Some d) found =
        let below : d.birth < 2 ^ 63 = birth_fits (folded_parts key) d (key_limits (folded_parts key) d es registry found).named in
        elim (birth == 0) as (λ b. cond b d.birth birth < 2 ^ 64) [ true ↦ omega (arith, below) | false ↦ is.in_range ]

pub resolved_is : (c : Change) (es : Keys) → IsRegistry es → IsChange c → IsChange (resolved c es)
resolved_is (change.Create key birth subkey) es registry is = record { fields = (resolved_birth key birth es registry is.fields.0, is.fields.1); valid = is.valid }
resolved_is (change.SetValue key birth name kind bytes) es registry is = record { fields = (resolved_birth key birth es registry is.fields.0, is.fields.1, is.fields.2, is.fields.3); valid = is.valid }
resolved_is (change.DeleteValue key birth name) es registry is = record { fields = (resolved_birth key birth es registry is.fields.0, is.fields.1); valid = is.valid }
resolved_is (change.DeleteKey key birth subkey) es registry is = record { fields = (resolved_birth key birth es registry is.fields.0, is.fields.1); valid = is.valid }

pub changes_keep : (cap place stamp : ℕ) (before : Keys) (index : ℕ) (cs : List Change) (es : Keys) → IsStamp place stamp → IsWithin cap before → All IsChange cs → IsWithin cap es → IsWithin cap (changes_applied cap place stamp before index cs es).keys
unfolding changes_applied
changes_keep cap place stamp before index [] es fits was all is = is
changes_keep cap place stamp before index (c ∷ cs) es fits was all is =
    let made = change_applied cap place stamp (resolved c es) es in
    let kept = change_keeps cap place stamp fits es is (resolved c es) (resolved_is c es is.limits (All-head IsChange c cs all)) in
    elim (made.outcome.status == 0) as (λ b. IsWithin cap (cond b (changes_applied cap place stamp before (index + 1) cs made.keys) (refused_at index made.outcome.status before)).keys) [
      | true ↦ changes_keep cap place stamp before (index + 1) cs made.keys fits was (All-tail IsChange c cs all) kept
      | false ↦ was
    ]

pub update_keeps : (cap place stamp : ℕ) (update : Update) (es : Keys) → IsStamp place stamp → IsUpdate update → IsWithin cap es → IsWithin cap (update_applied cap place stamp update es).keys
update_keeps cap place stamp (Create key birth subkey) es fits valid is = change_keeps cap place stamp fits es is (change.Create key birth subkey) valid
update_keeps cap place stamp (SetValue key birth name kind bytes) es fits valid is = change_keeps cap place stamp fits es is (change.SetValue key birth name kind bytes) valid
update_keeps cap place stamp (DeleteValue key birth name) es fits valid is = change_keeps cap place stamp fits es is (change.DeleteValue key birth name) valid
update_keeps cap place stamp (DeleteKey key birth subkey) es fits valid is = change_keeps cap place stamp fits es is (change.DeleteKey key birth subkey) valid
update_keeps cap place stamp (Batch changes) es fits valid is = changes_keep cap place stamp es 1 changes es fits is valid.each is
