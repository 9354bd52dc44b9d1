-- Whatever becomes of a table, its handles were opened on keys.
use Rattle.std.proofs.Common.{◌≡◌, ℕ, ◌+◌, Bool, true, false, not, List, Option, Some, None, if◌then◌else◌, refl}
use Rattle.std.specs.Prelude.{IfSome, is_some, ◌==◌}
use Rattle.std.specs.List.{AllByRecursion}
use Rattle.std.specs.Map.{lookup, remove_entry}
use Rattle.ndr_values.specs.declared.handle.WireHandle.{WireHandle}
use Rattle.context_handles.specs.declared.held.Entry.{Entry}
use Rattle.context_handles.specs.declared.held.Held.{Held}
use Rattle.context_handles.specs.declared.held.Kind.{Kind}
use Rattle.context_handles.specs.Encoding.{is_handle_of}
use Rattle.context_handles.specs.Table.{Table, closed, found, has_member, held_in, joined, named, of_others, opened, without_one}
use Rattle.clusapi_methods.specs.Plans.{held_for, is_kind, of_kind}
use Rattle.registry_server.specs.Servers.{without}
use Rattle.client_laws.specs.Typed.{IsHeld}
use Rattle.client_laws.proofs.Lists.{all_filter, all_lookup, all_remove, all_snoc, either}
use Rattle.client_laws.proofs.Plans.{IsHeldKey, root_key}

abbrev pub AreHeld : Table → Type 0
AreHeld table = AllByRecursion IsHeld table.entries

pub held_joined : (table : Table) (group : Option ℕ) → AreHeld table → AreHeld (joined table group)
held_joined table None all = all
held_joined table (Some group) all = all

pub held_opened : (table : Table) (group : ℕ) (held : Held) → AreHeld table → IsHeldKey held → AreHeld (opened table group held)
held_opened table group held all is = all_snoc IsHeld table.entries (table.serials + 1, record { group = group; held = held }) all is

pub held_closed : (table : Table) (group : ℕ) (handle : WireHandle) → AreHeld table → AreHeld (closed table group handle)
held_closed table group handle all =
    either AreHeld (is_some (found table group handle)) (record table { entries = remove_entry (is_handle_of table.node handle) table.entries }) table
    (all_remove IsHeld (is_handle_of table.node handle) table.entries all) all

pub held_without : (group : Option ℕ) (table : Table) → AreHeld table → AreHeld (without group table)
held_without None table all = all
held_without (Some group) table all =
    either (λ (l : List (ℕ × Entry)). AllByRecursion IsHeld l) (has_member group (without_one group table.members)) table.entries (of_others group table.entries)
    all (all_filter IsHeld (λ entry. not (entry.1.group == group)) table.entries all)

-- ---- what a call is about

in_group : (group : ℕ) (o : Option Entry) → IfSome o (λ e. IsHeldKey e.held) → IfSome (held_in group o) IsHeldKey
in_group group None is = tt
in_group group (Some entry) is = by (entry.group == group)
  where
    by : (b : Bool) → IfSome (if b then Some entry.held else None) IsHeldKey
    by true = is
    by false = tt

held_found : (table : Table) (group : ℕ) (handle : WireHandle) → AreHeld table → IfSome (found table group handle) IsHeldKey
held_found table group handle all = in_group group (named table handle) (by (lookup (is_handle_of table.node handle) table.entries) refl)
  where
    by : (o : Option Entry) → lookup (is_handle_of table.node handle) table.entries ≡ o → IfSome o (λ e. IsHeldKey e.held)
    by None e = tt
    by (Some entry) e = (all_lookup IsHeld (is_handle_of table.node handle) table.entries entry all e).1

held_of_kind : (wanted : Kind) (o : Option Held) → IfSome o IsHeldKey → IfSome (of_kind wanted o) IsHeldKey
held_of_kind wanted None is = tt
held_of_kind wanted (Some held) is = by (is_kind wanted held.kind)
  where
    by : (b : Bool) → IfSome (if b then Some held else None) IsHeldKey
    by true = is
    by false = tt

pub held_wanted : (wanted : Option (Kind × WireHandle)) (table : Table) (group : ℕ) → AreHeld table → IfSome (held_for wanted table group) IsHeldKey
held_wanted None table group all = root_key
held_wanted (Some wanted) table group all = held_of_kind wanted.0 (found table group wanted.1) (held_found table group wanted.1 all)
