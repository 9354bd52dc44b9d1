-- Closing a handle that is open takes out the entry at the serial number in it.
use Rattle.std.proofs.Common.{◌≡◌, ℕ, Bool, true, false, List, Option, None, Some, is_some, refl, arith}
use Rattle.std.specs.BTreeMap.{is_at}
use Rattle.std.specs.Map.{remove_entry}
use Rattle.std.specs.Option.{option_map}
use Rattle.std.specs.Ordering.{nat_cmp}
use Rattle.ndr_values.specs.declared.handle.WireHandle.{WireHandle}
use Rattle.context_handles.specs.declared.held.Entry.{Entry}
use Rattle.context_handles.specs.Encoding.{is_handle_of}
use Rattle.context_handles.specs.Table.{IsSound, Table, closed, found, named}
use Rattle.context_handles.proofs.Entries.{is_named, lookup_none, nothing, remove_by}
use Rattle.context_handles.proofs.Serials.{no_test, same_test, serial_in}

pub is_some_map : {A B : Type 0} (f : A → B) (x : Option A) → is_some (option_map f x) ≡ is_some x
is_some_map f None = refl
is_some_map f (Some x) = refl

-- A handle that names an entry is the one that was made with the serial number in it.
made : (table : Table) (handle : WireHandle) (serial : ℕ) → serial ≡ serial_in handle.id → IsSound table.serials table.entries → is_some (named table handle) ≡ true
    → (test : Bool) → is_handle_of table.node handle serial ≡ test → is_handle_of table.node handle serial ≡ true
made table handle serial is sound open_there true e = e
made table handle serial is sound open_there false e =
    let none : named table handle ≡ nothing =
    lookup_none (is_handle_of table.node handle) table.serials (λ k within. no_test table.node handle serial k is e (omega (arith, sound.few))) table.entries sound.given in
    absurd (let gone : is_some (named table handle) ≡ false = rw none refl in cc)

-- A table without some of its entries.
abbrev pub with_entries : Table → List (ℕ × Entry) → Table
with_entries table entries = record table { entries = entries }

pub closes : (table : Table) (group : ℕ) (handle : WireHandle) (serial : ℕ) → serial ≡ serial_in handle.id → IsSound table.serials table.entries → is_some (found table group handle) ≡ true
    → with_entries table (remove_entry (is_at (nat_cmp serial)) table.entries) ≡ closed table group handle
closes table group handle serial is sound is_open =
    let named_there : is_some (named table handle) ≡ true = is_named group (named table handle) is_open in
    let is_made : is_handle_of table.node handle serial ≡ true = made table handle serial is sound named_there (is_handle_of table.node handle serial) refl in
    let same : remove_entry (is_at (nat_cmp serial)) table.entries ≡ remove_entry (is_handle_of table.node handle) table.entries =
    remove_by (is_at (nat_cmp serial)) (is_handle_of table.node handle) table.serials (λ k within. same_test table.node handle serial k is is_made (omega (arith, sound.few))) table.entries sound.given in
    rw (is_open, same) refl
