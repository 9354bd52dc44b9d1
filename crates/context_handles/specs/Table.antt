-- Which handles are open, and what each call makes of them.
use Rattle.std.specs.Prelude.{ℕ, ◌+◌, ◌^◌, ◌<◌, ◌≤◌, ◌==◌, max, Bool, not, List, [], ◌∷◌, ◌++◌, All, Option, None, Some, is_some, if◌then◌else◌}
use Rattle.std.specs.List.{filter, list_any, position_or_len, remove}
use Rattle.std.specs.Map.{lookup, remove_entry}
use Rattle.ndr_values.specs.declared.handle.WireHandle.{WireHandle}
use Rattle.context_handles.specs.declared.held.Entry.{Entry}
use Rattle.context_handles.specs.declared.held.Held.{Held}
use Rattle.context_handles.specs.Encoding.{is_handle_of}

pub record Table : Type 0 where
  -- the number of the node
  pub node : ℕ
  -- how many groups were made, and how many serial numbers were given
  pub groups : ℕ
  pub serials : ℕ
  -- the group of each connection
  pub members : List ℕ
  -- what is open, each under its serial number
  pub entries : List (ℕ × Entry)

abbrev pub fresh : ℕ → Table
fresh node = record { node = node; groups = 0; serials = 0; members = []; entries = [] }

-- ---- groups

abbrev pub has_member : ℕ → List ℕ → Bool
has_member group members = list_any (λ member. member == group) members

-- The next group for 0, and else the one that is asked for, where it has a connection.
abbrev pub group_for : Table → ℕ → Option ℕ
group_for table asked =
    if asked == 0 then (if table.groups == 4294967295 then None else Some (table.groups + 1))
    else if has_member asked table.members then Some asked
    else None

-- A connection more in the group that it got. Groups are numbered in the order in which they are made.
abbrev pub joined : Table → Option ℕ → Table
joined table None = table
joined table (Some group) = record table { groups = max table.groups group; members = table.members ++ group ∷ [] }

-- Without the first of the group's connections.
abbrev pub without_one : ℕ → List ℕ → List ℕ
without_one group members = remove members (position_or_len (λ member. member == group) members)

abbrev pub of_others : ℕ → List (ℕ × Entry) → List (ℕ × Entry)
of_others group entries = filter (λ entry. not (entry.1.group == group)) entries

-- A group without connections loses what is open in it.
abbrev pub without_unused : ℕ → List ℕ → List (ℕ × Entry) → List (ℕ × Entry)
without_unused group members entries = if has_member group members then entries else of_others group entries

abbrev pub left : Table → ℕ → Table
left table group = record table {
  members = without_one group table.members;
  entries = without_unused group (without_one group table.members) table.entries;
}

-- ---- handles

abbrev pub opened : Table → ℕ → Held → Table
opened table group held = record table {
  serials = table.serials + 1;
  entries = table.entries ++ (table.serials + 1, record { group = group; held = held }) ∷ [];
}

abbrev pub held_in : ℕ → Option Entry → Option Held
held_in group None = None
held_in group (Some entry) = if entry.group == group then Some entry.held else None

abbrev pub named : Table → WireHandle → Option Entry
named table handle = lookup (is_handle_of table.node handle) table.entries

-- What the handle stands for in the group.
abbrev pub found : Table → ℕ → WireHandle → Option Held
found table group handle = held_in group (named table handle)

abbrev pub closed : Table → ℕ → WireHandle → Table
closed table group handle =
    if is_some (found table group handle) then record table { entries = remove_entry (is_handle_of table.node handle) table.entries }
    else table

-- ---- what is always so

-- Each serial number was given.
abbrev pub AreGiven : ℕ → List (ℕ × Entry) → Type 0
AreGiven serials entries = All (λ entry. entry.0 ≤ serials) entries

pub record IsSound (serials : ℕ) (entries : List (ℕ × Entry)) : Type 0 where
  pub given : AreGiven serials entries
  pub few : serials < 2 ^ 63
