-- What follows for the handles that a node gives.
use Rattle.std.specs.Prelude.{◌≡◌, ◌≢◌, ℕ, ◌+◌, ◌<◌, ◌^◌, None, Some}
use Rattle.context_handles.specs.declared.held.Held.{Held}
use Rattle.context_handles.specs.Encoding.{handle_of}
use Rattle.context_handles.specs.Table.{IsSound, Table, found, opened}

-- A serial number reads back from its handle.
abbrev pub HandlesDiffer : Type 0
HandlesDiffer = (node a b : ℕ) → a < 2 ^ 64 → b < 2 ^ 64 → handle_of node a ≡ handle_of node b → a ≡ b

-- The handle that is given next stands for nothing yet.
abbrev pub IsNew : Table → Type 0
IsNew table = (group : ℕ) → found table group (handle_of table.node (table.serials + 1)) ≡ None

-- Once it was given, it stands for what was opened in its group, and for nothing in another.
pub record StandsFor (table : Table) (group : ℕ) (held : Held) : Type 0 where
  pub here : found (opened table group held) group (handle_of table.node (table.serials + 1)) ≡ Some held
  pub elsewhere : (other : ℕ) → other ≢ group → found (opened table group held) other (handle_of table.node (table.serials + 1)) ≡ None

abbrev pub OpensOne : Type 0
OpensOne = (table : Table) (group : ℕ) (held : Held) → IsSound table.serials table.entries → IsNew table × StandsFor table group held
