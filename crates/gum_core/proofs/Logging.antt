-- What a locker knows of the requests that it logged in its view.
use Rattle.std.proofs.Common.{◌≡◌, ◌≢◌, ℕ, ◌<◌, length}
use Rattle.gum_messages.specs.declared.view.View.{View}
use Rattle.gum_messages.specs.Members.{inc_of, index_of}
use Rattle.gum_messages.proofs.Beside.{entry_first, entry_kept, entry_set}
use Rattle.gum_core.specs.Updating.{CoreState, entered, greatest_of, logged}

-- in a view that begins, none
pub greatest_entered : (c : CoreState) (v : View) (node : ℕ) → greatest_of (entered c v) node ≡ 0
greatest_entered c v node = entry_first (length v.members) (index_of v.members node) 0

-- of the node whose request was logged, that one; of each other member, as before
pub greatest_logged : (c : CoreState) (from req place : ℕ) → length c.greatest ≡ length c.members → 0 < inc_of c.members from → greatest_of (logged c from req place).0 from ≡ req
greatest_logged c from req place entries member = entry_set c.members c.greatest from req 0 entries member

pub greatest_kept : (c : CoreState) (from req place other : ℕ) → 0 < inc_of c.members other → other ≢ from → greatest_of (logged c from req place).0 other ≡ greatest_of c other
greatest_kept c from req place other member apart = entry_kept c.members c.greatest from other req 0 member apart
