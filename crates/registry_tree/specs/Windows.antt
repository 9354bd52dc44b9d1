-- Writing a text from its beginning on, of which a window keeps what falls into it.
use Rattle.std.specs.Prelude.{◌≡◌, ℕ, ◌-◌, ◌≤◌, List, ◌++◌, length, take, drop}
use Rattle.registry_tree.specs.declared.window.Window.{Window}

-- A further piece of the text was written: what of it is not to be passed over stands in the window, as far as there is room.
pub record Fills (text : List ℕ) (old : Window) (before : List ℕ) (new : Window) (now : List ℕ) : Type 0 where
  pub within : new.filled ≤ length now
  pub kept : length now ≡ length before
  pub passed : new.before ≡ old.before - length text
  pub bytes : take new.filled now ≡ take old.filled before ++ take (length before - old.filled) (drop old.before text)
