-- A stream is cut into frames, each as long as its own frag_length says (C706 12.6.3.1).
use Rattle.std.specs.Prelude.{◌≡◌, ℕ, ◌<◌, ◌≤◌, List, length, Option, Some, None}
use Rattle.rpc_pdu.specs.Header.{peek_at}

-- A whole frame.
pub record IsFrame (frame : List ℕ) : Type 0 where
  pub long : 16 ≤ length frame
  pub told : peek_at frame ≡ Some (length frame)

abbrev pub WaitsBy : List ℕ → Option ℕ → Type 0
WaitsBy rest None = Unit {0}
WaitsBy rest (Some told) = (16 ≤ told) × (length rest < told)

-- Too few bytes for a frame, and no fault yet: the frag_length isn't whole, or more bytes are to come.
abbrev pub Waits : List ℕ → Type 0
Waits rest = WaitsBy rest (peek_at rest)

-- A frame that says that it is shorter than its header.
abbrev pub TooShort : List ℕ → Type 0
TooShort rest = (told : ℕ) × (peek_at rest ≡ Some told) × (told < 16)
