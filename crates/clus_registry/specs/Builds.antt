-- What a state's build was fed, and what its calls give.
use Rattle.std.specs.Prelude.{◌≡◌, ℕ, List, ◌++◌, Result, Ok, Err}
use Rattle.wire_fields.specs.Numbers.{IsBytes}
use Rattle.registry_defs.specs.Contents.{IsCap}
use Rattle.registry_states.specs.Builds.{IsAtFault, IsSound, Kept}
use Rattle.registry_states.specs.Builds as builds
use Rattle.registry_states.specs.declared.fault.StateFault.{StateFault}
use Rattle.registry_states.specs.declared.fault.StateFault.TheVariants.{Bad, Memory}

-- The build was fed this stream of bytes.
abbrev pub IsFed : Kept → List ℕ → Type 0
IsFed kept stream = IsBytes stream × builds.IsFed kept stream

-- Bad comes exactly where the stream so far is at fault whatever follows, at the place of its first field at fault; where
-- memory runs out nothing was taken.
abbrev pub Feeds : {T : Type 0} → Result T StateFault → Kept → List ℕ → List ℕ → Type 0
Feeds (Ok done) now stream piece = IsFed now (stream ++ piece) × IsSound now.cap (stream ++ piece)
Feeds (Err (Bad place)) now stream piece = IsFed now (stream ++ piece) × IsAtFault now.cap (stream ++ piece) place
Feeds (Err Memory) now stream piece = IsFed now stream

abbrev pub FeedIs : {T : Type 0} → Result T StateFault → Kept → Kept → List ℕ → Type 0
FeedIs result old now piece = (stream : List ℕ) → IsFed old stream → Feeds result now stream piece

-- What is true of every build: its cap is one, and it was fed some stream.
pub record IsBegun (cap : ℕ) (tree : Kept) : Type 0 where
  pub range : IsCap cap
  pub same_cap : cap ≡ tree.cap
  pub stream : List ℕ
  pub fed : IsFed tree stream
