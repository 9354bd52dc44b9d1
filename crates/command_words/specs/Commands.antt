-- The words of each command.
use Rattle.std.specs.Prelude.{◌≡◌, ◌<◌, ◌≤◌, ◌^◌, ℕ, List, [], ◌∷◌, Option, Some, None, IfSome, codes, option_map}
use Rattle.std.specs.Fmt.{decimal}
use Rattle.command_words.specs.Forms.{IsPlain, Texts}
use Rattle.command_words.specs.Forms as texts
use Rattle.command_words.specs.declared.command.Command.{Command}
use Rattle.command_words.specs.declared.command.Command.TheVariants as commands

pub data Asked : Type 0 where
  session : Option ℕ → Asked
  serve : List ℕ → ℕ → Option ℕ → Asked
  replay : Asked
  drill : ℕ → ℕ → Asked
  format : ℕ → Asked
  showlog : Asked
  export : Asked
  ask : List ℕ → Asked

-- The address is any word that isn't an option.
abbrev pub IsAddress : List ℕ → Type 0
IsAddress address = IsPlain address

abbrev pub IsBetween : ℕ → ℕ → ℕ → Type 0
IsBetween least most number = (least ≤ number) × (number ≤ most)

-- How many connections may be asked for.
abbrev pub IsCount : ℕ → Type 0
IsCount count = IsBetween 1 65_535 count

-- The stamp of all records of a run.
abbrev pub IsStamp : ℕ → Type 0
IsStamp stamp = stamp < 2 ^ 64

-- How many rounds of events a generated script may have.
abbrev pub IsEvents : ℕ → Type 0
IsEvents events = IsBetween 1 100_000 events

-- The greatest sizes that a registry may be given, in bytes.
abbrev pub IsCap : ℕ → Type 0
IsCap cap = IsBetween 4096 16_777_216 cap

-- The words ask for that. Numbers are written in decimal, without a sign or a leading zero.
abbrev pub Asks : List (List ℕ) → Asked → Type 0
Asks words (session None) = words ≡ codes "session" ∷ []
Asks words (session (Some stamp)) = (words ≡ codes "session" ∷ decimal stamp ∷ []) × IsStamp stamp
Asks words (serve address count None) = (words ≡ codes "serve" ∷ address ∷ decimal count ∷ []) × IsAddress address × IsCount count
Asks words (serve address count (Some stamp)) = (words ≡ codes "serve" ∷ address ∷ decimal count ∷ decimal stamp ∷ []) × IsAddress address × IsCount count
    × IsStamp stamp
Asks words replay = words ≡ codes "replay" ∷ []
Asks words (drill number events) = (words ≡ codes "drill" ∷ decimal number ∷ decimal events ∷ []) × (number < 2 ^ 64) × IsEvents events
Asks words (format cap) = (words ≡ codes "format" ∷ decimal cap ∷ []) × IsCap cap
Asks words showlog = words ≡ codes "showlog" ∷ []
Asks words export = words ≡ codes "export" ∷ []
Asks words (ask address) = (words ≡ codes "ask" ∷ address ∷ []) × IsAddress address

abbrev pub asked_by : Command → Asked
asked_by (commands.Session stamp) = session stamp
asked_by (commands.Serve address count stamp) = serve address.now count stamp
asked_by commands.Replay = replay
asked_by (commands.Drill number events) = drill number events
asked_by (commands.Format cap) = format cap
asked_by commands.Showlog = showlog
asked_by commands.Export = export
asked_by (commands.Ask address) = ask address.now

-- The texts of a form say that.
abbrev pub Says : Texts → Asked → Type 0
Says given (session stamp) = (given ≡ texts.session (option_map decimal stamp)) × IfSome stamp IsStamp
Says given (serve address count stamp) = (given ≡ texts.serve address (decimal count) (option_map decimal stamp)) × IsCount count × IfSome stamp IsStamp
Says given replay = given ≡ texts.replay
Says given (drill number events) = (given ≡ texts.drill (decimal number) (decimal events)) × (number < 2 ^ 64) × IsEvents events
Says given (format cap) = (given ≡ texts.format (decimal cap)) × IsCap cap
Says given showlog = given ≡ texts.showlog
Says given export = given ≡ texts.export
Says given (ask address) = given ≡ texts.ask address
