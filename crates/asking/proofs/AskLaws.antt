-- What comes of reading an input and accepting a connection.
use Rattle.std.proofs.Common.{◌≡◌, ℕ, ◌<◌, ◌≤◌, List, [], length, Option, None, Some, sym, subst, inr}
use Rattle.std.specs.Prelude.{IfSome}
use Rattle.std.specs.Option.{option_map}
use Rattle.edge_io.specs.declared.reading.ReadAll.TheVariants as reads
use Rattle.edge_io.specs.Reading.{ReadsAll}
use Rattle.edge_io.specs.Visits.{Faults, Visits, hung_up}
use Rattle.asking.specs.declared.asked.Asked.{Asked}
use Rattle.asking.specs.declared.asked.Asked.TheVariants as comes
use Rattle.asking.specs.Asking.{Comes, Edges, HasCauses, Runs, WasRead, counts, edges}
use Rattle.asking.specs.Conversations.{StopsBy, parted}
use Rattle.asking.specs.Inputs.{most_input, parsed}

pub too_long : (before now : Option (List ℕ)) → IfSome before (λ left. ReadsAll left most_input reads.TooLong now) → IfSome before (λ left. most_input < length left)
too_long None now told = tt
too_long (Some left) now told = told.0

pub was_read : (before now : Option (List ℕ)) (text : List ℕ) → IfSome before (λ left. (text ≡ left) × (length left ≤ most_input) × (now ≡ Some [])) → length text ≤ most_input → WasRead before text now
was_read None now text told small = record { short = small; same = tt }
was_read (Some left) now text told small = record { short = small; same = (sym told.0, told.2) }

-- The connection was hung up behind it.
pub runs_on : (asked : Asked) (before now : Option (List ℕ)) (text : List ℕ) (v : Edges) (output : Option (List ℕ)) (door ended : Option Visits) → WasRead before text now
    → Comes asked (parsed text) v (parted (edges output door)) → ended ≡ option_map hung_up door → Runs asked before now v (edges output ended)
runs_on comes.Done before now text v output door ended read came is = (text, read, subst (λ (d : Option Visits). Comes comes.Done (parsed text) v (edges output d)) (sym is) came)
runs_on (comes.BadCommand line column) before now text v output door ended read came is =
    (text, read, subst (λ (d : Option Visits). Comes (comes.BadCommand line column) (parsed text) v (edges output d)) (sym is) came)
runs_on (comes.BadReply place) before now text v output door ended read came is = (text, read, subst (λ (d : Option Visits). Comes (comes.BadReply place) (parsed text) v (edges output d)) (sym is) came)
runs_on comes.WriteFault before now text v output door ended read came is = (text, read, subst (λ (d : Option Visits). Comes comes.WriteFault (parsed text) v (edges output d)) (sym is) came)
runs_on comes.ReadFault before now text v output door ended read came is =
    inr (text, read, subst (λ (d : Option Visits). Comes comes.ReadFault (parsed text) v (edges output d)) (sym is) came)
runs_on comes.NoMemory before now text v output door ended read came is =
    inr (text, read, subst (λ (d : Option Visits). Comes comes.NoMemory (parsed text) v (edges output d)) (sym is) came)
runs_on comes.TooLong before now text v output door ended read came is = absurd came
runs_on comes.NoPeer before now text v output door ended read came is = absurd came

-- The reads of the input failed no further, and no connection was accepted besides.
pub caused : (asked : Asked) (reads read_then printed prints : ℕ) (old new : Faults) → StopsBy asked printed prints old new → HasCauses asked (counts reads printed old) (counts read_then prints new)
caused comes.Done reads read_then printed prints old new stops = tt
caused (comes.BadCommand line column) reads read_then printed prints old new stops = tt
caused (comes.BadReply place) reads read_then printed prints old new stops = tt
caused comes.WriteFault reads read_then printed prints old new stops = stops
caused comes.ReadFault reads read_then printed prints old new stops = inr (inr stops)
caused comes.NoMemory reads read_then printed prints old new stops = tt
caused comes.TooLong reads read_then printed prints old new stops = tt
caused comes.NoPeer reads read_then printed prints old new stops = tt
