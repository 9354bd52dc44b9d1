-- A client's lines, one after another.
use Rattle.std.proofs.Common.{◌≡◌, ℕ, ◌+◌, List, [], ◌∷◌, Option, None, refl, sym, ap, ◌∙◌, subst}
use Rattle.std.proofs.lemmas.List.{append-nil}
use Rattle.client_commands.specs.declared.command.Command.{Command}
use Rattle.client_commands.specs.Commands.{command_of}
use Rattle.edge_io.specs.Visits.{Visits}
use Rattle.rpc_client.specs.Clients.{Holds, Kept}
use Rattle.asking.specs.declared.asked.Asked.TheVariants as comes
use Rattle.asking.specs.Asking.{AreAnswered, Comes, Edges, edges}
use Rattle.asking.specs.Connections.{HasExchanged}
use Rattle.asking.specs.Conversations.{IsAt, IsResting, parted}
use Rattle.asking.specs.Given.{printed_in, sent_in}
use Rattle.asking.specs.Inputs.{Parsed, behind, line_first, parsed, parsed_from}
use Rattle.asking.specs.Meetings.{Talks}
use Rattle.asking.proofs.TalkLaws.{all_answered, nothing_wrote}

-- ---- the lines

pub line_split : (before : ℕ) (line : List ℕ) (lines all : List (List ℕ)) → all ≡ line ∷ lines
    → parsed_from before all ≡ line_first (before + 1) (command_of line) (parsed_from (before + 1) lines)
unfolding parsed_from
line_split before line lines all is = ap (parsed_from before) is

pub none_left : (origin : Edges) (commands : List Command) (kept : Kept) (output : Option (List ℕ)) (door : Option Visits) (before : ℕ) (lines : List (List ℕ)) (text : List ℕ)
    → lines ≡ [] → parsed text ≡ behind commands (parsed_from before lines) → IsResting origin commands kept (edges output door) → Comes comes.Done (parsed text) origin (parted (edges output door))
unfolding parsed_from
none_left origin commands kept output door before lines text none whole resting =
    let P : Parsed → Type 0 = λ read. Comes comes.Done read origin (parted (edges output door)) in
    let Q : List Command → Type 0 = λ cs. AreAnswered cs origin (parted (edges output door)) in
    let at : parsed text ≡ behind commands (record { commands = []; bad = None }) = whole ∙ ap (λ (ls : List (List ℕ)). behind commands (parsed_from before ls)) none in
    subst P (sym at) (refl, subst Q (sym (append-nil commands)) (all_answered origin commands kept output door resting))

-- ---- its begin

pub is_new : (first : Option Visits) (output : Option (List ℕ)) (door : Option Visits) (kept : Kept) → Holds kept [] [] [] → Talks (HasExchanged [] []) first door
    → IsAt (edges output first) [] [] [] kept (edges output door)
unfolding sent_in printed_in
is_new first output door kept holds talks = record { holds = holds; printed = nothing_wrote output; talks = talks }
