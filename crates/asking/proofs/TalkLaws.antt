-- What each step of a conversation makes of it.
use Rattle.std.proofs.Common.{◌≡◌, ℕ, ◌+◌, List, [], ◌∷◌, ◌++◌, length, take, Option, None, Some, refl, sym, ap, ◌∙◌, subst, append_assoc, inl, inr, arith}
use Rattle.std.specs.Prelude.{Result, Ok, Err, flat_map}
use Rattle.std.proofs.lemmas.List.{append-nil, take_all}
use Rattle.std.proofs.lemmas.Grind.{flat_map-append}
use Rattle.std.proofs.Math.Seq.{take-append-add}
use Rattle.causes.specs.Writing.{Wrote, WroteSome}
use Rattle.edge_io.proofs.Pieces.{Wrote-append}
use Rattle.edge_io.specs.Visits.{Visits}
use Rattle.client_commands.specs.declared.command.Command.{Command}
use Rattle.rpc_client.specs.declared.ask.Ask.{Ask}
use Rattle.rpc_client.specs.declared.ask.Ask.TheVariants.{Line, Write}
use Rattle.rpc_client.specs.declared.client_fault.ClientFault.{ClientFault}
use Rattle.rpc_client.specs.declared.client_fault.ClientFault.TheVariants as faults
use Rattle.rpc_client.specs.Clients.{Holds, Kept, NextIs}
use Rattle.rpc_client.specs.Exchange.{Exchange, fault, more}
use Rattle.rpc_client.proofs.MoreCommands.{begins_further, begins_with, exchange_further}
use Rattle.asking.specs.declared.asked.Asked.TheVariants as comes
use Rattle.asking.specs.declared.halt.Halt.{Halt}
use Rattle.asking.specs.declared.halt.Halt.TheVariants as halts
use Rattle.asking.specs.Asking.{AreAnswered, AreBegun, AreRefused, Comes, Edges, IsBadAt, edges}
use Rattle.asking.specs.Connections.{HasBegun, HasEnded, HasExchanged}
use Rattle.asking.specs.Conversations.{Halts, IsAt, IsResting, Receives, asked_by, parted}
use Rattle.asking.specs.Given.{printed_by, printed_in, sent_by, sent_in}
use Rattle.asking.specs.Halting.{halt_of}
use Rattle.asking.specs.Inputs.{Parsed, behind, line_first}
use Rattle.asking.specs.Meetings.{Leads, Talks}
use Rattle.asking.proofs.VisitLaws.{begun_so, over}

-- ---- what was given

sent_then : (given : List Ask) (ask : Ask) → sent_in (given ++ ask ∷ []) ≡ sent_in given ++ sent_by ask
unfolding sent_in
sent_then given ask = flat_map-append sent_by given (ask ∷ []) ∙ ap (λ (l : List ℕ). flat_map sent_by given ++ l) (append-nil (sent_by ask))

printed_then : (given : List Ask) (ask : Ask) → printed_in (given ++ ask ∷ []) ≡ printed_in given ++ printed_by ask
unfolding printed_in
printed_then given ask = flat_map-append printed_by given (ask ∷ []) ∙ ap (λ (l : List ℕ). flat_map printed_by given ++ l) (append-nil (printed_by ask))

-- A line sends nothing, and bytes print nothing.
line_sends : (given : List Ask) (line : List ℕ) → sent_in (given ++ Line line ∷ []) ≡ sent_in given
line_sends given line = sent_then given (Line line) ∙ append-nil (sent_in given)

bytes_print : (given : List Ask) (bytes : List ℕ) → printed_in (given ++ Write bytes ∷ []) ≡ printed_in given
bytes_print given bytes = printed_then given (Write bytes) ∙ append-nil (printed_in given)

some_then : (a b c : Option (List ℕ)) (xs ys : List ℕ) → Wrote a b xs → WroteSome b c ys → WroteSome a c (xs ++ ys)
some_then a b c xs ys first (count, second) =
    (length xs + count, subst (λ (t : List ℕ). Wrote a c t) (sym (take-append-add xs ys count)) (Wrote-append a b c xs (take count ys) first second))

all_is_some : (a b : Option (List ℕ)) (xs : List ℕ) → Wrote a b xs → WroteSome a b xs
all_is_some a b xs wrote = (length xs, subst (λ (t : List ℕ). Wrote a b t) (sym (take_all (length xs) xs (omega arith))) wrote)

pub nothing_wrote : (a : Option (List ℕ)) → Wrote a a []
nothing_wrote None = tt
nothing_wrote (Some xs) = sym (append-nil xs)

-- ---- how it may end

begun_as : (origin : Edges) (commands : List Command) (stream : List ℕ) (given : List Ask) (kept : Kept) (output : Option (List ℕ)) (door : Option Visits)
    → Holds kept commands stream given → WroteSome origin.output output (printed_in given) → Talks (HasBegun stream (sent_in given)) origin.door door
    → AreBegun commands origin (parted (edges output door))
begun_as origin commands stream given kept output door holds printed talks = record {
  stream = stream;
  given = given;
  begins = begins_with kept commands stream given holds;
  printed = printed;
  visited = over (HasBegun stream (sent_in given)) origin.door door talks;
}

-- It may end at any time.
pub begun_here : (origin : Edges) (commands : List Command) (stream : List ℕ) (given : List Ask) (kept : Kept) (output : Option (List ℕ)) (door : Option Visits)
    → IsAt origin commands stream given kept (edges output door) → AreBegun commands origin (parted (edges output door))
begun_here origin commands stream given kept output door at =
    begun_as origin commands stream given kept output door at.holds (all_is_some origin.output output (printed_in given) at.printed) (begun_so stream (sent_in given) origin.door door at.talks)

pub begun_more : (commands further : List Command) (v w : Edges) → AreBegun commands v w → AreBegun (commands ++ further) v w
begun_more commands further v w begun = record {
  stream = begun.stream;
  given = begun.given;
  begins = begins_further commands further begun.stream begun.given begun.begins;
  printed = begun.printed;
  visited = begun.visited;
}

bad_more : (place : ℕ) (commands further : List Command) (stream : List ℕ) (given : List Ask) (a b : Option Visits) → IsBadAt place commands stream given a b
    → IsBadAt place (commands ++ further) stream given a b
bad_more place commands further stream given a b bad =
    elim bad [
      | inl at ↦ inl (exchange_further commands further stream given (fault place) tt at.0, at.1)
      | inr end ↦ inr (exchange_further commands further stream given more tt end.0, end.1, end.2)
    ]

pub refused_more : (place : ℕ) (commands further : List Command) (v w : Edges) → AreRefused place commands v w → AreRefused place (commands ++ further) v w
refused_more place commands further v w refused = record {
  stream = refused.stream;
  given = refused.given;
  printed = refused.printed;
  bad = bad_more place commands further refused.stream refused.given v.door w.door refused.bad;
}

pub halts_more : (halt : Halt) (origin : Edges) (commands further : List Command) (now : Edges) → Halts halt origin commands now → Halts halt origin (commands ++ further) now
halts_more (halts.BadReply place) origin commands further now h = refused_more place commands further origin (parted now) h
halts_more halts.ReadFault origin commands further now h = begun_more commands further origin (parted now) h
halts_more halts.WriteFault origin commands further now h = begun_more commands further origin (parted now) h
halts_more halts.NoMemory origin commands further now h = begun_more commands further origin (parted now) h

-- ---- what the client gives

abbrev AtNext : (origin : Edges) (commands : List Command) (stream : List ℕ) (kept : Kept) (now : Edges) → Type 0
AtNext origin commands stream kept now = (given : List Ask) × IsAt origin commands stream given kept now

pub line_printed : (line : List ℕ) (old new : Kept) (held output : Option (List ℕ)) (door : Option Visits) → NextIs (Ok (Line line)) old new → Wrote held output line
    → (origin : Edges) (commands : List Command) (stream : List ℕ) (given : List Ask) → IsAt origin commands stream given old (edges held door)
    → AtNext origin commands stream new (edges output door)
line_printed line old new held output door next wrote origin commands stream given at = (
  given ++ Line line ∷ [],
  record {
    holds = next commands stream given at.holds;
    printed = subst (λ (t : List ℕ). Wrote origin.output output t) (sym (printed_then given (Line line))) (Wrote-append origin.output held output (printed_in given) line at.printed wrote);
    talks = subst (λ (t : List ℕ). Talks (HasExchanged stream t) origin.door door) (sym (line_sends given line)) at.talks;
  },
)

pub line_unprinted : (line : List ℕ) (old new : Kept) (held output : Option (List ℕ)) (door : Option Visits) → NextIs (Ok (Line line)) old new → WroteSome held output line
    → (origin : Edges) (commands : List Command) (stream : List ℕ) (given : List Ask) → IsAt origin commands stream given old (edges held door)
    → AreBegun commands origin (parted (edges output door))
line_unprinted line old new held output door next wrote origin commands stream given at =
    begun_as origin commands stream (given ++ Line line ∷ []) new output door (next commands stream given at.holds)
    (subst (λ (t : List ℕ). WroteSome origin.output output t) (sym (printed_then given (Line line))) (some_then origin.output held output (printed_in given) line at.printed wrote))
    (subst (λ (t : List ℕ). Talks (HasBegun stream t) origin.door door) (sym (line_sends given line)) (begun_so stream (sent_in given) origin.door door at.talks))

-- Bytes that the client gives, by whichever call.
abbrev pub GivesBytes : List ℕ → Kept → Kept → List Command → List Command → Type 0
GivesBytes bytes old new before behind = (stream : List ℕ) (given : List Ask) → Holds old before stream given → Holds new behind stream (given ++ Write bytes ∷ [])

abbrev pub AllSent : List ℕ → Option Visits → Option Visits → Type 0
AllSent bytes held door = (stream text : List ℕ) → Leads (HasExchanged stream text) (HasExchanged stream (text ++ bytes)) held door

abbrev pub SomeSent : List ℕ → Option Visits → Option Visits → Type 0
SomeSent bytes held door = (stream text : List ℕ) → Leads (HasExchanged stream text) (HasBegun stream (text ++ bytes)) held door

pub bytes_sent : (bytes : List ℕ) (old new : Kept) (before behind : List Command) (output : Option (List ℕ)) (held door : Option Visits) → GivesBytes bytes old new before behind → AllSent bytes held door
    → (origin : Edges) (stream : List ℕ) (given : List Ask) → IsAt origin before stream given old (edges output held) → IsAt origin behind stream (given ++ Write bytes ∷ []) new (edges output door)
bytes_sent bytes old new before behind output held door gives sent origin stream given at = record {
  holds = gives stream given at.holds;
  printed = subst (λ (t : List ℕ). Wrote origin.output output t) (sym (bytes_print given bytes)) at.printed;
  talks = subst (λ (t : List ℕ). Talks (HasExchanged stream t) origin.door door) (sym (sent_then given (Write bytes))) (sent stream (sent_in given) origin.door at.talks);
}

pub bytes_unsent : (bytes : List ℕ) (old new : Kept) (before behind : List Command) (output : Option (List ℕ)) (held door : Option Visits) → GivesBytes bytes old new before behind → SomeSent bytes held door
    → (origin : Edges) (stream : List ℕ) (given : List Ask) → IsAt origin before stream given old (edges output held) → AreBegun behind origin (parted (edges output door))
bytes_unsent bytes old new before behind output held door gives sent origin stream given at =
    begun_as origin behind stream (given ++ Write bytes ∷ []) new output door (gives stream given at.holds)
    (subst (λ (t : List ℕ). WroteSome origin.output output t) (sym (bytes_print given bytes)) (all_is_some origin.output output (printed_in given) at.printed))
    (subst (λ (t : List ℕ). Talks (HasBegun stream t) origin.door door) (sym (sent_then given (Write bytes))) (sent stream (sent_in given) origin.door at.talks))

-- A fault of the client.
pub client_halts : (found : ClientFault) (old new : Kept) (output : Option (List ℕ)) (door : Option Visits) → NextIs (Err found) old new
    → (origin : Edges) (commands : List Command) (stream : List ℕ) (given : List Ask) → IsAt origin commands stream given old (edges output door)
    → Halts (halt_of found) origin commands (edges output door)
client_halts (faults.BadReply place) old new output door next origin commands stream given at =
    let bad = next commands stream given at.holds in
    record { stream = stream; given = given; printed = at.printed; bad = inl (bad.1, over (HasExchanged stream (sent_in given)) origin.door door at.talks) }
client_halts faults.Memory old new output door next origin commands stream given at = begun_here origin commands stream given old output door at

-- ---- what the peer sends

pub piece_read : (piece : List ℕ) (old new : Kept) (output : Option (List ℕ)) (held door : Option Visits)
    → ((commands : List Command) (stream : List ℕ) (given : List Ask) → Holds old commands stream given → Holds new commands (stream ++ piece) given)
    → ((stream text : List ℕ) → Leads (HasExchanged stream text) (HasExchanged (stream ++ piece) text) held door)
    → (origin : Edges) (commands : List Command) (stream : List ℕ) (given : List Ask) → IsAt origin commands stream given old (edges output held)
    → IsAt origin commands (stream ++ piece) given new (edges output door)
piece_read piece old new output held door fed read origin commands stream given at = record {
  holds = fed commands stream given at.holds;
  printed = at.printed;
  talks = read stream (sent_in given) origin.door at.talks;
}

pub stream_ends : (place : ℕ) (kept : Kept) (output : Option (List ℕ)) (held door : Option Visits)
    → ((stream text : List ℕ) → Leads (HasExchanged stream text) (HasEnded stream text) held door)
    → (origin : Edges) (commands : List Command) (stream : List ℕ) (given : List Ask) → place ≡ length stream → Exchange commands stream given more
    → IsAt origin commands stream given kept (edges output held) → AreRefused place commands origin (parted (edges output door))
stream_ends place kept output held door end origin commands stream given is awaits at = record {
  stream = stream;
  given = given;
  printed = at.printed;
  bad = inr (awaits, is, over (HasEnded stream (sent_in given)) origin.door door (end stream (sent_in given) origin.door at.talks));
}

unfed : (kept : Kept) (output : Option (List ℕ)) (held door : Option Visits) → ((stream text : List ℕ) → Leads (HasExchanged stream text) (HasBegun stream text) held door)
    → (origin : Edges) (commands : List Command) (stream : List ℕ) (given : List Ask) → IsAt origin commands stream given kept (edges output held) → AreBegun commands origin (parted (edges output door))
unfed kept output held door read origin commands stream given at =
    begun_as origin commands stream given kept output door at.holds (all_is_some origin.output output (printed_in given) at.printed) (read stream (sent_in given) origin.door at.talks)

pub receiving_halts : (halt : Halt) (old new : Kept) (output : Option (List ℕ)) (held door : Option Visits) → Receives (Err halt) old new held door
    → (origin : Edges) (commands : List Command) (stream : List ℕ) (given : List Ask) → IsAt origin commands stream given old (edges output held)
    → Halts halt origin commands (edges output door)
receiving_halts (halts.BadReply place) old new output held door receives origin commands stream given at = absurd receives
receiving_halts halts.ReadFault old new output held door receives origin commands stream given at = unfed old output held door receives origin commands stream given at
receiving_halts halts.WriteFault old new output held door receives origin commands stream given at = unfed old output held door receives origin commands stream given at
receiving_halts halts.NoMemory old new output held door receives origin commands stream given at = unfed old output held door receives origin commands stream given at

-- ---- lines

pub all_answered : (origin : Edges) (commands : List Command) (kept : Kept) (output : Option (List ℕ)) (door : Option Visits) → IsResting origin commands kept (edges output door)
    → AreAnswered commands origin (parted (edges output door))
all_answered origin commands kept output door resting = record {
  stream = resting.stream;
  given = resting.given;
  exchange = resting.done;
  printed = resting.at.printed;
  visited = over (HasExchanged resting.stream (sent_in resting.given)) origin.door door resting.at.talks;
}

pub halt_comes : (halt : Halt) (origin : Edges) (read : Parsed) (now : Edges) → Halts halt origin read.commands now → Comes (asked_by halt) read origin (parted now)
halt_comes (halts.BadReply place) origin read now h = h
halt_comes halts.ReadFault origin read now h = h
halt_comes halts.WriteFault origin read now h = h
halt_comes halts.NoMemory origin read now h = h

abbrev LineDone : Edges → List Command → Parsed → Parsed → Kept → Edges → Type 0
LineDone origin commands whole others kept now = (after : List Command) × IsResting origin after kept now × (behind commands whole ≡ behind after others)

-- The line is no command.
pub nothing_said : (number : ℕ) (said : Result (Option Command) ℕ) (origin : Edges) (commands : List Command) (others : Parsed) (kept : Kept) (now : Edges) → said ≡ Ok None
    → IsResting origin commands kept now → LineDone origin commands (line_first number said others) others kept now
nothing_said number said origin commands others kept now is resting =
    (commands, resting, ap (λ (s : Result (Option Command) ℕ). behind commands (line_first number s others)) is)

pub line_bad : (number column : ℕ) (said : Result (Option Command) ℕ) (origin : Edges) (commands : List Command) (others : Parsed) (kept : Kept) (output : Option (List ℕ)) (door : Option Visits) → said ≡ Err column
    → IsResting origin commands kept (edges output door) → Comes (comes.BadCommand number column) (behind commands (line_first number said others)) origin (parted (edges output door))
line_bad number column said origin commands others kept output door is resting =
    let P : Parsed → Type 0 = λ parsed. Comes (comes.BadCommand number column) (behind commands parsed) origin (parted (edges output door)) in
    let Q : List Command → Type 0 = λ cs. AreAnswered cs origin (parted (edges output door)) in
    subst P (ap (λ (s : Result (Option Command) ℕ). line_first number s others) (sym is))
    (refl, subst Q (sym (append-nil commands)) (all_answered origin commands kept output door resting))

pub line_unread : (origin : Edges) (commands : List Command) (read : Parsed) (kept : Kept) (output : Option (List ℕ)) (door : Option Visits)
    → IsResting origin commands kept (edges output door) → Comes comes.NoMemory (behind commands read) origin (parted (edges output door))
line_unread origin commands read kept output door resting =
    begun_more commands read.commands origin (parted (edges output door)) (begun_here origin commands resting.stream resting.given kept output door resting.at)

one_more : (commands : List Command) (command : Command) (others : Parsed) → behind commands (behind (command ∷ []) others) ≡ behind (commands ++ command ∷ []) others
one_more commands command others = ap (λ (cs : List Command). (let p : Parsed = record { commands = cs; bad = others.bad } in p)) (sym (append_assoc commands (command ∷ []) others.commands))

pub command_done : (number : ℕ) (said : Result (Option Command) ℕ) (command : Command) (origin : Edges) (commands : List Command) (others : Parsed) (kept : Kept) (now : Edges) → said ≡ Ok (Some command)
    → IsResting origin (commands ++ command ∷ []) kept now → LineDone origin commands (line_first number said others) others kept now
command_done number said command origin commands others kept now is resting =
    (commands ++ command ∷ [], resting, ap (λ (s : Result (Option Command) ℕ). behind commands (line_first number s others)) is ∙ one_more commands command others)

pub command_halts : (number : ℕ) (said : Result (Option Command) ℕ) (command : Command) (halt : Halt) (origin : Edges) (commands : List Command) (others : Parsed) (now : Edges) → said ≡ Ok (Some command)
    → Halts halt origin (commands ++ command ∷ []) now → Comes (asked_by halt) (behind commands (line_first number said others)) origin (parted now)
command_halts number said command halt origin commands others now is h =
    let P : Parsed → Type 0 = λ parsed. Comes (asked_by halt) parsed origin (parted now) in
    let read : Parsed = behind (commands ++ command ∷ []) others in
    let whole : read ≡ behind commands (line_first number said others) =
    sym (ap (λ (s : Result (Option Command) ℕ). behind commands (line_first number s others)) is ∙ one_more commands command others) in
    subst P whole (halt_comes halt origin read now (halts_more halt origin (commands ++ command ∷ []) others.commands now h))
