-- A fault of an exchange stands, whatever the stream goes on with.
use Rattle.std.proofs.Common.{◌≡◌, ℕ, ◌-◌, ◌<◌, Bool, true, false, List, [], ◌∷◌, ◌++◌, length, take, Option, None, Some, refl, sym, ap, ◌∙◌, subst, append_assoc, length-append, arith}
use Rattle.std.specs.List.{concat}
use Rattle.std.proofs.lemmas.List.{append-nil}
use Rattle.wire_fields.specs.Numbers.{IsBytes}
use Rattle.wire_fields.proofs.NumberLaws.{IsBytes-take}
use Rattle.rpc_calls.specs.declared.intake_fault.IntakeFault.{IntakeFault}
use Rattle.rpc_calls.specs.declared.item.Item.{Item}
use Rattle.rpc_calls.specs.declared.side.Side.TheVariants as sides
use Rattle.rpc_calls.specs.Intakes as intakes
use Rattle.rpc_calls.specs.Streams.{Items}
use Rattle.rpc_calls.proofs.HoldingLaws.{fault_stays}
use Rattle.rpc_calls.proofs.StreamItems.{items_are_there}
use Rattle.rpc_calls.proofs.StreamUniqueness.{given_front, items_agree}
use Rattle.client_commands.specs.declared.command.Command.{Command}
use Rattle.client_exchange.specs.Exchange.{Answered, answered, begun, text_sent}
use Rattle.client_exchange.specs.Requests.{bind_text, first_request}
use Rattle.client_exchange.specs.Stages.{AskingState, fresh, is_resting}
use Rattle.rpc_client.specs.declared.ask.Ask.{Ask}
use Rattle.rpc_client.specs.declared.ask.Ask.TheVariants.{Write}
use Rattle.rpc_client.specs.Exchange.{Ends, Exchange, IsBad, StandsAt, fault, looked_at, most_stream}
use Rattle.rpc_client.specs.Runs.{Ending, Run, behind, refuses, rests, runs, says, stops, waits, whole_run}
use Rattle.rpc_client.proofs.HoldingLaws.{reads_more, stands_more}
use Rattle.rpc_client.proofs.MoreCommands.{at_end}
use Rattle.rpc_client.proofs.RunLaws.{answered_run, refused_run, resting_run, started_run}
use Rattle.rpc_client.proofs.StreamGrowth.{take_both}

-- ---- a run over further items

-- Where it ended by an item that wasn't awaited, it ends so again.
abbrev Refuses : List Item → Run → Run → Type 0
Refuses others run further = (items : List Item) → run.1 ≡ refuses items → further ≡ (run.0, refuses (items ++ others))

behind_both : (others : List Item) (given : List Ask) (run further : Run) → Refuses others run further → Refuses others (behind given run) (behind given further)
behind_both others given run further same = λ items is. ap (λ (r : Run). behind given r) (same items is)

refuses_as : (others : List Item) (a b c d : Run) → c ≡ a → d ≡ b → Refuses others a b → Refuses others c d
refuses_as others a b c d one two same = subst (λ (r : Run). Refuses others r d) (sym one) (subst (λ (r : Run). Refuses others a r) (sym two) same)

rested : (others : List Item) (further : Run) → Refuses others (stops rests) further
rested others further = λ items is. absurd (cc is)

waited : (others : List Item) (further : Run) → Refuses others (stops waits) further
waited others further = λ items is. absurd (cc is)

refused : (others items : List Item) → Refuses others (stops (refuses items)) (stops (refuses (items ++ others)))
refused others items = λ more is. let same : items ≡ more = cc is in ap (λ (l : List Item). stops (refuses (l ++ others))) same

abbrev Goes : List Item → List Item → AskingState → List Command → Type 0
Goes others items s commands = Refuses others (runs s commands items) (runs s commands (items ++ others))

resting_on : (others items : List Item) → ((s : AskingState) (commands : List Command) → is_resting s.stage ≡ false → Goes others items s commands)
    → (s : AskingState) (commands : List Command) → is_resting s.stage ≡ true → Goes others items s commands
resting_on others items awaiting s [] e = refuses_as others (stops rests) (stops rests) _ _ (resting_run s items e) (resting_run s (items ++ others) e) (rested others (stops rests))
resting_on others items awaiting s (command ∷ commands) e =
    let sent = Write (text_sent s (first_request s.root command)) ∷ [] in
    refuses_as others (behind sent (runs (begun s command) commands items)) (behind sent (runs (begun s command) commands (items ++ others))) _ _
    (started_run s command commands items e) (started_run s command commands (items ++ others) e)
    (behind_both others sent _ _ (awaiting (begun s command) commands refl))

either_on : (others items : List Item) → ((s : AskingState) (commands : List Command) → is_resting s.stage ≡ false → Goes others items s commands)
    → (s : AskingState) (commands : List Command) (resting : Bool) → is_resting s.stage ≡ resting → Goes others items s commands
either_on others items awaiting s commands true e = resting_on others items awaiting s commands e
either_on others items awaiting s commands false e = awaiting s commands e

item_on : (others : List Item) (item : Item) (items : List Item) → ((s : AskingState) (commands : List Command) → Goes others items s commands)
    → (s : AskingState) (commands : List Command) (reply : Option Answered) → is_resting s.stage ≡ false → answered s item ≡ reply → Goes others (item ∷ items) s commands
item_on others item items behind_it s commands None e is =
    refuses_as others (stops (refuses (item ∷ items))) (stops (refuses (item ∷ (items ++ others)))) _ _
    (refused_run s commands item items e is) (refused_run s commands item (items ++ others) e is) (refused others (item ∷ items))
item_on others item items behind_it s commands (Some reply) e is =
    let said = says reply.lines reply.sent in
    refuses_as others (behind said (runs reply.next commands items)) (behind said (runs reply.next commands (items ++ others))) _ _
    (answered_run s commands item items reply e is) (answered_run s commands item (items ++ others) reply e is) (behind_both others said _ _ (behind_it reply.next commands))

awaiting_on : (others items : List Item) (s : AskingState) (commands : List Command) → is_resting s.stage ≡ false → Goes others items s commands
awaiting_on others [] s commands e = refuses_as others (stops waits) (runs s commands others) _ _ (at_end s commands e) refl (waited others (runs s commands others))
awaiting_on others (item ∷ items) s commands e =
    item_on others item items (λ t cs. either_on others items (λ u es r. awaiting_on others items u es r) t cs (is_resting t.stage) refl) s commands (answered s item) e refl

whole_on : (others items : List Item) (commands : List Command) → Refuses others (whole_run commands items) (whole_run commands (items ++ others))
unfolding whole_run
whole_on others items commands = behind_both others (Write bind_text ∷ []) _ _ (awaiting_on others items fresh commands refl)

-- ---- a stream that goes on

looked_on : (stream more : List ℕ) → looked_at (stream ++ more) ≡ looked_at stream ++ take (most_stream - length stream) more
looked_on stream more = take_both most_stream stream more

-- Where it is longer than what is looked at, nothing is looked at besides.
looked_same : (stream more : List ℕ) → most_stream < length stream → looked_at (stream ++ more) ≡ looked_at stream
looked_same stream more long =
    let none : most_stream - length stream ≡ 0 = omega (arith, long) in
    looked_on stream more ∙ ap (λ (n : ℕ). looked_at stream ++ take n more) none ∙ append-nil (looked_at stream)

-- Its first items stay the first.
pub record Begins (items all : List Item) : Type 0 where
  pub others : List Item
  pub are : all ≡ items ++ others

first_items : (stream more : List ℕ) (items all : List Item) (found other : Option IntakeFault) → Items sides.Client stream items found → Items sides.Client (stream ++ more) all other → Begins items all
first_items stream more items all found other (frames, left, rest, reads, stops) is =
    let kept : intakes.Kept = record {
      side = sides.Client;
      rest = rest ++ more;
      left = left;
      place = length (concat frames);
      last_place = 0;
      fault = None;
      unprocessed = 0;
      unfinished = 0;
    } in
    let holds : intakes.Holds kept (stream ++ more) items =
    record { frames = frames; reads = reads_more stream more frames items left rest reads; place = refl; faulty = tt } in
    let front = given_front kept (stream ++ more) items all other holds is in
    record { others = front.0; are = front.1 }

-- ---- a fault

ends_again : (commands : List Command) (stream : List ℕ) (given : List Ask) (place : ℕ) (items its : List Item) (found other : Option IntakeFault) (ending : Ending)
    → whole_run commands items ≡ (given, ending) → IsBad stream items found ending place → (items ≡ its) × (found ≡ other) → Ends commands stream its other given (fault place)
ends_again commands stream given place items its found other ending run bad same =
    let P : List Item → Type 0 = λ l. Ends commands stream l other given (fault place) in
    let Q : Option IntakeFault → Type 0 = λ o. Ends commands stream items o given (fault place) in
    subst P same.0 (subst Q same.1 (record { ending = ending; run = run; is = bad }))

fault_on : (commands : List Command) (stream more : List ℕ) (given : List Ask) (place : ℕ) (items its : List Item) (found other : Option IntakeFault) (ending : Ending)
    → Items sides.Client (looked_at stream) items found → Items sides.Client (looked_at (stream ++ more)) its other
    → whole_run commands items ≡ (given, ending) → IsBad stream items found ending place → Ends commands (stream ++ more) its other given (fault place)
fault_on commands stream more given place items its found other (refuses (item ∷ others)) here there run (before, parts, stands) =
    let piece = take (most_stream - length stream) more in
    let looked = looked_on stream more in
    let P : List ℕ → Type 0 = λ l. Items sides.Client l its other in
    let Q : List ℕ → Type 0 = λ l. StandsAt l before item place in
    let first = first_items (looked_at stream) piece items its found other here (subst P looked there) in
    record {
      ending = refuses ((item ∷ others) ++ first.others);
      run = ap (λ (l : List Item). whole_run commands l) first.are
          ∙ whole_on first.others items commands (item ∷ others) (ap (λ (r : Run). r.1) run)
          ∙ ap (λ (l : List Ask). (l, refuses ((item ∷ others) ++ first.others))) (ap (λ (r : Run). r.0) run);
      is = (
        before,
        first.are ∙ ap (λ (l : List Item). l ++ first.others) parts ∙ append_assoc before (item ∷ others) first.others,
        subst Q (sym looked) (stands_more (looked_at stream) piece before item place stands),
      );
    }
fault_on commands stream more given place items its (Some found) other waits here there run bad =
    let looked = looked_on stream more in
    let P : List ℕ → Type 0 = λ l. Items sides.Client l its other in
    let piece = take (most_stream - length stream) more in
    ends_again commands (stream ++ more) given place items its (Some found) other waits run bad
    (items_agree sides.Client (looked_at stream ++ piece) items its (Some found) other (fault_stays sides.Client (looked_at stream) piece items found here) (subst P looked there))
fault_on commands stream more given place items its None other waits here there run (long, at) =
    let P : List ℕ → Type 0 = λ l. Items sides.Client l its other in
    ends_again commands (stream ++ more) given place items its None other waits run (omega (arith, long, length-append stream more), at)
    (items_agree sides.Client (looked_at stream) items its None other here (subst P (looked_same stream more long) there))
fault_on commands stream more given place items its None other rests here there run bad = absurd bad
fault_on commands stream more given place items its (Some found) other rests here there run bad = absurd bad
fault_on commands stream more given place items its None other (refuses []) here there run bad = absurd bad
fault_on commands stream more given place items its (Some found) other (refuses []) here there run bad = absurd bad

pub faults_stay : (commands : List Command) (stream more : List ℕ) (given : List Ask) (place : ℕ) → IsBytes stream → Exchange commands stream given (fault place)
    → Exchange commands (stream ++ more) given (fault place)
faults_stay commands stream more given place bytes exchange = λ its other there.
    let here = items_are_there sides.Client (looked_at stream) (IsBytes-take most_stream stream bytes) in
    let ends = exchange here.0 here.1 here.2 in
    fault_on commands stream more given place here.0 its here.1 other ends.ending here.2 there ends.run ends.is
