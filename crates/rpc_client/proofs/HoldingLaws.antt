-- What each call leaves of what a client holds.
use Rattle.std.proofs.Common.{◌≡◌, ℕ, Bool, true, false, ltb, List, [], ◌∷◌, ◌++◌, length, Option, None, Some, refl, sym, ap, ◌∙◌, subst, append_assoc}
use Rattle.std.specs.Prelude.{IfSome, option_to_list}
use Rattle.std.proofs.lemmas.List.{append-nil}
use Rattle.rpc_calls.specs.declared.intake_fault.IntakeFault.{IntakeFault}
use Rattle.rpc_calls.specs.declared.item.Item.{Item}
use Rattle.rpc_calls.specs.declared.side.Side.{Side}
use Rattle.rpc_calls.specs.declared.side.Side.TheVariants as sides
use Rattle.rpc_calls.specs.Intakes as intakes
use Rattle.rpc_calls.specs.Streams.{Items, Reads}
use Rattle.rpc_calls.proofs.HoldingLaws.{holds_fed, holds_nothing}
use Rattle.rpc_calls.proofs.StreamUniqueness.{given_front, items_agree}
use Rattle.client_commands.specs.declared.command.Command.{Command}
use Rattle.client_exchange.specs.Exchange.{Answered, answered, begun, text_sent}
use Rattle.client_exchange.specs.Requests.{bind_text, first_request}
use Rattle.rpc_client.specs.declared.ask.Ask.{Ask}
use Rattle.rpc_client.specs.declared.ask.Ask.TheVariants.{Line, Write}
use Rattle.rpc_client.specs.Clients.{Holds, IsAwaiting, IsIdle, Kept, bind_first, new_client, still_to_give}
use Rattle.rpc_client.specs.Exchange.{End, Ends, Exchange, IsEnd, StandsAt, fault, looked_at, most_stream, nothing}
use Rattle.rpc_client.specs.Runs.{Ending, Run, behind, refuses, rests, runs, says, stops, waits, whole_run}
use Rattle.rpc_client.proofs.RunLaws.{answered_run, behind_twice, refused_run, resting_run, started_run, waiting_run}

-- ---- what was given

-- What was given, and what is still to give, are together what they were.
abbrev Whole : Kept → List Ask → List Ask
Whole kept given = given ++ still_to_give kept

-- The same client with another rest to give.
regiven : (kept : Kept) (opened : Bool) (lines : List (List ℕ)) (sent : Option (List ℕ)) (commands : List Command) (stream : List ℕ) (given now : List Ask)
    → given ++ still_to_give kept ≡ now ++ (bind_first opened ++ says lines sent)
    → Holds kept commands stream given
    → Holds (record { opened = opened; asking = kept.asking; lines = lines; sent = sent; intake = kept.intake; item = kept.item; passed = kept.passed }) commands stream now
regiven kept opened lines sent commands stream given now same h = record {
  items = h.items;
  side = h.side;
  fed = h.fed;
  stands = h.stands;
  passed = h.passed;
  goes_on = λ cs is. h.goes_on cs is ∙ ap (λ (all : List Ask). behind all (runs kept.asking cs is)) same;
}

moved : (given : List Ask) (ask : Ask) (a b : List Ask) → a ≡ ask ∷ b → given ++ a ≡ (given ++ ask ∷ []) ++ b
moved given ask a b e = ap (λ (l : List Ask). given ++ l) e ∙ sym (append_assoc given (ask ∷ []) b)

line_first : (opened : Bool) (lines rest : List (List ℕ)) (line : List ℕ) (sent : Option (List ℕ)) → opened ≡ true → lines ≡ line ∷ rest
    → bind_first opened ++ says lines sent ≡ Line line ∷ (bind_first opened ++ says rest sent)
line_first opened lines rest line sent e is = rw (e, is) refl

pub line_given : (kept : Kept) (line : List ℕ) (rest : List (List ℕ)) (commands : List Command) (stream : List ℕ) (given : List Ask)
    → kept.opened ≡ true → kept.lines ≡ line ∷ rest → Holds kept commands stream given
    → Holds (record { opened = kept.opened; asking = kept.asking; lines = rest; sent = kept.sent; intake = kept.intake; item = kept.item; passed = kept.passed }) commands stream (given ++ Line line ∷ [])
line_given kept line rest commands stream given e is h =
    regiven kept kept.opened rest kept.sent commands stream given (given ++ Line line ∷ [])
    (moved given (Line line) _ _ (line_first kept.opened kept.lines rest line kept.sent e is)) h

bytes_first : (opened : Bool) (lines : List (List ℕ)) (sent : Option (List ℕ)) (bytes : List ℕ) → opened ≡ true → lines ≡ [] → sent ≡ Some bytes
    → bind_first opened ++ says lines sent ≡ Write bytes ∷ (bind_first opened ++ says lines None)
bytes_first opened lines sent bytes e none is = rw (e, none, is) refl

pub bytes_given : (kept : Kept) (bytes : List ℕ) (commands : List Command) (stream : List ℕ) (given : List Ask)
    → kept.opened ≡ true → kept.lines ≡ [] → kept.sent ≡ Some bytes → Holds kept commands stream given
    → Holds (record { opened = kept.opened; asking = kept.asking; lines = kept.lines; sent = None; intake = kept.intake; item = kept.item; passed = kept.passed }) commands stream (given ++ Write bytes ∷ [])
bytes_given kept bytes commands stream given e none is h =
    regiven kept kept.opened kept.lines None commands stream given (given ++ Write bytes ∷ [])
    (moved given (Write bytes) _ _ (bytes_first kept.opened kept.lines kept.sent bytes e none is)) h

bind_given_first : (opened : Bool) (lines : List (List ℕ)) (sent : Option (List ℕ)) → opened ≡ false
    → bind_first opened ++ says lines sent ≡ Write bind_text ∷ (bind_first true ++ says lines sent)
bind_given_first opened lines sent e = rw e refl

pub bind_given : (kept : Kept) (bytes : List ℕ) (commands : List Command) (stream : List ℕ) (given : List Ask)
    → kept.opened ≡ false → bytes ≡ bind_text → Holds kept commands stream given
    → Holds (record { opened = true; asking = kept.asking; lines = kept.lines; sent = kept.sent; intake = kept.intake; item = kept.item; passed = kept.passed }) commands stream (given ++ Write bytes ∷ [])
bind_given kept bytes commands stream given e is h =
    rw is (regiven kept true kept.lines kept.sent commands stream given (given ++ Write bind_text ∷ [])
    (moved given (Write bind_text) _ _ (bind_given_first kept.opened kept.lines kept.sent e)) h)

-- ---- nothing is to be given

nothing_left : (opened : Bool) (lines : List (List ℕ)) (sent : Option (List ℕ)) (given : List Ask) → opened ≡ true → lines ≡ [] → sent ≡ None
    → given ++ (bind_first opened ++ says lines sent) ≡ given
nothing_left opened lines sent given e none not_sent = rw (e, none, not_sent) (append-nil given)

-- What a client holds is the front of the run over all items of its stream.
front_run : (kept : Kept) (commands : List Command) (stream : List ℕ) (given : List Ask) (h : Holds kept commands stream given) (items others : List Item)
    → given ++ still_to_give kept ≡ given → items ≡ h.items ++ others → whole_run commands items ≡ behind given (runs kept.asking [] others)
front_run kept commands stream given h items others none are =
    ap (λ (is : List Item). whole_run commands is) are
    ∙ ap (λ (cs : List Command). whole_run cs (h.items ++ others)) (sym (append-nil commands))
    ∙ h.goes_on [] others
    ∙ ap (λ (all : List Ask). behind all (runs kept.asking [] others)) none

ends_there : (given : List Ask) (ending : Ending) → behind given (stops ending) ≡ (given, ending)
ends_there given ending = ap (λ (all : List Ask). (all, ending)) (append-nil given)

pub record Front (taken all : List Item) : Type 0 where
  pub others : List Item
  pub are : all ≡ taken ++ others

pub front_of : (kept : Kept) (commands : List Command) (stream : List ℕ) (given : List Ask) (h : Holds kept commands stream given) (items : List Item) (found : Option IntakeFault)
    → Items sides.Client (looked_at stream) items found → Front (h.items ++ option_to_list kept.item) items
front_of kept commands stream given h items found is =
    let P : Side → Type 0 = λ side. Items side (looked_at stream) items found in
    let f = given_front kept.intake (looked_at stream) (h.items ++ option_to_list kept.item) items found h.fed (subst P (sym h.side) is) in
    record { others = f.0; are = f.1 }

pub is_idle : (kept : Kept) (commands : List Command) (stream : List ℕ) (given : List Ask) → IsIdle kept → Holds kept commands stream given → Exchange commands stream given nothing
is_idle kept commands stream given idle h = λ items found is.
    let f = front_of kept commands stream given h items found is in
    let others = option_to_list kept.item ++ f.others in
    let none = nothing_left kept.opened kept.lines kept.sent given idle.opened idle.no_lines idle.not_sent in
    record {
      ending = rests;
      run = front_run kept commands stream given h items others none (f.are ∙ append_assoc h.items (option_to_list kept.item) f.others)
          ∙ ap (λ (run : Run). behind given run) (resting_run kept.asking others idle.resting) ∙ ends_there given rests;
      is = refl;
    }

-- ---- items

awaiting_none : (kept : Kept) (given : List Ask) → IsAwaiting kept → given ++ still_to_give kept ≡ given
awaiting_none kept given a = nothing_left kept.opened kept.lines kept.sent given a.opened a.no_lines a.not_sent

-- All items were taken, and another one is awaited.
pub at_end : (kept : Kept) (commands : List Command) (stream : List ℕ) (given : List Ask) (found : Option IntakeFault) (end : End)
    → IsAwaiting kept → (h : Holds kept commands stream given) → Items sides.Client (looked_at stream) h.items found → IsEnd end stream h.items found waits → Exchange commands stream given end
at_end kept commands stream given found end awaits h all is = λ items other others_are.
    let same = items_agree sides.Client (looked_at stream) h.items items found other all others_are in
    let P : List Item → Type 0 = λ its. Ends commands stream its other given end in
    let Q : Option IntakeFault → Type 0 = λ o. Ends commands stream h.items o given end in
    subst P same.0 (subst Q same.1 (record {
      ending = waits;
      run = front_run kept commands stream given h h.items [] (awaiting_none kept given awaits) (sym (append-nil h.items))
          ∙ ap (λ (run : Run). behind given run) (waiting_run kept.asking awaits.awaits) ∙ ends_there given waits;
      is = is;
    }))

-- The item isn't the one that is awaited.
pub is_refused : (kept : Kept) (item : Item) (commands : List Command) (stream : List ℕ) (given : List Ask)
    → IsAwaiting kept → kept.item ≡ Some item → answered kept.asking item ≡ None → Holds kept commands stream given → Exchange commands stream given (fault kept.intake.last_place)
is_refused kept item commands stream given awaits held none h = λ items found is.
    let f = front_of kept commands stream given h items found is in
    let one : option_to_list kept.item ≡ item ∷ [] = ap option_to_list held in
    let are : items ≡ h.items ++ item ∷ f.others =
    f.are ∙ append_assoc h.items (option_to_list kept.item) f.others ∙ ap (λ (front : List Item). h.items ++ (front ++ f.others)) one in
    let stands : StandsAt (looked_at stream) h.items item kept.intake.last_place = rw held at h.stands in
    record {
      ending = refuses (item ∷ f.others);
      run = front_run kept commands stream given h items (item ∷ f.others) (awaiting_none kept given awaits) are
          ∙ ap (λ (run : Run). behind given run) (refused_run kept.asking [] item f.others awaits.awaits none) ∙ ends_there given (refuses (item ∷ f.others));
      is = (h.items, are, stands);
    }

-- The item is answered.
pub is_answered : (kept : Kept) (item : Item) (reply : Answered) (commands : List Command) (stream : List ℕ) (given : List Ask)
    → IsAwaiting kept → kept.item ≡ Some item → answered kept.asking item ≡ Some reply → Holds kept commands stream given
    → Holds (record { opened = kept.opened; asking = reply.next; lines = reply.lines; sent = reply.sent; intake = kept.intake; item = None; passed = kept.passed }) commands stream given
is_answered kept item reply commands stream given awaits held some h =
    let one : option_to_list kept.item ≡ item ∷ [] = ap option_to_list held in
    let none = awaiting_none kept given awaits in
    let P : List Item → Type 0 = λ its. intakes.Holds kept.intake (looked_at stream) its in
    let open_now : bind_first kept.opened ≡ [] = ap bind_first awaits.opened in
    record {
      items = h.items ++ item ∷ [];
      side = h.side;
      fed = subst P (ap (λ (l : List Item). h.items ++ l) one ∙ sym (append-nil (h.items ++ item ∷ []))) h.fed;
      stands = tt;
      passed = h.passed;
      goes_on = λ cs is.
          ap (λ (l : List Item). whole_run (commands ++ cs) l) (append_assoc h.items (item ∷ []) is)
          ∙ h.goes_on cs (item ∷ is)
          ∙ ap (λ (all : List Ask). behind all (runs kept.asking cs (item ∷ is))) none
          ∙ ap (λ (run : Run). behind given run) (answered_run kept.asking cs item is reply awaits.awaits some)
          ∙ behind_twice given (says reply.lines reply.sent) (runs reply.next cs is)
          ∙ ap (λ (l : List Ask). behind (given ++ (l ++ says reply.lines reply.sent)) (runs reply.next cs is)) (sym open_now);
    }

-- An item was taken from the stream.
pub is_fetched : (kept : Kept) (intake : intakes.Kept) (item : Item) (commands : List Command) (stream : List ℕ) (given : List Ask)
    → kept.item ≡ None → intake.side ≡ kept.intake.side
    → ((its : List Item) → intakes.Holds kept.intake (looked_at stream) its → intakes.Holds intake (looked_at stream) (its ++ item ∷ []))
    → ((its : List Item) → intakes.Holds kept.intake (looked_at stream) its → intakes.BehindItem intake.side (looked_at stream) its item intake.unprocessed intake.unfinished intake.last_place)
    → Holds kept commands stream given
    → Holds (record { opened = kept.opened; asking = kept.asking; lines = kept.lines; sent = kept.sent; intake = intake; item = Some item; passed = kept.passed }) commands stream given
is_fetched kept intake item commands stream given none side gives stands h =
    let P : List Item → Type 0 = λ its. intakes.Holds kept.intake (looked_at stream) its in
    let before : P h.items = subst P (ap (λ (o : Option Item). h.items ++ option_to_list o) none ∙ append-nil h.items) h.fed in
    let Q : Side → Type 0 = λ s. intakes.BehindItem s (looked_at stream) h.items item intake.unprocessed intake.unfinished intake.last_place in
    let at = subst Q (side ∙ h.side) (stands h.items before) in
    record {
      items = h.items;
      side = side ∙ h.side;
      fed = gives h.items before;
      stands = record {
        frames = at.before;
        frame = at.frame;
        rest = at.frame ++ at.behind;
        behind = at.here.rest;
        held = at.held;
        left = at.here.left;
        not_before = at.not_before;
        here = at.here.reads;
        place_is = at.stands;
      };
      passed = h.passed;
      goes_on = h.goes_on;
    }

-- No item was there.
pub is_unfetched : (kept : Kept) (intake : intakes.Kept) (commands : List Command) (stream : List ℕ) (given : List Ask)
    → kept.item ≡ None → intake.side ≡ kept.intake.side
    → ((its : List Item) → intakes.Holds kept.intake (looked_at stream) its → intakes.Holds intake (looked_at stream) its)
    → Holds kept commands stream given
    → Holds (record { opened = kept.opened; asking = kept.asking; lines = kept.lines; sent = kept.sent; intake = intake; item = kept.item; passed = kept.passed }) commands stream given
is_unfetched kept intake commands stream given none side gives h = record {
  items = h.items;
  side = side ∙ h.side;
  fed = gives (h.items ++ option_to_list kept.item) h.fed;
  stands = rw none tt;
  passed = h.passed;
  goes_on = h.goes_on;
}

-- ---- commands

pub is_begun : (kept : Kept) (command : Command) (bytes : List ℕ) (commands : List Command) (stream : List ℕ) (given : List Ask)
    → IsIdle kept → bytes ≡ text_sent kept.asking (first_request kept.asking.root command) → Holds kept commands stream given
    → Holds (record { opened = kept.opened; asking = begun kept.asking command; lines = kept.lines; sent = kept.sent; intake = kept.intake; item = kept.item; passed = kept.passed })
    (commands ++ command ∷ []) stream (given ++ Write bytes ∷ [])
is_begun kept command bytes commands stream given idle is h =
    let none = nothing_left kept.opened kept.lines kept.sent given idle.opened idle.no_lines idle.not_sent in
    let none_behind = nothing_left kept.opened kept.lines kept.sent (given ++ Write bytes ∷ []) idle.opened idle.no_lines idle.not_sent in
    let text = text_sent kept.asking (first_request kept.asking.root command) in
    record {
      items = h.items;
      side = h.side;
      fed = h.fed;
      stands = h.stands;
      passed = h.passed;
      goes_on = λ cs its.
          ap (λ (l : List Command). whole_run l (h.items ++ its)) (append_assoc commands (command ∷ []) cs)
          ∙ h.goes_on (command ∷ cs) its
          ∙ ap (λ (all : List Ask). behind all (runs kept.asking (command ∷ cs) its)) none
          ∙ ap (λ (run : Run). behind given run) (started_run kept.asking command cs its idle.resting)
          ∙ behind_twice given (Write text ∷ []) (runs (begun kept.asking command) cs its)
          ∙ ap (λ (b : List ℕ). behind (given ++ Write b ∷ []) (runs (begun kept.asking command) cs its)) (sym is)
          ∙ ap (λ (all : List Ask). behind all (runs (begun kept.asking command) cs its)) (sym none_behind);
    }

pub is_new : Holds new_client [] [] []
unfolding whole_run
is_new = record { items = []; side = refl; fed = holds_nothing sides.Client; stands = tt; passed = refl; goes_on = λ cs its. refl }

-- ---- the stream grows

pub reads_more : (stream piece : List ℕ) (frames : List (List ℕ)) (given : List Item) (left : _) (rest : List ℕ)
    → Reads sides.Client stream frames given left rest → Reads sides.Client (stream ++ piece) frames given left (rest ++ piece)
reads_more stream piece frames given left rest reads =
    record { whole = ap (λ (l : List ℕ). l ++ piece) reads.whole ∙ append_assoc _ rest piece; runs = reads.runs }

pub stands_more : (stream piece : List ℕ) (before : List Item) (item : Item) (place : ℕ) → StandsAt stream before item place → StandsAt (stream ++ piece) before item place
stands_more stream piece before item place s = record {
  frames = s.frames;
  frame = s.frame;
  rest = s.rest ++ piece;
  behind = s.behind ++ piece;
  held = s.held;
  left = s.left;
  not_before = reads_more stream piece s.frames before s.held s.rest s.not_before;
  here = reads_more stream piece (s.frames ++ s.frame ∷ []) (before ++ item ∷ []) s.left s.behind s.here;
  place_is = s.place_is;
}

if_stands : (stream piece : List ℕ) (before : List Item) (item : Option Item) (place : ℕ) → IfSome item (λ i. StandsAt stream before i place) → IfSome item (λ i. StandsAt (stream ++ piece) before i place)
if_stands stream piece before None place h = tt
if_stands stream piece before (Some item) place h = stands_more stream piece before item place h

-- The stream goes on by a piece, of which so much is looked at.
pub is_fed : (kept : Kept) (intake : intakes.Kept) (seen piece : List ℕ) (passed : Bool) (commands : List Command) (stream : List ℕ) (given : List Ask)
    → intake ≡ intakes.fed kept.intake seen → looked_at (stream ++ piece) ≡ looked_at stream ++ seen → passed ≡ ltb most_stream (length (stream ++ piece)) → Holds kept commands stream given
    → Holds (record { opened = kept.opened; asking = kept.asking; lines = kept.lines; sent = kept.sent; intake = intake; item = kept.item; passed = passed }) commands (stream ++ piece) given
is_fed kept intake seen piece passed commands stream given is looked now h =
    let P : List ℕ → Type 0 = λ l. intakes.Holds (intakes.fed kept.intake seen) l (h.items ++ option_to_list kept.item) in
    let Q : List ℕ → Type 0 = λ l. IfSome kept.item (λ i. StandsAt l h.items i kept.intake.last_place) in
    rw is (record {
      items = h.items;
      side = h.side;
      fed = subst P (sym looked) (holds_fed kept.intake (looked_at stream) seen (h.items ++ option_to_list kept.item) h.fed);
      stands = subst Q (sym looked) (if_stands (looked_at stream) seen h.items kept.item kept.intake.last_place h.stands);
      passed = now;
      goes_on = h.goes_on;
    })

-- ---- the end of what can be read

-- The intake has no further item: an item is awaited that isn't there, or the stream is at fault.
pub is_stopped : (kept : Kept) (intake : intakes.Kept) (found : Option IntakeFault) (end : End) (commands : List Command) (stream : List ℕ) (given : List Ask)
    → IsAwaiting kept → kept.item ≡ None → intake.side ≡ kept.intake.side
    → ((its : List Item) → intakes.Holds kept.intake (looked_at stream) its → intakes.Holds intake (looked_at stream) its × Items intake.side (looked_at stream) its found)
    → ((its : List Item) → IsEnd end stream its found waits)
    → Holds kept commands stream given
    → Holds (record { opened = kept.opened; asking = kept.asking; lines = kept.lines; sent = kept.sent; intake = intake; item = kept.item; passed = kept.passed }) commands stream given
    × Exchange commands stream given end
is_stopped kept intake found end commands stream given awaits none side gives is h =
    let P : List Item → Type 0 = λ its. intakes.Holds kept.intake (looked_at stream) its in
    let before : P h.items = subst P (ap (λ (o : Option Item). h.items ++ option_to_list o) none ∙ append-nil h.items) h.fed in
    let Q : Side → Type 0 = λ s. Items s (looked_at stream) h.items found in
    let all = subst Q (side ∙ h.side) (gives h.items before).1 in (
      is_unfetched kept intake commands stream given none side (λ its holds. (gives its holds).0) h,
      at_end kept commands stream given found end awaits h all (is h.items),
    )
