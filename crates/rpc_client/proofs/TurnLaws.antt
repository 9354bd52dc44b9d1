-- What each turn of `next` and each piece of the stream does to what a client holds.
use Rattle.std.proofs.Common.{◌≡◌, ℕ, ◌+◌, ◌-◌, ◌<◌, ◌≤◌, Bool, true, false, List, ◌++◌, length, take, Result, Ok, Err, Option, None, Some, refl, sym, ap, ◌∙◌}
use Rattle.std.proofs.lemmas.Bool.{ltb-true, ltb-false}
use Rattle.std.proofs.lemmas.List.{take_all}
use Rattle.rpc_calls.specs.declared.feed_fault.FeedFault.{FeedFault}
use Rattle.rpc_calls.specs.declared.feed_fault.FeedFault.TheVariants as feeds
use Rattle.rpc_calls.specs.declared.intake_fault.IntakeFault.{IntakeFault}
use Rattle.rpc_calls.specs.declared.item.Item.{Item}
use Rattle.rpc_calls.specs.Intakes as intakes
use Rattle.rpc_calls.specs.Streams.{Items}
use Rattle.rpc_calls.proofs.HoldingLaws.{length_known}
use Rattle.client_commands.specs.declared.command.Command.{Command}
use Rattle.rpc_client.specs.declared.ask.Ask.{Ask}
use Rattle.rpc_client.specs.declared.client_fault.ClientFault.TheVariants.{BadReply, Memory}
use Rattle.rpc_client.specs.Clients.{FeedIs, Holds, IsAwaiting, Kept, TurnIs, end_of}
use Rattle.rpc_client.specs.Exchange.{fault, looked_at, more, most_stream, place_of}
use Rattle.rpc_client.proofs.HoldingLaws.{is_fed, is_fetched, is_stopped, is_unfetched}
use Rattle.rpc_client.proofs.StreamGrowth.{fits_front, fits_whole, passed_now, passed_same, room_is}

abbrev with_intake : Kept → intakes.Kept → Option Item → Kept
with_intake kept intake item =
    record { opened = kept.opened; asking = kept.asking; lines = kept.lines; sent = kept.sent; intake = intake; item = item; passed = kept.passed }

-- ---- fetch

pub fetched : (kept : Kept) (intake : intakes.Kept) (item : Item) → kept.item ≡ None → intakes.NextIs (Ok (Some item)) kept.intake intake
    → intakes.NumbersAre (Ok (Some item)) kept.intake intake → intakes.Stays kept.intake intake → TurnIs (Ok None) kept (with_intake kept intake (Some item))
fetched kept intake item none next numbers stays = λ commands stream given h.
    is_fetched kept intake item commands stream given none stays.side (λ its. next (looked_at stream) its) (λ its. numbers (looked_at stream) its) h

abbrev Stopped : intakes.Kept → intakes.Kept → Option IntakeFault → Type 0
Stopped old new found = (stream : List ℕ) (its : List Item) → intakes.Holds old stream its → intakes.Holds new stream its × Items new.side stream its found

pub bad_reply : (kept : Kept) (intake : intakes.Kept) (found : IntakeFault) (place : ℕ) → IsAwaiting kept → kept.item ≡ None → place ≡ place_of found
    → Stopped kept.intake intake (Some found) → intakes.Stays kept.intake intake → TurnIs (Err (BadReply place)) kept (with_intake kept intake kept.item)
bad_reply kept intake found place awaits none is stopped stays = λ commands stream given h.
    is_stopped kept intake (Some found) (fault place) commands stream given awaits none stays.side (λ its. stopped (looked_at stream) its) (λ its. is) h

pub no_memory : (kept : Kept) (intake : intakes.Kept) → kept.item ≡ None
    → ((stream : List ℕ) (its : List Item) → intakes.Holds kept.intake stream its → intakes.Holds intake stream its)
    → intakes.Stays kept.intake intake → TurnIs (Err Memory) kept (with_intake kept intake kept.item)
no_memory kept intake none keeps stays = λ commands stream given h. is_unfetched kept intake commands stream given none stays.side (λ its. keeps (looked_at stream) its) h

-- Nothing more can be read: the stream is longer than what is looked at, or not.
pub ended : (kept : Kept) (intake : intakes.Kept) (passed : Bool) → kept.passed ≡ passed → IsAwaiting kept → kept.item ≡ None
    → Stopped kept.intake intake None → intakes.Stays kept.intake intake → TurnIs (end_of passed) kept (with_intake kept intake kept.item)
ended kept intake true is awaits none stopped stays = λ commands stream given h.
    let long : most_stream < length stream = ltb-true _ _ (sym h.passed ∙ is) in
    is_stopped kept intake None (fault most_stream) commands stream given awaits none stays.side (λ its. stopped (looked_at stream) its) (λ its. (long, refl)) h
ended kept intake false is awaits none stopped stays = λ commands stream given h.
    let short : length stream ≤ most_stream = ltb-false _ _ (sym h.passed ∙ is) in
    is_stopped kept intake None more commands stream given awaits none stays.side (λ its. stopped (looked_at stream) its) (λ its. (refl, refl, short)) h

-- ---- feed

room_left : (kept : Kept) (room : ℕ) (commands : List Command) (stream : List ℕ) (given : List Ask) → room ≡ most_stream - intakes.stream_length kept.intake
    → Holds kept commands stream given → room ≡ most_stream - length stream
room_left kept room commands stream given is h =
    room_is most_stream room stream (intakes.stream_length kept.intake) (length_known kept.intake (looked_at stream) _ h.fed) is

pub fed_whole : {X : Type 0} (result : Result X FeedFault) (kept : Kept) (intake : intakes.Kept) (room : ℕ) (piece : List ℕ)
    → room ≡ most_stream - intakes.stream_length kept.intake → length piece ≤ room → intakes.FeedIs result kept.intake intake piece
    → FeedIs result kept (with_intake kept intake kept.item) piece
fed_whole (Ok taken) kept intake room piece is few fed = (
  fed.0,
  λ commands stream given h.
      let left = room_left kept room commands stream given is h in
      is_fed kept intake piece piece kept.passed commands stream given fed.1 (fits_whole most_stream room stream piece left few)
      (passed_same most_stream room stream piece kept.passed left few h.passed) h,
)
fed_whole (Err feeds.Backlog) kept intake room piece is few fed = (fed.0, ap (λ (i : intakes.Kept). with_intake kept i kept.item) fed.1)
fed_whole (Err feeds.Memory) kept intake room piece is few fed = (fed.0, ap (λ (i : intakes.Kept). with_intake kept i kept.item) fed.1)

pub fed_front : {X : Type 0} (taken : X) (kept : Kept) (intake : intakes.Kept) (room : ℕ) (front piece : List ℕ)
    → room ≡ most_stream - intakes.stream_length kept.intake → room < length piece → front ≡ take room piece → kept.intake.unprocessed + length piece ≤ intakes.most_unprocessed
    → intake ≡ intakes.fed kept.intake front
    → FeedIs (Ok taken) kept (record { opened = kept.opened; asking = kept.asking; lines = kept.lines; sent = kept.sent; intake = intake; item = kept.item; passed = true }) piece
fed_front taken kept intake room front piece is many cut fits fed = (
  fits,
  λ commands stream given h.
      let left = room_left kept room commands stream given is h in
      is_fed kept intake front piece true commands stream given fed (fits_front most_stream room stream piece left ∙ ap (λ (l : List ℕ). looked_at stream ++ l) (sym cut))
      (passed_now most_stream room stream piece left many) h,
)

-- ---- how long the stream is

-- What an intake received is all of the stream, as long as all of it is looked at.
pub all_received : (kept : Kept) (size : ℕ) (commands : List Command) (stream : List ℕ) (given : List Ask) → size ≡ intakes.stream_length kept.intake
    → Holds kept commands stream given → kept.passed ≡ false → size ≡ length stream
all_received kept size commands stream given is h looks =
    let short : length stream ≤ most_stream = ltb-false _ _ (sym h.passed ∙ looks) in
    is ∙ length_known kept.intake (looked_at stream) _ h.fed ∙ ap (λ (l : List ℕ). length l) (take_all most_stream stream short)
