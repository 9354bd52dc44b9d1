use Rattle.std.proofs.Common.{◌≡◌, ◌+◌, ◌-◌, ◌≤◌, ℕ, length, take, ap, refl, subst, arith}
use Rattle.rpc_calls.specs.Intakes.{most_unprocessed, stream_length}
use Rattle.rpc_client.specs.contracts.client.Client.{the_view}
use Rattle.rpc_client.specs.Clients.{Kept}
use Rattle.rpc_client.specs.Exchange.{most_stream}
use Rattle.rpc_client.proofs.TurnLaws.{fed_front, fed_whole}
use Rattle.rpc_client.proofs.client.Client.feed.Goals as goal

pub returns-then-piece-room-clause-fed : goal.returns-then-piece-room-clause-fed
returns-then-piece-room-clause-fed c =
    let room : most_stream - c.received.result ≡ most_stream - stream_length c.self.inside.intake = ap (λ (n : ℕ). most_stream - n) c.received.ensures in
    rw c.self.view_is at (fed_whole c.feed.result (the_view c.self.inside) c.feed.new.self (most_stream - c.received.result) c.args.piece.now room c.if-piece-room.true c.feed.ensures.fed)

pub returns-clause-fed : goal.returns-clause-fed
returns-clause-fed c =
    let room : most_stream - c.received.result ≡ most_stream - stream_length c.self.inside.intake = ap (λ (n : ℕ). most_stream - n) c.received.ensures in
    let fits : c.self.inside.intake.unprocessed + length c.args.piece.now ≤ most_unprocessed = omega (arith, c.unprocessed.ensures.value, c.unprocessed.ensures.bound) in
    let fed = fed_front c.in_ok-feed.field-0 (the_view c.self.inside) c.feed-2.new.self (most_stream - c.received.result) (take (most_stream - c.received.result) c.args.piece.now) c.args.piece.now
    room c.if-piece-room.false refl fits c.in_ok-feed.ensures.fed.1 in (
      subst (λ (k : Kept). k.intake.unprocessed + length c.args.piece.now ≤ most_unprocessed) c.self.view_is fits,
      rw c.self.view_is at fed.1,
    )
