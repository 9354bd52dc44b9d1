use Rattle.std.proofs.Common.{◌+◌, ◌-◌, ◌<◌, ◌≤◌, length, refl, ◌∙◌, take, arith}
use Rattle.std.specs.Prelude.{min}
use Rattle.std.proofs.lemmas.List.{take_rest}
use Rattle.std.proofs.lemmas.Result.{err_from_is_err_and}
use Rattle.registry_states.specs.contracts.standing.Standing.{the_view}
use Rattle.registry_states.proofs.Pieces.{piece_fails, piece_over, piece_stands, reading_is}
use Rattle.registry_states.proofs.standing.Standing.read_bytes.Goals as goal

pub returns-in_err-reach-clause-piece : goal.returns-in_err-reach-clause-piece
returns-in_err-reach-clause-piece c = λ stream piece bytes_are.
    let p = err_from_is_err_and c.from_residual-in_err-reach.result c.from_residual-in_err-reach.ensures.1 in
    let before = the_view c.self.inside in
    let count = min (length piece) (c.args.cap + 1 - (before.taken + length before.pending)) in
    let are = rw (← c.self.view_is) at bytes_are in
    rw (p.1, p.2, ← c.self.view_is)
    (piece_fails c.args.cap c.args.items.now.items before c.in_ok-ahead.ahead c.in_ok-ahead.ensures c.behind-fields.result piece c.args.bytes.now count are
    (reading_is before c.behind-fields.result c.args.bytes.now c.args.bytes.now (take count piece) c.behind-fields.ensures refl are)
    c.read_items.new.items.items c.read_items.new.ahead c.in_err-reach.field-0.0 c.in_err-reach.ensures.reaches stream)

pub returns-then-cap-self-clause-piece : goal.returns-then-cap-self-clause-piece
returns-then-cap-self-clause-piece c = λ stream piece bytes_are.
    let before = the_view c.self.inside in
    let count = min (length piece) (c.args.cap + 1 - (before.taken + length before.pending)) in
    let are = rw (← c.self.view_is) at bytes_are in
    let past : c.args.cap < before.taken + length c.args.bytes.now = omega (arith, c.if-cap-self.true) in
    rw (← c.self.view_is)
    (piece_over c.args.cap c.args.items.now.items before c.in_ok-ahead.ahead c.in_ok-ahead.ensures c.behind-fields.result piece c.args.bytes.now count are
    (reading_is before c.behind-fields.result c.args.bytes.now c.args.bytes.now (take count piece) c.behind-fields.ensures refl are)
    c.read_items.new.items.items c.read_items.new.ahead c.in_ok-reach.reach c.in_ok-reach.ensures.reaches past stream)

pub returns-clause-piece : goal.returns-clause-piece
returns-clause-piece c = λ stream piece bytes_are.
    let before = the_view c.self.inside in
    let room = c.args.cap + 1 - (before.taken + length before.pending) in
    let count = min (length piece) room in
    let are = rw (← c.self.view_is) at bytes_are in
    let far = c.in_ok-reach.reach.taken - before.taken in
    let pending_is = c.in_ok-pending.ensures.items_if_clones_equal (λ x y e. e) ∙ take_rest c.args.bytes.now far in
    let so_far : before.taken + length before.pending ≤ c.args.cap = rw (← c.self.view_is) at c.requires.within in
    let fits : before.taken + length c.args.bytes.now ≤ c.args.cap = omega (arith, c.if-cap-self.false) in
    rw (← c.self.view_is)
    (piece_stands c.args.cap c.args.items.now.items before c.in_ok-ahead.ahead c.in_ok-ahead.ensures c.behind-fields.result piece c.args.bytes.now count are
    (reading_is before c.behind-fields.result c.args.bytes.now c.args.bytes.now (take count piece) c.behind-fields.ensures refl are)
    c.read_items.new.items.items c.read_items.new.ahead c.in_ok-reach.reach c.in_ok-reach.ensures.reaches c.in_ok-pending.pending.items room pending_is refl refl so_far fits stream)
