use Rattle.std.proofs.Common.{◌≡◌, ◌+◌, ◌-◌, arith, ◌∙◌}
use Rattle.quorum_log.proofs.Places.{window_is}
use Rattle.quorum_log.proofs.reading.copy.Goals as goal

pub returns : goal.returns
returns c =
    let back : c.args.at + c.args.count - c.args.at ≡ c.args.count = omega arith in
    c.new.ensures ∙ c.in_ok-bytes.ensures.items_if_clones_equal (λ x y e. e) ∙ rw back (window_is c.args.image.now c.args.at c.args.count c.requires)
