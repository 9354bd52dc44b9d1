use Rattle.std.proofs.Common.{◌≡◌, ◌+◌, [], refl, sym, ap, ◌∙◌}
use Rattle.registry_defs.specs.Sizes.{written_size}
use Rattle.hive_text.proofs.WalkRoots.{root_follows, root_walk}
use Rattle.hive_text.proofs.walk.Walk.of_root.Goals as goal

pub returns : goal.returns
returns c =
    let is = c.is_root.ensures.0 c.if-not-is_root.false in
    let none : c.args.part ≡ [] = sym c.as_slice.ensures ∙ is.0 in
    let size : 16 + c.written_size.result ≡ 16 + written_size c.args.written = ap (λ n. 16 + n) c.written_size.ensures.exact in
    let new = c.new-2.ensures in (
      root_follows c.args.part c.args.birth c.args.written c.args.cap c.requires.fits c.requires.large none is.1,
      root_walk c.args.part c.args.birth c.args.written c.args.cap _ c.requires.fits c.requires.large c.requires.most none is.1 refl c.new.ensures.items refl size refl new.part new.birth new.written new.values new.subkeys,
      refl,
    )
