use Rattle.std.proofs.Common.{◌≤◌, ℕ, length, refl, arith}
use Rattle.std.specs.Prelude.{replicate}
use Rattle.registry_defs.proofs.Held.{root_text}
use Rattle.script_player.proofs.Formatting.{format_works, new_works}
use Rattle.script_player.proofs.disk.new_disk.Goals as goal

pub unreachable-requires : goal.unreachable-requires
unreachable-requires c =
    let small : length (replicate {A = ℕ} 16 0) ≤ 4007 = omega arith in
    let large : 4100 ≤ c.image_size.result = omega (arith, c.image_size.ensures) in
    format_works c.args.cap (replicate 16 0) _ _ c.in-Err.field-0 small (new_works _ _ c.in_ok-disk.ensures large) c.in-Err.ensures.calls

pub returns-clause-log : goal.returns-clause-log
returns-clause-log c = rw (← root_text) (c.in-Ok.ensures.formatted refl refl)
