use Rattle.std.proofs.Common.{◌∙◌}
use Rattle.clusapi_methods.proofs.Checks.{is_subkey}
use Rattle.clusapi_methods.proofs.arguments.subkey.Goals as goal

pub returns-in-Ok : goal.returns-in-Ok
returns-in-Ok c =
    is_subkey c.args.key.now c.args.subkey.now c.in-Ok.path c.within.result c.in-Ok.ensures.found.0 (c.in-Ok.ensures.found.1 ∙ c.as_slice.ensures) c.within.ensures
