use Rattle.world_laws.proofs.Promising.{safe_world}
use Rattle.world_laws.proofs.Running.{opening_reached, run_reached}
use Rattle.world_laws.proofs.laws.every_world_is_safe.Goals as goal

pub returns : goal.returns
returns c cap first last events tolds opened runs = safe_world cap last opened.disk.capacity (run_reached cap events first tolds last opened.disk.capacity (opening_reached cap first opened) runs)
