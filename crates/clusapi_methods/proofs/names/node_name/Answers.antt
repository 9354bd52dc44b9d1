use Rattle.std.proofs.Common.{arith}
use Rattle.clusapi_methods.proofs.NameTexts.{node_text}
use Rattle.clusapi_methods.proofs.names.node_name.Goals as goal

pub returns-clause-text : goal.returns-clause-text
returns-clause-text c =
    rw (c.new.ensures, c.in_ok-units_of.ensures, c.as_bytes.ensures.value, c.in_ok-name.ensures.ok) (node_text c.args.node (omega (arith, c.ranges.node.fits)))
