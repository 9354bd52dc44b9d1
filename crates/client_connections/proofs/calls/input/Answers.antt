use Rattle.clusapi_stubs.specs.Parameters.{input_in}
use Rattle.registry_server.proofs.ParameterLaws.{faults, found}
use Rattle.client_connections.proofs.calls.input.Goals as goal

pub returns-in-Ok-clause-read : goal.returns-in-Ok-clause-read
returns-in-Ok-clause-read c =
    found c.in-Ok.input (input_in c.args.call.now.opnum c.args.call.now.endian c.args.call.now.stub) (rw c.as_slice.ensures at c.in-Ok.ensures.read)

pub returns-in-Ok-clause-size : goal.returns-in-Ok-clause-size
returns-in-Ok-clause-size c = c.in-Ok.ensures.found.size

pub returns-in-Err-clause-read : goal.returns-in-Err-clause-read
returns-in-Err-clause-read c =
    faults c.in-Err.fault (input_in c.args.call.now.opnum c.args.call.now.endian c.args.call.now.stub) c.status.result (rw c.as_slice.ensures at c.in-Err.ensures.read) c.status.ensures
