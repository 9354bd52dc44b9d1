use Rattle.registry_server.proofs.server.Server.answer_call.Goals as goal

pub returns-clause-replies : goal.returns-clause-replies
returns-clause-replies c = rw c.group-group.ensures c.answer_in.ensures.replies

pub returns-clause-state : goal.returns-clause-state
returns-clause-state c = rw c.group-group.ensures c.answer_in.ensures.state
