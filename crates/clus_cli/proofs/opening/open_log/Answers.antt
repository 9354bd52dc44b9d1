use Rattle.std.proofs.lemmas.Result.{err_from_is_err_and}
use Rattle.quorum_log.proofs.Unchanged.{opened_behind_claim, opening_keeps}
use Rattle.clus_cli.proofs.OpenLaws.{contents_refused, held_before, opening_refused}
use Rattle.clus_cli.proofs.opening.open_log.Goals as goal

pub returns-in_err-found-clause-refused : goal.returns-in_err-found-clause-refused
returns-in_err-found-clause-refused g c =
    let p = err_from_is_err_and c.from_residual.result c.from_residual.ensures.1 in
    rw (p.1, p.2) (opening_refused (g.D.Disk.view c.args.disk.now) (g.D.Disk.view c.open.new.disk) c.in_err-found.field-0.0 c.in_err-found.ensures.fault c.in_err-found.ensures.calls)

pub returns-in_err-found-clause-unchanged : goal.returns-in_err-found-clause-unchanged
returns-in_err-found-clause-unchanged g c = opening_keeps 1 _ _ _ c.in_err-found.ensures.calls

pub returns-in_err-contents-clause-refused : goal.returns-in_err-contents-clause-refused
returns-in_err-contents-clause-refused g c =
    let p = err_from_is_err_and c.from_residual-in_err-contents.result c.from_residual-in_err-contents.ensures.1 in
    rw (p.1, p.2) (contents_refused (g.D.Disk.view c.args.disk.now) (g.D.Disk.view c.open.new.disk) _ c.in_ok-found.found c.in_err-contents.field-0.0
    c.in_ok-found.ensures.calls c.in_ok-found.ensures.found c.in_err-contents.ensures.fault)

pub returns-in_err-contents-clause-unchanged : goal.returns-in_err-contents-clause-unchanged
returns-in_err-contents-clause-unchanged g c = opening_keeps 1 _ _ _ c.in_ok-found.ensures.calls

pub returns-clause-found : goal.returns-clause-found
returns-clause-found g c = record {
  found = record {
    held_before = opened_behind_claim 1 _ _ _ c.in_ok-found.ensures.calls;
    held = c.in_ok-found.ensures.claimed.1;
    read = c.in_ok-found.ensures.read;
    good = λ told. record {
      holds = held_before (g.D.Disk.view c.args.disk.now) (g.D.Disk.view c.open.new.disk) _ c.in_ok-found.found c.in_ok-found.ensures.calls c.in_ok-found.ensures.found told;
      contents = c.in_ok-contents.contents;
      decoded = c.in_ok-contents.ensures.found;
    };
    limits = c.in_ok-found.ensures.limits;
  };
  decoded = c.in_ok-contents.ensures.found;
}

pub returns-clause-unchanged : goal.returns-clause-unchanged
returns-clause-unchanged g c = opening_keeps 1 _ _ _ c.in_ok-found.ensures.calls
