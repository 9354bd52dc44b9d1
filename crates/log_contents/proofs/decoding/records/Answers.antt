use Rattle.std.proofs.Common.{◌+◌, List, ◌∷◌, [], Err, subst, ◌∙◌, length-append, arith}
use Rattle.std.proofs.lemmas.List.{take_all}
use Rattle.std.proofs.lemmas.Result.{err_from_is_err_and}
use Rattle.quorum_log.specs.declared.found.FoundRecord.{FoundRecord}
use Rattle.log_contents.specs.Contents.{AreRecords}
use Rattle.log_contents.specs.Faults.{ArePart}
use Rattle.log_contents.proofs.Lists as lists
use Rattle.log_contents.proofs.decoding.records.Goals as goal

pub returns-in_err-next : goal.returns-in_err-next
returns-in_err-next c =
    let found = c.args.found.now in
    let all = c.as_slice-stored-items.result.now in
    let h = c.records.invariant in
    let number = c.len.result + 1 in
    let items = c.records.items.ok.0 in
    let told = c.len.ensures in
    let many = h.many in
    let next : lists.IsNext found.version found.base number c.records.stored-index all c.stored-item.result c.as_slice-bytes.result.now c.records.items.items = record {
      within = c.records-test.true;
      is = c.stored-item.is;
      same = c.as_slice-bytes.ensures;
      counted = omega (arith, told, items, many);
      good = h.good;
    } in
    let p = err_from_is_err_and c.from_residual.result c.from_residual.ensures.1 in
    rw (p.1, p.2) (subst (λ (l : List FoundRecord). ArePart found.version (found.base + 1) l (Err c.in_err-next.field-0.0)) c.as_slice-stored-items.ensures (lists.fails found.version found.base number c.records.stored-index all c.stored-item.result c.as_slice-bytes.result.now c.records.items.items c.in_err-next.field-0.0 next c.in_err-next.ensures))

pub records-preserved : goal.records-preserved
records-preserved c =
    let found = c.args.found.now in
    let all = c.as_slice-stored-items.result.now in
    let h = c.records.invariant in
    let number = c.len.result + 1 in
    let items = c.records.items.ok.0 in
    let told = c.len.ensures in
    let many = h.many in
    let next : lists.IsNext found.version found.base number c.records.stored-index all c.stored-item.result c.as_slice-bytes.result.now c.records.items.items = record {
      within = c.records-test.true;
      is = c.stored-item.is;
      same = c.as_slice-bytes.ensures;
      counted = omega (arith, told, items, many);
      good = h.good;
    } in
    rw c.in_ok-push.ensures.items (record {
      good = lists.read found.version found.base number c.records.stored-index all c.stored-item.result c.as_slice-bytes.result.now c.records.items.items c.in_ok-next.next next c.in_ok-next.ensures;
      many = omega (arith, many, length-append c.records.items.items (c.in_ok-next.next ∷ []));
    })

pub returns : goal.returns
returns c =
    let found = c.args.found.now in
    let all = c.as_slice-stored-items.result.now in
    let whole = take_all c.records.stored-index all c.records-test.false ∙ c.as_slice-stored-items.ensures in
    rw c.new.ensures (subst (λ (l : List FoundRecord). AreRecords found.version (found.base + 1) l c.records.items.items) whole c.records.invariant.good)
