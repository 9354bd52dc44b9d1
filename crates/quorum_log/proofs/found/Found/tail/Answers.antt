use Rattle.std.proofs.Common.{◌≡◌, ◌+◌, ◌<◌, List, ◌∷◌, ◌∙◌, length, drop, get_or, arith, ap, sym}
use Rattle.std.proofs.lemmas.List.{drop_more}
use Rattle.quorum_log.specs.declared.found.FoundRecord.{FoundRecord}
use Rattle.quorum_log.specs.Image.{commit_behind, list_at, tail_of}
use Rattle.quorum_log.proofs.Kept.{behind-le}
use Rattle.quorum_log.proofs.found.Found.tail.Goals as goal

pub overflow_add-at-3 : goal.overflow_add-at-3
overflow_add-at-3 c =
    let x = c.args.self.now in
    omega (arith, c.requires.small, behind-le (list_at x) x.records, c.half_at-start.ensures, ap (λ xs. length xs) c.as_slice.ensures, ap (λ xs. length xs) c.as_slice-2.ensures)

pub overflow_add-at-in-records-2 : goal.overflow_add-at-in-records-2
overflow_add-at-in-records-2 c =
    let x = c.args.self.now in
    let r = c.record-item.result in
    let i = c.records.record-index in
    let below : i < length x.records = omega (arith, c.records-test.true, ap (λ xs. length xs) c.as_slice-records.ensures) in
    let next : drop i x.records ≡ get_or x.records i r ∷ drop (i + 1) x.records = drop_more x.records i r below in
    let this : get_or x.records i r ≡ r = sym (c.record-item.is ∙ ap (λ (xs : List FoundRecord). get_or xs i r) c.as_slice-records.ensures) in
    let inv : commit_behind c.records.at (drop i x.records) ≡ tail_of x = rw c.as_slice-records.ensures at c.records.invariant in
    let more : commit_behind (c.records.at + 5 + length r.bytes) (drop (i + 1) x.records) ≡ tail_of x = rw (next, this) at inv in
    omega (arith, c.requires.small, behind-le (c.records.at + 5 + length r.bytes) (drop (i + 1) x.records), more, ap (λ xs. length xs) c.as_slice-in-records.ensures)
