use Rattle.std.proofs.Common.{◌≡◌, ℕ, ◌+◌, List, [], ◌∷◌, ◌++◌, length, arith, length-append}
use Rattle.quorum_log.specs.declared.found.FoundRecord.{FoundRecord}
use Rattle.quorum_log.specs.Changes.{with_record}
use Rattle.log_rows.proofs.log_disk.append_to.Goals as goal

one_more : (number base : ℕ) (records : List FoundRecord) (further : FoundRecord) → number ≡ base + length records → number + 1 ≡ base + length (records ++ further ∷ [])
one_more number base records further is = omega (arith, length-append {A = FoundRecord}, is)

pub returns : goal.returns
returns c =
    let kept = c.requires in
    record {
      held = with_record kept.held c.args.bytes.now;
      stands = c.in_ok-append.ensures.appended kept.held kept.stands;
      cap_is = kept.cap_is;
      number_is = one_more _ _ _ _ kept.number_is;
    }
