use Rattle.std.proofs.Common.{refl, arith, Ok, Err, inl}
use Rattle.std.proofs.lemmas.Result.{err_from_is_err_and}
use Rattle.quorum_log.specs.declared.fault.OpenFault.TheVariants.{Memory}
use Rattle.quorum_log.specs.Opening.{IsInOpen}
use Rattle.quorum_log.specs.Image.{list_at, end_of}
use Rattle.quorum_log.proofs.Kept.{tail_within}
use Rattle.quorum_log.proofs.CallLaws.{made_same, same_disk-trans}
use Rattle.quorum_log.proofs.Opened.{taken_err, taken_ok, refused_image, refused_halves, passes_read, found_in, opened, was_read, image_fault}
use Rattle.quorum_log.proofs.log.Log.open.Goals as goal

pub returns-in_err-take_over-clause-fault : goal.returns-in_err-take_over-clause-fault
returns-in_err-take_over-clause-fault g c =
    let p = err_from_is_err_and c.from_residual.result c.from_residual.ensures.1 in
    rw (p.1, p.2) (taken_err c.args.claim (g.D.Disk.view c.args.disk.now) (g.D.Disk.view c.take_over.new.disk) c.in_err-take_over.field-0.0 c.in_err-take_over.ensures).0

pub returns-in_err-take_over-clause-any_moment : goal.returns-in_err-take_over-clause-any_moment
returns-in_err-take_over-clause-any_moment g c =
    (taken_err c.args.claim (g.D.Disk.view c.args.disk.now) (g.D.Disk.view c.take_over.new.disk) c.in_err-take_over.field-0.0 c.in_err-take_over.ensures).1

pub read_image-requires : goal.read_image-requires
read_image-requires g c =
    let taken = taken_ok c.args.claim (g.D.Disk.view c.args.disk.now) (g.D.Disk.view c.take_over.new.disk) c.in_ok-take_over.field-0 c.in_ok-take_over.ensures in
    rw taken.same.size c.requires

pub returns-in_err-image-clause-fault : goal.returns-in_err-image-clause-fault
returns-in_err-image-clause-fault g c =
    let taken = taken_ok c.args.claim (g.D.Disk.view c.args.disk.now) (g.D.Disk.view c.take_over.new.disk) c.in_ok-take_over.field-0 c.in_ok-take_over.ensures in
    let p = err_from_is_err_and c.from_residual-in_err-image.result c.from_residual-in_err-image.ensures.1 in
    rw (p.1, p.2) (refused_image c.args.claim (g.D.Disk.view c.args.disk.now) (g.D.Disk.view c.take_over.new.disk) (g.D.Disk.view c.read_image.new.disk) c.in_err-image.field-0.0 taken c.read_image.ensures.only_read c.in_err-image.ensures.image)

pub returns-in_err-image-clause-any_moment : goal.returns-in_err-image-clause-any_moment
returns-in_err-image-clause-any_moment g c = λ told.
    let taken = taken_ok c.args.claim (g.D.Disk.view c.args.disk.now) (g.D.Disk.view c.take_over.new.disk) c.in_ok-take_over.field-0 c.in_ok-take_over.ensures in
    passes_read (IsInOpen (g.D.Disk.view c.args.disk.now).current c.args.claim) _ _ _ c.read_image.ensures.only_read (taken.passes told)

pub returns-in_err-found-clause-fault : goal.returns-in_err-found-clause-fault
returns-in_err-found-clause-fault g c =
    let taken = taken_ok c.args.claim (g.D.Disk.view c.args.disk.now) (g.D.Disk.view c.take_over.new.disk) c.in_ok-take_over.field-0 c.in_ok-take_over.ensures in
    let p = err_from_is_err_and c.from_residual-in_err-found.result c.from_residual-in_err-found.ensures.1 in
    rw (p.1, p.2) (refused_halves c.args.claim (g.D.Disk.view c.args.disk.now) (g.D.Disk.view c.take_over.new.disk) (g.D.Disk.view c.read_image.new.disk) c.in_ok-image.image.items c.in_ok-image.cap c.in_err-found.field-0.0 taken
    c.in_ok-image.ensures.image (rw c.deref.ensures.value at c.in_err-found.ensures))

pub returns-in_err-found-clause-any_moment : goal.returns-in_err-found-clause-any_moment
returns-in_err-found-clause-any_moment g c = λ told.
    let taken = taken_ok c.args.claim (g.D.Disk.view c.args.disk.now) (g.D.Disk.view c.take_over.new.disk) c.in_ok-take_over.field-0 c.in_ok-take_over.ensures in
    passes_read (IsInOpen (g.D.Disk.view c.args.disk.now).current c.args.claim) _ _ _ c.read_image.ensures.only_read (taken.passes told)

pub of-requires-clause-tail : goal.of-requires-clause-tail
of-requires-clause-tail g c =
    let x = c.in_ok-found.found in
    let holds = found_in (g.D.Disk.view c.take_over.new.disk) c.in_ok-image.image.items c.in_ok-image.cap x c.in_ok-image.ensures.image (rw c.deref.ensures.value at c.in_ok-found.ensures) in
    tail_within c.in_ok-image.image.items (end_of x) (list_at x) x.records (omega (arith, holds.state_most, holds.last_most)) holds.records

pub returns-in_err-log-clause-any_moment : goal.returns-in_err-log-clause-any_moment
returns-in_err-log-clause-any_moment g c = λ told.
    let taken = taken_ok c.args.claim (g.D.Disk.view c.args.disk.now) (g.D.Disk.view c.take_over.new.disk) c.in_ok-take_over.field-0 c.in_ok-take_over.ensures in
    passes_read (IsInOpen (g.D.Disk.view c.args.disk.now).current c.args.claim) _ _ _ c.read_image.ensures.only_read (taken.passes told)

pub returns-clause-found : goal.returns-clause-found
returns-clause-found g c = λ told.
    let taken = taken_ok c.args.claim (g.D.Disk.view c.args.disk.now) (g.D.Disk.view c.take_over.new.disk) c.in_ok-take_over.field-0 c.in_ok-take_over.ensures in
    rw c.in_ok-log.ensures (opened c.args.claim (g.D.Disk.view c.args.disk.now) (g.D.Disk.view c.take_over.new.disk) (g.D.Disk.view c.read_image.new.disk) c.in_ok-image.image.items c.in_ok-image.cap c.in_ok-found.found
    c.is_valid-other_valid.result taken c.in_ok-image.ensures.image c.read_image.ensures.only_read (rw c.deref.ensures.value at c.in_ok-found.ensures) (rw c.deref-2.ensures.value at c.is_valid-other_valid.ensures) told)

pub returns-clause-limits : goal.returns-clause-limits
returns-clause-limits g c =
    let holds = found_in (g.D.Disk.view c.take_over.new.disk) c.in_ok-image.image.items c.in_ok-image.cap c.in_ok-found.found c.in_ok-image.ensures.image (rw c.deref.ensures.value at c.in_ok-found.ensures) in
    record { cap_range = holds.cap_range; state_most = holds.state_most; last_most = holds.last_most; count = holds.count }

pub returns-clause-claimed : goal.returns-clause-claimed
returns-clause-claimed g c =
    let taken = taken_ok c.args.claim (g.D.Disk.view c.args.disk.now) (g.D.Disk.view c.take_over.new.disk) c.in_ok-take_over.field-0 c.in_ok-take_over.ensures in
    (rw c.in_ok-log.ensures refl, rw c.read_image.ensures.only_read.current taken.held)

pub returns-clause-any_moment : goal.returns-clause-any_moment
returns-clause-any_moment g c = λ told.
    let taken = taken_ok c.args.claim (g.D.Disk.view c.args.disk.now) (g.D.Disk.view c.take_over.new.disk) c.in_ok-take_over.field-0 c.in_ok-take_over.ensures in
    passes_read (IsInOpen (g.D.Disk.view c.args.disk.now).current c.args.claim) _ _ _ c.read_image.ensures.only_read (taken.passes told)

pub returns-in_err-image-clause-calls : goal.returns-in_err-image-clause-calls
returns-in_err-image-clause-calls g c =
    let p = err_from_is_err_and c.from_residual-in_err-image.result c.from_residual-in_err-image.ensures.1 in
    inl (g.D.Disk.view c.take_over.new.disk, c.in_ok-take_over.ensures, rw (p.1, p.2) c.in_err-image.ensures.calls)

pub returns-in_err-found-clause-calls : goal.returns-in_err-found-clause-calls
returns-in_err-found-clause-calls g c =
    let p = err_from_is_err_and c.from_residual-in_err-found.result c.from_residual-in_err-found.ensures.1 in
    let fault = image_fault (g.D.Disk.view c.take_over.new.disk) c.in_ok-image.image.items c.in_ok-image.cap c.in_err-found.field-0.0 c.in_ok-image.ensures.image (rw c.deref.ensures.value at c.in_err-found.ensures) in
    inl (g.D.Disk.view c.take_over.new.disk, c.in_ok-take_over.ensures, rw (p.1, p.2) (c.in_ok-image.ensures.calls (Err c.in_err-found.field-0.0) fault))

pub returns-in_err-log-clause-calls : goal.returns-in_err-log-clause-calls
returns-in_err-log-clause-calls g c =
    let p = err_from_is_err_and c.from_residual-in_err-log.result c.from_residual-in_err-log.ensures.1 in
    inl (g.D.Disk.view c.take_over.new.disk, c.in_ok-take_over.ensures, rw (p.1, p.2) (c.in_ok-image.ensures.calls (Err Memory) tt))

pub returns-clause-calls : goal.returns-clause-calls
returns-clause-calls g c =
    let holds = found_in (g.D.Disk.view c.take_over.new.disk) c.in_ok-image.image.items c.in_ok-image.cap c.in_ok-found.found c.in_ok-image.ensures.image (rw c.deref.ensures.value at c.in_ok-found.ensures) in
    inl (g.D.Disk.view c.take_over.new.disk, c.in_ok-take_over.ensures, c.in_ok-image.ensures.calls (Ok c.in_ok-found.found) holds)

pub returns-clause-value : goal.returns-clause-value
returns-clause-value g c = (c.is_valid-other_valid.result, c.in_ok-log.ensures)

pub returns-clause-read : goal.returns-clause-read
returns-clause-read g c =
    let taken = taken_ok c.args.claim (g.D.Disk.view c.args.disk.now) (g.D.Disk.view c.take_over.new.disk) c.in_ok-take_over.field-0 c.in_ok-take_over.ensures in
    was_read c.args.claim _ _ c.in_ok-image.image.items c.in_ok-image.cap c.in_ok-found.found taken c.in_ok-image.ensures.image (rw c.deref.ensures.value at c.in_ok-found.ensures)

pub returns-in_err-image-clause-same : goal.returns-in_err-image-clause-same
returns-in_err-image-clause-same g c = same_disk-trans _ _ _ (made_same _ _ _ _ c.in_ok-take_over.ensures) c.read_image.ensures.only_read.same

pub returns-in_err-found-clause-same : goal.returns-in_err-found-clause-same
returns-in_err-found-clause-same g c = same_disk-trans _ _ _ (made_same _ _ _ _ c.in_ok-take_over.ensures) c.read_image.ensures.only_read.same

pub returns-in_err-log-clause-same : goal.returns-in_err-log-clause-same
returns-in_err-log-clause-same g c = same_disk-trans _ _ _ (made_same _ _ _ _ c.in_ok-take_over.ensures) c.read_image.ensures.only_read.same

pub returns-clause-same : goal.returns-clause-same
returns-clause-same g c = same_disk-trans _ _ _ (made_same _ _ _ _ c.in_ok-take_over.ensures) c.read_image.ensures.only_read.same

pub returns-in_err-take_over-clause-same : goal.returns-in_err-take_over-clause-same
returns-in_err-take_over-clause-same g c = made_same _ _ _ _ c.in_err-take_over.ensures
