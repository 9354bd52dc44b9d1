use Rattle.std.proofs.Common.{◌≡◌, ℕ, length, arith, ap, subst, refl, ◌∙◌, List, Ok, Err, length-append}
use Rattle.std.proofs.lemmas.Result.{err_from_is_err_and}
use Rattle.quorum_log.specs.Layout.{image_size}
use Rattle.quorum_log.specs.Opening.{AnswersImage}
use Rattle.quorum_log.proofs.Opened.{refused_header, image_read, reads_rest}
use Rattle.quorum_log.proofs.opening.read_image.Goals as goal

pub returns-in_err-cap-clause-image : goal.returns-in_err-cap-clause-image
returns-in_err-cap-clause-image g c =
    let p = err_from_is_err_and c.from_residual-in_err-cap.result c.from_residual-in_err-cap.ensures.1 in
    let long : length c.read.new.into ≡ 64 = omega (arith, c.read.auto.into) in
    rw (p.1, p.2) (refused_header (g.D.Disk.view c.args.disk.now) (g.D.Disk.view c.read.new.self) c.read.new.into c.size.result c.in_err-cap.field-0.0
    long (c.size.ensures ∙ c.read.ensures.same.size) c.in_ok-read.ensures.answer c.in_err-cap.ensures)

pub returns-clause-image : goal.returns-clause-image
returns-clause-image g c =
    let long : length c.read.new.into ≡ 64 = omega (arith, c.read.auto.into) in
    let rest = c.in_ok-read_rest.ensures.0 in
    let step = c.in_ok-read_rest.ensures.2 in
    let joined = c.in_ok-read_rest.ensures.3 refl in
    let whole : length c.read_rest.new.image.items ≡ image_size c.in_ok-cap.cap =
    omega (arith, ap (λ xs. length xs) joined, length-append c.read.new.into rest, c.in_ok-read_rest.ensures.1, c.in_ok-image.ensures.len, c.image_size.ensures) in
    image_read (g.D.Disk.view c.args.disk.now) (g.D.Disk.view c.read.new.self) c.read.new.into rest c.read_rest.new.image.items c.size.result c.in_ok-cap.cap
    long (c.size.ensures ∙ c.read.ensures.same.size) c.in_ok-read.ensures.answer c.in_ok-cap.ensures.0 c.in_ok-cap.ensures.1 c.in_ok-cap.ensures.2
    c.read.ensures.current c.read.ensures.same.tells step.answer joined whole

pub returns-in_err-read_rest-clause-calls : goal.returns-in_err-read_rest-clause-calls
returns-in_err-read_rest-clause-calls g c =
    let p = err_from_is_err_and c.from_residual-in_err-read_rest.result c.from_residual-in_err-read_rest.ensures.1 in
    let long : length c.read.new.into ≡ 64 = omega (arith, c.read.auto.into) in
    rw (p.1, p.2) (reads_rest _ _ _ c.read.new.into c.in_err-read_rest.ensures.0 c.size.result c.in_ok-cap.cap c.image_size.result (Err c.in_err-read_rest.field-0.0) _
    long (c.size.ensures ∙ c.read.ensures.same.size) c.in_ok-read.ensures c.in_ok-cap.ensures.1 c.in_ok-cap.ensures.2 c.image_size.ensures
    (omega (arith, c.in_err-read_rest.ensures.1, c.in_ok-image.ensures.len)) c.in_err-read_rest.ensures.2 refl)

pub returns-clause-calls : goal.returns-clause-calls
returns-clause-calls g c = λ result answers.
    let long : length c.read.new.into ≡ 64 = omega (arith, c.read.auto.into) in
    let P : List ℕ → Type 0 = λ image. AnswersImage image (Ok tt) result in
    reads_rest _ _ _ c.read.new.into c.in_ok-read_rest.ensures.0 c.size.result c.in_ok-cap.cap c.image_size.result (Ok tt) result
    long (c.size.ensures ∙ c.read.ensures.same.size) c.in_ok-read.ensures c.in_ok-cap.ensures.1 c.in_ok-cap.ensures.2 c.image_size.ensures
    (omega (arith, c.in_ok-read_rest.ensures.1, c.in_ok-image.ensures.len)) c.in_ok-read_rest.ensures.2 (subst P (c.in_ok-read_rest.ensures.3 refl) answers)
