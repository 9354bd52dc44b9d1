-- The new log, told by its state.
use Rattle.std.proofs.Common.{◌≡◌, ℕ, List, subst}
use Rattle.disk_core.specs.Images.{EachImage}
use Rattle.disk_core.specs.Views.{DiskView, Passes}
use Rattle.quorum_log.specs.Image.{Holds}
use Rattle.quorum_log.specs.Formats.{empty_log, IsFormatted, IsInFormat}
use Rattle.quorum_log.proofs.Moments.{settled_images}
use Rattle.clus_cli.specs.Commands.{empty_registry}

pub empty_formatted : (cap : ℕ) (state : List ℕ) (w : DiskView) → state ≡ empty_registry → IsFormatted cap state w → EachImage (λ image. Holds image (empty_log cap empty_registry)) w.current
empty_formatted cap state w is made =
    let P : List ℕ → Type 0 = λ xs. IsFormatted cap xs w in
    let there : P empty_registry = subst P is made in
    settled_images (λ image. Holds image (empty_log cap empty_registry)) w.current there.settled there.holds

pub empty_passes : (cap : ℕ) (state : List ℕ) (v w : DiskView) → state ≡ empty_registry → Passes (EachImage (IsInFormat v.current cap state)) v w → Passes (EachImage (IsInFormat v.current cap empty_registry)) v w
empty_passes cap state v w is passes = let P : List ℕ → Type 0 = λ xs. Passes (EachImage (IsInFormat v.current cap xs)) v w in subst P is passes
