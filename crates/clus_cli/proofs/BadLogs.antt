-- A log is bad at one place at most, and a good one isn't bad.
use Rattle.std.proofs.Common.{◌≡◌, ℕ, ◌≤◌, IsTrue, List, length, Option, sym, ◌∙◌, subst, inl, inr, arith}
use Rattle.disk_core.specs.Views.{DiskView}
use Rattle.quorum_log.specs.declared.found.Found.{Found}
use Rattle.quorum_log.specs.Image.{Holds}
use Rattle.quorum_log.specs.Layout.{image_size}
use Rattle.quorum_log.proofs.OneFault as checks
use Rattle.quorum_log.proofs.OneLog.{one_log}
use Rattle.log_contents.specs.Faults.{IsFaultAt}
use Rattle.log_contents.proofs.Exact.{no_contents}
use Rattle.log_contents.proofs.OneFault as contents
use Rattle.clus_cli.specs.declared.status.Status.{Status}
use Rattle.clus_cli.specs.declared.status.Status.TheVariants as statuses
use Rattle.clus_cli.specs.Showlog.{EndsAtBad, IsBadLog, IsGoodLog, IsRefused}

room : (image : List ℕ) (size : ℕ) (x : Found) → length image ≡ size → Holds image x → image_size x.cap ≤ size
room image size x sized is = omega (arith, sized, is.whole)

same_fault : (image : List ℕ) (x y : Found) (place : ℕ) → Holds image x → Holds image y → IsFaultAt y place → IsFaultAt x place
same_fault image x y place is is' fault = subst (λ (z : Found). IsFaultAt z place) (one_log image y x is' is) fault

one_place : (image : List ℕ) (size a b : ℕ) → length image ≡ size → IsBadLog image size a → IsBadLog image size b → a ≡ b
one_place image size a b sized (inl x) (inl y) = x.1 ∙ sym y.1
one_place image size a b sized (inl x) (inr (inl y)) = absurd (y.0 x.0)
one_place image size a b sized (inl x) (inr (inr y)) = absurd (y.1.commit x.0)
one_place image size a b sized (inr (inl x)) (inl y) = absurd (x.0 y.0)
one_place image size a b sized (inr (inl x)) (inr (inl y)) = checks.one_fault image size a b x y
one_place image size a b sized (inr (inl x)) (inr (inr y)) = absurd (checks.no_fault image size a y.0 y.1 (room image size y.0 sized y.1) x)
one_place image size a b sized (inr (inr x)) (inl y) = absurd (x.1.commit y.0)
one_place image size a b sized (inr (inr x)) (inr (inl y)) = absurd (checks.no_fault image size b x.0 x.1 (room image size x.0 sized x.1) y)
one_place image size a b sized (inr (inr x)) (inr (inr y)) = contents.one_fault x.0 a b x.2 (same_fault image x.0 y.0 b x.1 y.1 y.2)

not_bad : (image : List ℕ) (size place : ℕ) (x : Found) → length image ≡ size → IsGoodLog image x → IsBadLog image size place → ⊥
not_bad image size place x sized good (inl blank) = good.holds.commit blank.0
not_bad image size place x sized good (inr (inl check)) = checks.no_fault image size place x good.holds (room image size x sized good.holds) check
not_bad image size place x sized good (inr (inr part)) =
    no_contents x place good.contents (same_fault image x part.0 place good.holds part.1 part.2) good.decoded

pub refused_at : (v : DiskView) (before : Option (List ℕ)) (status : Status) (w : DiskView) (now : Option (List ℕ)) (place : ℕ) → IsTrue v.tells → length v.current.seen ≡ v.size
    → IsRefused v before status w now → IsBadLog v.current.seen v.size place → EndsAtBad place status
refused_at v before (statuses.BadLog at) w now place told sized refused bad = one_place v.current.seen v.size at place sized (refused.why.1 told) bad
refused_at v before statuses.DiskFault w now place told sized refused bad = tt
refused_at v before (statuses.Fenced held) w now place told sized refused bad = tt
refused_at v before statuses.NoMemory w now place told sized refused bad = tt
refused_at v before statuses.Done w now place told sized refused bad = absurd refused.why
refused_at v before (statuses.BadScript line fault) w now at told sized refused bad = absurd refused.why
refused_at v before statuses.WriteFault w now place told sized refused bad = absurd refused.why
refused_at v before statuses.Usage w now place told sized refused bad = absurd refused.why
refused_at v before statuses.ReadFault w now place told sized refused bad = absurd refused.why
refused_at v before statuses.TooLong w now at told sized refused bad = absurd refused.why
refused_at v before (statuses.BadCommand line column) w now at told sized refused bad = absurd refused.why
refused_at v before (statuses.BadReply place) w now at told sized refused bad = absurd refused.why
refused_at v before statuses.NoPeer w now at told sized refused bad = absurd refused.why

pub shown_at : {A : Type 0} (v : DiskView) (x : Found) (place : ℕ) → IsTrue v.tells → length v.current.seen ≡ v.size → (IsTrue v.tells → IsGoodLog v.current.seen x)
    → IsBadLog v.current.seen v.size place → A
shown_at v x place told sized good bad = absurd (not_bad v.current.seen v.size place x sized (good told) bad)
