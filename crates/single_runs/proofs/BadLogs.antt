-- A run ends at a log at fault where the log is, and there alone.
use Rattle.std.proofs.Common.{◌≡◌, ℕ, ◌+◌, ◌≤◌, Bool, IsTrue, List, [], length, get_or, Option, Result, Ok, Err, inl, inr, refl, sym, ap, ◌∙◌, subst, arith}
use Rattle.edge_io.specs.Visits.{Visits}
use Rattle.disk_core.specs.Views.{DiskView}
use Rattle.quorum_log.specs.declared.found.Found.{Found}
use Rattle.quorum_log.specs.Checks.{IsBadImage}
use Rattle.quorum_log.specs.Formats.{empty_log}
use Rattle.quorum_log.specs.Image.{Holds as HoldsLog}
use Rattle.quorum_log.specs.Layout.{image_size}
use Rattle.quorum_log.specs.Opening.{WasRead}
use Rattle.quorum_log.proofs.Halves.{has_same}
use Rattle.quorum_log.proofs.OneFault as checks
use Rattle.quorum_log.proofs.OneLog.{one_log}
use Rattle.quorum_log.proofs.Transfers.{holds_seen}
use Rattle.quorum_log.proofs.Unchanged.{opening_keeps}
use Rattle.quorum_log.proofs.Places.{SameWithin}
use Rattle.log_contents.specs.declared.contents.LogContents.{LogContents}
use Rattle.log_contents.specs.Contents.{IsContents}
use Rattle.log_contents.specs.Faults.{IsFaultAt}
use Rattle.log_contents.proofs.Exact.{no_contents}
use Rattle.log_contents.proofs.OneFault as contents
use Rattle.log_order.proofs.Steps.{order_empty}
use Rattle.record_log.specs.Opening.{IsBadLog as IsBadDisk}
use Rattle.cluster_member.specs.States.{MemberState}
use Rattle.single_items.specs.Alone.{AloneRun}
use Rattle.single_log.specs.Contents.{first_contents, first_log}
use Rattle.single_server.specs.declared.ended.Ended.{Ended}
use Rattle.single_server.specs.declared.ended.Ended.TheVariants.{BadLog, DiskFault, Done, Fenced, NoMemory, ReadFault, WriteFault}
use Rattle.single_server.specs.Begins.{BeginsOn, FindsBad, HasFound, Holds, NotBegun, WasBlank, new_cap, new_state}
use Rattle.single_server.specs.Serving.{ServesDoor}
use Rattle.single_server.specs.Session.{Serves}
use Rattle.single_runs.specs.BadLogs.{EndsAtBad, FoundBad, IsBadLog}
use Rattle.single_runs.proofs.Keeps.{told_then}

-- ---- one log, and one place

read_holds : (v : DiskView) (x : Found) → WasRead v x → IsTrue v.tells → HoldsLog v.current.seen x
read_holds v x read told =
    let has = read.seen told in
    let size = read.size in
    let whole : SameWithin 0 (image_size x.cap) read.image v.current.seen = subst (λ (n : ℕ). SameWithin 0 n read.image v.current.seen) size (has_same v.current.seen read.image has) in
    holds_seen read.image v.current.seen x (let within = has.within in omega (arith, within, size)) whole read.holds

same_fault : (image : List ℕ) (x y : Found) (place : ℕ) → HoldsLog image x → HoldsLog image y → IsFaultAt y place → IsFaultAt x place
same_fault image x y place is other fault = subst (λ (z : Found). IsFaultAt z place) (one_log image y x other is) fault

room : (image : List ℕ) (size : ℕ) (x : Found) → length image ≡ size → HoldsLog image x → image_size x.cap ≤ size
room image size x sized is = (let whole = is.whole in omega (arith, sized, whole))

one_place : (image : List ℕ) (size a b : ℕ) → length image ≡ size → IsBadLog image size a → IsBadLog image size b → a ≡ b
one_place image size a b sized (inl x) (inl y) = checks.one_fault image size a b x y
one_place image size a b sized (inl x) (inr y) = absurd (checks.no_fault image size a y.0 y.1 (room image size y.0 sized y.1) x)
one_place image size a b sized (inr x) (inl y) = absurd (checks.no_fault image size b x.0 x.1 (room image size x.0 sized x.1) y)
one_place image size a b sized (inr x) (inr y) = contents.one_fault x.0 a b x.2 (same_fault image x.0 y.0 b x.1 y.1 y.2)

-- A log whose contents decode isn't at fault.
not_bad : (image : List ℕ) (size place : ℕ) (x : Found) (inside : LogContents) → image_size x.cap ≤ size → HoldsLog image x → IsContents x inside → IsBadLog image size place → ⊥
not_bad image size place x inside fits holds decodes (inl check) = checks.no_fault image size place x holds fits check
not_bad image size place x inside fits holds decodes (inr (y, is, fault)) = no_contents x place inside (same_fault image x y place holds is fault) decodes

blank_not_bad : (image : List ℕ) (size place : ℕ) → get_or image 0 0 ≡ 0 → IsBadLog image size place → ⊥
blank_not_bad image size place zero (inl check) = check.0 zero
blank_not_bad image size place zero (inr (y, is, fault)) = is.commit zero

-- ---- the run didn't begin

module _ (place : ℕ) (v ready w : DiskView) (told : IsTrue v.tells) (told_ready : IsTrue ready.tells) (same_size : ready.size ≡ v.size) where
  bad_at : (found : Found) → HasFound v found ready → IsBadDisk ready place → IsBadLog v.current.seen v.size place
  bad_at found has (inl blank) = absurd ((has.stands told).1.holds.commit (blank.1 told_ready))
  bad_at found has (inr (inl check)) =
      let seen = opening_keeps 1 v ready (Ok found) has.calls told in
      inl (subst (λ (n : ℕ). IsBadImage v.current.seen n place) same_size (subst (λ (c : List ℕ). IsBadImage c ready.size place) seen (check told_ready)))
  bad_at found has (inr (inr (x, read, fault))) =
      let seen = opening_keeps 1 v ready (Ok found) has.calls told in
      inr (x, subst (λ (c : List ℕ). HoldsLog c x) seen (read_holds ready x read told_ready), fault)

  made_good : (blank : WasBlank v ready) → image_size new_cap ≤ ready.size → IsBadDisk ready place → ⊥
  unfolding new_state
  made_good blank fits bad =
      let formatted = blank.made.formatted (told_then v blank.between blank.same_disk.tells told) in
      elim bad [
        | inl zero ↦ formatted.holds.commit (zero.1 told_ready)
        | inr (inl check) ↦ not_bad ready.current.seen ready.size place (first_log new_cap) (first_contents new_cap) fits formatted.holds (order_empty new_cap (omega arith, omega arith)).decodes (inl (check told_ready))
        | inr (inr part) ↦
            not_bad ready.current.seen ready.size place (first_log new_cap) (first_contents new_cap) fits formatted.holds (order_empty new_cap (omega arith, omega arith)).decodes
            (inr (part.0, read_holds ready part.0 part.1 told_ready, part.2))
      ]

pub found_bad : (place : ℕ) (v w : DiskView) → 34_209_856 ≤ v.size → IsTrue v.tells → FindsBad place v w → FoundBad place v w
found_bad place v w size told (inl (bad, calls)) = record { bad = inl (bad told); unchanged = opening_keeps 1 v w _ calls told }
found_bad place v w size told (inr (count, ready, inl (found, has, is), same, bad, claims)) =
    let told_ready = told_then v ready same.tells told in
    record { bad = bad_at place v ready w told told_ready same.size found has bad; unchanged = claims.seen told_ready ∙ opening_keeps 1 v ready (Ok found) has.calls told }
found_bad place v w size told (inr (count, ready, inr (blank, is), same, bad, claims)) =
    let same_size = same.size in
    absurd (made_good place v ready w told (told_then v ready same.tells told) same_size blank (omega (arith, size, same_size)) bad)

-- ---- it began

pub begun_good : (stamp : ℕ) (v : DiskView) (first : AloneRun) (x : MemberState) (w : DiskView) (b : BeginsOn stamp v first x w) (place : ℕ) → IsTrue v.tells → IsBadLog v.current.seen v.size place → ⊥
begun_good stamp v first x w b place told bad = elim b.holds [
  | inl found ↦
      let told_ready = told_then v b.ready b.same_before.tells told in
      let seen = b.claims.seen told_ready ∙ opening_keeps 1 v b.ready (Ok found.0) found.1.calls told in
      let holds : HoldsLog v.current.seen b.opened.found = subst (λ (c : List ℕ). HoldsLog c b.opened.found) seen (b.opened.stands told_ready).holds in
      let within = b.opened.read.within in
      let same_size = b.same_before.size in
      not_bad v.current.seen v.size place b.opened.found b.opened.recovered.contents (omega (arith, within, same_size)) holds b.opened.recovered.holds bad
  | inr blank ↦ blank_not_bad v.current.seen v.size place (blank.0.blank.blank told) bad
]

-- ---- how it ends

module _ (v w : DiskView) (size : 34_209_856 ≤ v.size) (told : IsTrue v.tells) (sized : length v.current.seen ≡ v.size) (place : ℕ) (bad : IsBadLog v.current.seen v.size place) where
  at_one : (at : ℕ) → NotBegun (BadLog at) v w → at ≡ place
  at_one at fault = one_place v.current.seen v.size at place sized (found_bad at v w size told fault.1).bad bad

  pub session_exact : (ended : Ended) (stamp : ℕ) (left now written holds : Option (List ℕ)) → Serves ended stamp left now written holds v w → EndsAtBad place ended
  session_exact Done stamp left now written holds h = absurd (begun_good stamp v h.start.first h.start.member h.start.disk h.begins place told bad)
  session_exact ReadFault stamp left now written holds h = absurd (begun_good stamp v h.start.first h.start.member h.start.disk h.begins place told bad)
  session_exact WriteFault stamp left now written holds h = absurd (begun_good stamp v h.start.first h.start.member h.start.disk h.begins place told bad)
  session_exact DiskFault stamp left now written holds h = tt
  session_exact NoMemory stamp left now written holds h = tt
  session_exact (BadLog at) stamp left now written holds h = at_one at h.fault
  session_exact (Fenced held) stamp left now written holds h = tt

  pub door_exact : (ended : Ended) (stamp count : ℕ) (old now : Option Visits) → ServesDoor ended stamp count old now v w → EndsAtBad place ended
  door_exact Done stamp count old now h = absurd (begun_good stamp v h.start.first h.start.member h.start.disk h.begins place told bad)
  door_exact ReadFault stamp count old now h = absurd (begun_good stamp v h.start.first h.start.member h.start.disk h.begins place told bad)
  door_exact WriteFault stamp count old now h = absurd h
  door_exact DiskFault stamp count old now h = tt
  door_exact NoMemory stamp count old now h = tt
  door_exact (BadLog at) stamp count old now h = at_one at h.fault
  door_exact (Fenced held) stamp count old now h = tt

pub session_bad : (v w : DiskView) → 34_209_856 ≤ v.size → (ended : Ended) (stamp : ℕ) (left now written holds : Option (List ℕ)) → Serves ended stamp left now written holds v w
    → (place : ℕ) → ended ≡ BadLog place → IsTrue v.tells → FoundBad place v w
session_bad v w size ended stamp left now written holds h place is told =
    found_bad place v w size told (subst (λ (r : Ended). Serves r stamp left now written holds v w) is h).fault.1

pub door_bad : (v w : DiskView) → 34_209_856 ≤ v.size → (ended : Ended) (stamp count : ℕ) (old now : Option Visits) → ServesDoor ended stamp count old now v w
    → (place : ℕ) → ended ≡ BadLog place → IsTrue v.tells → FoundBad place v w
door_bad v w size ended stamp count old now h place is told = found_bad place v w size told (subst (λ (r : Ended). ServesDoor r stamp count old now v w) is h).fault.1
