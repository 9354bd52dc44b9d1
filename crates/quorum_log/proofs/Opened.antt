-- What opening finds, from what its parts find.
use Rattle.std.proofs.Common.{◌≡◌, ◌≢◌, ℕ, ◌+◌, ◌-◌, ◌≤◌, inl, inr, IsTrue, Bool, not, ◌==◌, List, [], ◌∷◌, ◌++◌, length, get_or, None, Result, Ok, Err, IsOk, refl, sym, ap, ◌∙◌, subst, arith}
use Rattle.std.specs.Prelude.{⊤}
use Rattle.std.proofs.lemmas.List.{get_or_append_left}
use Rattle.disk_core.specs.declared.fault.DiskFault.{DiskFault}
use Rattle.disk_core.specs.declared.fault.DiskFault.TheVariants as disk_faults
use Rattle.disk_core.specs.Images.{Moment, Has, IsImage}
use Rattle.disk_core.specs.Views.{DiskView, Passes, moments}
use Rattle.disk_core.specs.Calls.{sync, claim, Step, ReadStep, Made, SameDisk}
use Rattle.quorum_log.specs.declared.fault.OpenFault.{OpenFault}
use Rattle.quorum_log.specs.declared.fault.OpenFault.TheVariants.{Failed, Fenced, Blank, BadImage, Memory}
use Rattle.quorum_log.specs.declared.found.Found.{Found}
use Rattle.quorum_log.specs.Layout.{image_size, number_at}
use Rattle.quorum_log.specs.Image.{Holds, other_of}
use Rattle.quorum_log.specs.Checks.{first_bad, header_checks, is_valid, HeaderFault, HalvesFault, IsBadImage}
use Rattle.quorum_log.specs.Readings.{IsFoundCurrent}
use Rattle.quorum_log.specs.Faults.{open_fault}
use Rattle.quorum_log.specs.Logs.{StandsFor, log_of}
use Rattle.quorum_log.specs.Opening.{OnlyRead, IsRead, WasRead, IsInOpen, ReadFails, ReadsImage, AnswersImage, OpenFails}
use Rattle.quorum_log.proofs.Moments.{passes_step, passes_trans, step_told, settled_images, rose_before}
use Rattle.quorum_log.proofs.CallLaws.{same_disk-trans}
use Rattle.quorum_log.proofs.Places.{SameWithin, same_number, within_part}
use Rattle.quorum_log.proofs.Halves.{has_same, has_joined, half_within, other_which}
use Rattle.quorum_log.proofs.Transfers.{header_refused, same_header, halves_refused, header_good, found_holds, holds_seen}

-- a read that failed
pub failed_read : (v w : DiskView) (at : ℕ) (bytes : List ℕ) (e : DiskFault) → ReadStep v at bytes (Err e) w → ReadFails v w (open_fault e)
failed_read v w at bytes disk_faults.Failed step = step.answer
failed_read v w at bytes (disk_faults.Fenced held) step = absurd step.answer

pub only_read : (v w : DiskView) (at : ℕ) (bytes : List ℕ) (result : Result ⊤ DiskFault) → ReadStep v at bytes result w → OnlyRead v w
only_read v w at bytes result step = record { same = step.same; past = step.past; current = step.current }

-- the header's fault is the disk's
pub refused_header : (v t : DiskView) (header : List ℕ) (size : ℕ) (e : OpenFault) → length header ≡ 64 → size ≡ v.size → (IsTrue v.tells → Has v.current.seen 0 header) → HeaderFault header size e → ReadFails v t e
refused_header v t header size Blank long sized has fault = λ told.
    let same = has_same v.current.seen header (has told) in
    same 0 (omega arith) (omega arith) ∙ fault
refused_header v t header size (BadImage place) long sized has fault = λ told.
    let same = has_same v.current.seen header (has told) in
    let P : ℕ → Type 0 = λ n. HeaderFault v.current.seen n (BadImage place) in
    subst P sized (header_refused header v.current.seen size (BadImage place) (within_part 0 (length header) 0 64 header v.current.seen same (omega arith) (omega arith)) fault)
refused_header v t header size Failed long sized has fault = absurd fault
refused_header v t header size (Fenced held) long sized has fault = absurd fault
refused_header v t header size Memory long sized has fault = absurd fault

-- the two reads give the image
pub image_read : (v u : DiskView) (header rest image : List ℕ) (size cap : ℕ) → length header ≡ 64 → size ≡ v.size → (IsTrue v.tells → Has v.current.seen 0 header)
    → get_or header 0 0 ≢ 0 → first_bad (header_checks header size) ≡ None → cap ≡ number_at header 12 4
    → u.current ≡ v.current → u.tells ≡ v.tells → (IsTrue u.tells → Has u.current.seen 64 rest) → image ≡ header ++ rest → length image ≡ image_size cap → IsRead v image cap
image_read v u header rest image size cap long sized has commit good is_cap same told has_rest joined whole =
    let front : SameWithin 0 64 header (header ++ rest) = λ i low high. get_or_append_left header rest 0 i (omega arith) in
    let one : IsRead v (header ++ rest) cap = record {
      size = ap (λ xs. length xs) (sym joined) ∙ whole;
      commit = rw (front 0 (omega arith) (omega arith)) commit;
      header = ap (λ n. first_bad (header_checks (header ++ rest) n)) (sym sized) ∙ ap (λ cs. first_bad cs) (same_header header (header ++ rest) size front) ∙ good;
      cap_is = is_cap ∙ sym (same_number header (header ++ rest) 0 64 12 4 front (omega arith) (omega arith));
      has = λ tells.
          let there : IsTrue u.tells = (let P : Bool → Type 0 = λ b. IsTrue b in subst P (sym told) tells) in
          let behind : Has v.current.seen 64 rest = (let P : Moment → Type 0 = λ m. Has m.seen 64 rest in subst P same (has_rest there)) in
          let behind' : Has v.current.seen (length header) rest = (let P : ℕ → Type 0 = λ n. Has v.current.seen n rest in subst P (sym long) behind) in
          has_joined v.current.seen header rest (has tells) behind';
    } in
    let P : List ℕ → Type 0 = λ xs. IsRead v xs cap in subst P (sym joined) one

refuted : (e : DiskFault) → IsOk {T = ⊤} (Err e) → ⊥
refuted e ok = cc

-- the claim and its sync
pub record Taken (n : ℕ) (v u : DiskView) : Type 0 where
  pub held_before : v.current.held ≤ n
  pub held : u.current.held ≡ n
  pub same : SameDisk v u
  pub settled : IsTrue v.tells → u.current.pending ≡ []
  pub seen : IsTrue v.tells → u.current.seen ≡ v.current.seen
  pub passes : IsTrue v.tells → Passes (IsInOpen v.current n) v u

pub seen_image : (m : Moment) → IsImage m m.seen
seen_image m = record { size = refl; outside = λ i free. refl }

claimed_images : (v m : DiskView) (n : ℕ) → m.current ≡ record v.current { held = n } → (c : List ℕ) → IsImage m.current c → IsImage v.current c
claimed_images v m n same c image =
    let P : Moment → Type 0 = λ x. IsImage x c in
    let moved : IsImage (record v.current { held = n }) c = subst P same image in
    record { size = moved.size; outside = moved.outside }

refused_images : (v m w : DiskView) → w.current ≡ m.current → ((c : List ℕ) → IsImage m.current c → IsImage v.current c) → (c : List ℕ) → IsImage w.current c → IsImage v.current c
refused_images v m w same before c image = before c (let P : Moment → Type 0 = λ x. IsImage x c in subst P same image)

same_token : (v w : DiskView) → w.current ≡ v.current → w.current.held ≡ v.current.held
same_token v w same = ap (λ (m : Moment). m.held) same

refused_claim : (n : ℕ) (v w : DiskView) (e : DiskFault) → Step (claim n) v (Err e) w → OpenFails n v w (open_fault e) × (IsTrue v.tells → w.current ≡ v.current)
refused_claim n v w disk_faults.Failed step = ((step.answer.0, step.answer.1), λ told. step.answer.3 told)
refused_claim n v w (disk_faults.Fenced held) step = ((step.answer.0, step.answer.1), λ told. step.answer.2)

refused_sync : (n : ℕ) (v m w : DiskView) (e : DiskFault) → v.current.held ≤ n → m.current.held ≡ n → v.faults ≤ m.faults → Step (sync n) m (Err e) w → OpenFails n v w (open_fault e) × (IsTrue m.tells → w.current ≡ m.current)
refused_sync n v m w disk_faults.Failed before held later step = ((before, rose_before v.faults m.faults w.faults later step.answer.1), λ told. step.answer.3 told)
refused_sync n v m w (disk_faults.Fenced token) before held later step = absurd (omega (arith, step.answer.0, held))

pub taken_err : (n : ℕ) (v w : DiskView) (e : DiskFault) → Made (claim n ∷ sync n ∷ []) v (Err e) w → OpenFails n v w (open_fault e) × (IsTrue v.tells → Passes (IsInOpen v.current n) v w)
unfolding Made
taken_err n v w e made = elim made [
  | inr refused ↦
      let f = refused_claim n v w refused.0 refused.1 in
      let same : refused.0 ≡ e = cc (refused.2) in
      let P : DiskFault → Type 0 = λ x. OpenFails n v w (open_fault x) in
      let Q = IsInOpen v.current n in (
        subst P same f.0,
        λ told. passes_step Q (claim n) v w (Err refused.0) told refused.1 (inl refl, λ c image. image) (inl (same_token v w (f.1 told)), refused_images v v w (f.1 told) (λ c image. image)),
      )
  | inl first ↦
      let m = first.0 in
      let step = first.1.1 in
      elim first.2 [
        | inr refused ↦
            let f = refused_sync n v m w refused.0 step.answer.0 step.answer.1 step.same.faults refused.1 in
            let same : refused.0 ≡ e = cc (refused.2) in
            let P : DiskFault → Type 0 = λ x. OpenFails n v w (open_fault x) in
            let Q = IsInOpen v.current n in (
              subst P same f.0,
              λ told.
                  let told' = step_told (claim n) v m (Ok first.1.0) step told in
                  let images = claimed_images v m n (step.answer.2 told) in
                  let between : Q m.current = (inr step.answer.1, images) in
                  let after : Q w.current = (inr (same_token m w (f.1 told') ∙ step.answer.1), refused_images v m w (f.1 told') images) in
                  passes_trans Q v m w (passes_step Q (claim n) v m (Ok first.1.0) told step (inl refl, λ c image. image) between)
                  (passes_step Q (sync n) m w (Err refused.0) told' refused.1 between after),
            )
        | inl second ↦ absurd (refuted e second.2.1)
      ]
]

pub taken_ok : (n : ℕ) (v u : DiskView) (ok : ⊤) → Made (claim n ∷ sync n ∷ []) v (Ok ok) u → Taken n v u
unfolding Made
taken_ok n v u ok made = elim made [
  | inr refused ↦ absurd (cc (refused.2))
  | inl first ↦
      let m = first.0 in
      let step = first.1.1 in
      elim first.2 [
        | inr refused ↦ absurd (cc (refused.2))
        | inl second ↦
            let t = second.0 in
            let sure = second.1.1 in
            let told' = λ (told : IsTrue v.tells). step_told (claim n) v m (Ok first.1.0) step told in
            let seen = λ (told : IsTrue v.tells). ap (λ (x : Moment). x.seen) (sure.answer.2 (told' told)) ∙ ap (λ (x : Moment). x.seen) (step.answer.2 told) in
            let settled = λ (told : IsTrue v.tells). ap (λ (x : Moment). x.pending) (sure.answer.2 (told' told)) in
            let held : t.current.held ≡ n = sure.answer.1 ∙ step.answer.1 in
            let Q = IsInOpen v.current n in
            let I : List ℕ → Type 0 = IsImage v.current in
            let taken : Taken n v t = record {
              held_before = step.answer.0;
              held = held;
              same = same_disk-trans v m t step.same sure.same;
              settled = settled;
              seen = seen;
              passes = λ told.
                  let between : Q m.current = (inr step.answer.1, claimed_images v m n (step.answer.2 told)) in
                  let after : Q t.current = (inr held, settled_images I t.current (settled told) (subst I (sym (seen told)) (seen_image v.current))) in
                  passes_trans Q v m t (passes_step Q (claim n) v m (Ok first.1.0) told step (inl refl, λ c image. image) between)
                  (passes_step Q (sync n) m t (Ok second.1.0) (told' told) sure between after);
            } in
            let P : DiskView → Type 0 = λ x. Taken n v x in subst P (sym second.2.0) taken
      ]
]

-- reads make no moment
pub passes_read : (P : Moment → Type 0) (v u w : DiskView) → OnlyRead u w → Passes P v u → Passes P v w
passes_read P v u w only passes =
    let same : moments w ≡ moments u = cc (only.past, only.current) in
    record { further = passes.further; goes_on = same ∙ passes.goes_on; first = passes.first; each = passes.each }

-- the causes behind the claim
pub refused_image : (n : ℕ) (v u w : DiskView) (e : OpenFault) → Taken n v u → OnlyRead u w → ReadFails u w e → OpenFails n v w e
refused_image n v u w Failed taken only fault = (taken.held_before, rose_before v.faults u.faults w.faults taken.same.faults fault)
refused_image n v u w (Fenced held) taken only fault = absurd fault
refused_image n v u w Blank taken only fault = record {
  held_before = taken.held_before;
  held = same_token u w only.current ∙ taken.held;
  settled = λ told. ap (λ (m : Moment). m.pending) only.current ∙ taken.settled told;
  blank = λ told.
      let there : IsTrue u.tells = (let P : Bool → Type 0 = λ b. IsTrue b in subst P (sym taken.same.tells) told) in
      let P : List ℕ → Type 0 = λ xs. get_or xs 0 0 ≡ 0 in subst P (taken.seen told) (fault there);
}
refused_image n v u w (BadImage place) taken only fault = (
  taken.held_before,
  λ told.
      let there : IsTrue u.tells = (let P : Bool → Type 0 = λ b. IsTrue b in subst P (sym taken.same.tells) told) in
      let P : List ℕ → Type 0 = λ xs. HeaderFault xs u.size (BadImage place) in
      let Q : ℕ → Type 0 = λ n. HeaderFault v.current.seen n (BadImage place) in
      let header : HeaderFault v.current.seen v.size (BadImage place) = subst Q taken.same.size (subst P (taken.seen told) (fault there)) in
      (header.0, inl header.1),
)
refused_image n v u w Memory taken only fault = tt

pub refused_halves : (n : ℕ) (v u w : DiskView) (image : List ℕ) (cap : ℕ) (e : OpenFault) → Taken n v u → IsRead u image cap → HalvesFault image cap e → OpenFails n v w e
refused_halves n v u w image cap (BadImage place) taken read fault = (
  taken.held_before,
  λ told.
      let there : IsTrue u.tells = (let P : Bool → Type 0 = λ b. IsTrue b in subst P (sym taken.same.tells) told) in
      let same = has_same u.current.seen image (read.has there) in
      let whole : SameWithin 0 (image_size cap) image u.current.seen = within_part 0 (length image) 0 (image_size cap) image u.current.seen same (omega arith) (omega (arith, read.size)) in
      let front : SameWithin 0 64 image u.current.seen = within_part 0 (length image) 0 64 image u.current.seen same (omega arith) (omega (arith, read.size)) in
      let header : first_bad (header_checks u.current.seen u.size) ≡ None = ap (λ cs. first_bad cs) (same_header image u.current.seen u.size front) ∙ read.header in
      let cap_is : cap ≡ number_at u.current.seen 12 4 = read.cap_is ∙ sym (same_number image u.current.seen 0 64 12 4 front (omega arith) (omega arith)) in
      let halves = halves_refused image u.current.seen cap (BadImage place) whole fault in
      let P : ℕ → Type 0 = λ n. HalvesFault u.current.seen n (BadImage place) in
      let bad : IsBadImage u.current.seen u.size place = (rw (front 0 (omega arith) (omega arith)) read.commit, inr (header, subst P cap_is halves)) in
      let Q : List ℕ → Type 0 = λ xs. IsBadImage xs u.size place in
      let R : ℕ → Type 0 = λ n. IsBadImage v.current.seen n place in
      subst R taken.same.size (subst Q (taken.seen told) bad),
)
refused_halves n v u w image cap Memory taken read fault = tt
refused_halves n v u w image cap Blank taken read fault = absurd fault
refused_halves n v u w image cap Failed taken read fault = absurd fault
refused_halves n v u w image cap (Fenced held) taken read fault = absurd fault

-- what was found
pub found_in : (u : DiskView) (image : List ℕ) (cap : ℕ) (x : Found) → IsRead u image cap → IsFoundCurrent image cap x → Holds image x
found_in u image cap x read found = found_holds image u.size cap x read.size read.commit (header_good image u.size read.header) read.cap_is found

pub opened : (n : ℕ) (v u w : DiskView) (image : List ℕ) (cap : ℕ) (x : Found) (other_valid : Bool) → Taken n v u → IsRead u image cap → OnlyRead u w → IsFoundCurrent image cap x
    → other_valid ≡ is_valid image cap (1 - x.half) → IsTrue v.tells → StandsFor (log_of n x other_valid) w x
opened n v u w image cap x other_valid taken read only found is_other told =
    let holds = found_in u image cap x read found in
    let there : IsTrue u.tells = (let P : Bool → Type 0 = λ b. IsTrue b in subst P (sym taken.same.tells) told) in
    let same = has_same u.current.seen image (read.has there) in
    let cap_is = found.found.cap_is in
    let whole : SameWithin 0 (image_size x.cap) image u.current.seen = within_part 0 (length image) 0 (image_size x.cap) image u.current.seen same (omega arith) (omega (arith, read.size, cap_is)) in
    let seen : Holds u.current.seen x = holds_seen image u.current.seen x (omega (arith, (read.has there).within, read.size, cap_is)) whole holds in
    let other_within = half_within x.cap (1 - x.half) (other_which x.half holds.half) in
    let other_byte : get_or u.current.seen (other_of x) 0 ≡ get_or image (other_of x) 0 = whole (other_of x) (omega arith) (omega arith) in
    let other : other_valid ≡ not (get_or u.current.seen (other_of x) 0 == 0) = is_other ∙ rw (← cap_is) (ap (λ b. not (b == 0)) (sym other_byte)) in
    let P : Moment → Type 0 = λ m. Holds m.seen x in
    let Q : Moment → Type 0 = λ m. other_valid ≡ not (get_or m.seen (other_of x) 0 == 0) in
    record {
      told = (let R : Bool → Type 0 = λ b. IsTrue b in subst R (sym only.same.tells) there);
      settled = ap (λ (m : Moment). m.pending) only.current ∙ taken.settled told;
      holds = subst P (sym only.current) seen;
      cap = refl;
      half = refl;
      version = refl;
      generation = refl;
      base = refl;
      records = refl;
      tail = refl;
      other = subst Q (sym only.current) other;
    }

pub was_read : (n : ℕ) (v u : DiskView) (image : List ℕ) (cap : ℕ) (x : Found) → Taken n v u → IsRead u image cap → IsFoundCurrent image cap x → WasRead v x
was_read n v u image cap x taken read found =
    let header = header_good image u.size read.header in
    record {
      image = image;
      size = rw found.found.cap_is read.size;
      within = omega (arith, header.room, read.cap_is, found.found.cap_is, taken.same.size);
      holds = found_in u image cap x read found;
      seen = λ told.
          let there : IsTrue u.tells = (let P : Bool → Type 0 = λ b. IsTrue b in subst P (sym taken.same.tells) told) in
          let P : List ℕ → Type 0 = λ xs. Has xs 0 image in subst P (taken.seen told) (read.has there);
    }

-- the checks' fault is one of the image that was read
pub image_fault : (u : DiskView) (image : List ℕ) (cap : ℕ) (e : OpenFault) → IsRead u image cap → HalvesFault image cap e → HalvesFault image (number_at image 12 4) e
image_fault u image cap e read fault = let P : ℕ → Type 0 = λ n. HalvesFault image n e in subst P read.cap_is fault

-- both reads were made
pub reads_rest : (v u w : DiskView) (header rest : List ℕ) (size cap whole : ℕ) (answer : Result ⊤ DiskFault) (result : Result Found OpenFault) → length header ≡ 64 → size ≡ v.size
    → ReadStep v 0 header (Ok tt) u → first_bad (header_checks header size) ≡ None → cap ≡ number_at header 12 4 → whole ≡ image_size cap → 64 + length rest ≡ whole → ReadStep u 64 rest answer w
    → AnswersImage (header ++ rest) answer result → ReadsImage v result w
reads_rest v u w header rest size cap whole answer result long sized first good is_cap is_whole all second answers =
    let good' : first_bad (header_checks header v.size) ≡ None = (let P : ℕ → Type 0 = λ n. first_bad (header_checks header n) ≡ None in subst P sized good) in
    let whole' : 64 + length rest ≡ image_size (number_at header 12 4) = all ∙ is_whole ∙ ap (λ n. image_size n) is_cap in
    (header, long, inr (inr (record { between = u; first = first; good = good'; rest = rest; whole = whole'; answer = answer; second = second; answers = answers })))
