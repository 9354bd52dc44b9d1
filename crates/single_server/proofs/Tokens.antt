-- The fencing tokens of the log and of the disk stay as records are added, and what that says of a node that halts.
use Rattle.std.proofs.Common.{◌≡◌, ◌≢◌, ℕ, ◌+◌, ◌≤◌, ◌<◌, Bool, true, false, List, [], ◌∷◌, length, min, Option, Some, None, Result, Ok, Err, refl, sym, ap, ◌∙◌, subst, arith}
use Rattle.causes.specs.Counts.{Rose}
use Rattle.disk_core.specs.Views.{DiskView}
use Rattle.quorum_log.specs.declared.fault.AppendFault.{AppendFault}
use Rattle.quorum_log.specs.declared.fault.AppendFault.TheVariants as append
use Rattle.quorum_log.specs.Logs.{LogValue, begun}
use Rattle.update_records.specs.Entry.{Entry, record_text}
use Rattle.record_log.specs.declared.fault.AddFault.{AddFault}
use Rattle.record_log.specs.declared.fault.AddFault.TheVariants as add
use Rattle.record_log.specs.Adding.{Adds, AppendsTo, is_due}
use Rattle.cluster_rules.specs.Updates.{Written}
use Rattle.cluster_member.specs.Logging.{Logs, answer_to, last_bytes, state_bytes}
use Rattle.cluster_member.specs.States.{MemberState}
use Rattle.single_node.specs.Delivering.{LogsAll}

-- From the one disk to the other the held token stays, and no fault is taken back.
pub record Stays (v w : DiskView) : Type 0 where
  pub held : w.current.held ≡ v.current.held
  pub faults : v.faults ≤ w.faults

stays_both : (u v w : DiskView) → Stays u v → Stays v w → Stays u w
stays_both u v w a b = record { held = b.held ∙ a.held; faults = (let x = a.faults in let y = b.faults in omega (arith, x, y)) }

-- ---- a record is added

adds_keep : (due : Bool) (log new : LogValue) (state last bytes : List ℕ) (v w : DiskView) → Adds due log state last bytes v (Ok new) w → (new.claim ≡ log.claim) × Stays v w
adds_keep true log new state last bytes v w (u, begins, appends) =
    (ap (λ (l : LogValue). l.claim) appends.value, stays_both v u w (record { held = begins.held; faults = begins.same.faults }) (record { held = appends.held; faults = appends.same.faults }))
adds_keep false log new state last bytes v w appends = (ap (λ (l : LogValue). l.claim) appends.value, record { held = appends.held; faults = appends.same.faults })

-- The log of the member, under the token, on a disk that holds it.
pub record Owns (token : ℕ) (x : MemberState) (v : DiskView) : Type 0 where
  pub log : LogValue
  pub has : x.log ≡ Some log
  pub claim : log.claim ≡ token
  pub held : v.current.held ≡ token

pub logs_keep : (token : ℕ) (es : List Entry) (x y : MemberState) (v w : DiskView) → LogsAll es x v y w → Owns token x v → Owns token y w × (v.faults ≤ w.faults)
logs_keep token [] x y v w (there, same) owns = (
  record { log = owns.log; has = same.log ∙ owns.has; claim = owns.claim; held = ap (λ (d : DiskView). d.current.held) there ∙ owns.held },
  subst (λ (d : DiskView). v.faults ≤ d.faults) (sym there) (let e : v.faults ≤ v.faults = omega arith in e),
)
logs_keep token (e ∷ es) x y v w (m, n, u, same, one, more) owns =
    let is : Some one.old ≡ Some owns.log = sym one.had ∙ same.log ∙ owns.has in
    let old : one.old ≡ owns.log = cc in
    let kept = adds_keep (is_due one.old (length (record_text e))) one.old one.new (state_bytes m) (last_bytes m) (record_text e) v u one.adds in
    let rest = logs_keep token es n y u w more (record { log = one.new; has = one.has; claim = kept.0 ∙ ap (λ (l : LogValue). l.claim) old ∙ owns.claim; held = kept.1.held ∙ owns.held }) in
    (rest.0, (let a = kept.1.faults in let b = rest.1 in omega (arith, a, b)))

-- ---- a record isn't added

abbrev Blames : ℕ → AddFault → DiskView → DiskView → Type 0
Blames token fault v w = v.current.held ≡ token → fault ≢ add.Memory → Rose v.faults w.faults

pub rose_from : (a b c : ℕ) → a ≤ b → Rose b c → Rose a c
rose_from a b c first rose = omega (arith, first, rose)

appends_fail : (log : LogValue) (bytes : List ℕ) (v w : DiskView) (token : ℕ) (fault : AddFault) → log.claim ≡ token → AppendsTo log bytes v (Err fault) w → Blames token fault v w
appends_fail log bytes v w token (add.Append append.Failed) claim appends held memory = appends.answer.1
appends_fail log bytes v w token (add.Append (append.Fenced h)) claim appends held memory = (let a = appends.answer.0 in absurd (omega (arith, a, claim, held)))
appends_fail log bytes v w token (add.Checkpoint f) claim appends held memory = absurd appends
appends_fail log bytes v w token add.Memory claim appends held memory = absurd appends

adds_fail : (due : Bool) (log : LogValue) (state last bytes : List ℕ) (v w : DiskView) (token : ℕ) (fault : AddFault) → log.claim ≡ token → Adds due log state last bytes v (Err fault) w → Blames token fault v w
adds_fail due log state last bytes v w token add.Memory claim adds held memory = absurd (memory refl)
adds_fail true log state last bytes v w token (add.Checkpoint append.Failed) claim adds held memory = adds.answer.1
adds_fail true log state last bytes v w token (add.Checkpoint (append.Fenced h)) claim adds held memory = (let a = adds.answer.0 in absurd (omega (arith, a, claim, held)))
adds_fail true log state last bytes v w token (add.Append f) claim (u, begins, appends) held memory =
    rose_from v.faults u.faults w.faults begins.same.faults (appends_fail (begun log (length state) (length last)) bytes u w token (add.Append f) claim appends (begins.held ∙ held) memory)
adds_fail false log state last bytes v w token (add.Checkpoint f) claim adds held memory = appends_fail log bytes v w token (add.Checkpoint f) claim adds held memory
adds_fail false log state last bytes v w token (add.Append f) claim adds held memory = appends_fail log bytes v w token (add.Append f) claim adds held memory

-- A record that the log didn't take: a call of the disk failed.
pub logs_fail : (token : ℕ) (entry : Option Entry) (x : MemberState) (v w : DiskView) (added : Option (Result LogValue AddFault)) → Logs entry x v added w → Owns token x v → answer_to added ≢ Written → added ≢ Some (Err add.Memory)
    → Rose v.faults w.faults
logs_fail token entry x v w None logs owns unwritten memory = absurd (unwritten refl)
logs_fail token entry x v w (Some (Ok log)) logs owns unwritten memory = absurd (unwritten refl)
logs_fail token None x v w (Some (Err fault)) logs owns unwritten memory = absurd logs
logs_fail token (Some e) x v w (Some (Err fault)) (old, has, adds, sound) owns unwritten memory =
    let is : Some old ≡ Some owns.log = sym has ∙ owns.has in
    let same : old ≡ owns.log = cc in
    adds_fail (is_due old (length (record_text e))) old (state_bytes x) (last_bytes x) (record_text e) v w token fault (ap (λ (l : LogValue). l.claim) same ∙ owns.claim) adds owns.held
    (λ is. memory (ap (λ (f : AddFault). Some (Err f)) is))
