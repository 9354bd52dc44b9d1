-- A node dies with the disk, inside an event that left the log as it was.
use Rattle.std.proofs.Common.{◌≡◌, ℕ, Bool, IsTrue, List, [], Some, None, refl, sym, ◌∙◌, subst}
use Rattle.update_records.specs.Entry.{Entry}
use Rattle.disk_core.specs.Crashes.{Crashed}
use Rattle.disk_core.specs.Images.{Moment}
use Rattle.disk_core.specs.Views.{DiskView}
use Rattle.quorum_log.proofs.Moments.{passes_weaken}
use Rattle.quorum_log.specs.Logs.{LogValue}
use Rattle.cluster_rules.specs.Nodes.{number_of}
use Rattle.cluster_rules.specs.Worlds.{World, stopped}
use Rattle.registry_machine.specs.Machine.{registry_machine}
use Rattle.log_order.specs.Refinement.{MomentOf, Owns}
use Rattle.log_order.proofs.Crashes.{crashed_refines, same_moment}
use Rattle.cluster_member.specs.States.{MemberState}
use Rattle.world_laws.proofs.Refusing.{Stands, crash_same}
use Rattle.world_laws.proofs.Tied.{Abstracts, Bare, Leaves, left_at, none_own, stop_ties}

-- an owner's log stays that on a disk on which nothing was pending
pub still_owns : (cap : ℕ) (b : Bare) (w : World registry_machine) (x : DiskView) → Abstracts cap b w → x.tells ≡ b.disk.tells → (b.disk.current.pending ≡ [] → x.current ≡ b.disk.current)
    → (k : ℕ) (z : MemberState) (log : LogValue) → b.members k ≡ Some z → z.log ≡ Some log → number_of z.rules ≡ w.log.held → Owns w.log x log
still_owns cap b w x a tells same k z log there has held =
    let o : Owns w.log b.disk log = a.owns k z log there has held in
    (same_moment w.log b.disk x tells (same o.stands.settled) a.refines).1 log o

pub crash_leaves : (cap : ℕ) (b : Bare) (w : World registry_machine) (n : ℕ) (d x : DiskView) (calls : ℕ) (bytes : List ℕ) → Abstracts cap b w → Stands b.disk d → d.tells ≡ b.disk.tells → b.disk.past ≡ [] → Crashed d calls bytes x
    → Leaves b w n None w.log x
crash_leaves cap b w n d x calls bytes a stands tells none crashed =
    let told : IsTrue d.tells = subst (λ (c : Bool). IsTrue c) (sym tells) a.refines.tells in
    let passes = passes_weaken (λ m. m ≡ b.disk.current) (MomentOf w.log) b.disk d (λ m e. subst (λ (t : Moment). MomentOf w.log t) (sym e) a.refines.now) stands in
    record {
      cap_is = refl;
      refines = crashed_refines w.log b.disk d x calls bytes told none passes crashed;
      own = none_own w.log x;
      others = λ k z log apart there has held.
          still_owns cap b w x a (crashed.same.tells ∙ tells) (λ settled. crash_same b.disk d x calls bytes a.refines.tells tells none stands settled crashed) k z log there has held;
    }

-- a node dies where the calls changed nothing
pub dies : (cap : ℕ) (b : Bare) (w : World registry_machine) (n : ℕ) (d x : DiskView) (calls : ℕ) (bytes : List ℕ) → Abstracts cap b w → Stands b.disk d → d.tells ≡ b.disk.tells → b.disk.past ≡ [] → Crashed d calls bytes x
    → Abstracts cap (left_at b n None b.order x) (stopped n w)
dies cap b w n d x calls bytes a stands tells none crashed =
    subst (λ (order : List Entry). Abstracts cap (left_at b n None order x) (stopped n w)) a.order
    (stop_ties cap b w n w.log x a (crash_leaves cap b w n d x calls bytes a stands tells none crashed))

-- where it leaves a log of the same order
pub stops_with : (cap : ℕ) (b : Bare) (w u : World registry_machine) (n : ℕ) (x : DiskView) → u.log.order ≡ w.log.order → w.log.order ≡ b.order → Abstracts cap (left_at b n None u.log.order x) u → Abstracts cap (left_at b n None b.order x) u
stops_with cap b w u n x same order ties = subst (λ (o : List Entry). Abstracts cap (left_at b n None o x) u) (same ∙ order) ties
