-- A world of members over one disk, and how it is tied to a world of the protocol.
use Rattle.std.proofs.Common.{◌≡◌, ◌≢◌, ⊎_elim, ℕ, Bool, true, false, List, ◌++◌, Option, Some, None, nat_eq, if◌then◌else◌, refl, sym, ap, ◌∙◌, subst}
use Rattle.gum_messages.specs.declared.view.View.{View}
use Rattle.gum_messages.specs.Messages.{Sent}
use Rattle.update_records.specs.Entry.{Entry}
use Rattle.view_reconcile.specs.Joining as joining
use Rattle.disk_core.specs.Views.{DiskView}
use Rattle.quorum_log.specs.Logs.{LogValue}
use Rattle.cluster_rules.specs.declared.effect.Effect.{Effect}
use Rattle.cluster_rules.specs.Nodes.{NodeState, Out, number_of}
use Rattle.cluster_rules.specs.Worlds.{Log, World, absorb, acked, put, sent, stopped, with_log}
use Rattle.cluster_laws.proofs.Moves.{put_cases}
use Rattle.registry_machine.specs.Machine.{registry_machine}
use Rattle.log_order.specs.Refinement.{Owns, Refines}
use Rattle.cluster_member.specs.States.{MemberState}

-- What the protocol sees of the world, and the disk.
pub record Bare : Type 0 where
  pub members : ℕ → Option MemberState
  pub starts : ℕ → ℕ
  pub chain : List View
  pub pool : List Sent
  pub acks : List (ℕ × ℕ)
  pub order : List Entry
  pub disk : DiskView

abbrev pub rules_in : Option MemberState → Option (NodeState registry_machine)
rules_in None = None
rules_in (Some m) = Some m.rules

-- A log that a node keeps is that of its view, of which it is the locker.
pub record IsLogOfView (m : MemberState) (log : LogValue) : Type 0 where
  pub claim : log.claim ≡ number_of m.rules
  pub locks : joining.locks m.rules.join ≡ true
  pub numbered : number_of m.rules ≢ 0

pub record Abstracts (cap : ℕ) (b : Bare) (w : World registry_machine) : Type 0 where
  pub nodes : (n : ℕ) → w.nodes n ≡ rules_in (b.members n)
  pub starts : (n : ℕ) → w.starts n ≡ b.starts n
  pub chain : w.chain ≡ b.chain
  pub pool : w.pool ≡ b.pool
  pub acks : w.acks ≡ b.acks
  pub order : w.log.order ≡ b.order
  pub cap_is : w.log.cap ≡ cap
  pub refines : Refines w.log b.disk
  pub logs : (n : ℕ) (m : MemberState) (log : LogValue) → b.members n ≡ Some m → m.log ≡ Some log → IsLogOfView m log
  -- whose view has claimed the log last owns it
  pub owns : (n : ℕ) (m : MemberState) (log : LogValue) → b.members n ≡ Some m → m.log ≡ Some log → number_of m.rules ≡ w.log.held → Owns w.log b.disk log

-- ---- a node moves

abbrev pub moved : Bare → ℕ → Option MemberState → List Effect → List Entry → DiskView → Bare
moved b n o effects order disk = record b {
  members = put b.members n o;
  pool = b.pool ++ sent effects;
  acks = b.acks ++ acked effects;
  order = order;
  disk = disk;
}

-- with no message and no acknowledgement
abbrev pub left_at : Bare → ℕ → Option MemberState → List Entry → DiskView → Bare
left_at b n o order disk = record b { members = put b.members n o; order = order; disk = disk }

abbrev pub OwnFacts : Option MemberState → Log → DiskView → Type 0
OwnFacts o l disk = (y : MemberState) (log : LogValue) → o ≡ Some y → y.log ≡ Some log → IsLogOfView y log × (number_of y.rules ≡ l.held → Owns l disk log)

abbrev pub OthersOwn : Bare → ℕ → Log → DiskView → Type 0
OthersOwn b n l disk = (k : ℕ) (z : MemberState) (log : LogValue) → k ≢ n → b.members k ≡ Some z → z.log ≡ Some log → number_of z.rules ≡ l.held → Owns l disk log

pub none_own : (l : Log) (disk : DiskView) → OwnFacts None l disk
none_own l disk y log e f = absurd (cc)

-- the log and the disk that an event leaves
pub record Leaves (b : Bare) (w : World registry_machine) (n : ℕ) (o : Option MemberState) (l : Log) (disk : DiskView) : Type 0 where
  pub cap_is : l.cap ≡ w.log.cap
  pub refines : Refines l disk
  pub own : OwnFacts o l disk
  pub others : OthersOwn b n l disk

put_rules : (f : ℕ → Option (NodeState registry_machine)) (g : ℕ → Option MemberState) (n k : ℕ) (a : Option (NodeState registry_machine)) (o : Option MemberState)
    → a ≡ rules_in o → ((m : ℕ) → f m ≡ rules_in (g m)) → put f n a k ≡ rules_in (put g n o k)
put_rules f g n k a o e h = by (nat_eq k n)
  where
    by : (c : Bool) → (if c then a else f k) ≡ rules_in (if c then o else g k)
    by true = e
    by false = h k

put_logs : (cap : ℕ) (b : Bare) (w : World registry_machine) (n : ℕ) (o : Option MemberState) (l : Log) (disk : DiskView) → Abstracts cap b w → Leaves b w n o l disk
    → (k : ℕ) (m : MemberState) (log : LogValue) → put b.members n o k ≡ Some m → m.log ≡ Some log → IsLogOfView m log
put_logs cap b w n o l disk a s k m log e f = ⊎_elim
    (λ (c : (k ≡ n) × (o ≡ Some m)). (s.own m log c.1 f).0)
    (λ (c : (k ≢ n) × (b.members k ≡ Some m)). a.logs k m log c.1 f)
    (put_cases b.members n o k m e)

put_owns : (b : Bare) (w : World registry_machine) (n : ℕ) (o : Option MemberState) (l : Log) (disk : DiskView) → Leaves b w n o l disk
    → (k : ℕ) (m : MemberState) (log : LogValue) → put b.members n o k ≡ Some m → m.log ≡ Some log → number_of m.rules ≡ l.held → Owns l disk log
put_owns b w n o l disk s k m log e f held = ⊎_elim
    (λ (c : (k ≡ n) × (o ≡ Some m)). (s.own m log c.1 f).1 held)
    (λ (c : (k ≢ n) × (b.members k ≡ Some m)). s.others k m log c.0 c.1 f held)
    (put_cases b.members n o k m e)

-- what a node did, where history alone was written besides
pub record SameBut (w u : World registry_machine) : Type 0 where
  pub nodes : (n : ℕ) → u.nodes n ≡ w.nodes n
  pub starts : u.starts ≡ w.starts
  pub chain : u.chain ≡ w.chain
  pub pool : u.pool ≡ w.pool
  pub acks : u.acks ≡ w.acks

pub same_logs : (l : Log) (w : World registry_machine) → SameBut w (with_log l w)
same_logs l w = record { nodes = λ n. refl; starts = refl; chain = refl; pool = refl; acks = refl }

pub absorb_ties : (cap : ℕ) (b : Bare) (w u : World registry_machine) (n : ℕ) (o : Option MemberState) (out : Out registry_machine) (effects : List Effect) (l : Log) (disk : DiskView)
    → Abstracts cap b w → SameBut w u → u.log ≡ l → Leaves b w n o l disk → out.node ≡ rules_in o → sent out.effects ≡ sent effects → acked out.effects ≡ acked effects
    → Abstracts cap (moved b n o effects l.order disk) (absorb n out u)
absorb_ties cap b w u n o out effects l disk a same log s node sends acks = record {
  nodes = λ k. put_rules u.nodes b.members n k out.node o node (λ m. same.nodes m ∙ a.nodes m);
  starts = λ k. (λ i. same.starts i k) ∙ a.starts k;
  chain = same.chain ∙ a.chain;
  pool = (λ i. (same.pool i) ++ sends i) ∙ ap (λ (ps : List Sent). ps ++ sent effects) a.pool;
  acks = (λ i. (same.acks i) ++ acks i) ∙ ap (λ (ps : List (ℕ × ℕ)). ps ++ acked effects) a.acks;
  order = ap (λ (t : Log). t.order) log;
  cap_is = ap (λ (t : Log). t.cap) log ∙ s.cap_is ∙ a.cap_is;
  refines = subst (λ (t : Log). Refines t disk) (sym log) s.refines;
  logs = put_logs cap b w n o l disk a s;
  owns = λ k m g e f held. subst (λ (t : Log). Owns t disk g) (sym log) (put_owns b w n o l disk s k m g e f (held ∙ ap (λ (t : Log). t.held) log));
}

pub stop_ties : (cap : ℕ) (b : Bare) (w : World registry_machine) (n : ℕ) (l : Log) (disk : DiskView) → Abstracts cap b w → Leaves b w n None l disk
    → Abstracts cap (left_at b n None l.order disk) (stopped n (with_log l w))
stop_ties cap b w n l disk a s = record {
  nodes = λ k. put_rules w.nodes b.members n k None None refl a.nodes;
  starts = a.starts;
  chain = a.chain;
  pool = a.pool;
  acks = a.acks;
  order = refl;
  cap_is = s.cap_is ∙ a.cap_is;
  refines = s.refines;
  logs = put_logs cap b w n None l disk a s;
  owns = put_owns b w n None l disk s;
}
