-- What a node's place keeps, and what happens in it, where the disk has no part in the event.
use Rattle.std.proofs.Common.{◌≡◌, ℕ, ◌-◌, suc, List, Option, Some, None, Result, Ok, Err, IfOk, IfSome, OnErr, IsSome, get_or, slice_set, true, false, Bool, refl, sym, ap, ◌∙◌, subst, arith}
use Rattle.std.specs.declared.alloc.AllocError.{AllocError}
use Rattle.std.specs.Prelude.{is_none, option_map, if◌then◌else◌}
use Rattle.disk_core.specs.Calls.{SameDisk}
use Rattle.disk_core.specs.Views.{DiskView, Plan}
use Rattle.cluster_rules.specs.declared.effect.Effect.{Effect}
use Rattle.cluster_node.specs.Events.{Connects}
use Rattle.cluster_node.specs.States.{IsSameNode, NodeValue, clocked}
use Rattle.cluster_node.proofs.KeepingNumbers.{connect_uses_one, stopped_uses_none}
use Rattle.cluster_node.proofs.KeepingRoom.{connect_keeps_room, stopped_has_room}
use Rattle.cluster_worlds.specs.declared.told.Told.{Told}
use Rattle.cluster_worlds.specs.Happening.{with_clock}
use Rattle.cluster_worlds.specs.Worlds.{WorldState}
use Rattle.cluster_replay.specs.Journals.{JournalState}
use Rattle.cluster_replay.specs.Moving.{journal_of, moved}
use Rattle.cluster_replay.specs.Playing.{IsSound}
use Rattle.cluster_replay.specs.Slots.{ActsIn, IsIndex, KeepsAt, KeepsBut, KeepsWith, ReactsAt, Settles}
use Rattle.cluster_replay.proofs.Keeping.{clock_keeps}
use Rattle.cluster_replay.proofs.Sound.{number_at, stands}

-- ---- the disk

plan_now : (v : DiskView) (plan : Option Plan) → SameDisk v (record v { plan = plan })
plan_now v plan = record { size = refl; tells = refl; faults = omega arith }

pub plan_same : (v w : DiskView) (plan : Option Plan) → w ≡ record v { plan = plan } → SameDisk v w
plan_same v w plan is = subst (λ (u : DiskView). SameDisk v u) (sym is) (plan_now v plan)

-- ---- the clock

clock_kept : (v : DiskView) (s : Option NodeValue) (stamp : ℕ) → KeepsAt v s v (option_map (clocked stamp) s)
clock_kept v None stamp = tt
clock_kept v (Some n) stamp = clock_keeps n v stamp

pub clock_keeps_at : (v : DiskView) (s slot : Option NodeValue) (stamp : ℕ) → slot ≡ option_map (clocked stamp) s → KeepsAt v s v slot
clock_keeps_at v s slot stamp is = subst (λ (y : Option NodeValue). KeepsAt v s v y) (sym is) (clock_kept v s stamp)

clocks_by : (w : WorldState) (i : ℕ) (x slot : Option NodeValue) (stamp : ℕ) → IsSound w → IsIndex (Some i) x w.nodes → slot ≡ option_map (clocked stamp) x
    → moved (slice_set w.nodes i slot) (journal_of w) w.disk w ≡ with_clock stamp x w
clocks_by w i None slot stamp sound index is = absurd (cc index.1)
clocks_by w i (Some n) slot stamp sound index is =
    let at : i ≡ n.number - 1 = let number : n.number ≡ suc i = number_at w i n sound index in omega arith in rw (at, is) refl

pub clocks_at : (w q : WorldState) (i : ℕ) (x s slot : Option NodeValue) (stamp : ℕ) → w ≡ q → IsSound w → IsIndex (Some i) x q.nodes → s ≡ get_or w.nodes i s → slot ≡ option_map (clocked stamp) s
    → moved (slice_set w.nodes i slot) (journal_of w) w.disk w ≡ with_clock stamp x q
clocks_at w q i x s slot stamp same sound index is slot_is =
    let here : IsIndex (Some i) x w.nodes = subst (λ (v : WorldState). IsIndex (Some i) x v.nodes) (sym same) index in
    subst (λ (v : WorldState). moved (slice_set w.nodes i slot) (journal_of w) w.disk w ≡ with_clock stamp x v) same
    (clocks_by w i x slot stamp sound here (slot_is ∙ ap (option_map (clocked stamp)) (stands w i x s here is)))

-- ---- what was done is taken in

acts_of : (P : NodeValue → List Effect → NodeValue → DiskView → Type 0) (s mid slot : Option NodeValue) (es : List Effect) (j k : JournalState) (told : List Told) (d : DiskView)
    → ReactsAt P s es mid d → ((n m : NodeValue) → s ≡ Some n → mid ≡ Some m → IsSameNode n m) → IfSome mid (λ n. Settles es n j told slot k) → ActsIn P s j told slot k d
acts_of P None mid slot es j k told d reacts same settles = reacts
acts_of P (Some n) None slot es j k told d reacts same settles = absurd reacts
acts_of P (Some n) (Some m) slot es j k told d reacts same settles =
    record { effects = es; after = m; event = reacts; same = same n m refl refl; tells = settles.tells; taken = settles.taken; left = settles.left }

same_of : (v : DiskView) (s mid : Option NodeValue) → KeepsAt v s v mid → (n m : NodeValue) → s ≡ Some n → mid ≡ Some m → IsSameNode n m
same_of v s mid keeps n m s_is mid_is =
    let first : KeepsAt v (Some n) v mid = subst (λ (y : Option NodeValue). KeepsAt v y v mid) s_is keeps in
    let both : KeepsAt v (Some n) v (Some m) = subst (λ (y : Option NodeValue). KeepsAt v (Some n) v y) mid_is first in
    both.same

pub batch_acts : (P : NodeValue → List Effect → NodeValue → DiskView → Type 0) (s mid slot : Option NodeValue) (es : List Effect) (j k : JournalState) (told : List Told) (d : DiskView)
    → ReactsAt P s es mid d → KeepsAt d s d mid → IfSome mid (λ n. Settles es n j told slot k) → ActsIn P s j told slot k d
batch_acts P s mid slot es j k told d reacts keeps settles = acts_of P s mid slot es j k told d reacts (same_of d s mid keeps) settles

same_with : (conn : ℕ) (v : DiskView) (s mid : Option NodeValue) → KeepsWith conn v s mid → (n m : NodeValue) → s ≡ Some n → mid ≡ Some m → IsSameNode n m
same_with conn v s mid keeps n m s_is mid_is =
    let first : KeepsWith conn v (Some n) mid = subst (λ (y : Option NodeValue). KeepsWith conn v y mid) s_is keeps in
    let both : KeepsWith conn v (Some n) (Some m) = subst (λ (y : Option NodeValue). KeepsWith conn v (Some n) y) mid_is first in
    both.same

pub connect_acts : (P : NodeValue → List Effect → NodeValue → DiskView → Type 0) (conn : ℕ) (s mid slot : Option NodeValue) (es : List Effect) (j k : JournalState) (told : List Told) (d : DiskView)
    → ReactsAt P s es mid d → KeepsWith conn d s mid → IfSome mid (λ n. Settles es n j told slot k) → ActsIn P s j told slot k d
connect_acts P conn s mid slot es j k told d reacts keeps settles = acts_of P s mid slot es j k told d reacts (same_with conn d s mid keeps) settles

-- ---- a place keeps what it kept, also where its node has stopped

left_at : (v : DiskView) (s : Option NodeValue) (m : NodeValue) (stopped : Bool) → KeepsAt v s v (Some m) → KeepsAt v s v (if stopped then None else Some m)
left_at v None m true keeps = tt
left_at v (Some n) m true keeps = tt
left_at v s m false keeps = keeps

kept_left : (v : DiskView) (s mid slot : Option NodeValue) (es : List Effect) (j k : JournalState) (told : List Told) → IsSome mid → IfSome mid (λ n. Settles es n j told slot k) → KeepsAt v s v mid → KeepsAt v s v slot
kept_left v s None slot es j k told runs settles keeps = absurd (cc runs)
kept_left v s (Some m) slot es j k told runs settles keeps = subst (λ (y : Option NodeValue). KeepsAt v s v y) (sym settles.left) (left_at v s m (is_none m.running) keeps)

pub settle_keeps : {A : Type 0} (items : A → List Told) (r : Result A AllocError) (v : DiskView) (s mid slot : Option NodeValue) (es : List Effect) (j k : JournalState) → IsSome mid
    → IfOk r (λ told. IfSome mid (λ n. Settles es n j (items told) slot k)) → OnErr r (slot ≡ mid) → KeepsAt v s v mid → KeepsAt v s v slot
settle_keeps items (Ok told) v s mid slot es j k runs settles kept keeps = kept_left v s mid slot es j k (items told) runs settles keeps
settle_keeps items (Err e) v s mid slot es j k runs settles kept keeps = subst (λ (y : Option NodeValue). KeepsAt v s v y) (sym kept) keeps

left_with : (conn : ℕ) (v : DiskView) (s : Option NodeValue) (m : NodeValue) (stopped : Bool) → KeepsWith conn v s (Some m) → KeepsWith conn v s (if stopped then None else Some m)
left_with conn v None m true keeps = tt
left_with conn v (Some n) m true keeps = tt
left_with conn v s m false keeps = keeps

with_left : (conn : ℕ) (v : DiskView) (s mid slot : Option NodeValue) (es : List Effect) (j k : JournalState) (told : List Told) → IsSome mid → IfSome mid (λ n. Settles es n j told slot k) → KeepsWith conn v s mid → KeepsWith conn v s slot
with_left conn v s None slot es j k told runs settles keeps = absurd (cc runs)
with_left conn v s (Some m) slot es j k told runs settles keeps = subst (λ (y : Option NodeValue). KeepsWith conn v s y) (sym settles.left) (left_with conn v s m (is_none m.running) keeps)

pub settle_keeps_with : {A : Type 0} (items : A → List Told) (r : Result A AllocError) (conn : ℕ) (v : DiskView) (s mid slot : Option NodeValue) (es : List Effect) (j k : JournalState) → IsSome mid
    → IfOk r (λ told. IfSome mid (λ n. Settles es n j (items told) slot k)) → OnErr r (slot ≡ mid) → KeepsWith conn v s mid → KeepsWith conn v s slot
settle_keeps_with items (Ok told) conn v s mid slot es j k runs settles kept keeps = with_left conn v s mid slot es j k (items told) runs settles keeps
settle_keeps_with items (Err e) conn v s mid slot es j k runs settles kept keeps = subst (λ (y : Option NodeValue). KeepsWith conn v s y) (sym kept) keeps

-- ---- a connection begins

pub connect_keeps : (conn : ℕ) (v : DiskView) (n m : NodeValue) (r : Result (List Effect) AllocError) → IfOk r (λ effects. Connects conn n.running m.running effects) → OnErr r (m.running ≡ None)
    → IsSameNode n m → KeepsBut conn v n m
connect_keeps conn v n m (Ok effects) connects stops same = record {
  same = same;
  room = connect_keeps_room n m v conn effects connects;
  unused = λ other apart none. connect_uses_one n m conn other effects connects apart none;
}
connect_keeps conn v n m (Err e) connects stops same = record { same = same; room = λ room. stopped_has_room m v stops; unused = λ other apart none. stopped_uses_none m other stops }

pub connect_keeps_at : (conn : ℕ) (v : DiskView) (s : Option NodeValue) (n m : NodeValue) → s ≡ Some n → KeepsBut conn v n m → KeepsWith conn v s (Some m)
connect_keeps_at conn v s n m is keeps = subst (λ (y : Option NodeValue). KeepsWith conn v y (Some m)) (sym is) keeps
