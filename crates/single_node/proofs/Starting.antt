-- A node that was started installs a view of itself alone, and by what it tells it was opened, or halted.
use Rattle.std.proofs.Common.{◌≡◌, ℕ, ◌<◌, true, false, List, [], ◌∷◌, ◌++◌, drop, slice_get, IsErr, Option, Some, None, Result, Ok, Err, refl, sym, ap, ◌∙◌, subst, arith, append_assoc}
use Rattle.std.specs.declared.alloc.AllocError.{AllocError}
use Rattle.std.proofs.lemmas.List.{append-nil}
use Rattle.disk_core.specs.Calls.{SameDisk}
use Rattle.disk_core.specs.Views.{DiskView}
use Rattle.gum_messages.specs.Messages.{Sent}
use Rattle.cluster_rules.specs.declared.effect.Effect.{Effect}
use Rattle.cluster_rules.specs.declared.effect.Effect.TheVariants.{Halted, Opened}
use Rattle.cluster_rules.specs.declared.effect.HaltCause.{HaltCause}
use Rattle.cluster_rules.specs.Worlds.{sent}
use Rattle.registry_machine.specs.Machine.{registry_machine}
use Rattle.cluster_node.specs.Events.{NodeInstalls, NodeReceives}
use Rattle.cluster_node.specs.States.{HasRoom, IsSameNode, NodeValue, RunningNode, clocked, started}
use Rattle.cluster_node.proofs.KeepingRoom.{install_gives_room}
use Rattle.single_rules.specs.Single.{view_of_one}
use Rattle.single_rules.proofs.Opens.{takes_view_of_one}
use Rattle.single_node.specs.Opening.{NotOpened, OpenedAlone, cause_for, started_node}
use Rattle.single_node.specs.Singles.{BreaksOff, Delivers, Installs, Opens, SingleState, halt_cause, runs_alone}
use Rattle.single_node.specs.declared.fault.StartFault.{StartFault}
use Rattle.single_node.specs.declared.fault.StartFault.TheVariants as start
use Rattle.single_node.proofs.Opens.{open_fails, open_leads}

one : 0 < 1
one = omega arith

module _ (inc stamp : ℕ) (v w : DiskView) (es : List Effect) (i : 0 < inc) where
  abbrev From : Option RunningNode → Type 0
  From r = NodeInstalls {E = AllocError} v (Some (started_node 1 inc stamp)) (view_of_one 1 1 inc) (Ok es) r w

  opened_as : (r : Option RunningNode) → From r → halt_cause es ≡ None → (y : RunningNode) × (r ≡ Some y) × OpenedAlone 1 inc stamp 1 v y w es
  opened_as (Some y) h none = (y, refl, open_leads 1 inc stamp 1 v y w es i one h)
  opened_as None h none =
      let f = open_fails 1 inc stamp 1 v w es i one h in
      let e : Some (cause_for f.fault) ≡ None = sym (ap halt_cause f.effects) ∙ none in absurd (cc)

  halted_as : (cause : HaltCause) (r : Option RunningNode) → From r → halt_cause es ≡ Some cause → NotOpened 1 v w (Halted cause ∷ [])
  halted_as cause (Some y) h is =
      let o = open_leads 1 inc stamp 1 v y w es i one h in
      let e : ◌≡◌ {A = Option HaltCause} None (Some cause) = sym (ap halt_cause o.effects) ∙ is in absurd (cc)
  halted_as cause None h is =
      let f = open_fails 1 inc stamp 1 v w es i one h in
      let e : Some (cause_for f.fault) ≡ Some cause = sym (ap halt_cause f.effects) ∙ is in
      let same : cause ≡ cause_for f.fault = cc in
      record { fault = f.fault; had_memory = f.had_memory; opens = f.opens; claims = f.claims; effects = ap (λ (k : HaltCause). Halted k ∷ []) same }

  -- ---- the node behind it

  node_is : (m : NodeValue) (y : RunningNode) → m.number ≡ 1 → m.inc ≡ inc → m.running ≡ Some y → ◌≡◌ {A = NodeValue} m (record { number = 1; inc = inc; running = Some y })
  node_is m y number same runs = λ j. record { number = number j; inc = same j; running = runs j }

-- The node that was started, with its clock set.
pub opens_ok : (inc stamp : ℕ) (v w : DiskView) (n m : NodeValue) → 0 < inc → n ≡ clocked stamp (started 1 inc) → Installs v n (Ok tt) m w → IsSameNode n m
    → Opens inc stamp v (Ok (record { node = m; left = [] })) w
opens_ok inc stamp v w n m i is h same =
    let at : Installs v (clocked stamp (started 1 inc)) (Ok tt) m w = subst (λ (k : NodeValue). Installs v k (Ok tt) m w) is h in
    let o = opened_as inc stamp v w at.0 i m.running at.1 at.2 in
    let whole : ◌≡◌ {A = NodeValue} m (record { number = 1; inc = inc; running = Some o.0 }) =
    node_is inc stamp v w at.0 i m o.0 (same.number ∙ ap (λ (k : NodeValue). k.number) is) (same.inc ∙ ap (λ (k : NodeValue). k.inc) is) o.1 in
    (o.0, at.0, ap (λ (k : NodeValue). record { node = k; left = [] }) whole, o.2)

opens_err : (inc stamp : ℕ) (v w : DiskView) (n m : NodeValue) (cause : HaltCause) → 0 < inc → n ≡ clocked stamp (started 1 inc) → Installs v n (Err (start.Halted cause)) m w
    → Opens inc stamp v (Err (start.Halted cause)) w
opens_err inc stamp v w n m cause i is h =
    let at : Installs v (clocked stamp (started 1 inc)) (Err (start.Halted cause)) m w = subst (λ (k : NodeValue). Installs v k (Err (start.Halted cause)) m w) is h in
    halted_as inc stamp v w at.0 i cause m.running at.1 at.2

pub opens_refused : (inc stamp : ℕ) (v w : DiskView) (n m : NodeValue) (fault : StartFault) → 0 < inc → n ≡ clocked stamp (started 1 inc) → Installs v n (Err fault) m w → Opens inc stamp v (Err fault) w
opens_refused inc stamp v w n m (start.Halted cause) i is h = opens_err inc stamp v w n m cause i is h
opens_refused inc stamp v w n m start.Memory i is h = tt

pub opens_with_room : (inc stamp : ℕ) (v w : DiskView) (n m : NodeValue) → 0 < inc → n ≡ clocked stamp (started 1 inc) → Installs v n (Ok tt) m w → SameDisk v w → HasRoom m w
opens_with_room inc stamp v w n m i is h disk =
    let at : Installs v (clocked stamp (started 1 inc)) (Ok tt) m w = subst (λ (k : NodeValue). Installs v k (Ok tt) m w) is h in
    install_gives_room (started_node 1 inc stamp) m v w (view_of_one 1 1 inc) (Ok at.0) (takes_view_of_one registry_machine 1 inc stamp 1 i one) at.1 disk

-- ---- a message

breaks_off : (s : SingleState) (v w : DiskView) (p : Sent) (others : List Sent) (r : Result (List Effect) AllocError) (y : Option RunningNode) (error : AllocError) → s.left ≡ p ∷ others
    → NodeReceives {E = AllocError} v s.node.running p r y w → BreaksOff s v error w
breaks_off s v w p others r y error is h = record { message = p; others = others; oldest = is; receives = by_running s.node.running h }
  where
    by_running : (q : Option RunningNode) → NodeReceives {E = AllocError} v q p r y w → NodeReceives {E = AllocError} v q p (Err error) None w
    by_running None h = record { stopped = refl; effects = tt; disk = h.disk }
    by_running (Some x) h = record { came = h.came; member = h.member; event = h.event; follows = tt; stops = refl }

first_is : (left : List Sent) (p : Sent) → Some p ≡ slice_get left 0 → left ≡ p ∷ drop 1 left
first_is [] p e = absurd (cc)
first_is (q ∷ left) p e = let same : p ≡ q = cc in ap (λ (x : Sent). x ∷ left) (sym same)

pub breaks_off_at : (s t : SingleState) (v w : DiskView) (p : Sent) (r : Result (List Effect) AllocError) (y : Option RunningNode) (result : Result (Option (List Effect)) AllocError) → Some p ≡ slice_get s.left 0
    → NodeReceives {E = AllocError} v s.node.running p r y w → IsErr result → Delivers s v result t w
breaks_off_at s t v w p r y (Ok heard) is h fails = let no : false ≡ true = fails in absurd (cc)
breaks_off_at s t v w p r y (Err error) is h fails = breaks_off s v w p (drop 1 s.left) r y error (first_is s.left p is) h
