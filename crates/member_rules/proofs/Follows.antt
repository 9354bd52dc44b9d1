-- A member that isn't the locker, as the locker offers its log and sends its state.
use Rattle.std.proofs.Common.{◌≡◌, ℕ, ◌+◌, Bool, true, false, List, [], ◌++◌, length, Option, Some, None, cond, nat_eq, refl, sym, ap, ◌∙◌, subst}
use Rattle.std.specs.Prelude.{IfOk, IfSome, IsSome, Result}
use Rattle.update_records.specs.Entry.{Entry}
use Rattle.gum_messages.specs.declared.body.Body.TheVariants.{Need}
use Rattle.registry_defs.specs.declared.outcome.Outcome.{Outcome}
use Rattle.gum_core.specs.Updating.{CoreState}
use Rattle.view_reconcile.specs.declared.stage.Stage.{Stage}
use Rattle.view_reconcile.specs.declared.stage.Stage.TheVariants as stage
use Rattle.view_reconcile.specs.declared.step.Step.{Step}
use Rattle.view_reconcile.specs.declared.step.Step.TheVariants as step
use Rattle.view_reconcile.specs.Joining.{ReconcileState, is_ready, locks, offered, pulled, pulled_bytes, taken}
use Rattle.cluster_rules.specs.declared.offering.Offering.{Offering}
use Rattle.cluster_rules.specs.Nodes.{NodeState, Out, Replica, done_of, locker_at, nothing, place_of, tells}
use Rattle.cluster_rules.specs.Joins.{follows, gathers, joined, known_done, on_piece, pulls, says_ready, takes_state, with_replica}
use Rattle.cluster_rules.specs.Updates.{applied, replica_after}
use Rattle.registry_machine.specs.Machine.{ReplicatedRegistry, registry_decoded, registry_machine}
use Rattle.member_rules.specs.Pulling.{HasFollowed, HasGathered, LacksLast, begins_again, fed_with, follows_by, pulled_at, stands_with, takes_last}
use Rattle.member_rules.specs.States.{AddsNothing, IsWhole, PulledState, bytes_in, offer_in, state_of}
use Rattle.member_rules.specs.Steps.{GoesOn}
use Rattle.member_rules.specs.declared.told.Told.{Told}
use Rattle.member_rules.proofs.Followed.{has_begun_again, has_followed, has_gathered, has_stood}
use Rattle.member_rules.proofs.Openings.{same_adds_nothing}
use Rattle.member_rules.proofs.Ways.{again_whole, followed_whole, gathered_whole, gathering_follows, gathering_offered, kept_whole, state_whole, stood_whole, stood_with_whole, taking_whole}

abbrev with_join : NodeState registry_machine → ReconcileState → NodeState registry_machine
with_join x t = record x { join = t }

abbrev at_stage : ReconcileState → Stage → ReconcileState
at_stage s g = record s { stage = g }

abbrev offer_of : ℕ → ℕ → Option Entry → Offering
offer_of count cap last = record { count = count; cap = cap; last = last }

abbrev Passes : Step → Type 0
Passes q = elim q [ step.Pull offset ↦ ⊥ | step.Whole ↦ ⊥ | _ ↦ Unit {0} ]

abbrev NotPull : Step → Type 0
NotPull q = elim q [ step.Pull offset ↦ ⊥ | _ ↦ Unit {0} ]

abbrev no_registry : Option ReplicatedRegistry
no_registry = None

-- ---- the locker offers

last_step : (x : NodeState registry_machine) (count cap : ℕ) (last : Option Entry) (t : ReconcileState) → place_of last ≡ Some count
    → t ≡ at_stage x.join stage.Taking
    → follows x (offer_of count cap last) (t, step.ApplyLast) ≡ takes_last (with_join x t) (offer_of count cap last)
last_step x count cap None t some is = absurd (cc)
last_step x count cap (Some e) t some is =
    subst (λ (j : ReconcileState). says_ready (joined (applied e x) count (Some e) (taken j true).0)
    ≡ says_ready (joined (applied e (with_join x j)) count (Some e) (taken j true).0))
    (sym is) refl

by_step : (x : NodeState registry_machine) (o : Offering) (t : ReconcileState) (s : Step) → HasFollowed x.join o.count (place_of o.last) (known_done x) t s
    → follows x o (t, s) ≡ follows_by (with_join x t) o s
by_step x o t step.Nothing h = ap (λ (j : ReconcileState). nothing (with_join x j)) (sym h)
by_step x o t step.Ready h =
    subst (λ (j : ReconcileState). says_ready (joined x o.count o.last j) ≡ says_ready (joined (with_join x j) o.count o.last j)) (sym h.1) refl
by_step x o t step.ApplyLast h = last_step x o.count o.cap o.last t h.3 h.4
by_step x o t (step.Pull offset) h =
    subst (λ (j : ReconcileState). tells (pulls x o offset j) (locker_at x) (Need offset)
    ≡ tells (pulls (with_join x j) o offset j) (locker_at (with_join x j)) (Need offset)) (sym h.1) refl
by_step x o t step.Whole h = absurd h
by_step x o t step.Open h = absurd h
by_step x o t (step.OpenAgain to) h = absurd h
by_step x o t (step.OfferTo count) h = absurd h

module _ (x y : NodeState registry_machine) (o : Offering) (s : Step) (other : locks x.join ≡ false) (waits : is_ready x.join ≡ false)
    (is : (y.join, s) ≡ offered x.join o.count (place_of o.last) (known_done x)) where
  has : HasFollowed x.join o.count (place_of o.last) (known_done x) y.join s
  has = has_followed x.join y.join o.count (place_of o.last) (known_done x) s other waits is

  pub followed_is : y ≡ record x { join = y.join } → follows x o (offered x.join o.count (place_of o.last) (known_done x)) ≡ follows_by y o s
  followed_is others = ap (λ r. follows x o r) (sym is) ∙ by_step x o y.join s has ∙ ap (λ (z : NodeState registry_machine). follows_by z o s) (sym others)

-- What was offered counts where the pulling begins.
abbrev with_pulled : NodeState registry_machine → ReconcileState → Option PulledState → NodeState registry_machine
with_pulled x t p = record x { join = t; offer = offer_in p; bytes = bytes_in p }

pulls_as : (x : NodeState registry_machine) (p : Option PulledState) (o : Offering) (offset : ℕ) (t : ReconcileState) → x.offer ≡ offer_in p
    → x.bytes ≡ bytes_in p → pulls x o offset t ≡ with_pulled x t (pulled_at p offset o)
pulls_as x p o offset t offer bytes = by (nat_eq offset 0)
  where
    by : (b : Bool) → cond b (record x { join = t; offer = Some o; bytes = [] }) (record x { join = t })
        ≡ with_pulled x t (cond b (Some (record { offer = o; bytes = [] })) p)
    by true = refl
    by false = cc

pub pull_is : (x z : NodeState registry_machine) (p : Option PulledState) (o : Offering) (offset : ℕ) → locks x.join ≡ false → is_ready x.join ≡ false
    → (z.join, step.Pull offset) ≡ offered x.join o.count (place_of o.last) (known_done x) → x.offer ≡ offer_in p → x.bytes ≡ bytes_in p
    → z ≡ record x { join = z.join; offer = offer_in (pulled_at p offset o); bytes = bytes_in (pulled_at p offset o) }
    → follows x o (offered x.join o.count (place_of o.last) (known_done x)) ≡ tells z (locker_at z) (Need offset)
pull_is x z p o offset other waits is offer bytes others =
    let y : NodeState registry_machine = with_join x z.join in
    followed_is x y o (step.Pull offset) other waits is refl
    ∙ ap (λ (n : NodeState registry_machine). tells n (locker_at y) (Need offset)) (pulls_as x p o offset z.join offer bytes ∙ sym others)

pub ready_past : (s t : ReconcileState) (count : ℕ) (last known : Option ℕ) → locks s ≡ false → is_ready s ≡ false
    → (t, step.Ready) ≡ offered s count last known → pulled_bytes t ≡ None
ready_past s t count last known other waits is =
    subst (λ (j : ReconcileState). pulled_bytes j ≡ None) (sym (has_followed s t count last known step.Ready other waits is).1) refl

locks_by : (s t : ReconcileState) (count : ℕ) (last known : Option ℕ) (q : Step) → locks s ≡ false → HasFollowed s count last known t q → locks t ≡ false
locks_by s t count last known step.Nothing other h = ap locks h ∙ other
locks_by s t count last known step.Ready other h = ap locks h.1 ∙ other
locks_by s t count last known step.ApplyLast other h = ap locks h.4 ∙ other
locks_by s t count last known (step.Pull offset) other h = ap locks h.1 ∙ other
locks_by s t count last known step.Whole other h = absurd h
locks_by s t count last known step.Open other h = absurd h
locks_by s t count last known (step.OpenAgain to) other h = absurd h
locks_by s t count last known (step.OfferTo n) other h = absurd h

pub followed_locks : (s t : ReconcileState) (count : ℕ) (last known : Option ℕ) (q : Step) → locks s ≡ false → is_ready s ≡ false
    → (t, q) ≡ offered s count last known → locks t ≡ false
followed_locks s t count last known q other waits is = locks_by s t count last known q other (has_followed s t count last known q other waits is)

-- ---- the last record alone

some_known : (r : Option (Replica registry_machine)) (k : ℕ) → (elim r [ None ↦ None | Some q ↦ Some q.done ]) ≡ Some k → IsSome r
some_known None k e = absurd (cc)
some_known (Some q) k e = refl

known_is : (r : Option (Replica registry_machine)) (k : ℕ) → (elim r [ None ↦ None | Some q ↦ Some q.done ]) ≡ Some k
    → (elim r [ None ↦ 0 | Some q ↦ q.done ]) ≡ k
known_is None k e = absurd (cc)
known_is (Some q) k e = cc

pub next_last : (last : Option Entry) (count done : ℕ) → place_of last ≡ Some count → done + 1 ≡ count → IfSome last (λ e. e.place ≡ done + 1)
next_last None count done e next = tt
next_last (Some d) count done e next = let same : d.place ≡ count = cc in same ∙ sym next

pub lacks_last : (x y : NodeState registry_machine) (o : Offering) (last known : Option ℕ) → last ≡ place_of o.last → known ≡ known_done x
    → locks x.join ≡ false → is_ready x.join ≡ false
    → (y.join, step.ApplyLast) ≡ offered x.join o.count last known → y ≡ record x { join = y.join } → LacksLast y o
lacks_last x y o last known is_last is_known other waits is others =
    let h = has_followed x.join y.join o.count last known step.ApplyLast other waits is in
    let replica : y.replica ≡ x.replica = ap (λ (z : NodeState registry_machine). z.replica) others in
    let some : (elim y.replica [ None ↦ None | Some q ↦ Some q.done ]) ≡ Some h.0 =
    ap (λ (r : Option (Replica registry_machine)). elim r [ None ↦ None | Some q ↦ Some q.done ]) replica ∙ sym is_known ∙ h.1 in
    record {
      taking = ap (λ (j : ReconcileState). j.stage) h.4;
      follows = ap locks h.4 ∙ other;
      some = some_known y.replica h.0 some;
      next = next_last o.last o.count (done_of y) (sym is_last ∙ h.3) (ap (λ n. n + 1) (known_is y.replica h.0 some) ∙ h.2);
    }

stood : (s t : ReconcileState) (q : Step) → locks s ≡ false → (t, q) ≡ taken s true → t ≡ at_stage s stage.Ready
stood s t q other is = ap (λ p. p.0) is ∙ has_stood s other

again : (s t : ReconcileState) (q : Step) → locks s ≡ false → (t, q) ≡ taken s false → t ≡ at_stage s (stage.Pulling 0)
again s t q other is = ap (λ p. p.0) is ∙ has_begun_again s other

pub stood_past : (s t : ReconcileState) (q : Step) → locks s ≡ false → (t, q) ≡ taken s true → pulled_bytes t ≡ None
stood_past s t q other is = ap pulled_bytes (stood s t q other is)

pub stood_locks : (s t : ReconcileState) (q : Step) → locks s ≡ false → (t, q) ≡ taken s true → locks t ≡ false
stood_locks s t q other is = ap locks (stood s t q other is) ∙ other

pub again_locks : (s t : ReconcileState) (q : Step) → locks s ≡ false → (t, q) ≡ taken s false → locks t ≡ false
again_locks s t q other is = ap locks (again s t q other is) ∙ other

took_last : (x : NodeState registry_machine) (count cap : ℕ) (last : Option Entry) (e : Entry) (t : ReconcileState) → last ≡ Some e
    → t ≡ (taken x.join true).0 → locks x.join ≡ false
    → takes_last x (offer_of count cap last) ≡ says_ready (joined (record (applied e x) { join = t }) count last t)
took_last x count cap last e t some is other =
    let ready : t ≡ at_stage x.join stage.Ready = is ∙ has_stood x.join other in
    subst (λ (l : Option Entry). takes_last x (offer_of count cap l) ≡ says_ready (joined (record (applied e x) { join = t }) count l t)) (sym some)
    (subst (λ (j : ReconcileState). says_ready (joined (applied e x) count (Some e) j)
    ≡ says_ready (joined (record (applied e x) { join = t }) count (Some e) t)) is
    (subst (λ (j : ReconcileState). says_ready (joined (applied e x) count (Some e) j)
    ≡ says_ready (joined (record (applied e x) { join = j }) count (Some e) j)) (sym ready) refl))

pub last_taken_is : (x y : NodeState registry_machine) (o : Offering) (e : Entry) (q : Step) → o.last ≡ Some e → locks x.join ≡ false
    → (y.join, q) ≡ taken x.join true → y ≡ record (applied e x) { join = y.join } → takes_last x o ≡ says_ready (joined y o.count o.last y.join)
last_taken_is x y o e q some other is others =
    took_last x o.count o.cap o.last e y.join some (ap (λ p. p.0) is) other
    ∙ ap (λ (z : NodeState registry_machine). says_ready (joined z o.count o.last y.join)) (sym others)

-- ---- the state comes

fed_offer : (p : Option PulledState) (b : List ℕ) → offer_in (fed_with p b) ≡ offer_in p
fed_offer None b = refl
fed_offer (Some p) b = refl

fed_bytes : (p : Option PulledState) (b : List ℕ) → IsSome (offer_in p) → bytes_in (fed_with p b) ≡ bytes_in p ++ b
fed_bytes None b some = absurd (cc)
fed_bytes (Some p) b some = refl

pull_step : (x : NodeState registry_machine) (p : Option PulledState) (next : ℕ) (b : List ℕ) (t : ReconcileState) → x.offer ≡ offer_in p
    → x.bytes ≡ bytes_in p → IsSome (offer_in p)
    → t ≡ at_stage x.join (stage.Pulling next)
    → gathers x b (t, step.Pull next)
    ≡ tells (record x { join = t; offer = offer_in (fed_with p b); bytes = bytes_in (fed_with p b) }) (locker_at (with_join x t)) (Need next)
pull_step x p next b t offer bytes some is =
    let more : bytes_in (fed_with p b) ≡ x.bytes ++ b = fed_bytes p b some ∙ ap (λ (l : List ℕ). l ++ b) (sym bytes) in
    let same : offer_in (fed_with p b) ≡ x.offer = fed_offer p b ∙ sym offer in
    let z : NodeState registry_machine = record x { join = t; bytes = x.bytes ++ b } in
    let w : NodeState registry_machine = record x { join = t; offer = offer_in (fed_with p b); bytes = bytes_in (fed_with p b) } in
    let is_w : z ≡ w = cc in
    subst (λ (j : ReconcileState). tells z (locker_at x) (Need next) ≡ tells z (locker_at (with_join x j)) (Need next)) (sym is) refl
    ∙ ap (λ (n : NodeState registry_machine). tells n (locker_at (with_join x t)) (Need next)) is_w

whole_with : (x : NodeState registry_machine) (o : Option Offering) (all_ b : List ℕ) (t : ReconcileState) → IsSome o → t ≡ at_stage x.join stage.Taking
    → takes_state (record x { offer = o }) all_ t ≡ takes_state (record x { join = t; offer = o; bytes = b }) all_ t
whole_with x None all_ b t some is = absurd (cc)
whole_with x (Some o) all_ b t some is =
    subst (λ (j : ReconcileState). takes_state (record x { offer = Some o }) all_ j
    ≡ takes_state (record x { join = j; offer = Some o; bytes = b }) all_ j) (sym is) refl

whole_step : (x : NodeState registry_machine) (p : Option PulledState) (b : List ℕ) (t : ReconcileState) → x.offer ≡ offer_in p → x.bytes ≡ bytes_in p
    → IsSome (offer_in p)
    → t ≡ at_stage x.join stage.Taking
    → gathers x b (t, step.Whole)
    ≡ takes_state (record x { join = t; offer = offer_in (fed_with p b); bytes = bytes_in (fed_with p b) }) (bytes_in (fed_with p b)) t
whole_step x p b t offer bytes some is =
    let more : x.bytes ++ b ≡ bytes_in (fed_with p b) = ap (λ (l : List ℕ). l ++ b) bytes ∙ sym (fed_bytes p b some) in
    let same : x.offer ≡ offer_in (fed_with p b) = offer ∙ sym (fed_offer p b) in
    whole_with x x.offer (x.bytes ++ b) (bytes_in (fed_with p b)) t (subst (λ (o : Option Offering). IsSome o) (sym offer) some) is
    ∙ ap (λ (l : List ℕ). takes_state (record x { join = t; bytes = bytes_in (fed_with p b) }) l t) more
    ∙ ap (λ (o : Option Offering). takes_state (record x { join = t; offer = o; bytes = bytes_in (fed_with p b) }) (bytes_in (fed_with p b)) t) same

pass_by : (x : NodeState registry_machine) (b : List ℕ) (t : ReconcileState) (q : Step) → HasGathered x.join t q → Passes q
    → gathers x b (t, q) ≡ nothing (with_join x t)
pass_by x b t step.Nothing h passes = ap (λ (j : ReconcileState). nothing (with_join x j)) (sym h)
pass_by x b t step.Ready h passes = absurd h
pass_by x b t step.ApplyLast h passes = absurd h
pass_by x b t (step.Pull offset) h passes = absurd passes
pass_by x b t step.Whole h passes = absurd passes
pass_by x b t step.Open h passes = absurd h
pass_by x b t (step.OpenAgain to) h passes = absurd h
pass_by x b t (step.OfferTo count) h passes = absurd h

passed : (s t : ReconcileState) (q : Step) → HasGathered s t q → Passes q → t ≡ s
passed s t step.Nothing h passes = h
passed s t step.Ready h passes = absurd h
passed s t step.ApplyLast h passes = absurd h
passed s t (step.Pull offset) h passes = absurd passes
passed s t step.Whole h passes = absurd passes
passed s t step.Open h passes = absurd h
passed s t (step.OpenAgain to) h passes = absurd h
passed s t (step.OfferTo count) h passes = absurd h

pub piece_passes_is : (x y : NodeState registry_machine) (total offset : ℕ) (b : List ℕ) (q : Step)
    → (y.join, q) ≡ pulled x.join total offset (length b) → Passes q
    → y ≡ record x { join = y.join } → on_piece x total offset b ≡ nothing y
piece_passes_is x y total offset b q is passes others =
    ap (λ r. gathers x b r) (sym is) ∙ pass_by x b y.join q (has_gathered x.join y.join total offset (length b) q is) passes
    ∙ ap (λ (z : NodeState registry_machine). nothing z) (sym others)

same_adds : (x y : NodeState registry_machine) → x ≡ y → AddsNothing x y
same_adds x y is = subst (λ (z : NodeState registry_machine). AddsNothing x z) is (same_adds_nothing x)

pub passed_adds_nothing : (x y : NodeState registry_machine) (total offset count : ℕ) (q : Step) → (y.join, q) ≡ pulled x.join total offset count → Passes q
    → y ≡ record x { join = y.join } → AddsNothing x y
passed_adds_nothing x y total offset count q is passes others =
    let join : y.join ≡ x.join = passed x.join y.join q (has_gathered x.join y.join total offset count q is) passes in
    same_adds x y (ap (λ (j : ReconcileState). with_join x j) (sym join) ∙ sym others)

-- What the state's reader knows.
module _ {n i : ℕ} {c : CoreState} {r : Option (Replica registry_machine)} {bytes : Option (List ℕ)} where
  piece_pulls_is : (x z : NodeState registry_machine) (p : Option PulledState) (total offset next : ℕ) (b : List ℕ)
      → IsWhole n i c x.join r (offer_in p) bytes → (z.join, step.Pull next) ≡ pulled x.join total offset (length b) → x.offer ≡ offer_in p
      → x.bytes ≡ bytes_in p
      → z ≡ record x { join = z.join; offer = offer_in (fed_with p b); bytes = bytes_in (fed_with p b) }
      → on_piece x total offset b ≡ tells z (locker_at z) (Need next)
  piece_pulls_is x z p total offset next b w is offer held others =
      let h = has_gathered x.join z.join total offset (length b) (step.Pull next) is in
      ap (λ q. gathers x b q) (sym is)
      ∙ pull_step x p next b z.join offer held (gathering_offered w h.0) h.1
      ∙ ap (λ (m : NodeState registry_machine). tells m (locker_at (with_join x z.join)) (Need next)) (sym others)

  pub piece_whole_is : (x z : NodeState registry_machine) (p : Option PulledState) (total offset : ℕ) (b : List ℕ)
      → IsWhole n i c x.join r (offer_in p) bytes → (z.join, step.Whole) ≡ pulled x.join total offset (length b) → x.offer ≡ offer_in p → x.bytes ≡ bytes_in p
      → z ≡ record x { join = z.join; offer = offer_in (fed_with p b); bytes = bytes_in (fed_with p b) }
      → on_piece x total offset b ≡ takes_state z z.bytes z.join
  piece_whole_is x z p total offset b w is offer held others =
      let h = has_gathered x.join z.join total offset (length b) step.Whole is in
      ap (λ q. gathers x b q) (sym is)
      ∙ whole_step x p b z.join offer held (gathering_offered w h.0) h.1
      ∙ ap (λ (m : NodeState registry_machine). takes_state m m.bytes m.join) (sym others)

  pub gathered_follows : (s t : ReconcileState) (o : Option Offering) (total offset count next : ℕ)
      → IsWhole n i c s r o bytes → (t, step.Pull next) ≡ pulled s total offset count → locks t ≡ false
  gathered_follows s t o total offset count next w is =
      let h = has_gathered s t total offset count (step.Pull next) is in
      ap locks h.1 ∙ gathering_follows w h.0

  pub whole_follows : (s t : ReconcileState) (o : Option Offering) (total offset count : ℕ)
      → IsWhole n i c s r o bytes → (t, step.Whole) ≡ pulled s total offset count → locks t ≡ false
  whole_follows s t o total offset count w is =
      let h = has_gathered s t total offset count step.Whole is in
      ap locks h.1 ∙ gathering_follows w h.0

pub whole_taking : (s t : ReconcileState) (total offset count : ℕ) → (t, step.Whole) ≡ pulled s total offset count → t.stage ≡ stage.Taking
whole_taking s t total offset count is = ap (λ (j : ReconcileState). j.stage) (has_gathered s t total offset count step.Whole is).1

-- ---- the state is whole

abbrev state_by : NodeState registry_machine → Offering → ReconcileState → Option ReplicatedRegistry → Out registry_machine
state_by x o join found = elim found [
  | Some registry ↦ says_ready (joined (with_replica x registry o.count) o.count o.last (taken join true).0)
  | None ↦ tells (record x { join = (taken join false).0; bytes = [] }) (locker_at x) (Need 0)
]

decoded : (x : NodeState registry_machine) (o : Offering)
    → takes_state (record x { offer = Some o }) x.bytes x.join ≡ state_by (record x { offer = Some o }) o x.join (registry_decoded o.cap x.bytes)
decoded x o = refl

taken_with : (x : NodeState registry_machine) (o : Offering) (registry : ReplicatedRegistry) → registry_decoded o.cap x.bytes ≡ Some registry
    → takes_state (record x { offer = Some o }) x.bytes x.join ≡ stands_with x registry o
taken_with x o registry is = decoded x o ∙ ap (λ (f : Option ReplicatedRegistry). state_by (record x { offer = Some o }) o x.join f) is

failed_with : (x : NodeState registry_machine) (o : Offering) → registry_decoded o.cap x.bytes ≡ None
    → takes_state (record x { offer = Some o }) x.bytes x.join ≡ begins_again x o
failed_with x o is = decoded x o ∙ ap (λ (f : Option ReplicatedRegistry). state_by (record x { offer = Some o }) o x.join f) is

with_offer : (x : NodeState registry_machine) (o : Offering) → x.offer ≡ Some o
    → takes_state x x.bytes x.join ≡ takes_state (record x { offer = Some o }) x.bytes x.join
with_offer x o is = ap (λ (f : Option Offering). takes_state (record x { offer = f }) x.bytes x.join) is

pub state_taken_is : (x y : NodeState registry_machine) (o : Offering) (registry : ReplicatedRegistry) → x.offer ≡ Some o
    → Some registry ≡ registry_decoded o.cap x.bytes → y ≡ record x { offer = None; bytes = [] } → takes_state x x.bytes x.join ≡ stands_with y registry o
state_taken_is x y o registry offer is others =
    with_offer x o offer ∙ taken_with x o registry (sym is) ∙ ap (λ (z : NodeState registry_machine). stands_with z registry o) (sym others)

pub state_fails_is : (x y : NodeState registry_machine) (o : Offering) → x.offer ≡ Some o → no_registry ≡ registry_decoded o.cap x.bytes
    → y ≡ record x { offer = None; bytes = [] } → takes_state x x.bytes x.join ≡ begins_again y o
state_fails_is x y o offer is others =
    with_offer x o offer ∙ failed_with x o (sym is) ∙ ap (λ (z : NodeState registry_machine). begins_again z o) (sym others)

pub no_offer_is : (x : NodeState registry_machine) (bytes : List ℕ) (t : ReconcileState) → x.offer ≡ None → takes_state x bytes t ≡ nothing x
no_offer_is x bytes t none = rw none refl

-- ---- what a node keeps

abbrev known_in : Option (Replica registry_machine) → Option ℕ
known_in r = elim r [ None ↦ None | Some q ↦ Some q.done ]

known_some : (r : Option (Replica registry_machine)) → IsSome (known_in r) → IsSome r
known_some None some = cc
known_some (Some q) some = refl

some_after : (e : Entry) (r : Option (Replica registry_machine)) → IsSome r → IsSome (replica_after e r)
some_after e None some = cc
some_after e (Some r) some = refl

module _ {n i : ℕ} {c : CoreState} {s : ReconcileState} {r : Option (Replica registry_machine)} {o : Option Offering} {bytes : Option (List ℕ)} where
  whole_by : (t : ReconcileState) (q : Step) (count : ℕ) (last known : Option ℕ) → (IsSome known → IsSome r)
      → IsWhole n i c s r o bytes → is_ready s ≡ false → locks s ≡ false → HasFollowed s count last known t q → NotPull q → IsWhole n i c t r o bytes
  whole_by t step.Nothing count last known some w waits other h fits = subst (λ (x : ReconcileState). IsWhole n i c x r o bytes) (sym h) w
  whole_by t step.Ready count last known some w waits other h fits = followed_whole t w waits other (some h.0) h.1
  whole_by t step.ApplyLast count last known some w waits other h fits = taking_whole t w waits h.4
  whole_by t (step.Pull offset) count last known some w waits other h fits = absurd fits
  whole_by t step.Whole count last known some w waits other h fits = absurd h
  whole_by t step.Open count last known some w waits other h fits = absurd h
  whole_by t (step.OpenAgain to) count last known some w waits other h fits = absurd h
  whole_by t (step.OfferTo k) count last known some w waits other h fits = absurd h

  pub step_whole : (t : ReconcileState) (q : Step) (count : ℕ) (last known : Option ℕ) → IsWhole n i c s r o bytes → known ≡ known_in r
      → is_ready s ≡ false → locks s ≡ false
      → (t, q) ≡ offered s count last known → NotPull q → IsWhole n i c t r o bytes
  step_whole t q count last known w is_known waits other is fits =
      let has : IsSome known → IsSome r = λ some. known_some r (subst (λ (k : Option ℕ). IsSome k) is_known some) in
      whole_by t q count last known has w waits other (has_followed s t count last known q other waits is) fits

  pub gathered_step_whole : (t : ReconcileState) (q : Step) (total offset count : ℕ) → IsWhole n i c s r o bytes
      → (t, q) ≡ pulled s total offset count → IsWhole n i c t r o bytes
  gathered_step_whole t q total offset count w is = gather_by t q w (has_gathered s t total offset count q is)
    where
      gather_by : (t : ReconcileState) (q : Step) → IsWhole n i c s r o bytes → HasGathered s t q → IsWhole n i c t r o bytes
      gather_by t step.Nothing w h = subst (λ (x : ReconcileState). IsWhole n i c x r o bytes) (sym h) w
      gather_by t step.Ready w h = absurd h
      gather_by t step.ApplyLast w h = absurd h
      gather_by t (step.Pull k) w h = gathered_whole t k w h.0 h.1
      gather_by t step.Whole w h = state_whole t w h.0 h.1
      gather_by t step.Open w h = absurd h
      gather_by t (step.OpenAgain to) w h = absurd h
      gather_by t (step.OfferTo k) w h = absurd h

  pub stood_step_whole : (t : ReconcileState) (q : Step) → IsWhole n i c s r o bytes → s.stage ≡ stage.Taking → locks s ≡ false → IsSome r
      → (t, q) ≡ taken s true → IsWhole n i c t r o bytes
  stood_step_whole t q w taking other some is = stood_whole t w taking other some (stood s t q other is)

  pub last_taken_whole : (t : ReconcileState) (q : Step) (e : Entry) (old : Option (Replica registry_machine))
      → IsWhole n i c s r o bytes → s.stage ≡ stage.Taking → locks s ≡ false → IsSome old → r ≡ replica_after e old → (t, q) ≡ taken s true
      → IsWhole n i c t r o bytes
  last_taken_whole t q e old w taking other some after is =
      stood_step_whole t q w taking other (subst (λ (x : Option (Replica registry_machine)). IsSome x) (sym after) (some_after e old some)) is

  pub stood_with_step_whole : (t : ReconcileState) (q : Step) (k : Replica registry_machine)
      → IsWhole n i c s r o bytes → s.stage ≡ stage.Taking → locks s ≡ false → (t, q) ≡ taken s true → IsWhole n i c t (Some k) o None
  stood_with_step_whole t q k w taking other is = stood_with_whole t k w taking other (stood s t q other is)

  pub again_step_whole : (t : ReconcileState) (q : Step) (p : Offering) → IsWhole n i c s r o bytes → s.stage ≡ stage.Taking → locks s ≡ false
      → (t, q) ≡ taken s false → IsWhole n i c t r (Some p) bytes
  again_step_whole t q p w taking other is = again_whole t p w taking other (again s t q other is)

module _ {n i : ℕ} {c : CoreState} {s : ReconcileState} {r : Option (Replica registry_machine)} {bytes : Option (List ℕ)} where
  pub pull_whole : (p : Option PulledState) (f : Offering) (t : ReconcileState) (offset count : ℕ) (last known : Option ℕ)
      → IsWhole n i c s r (offer_in p) bytes → is_ready s ≡ false → locks s ≡ false → (t, step.Pull offset) ≡ offered s count last known
      → IsWhole n i c t r (offer_in (pulled_at p offset f)) bytes
  pull_whole p f t offset count last known w waits other is =
      let h = has_followed s t count last known (step.Pull offset) other waits is in
      kept_whole p f t offset w waits other h.0 h.1

  pub fed_whole : (t : ReconcileState) (q : Step) (p next : Option PulledState) (total offset count : ℕ) (b : List ℕ)
      → IsWhole n i c s r (offer_in p) bytes → (t, q) ≡ pulled s total offset count → next ≡ fed_with p b → IsWhole n i c t r (offer_in next) bytes
  fed_whole t q p next total offset count b w is fed =
      subst (λ (f : Option Offering). IsWhole n i c t r f bytes) (sym (ap offer_in fed ∙ fed_offer p b)) (gathered_step_whole t q total offset count w is)

  pub unfed_whole : (t : ReconcileState) (q : Step) (p next : Option PulledState) (total offset count : ℕ)
      → IsWhole n i c s r (offer_in p) bytes → (t, q) ≡ pulled s total offset count → next ≡ p → IsWhole n i c t r (offer_in next) bytes
  unfed_whole t q p next total offset count w is kept =
      subst (λ (f : Option Offering). IsWhole n i c t r f bytes) (sym (ap offer_in kept)) (gathered_step_whole t q total offset count w is)

-- ---- by the parts of a node

pub goes_as : {E : Type 0} (r : Result Told E) (a b : Out registry_machine) (y : NodeState registry_machine)
    → a ≡ b → IfOk r (λ told. GoesOn b y told) → IfOk r (λ told. GoesOn a y told)
goes_as r a b y is goes = subst (λ (o : Out registry_machine). IfOk r (λ told. GoesOn o y told)) (sym is) goes

module _ (stamp : ℕ) (core : CoreState) (s t : ReconcileState) (r : Option (Replica registry_machine)) (last : Option Entry) (p next : Option PulledState)
    (spreads : Option Entry) (settled : Option ℕ) (outcome : Option Outcome) where
  module _ {n i : ℕ} {bytes : Option (List ℕ)} (total offset count : ℕ) (b : List ℕ) (w : IsWhole n i core s r (offer_in p) bytes) (q : Step) (is : (t, q)
      ≡ pulled s total offset count)
      (same : count ≡ length b) (fed : next ≡ fed_with p b) where
    step_at : (q : Step) (o : Step) → (t, q) ≡ pulled s total offset count → q ≡ o → (t, o) ≡ pulled s total offset (length b)
    step_at q o is at = ap (λ (k : Step). (t, k)) (sym at) ∙ is ∙ ap (λ k. pulled s total offset k) same

    pub piece_pulls_at : (from : ℕ) → q ≡ step.Pull from
        → on_piece (state_of stamp core s r last p spreads settled outcome) total offset b
        ≡ tells (state_of stamp core t r last next spreads settled outcome) (locker_at (state_of stamp core t r last next spreads settled outcome)) (Need from)
    piece_pulls_at from at =
        piece_pulls_is (state_of stamp core s r last p spreads settled outcome)
        (state_of stamp core t r last next spreads settled outcome) p total offset from b w
        (step_at q (step.Pull from) is at) refl refl
        (ap (λ (f : Option PulledState). state_of stamp core t r last f spreads settled outcome) fed)
