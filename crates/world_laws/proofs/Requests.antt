-- A node takes no more requests than 64 bits count.
use Rattle.std.proofs.Common.{◌≡◌, ℕ, ◌+◌, ◌<◌, ◌≤◌, ◌^◌, true, List, [], ◌∷◌, ◌++◌, length, Some, None, nat_eq, nat_lt, if◌then◌else◌, length-append, arith}
use Rattle.gum_messages.specs.declared.view.View.{View}
use Rattle.gum_messages.specs.Members.{is_locker}
use Rattle.gum_messages.specs.Places.{at_place}
use Rattle.gum_messages.proofs.Branches.{if_cases, option_cases}
use Rattle.update_records.specs.declared.update.Update.{Update}
use Rattle.gum_core.specs.Updating.{last_request}
use Rattle.view_reconcile.specs.Joining as joining
use Rattle.view_reconcile.specs.Chains.{view_in}
use Rattle.cluster_rules.specs.Machines.{Machine}
use Rattle.cluster_rules.specs.Nodes.{NodeState, halts, nothing, number_of}
use Rattle.cluster_rules.specs.Updates.{may_submit, submit}
use Rattle.cluster_rules.specs.Joins.{entered, recovers, takes_view}
use Rattle.cluster_rules.specs.Receiving.{checkpoint, clock, receive, tick}
use Rattle.cluster_rules.specs.Worlds.{Checkpoint, Clock, Declare, Deliver, Die, DieInDeliver, DieInInstall, Event, Install, Opening, Read, Recovered, Refused, Start, Submit, Tick, World, absorb, claimed, deliver, die_in_deliver, die_in_install, found_log, happens, install, leave, logs, may_declare, noted, put, raise, reads, stopped, with_log, written}
use Rattle.cluster_laws.proofs.Applying.{and_true, lt_true}
use Rattle.cluster_laws.proofs.Events.{at_keeps}
use Rattle.cluster_laws.proofs.Inv.{Invariant, NodeOk}
use Rattle.cluster_laws.proofs.Starting.{started_world}

module _ {M : Machine} where
  abbrev pub Few : World M → Type 0
  Few w = (n i : ℕ) → length (w.requests n i) ≤ last_request

  opened_few : (w : World M) (n : ℕ) (x : NodeState M) (v : View) (opening : Opening) → Few w → Few (elim opening [
    | Recovered found ↦ absorb n (recovers (entered v x) w.log.cap (found_log found w.log).order) (with_log (claimed v.number (found_log found w.log)) w)
    | Refused raised cause ↦ absorb n (halts cause) (with_log (raise raised v.number w.log) w)
  ])
  opened_few w n x v (Recovered found) h = h
  opened_few w n x v (Refused raised cause) h = h

  install_few : (w : World M) (n : ℕ) (x : NodeState M) (v : View) (opening : Opening) → Few w → Few (install w n x v opening)
  install_few w n x v opening h =
      let P : World M → Type 0 = λ u. Few u in
      if_cases P (takes_view x v) _ _
      (λ g. if_cases P (is_locker v.members x.join.node) _ _ (λ l. if_cases P (nat_lt v.number w.log.held) _ _ (λ f. h) (λ f. opened_few w n x v opening h)) (λ l. h))
      (λ g. h)

  noted_few : (w : World M) (n : ℕ) (x : NodeState M) (u : Update) → Invariant w → w.nodes n ≡ Some x → Few w → may_submit x ≡ true → (m i : ℕ)
      → length (put w.requests n (put (w.requests n) x.join.inc (w.requests n x.join.inc ++ u ∷ [])) m i) ≤ last_request
  noted_few w n x u j at h g m i =
      let k : NodeOk w n x = j.nodes n x at in
      let room : x.core.passed + length x.core.queue < last_request = lt_true _ _ (and_true x.core.is_open (nat_lt (x.core.passed + length x.core.queue) last_request) g).1 in
      let more : length (w.requests n x.join.inc ++ u ∷ []) ≡ length (w.requests n x.join.inc) + 1 = length-append (w.requests n x.join.inc) (u ∷ []) in
      if_cases (λ (f : ℕ → List Update). length (f i) ≤ last_request) (nat_eq m n) (put (w.requests n) x.join.inc (w.requests n x.join.inc ++ u ∷ [])) (w.requests m)
      (λ a. if_cases (λ (l : List Update). length l ≤ last_request) (nat_eq i x.join.inc) (w.requests n x.join.inc ++ u ∷ []) (w.requests n i)
      (λ b. omega (arith, more, room, k.all_requests))
      (λ b. h n i))
      (λ a. h m i)

  pub few_keep : (w : World M) (e : Event) → Invariant w → Few w → Few (happens w e)
  few_keep w (Start n) j h = option_cases (λ (u : World M). Few u) (w.nodes n) (started_world w n) (λ x. w) (λ none. h) (λ x some. h)
  few_keep w (Declare v) j h = if_cases (λ (u : World M). Few u) (may_declare w v) _ _ (λ g. h) (λ g. h)
  few_keep w (Install n v opening) j h = at_keeps (λ (u : World M). Few u) w n (λ x. elim (view_in w.chain v) [ None ↦ w | Some u ↦ install w n x u opening ]) h
      (λ x at. option_cases (λ (u : World M). Few u) (view_in w.chain v) w (λ u. install w n x u opening) (λ none. h) (λ u some. install_few w n x u opening h))
  few_keep w (Deliver k answer) j h = option_cases (λ (u : World M). Few u) (at_place w.pool k) w (λ p. deliver w p answer) (λ none. h)
      (λ p some. option_cases (λ (u : World M). Few u) (w.nodes p.to) w (λ x. absorb p.to (receive x p w.log.held answer).out (logs (number_of x) (receive x p w.log.held answer) w)) (λ none. h) (λ x at. h))
  few_keep w (Submit n u valid) j h = at_keeps (λ (v : World M). Few v) w n (λ x. absorb n (submit x u) (noted n x u w)) h
      (λ x at. if_cases (λ (v : World M). Few (absorb n (submit x u) v)) (may_submit x) _ _ (λ g. noted_few w n x u j at h g) (λ g. h))
  few_keep w (Read n) j h = at_keeps (λ (v : World M). Few v) w n (λ x. if joining.is_open x.join then absorb n (nothing x) (reads n x w) else w) h (λ x at. if_cases (λ (v : World M). Few v) (joining.is_open x.join) _ _ (λ g. h) (λ g. h))
  few_keep w (Tick n) j h = at_keeps (λ (v : World M). Few v) w n (λ x. absorb n (tick x) w) h (λ x at. h)
  few_keep w (Clock n stamp) j h = if_cases (λ (v : World M). Few v) (nat_lt stamp (2 ^ 64)) _ _ (λ g. at_keeps (λ (v : World M). Few v) w n (λ x. absorb n (clock x stamp) w) h (λ x at. h)) (λ g. h)
  few_keep w (Checkpoint n good) j h = at_keeps (λ (v : World M). Few v) w n (λ x. absorb n (checkpoint x w.log.held good) w) h (λ x at. h)
  few_keep w (Die n) j h = h
  few_keep w (DieInDeliver k answer) j h = option_cases (λ (u : World M). Few u) (at_place w.pool k) w (λ p. die_in_deliver w p answer) (λ none. h)
      (λ p some. option_cases (λ (u : World M). Few u) (w.nodes p.to) w (λ x. stopped p.to (with_log (leave (written (receive x p w.log.held answer)) (number_of x) w.log) w)) (λ none. h) (λ x at. h))
  few_keep w (DieInInstall n v raised) j h = at_keeps (λ (u : World M). Few u) w n (λ x. elim (view_in w.chain v) [ None ↦ w | Some u ↦ die_in_install w n x u raised ]) h
      (λ x at. option_cases (λ (u : World M). Few u) (view_in w.chain v) w (λ u. die_in_install w n x u raised) (λ none. h) (λ u some. h))
