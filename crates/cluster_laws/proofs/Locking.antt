-- The lock is released.
use Rattle.std.proofs.Common.{◌≡◌, ◌≢◌, inl, ⊎_elim, ℕ, ◌<◌, ◌≤◌, true, [], length, Some, None, refl, sym, ap, ◌∙◌, subst, arith}
use Rattle.gum_messages.specs.Members.{inc_of}
use Rattle.update_records.specs.Entry.{Entry}
use Rattle.gum_core.specs.declared.lock.Lock.{Lock}
use Rattle.gum_core.specs.declared.decision.Decision.{Decision}
use Rattle.gum_core.specs.Updating.{CoreState}
use Rattle.view_reconcile.specs.Joining.{ReconcileState}
use Rattle.view_reconcile.specs.Joining as joining
use Rattle.cluster_rules.specs.Machines.{Machine}
use Rattle.gum_messages.specs.declared.body.Body.TheVariants.{Release}
use Rattle.gum_messages.specs.Messages.{Sent}
use Rattle.cluster_rules.specs.Nodes.{NodeState, done_of, nothing}
use Rattle.cluster_rules.specs.Updates.{on_release}
use Rattle.cluster_rules.specs.Worlds.{World}
use Rattle.cluster_laws.proofs.History.{absorbed}
use Rattle.cluster_laws.proofs.Inv.{AckOk, Finished, Has, Invariant, MemberOk, MsgOk, NodeOk, Owner, OwnerOk, Pooled, Stands, at_head}
use Rattle.cluster_laws.proofs.Stable.{Grown}
use Rattle.cluster_laws.proofs.Moves.{quiet_points, at_self, move_keeps, moved, node_in, none_acked, none_told, put_cases, stay_keeps}
use Rattle.gum_core.proofs.Cases.{released_cases}

module _ {M : Machine} where
  abbrev pub unlocked : NodeState M → NodeState M
  unlocked x = record x { core = record x.core { lock = None } }

  -- who holds the lock no more knows that its request is finished, and every member has the record
  pub freed : (w : World M) (n : ℕ) (x : NodeState M) (from q : ℕ) (l : Lock) → Invariant w → w.nodes n ≡ Some x → OwnerOk w n x → 0 < inc_of x.join.view.members from → MsgOk w x.join.view from n (Release q)
      → joining.is_open x.join ≡ true → x.core.lock ≡ Some l → l.node ≡ from → l.req ≡ q → (m : ℕ) (b : NodeState M) → w.nodes m ≡ Some b → inc_of x.join.view.members m ≡ b.join.inc → MemberOk w.log None m b
  freed w n x from q l j at k pos ok op lk ln lq m b bt i =
      let h : NodeOk w n x = j.nodes n x at in
      let hl = h.lock l lk in
      let old : MemberOk w.log x.core.lock m b = k.members op m b bt i in
      let r : Entry = ok.1 in
      let sr : Stands w.log r = ok.2 in
      let hr : Has r from (inc_of x.join.view.members from) q = ok.3 in
      let same : r.place ≡ hl.2.place = j.log.ids r hl.2 sr (record { at = hl.4.at }) (hr.node ∙ sym ln ∙ sym hl.5) (hr.inc ∙ ap (inc_of x.join.view.members) (sym ln) ∙ sym hl.6) (hr.req ∙ sym lq ∙ sym hl.7) in
      let pl : hl.2.place ≡ done_of x = j.log.places (done_of x) hl.2 hl.3 in
      let all : length w.log.order ≤ done_of b = let g : r.place ≤ done_of b = (ok.4.each m b.join.inc i (j.nodes m b bt).local.positive).done b bt refl in omega (arith, k.all_done, same, pl) in
      record {
        near = omega arith;
        free = λ e. all;
        heads = λ s wt st id. absurd (
            let f = old.heads s wt st id in
            let lo : Some f.0 ≡ Some l = sym f.1 ∙ lk in
            let eq : f.0 ≡ l = cc in
            let fm : m ≡ from = sym f.2 ∙ ap (λ (t : Lock). t.node) eq ∙ ln in
            let fq : at_head b ≡ q = sym f.3 ∙ ap (λ (t : Lock). t.req) eq ∙ lq in
            let fin : Finished w m b.join.inc q = subst (λ (t : ℕ). Finished w m t q) i (subst (λ (t : ℕ). Finished w t (inc_of x.join.view.members t) q) (sym fm) ok.0) in
            omega (arith, fin.passed b bt refl, fq));
      }

  pub unlock_keeps : (w : World M) (n : ℕ) (x : NodeState M) (from q : ℕ) (l : Lock) → Invariant w → w.nodes n ≡ Some x → 0 < inc_of x.join.view.members from → MsgOk w x.join.view from n (Release q) → x.core.lock ≡ Some l → l.node ≡ from → l.req ≡ q → Invariant (absorbed n (nothing (unlocked x)) w)
  unlock_keeps w n x from q l j at pos ok lk ln lq =
      let h : NodeOk w n x = j.nodes n x at in
      let y : NodeState M = unlocked x in
      let gr : Grown x y = record { inc = refl; done = omega arith; passed = omega arith; asks = omega arith; view = omega arith; settled = λ k e. inl e; waits = λ e f z. z } in
      move_keeps w n x y [] j at (record {
        grown = gr;
        node = node_in w n x y [] j at gr (record {
          local = h.local;
          prefix = h.prefix;
          inc = h.inc;
          view = h.view;
          marked = h.marked;
          all_ready = h.all_ready;
          settled = h.settled;
          spreading = h.spreading;
          waiting = h.waiting;
          waiting_doubt = h.waiting_doubt;
          behind = h.behind;
          near_head = h.near_head;
          near_doubt = h.near_doubt;
          outcome = h.outcome;
          queued = h.queued;
          all_requests = h.all_requests;
          finished = h.finished;
          lock = λ t e. absurd (cc);
        });
        messages = none_told (λ (p : Sent). Pooled (moved w n y []) p);
        acks = none_acked (λ (a b : ℕ). AckOk (moved w n y []) a b);
        points = quiet_points w n y [] refl;
        owner = λ o.
            let ox : Owner w n x = record { runs = at; ready = o.ready; locker = o.locker; held = o.held } in
            let k : OwnerOk w n x = j.owner n x ox in
            record {
              sure = k.sure;
              all_done = k.all_done;
              closed = λ c. (refl, (k.closed c).1);
              greatest = k.greatest;
              members = λ op a b f i. ⊎_elim
                  (λ (d : (a ≡ n) × (Some y ≡ Some b)). at_self (λ (t : ℕ) (u : NodeState M). inc_of x.join.view.members t ≡ u.join.inc → MemberOk w.log None t u) a n y b d.0 d.1
                  (λ e. let g = freed w n x from q l j at k pos ok op lk ln lq n x at e in record { near = g.near; free = g.free; heads = g.heads }) i)
                  (λ (d : (a ≢ n) × (w.nodes a ≡ Some b)). freed w n x from q l j at k pos ok op lk ln lq a b d.1 i)
                  (put_cases w.nodes n (Some y) a b f);
            };
        member = λ a z ne o k op i. let old : MemberOk w.log z.core.lock n x = k.members op n x at i in record { near = old.near; free = old.free; heads = old.heads };
      })

  pub on_release_keeps : (w : World M) (n : ℕ) (x : NodeState M) (from q : ℕ) → Invariant w → w.nodes n ≡ Some x → 0 < inc_of x.join.view.members from → MsgOk w x.join.view from n (Release q) → Invariant (absorbed n (on_release x from q) w)
  on_release_keeps w n x from q j at pos ok =
      released_cases (λ (t : CoreState × Decision). Invariant (absorbed n (nothing (record x { core = t.0 })) w)) x.core from q
      (stay_keeps w n x j at)
      (λ lo l lk ln lq. unlock_keeps w n x from q l j at pos ok lk ln lq)
