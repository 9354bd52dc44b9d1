-- A world that lost every message under way is sound, and what it leads to the world leads to by what is sent from then on.
use Rattle.std.proofs.Common.{◌≡◌, ℕ, zero, suc, ◌+◌, Bool, true, ◌&&◌, List, [], ◌∷◌, ◌++◌, length, Option, Some, None, nat_lt, slice_get, refl, sym, ap, ◌∙◌, subst, append_assoc, append-nil, arith}
use Rattle.std.specs.List.{list_all}
use Rattle.gum_messages.specs.Messages.{Sent}
use Rattle.gum_messages.specs.declared.view.View.{View}
use Rattle.cluster_rules.specs.Machines.{Machine}
use Rattle.cluster_rules.specs.Nodes.{NodeState, Out, number_of}
use Rattle.cluster_rules.specs.Receiving.{receive, tick}
use Rattle.cluster_rules.specs.Updates.{Answer}
use Rattle.cluster_rules.specs.Worlds.{Checkpoint, Clock, Declare, Deliver, Die, DieInDeliver, DieInInstall, Event, Install, Read, Start, Submit, Tick, World, absorb, deliver, happens, logs, run, sent}
use Rattle.cluster_rules.specs.Progress.{Leads, Served, goes_on, goes_on_after}
use Rattle.cluster_laws.proofs.Applying.{and_true}
use Rattle.cluster_laws.proofs.Guards.{both, lt_is}
use Rattle.cluster_laws.proofs.Inv.{AckOk, Invariant, OwnerOk}
use Rattle.cluster_laws.proofs.Joined.{Joined, Readied}
use Rattle.cluster_laws.proofs.Moves.{log_beside, node_beside}
use Rattle.cluster_laws.proofs.Sound.{Sound}
use Rattle.cluster_laws.proofs.Stable.{AskedOnly, Ext, all_reached, grown_refl, longer_refl, past}

nothing_sent : (k : ℕ) (p : Sent) → slice_get [] k ≡ Some p → ⊥
nothing_sent k p e = cc

place_behind : {A : Type 0} (xs ys : List A) (k j : ℕ) → j ≡ length xs + k → slice_get (xs ++ ys) j ≡ slice_get ys k
place_behind [] ys k j e = ap (slice_get ys) (omega (arith, e))
place_behind (x ∷ xs) ys k zero e = absurd (omega (arith, e))
place_behind (x ∷ xs) ys k (suc j) e = place_behind xs ys k j (omega (arith, e))

module _ {M : Machine} where
  -- all that is under way is lost
  abbrev pub lost : World M → World M
  lost w = record w { pool = [] }

  -- the world in which these messages were sent before the others
  abbrev behind : List Sent → World M → World M
  behind before w = record w { pool = before ++ w.pool }

  lost_ext : (w : World M) → Ext w (lost w)
  lost_ext w = record { log = longer_refl w.log; chain = λ v u f. f; starts = λ m. omega arith; requests = λ m i q u f. f; nodes = λ m z f s. (z, f, grown_refl z) }

  lost_invariant : (w : World M) → Invariant w → Invariant (lost w)
  lost_invariant w j =
      let e : Ext w (lost w) = lost_ext w in
      let ao : AskedOnly w = λ r s. (j.log.asked r s).1 in
      record {
        chain = record { chain = j.chain.chain; started = j.chain.started; locker = j.chain.locker };
        log = log_beside w w.nodes [] w.acks w.requests w.points e j.log.unasked j.log;
        nodes = λ m z f. node_beside w w.nodes [] w.acks w.requests w.points m z e ao refl (λ a t g. g) (j.nodes m z f);
        owner = λ m z s.
            let k : OwnerOk w m z = j.owner m z (record { runs = s.runs; ready = s.ready; locker = s.locker; held = s.held }) in
            record { sure = k.sure; all_done = k.all_done; closed = k.closed; greatest = k.greatest; members = k.members };
        pool = λ k p f. absurd (nothing_sent k p f);
        acks = λ a v k f.
            let g : AckOk w v k = j.acks a v k f in
            record { view = g.view; declared = g.declared; place = g.place; later = g.later; members = all_reached w (lost w) g.view.members k e g.members };
        points = λ a q f. past w (lost w) q.node q.inc q.place e (j.points a q f);
        steady = j.steady;
      }

  lost_joined : (w : World M) → Joined w → Joined (lost w)
  lost_joined w j =
      let R : (m i v : ℕ) → Readied w m i v → Readied (lost w) m i v = λ m i v h. record { started = h.started; here = h.here } in
      record {
        entries = j.entries;
        closed = j.closed;
        marked = λ n x m at lt mk. R m _ _ (j.marked n x m at lt mk);
        opened = λ n x m at lk op lt. R m _ _ (j.opened n x m at lk op lt);
        readies = λ k p v at. absurd (nothing_sent k p at);
        opens = λ k p v at. absurd (nothing_sent k p at);
      }

  -- the invariants ask for no message: they say what is so where one was sent
  pub lost_sound : (w : World M) → Sound w → Sound (lost w)
  lost_sound w h = record {
    inv = lost_invariant w h.inv;
    fitting = record { log = h.fitting.log; updates = h.fitting.updates; stamps = h.fitting.stamps };
    lockers = h.lockers;
    cores = h.cores;
    joins = lost_joined w h.joins;
    shapes = h.shapes;
  }

  -- One event, with other messages before
  absorb_behind : (before : List Sent) (w : World M) (n : ℕ) (o : Out M) → absorb n o (behind before w) ≡ behind before (absorb n o w)
  absorb_behind before w n o = λ i. record (absorb n o w) { pool = append_assoc before w.pool (sent o.effects) i }

  tick_behind : (before : List Sent) (w : World M) (n : ℕ) → happens (behind before w) (Tick n) ≡ behind before (happens w (Tick n))
  tick_behind before w n = by (w.nodes n)
    where
      by : (o : Option (NodeState M)) → ◌≡◌ {A = World M} (elim o [ None ↦ behind before w | Some x ↦ absorb n (tick x) (behind before w) ]) (behind before (elim o [ None ↦ w | Some x ↦ absorb n (tick x) w ]))
      by None = refl
      by (Some x) = absorb_behind before w n (tick x)

  deliver_behind : (before : List Sent) (w : World M) (p : Sent) (answer : Answer) → deliver (behind before w) p answer ≡ behind before (deliver w p answer)
  deliver_behind before w p answer = by (w.nodes p.to)
    where
      by : (o : Option (NodeState M)) → ◌≡◌ {A = World M}
          (elim o [ None ↦ behind before w | Some x ↦ absorb p.to (receive x p w.log.held answer).out (logs (number_of x) (receive x p w.log.held answer) (behind before w)) ])
          (behind before (elim o [ None ↦ w | Some x ↦ absorb p.to (receive x p w.log.held answer).out (logs (number_of x) (receive x p w.log.held answer) w) ]))
      by None = refl
      by (Some x) = absorb_behind before (logs (number_of x) (receive x p w.log.held answer) w) p.to (receive x p w.log.held answer).out

  heard_behind : (before : List Sent) (w : World M) (k : ℕ) (answer : Answer) → happens (behind before w) (Deliver (suc (length before + k)) answer) ≡ behind before (happens w (Deliver (suc k) answer))
  heard_behind before w k answer =
      ap (λ (o : Option Sent). elim o as (λ _. World M) [ None ↦ behind before w | Some p ↦ deliver (behind before w) p answer ]) (place_behind before w.pool k (length before + k) refl)
      ∙ by (slice_get w.pool k)
    where
      by : (o : Option Sent) → ◌≡◌ {A = World M} (elim o [ None ↦ behind before w | Some p ↦ deliver (behind before w) p answer ]) (behind before (elim o [ None ↦ w | Some p ↦ deliver w p answer ]))
      by None = refl
      by (Some p) = deliver_behind before w p answer

  -- Events that go on, with other messages before: none of those is delivered
  pub record Later (before : List Sent) (w : World M) (es : List Event) : Type 0 where
    pub events : List Event
    pub going : list_all (goes_on_after (length before)) events ≡ true
    pub same : run events (behind before w) ≡ behind before (run es w)

  one_later : (before : List Sent) (w u : World M) (e : Event) (es : List Event) → goes_on_after (length before) e ≡ true → happens (behind before w) e ≡ behind before u → Later before u es → (fs : List Event) × (list_all (goes_on_after (length before)) fs ≡ true) × (run fs (behind before w) ≡ behind before (run es u))
  one_later before w u e es g q h = (e ∷ h.events, ap (λ (b : Bool). b && list_all (goes_on_after (length before)) h.events) g ∙ h.going, ap (λ (t : World M). run h.events t) q ∙ h.same)

  all_later : (before : List Sent) (es : List Event) (w : World M) → list_all goes_on es ≡ true → Later before w es
  all_later before [] w g = record { events = []; going = refl; same = refl }
  all_later before (Tick n ∷ es) w g =
      let r = one_later before w (happens w (Tick n)) (Tick n) es refl (tick_behind before w n) (all_later before es (happens w (Tick n)) g) in
      record { events = r.0; going = r.1; same = r.2 }
  all_later before (Deliver zero answer ∷ es) w g =
      let h = all_later before es w (and_true (goes_on (Deliver zero answer)) (list_all goes_on es) g).1 in
      record { events = h.events; going = h.going; same = h.same }
  all_later before (Deliver (suc k) answer ∷ es) w g =
      let a = and_true (goes_on (Deliver (suc k) answer)) (list_all goes_on es) g in
      let e : Event = Deliver (suc (length before + k)) answer in
      let r = one_later before w (happens w (Deliver (suc k) answer)) e es (both (goes_on e) (nat_lt (length before) (suc (length before + k))) a.0 (lt_is (length before) (suc (length before + k)) (omega arith))) (heard_behind before w k answer) (all_later before es (happens w (Deliver (suc k) answer)) a.1) in
      record { events = r.0; going = r.1; same = r.2 }
  all_later before (Start n ∷ es) w g = absurd (cc)
  all_later before (Declare v ∷ es) w g = absurd (cc)
  all_later before (Install n v opening ∷ es) w g = absurd (cc)
  all_later before (Submit n u valid ∷ es) w g = absurd (cc)
  all_later before (Read n ∷ es) w g = absurd (cc)
  all_later before (Clock n stamp ∷ es) w g = absurd (cc)
  all_later before (Checkpoint n good ∷ es) w g = absurd (cc)
  all_later before (Die n ∷ es) w g = absurd (cc)
  all_later before (DieInDeliver k answer ∷ es) w g = absurd (cc)
  all_later before (DieInInstall n v raised ∷ es) w g = absurd (cc)

  -- What the world leads to that lost all, this one leads to without a message from before
  pub leads_anew : (w : World M) (Q : World M → Type 0) → ((before : List Sent) (u : World M) → Q u → Q (behind before u)) → Leads goes_on (lost w) Q → Leads (goes_on_after (length w.pool)) w Q
  leads_anew w Q stays h =
      let r : Later w.pool (lost w) h.events = all_later w.pool h.events (lost w) h.going in
      let here : behind w.pool (lost w) ≡ w = λ i. record w { pool = append-nil w.pool i } in
      let there : run r.events w ≡ behind w.pool (run h.events (lost w)) = ap (λ (u : World M). run r.events u) (sym here) ∙ r.same in
      record { events = r.events; going = r.going; ends = subst Q (sym there) (stays w.pool (run h.events (lost w)) h.ends) }

  -- who is served is so, whatever was sent
  pub served_behind : (v : View) (before : List Sent) (u : World M) → Served u v → Served (behind before u) v
  served_behind v before u h = record {
    rests = λ n lt.
        let r = h.rests n lt in
        record { state = r.state; runs = record { node = r.runs.node; inc = r.runs.inc; view = r.runs.view }; open_ = r.open_; queue = r.queue; lock = r.lock };
    acked = λ n q lt one le.
        let a = h.acked n q lt one le in
        record { record_ = a.record_; stands = a.stands; node = a.node; inc = a.inc; req = a.req; ack = a.ack; view = a.view; acked = a.acked };
  }
