-- What once true stays true.
use Rattle.std.proofs.Common.{◌≡◌, ◌≢◌, ◌⊎◌, inl, ⊎_elim, ℕ, ◌+◌, ◌<◌, ◌≤◌, List, [], length, take, drop, Some, refl, sym, ap, ◌∙◌, subst, arith}
use Rattle.std.proofs.lemmas.Bool.{cases_lt}
use Rattle.gum_messages.specs.declared.member.Member.{Member}
use Rattle.gum_messages.specs.declared.view.View.{View}
use Rattle.gum_messages.specs.Members.{inc_of, locker_of}
use Rattle.gum_messages.specs.Places.{at_place}
use Rattle.gum_messages.proofs.Placing.{place_within}
use Rattle.update_records.specs.Entry.{Entry}
use Rattle.update_records.specs.declared.update.Update.{Update}
use Rattle.view_reconcile.specs.Chains.{view_in}
use Rattle.cluster_rules.specs.Machines.{Machine, registry_at}
use Rattle.gum_messages.specs.declared.body.Body.{Body}
use Rattle.gum_messages.specs.declared.body.Body.TheVariants.{Ask, Granted, Apply, Applied, Release, Offer, Need, Piece, Ready, OpenView}
use Rattle.gum_messages.specs.Messages.{Sent}
use Rattle.cluster_rules.specs.Nodes.{NodeState, done_of}
use Rattle.cluster_rules.specs.Worlds.{Log, World}
use Rattle.cluster_laws.proofs.Inv.{AllReached, Asked, Clear, Entered, Finished, LoggedIn, MsgOk, NotBefore, Past, Pooled, Reached, Requested, Stands, WasReady, greatest_asked, state_bytes, waits}

-- what the log may become
pub record Longer (M : Machine) (l l' : Log) : Type 0 where
  pub within : length l.order ≤ length l'.order
  pub cap : l'.cap ≡ l.cap
  pub order : (k : ℕ) → k ≤ length l.order → at_place l'.order k ≡ at_place l.order k
  pub fold : (k : ℕ) → k ≤ length l.order → registry_at M l'.cap l'.order k ≡ registry_at M l.cap l.order k
  pub view_at : (k : ℕ) → k ≤ length l.order → l'.view_at k ≡ l.view_at k
  pub count : (v c : ℕ) → l.count v ≡ Some c → l'.count v ≡ Some c

place_in : {A : Type 0} (l : List A) (k : ℕ) (r : A) → at_place l k ≡ Some r → k ≤ length l
place_in l k r e = (place_within l k r e).1

module _ {M : Machine} where
  -- what a node may become
  pub record Grown (x y : NodeState M) : Type 0 where
    pub inc : x.join.inc ≡ y.join.inc
    pub done : done_of x ≤ done_of y
    pub passed : x.core.passed ≤ y.core.passed
    pub asks : greatest_asked x ≤ greatest_asked y
    pub view : x.join.view.number ≤ y.join.view.number
    pub settled : (k : ℕ) → y.settled ≡ Some k → (x.settled ≡ Some k) ⊎ (done_of x ≤ k)
    pub waits : x.core.passed ≡ y.core.passed → x.core.queue ≢ [] → waits y → waits x

  -- what a world may become
  pub record Ext (w w' : World M) : Type 0 where
    pub log : Longer M w.log w'.log
    pub chain : (v : ℕ) (u : View) → view_in w.chain v ≡ Some u → view_in w'.chain v ≡ Some u
    pub starts : (n : ℕ) → w.starts n ≤ w'.starts n
    pub requests : (n i q : ℕ) (u : Update) → Requested w n i q u → Requested w' n i q u
    pub nodes : (n : ℕ) (y : NodeState M) → w'.nodes n ≡ Some y → y.join.inc ≤ w.starts n → (x : NodeState M) × (w.nodes n ≡ Some x) × Grown x y

  pub grown_refl : (x : NodeState M) → Grown x x
  grown_refl x = record { inc = refl; done = omega arith; passed = omega arith; asks = omega arith; view = omega arith; settled = λ k e. inl e; waits = λ e q h. h }

  pub reached : (w w' : World M) (n i k : ℕ) → Ext w w' → Reached w n i k → Reached w' n i k
  reached w w' n i k e h = record {
    started = omega (arith, e.starts n, h.started);
    done = λ y at same.
        let g : (x : NodeState M) × (w.nodes n ≡ Some x) × Grown x y = e.nodes n y at (omega (arith, h.started)) in
        let d : k ≤ done_of g.0 = h.done g.0 g.1 (g.2.inc ∙ same) in
        omega (arith, d, g.2.done);
  }

  -- the world before, of a node whose incarnation ran then
  pub before : (w w' : World M) (n i : ℕ) (y : NodeState M) → Ext w w' → i ≤ w.starts n → w'.nodes n ≡ Some y → y.join.inc ≡ i → (x : NodeState M) × (w.nodes n ≡ Some x) × (x.join.inc ≡ i) × Grown x y
  before w w' n i y e s at same =
      let g : (x : NodeState M) × (w.nodes n ≡ Some x) × Grown x y = e.nodes n y at (omega arith) in
      (g.0, g.1, g.2.inc ∙ same, g.2)

  pub past : (w w' : World M) (n i d : ℕ) → Ext w w' → Past w n i d → Past w' n i d
  past w w' n i d e h = record {
    started = omega (arith, e.starts n, h.started);
    done = λ y at same.
        let g : (x : NodeState M) × (w.nodes n ≡ Some x) × (x.join.inc ≡ i) × Grown x y = before w w' n i y e h.started at same in
        omega (arith, h.done g.0 g.1 g.2, g.3.done);
    settled = λ y k at same f.
        let g : (x : NodeState M) × (w.nodes n ≡ Some x) × (x.join.inc ≡ i) × Grown x y = before w w' n i y e h.started at same in
        ⊎_elim (λ (a : g.0.settled ≡ Some k). h.settled g.0 k g.1 g.2 a) (λ (a : done_of g.0 ≤ k). omega (arith, h.done g.0 g.1 g.2, a)) (g.3.settled k f);
  }

  pub finished : (w w' : World M) (n i q : ℕ) → Ext w w' → Finished w n i q → Finished w' n i q
  finished w w' n i q e h = record {
    started = omega (arith, e.starts n, h.started);
    passed = λ y at same.
        let g : (x : NodeState M) × (w.nodes n ≡ Some x) × (x.join.inc ≡ i) × Grown x y = before w w' n i y e h.started at same in
        omega (arith, h.passed g.0 g.1 g.2, g.3.passed);
  }

  pub asked_ : (w w' : World M) (n i q : ℕ) → Ext w w' → Asked w n i q → Asked w' n i q
  asked_ w w' n i q e h = record {
    started = omega (arith, e.starts n, h.started);
    asks = λ y at same.
        let g : (x : NodeState M) × (w.nodes n ≡ Some x) × (x.join.inc ≡ i) × Grown x y = before w w' n i y e h.started at same in
        omega (arith, h.asks g.0 g.1 g.2, g.3.asks);
  }

  pub entered_ : (w w' : World M) (n i v : ℕ) → Ext w w' → Entered w n i v → Entered w' n i v
  entered_ w w' n i v e h = record {
    started = omega (arith, e.starts n, h.started);
    view = λ y at same.
        let g : (x : NodeState M) × (w.nodes n ≡ Some x) × (x.join.inc ≡ i) × Grown x y = before w w' n i y e h.started at same in
        omega (arith, h.view g.0 g.1 g.2, g.3.view);
  }

  pub all_reached : (w w' : World M) (ms : List Member) (k : ℕ) → Ext w w' → AllReached w ms k → AllReached w' ms k
  all_reached w w' ms k e h = record { each = λ n i at pos. reached w w' n i k e (h.each n i at pos) }

  pub longer_refl : (l : Log) → Longer M l l
  longer_refl l = record { within = omega arith; cap = refl; order = λ k h. refl; fold = λ k h. refl; view_at = λ k h. refl; count = λ v c e. e }

  pub stands : (l l' : Log) (r : Entry) → Longer M l l' → Stands l r → Stands l' r
  stands l l' r e h = record { at = e.order r.place (place_in l.order r.place r h.at) ∙ h.at }

  pub logged_in : (l l' : Log) (r : Entry) (v : ℕ) → Longer M l l' → LoggedIn l r v → LoggedIn l' r v
  logged_in l l' r v e h = record { at = e.order r.place (place_in l.order r.place r h.at) ∙ h.at; view = e.view_at r.place (place_in l.order r.place r h.at) ∙ h.view }

  -- a record of the longer log at an old place is the old one's
  pub stood : (l l' : Log) (r : Entry) → Longer M l l' → Stands l' r → r.place ≤ length l.order → Stands l r
  stood l l' r e h n = record { at = sym (e.order r.place n) ∙ h.at }

  pub not_before : (l l' : Log) (n i q k : ℕ) → Longer M l l' → k ≤ length l.order → NotBefore l n i q k → NotBefore l' n i q k
  not_before l l' n i q k e b h = record {
    none = λ r at id. ⊎_elim
        (λ (x : length l.order < r.place). omega arith)
        (λ (x : r.place ≤ length l.order). h.none r ((stood l l' r e (record { at = at }) x).at) id)
        (cases_lt (length l.order) r.place);
  }

  -- ids of the order are at most those asked for
  abbrev pub AskedOnly : World M → Type 0
  AskedOnly w = (r : Entry) → Stands w.log r → Asked w r.id.node r.id.inc r.id.req

  pub asks_queue : (x : NodeState M) → x.core.passed + 1 ≤ greatest_asked x → x.core.queue ≢ []
  asks_queue x h e = grind arith

  pub asks_most : (x : NodeState M) → greatest_asked x ≤ x.core.passed + 1
  asks_most x = grind arith

  pub clear_ : (w w' : World M) (n i c : ℕ) → Ext w w' → AskedOnly w → Clear w n i c → Clear w' n i c
  clear_ w w' n i c e a h = record {
    started = omega (arith, e.starts n, h.started);
    within = omega (arith, e.log.within, h.within);
    clear = λ y r at same wt st id. ⊎_elim
        (λ (x : c < r.place). x)
        (λ (x : r.place ≤ c).
        let g : (x : NodeState M) × (w.nodes n ≡ Some x) × (x.join.inc ≡ i) × Grown x y = before w w' n i y e h.started at same in
        let gr : Grown g.0 y = g.3 in
        let old : Stands w.log r = stood w.log w'.log r e.log st (omega (arith, h.within)) in
        let ids : (r.id.node, r.id.inc) ≡ (n, i) = λ j. (id.node j, id.inc j) in
        let ak : Asked w n i r.id.req = subst (λ (t : ℕ × ℕ). Asked w t.0 t.1 r.id.req) ids (a r old) in
        let le : r.id.req ≤ greatest_asked g.0 = ak.asks g.0 g.1 g.2 in
        let up : greatest_asked g.0 ≤ g.0.core.passed + 1 = asks_most g.0 in
        let same_passed : g.0.core.passed ≡ y.core.passed = omega (arith, id.req, gr.passed) in
        let full : g.0.core.passed + 1 ≤ greatest_asked g.0 = omega (arith, id.req) in
        h.clear g.0 r g.1 g.2 (gr.waits same_passed (asks_queue g.0 full) wt) old (record { node = id.node; inc = id.inc; req = omega (arith, id.req) }))
        (cases_lt c r.place);
  }

  pub was_ready : (w w' : World M) (n i v : ℕ) → Ext w w' → AskedOnly w → WasReady w n i v → WasReady w' n i v
  was_ready w w' n i v e a h = record { count = h.count; counted = e.log.count v h.count h.counted; reached = reached w w' n i h.count e h.reached; clear = clear_ w w' n i h.count e a h.clear }

  pub bytes_stay : (w w' : World M) (c : ℕ) → Ext w w' → c ≤ length w.log.order → state_bytes w c ≡ state_bytes w' c
  bytes_stay w w' c e b = ap M.encode (sym (e.log.fold c b))

  pub message_ok : (w w' : World M) (v : View) (from to : ℕ) (b : Body) → Ext w w' → AskedOnly w → ((c : ℕ) → w.log.count v.number ≡ Some c → c ≤ length w.log.order) → MsgOk w v from to b → MsgOk w' v from to b
  message_ok w w' v from to (Ask q u) e a b h = (h.0, e.log.count v.number h.0 h.1, not_before w.log w'.log from (inc_of v.members from) q h.0 e.log (b h.0 h.1) h.2, asked_ w w' from (inc_of v.members from) q e h.3, e.requests from (inc_of v.members from) q u h.4)
  message_ok w w' v from to (Granted r) e a b h = (logged_in w.log w'.log r v.number e.log h.0, h.1, h.2, reached w w' (locker_of v.members) (inc_of v.members (locker_of v.members)) r.place e h.3)
  message_ok w w' v from to (Apply r) e a b h = logged_in w.log w'.log r v.number e.log h
  message_ok w w' v from to (Applied k) e a b h = reached w w' from (inc_of v.members from) k e h
  message_ok w w' v from to (Release q) e a b h = (finished w w' from (inc_of v.members from) q e h.0, h.1, stands w.log w'.log h.1 e.log h.2, h.3, all_reached w w' v.members h.1.place e h.4)
  message_ok w w' v from to (Offer c cap last) e a b h = (e.log.count v.number c h.0, h.1 ∙ sym e.log.cap, e.log.order c (b c h.0) ∙ h.2)
  message_ok w w' v from to (Need offset) e a b h = h
  message_ok w w' v from to (Piece total offset bytes) e a b h =
      let P : List ℕ → Type 0 = λ s. (total ≡ length s) × (bytes ≡ take (length bytes) (drop offset s)) in
      let p : P (state_bytes w' h.0) = subst P (bytes_stay w w' h.0 e (b h.0 h.1)) (h.2, h.3) in
      (h.0, e.log.count v.number h.0 h.1, p.0, p.1)
  message_ok w w' v from to Ready e a b h = was_ready w w' from (inc_of v.members from) v.number e a h
  message_ok w w' v from to OpenView e a b h = λ n p. was_ready w w' n (inc_of v.members n) v.number e a (h n p)

  pub pooled : (w w' : World M) (p : Sent) → Ext w w' → AskedOnly w → ((v c : ℕ) → w.log.count v ≡ Some c → c ≤ length w.log.order) → Pooled w p → Pooled w' p
  pooled w w' p e a b h = record { view = h.view; declared = e.chain p.view h.view h.declared; number = h.number; ok = message_ok w w' h.view p.from p.to p.body e a (b h.view.number) h.ok }
