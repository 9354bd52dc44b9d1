-- What a connection takes in one event, and what follows of it.
use Rattle.std.proofs.Common.{◌≡◌, ◌⊎◌, inl, inr, ℕ, ◌≤◌, ◌<◌, Bool, true, false, not, ◌&&◌, List, [], ◌∷◌, ◌++◌, Option, Some, None, nat_lt, refl, sym, ap, ◌∙◌, subst}
use Rattle.std.proofs.lemmas.List.{append-nil}
use Rattle.std.specs.List.{list_any}
use Rattle.update_records.specs.declared.update.Update.{Update}
use Rattle.rpc_calls.specs.declared.intake_fault.IntakeFault.{IntakeFault}
use Rattle.rpc_calls.specs.declared.item.Item.{Item}
use Rattle.rpc_calls.specs.declared.side.Side.TheVariants.{Server}
use Rattle.rpc_calls.specs.Intakes.{Holds, Kept}
use Rattle.rpc_calls.specs.Streams.{Items}
use Rattle.cluster_rules.specs.declared.effect.Effect.{Effect}
use Rattle.cluster_rules.specs.declared.effect.Effect.TheVariants.{Closed}
use Rattle.cluster_rules.specs.Worlds.{sent}
use Rattle.client_connections.specs.declared.origin.Origin.{Origin}
use Rattle.client_connections.specs.declared.took.Ending.{Ending}
use Rattle.client_connections.specs.declared.took.Ending.TheVariants.{Fails, Rests, Waits}
use Rattle.client_connections.specs.Clients.{Client, Clients, left_by, may_take, waits_at}
use Rattle.client_connections.specs.Items.{most_taken}
use Rattle.client_connections.specs.Taking.{Course, Ends, GoesOn, cause_of, effects_of, goes_on, is_rest}
use Rattle.single_items.specs.Alone.{AloneRun, alone, takes_alone, update_alone}
use Rattle.single_items.specs.Events.{told_to}
use Rattle.single_items.specs.Standing.{IsAllTaken, IsCallOf, IsKeptFrom, clients_of}
use Rattle.single_items.proofs.Keeping.{left_one, put_one}
use Rattle.single_items.proofs.Taking.{Reached, TookAll, TookUpdate, all_taken, course_at, serving_with, shuts}
use Rattle.single_items.proofs.Telling.{sent_both, told_both}

abbrev pub client_of : Kept → AloneRun → Client
client_of intake r = record { intake = intake; association = r.client.association }

-- The items, the intake behind them, and that these are the next items of the stream.
abbrev pub Carries : Kept → Kept → List Item → (List ℕ → List Item → Type 0) → Type 0
Carries before after items Then = (stream : List ℕ) (given : List Item) → IsKeptFrom before stream given → IsKeptFrom after stream (given ++ items) × Then stream (given ++ items)

-- No update was queued, and the connection goes on.
pub record WentCalmly (c : ℕ) (old : List Origin) (r : AloneRun) (before : Kept) (t : Clients) (told : List Effect) (queued : Option Update) : Type 0 where
  pub items : List Item
  pub intake : Kept
  pub took : Reached c r.output r (alone c r items) told
  pub further : r.taken ≤ (alone c r items).taken
  pub few : (alone c r items).taken ≤ most_taken
  pub clients : t ≡ clients_of c old (alone c r items) (Some intake)
  pub carries : Carries before intake items (λ stream given. IsAllTaken stream given (alone c r items))
  pub update : queued ≡ None

-- Its stream has a fault behind them.
pub record WentAway (c : ℕ) (old : List Origin) (r : AloneRun) (before : Kept) (t : Clients) (told : List Effect) (queued : Option Update) : Type 0 where
  pub items : List Item
  pub intake : Kept
  pub took : Reached c r.output r (alone c r items) told
  pub further : r.taken ≤ (alone c r items).taken
  pub few : (alone c r items).taken ≤ most_taken
  pub clients : t ≡ clients_of c old (alone c r items) None
  pub fault : IntakeFault
  pub ends : (stream : List ℕ) (given : List Item) → IsKeptFrom before stream given → Items Server stream (given ++ items) (Some fault)
  pub update : queued ≡ None

-- The last of them has queued an update.
pub record WentQueueing (c : ℕ) (old : List Origin) (r : AloneRun) (before : Kept) (t : Clients) (told : List Effect) (queued : Option Update) : Type 0 where
  pub items : List Item
  pub intake : Kept
  pub run : AloneRun
  pub origin : Origin
  pub asked : Update
  pub own : IsCallOf c origin
  pub took : Reached c r.output r run told
  pub further : r.taken < run.taken
  pub few : run.taken ≤ most_taken
  pub promised : alone c r items ≡ update_alone origin asked run
  pub clients : t ≡ clients_of c (old ++ origin ∷ []) run (Some intake)
  pub carries : Carries before intake items (λ stream given. Unit {0})
  pub update : queued ≡ Some asked

abbrev pub Went : ℕ → List Origin → AloneRun → Kept → Clients → List Effect → Option Update → Type 0
Went c old r before t told queued = WentCalmly c old r before t told queued ⊎ (WentAway c old r before t told queued ⊎ WentQueueing c old r before t told queued)

module _ (c : ℕ) (old : List Origin) (r : AloneRun) (before kept : Kept) (t : Clients) (told : List Effect) (queued : Option Update) where
  abbrev Here : Clients
  Here = clients_of c old r (Some kept)

  put_there : (after : Kept) (s : AloneRun) (waiting : List Origin) (q : Course) (es : List Effect) (u : Option Update) → q ≡ record (course_at waiting s es) { update = u }
      → goes_on c after q Waits Here ≡ clients_of c waiting s (Some after)
  put_there after s waiting q es u e =
      ap (λ (p : Course). goes_on c after p Waits Here) e
      ∙ put_one (course_at old r []).common (course_at waiting s es).common c (client_of kept r) (client_of after s)

  left_there : (after : Kept) (s : AloneRun) (q : Course) (es : List Effect) (fault : IntakeFault) → q ≡ course_at old s es
      → goes_on c after q (Fails fault) Here ≡ clients_of c old s None
  left_there after s q es fault e =
      ap (λ (p : Course). goes_on c after p (Fails fault) Here) e
      ∙ ap (left_by c (client_of after s)) (put_one (course_at old r []).common (course_at old s es).common c (client_of kept r) (client_of after s))
      ∙ left_one (course_at old s es).common c (client_of after s) (client_of after s)

  closed_tells : (fault : IntakeFault) (s : AloneRun) (es : List Effect) → Reached c r.output r s es → Reached c r.output r s (es ++ Closed c (cause_of fault) ∷ [])
  closed_tells fault s es g = record {
    output = g.output ∙ ap (λ (l : List ℕ). r.output ++ l) (sym (told_both c es (Closed c (cause_of fault) ∷ []) ∙ append-nil (told_to c es)));
    silent = sent_both es (Closed c (cause_of fault) ∷ []) ∙ append-nil (sent es) ∙ g.silent;
    records = g.records;
    single = g.single;
    waits = g.waits;
  }

  -- what the items came to, with their ending
  module _ (items : List Item) (intake : Kept) (q : Course) where
    abbrev Stands : Ending → Type 0
    Stands ending = (stream : List ℕ) (given : List Item) → Holds before stream given → Holds intake stream (given ++ items) × Ends ending stream (given ++ items)

    calm : intake.side ≡ before.side → TookAll c old r.output r items q → t ≡ goes_on c intake q Waits Here → told ≡ q.effects → queued ≡ q.update
        → ((stream : List ℕ) (given : List Item) → Holds before stream given → Holds intake stream (given ++ items) × IsAllTaken stream (given ++ items) (alone c r items)) → WentCalmly c old r before t told queued
    calm side took put says update carries = record {
      items = items;
      intake = intake;
      took = subst (Reached c r.output r (alone c r items)) (sym says) took.reached;
      further = took.further;
      few = took.few;
      clients = put ∙ put_there intake (alone c r items) old q q.effects None took.course;
      carries = λ stream given kept_. let h = carries stream given kept_.holds in (record { side = side ∙ kept_.side; holds = h.0 }, h.1);
      update = update ∙ ap (λ (p : Course). p.update) took.course;
    }

    rested : TookAll c old r.output r items q → r.waits ≡ list_any (waits_at c) old → may_take c q.common ≡ false → takes_alone (alone c r items) ≡ false
    rested took waits shut =
        let x : AloneRun = alone c r items in
        ap (λ (b : Bool). not b && nat_lt x.taken most_taken) (took.reached.waits ∙ waits)
        ∙ sym (ap (λ (p : Course). may_take c p.common) took.course) ∙ shut

    queues_open : TookUpdate c old r.output r items q → may_take c q.common ≡ true → ⊥
    queues_open took open_ =
        let shut : may_take c q.common ≡ false = ap (λ (p : Course). may_take c p.common) took.course ∙ shuts c took.run.taken took.run.client.handles old took.origin took.own in
        let e : true ≡ false = sym open_ ∙ shut in absurd (cc)

    by_ending : (ending : Ending) → intake.side ≡ before.side → r.waits ≡ list_any (waits_at c) old → may_take c q.common ≡ not (is_rest ending) → Stands ending
        → t ≡ goes_on c intake q ending Here → told ≡ effects_of c q ending → queued ≡ q.update
        → TookAll c old r.output r items q ⊎ TookUpdate c old r.output r items q → Went c old r before t told queued
    by_ending Waits side waits rests stands put says update (inl took) =
        inl (calm side took put says update (λ stream given holds. let s = stands stream given holds in (s.0, inl s.1)))
    by_ending Rests side waits rests stands put says update (inl took) =
        inl (calm side took put says update (λ stream given holds. let s = stands stream given holds in (s.0, inr (rested took waits rests))))
    by_ending (Fails fault) side waits rests stands put says update (inl took) =
        inr (inl (record {
          items = items;
          intake = intake;
          took = subst (Reached c r.output r (alone c r items)) (sym says) (closed_tells fault (alone c r items) q.effects took.reached);
          further = took.further;
          few = took.few;
          clients = put ∙ left_there intake (alone c r items) q q.effects fault took.course;
          fault = fault;
          ends = λ stream given kept_. (stands stream given kept_.holds).1;
          update = update ∙ ap (λ (p : Course). p.update) took.course;
        }))
    by_ending Rests side waits rests stands put says update (inr took) =
        inr (inr (record {
          items = items;
          intake = intake;
          run = took.run;
          origin = took.origin;
          asked = took.update;
          own = took.own;
          took = subst (Reached c r.output r took.run) (sym says) took.reached;
          further = took.further;
          few = took.few;
          promised = took.promised;
          clients = put ∙ put_there intake took.run (old ++ took.origin ∷ []) q q.effects (Some took.update) took.course;
          carries = λ stream given kept_. (record { side = side ∙ kept_.side; holds = (stands stream given kept_.holds).0 }, tt);
          update = update ∙ ap (λ (p : Course). p.update) took.course;
        }))
    by_ending Waits side waits rests stands put says update (inr took) = absurd (queues_open took rests)
    by_ending (Fails fault) side waits rests stands put says update (inr took) = absurd (queues_open took rests)

  pub goes_alone : r.waits ≡ list_any (waits_at c) old → r.taken ≤ most_taken → GoesOn (serving_with r) c (client_of before r) Here t told queued → Went c old r before t told queued
  goes_alone waits few g =
      let took = all_taken c old g.takes.items r.output r [] waits (sym (append-nil r.output)) refl few g.takes.may in
      by_ending g.takes.items g.intake g.course g.ending g.takes.side waits g.takes.rests g.takes.stands g.clients g.effects g.update
      (subst (λ (p : Course). TookAll c old r.output r g.takes.items p ⊎ TookUpdate c old r.output r g.takes.items p) (sym g.takes.course) took)
