-- The items that a connection takes in one event come to what Alone says of them.
use Rattle.std.proofs.Common.{◌≡◌, ◌⊎◌, inl, inr, ℕ, ◌+◌, ◌≤◌, ◌<◌, Bool, true, false, not, ◌&&◌, ◌||◌, List, [], ◌∷◌, ◌++◌, Option, Some, None, nat_lt, if◌then◌else◌, refl, sym, ap, ◌∙◌, subst, append_assoc, arith}
use Rattle.std.specs.List.{list_any}
use Rattle.update_records.specs.declared.update.Update.{Update}
use Rattle.registry_defs.specs.Keys.{Keys}
use Rattle.rpc_calls.specs.declared.call.Call as calls
use Rattle.rpc_calls.specs.declared.item.Item.{Item}
use Rattle.rpc_assoc.specs.State.{State, group_of}
use Rattle.rpc_assoc.specs.declared.assoc.AssocOut.{AssocOut}
use Rattle.rpc_assoc.specs.declared.assoc.AssocOut.TheVariants as assoc
use Rattle.context_handles.specs.Table.{Table}
use Rattle.cluster_rules.specs.declared.effect.Effect.{Effect}
use Rattle.cluster_rules.specs.declared.effect.Effect.TheVariants as effect
use Rattle.cluster_rules.specs.Worlds.{sent}
use Rattle.client_connections.specs.declared.origin.Origin.{Origin}
use Rattle.client_connections.specs.declared.origin.Origin.TheVariants.{Call, Batch}
use Rattle.client_connections.specs.declared.took.CallEnd.{CallEnd}
use Rattle.client_connections.specs.declared.took.CallEnd.TheVariants.{Results, Fault, Sends}
use Rattle.client_connections.specs.declared.took.Took.{Took}
use Rattle.client_connections.specs.declared.took.Took.TheVariants.{Nothing, Reply, Queues}
use Rattle.client_connections.specs.Clients.{has_waiting, may_take, waits_at}
use Rattle.client_connections.specs.Items.{ClientState, answered, call_answered, called, item_of, most_taken, replied, taken}
use Rattle.client_connections.specs.Taking.{Course, MayAll, Serving, point_if, serving, takes_all, took_by}
use Rattle.single_items.specs.Alone.{AloneRun, alone, counted_alone, item_alone, replies_alone, takes_alone, took_alone, update_alone}
use Rattle.single_items.specs.Events.{told_to}
use Rattle.single_items.specs.Standing.{IsCallOf}
use Rattle.single_items.proofs.Telling.{silent_reply, told_reply}

-- ---- an item queues for its own connection alone

abbrev pub Mine : ℕ → Took × ClientState → Type 0
Mine c (Queues origin u, n) = IsCallOf c origin
Mine c (took, n) = Unit {0}

mine_ended : (c : ℕ) (association : State) (call : calls.Call) (e : CallEnd × Table) → Mine c (replied c association call e)
mine_ended c association call (Results out reads, handles) = tt
mine_ended c association call (Fault status, handles) = tt
mine_ended c association call (Sends u, handles) = refl

mine_called : (keys : Option Keys) (c : ℕ) (s : ClientState) (call : calls.Call) (group : Option ℕ) → Mine c (call_answered keys c s call group)
mine_called keys c s call None = tt
mine_called keys c s call (Some group) = mine_ended c s.association call (called keys s.handles group call)

mine_answered : (keys : Option Keys) (c : ℕ) (p : AssocOut × ClientState) → Mine c (answered keys c p)
mine_answered keys c (assoc.Reply pdu, s) = tt
mine_answered keys c (assoc.Call call, s) = mine_called keys c s call (group_of s.association)
mine_answered keys c (assoc.Nothing, s) = tt

mine : (keys : Option Keys) (c : ℕ) (s : ClientState) (i : Item) → Mine c (item_of keys c s i)
unfolding item_of
mine keys c s i = mine_answered keys c (taken s i)

-- ---- who waits

or_true : (b d : Bool) → d ≡ true → (b || d) ≡ true
or_true true d e = refl
or_true false d e = e

pub any_last : {A : Type 0} (test : A → Bool) (xs : List A) (x : A) → test x ≡ true → list_any test (xs ++ x ∷ []) ≡ true
any_last test [] x e = simp e
any_last test (y ∷ ys) x e = or_true (test y) (list_any test (ys ++ x ∷ [])) (any_last test ys x e)

pub waits_for_it : (c : ℕ) (origin : Origin) → IsCallOf c origin → waits_at c origin ≡ true
waits_for_it c (Call conn call_id context opnum target) own = grind (arith, own)
waits_for_it c Batch own = absurd own

pub shuts : (c taken : ℕ) (table : Table) (old : List Origin) (origin : Origin) → IsCallOf c origin → may_take c (record { table = table; waiting = old ++ origin ∷ []; taken = taken }) ≡ false
shuts c taken table old origin own = let e : list_any (waits_at c) (old ++ origin ∷ []) ≡ true = any_last (waits_at c) old origin (waits_for_it c origin own) in simp e

-- Nothing is taken behind an update of the connection.
none_behind : (v : Serving) (c : ℕ) (p : Course) (is : List Item) → may_take c p.common ≡ false → MayAll v c p is → is ≡ []
unfolding MayAll
none_behind v c p [] shut may = refl
none_behind v c p (i ∷ is) shut may = let e : true ≡ false = sym may.0 ∙ shut in absurd (cc)

-- ---- the items of one event

-- What all share and the association are those of Alone's run.
abbrev pub course_at : List Origin → AloneRun → List Effect → Course
course_at waiting r es = record { common = record { table = r.client.handles; waiting = waiting; taken = r.taken }; association = r.client.association; effects = es; update = None }

abbrev pub serving_with : AloneRun → Serving
serving_with r = serving (Some r.single.registry.keys) r.single.done

-- The connection was sent Alone's replies, and nothing was logged.
pub record Reached (c : ℕ) (before : List ℕ) (r x : AloneRun) (es : List Effect) : Type 0 where
  pub output : x.output ≡ before ++ told_to c es
  pub silent : sent es ≡ []
  pub records : x.records ≡ r.records
  pub single : x.single ≡ r.single
  pub waits : x.waits ≡ r.waits

pub record TookAll (c : ℕ) (old : List Origin) (before : List ℕ) (r : AloneRun) (items : List Item) (q : Course) : Type 0 where
  pub course : q ≡ course_at old (alone c r items) q.effects
  pub reached : Reached c before r (alone c r items) q.effects
  pub further : r.taken ≤ (alone c r items).taken
  pub few : (alone c r items).taken ≤ most_taken

-- The last of the items has queued an update.
pub record TookUpdate (c : ℕ) (old : List Origin) (before : List ℕ) (r : AloneRun) (items : List Item) (q : Course) : Type 0 where
  pub run : AloneRun
  pub origin : Origin
  pub update : Update
  pub own : IsCallOf c origin
  pub course : q ≡ record (course_at (old ++ origin ∷ []) run q.effects) { update = Some update }
  pub reached : Reached c before r run q.effects
  pub promised : alone c r items ≡ update_alone origin update run
  pub further : r.taken < run.taken
  pub few : run.taken ≤ most_taken

abbrev pub Taken : ℕ → List Origin → List ℕ → AloneRun → List Item → Course → Type 0
Taken c old before r items q = TookAll c old before r items q ⊎ TookUpdate c old before r items q

module _ (c : ℕ) (old : List Origin) where
  -- The rest of the items, from a run that has gone on by one of them.
  on_from : (before : List ℕ) (r s : AloneRun) (i : Item) (items : List Item) (q : Course) → item_alone c r i ≡ s
      → s.records ≡ r.records → s.single ≡ r.single → s.waits ≡ r.waits → r.taken < s.taken
      → Taken c old before s items q → Taken c old before r (i ∷ items) q
  on_from before r s i items q is records single waits more (inl t) =
      let e : alone c r (i ∷ items) ≡ alone c s items = ap (λ (x : AloneRun). alone c x items) is in
      inl (record {
        course = t.course ∙ ap (λ (x : AloneRun). course_at old x q.effects) (sym e);
        reached = subst (λ (x : AloneRun). Reached c before r x q.effects) (sym e)
            (record { output = t.reached.output; silent = t.reached.silent; records = t.reached.records ∙ records; single = t.reached.single ∙ single; waits = t.reached.waits ∙ waits });
        further = subst (λ (x : AloneRun). r.taken ≤ x.taken) (sym e) (let f = t.further in omega arith);
        few = subst (λ (x : AloneRun). x.taken ≤ most_taken) (sym e) t.few;
      })
  on_from before r s i items q is records single waits more (inr t) =
      let e : alone c r (i ∷ items) ≡ alone c s items = ap (λ (x : AloneRun). alone c x items) is in
      inr (record {
        run = t.run;
        origin = t.origin;
        update = t.update;
        own = t.own;
        course = t.course;
        reached = record { output = t.reached.output; silent = t.reached.silent; records = t.reached.records ∙ records; single = t.reached.single ∙ single; waits = t.reached.waits ∙ waits };
        promised = e ∙ t.promised;
        further = let f = t.further in omega arith;
        few = t.few;
      })

  takes_it : (r : AloneRun) (i : Item) → r.waits ≡ list_any (waits_at c) old → may_take c (course_at old r []).common ≡ true
      → item_alone c r i ≡ took_alone (item_of (Some r.single.registry.keys) c r.client i) r
  takes_it r i waits may =
      let e : takes_alone r ≡ true = ap (λ (b : Bool). not b && nat_lt r.taken most_taken) waits ∙ may in
      ap (λ (b : Bool). if b then took_alone (item_of (Some r.single.registry.keys) c r.client i) r else r) e

  room_there : (r : AloneRun) → may_take c (course_at old r []).common ≡ true → r.taken < most_taken
  room_there r may = by_waiting (has_waiting c (course_at old r []).common) (nat_lt r.taken most_taken) may refl
    where
      by_waiting : (b d : Bool) → (not b && d) ≡ true → nat_lt r.taken most_taken ≡ d → r.taken < most_taken
      by_waiting true d e f = absurd (cc)
      by_waiting false true e f = grind (arith, f)
      by_waiting false false e f = absurd (cc)

  abbrev All : List Item → Type 0
  All items = (before : List ℕ) (r : AloneRun) (es : List Effect) → r.waits ≡ list_any (waits_at c) old → r.output ≡ before ++ told_to c es → sent es ≡ [] → r.taken ≤ most_taken
      → MayAll (serving_with r) c (course_at old r es) items → Taken c old before r items (takes_all (serving_with r) c (course_at old r es) items)

  one : (before : List ℕ) (r : AloneRun) (es : List Effect) (i : Item) (items : List Item) (t : Took × ClientState) → All items → Mine c t
      → item_alone c r i ≡ took_alone t r → r.waits ≡ list_any (waits_at c) old → r.output ≡ before ++ told_to c es → sent es ≡ [] → r.taken < most_taken
      → MayAll (serving_with r) c (took_by (serving_with r) c (course_at old r es) t) items
      → Taken c old before r (i ∷ items) (takes_all (serving_with r) c (took_by (serving_with r) c (course_at old r es) t) items)
  one before r es i items (Nothing, n) all m is waits output silent room may =
      let s : AloneRun = counted_alone n r in
      let q : Course = takes_all (serving_with r) c (took_by (serving_with r) c (course_at old r es) (Nothing, n)) items in
      on_from before r s i items q is refl refl refl (omega arith) (all before s es waits output silent (omega arith) may)
  one before r es i items (Reply bytes reads, n) all m is waits output silent room may =
      let s : AloneRun = replies_alone bytes (counted_alone n r) in
      let q : Course = takes_all (serving_with r) c (took_by (serving_with r) c (course_at old r es) (Reply bytes reads, n)) items in
      let told : List Effect = es ++ effect.Reply c (point_if r.single.done reads) bytes ∷ [] in
      let sends : r.output ++ bytes ≡ before ++ told_to c told =
      ap (λ (l : List ℕ). l ++ bytes) output ∙ append_assoc before (told_to c es) bytes ∙ ap (λ (l : List ℕ). before ++ l) (sym (told_reply c es (point_if r.single.done reads) bytes)) in
      on_from before r s i items q is refl refl refl (omega arith) (all before s told waits sends (silent_reply c es (point_if r.single.done reads) bytes silent) (omega arith) may)
  one before r es i items (Queues origin u, n) all m is waits output silent room may =
      let w : AloneRun = counted_alone n r in
      let p : Course = took_by (serving_with r) c (course_at old r es) (Queues origin u, n) in
      let none : items ≡ [] = none_behind (serving_with r) c p items (shuts c (r.taken + 1) n.handles old origin m) may in
      subst (λ (l : List Item). Taken c old before r (i ∷ l) (takes_all (serving_with r) c p l)) (sym none)
      (inr (record {
        run = w;
        origin = origin;
        update = u;
        own = m;
        course = refl;
        reached = record { output = output; silent = silent; records = refl; single = refl; waits = refl };
        promised = is;
        further = omega arith;
        few = omega arith;
      }))

  pub all_taken : (items : List Item) → All items
  unfolding MayAll
  all_taken [] before r es waits output silent room may = inl (record { course = refl; reached = record { output = output; silent = silent; records = refl; single = refl; waits = refl }; further = omega arith; few = room })
  all_taken (i ∷ items) before r es waits output silent room may =
      let t : Took × ClientState = item_of (Some r.single.registry.keys) c r.client i in
      one before r es i items t (all_taken items) (mine (Some r.single.registry.keys) c r.client i) (takes_it r i waits may.0) waits output silent (room_there r may.0) may.1
