-- The items that a connection takes in one event are answered in front of an update that one of them queues.
use Rattle.std.proofs.Common.{◌≡◌, ◌⊎◌, inl, inr, ℕ, ◌≤◌, true, false, List, [], ◌∷◌, ◌++◌, Option, Some, None, refl, sym, ap, ◌∙◌, subst, append_assoc}
use Rattle.std.proofs.lemmas.List.{append-nil}
use Rattle.std.specs.List.{list_any}
use Rattle.update_records.specs.declared.update.Update.{Update}
use Rattle.rpc_calls.proofs.StreamUniqueness.{given_front}
use Rattle.rpc_calls.specs.declared.intake_fault.IntakeFault.{IntakeFault}
use Rattle.rpc_calls.specs.declared.item.Item.{Item}
use Rattle.rpc_calls.specs.declared.side.Side.{Side}
use Rattle.rpc_calls.specs.declared.side.Side.TheVariants.{Server}
use Rattle.rpc_calls.specs.Intakes.{Kept}
use Rattle.rpc_calls.specs.Streams.{Items}
use Rattle.cluster_rules.specs.declared.effect.Effect.{Effect}
use Rattle.cluster_rules.specs.declared.effect.Effect.TheVariants.{Closed}
use Rattle.cluster_rules.specs.Worlds.{sent}
use Rattle.registry_machine.specs.Machine.{registry_machine}
use Rattle.single_rules.specs.Single.{Single}
use Rattle.client_connections.specs.declared.origin.Origin.{Origin}
use Rattle.client_connections.specs.declared.took.Ending.{Ending}
use Rattle.client_connections.specs.declared.took.Ending.TheVariants.{Fails, Rests, Waits}
use Rattle.client_connections.specs.declared.took.Took.{Took}
use Rattle.client_connections.specs.declared.took.Took.TheVariants.{Nothing, Queues, Reply}
use Rattle.client_connections.specs.Clients.{Clients, may_take, waits_at}
use Rattle.client_connections.specs.Items.{ClientState, item_of, most_taken, state}
use Rattle.client_connections.specs.Taking.{Course, GoesOn, MayAll, Serving, cause_of, effects_of, serving, takes_all, takes_one, took_by}
use Rattle.single_items.specs.Alone.{AloneRun, alone}
use Rattle.single_items.specs.Events.{told_to}
use Rattle.single_items.specs.Promises.{BeginsWith}
use Rattle.single_items.specs.Standing.{IsKeptFrom, clients_of}
use Rattle.single_items.proofs.Served.{alone_both}
use Rattle.single_items.proofs.Serving.{client_of}
use Rattle.single_items.proofs.Taking.{Taken, TookAll, TookUpdate, all_taken, course_at, serving_with, shuts}
use Rattle.single_items.proofs.Telling.{told_both}
use Rattle.single_server.specs.Hearing.{RepliesLogged}

-- Nothing is told of an item that queues an update.
silent_by : (v : Serving) (c : ℕ) (p : Course) (t : Took × ClientState) (u : Update) → p.update ≡ None → (took_by v c p t).update ≡ Some u → (took_by v c p t).effects ≡ p.effects
silent_by v c p (Nothing, n) u none is = refl
silent_by v c p (Reply bytes reads, n) u none is = let e : ◌≡◌ {A = Option Update} None (Some u) = sym none ∙ is in absurd (cc)
silent_by v c p (Queues origin w, n) u none is = refl

-- And behind it none is taken.
none_behind : (v : Serving) (c : ℕ) (p : Course) (is : List Item) → may_take c p.common ≡ false → MayAll v c p is → is ≡ []
unfolding MayAll
none_behind v c p [] shut may = refl
none_behind v c p (i ∷ is) shut may = let e : true ≡ false = sym may.0 ∙ shut in absurd (cc)

module _ (c : ℕ) (old : List Origin) (before : List ℕ) where
  -- What was told is all that Alone writes for the first of the items, which make no record.
  pub record AnswersFront (r : AloneRun) (items : List Item) (q : Course) : Type 0 where
    pub front : List Item
    pub among : BeginsWith items front
    pub output : (alone c r front).output ≡ before ++ told_to c q.effects
    pub records : (alone c r front).records ≡ r.records

  abbrev Fronts : List Item → Type 0
  Fronts items = (r : AloneRun) (es : List Effect) (v : Serving) → v ≡ serving_with r → r.waits ≡ list_any (waits_at c) old → r.output ≡ before ++ told_to c es → sent es ≡ [] → r.taken ≤ most_taken
      → MayAll v c (course_at old r es) items → AnswersFront r items (takes_all v c (course_at old r es) items)

  behind_item : (i : Item) (items : List Item) (r : AloneRun) (es : List Effect) (v : Serving) → Fronts items → v ≡ serving_with r → r.waits ≡ list_any (waits_at c) old → r.output ≡ before ++ told_to c es
      → MayAll v c (takes_one v c (course_at old r es) i) items → Taken c old before r (i ∷ []) (takes_one v c (course_at old r es) i)
      → AnswersFront r (i ∷ items) (takes_all v c (takes_one v c (course_at old r es) i) items)
  behind_item i items r es v rest serves waits output may (inl took) =
      let x : AloneRun = alone c r (i ∷ []) in
      let q : Course = takes_one v c (course_at old r es) i in
      let same : serving_with x ≡ serving_with r = ap (λ (s : Single registry_machine). serving (Some s.registry.keys) s.done) took.reached.single in
      let a : AnswersFront x items (takes_all v c q items) =
      subst (λ (p : Course). AnswersFront x items (takes_all v c p items)) (sym took.course)
      (rest x q.effects v (serves ∙ sym same) (took.reached.waits ∙ waits) took.reached.output took.reached.silent took.few (subst (λ (p : Course). MayAll v c p items) took.course may)) in
      record {
        front = i ∷ a.front;
        among = (a.among.0, ap (λ (l : List Item). i ∷ l) a.among.1);
        output = a.output;
        records = a.records ∙ took.reached.records;
      }
  behind_item i items r es v rest serves waits output may (inr took) =
      let p : Course = course_at old r es in
      let q : Course = takes_one v c p i in
      let shut : may_take c q.common ≡ false = ap (λ (d : Course). may_take c d.common) took.course ∙ shuts c took.run.taken took.run.client.handles old took.origin took.own in
      let queued : q.update ≡ Some took.update = ap (λ (d : Course). d.update) took.course in
      let silent : q.effects ≡ es = silent_by v c p (item_of v.keys c (state p.common.table p.association) i) took.update refl queued in
      subst (λ (l : List Item). AnswersFront r (i ∷ l) (takes_all v c q l)) (sym (none_behind v c q items shut may)) (record {
        front = [];
        among = (i ∷ [], refl);
        output = output ∙ ap (λ (l : List Effect). before ++ told_to c l) (sym silent);
        records = refl;
      })

  pub answers_front : (items : List Item) → Fronts items
  unfolding MayAll
  answers_front [] r es v serves waits output silent few may = record { front = []; among = ([], refl); output = output; records = refl }
  answers_front (i ∷ items) r es v serves waits output silent few may =
      behind_item i items r es v (answers_front items) serves waits output may.1
      (subst (λ (w : Serving). Taken c old before r (i ∷ []) (takes_all w c (course_at old r es) (i ∷ []))) (sym serves) (all_taken c old (i ∷ []) before r es waits output silent few (may.0, tt)))

-- A connection that is closed is told nothing of that.
effects_told : (c : ℕ) (q : Course) (ending : Ending) → told_to c (effects_of c q ending) ≡ told_to c q.effects
effects_told c q Waits = refl
effects_told c q Rests = refl
effects_told c q (Fails fault) = told_both c q.effects (Closed c (cause_of fault) ∷ []) ∙ append-nil (told_to c q.effects)

-- So it is where a connection goes on.
pub goes_logged : (c : ℕ) (first : AloneRun) (stream : List ℕ) (given : List Item) (old : List Origin) (r : AloneRun) (before kept : Kept) (t : Clients) (told : List Effect) (queued : Option Update)
    → r ≡ alone c first given → r.waits ≡ list_any (waits_at c) old → r.taken ≤ most_taken → IsKeptFrom before stream given
    → GoesOn (serving_with r) c (client_of before r) (clients_of c old r (Some kept)) t told queued → RepliesLogged c first stream (r.output ++ told_to c told) r.records
goes_logged c first stream given old r before kept t told queued run waits few holds g all fault items =
    let a = answers_front c old r.output g.takes.items r [] (serving_with r) refl waits (sym (append-nil r.output)) refl few g.takes.may in
    let held = (g.takes.stands stream given holds.holds).0 in
    let n = given_front g.intake stream (given ++ g.takes.items) all fault held (subst (λ (side : Side). Items side stream all fault) (sym (g.takes.side ∙ holds.side)) items) in
    let x : AloneRun = alone c first (given ++ a.front) in
    let same : alone c r a.front ≡ x = ap (λ (s : AloneRun). alone c s a.front) run ∙ alone_both c first given a.front in
    let told_is : told_to c told ≡ told_to c (takes_all (serving_with r) c (course_at old r []) g.takes.items).effects =
    ap (told_to c) g.effects ∙ effects_told c g.course g.ending ∙ ap (λ (q : Course). told_to c q.effects) g.takes.course in
    let apart : (given ++ (a.front ++ a.among.0)) ++ n.0 ≡ (given ++ a.front) ++ (a.among.0 ++ n.0) = simp append_assoc in
    record {
      front = given ++ a.front;
      among = (a.among.0 ++ n.0, n.1 ∙ ap (λ (l : List Item). (given ++ l) ++ n.0) a.among.1 ∙ apart);
      told = ap (λ (l : List ℕ). r.output ++ l) told_is ∙ sym a.output ∙ ap (λ (s : AloneRun). s.output) same;
      logged = ([], sym a.records ∙ ap (λ (s : AloneRun). s.records) same ∙ sym (append-nil x.records));
    }
