-- A message that the node sent to itself leaves it where Alone says.
use Rattle.std.proofs.Common.{◌≡◌, inr, ℕ, ◌+◌, ◌≤◌, ◌<◌, Bool, true, false, ◌||◌, List, [], ◌∷◌, ◌++◌, Option, Some, None, nat_lt, if◌then◌else◌, refl, sym, ap, ◌∙◌, subst, append_assoc, arith}
use Rattle.std.proofs.lemmas.List.{append-nil}
use Rattle.std.specs.Option.{option_to_list}
use Rattle.update_records.specs.Entry.{Entry}
use Rattle.update_records.specs.declared.update.Update.{Update}
use Rattle.rpc_assoc.specs.State.{State}
use Rattle.rpc_calls.specs.declared.item.Item.{Item}
use Rattle.rpc_calls.specs.Intakes.{Kept}
use Rattle.gum_messages.specs.Messages.{Sent}
use Rattle.gum_core.specs.Updating.{last_place}
use Rattle.cluster_rules.specs.declared.effect.Effect.{Effect}
use Rattle.cluster_rules.specs.declared.effect.Effect.TheVariants.{Acked, Reply, Send}
use Rattle.cluster_rules.specs.declared.effect.HaltCause.TheVariants as halt
use Rattle.cluster_rules.specs.Nodes.{NodeState, Out, acknowledges, becomes, halts, nothing}
use Rattle.cluster_rules.specs.Receiving.{receive}
use Rattle.cluster_rules.specs.Updates.{Answer, InDoubt, Logged, Unwritten, Written, unlogged}
use Rattle.cluster_rules.specs.Worlds.{acked, sent}
use Rattle.registry_machine.specs.Machine.{registry_machine}
use Rattle.client_connections.specs.declared.origin.Origin.{Origin}
use Rattle.client_connections.specs.Clients.{Client, Clients, waits_at}
use Rattle.client_connections.specs.Finishing.{Finish}
use Rattle.client_connections.specs.Items.{ClientState}
use Rattle.client_connections.specs.Taking.{Resumes}
use Rattle.single_rules.proofs.Comparisons.{less, not_less, same}
use Rattle.single_rules.proofs.Events.{finishes_one, frees_next, frees_one, grants_one}
use Rattle.single_rules.proofs.InTurn.{stays_sound}
use Rattle.single_rules.proofs.Refused.{grants_none, halts_fenced, halts_in_doubt, halts_unwritten}
use Rattle.single_rules.specs.Rounds.{all_made}
use Rattle.single_rules.specs.Single.{IsSound, Single, ask, asking, at_rest, grant, granting, lock_of, made, outcome_of, release, releasing, updated, with_queue}
use Rattle.single_items.specs.Alone.{AloneRun, alone, answer_alone, done_alone, update_alone}
use Rattle.single_items.specs.Events.{AnswersHead, FollowsAcks, MessageComes, GoesFurther, told_to}
use Rattle.single_items.specs.Promises.{MessageLeads}
use Rattle.single_items.specs.Standing.{Asked, Calm, FitsWay, Granting, GrownFrom, IsBehind, IsCallOf, IsHeardOn, IsKeptFrom, Lately, NodeAlone, StandsAt, Stuck, Way, clients_of, left_on, logged_on, node_on, promised_on, queued_on, node_alone, waiting_on}
use Rattle.single_items.proofs.Finishing.{answered_clients, finishes, keeps_association}
use Rattle.single_items.proofs.Growing.{after_both, made_both}
use Rattle.single_items.proofs.Keeping.{found_one}
use Rattle.single_items.proofs.Served.{Ready, served, some_is, stand, stand_is}
use Rattle.single_items.proofs.Serving.{client_of}
use Rattle.single_items.proofs.Taking.{serving_with, waits_for_it}

-- What is behind an event of the protocol that left this.
abbrev HeardBy : Logged registry_machine → ℕ → Clients → NodeState registry_machine → Clients → List Effect → Type 0
HeardBy d passed s y t es = (left : NodeState registry_machine) × (d.out.node ≡ Some left) × FollowsAcks (acked d.out.effects) passed s d.out left y t es

pub sound_now : (first r : AloneRun) (queued : ℕ) → GrownFrom first queued r → IsSound r.single
sound_now first r queued g = subst (λ (a : Single registry_machine). IsSound a) (sym g.single) (stays_sound first.single g.updates g.sound)

pub on_first : (T : Sent → List Sent → Type 0) (q p : Sent) (rest left : List Sent) → q ∷ rest ≡ p ∷ left → T q rest → T p left
on_first T q p rest left e h =
    let a : q ≡ p = cc in
    let b : rest ≡ left = cc in
    subst (λ (x : Sent). T x left) a (subst (λ (l : List Sent). T q l) b h)

-- ---- a Release

pub frees_calm : (l : Lately) (a : Single registry_machine) (held : ℕ) (answer : Answer) → IsBehind (Some l) a
    → receive (with_queue a [] (Some (lock_of l.before)) None) (release l.before) held answer ≡ unlogged (nothing (at_rest a))
frees_calm l a held answer (is, sound) =
    subst (λ (b : Single registry_machine). receive (with_queue b [] (Some (lock_of l.before)) None) (release l.before) held answer ≡ unlogged (nothing (at_rest b))) (sym is)
    (frees_one l.before l.update held answer sound)

pub frees_asked : (l : Lately) (a : Single registry_machine) (u : Update) (held : ℕ) (answer : Answer) → IsBehind (Some l) a
    → receive (with_queue a (u ∷ []) (Some (lock_of l.before)) None) (release l.before) held answer ≡ unlogged (nothing (asking a u))
frees_asked l a u held answer (is, sound) =
    subst (λ (b : Single registry_machine). receive (with_queue b (u ∷ []) (Some (lock_of l.before)) None) (release l.before) held answer ≡ unlogged (nothing (asking b u))) (sym is)
    (frees_next l.before l.update u held answer sound)

module _ (c : ℕ) (first : AloneRun) (stream : List ℕ) (given : List Item) (y : NodeState registry_machine) (t : Clients) (es : List Effect) where
  abbrev Stood : AloneRun → List Sent → List Entry → Type 0
  Stood r left records = StandsAt c first stream (stand y t (left ++ sent es)) (r.output ++ told_to c es) records

  -- Nothing but the node's state has changed.
  same_heard : (way next : Way) (r : AloneRun) (intake : Option Kept) → FitsWay c next r intake → GrownFrom first (queued_on next) r
      → promised_on next r ≡ alone c first given → IsHeardOn next r intake stream given → logged_on next r ≡ r.records
      → waiting_on next ≡ waiting_on way → (left : List Sent) → left ≡ left_on next r.single
      → HeardBy (unlogged (nothing (node_on next r.single))) r.single.passed (clients_of c (waiting_on way) r intake) y t es → Stood r left (r.records ++ [])
  same_heard way next r intake fits grown promised heard logged waiting left is (m, node, (there, same, none)) = record {
    phase = record { run = r; way = next; intake = intake };
    given = given;
    is = stand_is y (node_on next r.single) t (clients_of c (waiting_on next) r intake) (left ++ sent es) (left_on next r.single)
        (there ∙ sym (some_is (node_on next r.single) m node))
        (same ∙ ap (λ (l : List Origin). clients_of c l r intake) (sym waiting))
        (ap (λ (l : List Effect). left ++ sent l) none ∙ append-nil left ∙ is);
    fits = fits;
    grown = grown;
    promised = promised;
    heard = heard;
    told = ap (λ (l : List Effect). r.output ++ told_to c l) none ∙ append-nil r.output;
    logged = append-nil r.records ∙ sym logged;
  }

  stops_not : (d : Logged registry_machine) (passed : ℕ) (s : Clients) → d.out.node ≡ None → HeardBy d passed s y t es → ⊥
  stops_not d passed s stops (m, node, more) = let e : ◌≡◌ {A = Option (NodeState registry_machine)} None (Some m) = sym stops ∙ node in absurd (cc)

  abbrev Hears : Way → AloneRun → Option Kept → Sent → List Sent → ℕ → Answer → Type 0
  Hears way r intake p left held answer =
      HeardBy (receive (node_on way r.single) p held answer) (node_on way r.single).core.passed (clients_of c (waiting_on way) r intake) y t es
      → Stood r left (logged_on way r ++ option_to_list (receive (node_on way r.single) p held answer).appended)

  -- Given what the event comes to.
  by_event : (way : Way) (r : AloneRun) (intake : Option Kept) (p : Sent) (left : List Sent) (held : ℕ) (answer : Answer) (d : Logged registry_machine)
      → receive (node_on way r.single) p held answer ≡ d
      → (HeardBy d (node_on way r.single).core.passed (clients_of c (waiting_on way) r intake) y t es → Stood r left (logged_on way r ++ option_to_list d.appended))
      → Hears way r intake p left held answer
  by_event way r intake p left held answer d e h =
      subst (λ (g : Logged registry_machine). HeardBy g (node_on way r.single).core.passed (clients_of c (waiting_on way) r intake) y t es → Stood r left (logged_on way r ++ option_to_list g.appended)) (sym e) h

  freed_heard : (l : Lately) (r : AloneRun) (intake : Option Kept) → IsHeardOn (Calm (Some l)) r intake stream given → IsHeardOn (Calm None) r intake stream given
  freed_heard l r None h = h
  freed_heard l r (Some kept) h = h

  freed_asked : (l : Lately) (origin : Origin) (u : Update) (r : AloneRun) (intake : Option Kept) → IsHeardOn (Asked (Some l) origin u) r intake stream given → IsHeardOn (Asked None origin u) r intake stream given
  freed_asked l origin u r None h = h
  freed_asked l origin u r (Some kept) h = h

  hears_free : (l : Lately) (r : AloneRun) (intake : Option Kept) (held : ℕ) (answer : Answer) → FitsWay c (Calm (Some l)) r intake → GrownFrom first 0 r → r ≡ alone c first given
      → IsHeardOn (Calm (Some l)) r intake stream given → Hears (Calm (Some l)) r intake (release l.before) [] held answer
  hears_free l r intake held answer fits grown promised heard =
      by_event (Calm (Some l)) r intake (release l.before) [] held answer (unlogged (nothing (at_rest r.single))) (frees_calm l r.single held answer fits.0)
      (same_heard (Calm (Some l)) (Calm None) r intake (tt, fits.1) grown promised (freed_heard l r intake heard) refl refl [] refl)

  hears_free_asked : (l : Lately) (origin : Origin) (u : Update) (r : AloneRun) (intake : Option Kept) (held : ℕ) (answer : Answer) → FitsWay c (Asked (Some l) origin u) r intake → GrownFrom first 1 r
      → update_alone origin u r ≡ alone c first given → IsHeardOn (Asked (Some l) origin u) r intake stream given
      → Hears (Asked (Some l) origin u) r intake (release l.before) (ask r.single u ∷ []) held answer
  hears_free_asked l origin u r intake held answer fits grown promised heard =
      by_event (Asked (Some l) origin u) r intake (release l.before) (ask r.single u ∷ []) held answer (unlogged (nothing (asking r.single u))) (frees_asked l r.single u held answer fits.0)
      (same_heard (Asked (Some l) origin u) (Asked None origin u) r intake (tt, fits.1, fits.2, fits.3) grown promised (freed_asked l origin u r intake heard) refl refl (ask r.single u ∷ []) refl)

  -- ---- an Ask

  module _ (origin : Origin) (u : Update) (r : AloneRun) (kept : Kept) (held : ℕ) (answer : Answer) (waits : r.waits ≡ false) (own : IsCallOf c origin) (grown : GrownFrom first 1 r)
      (promised : update_alone origin u r ≡ alone c first given) (heard : IsKeptFrom kept stream given) where
    abbrev Event : Type 0
    Event = Hears (Asked None origin u) r (Some kept) (ask r.single u) [] held answer

    asks_full : last_place ≤ r.single.done → Event
    asks_full full =
        let a : Single registry_machine = r.single in
        let p = not_less a.done last_place full in
        by_event (Asked None origin u) r (Some kept) (ask a u) [] held answer (unlogged (nothing (asking a u))) (grants_none a u held answer (sound_now first r 1 grown) full)
        (λ h. stuck p (same_heard (Asked None origin u) (Stuck u [] (origin ∷ [])) (record r { waits = true }) (Some kept)
        (full, sym (list_first (waits_at c origin) (waits_for_it c origin own)))
        (record { sound = grown.sound; updates = grown.updates; single = grown.single; records = grown.records; requests = grown.requests; items = grown.items })
        (full_promised p ∙ promised) (heard, inr refl) refl refl [] refl h))
      where
        stuck : {A : Type 0} → nat_lt r.single.done last_place ≡ false → A → A
        stuck p x = x

        list_first : (b : Bool) → b ≡ true → (b || false) ≡ true
        list_first true e = refl
        list_first false e = absurd (cc)

        full_promised : nat_lt r.single.done last_place ≡ false → record r { waits = true } ≡ update_alone origin u r
        full_promised p = sym (ap (λ (b : Bool). if b then done_alone u (answer_alone origin (outcome_of r.single u) r.client) r else record r { waits = true }) p)

    asks_fenced : r.single.done < last_place → r.single.view < held → Event
    asks_fenced room later =
        by_event (Asked None origin u) r (Some kept) (ask r.single u) [] held answer (unlogged (halts (halt.Fenced held))) (halts_fenced r.single u held answer (sound_now first r 1 grown) room later)
        (λ h. absurd (stops_not (unlogged (halts (halt.Fenced held))) r.single.passed (clients_of c (origin ∷ []) r (Some kept)) refl h))

    logs_one : r.single.done < last_place
        → HeardBy (record { out = becomes (granting r.single u) (Send (grant r.single u) ∷ []); appended = Some (made r.single u); doubtful = None }) r.single.passed (clients_of c (origin ∷ []) r (Some kept)) y t es
        → Stood r [] (r.records ++ made r.single u ∷ [])
    logs_one room (m, node, (there, same, says)) = record {
      phase = record { run = r; way = Granting origin u; intake = Some kept };
      given = given;
      is = stand_is y (granting r.single u) t (clients_of c (origin ∷ []) r (Some kept)) (sent es) (grant r.single u ∷ [])
          (there ∙ sym (some_is (granting r.single u) m node)) same (ap sent says);
      fits = (room, waits, own, tt);
      grown = grown;
      promised = promised;
      heard = heard;
      told = ap (λ (l : List Effect). r.output ++ told_to c l) says ∙ append-nil r.output;
      logged = refl;
    }

    asks_own : (b : Answer) → answer ≡ b → r.single.done < last_place → held ≤ r.single.view → Event
    asks_own Written e room mine =
        by_event (Asked None origin u) r (Some kept) (ask r.single u) [] held answer
        (record { out = becomes (granting r.single u) (Send (grant r.single u) ∷ []); appended = Some (made r.single u); doubtful = None })
        (ap (receive (asking r.single u) (ask r.single u) held) e ∙ grants_one r.single u held (sound_now first r 1 grown) room mine)
        (logs_one room)
    asks_own InDoubt e room mine =
        let d : Logged registry_machine = record { out = halts halt.Disk; appended = None; doubtful = Some (made r.single u) } in
        by_event (Asked None origin u) r (Some kept) (ask r.single u) [] held answer d
        (ap (receive (asking r.single u) (ask r.single u) held) e ∙ halts_in_doubt r.single u held (sound_now first r 1 grown) room mine)
        (λ h. absurd (stops_not d r.single.passed (clients_of c (origin ∷ []) r (Some kept)) refl h))
    asks_own Unwritten e room mine =
        by_event (Asked None origin u) r (Some kept) (ask r.single u) [] held answer (unlogged (halts halt.Disk))
        (ap (receive (asking r.single u) (ask r.single u) held) e ∙ halts_unwritten r.single u held (sound_now first r 1 grown) room mine)
        (λ h. absurd (stops_not (unlogged (halts halt.Disk)) r.single.passed (clients_of c (origin ∷ []) r (Some kept)) refl h))

    asks_room : (b : Bool) → nat_lt r.single.view held ≡ b → r.single.done < last_place → Event
    asks_room true e room = asks_fenced room (grind (arith, e))
    asks_room false e room = asks_own answer refl room (grind (arith, e))

    hears_ask : (b : Bool) → nat_lt r.single.done last_place ≡ b → Event
    hears_ask true e = asks_room (nat_lt r.single.view held) refl (grind (arith, e))
    hears_ask false e = asks_full (grind (arith, e))

  -- ---- a Granted

  module _ (origin : Origin) (u : Update) (r : AloneRun) (kept : Kept) (held : ℕ) (answer : Answer) (room : r.single.done < last_place) (waits : r.waits ≡ false) (own : IsCallOf c origin) (grown : GrownFrom first 1 r)
      (promised : update_alone origin u r ≡ alone c first given) (heard : IsKeptFrom kept stream given) where
    abbrev Given : List ℕ × ClientState
    Given = answer_alone origin (outcome_of r.single u) r.client

    abbrev Done : AloneRun
    Done = done_alone u Given r

    abbrev Behind : Way
    Behind = Calm (Some (record { before = r.single; update = u }))

    abbrev Acks : List Effect
    Acks = Acked r.single.view (r.single.done + 1) ∷ Reply c (Some (r.single.done + 1)) Given.0 ∷ Send (release r.single) ∷ []

    done_grown : GrownFrom first 0 Done
    done_grown = record {
      sound = grown.sound;
      updates = grown.updates ++ u ∷ [];
      single = ap (λ (a : Single registry_machine). updated a u) grown.single ∙ sym (after_both first.single grown.updates u);
      records = ap (λ (es : List Entry). es ++ made r.single u ∷ []) grown.records ∙ append_assoc first.records (all_made first.single grown.updates) (made r.single u ∷ [])
          ∙ ap (λ (es : List Entry). first.records ++ es) (ap (λ (a : Single registry_machine). all_made first.single grown.updates ++ made a u ∷ []) grown.single ∙ sym (made_both first.single grown.updates u));
      requests = let q = grown.requests in omega arith;
      items = grown.items;
    }

    done_run : Done ≡ alone c first given
    done_run =
        let p = less r.single.done last_place room in
        sym (ap (λ (b : Bool). if b then done_alone u (answer_alone origin (outcome_of r.single u) r.client) r else record r { waits = true }) p) ∙ promised

    ready : Ready c first stream given Behind tt Done kept
    ready = record {
      waits = waits;
      behind = λ intake x single same. ((single, sound_now first r 1 grown), same ∙ waits);
      grown = done_grown;
      run = done_run;
      holds = heard;
    }

    clients_done : answered_clients c r kept Given ≡ clients_of c [] Done (Some kept)
    clients_done = of_pair Given (keeps_association origin (outcome_of r.single u) r.client)
      where
        of_pair : (p : List ℕ × ClientState) → p.1.association ≡ r.client.association → answered_clients c r kept p ≡ clients_of c [] (done_alone u p r) (Some kept)
        of_pair (bytes, n) e = ap (λ (association : State). record {
          common = record { table = n.handles; waiting = []; taken = r.taken };
          conns = (c, record { intake = kept; association = association }) ∷ [];
        }) (sym e)

    further : (m : NodeState registry_machine) (more : List Effect) → m ≡ releasing r.single u
        → GoesFurther (Some c) m (answered_clients c r kept Given) y t more → es ≡ Acks ++ more
        → Stood r [] ((r.records ++ made r.single u ∷ []) ++ [])
    further m more there goes says =
        let s : Clients = clients_of c [] Done (Some kept) in
        let here = subst (λ (x : NodeState registry_machine). GoesFurther (Some c) x s y t more) there (subst (λ (v : Clients). GoesFurther (Some c) m v y t more) clients_done goes) in
        let z = served c first stream given Behind tt Done kept kept ready y t more (record {
          told = here.told;
          update = here.update;
          took = subst (λ (client : Option Client). Resumes (serving_with Done) c client s t here.told here.update) (found_one s.common c (client_of kept Done)) here.took;
          node = here.node;
          effects = here.effects;
        }) in
        record {
          phase = z.phase;
          given = z.given;
          is = is_all more (node_alone c z.phase) says z.is;
          fits = z.fits;
          grown = z.grown;
          promised = z.promised;
          heard = z.heard;
          told = told_all more z.phase.run.output says z.told;
          logged = append-nil (r.records ++ made r.single u ∷ []) ∙ z.logged;
        }
      where
        is_all : (more : List Effect) (x : NodeAlone) → es ≡ Acks ++ more → stand y t (release r.single ∷ sent more) ≡ x → stand y t (sent es) ≡ x
        is_all more x says rest = ap (λ (l : List Effect). stand y t (sent l)) says ∙ rest

        told_all : (more : List Effect) (output : List ℕ) → es ≡ Acks ++ more → Done.output ++ told_to c more ≡ output → r.output ++ told_to c es ≡ output
        told_all more output says rest =
            let acks : r.output ++ told_to c (Acks ++ more) ≡ Done.output ++ told_to c more = simp (same, append_assoc) in
            ap (λ (l : List Effect). r.output ++ told_to c l) says ∙ acks ∙ rest

    hears_granted : Hears (Granting origin u) r (Some kept) (grant r.single u) [] held answer
    hears_granted =
        let out : Out registry_machine = acknowledges (releasing r.single u) (Some (outcome_of r.single u)) (Acked r.single.view (r.single.done + 1) ∷ Send (release r.single) ∷ []) in
        by_event (Granting origin u) r (Some kept) (grant r.single u) [] held answer (unlogged out) (finishes_one r.single u held answer (sound_now first r 1 grown))
        (λ h. let m : NodeState registry_machine = h.0 in
        let a = subst (λ (f : Finish). AnswersHead f out m y t es) (finishes c (r.single.passed + 1) (r.single.done + 1) origin (outcome_of r.single u) r kept own) h.2 in
        further m a.0 (sym (some_is (releasing r.single u) m h.1)) a.1 a.2)

  -- ---- any message

  hears_on : (way : Way) (r : AloneRun) (intake : Option Kept) (p : Sent) (left : List Sent) (held : ℕ) (answer : Answer) → FitsWay c way r intake → GrownFrom first (queued_on way) r
      → promised_on way r ≡ alone c first given → IsHeardOn way r intake stream given → left_on way r.single ≡ p ∷ left → Hears way r intake p left held answer
  hears_on (Calm None) r intake p left held answer fits grown promised heard e = absurd (cc)
  hears_on (Calm (Some l)) r intake p left held answer fits grown promised heard e =
      on_first (λ q rest. Hears (Calm (Some l)) r intake q rest held answer) (release l.before) p [] left e (hears_free l r intake held answer fits grown promised heard)
  hears_on (Asked (Some l) origin u) r intake p left held answer fits grown promised heard e =
      on_first (λ q rest. Hears (Asked (Some l) origin u) r intake q rest held answer) (release l.before) p (ask r.single u ∷ []) left e
      (hears_free_asked l origin u r intake held answer fits grown promised heard)
  hears_on (Asked None origin u) r None p left held answer fits grown promised heard e = absurd fits.3
  hears_on (Asked None origin u) r (Some kept) p left held answer fits grown promised heard e =
      on_first (λ q rest. Hears (Asked None origin u) r (Some kept) q rest held answer) (ask r.single u) p [] left e
      (hears_ask origin u r kept held answer fits.1 fits.2 grown promised heard (nat_lt r.single.done last_place) refl)
  hears_on (Granting origin u) r None p left held answer fits grown promised heard e = absurd fits.3
  hears_on (Granting origin u) r (Some kept) p left held answer fits grown promised heard e =
      on_first (λ q rest. Hears (Granting origin u) r (Some kept) q rest held answer) (grant r.single u) p [] left e
      (hears_granted origin u r kept held answer fits.0 fits.1 fits.2 grown promised heard)
  hears_on (Stuck head others origins) r intake p left held answer fits grown promised heard e = absurd (cc)

pub hears_message : (c : ℕ) (first : AloneRun) (stream : List ℕ) (z : NodeAlone) (output : List ℕ) (records : List Entry) → StandsAt c first stream z output records → MessageLeads c first stream z output records
hears_message c first stream z output records h p left held answer y t es at heard =
    let w : Way = h.phase.way in
    let r : AloneRun = h.phase.run in
    let first_left : left_on w r.single ≡ p ∷ left = sym (ap (λ (x : NodeAlone). x.left) h.is) ∙ at in
    let here = subst (λ (x : NodeAlone). MessageComes p held answer x.node x.clients y t es) h.is heard in
    let logged : (receive (node_on w r.single) p held answer).appended ≡ (receive z.node p held answer).appended = ap (λ (x : NodeAlone). (receive x.node p held answer).appended) (sym h.is) in
    let z1 = hears_on c first stream h.given y t es w r h.phase.intake p left held answer h.fits h.grown h.promised h.heard first_left (here.left, here.node, here.follows) in
    subst (λ (l : List ℕ). StandsAt c first stream (stand y t (left ++ sent es)) (l ++ told_to c es) (records ++ option_to_list (receive z.node p held answer).appended)) (sym h.told)
    (subst (λ (l : List Entry). StandsAt c first stream (stand y t (left ++ sent es)) (r.output ++ told_to c es) (l ++ option_to_list (receive z.node p held answer).appended)) (sym h.logged)
    (subst (λ (e : Option Entry). StandsAt c first stream (stand y t (left ++ sent es)) (r.output ++ told_to c es) (logged_on w r ++ option_to_list e)) logged z1))
