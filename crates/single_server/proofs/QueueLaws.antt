-- In an event of a connection no update of another one is queued.
use Rattle.std.proofs.Common.{◌≡◌, ◌≢◌, ℕ, Bool, true, false, ◌||◌, List, [], ◌∷◌, ◌++◌, Option, Some, None, Result, Ok, Err, nat_eq, refl, sym, ap, ◌∙◌, subst, arith}
use Rattle.std.specs.Prelude.{unwrap_or}
use Rattle.std.specs.List.{list_any}
use Rattle.std.specs.declared.alloc.AllocError.{AllocError}
use Rattle.disk_core.specs.Views.{DiskView}
use Rattle.ndr_values.specs.declared.handle.WireHandle.{WireHandle}
use Rattle.context_handles.specs.Table.{Table}
use Rattle.update_records.specs.declared.update.Update.{Update}
use Rattle.registry_defs.specs.Keys.{Keys}
use Rattle.registry_defs.specs.declared.outcome.Outcome.{Outcome}
use Rattle.gum_messages.specs.Messages.{Sent}
use Rattle.rpc_calls.specs.declared.call.Call as calls
use Rattle.rpc_calls.specs.declared.item.Item.{Item}
use Rattle.rpc_calls.specs.Intakes.{Kept}
use Rattle.rpc_assoc.specs.State.{State, group_of}
use Rattle.rpc_assoc.specs.declared.assoc.AssocOut.{AssocOut}
use Rattle.rpc_assoc.specs.declared.assoc.AssocOut.TheVariants as assoc
use Rattle.cluster_rules.specs.declared.effect.CloseCause.{CloseCause}
use Rattle.cluster_rules.specs.declared.effect.Effect.{Effect}
use Rattle.cluster_rules.specs.Worlds.{acked}
use Rattle.cluster_member.specs.declared.stop.Stop.{Stop}
use Rattle.cluster_member.specs.declared.stop.Stop.TheVariants as stop
use Rattle.cluster_member.specs.States.{MemberState}
use Rattle.member_rules.specs.declared.told.Told.{Told}
use Rattle.client_connections.specs.declared.origin.Origin.{Origin}
use Rattle.client_connections.specs.declared.origin.Origin.TheVariants.{Call, Batch}
use Rattle.client_connections.specs.declared.took.CallEnd.{CallEnd}
use Rattle.client_connections.specs.declared.took.CallEnd.TheVariants.{Results, Fault, Sends}
use Rattle.client_connections.specs.declared.took.Ending.{Ending}
use Rattle.client_connections.specs.declared.took.Ending.TheVariants.{Fails, Rests, Waits}
use Rattle.client_connections.specs.declared.took.Took.{Took}
use Rattle.client_connections.specs.declared.took.Took.TheVariants.{Nothing, Reply, Queues}
use Rattle.client_connections.specs.Clients.{Client, Clients, client_at, has_waiting, waits_at}
use Rattle.client_connections.specs.Finishing.{Finish, call_finished, finished, finished_for, not_applied, opened_in, opened_on, replied, without_first}
use Rattle.client_connections.specs.Items.{ClientState, answered, call_answered, called, item_of, state, taken}
use Rattle.client_connections.specs.Items as items
use Rattle.client_connections.specs.Taking.{Course, GoesOn, Hears, HearsBy, Resumes, Serving, course_from, fed_client, goes_on, refusal, takes_all, takes_one, took_by}
use Rattle.cluster_node.specs.Acting.{Acts, ContinuesAt, Follows, serving_of}
use Rattle.cluster_node.specs.Events.{HearsBytes, NodeReceives, head_request}
use Rattle.cluster_node.specs.States.{NodeValue, RunningNode}
use Rattle.single_items.specs.Standing.{IsCallOf}
use Rattle.single_items.proofs.Taking.{Mine}
use Rattle.single_server.specs.Talking.{QueuesOwn}

-- ---- an item queues for its own connection alone

mine_ended : (c : ℕ) (association : State) (call : calls.Call) (e : CallEnd × Table) → Mine c (items.replied c association call e)
mine_ended c association call (Results out reads, handles) = tt
mine_ended c association call (Fault status, handles) = tt
mine_ended c association call (Sends u, handles) = refl

mine_called : (keys : Option Keys) (c : ℕ) (s : ClientState) (call : calls.Call) (group : Option ℕ) → Mine c (call_answered keys c s call group)
mine_called keys c s call None = tt
mine_called keys c s call (Some group) = mine_ended c s.association call (called keys s.handles group call)

mine_answered : (keys : Option Keys) (c : ℕ) (p : AssocOut × ClientState) → Mine c (answered keys c p)
mine_answered keys c (assoc.Reply pdu, s) = tt
mine_answered keys c (assoc.Call call, s) = mine_called keys c s call (group_of s.association)
mine_answered keys c (assoc.Nothing, s) = tt

mine : (keys : Option Keys) (c : ℕ) (s : ClientState) (i : Item) → Mine c (item_of keys c s i)
unfolding item_of
mine keys c s i = mine_answered keys c (taken s i)

-- ---- who waits

or_false : (b d e : Bool) → (b || d) ≡ false → (d ≡ false → e ≡ false) → (b || e) ≡ false
or_false true d e none behind = none
or_false false d e none behind = behind none

or_first : (b d : Bool) → (b || d) ≡ false → b ≡ false
or_first true d none = none
or_first false d none = refl

or_second : (b d : Bool) → (b || d) ≡ false → d ≡ false
or_second true d none = absurd (cc)
or_second false d none = none

none_last : (test : Origin → Bool) (xs : List Origin) (x : Origin) → list_any test xs ≡ false → test x ≡ false → list_any test (xs ++ x ∷ []) ≡ false
none_last test [] x none e = simp e
none_last test (y ∷ ys) x none e = or_false (test y) (list_any test ys) (list_any test (ys ++ x ∷ [])) none (λ behind. none_last test ys x behind e)

is_other : (conn d : ℕ) → d ≢ conn → nat_eq conn d ≡ false
is_other conn d other = by_test (nat_eq conn d) refl
  where
    by_test : (b : Bool) → nat_eq conn d ≡ b → nat_eq conn d ≡ false
    by_test true is = let e : d ≡ conn = grind (arith, is) in absurd (other e)
    by_test false is = is

differs : (conn d : ℕ) → nat_eq conn d ≡ false → d ≢ conn
differs conn d none same = let e : nat_eq conn d ≡ true = grind (arith, same) in absurd (cc)

waits_not : (c d : ℕ) (origin : Origin) → d ≢ c → IsCallOf c origin → waits_at d origin ≡ false
waits_not c d (Call conn call_id context opnum target) other own = ap (λ (n : ℕ). nat_eq n d) own ∙ is_other c d other
waits_not c d Batch other own = refl

-- ---- items

module _ (c d : ℕ) (other : d ≢ c) where
  took_none : (v : Serving) (p : Course) (t : Took × ClientState) → Mine c t → has_waiting d p.common ≡ false → has_waiting d (took_by v c p t).common ≡ false
  took_none v p (Nothing, n) m none = none
  took_none v p (Reply bytes reads, n) m none = none
  took_none v p (Queues origin u, n) m none = none_last (waits_at d) p.common.waiting origin none (waits_not c d origin other m)

  takes_none : (v : Serving) (p : Course) (is : List Item) → has_waiting d p.common ≡ false → has_waiting d (takes_all v c p is).common ≡ false
  takes_none v p [] none = none
  takes_none v p (i ∷ is) none =
      takes_none v (takes_one v c p i) is (took_none v p (item_of v.keys c (state p.common.table p.association) i) (mine v.keys c (state p.common.table p.association) i) none)

  goes_by : (intake : Kept) (q : Course) (ending : Ending) (s : Clients) → has_waiting d q.common ≡ false → has_waiting d (goes_on c intake q ending s).common ≡ false
  goes_by intake q Waits s none = none
  goes_by intake q Rests s none = none
  goes_by intake q (Fails fault) s none = none

  goes_none : (v : Serving) (k : Client) (s t : Clients) (told : List Effect) (update : Option Update) → GoesOn v c k s t told update → has_waiting d s.common ≡ false → has_waiting d t.common ≡ false
  goes_none v k s t told update g none =
      ap (λ (u : Clients). has_waiting d u.common) g.clients
      ∙ goes_by g.intake g.course g.ending s (ap (λ (q : Course). has_waiting d q.common) g.takes.course ∙ takes_none v (course_from s.common k) g.takes.items none)

  resumes_none : (v : Serving) (client : Option Client) (s t : Clients) (told : List Effect) (update : Option Update) → Resumes v c client s t told update → has_waiting d s.common ≡ false → has_waiting d t.common ≡ false
  resumes_none v None s t told update tells none = ap (λ (u : Clients). has_waiting d u.common) tells.clients ∙ none
  resumes_none v (Some k) s t told update g none = goes_none v k s t told update g none

  heard_none : (refused : Option CloseCause) (v : Serving) (piece : List ℕ) (k : Client) (s t : Clients) (told : List Effect) (update : Option Update) → HearsBy refused v c piece k s t told update
      → has_waiting d s.common ≡ false → has_waiting d t.common ≡ false
  heard_none (Some cause) v piece k s t told update tells none = ap (λ (u : Clients). has_waiting d u.common) tells.clients ∙ none
  heard_none None v piece k s t told update g none = goes_none v (fed_client k piece) s t told update g none

  hears_none : (v : Serving) (piece : List ℕ) (client : Option Client) (s t : Clients) (told : List Effect) (update : Option Update) → Hears v c piece client s t told update
      → has_waiting d s.common ≡ false → has_waiting d t.common ≡ false
  hears_none v piece None s t told update tells none = ap (λ (u : Clients). has_waiting d u.common) tells.clients ∙ none
  hears_none v piece (Some k) s t told update hears none = heard_none (refusal k.intake piece) v piece k s t told update hears none

-- ---- the head is acknowledged

module _ (d : ℕ) where
  -- None of that connection waits behind it, and another one goes on.
  record FinishesOthers (end : Finish) : Type 0 where
    pub none : has_waiting d end.clients.common ≡ false
    pub other : (conn : ℕ) → end.resumes ≡ Some conn → d ≢ conn

  replied_others : (conn call_id context opnum place : ℕ) (outcome : Outcome) (association : State) (p : Option WireHandle × Table) (s : Clients) → d ≢ conn → has_waiting d s.common ≡ false
      → FinishesOthers (replied conn call_id context opnum outcome place association p s)
  replied_others conn call_id context opnum place outcome association (handle, table) s other none =
      record { none = none; other = λ n is. let e : conn ≡ n = cc in subst (λ (m : ℕ). d ≢ m) e other }

  unanswered_others : (s : Clients) → has_waiting d s.common ≡ false → FinishesOthers (record { clients = s; effect = None; resumes = None })
  unanswered_others s none = record { none = none; other = λ n is. absurd (cc) }

  call_others : (conn call_id context opnum : ℕ) (target : Option (List (List ℕ))) (place : ℕ) (outcome : Outcome) (client : Option Client) (s : Clients) → d ≢ conn → has_waiting d s.common ≡ false
      → FinishesOthers (call_finished conn call_id context opnum target place outcome client s)
  call_others conn call_id context opnum target place outcome None s other none = unanswered_others s none
  call_others conn call_id context opnum target place outcome (Some k) s other none =
      replied_others conn call_id context opnum place outcome k.association (opened_in (group_of k.association) (opened_on target outcome) s.common.table) s other none

  origin_others : (origin : Origin) (req place : ℕ) (outcome : Outcome) (s : Clients) → waits_at d origin ≡ false → has_waiting d s.common ≡ false → FinishesOthers (finished_for origin req place outcome s)
  origin_others Batch req place outcome s first none = record { none = none; other = λ n is. absurd (cc) }
  origin_others (Call conn call_id context opnum target) req place outcome s first none =
      call_others conn call_id context opnum target place outcome (client_at conn s) s (differs conn d first) none

  finishes_others : (waiting : List Origin) (req place : ℕ) (outcome : Option Outcome) (s : Clients) → s.common.waiting ≡ waiting → has_waiting d s.common ≡ false → FinishesOthers (finished waiting req place outcome s)
  finishes_others [] req place outcome s is none = unanswered_others s none
  finishes_others (origin ∷ others) req place outcome s is none =
      let all : list_any (waits_at d) (origin ∷ others) ≡ false = sym (ap (list_any (waits_at d)) is) ∙ none in
      origin_others origin req place (unwrap_or outcome not_applied) (without_first s others) (or_first (waits_at d origin) (list_any (waits_at d) others) all) (or_second (waits_at d origin) (list_any (waits_at d) others) all)

  continues_none : (resumes : Option ℕ) (m n : MemberState) (s t : Clients) (all : List Effect) → ((conn : ℕ) → resumes ≡ Some conn → d ≢ conn) → ContinuesAt resumes m s n t all → has_waiting d s.common ≡ false → has_waiting d t.common ≡ false
  continues_none None m n s t all other (same, clients, silent) none = ap (λ (u : Clients). has_waiting d u.common) clients ∙ none
  continues_none (Some conn) m n s t all other g none = resumes_none conn d (other conn refl) (serving_of m) (client_at conn s) s t g.told g.queued g.resumes none

  acts_none : (acks : List (ℕ × ℕ)) (req : ℕ) (m n : MemberState) (s t : Clients) (told : Told) (all : List Effect) → Acts acks req m s told n t all → has_waiting d s.common ≡ false → has_waiting d t.common ≡ false
  acts_none [] req m n s t told all (same, clients, effects) none = ap (λ (u : Clients). has_waiting d u.common) clients ∙ none
  acts_none (ack ∷ acks) req m n s t told all g none =
      let end = finishes_others s.common.waiting req ack.1 told.outcome s refl none in
      continues_none (finished s.common.waiting req ack.1 told.outcome s).resumes m n (finished s.common.waiting req ack.1 told.outcome s).clients t g.more end.other g.continues end.none

  follows_none : (came : Result Told Stop) (req : ℕ) (m : MemberState) (s : Clients) (y : RunningNode) (all : List Effect) → Follows came req m s (Some y) all → has_waiting d s.common ≡ false → has_waiting d y.clients.common ≡ false
  follows_none (Ok told) req m s y all follows none = acts_none (acked told.effects) req m y.member s y.clients told all follows none
  follows_none (Err (stop.Halted cause)) req m s y all follows none = absurd follows
  follows_none (Err stop.Memory) req m s y all follows none = absurd follows

-- ---- the events

pub message_queues_none : (d : ℕ) (v w : DiskView) (p : Sent) (x y : RunningNode) (es : List Effect) → NodeReceives {E = AllocError} v (Some x) p (Ok es) (Some y) w
    → has_waiting d x.clients.common ≡ false → has_waiting d y.clients.common ≡ false
message_queues_none d v w p x y es h none = follows_none d h.came (head_request x) h.member x.clients y es h.follows none

message_by : (d : ℕ) (v w : DiskView) (p : Sent) (r q : Option RunningNode) (es : List Effect) → NodeReceives {E = AllocError} v r p (Ok es) q w
    → elim r [ None ↦ false | Some x ↦ has_waiting d x.clients.common ] ≡ false → elim q [ None ↦ false | Some x ↦ has_waiting d x.clients.common ] ≡ false
message_by d v w p r None es h none = refl
message_by d v w p None (Some y) es h none = let e : ◌≡◌ {A = Option RunningNode} (Some y) None = h.stopped in absurd (cc)
message_by d v w p (Some x) (Some y) es h none = message_queues_none d v w p x y es h none

pub message_queues_own : (c : ℕ) (v w : DiskView) (p : Sent) (n m : NodeValue) (es : List Effect) → NodeReceives {E = AllocError} v n.running p (Ok es) m.running w → QueuesOwn c n m
message_queues_own c v w p n m es h d other none = message_by d v w p n.running m.running es h none

piece_by : (c d : ℕ) → d ≢ c → (piece : List ℕ) (r q : Option RunningNode) (es : List Effect) → HearsBytes c piece r q es
    → elim r [ None ↦ false | Some x ↦ has_waiting d x.clients.common ] ≡ false → elim q [ None ↦ false | Some x ↦ has_waiting d x.clients.common ] ≡ false
piece_by c d other piece r None es h none = refl
piece_by c d other piece None (Some y) es h none = absurd h
piece_by c d other piece (Some x) (Some y) es h none = hears_none c d other (serving_of x.member) piece (client_at c x.clients) x.clients y.clients h.told h.queued h.hears none

pub piece_queues_own : (c : ℕ) (piece : List ℕ) (n m : NodeValue) (es : List Effect) → HearsBytes c piece n.running m.running es → QueuesOwn c n m
piece_queues_own c piece n m es h d other none = piece_by c d other piece n.running m.running es h none

pub queues_then : (c : ℕ) (n m o : NodeValue) → QueuesOwn c n m → QueuesOwn c m o → QueuesOwn c n o
queues_then c n m o first second d other none = second d other (first d other none)

pub queues_none : (c : ℕ) (n : NodeValue) → QueuesOwn c n n
queues_none c n d other none = none
