-- What a node tells its clients is neither a message nor an acknowledgement.
use Rattle.std.proofs.Common.{◌≡◌, ℕ, Bool, List, [], ◌∷◌, ◌++◌, length, nat_lt, Option, Some, None, refl, sym, ap, ◌∙◌, subst}
use Rattle.std.specs.Prelude.{map, option_to_list, unwrap_or}
use Rattle.std.specs.Map.{keys_of}
use Rattle.gum_messages.specs.Messages.{Sent}
use Rattle.gum_messages.proofs.Branches.{if_cases}
use Rattle.update_records.specs.declared.update.Update.{Update}
use Rattle.rpc_calls.specs.declared.item.Item.{Item}
use Rattle.cluster_rules.specs.declared.effect.CloseCause.{CloseCause}
use Rattle.cluster_rules.specs.declared.effect.CloseCause.TheVariants.{Limit, NodeStopped}
use Rattle.cluster_rules.specs.declared.effect.Effect.{Effect}
use Rattle.cluster_rules.specs.declared.effect.Effect.TheVariants.{Acked, Batched, Closed, Halted, Opened, Reply, Send}
use Rattle.cluster_rules.specs.Worlds.{acked, sent}
use Rattle.client_connections.specs.declared.took.Ending.{Ending}
use Rattle.client_connections.specs.declared.took.Ending.TheVariants.{Fails, Rests, Waits}
use Rattle.client_connections.specs.declared.took.Took.{Took}
use Rattle.client_connections.specs.declared.took.Took.TheVariants as took
use Rattle.client_connections.specs.declared.origin.Origin.{Origin}
use Rattle.client_connections.specs.declared.origin.Origin.TheVariants.{Batch, Call}
use Rattle.client_connections.specs.Clients.{Client, Clients, client_at, closings, connected, hung_up, most_clients, with_new}
use Rattle.client_connections.specs.Finishing.{batched, call_finished, finished, finished_for, may_batch, not_applied, opened_in, opened_on, queued, refused_batch, replied, without_first}
use Rattle.context_handles.specs.Table.{Table}
use Rattle.ndr_values.specs.declared.handle.WireHandle.{WireHandle}
use Rattle.registry_defs.specs.declared.outcome.Outcome.{Outcome}
use Rattle.rpc_assoc.specs.State.{State, group_of}
use Rattle.client_connections.specs.Items.{ClientState, item_of, state}
use Rattle.client_connections.specs.Taking.{Course, GoesOn, Hears, HearsBy, Resumes, Serving, course_from, effects_of, fed_client, refusal, takes_all, takes_one, took_by}
use Rattle.cluster_node.specs.Acting.{answered_with}

-- ---- lists of effects

pub sent_both : (es fs : List Effect) → sent (es ++ fs) ≡ sent es ++ sent fs
sent_both [] fs = refl
sent_both (Send p ∷ es) fs = ap (λ (ps : List Sent). p ∷ ps) (sent_both es fs)
sent_both (Reply conn point bytes ∷ es) fs = sent_both es fs
sent_both (Closed conn cause ∷ es) fs = sent_both es fs
sent_both (Acked view place ∷ es) fs = sent_both es fs
sent_both (Opened view ∷ es) fs = sent_both es fs
sent_both (Batched req point status index ∷ es) fs = sent_both es fs
sent_both (Halted cause ∷ es) fs = sent_both es fs

pub acked_both : (es fs : List Effect) → acked (es ++ fs) ≡ acked es ++ acked fs
acked_both [] fs = refl
acked_both (Acked view place ∷ es) fs = ap (λ (acks : List (ℕ × ℕ)). (view, place) ∷ acks) (acked_both es fs)
acked_both (Send p ∷ es) fs = acked_both es fs
acked_both (Reply conn point bytes ∷ es) fs = acked_both es fs
acked_both (Closed conn cause ∷ es) fs = acked_both es fs
acked_both (Opened view ∷ es) fs = acked_both es fs
acked_both (Batched req point status index ∷ es) fs = acked_both es fs
acked_both (Halted cause ∷ es) fs = acked_both es fs

pub record Mute (es : List Effect) : Type 0 where
  pub sends : sent es ≡ []
  pub acks : acked es ≡ []

pub mute_both : (es fs : List Effect) → Mute es → Mute fs → Mute (es ++ fs)
mute_both es fs e f = record {
  sends = sent_both es fs ∙ (λ i. (e.sends i) ++ f.sends i);
  acks = acked_both es fs ∙ (λ i. (e.acks i) ++ f.acks i);
}

pub mute_none : Mute []
mute_none = record { sends = refl; acks = refl }

-- ---- connections

took_mute : (v : Serving) (c : ℕ) (p : Course) (took : Took) (n : ClientState) → Mute p.effects → Mute (took_by v c p (took, n)).effects
took_mute v c p took.Nothing n so_far = so_far
took_mute v c p (took.Reply bytes reads) n so_far = mute_both p.effects _ so_far (record { sends = refl; acks = refl })
took_mute v c p (took.Queues origin update) n so_far = so_far

takes_mute : (v : Serving) (c : ℕ) (p : Course) (items : List Item) → Mute p.effects → Mute (takes_all v c p items).effects
takes_mute v c p [] so_far = so_far
takes_mute v c p (i ∷ items) so_far =
    let one = item_of v.keys c (state p.common.table p.association) i in
    takes_mute v c (takes_one v c p i) items (took_mute v c p one.0 one.1 so_far)

ending_mute : (c : ℕ) (q : Course) (ending : Ending) → Mute q.effects → Mute (effects_of c q ending)
ending_mute c q Waits all = all
ending_mute c q Rests all = all
ending_mute c q (Fails fault) all = mute_both q.effects _ all (record { sends = refl; acks = refl })

goes_mute : (v : Serving) (c : ℕ) (k : Client) (s t : Clients) (told : List Effect) (queued : Option Update) → GoesOn v c k s t told queued → Mute told
goes_mute v c k s t told queued goes =
    let begin = course_from s.common k in
    let all : Mute goes.course.effects = subst (λ (q : Course). Mute q.effects) (sym goes.takes.course) (takes_mute v c begin goes.takes.items mute_none) in
    subst Mute (sym goes.effects) (ending_mute c goes.course goes.ending all)

pub resumes_mute : (v : Serving) (c : ℕ) (client : Option Client) (s t : Clients) (told : List Effect) (queued : Option Update) → Resumes v c client s t told queued → Mute told
resumes_mute v c None s t told queued tells = subst Mute (sym tells.effects) mute_none
resumes_mute v c (Some k) s t told queued goes = goes_mute v c k s t told queued goes

heard_mute : (v : Serving) (c : ℕ) (piece : List ℕ) (k : Client) (refused : Option CloseCause) (s t : Clients) (told : List Effect) (queued : Option Update)
    → HearsBy refused v c piece k s t told queued → Mute told
heard_mute v c piece k (Some cause) s t told queued tells = subst Mute (sym tells.effects) (record { sends = refl; acks = refl })
heard_mute v c piece k None s t told queued goes = goes_mute v c (fed_client k piece) s t told queued goes

pub hears_mute : (v : Serving) (c : ℕ) (piece : List ℕ) (client : Option Client) (s t : Clients) (told : List Effect) (queued : Option Update) → Hears v c piece client s t told queued → Mute told
hears_mute v c piece None s t told queued tells = subst Mute (sym tells.effects) mute_none
hears_mute v c piece (Some k) s t told queued hears = heard_mute v c piece k (refusal k.intake piece) s t told queued hears

-- ---- answers

pub record SaysAs (es fs : List Effect) : Type 0 where
  pub sends : sent fs ≡ sent es
  pub acks : acked fs ≡ acked es

pub answered_says : (answer : Option Effect) (es : List Effect) → Mute (option_to_list answer) → SaysAs es (answered_with answer es)
unfolding answered_with
answered_says answer [] m = record { sends = refl; acks = refl }
answered_says answer (Acked view place ∷ es) m = record {
  sends = sent_both (option_to_list answer) es ∙ (λ i. (m.sends i) ++ sent es);
  acks = ap (λ (acks : List (ℕ × ℕ)). (view, place) ∷ acks) (acked_both (option_to_list answer) es ∙ (λ i. (m.acks i) ++ acked es));
}
answered_says answer (Send p ∷ es) m = let r = answered_says answer es m in record { sends = ap (λ (ps : List Sent). p ∷ ps) r.sends; acks = r.acks }
answered_says answer (Opened v ∷ es) m = let r = answered_says answer es m in record { sends = r.sends; acks = r.acks }
answered_says answer (Halted cause ∷ es) m = let r = answered_says answer es m in record { sends = r.sends; acks = r.acks }
answered_says answer (Reply conn point bytes ∷ es) m = let r = answered_says answer es m in record { sends = r.sends; acks = r.acks }
answered_says answer (Closed conn cause ∷ es) m = let r = answered_says answer es m in record { sends = r.sends; acks = r.acks }
answered_says answer (Batched req point status index ∷ es) m = let r = answered_says answer es m in record { sends = r.sends; acks = r.acks }

replied_mute : (conn call_id context opnum place : ℕ) (outcome : Outcome) (association : State) (opened : Option WireHandle × Table) (s : Clients)
    → Mute (option_to_list (replied conn call_id context opnum outcome place association opened s).effect)
replied_mute conn call_id context opnum place outcome association (handle, table) s = record { sends = refl; acks = refl }

call_mute : (conn call_id context opnum : ℕ) (target : Option (List (List ℕ))) (place : ℕ) (outcome : Outcome) (client : Option Client) (s : Clients)
    → Mute (option_to_list (call_finished conn call_id context opnum target place outcome client s).effect)
call_mute conn call_id context opnum target place outcome None s = mute_none
call_mute conn call_id context opnum target place outcome (Some k) s =
    replied_mute conn call_id context opnum place outcome k.association (opened_in (group_of k.association) (opened_on target outcome) s.common.table) s

origin_mute : (origin : Origin) (req place : ℕ) (outcome : Outcome) (s : Clients) → Mute (option_to_list (finished_for origin req place outcome s).effect)
origin_mute Batch req place outcome s = record { sends = refl; acks = refl }
origin_mute (Call conn call_id context opnum target) req place outcome s = call_mute conn call_id context opnum target place outcome (client_at conn s) s

pub finished_mute : (waiting : List Origin) (req place : ℕ) (outcome : Option Outcome) (s : Clients) → Mute (option_to_list (finished waiting req place outcome s).effect)
finished_mute [] req place outcome s = mute_none
finished_mute (origin ∷ others) req place outcome s = origin_mute origin req place (unwrap_or outcome not_applied) (without_first s others)

-- ---- connections come and go

pub connected_mute : (conn : ℕ) (s : Clients) → Mute (option_to_list (connected conn s).1)
connected_mute conn s = if_cases (λ (c : Clients × Option Effect). Mute (option_to_list c.1)) (nat_lt (length s.conns) most_clients) (with_new conn s, None) (s, Some (Closed conn Limit))
    (λ e. mute_none) (λ e. record { sends = refl; acks = refl })

hung_mute : (conn : ℕ) (k : Option Client) (s : Clients) → Mute (option_to_list (hung_up conn k s).1)
hung_mute conn None s = mute_none
hung_mute conn (Some k) s = record { sends = refl; acks = refl }

pub hung_up_mute : (conn : ℕ) (s : Clients) → Mute (option_to_list (hung_up conn (client_at conn s) s).1)
hung_up_mute conn s = hung_mute conn (client_at conn s) s

pub batched_mute : (is_open : Bool) (s : Clients) → Mute (option_to_list (batched is_open s).1)
batched_mute is_open s = if_cases (λ (c : Clients × Option Effect). Mute (option_to_list c.1)) (may_batch is_open s.common) (record s { common = queued Batch s.common }, None) (s, refused_batch)
    (λ e. mute_none) (λ e. record { sends = refl; acks = refl })

closed_mute : (conns : List ℕ) → Mute (map (λ conn. Closed conn NodeStopped) conns)
closed_mute [] = mute_none
closed_mute (conn ∷ conns) = let r = closed_mute conns in record { sends = r.sends; acks = r.acks }

pub closings_mute : (conns : List (ℕ × Client)) → Mute (closings conns)
closings_mute conns = closed_mute (keys_of conns)
