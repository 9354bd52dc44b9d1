-- A connection that was put back is found, and can be taken out.
use Rattle.std.proofs.Common.{◌≡◌, ℕ, Bool, true, false, cond, List, [], ◌∷◌, ◌++◌, Option, Some, None, refl, sym, ap, ◌∙◌, subst}
use Rattle.std.specs.BTreeMap.{is_at}
use Rattle.std.specs.Map.{lookup, remove_entry, set_value}
use Rattle.std.specs.Ordering.{nat_cmp}
use Rattle.update_records.specs.declared.update.Update.{Update}
use Rattle.cluster_rules.specs.declared.effect.CloseCause.{CloseCause}
use Rattle.cluster_rules.specs.declared.effect.Effect.{Effect}
use Rattle.cluster_rules.specs.declared.effect.Effect.TheVariants.{Closed}
use Rattle.client_connections.specs.declared.connections.Heard.TheVariants.{Refused, Went}
use Rattle.client_connections.specs.declared.taken.Taken.{Taken}
use Rattle.client_connections.specs.declared.took.Ending.{Ending}
use Rattle.client_connections.specs.declared.took.Ending.TheVariants.{Fails, Rests, Waits}
use Rattle.client_connections.specs.Clients.{Client, Clients, Common, client_at, left_by, left_if_open, put_back}
use Rattle.client_connections.specs.Courses.{EndsBy, GoesSoFar, GoneOn, HearsSoFar, IsClosed, course_of}
use Rattle.client_connections.specs.Taking.{Course, GoesOn, Hears, HearsBy, Resumes, Serving, Takes, course_from, fed_client, refusal}

abbrev Conns : Type 0
Conns = List (ℕ × Client)

-- ---- lists of entries

found_at : (test : ℕ → Bool) (e : ℕ × Client) (es : Conns) (w k : Client) (here : Bool) → test e.0 ≡ here
    → (lookup test es ≡ Some k → lookup test (set_value test es w) ≡ Some w)
    → cond here (Some e.1) (lookup test es) ≡ Some k → lookup test (cond here ((e.0, w) ∷ es) (e ∷ set_value test es w)) ≡ Some w
found_at test e es w k true here behind found = rw here refl
found_at test e es w k false here behind found = rw here (behind found)

pub found_again : (test : ℕ → Bool) (es : Conns) (w k : Client) → lookup test es ≡ Some k → lookup test (set_value test es w) ≡ Some w
found_again test [] w k found = absurd (cc found)
found_again test (e ∷ es) w k found = found_at test e es w k (test e.0) refl (found_again test es w k) found

removed_at : (test : ℕ → Bool) (e : ℕ × Client) (es : Conns) (w : Client) (here : Bool) → test e.0 ≡ here
    → remove_entry test (set_value test es w) ≡ remove_entry test es
    → remove_entry test (cond here ((e.0, w) ∷ es) (e ∷ set_value test es w)) ≡ cond here es (e ∷ remove_entry test es)
removed_at test e es w true here behind = rw here refl
removed_at test e es w false here behind = rw here (ap (λ (others : Conns). e ∷ others) behind)

pub removed_again : (test : ℕ → Bool) (es : Conns) (w : Client) → remove_entry test (set_value test es w) ≡ remove_entry test es
removed_again test [] w = refl
removed_again test (e ∷ es) w = removed_at test e es w (test e.0) refl (removed_again test es w)

-- ---- a connection that was put back

put_is_there : (c : ℕ) (common : Common) (w k : Client) (s : Clients) → client_at c s ≡ Some k → client_at c (put_back c common w s) ≡ Some w
put_is_there c common w k s found = found_again (is_at (nat_cmp c)) s.conns w k found

-- What is closed was put back.
closed_put : (c : ℕ) (common : Common) (w k : Client) (s m t : Clients) → client_at c s ≡ Some k → m ≡ put_back c common w s
    → t ≡ left_if_open c (client_at c m) m → t ≡ left_by c w (put_back c common w s)
closed_put c common w k s m t found put left =
    let there : client_at c m ≡ Some w = ap (client_at c) put ∙ put_is_there c common w k s found in
    left ∙ ap (λ (client : Option Client). left_if_open c client m) there ∙ ap (left_by c w) put

left_again : (c : ℕ) (k : Client) (s : Clients) → left_by c k (put_back c s.common k s) ≡ left_by c k s
left_again c k s =
    let same = removed_again (is_at (nat_cmp c)) s.conns k in
    ap (λ (conns : Conns). record { common = (left_by c k s).common; conns = conns }) same

-- ---- what follows of the items

from_new : (common : Common) (k : Client) (taken : Taken) → taken.effects.items ≡ [] → taken.update ≡ None → course_of common k.association taken ≡ course_from common k
from_new common k taken none unqueued =
    ap (λ (effects : List Effect). record { common = common; association = k.association; effects = effects; update = taken.update }) none
    ∙ ap (λ (update : Option Update). record { common = common; association = k.association; effects = []; update = update }) unqueued

pub goes : (v : Serving) (c : ℕ) (k was : Client) (s m t : Clients) (e0 e1 e2 : Taken) (ending : Ending)
    → client_at c s ≡ Some was → e0.effects.items ≡ [] → e0.update ≡ None → GoneOn v c k s m e0 e1 ending → EndsBy c ending m t e1 e2
    → GoesOn v c k s t e2.effects.items e2.update
goes v c k was s m t e0 e1 e2 Waits found none unqueued gone (same, told) = record {
  intake = gone.client.intake;
  ending = Waits;
  course = course_of m.common gone.client.association e1;
  takes = subst (λ (p : Course). Takes v c k.intake gone.client.intake p (course_of m.common gone.client.association e1) Waits) (from_new s.common k e0 none unqueued) gone.takes;
  clients = same ∙ gone.clients;
  effects = ap (λ (taken : Taken). taken.effects.items) told;
  update = ap (λ (taken : Taken). taken.update) told;
}
goes v c k was s m t e0 e1 e2 Rests found none unqueued gone (same, told) = record {
  intake = gone.client.intake;
  ending = Rests;
  course = course_of m.common gone.client.association e1;
  takes = subst (λ (p : Course). Takes v c k.intake gone.client.intake p (course_of m.common gone.client.association e1) Rests) (from_new s.common k e0 none unqueued) gone.takes;
  clients = same ∙ gone.clients;
  effects = ap (λ (taken : Taken). taken.effects.items) told;
  update = ap (λ (taken : Taken). taken.update) told;
}
goes v c k was s m t e0 e1 e2 (Fails fault) found none unqueued gone closed = record {
  intake = gone.client.intake;
  ending = Fails fault;
  course = course_of m.common gone.client.association e1;
  takes = subst (λ (p : Course). Takes v c k.intake gone.client.intake p (course_of m.common gone.client.association e1) (Fails fault)) (from_new s.common k e0 none unqueued) gone.takes;
  clients = closed_put c m.common gone.client was s m t found gone.clients closed.clients;
  effects = closed.effects;
  update = closed.update;
}

pub resumes : (v : Serving) (c : ℕ) (s m t : Clients) (e0 e1 e2 : Taken) (ending : Ending) (client : Option Client)
    → client_at c s ≡ client → e0.effects.items ≡ [] → e0.update ≡ None → GoesSoFar v c client s m e0 e1 (Some ending) → EndsBy c ending m t e1 e2
    → Resumes v c client s t e2.effects.items e2.update
resumes v c s m t e0 e1 e2 ending None found none unqueued gone ends = absurd gone
resumes v c s m t e0 e1 e2 ending (Some k) found none unqueued gone ends = goes v c k k s m t e0 e1 e2 ending found none unqueued gone ends

pub resumes_not : (v : Serving) (c : ℕ) (s t : Clients) (e0 e1 : Taken) (client : Option Client)
    → e0.effects.items ≡ [] → e0.update ≡ None → GoesSoFar v c client s t e0 e1 None → Resumes v c client s t e1.effects.items e1.update
resumes_not v c s t e0 e1 None none unqueued (same, told) = record {
  clients = same;
  effects = ap (λ (taken : Taken). taken.effects.items) told ∙ none;
  update = ap (λ (taken : Taken). taken.update) told ∙ unqueued;
}
resumes_not v c s t e0 e1 (Some k) none unqueued gone = absurd gone

-- ---- what follows of a piece

by_refusal : (v : Serving) (c : ℕ) (piece : List ℕ) (k : Client) (s t : Clients) (taken : Taken) (refused : Option CloseCause) → refusal k.intake piece ≡ refused
    → HearsBy refused v c piece k s t taken.effects.items taken.update → Hears v c piece (Some k) s t taken.effects.items taken.update
by_refusal v c piece k s t taken refused is heard = subst (λ (cause : Option CloseCause). HearsBy cause v c piece k s t taken.effects.items taken.update) (sym is) heard

pub hears_not : (v : Serving) (c : ℕ) (piece : List ℕ) (s t : Clients) (e0 e1 : Taken) (client : Option Client)
    → e0.effects.items ≡ [] → e0.update ≡ None → HearsSoFar client None v c piece s t e0 e1 → Hears v c piece client s t e1.effects.items e1.update
hears_not v c piece s t e0 e1 None none unqueued (same, told) = record {
  clients = same;
  effects = ap (λ (taken : Taken). taken.effects.items) told ∙ none;
  update = ap (λ (taken : Taken). taken.update) told ∙ unqueued;
}
hears_not v c piece s t e0 e1 (Some k) none unqueued heard = absurd heard

pub hears_refused : (v : Serving) (c : ℕ) (piece : List ℕ) (s m t : Clients) (e0 e1 e2 : Taken) (cause : CloseCause) (client : Option Client)
    → client_at c s ≡ client → e0.effects.items ≡ [] → e0.update ≡ None → HearsSoFar client (Some (Refused cause)) v c piece s m e0 e1 → IsClosed c cause m t e1 e2
    → Hears v c piece client s t e2.effects.items e2.update
hears_refused v c piece s m t e0 e1 e2 cause None found none unqueued heard closed = absurd heard
hears_refused v c piece s m t e0 e1 e2 cause (Some k) found none unqueued (refused, put, told) closed =
    by_refusal v c piece k s t e2 (Some cause) refused (record {
      clients = closed_put c s.common k k s m t found put closed.clients ∙ left_again c k s;
      effects = closed.effects ∙ ap (λ (effects : List Effect). effects ++ Closed c cause ∷ []) (ap (λ (taken : Taken). taken.effects.items) told ∙ none);
      update = closed.update ∙ ap (λ (taken : Taken). taken.update) told ∙ unqueued;
    })

pub hears_on : (v : Serving) (c : ℕ) (piece : List ℕ) (s m t : Clients) (e0 e1 e2 : Taken) (ending : Ending) (client : Option Client)
    → client_at c s ≡ client → e0.effects.items ≡ [] → e0.update ≡ None → HearsSoFar client (Some (Went ending)) v c piece s m e0 e1 → EndsBy c ending m t e1 e2
    → Hears v c piece client s t e2.effects.items e2.update
hears_on v c piece s m t e0 e1 e2 ending None found none unqueued heard ends = absurd heard
hears_on v c piece s m t e0 e1 e2 ending (Some k) found none unqueued (refused, gone) ends =
    by_refusal v c piece k s t e2 None refused (goes v c (fed_client k piece) k s m t e0 e1 e2 ending found none unqueued gone ends)

-- ---- a connection that is open went on, and was put back

pub went_on : (v : Serving) (c : ℕ) (k w : Client) (s t : Clients) (e0 e1 : Taken) (ending : Ending) → client_at c s ≡ Some k
    → Takes v c k.intake w.intake (course_of s.common k.association e0) (course_of t.common w.association e1) ending → t ≡ put_back c t.common w s
    → GoesSoFar v c (client_at c s) s t e0 e1 (Some ending)
went_on v c k w s t e0 e1 ending is takes put =
    subst (λ (client : Option Client). GoesSoFar v c client s t e0 e1 (Some ending)) (sym is) (record { client = w; takes = takes; clients = put })

pub heard_on : (v : Serving) (c : ℕ) (piece : List ℕ) (k w : Client) (s t : Clients) (e0 e1 : Taken) (ending : Ending) → client_at c s ≡ Some k → refusal k.intake piece ≡ None
    → Takes v c (fed_client k piece).intake w.intake (course_of s.common k.association e0) (course_of t.common w.association e1) ending → t ≡ put_back c t.common w s
    → HearsSoFar (client_at c s) (Some (Went ending)) v c piece s t e0 e1
heard_on v c piece k w s t e0 e1 ending is fits takes put =
    subst (λ (client : Option Client). HearsSoFar client (Some (Went ending)) v c piece s t e0 e1) (sym is) (fits, record { client = w; takes = takes; clients = put })
