-- The requests of an incarnation are those that the protocol notes.
use Rattle.std.proofs.Common.{◌≡◌, ⊎_elim, ℕ, zero, suc, ◌+◌, ◌-◌, ◌<◌, ◌≤◌, Bool, true, false, List, [], ◌∷◌, ◌++◌, length, drop, Option, Some, None, nat_lt, slice_get, refl, sym, ap, ◌∙◌, append-nil, length-append, length-drop, arith}
use Rattle.std.specs.Prelude.{option_to_list}
use Rattle.gum_messages.specs.Places.{at_place}
use Rattle.gum_messages.proofs.Placing.{place_within}
use Rattle.update_records.specs.Entry.{Entry}
use Rattle.update_records.specs.declared.update.Update.{Update}
use Rattle.cluster_rules.specs.declared.effect.Effect.{Effect}
use Rattle.cluster_laws.proofs.Applying.{lt_false, lt_true}
use Rattle.cluster_laws.proofs.Moves.{slice_get_front, slice_split}
use Rattle.client_connections.specs.Clients.{Clients}
use Rattle.client_connections.specs.Finishing.{batched}
use Rattle.client_connections.specs.Taking.{Serving}
use Rattle.cluster_node.specs.Explained.{Batches, BatchedBy, Brings, Connects, Finishes, HangsUp, Incarnation, Input, IsStepBy, Other, ResumedAt, Step, Stops, acknowledged, serving_at}

-- ---- lists

pub same_list : {A : Type 0} (xs ys : List A) → length xs ≡ length ys → ((k : ℕ) (a : A) → slice_get xs k ≡ Some a → slice_get ys k ≡ Some a) → xs ≡ ys
same_list [] [] long each = refl
same_list [] (y ∷ ys) long each = absurd (omega (arith, long))
same_list (x ∷ xs) [] long each = absurd (omega (arith, long))
same_list (x ∷ xs) (y ∷ ys) long each =
    let first : ◌≡◌ {A = Option _} (Some y) (Some x) = each zero x refl in
    let same : y ≡ x = cc in
    let rest : xs ≡ ys = same_list xs ys (omega (arith, long)) (λ k a e. each (suc k) a e) in
    λ i. sym same i ∷ rest i

drop_get : {A : Type 0} (n : ℕ) (xs : List A) (k : ℕ) → slice_get (drop n xs) k ≡ slice_get xs (n + k)
drop_get zero xs k = let e : k ≡ 0 + k = omega arith in ap (λ (j : ℕ). slice_get xs j) e
drop_get (suc n) [] k = refl
drop_get (suc n) (x ∷ xs) k = let e : suc (n + k) ≡ suc n + k = omega arith in drop_get n xs k ∙ ap (λ (j : ℕ). slice_get (x ∷ xs) j) e

-- Both lists go on from the same requests, and behind those that have passed both are the queue.
pub same_taken : (before more rest us vs queue : List Update) (passed : ℕ) → us ≡ before ++ more → vs ≡ before ++ rest → passed ≤ length before → drop passed us ≡ queue
    → ((k : ℕ) (u : Update) → slice_get queue k ≡ Some u → at_place vs (passed + (k + 1)) ≡ Some u) → length vs ≡ passed + length queue → us ≡ vs
same_taken before more rest us vs queue passed first second le queued each long = same_list us vs both (λ k a e. by k a e (nat_lt k passed) refl)
  where
    both : length us ≡ length vs
    both =
        let l : length us ≡ length before + length more = ap (λ (z : List Update). length z) first ∙ length-append before more in
        let d : length queue ≡ length us - passed = ap (λ (z : List Update). length z) (sym queued) ∙ length-drop passed us in
        omega (arith, l, d, long, le)

    by : (k : ℕ) (a : Update) → slice_get us k ≡ Some a → (c : Bool) → nat_lt k passed ≡ c → slice_get vs k ≡ Some a
    by k a e true low =
        let lt : k < passed = lt_true k passed low in
        ap (λ (z : List Update). slice_get z k) second ∙ ⊎_elim
        (λ (f : (k < length before) × (slice_get before k ≡ Some a)). slice_get_front before rest k a f.1)
        (λ (f : (length before ≤ k) × (j : ℕ) × (slice_get more j ≡ Some a)). absurd (omega (arith, f.0, lt, le)))
        (slice_split before more k a (ap (λ (z : List Update). slice_get z k) (sym first) ∙ e))
    by k a e false high =
        let ge : passed ≤ k = lt_false k passed high in
        let i : passed + (k - passed) ≡ k = omega (arith, ge) in
        let there : slice_get queue (k - passed) ≡ Some a = ap (λ (z : List Update). slice_get z (k - passed)) (sym queued) ∙ drop_get passed us (k - passed) ∙ ap (λ (j : ℕ). slice_get us j) i ∙ e in
        let place : passed + (k - passed + 1) ≡ suc k = omega (arith, ge) in
        ap (λ (j : ℕ). at_place vs j) (sym place) ∙ each (k - passed) a there

-- ---- a step takes requests, and acknowledges one that was taken before

pub record TookMore (s u : Incarnation) : Type 0 where
  pub more : List Update
  pub requests : u.requests ≡ s.requests ++ more
  pub passed : u.passed ≤ length s.requests

none_more : (s u : Incarnation) → u.requests ≡ s.requests → u.passed ≤ length s.requests → TookMore s u
none_more s u same le = record { more = []; requests = same ∙ sym (append-nil s.requests); passed = le }

resumed_more : (resumes : Option ℕ) (v : Serving) (told : List Effect) (s t u : Incarnation) → t.requests ≡ s.requests → t.passed ≤ length s.requests → ResumedAt resumes v told t u → TookMore s u
resumed_more None v told s t u same le r = none_more s u (ap (λ (z : Incarnation). z.requests) r.1 ∙ same) (let e : u.passed ≡ t.passed = ap (λ (z : Incarnation). z.passed) r.1 in omega (arith, e, le))
resumed_more (Some conn) v told s t u same le r = record {
  more = option_to_list r.queued;
  requests = ap (λ (z : Incarnation). z.requests) r.state ∙ ap (λ (z : List Update). z ++ option_to_list r.queued) same;
  passed = let e : u.passed ≡ t.passed = ap (λ (z : Incarnation). z.passed) r.state in omega (arith, e, le);
}

batched_more : (update : Update) (changed : Clients × Option Effect) (t : Step) (s u : Incarnation) → s.passed ≤ length s.requests → BatchedBy update changed t s u → TookMore s u
batched_more update (clients, None) t s u le h = record {
  more = update ∷ [];
  requests = ap (λ (z : Incarnation). z.requests) h.1;
  passed = let e : u.passed ≡ s.passed = ap (λ (z : Incarnation). z.passed) h.1 in omega (arith, e, le);
}
batched_more update (clients, Some refused) t s u le h =
    none_more s u (ap (λ (z : Incarnation). z.requests) h.1) (let e : u.passed ≡ s.passed = ap (λ (z : Incarnation). z.passed) h.1 in omega (arith, e, le))

changed_more : (s u : Incarnation) (clients : Clients) → s.passed ≤ length s.requests → u ≡ record s { clients = clients } → TookMore s u
changed_more s u clients le e = none_more s u (ap (λ (z : Incarnation). z.requests) e) (let q : u.passed ≡ s.passed = ap (λ (z : Incarnation). z.passed) e in omega (arith, q, le))

pub took_more : (input : Input) (cap : ℕ) (order : List Entry) (node inc : ℕ) (t : Step) (s u : Incarnation) → s.passed ≤ length s.requests → IsStepBy input cap order node inc t s u → TookMore s u
took_more (Connects conn) cap order node inc t s u le h = changed_more s u _ le h.1
took_more (Brings conn piece) cap order node inc t s u le h = record {
  more = option_to_list h.queued;
  requests = ap (λ (z : Incarnation). z.requests) h.state;
  passed = let e : u.passed ≡ s.passed = ap (λ (z : Incarnation). z.passed) h.state in omega (arith, e, le);
}
took_more (HangsUp conn) cap order node inc t s u le h = changed_more s u _ le h.1
took_more (Finishes view place) cap order node inc t s u le h =
    resumed_more h.end.resumes (serving_at cap order t) h.more s (acknowledged s h.end.clients) u refl (place_within s.requests (s.passed + 1) h.entry.update h.update).1 h.continues
took_more (Batches update) cap order node inc t s u le h = batched_more update (batched t.is_open s.clients) t s u le h
took_more Stops cap order node inc t s u le h = changed_more s u _ le h.1
took_more Other cap order node inc t s u le h = none_more s u (ap (λ (z : Incarnation). z.requests) h.1) (let q : u.passed ≡ s.passed = ap (λ (z : Incarnation). z.passed) h.1 in omega (arith, q, le))
