-- A node that was started, and installs a view of itself alone.
use Rattle.std.proofs.Common.{◌≡◌, ◌≢◌, ◌↔◌, ℕ, ◌<◌, Bool, List, [], ◌∷◌, MatchBool, Option, Some, None, IfSome, Result, Ok, Err, nat_eq, refl, sym, ap, ◌∙◌, subst}
use Rattle.disk_core.specs.Views.{DiskView}
use Rattle.gum_messages.specs.declared.view.View.{View}
use Rattle.quorum_log.specs.Logs.{LogValue}
use Rattle.quorum_log.proofs.Unchanged.{opening_keeps}
use Rattle.update_records.specs.Entry.{Entry}
use Rattle.record_log.specs.declared.recovered.Recovered.{Recovered}
use Rattle.record_log.specs.declared.fault.RecordFault.{RecordFault}
use Rattle.record_log.specs.declared.fault.RecordFault.TheVariants as records
use Rattle.record_log.specs.Opening.{OpensTo}
use Rattle.cluster_rules.specs.declared.effect.Effect.{Effect}
use Rattle.cluster_rules.specs.declared.effect.Effect.TheVariants.{Halted, Opened}
use Rattle.cluster_rules.specs.declared.effect.HaltCause.{HaltCause}
use Rattle.cluster_rules.specs.Nodes.{NodeState, Out, becomes, nothing}
use Rattle.cluster_rules.specs.Joins.{entered}
use Rattle.cluster_rules.specs.Worlds.{acked}
use Rattle.registry_machine.specs.Machine.{registry_machine, replicated}
use Rattle.member_rules.specs.declared.told.Told.{Told}
use Rattle.cluster_member.specs.declared.stop.Stop.{Stop}
use Rattle.cluster_member.specs.declared.stop.Stop.TheVariants as stop
use Rattle.cluster_member.specs.Events.{Comes, Enters, Installs, Recovers, log_opened, recovered_as}
use Rattle.cluster_member.specs.States.{MemberState}
use Rattle.client_connections.specs.Clients.{no_clients}
use Rattle.cluster_node.specs.Acting.{Acts, Follows}
use Rattle.cluster_node.specs.States.{RunningNode}
use Rattle.single_rules.specs.Single.{IsLastOf, IsSound, Single, at_rest, view_of_one}
use Rattle.single_rules.proofs.Comparisons.{same}
use Rattle.single_rules.proofs.Opens.{opens_alone, opens_sound, takes_view_of_one}
use Rattle.single_items.specs.Promises.{IsUnconnected}
use Rattle.single_items.specs.Standing.{NodeAlone}
use Rattle.single_items.proofs.Connecting.{opens_unconnected}
use Rattle.context_handles.specs.Table as handles
use Rattle.single_node.specs.Opening.{NotOpened, OnlyClaims, OpenFails, OpenLeads, OpenedAlone, cause_for, offering_in, opened_with, started_node}
use Rattle.single_node.specs.Standing.{alone_node}

-- It takes the view, and is its locker.
recovers : (node inc stamp number : ℕ) (v w : DiskView) (r : Result Told Stop) (m : MemberState) → 0 < inc → 0 < number
    → Installs v (started_node node inc stamp).member (view_of_one number node inc) r m w → Recovers v (started_node node inc stamp).member (view_of_one number node inc) r m w
recovers node inc stamp number v w r m i n h =
    let x : MemberState = (started_node node inc stamp).member in
    let view : View = view_of_one number node inc in
    let here : Type 0 = Recovers v x view r m w in
    let there : Type 0 = Enters v (nothing (entered view x.rules)) None r m w in
    let taken = subst (λ (b : Bool). MatchBool b (MatchBool (nat_eq node node) here there) (Enters v (nothing x.rules) x.log r m w)) (takes_view_of_one registry_machine node inc stamp number i n) h in
    subst (λ (b : Bool). MatchBool b here there) (same node) taken

last_in : (last : Option Entry) (count : ℕ) → IfSome last (λ e. e.place ≡ count) → ((last ≡ None) ↔ (count ≡ 0)) → IsLastOf last count
last_in None count at none = none.0 refl
last_in (Some e) count at none = at

module _ (node inc stamp number : ℕ) (v w : DiskView) (es : List Effect) (i : 0 < inc) (n : 0 < number) where
  abbrev Before : MemberState
  Before = (started_node node inc stamp).member

  abbrev Of : View
  Of = view_of_one number node inc

  abbrev Out_of : Result (LogValue × Recovered) RecordFault → Out registry_machine
  Out_of opened = recovered_as (entered Of Before.rules) opened

  claims : (r : Result Told Stop) (m : MemberState) → Recovers v Before Of r m w → OnlyClaims number v w
  claims r m h = record { seen = λ told. opening_keeps number v w h.answer h.calls told; moments = h.any_moment }

  -- ---- it opened

  opened_by : OnlyClaims number v w → (y : RunningNode) (told : Told) (m : MemberState) (opened : Result (LogValue × Recovered) RecordFault) → OpensTo number v opened w → Comes (Out_of opened) (Ok told) m.rules → m.log ≡ log_opened opened
      → Acts (acked told.effects) 0 m (no_clients node) told y.member y.clients es → OpenedAlone node inc stamp number v y w es
  opened_by still y told m (Err records.Failed) opens comes kept acts = let no : ◌≡◌ {A = Option (NodeState registry_machine)} None (Some m.rules) = comes.node in absurd (cc)
  opened_by still y told m (Err (records.Fenced held)) opens comes kept acts = let no : ◌≡◌ {A = Option (NodeState registry_machine)} None (Some m.rules) = comes.node in absurd (cc)
  opened_by still y told m (Err (records.Image place)) opens comes kept acts = let no : ◌≡◌ {A = Option (NodeState registry_machine)} None (Some m.rules) = comes.node in absurd (cc)
  opened_by still y told m (Err records.Memory) opens comes kept acts = let no : ◌≡◌ {A = Option (NodeState registry_machine)} None (Some m.rules) = comes.node in absurd (cc)
  opened_by still y told m (Ok (log, r)) opens comes kept acts =
      let a : Single registry_machine = opened_with node inc number stamp r in
      let out : Out_of (Ok (log, r)) ≡ becomes (at_rest a) (Opened number ∷ []) = opens_alone node inc stamp number (offering_in r) (replicated r.registry) i n in
      let says : told.effects ≡ Opened number ∷ [] = sym comes.effects ∙ ap (λ (o : Out registry_machine). o.effects) out in
      let rest : Some (at_rest a) ≡ Some m.rules = sym (ap (λ (o : Out registry_machine). o.node) out) ∙ comes.node in
      let is : at_rest a ≡ m.rules = cc in
      let f = subst (λ (l : List Effect). Acts (acked l) 0 m (no_clients node) told y.member y.clients es) says acts in
      let sound : IsSound a = opens_sound node inc stamp number (offering_in r) (replicated r.registry) i (last_in r.last r.count opens.recovered.last_place opens.recovered.no_last) in
      let there : ◌≡◌ {A = NodeAlone} (record { node = at_rest a; clients = no_clients node; left = [] }) (alone_node y []) =
      λ j. record { node = (is ∙ sym (ap (λ (q : MemberState). q.rules) f.0)) j; clients = sym f.1 j; left = [] } in
      record {
        log = log;
        recovered = r;
        opened = opens;
        claims = still;
        has = ap (λ (q : MemberState). q.log) f.0 ∙ kept;
        unconnected = subst (λ (z : NodeAlone). IsUnconnected z a (handles.fresh node) 0) there (opens_unconnected a sound refl);
        effects = f.2 ∙ says;
      }

  opened_as : (y : RunningNode) (came : Result Told Stop) (m : MemberState) → Recovers v Before Of came m w → Follows came 0 m (no_clients node) (Some y) es → OpenedAlone node inc stamp number v y w es
  opened_as y (Ok told) m r follows = opened_by (claims (Ok told) m r) y told m r.opened r.opens r.comes r.kept follows
  opened_as y (Err (stop.Halted cause)) m r follows = absurd follows
  opened_as y (Err stop.Memory) m r follows = absurd follows

  -- ---- it halted

  cause_of_effects : (one other : HaltCause) → ◌≡◌ {A = List Effect} (Halted one ∷ []) (Halted other ∷ []) → other ≡ one
  cause_of_effects one other e = cc

  failed_with : OnlyClaims number v w → (fault : RecordFault) (one cause : HaltCause) → fault ≢ records.Memory → OpensTo number v (Err fault) w → cause_for fault ≡ one → ◌≡◌ {A = List Effect} (Halted one ∷ []) (Halted cause ∷ []) → es ≡ Halted cause ∷ [] → NotOpened number v w es
  failed_with still fault one cause had opens is e says = record {
    fault = fault;
    had_memory = had;
    opens = opens;
    claims = still;
    effects = says ∙ ap (λ (c : HaltCause). Halted c ∷ []) (cause_of_effects one cause e ∙ sym is);
  }

  failed_by : OnlyClaims number v w → (cause : HaltCause) (m : MemberState) (opened : Result (LogValue × Recovered) RecordFault) → opened ≢ Err records.Memory → OpensTo number v opened w → Comes (Out_of opened) (Err (stop.Halted cause)) m.rules → es ≡ Halted cause ∷ []
      → NotOpened number v w es
  failed_by still cause m (Err records.Failed) had opens comes says = failed_with still records.Failed _ cause (λ e. absurd (cc)) opens refl comes.1 says
  failed_by still cause m (Err (records.Fenced held)) had opens comes says = failed_with still (records.Fenced held) _ cause (λ e. absurd (cc)) opens refl comes.1 says
  failed_by still cause m (Err (records.Image place)) had opens comes says = failed_with still (records.Image place) _ cause (λ e. absurd (cc)) opens refl comes.1 says
  failed_by still cause m (Err records.Memory) had opens comes says = absurd (had refl)
  failed_by still cause m (Ok (log, r)) had opens comes says =
      let out : Out_of (Ok (log, r)) ≡ becomes (at_rest (opened_with node inc number stamp r)) (Opened number ∷ []) = opens_alone node inc stamp number (offering_in r) (replicated r.registry) i n in
      let no : Some (at_rest (opened_with node inc number stamp r)) ≡ None = sym (ap (λ (o : Out registry_machine). o.node) out) ∙ comes.0 in
      absurd (cc)

  failed_as : (came : Result Told Stop) (m : MemberState) → Recovers v Before Of came m w → Follows came 0 m (no_clients node) None es → NotOpened number v w es
  failed_as (Ok told) m r follows = absurd follows
  failed_as (Err (stop.Halted cause)) m r follows =
      failed_by (claims (Err (stop.Halted cause)) m r) cause m r.opened (λ out. let no : ◌≡◌ {A = Result Told Stop} (Err (stop.Halted cause)) (Err stop.Memory) = r.memory out in absurd (cc)) r.opens r.comes follows
  failed_as (Err stop.Memory) m r follows = absurd follows

pub open_leads : OpenLeads
open_leads node inc stamp number v y w es i n h =
    opened_as node inc stamp number v w es i n y h.came h.member (recovers node inc stamp number v w h.came h.member i n h.event) h.follows

pub open_fails : OpenFails
open_fails node inc stamp number v w es i n h =
    failed_as node inc stamp number v w es i n h.came h.member (recovers node inc stamp number v w h.came h.member i n h.event) h.follows
