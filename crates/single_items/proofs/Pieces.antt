-- A piece of the connection's stream leads the node on.
use Rattle.std.proofs.Common.{◌≡◌, ◌⊎◌, inl, inr, ℕ, ◌≤◌, List, [], ◌++◌, Option, Some, None, refl, sym, ap, ◌∙◌, subst}
use Rattle.std.proofs.lemmas.List.{append-nil}
use Rattle.update_records.specs.Entry.{Entry}
use Rattle.update_records.specs.declared.update.Update.{Update}
use Rattle.rpc_calls.specs.declared.item.Item.{Item}
use Rattle.rpc_calls.specs.Intakes.{Kept, fed}
use Rattle.rpc_calls.proofs.HoldingLaws.{holds_fed}
use Rattle.gum_messages.specs.Messages.{Sent}
use Rattle.gum_core.specs.Updating.{last_place}
use Rattle.single_rules.specs.Single.{Single}
use Rattle.cluster_rules.specs.declared.effect.CloseCause.{CloseCause}
use Rattle.cluster_rules.specs.declared.effect.Effect.{Effect}
use Rattle.cluster_rules.specs.Nodes.{NodeState}
use Rattle.cluster_rules.specs.Worlds.{sent}
use Rattle.registry_machine.specs.Machine.{registry_machine}
use Rattle.client_connections.specs.Clients.{Client, Clients, client_at}
use Rattle.client_connections.specs.Taking.{Hears, HearsBy, Serving, closes, refusal}
use Rattle.single_items.specs.Alone.{AloneRun, alone}
use Rattle.single_items.specs.Events.{IsServedBy, PieceComes, serving_by, submitted_if, told_to}
use Rattle.single_items.specs.Promises.{IsRefused, PieceLeads}
use Rattle.single_items.specs.Standing.{Asked, Calm, FitsWay, Granting, GrownFrom, IsHeardOn, IsKeptFrom, Phase, NodeAlone, StandsAt, Stuck, Way, clients_of, left_on, logged_on, node_on, promised_on, queued_on, waiting_on}
use Rattle.single_items.proofs.Keeping.{found_one, left_one}
use Rattle.single_items.proofs.Served.{Ready, served, some_is, stand, stand_is}
use Rattle.single_items.proofs.Serving.{client_of}
use Rattle.single_items.proofs.Submitting.{IsIdle}
use Rattle.single_items.proofs.Taking.{serving_with}

fed_kept : (kept : Kept) (stream piece : List ℕ) (given : List Item) → IsKeptFrom kept stream given → IsKeptFrom (fed kept piece) (stream ++ piece) given
fed_kept kept stream piece given h = record { side = h.side; holds = holds_fed kept stream piece given h.holds }

module _ (c : ℕ) (first : AloneRun) (stream piece : List ℕ) (given : List Item) (y : NodeState registry_machine) (t : Clients) (es : List Effect) where
  abbrev Taken : AloneRun → List Entry → Type 0
  Taken r records = StandsAt c first (stream ++ piece) (stand y t (sent es)) (r.output ++ told_to c es) records

  abbrev Refused : Clients → AloneRun → List Entry → Type 0
  Refused s r records = StandsAt c first stream (stand y t (sent es)) r.output records × IsRefused c piece s es

  -- The way is idle: nothing is under way.
  module _ (way : Way) (idle : IsIdle way) (r : AloneRun) (quiet : left_on way r.single ≡ []) (logged : logged_on way r ≡ r.records) (run : r ≡ alone c first given) (grown : GrownFrom first (queued_on way) r) where
    none_sent : es ≡ [] → sent es ≡ left_on way r.single
    none_sent none = ap sent none ∙ sym quiet

    refused : (kept : Kept) (cause : CloseCause) → refusal kept piece ≡ Some cause → IsHeardOn way r None stream given → FitsWay c way r None → promised_on way r ≡ alone c first given
        → IsServedBy (HearsBy (Some cause) (serving_with r) c piece (client_of kept r) (clients_of c (waiting_on way) r (Some kept))) (node_on way r.single) y t es
        → Refused (clients_of c (waiting_on way) r (Some kept)) r (logged_on way r)
    refused kept cause because heard fits promised h =
        let none : h.update ≡ None = h.took.update in
        let node : Some (node_on way r.single) ≡ Some y = sym (ap (λ (u : Option Update). (submitted_if u (node_on way r.single)).node) none) ∙ h.node in
        let says : es ≡ closes c cause = h.effects ∙ ap (λ (u : Option Update). h.told ++ (submitted_if u (node_on way r.single)).effects) none ∙ append-nil h.told ∙ h.took.effects in (
          record {
            phase = record { run = r; way = way; intake = None };
            given = given;
            is = stand_is y (node_on way r.single) t (clients_of c (waiting_on way) r None) (sent es) (left_on way r.single)
                (sym (some_is (node_on way r.single) y node))
                (h.took.clients ∙ left_one (clients_of c (waiting_on way) r (Some kept)).common c (client_of kept r) (client_of kept r))
                (ap sent says ∙ sym quiet);
            fits = fits;
            grown = grown;
            promised = promised;
            heard = heard;
            told = refl;
            logged = refl;
          },
          inr (client_of kept r, cause, found_one (clients_of c (waiting_on way) r (Some kept)).common c (client_of kept r), because, says),
        )

    taken : (kept : Kept) → Ready c first (stream ++ piece) given way idle r (fed kept piece)
        → IsServedBy (HearsBy None (serving_with r) c piece (client_of kept r) (clients_of c (waiting_on way) r (Some kept))) (node_on way r.single) y t es
        → Taken r (logged_on way r)
    taken kept ready h =
        let z = served c first (stream ++ piece) given way idle r (fed kept piece) kept ready y t es (record { told = h.told; update = h.update; took = h.took; node = h.node; effects = h.effects }) in
        subst (λ (records : List Entry). Taken r records) (sym logged)
        (subst (λ (l : List Sent). StandsAt c first (stream ++ piece) (stand y t (l ++ sent es)) (r.output ++ told_to c es) r.records) quiet z)

    by_cause : (kept : Kept) (cause : Option CloseCause) → refusal kept piece ≡ cause → IsHeardOn way r None stream given → FitsWay c way r None → promised_on way r ≡ alone c first given → Ready c first (stream ++ piece) given way idle r (fed kept piece)
        → IsServedBy (HearsBy cause (serving_with r) c piece (client_of kept r) (clients_of c (waiting_on way) r (Some kept))) (node_on way r.single) y t es
        → Taken r (logged_on way r) ⊎ Refused (clients_of c (waiting_on way) r (Some kept)) r (logged_on way r)
    by_cause kept None because heard fits promised ready h = inl (taken kept ready h)
    by_cause kept (Some cause) because heard fits promised ready h = inr (refused kept cause because heard fits promised h)

    open_still : (kept : Kept) → IsHeardOn way r None stream given → FitsWay c way r None → promised_on way r ≡ alone c first given → Ready c first (stream ++ piece) given way idle r (fed kept piece)
        → PieceComes c piece (node_on way r.single) (clients_of c (waiting_on way) r (Some kept)) y t es → serving_by (node_on way r.single) ≡ serving_with r
        → Taken r (logged_on way r) ⊎ Refused (clients_of c (waiting_on way) r (Some kept)) r (logged_on way r)
    open_still kept heard fits promised ready h serves =
        let s : Clients = clients_of c (waiting_on way) r (Some kept) in
        by_cause kept (refusal kept piece) refl heard fits promised ready
        (subst (λ (client : Option Client). IsServedBy (Hears (serving_with r) c piece client s) (node_on way r.single) y t es) (found_one s.common c (client_of kept r))
        (subst (λ (v : Serving). IsServedBy (Hears v c piece (client_at c s) s) (node_on way r.single) y t es) serves h))

    closed_already : IsHeardOn way r None stream given → FitsWay c way r None → promised_on way r ≡ alone c first given
        → PieceComes c piece (node_on way r.single) (clients_of c (waiting_on way) r None) y t es → Refused (clients_of c (waiting_on way) r None) r (logged_on way r)
    closed_already heard fits promised h =
        let none : h.update ≡ None = h.took.update in
        let node : Some (node_on way r.single) ≡ Some y = sym (ap (λ (u : Option Update). (submitted_if u (node_on way r.single)).node) none) ∙ h.node in
        let says : es ≡ [] = h.effects ∙ ap (λ (u : Option Update). h.told ++ (submitted_if u (node_on way r.single)).effects) none ∙ append-nil h.told ∙ h.took.effects in (
          record {
            phase = record { run = r; way = way; intake = None };
            given = given;
            is = stand_is y (node_on way r.single) t (clients_of c (waiting_on way) r None) (sent es) (left_on way r.single)
                (sym (some_is (node_on way r.single) y node)) h.took.clients (none_sent says);
            fits = fits;
            grown = grown;
            promised = promised;
            heard = heard;
            told = refl;
            logged = refl;
          },
          inl (refl, says),
        )

  hears_on : (way : Way) (r : AloneRun) (intake : Option Kept) → FitsWay c way r intake → GrownFrom first (queued_on way) r → promised_on way r ≡ alone c first given → IsHeardOn way r intake stream given
      → left_on way r.single ≡ [] → PieceComes c piece (node_on way r.single) (clients_of c (waiting_on way) r intake) y t es
      → Taken r (logged_on way r) ⊎ Refused (clients_of c (waiting_on way) r intake) r (logged_on way r)
  hears_on (Calm (Some l)) r intake fits grown promised heard quiet h = absurd (cc)
  hears_on (Asked None origin u) r intake fits grown promised heard quiet h = absurd (cc)
  hears_on (Asked (Some l) origin u) r intake fits grown promised heard quiet h = absurd (cc)
  hears_on (Granting origin u) r intake fits grown promised heard quiet h = absurd (cc)
  hears_on (Calm None) r None fits grown promised heard quiet h = inr (closed_already (Calm None) tt r refl refl promised grown heard fits promised h)
  hears_on (Calm None) r (Some kept) fits grown promised heard quiet h =
      open_still (Calm None) tt r refl refl promised grown kept (inl (kept, heard.0, heard.1)) fits promised (record {
        waits = fits.1;
        behind = λ intake x single same. (tt, same ∙ fits.1);
        grown = grown;
        run = promised;
        holds = fed_kept kept stream piece given heard.0;
      }) h refl
  hears_on (Stuck head others origins) r None fits grown promised heard quiet h = inr (closed_already (Stuck head others origins) tt r refl refl promised grown heard fits promised h)
  hears_on (Stuck head others origins) r (Some kept) fits grown promised heard quiet h =
      open_still (Stuck head others origins) tt r refl refl promised grown kept (inl (kept, heard.0, heard.1)) fits promised (record {
        waits = fits.1;
        behind = λ intake x single same. (subst (λ (a : Single registry_machine). last_place ≤ a.done) (sym single) fits.0, same ∙ fits.1);
        grown = grown;
        run = promised;
        holds = fed_kept kept stream piece given heard.0;
      }) h refl

pub hears_piece : (c : ℕ) (first : AloneRun) (stream : List ℕ) (z : NodeAlone) (output : List ℕ) (records : List Entry) → StandsAt c first stream z output records → PieceLeads c first stream z output records
hears_piece c first stream z output records h piece y t es quiet heard =
    let p : Phase = h.phase in
    let here = subst (λ (x : NodeAlone). PieceComes c piece x.node x.clients y t es) h.is heard in
    let left : left_on p.way p.run.single ≡ [] = sym (ap (λ (x : NodeAlone). x.left) h.is) ∙ quiet in
    let found = hears_on c first stream piece h.given y t es p.way p.run p.intake h.fits h.grown h.promised h.heard left here in
    let r = subst (λ (x : NodeAlone). StandsAt c first (stream ++ piece) (stand y t (sent es)) (p.run.output ++ told_to c es) (logged_on p.way p.run)
    ⊎ (StandsAt c first stream (stand y t (sent es)) p.run.output (logged_on p.way p.run) × IsRefused c piece x.clients es)) (sym h.is) found in
    subst (λ (l : List ℕ). StandsAt c first (stream ++ piece) (stand y t (sent es)) (l ++ told_to c es) records ⊎ (StandsAt c first stream (stand y t (sent es)) l records × IsRefused c piece z.clients es)) (sym h.told)
    (subst (λ (l : List Entry). StandsAt c first (stream ++ piece) (stand y t (sent es)) (p.run.output ++ told_to c es) l ⊎ (StandsAt c first stream (stand y t (sent es)) p.run.output l × IsRefused c piece z.clients es)) (sym h.logged) r)
