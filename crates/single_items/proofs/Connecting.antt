-- Connections come and go while no message is under way.
use Rattle.std.proofs.Common.{◌≡◌, inl, ℕ, ◌+◌, ◌≤◌, false, List, [], length, Option, Some, None, refl, sym, ap, ◌∙◌, subst, arith}
use Rattle.std.specs.List.{list_any}
use Rattle.update_records.specs.Entry.{Entry}
use Rattle.rpc_calls.specs.declared.item.Item.{Item}
use Rattle.rpc_calls.specs.declared.side.Side.TheVariants.{Server}
use Rattle.rpc_calls.specs.Intakes.{Kept, fresh, no_fault}
use Rattle.rpc_calls.specs.Streams.{Items, Runs}
use Rattle.rpc_calls.proofs.HoldingLaws.{holds_nothing}
use Rattle.context_handles.specs.Table.{Table}
use Rattle.registry_machine.specs.Machine.{registry_machine}
use Rattle.client_connections.specs.Items.{most_taken}
use Rattle.client_connections.specs.Clients.{Client, Clients, client_at, has_waiting, hung_up, waits_at, with_new}
use Rattle.single_rules.proofs.Opens.{recovers_order, recovers_sound}
use Rattle.single_rules.specs.Single.{IsSound, Single}
use Rattle.single_items.specs.Alone.{AloneRun, begins_alone, opened_alone}
use Rattle.single_items.specs.Promises.{ConnectsAlone, HangingUpLeads, IsFullIf, OpensOverOrder, OpensUnconnected}
use Rattle.single_items.specs.Standing.{Asked, Calm, FitsWay, Granting, GrownFrom, IsHeardOn, NodeAlone, StandsAt, Stuck, Way, clients_of, left_on, node_on, queued_on, waiting_on}
use Rattle.single_items.proofs.Keeping.{found_one, left_one}
use Rattle.single_items.proofs.Serving.{client_of}

pub opens_unconnected : OpensUnconnected
opens_unconnected a sound none = record {
  way = Calm None;
  left = refl;
  is = refl;
  full = tt;
  sound = sound;
  requests = omega (arith, none);
  items = omega arith;
}

pub opens_over_order : OpensOverOrder
opens_over_order cap stamp order placed =
    let a : Single registry_machine = (opened_alone cap order stamp).single in
    (opens_unconnected a (recovers_sound 1 (length order + 1) stamp 1 cap order (omega arith) placed) refl, recovers_order 1 (length order + 1) stamp 1 cap order)

-- A stream without bytes has no item.
nothing_comes : Items Server [] [] no_fault
unfolding Runs
nothing_comes = ([], None, [], record { whole = refl; runs = (refl, refl) }, tt)

begun_grown : (a : Single registry_machine) (handles : Table) (taken queued : ℕ) → IsSound a → a.passed + queued ≤ taken → taken ≤ most_taken
    → GrownFrom (begins_alone a handles taken) queued (begins_alone a handles taken)
begun_grown a handles taken queued sound requests items = record { sound = sound; updates = []; single = refl; records = refl; requests = requests; items = items }

module _ (c : ℕ) (a : Single registry_machine) (handles : Table) (taken : ℕ) where
  abbrev First : AloneRun
  First = begins_alone a handles taken

  abbrev At : Way → NodeAlone
  At way = record { node = node_on way a; clients = record { common = record { table = handles; waiting = waiting_on way; taken = taken }; conns = [] }; left = [] }

  begins_at : (way : Way) → IsFullIf way a → left_on way a ≡ [] → IsSound a → a.passed + queued_on way ≤ taken → taken ≤ most_taken → list_any (waits_at c) (waiting_on way) ≡ false
      → StandsAt c First [] (record (At way) { clients = with_new c (At way).clients }) [] []
  begins_at (Calm None) full left sound requests items free = record {
    phase = record { run = First; way = Calm None; intake = Some (fresh Server) };
    given = [];
    is = refl;
    fits = (tt, refl);
    grown = begun_grown a handles taken 0 sound requests items;
    promised = refl;
    heard = (record { side = refl; holds = holds_nothing Server }, inl nothing_comes);
    told = refl;
    logged = refl;
  }
  begins_at (Stuck head others origins) full left sound requests items free = record {
    phase = record { run = First; way = Stuck head others origins; intake = Some (fresh Server) };
    given = [];
    is = refl;
    fits = (full, sym free);
    grown = begun_grown a handles taken (queued_on (Stuck head others origins)) sound requests items;
    promised = refl;
    heard = (record { side = refl; holds = holds_nothing Server }, inl nothing_comes);
    told = refl;
    logged = refl;
  }
  begins_at (Calm (Some l)) full left sound requests items free = absurd (cc)
  begins_at (Asked None origin u) full left sound requests items free = absurd (cc)
  begins_at (Asked (Some l) origin u) full left sound requests items free = absurd (cc)
  begins_at (Granting origin u) full left sound requests items free = absurd (cc)

pub connects_alone : ConnectsAlone
connects_alone c z a handles taken free unwaited =
    let none : list_any (waits_at c) (waiting_on free.way) ≡ false = sym (ap (λ (x : NodeAlone). has_waiting c x.clients.common) free.is) ∙ unwaited in
    subst (λ (x : NodeAlone). StandsAt c (begins_alone a handles taken) [] (record x { clients = with_new c x.clients }) [] []) (sym free.is)
    (begins_at c a handles taken free.way free.full free.left free.sound free.requests free.items none)

module _ (c : ℕ) (first : AloneRun) (stream : List ℕ) (given : List Item) where
  hung : (r : AloneRun) (way : Way) (intake : Option Kept) → (hung_up c (client_at c (clients_of c (waiting_on way) r intake)) (clients_of c (waiting_on way) r intake)).0 ≡ clients_of c (waiting_on way) r None
  hung r way None = refl
  hung r way (Some kept) =
      let s : Clients = clients_of c (waiting_on way) r (Some kept) in
      ap (λ (client : Option Client). (hung_up c client s).0) (found_one s.common c (client_of kept r)) ∙ left_one s.common c (client_of kept r) (client_of kept r)

  -- What is kept of the stream of a connection that was open, or was not.
  gone_heard : (way : Way) (r : AloneRun) (intake : Option Kept) → left_on way r.single ≡ [] → IsHeardOn way r intake stream given → IsHeardOn way r None stream given
  gone_heard (Calm None) r None left h = h
  gone_heard (Calm None) r (Some kept) left h = inl (kept, h.0, h.1)
  gone_heard (Stuck head others origins) r None left h = h
  gone_heard (Stuck head others origins) r (Some kept) left h = inl (kept, h.0, h.1)
  gone_heard (Calm (Some l)) r intake left h = absurd (cc)
  gone_heard (Asked None origin u) r intake left h = absurd (cc)
  gone_heard (Asked (Some l) origin u) r intake left h = absurd (cc)
  gone_heard (Granting origin u) r intake left h = absurd (cc)

  gone_fits : (way : Way) (r : AloneRun) (intake : Option Kept) → left_on way r.single ≡ [] → FitsWay c way r intake → FitsWay c way r None
  gone_fits (Calm None) r intake left h = h
  gone_fits (Stuck head others origins) r intake left h = h
  gone_fits (Calm (Some l)) r intake left h = absurd (cc)
  gone_fits (Asked None origin u) r intake left h = absurd (cc)
  gone_fits (Asked (Some l) origin u) r intake left h = absurd (cc)
  gone_fits (Granting origin u) r intake left h = absurd (cc)

pub hangs_up : (c : ℕ) (first : AloneRun) (stream : List ℕ) (z : NodeAlone) (output : List ℕ) (records : List Entry) → StandsAt c first stream z output records → HangingUpLeads c first stream z output records
hangs_up c first stream z output records h quiet =
    let w : Way = h.phase.way in
    let r : AloneRun = h.phase.run in
    let left : left_on w r.single ≡ [] = sym (ap (λ (x : NodeAlone). x.left) h.is) ∙ quiet in
    record {
      phase = record { run = r; way = w; intake = None };
      given = h.given;
      is = ap (λ (x : NodeAlone). record x { clients = (hung_up c (client_at c x.clients) x.clients).0 }) h.is
          ∙ ap (λ (s : Clients). record { node = node_on w r.single; clients = s; left = left_on w r.single }) (hung c first stream h.given r w h.phase.intake);
      fits = gone_fits c first stream h.given w r h.phase.intake left h.fits;
      grown = h.grown;
      promised = h.promised;
      heard = gone_heard c first stream h.given w r h.phase.intake left h.heard;
      told = h.told;
      logged = h.logged;
    }
