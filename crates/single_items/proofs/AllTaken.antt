-- What it says that the node stands where Alone says.
use Rattle.std.proofs.Common.{◌≡◌, ◌⊎◌, inl, inr, ℕ, Bool, false, if◌then◌else◌, List, [], ◌∷◌, Option, Some, None, refl, sym, ap, ◌∙◌, subst}
use Rattle.update_records.specs.Entry.{Entry}
use Rattle.rpc_calls.specs.declared.intake_fault.IntakeFault.{IntakeFault}
use Rattle.rpc_calls.specs.declared.item.Item.{Item}
use Rattle.rpc_calls.specs.declared.side.Side.{Side}
use Rattle.rpc_calls.specs.declared.side.Side.TheVariants.{Server}
use Rattle.rpc_calls.specs.Intakes.{Kept}
use Rattle.rpc_calls.specs.Streams.{Items}
use Rattle.rpc_calls.proofs.StreamUniqueness.{given_front, items_agree}
use Rattle.gum_messages.specs.Messages.{Sent}
use Rattle.client_connections.specs.Clients.{Client}
use Rattle.single_items.proofs.Serving.{client_of}
use Rattle.client_connections.specs.Items.{item_of}
use Rattle.single_items.specs.Alone.{AloneRun, alone, handles_behind, item_alone, takes_alone, took_alone}
use Rattle.single_items.specs.Promises.{EndsUnconnected, IsUnconnected, IsFullIf, TellsAlone}
use Rattle.single_items.specs.Standing.{Asked, Calm, FitsWay, Granting, IsAllTaken, IsHeardOn, IsKeptFrom, NodeAlone, StandsAt, Stuck, Way, clients_of, left_on, logged_on, node_on, promised_on, queued_on, node_alone, waiting_on}
use Rattle.single_items.proofs.Hearing.{sound_now}
use Rattle.single_items.proofs.Served.{alone_both}

-- Alone takes none of these.
takes_none : (c : ℕ) (r : AloneRun) (items : List Item) → takes_alone r ≡ false → alone c r items ≡ r
takes_none c r [] shut = refl
takes_none c r (i ∷ items) shut =
    let e : item_alone c r i ≡ r = ap (λ (b : Bool). if b then took_alone (item_of (Some r.single.registry.keys) c r.client i) r else r) shut in
    ap (λ (s : AloneRun). alone c s items) e ∙ takes_none c r items shut

module _ (c : ℕ) (first : AloneRun) (stream : List ℕ) (given all : List Item) (fault : Option IntakeFault) (items : Items Server stream all fault) where
  -- Those that were given are all, or Alone takes none of the others.
  all_taken : (kept : Kept) → IsKeptFrom kept stream given → (r : AloneRun) → r ≡ alone c first given → IsAllTaken stream given r → alone c first all ≡ r
  all_taken kept h r run (inl whole) = ap (alone c first) (sym (items_agree Server stream given all None fault whole items).0) ∙ sym run
  all_taken kept h r run (inr shut) =
      let front = given_front kept stream given all fault h.holds (subst (λ (side : Side). Items side stream all fault) (sym h.side) items) in
      ap (alone c first) front.1 ∙ sym (alone_both c first given front.0) ∙ ap (λ (s : AloneRun). alone c s front.0) (sym run) ∙ takes_none c r front.0 shut

  gone_taken : (r : AloneRun) → r ≡ alone c first given → ((intake : Kept) × IsKeptFrom intake stream given × IsAllTaken stream given r) ⊎ ((stop : IntakeFault) × Items Server stream given (Some stop)) → alone c first all ≡ r
  gone_taken r run (inl h) = all_taken h.0 h.1 r run h.2
  gone_taken r run (inr h) = ap (alone c first) (sym (items_agree Server stream given all (Some h.0) fault h.1 items).0) ∙ sym run

  -- With nothing under way Alone's run of all items is that of the phase.
  run_is : (way : Way) (r : AloneRun) (intake : Option Kept) → left_on way r.single ≡ [] → promised_on way r ≡ alone c first given → IsHeardOn way r intake stream given → alone c first all ≡ r
  run_is (Calm None) r None left run h = gone_taken r run h
  run_is (Calm None) r (Some kept) left run h = all_taken kept h.0 r run h.1
  run_is (Stuck head others origins) r None left run h = gone_taken r run h
  run_is (Stuck head others origins) r (Some kept) left run h = all_taken kept h.0 r run h.1
  run_is (Calm (Some l)) r intake left run h = absurd (cc)
  run_is (Asked None origin u) r intake left run h = absurd (cc)
  run_is (Asked (Some l) origin u) r intake left run h = absurd (cc)
  run_is (Granting origin u) r intake left run h = absurd (cc)

logged_quiet : (way : Way) (r : AloneRun) → left_on way r.single ≡ [] → logged_on way r ≡ r.records
logged_quiet (Calm lately) r left = refl
logged_quiet (Asked lately origin u) r left = refl
logged_quiet (Granting origin u) r left = absurd (cc)
logged_quiet (Stuck head others origins) r left = refl

pub tells_alone : (c : ℕ) (first : AloneRun) (stream : List ℕ) (z : NodeAlone) (output : List ℕ) (records : List Entry) → StandsAt c first stream z output records → TellsAlone c first stream z output records
tells_alone c first stream z output records h quiet all fault items =
    let w : Way = h.phase.way in
    let r : AloneRun = h.phase.run in
    let left : left_on w r.single ≡ [] = sym (ap (λ (x : NodeAlone). x.left) h.is) ∙ quiet in
    let is = run_is c first stream h.given all fault items w r h.phase.intake left h.promised h.heard in
    record {
      told = h.told ∙ ap (λ (x : AloneRun). x.output) (sym is);
      logged = h.logged ∙ logged_quiet w r left ∙ ap (λ (x : AloneRun). x.records) (sym is);
    }

full_if : (c : ℕ) (way : Way) (r : AloneRun) (intake : Option Kept) → FitsWay c way r intake → IsFullIf way r.single
full_if c (Calm lately) r intake fits = tt
full_if c (Asked lately origin u) r intake fits = tt
full_if c (Granting origin u) r intake fits = tt
full_if c (Stuck head others origins) r intake fits = fits.0

pub ends_unconnected : (c : ℕ) (first : AloneRun) (stream : List ℕ) (z : NodeAlone) (output : List ℕ) (records : List Entry) → StandsAt c first stream z output records → EndsUnconnected c first stream z
ends_unconnected c first stream z output records h quiet none all fault items =
    let w : Way = h.phase.way in
    let r : AloneRun = h.phase.run in
    let left : left_on w r.single ≡ [] = sym (ap (λ (x : NodeAlone). x.left) h.is) ∙ quiet in
    let is = run_is c first stream h.given all fault items w r h.phase.intake left h.promised h.heard in
    subst (λ (x : AloneRun). IsUnconnected z x.single (handles_behind x) x.taken) (sym is) (free h.phase.intake refl left)
  where
    free : (intake : Option Kept) → h.phase.intake ≡ intake → left_on h.phase.way h.phase.run.single ≡ [] → IsUnconnected z h.phase.run.single (handles_behind h.phase.run) h.phase.run.taken
    free None gone left = record {
      way = h.phase.way;
      left = left;
      is = h.is ∙ ap (λ (intake : Option Kept). node_alone c (record { run = h.phase.run; way = h.phase.way; intake = intake })) gone
          ∙ ap (λ (l : List Sent). record { node = node_on h.phase.way h.phase.run.single; clients = clients_of c (waiting_on h.phase.way) h.phase.run None; left = l }) left;
      full = full_if c h.phase.way h.phase.run h.phase.intake h.fits;
      sound = sound_now first h.phase.run (queued_on h.phase.way) h.grown;
      requests = h.grown.requests;
      items = h.grown.items;
    }
    free (Some kept) open_ left =
        let e : z.clients.conns ≡ (c, client_of kept h.phase.run) ∷ [] = ap (λ (x : NodeAlone). x.clients.conns) h.is ∙ ap (λ (intake : Option Kept). (clients_of c (waiting_on h.phase.way) h.phase.run intake).conns) open_ in
        let f : ◌≡◌ {A = List (ℕ × Client)} [] ((c, client_of kept h.phase.run) ∷ []) = sym none ∙ e in absurd (cc)
