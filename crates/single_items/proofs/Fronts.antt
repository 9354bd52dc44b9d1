-- Alone's answers and records grow with the items, so that those so far are the first.
use Rattle.std.proofs.Common.{◌≡◌, ◌⊎◌, inl, inr, ℕ, ◌+◌, ◌<◌, Bool, false, true, if◌then◌else◌, nat_lt, List, [], ◌∷◌, ◌++◌, Option, Some, None, refl, sym, ap, ◌∙◌, subst, append_assoc}
use Rattle.std.proofs.lemmas.List.{append-nil}
use Rattle.update_records.specs.Entry.{Entry}
use Rattle.update_records.specs.declared.update.Update.{Update}
use Rattle.gum_core.specs.Updating.{last_place}
use Rattle.rpc_calls.proofs.StreamUniqueness.{given_front, items_agree}
use Rattle.rpc_calls.specs.declared.intake_fault.IntakeFault.{IntakeFault}
use Rattle.rpc_calls.specs.declared.item.Item.{Item}
use Rattle.rpc_calls.specs.declared.side.Side.{Side}
use Rattle.rpc_calls.specs.declared.side.Side.TheVariants.{Server}
use Rattle.rpc_calls.specs.Intakes.{Kept}
use Rattle.rpc_calls.specs.Streams.{Items}
use Rattle.client_connections.specs.declared.origin.Origin.{Origin}
use Rattle.client_connections.specs.declared.took.Took.{Took}
use Rattle.client_connections.specs.declared.took.Took.TheVariants.{Nothing, Reply, Queues}
use Rattle.client_connections.specs.Items.{ClientState, item_of}
use Rattle.single_rules.proofs.Comparisons.{less}
use Rattle.single_rules.specs.Single.{made, outcome_of}
use Rattle.single_items.specs.Alone.{AloneRun, alone, answer_alone, done_alone, item_alone, takes_alone, took_alone, update_alone}
use Rattle.single_items.specs.Promises.{BeginsWith, TellsFirst}
use Rattle.single_items.specs.Standing.{Asked, Calm, FitsWay, Granting, IsAllTaken, IsHeardOn, IsKeptFrom, NodeAlone, StandsAt, Stuck, Way, logged_on, promised_on}
use Rattle.single_items.proofs.Served.{alone_both}

pub begins_itself : {A : Type 0} (xs : List A) → BeginsWith xs xs
begins_itself xs = ([], sym (append-nil xs))

pub begins_more : {A : Type 0} (all most front : List A) → BeginsWith all most → BeginsWith most front → BeginsWith all front
begins_more all most front a b = (b.0 ++ a.0, a.1 ∙ ap (λ l. l ++ a.0) b.1 ∙ append_assoc front b.0 a.0)

-- One run goes on from the other.
pub record GoesBeyond (x r : AloneRun) : Type 0 where
  pub output : BeginsWith x.output r.output
  pub records : BeginsWith x.records r.records

beyond_itself : (r : AloneRun) → GoesBeyond r r
beyond_itself r = record { output = begins_itself r.output; records = begins_itself r.records }

beyond_more : (x s r : AloneRun) → GoesBeyond x s → GoesBeyond s r → GoesBeyond x r
beyond_more x s r a b = record { output = begins_more x.output s.output r.output a.output b.output; records = begins_more x.records s.records r.records a.records b.records }

done_beyond : (u : Update) (p : List ℕ × ClientState) (r : AloneRun) → GoesBeyond (done_alone u p r) r
done_beyond u (bytes, n) r = record { output = (bytes, refl); records = (made r.single u ∷ [], refl) }

update_beyond : (origin : Origin) (u : Update) (r : AloneRun) (b : Bool) → GoesBeyond (if b then done_alone u (answer_alone origin (outcome_of r.single u) r.client) r else record r { waits = true }) r
update_beyond origin u r true = done_beyond u (answer_alone origin (outcome_of r.single u) r.client) r
update_beyond origin u r false = record { output = begins_itself r.output; records = begins_itself r.records }

took_beyond : (t : Took × ClientState) (r : AloneRun) → GoesBeyond (took_alone t r) r
took_beyond (Nothing, n) r = record { output = begins_itself r.output; records = begins_itself r.records }
took_beyond (Reply bytes reads, n) r = record { output = (bytes, refl); records = begins_itself r.records }
took_beyond (Queues origin u, n) r =
    let s : AloneRun = record r { client = n; taken = r.taken + 1 } in
    let g : GoesBeyond (update_alone origin u s) s = update_beyond origin u s (nat_lt r.single.done last_place) in
    record { output = g.output; records = g.records }

item_beyond : (c : ℕ) (r : AloneRun) (i : Item) (b : Bool) → GoesBeyond (if b then took_alone (item_of (Some r.single.registry.keys) c r.client i) r else r) r
item_beyond c r i true = took_beyond (item_of (Some r.single.registry.keys) c r.client i) r
item_beyond c r i false = beyond_itself r

grows : (c : ℕ) (items : List Item) (r : AloneRun) → GoesBeyond (alone c r items) r
grows c [] r = beyond_itself r
grows c (i ∷ items) r = beyond_more (alone c (item_alone c r i) items) (item_alone c r i) r (grows c items (item_alone c r i)) (item_beyond c r i (takes_alone r))

-- ---- what a phase has promised is the first of what is still to come

pub promised_beyond : (way : Way) (r : AloneRun) → GoesBeyond (promised_on way r) r
promised_beyond (Calm lately) r = beyond_itself r
promised_beyond (Asked lately origin u) r = update_beyond origin u r (nat_lt r.single.done last_place)
promised_beyond (Granting origin u) r = update_beyond origin u r (nat_lt r.single.done last_place)
promised_beyond (Stuck head others origins) r = beyond_itself r

pub made_first : (origin : Origin) (u : Update) (r : AloneRun) → r.single.done < last_place → BeginsWith (update_alone origin u r).records (r.records ++ made r.single u ∷ [])
made_first origin u r room =
    let p = less r.single.done last_place room in
    subst (λ (b : Bool). BeginsWith (if b then done_alone u (answer_alone origin (outcome_of r.single u) r.client) r else record r { waits = true }).records (r.records ++ made r.single u ∷ [])) (sym p)
    (of_pair (answer_alone origin (outcome_of r.single u) r.client))
  where
    of_pair : (p : List ℕ × ClientState) → BeginsWith (done_alone u p r).records (r.records ++ made r.single u ∷ [])
    of_pair (bytes, n) = begins_itself (r.records ++ made r.single u ∷ [])

pub logged_first : (c : ℕ) (way : Way) (r : AloneRun) (intake : Option Kept) → FitsWay c way r intake → BeginsWith (promised_on way r).records (logged_on way r)
logged_first c (Calm lately) r intake fits = begins_itself r.records
logged_first c (Asked lately origin u) r intake fits = (update_beyond origin u r (nat_lt r.single.done last_place)).records
logged_first c (Granting origin u) r intake fits = made_first origin u r fits.0
logged_first c (Stuck head others origins) r intake fits = begins_itself r.records

module _ (stream : List ℕ) (given all : List Item) (fault : Option IntakeFault) (items : Items Server stream all fault) where
  abbrev Among : Type 0
  Among = (more : List Item) × (all ≡ given ++ more)

  kept_among : (kept : Kept) → IsKeptFrom kept stream given → Among
  kept_among kept h = given_front kept stream given all fault h.holds (subst (λ (side : Side). Items side stream all fault) (sym h.side) items)

  gone_among : (r : AloneRun) → ((intake : Kept) × IsKeptFrom intake stream given × IsAllTaken stream given r) ⊎ ((stop : IntakeFault) × Items Server stream given (Some stop)) → Among
  gone_among r (inl h) = kept_among h.0 h.1
  gone_among r (inr h) = ([], sym (items_agree Server stream given all (Some h.0) fault h.1 items).0 ∙ sym (append-nil given))

  pub among : (way : Way) (r : AloneRun) (intake : Option Kept) → IsHeardOn way r intake stream given → Among
  among (Calm lately) r None h = gone_among r h
  among (Calm lately) r (Some kept) h = kept_among kept h.0
  among (Asked lately origin u) r None h = gone_among r h
  among (Asked lately origin u) r (Some kept) h = kept_among kept h
  among (Granting origin u) r None h = gone_among r h
  among (Granting origin u) r (Some kept) h = kept_among kept h
  among (Stuck head others origins) r None h = gone_among r h
  among (Stuck head others origins) r (Some kept) h = kept_among kept h.0

-- All items go beyond those that were taken.
pub all_beyond : (c : ℕ) (first : AloneRun) (given all : List Item) (way : Way) (r : AloneRun) → promised_on way r ≡ alone c first given → (more : List Item) × (all ≡ given ++ more) → GoesBeyond (alone c first all) (promised_on way r)
all_beyond c first given all way r promised (more, is) =
    subst (λ (x : AloneRun). GoesBeyond x (promised_on way r))
    (ap (λ (s : AloneRun). alone c s more) promised ∙ alone_both c first given more ∙ ap (alone c first) (sym is)) (grows c more (promised_on way r))

pub tells_first : (c : ℕ) (first : AloneRun) (stream : List ℕ) (z : NodeAlone) (output : List ℕ) (records : List Entry) → StandsAt c first stream z output records → TellsFirst c first stream output records
tells_first c first stream z output records h all fault items =
    let w : Way = h.phase.way in
    let r : AloneRun = h.phase.run in
    let x : AloneRun = alone c first all in
    let b = all_beyond c first h.given all w r h.promised (among stream h.given all fault items w r h.phase.intake h.heard) in
    record {
      told = subst (λ (l : List ℕ). BeginsWith x.output l) (sym h.told) (begins_more x.output (promised_on w r).output r.output b.output (promised_beyond w r).output);
      logged = subst (λ (l : List Entry). BeginsWith x.records l) (sym h.logged) (begins_more x.records (promised_on w r).records (logged_on w r) b.records (logged_first c w r h.phase.intake h.fits));
    }
