-- The records that Alone makes have names, from connection to connection.
use Rattle.std.proofs.Common.{◌≡◌, ℕ, ◌+◌, ◌≤◌, ◌<◌, Bool, true, false, not, ◌&&◌, nat_lt, List, [], ◌∷◌, ◌++◌, Some, refl, sym, ap, subst, arith}
use Rattle.std.specs.List.{AllByRecursion}
use Rattle.std.proofs.lemmas.Bool.Decides.{nat_tests}
use Rattle.update_records.specs.Entry.{Entry}
use Rattle.update_records.specs.declared.update.Update.{Update}
use Rattle.rpc_calls.specs.declared.item.Item.{Item}
use Rattle.client_connections.specs.declared.origin.Origin.{Origin}
use Rattle.client_connections.specs.declared.took.Took.{Took}
use Rattle.client_connections.specs.declared.took.Took.TheVariants.{Nothing, Reply, Queues}
use Rattle.client_connections.specs.Items.{ClientState, item_of, most_taken}
use Rattle.gum_core.specs.Updating.{last_place}
use Rattle.single_rules.specs.Single.{Single, made, outcome_of, updated}
use Rattle.registry_machine.specs.Machine.{registry_machine}
use Rattle.single_items.specs.Alone.{AloneRun, alone, answer_alone, counted_alone, done_alone, item_alone, next_alone, replies_alone, takes_alone, took_alone, update_alone}
use Rattle.single_node.specs.Recording.{HasId, IsNamed}
use Rattle.single_server.specs.Visits.{Talk, first_behind, records_of}

pub both_named : (es fs : List Entry) → AllByRecursion HasId es → AllByRecursion HasId fs → AllByRecursion HasId (es ++ fs)
both_named [] fs a b = b
both_named (e ∷ es) fs a b = (a.0, both_named es fs a.1 b)

-- Each update was an item that was taken.
pub record IsCounted (r : AloneRun) : Type 0 where
  pub named : IsNamed r.single
  pub ids : AllByRecursion HasId r.records
  pub updates : r.single.passed ≤ r.taken
  pub items : r.taken ≤ most_taken

done_counted : (u : Update) (p : List ℕ × ClientState) (r : AloneRun) → IsNamed r.single → AllByRecursion HasId r.records → r.single.passed + 1 ≤ r.taken → r.taken ≤ most_taken → IsCounted (done_alone u p r)
done_counted u p r n ids updates items = record {
  named = record { node = n.node; last_node = n.last_node; inc = n.inc; last_inc = n.last_inc };
  ids = both_named r.records (made r.single u ∷ []) ids
      (record { node = n.node; last_node = n.last_node; inc = n.inc; last_inc = n.last_inc; req = omega arith; last_req = omega (arith, updates, items) }, tt);
  updates = updates;
  items = items;
}

update_counted : (origin : Origin) (u : Update) (r : AloneRun) (room : Bool) → nat_lt r.single.done last_place ≡ room → IsNamed r.single → AllByRecursion HasId r.records → r.single.passed + 1 ≤ r.taken → r.taken ≤ most_taken
    → IsCounted (update_alone origin u r)
update_counted origin u r true is n ids updates items = rw is (done_counted u (answer_alone origin (outcome_of r.single u) r.client) r n ids updates items)
update_counted origin u r false is n ids updates items = rw is (record { named = n; ids = ids; updates = omega (arith, updates); items = items })

took_counted : (p : Took × ClientState) (r : AloneRun) → IsCounted r → r.taken < most_taken → IsCounted (took_alone p r)
took_counted (Nothing, n) r h room = record { named = h.named; ids = h.ids; updates = (let u = h.updates in omega (arith, u)); items = omega (arith, room) }
took_counted (Reply bytes reads, n) r h room = record { named = h.named; ids = h.ids; updates = (let u = h.updates in omega (arith, u)); items = omega (arith, room) }
took_counted (Queues origin u, n) r h room =
    update_counted origin u (counted_alone n r) (nat_lt r.single.done last_place) refl h.named h.ids (let p = h.updates in omega (arith, p)) (omega (arith, room))

item_counted : (c : ℕ) (r : AloneRun) (item : Item) (takes : Bool) → takes_alone r ≡ takes → IsCounted r → IsCounted (item_alone c r item)
item_counted c r item true is h =
    let room : r.taken < most_taken = grind (arith, nat_tests, is) in
    rw is (took_counted (item_of (Some r.single.registry.keys) c r.client item) r h room)
item_counted c r item false is h = rw is h

pub alone_counted : (c : ℕ) (r : AloneRun) (items : List Item) → IsCounted r → IsCounted (alone c r items)
alone_counted c r [] h = h
alone_counted c r (item ∷ items) h = alone_counted c (item_alone c r item) items (item_counted c r item (takes_alone r) refl h)

next_counted : (r : AloneRun) → IsCounted r → IsCounted (next_alone r)
next_counted r h = record { named = h.named; ids = tt; updates = h.updates; items = h.items }

-- ---- connections in turn

pub talks_named : (c : ℕ) (first : AloneRun) (talks : List Talk) → IsCounted first → AllByRecursion HasId (records_of c first talks)
unfolding records_of
talks_named c first [] h = tt
talks_named c first (talk ∷ talks) h =
    let r = alone c first talk.given in
    let counted = alone_counted c first talk.given h in
    both_named r.records (records_of (c + 1) (next_alone r) talks) counted.ids (talks_named (c + 1) (next_alone r) talks (next_counted r counted))

pub behind_counted : (c : ℕ) (first : AloneRun) (talks : List Talk) → IsCounted first → IsCounted (first_behind c first talks)
unfolding first_behind
behind_counted c first [] h = h
behind_counted c first (talk ∷ talks) h =
    let r = alone c first talk.given in behind_counted (c + 1) (next_alone r) talks (next_counted r (alone_counted c first talk.given h))

pub behind_none : (c : ℕ) (first : AloneRun) (talks : List Talk) → first.records ≡ [] → (first_behind c first talks).records ≡ []
unfolding first_behind
behind_none c first [] none = none
behind_none c first (talk ∷ talks) none = behind_none (c + 1) (next_alone (alone c first talk.given)) talks refl

pub behind_silent : (c : ℕ) (first : AloneRun) (talks : List Talk) → first.output ≡ [] → (first_behind c first talks).output ≡ []
unfolding first_behind
behind_silent c first [] silent = silent
behind_silent c first (talk ∷ talks) silent = behind_silent (c + 1) (next_alone (alone c first talk.given)) talks refl
