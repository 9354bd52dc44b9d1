-- A step of a world counts as one, and messages are only added.
use Rattle.std.proofs.Common.{◌≡◌, ℕ, zero, suc, ◌+◌, ◌-◌, ◌*◌, ◌^◌, ◌<◌, ◌≤◌, Bool, true, false, List, [], ◌∷◌, length, Option, None, Some, refl, sym, subst, arith, length-append}
use Rattle.std.specs.Prelude.{Ok, replicate}
use Rattle.std.proofs.lemmas.List.{length-replicate, length-set}
use Rattle.disk_core.specs.Views.{DiskView}
use Rattle.cluster_rules.specs.declared.effect.Effect.{Effect}
use Rattle.cluster_rules.specs.Worlds.{sent}
use Rattle.cluster_node.specs.States.{NodeValue}
use Rattle.cluster_worlds.specs.declared.event.Event.{Event}
use Rattle.cluster_worlds.specs.declared.event.Event.TheVariants.{Start, Declare, Install, Connect, Bytes, HangUp, Deliver, Tick, Checkpoint, Fail, Die, Clock, Batch, DieIn}
use Rattle.cluster_worlds.specs.declared.inner.Inner.{Inner}
use Rattle.cluster_worlds.specs.declared.inner.Inner.TheVariants as inner
use Rattle.cluster_worlds.specs.declared.told.Told.{Told}
use Rattle.cluster_worlds.specs.declared.told.Told.TheVariants as trace
use Rattle.cluster_worlds.specs.Happening.{ActsAt, Dies, DiesIn, Does, begun, reached, with_clock, with_conn}
use Rattle.cluster_worlds.specs.Runs.{Steps}
use Rattle.cluster_worlds.specs.Worlds.{WorldState, node_at}
use Rattle.script_text.specs.declared.counts.Counts.{Counts}
use Rattle.script_text.specs.Counting.{counted, with_one}
use Rattle.script_player.specs.Bounds.{AreFew, HasSteps}
use Rattle.script_player.specs.Marks.{grown, marked_if}
use Rattle.script_player.specs.Playing.{Comes, Play, delivered}

-- ---- a world

pub record Later (w u : WorldState) : Type 0 where
  pub steps : u.steps ≡ w.steps
  pub pool : length w.pool ≤ length u.pool

same : (w u : WorldState) → u ≡ w → Later w u
same w u is = subst (λ (v : WorldState). Later w v) (sym is) (record { steps = refl; pool = omega arith })

acts_later : (P : NodeValue → List Effect → NodeValue → DiskView → Type 0) (o : Option NodeValue) (w u : WorldState) (told : List Told) → ActsAt P o w told u → Later w u
acts_later P None w u told acts = same w u acts.1
acts_later P (Some n) w u told acts =
    subst (λ (v : WorldState). Later w v) (sym acts.world) (record { steps = refl; pool = let more = length-append w.pool (sent acts.effects) in omega (arith, more) })

dies_later : (o : Option NodeValue) (w u : WorldState) (told : List Told) → Dies o w told u → Later w u
dies_later None w u told dies = same w u dies.1
dies_later (Some n) w u told dies = subst (λ (v : WorldState). Later w v) (sym dies.1) (record { steps = refl; pool = omega arith })

dies_in_later : (moment : ℕ) (bytes : List ℕ) (event : Inner) (o : Option NodeValue) (w u : WorldState) (told : List Told) → DiesIn moment bytes event o w told u → Later w u
dies_in_later moment bytes event None w u told dies = same w u dies.1
dies_in_later moment bytes event (Some n) w u told dies = subst (λ (v : WorldState). Later w v) (sym dies.world) (record { steps = refl; pool = omega arith })

clock_later : (stamp : ℕ) (o : Option NodeValue) (w : WorldState) → Later w (with_clock stamp o w)
clock_later stamp None w = record { steps = refl; pool = omega arith }
clock_later stamp (Some n) w = record { steps = refl; pool = omega arith }

does_later : (event : Event) (w u : WorldState) (told : List Told) → Does event w told u → Later w u
does_later (Start node) w u told does = subst (λ (v : WorldState). Later w v) (sym does.1) (record { steps = refl; pool = omega arith })
does_later (Declare view) w u told does = subst (λ (v : WorldState). Later w v) (sym does.1) (record { steps = refl; pool = omega arith })
does_later (Install node view) w u told does = acts_later _ (reached (inner.Install node view) w) w u told does
does_later (Connect conn node) w u told does =
    let later = acts_later _ (node_at node w) (with_conn conn node w) u told does in
    record { steps = later.steps; pool = later.pool }
does_later (Bytes conn piece) w u told does = acts_later _ (reached (inner.Bytes conn piece) w) w u told does
does_later (HangUp conn) w u told does = acts_later _ (reached (inner.HangUp conn) w) w u told does
does_later (Deliver number) w u told does = acts_later _ (reached (inner.Deliver number) w) w u told does
does_later (Tick node) w u told does = acts_later _ (reached (inner.Tick node) w) w u told does
does_later (Checkpoint node) w u told does = acts_later _ (reached (inner.Checkpoint node) w) w u told does
does_later (Fail call) w u told does = subst (λ (v : WorldState). Later w v) (sym does.1) (record { steps = refl; pool = omega arith })
does_later (Die node) w u told does = dies_later (node_at node w) w u told does
does_later (Clock node stamp) w u told does = subst (λ (v : WorldState). Later w v) (sym does.1) (clock_later stamp (node_at node w) w)
does_later (Batch node update) w u told does = acts_later _ (node_at node w) w u told does
does_later (DieIn moment bytes event) w u told does = dies_in_later moment bytes event (reached event w) w u told does

pub step_counts : (event : Event) (w u : WorldState) (told : List Told) → Steps event w (Ok told) u → (u.steps ≡ w.steps + 1) × (length w.pool ≤ length u.pool)
step_counts event w u told steps = let later = does_later event (begun steps.1.disk w) u told steps.1.does in (later.steps, later.pool)

-- ---- marks

pub length_marked : (o : Option ℕ) (marks : List Bool) → length (marked_if o marks) ≡ length marks
length_marked None marks = refl
length_marked (Some zero) marks = refl
length_marked (Some (suc place)) marks = length-set marks place true

length_grown : (messages : ℕ) (marks : List Bool) → length marks ≤ messages → length (grown messages marks) ≡ messages
unfolding grown
length_grown messages marks fewer =
    let all = length-append marks (replicate (messages - length marks) false) in
    let more = length-replicate (messages - length marks) false in
    omega (arith, all, more, fewer)

-- ---- counts

fewer_still : (most more : ℕ) (counts : Counts) → most ≤ more → AreFew most counts → AreFew more counts
fewer_still most more counts is few = record { order = let x = few.order in omega (arith, x, is); acks = let x = few.acks in omega (arith, x, is); replies = let x = few.replies in omega (arith, x, is); closed = let x = few.closed in omega (arith, x, is) }

one_few : (most : ℕ) (counts : Counts) (told : Told) → AreFew most counts → AreFew (most + 1) (with_one counts told)
one_few most counts (trace.Order place spelling) few = record { order = let x = few.order in omega (arith, x); acks = let x = few.acks in omega (arith, x); replies = let x = few.replies in omega (arith, x); closed = let x = few.closed in omega (arith, x) }
one_few most counts (trace.Acked node view place) few = record { order = let x = few.order in omega (arith, x); acks = let x = few.acks in omega (arith, x); replies = let x = few.replies in omega (arith, x); closed = let x = few.closed in omega (arith, x) }
one_few most counts (trace.Reply conn point bytes) few = record { order = let x = few.order in omega (arith, x); acks = let x = few.acks in omega (arith, x); replies = let x = few.replies in omega (arith, x); closed = let x = few.closed in omega (arith, x) }
one_few most counts (trace.Closed conn cause) few = record { order = let x = few.order in omega (arith, x); acks = let x = few.acks in omega (arith, x); replies = let x = few.replies in omega (arith, x); closed = let x = few.closed in omega (arith, x) }
one_few most counts (trace.Sent number message) few = fewer_still most (most + 1) counts (omega arith) few
one_few most counts (trace.Opened node view) few = fewer_still most (most + 1) counts (omega arith) few
one_few most counts (trace.Batched node req point status index) few = fewer_still most (most + 1) counts (omega arith) few
one_few most counts (trace.Halted node cause) few = fewer_still most (most + 1) counts (omega arith) few

all_few : (told : List Told) (most : ℕ) (counts : Counts) → AreFew most counts → AreFew (most + length told) (counted counts told)
unfolding counted
all_few [] most counts few = fewer_still most (most + 0) counts (omega arith) few
all_few (one ∷ others) most counts few =
    fewer_still (most + 1 + length others) (most + length (one ∷ others)) (counted (with_one counts one) others) (omega arith) (all_few others (most + 1) (with_one counts one) (one_few most counts one few))

-- ---- a play

pub comes_room : (event : Event) (p q : Play) (told : List Told) (more : ℕ) → length told < 2 ^ 64 → Comes event p told q → HasSteps (suc more) p → HasSteps more q
comes_room event p q told more small comes room =
    let counts = step_counts event p.world q.world told comes.steps in
    let few : AreFew (p.world.steps * 2 ^ 64 + length told) (counted p.counts told) = all_few told (p.world.steps * 2 ^ 64) p.counts room.counts in
    let marks : length (grown (length q.world.pool) (marked_if (delivered event) p.marks)) ≡ length q.world.pool =
    length_grown (length q.world.pool) (marked_if (delivered event) p.marks) (let a = length_marked (delivered event) p.marks in let b = room.marks in omega (arith, a, b, counts.1)) in
    subst (λ (x : Play). HasSteps more x) (sym comes.after) (record {
      marks = marks;
      steps = let s = room.steps in omega (arith, s, counts.0);
      counts = fewer_still (p.world.steps * 2 ^ 64 + length told) (q.world.steps * 2 ^ 64) (counted p.counts told) (omega (arith, small, counts.0)) few;
    })
