-- A disk in memory that is new lets no call of `format` fail.
use Rattle.std.proofs.Common.{◌≡◌, ℕ, suc, ◌+◌, ◌-◌, ◌≤◌, inl, inr, Bool, true, false, List, [], ◌∷◌, ◌++◌, length, Option, Some, refl, sym, ap, ◌∙◌, subst, arith, length-append}
use Rattle.std.specs.Prelude.{not, ◌==◌, ◌||◌, ◌&&◌, nat_le, Result, Ok, Err, IsOk, ⊤, MatchOption, replicate, if◌then◌else◌}
use Rattle.std.proofs.lemmas.Bool.Decides.{nat_tests}
use Rattle.disk_core.specs.declared.fault.DiskFault.{DiskFault}
use Rattle.disk_core.specs.declared.fault.DiskFault.TheVariants.{Failed, Fenced}
use Rattle.disk_core.specs.Calls.{Call, write, sync, claim, token, bytes_of, passes_room, is_noted, is_fenced, held_after, next_plan, FailsAsPlanned, Answers, Planned, PlannedRead, Step, Made}
use Rattle.disk_core.specs.Notes.{Memory, view_of}
use Rattle.disk_core.specs.Views.{DiskView, Plan}
use Rattle.quorum_log.specs.Formats.{FormatCalls, ReadsByte, Renews, front_text, renewing}
use Rattle.quorum_log.proofs.Texts.{length-front}

-- No call is to fail, nobody has claimed it, and there is room for so many calls and bytes.
pub record Works (calls bytes : ℕ) (v : DiskView) : Type 0 where
  pub plan : Plan
  pub planned : v.plan ≡ Some plan
  pub unawaited : plan.awaits ≡ 0
  pub unclaimed : v.current.held ≡ 0
  pub calls_left : calls ≤ plan.calls_left
  pub bytes_left : bytes ≤ plan.bytes_left

more_room : (v : DiskView) (calls fewer bytes less : ℕ) → fewer ≤ calls → less ≤ bytes → Works calls bytes v → Works fewer less v
more_room v calls fewer bytes less few small works = record {
  plan = works.plan;
  planned = works.planned;
  unawaited = works.unawaited;
  unclaimed = works.unclaimed;
  calls_left = let room = works.calls_left in omega (arith, few, room);
  bytes_left = let room = works.bytes_left in omega (arith, small, room);
}

fits : (c : Call) (p : Plan) (calls bytes : ℕ) → suc calls ≤ p.calls_left → bytes_of c + bytes ≤ p.bytes_left → passes_room c p ≡ false
fits (write n at text) p calls bytes more room = grind (arith, nat_tests)
fits (sync n) p calls bytes more room = grind (arith, nat_tests)
fits (claim n) p calls bytes more room = grind (arith, nat_tests)

unfenced : (c : Call) (v : DiskView) → v.current.held ≡ 0 → is_fenced c v ≡ false
unfenced c v none = rw none (grind (arith, nat_tests))

-- The room behind a call that is Ok.
left_of : (noted : Bool) (p : Plan) (count calls bytes : ℕ) → suc calls ≤ p.calls_left → count + bytes ≤ p.bytes_left
    → (calls ≤ (if noted then p.calls_left - 1 else p.calls_left)) × (bytes ≤ (if noted && true then p.bytes_left - count else p.bytes_left))
left_of true p count calls bytes more room = (omega (arith, more), omega (arith, room))
left_of false p count calls bytes more room = (omega (arith, more), omega (arith, room))

held_next : (c : Call) (held : ℕ) → token c ≡ 0 → held ≡ 0 → held_after c held ≡ 0
held_next (write n at text) held free none = none
held_next (sync n) held free none = none
held_next (claim n) held free none = free

next_is : (c : Call) (v : DiskView) (p : Plan) → v.current.held ≡ 0 → next_plan c (is_fenced c v) p ≡ next_plan c false p
next_is c v p none = ap (λ (b : Bool). next_plan c b p) (unfenced c v none)

works_on : (c : Call) (v w : DiskView) (calls bytes : ℕ) (works : Works (suc calls) (bytes_of c + bytes) v) → token c ≡ 0 → Answers c v (Ok tt) w → Planned c v works.plan (Ok tt) w → Works calls bytes w
works_on c v w calls bytes works free answers planned =
    let room = left_of (is_noted c false works.plan) works.plan (bytes_of c) calls bytes works.calls_left works.bytes_left in
    record {
      plan = next_plan c false works.plan;
      planned = planned.next ∙ ap (λ (q : Plan). Some q) (next_is c v works.plan works.unclaimed);
      unawaited = let none : works.plan.awaits ≡ 0 = works.unawaited in omega (arith, none);
      unclaimed = answers.1 ∙ held_next c v.current.held free works.unclaimed;
      calls_left = room.0;
      bytes_left = room.1;
    }

planned_by : (o : Option Plan) (p : Plan) (P : Plan → Type 0) → o ≡ Some p → MatchOption o (Unit {0}) P → P p
planned_by o p P is holds = subst (λ (x : Option Plan). MatchOption x (Unit {0}) P) is holds

neither : (a b : Bool) → a ≡ false → b ≡ false → (a || b) ≡ false
neither true b x y = absurd (cc x)
neither false b x y = y

unawaited : (p : Plan) → p.awaits ≡ 0 → (p.awaits == 1) ≡ false
unawaited p none = rw none refl

no_failure : (c : Call) (v w : DiskView) (p : Plan) → p.awaits ≡ 0 → passes_room c p ≡ false → FailsAsPlanned c v p (Err Failed) w → ⊥
no_failure c v w p none room fails =
    let never : ((p.awaits == 1) || passes_room c p) ≡ false = neither (p.awaits == 1) (passes_room c p) (unawaited p none) room in
    let both : true ≡ false = sym fails.0 ∙ never in
    absurd (cc both)

pub step_works : (c : Call) (v w : DiskView) (r : Result ⊤ DiskFault) (calls bytes : ℕ) → token c ≡ 0 → Works (suc calls) (bytes_of c + bytes) v → Step c v r w → IsOk r × Works calls bytes w
step_works c v w (Ok ok) calls bytes free works step = (refl, works_on c v w calls bytes works free step.answer (planned_by v.plan works.plan (λ p. Planned c v p (Ok tt) w) works.planned step.plan))
step_works c v w (Err Failed) calls bytes free works step =
    absurd (no_failure c v w works.plan works.unawaited (fits c works.plan calls bytes works.calls_left works.bytes_left)
    (planned_by v.plan works.plan (λ p. Planned c v p (Err Failed) w) works.planned step.plan).fails)
step_works c v w (Err (Fenced held)) calls bytes free works step = absurd (omega (arith, step.answer.0, works.unclaimed))

-- ---- the calls

unfoldable bytes_in : List Call → ℕ
bytes_in [] = 0
bytes_in (c ∷ cs) = bytes_of c + bytes_in cs

abbrev AreFree : List Call → Type 0
AreFree [] = Unit {0}
AreFree (c ∷ cs) = (token c ≡ 0) × AreFree cs

never : (e : DiskFault) → IsOk {T = ⊤} (Err e) → ⊥
never e is = cc is

made_work : (cs : List Call) (v w : DiskView) (r : Result ⊤ DiskFault) (calls bytes : ℕ) → AreFree cs → Works (length cs + calls) (bytes_in cs + bytes) v → Made cs v r w → IsOk r × Works calls bytes w
unfolding Made bytes_in
made_work [] v w r calls bytes free works made = (made.1, subst (λ (x : DiskView). Works calls bytes x) (sym made.0) (more_room v (0 + calls) calls (0 + bytes) bytes (omega arith) (omega arith) works))
made_work (c ∷ cs) v w r calls bytes free works (inl (u, step, rest)) =
    let here : Works (suc (length cs + calls)) (bytes_of c + (bytes_in cs + bytes)) v = more_room v (length (c ∷ cs) + calls) (suc (length cs + calls)) (bytes_in (c ∷ cs) + bytes) (bytes_of c + (bytes_in cs + bytes)) (omega arith) (omega arith) works in
    made_work cs u w r calls bytes free.1 (step_works c v u (Ok step.0) (length cs + calls) (bytes_in cs + bytes) free.0 here step.1).1 rest
made_work (c ∷ cs) v w r calls bytes free works (inr (e, step, is)) =
    let here : Works (suc (length cs + calls)) (bytes_of c + (bytes_in cs + bytes)) v = more_room v (length (c ∷ cs) + calls) (suc (length cs + calls)) (bytes_in (c ∷ cs) + bytes) (bytes_of c + (bytes_in cs + bytes)) (omega arith) (omega arith) works in
    absurd (never e (step_works c v w (Err e) (length cs + calls) (bytes_in cs + bytes) free.0 here step).0)

-- ---- the calls of `format`

read_works : (v w : DiskView) (r : Result ℕ DiskFault) (calls bytes : ℕ) → Works calls bytes v → ReadsByte v r w → IsOk r × Works calls bytes w
read_works v w (Ok byte) calls bytes works reads =
    let read = planned_by v.plan works.plan (λ p. PlannedRead p (Ok tt) w) works.planned reads.plan in (
      refl,
      record {
        plan = record (works.plan) { awaits = works.plan.awaits - 1 };
        planned = read.next;
        unawaited = let none : works.plan.awaits ≡ 0 = works.unawaited in omega (arith, none);
        unclaimed = rw reads.current works.unclaimed;
        calls_left = works.calls_left;
        bytes_left = works.bytes_left;
      },
    )
read_works v w (Err fault) calls bytes works reads =
    let read = planned_by v.plan works.plan (λ p. PlannedRead p (Err fault) w) works.planned reads.1.plan in
    let both : true ≡ false = sym read.fails ∙ unawaited works.plan works.unawaited in
    absurd (cc both)

free_body : (b : Bool) (cap : ℕ) (first : List ℕ) → nat_le (length first) 4007 ≡ true → AreFree (renewing b 0 cap first)
free_body true cap first short = rw short (refl, (refl, (refl, (refl, (refl, (refl, (refl, tt)))))))
free_body false cap first short = rw short (refl, (refl, (refl, (refl, (refl, tt)))))

few_calls : (b : Bool) (cap : ℕ) (first : List ℕ) → nat_le (length first) 4007 ≡ true → length (renewing b 0 cap first) ≤ 7
few_calls true cap first short = rw short (omega arith)
few_calls false cap first short = rw short (omega arith)

few_bytes : (b : Bool) (cap : ℕ) (first : List ℕ) → nat_le (length first) 4007 ≡ true → length first ≤ 4007 → bytes_in (renewing b 0 cap first) ≤ 4100
unfolding bytes_in
few_bytes true cap first short small =
    let front : length (front_text cap (length first) ++ (first ++ 0 ∷ [])) ≡ 88 + (length first + 1) = omega (arith, length-append {A = ℕ}, length-front cap (length first)) in
    rw short (omega (arith, front))
few_bytes false cap first short small =
    let front : length (front_text cap (length first) ++ (first ++ 0 ∷ [])) ≡ 88 + (length first + 1) = omega (arith, length-append {A = ℕ}, length-front cap (length first)) in
    rw short (omega (arith, front))

renews : (cap : ℕ) (first : List ℕ) (v w : DiskView) (fault : DiskFault) → length first ≤ 4007 → Works 7 4100 v → Renews 0 cap first v (Err fault) w → ⊥
renews cap first v w fault small works (inl (byte, u, reads, made)) =
    let short : nat_le (length first) 4007 ≡ true = grind (arith, nat_tests) in
    let b = not (byte == 0) in
    let calls = renewing b 0 cap first in
    let few = few_calls b cap first short in
    let less = few_bytes b cap first short small in
    let here = (read_works v u (Ok byte) 7 4100 works reads).1 in
    never fault (made_work calls u w (Err fault) 0 0 (free_body b cap first short) (more_room u 7 (length calls + 0) 4100 (bytes_in calls + 0) (omega (arith, few)) (omega (arith, less)) here) made).0
renews cap first v w fault small works (inr (e, reads, is)) = cc (read_works v w (Err e) 7 4100 works reads).0

pub format_works : (cap : ℕ) (first : List ℕ) (v w : DiskView) (fault : DiskFault) → length first ≤ 4007 → Works 9 4100 v → FormatCalls 0 cap first v (Err fault) w → ⊥
unfolding bytes_in
format_works cap first v w fault small works (inl (u, made, behind)) = renews cap first u w fault small (made_work (claim 0 ∷ sync 0 ∷ []) v u (Ok tt) 7 4100 (refl, (refl, tt)) works made).1 behind
format_works cap first v w fault small works (inr (e, made, is)) = never e (made_work (claim 0 ∷ sync 0 ∷ []) v w (Err e) 7 4100 (refl, (refl, tt)) works made).0

-- ---- a new disk

abbrev zeros : ℕ → Memory
zeros size = record {
  current = record { seen = replicate size 0; pending = []; held = 0 };
  past = [];
  faults = 0;
  awaits = 0;
  calls_left = 4096;
  bytes_left = size;
}

zeros_work : (size : ℕ) → 4100 ≤ size → Works 9 4100 (view_of (zeros size))
zeros_work size large = record {
  plan = record { awaits = 0; most_calls = 4096; most_bytes = length (replicate size 0); calls_left = 4096; bytes_left = size };
  planned = refl;
  unawaited = refl;
  unclaimed = refl;
  calls_left = omega arith;
  bytes_left = large;
}

pub new_works : (d : Memory) (size : ℕ) → d ≡ zeros size → 4100 ≤ size → Works 9 4100 (view_of d)
new_works d size is large = subst (λ (m : Memory). Works 9 4100 (view_of m)) (sym is) (zeros_work size large)
