-- A message counts or doesn't.
use Rattle.std.proofs.Common.{◌≡◌, ℕ, ◌<◌, Bool, true, false, ◌&&◌, List, Option, None, Result, Ok, Err, nat_eq, nat_lt, refl, sym, subst, arith}
use Rattle.disk_core.specs.Views.{DiskView}
use Rattle.update_records.specs.Entry.{Entry}
use Rattle.gum_messages.specs.declared.body.Body.{Body}
use Rattle.gum_messages.specs.declared.body.Body.TheVariants.{Ask, Granted, Apply, Applied, Release, Offer, Need, Piece, Ready, OpenView}
use Rattle.gum_messages.specs.Members.{inc_of}
use Rattle.gum_messages.specs.Messages.{Sent}
use Rattle.update_records.specs.declared.update.Update.{Update}
use Rattle.cluster_rules.specs.Nodes.{NodeState, nothing}
use Rattle.cluster_rules.specs.Updates.{Answer, Written, Logged, on_applied, on_apply, on_granted, on_release, unlogged}
use Rattle.cluster_rules.specs.Joins.{on_need, on_offer, on_open_view, on_piece, on_ready}
use Rattle.cluster_rules.specs.Receiving.{counts, hears, receive}
use Rattle.single_rules.specs.Logging.{body_to_log, no_entry, to_log}
use Rattle.registry_machine.specs.Machine.{registry_machine}
use Rattle.cluster_member.specs.declared.stop.Stop.{Stop}
use Rattle.cluster_member.specs.declared.stop.Stop.TheVariants as stop
use Rattle.member_rules.specs.declared.told.Told.{Told}
use Rattle.member_rules.specs.Steps.{GoesOn}
use Rattle.cluster_member.specs.States.{MemberState}
use Rattle.cluster_member.specs.Logging.{Logs, answer_to}
use Rattle.cluster_member.specs.Events.{Asks, Comes, Goes, Hears, Receives}

heard_log : (x : NodeState registry_machine) (p : Sent) → counts x p ≡ true → to_log x p ≡ body_to_log x p.from p.body
heard_log x p e = rw e refl

heard_out : (x : NodeState registry_machine) (p : Sent) (held : ℕ) (answer : Answer) → counts x p ≡ true → receive x p held answer ≡ hears x p.from p.body held answer
heard_out x p held answer e = rw e refl

pub received : (v : DiskView) (x : MemberState) (p : Sent) (r : Result Told Stop) (y : MemberState) (w : DiskView)
    → counts x.rules p ≡ true → Hears v x p.from p.body r y w → Receives v x p r y w
received v x p r y w e h = record {
  added = h.added;
  logs = subst (λ (o : Option Entry). Logs o x v h.added w) (sym (heard_log x.rules p e)) h.logs;
  comes = subst (λ (o : Logged registry_machine). Comes o.out r y.rules) (sym (heard_out x.rules p v.current.held (answer_to h.added) e)) h.comes;
  memory = h.memory;
  kept = h.kept;
}

unheard_log : (x : NodeState registry_machine) (p : Sent) → counts x p ≡ false → to_log x p ≡ no_entry
unheard_log x p e = rw e refl

unheard_out : (x : NodeState registry_machine) (p : Sent) (held : ℕ) (answer : Answer) → counts x p ≡ false → receive x p held answer ≡ unlogged (nothing x)
unheard_out x p held answer e = rw e refl

pub unheard : (v : DiskView) (x : MemberState) (p : Sent) (told : Told)
    → counts x.rules p ≡ false → GoesOn (nothing x.rules) x.rules told → Receives v x p (Ok told) x v
unheard v x p told e g = record {
  added = None;
  logs = subst (λ (o : Option Entry). Logs o x v None v) (sym (unheard_log x.rules p e)) refl;
  comes = subst (λ (o : Logged registry_machine). Comes o.out (Ok told) x.rules) (sym (unheard_out x.rules p v.current.held Written e)) g;
  memory = λ out. absurd (cc);
  kept = refl;
}

-- ---- by what it says

alone : (v : DiskView) (x y : MemberState) (from : ℕ) (body : Body) (r : Result Told Stop)
    → body_to_log x.rules from body ≡ no_entry → Goes (hears x.rules from body v.current.held Written).out x.log r y → Hears v x from body r y v
alone v x y from body r none g = record {
  added = None;
  logs = subst (λ (o : Option Entry). Logs o x v None v) (sym none) refl;
  comes = g.comes;
  memory = λ out. absurd (cc);
  kept = g.kept;
}

pub asked_hears : (v : DiskView) (x y : MemberState) (from req : ℕ) (update : Update) (r : Result Told Stop) (w : DiskView)
    → Asks v x from req update r y w → Hears v x from (Ask req update) r y w
asked_hears v x y from req update r w h = record { added = h.added; logs = h.logs; comes = h.comes; memory = h.memory; kept = h.kept }

module _ (v : DiskView) (x y : MemberState) (from : ℕ) (r : Result Told Stop) where
  pub granted_hears : (e : Entry) → Goes (on_granted x.rules e) x.log r y → Hears v x from (Granted e) r y v
  granted_hears e g = alone v x y from (Granted e) r refl g

  pub apply_hears : (e : Entry) → Goes (on_apply x.rules from e) x.log r y → Hears v x from (Apply e) r y v
  apply_hears e g = alone v x y from (Apply e) r refl g

  pub applied_hears : (place : ℕ) → Goes (on_applied x.rules from place) x.log r y → Hears v x from (Applied place) r y v
  applied_hears place g = alone v x y from (Applied place) r refl g

  pub release_hears : (req : ℕ) → Goes (on_release x.rules from req) x.log r y → Hears v x from (Release req) r y v
  release_hears req g = alone v x y from (Release req) r refl g

  pub offer_hears : (count cap : ℕ) (last : Option Entry) → Goes (on_offer x.rules from (record { count = count; cap = cap; last = last })) x.log r y → Hears v x from (Offer count cap last) r y v
  offer_hears count cap last g = alone v x y from (Offer count cap last) r refl g

  pub need_hears : (offset : ℕ) → Goes (on_need x.rules from offset) x.log r y → Hears v x from (Need offset) r y v
  need_hears offset g = alone v x y from (Need offset) r refl g

  pub piece_hears : (total offset : ℕ) (bytes : List ℕ) → Goes (on_piece x.rules total offset bytes) x.log r y → Hears v x from (Piece total offset bytes) r y v
  piece_hears total offset bytes g = alone v x y from (Piece total offset bytes) r refl g

  pub ready_hears : Goes (on_ready x.rules from) x.log r y → Hears v x from Ready r y v
  ready_hears g = alone v x y from Ready r refl g

  pub open_view_hears : Goes (on_open_view x.rules from) x.log r y → Hears v x from OpenView r y v
  open_view_hears g = alone v x y from OpenView r refl g

-- ---- a message that doesn't count

pub unheard_lacks : (v : DiskView) (x : MemberState) (p : Sent) (s : Stop) → counts x.rules p ≡ false → s ≡ stop.Memory → Receives v x p (Err s) x v
unheard_lacks v x p s e is = subst (λ (q : Stop). Receives v x p (Err q) x v) (sym is) (record {
  added = None;
  logs = subst (λ (o : Option Entry). Logs o x v None v) (sym (unheard_log x.rules p e)) refl;
  comes = tt;
  memory = λ out. refl;
  kept = tt;
})

above_zero : (n : ℕ) → nat_lt 0 n ≡ true → 0 < n
above_zero n e = grind arith

second : (a b : Bool) → (a && b) ≡ true → b ≡ true
second true b e = e
second false b e = cc

-- One that counts is from a member.
pub counted_sender : (x : NodeState registry_machine) (p : Sent) → counts x p ≡ true → 0 < inc_of x.join.view.members p.from
counted_sender x p e =
    above_zero (inc_of x.join.view.members p.from) (second (nat_eq p.view x.join.view.number) (nat_lt 0 (inc_of x.join.view.members p.from)) e)
