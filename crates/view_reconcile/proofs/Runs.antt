-- The rules of joining, seen to run: two views, each event by its rule.
use Rattle.std.proofs.Common.{◌≡◌, ℕ, Bool, true, false, List, [], ◌∷◌, Some, None, refl}
use Rattle.gum_messages.specs.declared.member.Member.{Member}
use Rattle.gum_messages.specs.declared.view.View.{View}
use Rattle.view_reconcile.specs.declared.step.Step.{Step}
use Rattle.view_reconcile.specs.declared.step.Step.TheVariants as step
use Rattle.view_reconcile.specs.declared.chain_fault.ChainFault.TheVariants.{Returned}
use Rattle.view_reconcile.specs.Chains.{fault_of}
use Rattle.view_reconcile.specs.Joining.{ReconcileState, fresh, installed, is_open, offered, opened, piece_length, pulled, readied, taken, ticked}

abbrev member : ℕ → ℕ → Member
member node inc = record { node = node; inc = inc }

-- A view of node 1 alone, over an empty log.
abbrev alone : View
alone = record { number = 1; members = member 1 1 ∷ [] }

abbrev alone_installed : ReconcileState × Bool
alone_installed = installed (fresh 1 1) alone

abbrev alone_offered : ReconcileState × Step
alone_offered = offered alone_installed.0 0 None None

abbrev alone_taken : ReconcileState × Step
alone_taken = taken alone_offered.0 true

-- It takes the recovered state and opens.
pub one_member : alone_offered.1 ∷ alone_taken.1 ∷ ticked alone_taken.0 ∷ [] ≡ step.Pull 0 ∷ step.Open ∷ step.Nothing ∷ []
one_member = refl

pub one_member_opens : fault_of [] alone ≡ None × alone_installed.1 ≡ true × is_open alone_taken.0 ≡ true
one_member_opens = (refl, refl, refl)

-- A view of nodes 1 and 2.
abbrev both : View
both = record { number = 2; members = member 1 1 ∷ member 2 1 ∷ [] }

abbrev locker_ready : ReconcileState × Step
locker_ready = taken (offered (installed alone_taken.0 both).0 3 (Some 3) (Some 2)).0 true

-- The locker applies its log's last record, and offers to node 2.
pub locker_offers : (offered (installed alone_taken.0 both).0 3 (Some 3) (Some 2)).1 ∷ locker_ready.1 ∷ ticked locker_ready.0 ∷ [] ≡ step.ApplyLast ∷ step.Ready ∷ step.OfferTo 1 ∷ []
locker_offers = refl

abbrev member_pulls : ReconcileState × Step
member_pulls = offered (installed (fresh 2 1) both).0 3 (Some 3) None

abbrev member_goes_on : ReconcileState × Step
member_goes_on = pulled member_pulls.0 5000 0 4096

-- Offered again, it asks for the next piece and keeps what it has.
pub offered_again : offered member_goes_on.0 3 (Some 3) None ≡ (member_goes_on.0, step.Pull 4096)
offered_again = refl

abbrev member_whole : ReconcileState × Step
member_whole = pulled member_goes_on.0 5000 4096 904

abbrev member_ready : ReconcileState × Step
member_ready = taken member_whole.0 true

-- Node 2 pulls a state in two pieces and is ready.
pub member_joins : member_pulls.1 ∷ member_goes_on.1 ∷ member_whole.1 ∷ member_ready.1 ∷ ticked member_ready.0 ∷ [] ≡ step.Pull 0 ∷ step.Pull 4096 ∷ step.Whole ∷ step.Ready ∷ step.Ready ∷ []
member_joins = refl

pub pieces : piece_length 5000 0 ∷ piece_length 5000 4096 ∷ [] ≡ Some 4096 ∷ Some 904 ∷ []
pieces = refl

abbrev locker_opens : ReconcileState × Step
locker_opens = readied locker_ready.0 2

-- The locker opens, then node 2, and a Ready that comes again is answered again.
pub both_open : locker_opens.1 ∷ (readied locker_opens.0 2).1 ∷ ticked locker_opens.0 ∷ [] ≡ step.Open ∷ step.OpenAgain 2 ∷ step.Nothing ∷ []
both_open = refl

pub member_opens : (opened member_ready.0).1 ∷ is_open (opened member_ready.0).0 ∷ (opened locker_opens.0).1 ∷ [] ≡ true ∷ true ∷ false ∷ []
member_opens = refl

-- Node 2 left, and doesn't come back in the same incarnation, but in a later one.
abbrev left : List View
left = record { number = 1; members = member 1 1 ∷ member 2 1 ∷ [] } ∷ record { number = 2; members = member 1 1 ∷ [] } ∷ []

abbrev third : ℕ → View
third inc = record { number = 3; members = member 1 1 ∷ member 2 inc ∷ [] }

pub no_return : fault_of left (third 1) ∷ fault_of left (third 2) ∷ [] ≡ Some (Returned 2 1) ∷ None ∷ []
no_return = refl
