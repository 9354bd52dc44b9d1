-- The rules of Global Update, seen to run: an update in a view of one member, and one of the second member in a view of two.
use Rattle.std.proofs.Common.{◌≡◌, ℕ, [], ◌∷◌, Some, None, refl}
use Rattle.gum_messages.specs.declared.member.Member.{Member}
use Rattle.gum_messages.specs.declared.view.View.{View}
use Rattle.update_records.specs.declared.update.Update.{Update}
use Rattle.gum_core.specs.declared.decision.Decision.TheVariants.{Nothing, Ask, Write, Grant, Spread, Finish, Free, ReleaseAgain, Take, Again}
use Rattle.gum_core.specs.Updating.{CoreState, applied, applying, asked, entered, fresh, granted, logged, opened, released, submitted, ticked}

abbrev member : ℕ → ℕ → Member
member node inc = record { node = node; inc = inc }

-- Node 1 alone: its update is asked for, logged, granted and finished at once.
module _ (u : Update) where
  abbrev alone : CoreState
  alone = (opened (entered (fresh 1) (record { number = 1; members = member 1 1 ∷ [] })) None).0

  abbrev alone_submitted : CoreState
  alone_submitted = (submitted alone u).0

  abbrev alone_logged : CoreState
  alone_logged = (logged alone_submitted 1 1 1).0

  abbrev alone_finished : CoreState
  alone_finished = (granted alone_logged 1 1).0

  pub one_member : (submitted alone u).1.1 ∷ asked alone_submitted 1 1 0 ∷ (logged alone_submitted 1 1 1).1 ∷ (granted alone_logged 1 1).1 ∷ (released alone_finished 1 1).1 ∷ [] ≡ Ask 1 ∷ Write 1 1 ∷ Grant 1 1 1 ∷ Finish 1 1 None ∷ Free ∷ []
  one_member = refl

-- Nodes 1 and 2: node 2 submits two updates, and node 1 logs the first.
module _ (u w : Update) where
  abbrev both : View
  both = record { number = 2; members = member 1 1 ∷ member 2 1 ∷ [] }

  abbrev locker : CoreState
  locker = (opened (entered (fresh 1) both) None).0

  abbrev sender : CoreState
  sender = (submitted (submitted (opened (entered (fresh 2) both) None).0 u).0 w).0

  abbrev locker_logged : CoreState
  locker_logged = (logged locker 2 1 4).0

  -- Asked again it grants again, and logs nothing for another node while the lock is held.
  pub locker_logs : ticked sender ∷ asked locker 2 1 3 ∷ (logged locker 2 1 4).1 ∷ asked locker_logged 2 1 4 ∷ asked locker_logged 1 1 4 ∷ [] ≡ Ask 1 ∷ Write 2 1 ∷ Grant 2 1 4 ∷ Grant 2 1 4 ∷ Nothing ∷ []
  locker_logs = refl

  abbrev spreads : CoreState
  spreads = (granted sender 1 4).0

  -- The record goes to node 2 alone, which is the one member behind the locker; then the sender finishes.
  pub sender_spreads : (granted sender 1 4).1 ∷ ticked spreads ∷ applying 3 4 ∷ applying 4 4 ∷ (applied spreads 1 4).1 ∷ (applied spreads 2 4).1 ∷ (granted (applied spreads 2 4).0 1 4).1 ∷ [] ≡ Spread 2 4 ∷ Spread 2 4 ∷ Take ∷ Again ∷ Nothing ∷ Finish 1 4 (Some 2) ∷ ReleaseAgain 1 ∷ []
  sender_spreads = refl

  -- The lock is released by its holder's request alone, and the finished request isn't logged again.
  pub locker_frees : (released locker_logged 2 2).1 ∷ (released locker_logged 2 1).1 ∷ asked (released locker_logged 2 1).0 2 1 4 ∷ asked (released locker_logged 2 1).0 2 2 4 ∷ [] ≡ Nothing ∷ Free ∷ Nothing ∷ Write 2 2 ∷ []
  locker_frees = refl
