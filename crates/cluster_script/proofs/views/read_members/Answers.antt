use Rattle.std.proofs.Common.{◌≡◌, List, rules, subst, sym}
use Rattle.gum_messages.specs.declared.member.Member.{Member}
use Rattle.cluster_script.specs.Reading.{members_at}
use Rattle.cluster_script.proofs.Members.{Rises, all_rise, fails_as, goes_on, is_done, rises_on, some_left, with_front}
use Rattle.cluster_script.proofs.views.read_members.Goals as goal

pub returns-in-Err-clause-members : goal.returns-in-Err-clause-members
returns-in-Err-clause-members c =
    fails_as c.in-Err.fault c.members.floor c.members.words c.member.new.self c.members.members.items (members_at 0 c.args.words.now) c.in-Err.ensures.member
    (some_left c.members.words.left (search rules)) c.members.invariant.read

pub members-smaller : goal.members-smaller
members-smaller c =
    (goes_on c.members.floor c.members.words c.member.new.self c.in-Ok.member c.members.members.items (members_at 0 c.args.words.now) c.in-Ok.ensures.member c.members.invariant.read).1

pub members-preserved : goal.members-preserved
members-preserved c =
    let above = c.in-Ok.ensures.above in
    let on = goes_on c.members.floor c.members.words c.member.new.self c.in-Ok.member c.members.members.items (members_at 0 c.args.words.now) c.in-Ok.ensures.member c.members.invariant.read in
    record {
      read = subst (λ (l : List Member). with_front l (members_at c.in-Ok.member.node c.member.new.self) ≡ members_at 0 c.args.words.now) (sym c.in_ok-push.ensures.items) on.0;
      within = above.1;
      rises = subst (λ (l : List Member). Rises l c.in-Ok.member.node) (sym c.in_ok-push.ensures.items)
          (rises_on c.members.members.items c.members.floor c.in-Ok.member c.members.invariant.rises above.0 above.1 above.2);
    }

pub returns-clause-members : goal.returns-clause-members
returns-clause-members c = is_done c.members.floor c.members.words c.members.members.items (members_at 0 c.args.words.now) (search rules) c.members.invariant.read

pub returns-clause-ascending : goal.returns-clause-ascending
returns-clause-ascending c = all_rise c.members.members.items c.members.floor c.members.invariant.rises
