use Rattle.std.proofs.Common.{◌≡◌, rules, sym, subst}
use Rattle.gum_core.specs.declared.decision.Decision.TheVariants as decision
use Rattle.gum_core.specs.Updating.{asked}
use Rattle.cluster_rules.specs.Nodes.{done_of, number_of}
use Rattle.cluster_rules.specs.Updates.{entry_for}
use Rattle.cluster_member.specs.States.{MemberState, OwnsLog}
use Rattle.cluster_member.proofs.Owning.{open_owns}
use Rattle.cluster_member.proofs.Writings.{ask_write_lacks, ask_writes}
use Rattle.cluster_member.proofs.member.Member.ask.Goals as goal

pub returns-in_err-entry-in-Write-clause-asks : goal.returns-in_err-entry-in-Write-clause-asks
returns-in_err-entry-in-Write-clause-asks g c =
    let is = subst (λ (m : MemberState). asked m.rules.core c.args.from c.args.req (done_of m.rules) ≡ decision.Write c.in-Write.from c.in-Write.req) c.self.view_is (sym c.in-Write.ensures.asked) in
    let owns = subst (λ (m : MemberState). OwnsLog (number_of m.rules) m.rules.replica m.rules.last m.log) c.self.view_is
    (open_owns c.self.inside.rules c.self.inside.log c.self.invariant c.in-Write.ensures.here.0 c.in-Write.ensures.here.1) in
    let lacks = ask_write_lacks (g.D.Disk.view c.args.disk.now) c.args.self.now c.args.from c.args.req c.in-Write.from c.in-Write.req c.args.update.now is in
    search rules

pub write-requires-clause-owns : goal.write-requires-clause-owns
write-requires-clause-owns g c =
    subst (λ (m : MemberState). OwnsLog (number_of m.rules) m.rules.replica m.rules.last m.log) c.self.view_is
    (open_owns c.self.inside.rules c.self.inside.log c.self.invariant c.in-Write.ensures.here.0 c.in-Write.ensures.here.1)

pub returns-in_ok-entry-in-Write-clause-asks : goal.returns-in_ok-entry-in-Write-clause-asks
returns-in_ok-entry-in-Write-clause-asks g c =
    let is = subst (λ (m : MemberState). asked m.rules.core c.args.from c.args.req (done_of m.rules) ≡ decision.Write c.in-Write.from c.in-Write.req) c.self.view_is (sym c.in-Write.ensures.asked) in
    let entry = subst (λ (m : MemberState). c.in_ok-entry-in-Write.entry ≡ entry_for m.rules c.in-Write.from c.in-Write.req c.args.update.now) c.self.view_is c.in_ok-entry-in-Write.ensures in
    ask_writes (g.D.Disk.view c.args.disk.now) c.args.self.now c.args.from c.args.req c.in-Write.from c.in-Write.req c.args.update.now is
    c.write.result c.write.new.self (g.D.Disk.view c.write.new.disk) c.in_ok-entry-in-Write.entry entry c.write.ensures.writes
