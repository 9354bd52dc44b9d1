use Rattle.std.proofs.Common.{inl, inr}
use Rattle.gum_messages.specs.Spelling.{body_text}
use Rattle.gum_messages.proofs.BodyLaws.{nothing_put}
use Rattle.gum_messages.proofs.encoding.put_body.Goals as goal

pub returns-in-Ready-clause-written : goal.returns-in-Ready-clause-written
unfolding body_text
returns-in-Ready-clause-written c = elim c.in-Ready.is [
  | inl is ↦ rw is (nothing_put c.args.put.now c.requires.order)
  | inr is ↦ rw is (nothing_put c.args.put.now c.requires.order)
]

pub returns-in-Ready-2-clause-written : goal.returns-in-Ready-2-clause-written
unfolding body_text
returns-in-Ready-2-clause-written c = elim c.in-Ready.is [
  | inl is ↦ rw is (nothing_put c.args.put.now c.requires.order)
  | inr is ↦ rw is (nothing_put c.args.put.now c.requires.order)
]
