use Rattle.std.proofs.Common.{sym, subst}
use Rattle.registry_tree.specs.Windows.{Fills}
use Rattle.registry_tree.proofs.Filling.{fills_then}
use Rattle.registry_tree.proofs.FieldTexts.{birth_alone, birth_and_time}
use Rattle.registry_tree.proofs.windowing.fill_birth.Goals as goal

pub returns-then-written-eq0 : goal.returns-then-written-eq0
returns-then-written-eq0 c =
    subst (λ text. Fills text c.args.window.now c.args.into.now c.put_u64.new.self c.put_u64.new.into) (sym (birth_alone c.args.birth c.args.written c.if-written-eq0.true)) c.put_u64.ensures

pub returns : goal.returns
returns c =
    subst (λ text. Fills text c.args.window.now c.args.into.now c.put_u64-3.new.self c.put_u64-3.new.into) (sym (birth_and_time c.args.birth c.args.written c.if-written-eq0.false))
    (fills_then c.requires.within c.put_u64-2.ensures c.put_u64-3.ensures)
