use Rattle.std.proofs.Common.{◌+◌, [], List, ℕ, rules, arith, length, refl, sym, ap, ◌∙◌, subst}
use Rattle.asking.specs.Asking.{Comes, edges}
use Rattle.asking.specs.Conversations.{parted}
use Rattle.asking.specs.Inputs.{Parsed, behind, parsed_from}
use Rattle.asking.proofs.LineLaws.{few_lines}
use Rattle.asking.proofs.RunLaws.{line_split, none_left}
use Rattle.asking.proofs.running.run_lines.Goals as goal

pub lines-init : goal.lines-init
lines-init g c =
    rw c.new-lines.ensures
    (record { idle = c.requires.idle; few = omega (arith, few_lines c.args.text.now); so_far = λ origin resting. ([], resting, refl); later = search rules })

pub returns-in_default-clause-comes : goal.returns-in_default-clause-comes
returns-in_default-clause-comes g c = λ origin resting.
    let here = c.lines.invariant.so_far origin resting in
    none_left origin here.0 c.lines.client (g.K.Sink.written c.lines.output) (g.G.Door.visits c.lines.door) c.lines.number c.lines.lines c.args.text.now c.in_default.ensures.none here.2 here.1

pub returns-in-Err-clause-comes : goal.returns-in-Err-clause-comes
returns-in-Err-clause-comes g c = λ origin resting.
    let here = c.lines.invariant.so_far origin resting in
    let others = parsed_from (c.lines.number + 1) c.next.new.self in
    let now = parted (edges (g.K.Sink.written c.run_line.new.output) (g.G.Door.visits c.run_line.new.door)) in
    let P : Parsed → Type 0 = λ read. Comes c.in-Err.asked read origin now in
    let whole = here.2 ∙ ap (λ (p : Parsed). behind here.0 p) (line_split c.lines.number c.in-Some.line.now c.next.new.self c.lines.lines c.in-Some.ensures.line) in
    subst P (sym whole) (c.in-Err.ensures.runs origin here.0 others here.1)

pub lines-preserved : goal.lines-preserved
lines-preserved g c = record {
  idle = search rules;
  few = omega (arith, c.lines.invariant.few, ap (λ (ls : List (List ℕ)). length ls) c.in-Some.ensures.line);
  so_far = λ origin resting.
      let here = c.lines.invariant.so_far origin resting in
      let others = parsed_from (c.lines.number + 1) c.next.new.self in
      let ran = c.in-Ok.ensures.runs origin here.0 others here.1 in
      (ran.0, ran.1, here.2 ∙ ap (λ (p : Parsed). behind here.0 p) (line_split c.lines.number c.in-Some.line.now c.next.new.self c.lines.lines c.in-Some.ensures.line) ∙ ran.2);
  later = search rules;
}
