use Rattle.std.proofs.Common.{◌<◌, ◌≢◌, [], ◌∷◌, length, sym, ◌∙◌, arith}
use Rattle.std.proofs.lemmas.Bool.Decides.{nat_tests}
use Rattle.clus_names.specs.UnitTexts.{dot, escape}
use Rattle.clus_names.proofs.UnitLaws.{has_text, never_empty, gives, lacks, finds, refuses, dot_lacks, dot_found, dot_gives, dot_refuses}
use Rattle.clus_names.proofs.unit_reading.read_units.Goals as goal

pub returns-then-is_empty-clause-only : goal.returns-then-is_empty-clause-only
returns-then-is_empty-clause-only c = λ units good is. never_empty units c.args.text.now good is (grind (arith, nat_tests))

pub returns-then-is_dot-clause-only : goal.returns-then-is_dot-clause-only
returns-then-is_dot-clause-only c = λ units good is. c.new.ensures.items ∙ sym ((has_text units c.args.text.now good is).dot_text (c.is_dot.ensures.0 c.if-is_dot.true))

pub returns-clause-no_zero : goal.returns-clause-no_zero
returns-clause-no_zero c = lacks (λ units. units.items) c.read_pieces.result c.read_pieces.ensures.units

pub returns-clause-found : goal.returns-clause-found
returns-clause-found c =
    let text = c.args.text.now in
    let some : 0 < length text = grind (arith, nat_tests) in
    let other : text ≢ dot ∷ [] = λ is. absurd (cc (c.is_dot.ensures.1 is, c.if-is_dot.false)) in
    finds (λ units. units.items) c.read_pieces.result text c.read_pieces.ensures.found some other

pub returns-clause-only : goal.returns-clause-only
returns-clause-only c = λ units good is.
    let text = c.args.text.now in
    let no_dot : text ≢ dot ∷ [] = λ at. absurd (cc (c.is_dot.ensures.1 at, c.if-is_dot.false)) in
    let no_escape : text ≢ escape dot = λ at. absurd (cc (c.is_escaped_dot.ensures.1 at, c.if-is_escaped_dot.false)) in
    gives (λ given. given.items) c.read_pieces.result text units c.read_pieces.ensures.units c.read_pieces.ensures.found c.read_pieces.ensures.fault good ((has_text units text good is).others no_dot no_escape)

pub returns-clause-fault : goal.returns-clause-fault
returns-clause-fault c =
    let text = c.args.text.now in
    let no_escape : text ≢ escape dot = λ at. absurd (cc (c.is_escaped_dot.ensures.1 at, c.if-is_escaped_dot.false)) in
    refuses c.read_pieces.result text c.read_pieces.ensures.fault no_escape

pub returns-then-is_escaped_dot-clause-no_zero : goal.returns-then-is_escaped_dot-clause-no_zero
returns-then-is_escaped_dot-clause-no_zero c = dot_lacks (λ units. units.items) c.one_dot.result c.one_dot.ensures.found

pub returns-then-is_escaped_dot-clause-found : goal.returns-then-is_escaped_dot-clause-found
returns-then-is_escaped_dot-clause-found c = dot_found (λ units. units.items) c.one_dot.result c.args.text.now c.one_dot.ensures.found (c.is_escaped_dot.ensures.0 c.if-is_escaped_dot.true)

pub returns-then-is_escaped_dot-clause-only : goal.returns-then-is_escaped_dot-clause-only
returns-then-is_escaped_dot-clause-only c = λ units good is.
    dot_gives (λ given. given.items) c.one_dot.result c.args.text.now units c.one_dot.ensures.found c.one_dot.ensures.fault (c.is_escaped_dot.ensures.0 c.if-is_escaped_dot.true) good is

pub returns-then-is_escaped_dot-clause-fault : goal.returns-then-is_escaped_dot-clause-fault
returns-then-is_escaped_dot-clause-fault c = dot_refuses c.one_dot.result c.args.text.now c.one_dot.ensures.fault
