use Rattle.std.proofs.Common.{◌≡◌, true, false, sym, ap, ◌∙◌}
use Rattle.std.specs.Vec.Iter.{into_iter_items}
use Rattle.registry_states.specs.Ahead.{is_nothing}
use Rattle.registry_states.specs.Builds.{Place}
use Rattle.registry_states.proofs.Building.{ends_cut, ends_done, ends_fault, ends_tree, none_of}
use Rattle.registry_states.proofs.build.TreeBuild.finish.Goals as goal

pub returns-in-Some : goal.returns-in-Some
returns-in-Some c =
    rw (← c.self.view_is) (ends_fault c.self.inside.cap c.self.inside.items.items c.self.inside.standing c.self.inside.fault c.in-Some.place c.in-Some.is)

pub returns-then-not-is_done : goal.returns-then-not-is_done
returns-then-not-is_done c =
    let none = none_of c.self.inside.fault c.in_default.not-Some in
    let some : is_nothing c.self.inside.standing.ahead.next ≡ false = ap (λ (place : Place). is_nothing place.ahead.next) (sym c.standing.view_is) ∙ sym c.is_done.ensures ∙ c.if-not-is_done.true in
    let cut : c.standing.inside.cut ≡ c.self.inside.standing.cut = ap (λ (place : Place). place.cut) c.standing.view_is in
    rw (cut, ← c.self.view_is) (ends_cut c.self.inside.cap c.self.inside.items.items c.self.inside.standing c.self.inside.fault none some)

pub assemble-requires : goal.assemble-requires
assemble-requires c =
    let none = none_of c.self.inside.fault c.in_default.not-Some in
    let done : is_nothing c.self.inside.standing.ahead.next ≡ true = ap (λ (place : Place). is_nothing place.ahead.next) (sym c.standing.view_is) ∙ sym c.is_done.ensures ∙ c.if-not-is_done.false in
    rw c.into_iter-items.ensures.rest (ends_tree c.self.inside.cap c.self.inside.items.items c.self.inside.standing c.self.inside.fault none done c.self.invariant)

pub returns : goal.returns
returns c =
    let none = none_of c.self.inside.fault c.in_default.not-Some in
    let done : is_nothing c.self.inside.standing.ahead.next ≡ true = ap (λ (place : Place). is_nothing place.ahead.next) (sym c.standing.view_is) ∙ sym c.is_done.ensures ∙ c.if-not-is_done.false in
    let tree = rw c.into_iter-items.ensures.rest at c.in_ok-assemble.ensures in
    rw (← c.self.view_is)
    (ends_done c.self.inside.cap c.self.inside.items.items c.self.inside.standing c.self.inside.fault none c.in_ok-assemble.field-0 (into_iter_items c.assemble.new.items) done tree)
