use Rattle.std.proofs.Common.{arith, sym}
use Rattle.script_player.proofs.Marking.{lowest_here, lowest_nowhere, within}
use Rattle.script_player.proofs.marks.Marks.lowest.Goals as goal

pub first_unmarked-requires : goal.first_unmarked-requires
first_unmarked-requires c = let far = within c.self.inside.marks.items in rw c.as_slice.ensures.value (omega (arith, far, c.self.invariant))

pub invariant_of-self : goal.invariant_of-self
invariant_of-self c = let first = rw c.as_slice.ensures.value at c.in-Some.ensures.first in (lowest_here _ c.in-Some.place c.self.inside.marks.items c.self.invariant (sym first)).0

pub invariant_of-self-in-None : goal.invariant_of-self-in-None
invariant_of-self-in-None c =
    let first = rw c.as_slice.ensures.value at c.in-None.ensures.first in
    let past = (lowest_nowhere _ c.self.inside.marks.items c.self.invariant (sym first)).0 in
    omega (arith, c.len-self-inside.ensures, past, c.self.inside.marks.ok)

pub returns-in-Some-clause-lowest : goal.returns-in-Some-clause-lowest
returns-in-Some-clause-lowest c = let first = rw c.as_slice.ensures.value at c.in-Some.ensures.first in rw (← c.self.view_is) ((lowest_here _ c.in-Some.place c.self.inside.marks.items c.self.invariant (sym first)).1)

pub returns-in-None-clause-lowest : goal.returns-in-None-clause-lowest
returns-in-None-clause-lowest c = let first = rw c.as_slice.ensures.value at c.in-None.ensures.first in rw (← c.self.view_is) ((lowest_nowhere _ c.self.inside.marks.items c.self.invariant (sym first)).1)
