use Rattle.std.proofs.Common.{◌≡◌, Some, None, ap, sym, ◌∙◌}
use Rattle.client_commands.specs.Words.{name_in, units_of}
use Rattle.client_commands.proofs.UnitsRead.{names_fit, units_found, units_refused}
use Rattle.client_commands.proofs.words.name.Goals as goal

pub returns-in-Ok-clause-name : goal.returns-in-Ok-clause-name
returns-in-Ok-clause-name c =
    let found : units_of c.args.word.now ≡ Some c.in-Ok.units.items = units_found c.in-Ok.units.items c.args.word.now c.short.ensures.units c.in-Ok.ensures.found in
    c.short.ensures.short ∙ sym (ap name_in found)

pub returns-in-Ok-clause-fits : goal.returns-in-Ok-clause-fits
returns-in-Ok-clause-fits c = names_fit c.short.result c.in-Ok.units.items c.short.ensures.units c.short.ensures.short

pub returns-in-Err-Bad-clause-name : goal.returns-in-Err-Bad-clause-name
returns-in-Err-Bad-clause-name c =
    let none : units_of c.args.word.now ≡ None = units_refused c.args.word.now c.in-Err-Bad.field-0-0 (rw c.in-Err-Bad.field-0-is at c.in-Err-Bad.ensures.fault) in
    sym (ap name_in none)
