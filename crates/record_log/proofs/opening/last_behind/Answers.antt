use Rattle.std.proofs.Common.{◌∙◌, sym, ap}
use Rattle.update_records.specs.Entry.{Entry}
use Rattle.std.specs.Prelude.{List}
use Rattle.log_order.specs.Orders.{last_behind}
use Rattle.record_log.proofs.Lasts.{last_of_more}
use Rattle.record_log.proofs.opening.last_behind.Goals as goal

pub returns-in-Some : goal.returns-in-Some
returns-in-Some c =
    sym (ap (λ (l : List Entry). last_behind c.args.before l) (sym c.into_vec-items.ensures ∙ c.in-Some.ensures.items) ∙ last_of_more c.args.before c.pop.new.self.items c.in-Some.last)
