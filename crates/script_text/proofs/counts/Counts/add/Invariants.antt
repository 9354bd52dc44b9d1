use Rattle.std.proofs.Common.{◌≡◌, ◌-◌, length}
use Rattle.std.specs.Prelude.{drop}
use Rattle.script_text.specs.Counting.{HasRoom, counted}
use Rattle.script_text.proofs.counts.Counts.add.Given as goal

abbrev pub invariant-told : goal.invariant-told
invariant-told l = record {
  counted : counted l.self (drop l.one-index l.told) ≡ counted l.initial.self l.told;
  room : HasRoom l.self (length l.told - l.one-index);
}
