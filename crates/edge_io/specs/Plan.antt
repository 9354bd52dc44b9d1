-- Which calls of an object in memory fail, and the counts of its calls and faults.
use Rattle.std.specs.Prelude.{ℕ, ◌+◌, ◌-◌, ◌^◌, ◌==◌, min, Bool, List}
use Rattle.std.specs.List.{list_any}

pub record Plan : Type 0 where
  -- the numbers of the calls that fail, counted from 1
  pub failing : List ℕ
  pub calls : ℕ
  pub faults : ℕ

abbrev pub fresh_plan : List ℕ → Plan
fresh_plan failing = record { failing = failing; calls = 0; faults = 0 }

-- the count after one more; a count stays at the end of its type
abbrev pub one_more : ℕ → ℕ
one_more count = min (count + 1) (2 ^ 64 - 1)

-- the number of the next call is listed
abbrev pub next_fails : Plan → Bool
next_fails plan = list_any (λ number. number == one_more plan.calls) plan.failing

abbrev pub after_call : Plan → Plan
after_call plan = record plan { calls = one_more plan.calls }

abbrev pub after_fault : Plan → Plan
after_fault plan = record plan { faults = one_more plan.faults }
