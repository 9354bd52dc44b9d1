-- What an association keeps.
use Rattle.std.specs.Prelude.{◌≡◌, ℕ, ◌≤◌, List, [], Option, None, Some}
use Rattle.std.specs.Option.{option_map}
use Rattle.rpc_assoc.specs.declared.terms.Terms.{Terms}

-- The terms of its bind_ack, once there is one, and the contexts that were accepted.
pub record State : Type 0 where
  pub terms : Option Terms
  pub accepted : List ℕ

abbrev pub unbound : State
unbound = record { terms = None; accepted = [] }

-- Fragments have at least 1,432 bytes, which each implementation must take (C706, 12.6.3.1), and at most 5,840.
abbrev pub AreTerms : Terms → Type 0
AreTerms terms = (1432 ≤ terms.max_xmit) × (terms.max_xmit ≤ 5840) × (1432 ≤ terms.max_recv) × (terms.max_recv ≤ 5840)

-- The association group, once the connection is bound.
abbrev pub group_of : State → Option ℕ
group_of s = option_map (λ terms. terms.group) s.terms

-- Before there are terms no context is accepted.
abbrev pub AcceptsBy : Option Terms → List ℕ → Type 0
AcceptsBy None accepted = accepted ≡ []
AcceptsBy (Some terms) accepted = Unit {0}
