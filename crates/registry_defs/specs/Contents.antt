-- A registry as contracts see it: a finite map from folded paths to keys, and the size that it may have.
use Rattle.std.specs.Prelude.{ℕ, ◌≤◌, List, refl}
use Rattle.std.specs.FinMap.{FinMap, entries}
use Rattle.std.specs.FinMap as finite
use Rattle.std.specs.Coded.{Coded, code_by, coded×, coded_list, coded_ℕ}
use Rattle.clus_names.specs.Folding.{path_cmp}
use Rattle.registry_defs.specs.Keys.{ValueData, Values, KeyData, Keys}

-- The sizes that a registry may be given as its cap, in bytes.
abbrev pub IsCap : ℕ → Type 0
IsCap cap = (4096 ≤ cap) × (cap ≤ 16777216)

pub record Contents : Type 0 where
  pub cap : ℕ
  pub keys : FinMap path_cmp KeyData

-- The keys in ascending order of their paths.
abbrev pub keys_in : Contents → Keys
keys_in contents = entries contents.keys

-- ---- codes, which a model's value has

abbrev pub coded_value : Coded (List ℕ × ValueData)
coded_value =
    coded× (coded_list coded_ℕ)
    (code_by (List ℕ × (ℕ × List ℕ)) (coded× (coded_list coded_ℕ) (coded× coded_ℕ (coded_list coded_ℕ)))
    (λ v. (v.name, (v.kind, v.bytes)))
    (λ p. record { name = p.0; kind = p.1.0; bytes = p.1.1 })
    (λ _. refl))

abbrev pub coded_key : Coded KeyData
coded_key =
    code_by (List ℕ × (ℕ × (ℕ × Values))) (coded× (coded_list coded_ℕ) (coded× coded_ℕ (coded× coded_ℕ (coded_list coded_value))))
    (λ k. (k.part, (k.birth, (k.written, k.values))))
    (λ p. record { part = p.0; birth = p.1.0; written = p.1.1.0; values = p.1.1.1 })
    (λ _. refl)

abbrev pub coded_contents : Coded Contents
coded_contents =
    code_by (ℕ × FinMap path_cmp KeyData) (coded× coded_ℕ (finite.code (coded_list (coded_list coded_ℕ)) coded_key))
    (λ c. (c.cap, c.keys))
    (λ p. record { cap = p.0; keys = p.1 })
    (λ _. refl)
