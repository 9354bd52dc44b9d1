-- The root, with which a walk begins.
use Rattle.std.proofs.Common.{◌≡◌, ℕ, ◌+◌, ◌≤◌, true, false, cond, List, [], ◌∷◌, length, refl, sym, ap, ◌∙◌, arith}
use Rattle.std.specs.Prelude.{reverse, ◌==◌}
use Rattle.registry_defs.specs.Limits.{IsKey}
use Rattle.registry_defs.specs.Nodes.{Node, keys_of}
use Rattle.registry_defs.specs.Sizes.{size, written_size}
use Rattle.hive_text.specs.LineWords.{IsLine}
use Rattle.hive_text.specs.Standings.{Follows, begun_key, behind, nothing_named}
use Rattle.hive_text.specs.Walks.{IsWalk, keys_in, level_node, levels_of, open_count, path_of, prefixed, standing_at, used_by}
use Rattle.hive_text.specs.declared.line.Line.{Line}
use Rattle.hive_text.specs.declared.line.Line.TheVariants as lines
use Rattle.hive_text.specs.declared.walk.Level.{Level}
use Rattle.hive_text.specs.declared.walk.Walk.{Walk}
use Rattle.hive_text.proofs.Fronts.{one_key}

small_time : (written : ℕ) → written_size written ≤ 8
small_time written = elim (written == 0) as (λ b. cond b 0 8 ≤ 8) [ true ↦ omega arith | false ↦ omega arith ]

module _ (part : List ℕ) (birth written : ℕ) where
  abbrev line : Line
  line = lines.Key part birth written

  root_key : IsLine line → part ≡ [] → birth ≡ 0 → IsKey [] (begun_key part birth written)
  root_key fits none zero_is = record {
    named = (none, zero_is);
    under_name = tt;
    short = omega arith;
    written = fits.2;
    values = record { rising = refl; under_names = tt; limits = tt };
  }

  root_size : size (([], begun_key part birth written) ∷ []) ≡ 16 + written_size written
  root_size = omega arith

  pub root_follows : (cap : ℕ) → IsLine line → 4096 ≤ cap → part ≡ [] → birth ≡ 0 → Follows cap nothing_named line
  root_follows cap fits large none zero_is =
      (record { place = tt; limits = root_key fits none zero_is; above = tt }, omega (arith, root_size, small_time written, large))

  pub no_root : (cap : ℕ) → Follows cap nothing_named line → (part ≡ []) × (birth ≡ 0)
  no_root cap follows = follows.0.limits.named

  pub root_walk : (cap : ℕ) (walk : Walk) → IsLine line → 4096 ≤ cap → cap ≤ 16777216 → part ≡ [] → birth ≡ 0
      → walk.cap ≡ cap → walk.above.items ≡ [] → walk.ended ≡ false → walk.size ≡ 16 + written_size written → walk.used ≡ 0
      → walk.here.part ≡ part → walk.here.birth ≡ birth → walk.here.written ≡ written → walk.here.values.items ≡ [] → walk.here.subkeys.items ≡ []
      → IsWalk walk (behind line nothing_named)
  root_walk cap walk fits large most none zero_is same_cap above open_now counted used p b w v k =
      let levels : levels_of walk ≡ walk.here ∷ [] = ap (λ (l : List Level). walk.here ∷ reverse l) above in
      let node : level_node walk.here ≡ record { here = begun_key part birth written; below = [] } = rw (p, b, w, v, k) refl in
      let keys_now : keys_in (levels_of walk) ≡ ([], begun_key part birth written) ∷ [] = ap keys_in levels ∙ ap (λ (n : Node). prefixed [] (keys_of n)) node in
      record {
        before = [];
        last = ([], begun_key part birth written);
        standing_is = ap (λ (l : List Level). standing_at [] ([], begun_key part birth written) (length l + 1)) (sym above)
            ∙ ap (λ e. standing_at [] ([], begun_key part birth written) (open_count e (length walk.above.items))) (sym open_now);
        keys_are = sym keys_now;
        registry = one_key (begun_key part birth written) (root_key fits none zero_is);
        counted = counted ∙ sym root_size;
        fits = omega (arith, counted, small_time written, large, same_cap);
        most = omega (arith, most, same_cap);
        path_counted = used ∙ ap (λ (l : List Level). used_by (path_of l)) (sym levels);
        short = omega (arith, used);
        root_alone = λ _. above;
      }
