use Rattle.std.proofs.Common.{◌≡◌, ℕ, List, ◌++◌, length, ap, sym, subst, arith}
use Rattle.std.specs.List.{flat_map}
use Rattle.clus_names.specs.Folding.{name_cmp}
use Rattle.update_records.specs.Spelling.{name_text}
use Rattle.registry_defs.specs.Nodes.{Node, keys_of, name_of, spread}
use Rattle.registry_defs.specs.Rising.{Rising, RisingKeys}
use Rattle.registry_defs.specs.Sections.{subkeys}
use Rattle.registry_defs.specs.Spelling.{key_text, registry_text}
use Rattle.registry_tree.specs.declared.window.Window.{Window}
use Rattle.registry_tree.specs.Windows.{Fills}
use Rattle.registry_tree.proofs.Filling.{fills_then, fills_more, fills_rest, fills_all}
use Rattle.registry_tree.proofs.Spelled.{subkey_text, spelled}
use Rattle.registry_tree.proofs.Subkeys.{fit_kid}
use Rattle.registry_tree.proofs.key.Key.+fill.Goals as goal

pub fill_name-requires-clause-short : goal.fill_name-requires-clause-short
fill_name-requires-clause-short t c =
    let kid = fit_kid c.args.self.now c.deref-key-items.result.now c.subkeys.key-index c.key-item.result c.subkeys.invariant.below c.key-item.is c.subkeys-test.true c.requires.rising c.requires.fields in
    let short = kid.short in
    let named = ap length c.part.ensures in
    omega (arith, short, named)

pub fill-requires : goal.fill-requires
fill-requires t c =
    let kid = fit_kid c.args.self.now c.deref-key-items.result.now c.subkeys.key-index c.key-item.result c.subkeys.invariant.below c.key-item.is c.subkeys-test.true c.requires.rising c.requires.fields in
    let lighter = kid.lighter in
    (omega (arith, lighter, c.decreases), (c.fill_name.ensures.within, (kid.rising, kid.fields)))

pub subkeys-preserved : goal.subkeys-preserved
subkeys-preserved t c = record {
  filled = fills_more subkey_text c.deref-key-items.result.now c.subkeys.key-index c.key-item.result c.key-item.result c.key-item.is c.subkeys-test.true c.fill_alone.ensures.within c.subkeys.invariant.filled
      (fills_then c.subkeys.invariant.filled.within
      (subst (λ part. Fills (name_text part) c.subkeys.window c.subkeys.into c.fill_name.new.window c.fill_name.new.into) c.part.ensures c.fill_name.ensures)
      c.fill.ensures);
  below = c.subkeys.invariant.below;
}

-- the key's own fields and the pieces of its subkeys are its spelling
all_is : (n : Node) (nodes kids : List Node) {w v : Window} {into now : List ℕ} → spread nodes ≡ n.below → nodes ≡ kids → Rising name_cmp name_of kids → RisingKeys (keys_of n)
    → Fills (key_text n.here (length (subkeys (keys_of n))) ++ flat_map subkey_text nodes) w into v now → Fills (registry_text (keys_of n)) w into v now
all_is n nodes kids {w} {v} {into} {now} below are named up fills =
    subst (λ text. Fills text w into v now) (sym (spelled n nodes (sym below) (subst (λ (l : List Node). Rising name_cmp name_of l) (sym are) named) up)) fills

pub returns-then-is_full : goal.returns-then-is_full
returns-then-is_full t c =
    let nodes = c.deref-key-items.result.now in
    let kids = fills_rest subkey_text nodes c.subkeys.key-index c.fill_alone.ensures.within c.subkeys.invariant.filled (c.is_full.ensures c.if-is_full.true) in
    all_is c.args.self.now nodes c.self.inside.subkeys.items c.subkeys.invariant.below c.deref-key-items.ensures.value c.self.invariant.subkeys c.requires.rising (fills_then c.requires.within c.fill_alone.ensures kids)

pub returns : goal.returns
returns t c =
    let nodes = c.deref-key-items.result.now in
    let kids = fills_all subkey_text nodes c.subkeys.key-index c.subkeys-test.false c.subkeys.invariant.filled in
    all_is c.args.self.now nodes c.self.inside.subkeys.items c.subkeys.invariant.below c.deref-key-items.ensures.value c.self.invariant.subkeys c.requires.rising (fills_then c.requires.within c.fill_alone.ensures kids)
