-- A line is its words, and different lines have different texts.
use Rattle.std.proofs.Common.{◌≡◌, ◌≢◌, ℕ, zero, suc, ◌+◌, ◌-◌, ◌<◌, ◌^◌, List, [], ◌∷◌, ◌++◌, length, map, refl, sym, ap, subst, ◌∙◌, append_assoc, All, arith}
use Rattle.std.specs.Prelude.{codes}
use Rattle.std.specs.Fmt.{decimal}
use Rattle.std.specs.List.{AllByRecursion}
use Rattle.std.proofs.lemmas.Fmt.{decimal_injective}
use Rattle.std.proofs.lemmas.Grind.{flat_map-append}
use Rattle.std.proofs.lemmas.List.Elements.{All-nil, All-cons, All-head, All-tail}
use Rattle.hex.specs.Hex.{decode_of, encode_lower, encode_with}
use Rattle.hex.proofs.HexLemmas.{decode_of-encode_lower}
use Rattle.wire_fields.specs.Numbers.{IsBytes}
use Rattle.clus_names.specs.Limits.{IsName, IsNameUnit, IsPartUnit}
use Rattle.clus_names.specs.UnitTexts.{unit_text}
use Rattle.clus_names.proofs.UnitLaws.{one_text}
use Rattle.registry_defs.specs.Keys.{ValueData, Values, KeyData, Keys}
use Rattle.registry_defs.specs.Limits.{IsKey, IsNamed, IsValue}
use Rattle.registry_tree.specs.declared.value.Value.{Value}
use Rattle.registry_tree.specs.Values.{value_data}
use Rattle.registry_tree.proofs.Under.{each_append}
use Rattle.hive_text.specs.HiveText.{data_text, ends, key_line, keys_lines, kind_text, times_text, value_line, value_lines}
use Rattle.hive_text.specs.LineWords.{IsLine, Lacks, bare, joined}
use Rattle.hive_text.specs.TextLines.{key_begins, line_text, lines_of, lines_text, ups, value_stands}
use Rattle.hive_text.specs.declared.line.Line.{Line}
use Rattle.hive_text.specs.declared.line.Line.TheVariants as lines
use Rattle.hive_text.proofs.Splits.{lacks_append, no_split, one_split}
use Rattle.hive_text.proofs.Visible.{data_visible, decimal_visible, lacks_small, units_visible}
use Rattle.hive_text.proofs.WordReads.{some_data}

-- ---- a line as its words

key_shape : (u d w : List ℕ) → (codes "key " ++ u) ++ (32 ∷ (d ++ (32 ∷ (w ++ (10 ∷ []))))) ≡ joined (codes "key") u d w ++ 10 ∷ []
key_shape u d w = simp append_assoc

value_shape : (u d w : List ℕ) → (((codes "value " ++ u) ++ (32 ∷ (d ++ (32 ∷ [])))) ++ w) ++ 10 ∷ [] ≡ joined (codes "value") u d w ++ 10 ∷ []
value_shape u d w = simp append_assoc

pub line_is : (line : Line) → line_text line ≡ bare line ++ 10 ∷ []
unfolding key_line value_line times_text kind_text
line_is (lines.Key part birth written) = key_shape (unit_text part) (decimal birth) (decimal written)
line_is (lines.Value value) = value_shape (unit_text value.name) (decimal value.kind) (data_text value.bytes)
line_is lines.Up = refl

-- ---- no byte of a word ends it

pub kind_small : (value : ValueData) → IsValue value → value.kind < 2 ^ 64
kind_small value is =
    let kind = is.kind in
    omega (arith, kind)

module _ (byte : ℕ) (small : byte < 33) where
  pub units_lack : (units : List ℕ) → Lacks byte (unit_text units)
  units_lack units = lacks_small byte (unit_text units) small (units_visible units)

  pub decimal_lacks : (number : ℕ) → number < 2 ^ 64 → Lacks byte (decimal number)
  decimal_lacks number fits = lacks_small byte (decimal number) small (decimal_visible number fits)

  pub data_lacks : (bytes : List ℕ) → IsBytes bytes → Lacks byte (data_text bytes)
  data_lacks bytes are = lacks_small byte (data_text bytes) small (data_visible bytes are)

  pub key_lacks : Lacks byte (codes "key")
  key_lacks = lacks_small byte (codes "key") small (omega arith, (omega arith, (omega arith, tt)))

  pub value_lacks : Lacks byte (codes "value")
  value_lacks = lacks_small byte (codes "value") small (omega arith, (omega arith, (omega arith, (omega arith, (omega arith, tt)))))

  pub up_lacks : Lacks byte (codes "up")
  up_lacks = lacks_small byte (codes "up") small (omega arith, (omega arith, tt))

joined_lacks : (v a b c : List ℕ) → Lacks 10 v → Lacks 10 a → Lacks 10 b → Lacks 10 c → Lacks 10 (joined v a b c)
joined_lacks v a b c hv ha hb hc =
    let space : 32 ≢ 10 = λ is. absurd (omega (arith, is)) in
    lacks_append 10 v (32 ∷ (a ++ 32 ∷ (b ++ 32 ∷ c))) hv (space, lacks_append 10 a (32 ∷ (b ++ 32 ∷ c)) ha (space, lacks_append 10 b (32 ∷ c) hb (space, hc)))

pub bare_lacks : (line : Line) → IsLine line → Lacks 10 (bare line)
bare_lacks (lines.Key part birth written) is =
    joined_lacks (codes "key") (unit_text part) (decimal birth) (decimal written)
    (key_lacks 10 (omega arith)) (units_lack 10 (omega arith) part) (decimal_lacks 10 (omega arith) birth is.1) (decimal_lacks 10 (omega arith) written is.2)
bare_lacks (lines.Value value) is =
    joined_lacks (codes "value") (unit_text value.name) (decimal value.kind) (data_text value.bytes)
    (value_lacks 10 (omega arith)) (units_lack 10 (omega arith) value.name) (decimal_lacks 10 (omega arith) value.kind (kind_small (value_data value) is)) (data_lacks 10 (omega arith) value.bytes is.bytes)
bare_lacks lines.Up is = up_lacks 10 (omega arith)

-- ---- one line has a text

pub one_joined : (v a b c w d e f : List ℕ) → Lacks 32 v → Lacks 32 a → Lacks 32 b → Lacks 32 w → Lacks 32 d → Lacks 32 e → joined v a b c ≡ joined w d e f
    → (v ≡ w) × (a ≡ d) × (b ≡ e) × (c ≡ f)
one_joined v a b c w d e f hv ha hb hw hd he is =
    let first = one_split 32 v (a ++ 32 ∷ (b ++ 32 ∷ c)) w (d ++ 32 ∷ (e ++ 32 ∷ f)) hv hw is in
    let second = one_split 32 a (b ++ 32 ∷ c) d (e ++ 32 ∷ f) ha hd first.1 in
    let third = one_split 32 b c e f hb he second.1 in
    (first.0, second.0, third.0, third.1)

no_dash : (x : ℕ) (xs : List ℕ) → 45 ∷ [] ≡ encode_lower (x ∷ xs) → ⊥
unfolding encode_with
no_dash x xs e = absurd cc

pub same_data : (a b : List ℕ) → IsBytes a → IsBytes b → data_text a ≡ data_text b → a ≡ b
same_data [] [] ha hb e = refl
same_data [] (y ∷ ys) ha hb e = absurd (no_dash y ys (e ∙ some_data y ys))
same_data (x ∷ xs) [] ha hb e = absurd (no_dash x xs (sym e ∙ some_data x xs))
same_data (x ∷ xs) (y ∷ ys) ha hb e =
    let one : encode_lower (x ∷ xs) ≡ encode_lower (y ∷ ys) = sym (some_data x xs) ∙ e ∙ some_data y ys in
    let read = sym (decode_of-encode_lower (x ∷ xs) ha) ∙ ap decode_of one ∙ decode_of-encode_lower (y ∷ ys) hb in
    cc

abbrev value_line_of : List ℕ → ℕ → List ℕ → Line
value_line_of name kind bytes = lines.Value (record { name = name; kind = kind; bytes = bytes })

same_value : (v w : Value) → v.name ≡ w.name → v.kind ≡ w.kind → v.bytes ≡ w.bytes → lines.Value v ≡ lines.Value w
same_value v w name kind bytes =
    ap (λ n. value_line_of n v.kind v.bytes) name ∙ ap (λ k. value_line_of w.name k v.bytes) kind ∙ ap (λ b. value_line_of w.name w.kind b) bytes

same_key : (a b c d e f : _) → a ≡ d → b ≡ e → c ≡ f → lines.Key a b c ≡ lines.Key d e f
same_key a b c d e f part birth written = cc

module _ where
  pub key_words : (part : List ℕ) (birth written : ℕ) (v a b c : List ℕ) → IsLine (lines.Key part birth written) → Lacks 32 v → Lacks 32 a → Lacks 32 b
      → joined (codes "key") (unit_text part) (decimal birth) (decimal written) ≡ joined v a b c
      → (codes "key" ≡ v) × (unit_text part ≡ a) × (decimal birth ≡ b) × (decimal written ≡ c)
  key_words part birth written v a b c is hv ha hb e =
      one_joined (codes "key") (unit_text part) (decimal birth) (decimal written) v a b c
      (key_lacks 32 (omega arith)) (units_lack 32 (omega arith) part) (decimal_lacks 32 (omega arith) birth is.1) hv ha hb e

  pub value_words : (value : Value) (v a b c : List ℕ) → IsLine (lines.Value value) → Lacks 32 v → Lacks 32 a → Lacks 32 b
      → joined (codes "value") (unit_text value.name) (decimal value.kind) (data_text value.bytes) ≡ joined v a b c
      → (codes "value" ≡ v) × (unit_text value.name ≡ a) × (decimal value.kind ≡ b) × (data_text value.bytes ≡ c)
  value_words value v a b c is hv ha hb e =
      one_joined (codes "value") (unit_text value.name) (decimal value.kind) (data_text value.bytes) v a b c
      (value_lacks 32 (omega arith)) (units_lack 32 (omega arith) value.name) (decimal_lacks 32 (omega arith) value.kind (kind_small (value_data value) is)) hv ha hb e

pub no_up : (v a b c : List ℕ) → codes "up" ≡ joined v a b c → ⊥
no_up v a b c e = no_split 32 (codes "up") v (a ++ 32 ∷ (b ++ 32 ∷ c)) (up_lacks 32 (omega arith)) e

pub same_line : (l m : Line) → IsLine l → IsLine m → bare l ≡ bare m → l ≡ m
same_line (lines.Key p b w) (lines.Key q c x) hl hm e =
    let are = key_words p b w (codes "key") (unit_text q) (decimal c) (decimal x) hl (key_lacks 32 (omega arith)) (units_lack 32 (omega arith) q) (decimal_lacks 32 (omega arith) c hm.1) e in
    same_key p b w q c x (one_text p q hl.0.units hm.0.units are.1) (decimal_injective b c hl.1 hm.1 are.2) (decimal_injective w x hl.2 hm.2 are.3)
same_line (lines.Key p b w) (lines.Value v) hl hm e =
    let are = key_words p b w (codes "value") (unit_text v.name) (decimal v.kind) (data_text v.bytes) hl (value_lacks 32 (omega arith)) (units_lack 32 (omega arith) v.name) (decimal_lacks 32 (omega arith) v.kind (kind_small (value_data v) hm)) e in
    let verbs = are.0 in
    absurd cc
same_line (lines.Key p b w) lines.Up hl hm e = absurd (no_up (codes "key") (unit_text p) (decimal b) (decimal w) (sym e))
same_line (lines.Value v) (lines.Key q c x) hl hm e =
    let are = value_words v (codes "key") (unit_text q) (decimal c) (decimal x) hl (key_lacks 32 (omega arith)) (units_lack 32 (omega arith) q) (decimal_lacks 32 (omega arith) c hm.1) e in
    let verbs = are.0 in
    absurd cc
same_line (lines.Value v) (lines.Value u) hl hm e =
    let are = value_words v (codes "value") (unit_text u.name) (decimal u.kind) (data_text u.bytes) hl (value_lacks 32 (omega arith)) (units_lack 32 (omega arith) u.name) (decimal_lacks 32 (omega arith) u.kind (kind_small (value_data u) hm)) e in
    same_value v u (one_text v.name u.name hl.name.units hm.name.units are.1)
    (decimal_injective v.kind u.kind (kind_small (value_data v) hl) (kind_small (value_data u) hm) are.2)
    (same_data v.bytes u.bytes hl.bytes hm.bytes are.3)
same_line (lines.Value v) lines.Up hl hm e = absurd (no_up (codes "value") (unit_text v.name) (decimal v.kind) (data_text v.bytes) (sym e))
same_line lines.Up (lines.Key q c x) hl hm e = absurd (no_up (codes "key") (unit_text q) (decimal c) (decimal x) e)
same_line lines.Up (lines.Value u) hl hm e = absurd (no_up (codes "value") (unit_text u.name) (decimal u.kind) (data_text u.bytes) e)
same_line lines.Up lines.Up hl hm e = refl

-- ---- lines in a row

pub one_first : (l m : Line) (a b : List ℕ) → IsLine l → IsLine m → line_text l ++ a ≡ line_text m ++ b → (l ≡ m) × (a ≡ b)
one_first l m a b hl hm e =
    let apart : (n : Line) (t : List ℕ) → line_text n ++ t ≡ bare n ++ 10 ∷ t = λ n t. ap (λ x. x ++ t) (line_is n) ∙ append_assoc (bare n) (10 ∷ []) t in
    let split = one_split 10 (bare l) a (bare m) b (bare_lacks l hl) (bare_lacks m hm) (sym (apart l a) ∙ e ∙ apart m b) in
    (same_line l m hl hm split.0, split.1)

pub some_line : (line : Line) → 0 < length (line_text line)
some_line line = omega (arith, ap (λ t. length t) (line_is line), length_more (bare line))
  where
    length_more : (t : List ℕ) → 0 < length (t ++ 10 ∷ [])
    length_more [] = omega arith
    length_more (x ∷ xs) = omega arith

-- what stands behind lines, where the whole is lines
pub record GoesOn (all front : List Line) (rest : List ℕ) : Type 0 where
  pub more : List Line
  pub all_are : all ≡ front ++ more
  pub rest_is : rest ≡ lines_text more

abbrev pub AreLines : List Line → Type 0
AreLines told = AllByRecursion IsLine told

pub goes_on : (all front : List Line) (rest : List ℕ) → AreLines all → AreLines front → lines_text all ≡ lines_text front ++ rest → GoesOn all front rest
goes_on all [] rest h k e = record { more = all; all_are = refl; rest_is = sym e }
goes_on [] (m ∷ front) rest h k e =
    let whole : [] ≡ line_text m ++ (lines_text front ++ rest) = e ∙ append_assoc (line_text m) (lines_text front) rest in
    absurd (nothing (line_text m) (lines_text front ++ rest) (some_line m) whole)
  where
    nothing : (t u : List ℕ) → 0 < length t → [] ≡ t ++ u → ⊥
    nothing [] u some is = absurd (omega (arith, some))
    nothing (x ∷ t) u some is = absurd cc
goes_on (l ∷ all) (m ∷ front) rest h k e =
    let whole : line_text l ++ lines_text all ≡ line_text m ++ (lines_text front ++ rest) = e ∙ append_assoc (line_text m) (lines_text front) rest in
    let one = one_first l m (lines_text all) (lines_text front ++ rest) h.0 k.0 whole in
    let others = goes_on all front rest h.1 k.1 one.1 in
    record { more = others.more; all_are = subst (λ x. l ∷ all ≡ x ∷ (front ++ others.more)) one.0 (ap (λ ls. l ∷ ls) others.all_are); rest_is = others.rest_is }

-- ---- the lines of a registry

part_units : (part : List ℕ) → All IsPartUnit part → All IsNameUnit part
part_units [] h = All-nil IsNameUnit
part_units (u ∷ us) h =
    let first = All-head IsPartUnit u us h in
    All-cons IsNameUnit u us (record { not_zero = first.not_zero; in_range = first.in_range }) (part_units us (All-tail IsPartUnit u us h))

key_line_fits : (path : List (List ℕ)) (key : KeyData) → IsNamed path key → key.written < 2 ^ 64 → IsLine (key_begins key)
key_line_fits [] key named small =
    let birth = named.1 in
    (subst (λ (p : List ℕ). IsName p) (sym named.0) (record { short = omega arith; units = All-nil IsNameUnit }), (omega (arith, birth)), small)
key_line_fits (first ∷ others) key named small =
    let birth = named.2 in
    let short = named.0.short in
    (record { short = omega (arith, short); units = part_units key.part named.0.units }, (omega (arith, birth)), small)

value_lines_fit : (values : Values) → AllByRecursion (λ entry. IsValue entry.1) values → AreLines (map value_stands values)
value_lines_fit [] h = tt
value_lines_fit (entry ∷ entries) h = (h.0, value_lines_fit entries h.1)

pub ups_fit : (count : ℕ) → AreLines (ups count)
unfolding ups
ups_fit zero = tt
ups_fit (suc count) = (tt, ups_fit count)

pub all_fit : (open_keys : ℕ) (keys : Keys) → AllByRecursion (λ entry. IsKey entry.0 entry.1) keys → AreLines (lines_of open_keys keys)
unfolding lines_of
all_fit open_keys [] h = ups_fit open_keys
all_fit open_keys (entry ∷ entries) h =
    let P : Line → Type 0 = IsLine in
    each_append P (ups (open_keys - length entry.0)) (key_begins entry.1 ∷ (map value_stands entry.1.values ++ lines_of (length entry.0 + 1) entries)) (ups_fit (open_keys - length entry.0)) (
      key_line_fits entry.0 entry.1 h.0.named h.0.written,
      each_append P (map value_stands entry.1.values) (lines_of (length entry.0 + 1) entries) (value_lines_fit entry.1.values h.0.values.limits) (all_fit (length entry.0 + 1) entries h.1),
    )

-- ---- their text is that of the keys

ups_text : (count : ℕ) → lines_text (ups count) ≡ ends count
unfolding ups ends
ups_text zero = refl
ups_text (suc count) = ap (λ t. codes "up\n" ++ t) (ups_text count)

values_text : (values : Values) → lines_text (map value_stands values) ≡ value_lines values
values_text [] = refl
values_text (entry ∷ entries) = ap (λ t. value_line entry.1 ++ t) (values_text entries)

pub text_is : (open_keys : ℕ) (keys : Keys) → lines_text (lines_of open_keys keys) ≡ keys_lines open_keys keys
unfolding lines_of keys_lines key_line
text_is open_keys [] = ups_text open_keys
text_is open_keys (entry ∷ entries) =
    let front = ups (open_keys - length entry.0) in
    let values = map value_stands entry.1.values in
    let rest = lines_of (length entry.0 + 1) entries in
    flat_map-append line_text front (key_begins entry.1 ∷ (values ++ rest))
    ∙ ap (λ t. t ++ (key_line entry.1 ++ lines_text (values ++ rest))) (ups_text (open_keys - length entry.0))
    ∙ ap (λ t. ends (open_keys - length entry.0) ++ (key_line entry.1 ++ t))
    (flat_map-append line_text values rest ∙ ap (λ t. t ++ lines_text rest) (values_text entry.1.values) ∙ ap (λ t. value_lines entry.1.values ++ t) (text_is (length entry.0 + 1) entries))

pub one_at : (byte : ℕ) (a b c d : List ℕ) → Lacks byte a → Lacks byte c → a ++ byte ∷ b ≡ c ++ byte ∷ d → (a ≡ c) × (b ≡ d)
one_at byte a b c d h k e = one_split byte a b c d h k e

pub other_verbs : codes "key" ≡ codes "value" → ⊥
other_verbs e = absurd cc
