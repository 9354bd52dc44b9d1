-- What a line's words say is the line.
use Rattle.std.proofs.Common.{◌≡◌, ℕ, ◌<◌, ◌≤◌, ◌^◌, true, false, Bool, cond, leb, List, ◌∷◌, ◌++◌, length, Option, Some, None, refl, sym, ap, ◌∙◌, All, arith}
use Rattle.std.specs.Prelude.{codes}
use Rattle.std.specs.Fmt.{decimal}
use Rattle.std.proofs.lemmas.Bool.{leb-true}
use Rattle.std.proofs.lemmas.Bool.Decides.{nat_tests}
use Rattle.std.proofs.lemmas.Fmt.{decimal_injective}
use Rattle.wire_fields.specs.Numbers.{IsBytes}
use Rattle.clus_names.specs.Limits.{IsName, IsNameUnit}
use Rattle.clus_names.specs.UnitTexts.{unit_text}
use Rattle.clus_names.proofs.UnitLaws.{one_text}
use Rattle.registry_defs.specs.Limits.{IsValue}
use Rattle.registry_tree.specs.declared.value.Value.{Value}
use Rattle.registry_tree.specs.Values.{value_data}
use Rattle.hive_text.specs.HiveText.{data_text}
use Rattle.hive_text.specs.LineWords.{IsLine, IsShortData, IsWord32, IsWord64, Lacks, Spells, bare, if_short, joined, key_in, short_name, value_in}
use Rattle.hive_text.specs.declared.line.Line.{Line}
use Rattle.hive_text.specs.declared.line.Line.TheVariants as lines
use Rattle.hive_text.proofs.LineTexts.{key_words, no_up, same_data, value_words}
use Rattle.hive_text.proofs.LineTexts as texts
use Rattle.hive_text.proofs.Splits.{no_split}

-- ---- lines with too few words

pub no_words : (line : List ℕ) → (line ≡ codes "up" → ⊥) → Lacks 32 line → (l : Line) → IsLine l → bare l ≡ line → ⊥
no_words line other lacks (lines.Key part birth written) fits is = no_split 32 line (codes "key") (unit_text part ++ 32 ∷ (decimal birth ++ 32 ∷ decimal written)) lacks (sym is)
no_words line other lacks (lines.Value value) fits is = no_split 32 line (codes "value") (unit_text value.name ++ 32 ∷ (decimal value.kind ++ 32 ∷ data_text value.bytes)) lacks (sym is)
no_words line other lacks lines.Up fits is = other (sym is)

-- the words of a line that has some
record HasWords (l : Line) (v rest : List ℕ) : Type 0 where
  pub first : List ℕ
  pub second : List ℕ
  pub third : List ℕ
  pub rest_is : rest ≡ first ++ 32 ∷ (second ++ 32 ∷ third)
  pub lacks_first : Lacks 32 first
  pub lacks_second : Lacks 32 second

words_behind : (v w rest : List ℕ) (a b c : List ℕ) → Lacks 32 v → Lacks 32 w → Lacks 32 a → Lacks 32 b → (l : Line) → joined w a b c ≡ v ++ 32 ∷ rest → HasWords l v rest
words_behind v w rest a b c hv hw ha hb l e =
    let split = texts.one_at 32 w (a ++ 32 ∷ (b ++ 32 ∷ c)) v rest hw hv e in
    record { first = a; second = b; third = c; rest_is = sym split.1; lacks_first = ha; lacks_second = hb }

has_words : (l : Line) (v rest : List ℕ) → IsLine l → Lacks 32 v → bare l ≡ v ++ 32 ∷ rest → HasWords l v rest
has_words (lines.Key part birth written) v rest fits hv is =
    words_behind v (codes "key") rest (unit_text part) (decimal birth) (decimal written) hv (texts.key_lacks 32 (omega arith)) (texts.units_lack 32 (omega arith) part) (texts.decimal_lacks 32 (omega arith) birth fits.1)
    (lines.Key part birth written) is
has_words (lines.Value value) v rest fits hv is =
    words_behind v (codes "value") rest (unit_text value.name) (decimal value.kind) (data_text value.bytes) hv (texts.value_lacks 32 (omega arith)) (texts.units_lack 32 (omega arith) value.name)
    (texts.decimal_lacks 32 (omega arith) value.kind (texts.kind_small (value_data value) fits)) (lines.Value value) is
has_words lines.Up v rest fits hv is = absurd (no_split 32 (codes "up") v rest (texts.up_lacks 32 (omega arith)) is)

pub one_word : (verb words : List ℕ) → Lacks 32 verb → Lacks 32 words → (l : Line) → IsLine l → bare l ≡ verb ++ 32 ∷ words → ⊥
one_word verb words hv hw l fits is =
    let has = has_words l verb words fits hv is in
    no_split 32 words has.first (has.second ++ 32 ∷ has.third) hw has.rest_is

pub two_words : (verb first others : List ℕ) → Lacks 32 verb → Lacks 32 first → Lacks 32 others → (l : Line) → IsLine l → bare l ≡ verb ++ 32 ∷ (first ++ 32 ∷ others) → ⊥
two_words verb first others hv hf ho l fits is =
    let has = has_words l verb (first ++ 32 ∷ others) fits hv is in
    let split = texts.one_at 32 first others has.first (has.second ++ 32 ∷ has.third) hf has.lacks_first has.rest_is in
    no_split 32 others has.second has.third ho split.1

-- ---- lines that begin otherwise

pub other_verb : (v a b c : List ℕ) → (v ≡ codes "key" → ⊥) → (v ≡ codes "value" → ⊥) → Lacks 32 v → Lacks 32 a → Lacks 32 b → (l : Line) → IsLine l → bare l ≡ joined v a b c → ⊥
other_verb v a b c no_key no_value hv ha hb (lines.Key part birth written) fits is = no_key (sym (key_words part birth written v a b c fits hv ha hb is).0)
other_verb v a b c no_key no_value hv ha hb (lines.Value value) fits is = no_value (sym (value_words value v a b c fits hv ha hb is).0)
other_verb v a b c no_key no_value hv ha hb lines.Up fits is = no_up v a b c is

-- ---- a key

record IsKeyOf (l : Line) (a b c : List ℕ) : Type 0 where
  pub part : List ℕ
  pub birth : ℕ
  pub written : ℕ
  pub fits : IsLine (lines.Key part birth written)
  pub part_is : unit_text part ≡ a
  pub birth_is : decimal birth ≡ b
  pub written_is : decimal written ≡ c

key_of : (a b c : List ℕ) → Lacks 32 a → Lacks 32 b → (l : Line) → IsLine l → bare l ≡ joined (codes "key") a b c → IsKeyOf l a b c
key_of a b c ha hb (lines.Key part birth written) fits is =
    let are = key_words part birth written (codes "key") a b c fits (texts.key_lacks 32 (omega arith)) ha hb is in
    record { part = part; birth = birth; written = written; fits = fits; part_is = are.1; birth_is = are.2; written_is = are.3 }
key_of a b c ha hb (lines.Value value) fits is =
    let verbs = (value_words value (codes "key") a b c fits (texts.key_lacks 32 (omega arith)) ha hb is).0 in
    absurd (texts.other_verbs (sym verbs))
key_of a b c ha hb lines.Up fits is = absurd (no_up (codes "key") a b c is)

same_joined : (v a b c d e f : List ℕ) → a ≡ d → b ≡ e → c ≡ f → joined v a b c ≡ joined v d e f
same_joined v a b c d e f p q r = rw (p, q, r) refl

pub key_read : (a b c : List ℕ) (part : Option (List ℕ)) (birth written : Option ℕ) → Lacks 32 a → Lacks 32 b
    → Spells IsName unit_text a part → Spells IsWord64 decimal b birth → Spells IsWord64 decimal c written → Spells IsLine bare (joined (codes "key") a b c) (key_in part birth written)
key_read a b c None birth written ha hb p q r = λ l fits is. (let key = key_of a b c ha hb l fits is in p key.part key.fits.0 key.part_is)
key_read a b c (Some part) None written ha hb p q r = λ l fits is. (let key = key_of a b c ha hb l fits is in q key.birth key.fits.1 key.birth_is)
key_read a b c (Some part) (Some birth) None ha hb p q r = λ l fits is. (let key = key_of a b c ha hb l fits is in r key.written key.fits.2 key.written_is)
key_read a b c (Some part) (Some birth) (Some written) ha hb p q r = ((p.0, q.0, r.0), same_joined (codes "key") (unit_text part) (decimal birth) (decimal written) a b c p.1 q.1 r.1)

-- ---- a value

record IsValueOf (l : Line) (a b c : List ℕ) : Type 0 where
  pub value : Value
  pub fits : IsValue (value_data value)
  pub name_is : unit_text value.name ≡ a
  pub kind_is : decimal value.kind ≡ b
  pub bytes_are : data_text value.bytes ≡ c

value_of : (a b c : List ℕ) → Lacks 32 a → Lacks 32 b → (l : Line) → IsLine l → bare l ≡ joined (codes "value") a b c → IsValueOf l a b c
value_of a b c ha hb (lines.Value value) fits is =
    let are = value_words value (codes "value") a b c fits (texts.value_lacks 32 (omega arith)) ha hb is in
    record { value = value; fits = fits; name_is = are.1; kind_is = are.2; bytes_are = are.3 }
value_of a b c ha hb (lines.Key part birth written) fits is =
    let verbs = (key_words part birth written (codes "value") a b c fits (texts.value_lacks 32 (omega arith)) ha hb is).0 in
    absurd (texts.other_verbs verbs)
value_of a b c ha hb lines.Up fits is = absurd (no_up (codes "value") a b c is)

pub value_read : (a b c : List ℕ) (name : Option (List ℕ)) (kind : Option ℕ) (bytes : Option (List ℕ)) → Lacks 32 a → Lacks 32 b
    → Spells IsName unit_text a name → Spells IsWord32 decimal b kind → Spells IsShortData data_text c bytes → Spells IsLine bare (joined (codes "value") a b c) (value_in name kind bytes)
value_read a b c None kind bytes ha hb p q r = λ l fits is. (let value = value_of a b c ha hb l fits is in p value.value.name value.fits.name value.name_is)
value_read a b c (Some name) None bytes ha hb p q r = λ l fits is. (let value = value_of a b c ha hb l fits is in q value.value.kind value.fits.kind value.kind_is)
value_read a b c (Some name) (Some kind) None ha hb p q r = λ l fits is. (let value = value_of a b c ha hb l fits is in r value.value.bytes (value.fits.short, value.fits.bytes) value.bytes_are)
value_read a b c (Some name) (Some kind) (Some bytes) ha hb p q r =
    (record { name = p.0; kind = q.0; short = r.0.0; bytes = r.0.1 }, same_joined (codes "value") (unit_text name) (decimal kind) (data_text bytes) a b c p.1 q.1 r.1)

-- ---- the words of a value, within their limits

too_long : (word units : List ℕ) → All IsNameUnit units → unit_text units ≡ word → 1023 < length units → (name : List ℕ) → IsName name → unit_text name ≡ word → ⊥
too_long word units are is long name fits same =
    let one = ap (λ (l : List ℕ). length l) (one_text units name are fits.units (is ∙ sym same)) in
    let short = fits.short in
    omega (arith, one, short, long)

pub name_read : (word units : List ℕ) → All IsNameUnit units → unit_text units ≡ word → Spells IsName unit_text word (short_name units)
name_read word units are is = by (leb (length units) 1023) refl
  where
    by : (b : Bool) → leb (length units) 1023 ≡ b → Spells IsName unit_text word (cond b (Some units) None)
    by true few = (record { short = leb-true _ _ few; units = are }, is)
    by false many =
        let long : 1023 < length units = grind (arith, nat_tests) in
        too_long word units are is long

pub too_great : (word : List ℕ) (number : ℕ) → number < 2 ^ 64 → decimal number ≡ word → (number ≤ 0xFFFFFFFF → ⊥) → (kind : ℕ) → IsWord32 kind → decimal kind ≡ word → ⊥
too_great word number fits is great kind small same =
    let one = decimal_injective number kind fits (omega (arith, small)) (is ∙ sym same) in
    great (omega (arith, one, small))

pub short_read : (word : List ℕ) (bytes : List ℕ) → IsBytes bytes → data_text bytes ≡ word → Spells IsShortData data_text word (if_short bytes)
short_read word bytes are is = by (leb (length bytes) 49152) refl
  where
    by : (b : Bool) → leb (length bytes) 49152 ≡ b → Spells IsShortData data_text word (cond b (Some bytes) None)
    by true few = ((leb-true _ _ few, are), is)
    by false many = λ other fits same.
        let one = ap (λ (l : List ℕ). length l) (same_data bytes other are fits.1 (is ∙ sym same)) in
        let short = fits.0 in
        let long : 49152 < length bytes = grind (arith, nat_tests) in
        omega (arith, one, short, long)
