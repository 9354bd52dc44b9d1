-- Reading a word finds what the word is the text of, and nothing else.
use Rattle.std.proofs.Common.{◌≡◌, ℕ, zero, suc, ◌+◌, ◌<◌, ◌≤◌, ◌^◌, true, false, Bool, ltb, leb, List, [], ◌∷◌, ◌++◌, length, inl, inr, Option, Some, None, Result, Ok, Err, refl, sym, ap, ◌∙◌, arith, ◌&&◌, eqb, get_or, subst}
use Rattle.std.specs.Fmt.{decimal}
use Rattle.std.specs.Char.{is_ascii_digit}
use Rattle.std.specs.List.{after_first, before_first, list_all, position_or_len}
use Rattle.std.proofs.lemmas.List.{drop_all}
use Rattle.std.proofs.lemmas.List.Sums.{passes_at_first, split_at_first}
use Rattle.std.proofs.Math.Seq.{drop-append-add, take-append_seam}
use Rattle.gum_messages.specs.declared.member.Member.{Member}
use Rattle.std.specs.Str.{all_ascii_digits, bytes_eq}
use Rattle.std.specs.Str.Parse.{digits_value}
use Rattle.std.proofs.lemmas.Bool.{eqb-true, leb-true, ltb-false, le-leb, lt-ltb, ltb-true}
use Rattle.std.proofs.lemmas.Bool.Decides.{nat_tests}
use Rattle.std.proofs.lemmas.Fmt.{decimal-digits_value, decimal_digit, digits_decimal, digits_value-decimal, first_decimal}
use Rattle.std.proofs.lemmas.Str.Parse.{numerals_by_value, tells_all_ascii_digits, IsNumeralModel}
use Rattle.std.proofs.lemmas.Slice.Eq.{bytes_eq-Decides}
use Rattle.hex.specs.Hex.{decode_of}
use Rattle.hex.specs.declared.error.FromHexError.{FromHexError}
use Rattle.hex.proofs.HexLemmas.{decode_of-ok}
use Rattle.wire_fields.specs.Numbers.{IsBytes}
use Rattle.update_records.specs.declared.change.Change.{Change}
use Rattle.update_records.specs.declared.update.Update.{Update}
use Rattle.update_records.specs.declared.update.Update.TheVariants.{Batch, Create, SetValue, DeleteValue, DeleteKey}
use Rattle.update_records.specs.Grammar.{update_of}
use Rattle.update_records.specs.Spelling.{update_text}
use Rattle.update_records.proofs.RecordLaws.{whole_update_found, whole_update_read}
use Rattle.cluster_script.specs.Lines.{IsMember, IsNumber, Tells, TellsBatch}
use Rattle.cluster_script.specs.Values.{batch_in, batch_of, between, bytes_of, decimal_of, has_no_leading_zero, is_decimal, member_of, member_with, number_of, octets_of, short}
use Rattle.cluster_script.specs.Words.{is_byte}
use Rattle.cluster_script.proofs.NumbersRead.{are_digits, same_test, some_digit}

own : IsNumeralModel (λ ds. all_ascii_digits ds ≡ true) (digits_value 10)
own = numerals_by_value (λ ds. all_ascii_digits ds ≡ true) tells_all_ascii_digits

both : (a b : Bool) → (a && b) ≡ true → (a ≡ true) × (b ≡ true)
both true b e = (refl, e)
both false b e = absurd (cc e)

-- ---- numbers

alone_or_above : (word : List ℕ) → has_no_leading_zero word ≡ true → get_or word 0 0 ≡ 48 → length word ≡ 1
alone_or_above word good first = grind (arith, nat_tests, good, first)

decimal_found : (word : List ℕ) (n : ℕ) → decimal_of word ≡ Some n → word ≡ decimal n
unfolding decimal_of
decimal_found word n read = by (is_decimal word) (ltb (digits_value 10 word) (2 ^ 64)) refl refl
  where
    by : (a b : Bool) → is_decimal word ≡ a → ltb (digits_value 10 word) (2 ^ 64) ≡ b → word ≡ decimal n
    by true true is small =
        let same : digits_value 10 word ≡ n = (let e = rw (is, small) at read in cc) in
        let parts = both (list_all is_ascii_digit word) (has_no_leading_zero word) is in
        sym (decimal-digits_value own word (are_digits word is) (some_digit word is) (alone_or_above word parts.1) (ltb-true _ _ small)) ∙ ap decimal same
    by true false is small = absurd (cc (rw (is, small) at read))
    by false b is small = absurd (cc (rw is at read))

decimal_is : (n : ℕ) → n < 2 ^ 64 → is_decimal (decimal n) ≡ true
decimal_is n small =
    let digits : list_all is_ascii_digit (decimal n) ≡ true = same_test (decimal n) ∙ digits_decimal own n small in
    rw digits (first n small)
  where
    first : (n : ℕ) → n < 2 ^ 64 → has_no_leading_zero (decimal n) ≡ true
    first zero small = rw (decimal_digit 0 (omega arith)) refl
    first (suc n) small = let above = first_decimal (suc n) (omega arith) small in grind (arith, nat_tests, above)

decimal_read : (word : List ℕ) (n : ℕ) → n < 2 ^ 64 → word ≡ decimal n → decimal_of word ≡ Some n
unfolding decimal_of
decimal_read word n small is =
    let value : digits_value 10 (decimal n) ≡ n = digits_value-decimal own n small in
    rw (is, decimal_is n small, value, lt-ltb n (2 ^ 64) small) refl

pub number_found : (low high : ℕ) (word : List ℕ) (n : ℕ) → number_of low high word ≡ Some n → IsNumber low high n word
number_found low high word n read = by (decimal_of word) refl
  where
    within : (m : ℕ) (a b : Bool) → leb low m ≡ a → leb m high ≡ b → between low high m ≡ Some n → (m ≡ n) × (low ≤ n) × (n ≤ high)
    within m true true least greatest e =
        let same : m ≡ n = (let f = rw (least, greatest) at e in cc) in
        (same, rw same at (leb-true _ _ least), rw same at (leb-true _ _ greatest))
    within m true false least greatest e = absurd (cc (rw (least, greatest) at e))
    within m false b least greatest e = absurd (cc (rw least at e))

    by : (found : Option ℕ) → decimal_of word ≡ found → IsNumber low high n word
    by None none = absurd (cc (rw none at read))
    by (Some m) some =
        let is = within m (leb low m) (leb m high) refl refl (rw some at read) in
        record { word_is = decimal_found word n (some ∙ ap Some is.0); least = is.1; greatest = is.2 }

pub number_read : (low high : ℕ) (word : List ℕ) (n : ℕ) → high < 2 ^ 64 → IsNumber low high n word → number_of low high word ≡ Some n
number_read low high word n small is =
    let least = is.least in
    let greatest = is.greatest in
    rw (decimal_read word n (omega arith) is.word_is, le-leb low n least, le-leb n high greatest) refl

-- ---- bytes

bytes_found : (word bytes : List ℕ) → bytes_of word ≡ Some bytes → Tells word bytes
unfolding bytes_of
bytes_found word bytes read = by (bytes_eq word (45 ∷ [])) (eqb (length word) 0) (decode_of word) refl refl refl
  where
    by : (a b : Bool) (decoded : Result (List ℕ) FromHexError) → bytes_eq word (45 ∷ []) ≡ a → eqb (length word) 0 ≡ b → decode_of word ≡ decoded → Tells word bytes
    by true b decoded is none told =
        let empty : [] ≡ bytes = (let e = rw is at read in cc) in
        inl ((bytes_eq-Decides word (45 ∷ [])).0 is, sym empty)
    by false true decoded is none told = absurd (cc (rw (is, none) at read))
    by false false (Ok found) is none told =
        let same : found ≡ bytes = (let e = rw (is, none, told) at read in cc) in
        inr (grind (arith, nat_tests, none), told ∙ ap Ok same)
    by false false (Err fault) is none told = absurd (cc (rw (is, none, told) at read))

bytes_read : (word bytes : List ℕ) → Tells word bytes → bytes_of word ≡ Some bytes
unfolding bytes_of
bytes_read word bytes (inl (is, none)) = rw (is, none) refl
bytes_read word bytes (inr (some, told)) = by (bytes_eq word (45 ∷ [])) refl
  where
    other : eqb (length word) 0 ≡ false
    other = grind (arith, nat_tests, some)

    by : (a : Bool) → bytes_eq word (45 ∷ []) ≡ a → bytes_of word ≡ Some bytes
    by true is =
        let even = (decode_of-ok word bytes told).0 in
        let odd : length word ≡ 1 = ap (λ (l : List ℕ). length l) ((bytes_eq-Decides word (45 ∷ [])).0 is) in
        absurd (cc (rw odd at even))
    by false is = rw (is, other, told) refl

are_bytes : (word bytes : List ℕ) → Tells word bytes → IsBytes bytes
are_bytes word bytes (inl (is, none)) = rw none (λ i. omega arith)
are_bytes word bytes (inr (some, told)) = (decode_of-ok word bytes told).3

pub octets_found : (limit : ℕ) (word bytes : List ℕ) → octets_of limit word ≡ Some bytes → Tells word bytes × (length bytes ≤ limit)
octets_found limit word bytes read = by (bytes_of word) refl
  where
    few : (found : List ℕ) (a : Bool) → leb (length found) limit ≡ a → short limit found ≡ Some bytes → (found ≡ bytes) × (length bytes ≤ limit)
    few found true is e =
        let same : found ≡ bytes = (let f = rw is at e in cc) in
        (same, rw same at (leb-true _ _ is))
    few found false is e = absurd (cc (rw is at e))

    by : (found : Option (List ℕ)) → bytes_of word ≡ found → Tells word bytes × (length bytes ≤ limit)
    by None none = absurd (cc (rw none at read))
    by (Some found) some =
        let is = few found (leb (length found) limit) refl (rw some at read) in
        (bytes_found word bytes (some ∙ ap Some is.0), is.1)

pub octets_read : (limit : ℕ) (word bytes : List ℕ) → Tells word bytes → length bytes ≤ limit → octets_of limit word ≡ Some bytes
octets_read limit word bytes tells few = rw (bytes_read word bytes tells, le-leb (length bytes) limit few) refl

-- ---- batches

pub batch_found : (word : List ℕ) (u : Update) → batch_of word ≡ Some u → (changes : List Change) × TellsBatch word changes × (u ≡ Batch changes)
batch_found word u read = by (bytes_of word) refl
  where
    is_batch : (decoded : Result Update ℕ) → batch_in decoded ≡ Some u → (changes : List Change) × (decoded ≡ Ok (Batch changes)) × (u ≡ Batch changes)
    is_batch (Ok (Batch changes)) e = (changes, refl, cc)
    is_batch (Ok (Create key birth subkey)) e = absurd (cc e)
    is_batch (Ok (SetValue key birth name kind bytes)) e = absurd (cc e)
    is_batch (Ok (DeleteValue key birth name)) e = absurd (cc e)
    is_batch (Ok (DeleteKey key birth subkey)) e = absurd (cc e)
    is_batch (Err place) e = absurd (cc e)

    by : (found : Option (List ℕ)) → bytes_of word ≡ found → (changes : List Change) × TellsBatch word changes × (u ≡ Batch changes)
    by None none = absurd (cc (rw none at read))
    by (Some bytes) some =
        let told = bytes_found word bytes some in
        let is = is_batch (update_of bytes) (rw some at read) in
        let update = whole_update_found bytes (Batch is.0) (are_bytes word bytes told) is.1 in
        (is.0, (update.0, subst (λ (b : List ℕ). Tells word b) update.1 told), is.2)

pub batch_read : (word : List ℕ) (changes : List Change) → TellsBatch word changes → batch_of word ≡ Some (Batch changes)
batch_read word changes (is, told) = rw (bytes_read word (update_text (Batch changes)) told, whole_update_read (Batch changes) is) refl

-- ---- members

pair_found : (node inc : Option ℕ) (m : Member) → member_with node inc ≡ Some m → (node ≡ Some m.node) × (inc ≡ Some m.inc)
pair_found (Some n) (Some i) m e =
    let same : record { node = n; inc = i } ≡ m = cc in
    (ap (λ (x : Member). Some x.node) same, ap (λ (x : Member). Some x.inc) same)
pair_found (Some n) None m e = absurd (cc e)
pair_found None inc m e = absurd (cc e)

no_number : number_of 1 4_294_967_295 [] ≡ None
unfolding decimal_of
no_number = refl

parts_found : (floor : ℕ) (word : List ℕ) (m : Member) (b : Bool) → ltb (position_or_len (is_byte 46) word) (length word) ≡ b
    → number_of (floor + 1) 16 (before_first (is_byte 46) word) ≡ Some m.node → number_of 1 4_294_967_295 (after_first (is_byte 46) word) ≡ Some m.inc → IsMember floor m word
parts_found floor word m true within node inc =
    let inside : position_or_len (is_byte 46) word < length word = ltb-true _ _ within in
    let dot : get_or word (position_or_len (is_byte 46) word) 0 ≡ 46 = eqb-true _ _ (passes_at_first (is_byte 46) word 0 inside) in
    record {
      node = before_first (is_byte 46) word;
      inc = after_first (is_byte 46) word;
      word_is = split_at_first (is_byte 46) word 0 inside ∙ ap (λ d. before_first (is_byte 46) word ++ d ∷ after_first (is_byte 46) word) dot;
      is_node = number_found (floor + 1) 16 (before_first (is_byte 46) word) m.node node;
      is_inc = number_found 1 4_294_967_295 (after_first (is_byte 46) word) m.inc inc;
    }
parts_found floor word m false past node inc =
    let end : length word ≤ position_or_len (is_byte 46) word = ltb-false _ _ past in
    let nothing : after_first (is_byte 46) word ≡ [] = drop_all (position_or_len (is_byte 46) word + 1) word (omega arith) in
    absurd (cc (sym inc ∙ ap (number_of 1 4_294_967_295) nothing ∙ no_number))

pub member_found : (floor : ℕ) (word : List ℕ) (m : Member) → member_of floor word ≡ Some m → IsMember floor m word
unfolding member_of
member_found floor word m read =
    let pair = pair_found (number_of (floor + 1) 16 (before_first (is_byte 46) word)) (number_of 1 4_294_967_295 (after_first (is_byte 46) word)) m read in
    parts_found floor word m (ltb (position_or_len (is_byte 46) word) (length word)) refl pair.0 pair.1

dot_behind : (digits rest : List ℕ) → all_ascii_digits digits ≡ true → position_or_len (is_byte 46) (digits ++ 46 ∷ rest) ≡ length digits
dot_behind [] rest are = refl
dot_behind (digit ∷ digits) rest are =
    let parts = tells_all_ascii_digits.parts digit digits are in
    let other : eqb digit 46 ≡ false = (let range = parts.0 in grind (arith, nat_tests, range)) in
    rw other (omega (arith, dot_behind digits rest parts.1))

pub member_read : (floor : ℕ) (word : List ℕ) (m : Member) → IsMember floor m word → member_of floor word ≡ Some m
unfolding member_of
member_read floor word m is =
    let few : m.node < 2 ^ 64 = (let most = is.is_node.greatest in omega arith) in
    let digits : all_ascii_digits is.node ≡ true = rw is.is_node.word_is (digits_decimal own m.node few) in
    let place : position_or_len (is_byte 46) (is.node ++ 46 ∷ is.inc) ≡ length is.node = dot_behind is.node is.inc digits in
    let before : before_first (is_byte 46) word ≡ is.node = rw (is.word_is, place) (take-append_seam is.node (46 ∷ is.inc)) in
    let after : after_first (is_byte 46) word ≡ is.inc = rw (is.word_is, place) (drop-append-add is.node (46 ∷ is.inc) 1) in
    let node : number_of (floor + 1) 16 (before_first (is_byte 46) word) ≡ Some m.node = ap (number_of (floor + 1) 16) before ∙ number_read (floor + 1) 16 is.node m.node (omega arith) is.is_node in
    let inc : number_of 1 4_294_967_295 (after_first (is_byte 46) word) ≡ Some m.inc = ap (number_of 1 4_294_967_295) after ∙ number_read 1 4_294_967_295 is.inc m.inc (omega arith) is.is_inc in
    rw (node, inc) refl
