-- A generated script has few lines.
use Rattle.std.proofs.Common.{◌≡◌, ℕ, zero, suc, ◌+◌, ◌*◌, ◌/◌, ◌%◌, ◌≤◌, Bool, true, false, cond, List, [], ◌∷◌, ◌++◌, length, refl, sym, ap, ◌∙◌, arith}
use Rattle.std.specs.Prelude.{codes, nat_lt, ◌==◌, slice_index}
use Rattle.std.specs.Fmt.{decimal, digit_glyph, digits, digits_onto}
use Rattle.std.specs.List.{count_by}
use Rattle.std.proofs.lemmas.Bool.Decides.{nat_tests}
use Rattle.std.proofs.lemmas.List.Splits.{length-slice_split}
use Rattle.std.proofs.lemmas.List.Sums.{sum_by-append}
use Rattle.hex.specs.Hex.{encode_lower, encode_with, lower_digits}
use Rattle.clusapi_stubs.specs.declared.input.In.{In}
use Rattle.clusapi_stubs.specs.Inputs.{opnum_of, parameters}
use Rattle.clusapi_stubs.specs.Outputs.{encoding}
use Rattle.wire_fields.specs.declared.endian.Endian.TheVariants.{Little}
use Rattle.script_generator.specs.Clusters.{first_cluster}
use Rattle.script_generator.specs.Draws.{draw}
use Rattle.script_generator.specs.Lines.{client_lines, install_lines, line, request_line, rest_of_line, view_line}
use Rattle.script_generator.specs.Rounds.{Round, choice, death, death_lines, generated, opening, other, pick, pump, query_value, round, rounds, set_value, tick}
use Rattle.text_lines.specs.Lines.{is_line_feed, lines_of}

feeds : List ℕ → ℕ
feeds text = count_by is_line_feed text

both : (xs ys : List ℕ) → feeds (xs ++ ys) ≡ feeds xs + feeds ys
unfolding feeds
both xs ys = sum_by-append (λ byte. cond (is_line_feed byte) 1 0) xs ys

-- ---- numbers and bytes

behind : (byte : ℕ) (text : List ℕ) → feeds (byte ∷ text) ≡ cond (is_line_feed byte) 1 0 + feeds text
unfolding feeds
behind byte text = both (byte ∷ []) text ∙ (let alone : 0 + cond (is_line_feed byte) 1 0 ≡ cond (is_line_feed byte) 1 0 = omega arith in ap (λ (n : ℕ). n + feeds text) alone)

not_feed : (byte : ℕ) (text : List ℕ) → is_line_feed byte ≡ false → feeds (byte ∷ text) ≡ feeds text
unfolding feeds
not_feed byte text no_feed = rw no_feed refl

no_glyph : (b u : Bool) (d : ℕ) → (cond b (48 + d) (cond u (55 + d) (87 + d)) == 10) ≡ false
no_glyph true u d = grind (arith, nat_tests)
no_glyph false true d = grind (arith, nat_tests)
no_glyph false false d = grind (arith, nat_tests)

digit_onto : (n : ℕ) (acc : List ℕ) → feeds (digit_glyph false (n % 10) ∷ acc) ≡ feeds acc
digit_onto n acc = not_feed (digit_glyph false (n % 10)) acc (no_glyph (nat_lt (n % 10) 10) false (n % 10))

either : (b : Bool) (xs ys : List ℕ) (n : ℕ) → feeds xs ≡ n → feeds ys ≡ n → feeds (cond b xs ys) ≡ n
either true xs ys n x y = x
either false xs ys n x y = y

onto : (k n : ℕ) (acc : List ℕ) → feeds (digits_onto k 10 false n acc) ≡ feeds acc
onto zero n acc = refl
onto (suc k) n acc =
    either (n / 10 == 0) (digit_glyph false (n % 10) ∷ acc) (digits_onto k 10 false (n / 10) (digit_glyph false (n % 10) ∷ acc)) (feeds acc) (digit_onto n acc)
    (onto k (n / 10) (digit_glyph false (n % 10) ∷ acc) ∙ digit_onto n acc)

number : (n : ℕ) → feeds (decimal n) ≡ 0
unfolding digits feeds
number n = onto 64 n []

first_of : (b : Bool) (n : ℕ) → cond b 1 0 + n ≡ 0 → b ≡ false
first_of true n none = absurd (omega (arith, none))
first_of false n none = refl

behind_first : (b : Bool) (n : ℕ) → cond b 1 0 + n ≡ 0 → n ≡ 0
behind_first true n none = absurd (omega (arith, none))
behind_first false n none = omega (arith, none)

none_among : (table : List ℕ) (i : ℕ) → feeds table ≡ 0 → is_line_feed (slice_index table i) ≡ false
none_among [] i none = refl
none_among (byte ∷ table) zero none = first_of (is_line_feed byte) (feeds table) (sym (behind byte table) ∙ none)
none_among (byte ∷ table) (suc i) none = none_among table i (behind_first (is_line_feed byte) (feeds table) (sym (behind byte table) ∙ none))

hex : (bytes : List ℕ) → feeds (encode_with lower_digits bytes) ≡ 0
unfolding encode_with feeds
hex [] = refl
hex (byte ∷ bytes) =
    not_feed (slice_index lower_digits (byte / 16)) (slice_index lower_digits (byte % 16) ∷ encode_with lower_digits bytes) (none_among lower_digits (byte / 16) refl)
    ∙ (not_feed (slice_index lower_digits (byte % 16)) (encode_with lower_digits bytes) (none_among lower_digits (byte % 16) refl) ∙ hex bytes)

-- ---- lines

rest : (ns : List ℕ) → feeds (rest_of_line ns) ≡ 1
unfolding feeds
rest [] = refl
rest (n ∷ ns) = let w : feeds (codes " ") ≡ 0 = refl in let a = both (codes " ") (decimal n ++ rest_of_line ns) in let b = both (decimal n) (rest_of_line ns) in let c = number n in let d = rest ns in omega (arith, w, a, b, c, d)

one : (word ns : List ℕ) → feeds word ≡ 0 → feeds (line word ns) ≡ 1
one word ns none = let a = both word (rest_of_line ns) in let b = rest ns in omega (arith, a, b, none)

view : (c : _) → feeds (view_line c) ≡ 1
unfolding view_line feeds
view c =
    let t5 = codes "\n" ++ [] in
    let t4 = decimal c.incs.third ++ t5 in
    let t3 = codes " 3." ++ t4 in
    let t2 = decimal c.incs.second ++ t3 in
    let t1 = codes " 2." ++ t2 in
    let t0 = decimal c.incs.first ++ t1 in
    let s1 = codes " 1." ++ t0 in
    let s0 = decimal c.view ++ s1 in
    let a = both (codes "view ") s0 in
    let b = both (decimal c.view) s1 in
    let d = both (codes " 1.") t0 in
    let e = both (decimal c.incs.first) t1 in
    let f = both (codes " 2.") t2 in
    let g = both (decimal c.incs.second) t3 in
    let h = both (codes " 3.") t4 in
    let i = both (decimal c.incs.third) t5 in
    let n1 = number c.view in
    let n2 = number c.incs.first in
    let n3 = number c.incs.second in
    let n4 = number c.incs.third in
    let w0 : feeds (codes "view ") ≡ 0 = refl in
    let w1 : feeds (codes " 1.") ≡ 0 = refl in
    let w2 : feeds (codes " 2.") ≡ 0 = refl in
    let w3 : feeds (codes " 3.") ≡ 0 = refl in
    let w4 : feeds t5 ≡ 1 = refl in
    omega (arith, a, b, d, e, f, g, h, i, n1, n2, n3, n4, w0, w1, w2, w3, w4)

installs : (v : ℕ) → feeds (install_lines v) ≡ 3
unfolding install_lines feeds
installs v =
    let l = λ (n : ℕ). line (codes "install") (n ∷ v ∷ []) in
    let a = both (l 1) (l 2 ++ l 3) in
    let b = both (l 2) (l 3) in
    let x = one (codes "install") (1 ∷ v ∷ []) refl in
    let y = one (codes "install") (2 ∷ v ∷ []) refl in
    let z = one (codes "install") (3 ∷ v ∷ []) refl in
    omega (arith, a, b, x, y, z)

client : (conn node : ℕ) → feeds (client_lines conn node) ≡ 3
unfolding client_lines feeds
client conn node =
    let last = decimal conn ++ codes " 28 3f000f00\n" in
    let a = both (line (codes "connect") (conn ∷ node ∷ [])) (line (codes "bind") (conn ∷ []) ++ (codes "request " ++ last)) in
    let b = both (line (codes "bind") (conn ∷ [])) (codes "request " ++ last) in
    let c = both (codes "request ") last in
    let d = both (decimal conn) (codes " 28 3f000f00\n") in
    let x = one (codes "connect") (conn ∷ node ∷ []) refl in
    let y = one (codes "bind") (conn ∷ []) refl in
    let z = number conn in
    let w0 : feeds (codes "request ") ≡ 0 = refl in
    let w1 : feeds (codes " 28 3f000f00\n") ≡ 1 = refl in
    omega (arith, a, b, c, d, x, y, z, w0, w1)

request : (conn : ℕ) (input : In) → feeds (request_line conn input) ≡ 1
unfolding request_line feeds
request conn input =
    let text = encode_lower (encoding Little [] (parameters input)) in
    let t3 = codes "\n" ++ [] in
    let t2 = text ++ t3 in
    let t1 = codes " " ++ t2 in
    let t0 = decimal (opnum_of input) ++ t1 in
    let s1 = codes " " ++ t0 in
    let s0 = decimal conn ++ s1 in
    let a = both (codes "request ") s0 in
    let b = both (decimal conn) s1 in
    let c = both (codes " ") t0 in
    let d = both (decimal (opnum_of input)) t1 in
    let e = both (codes " ") t2 in
    let f = both text t3 in
    let x = number conn in
    let y = number (opnum_of input) in
    let z = hex (encoding Little [] (parameters input)) in
    let w0 : feeds (codes "request ") ≡ 0 = refl in
    let w1 : feeds (codes " ") ≡ 0 = refl in
    let w2 : feeds t3 ≡ 1 = refl in
    omega (arith, a, b, c, d, e, f, x, y, z, w0, w1, w2)

-- ---- rounds

dies : (node : ℕ) (c : _) → feeds (death_lines node c) ≡ 10
unfolding death_lines feeds
dies node c =
    let t2 = codes "pump 200\n" ++ client_lines c.greatest node in
    let t1 = install_lines c.view ++ t2 in
    let t0 = view_line c ++ t1 in
    let s0 = line (codes "start") (node ∷ []) ++ t0 in
    let a = both (line (codes "die") (node ∷ [])) s0 in
    let b = both (line (codes "start") (node ∷ [])) t0 in
    let d = both (view_line c) t1 in
    let e = both (install_lines c.view) t2 in
    let f = both (codes "pump 200\n") (client_lines c.greatest node) in
    let n1 = one (codes "die") (node ∷ []) refl in
    let n2 = one (codes "start") (node ∷ []) refl in
    let n3 = view c in
    let n4 = installs c.view in
    let n5 = client c.greatest node in
    let w0 : feeds (codes "pump 200\n") ≡ 1 = refl in
    omega (arith, a, b, d, e, f, n1, n2, n3, n4, n5, w0)

one_of : (b : Bool) (p q : List ℕ × ℕ) → feeds p.0 ≡ 1 → feeds q.0 ≡ 1 → feeds (cond b p q).0 ≡ 1
one_of true p q x y = x
one_of false p q x y = y

sets : (c : _) (x : ℕ) → feeds (set_value c x).0 ≡ 1
unfolding set_value
sets c x = request _ _

queries : (c : _) (x : ℕ) → feeds (query_value c x).0 ≡ 1
unfolding query_value
queries c x = request _ _

picks : (x : ℕ) → feeds (pick x).0 ≡ 1
unfolding pick feeds
picks x = one (codes "pick") ((draw 1_000_000 x).0 ∷ []) refl

pumps : (x : ℕ) → feeds (pump x).0 ≡ 1
unfolding pump feeds
pumps x = one (codes "pump") ((1 + (draw 8 x).0) ∷ []) refl

ticks : (x : ℕ) → feeds (tick x).0 ≡ 1
unfolding tick feeds
ticks x = one (codes "tick") ((1 + (draw 3 x).0) ∷ []) refl

skips : feeds (codes "skip 1\n") ≡ 1
unfolding feeds
skips = refl

chooses : (r : ℕ) (c : _) (x : ℕ) → feeds (choice r c x).0 ≡ 1
unfolding choice
chooses r c x =
    one_of (nat_lt r 3) (set_value c x) _ (sets c x)
    (one_of (r == 3) (query_value c x) _ (queries c x)
    (one_of (r == 4) (pick x) _ (picks x) (one_of (r == 5) (pump x) _ (pumps x) (one_of (r == 6) (tick x) (codes "skip 1\n", x) (ticks x) skips))))

few_of : (b : Bool) (p q : Round) → feeds p.lines ≤ 10 → feeds q.lines ≤ 10 → feeds (cond b p q).lines ≤ 10
few_of true p q x y = x
few_of false p q x y = y

dies_once : (c : _) (x : ℕ) → feeds (death c x).lines ≤ 10
unfolding death
dies_once c x = let lines : feeds (death c x).lines ≡ 10 = dies _ _ in omega (arith, lines)

others : (c : _) (x : ℕ) → feeds (other c x).lines ≤ 10
unfolding other
others c x = let lines : feeds (other c x).lines ≡ 1 = chooses _ _ _ in omega (arith, lines)

goes_round : (n : ℕ) (c : _) (x : ℕ) → feeds (round n c x).lines ≤ 10
unfolding round
goes_round n c x = few_of (n % 100 == 0) (death c x) (other c x) (dies_once c x) (others c x)

none_none : feeds [] ≡ 0
unfolding feeds
none_none = refl

all_rounds : (count n : ℕ) (c : _) (x : ℕ) → feeds (rounds count n c x) ≤ 10 * count
unfolding rounds
all_rounds zero n c x = omega (arith, none_none)
all_rounds (suc count) n c x =
    let a = both (round n c x).lines (rounds count (n + 1) (round n c x).cluster (round n c x).x) in
    let b = goes_round n c x in
    let d = all_rounds count (n + 1) (round n c x).cluster (round n c x).x in
    omega (arith, a, b, d)

begins : feeds opening ≡ 18
unfolding opening feeds
begins =
    let t4 = client_lines 2 2 ++ client_lines 3 3 in
    let t3 = client_lines 1 1 ++ t4 in
    let t2 = codes "pump 100\n" ++ t3 in
    let t1 = install_lines 1 ++ t2 in
    let t0 = view_line first_cluster ++ t1 in
    let a = both (codes "cap 1048576\nstart 1\nstart 2\nstart 3\n") t0 in
    let b = both (view_line first_cluster) t1 in
    let d = both (install_lines 1) t2 in
    let e = both (codes "pump 100\n") t3 in
    let f = both (client_lines 1 1) t4 in
    let g = both (client_lines 2 2) (client_lines 3 3) in
    let n1 = view first_cluster in
    let n2 = installs 1 in
    let n3 = client 1 1 in
    let n4 = client 2 2 in
    let n5 = client 3 3 in
    let w0 : feeds (codes "cap 1048576\nstart 1\nstart 2\nstart 3\n") ≡ 4 = refl in
    let w1 : feeds (codes "pump 100\n") ≡ 1 = refl in
    omega (arith, w0, w1, a, b, d, e, f, g, n1, n2, n3, n4, n5)

pub few_generated : (start count : ℕ) → count ≤ 100_000 → length (lines_of (generated start count)) ≤ 16_777_217
unfolding lines_of generated feeds
few_generated start count few =
    let a = both opening (rounds count 1 first_cluster start) in
    let b = begins in
    let d = all_rounds count 1 first_cluster start in
    let e = length-slice_split is_line_feed (generated start count) in
    omega (arith, a, b, d, e, few)
