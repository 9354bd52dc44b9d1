-- Parts of bodies: what is read is spelled so, and what is spelled so is read.
use Rattle.std.proofs.Common.{◌≡◌, ℕ, ◌+◌, ◌^◌, ◌<◌, Bool, true, false, cond, eqb, ltb, List, [], ◌++◌, length, Option, Some, None, refl, sym, ap, ◌∙◌, subst, append_assoc, arith, length-append}
use Rattle.std.proofs.lemmas.Bool.{eqb-true, le-ltb}
use Rattle.std.proofs.lemmas.List.{drop_all, nil_from_length, take_all}
use Rattle.wire_fields.specs.declared.endian.Endian.{Endian}
use Rattle.wire_fields.specs.Numbers.{IsBytes, num, uuid_text}
use Rattle.wire_fields.specs.Reading.{Reading, ◌>>=◌, uuid_at}
use Rattle.wire_fields.proofs.NumberLaws.{length-num}
use Rattle.wire_fields.proofs.FieldLaws.{Took, at, some_is, took_none, took_then, bytes_read, number_read, uuid_read, length-uuid_text}
use Rattle.wire_fields.proofs.ListLaws.{FoundBy, ReadBy, list_read}
use Rattle.rpc_pdu.specs.declared.proposal.Proposal.{Proposal}
use Rattle.rpc_pdu.specs.declared.syntax.Syntax.{Syntax}
use Rattle.rpc_pdu.specs.declared.verdict.Verdict.{Verdict}
use Rattle.rpc_pdu.specs.Flags.{has_flag}
use Rattle.rpc_pdu.specs.Grammar.{IsObject, IsProposal, IsSyntax, IsVerdict, IsVersion}
use Rattle.rpc_pdu.specs.Reading.{alone, object_at, proposal_at, rest_at, syntax_at, verdict_at, version_at}
use Rattle.rpc_pdu.proofs.Steps.{bytes_then, list_then, number_then, pair, run_long, part_then, still_below, uuid_then}

-- ---- syntaxes

pub syntax_found : FoundBy syntax_at IsSyntax
unfolding syntax_at
syntax_found s a t h e =
    uuid_then s.endian s _ (a, t) refl h e (λ id.
    number_then 4 s.endian id.rest _ (a, t) id.order id.took.bytes id.goes_on (λ version.
    let whole : Took s (uuid_text s.endian id.value ++ num s.endian 4 version.value) version.rest =
    rw (← id.holds.0, ← version.holds.0) (took_then s id.rest version.rest id.text version.text id.took version.took) in
    let made : Syntax × Reading = (record { id = id.value; version = version.value }, version.rest) in
    let P : Syntax × Reading → Type 0 = λ p. (text : List ℕ) × Took s text p.1 × IsSyntax s.endian p.0 text in
    subst P (some_is made (a, t) version.goes_on) (uuid_text s.endian id.value ++ num s.endian 4 version.value, whole, (id.holds.1, version.holds.1, refl))))

pub syntax_read : ReadBy syntax_at IsSyntax
unfolding syntax_at
syntax_read e place a text rest is =
    let split : text ++ rest ≡ uuid_text e a.id ++ (num e 4 a.version ++ rest) = ap (λ (t : List ℕ). t ++ rest) is.2 ∙ append_assoc (uuid_text e a.id) (num e 4 a.version) rest in
    let end : place + 16 + 4 ≡ place + length text = omega (arith, ap length is.2, length-append (uuid_text e a.id) (num e 4 a.version), length-uuid_text e a.id is.0, length-num e 4 a.version) in
    rw (split, uuid_read e place a.id (num e 4 a.version ++ rest) is.0, number_read e (place + 16) 4 a.version rest is.1) (ap (λ (p : ℕ). Some (a, at e p rest)) end)

-- ---- proposals

pub proposal_found : FoundBy proposal_at IsProposal
unfolding proposal_at
proposal_found s a t h e =
    number_then 2 s.endian s _ (a, t) refl h e (λ id.
    number_then 1 s.endian id.rest _ (a, t) id.order id.took.bytes id.goes_on (λ count.
    bytes_then 1 s.endian count.rest _ (a, t) count.order count.took.bytes count.goes_on (λ reserved.
    part_then syntax_at IsSyntax syntax_found s.endian reserved.rest _ (a, t) reserved.order reserved.took.bytes reserved.goes_on (λ interface.
    list_then syntax_at IsSyntax syntax_found count.value s.endian interface.rest _ (a, t) interface.order interface.took.bytes interface.goes_on (λ transfers.
    let end = transfers.rest in
    let text = id.text ++ (count.text ++ (reserved.text ++ (interface.text ++ transfers.text))) in
    let took : Took s text end =
    took_then s id.rest end id.text _ id.took (took_then id.rest count.rest end count.text _ count.took (took_then count.rest reserved.rest end reserved.text _ reserved.took
    (took_then reserved.rest interface.rest end interface.text transfers.text interface.took transfers.took))) in
    let long : length reserved.text ≡ 1 = run_long _ s.endian reserved.value reserved.text reserved.holds in
    let small : length transfers.value < 256 ^ 1 = still_below _ count.value _ transfers.holds.0 count.holds.1 in
    let spelled : text ≡ num s.endian 2 id.value ++ (num s.endian 1 (length transfers.value) ++ (reserved.text ++ (interface.text ++ transfers.text))) =
    pair id.text _ _ _ id.holds.0 (pair count.text _ _ _ (count.holds.0 ∙ ap (num s.endian 1) (sym transfers.holds.0)) refl) in
    let made : Proposal × Reading = (record { id = id.value; abstract_syntax = interface.value; transfers = transfers.value }, end) in
    let P : Proposal × Reading → Type 0 = λ p. (text : List ℕ) × Took s text p.1 × IsProposal s.endian p.0 text in
    subst P (some_is made (a, t) transfers.goes_on)
    (text, took, (reserved.text, interface.text, transfers.text, long, interface.holds, transfers.holds.1, id.holds.1, small, spelled)))))))

pub proposal_read : ReadBy proposal_at IsProposal
unfolding proposal_at
proposal_read e place a text rest is =
    let reserved = is.0 in
    let interface = is.1 in
    let transfers = is.2 in
    let id = num e 2 a.id in
    let count = num e 1 (length a.transfers) in
    let split : text ++ rest ≡ id ++ (count ++ (reserved ++ (interface ++ (transfers ++ rest)))) = ap (λ (t : List ℕ). t ++ rest) is.8 ∙ simp append_assoc in
    let one = number_read e place 2 a.id (count ++ (reserved ++ (interface ++ (transfers ++ rest)))) is.6 in
    let two = number_read e (place + 2) 1 (length a.transfers) (reserved ++ (interface ++ (transfers ++ rest))) is.7 in
    let three = bytes_read e (place + 2 + 1) 1 reserved (interface ++ (transfers ++ rest)) is.3 in
    let four = syntax_read e (place + 2 + 1 + 1) a.abstract_syntax interface (transfers ++ rest) is.4 in
    let five = list_read syntax_at IsSyntax syntax_read e (place + 2 + 1 + 1 + length interface) a.transfers transfers rest is.5 in
    let long : length text ≡ 2 + (1 + (1 + (length interface + length transfers))) = ap length is.8 ∙ omega (arith, length-append {A = ℕ}, length-num, is.3) in
    let end : place + 2 + 1 + 1 + length interface + length transfers ≡ place + length text = omega arith in
    rw (split, one, two, three, four, five) (ap (λ (p : ℕ). Some (a, at e p rest)) end)

-- ---- verdicts

pub verdict_found : FoundBy verdict_at IsVerdict
unfolding verdict_at
verdict_found s a t h e =
    number_then 2 s.endian s _ (a, t) refl h e (λ outcome.
    number_then 2 s.endian outcome.rest _ (a, t) outcome.order outcome.took.bytes outcome.goes_on (λ reason.
    part_then syntax_at IsSyntax syntax_found s.endian reason.rest _ (a, t) reason.order reason.took.bytes reason.goes_on (λ syntax.
    let end = syntax.rest in
    let text = outcome.text ++ (reason.text ++ syntax.text) in
    let took : Took s text end = took_then s outcome.rest end outcome.text _ outcome.took (took_then outcome.rest reason.rest end reason.text syntax.text reason.took syntax.took) in
    let spelled : text ≡ num s.endian 2 outcome.value ++ (num s.endian 2 reason.value ++ syntax.text) = pair outcome.text _ _ _ outcome.holds.0 (pair reason.text _ _ _ reason.holds.0 refl) in
    let made : Verdict × Reading = (record { result = outcome.value; reason = reason.value; syntax = syntax.value }, end) in
    let P : Verdict × Reading → Type 0 = λ p. (text : List ℕ) × Took s text p.1 × IsVerdict s.endian p.0 text in
    subst P (some_is made (a, t) syntax.goes_on) (text, took, (syntax.text, syntax.holds, outcome.holds.1, reason.holds.1, spelled)))))

pub verdict_read : ReadBy verdict_at IsVerdict
unfolding verdict_at
verdict_read e place a text rest is =
    let syntax = is.0 in
    let outcome = num e 2 a.result in
    let reason = num e 2 a.reason in
    let split : text ++ rest ≡ outcome ++ (reason ++ (syntax ++ rest)) = ap (λ (t : List ℕ). t ++ rest) is.4 ∙ simp append_assoc in
    let one = number_read e place 2 a.result (reason ++ (syntax ++ rest)) is.2 in
    let two = number_read e (place + 2) 2 a.reason (syntax ++ rest) is.3 in
    let three = syntax_read e (place + 2 + 2) a.syntax syntax rest is.1 in
    let long : length text ≡ 2 + (2 + length syntax) = ap length is.4 ∙ omega (arith, length-append {A = ℕ}, length-num) in
    let end : place + 2 + 2 + length syntax ≡ place + length text = omega arith in
    rw (split, one, two, three) (ap (λ (p : ℕ). Some (a, at e p rest)) end)

-- ---- versions

pub version_found : FoundBy version_at IsVersion
unfolding version_at
version_found s a t h e =
    number_then 1 s.endian s _ (a, t) refl h e (λ major.
    number_then 1 s.endian major.rest _ (a, t) major.order major.took.bytes major.goes_on (λ minor.
    let text = major.text ++ minor.text in
    let took : Took s text minor.rest = took_then s major.rest minor.rest major.text minor.text major.took minor.took in
    let spelled : text ≡ num s.endian 1 major.value ++ num s.endian 1 minor.value = pair major.text _ _ _ major.holds.0 minor.holds.0 in
    let made : (ℕ × ℕ) × Reading = ((major.value, minor.value), minor.rest) in
    let P : (ℕ × ℕ) × Reading → Type 0 = λ p. (text : List ℕ) × Took s text p.1 × IsVersion s.endian p.0 text in
    subst P (some_is made (a, t) minor.goes_on) (text, took, (major.holds.1, minor.holds.1, spelled))))

pub version_read : ReadBy version_at IsVersion
unfolding version_at
version_read e place a text rest is =
    let split : text ++ rest ≡ num e 1 a.0 ++ (num e 1 a.1 ++ rest) = ap (λ (t : List ℕ). t ++ rest) is.2 ∙ append_assoc (num e 1 a.0) (num e 1 a.1) rest in
    let one = number_read e place 1 a.0 (num e 1 a.1 ++ rest) is.0 in
    let two = number_read e (place + 1) 1 a.1 rest is.1 in
    let long : length text ≡ 1 + 1 = ap length is.2 ∙ omega (arith, length-append {A = ℕ}, length-num) in
    let end : place + 1 + 1 ≡ place + length text = omega arith in
    rw (split, one, two) (ap (λ (p : ℕ). Some (a, at e p rest)) end)

-- ---- an object

abbrev present : List ℕ × Reading → Option (Option (List ℕ) × Reading)
present id = Some (Some id.0, id.1)

abbrev absent : Reading → Option (Option (List ℕ) × Reading)
absent s = Some (None, s)

object_found_in : (flags : ℕ) (stands : Bool) (s : Reading) (a : Option (List ℕ)) (t : Reading) → has_flag flags 0x80 ≡ stands → IsBytes s.left
    → cond stands (uuid_at s >>= present) (absent s) ≡ Some (a, t) → (text : List ℕ) × Took s text t × IsObject flags s.endian a text
object_found_in flags false s a t stands h e =
    let P : Option (List ℕ) × Reading → Type 0 = λ p. (text : List ℕ) × Took s text p.1 × IsObject flags s.endian p.0 text in
    subst P (some_is (None, s) (a, t) e) ([], took_none s h, (stands, refl))
object_found_in flags true s a t stands h e =
    uuid_then s.endian s _ (a, t) refl h e (λ id.
    let P : Option (List ℕ) × Reading → Type 0 = λ p. (text : List ℕ) × Took s text p.1 × IsObject flags s.endian p.0 text in
    subst P (some_is (Some id.value, id.rest) (a, t) id.goes_on) (id.text, id.took, (stands, id.holds.1, id.holds.0)))

pub object_found : (flags : ℕ) → FoundBy (object_at flags) (IsObject flags)
unfolding object_at
object_found flags s a t h e = object_found_in flags (has_flag flags 0x80) s a t refl h e

pub object_read : (flags : ℕ) (e : Endian) (place : ℕ) (a : Option (List ℕ)) (text rest : List ℕ) → IsObject flags e a text
    → (q : ℕ) × (object_at flags (at e place (text ++ rest)) ≡ Some (a, at e q rest))
unfolding object_at
object_read flags e place None text rest is = (place, rw (is.0, is.1) refl)
object_read flags e place (Some id) text rest is = (place + 16, rw (is.0, is.2, uuid_read e place id rest is.1) refl)

-- ---- ends of bodies

-- The rest is all that is left.
pub rest_is : (s : Reading) → rest_at s ≡ Some (s.left, at s.endian (s.place + length s.left) [])
unfolding rest_at
rest_is s =
    let enough : ltb (length s.left) (length s.left) ≡ false = le-ltb _ _ (omega arith) in
    rw (enough, take_all (length s.left) s.left (omega arith), drop_all (length s.left) s.left (omega arith)) refl

pub alone_some : {A : Type 0} (x y : A) (s : Reading) → alone x s ≡ Some y → (s.left ≡ []) × (x ≡ y)
alone_some {A} x y s e = alone_of (eqb (length s.left) 0) refl e
  where
    alone_of : (test : Bool) → eqb (length s.left) 0 ≡ test → cond test (Some x) None ≡ Some y → (s.left ≡ []) × (x ≡ y)
    alone_of true is e = (nil_from_length s.left (eqb-true _ _ is), cc)
    alone_of false is e = absurd cc
