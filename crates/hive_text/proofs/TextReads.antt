-- Reading a text line by line.
use Rattle.std.proofs.Common.{◌≡◌, ℕ, ◌+◌, ◌<◌, ◌≤◌, Bool, true, false, List, [], ◌∷◌, ◌++◌, length, drop, Option, Some, None, Result, Ok, Err, inl, inr, refl, sym, ap, subst, ◌∙◌, append_assoc, length-append, length-drop, arith}
use Rattle.std.specs.Prelude.{IfErr, IfOk, codes}
use Rattle.std.specs.declared.alloc.AllocError.{AllocError}
use Rattle.registry_defs.specs.Contents.{Contents, IsCap, keys_in}
use Rattle.registry_defs.specs.Keys.{Keys}
use Rattle.registry_defs.specs.Limits.{IsRegistry}
use Rattle.registry_defs.specs.Nodes.{keys_of}
use Rattle.registry_defs.specs.Sizes.{size}
use Rattle.hive_text.specs.HiveText.{hive_text}
use Rattle.hive_text.specs.LineWords.{IsLine, IsSplit, Lacks, Spells, bare}
use Rattle.hive_text.specs.Standings.{Follows, Standing, all_behind, behind, nothing_named}
use Rattle.hive_text.specs.TextFaults.{FailsAt, FailsOn, GivesText, IsTextOf}
use Rattle.hive_text.specs.TextLines.{line_text}
use Rattle.hive_text.specs.Told.{HasHead, HasRead, NextIs, sized}
use Rattle.hive_text.specs.Turns.{IsReading, TookLine, Turns}
use Rattle.hive_text.specs.Walks.{IsWalk, level_node}
use Rattle.hive_text.specs.declared.line.Line.{Line}
use Rattle.hive_text.specs.declared.text_fault.TextFault.{TextFault}
use Rattle.hive_text.specs.declared.text_fault.TextFault.TheVariants.{Bad, Memory}
use Rattle.hive_text.specs.declared.walk.Walk.{Walk}
use Rattle.hive_text.proofs.Faults.{goes_on_behind, line_refused, lines_missing, no_first, no_line_there, no_text, whole_text}
use Rattle.hive_text.proofs.LineTexts.{bare_lacks, line_is, one_at, some_line}
use Rattle.hive_text.proofs.OneText.{one_registry}
use Rattle.hive_text.proofs.Progress.{at_first}
use Rattle.hive_text.proofs.Splits.{no_split}
use Rattle.hive_text.proofs.WalkEnds.{whole_is}
use Rattle.hive_text.proofs.WalkKeys.{ended_standing, open_standing}

-- ---- answers of calls

abbrev pub taken : Bool → Result Bool AllocError
taken took = Ok took

abbrev pub turned : Option ℕ → Result (Option ℕ) AllocError
turned size = Ok size

-- ---- the next line

drop_front : (a b : List ℕ) → drop (length a) (a ++ b) ≡ b
drop_front [] b = refl
drop_front (x ∷ a) b = drop_front a b

apart : (l : Line) (more : List ℕ) → line_text l ++ more ≡ bare l ++ 10 ∷ more
apart l more = ap (λ t. t ++ more) (line_is l) ∙ append_assoc (bare l) (10 ∷ []) more

pub next_is : (rest front back : List ℕ) (line : Option Line) → IsSplit 10 rest front back → Spells IsLine bare front line → NextIs rest (sized (length front + 1) line)
next_is rest front back None split none = λ l more fits is.
    let one = one_at 10 front back (bare l) more split.lacks (bare_lacks l fits) (sym split.parts ∙ is ∙ apart l more) in
    none l fits (sym one.0)
next_is rest front back (Some l) split found =
    let text : line_text l ≡ front ++ 10 ∷ [] = line_is l ∙ ap (λ t. t ++ 10 ∷ []) found.1 in
    let long : length front + 1 ≡ length (line_text l) = omega (arith, ap (λ (t : List ℕ). length t) text, length-append front (10 ∷ [])) in
    let whole : rest ≡ line_text l ++ back = split.parts ∙ sym (append_assoc front (10 ∷ []) back) ∙ ap (λ t. t ++ back) (sym text) in
    let behind_it : drop (length front + 1) rest ≡ back = ap (λ n. drop n rest) long ∙ ap (drop (length (line_text l))) whole ∙ drop_front (line_text l) back in
    (found.0, whole ∙ ap (λ t. line_text l ++ t) (sym behind_it), long)

pub no_next : (rest : List ℕ) → Lacks 10 rest → NextIs rest None
no_next rest lacks = λ l more fits is. no_split 10 rest (bare l) more lacks (is ∙ apart l more)

next_long : (rest : List ℕ) (line : Line) (count : ℕ) → NextIs rest (Some (line, count)) → (0 < count) × (count ≤ length rest)
next_long rest line count next =
    let whole = ap (λ (t : List ℕ). length t) next.1 in
    let some = some_line line in
    (omega (arith, some, next.2), omega (arith, whole, next.2, length-append (line_text line) (drop count rest)))

-- ---- reading on

module _ (cap : ℕ) (text : List ℕ) (range : IsCap cap) where
  large : 16 ≤ cap
  large = omega (arith, range.0)

  pub first_read : HasHead text → HasRead cap text 7 [] nothing_named
  unfolding all_behind
  first_read head = record { text_is = head; place_is = refl; standing_is = refl; stands = at_first cap }

  head_long : HasHead text → 7 ≤ length text
  head_long head = omega (arith, ap (λ (t : List ℕ). length t) head, length-append (codes "hive 1\n") (drop 7 text))

  some_there : (place : ℕ) (line : Line) (count : ℕ) → NextIs (drop place text) (Some (line, count)) → (place < length text) × (place + count ≤ length text) × (0 < count)
  some_there place line count next =
      let long = next_long (drop place text) line count next in
      let left = length-drop place text in
      (omega (arith, long.0, long.1, left), omega (arith, long.0, long.1, left), long.0)

  pub root_missing : HasHead text → NextIs (drop 7 text) None → FailsAt cap text 7
  root_missing head none = no_first cap text 7 [] nothing_named large (first_read head) refl refl none

  pub root_refused : HasHead text → (line : Line) (count : ℕ) → NextIs (drop 7 text) (Some (line, count)) → (Follows cap nothing_named line → ⊥) → FailsAt cap text 7
  root_refused head line count next refused = line_refused cap text 7 [] nothing_named large (first_read head) (some_there 7 line count next).0 (line, count) next refused

  pub root_taken : HasHead text → (line : Line) (count : ℕ) (walk : Walk) → NextIs (drop 7 text) (Some (line, count)) → Follows cap nothing_named line → IsWalk walk (behind line nothing_named) → walk.cap ≡ cap
      → IsReading cap text (7 + count) walk × (7 + count ≤ length text)
  root_taken head line count walk next follows is same = (
    record { told = line ∷ []; standing = behind line nothing_named; read = goes_on_behind cap text 7 [] nothing_named large (first_read head) (line, count) next follows; walk_is = is; same_cap = same },
    (some_there 7 line count next).1,
  )

  module _ (place : ℕ) (walk : Walk) (reading : IsReading cap text place walk) where
    pub sound : (s : Standing) × IsWalk walk s
    sound = (reading.standing, reading.walk_is)

    pub went_on : (count : ℕ) (now : Walk) → TookLine walk (drop place text) count now → IsReading cap text (place + count) now × (place + count ≤ length text) × (0 < count)
    went_on count now took =
        let did = took.took reading.standing reading.walk_is in
        let follows = subst (λ n. Follows n reading.standing took.line) reading.same_cap did.0 in
        let there = some_there place took.line count took.next in (
          record {
            told = reading.told ++ took.line ∷ [];
            standing = behind took.line reading.standing;
            read = goes_on_behind cap text place reading.told reading.standing large reading.read (took.line, count) took.next follows;
            walk_is = did.1;
            same_cap = did.2 ∙ reading.same_cap;
          },
          there.1,
          there.2,
        )

    pub stopped : (now : Walk) → place < length text → Turns (Ok None) walk (drop place text) now → FailsAt cap text place
    stopped now more (inl none) = no_line_there cap text place reading.told reading.standing large reading.read more none
    stopped now more (inr bad) =
        line_refused cap text place reading.told reading.standing large reading.read more (bad.line, bad.size) bad.next
        (λ follows. bad.refused reading.standing reading.walk_is (subst (λ n. Follows n reading.standing bad.line) (sym reading.same_cap) follows))

    pub not_ended : length text ≤ place → walk.ended ≡ false → FailsAt cap text place
    not_ended past open_now =
        let count : reading.standing.open_keys ≡ length walk.above.items + 1 = ap (λ (s : Standing). s.open_keys) (open_standing walk reading.standing reading.walk_is open_now) in
        lines_missing cap text place reading.told reading.standing large reading.read past (omega (arith, count))

    pub root_whole : walk.ended ≡ true → IsRegistry (keys_of (level_node walk.here)) × (size (keys_of (level_node walk.here)) ≤ cap)
    root_whole ended =
        let is = reading.walk_is in
        let same = whole_is walk reading.standing is ended in
        (subst IsRegistry same is.registry, omega (arith, ap size same, is.counted, is.fits, reading.same_cap))

    pub read_whole : (registry : Contents) → length text ≤ place → walk.ended ≡ true → registry.cap ≡ cap → keys_in registry ≡ keys_of (level_node walk.here) → IsTextOf cap text registry
    read_whole registry past ended same_cap keys =
        let is = reading.walk_is in
        let same : is.before ++ is.last ∷ [] ≡ keys_in registry = whole_is walk reading.standing is ended ∙ sym keys in
        let own = root_whole ended in
        record {
          same_cap = same_cap;
          limits = subst IsRegistry (sym keys) own.0;
          text_is = whole_text cap text place reading.told reading.standing large reading.read past is.before is.last (ended_standing walk reading.standing is ended) ∙ ap hive_text same;
          fits = omega (arith, own.1, ap size keys);
        }

-- ---- the whole call

pub no_head : (cap : ℕ) (text : List ℕ) → (HasHead text → ⊥) → FailsAt cap text 0
no_head cap text other = inl (record {
  place_is = refl;
  other = λ rest is. other (is ∙ ap (λ t. codes "hive 1\n" ++ t) (sym (ap (drop 7) is)));
})

pub given_text : (cap : ℕ) (text : List ℕ) (result : Result Contents TextFault) → IfOk result (IsTextOf cap text) → IfErr result (FailsOn cap text)
    → (keys : Keys) → IsRegistry keys → size keys ≤ cap → text ≡ hive_text keys → GivesText result keys
given_text cap text (Ok registry) found fault keys is fits text_is = one_registry (keys_in registry) keys found.limits is (sym found.text_is ∙ text_is)
given_text cap text (Err Memory) found fault keys is fits text_is = tt
given_text cap text (Err (Bad place)) found fault keys is fits text_is = no_text cap text place keys is fits text_is fault
