-- Where a text stops being that of a registry, and that no other text does.
use Rattle.std.proofs.Common.{◌≡◌, ℕ, ◌+◌, ◌<◌, ◌≤◌, List, [], ◌∷◌, ◌++◌, length, drop, Some, None, inl, inr, refl, sym, ap, subst, ◌∙◌, append_assoc, length-append, arith}
use Rattle.std.specs.Prelude.{IsSome, codes}
use Rattle.std.proofs.lemmas.Grind.{flat_map-append}
use Rattle.std.proofs.lemmas.List.{append-nil, drop-drop, drop_all}
use Rattle.registry_defs.specs.Keys.{KeyData, Keys, key_at}
use Rattle.registry_defs.specs.Limits.{IsRegistry}
use Rattle.registry_defs.specs.Sizes.{size}
use Rattle.registry_defs.proofs.Maps.{not_none}
use Rattle.registry_tree.proofs.Subkeys.{each_back, each_front}
use Rattle.hive_text.specs.HiveText.{hive_text, keys_lines}
use Rattle.hive_text.specs.LineWords.{IsLine}
use Rattle.hive_text.specs.Standings.{Entry, Follows, Standing, behind, named, nothing_named}
use Rattle.hive_text.specs.TextFaults.{AreAll, FailsAt, IsBadLine, IsStuck, MayStand}
use Rattle.hive_text.specs.TextLines.{line_text, lines_of, lines_text}
use Rattle.hive_text.specs.Told.{HasRead, NextIs, Stands}
use Rattle.hive_text.specs.declared.line.Line.{Line}
use Rattle.hive_text.proofs.Forward.{behind_more, done_if, follows_if}
use Rattle.hive_text.proofs.LineTexts.{AreLines, all_fit, goes_on, one_first, some_line, text_is}
use Rattle.hive_text.proofs.OneText.{head_gone}
use Rattle.hive_text.proofs.Progress.{are_all, may_stand, stands_behind}

all_lines : (cap : ℕ) (told : List Line) → AreAll cap told → AreLines told
all_lines cap told all = subst AreLines (sym all.are) (all_fit 0 all.keys all.registry.limits)

front_lines : (cap : ℕ) (told : List Line) → MayStand cap told → AreLines told
front_lines cap told may = each_front IsLine told may.behind (all_lines cap (told ++ may.behind) may.all)

-- ---- a text at fault is that of no registry within the cap

not_stuck : (cap : ℕ) (text : List ℕ) (place : ℕ) (keys : Keys) (more : List Line) (bad : IsBadLine cap text place) → IsRegistry keys → size keys ≤ cap → lines_of 0 keys ≡ bad.lines ++ more → bad.rest ≡ lines_text more → ⊥
not_stuck cap text place keys [] bad registry fits are rest = bad.unfinished rest (record { keys = keys; registry = registry; fits = fits; are = sym (are ∙ append-nil bad.lines) })
not_stuck cap text place keys (line ∷ more) bad registry fits are rest =
    bad.stuck line (lines_text more) rest
    (record { behind = more; all = record { keys = keys; registry = registry; fits = fits; are = append_assoc bad.lines (line ∷ []) more ∙ sym are } })

pub no_text : (cap : ℕ) (text : List ℕ) (place : ℕ) (keys : Keys) → IsRegistry keys → size keys ≤ cap → text ≡ hive_text keys → FailsAt cap text place → ⊥
no_text cap text place keys registry fits is (inl head) = head.other (keys_lines 0 keys) is
no_text cap text place keys registry fits is (inr bad) =
    let lines : lines_text (lines_of 0 keys) ≡ lines_text bad.lines ++ bad.rest =
    text_is 0 keys ∙ head_gone (keys_lines 0 keys) (lines_text bad.lines ++ bad.rest) (sym is ∙ bad.text_is) in
    let on = goes_on (lines_of 0 keys) bad.lines bad.rest (all_fit 0 keys registry.limits) (front_lines cap bad.lines bad.good) lines in
    not_stuck cap text place keys on.more bad registry fits on.all_are on.rest_is

-- ---- reading on

module _ (cap : ℕ) (text : List ℕ) (place : ℕ) (told : List Line) (s : Standing) (large : 16 ≤ cap) (read : HasRead cap text place told s) where
  last_line : (line : Line) → MayStand cap (told ++ line ∷ []) → IsLine line
  last_line line may = (each_back IsLine told (line ∷ []) (front_lines cap (told ++ line ∷ []) may)).0

  follows : (line : Line) → MayStand cap (told ++ line ∷ []) → Follows cap s line
  follows line may =
      subst (λ (t : Standing). Follows cap t line) (sym read.standing_is)
      (follows_if cap told line may.behind may.all.keys may.all.registry may.all.fits may.all.are)

  bad_line : (rest : List ℕ) → rest ≡ drop place text → IsStuck cap told rest → (rest ≡ [] → AreAll cap told → ⊥) → FailsAt cap text place
  bad_line rest is stuck unfinished = inr (record {
    lines = told;
    rest = rest;
    text_is = read.text_is ∙ ap (λ r. codes "hive 1\n" ++ (lines_text told ++ r)) (sym is);
    place_is = read.place_is;
    good = may_stand cap told large s read.stands;
    stuck = stuck;
    unfinished = unfinished;
  })

  some_left : place < length text → drop place text ≡ [] → ⊥
  some_left more none =
      let whole = ap (λ (t : List ℕ). length t) read.text_is in
      let less = ap (λ (t : List ℕ). length t) none in
      omega (arith, more, whole, less, read.place_is, length-append (lines_text told) (drop place text))

  pub no_line_there : place < length text → NextIs (drop place text) None → FailsAt cap text place
  no_line_there more none =
      bad_line (drop place text) refl (λ line behind is may. none line behind (last_line line may) is) (λ empty all. some_left more empty)

  pub line_refused : place < length text → (found : Line × ℕ) → NextIs (drop place text) (Some found) → (Follows cap s found.0 → ⊥) → FailsAt cap text place
  line_refused more found next refused =
      bad_line (drop place text) refl
      (λ line behind is may.
      let one = one_first found.0 line (drop found.1 (drop place text)) behind next.0 (last_line line may) (sym next.1 ∙ is) in
      refused (subst (λ (l : Line). Follows cap s l) (sym one.0) (follows line may)))
      (λ empty all. some_left more empty)

  pub lines_missing : length text ≤ place → 0 < s.open_keys → FailsAt cap text place
  lines_missing past some =
      let none : length (drop place text) ≡ 0 =
      (let whole = ap (λ (t : List ℕ). length t) read.text_is in omega (arith, past, whole, read.place_is, length-append (lines_text told) (drop place text))) in
      bad_line (drop place text) refl
      (λ line behind is may.
      let long = ap (λ (t : List ℕ). length t) is in
      omega (arith, none, long, some_line line, length-append (line_text line) behind))
      (λ empty all.
      let done = (done_if cap told all.keys all.registry all.fits all.are).none_open in
      let count = ap (λ (t : Standing). t.open_keys) read.standing_is in
      omega (arith, some, count, done))

  pub goes_on_behind : (found : Line × ℕ) → NextIs (drop place text) (Some found) → Follows cap s found.0 → HasRead cap text (place + found.1) (told ++ found.0 ∷ []) (behind found.0 s)
  goes_on_behind found next may =
      let more : lines_text (told ++ found.0 ∷ []) ≡ lines_text told ++ line_text found.0 =
      flat_map-append line_text told (found.0 ∷ []) ∙ ap (λ t. lines_text told ++ t) (append-nil (line_text found.0)) in
      let rest : drop found.1 (drop place text) ≡ drop (place + found.1) text = drop-drop found.1 place text in
      record {
        text_is = read.text_is ∙ ap (λ t. codes "hive 1\n" ++ (lines_text told ++ t)) (next.1 ∙ ap (λ t. line_text found.0 ++ t) rest)
            ∙ ap (λ t. codes "hive 1\n" ++ t) (sym (append_assoc (lines_text told) (line_text found.0) (drop (place + found.1) text)) ∙ ap (λ t. t ++ drop (place + found.1) text) (sym more));
        place_is = omega (arith, read.place_is, next.2, ap (λ (t : List ℕ). length t) more, length-append (lines_text told) (line_text found.0));
        standing_is = ap (behind found.0) read.standing_is ∙ sym (behind_more told found.0 nothing_named);
        stands = stands_behind cap s told found.0 read.stands may;
      }

  pub whole_text : length text ≤ place → (before : Keys) (last : Entry) → s ≡ record { before = before; last = Some last; open_keys = 0 } → text ≡ hive_text (before ++ last ∷ [])
  whole_text past before last is =
      let none : drop place text ≡ [] = drop_all place text past in
      let stands = subst (λ (t : Standing). Stands cap t told) is read.stands in
      let all = are_all cap told before last stands in
      read.text_is ∙ ap (λ t. codes "hive 1\n" ++ (lines_text told ++ t)) none ∙ ap (λ t. codes "hive 1\n" ++ t) (append-nil (lines_text told))
      ∙ ap (λ (t : List Line). codes "hive 1\n" ++ lines_text t) all ∙ ap (λ t. codes "hive 1\n" ++ t) (text_is 0 (before ++ last ∷ []))

  pub no_first : told ≡ [] → s ≡ nothing_named → NextIs (drop place text) None → FailsAt cap text place
  no_first empty at_start none =
      bad_line (drop place text) refl (λ line behind is may. none line behind (last_line line may) is)
      (λ rest all.
      let done = done_if cap told all.keys all.registry all.fits all.are in
      let keys : [] ≡ all.keys = sym (ap named (sym read.standing_is ∙ at_start)) ∙ done.all_named in
      let root : IsSome (key_at [] []) = subst (λ (k : Keys). IsSome (key_at [] k)) (sym keys) all.registry.root in
      absurd (not_none {X = KeyData} None refl root))
