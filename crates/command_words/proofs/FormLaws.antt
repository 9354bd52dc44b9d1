-- clap takes exactly the words of the forms, and assigns each of them.
use Rattle.std.proofs.Common.{find, ◌≡◌, ◌∙◌, Bool, true, false, List, [], ◌∷◌, Some, None, codes, refl, ap, subst, arith, suc}
use Rattle.std.specs.List.{All}
use Rattle.std.specs.Str.{bytes_eq}
use Rattle.std.proofs.lemmas.Slice.Eq.{bytes_eq-Decides}
use Rattle.clap.specs.Simple.{label_of, rows_at}
use Rattle.clap.specs.Faults.{level_fault}
use Rattle.clap.specs.Words.{Kinds, Row, Rule, Text, built, fault_of, subcommand_of}
use Rattle.clap.specs.declared.error.kind.ErrorKind.{ErrorKind}
use Rattle.clap.specs.declared.error.kind.ErrorKind.TheVariants.{MissingSubcommand}
use Rattle.clap.specs.Walk.{answers_to, idle, nothing_held, subcommand_met}
use Rattle.clap.proofs.OnLiterals.{clap_on_literals}
use Rattle.command_words.specs.Forms.{HasForm, IsPlain, Texts, ask, drill, export, format, replay, serve, session, showlog, words_of}
use Rattle.command_words.specs.Grammar.{ask_rules, drill_rules, format_rules, program, serve_rules, session_rules, texts_by, texts_in}
use Rattle.command_words.proofs.Arguments.{leaf, none_0, none_0_rows, none_more, one_0, one_0_rows, one_1, one_1_rows, one_more}
use Rattle.command_words.proofs.Arguments.{two_0, two_1, two_2, two_2_rows, two_more}
use Rattle.command_words.proofs.Arguments.{three_0, three_1, three_2, three_2_rows, three_3, three_3_rows, three_more}
use Rattle.command_words.proofs.Names.{level_below, names, rows_below, unknown}

abbrev pub PlainEach : List Text → Type 0
PlainEach [] = Unit {0}
PlainEach (w ∷ ws) = IsPlain w × PlainEach ws

each_plain : (words : List Text) → All IsPlain words → PlainEach words
each_plain [] plain = tt
each_plain (w ∷ ws) plain = (plain 0 w (omega arith), each_plain ws (λ k d inside. plain (suc k) d (omega arith)))

-- What the level behind a name says is what clap says of the name and the words.
fault_at : (name : Text) (rules : List Rule) (args : List Text) (kinds : Kinds) → subcommand_met names idle name ≡ Some name
    → find (λ s. answers_to name (label_of s)) (built program).subs ≡ Some (leaf name rules)
    → level_fault (leaf name rules) [] nothing_held args false [] ≡ kinds → fault_of program (name ∷ args) ≡ kinds
fault_at name rules args kinds met sub level = level_below name (leaf name rules) args met sub ∙ level

read_at : (name : Text) (rules : List Rule) (args : List Text) (rows : List Row) → subcommand_met names idle name ≡ Some name
    → find (λ s. answers_to name (label_of s)) (built program).subs ≡ Some (leaf name rules) → rows_at (leaf name rules) args ≡ (name, rows)
    → texts_in (subcommand_of program (name ∷ args)) ≡ texts_by name rows
read_at name rules args rows met sub level = ap texts_in (rows_below name (leaf name rules) args met sub ∙ ap (λ (p : Text × List Row). Some p) level)

refused : {A : Type 0} (k : ErrorKind) (ks faults : Kinds) → faults ≡ k ∷ ks → faults ≡ [] → A
refused k ks faults some none = absurd (cc (some, none))

-- ---- the words of a form are taken, and stand for it

taken_form : (texts : Texts) → PlainEach (words_of texts) → fault_of program (words_of texts) ≡ []
taken_form (session None) plain = fault_at (codes "session") session_rules [] [] refl refl (one_0 (codes "session") (codes "stamp") false)
taken_form (session (Some w)) plain = fault_at (codes "session") session_rules (w ∷ []) [] refl refl (one_1 (codes "session") (codes "stamp") w false plain.1.0)
taken_form (serve w v None) plain =
    fault_at (codes "serve") serve_rules (w ∷ v ∷ []) [] refl refl
    (three_2 (codes "serve") (codes "address") (codes "count") (codes "stamp") w v true true false refl refl refl plain.1.0 plain.1.1.0)
taken_form (serve w v (Some u)) plain =
    fault_at (codes "serve") serve_rules (w ∷ v ∷ u ∷ []) [] refl refl
    (three_3 (codes "serve") (codes "address") (codes "count") (codes "stamp") w v u true true false refl refl refl plain.1.0 plain.1.1.0 plain.1.1.1.0)
taken_form replay plain = fault_at (codes "replay") [] [] [] refl refl (none_0 (codes "replay"))
taken_form (drill w v) plain =
    fault_at (codes "drill") drill_rules (w ∷ v ∷ []) [] refl refl
    (two_2 (codes "drill") (codes "number") (codes "events") w v true true refl plain.1.0 plain.1.1.0)
taken_form (format w) plain = fault_at (codes "format") format_rules (w ∷ []) [] refl refl (one_1 (codes "format") (codes "cap") w true plain.1.0)
taken_form showlog plain = fault_at (codes "showlog") [] [] [] refl refl (none_0 (codes "showlog"))
taken_form export plain = fault_at (codes "export") [] [] [] refl refl (none_0 (codes "export"))
taken_form (ask w) plain = fault_at (codes "ask") ask_rules (w ∷ []) [] refl refl (one_1 (codes "ask") (codes "address") w true plain.1.0)

pub taken : (words : List Text) (texts : Texts) → HasForm words texts → fault_of program words ≡ []
taken words texts has = ap (fault_of program) has.same ∙ taken_form texts (each_plain (words_of texts) (subst (All IsPlain) has.same has.plain))

read_form : (texts : Texts) → PlainEach (words_of texts) → texts_in (subcommand_of program (words_of texts)) ≡ Some texts
read_form (session None) plain = read_at (codes "session") session_rules [] _ refl refl (one_0_rows (codes "session") (codes "stamp") false)
read_form (session (Some w)) plain = read_at (codes "session") session_rules (w ∷ []) _ refl refl
    (one_1_rows (codes "session") (codes "stamp") w false plain.1.0)
read_form (serve w v None) plain =
    read_at (codes "serve") serve_rules (w ∷ v ∷ []) _ refl refl
    (three_2_rows (codes "serve") (codes "address") (codes "count") (codes "stamp") w v true true false refl refl refl plain.1.0 plain.1.1.0)
read_form (serve w v (Some u)) plain =
    read_at (codes "serve") serve_rules (w ∷ v ∷ u ∷ []) _ refl refl
    (three_3_rows (codes "serve") (codes "address") (codes "count") (codes "stamp") w v u true true false refl refl refl plain.1.0 plain.1.1.0 plain.1.1.1.0)
read_form replay plain = read_at (codes "replay") [] [] _ refl refl (none_0_rows (codes "replay"))
read_form (drill w v) plain =
    read_at (codes "drill") drill_rules (w ∷ v ∷ []) _ refl refl
    (two_2_rows (codes "drill") (codes "number") (codes "events") w v true true refl plain.1.0 plain.1.1.0)
read_form (format w) plain = read_at (codes "format") format_rules (w ∷ []) _ refl refl (one_1_rows (codes "format") (codes "cap") w true plain.1.0)
read_form showlog plain = read_at (codes "showlog") [] [] _ refl refl (none_0_rows (codes "showlog"))
read_form export plain = read_at (codes "export") [] [] _ refl refl (none_0_rows (codes "export"))
read_form (ask w) plain = read_at (codes "ask") ask_rules (w ∷ []) _ refl refl (one_1_rows (codes "ask") (codes "address") w true plain.1.0)

pub read_words : (words : List Text) (texts : Texts) → HasForm words texts → texts_in (subcommand_of program words) ≡ Some texts
read_words words texts has = ap (λ (ws : List Text). texts_in (subcommand_of program ws)) has.same ∙ read_form texts (each_plain (words_of texts) (subst (All IsPlain) has.same has.plain))

-- ---- what is taken are the words of a form

abbrev pub FormIn : List Text → Type 0
FormIn words = (texts : Texts) × (texts_in (subcommand_of program words) ≡ Some texts) × (words ≡ words_of texts)

-- What was taken behind a name.
abbrev Behind : Text → Type 0
Behind name = (args : List Text) → PlainEach (name ∷ args) → fault_of program (name ∷ args) ≡ [] → FormIn (name ∷ args)

formed : (texts : Texts) → PlainEach (words_of texts) → FormIn (words_of texts)
formed texts plain = (texts, read_form texts plain, refl)

by_session : Behind (codes "session")
by_session [] plain none = formed (session None) plain
by_session (w ∷ []) plain none = formed (session (Some w)) plain
by_session (w ∷ v ∷ rest) plain none =
    refused _ _ _ (fault_at (codes "session") session_rules (w ∷ v ∷ rest) _ refl refl
    (one_more (codes "session") (codes "stamp") w v false rest plain.1.0 plain.1.1.0)) none

by_serve : Behind (codes "serve")
by_serve [] plain none =
    refused _ _ _ (fault_at (codes "serve") serve_rules [] _ refl refl
    (three_0 (codes "serve") (codes "address") (codes "count") (codes "stamp") true true false refl refl refl)) none
by_serve (w ∷ []) plain none =
    let kinds = three_1 (codes "serve") (codes "address") (codes "count") (codes "stamp") w true true false refl refl refl plain.1.0 in
    refused _ _ _ (fault_at (codes "serve") serve_rules (w ∷ []) _ refl refl kinds) none
by_serve (w ∷ v ∷ []) plain none = formed (serve w v None) plain
by_serve (w ∷ v ∷ u ∷ []) plain none = formed (serve w v (Some u)) plain
by_serve (w ∷ v ∷ u ∷ x ∷ rest) plain none =
    let kinds = three_more (codes "serve") (codes "address") (codes "count") (codes "stamp") w v u x true true false rest refl refl refl plain.1.0 plain.1.1.0 plain.1.1.1.0 plain.1.1.1.1.0 in
    refused _ _ _ (fault_at (codes "serve") serve_rules (w ∷ v ∷ u ∷ x ∷ rest) _ refl refl kinds) none

by_replay : Behind (codes "replay")
by_replay [] plain none = formed replay plain
by_replay (w ∷ rest) plain none = refused _ _ _ (fault_at (codes "replay") [] (w ∷ rest) _ refl refl (none_more (codes "replay") w rest plain.1.0)) none

by_drill : Behind (codes "drill")
by_drill [] plain none =
    refused _ _ _ (fault_at (codes "drill") drill_rules [] _ refl refl (two_0 (codes "drill") (codes "number") (codes "events") true true refl)) none
by_drill (w ∷ []) plain none =
    refused _ _ _ (fault_at (codes "drill") drill_rules (w ∷ []) _ refl refl
    (two_1 (codes "drill") (codes "number") (codes "events") w true true refl plain.1.0)) none
by_drill (w ∷ v ∷ []) plain none = formed (drill w v) plain
by_drill (w ∷ v ∷ u ∷ rest) plain none =
    refused _ _ _ (fault_at (codes "drill") drill_rules (w ∷ v ∷ u ∷ rest) _ refl refl
    (two_more (codes "drill") (codes "number") (codes "events") w v u true true rest refl plain.1.0 plain.1.1.0 plain.1.1.1.0)) none

by_format : Behind (codes "format")
by_format [] plain none = refused _ _ _ (fault_at (codes "format") format_rules [] _ refl refl (one_0 (codes "format") (codes "cap") true)) none
by_format (w ∷ []) plain none = formed (format w) plain
by_format (w ∷ v ∷ rest) plain none =
    refused _ _ _ (fault_at (codes "format") format_rules (w ∷ v ∷ rest) _ refl refl
    (one_more (codes "format") (codes "cap") w v true rest plain.1.0 plain.1.1.0)) none

by_showlog : Behind (codes "showlog")
by_showlog [] plain none = formed showlog plain
by_showlog (w ∷ rest) plain none = refused _ _ _ (fault_at (codes "showlog") [] (w ∷ rest) _ refl refl (none_more (codes "showlog") w rest plain.1.0)) none

by_export : Behind (codes "export")
by_export [] plain none = formed export plain
by_export (w ∷ rest) plain none = refused _ _ _ (fault_at (codes "export") [] (w ∷ rest) _ refl refl (none_more (codes "export") w rest plain.1.0)) none

by_ask : Behind (codes "ask")
by_ask [] plain none = refused _ _ _ (fault_at (codes "ask") ask_rules [] _ refl refl (one_0 (codes "ask") (codes "address") true)) none
by_ask (w ∷ []) plain none = formed (ask w) plain
by_ask (w ∷ v ∷ rest) plain none =
    refused _ _ _ (fault_at (codes "ask") ask_rules (w ∷ v ∷ rest) _ refl refl (one_more (codes "ask") (codes "address") w v true rest plain.1.0 plain.1.1.0)) none

is_name : (name word : Text) → bytes_eq name word ≡ true → Behind name → Behind word
is_name name word same behind = subst Behind ((bytes_eq-Decides name word).0 same) behind

by_name : (word : Text) (a b c d e f g h : Bool)
    → bytes_eq (codes "session") word ≡ a → bytes_eq (codes "serve") word ≡ b → bytes_eq (codes "replay") word ≡ c
    → bytes_eq (codes "drill") word ≡ d → bytes_eq (codes "format") word ≡ e → bytes_eq (codes "showlog") word ≡ f
    → bytes_eq (codes "export") word ≡ g → bytes_eq (codes "ask") word ≡ h
    → Behind word
by_name word true b c d e f g h is_a is_b is_c is_d is_e is_f is_g is_h = is_name (codes "session") word is_a by_session
by_name word false true c d e f g h is_a is_b is_c is_d is_e is_f is_g is_h = is_name (codes "serve") word is_b by_serve
by_name word false false true d e f g h is_a is_b is_c is_d is_e is_f is_g is_h = is_name (codes "replay") word is_c by_replay
by_name word false false false true e f g h is_a is_b is_c is_d is_e is_f is_g is_h = is_name (codes "drill") word is_d by_drill
by_name word false false false false true f g h is_a is_b is_c is_d is_e is_f is_g is_h = is_name (codes "format") word is_e by_format
by_name word false false false false false true g h is_a is_b is_c is_d is_e is_f is_g is_h = is_name (codes "showlog") word is_f by_showlog
by_name word false false false false false false true h is_a is_b is_c is_d is_e is_f is_g is_h = is_name (codes "export") word is_g by_export
by_name word false false false false false false false true is_a is_b is_c is_d is_e is_f is_g is_h = is_name (codes "ask") word is_h by_ask
by_name word false false false false false false false false is_a is_b is_c is_d is_e is_f is_g is_h = λ args plain none.
    let no_name : subcommand_met names idle word ≡ None = rw (is_a, is_b, is_c, is_d, is_e, is_f, is_g, is_h) refl in
    refused _ _ _ (unknown word args no_name plain.0) none

no_words : fault_of program [] ≡ MissingSubcommand ∷ []
unfolding clap_on_literals
no_words = refl

pub reads_back : (words : List Text) → All IsPlain words → fault_of program words ≡ [] → FormIn words
reads_back [] plain none = refused _ _ _ no_words none
reads_back (word ∷ args) plain none = by_name word _ _ _ _ _ _ _ _ refl refl refl refl refl refl refl refl args (each_plain (word ∷ args) plain) none
