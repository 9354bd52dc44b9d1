-- The program as clap sees it, and the texts that its matches stand for.
use Rattle.std.specs.Prelude.{Bool, true, false, List, [], ◌∷◌, Option, Some, None, codes, if◌then◌else◌}
use Rattle.std.specs.Prelude.{option_map, option_and_then}
use Rattle.std.specs.Str.{bytes_eq}
use Rattle.clap.specs.Words.{App, Row, Rule, Shape, Text, first_of, new_rule, with_subcommand}
use Rattle.clap.specs.Simple.{new_shape}
use Rattle.command_words.specs.Forms.{Texts, ask, drill, export, format, replay, serve, session, showlog}

-- An argument, and whether it is needed.
abbrev pub rule : Text → Bool → Rule
rule id is_needed = record (new_rule id) { required = is_needed }

-- A subcommand with these arguments.
abbrev pub shape : Text → List Rule → Shape
shape name rules = record (new_shape name) { rules = rules }

abbrev pub app : Text → List Rule → App
app name rules = record { top = shape name rules; subs = [] }

abbrev pub session_rules : List Rule
session_rules = rule (codes "stamp") false ∷ []

abbrev pub serve_rules : List Rule
serve_rules = rule (codes "address") true ∷ rule (codes "count") true ∷ rule (codes "stamp") false ∷ []

abbrev pub drill_rules : List Rule
drill_rules = rule (codes "number") true ∷ rule (codes "events") true ∷ []

abbrev pub format_rules : List Rule
format_rules = rule (codes "cap") true ∷ []

abbrev pub ask_rules : List Rule
ask_rules = rule (codes "address") true ∷ []

abbrev pub top : App
top = record {
  top = record (new_shape (codes "mscs")) {
    no_binary_name = true;
    disable_help_flag = true;
    disable_help_subcommand = true;
    subcommand_required = true;
  };
  subs = [];
}

-- The program with its first two subcommands, with its first four, with its first six, and with all.
abbrev pub to_serve : App
to_serve = with_subcommand (with_subcommand top (shape (codes "session") session_rules)) (shape (codes "serve") serve_rules)

abbrev pub to_drill : App
to_drill = with_subcommand (with_subcommand to_serve (shape (codes "replay") [])) (shape (codes "drill") drill_rules)

abbrev pub to_showlog : App
to_showlog = with_subcommand (with_subcommand to_drill (shape (codes "format") format_rules)) (shape (codes "showlog") [])

abbrev pub program : App
program = with_subcommand (with_subcommand to_showlog (shape (codes "export") [])) (shape (codes "ask") ask_rules)

-- The texts that the rows of a subcommand's matches stand for.
abbrev pub session_texts : Option Text → Option Texts
session_texts stamp = Some (session stamp)

abbrev pub serve_texts : Option Text → Option Text → Option Text → Option Texts
serve_texts address count stamp = option_and_then (λ a. option_map (λ n. serve a n stamp) count) address

abbrev pub drill_texts : Option Text → Option Text → Option Texts
drill_texts number events = option_and_then (λ n. option_map (drill n) events) number

abbrev pub texts_by : Text → List Row → Option Texts
texts_by name rows =
    if bytes_eq name (codes "session") then session_texts (first_of (codes "stamp") rows)
    else if bytes_eq name (codes "serve") then serve_texts (first_of (codes "address") rows) (first_of (codes "count") rows) (first_of (codes "stamp") rows)
    else if bytes_eq name (codes "replay") then Some replay
    else if bytes_eq name (codes "drill") then drill_texts (first_of (codes "number") rows) (first_of (codes "events") rows)
    else if bytes_eq name (codes "format") then option_map format (first_of (codes "cap") rows)
    else if bytes_eq name (codes "showlog") then Some showlog
    else if bytes_eq name (codes "export") then Some export
    else if bytes_eq name (codes "ask") then option_map ask (first_of (codes "address") rows)
    else None

abbrev pub texts_in : Option (Text × List Row) → Option Texts
texts_in given = option_and_then (λ p. texts_by p.0 p.1) given
