-- A registry's text, line by line.
use Rattle.std.specs.Prelude.{ℕ, zero, suc, ◌+◌, ◌-◌, List, [], ◌∷◌, ◌++◌, length, map, codes, flat_map}
use Rattle.registry_defs.specs.Keys.{ValueData, KeyData, Keys}
use Rattle.registry_tree.specs.Values.{value_data}
use Rattle.hive_text.specs.HiveText.{key_line, value_line}
use Rattle.hive_text.specs.declared.line.Line.{Line}
use Rattle.hive_text.specs.declared.line.Line.TheVariants as lines

-- A line with its line feed.
abbrev pub line_text : Line → List ℕ
line_text (lines.Key part birth written) = key_line (record { part = part; birth = birth; written = written; values = [] })
line_text (lines.Value value) = value_line (value_data value)
line_text lines.Up = codes "up\n"

abbrev pub lines_text : List Line → List ℕ
lines_text told = flat_map line_text told

-- The line with which a key begins, and that of a value.
abbrev pub key_begins : KeyData → Line
key_begins key = lines.Key key.part key.birth key.written

abbrev pub value_stands : List ℕ × ValueData → Line
value_stands entry = lines.Value (record { name = entry.1.name; kind = entry.1.kind; bytes = entry.1.bytes })

-- So many keys end.
unfoldable pub ups : ℕ → List Line
ups zero = []
ups (suc count) = lines.Up ∷ ups count

-- The keys in the order of their paths, where so many are open before them: a key ends before the first one that doesn't
-- stand below it.
unfoldable pub lines_of : ℕ → Keys → List Line
lines_of open_keys [] = ups open_keys
lines_of open_keys (entry ∷ entries) =
    ups (open_keys - length entry.0)
    ++ (key_begins entry.1 ∷ (map value_stands entry.1.values ++ lines_of (length entry.0 + 1) entries))
