-- What clap's getters answer, told by the rows.
use Rattle.std.proofs.Common.{◌≡◌, List, ℕ, Option, Some, None, ap₂, option_map}
use Rattle.std.specs.Prelude.{Box}
use Rattle.std.specs.Box.{box_value}
use Rattle.clap.specs.Words.{Row, Text, first_of, first_value, found_of, rows_of, subcommand_rows}
use Rattle.clap.specs.declared.parser.matches.Found.{Found}
use Rattle.clap.specs.declared.parser.matches.SubCommand.{SubCommand}
use Rattle.clap.specs.declared.parser.matches.ArgMatches.TheViews.{out-SubCommand}
use Rattle.clap.proofs.WalkLemmas.{first_value-rows}

pub first_value_rows : (f : Found) (id : List ℕ) → first_value f id ≡ first_of id (rows_of f)
first_value_rows f id = first_value-rows f id

-- the name and the rows of the subcommand, from each alone
pub paired : {Z : Type 0} (o : Option (Box SubCommand Z)) (name : Text) (rows : List Row) → Some name ≡ option_map (λ b. (out-SubCommand (box_value b)).name.now) o
    → Some rows ≡ option_map (λ p. p.1) (subcommand_rows o) → subcommand_rows o ≡ Some (name, rows)
paired None name rows is_name is_rows = absurd (cc (is_name))
paired {Z} (Some b) name rows is_name is_rows =
    let one : (out-SubCommand (box_value b)).name.now ≡ name = cc (is_name) in
    let two : rows_of (found_of (out-SubCommand (box_value b)).matches) ≡ rows = cc (is_rows) in
    ap₂ (λ (n : Text) (r : List Row). Some (n, r)) one two
