-- Where the first space stands.
use Rattle.std.proofs.Common.{◌≡◌, ℕ, ◌≤◌, ltb, List, length, Some, None, sym, arith}
use Rattle.std.specs.Prelude.{not, position}
use Rattle.std.proofs.lemmas.Bool.{ltb-false}
use Rattle.std.proofs.lemmas.List.Sums.{prefix_len-le-length}
use Rattle.clus_names.proofs.Pieces.{none_at, some_at}
use Rattle.client_commands.specs.Lines.{is_space, word_length}

pub at_space : (text : List ℕ) (place : ℕ) → position is_space text ≡ Some place → place ≡ word_length text
at_space text place e = sym (some_at (ltb (word_length text) (length text)) (word_length text) place e).1

pub without_space : (text : List ℕ) → position is_space text ≡ None → length text ≡ word_length text
without_space text e =
    let past : length text ≤ word_length text = ltb-false _ _ (none_at (ltb (word_length text) (length text)) (word_length text) e) in
    let within = prefix_len-le-length (λ byte. not (is_space byte)) text in
    omega arith
