-- What a client sends and prints.
use Rattle.std.specs.Prelude.{ℕ, List, [], flat_map}
use Rattle.rpc_client.specs.declared.ask.Ask.{Ask}
use Rattle.rpc_client.specs.declared.ask.Ask.TheVariants.{Line, Write}

abbrev pub sent_by : Ask → List ℕ
sent_by (Write bytes) = bytes
sent_by ask = []

abbrev pub printed_by : Ask → List ℕ
printed_by (Line line) = line
printed_by ask = []

-- All that it sends, and all that it prints.
unfoldable pub sent_in : List Ask → List ℕ
sent_in given = flat_map sent_by given

unfoldable pub printed_in : List Ask → List ℕ
printed_in given = flat_map printed_by given
