-- The script that a number and a count generate: an opening, and so many rounds.
use Rattle.std.specs.Prelude.{ℕ, zero, suc, ◌+◌, ◌%◌, ◌==◌, nat_lt, List, [], ◌∷◌, ◌++◌, codes, if◌then◌else◌}
use Rattle.script_generator.specs.declared.cluster.Cluster.{Cluster}
use Rattle.script_generator.specs.Draws.{draw}
use Rattle.script_generator.specs.Clusters.{first_cluster, of_node, reborn}
use Rattle.script_generator.specs.Lines.{client_lines, install_lines, line, query, request_line, setting, view_line}

-- ---- a death

-- By the cluster behind it.
unfoldable pub death_lines : ℕ → Cluster → List ℕ
death_lines node c =
    line (codes "die") (node ∷ []) ++ (line (codes "start") (node ∷ [])
    ++ (view_line c ++ (install_lines c.view ++ (codes "pump 200\n" ++ client_lines c.greatest node))))

-- ---- the other rounds: their lines, and what x is behind them

unfoldable pub set_value : Cluster → ℕ → List ℕ × ℕ
set_value c x =
    let n = draw 3 x in
    let v = draw 10 n.1 in
    let w = draw 65_536 v.1 in
    (request_line (of_node (1 + n.0) c.conns) (setting (1 + n.0) v.0 w.0), w.1)

unfoldable pub query_value : Cluster → ℕ → List ℕ × ℕ
query_value c x =
    let n = draw 3 x in
    let v = draw 10 n.1 in
    (request_line (of_node (1 + n.0) c.conns) (query (1 + n.0) v.0), v.1)

unfoldable pub pick : ℕ → List ℕ × ℕ
pick x = let k = draw 1_000_000 x in (line (codes "pick") (k.0 ∷ []), k.1)

unfoldable pub pump : ℕ → List ℕ × ℕ
pump x = let l = draw 8 x in (line (codes "pump") ((1 + l.0) ∷ []), l.1)

unfoldable pub tick : ℕ → List ℕ × ℕ
tick x = let n = draw 3 x in (line (codes "tick") ((1 + n.0) ∷ []), n.1)

-- By the number below 8 that was drawn first.
unfoldable pub choice : ℕ → Cluster → ℕ → List ℕ × ℕ
choice r c x =
    if nat_lt r 3 then set_value c x
    else if r == 3 then query_value c x
    else if r == 4 then pick x
    else if r == 5 then pump x
    else if r == 6 then tick x
    else (codes "skip 1\n", x)

-- ---- rounds

-- What a round gives: its lines, and x and the cluster behind it.
pub record Round : Type 0 where
  pub lines : List ℕ
  pub x : ℕ
  pub cluster : Cluster

unfoldable pub death : Cluster → ℕ → Round
death c x =
    let d = draw 3 x in
    record { lines = death_lines (1 + d.0) (reborn (1 + d.0) c); x = d.1; cluster = reborn (1 + d.0) c }

unfoldable pub other : Cluster → ℕ → Round
other c x =
    let r = draw 8 x in
    let chosen = choice r.0 c r.1 in
    record { lines = chosen.0; x = chosen.1; cluster = c }

-- Every hundredth round is a death.
unfoldable pub round : ℕ → Cluster → ℕ → Round
round number c x = if number % 100 == 0 then death c x else other c x

-- So many rounds, the first of which has this number.
unfoldable pub rounds : ℕ → ℕ → Cluster → ℕ → List ℕ
rounds zero number c x = []
rounds (suc count) number c x = let one = round number c x in one.lines ++ rounds count (number + 1) one.cluster one.x

-- ---- the script

-- The nodes 1 to 3 start and form the first view, and a client connects to each.
unfoldable pub opening : List ℕ
opening =
    codes "cap 1048576\nstart 1\nstart 2\nstart 3\n" ++ (view_line first_cluster
    ++ (install_lines 1 ++ (codes "pump 100\n" ++ (client_lines 1 1 ++ (client_lines 2 2 ++ client_lines 3 3)))))

unfoldable pub generated : ℕ → ℕ → List ℕ
generated number count = opening ++ rounds count 1 first_cluster number
