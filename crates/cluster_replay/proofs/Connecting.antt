-- A connection begins: its number is one that ever began, and it is open at its node alone.
use Rattle.std.proofs.Common.{◌≡◌, ◌≢◌, ℕ, inl, inr, zero, suc, Bool, true, false, cond, List, Option, Some, None, IfSome, IsSome, get_or, slice_set, refl, sym, ap, ◌∙◌, subst, arith}
use Rattle.std.proofs.lemmas.Bool.Decides.{nat_tests}
use Rattle.std.proofs.lemmas.List.{length-set}
use Rattle.std.specs.Prelude.{slice_get}
use Rattle.std.specs.Option.{option_flatten}
use Rattle.std.specs.BTreeMap.{is_at}
use Rattle.std.specs.Map.{lookup}
use Rattle.std.specs.Ordering.{nat_cmp}
use Rattle.cluster_node.specs.States.{NodeValue, client_in}
use Rattle.cluster_worlds.specs.Worlds.{WorldState, home_of, node_at}
use Rattle.cluster_replay.specs.Journals.{JournalState}
use Rattle.cluster_replay.specs.Moving.{moved}
use Rattle.cluster_replay.specs.Playing.{Fits, IsSound}
use Rattle.cluster_replay.specs.Slots.{IsIndex, KeepsBut, KeepsWith}
use Rattle.cluster_replay.proofs.Sound.{at_set, stands}

-- The connection has its node among these, and each other one has what it had.
abbrev pub IsAdded : List (ℕ × ℕ) → List (ℕ × ℕ) → ℕ → ℕ → Type 0
IsAdded old new conn node = (q : ℕ) → lookup (is_at (nat_cmp q)) new ≡ cond (is_at (nat_cmp conn) q) (Some node) (lookup (is_at (nat_cmp q)) old)

free : (here : Bool) (x : Option ℕ) (node : ℕ) → cond here (Some node) x ≡ None → (here ≡ false) × (x ≡ None)
free true x node is = absurd (cc is)
free false x node is = (refl, is)

at_itself : (x : ℕ) → is_at (nat_cmp x) x ≡ true
at_itself x = grind (arith, nat_tests)

apart : (q conn : ℕ) → is_at (nat_cmp conn) q ≡ false → q ≢ conn
apart q conn is same = let here : is_at (nat_cmp conn) q ≡ true = ap (is_at (nat_cmp conn)) same ∙ at_itself conn in let no : true ≡ false = sym here ∙ is in absurd (cc no)

free_before : (old new : List (ℕ × ℕ)) (conn node q : ℕ) → IsAdded old new conn node → lookup (is_at (nat_cmp q)) new ≡ None → (is_at (nat_cmp conn) q ≡ false) × (lookup (is_at (nat_cmp q)) old ≡ None)
free_before old new conn node q added none = free (is_at (nat_cmp conn) q) (lookup (is_at (nat_cmp q)) old) node (sym (added q) ∙ none)

abbrev with_conns : List (ℕ × ℕ) → WorldState → WorldState
with_conns conns w = record w { conns = conns }

pub sound_conn : (w : WorldState) (conns : List (ℕ × ℕ)) (conn node : ℕ) → IsAdded w.conns conns conn node → IsSound w → IsSound (with_conns conns w)
sound_conn w conns conn node added sound = record {
  places = sound.places;
  counts = sound.counts;
  counted = sound.counted;
  nodes = λ k n is. record {
    number = (sound.nodes k n is).number;
    room = (sound.nodes k n is).room;
    unused = λ q none. (sound.nodes k n is).unused q (free_before w.conns conns conn node q added none).1;
  };
  size = sound.size;
}

set_with : (w : WorldState) (i conn node : ℕ) (x slot : Option NodeValue) (j : JournalState) (conns : List (ℕ × ℕ)) (m : NodeValue) → IsSound w → IsAdded w.conns conns conn node → slice_get w.nodes i ≡ Some x
    → KeepsWith conn w.disk x slot → slot ≡ Some m → Fits (suc i) (with_conns conns (moved (slice_set w.nodes i slot) j w.disk w)) m
set_with w i conn node None slot j conns m sound added at keeps is = absurd (subst (λ (y : Option NodeValue). KeepsWith conn w.disk None y) is keeps)
set_with w i conn node (Some n) slot j conns m sound added at keeps is =
    let kept : KeepsBut conn w.disk n m = subst (λ (y : Option NodeValue). KeepsWith conn w.disk (Some n) y) is keeps in
    let fits : Fits (suc i) w n = sound.nodes (suc i) n (ap option_flatten at) in
    record {
      number = kept.same.number ∙ fits.number;
      room = kept.room fits.room;
      unused = λ q none. let before : (is_at (nat_cmp conn) q ≡ false) × (lookup (is_at (nat_cmp q)) w.conns ≡ None) = free_before w.conns conns conn node q added none in
          kept.unused q (apart q conn before.0) (fits.unused q before.1);
    }

nodes_with : (w : WorldState) (i conn node : ℕ) (x slot : Option NodeValue) (j : JournalState) (conns : List (ℕ × ℕ)) → IsSound w → IsAdded w.conns conns conn node → slice_get w.nodes i ≡ Some x
    → KeepsWith conn w.disk x slot → (k : ℕ) (m : NodeValue) → node_at k (with_conns conns (moved (slice_set w.nodes i slot) j w.disk w)) ≡ Some m
    → Fits k (with_conns conns (moved (slice_set w.nodes i slot) j w.disk w)) m
nodes_with w i conn node x slot j conns sound added at keeps zero m is = absurd (cc is)
nodes_with w i conn node x slot j conns sound added at keeps (suc k) m is = elim (at_set w.nodes i slot m k is) [
  | inl p ↦ subst (λ (a : ℕ). Fits (suc a) (with_conns conns (moved (slice_set w.nodes i slot) j w.disk w)) m) (sym p.0) (set_with w i conn node x slot j conns m sound added at keeps p.1)
  | inr q ↦ record {
    number = (sound.nodes (suc k) m q).number;
    room = (sound.nodes (suc k) m q).room;
    unused = λ c none. (sound.nodes (suc k) m q).unused c (free_before w.conns conns conn node c added none).1;
  }
]

sound_with : (w : WorldState) (i conn node : ℕ) (x slot : Option NodeValue) (j : JournalState) (conns : List (ℕ × ℕ)) → IsSound w → IsAdded w.conns conns conn node → slice_get w.nodes i ≡ Some x
    → KeepsWith conn w.disk x slot → IsSound (with_conns conns (moved (slice_set w.nodes i slot) j w.disk w))
sound_with w i conn node x slot j conns sound added at keeps = record {
  places = length-set w.nodes i slot ∙ sound.places;
  counts = sound.counts;
  counted = sound.counted;
  nodes = nodes_with w i conn node x slot j conns sound added at keeps;
  size = sound.size;
}

pub sound_connected : (w q : WorldState) (i conn node : ℕ) (x s slot : Option NodeValue) (j : JournalState) (conns : List (ℕ × ℕ)) → w ≡ q → IsSound w → IsAdded w.conns conns conn node → IsIndex (Some i) x q.nodes
    → s ≡ get_or w.nodes i s → KeepsWith conn w.disk s slot → IsSound (with_conns conns (moved (slice_set w.nodes i slot) j w.disk w))
sound_connected w q i conn node x s slot j conns same sound added index is keeps =
    let here : IsIndex (Some i) x w.nodes = subst (λ (v : WorldState). IsIndex (Some i) x v.nodes) (sym same) index in
    let kept : KeepsWith conn w.disk x slot = subst (λ (y : Option NodeValue). KeepsWith conn w.disk y slot) (stands w i x s here is) keeps in
    sound_with w i conn node x slot j conns sound added here.0 kept

-- ---- the node is there, and the number unused

pub runs_at : (w q : WorldState) (i : ℕ) (x s : Option NodeValue) → w ≡ q → IsIndex (Some i) x q.nodes → s ≡ get_or w.nodes i s → IsSome s
runs_at w q i x s same index is =
    let here : IsIndex (Some i) x w.nodes = subst (λ (v : WorldState). IsIndex (Some i) x v.nodes) (sym same) index in
    subst (λ (y : Option NodeValue). IsSome y) (sym (stands w i x s here is)) here.1

unused_in : (w : WorldState) (i conn : ℕ) (x : Option NodeValue) → IsSound w → slice_get w.nodes i ≡ Some x → home_of conn w ≡ None → IfSome x (λ n. client_in conn n ≡ None)
unused_in w i conn None sound at none = tt
unused_in w i conn (Some n) sound at none = (sound.nodes (suc i) n (ap option_flatten at)).unused conn none

pub unused_at : (w q : WorldState) (i conn : ℕ) (x s : Option NodeValue) → w ≡ q → IsSound w → IsIndex (Some i) x q.nodes → s ≡ get_or w.nodes i s → home_of conn q ≡ None → IfSome s (λ n. client_in conn n ≡ None)
unused_at w q i conn x s same sound index is none =
    let here : IsIndex (Some i) x w.nodes = subst (λ (v : WorldState). IsIndex (Some i) x v.nodes) (sym same) index in
    let none_here : home_of conn w ≡ None = ap (λ (v : WorldState). home_of conn v) same ∙ none in
    subst (λ (y : Option NodeValue). IfSome y (λ n. client_in conn n ≡ None)) (sym (stands w i x s here is)) (unused_in w i conn x sound here.0 none_here)
