-- The locker hands out its state in pieces.
use Rattle.std.proofs.Common.{◌≡◌, ℕ, Bool, true, false, not, ◌&&◌, List, length, take, drop, Option, Some, None, if◌then◌else◌, refl, sym, ap, ◌∙◌}
use Rattle.registry_defs.specs.Keys.{Keys}
use Rattle.registry_defs.specs.Sizes.{size}
use Rattle.registry_defs.specs.Spelling.{registry_text}
use Rattle.registry_defs.proofs.Lengths.{length-registry}
use Rattle.gum_messages.specs.declared.body.Body.TheVariants.{Piece}
use Rattle.gum_core.specs.Updating.{CoreState}
use Rattle.view_reconcile.specs.Joining.{ReconcileState, is_open, locks, piece_length}
use Rattle.cluster_rules.specs.declared.offering.Offering.{Offering}
use Rattle.cluster_rules.specs.Nodes.{NodeState, Out, Replica, nothing, tells}
use Rattle.cluster_rules.specs.Joins.{on_need, sends_piece}
use Rattle.registry_machine.specs.Machine.{registry_machine}
use Rattle.member_rules.specs.Pulling.{piece_at, piece_in}
use Rattle.member_rules.specs.States.{IsWhole}
use Rattle.member_rules.proofs.Ways.{encoded_is}

abbrev handed : NodeState registry_machine → ℕ → ℕ → Option (Replica registry_machine) → Bool → Out registry_machine
handed x from offset r here = elim r [
  | None ↦ nothing x
  | Some q ↦ if here then sends_piece x from (registry_text q.registry.keys) offset else nothing x
]

not_here : (x : NodeState registry_machine) (from offset : ℕ) (r : Option (Replica registry_machine)) → handed x from offset r false ≡ nothing x
not_here x from offset None = refl
not_here x from offset (Some q) = refl

pub hands_nothing : (x : NodeState registry_machine) (from offset : ℕ) → (locks x.join && not (is_open x.join)) ≡ false → on_need x from offset ≡ nothing x
hands_nothing x from offset other =
    ap (λ b. handed x from offset x.replica b) other ∙ not_here x from offset x.replica

-- What is told where the piece is known.
abbrev tells_piece : NodeState registry_machine → ℕ → ℕ → Option (ℕ × List ℕ) → Out registry_machine
tells_piece x from offset piece = elim piece [ None ↦ nothing x | Some p ↦ tells x from (Piece p.0 offset p.1) ]

abbrev piece_of : List ℕ → ℕ → Option ℕ → Option (ℕ × List ℕ)
piece_of bytes offset length_ = elim length_ [ None ↦ None | Some count ↦ Some (length bytes, take count (drop offset bytes)) ]

abbrev sent : NodeState registry_machine → ℕ → List ℕ → ℕ → Option ℕ → Out registry_machine
sent x from bytes offset length_ = elim length_ [ None ↦ nothing x | Some count ↦ tells x from (Piece (length bytes) offset (take count (drop offset bytes))) ]

by_length : (x : NodeState registry_machine) (from : ℕ) (bytes : List ℕ) (offset : ℕ) (length_ : Option ℕ)
    → sent x from bytes offset length_ ≡ tells_piece x from offset (piece_of bytes offset length_)
by_length x from bytes offset None = refl
by_length x from bytes offset (Some count) = refl

abbrev piece_with : Option (Replica registry_machine) → ℕ → Option (ℕ × List ℕ)
piece_with r offset = elim r [ None ↦ None | Some q ↦ piece_in (registry_text q.registry.keys) offset ]

by_replica : (x : NodeState registry_machine) (from offset : ℕ) (r : Option (Replica registry_machine))
    → handed x from offset r true ≡ tells_piece x from offset (piece_with r offset)
by_replica x from offset None = refl
by_replica x from offset (Some q) = by_length x from (registry_text q.registry.keys) offset (piece_length (length (registry_text q.registry.keys)) offset)

hands : (x : NodeState registry_machine) (from offset : ℕ) → (locks x.join && not (is_open x.join)) ≡ true
    → on_need x from offset ≡ tells_piece x from offset (piece_at x offset)
hands x from offset here = ap (λ b. handed x from offset x.replica b) here ∙ by_replica x from offset x.replica

abbrev no_piece : Option (ℕ × List ℕ)
no_piece = None

abbrev a_piece : ℕ → List ℕ → Option (ℕ × List ℕ)
a_piece total bytes = Some (total, bytes)

pub hands_none : (x : NodeState registry_machine) (from offset : ℕ) → (locks x.join && not (is_open x.join)) ≡ true → no_piece ≡ piece_at x offset
    → on_need x from offset ≡ nothing x
hands_none x from offset here none = hands x from offset here ∙ ap (λ p. tells_piece x from offset p) (sym none)

pub hands_piece : (x : NodeState registry_machine) (from offset total : ℕ) (bytes : List ℕ) → (locks x.join && not (is_open x.join)) ≡ true
    → a_piece total bytes ≡ piece_at x offset
    → on_need x from offset ≡ tells x from (Piece total offset bytes)
hands_piece x from offset total bytes here some = hands x from offset here ∙ ap (λ p. tells_piece x from offset p) (sym some)

module _ {n i : ℕ} {c : CoreState} {s : ReconcileState} {r : Option (Replica registry_machine)} {o : Option Offering} {bytes : Option (List ℕ)} where
  -- The encoding that is kept has as many bytes as the registry says.
  pub kept_length : (text : List ℕ) (q : Replica registry_machine) (keys : Keys) → IsWhole n i c s r o bytes → bytes ≡ Some text → r ≡ Some q
      → keys ≡ q.registry.keys → size keys ≡ length text
  kept_length text q keys w has is same =
      ap size same ∙ sym (length-registry q.registry.keys) ∙ sym (ap (λ (l : List ℕ). length l) (encoded_is text q w has is))
