-- Pieces of a text written one after the other into a window.
use Rattle.std.proofs.Common.{◌≡◌, ℕ, ◌+◌, ◌-◌, ◌<◌, ◌≤◌, List, [], ◌∷◌, ◌++◌, min, length, length-append, length-drop, take, drop, get_or, sym, ap, subst, ◌∙◌, append_assoc, arith}
use Rattle.std.specs.List.{flat_map}
use Rattle.std.proofs.lemmas.Grind.{flat_map-append}
use Rattle.std.proofs.lemmas.List.{append-nil, length-take, take_all, take_more, take-append-drop}
use Rattle.registry_tree.specs.declared.window.Window.{Window}
use Rattle.registry_tree.specs.Windows.{Fills}
use Rattle.registry_tree.proofs.Lists.{take_append, drop_append}

-- how many bytes of the window are filled behind a piece
filled_is : (text : List ℕ) (old new : Window) (before now : List ℕ) → old.filled ≤ length before → Fills text old before new now → new.filled ≡ old.filled + min (length before - old.filled) (length text - old.before)
filled_is text old new before now within fills =
    let room = length before - old.filled in
    let long = ap (λ (l : List ℕ). length l) fills.bytes in
    omega (arith, long, within, fills.within, length-append (take old.filled before) (take room (drop old.before text)), length-take new.filled now, length-take old.filled before, length-take room (drop old.before text), length-drop old.before text)

-- what two pieces leave in a window is what they leave as one
both_fill : (t u : List ℕ) (n r : ℕ) → take r (drop n t) ++ take (r - (length t - n)) (drop (n - length t) u) ≡ take r (drop n (t ++ u))
both_fill t u n r =
    ap (λ k. take r (drop n t) ++ take (r - k) (drop (n - length t) u)) (sym (length-drop n t))
    ∙ sym (take_append r (drop n t) (drop (n - length t) u))
    ∙ ap (λ l. take r l) (sym (drop_append n t u))

pub fills_then : {t u : List ℕ} {a b c : Window} {i j k : List ℕ} → a.filled ≤ length i → Fills t a i b j → Fills u b j c k → Fills (t ++ u) a i c k
fills_then {t} {u} {a} {b} {c} {i} {j} {k} within first second =
    let room = length i - a.filled in
    let filled = filled_is t a b i j within first in
    let left : length j - b.filled ≡ room - (length t - a.before) = omega (arith, filled, first.kept, within) in
    record {
      within = second.within;
      kept = second.kept ∙ first.kept;
      passed = let p = first.passed in let q = second.passed in omega (arith, p, q, length-append t u);
      bytes = second.bytes
          ∙ ap (λ l. l ++ take (length j - b.filled) (drop b.before u)) first.bytes
          ∙ ap (λ n. (take a.filled i ++ take room (drop a.before t)) ++ take n (drop b.before u)) left
          ∙ ap (λ n. (take a.filled i ++ take room (drop a.before t)) ++ take (room - (length t - a.before)) (drop n u)) first.passed
          ∙ append_assoc (take a.filled i) (take room (drop a.before t)) (take (room - (length t - a.before)) (drop (a.before - length t) u))
          ∙ ap (λ l. take a.filled i ++ l) (both_fill t u a.before room);
    }

-- a window that the text fills to its end
pub fills_whole : (text : List ℕ) (offset : ℕ) (new : Window) (before now : List ℕ) → offset + length before ≤ length text
    → Fills text (record { before = offset; filled = 0 }) before new now → now ≡ take (length before) (drop offset text)
fills_whole text offset new before now long fills =
    let filled = filled_is text (record { before = offset; filled = 0 }) new before now (omega arith) fills in
    let room : length before - 0 ≡ length before = omega arith in
    sym (take_all new.filled now (omega (arith, filled, long, fills.kept)))
    ∙ fills.bytes
    ∙ ap (λ n. take n (drop offset text)) room

-- ---- pieces of a list, one an element

module _ {X : Type 0} (f : X → List ℕ) (xs : List X) (i : ℕ) {a b : Window} {front now : List ℕ} where
  pub fills_more : {c : Window} {next : List ℕ} (x d : X) → x ≡ get_or xs i d → i < length xs → a.filled ≤ length front
      → Fills (flat_map f (take i xs)) a front b now → Fills (f x) b now c next → Fills (flat_map f (take (i + 1) xs)) a front c next
  fills_more {c} {next} x d is lt within so_far piece =
      let more : flat_map f (take (i + 1) xs) ≡ flat_map f (take i xs) ++ f x =
      ap (λ l. flat_map f l) (take_more xs i d lt) ∙ flat_map-append f (take i xs) (get_or xs i d ∷ [])
      ∙ ap (λ l. flat_map f (take i xs) ++ l) (append-nil (f (get_or xs i d))) ∙ ap (λ y. flat_map f (take i xs) ++ f y) (sym is) in
      subst (λ text. Fills text a front c next) (sym more) (fills_then within so_far piece)

  -- the window is full, so what follows changes nothing
  pub fills_rest : a.filled ≤ length front → Fills (flat_map f (take i xs)) a front b now → ((text : List ℕ) → Fills text b now b now) → Fills (flat_map f xs) a front b now
  fills_rest within so_far full =
      subst (λ text. Fills text a front b now) (sym (flat_map-append f (take i xs) (drop i xs)) ∙ ap (λ l. flat_map f l) (take-append-drop i xs))
      (fills_then within so_far (full (flat_map f (drop i xs))))

  pub fills_all : length xs ≤ i → Fills (flat_map f (take i xs)) a front b now → Fills (flat_map f xs) a front b now
  fills_all ends so_far = subst (λ (l : List X). Fills (flat_map f l) a front b now) (take_all i xs ends) so_far
