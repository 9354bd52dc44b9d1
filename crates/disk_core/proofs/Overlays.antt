-- What stands where in an image with bytes put into it.
use Rattle.std.proofs.Common.{◌≡◌, ℕ, ◌+◌, ◌-◌, ◌<◌, ◌≤◌, inl, inr, List, ◌++◌, length, take, drop, get_or, sym, ap, ◌∙◌, arith, length-append, length-drop}
use Rattle.std.proofs.lemmas.List.{get_or_append_left, get_or-append_right, get_or-take, get_or-drop, length-take-le}
use Rattle.disk_core.specs.Images.{Has, SameOutside, overlay}

length-front : (old : List ℕ) (at : ℕ) (bytes : List ℕ) → at + length bytes ≤ length old → length (take at old ++ bytes) ≡ at + length bytes
length-front old at bytes within =
    let front : length (take at old) ≡ at = length-take-le at old (omega arith) in
    omega (arith, length-append (take at old) bytes)

pub length-overlay : (old : List ℕ) (at : ℕ) (bytes : List ℕ) → at + length bytes ≤ length old → length (overlay old at bytes) ≡ length old
length-overlay old at bytes within =
    omega (arith, length-append (take at old ++ bytes) (drop (at + length bytes) old), length-front old at bytes within, length-drop (at + length bytes) old)

inside : (old : List ℕ) (at : ℕ) (bytes : List ℕ) → at + length bytes ≤ length old → (k : ℕ) → k < length bytes → get_or (overlay old at bytes) (at + k) 0 ≡ get_or bytes k 0
inside old at bytes within k below =
    let front : length (take at old) ≡ at = length-take-le at old (omega arith) in
    let near : at + k < length (take at old ++ bytes) = omega (arith, length-front old at bytes within) in
    let back : (at + k) - at ≡ k = omega arith in
    get_or_append_left (take at old ++ bytes) (drop (at + length bytes) old) 0 (at + k) near
    ∙ get_or-append_right (take at old) bytes at (at + k) 0 front (omega arith)
    ∙ ap (λ i. get_or bytes i 0) back

before : (old : List ℕ) (at : ℕ) (bytes : List ℕ) → at + length bytes ≤ length old → (i : ℕ) → i < at → get_or (overlay old at bytes) i 0 ≡ get_or old i 0
before old at bytes within i below =
    let front : length (take at old) ≡ at = length-take-le at old (omega arith) in
    get_or_append_left (take at old ++ bytes) (drop (at + length bytes) old) 0 i (omega (arith, length-front old at bytes within))
    ∙ get_or_append_left (take at old) bytes 0 i (omega arith)
    ∙ get_or-take at old i 0 below

behind : (old : List ℕ) (at : ℕ) (bytes : List ℕ) → at + length bytes ≤ length old → (i : ℕ) → at + length bytes ≤ i → get_or (overlay old at bytes) i 0 ≡ get_or old i 0
behind old at bytes within i above =
    let back : (at + length bytes) + (i - (at + length bytes)) ≡ i = omega arith in
    get_or-append_right (take at old ++ bytes) (drop (at + length bytes) old) (at + length bytes) i 0 (length-front old at bytes within) above
    ∙ get_or-drop (at + length bytes) old (i - (at + length bytes)) 0
    ∙ ap (λ j. get_or old j 0) back

pub overlay_has : (old : List ℕ) (at : ℕ) (bytes : List ℕ) → at + length bytes ≤ length old → Has (overlay old at bytes) at bytes
overlay_has old at bytes within = record {
  within = omega (arith, length-overlay old at bytes within);
  each = inside old at bytes within;
}

pub overlay_same : (old : List ℕ) (at : ℕ) (bytes : List ℕ) → at + length bytes ≤ length old → SameOutside at (length bytes) old (overlay old at bytes)
overlay_same old at bytes within = record {
  size = length-overlay old at bytes within;
  each = λ i out. elim out [
    | inl below ↦ before old at bytes within i below
    | inr above ↦ behind old at bytes within i above
  ];
}

pub has_taken : (image : List ℕ) (at count : ℕ) → at + count ≤ length image → Has image at (take count (drop at image))
has_taken image at count within =
    let size : length (take count (drop at image)) ≡ count = length-take-le count (drop at image) (omega (arith, length-drop at image)) in
    record {
      within = omega arith;
      each = λ k below. sym (get_or-take count (drop at image) k 0 (omega arith) ∙ get_or-drop at image k 0);
    }
