-- The texts that are written to a log, and what they make of it.
use Rattle.std.specs.Prelude.{◌≡◌, ℕ, ◌+◌, ◌-◌, ◌⊎◌, Bool, true, false, List, [], ◌∷◌, ◌++◌, length}
use Rattle.wire_fields.specs.declared.endian.Endian.TheVariants.{Little}
use Rattle.wire_fields.specs.Numbers.{num}
use Rattle.disk_core.specs.Images.{Moment, EachImage}
use Rattle.disk_core.specs.Calls.{Call, write, sync}
use Rattle.quorum_log.specs.declared.found.Found.{Found}
use Rattle.quorum_log.specs.Layout.{second_version, next_generation}
use Rattle.quorum_log.specs.Image.{Holds, other_of, tail_of}

-- A record with its length in front and the next commit byte, which is 0, behind it.
abbrev pub framed_record : List ℕ → List ℕ
framed_record bytes = num Little 4 (length bytes) ++ (bytes ++ 0 ∷ [])

-- A half of version 2 without records, from behind its validity byte on.
abbrev pub half_text : ℕ → ℕ → List ℕ → List ℕ → List ℕ
half_text generation base state last =
    num Little 8 generation ++ (num Little 8 (base + second_version)
    ++ (num Little 4 (length state) ++ (num Little 4 (length last) ++ (state ++ (last ++ 0 ∷ [])))))

abbrev pub with_record : Found → List ℕ → Found
with_record x bytes = record x { records = x.records ++ record { at = tail_of x + 5; bytes = bytes } ∷ [] }

abbrev pub with_checkpoint : Found → List ℕ → List ℕ → Found
with_checkpoint x state last = record {
  version = 2;
  cap = x.cap;
  half = 1 - x.half;
  generation = next_generation x.generation;
  base = x.base + length x.records;
  state_at = other_of x + 25;
  state = state;
  last_at = other_of x + 25 + length state;
  last = last;
  records = [];
}

-- The calls that close a half which is valid; one that isn't valid is left alone.
abbrev pub closing : Bool → ℕ → ℕ → List Call
closing true token at = write token at (0 ∷ []) ∷ sync token ∷ []
closing false token at = []

-- An image inside `append`, and inside `checkpoint`.
abbrev pub HoldsEither : Found → Found → List ℕ → Type 0
HoldsEither x y image = Holds image x ⊎ Holds image y

-- A moment inside `append`, and inside `checkpoint`: the fencing token is still that one, and each image holds
-- the one log or the other.
abbrev pub IsInChange : ℕ → Found → Found → Moment → Type 0
IsInChange held x y m = (m.held ≡ held) × EachImage (HoldsEither x y) m
