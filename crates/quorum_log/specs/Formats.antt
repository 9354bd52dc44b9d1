-- Making an empty log: what is written, by which calls, and what an image is meanwhile.
use Rattle.std.specs.Prelude.{◌≡◌, ◌≢◌, ℕ, ◌+◌, ◌⊎◌, Bool, not, ◌==◌, nat_le, if◌then◌else◌, List, [], ◌∷◌, ◌++◌, length, replicate, slice_index, Result, Ok, Err, ⊤}
use Rattle.wire_fields.specs.declared.endian.Endian.TheVariants.{Little}
use Rattle.wire_fields.specs.Numbers.{num}
use Rattle.disk_core.specs.declared.fault.DiskFault.{DiskFault}
use Rattle.disk_core.specs.Images.{Moment, IsImage, SameOutside}
use Rattle.disk_core.specs.Views.{DiskView}
use Rattle.disk_core.specs.Calls.{Call, write, sync, claim, ReadStep, Made}
use Rattle.quorum_log.specs.declared.found.Found.{Found}
use Rattle.quorum_log.specs.Layout.{magic, half_at, second_version}
use Rattle.quorum_log.specs.Image.{Holds}
use Rattle.quorum_log.specs.Changes.{closing}

-- The log without records whose state is that one.
abbrev pub empty_log : ℕ → List ℕ → Found
empty_log cap first = record {
  version = 2;
  cap = cap;
  half = 0;
  generation = 1;
  base = 0;
  state_at = 89;
  state = first;
  last_at = 89 + length first;
  last = [];
  records = [];
}

-- The header of version 2, from behind its commit byte on.
abbrev pub header_text : ℕ → List ℕ
header_text cap = magic ++ (num Little 4 2 ++ (num Little 4 cap ++ replicate 48 0))

-- The fields of half 0 of an empty log, whose state has that length: it is valid, and of generation 1, version 2 and base 0.
abbrev pub fields_text : ℕ → List ℕ
fields_text size = 1 ∷ (num Little 8 1 ++ (num Little 8 second_version ++ (num Little 4 size ++ num Little 4 0)))

unfoldable pub front_text : ℕ → ℕ → List ℕ
front_text cap size = header_text cap ++ fields_text size

-- The writes of the front, the state and the closed list. They are one where all of it has at most 4,096 bytes,
-- and three where it has more.
abbrev pub body_calls : ℕ → ℕ → List ℕ → List Call
body_calls token cap first =
    if nat_le (length first) 4007
    then write token 1 (front_text cap (length first) ++ (first ++ 0 ∷ [])) ∷ []
    else write token 1 (front_text cap (length first)) ∷ write token 89 first ∷ write token (89 + length first) (0 ∷ []) ∷ []

-- The calls of `format` behind its read: byte 0 is closed where it is open; then the body is written and half 1
-- closed, all of it synced, and byte 0 opened.
abbrev pub renewing : Bool → ℕ → ℕ → List ℕ → List Call
renewing is_open token cap first =
    closing is_open token 0
    ++ (body_calls token cap first ++ write token (half_at cap 1) (0 ∷ []) ∷ sync token ∷ write token 0 (1 ∷ []) ∷ sync token ∷ [])

-- Byte 0 was read, unless the read failed.
abbrev pub ReadsByte : DiskView → Result ℕ DiskFault → DiskView → Type 0
ReadsByte v (Ok byte) w = ReadStep v 0 (byte ∷ []) (Ok tt) w
ReadsByte v (Err fault) w = (byte : ℕ) × ReadStep v 0 (byte ∷ []) (Err fault) w

abbrev pub Renews : ℕ → ℕ → List ℕ → DiskView → Result ⊤ DiskFault → DiskView → Type 0
Renews token cap first v result w =
    ((byte : ℕ) × (u : DiskView) × ReadsByte v (Ok byte) u × Made (renewing (not (byte == 0)) token cap first) u result w)
    ⊎ ((fault : DiskFault) × ReadsByte v (Err fault) w × (result ≡ Err fault))

-- The calls of `format`, none behind one that is refused: a claim and a sync, a read of byte 0, and the rest.
abbrev pub FormatCalls : ℕ → ℕ → List ℕ → DiskView → Result ⊤ DiskFault → DiskView → Type 0
FormatCalls token cap first v result w =
    ((u : DiskView) × Made (claim token ∷ sync token ∷ []) v (Ok tt) u × Renews token cap first u result w)
    ⊎ ((fault : DiskFault) × Made (claim token ∷ sync token ∷ []) v (Err fault) w × (result ≡ Err fault))

-- An image that could stand before, whose byte 0 wasn't 0 and may have become another one that isn't.
pub record IsReopened (before : Moment) (image : List ℕ) : Type 0 where
  pub old : List ℕ
  pub was : IsImage before old
  pub committed : slice_index old 0 ≢ 0
  pub same : SameOutside 0 1 old image
  pub still : slice_index image 0 ≢ 0

-- An image inside `format`: a blank one, the empty log, or what could stand before.
abbrev pub IsInFormat : Moment → ℕ → List ℕ → List ℕ → Type 0
IsInFormat before cap first image =
    (slice_index image 0 ≡ 0) ⊎ (Holds image (empty_log cap first) ⊎ IsReopened before image)

-- The disk holds the empty log, and nothing is pending.
pub record IsFormatted (cap : ℕ) (first : List ℕ) (v : DiskView) : Type 0 where
  pub settled : v.current.pending ≡ []
  pub holds : Holds v.current.seen (empty_log cap first)
