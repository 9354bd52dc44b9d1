-- What the words of a line say.
use Rattle.std.specs.Prelude.{ℕ, ◌+◌, ◌^◌, ◌==◌, Bool, ◌&&◌, ◌||◌, nat_lt, nat_le, if◌then◌else◌, List, [], ◌∷◌, length, Option, Some, None, Result, Ok, slice_index, option_and_then}
use Rattle.std.specs.Char.{is_ascii_digit}
use Rattle.std.specs.List.{after_first, before_first, list_all}
use Rattle.std.specs.Result.{result_ok}
use Rattle.std.specs.Str.{bytes_eq}
use Rattle.std.specs.Str.Parse.{digits_value}
use Rattle.hex.specs.Hex.{decode_of}
use Rattle.gum_messages.specs.declared.member.Member.{Member}
use Rattle.update_records.specs.declared.update.Update.{Update}
use Rattle.update_records.specs.declared.update.Update.TheVariants.{Batch}
use Rattle.update_records.specs.Grammar.{update_of}
use Rattle.cluster_script.specs.Words.{is_byte}

-- A zero stands first only where it stands alone.
abbrev pub has_no_leading_zero : List ℕ → Bool
has_no_leading_zero word = (length word == 1) || nat_lt 48 (slice_index word 0)

abbrev pub is_decimal : List ℕ → Bool
is_decimal word = list_all is_ascii_digit word && has_no_leading_zero word

-- A number of 64 bits.
unfoldable pub decimal_of : List ℕ → Option ℕ
decimal_of word = if is_decimal word && nat_lt (digits_value 10 word) (2 ^ 64) then Some (digits_value 10 word) else None

abbrev pub between : ℕ → ℕ → ℕ → Option ℕ
between low high number = if nat_le low number && nat_le number high then Some number else None

-- A number between two bounds.
abbrev pub number_of : ℕ → ℕ → List ℕ → Option ℕ
number_of low high word = option_and_then (between low high) (decimal_of word)

-- Pairs of hexadecimal digits in either case; `-` is no bytes.
unfoldable pub bytes_of : List ℕ → Option (List ℕ)
bytes_of word =
    if bytes_eq word (45 ∷ []) then Some []
    else if length word == 0 then None
    else result_ok (decode_of word)

-- No more bytes than these.
abbrev pub short : ℕ → List ℕ → Option (List ℕ)
short limit bytes = if nat_le (length bytes) limit then Some bytes else None

abbrev pub octets_of : ℕ → List ℕ → Option (List ℕ)
octets_of limit word = option_and_then (short limit) (bytes_of word)

-- The update that the bytes spell, where it is a batch.
abbrev pub batch_in : Result Update ℕ → Option Update
batch_in (Ok (Batch changes)) = Some (Batch changes)
batch_in read = None

abbrev pub batch_of : List ℕ → Option Update
batch_of word = option_and_then (λ bytes. batch_in (update_of bytes)) (bytes_of word)

abbrev pub member_with : Option ℕ → Option ℕ → Option Member
member_with (Some node) (Some inc) = Some (record { node = node; inc = inc })
member_with _ _ = None

-- A member above this node: its node, a dot, and its incarnation.
unfoldable pub member_of : ℕ → List ℕ → Option Member
member_of floor word = member_with (number_of (floor + 1) 16 (before_first (is_byte 46) word)) (number_of 1 4_294_967_295 (after_first (is_byte 46) word))
