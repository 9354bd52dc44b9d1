-- What `format` writes, and the log that it makes.
use Rattle.std.proofs.Common.{◌≡◌, ◌≢◌, ℕ, ◌+◌, ◌^◌, ◌<◌, ◌≤◌, ◌⊎◌, inl, inr, List, [], ◌∷◌, ◌++◌, length, replicate, get_or, refl, sym, arith, length-append}
use Rattle.std.proofs.lemmas.List.{length-replicate}
use Rattle.wire_fields.specs.declared.endian.Endian.TheVariants.{Little}
use Rattle.wire_fields.specs.Numbers.{num}
use Rattle.disk_core.specs.Images.{Has, SameOutside}
use Rattle.quorum_log.specs.Layout.{magic, window, number_at, half_at, image_size, second_version, version_of, base_of}
use Rattle.quorum_log.specs.Image.{Holds, IsHalf}
use Rattle.quorum_log.specs.Formats.{empty_log, header_text, fields_text, front_text}
use Rattle.quorum_log.proofs.Places.{SameWithin, has_number, has_window, has_left, has_right, has_one, has_kept, length-num, within_from}

length-header : (cap : ℕ) → length (header_text cap) ≡ 63
length-header cap =
    let v = num Little 4 2 in
    let c = num Little 4 cap in
    let z : List ℕ = replicate 48 0 in
    omega (
      arith,
      length-num 4 2,
      length-num 4 cap,
      length-replicate {A = ℕ} 48 0,
      length-append magic (v ++ (c ++ z)),
      length-append v (c ++ z),
      length-append c z,
    )

length-fields : (size : ℕ) → length (fields_text size) ≡ 25
length-fields size =
    let g = num Little 8 1 in
    let b = num Little 8 second_version in
    let s = num Little 4 size in
    let l = num Little 4 0 in
    omega (
      arith,
      length-num 8 1,
      length-num 8 second_version,
      length-num 4 size,
      length-num 4 0,
      length-append g (b ++ (s ++ l)),
      length-append b (s ++ l),
      length-append s l,
    )

pub length-front : (cap size : ℕ) → length (front_text cap size) ≡ 88
unfolding front_text
length-front cap size = omega (arith, length-header cap, length-fields size, length-append (header_text cap) (fields_text size))

-- All that `format` writes stands in the image, but for the commit byte.
pub record HasText (image : List ℕ) (cap : ℕ) (first : List ℕ) : Type 0 where
  pub front : Has image 1 (front_text cap (length first))
  pub state : Has image 89 first
  pub closed : Has image (89 + length first) (0 ∷ [])

-- it stays where nothing else is written
pub kept_text : (at count cap : ℕ) (first old new : List ℕ) → (at + count ≤ 1) ⊎ (90 + length first ≤ at) → SameOutside at count old new → HasText old cap first → HasText new cap first
kept_text at count cap first old new apart same has =
    let long = length-front cap (length first) in
    let within : SameWithin 1 (90 + length first) old new = within_from at count 1 (90 + length first) old new same (elim apart [ inl low ↦ inr low | inr high ↦ inl high ]) in
    record {
      front = has_kept old new 1 (90 + length first) 1 (front_text cap (length first)) same.size within (omega arith) (omega arith) has.front;
      state = has_kept old new 1 (90 + length first) 89 first same.size within (omega arith) (omega arith) has.state;
      closed = has_kept old new 1 (90 + length first) (89 + length first) (0 ∷ []) same.size within (omega arith) (omega arith) has.closed;
    }

-- the text that is written at once
pub whole_text : (image : List ℕ) (cap : ℕ) (first : List ℕ) → Has image 1 (front_text cap (length first) ++ (first ++ 0 ∷ [])) → HasText image cap first
whole_text image cap first has =
    let front = front_text cap (length first) in
    let e : 1 + length front ≡ 89 = omega (arith, length-front cap (length first)) in
    let rest : Has image 89 (first ++ 0 ∷ []) = rw e at (has_right image 1 front (first ++ 0 ∷ []) has) in
    record {
      front = has_left image 1 front (first ++ 0 ∷ []) has;
      state = has_left image 89 first (0 ∷ []) rest;
      closed = has_right image 89 first (0 ∷ []) rest;
    }

-- the header
record HasHeader (image : List ℕ) (cap : ℕ) : Type 0 where
  name : window image 1 7 ≡ magic
  version : number_at image 8 4 ≡ 2
  cap_is : number_at image 12 4 ≡ cap

header_read : (image : List ℕ) (cap : ℕ) → cap < 256 ^ 4 → Has image 1 (header_text cap) → HasHeader image cap
header_read image cap fits has =
    let v = num Little 4 2 in
    let c = num Little 4 cap in
    let z : List ℕ = replicate 48 0 in
    let h1 : Has image 8 (v ++ (c ++ z)) = has_right image 1 magic (v ++ (c ++ z)) has in
    let e2 : 8 + length v ≡ 12 = omega (arith, length-num 4 2) in
    let h2 : Has image 12 (c ++ z) = rw e2 at (has_right image 8 v (c ++ z) h1) in
    record {
      name = has_window image 1 magic (has_left image 1 magic (v ++ (c ++ z)) has).each;
      version = has_number image 8 4 2 (omega arith) (has_left image 8 v (c ++ z) h1);
      cap_is = has_number image 12 4 cap fits (has_left image 12 c z h2);
    }

second_version_is : version_of second_version ≡ 2
second_version_is = refl

second_base_is : base_of second_version ≡ 0
second_base_is = refl

half_read : (image first : List ℕ) → length first < 256 ^ 4 → Has image 64 (fields_text (length first)) → Has image 89 first → IsHalf image 64 2 1 0 first []
unfolding window
half_read image first fits has state =
    let g = num Little 8 1 in
    let b = num Little 8 second_version in
    let s = num Little 4 (length first) in
    let l = num Little 4 0 in
    let one = has_one image 64 1 (has_left image 64 (1 ∷ []) (g ++ (b ++ (s ++ l))) has) in
    let h1 : Has image 65 (g ++ (b ++ (s ++ l))) = has_right image 64 (1 ∷ []) (g ++ (b ++ (s ++ l))) has in
    let e2 : 65 + length g ≡ 73 = omega (arith, length-num 8 1) in
    let h2 : Has image 73 (b ++ (s ++ l)) = rw e2 at (has_right image 65 g (b ++ (s ++ l)) h1) in
    let e3 : 73 + length b ≡ 81 = omega (arith, length-num 8 second_version) in
    let h3 : Has image 81 (s ++ l) = rw e3 at (has_right image 73 b (s ++ l) h2) in
    let e4 : 81 + length s ≡ 85 = omega (arith, length-num 4 (length first)) in
    let h4 : Has image 85 l = rw e4 at (has_right image 81 s l h3) in
    let field : number_at image 73 8 ≡ second_version = has_number image 73 8 second_version (omega arith) (has_left image 73 b (s ++ l) h2) in
    record {
      validity = rw one (λ zero. omega arith);
      generation_is = has_number image 65 8 1 (omega arith) (has_left image 65 g (b ++ (s ++ l)) h1);
      version_is = rw field (sym second_version_is);
      base_is = rw field (sym second_base_is);
      state_size = has_number image 81 4 (length first) fits (has_left image 81 s l h3);
      last_size = has_number image 85 4 0 (omega arith) h4;
      state_is = has_window image 89 first state.each;
      last_is = refl;
    }

-- the empty log, once its commit byte is there
pub text_holds : (image : List ℕ) (cap : ℕ) (first : List ℕ) → 4096 ≤ cap → cap ≤ 16_777_216 → length first ≤ cap → image_size cap ≤ length image
    → HasText image cap first → get_or image (half_at cap 1) 0 ≡ 0 → get_or image 0 0 ≢ 0 → Holds image (empty_log cap first)
unfolding front_text
text_holds image cap first least most small whole has other committed =
    let start : half_at cap 0 ≡ 64 = omega arith in
    let header = header_read image cap (omega arith) (has_left image 1 (header_text cap) (fields_text (length first)) has.front) in
    let e : 1 + length (header_text cap) ≡ 64 = omega (arith, length-header cap) in
    let fields : Has image 64 (fields_text (length first)) = rw e at (has_right image 1 (header_text cap) (fields_text (length first)) has.front) in
    let half : IsHalf image 64 2 1 0 first [] = half_read image first (omega arith) fields has.state in
    let closed : get_or image (89 + length first) 0 ≡ 0 = has_one image (89 + length first) 0 has.closed in
    let tail : half_at cap 0 + 25 + length first + 0 ≡ 89 + length first = omega arith in
    record {
      commit = committed;
      magic_is = header.name;
      header_version = inr header.version;
      cap_is = header.cap_is;
      cap_range = (least, most);
      whole = whole;
      half = inl refl;
      fields = rw start half;
      current = inl other;
      state_at = rw start refl;
      state_most = small;
      last_at = rw start refl;
      last_most = omega arith;
      records = tt;
      closed = rw tail closed;
      count = omega arith;
    }
