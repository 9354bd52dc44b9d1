-- What is read of a half stands in it.
use Rattle.std.proofs.Common.{◌≡◌, ◌≢◌, ℕ, ◌+◌, ◌<◌, ◌≤◌, List, [], ◌∷◌, ◌++◌, length, get_or, refl, sym, ap, ◌∙◌, subst, arith}
use Rattle.quorum_log.specs.declared.found.FoundRecord.{FoundRecord}
use Rattle.quorum_log.specs.Layout.{window, number_at, half_size, half_at, most_records, version_of, base_of}
use Rattle.quorum_log.specs.Image.{IsHalf, IsFramed, Listed, commit_behind}
use Rattle.quorum_log.specs.Readings.{AreLengths, AreRecords, IsGoodSize, IsFoundHalf}
use Rattle.quorum_log.proofs.Places.{length-window}
use Rattle.quorum_log.proofs.Kept.{listed_push, behind-push}

pub scan_next : (image : List ℕ) (end start at count : ℕ) (records records' : List FoundRecord) (bytes : List ℕ)
    → Listed image end start records → at ≡ commit_behind start records → get_or image at 0 ≢ 0 → IsGoodSize image end at count → bytes ≡ window image (at + 5) count
    → records' ≡ records ++ record { at = at + 5; bytes = bytes } ∷ []
    → Listed image end start records' × (at + (5 + count) ≡ commit_behind start records') × (at + (5 + count) < end)
scan_next image end start at count records records' bytes listed place committed good is_bytes pushed =
    let r : FoundRecord = record { at = at + 5; bytes = bytes } in
    let long : length bytes ≡ count = ap (λ xs. length xs) is_bytes ∙ length-window image (at + 5) count in
    let one : IsFramed image end at r = record {
      commit = committed;
      place = refl;
      size = good.size_is ∙ sym long;
      some = omega (arith, good.some);
      most = omega (arith, good.most);
      room = omega (arith, good.room);
      bytes = ap (λ n. window image (at + 5) n) long ∙ sym is_bytes;
    } in
    let here : IsFramed image end (commit_behind start records) r = (let P : ℕ → Type 0 = λ n. IsFramed image end n r in subst P place one) in
    rw pushed (listed_push image end start records r listed here, omega (arith, behind-push start records r), omega (arith, good.room))

pub found_half : (image : List ℕ) (cap half start state_size last_size field generation base version : ℕ) (state last : List ℕ) (records : List FoundRecord)
    → start ≡ half_at cap half → AreLengths image cap start state_size last_size → get_or image (half_at cap half) 0 ≢ 0
    → state ≡ window image (start + 25) state_size → last ≡ window image (start + 25 + state_size) last_size
    → AreRecords image (start + half_size cap) (start + 25 + state_size + last_size) records
    → field ≡ number_at image (start + 9) 8 → version ≡ version_of field → base ≡ base_of field → generation ≡ number_at image (start + 1) 8 → base + length records ≤ most_records
    → IsFoundHalf image cap half (record {
      version = version;
      cap = cap;
      half = half;
      generation = generation;
      base = base;
      state_at = start + 25;
      state = state;
      last_at = start + 25 + state_size;
      last = last;
      records = records;
    })
found_half image cap half start state_size last_size field generation base version state last records begins lengths valid is_state is_last are is_field is_version is_base is_generation count =
    let state_long : state_size ≡ length state = sym (ap (λ xs. length xs) is_state ∙ length-window image (start + 25) state_size) in
    let last_long : last_size ≡ length last = sym (ap (λ xs. length xs) is_last ∙ length-window image (start + 25 + state_size) last_size) in
    let state_back : window image (start + 25) state_size ≡ state = sym is_state in
    let state_there : window image (start + 25) (length state) ≡ state = ap (λ n. window image (start + 25) n) (sym state_long) ∙ state_back in
    let last_back : window image (start + 25 + state_size) last_size ≡ last = sym is_last in
    let last_there : window image (start + 25 + length state) (length last) ≡ last =
    ap (λ n. window image (start + 25 + n) (length last)) (sym state_long) ∙ ap (λ n. window image (start + 25 + state_size) n) (sym last_long) ∙ last_back in
    let fields : IsHalf image start version generation base state last = record {
      validity = rw begins valid;
      generation_is = sym is_generation;
      version_is = rw (← is_field) is_version;
      base_is = rw (← is_field) is_base;
      state_size = lengths.state_is ∙ state_long;
      last_size = lengths.last_is ∙ last_long;
      state_is = state_there;
      last_is = last_there;
    } in
    record {
      cap_is = refl;
      half_is = refl;
      fields = rw (← begins) fields;
      state_at = ap (λ n. n + 25) begins;
      state_most = omega (arith, lengths.state_most);
      last_at = omega arith;
      last_most = omega (arith, lengths.last_most);
      records = rw (← begins) (rw (state_long, last_long) at are);
      count = count;
    }
