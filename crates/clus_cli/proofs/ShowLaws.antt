-- The lines of a log, printed one after the other.
use Rattle.std.proofs.Common.{◌≡◌, ℕ, ◌+◌, ◌<◌, ◌≤◌, List, [], ◌∷◌, ◌++◌, length, take, drop, get_or, Option, refl, sym, ap, ◌∙◌, subst, append_assoc, arith}
use Rattle.std.specs.Prelude.{Result, Ok, Err, ⊤}
use Rattle.std.proofs.lemmas.List.{append-nil, drop_all, drop_more, take-append-drop}
use Rattle.causes.specs.Writing.{Wrote, WroteSome}
use Rattle.quorum_log.specs.declared.found.FoundRecord.{FoundRecord}
use Rattle.clus_cli.specs.declared.status.Status.{Status}
use Rattle.clus_cli.specs.declared.status.Status.TheVariants as statuses
use Rattle.clus_cli.specs.Showlog.{IsPrinted, Prints, record_line, record_lines}
use Rattle.edge_io.proofs.Pieces.{Wrote-append}
use Rattle.clus_cli.proofs.WritingLaws.{wrote_nothing, some_of_more, some_then}

-- A prefix of a text is one of what begins with it.
pub some_first : (a b : Option (List ℕ)) (x y : List ℕ) → WroteSome a b x → WroteSome a b (x ++ y)
some_first a b x y (count, wrote) =
    let front = take count x in
    let whole : front ++ (drop count x ++ y) ≡ x ++ y = sym (append_assoc front (drop count x) y) ∙ ap (λ (t : List ℕ). t ++ y) (take-append-drop count x) in
    subst (λ (t : List ℕ). WroteSome a b t) whole (some_of_more a b front (drop count x ++ y) wrote)

pub nothing_printed : (a : Option (List ℕ)) (text : List ℕ) → WroteSome a a text
nothing_printed a text = (0, wrote_nothing a)

-- All of a text was printed, and then what follows, as far as it was.
pub printed_behind : (a b c : Option (List ℕ)) (x y : List ℕ) (result : Result ⊤ Status) → Wrote a b x → IsPrinted b y result c → IsPrinted a (x ++ y) result c
printed_behind a b c x y (Ok ok) wrote rest = Wrote-append a b c x y wrote rest
printed_behind a b c x y (Err statuses.WriteFault) wrote rest = some_then a b c x y wrote rest
printed_behind a b c x y (Err statuses.NoMemory) wrote rest = some_then a b c x y wrote rest
printed_behind a b c x y (Err statuses.Done) wrote rest = absurd rest
printed_behind a b c x y (Err (statuses.BadScript line fault)) wrote rest = absurd rest
printed_behind a b c x y (Err statuses.Usage) wrote rest = absurd rest
printed_behind a b c x y (Err statuses.ReadFault) wrote rest = absurd rest
printed_behind a b c x y (Err statuses.DiskFault) wrote rest = absurd rest
printed_behind a b c x y (Err (statuses.BadLog place)) wrote rest = absurd rest
printed_behind a b c x y (Err (statuses.Fenced held)) wrote rest = absurd rest
printed_behind a b c x y (Err statuses.TooLong) wrote rest = absurd rest
printed_behind a b c x y (Err (statuses.BadCommand line column)) wrote rest = absurd rest
printed_behind a b c x y (Err (statuses.BadReply place)) wrote rest = absurd rest
printed_behind a b c x y (Err statuses.NoPeer) wrote rest = absurd rest

pub printed_err : (a b : Option (List ℕ)) (text : List ℕ) (status : Status) → IsPrinted a text (Err status) b → Prints a text status b
printed_err a b text statuses.WriteFault printed = printed
printed_err a b text statuses.NoMemory printed = printed
printed_err a b text statuses.Done printed = absurd printed
printed_err a b text (statuses.BadScript line fault) printed = printed
printed_err a b text statuses.Usage printed = printed
printed_err a b text statuses.ReadFault printed = printed
printed_err a b text statuses.DiskFault printed = printed
printed_err a b text (statuses.BadLog place) printed = printed
printed_err a b text (statuses.Fenced held) printed = printed
printed_err a b text statuses.TooLong printed = printed
printed_err a b text (statuses.BadCommand line column) printed = printed
printed_err a b text (statuses.BadReply place) printed = printed
printed_err a b text statuses.NoPeer printed = printed

-- So many of the records were printed, the last of them at that place.
pub record IsPrintedTo (before now : Option (List ℕ)) (base : ℕ) (records : List FoundRecord) (place done : ℕ) : Type 0 where
  pub place_is : place ≡ base + done
  pub front : List ℕ
  pub wrote : Wrote before now front
  pub rest : front ++ record_lines place (drop done records) ≡ record_lines base records

pub printed_none : (a : Option (List ℕ)) (base : ℕ) (records : List FoundRecord) → IsPrintedTo a a base records base 0
printed_none a base records = record { place_is = omega arith; front = []; wrote = wrote_nothing a; rest = refl }

-- The line of the next record comes before those of the others.
next_line : (base : ℕ) (records : List FoundRecord) (place done : ℕ) (front : List ℕ) (r : FoundRecord) → done < length records → r ≡ get_or records done r → front ++ record_lines place (drop done records) ≡ record_lines base records
    → (front ++ record_line (place + 1) r.bytes) ++ record_lines (place + 1) (drop (done + 1) records) ≡ record_lines base records
unfolding record_lines
next_line base records place done front r within is rest =
    let behind = drop (done + 1) records in
    let here : drop done records ≡ r ∷ behind = drop_more records done r within ∙ ap (λ (q : FoundRecord). q ∷ behind) (sym is) in
    append_assoc front (record_line (place + 1) r.bytes) (record_lines (place + 1) behind) ∙ ap (λ (rs : List FoundRecord). front ++ record_lines place rs) (sym here) ∙ rest

pub printed_more : (a b c : Option (List ℕ)) (base : ℕ) (records : List FoundRecord) (place done : ℕ) (r : FoundRecord) → done < length records → r ≡ get_or records done r → IsPrintedTo a b base records place done
    → Wrote b c (record_line (place + 1) r.bytes) → IsPrintedTo a c base records (place + 1) (done + 1)
printed_more a b c base records place done r within is so_far wrote =
    let line = record_line (place + 1) r.bytes in
    record {
      place_is = omega (arith, so_far.place_is);
      front = so_far.front ++ line;
      wrote = Wrote-append a b c so_far.front line so_far.wrote wrote;
      rest = next_line base records place done so_far.front r within is so_far.rest;
    }

pub printed_all : (a b : Option (List ℕ)) (base : ℕ) (records : List FoundRecord) (place done : ℕ) → length records ≤ done → IsPrintedTo a b base records place done → Wrote a b (record_lines base records)
unfolding record_lines
printed_all a b base records place done all so_far =
    let none : record_lines place (drop done records) ≡ [] = ap (λ (rs : List FoundRecord). record_lines place rs) (drop_all done records all) in
    let whole : so_far.front ≡ record_lines base records = sym (append-nil so_far.front) ∙ ap (λ (t : List ℕ). so_far.front ++ t) (sym none) ∙ so_far.rest in
    subst (λ (t : List ℕ). Wrote a b t) whole so_far.wrote

pub printed_part : (a b : Option (List ℕ)) (base : ℕ) (records : List FoundRecord) (place done : ℕ) → IsPrintedTo a b base records place done → WroteSome a b (record_lines base records)
printed_part a b base records place done so_far =
    subst (λ (t : List ℕ). WroteSome a b t) so_far.rest (some_of_more a b so_far.front (record_lines place (drop done records)) so_far.wrote)

pub printed_stopped : (a b c : Option (List ℕ)) (base : ℕ) (records : List FoundRecord) (place done : ℕ) (r : FoundRecord) → done < length records → r ≡ get_or records done r → IsPrintedTo a b base records place done
    → WroteSome b c (record_line (place + 1) r.bytes) → WroteSome a c (record_lines base records)
printed_stopped a b c base records place done r within is so_far some =
    let line = record_line (place + 1) r.bytes in
    let others = record_lines (place + 1) (drop (done + 1) records) in
    let whole : so_far.front ++ (line ++ others) ≡ record_lines base records = sym (append_assoc so_far.front line others) ∙ next_line base records place done so_far.front r within is so_far.rest in
    subst (λ (t : List ℕ). WroteSome a c t) whole (some_then a b c so_far.front (line ++ others) so_far.wrote (some_first b c line others some))
