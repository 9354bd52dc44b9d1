-- The registry that the records of a log make, one record after the other, and its text.
use Rattle.std.proofs.Common.{◌≡◌, ℕ, zero, suc, ◌+◌, ◌<◌, ◌≤◌, List, [], ◌∷◌, length, drop, get_or, sym, ap, ◌∙◌, arith}
use Rattle.std.proofs.lemmas.List.{drop_all, drop_more}
use Rattle.quorum_log.specs.declared.found.FoundRecord.{FoundRecord}
use Rattle.registry_defs.specs.Applying.{records_applied, update_applied}
use Rattle.registry_defs.specs.Contents.{Contents, keys_in}
use Rattle.registry_defs.specs.Keys.{Keys}
use Rattle.registry_defs.specs.declared.outcome.Outcome.{Outcome}
use Rattle.update_records.specs.Entry.{Entry}
use Rattle.clus_registry.specs.Outcomes.{IsApplied}
use Rattle.log_contents.specs.Contents.{AreRecords}

pub place_of : (version place : ℕ) (stored : List FoundRecord) (entries : List Entry) (i : ℕ) (entry : Entry) → AreRecords version place stored entries → i < length entries → entry ≡ get_or entries i entry → entry.place ≡ place + i
place_of version place [] [] i entry are within is = absurd (omega arith)
place_of version place (s ∷ ss) [] i entry are within is = absurd are
place_of version place [] (e ∷ es) i entry are within is = absurd are
place_of version place (s ∷ ss) (e ∷ es) zero entry are within is =
    let here = are.0.place_is in
    let same : entry.place ≡ e.place = ap (λ (x : Entry). x.place) is in
    omega (arith, here, same)
place_of version place (s ∷ ss) (e ∷ es) (suc i) entry are within is =
    let rest = place_of version (place + 1) ss es i entry are.1 (omega arith) is in
    omega (arith, rest)

-- So many of the records were applied, and what the others make of the keys is what all make.
pub record IsAppliedTo (cap place : ℕ) (entries : List Entry) (made : Keys) (done : ℕ) (now : Contents) : Type 0 where
  pub same_cap : now.cap ≡ cap
  pub rest : records_applied cap (place + done) (drop done entries) (keys_in now) ≡ made

pub none_applied : (cap place : ℕ) (entries held : List Entry) (now : Contents) → entries ≡ held → now.cap ≡ cap → IsAppliedTo cap place entries (records_applied cap place held (keys_in now)) 0 now
none_applied cap place entries held now are same =
    let here : place + 0 ≡ place = omega arith in
    record {
      same_cap = same;
      rest = ap (λ n. records_applied cap n entries (keys_in now)) here ∙ ap (λ (es : List Entry). records_applied cap place es (keys_in now)) are;
    }

pub more_applied : (cap place : ℕ) (entries : List Entry) (made : Keys) (done : ℕ) (before now : Contents) (entry : Entry) (outcome : Outcome) → done < length entries → entry ≡ get_or entries done entry → entry.place ≡ place + done
    → IsAppliedTo cap place entries made done before → IsApplied outcome before now (update_applied before.cap entry.place entry.stamp entry.update (keys_in before)) → IsAppliedTo cap place entries made (done + 1) now
unfolding records_applied
more_applied cap place entries made done before now entry outcome within is placed so_far applied =
    let behind = drop (done + 1) entries in
    let here : drop done entries ≡ entry ∷ behind = drop_more entries done entry within ∙ ap (λ (e : Entry). e ∷ behind) (sym is) in
    let next : place + (done + 1) ≡ place + done + 1 = omega arith in
    let keys : keys_in now ≡ (update_applied cap (place + done) entry.stamp entry.update (keys_in before)).keys =
    applied.1
    ∙ ap (λ n. (update_applied n entry.place entry.stamp entry.update (keys_in before)).keys) so_far.same_cap
    ∙ ap (λ n. (update_applied cap n entry.stamp entry.update (keys_in before)).keys) placed in
    record {
      same_cap = applied.2 ∙ so_far.same_cap;
      rest = ap (λ n. records_applied cap n behind (keys_in now)) next
          ∙ ap (λ (k : Keys). records_applied cap (place + done + 1) behind k) keys
          ∙ ap (λ (es : List Entry). records_applied cap (place + done) es (keys_in before)) (sym here)
          ∙ so_far.rest;
    }

pub all_applied : (cap place : ℕ) (entries : List Entry) (made : Keys) (done : ℕ) (now : Contents) → length entries ≤ done → IsAppliedTo cap place entries made done now → keys_in now ≡ made
unfolding records_applied
all_applied cap place entries made done now all so_far = ap (λ (es : List Entry). records_applied cap (place + done) es (keys_in now)) (sym (drop_all done entries all)) ∙ so_far.rest
