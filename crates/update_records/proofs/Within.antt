-- The place of a fault is at most the end of the bytes.
use Rattle.std.proofs.Common.{◌≡◌, ℕ, zero, suc, ◌≤◌, Bool, true, false, cond, eqb, ltb, List, [], ◌∷◌, length, Option, Some, None, Result, Ok, Err, refl, ◌∙◌, arith}
use Rattle.wire_fields.specs.Reading.{Reading, bytes_at, number_at, times}
use Rattle.clus_names.specs.Parts.{parts_of}
use Rattle.clus_names.specs.Limits.{lacks_zero}
use Rattle.update_records.specs.declared.change.Change.TheVariants as change
use Rattle.update_records.specs.declared.update.Update.{Update}
use Rattle.update_records.specs.declared.update.Update.TheVariants.{Batch}
use Rattle.update_records.specs.declared.update_id.UpdateId.{UpdateId}
use Rattle.update_records.specs.Checked.{◌>>=◌, judged, field_at, between, anything, no_end, each_at, alone}
use Rattle.update_records.specs.Entry.{Entry}
use Rattle.update_records.specs.Spelling.{single}
use Rattle.update_records.specs.Grammar.{is_path_text, units_at, name_at, path_at, room_below, data_at, create_at, set_value_at, delete_value_at, delete_key_at, rest_at, body_at, change_at, batch_at, single_at, batch_end, kind_at, update_at, id_at, last_place, record_at, start, update_of, record_of}
use Rattle.update_records.proofs.Reach.{end_of, Goes, number_goes, bytes_goes, times_goes}

-- A value ends within the same bytes, and a fault lies within them.
unfoldable pub Within : {A : Type 0} → ℕ → Result (A × Reading) ℕ → Type 0
Within end (Ok x) = end_of x.1 ≡ end
Within end (Err place) = place ≤ end

-- A reader keeps within whatever bytes it is given.
abbrev Keeps : {A : Type 0} → (Reading → Result (A × Reading) ℕ) → Type 0
Keeps one = (end : ℕ) (s : Reading) → end_of s ≡ end → Within end (one s)

then : {A B : Type 0} (end : ℕ) (read : Result (A × Reading) ℕ) (next : A × Reading → Result (B × Reading) ℕ)
    → Within end read → ((x : A × Reading) → end_of x.1 ≡ end → Within end (next x)) → Within end (read >>= next)
unfolding Within
then end (Ok x) next h k = k x h
then end (Err place) next h k = h

gives : {A : Type 0} (end : ℕ) (x : A) (s : Reading) → end_of s ≡ end → Within end (Ok (x, s))
unfolding Within
gives end x s e = e

chosen : {A : Type 0} (end : ℕ) (test : Bool) (one other : Result (A × Reading) ℕ) → Within end one → Within end other → Within end (cond test one other)
chosen end true one other h k = h
chosen end false one other h k = k

field : {A : Type 0} (one : Reading → Option (A × Reading)) (obeys : A → Bool) (last end : ℕ) (s : Reading) → Goes one s → end_of s ≡ end → Within end (field_at one obeys last s)
unfolding Within
field {A} one obeys last end s goes e = by (one s) refl
  where
    by : (read : Option (A × Reading)) → one s ≡ read → Within end (judged obeys last s.place read)
    by None is = omega arith
    by (Some x) is =
        let behind : end_of x.1 ≡ end = goes x is ∙ e in
        chosen end (ltb last x.1.place) (Err s.place) (cond (obeys x.0) (Ok x) (Err s.place)) (omega arith) (chosen end (obeys x.0) (Ok x) (Err s.place) behind (omega arith))

number_field : (w : ℕ) (obeys : ℕ → Bool) (last end : ℕ) (s : Reading) → end_of s ≡ end → Within end (field_at (number_at w) obeys last s)
number_field w obeys last end s e = field (number_at w) obeys last end s (number_goes w s) e

units_keep : (low high : ℕ) (obeys : List ℕ → Bool) (last : ℕ) → Keeps (units_at low high obeys last)
unfolding units_at
units_keep low high obeys last end s e =
    then end (field_at (number_at 2) (between low high) last s) (λ count. field_at (times count.0 (number_at 2)) obeys last count.1) (number_field 2 (between low high) last end s e)
    (λ count f. field (times count.0 (number_at 2)) obeys last end count.1 (times_goes (number_at 2) (number_goes 2) count.0 count.1) f)

name_keeps : (last : ℕ) → Keeps (name_at last)
unfolding name_at
name_keeps last end s e = units_keep 0 1023 lacks_zero last end s e

path_keeps : (low high last : ℕ) → Keeps (path_at low high last)
unfolding path_at
path_keeps low high last end s e =
    then end (units_at low high is_path_text last s) (λ units. Ok (parts_of units.0, units.1)) (units_keep low high is_path_text last end s e) (λ units f. gives end (parts_of units.0) units.1 f)

data_keeps : (last : ℕ) → Keeps (data_at last)
unfolding data_at
data_keeps last end s e =
    then end (field_at (number_at 4) (between 0 49152) last s) (λ count. field_at (bytes_at count.0) anything last count.1) (number_field 4 (between 0 49152) last end s e)
    (λ count f. field (bytes_at count.0) anything last end count.1 (bytes_goes count.0 count.1) f)

create_keeps : (key : List (List ℕ)) (birth last : ℕ) → Keeps (create_at key birth last)
unfolding create_at
create_keeps key birth last end s e =
    then end (path_at 0 (room_below key) last s) (λ subkey. Ok (change.Create key birth subkey.0, subkey.1)) (path_keeps 0 (room_below key) last end s e)
    (λ subkey f. gives end (change.Create key birth subkey.0) subkey.1 f)

delete_key_keeps : (key : List (List ℕ)) (birth last : ℕ) → Keeps (delete_key_at key birth last)
unfolding delete_key_at
delete_key_keeps key birth last end s e =
    then end (path_at 1 (room_below key) last s) (λ subkey. Ok (change.DeleteKey key birth subkey.0, subkey.1)) (path_keeps 1 (room_below key) last end s e)
    (λ subkey f. gives end (change.DeleteKey key birth subkey.0) subkey.1 f)

delete_value_keeps : (key : List (List ℕ)) (birth last : ℕ) → Keeps (delete_value_at key birth last)
unfolding delete_value_at
delete_value_keeps key birth last end s e =
    then end (name_at last s) (λ name. Ok (change.DeleteValue key birth name.0, name.1)) (name_keeps last end s e)
    (λ name f. gives end (change.DeleteValue key birth name.0) name.1 f)

set_value_keeps : (key : List (List ℕ)) (birth last : ℕ) → Keeps (set_value_at key birth last)
unfolding set_value_at
set_value_keeps key birth last end s e =
    then end (name_at last s) (λ name. field_at (number_at 4) anything last name.1 >>= λ kind. data_at last kind.1 >>= λ bytes. Ok (change.SetValue key birth name.0 kind.0 bytes.0, bytes.1)) (name_keeps last end s e)
    (λ name f.
    then end (field_at (number_at 4) anything last name.1) (λ kind. data_at last kind.1 >>= λ bytes. Ok (change.SetValue key birth name.0 kind.0 bytes.0, bytes.1)) (number_field 4 anything last end name.1 f)
    (λ kind g.
    then end (data_at last kind.1) (λ bytes. Ok (change.SetValue key birth name.0 kind.0 bytes.0, bytes.1)) (data_keeps last end kind.1 g)
    (λ bytes h. gives end (change.SetValue key birth name.0 kind.0 bytes.0) bytes.1 h)))

rest_keeps : (kind : ℕ) (key : List (List ℕ)) (birth last : ℕ) → Keeps (rest_at kind key birth last)
unfolding rest_at
rest_keeps kind key birth last end s e =
    chosen end (eqb kind 1) (create_at key birth last s) (cond (eqb kind 2) (set_value_at key birth last s) (cond (eqb kind 3) (delete_value_at key birth last s) (delete_key_at key birth last s))) (create_keeps key birth last end s e)
    (chosen end (eqb kind 2) (set_value_at key birth last s) (cond (eqb kind 3) (delete_value_at key birth last s) (delete_key_at key birth last s)) (set_value_keeps key birth last end s e)
    (chosen end (eqb kind 3) (delete_value_at key birth last s) (delete_key_at key birth last s) (delete_value_keeps key birth last end s e) (delete_key_keeps key birth last end s e)))

body_keeps : (kind last : ℕ) → Keeps (body_at kind last)
unfolding body_at
body_keeps kind last end s e =
    then end (path_at 0 1023 last s) (λ key. field_at (number_at 8) anything last key.1 >>= λ birth. rest_at kind key.0 birth.0 last birth.1) (path_keeps 0 1023 last end s e)
    (λ key f.
    then end (field_at (number_at 8) anything last key.1) (λ birth. rest_at kind key.0 birth.0 last birth.1) (number_field 8 anything last end key.1 f)
    (λ birth g. rest_keeps kind key.0 birth.0 last end birth.1 g))

change_keeps : (last : ℕ) → Keeps (change_at last)
unfolding change_at
change_keeps last end s e =
    then end (field_at (number_at 1) (between 1 4) last s) (λ kind. body_at kind.0 last kind.1) (number_field 1 (between 1 4) last end s e)
    (λ kind f. body_keeps kind.0 last end kind.1 f)

changes_keep : (count last : ℕ) → Keeps (each_at count (change_at last))
unfolding each_at
changes_keep zero last end s e = gives end [] s e
changes_keep (suc count) last end s e =
    then end (change_at last s) (λ first. each_at count (change_at last) first.1 >>= λ others. Ok (first.0 ∷ others.0, others.1)) (change_keeps last end s e)
    (λ first f.
    then end (each_at count (change_at last) first.1) (λ others. Ok (first.0 ∷ others.0, others.1)) (changes_keep count last end first.1 f)
    (λ others g. gives end (first.0 ∷ others.0) others.1 g))

batch_keeps : (last : ℕ) → Keeps (batch_at last)
unfolding batch_at
batch_keeps last end s e =
    then end (field_at (number_at 2) (between 1 64) last s) (λ count. each_at count.0 (change_at last) count.1 >>= λ changes. Ok (Batch changes.0, changes.1)) (number_field 2 (between 1 64) last end s e)
    (λ count f.
    then end (each_at count.0 (change_at last) count.1) (λ changes. Ok (Batch changes.0, changes.1)) (changes_keep count.0 last end count.1 f)
    (λ changes g. gives end (Batch changes.0) changes.1 g))

single_keeps : (kind : ℕ) → Keeps (single_at kind)
unfolding single_at
single_keeps kind end s e =
    then end (body_at kind no_end s) (λ c. Ok (single c.0, c.1)) (body_keeps kind no_end end s e) (λ c f. gives end (single c.0) c.1 f)

update_keeps : Keeps update_at
unfolding update_at
update_keeps end s e =
    then end (field_at (number_at 1) (between 1 5) no_end s) (λ kind. kind_at s.place kind.0 kind.1) (number_field 1 (between 1 5) no_end end s e)
    (λ kind f. chosen end (eqb kind.0 5) (batch_at (batch_end s.place) kind.1) (single_at kind.0 kind.1) (batch_keeps (batch_end s.place) end kind.1 f) (single_keeps kind.0 end kind.1 f))

abbrev id_made : ℕ → ℕ → ℕ → UpdateId
id_made node inc req = record { node = node; inc = inc; req = req }

id_keeps : Keeps id_at
unfolding id_at
id_keeps end s e =
    then end (field_at (number_at 2) (between 1 16) no_end s) (λ node. field_at (number_at 8) (between 1 no_end) no_end node.1 >>= λ inc. field_at (number_at 8) (between 1 no_end) no_end inc.1 >>= λ req. Ok (id_made node.0 inc.0 req.0, req.1)) (number_field 2 (between 1 16) no_end end s e)
    (λ node f.
    then end (field_at (number_at 8) (between 1 no_end) no_end node.1) (λ inc. field_at (number_at 8) (between 1 no_end) no_end inc.1 >>= λ req. Ok (id_made node.0 inc.0 req.0, req.1)) (number_field 8 (between 1 no_end) no_end end node.1 f)
    (λ inc g.
    then end (field_at (number_at 8) (between 1 no_end) no_end inc.1) (λ req. Ok (id_made node.0 inc.0 req.0, req.1)) (number_field 8 (between 1 no_end) no_end end inc.1 g)
    (λ req h. gives end (id_made node.0 inc.0 req.0) req.1 h)))

abbrev entry_made : ℕ → ℕ → UpdateId → Update → Entry
entry_made place stamp id update = record { place = place; stamp = stamp; id = id; update = update }

record_keeps : Keeps record_at
unfolding record_at
record_keeps end s e =
    then end (field_at (number_at 8) (between 1 last_place) no_end s) (λ place. field_at (number_at 8) anything no_end place.1 >>= λ stamp. id_at stamp.1 >>= λ id. update_at id.1 >>= λ update. Ok (entry_made place.0 stamp.0 id.0 update.0, update.1)) (number_field 8 (between 1 last_place) no_end end s e)
    (λ place f.
    then end (field_at (number_at 8) anything no_end place.1) (λ stamp. id_at stamp.1 >>= λ id. update_at id.1 >>= λ update. Ok (entry_made place.0 stamp.0 id.0 update.0, update.1)) (number_field 8 anything no_end end place.1 f)
    (λ stamp g.
    then end (id_at stamp.1) (λ id. update_at id.1 >>= λ update. Ok (entry_made place.0 stamp.0 id.0 update.0, update.1)) (id_keeps end stamp.1 g)
    (λ id h.
    then end (update_at id.1) (λ update. Ok (entry_made place.0 stamp.0 id.0 update.0, update.1)) (update_keeps end id.1 h)
    (λ update k. gives end (entry_made place.0 stamp.0 id.0 update.0) update.1 k))))

-- ---- all of the bytes

ends_within : {A : Type 0} (end : ℕ) (read : Result (A × Reading) ℕ) (place : ℕ) → Within end read → (read >>= alone) ≡ Err place → place ≤ end
unfolding Within
ends_within {A} end (Ok x) place h e = by (eqb (length x.1.left) 0) e
  where
    by : (b : Bool) → cond {A = Result A ℕ} b (Ok x.0) (Err x.1.place) ≡ Err place → place ≤ end
    by true e = absurd cc
    by false e = (let same : x.1.place ≡ place = cc in omega arith)
ends_within end (Err at) place h e = (let same : at ≡ place = cc in omega arith)

pub record_within : (bytes : List ℕ) (place : ℕ) → record_of bytes ≡ Err place → place ≤ length bytes
unfolding record_of
record_within bytes place e = ends_within (length bytes) (record_at (start bytes)) place (record_keeps (length bytes) (start bytes) (omega arith)) e

pub update_within : (bytes : List ℕ) (place : ℕ) → update_of bytes ≡ Err place → place ≤ length bytes
unfolding update_of
update_within bytes place e = ends_within (length bytes) (update_at (start bytes)) place (update_keeps (length bytes) (start bytes) (omega arith)) e
