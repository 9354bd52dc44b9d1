-- An update or a record that is read is spelled so, and one that is spelled so is read.
use Rattle.std.proofs.Common.{◌≡◌, ℕ, ◌+◌, ◌≤◌, Bool, true, false, cond, eqb, List, [], ◌++◌, length, Result, Ok, Err, refl, sym, ap, ◌∙◌, subst, append_assoc, length-append, arith}
use Rattle.std.specs.List.{flat_map}
use Rattle.std.proofs.lemmas.Bool.{eqb-true}
use Rattle.std.proofs.lemmas.List.{append-nil, nil_from_length}
use Rattle.std.proofs.lemmas.Bool.Decides.{nat_tests}
use Rattle.wire_fields.specs.declared.endian.Endian.TheVariants.{Little}
use Rattle.wire_fields.specs.Numbers.{IsBytes, num}
use Rattle.wire_fields.specs.Reading.{Reading, number_at}
use Rattle.wire_fields.proofs.NumberLaws.{length-num}
use Rattle.wire_fields.proofs.FieldLaws.{at, Took, took_then}
use Rattle.clus_names.specs.Parts.{text_of}
use Rattle.update_records.specs.declared.change.Change.{Change}
use Rattle.update_records.specs.declared.change.Change.TheVariants as change
use Rattle.update_records.specs.declared.update.Update.{Update}
use Rattle.update_records.specs.declared.update.Update.TheVariants.{Create, SetValue, DeleteValue, DeleteKey, Batch}
use Rattle.update_records.specs.Checked.{◌>>=◌, field_at, anything, between, each_at, no_end, alone}
use Rattle.update_records.specs.Spelling.{change_text, update_text, single}
use Rattle.update_records.specs.Validity.{IsValid}
use Rattle.update_records.specs.Limits.{IsChange, IsUpdate}
use Rattle.std.specs.Prelude.{IfOk}
use Rattle.update_records.specs.declared.fault.RecordFault.{RecordFault}
use Rattle.update_records.specs.Outcomes.{Decodes}
use Rattle.update_records.specs.declared.update_id.UpdateId.{UpdateId}
use Rattle.update_records.specs.Entry.{Entry, IsPlaced, IsId, IsRecord, IsNoBatch, IsFirst, id_text, record_text, first_text}
use Rattle.update_records.specs.Grammar.{body_at, change_at, batch_at, single_at, kind_at, update_at, batch_end, start, update_of, id_at, last_place, record_at, record_of, first_record_at, first_record_of}
use Rattle.update_records.proofs.Fields.{bind_ok, ok_is, IsInput, any_found, any_read, bounded_found, bounded_read, length-name_text, length-data_text}
use Rattle.update_records.proofs.ChangeLaws.{FoundChange, body_found, change_found, changes_found, body_text, kind_of, kinds, change_parts, length-change_text, length-body_text, length-value_text, body_read, change_read, changes_read}

pub record FoundUpdate (s : Reading) (u : Update) (t : Reading) : Type 0 where
  pub took : Took s (update_text u) t
  pub input : IsInput t
  pub is_update : IsUpdate u

abbrev IsFound : Reading → Update × Reading → Type 0
IsFound s x = FoundUpdate s x.0 x.1

single_text : (c : Change) → update_text (single c) ≡ change_text c
single_text (change.Create key birth subkey) = refl
single_text (change.SetValue key birth name kind bytes) = refl
single_text (change.DeleteValue key birth name) = refl
single_text (change.DeleteKey key birth subkey) = refl

single_is : (c : Change) → IsChange c → IsUpdate (single c)
single_is (change.Create key birth subkey) h = h
single_is (change.SetValue key birth name kind bytes) h = h
single_is (change.DeleteValue key birth name) h = h
single_is (change.DeleteKey key birth subkey) h = h

single_no_batch : (c : Change) → IsNoBatch (single c)
single_no_batch (change.Create key birth subkey) = tt
single_no_batch (change.SetValue key birth name kind bytes) = tt
single_no_batch (change.DeleteValue key birth name) = tt
single_no_batch (change.DeleteKey key birth subkey) = tt

pub is_valid : (u : Update) → IsUpdate u → IsValid u
is_valid (Batch changes) h = h.valid
is_valid (Create key birth subkey) h = h.valid
is_valid (SetValue key birth name kind bytes) h = h.valid
is_valid (DeleteValue key birth name) h = h.valid
is_valid (DeleteKey key birth subkey) h = h.valid

single_found : (end : ℕ) (s : Reading) (c : Change) (t : Reading) → FoundChange end s c t → FoundUpdate s (single c) t
single_found end s c t f = record { took = subst (λ x. Took s x t) (sym (single_text c)) f.took; input = f.input; is_update = single_is c f.is_change }

batch_found : (s t : Reading) (x : Update × Reading) → Took s (num Little 1 5) t → IsInput t → batch_at (batch_end s.place) t ≡ Ok x → IsFound s x
unfolding batch_at
batch_found s t x kinded input e =
    let end = batch_end s.place in
    let a = bind_ok (field_at (number_at 2) (between 1 64) end t) (λ count. each_at count.0 (change_at end) count.1 >>= λ cs. Ok (Batch cs.0, cs.1)) x e in
    let b = bind_ok (each_at a.0.0 (change_at end) a.0.1) (λ cs. Ok (Batch cs.0, cs.1)) x a.2 in
    let f = bounded_found 2 1 64 end t a.0.0 a.0.1 input a.1 in
    let g = changes_found a.0.0 end a.0.1 b.0 f.input f.within b.1 in
    let counted : a.0.0 ≡ length b.0.0 = sym g.many in
    let counting : Took t (num Little 2 (length b.0.0)) a.0.1 = subst (λ n. Took t (num Little 2 n) a.0.1) counted f.took in
    let begun = took_then s t a.0.1 (num Little 1 5) (num Little 2 (length b.0.0)) kinded counting in
    let took = took_then s a.0.1 b.0.1 (num Little 1 5 ++ num Little 2 (length b.0.0)) (flat_map change_text b.0.0) begun g.took in
    let short : length (update_text (Batch b.0.0)) ≤ 57310 = omega (arith, took.further, g.within) in
    let whole : FoundUpdate s (Batch b.0.0) b.0.1 = record {
      took = took;
      input = g.input;
      is_update = record {
        valid = record { some = omega (arith, f.least, counted); few = omega (arith, f.most, counted); each = (λ k d l. (g.each k d l).valid); short = short };
        each = g.each;
      };
    } in
    subst (λ (y : Update × Reading). IsFound s y) (ok_is (Batch b.0.0, b.0.1) x b.2) whole

kind_found : (kind : ℕ) (s t : Reading) (x : Update × Reading) → 1 ≤ kind → kind ≤ 5 → Took s (num Little 1 kind) t → IsInput t → kind_at s.place kind t ≡ Ok x → IsFound s x
unfolding single_at
kind_found kind s t x least most kinded input e = by (eqb kind 5) refl e
  where
    by : (b : Bool) → eqb kind 5 ≡ b → cond {A = Result (Update × Reading) ℕ} b (batch_at (batch_end s.place) t) (single_at kind t) ≡ Ok x → IsFound s x
    by true is e =
        let five : kind ≡ 5 = grind (arith, nat_tests) in
        batch_found s t x (subst (λ k. Took s (num Little 1 k) t) five kinded) input e
    by false is e =
        let below : kind ≤ 4 = grind (arith, nat_tests) in
        let a = bind_ok (body_at kind no_end t) (λ c. Ok (single c.0, c.1)) x e in
        let f = body_found kind no_end s t a.0 least below kinded input a.1 in
        subst (λ (y : Update × Reading). IsFound s y) (ok_is (single a.0.0, a.0.1) x a.2) (single_found no_end s a.0.0 a.0.1 f)

pub update_found : (s : Reading) (x : Update × Reading) → IsInput s → update_at s ≡ Ok x → IsFound s x
unfolding update_at
update_found s x input e =
    let a = bind_ok (field_at (number_at 1) (between 1 5) no_end s) (λ kind. kind_at s.place kind.0 kind.1) x e in
    let f = bounded_found 1 1 5 no_end s a.0.0 a.0.1 input a.1 in
    kind_found a.0.0 s a.0.1 x f.least f.most f.took f.input a.2

-- ---- read again

batch_read : (cs : List Change) (end place : ℕ) (rest : List ℕ) → IsUpdate (Batch cs) → place + length (num Little 2 (length cs) ++ flat_map change_text cs) ≤ end
    → batch_at end (at Little place ((num Little 2 (length cs) ++ flat_map change_text cs) ++ rest)) ≡ Ok (Batch cs, at Little (place + length (num Little 2 (length cs) ++ flat_map change_text cs)) rest)
unfolding batch_at
batch_read cs end place rest h room =
    let long : length (num Little 2 (length cs) ++ flat_map change_text cs) ≡ 2 + length (flat_map change_text cs) = omega (arith, length-append (num Little 2 (length cs)) (flat_map change_text cs), length-num Little 2 (length cs)) in
    let split : (num Little 2 (length cs) ++ flat_map change_text cs) ++ rest ≡ num Little 2 (length cs) ++ (flat_map change_text cs ++ rest) = append_assoc (num Little 2 (length cs)) (flat_map change_text cs) rest in
    let counted = bounded_read 2 1 64 end place (length cs) (flat_map change_text cs ++ rest) (omega (arith, h.valid.few)) h.valid.some h.valid.few (omega arith) in
    let listed = changes_read cs end (place + 2) rest h.each (omega arith) in
    rw (split, counted, listed) (ap (λ p. Ok (Batch cs, at Little p rest)) (omega arith))

single_read : (c : Change) (place : ℕ) (rest : List ℕ) → IsChange c → place + length (body_text c) ≤ no_end
    → single_at (kind_of c) (at Little place (body_text c ++ rest)) ≡ Ok (single c, at Little (place + length (body_text c)) rest)
unfolding single_at
single_read c place rest h room = rw (body_read c no_end place rest h room) refl

not_batch : (c : Change) → eqb (kind_of c) 5 ≡ false
not_batch (change.Create key birth subkey) = refl
not_batch (change.SetValue key birth name kind bytes) = refl
not_batch (change.DeleteValue key birth name) = refl
not_batch (change.DeleteKey key birth subkey) = refl

change_update : (c : Change) (place : ℕ) (rest : List ℕ) → IsChange c → place + length (change_text c) ≤ no_end
    → update_at (at Little place (change_text c ++ rest)) ≡ Ok (single c, at Little (place + length (change_text c)) rest)
unfolding update_at
change_update c place rest h room =
    let long = length-change_text c in
    let range = kinds c in
    let split : change_text c ++ rest ≡ num Little 1 (kind_of c) ++ (body_text c ++ rest) = ap (λ t. t ++ rest) (change_parts c) ∙ append_assoc (num Little 1 (kind_of c)) (body_text c) rest in
    let kinded = bounded_read 1 1 5 no_end place (kind_of c) (body_text c ++ rest) (omega (arith, range.1)) range.0 (omega (arith, range.1)) (omega arith) in
    let filled = single_read c (place + 1) rest h (omega arith) in
    rw (split, kinded, not_batch c, filled) (ap (λ p. Ok (single c, at Little p rest)) (omega arith))

batch_update : (cs : List Change) (place : ℕ) (rest : List ℕ) → IsUpdate (Batch cs) → place + length (update_text (Batch cs)) ≤ no_end
    → update_at (at Little place (update_text (Batch cs) ++ rest)) ≡ Ok (Batch cs, at Little (place + length (update_text (Batch cs))) rest)
unfolding update_at
batch_update cs place rest h room =
    let tail = num Little 2 (length cs) ++ flat_map change_text cs in
    let parts : update_text (Batch cs) ≡ num Little 1 5 ++ tail = append_assoc (num Little 1 5) (num Little 2 (length cs)) (flat_map change_text cs) in
    let long : length (update_text (Batch cs)) ≡ 1 + length tail = ap (λ t. length t) parts ∙ omega (arith, length-append (num Little 1 5) tail, length-num Little 1 5) in
    let split : update_text (Batch cs) ++ rest ≡ num Little 1 5 ++ (tail ++ rest) = ap (λ t. t ++ rest) parts ∙ append_assoc (num Little 1 5) tail rest in
    let kinded = bounded_read 1 1 5 no_end place 5 (tail ++ rest) (omega arith) (omega arith) (omega arith) (omega arith) in
    let filled = batch_read cs (batch_end place) (place + 1) rest h (omega (arith, h.valid.short)) in
    rw (split, kinded, filled) (ap (λ p. Ok (Batch cs, at Little p rest)) (omega arith))

pub update_read : (u : Update) (place : ℕ) (rest : List ℕ) → IsUpdate u → place + length (update_text u) ≤ no_end
    → update_at (at Little place (update_text u ++ rest)) ≡ Ok (u, at Little (place + length (update_text u)) rest)
update_read (Batch cs) place rest h room = batch_update cs place rest h room
update_read (Create key birth subkey) place rest h room = change_update (change.Create key birth subkey) place rest h room
update_read (SetValue key birth name kind bytes) place rest h room = change_update (change.SetValue key birth name kind bytes) place rest h room
update_read (DeleteValue key birth name) place rest h room = change_update (change.DeleteValue key birth name) place rest h room
update_read (DeleteKey key birth subkey) place rest h room = change_update (change.DeleteKey key birth subkey) place rest h room

-- ---- all of the bytes

abbrev alone_of : {A : Type 0} → Bool → A × Reading → Result A ℕ
alone_of ended x = cond ended (Ok x.0) (Err x.1.place)

pub alone_found : {A : Type 0} (x : A × Reading) (y : A) → alone x ≡ Ok y → (x.1.left ≡ []) × (x.0 ≡ y)
alone_found {A} x y e = by (eqb (length x.1.left) 0) refl e
  where
    by : (b : Bool) → eqb (length x.1.left) 0 ≡ b → alone_of b x ≡ Ok y → (x.1.left ≡ []) × (x.0 ≡ y)
    by true is e = (nil_from_length x.1.left (eqb-true _ _ is), cc)
    by false is e = absurd cc

pub started : (bytes : List ℕ) → IsBytes bytes → IsInput (start bytes)
started bytes h = record { bytes = h; order = refl }

pub all_taken : (bytes text : List ℕ) (t : Reading) → Took (start bytes) text t → t.left ≡ [] → bytes ≡ text
all_taken bytes text t took nothing = took.parts ∙ ap (λ l. text ++ l) nothing ∙ append-nil text

abbrev IsUpdateOf : List ℕ → Update → Type 0
IsUpdateOf bytes u = IsUpdate u × (bytes ≡ update_text u)

pub whole_update_found : (bytes : List ℕ) (u : Update) → IsBytes bytes → update_of bytes ≡ Ok u → IsUpdate u × (bytes ≡ update_text u)
unfolding update_of
whole_update_found bytes u h e =
    let a = bind_ok (update_at (start bytes)) alone u e in
    let f = update_found (start bytes) a.0 (started bytes h) a.1 in
    let last = alone_found a.0 u a.2 in
    subst (λ (v : Update). IsUpdateOf bytes v) last.1 (f.is_update, all_taken bytes (update_text a.0.0) a.0.1 f.took last.0)

ended : {A : Type 0} (x : A) (place : ℕ) → alone (x, at Little place []) ≡ Ok x
ended x place = refl

change_short : (c : Change) → IsChange c → length (change_text c) ≤ 57310
change_short (change.Create key birth subkey) h = omega (arith, length-change_text (change.Create key birth subkey), length-body_text (change.Create key birth subkey), length-name_text (text_of key), length-name_text (text_of subkey), h.fields.0.path.short, h.fields.1.short)
change_short (change.SetValue key birth name kind bytes) h = omega (arith, length-change_text (change.SetValue key birth name kind bytes), length-body_text (change.SetValue key birth name kind bytes), length-value_text name kind bytes, length-name_text (text_of key), length-name_text name, length-data_text bytes, h.fields.0.path.short, h.fields.1.short, h.valid)
change_short (change.DeleteValue key birth name) h = omega (arith, length-change_text (change.DeleteValue key birth name), length-body_text (change.DeleteValue key birth name), length-name_text (text_of key), length-name_text name, h.fields.0.path.short, h.fields.1.short)
change_short (change.DeleteKey key birth subkey) h = omega (arith, length-change_text (change.DeleteKey key birth subkey), length-body_text (change.DeleteKey key birth subkey), length-name_text (text_of key), length-name_text (text_of subkey), h.fields.0.path.short, h.fields.1.short)

-- The longest update is a batch.
pub update_short : (u : Update) → IsUpdate u → length (update_text u) ≤ 57310
update_short (Batch cs) h = h.valid.short
update_short (Create key birth subkey) h = change_short (change.Create key birth subkey) h
update_short (SetValue key birth name kind bytes) h = change_short (change.SetValue key birth name kind bytes) h
update_short (DeleteValue key birth name) h = change_short (change.DeleteValue key birth name) h
update_short (DeleteKey key birth subkey) h = change_short (change.DeleteKey key birth subkey) h

pub whole_update_read : (u : Update) → IsUpdate u → update_of (update_text u) ≡ Ok u
unfolding update_of
whole_update_read u h =
    let read : update_at (start (update_text u)) ≡ Ok (u, at Little (0 + length (update_text u)) []) = subst (λ l. update_at (at Little 0 l) ≡ Ok (u, at Little (0 + length (update_text u)) [])) (append-nil (update_text u)) (update_read u 0 [] h (omega (arith, update_short u h))) in
    rw read refl

pub update_is_found : (bytes : List ℕ) (result : Result Update RecordFault) → IsBytes bytes → Decodes result (update_of bytes) → IfOk result (λ update. IsUpdate update × (bytes ≡ update_text update))
update_is_found bytes (Ok u) h read = whole_update_found bytes u h read
update_is_found bytes (Err fault) h read = tt

pub update_is_valid : (bytes : List ℕ) (result : Result Update RecordFault) → IsBytes bytes → Decodes result (update_of bytes) → IfOk result IsValid
update_is_valid bytes (Ok u) h read = is_valid u (whole_update_found bytes u h read).0
update_is_valid bytes (Err fault) h read = tt

-- ---- records

pub record FoundId (s : Reading) (id : UpdateId) (t : Reading) : Type 0 where
  pub took : Took s (id_text id) t
  pub input : IsInput t
  pub is_id : IsId id

id_found : (s : Reading) (x : UpdateId × Reading) → IsInput s → id_at s ≡ Ok x → FoundId s x.0 x.1
unfolding id_at id_text
id_found s x input e =
    let a = bind_ok (field_at (number_at 2) (between 1 16) no_end s) (λ node. field_at (number_at 8) (between 1 no_end) no_end node.1 >>= λ inc. field_at (number_at 8) (between 1 no_end) no_end inc.1 >>= λ req. Ok (record { node = node.0; inc = inc.0; req = req.0 }, req.1)) x e in
    let b = bind_ok (field_at (number_at 8) (between 1 no_end) no_end a.0.1) (λ inc. field_at (number_at 8) (between 1 no_end) no_end inc.1 >>= λ req. Ok (record { node = a.0.0; inc = inc.0; req = req.0 }, req.1)) x a.2 in
    let c = bind_ok (field_at (number_at 8) (between 1 no_end) no_end b.0.1) (λ req. Ok (record { node = a.0.0; inc = b.0.0; req = req.0 }, req.1)) x b.2 in
    let f = bounded_found 2 1 16 no_end s a.0.0 a.0.1 input a.1 in
    let g = bounded_found 8 1 no_end no_end a.0.1 b.0.0 b.0.1 f.input b.1 in
    let h = bounded_found 8 1 no_end no_end b.0.1 c.0.0 c.0.1 g.input c.1 in
    let id : UpdateId = record { node = a.0.0; inc = b.0.0; req = c.0.0 } in
    let two = took_then s a.0.1 b.0.1 (num Little 2 a.0.0) (num Little 8 b.0.0) f.took g.took in
    let whole : FoundId s id c.0.1 = record {
      took = took_then s b.0.1 c.0.1 (num Little 2 a.0.0 ++ num Little 8 b.0.0) (num Little 8 c.0.0) two h.took;
      input = h.input;
      is_id = record { node = f.least; last_node = f.most; inc = g.least; last_inc = omega (arith, g.most); req = h.least; last_req = omega (arith, h.most) };
    } in
    subst (λ (y : UpdateId × Reading). FoundId s y.0 y.1) (ok_is (id, c.0.1) x c.2) whole

pub record FoundRecord (text : Entry → List ℕ) (s : Reading) (entry : Entry) (t : Reading) : Type 0 where
  pub took : Took s (text entry) t
  pub is_record : IsRecord entry

pub record_found : (s : Reading) (x : Entry × Reading) → IsInput s → record_at s ≡ Ok x → FoundRecord record_text s x.0 x.1
unfolding record_at record_text
record_found s x input e =
    let a = bind_ok (field_at (number_at 8) (between 1 last_place) no_end s) (λ place. field_at (number_at 8) anything no_end place.1 >>= λ stamp. id_at stamp.1 >>= λ id. update_at id.1 >>= λ update. Ok (record { place = place.0; stamp = stamp.0; id = id.0; update = update.0 }, update.1)) x e in
    let b = bind_ok (field_at (number_at 8) anything no_end a.0.1) (λ stamp. id_at stamp.1 >>= λ id. update_at id.1 >>= λ update. Ok (record { place = a.0.0; stamp = stamp.0; id = id.0; update = update.0 }, update.1)) x a.2 in
    let c = bind_ok (id_at b.0.1) (λ id. update_at id.1 >>= λ update. Ok (record { place = a.0.0; stamp = b.0.0; id = id.0; update = update.0 }, update.1)) x b.2 in
    let d = bind_ok (update_at c.0.1) (λ update. Ok (record { place = a.0.0; stamp = b.0.0; id = c.0.0; update = update.0 }, update.1)) x c.2 in
    let f = bounded_found 8 1 last_place no_end s a.0.0 a.0.1 input a.1 in
    let g = any_found 8 no_end a.0.1 b.0.0 b.0.1 f.input b.1 in
    let h = id_found b.0.1 c.0 g.input c.1 in
    let u = update_found c.0.1 d.0 h.input d.1 in
    let entry : Entry = record { place = a.0.0; stamp = b.0.0; id = c.0.0; update = d.0.0 } in
    let two = took_then s a.0.1 b.0.1 (num Little 8 a.0.0) (num Little 8 b.0.0) f.took g.took in
    let three = took_then s b.0.1 c.0.1 (num Little 8 a.0.0 ++ num Little 8 b.0.0) (id_text c.0.0) two h.took in
    let whole : FoundRecord record_text s entry d.0.1 = record {
      took = took_then s c.0.1 d.0.1 (num Little 8 a.0.0 ++ num Little 8 b.0.0 ++ id_text c.0.0) (update_text d.0.0) three u.took;
      is_record = record {
        placed = record { first = f.least; last = omega (arith, f.most); valid = is_valid d.0.0 u.is_update };
        stamp = omega (arith, g.small);
        id = h.is_id;
        update = u.is_update;
      };
    } in
    subst (λ (y : Entry × Reading). FoundRecord record_text s y.0 y.1) (ok_is (entry, d.0.1) x d.2) whole

pub first_found : (s : Reading) (x : Entry × Reading) → IsInput s → first_record_at s ≡ Ok x → FoundRecord first_text s x.0 x.1 × IsFirst x.0
unfolding first_record_at first_text
first_found s x input e =
    let a = bind_ok (field_at (number_at 8) (between 1 last_place) no_end s) (λ place. id_at place.1 >>= λ id. change_at no_end id.1 >>= λ update. Ok (record { place = place.0; stamp = 0; id = id.0; update = single update.0 }, update.1)) x e in
    let c = bind_ok (id_at a.0.1) (λ id. change_at no_end id.1 >>= λ update. Ok (record { place = a.0.0; stamp = 0; id = id.0; update = single update.0 }, update.1)) x a.2 in
    let d = bind_ok (change_at no_end c.0.1) (λ update. Ok (record { place = a.0.0; stamp = 0; id = c.0.0; update = single update.0 }, update.1)) x c.2 in
    let f = bounded_found 8 1 last_place no_end s a.0.0 a.0.1 input a.1 in
    let h = id_found a.0.1 c.0 f.input c.1 in
    let u = single_found no_end c.0.1 d.0.0 d.0.1 (change_found no_end c.0.1 d.0 h.input d.1) in
    let entry : Entry = record { place = a.0.0; stamp = 0; id = c.0.0; update = single d.0.0 } in
    let two = took_then s a.0.1 c.0.1 (num Little 8 a.0.0) (id_text c.0.0) f.took h.took in
    let whole : FoundRecord first_text s entry d.0.1 × IsFirst entry = (
      record {
        took = took_then s c.0.1 d.0.1 (num Little 8 a.0.0 ++ id_text c.0.0) (update_text (single d.0.0)) two u.took;
        is_record = record {
          placed = record { first = f.least; last = omega (arith, f.most); valid = is_valid (single d.0.0) u.is_update };
          stamp = omega arith;
          id = h.is_id;
          update = u.is_update;
        };
      },
      record { no_stamp = refl; no_batch = single_no_batch d.0.0 },
    ) in
    subst (λ (y : Entry × Reading). FoundRecord first_text s y.0 y.1 × IsFirst y.0) (ok_is (entry, d.0.1) x d.2) whole

length-id_text : (id : UpdateId) → length (id_text id) ≡ 18
unfolding id_text
length-id_text id = omega (arith, length-append (num Little 2 id.node ++ num Little 8 id.inc) (num Little 8 id.req), length-append (num Little 2 id.node) (num Little 8 id.inc), length-num Little 2 id.node, length-num Little 8 id.inc, length-num Little 8 id.req)

id_read : (id : UpdateId) (place : ℕ) (rest : List ℕ) → IsId id → place + 18 ≤ no_end → id_at (at Little place (id_text id ++ rest)) ≡ Ok (id, at Little (place + 18) rest)
unfolding id_at id_text
id_read id place rest h room =
    let split : (num Little 2 id.node ++ num Little 8 id.inc ++ num Little 8 id.req) ++ rest ≡ num Little 2 id.node ++ (num Little 8 id.inc ++ (num Little 8 id.req ++ rest)) = simp append_assoc in
    let node = bounded_read 2 1 16 no_end place id.node (num Little 8 id.inc ++ (num Little 8 id.req ++ rest)) (omega (arith, h.last_node)) h.node h.last_node (omega arith) in
    let inc = bounded_read 8 1 no_end no_end (place + 2) id.inc (num Little 8 id.req ++ rest) (omega (arith, h.last_inc)) h.inc (omega (arith, h.last_inc)) (omega arith) in
    let req = bounded_read 8 1 no_end no_end (place + 2 + 8) id.req rest (omega (arith, h.last_req)) h.req (omega (arith, h.last_req)) (omega arith) in
    rw (split, node, inc, req) (ap (λ p. Ok (id, at Little p rest)) (omega arith))

-- The head of a record has 34 bytes, or 26 without the stamp.
pub record_short : (entry : Entry) → IsUpdate entry.update → length (record_text entry) ≤ 57344
unfolding record_text
record_short entry h =
    let front = num Little 8 entry.place ++ num Little 8 entry.stamp in
    omega (arith, length-append (front ++ id_text entry.id) (update_text entry.update), length-append front (id_text entry.id), length-append (num Little 8 entry.place) (num Little 8 entry.stamp), length-num Little 8 entry.place, length-num Little 8 entry.stamp, length-id_text entry.id, update_short entry.update h)

whole_at : {A : Type 0} (one : Reading → Result (A × Reading) ℕ) (x : A) (place : ℕ) (text : List ℕ) → one (start text) ≡ Ok (x, at Little place []) → (one (start text) >>= alone) ≡ Ok x
whole_at one x place text read = rw read refl

pub whole_record_read : (entry : Entry) → IsRecord entry → record_of (record_text entry) ≡ Ok entry
unfolding record_of record_at record_text
whole_record_read entry h =
    let short = update_short entry.update h.update in
    let update = update_text entry.update in
    let parts : num Little 8 entry.place ++ num Little 8 entry.stamp ++ id_text entry.id ++ update ≡ num Little 8 entry.place ++ (num Little 8 entry.stamp ++ (id_text entry.id ++ (update ++ []))) = simp (append_assoc, append-nil) in
    let place = bounded_read 8 1 last_place no_end 0 entry.place (num Little 8 entry.stamp ++ (id_text entry.id ++ (update ++ []))) (omega (arith, h.placed.last)) h.placed.first (omega (arith, h.placed.last)) (omega arith) in
    let stamp = any_read 8 no_end (0 + 8) entry.stamp (id_text entry.id ++ (update ++ [])) (omega (arith, h.stamp)) (omega arith) in
    let id = id_read entry.id (0 + 8 + 8) (update ++ []) h.id (omega arith) in
    let last = update_read entry.update (0 + 8 + 8 + 18) [] h.update (omega (arith, short)) in
    rw (parts, place, stamp, id, last) refl

first_update : (u : Update) (place : ℕ) (rest : List ℕ) → IsUpdate u → IsNoBatch u → place + length (update_text u) ≤ no_end → (c : Change) × (single c ≡ u) × (change_at no_end (at Little place (update_text u ++ rest)) ≡ Ok (c, at Little (place + length (update_text u)) rest))
first_update (Batch cs) place rest h kept room = absurd kept
first_update (Create key birth subkey) place rest h kept room = (change.Create key birth subkey, refl, change_read (change.Create key birth subkey) no_end place rest h room)
first_update (SetValue key birth name kind bytes) place rest h kept room = (change.SetValue key birth name kind bytes, refl, change_read (change.SetValue key birth name kind bytes) no_end place rest h room)
first_update (DeleteValue key birth name) place rest h kept room = (change.DeleteValue key birth name, refl, change_read (change.DeleteValue key birth name) no_end place rest h room)
first_update (DeleteKey key birth subkey) place rest h kept room = (change.DeleteKey key birth subkey, refl, change_read (change.DeleteKey key birth subkey) no_end place rest h room)

pub whole_first_read : (entry : Entry) → IsRecord entry → IsFirst entry → first_record_of (first_text entry) ≡ Ok entry
unfolding first_record_of first_record_at first_text
whole_first_read entry h k =
    let short = update_short entry.update h.update in
    let update = update_text entry.update in
    let parts : num Little 8 entry.place ++ id_text entry.id ++ update ≡ num Little 8 entry.place ++ (id_text entry.id ++ (update ++ [])) = simp (append_assoc, append-nil) in
    let place = bounded_read 8 1 last_place no_end 0 entry.place (id_text entry.id ++ (update ++ [])) (omega (arith, h.placed.last)) h.placed.first (omega (arith, h.placed.last)) (omega arith) in
    let id = id_read entry.id (0 + 8) (update ++ []) h.id (omega arith) in
    let last = first_update entry.update (0 + 8 + 18) [] h.update k.no_batch (omega (arith, short)) in
    let made : ℕ → Update → Entry = λ stamp u. record { place = entry.place; stamp = stamp; id = entry.id; update = u } in
    rw (parts, place, id, last.2) (ap (λ (e : Entry). Ok e) (ap (made 0) last.1 ∙ ap (λ stamp. made stamp entry.update) (sym k.no_stamp)))

pub whole_record_found : (bytes : List ℕ) (entry : Entry) → IsBytes bytes → record_of bytes ≡ Ok entry → IsRecord entry × (bytes ≡ record_text entry)
unfolding record_of
whole_record_found bytes entry h e =
    let a = bind_ok (record_at (start bytes)) alone entry e in
    let f = record_found (start bytes) a.0 (started bytes h) a.1 in
    let last = alone_found a.0 entry a.2 in
    subst (λ (v : Entry). IsRecord v × (bytes ≡ record_text v)) last.1 (f.is_record, all_taken bytes (record_text a.0.0) a.0.1 f.took last.0)

pub whole_first_found : (bytes : List ℕ) (entry : Entry) → IsBytes bytes → first_record_of bytes ≡ Ok entry → IsRecord entry × IsFirst entry × (bytes ≡ first_text entry)
unfolding first_record_of
whole_first_found bytes entry h e =
    let a = bind_ok (first_record_at (start bytes)) alone entry e in
    let f = first_found (start bytes) a.0 (started bytes h) a.1 in
    let last = alone_found a.0 entry a.2 in
    subst (λ (v : Entry). IsRecord v × IsFirst v × (bytes ≡ first_text v)) last.1 (f.0.is_record, f.1, all_taken bytes (first_text a.0.0) a.0.1 f.0.took last.0)

pub record_is_found : (bytes : List ℕ) (result : Result Entry RecordFault) → IsBytes bytes → Decodes result (record_of bytes) → IfOk result (λ entry. IsRecord entry × (bytes ≡ record_text entry))
record_is_found bytes (Ok entry) h read = whole_record_found bytes entry h read
record_is_found bytes (Err fault) h read = tt

pub first_is_found : (bytes : List ℕ) (result : Result Entry RecordFault) → IsBytes bytes → Decodes result (first_record_of bytes) → IfOk result (λ entry. IsRecord entry × IsFirst entry × (bytes ≡ first_text entry))
first_is_found bytes (Ok entry) h read = whole_first_found bytes entry h read
first_is_found bytes (Err fault) h read = tt

-- ---- what a record that was read keeps

pub record_placed : (bytes : List ℕ) (x : Entry × Reading) → IsBytes bytes → record_at (start bytes) ≡ Ok x → IsPlaced x.0.place x.0.update
record_placed bytes x h e = (record_found (start bytes) x (started bytes h) e).is_record.placed

pub first_placed : (bytes : List ℕ) (x : Entry × Reading) → IsBytes bytes → first_record_at (start bytes) ≡ Ok x → IsPlaced x.0.place x.0.update
first_placed bytes x h e = (first_found (start bytes) x (started bytes h) e).0.is_record.placed
