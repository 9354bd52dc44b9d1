-- How long the encoding of a change is.
use Rattle.std.proofs.Common.{◌≡◌, ℕ, ◌+◌, ◌*◌, List, [], ◌++◌, length, length-append, arith}
use Rattle.wire_fields.specs.declared.endian.Endian.TheVariants.{Little}
use Rattle.wire_fields.specs.Numbers.{num}
use Rattle.wire_fields.proofs.NumberLaws.{length-num}
use Rattle.clus_names.specs.Parts.{text_of}
use Rattle.update_records.specs.declared.change.Change.TheVariants.{Create, SetValue}
use Rattle.update_records.specs.Spelling.{change_text, data_text, key_text, name_text}
use Rattle.update_records.proofs.Fields.{length-name_text, length-data_text}

length-key : (kind : ℕ) (path : List (List ℕ)) (birth : ℕ) → length (key_text kind path birth) ≡ 11 + 2 * length (text_of path)
unfolding key_text
length-key kind path birth =
    omega (
      arith,
      length-append (num Little 1 kind ++ name_text (text_of path)) (num Little 8 birth),
      length-append (num Little 1 kind) (name_text (text_of path)),
      length-num Little 1 kind,
      length-num Little 8 birth,
      length-name_text (text_of path),
    )

pub length-creation : (path : List (List ℕ)) → length (change_text (Create [] 0 path)) ≡ 13 + 2 * length (text_of path)
unfolding change_text
length-creation path = omega (arith, length-append (key_text 1 [] 0) (name_text (text_of path)), length-key 1 [] 0, length-name_text (text_of path))

pub length-setting : (path : List (List ℕ)) (name : List ℕ) (kind : ℕ) (bytes : List ℕ) → length (change_text (SetValue path 0 name kind bytes)) ≡ 21 + 2 * (length (text_of path) + length name) + length bytes
unfolding change_text
length-setting path name kind bytes =
    let key = key_text 2 path 0 in
    omega (
      arith,
      length-append (key ++ name_text name ++ num Little 4 kind) (data_text bytes),
      length-append (key ++ name_text name) (num Little 4 kind),
      length-append key (name_text name),
      length-key 2 path 0,
      length-name_text name,
      length-num Little 4 kind,
      length-data_text bytes,
    )
