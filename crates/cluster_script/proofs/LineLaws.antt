-- A text is read as a line exactly where it is one, and is at fault at the first word that doesn't fit.
use Rattle.std.proofs.Common.{◌≡◌, ℕ, ◌+◌, ◌<◌, Bool, true, false, ltb, List, [], ◌∷◌, ◌++◌, length, inl, inr, Result, Ok, Err, refl, sym, ap, ◌∙◌, subst, append-nil, arith}
use Rattle.std.specs.Prelude.{◌⊎◌, IfErr, IfOk, if◌then◌else◌}
use Rattle.std.specs.List.{onto_first}
use Rattle.std.specs.Str.{bytes_eq}
use Rattle.std.specs.Prelude.{codes}
use Rattle.std.proofs.lemmas.List.Splits.{length-slice_split}
use Rattle.std.proofs.lemmas.Bool.{le-ltb, ltb-true, ltb-false}
use Rattle.cluster_script.specs.declared.line.Line.{Line}
use Rattle.cluster_script.specs.declared.line.Line.TheVariants.{Empty}
use Rattle.cluster_script.specs.declared.line_fault.LineFault.{LineFault}
use Rattle.cluster_script.specs.declared.line_fault.LineFault.TheVariants.{Column, Memory}
use Rattle.cluster_script.specs.Words.{Gives, Words, is_byte, most, words_of}
use Rattle.cluster_script.specs.Grammar as g
use Rattle.cluster_script.specs.Grammar.{Rest, misfit, verb, line_behind}
use Rattle.cluster_script.specs.Reading.{alone, is_remark, line_at, line_of, reads, start}
use Rattle.cluster_script.specs.Lines.{Ends, IsFault, IsFaultAt, IsLine, IsMisfit, Leads, Means, Says, column_behind, column_of, line_start}
use Rattle.cluster_script.proofs.Reached.{IsSound, Reached, Refused, fault_column, found, reached, stuck}

-- ---- the table is sound

abbrev Good : Rest → Type 0
Good rest = (rest ≡ misfit) ⊎ IsSound rest

choose : (b : Bool) (x y : Rest) → IsSound x → Good y → Good (if b then x else y)
choose true x y sound good = inr sound
choose false x y sound good = good

cap_sound : IsSound g.cap_line
unfolding IsSound g.cap_line
cap_sound = (omega arith, λ n. tt)

start_sound : IsSound g.start_line
unfolding IsSound g.start_line
start_sound = (omega arith, λ n. tt)

die_sound : IsSound g.die_line
unfolding IsSound g.die_line
die_sound = (omega arith, λ n. tt)

tick_sound : IsSound g.tick_line
unfolding IsSound g.tick_line
tick_sound = (omega arith, λ n. tt)

checkpoint_sound : IsSound g.checkpoint_line
unfolding IsSound g.checkpoint_line
checkpoint_sound = (omega arith, λ n. tt)

show_sound : IsSound g.show_line
unfolding IsSound g.show_line
show_sound = (omega arith, λ n. tt)

install_sound : IsSound g.install_line
unfolding IsSound g.install_line
install_sound = (omega arith, λ n. (omega arith, λ m. tt))

connect_sound : IsSound g.connect_line
unfolding IsSound g.connect_line
connect_sound = (omega arith, λ n. (omega arith, λ m. tt))

clock_sound : IsSound g.clock_line
unfolding IsSound g.clock_line
clock_sound = (omega arith, λ n. (omega arith, λ m. tt))

bytes_sound : IsSound g.bytes_line
unfolding IsSound g.bytes_line
bytes_sound = (omega arith, λ n. λ bytes. tt)

hangup_sound : IsSound g.hangup_line
unfolding IsSound g.hangup_line
hangup_sound = (omega arith, λ n. tt)

bind_sound : IsSound g.bind_line
unfolding IsSound g.bind_line
bind_sound = (omega arith, λ n. tt)

request_sound : IsSound g.request_line
unfolding IsSound g.request_line
request_sound = (omega arith, λ n. (omega arith, λ m. λ bytes. tt))

deliver_sound : IsSound g.deliver_line
unfolding IsSound g.deliver_line
deliver_sound = (omega arith, λ n. tt)

pump_sound : IsSound g.pump_line
unfolding IsSound g.pump_line
pump_sound = (omega arith, λ n. tt)

skip_sound : IsSound g.skip_line
unfolding IsSound g.skip_line
skip_sound = (omega arith, λ n. tt)

pick_sound : IsSound g.pick_line
unfolding IsSound g.pick_line
pick_sound = (omega arith, λ n. tt)

fail_sound : IsSound g.fail_line
unfolding IsSound g.fail_line
fail_sound = (omega arith, λ n. tt)

batch_sound : IsSound g.batch_line
unfolding IsSound g.batch_line
batch_sound = (omega arith, λ n. λ update. tt)

view_sound : IsSound g.view_line
unfolding IsSound g.view_line
view_sound = (omega arith, λ n. tt)

inner_install_sound : (moment : ℕ) (filling : List ℕ) → IsSound (g.inner_install moment filling)
unfolding IsSound g.inner_install
inner_install_sound moment filling = (omega arith, λ n. (omega arith, λ m. tt))

inner_bytes_sound : (moment : ℕ) (filling : List ℕ) → IsSound (g.inner_bytes moment filling)
unfolding IsSound g.inner_bytes
inner_bytes_sound moment filling = (omega arith, λ n. λ bytes. tt)

inner_bind_sound : (moment : ℕ) (filling : List ℕ) → IsSound (g.inner_bind moment filling)
unfolding IsSound g.inner_bind
inner_bind_sound moment filling = (omega arith, λ n. tt)

inner_request_sound : (moment : ℕ) (filling : List ℕ) → IsSound (g.inner_request moment filling)
unfolding IsSound g.inner_request
inner_request_sound moment filling = (omega arith, λ n. (omega arith, λ m. λ bytes. tt))

inner_hangup_sound : (moment : ℕ) (filling : List ℕ) → IsSound (g.inner_hangup moment filling)
unfolding IsSound g.inner_hangup
inner_hangup_sound moment filling = (omega arith, λ n. tt)

inner_deliver_sound : (moment : ℕ) (filling : List ℕ) → IsSound (g.inner_deliver moment filling)
unfolding IsSound g.inner_deliver
inner_deliver_sound moment filling = (omega arith, λ n. tt)

inner_tick_sound : (moment : ℕ) (filling : List ℕ) → IsSound (g.inner_tick moment filling)
unfolding IsSound g.inner_tick
inner_tick_sound moment filling = (omega arith, λ n. tt)

inner_checkpoint_sound : (moment : ℕ) (filling : List ℕ) → IsSound (g.inner_checkpoint moment filling)
unfolding IsSound g.inner_checkpoint
inner_checkpoint_sound moment filling = (omega arith, λ n. tt)

inner_sound : (moment : ℕ) (filling word : List ℕ) → Good (g.inner_behind moment filling word)
unfolding g.inner_behind
inner_sound moment filling word =
    (choose (bytes_eq word (codes "install")) _ _ (inner_install_sound moment filling)
    (choose (bytes_eq word (codes "bytes")) _ _ (inner_bytes_sound moment filling)
    (choose (bytes_eq word (codes "bind")) _ _ (inner_bind_sound moment filling)
    (choose (bytes_eq word (codes "request")) _ _ (inner_request_sound moment filling)
    (choose (bytes_eq word (codes "hangup")) _ _ (inner_hangup_sound moment filling)
    (choose (bytes_eq word (codes "deliver")) _ _ (inner_deliver_sound moment filling)
    (choose (bytes_eq word (codes "tick")) _ _ (inner_tick_sound moment filling)
    (choose (bytes_eq word (codes "checkpoint")) _ _ (inner_checkpoint_sound moment filling) (inl refl)))))))))

crash_sound : IsSound g.crash_line
unfolding IsSound g.crash_line
crash_sound = (omega arith, λ moment. λ filling. λ word. inner_sound moment filling word)

player_sound : (word : List ℕ) → Good (g.player_behind word)
unfolding g.player_behind
player_sound word =
    (choose (bytes_eq word (codes "cap")) _ _ (cap_sound)
    (choose (bytes_eq word (codes "bind")) _ _ (bind_sound)
    (choose (bytes_eq word (codes "request")) _ _ (request_sound)
    (choose (bytes_eq word (codes "pump")) _ _ (pump_sound)
    (choose (bytes_eq word (codes "skip")) _ _ (skip_sound)
    (choose (bytes_eq word (codes "pick")) _ _ (pick_sound)
    (choose (bytes_eq word (codes "show")) _ _ (show_sound) (inl refl))))))))

event_sound : (word : List ℕ) → Good (g.event_behind word)
unfolding g.event_behind
event_sound word =
    (choose (bytes_eq word (codes "view")) _ _ (view_sound)
    (choose (bytes_eq word (codes "connect")) _ _ (connect_sound)
    (choose (bytes_eq word (codes "bytes")) _ _ (bytes_sound)
    (choose (bytes_eq word (codes "hangup")) _ _ (hangup_sound)
    (choose (bytes_eq word (codes "deliver")) _ _ (deliver_sound)
    (choose (bytes_eq word (codes "fail")) _ _ (fail_sound)
    (choose (bytes_eq word (codes "crash")) _ _ (crash_sound) (player_sound word))))))))

line_sound : (word : List ℕ) → Good (line_behind word)
unfolding g.line_behind
line_sound word =
    (choose (bytes_eq word (codes "start")) _ _ (start_sound)
    (choose (bytes_eq word (codes "die")) _ _ (die_sound)
    (choose (bytes_eq word (codes "tick")) _ _ (tick_sound)
    (choose (bytes_eq word (codes "checkpoint")) _ _ (checkpoint_sound)
    (choose (bytes_eq word (codes "install")) _ _ (install_sound)
    (choose (bytes_eq word (codes "clock")) _ _ (clock_sound)
    (choose (bytes_eq word (codes "batch")) _ _ (batch_sound) (event_sound word))))))))

sound : IsSound line_start
unfolding IsSound
sound = line_sound

-- ---- columns

some_front : (byte : ℕ) (words : List (List ℕ)) → 0 < length words → column_behind (onto_first byte words) ≡ 1 + column_behind words
unfolding column_behind
some_front byte [] some = absurd (omega (arith, some))
some_front byte (word ∷ words) some = omega arith

word_size : (byte : ℕ) (text : List ℕ) (b : Bool) → is_byte 32 byte ≡ b → column_behind (words_of text) ≡ length text + 2 → column_behind (words_of (byte ∷ text)) ≡ length (byte ∷ text) + 2
unfolding column_behind
word_size byte text true is size = rw is (omega (arith, size))
word_size byte text false is size = rw is (some_front byte (words_of text) (omega (arith, length-slice_split (is_byte 32) text)) ∙ omega (arith, size))

line_size : (text : List ℕ) → column_behind (words_of text) ≡ length text + 2
unfolding column_behind
line_size [] = refl
line_size (byte ∷ text) = word_size byte text (is_byte 32 byte) refl (line_size text)

placed : (text : List ℕ) (front behind : List (List ℕ)) → words_of text ≡ front ++ behind → fault_column 1 front behind ≡ column_of text front behind
placed text front [] are =
    let all : words_of text ≡ front = are ∙ append-nil front in
    let size : column_behind front ≡ length text + 2 = ap column_behind (sym all) ∙ line_size text in
    omega (arith, size)
placed text front (word ∷ words) are = omega arith

-- ---- lines

abbrev line_result : Line → Result Line ℕ
line_result line = Ok line

abbrev line_refused : ℕ → Result Line ℕ
line_refused column = Err column

line_value : (a b : Line) → line_result a ≡ line_result b → a ≡ b
line_value a b e = cc

line_column : (a b : ℕ) → line_refused a ≡ line_refused b → a ≡ b
line_column a b e = cc

found_alone : (text : List ℕ) (line told : Line) (now : Words) (left : List (List ℕ)) → Reached line_start 1 (words_of text) told now → now.left ≡ left
    → alone now.next left told ≡ line_result line → Says (words_of text) line
found_alone text line told now [] is none e =
    let same = line_value told line e in
    let all : words_of text ≡ is.front = is.left_is ∙ ap (λ (l : List (List ℕ)). is.front ++ l) none ∙ append-nil is.front in
    (is.end, subst (λ (w : List (List ℕ)). Leads line_start w is.end) (sym all) is.led, subst (λ (l : Line). Ends is.end l) same is.ends)
found_alone text line told now (word ∷ words) is some e = absurd (cc e)

line_found : (text : List ℕ) (line : Line) → line_at (start text) ≡ line_result line → Says (words_of text) line
unfolding line_at
line_found text line e = by (reads line_start (start text)) refl
  where
    by : (read : Result (Line × Words) ℕ) → reads line_start (start text) ≡ read → Says (words_of text) line
    by (Err column) is = absurd (cc (rw is at e))
    by (Ok (told, now)) is = found_alone text line told now now.left (found line_start 1 1 (words_of text) told now is) refl (rw is at e)

refused_alone : (text : List ℕ) (column : ℕ) (told : Line) (now : Words) (left : List (List ℕ)) → Reached line_start 1 (words_of text) told now → now.left ≡ left
    → alone now.next left told ≡ line_refused column → IsMisfit text column
refused_alone text column told now [] is none e = absurd (cc e)
refused_alone text column told now (word ∷ words) is some e = record {
  front = is.front;
  behind = word ∷ words;
  now = is.end;
  words_are = is.left_is ∙ ap (λ (l : List (List ℕ)). is.front ++ l) some;
  fit = is.led;
  stops = is.stops word words some;
  column_is = (let same = line_column now.next column e in omega (arith, same, is.next_is));
}

misfit_of : (text : List ℕ) (a column : ℕ) → Refused line_start 1 (words_of text) a → a ≡ column → IsMisfit text column
misfit_of text a column is same = record {
  front = is.front;
  behind = is.behind;
  now = is.now;
  words_are = is.left_is;
  fit = is.led;
  stops = is.stops;
  column_is = sym same ∙ is.column_is ∙ placed text is.front is.behind is.left_is;
}

line_stuck : (text : List ℕ) (column : ℕ) → line_at (start text) ≡ line_refused column → IsMisfit text column
unfolding line_at
line_stuck text column e = by (reads line_start (start text)) refl
  where
    by : (read : Result (Line × Words) ℕ) → reads line_start (start text) ≡ read → IsMisfit text column
    by (Err a) is = misfit_of text a column (stuck line_start 1 1 (words_of text) a sound is) (line_column a column (rw is at e))
    by (Ok (told, now)) is = refused_alone text column told now now.left (found line_start 1 1 (words_of text) told now is) refl (rw is at e)

line_read : (text : List ℕ) (line : Line) → Says (words_of text) line → line_at (start text) ≡ line_result line
unfolding line_at
line_read text line (end, leads, ends) =
    let is = reached line_start 1 1 (words_of text) end line sound leads ends in
    rw (is.read, is.none) refl

-- ---- texts

text_found : (text : List ℕ) (line : Line) → line_of text ≡ line_result line → IsLine text line
unfolding line_of
text_found text line e = by (ltb most (length text)) (is_remark text) refl refl
  where
    by : (long remark : Bool) → ltb most (length text) ≡ long → is_remark text ≡ remark → IsLine text line
    by true remark long is = absurd (cc (rw long at e))
    by false true long is = (ltb-false _ _ long, rw is (sym (line_value Empty line (rw (long, is) at e))))
    by false false long is = (ltb-false _ _ long, rw is (line_found text line (rw (long, is) at e)))

text_read : (text : List ℕ) (line : Line) → IsLine text line → line_of text ≡ line_result line
unfolding line_of
text_read text line (short, means) = by (is_remark text) refl means
  where
    fits : ltb most (length text) ≡ false
    fits = le-ltb most (length text) short

    by : (remark : Bool) → is_remark text ≡ remark → Means remark text line → line_of text ≡ line_result line
    by true is none = rw (fits, is) (ap line_result (sym none))
    by false is says = rw (fits, is) (line_read text line says)

text_stuck : (text : List ℕ) (column : ℕ) → line_of text ≡ line_refused column → IsFaultAt text column
unfolding line_of
text_stuck text column e = by (ltb most (length text)) (is_remark text) refl refl
  where
    by : (long remark : Bool) → ltb most (length text) ≡ long → is_remark text ≡ remark → IsFaultAt text column
    by true remark long is = inl (ltb-true _ _ long, sym (line_column (most + 1) column (rw long at e)))
    by false true long is = absurd (cc (rw (long, is) at e))
    by false false long is = inr (ltb-false _ _ long, is, line_stuck text column (rw (long, is) at e))

-- ---- the clauses

pub is_found : (text : List ℕ) (result : Result Line LineFault) → Gives (λ line. line) result (line_of text) → IfOk result (IsLine text)
is_found text (Ok line) gives = text_found text line gives
is_found text (Err fault) gives = tt

pub is_only : (text : List ℕ) (result : Result Line LineFault) (line : Line) → Gives (λ line. line) result (line_of text) → IsLine text line → Gives (λ line. line) result (Ok line)
is_only text result line gives is = subst (λ (read : Result Line ℕ). Gives (λ line. line) result read) (text_read text line is) gives

pub is_fault : (text : List ℕ) (result : Result Line LineFault) → Gives (λ line. line) result (line_of text) → IfErr result (IsFault text)
is_fault text (Ok line) gives = tt
is_fault text (Err (Column column)) gives = text_stuck text column gives
is_fault text (Err Memory) gives = tt
