-- A line is read exactly where its words lead to an end, and is refused where they lead no further.
use Rattle.std.proofs.Common.{◌≡◌, ℕ, ◌+◌, ◌-◌, ◌<◌, ◌^◌, List, [], ◌∷◌, ◌++◌, length, inl, inr, Option, Some, None, Result, Ok, Err, refl, sym, ap, ◌∙◌, subst, append_assoc, append-nil, arith}
use Rattle.std.specs.Prelude.{◌⊎◌}
use Rattle.gum_messages.specs.declared.member.Member.{Member}
use Rattle.update_records.specs.declared.update.Update.{Update}
use Rattle.update_records.specs.declared.update.Update.TheVariants.{Batch}
use Rattle.cluster_script.specs.declared.line.Line.{Line}
use Rattle.cluster_script.specs.Grammar.{Rest, done, number, octets, batch, members, verb, misfit}
use Rattle.cluster_script.specs.Words.{Words, told, word_at, ◌>>=◌}
use Rattle.cluster_script.specs.Values.{batch_of, member_of, number_of, octets_of}
use Rattle.cluster_script.specs.Reading.{members_in, reads}
use Rattle.cluster_script.specs.Lines.{Ends, Fits, Leads, Stops, column_behind}
use Rattle.cluster_script.proofs.WordTexts.{batch_found, batch_read, member_found, member_read, number_found, number_read, octets_found, octets_read}

abbrev pub at : ℕ → ℕ → List (List ℕ) → Words
at last next left = record { last = last; next = next; left = left }

abbrev behind : ℕ → List ℕ → ℕ
behind next word = next + length word + 1

-- ---- what is read

pub record Reached (rest : Rest) (next : ℕ) (left : List (List ℕ)) (line : Line) (now : Words) : Type 0 where
  pub front : List (List ℕ)
  pub end : Rest
  pub left_is : left ≡ front ++ now.left
  pub next_is : now.next + 1 ≡ next + column_behind front
  pub led : Leads rest front end
  pub ends : Ends end line
  pub stops : (word : List ℕ) (words : List (List ℕ)) → now.left ≡ word ∷ words → Stops end (word ∷ words)

further : (rest on : Rest) (next : ℕ) (word : List ℕ) (left : List (List ℕ)) (line : Line) (now : Words)
    → Fits rest word on → Reached on (behind next word) left line now → Reached rest next (word ∷ left) line now
unfolding Leads column_behind
further rest on next word left line now fits is = record {
  front = word ∷ is.front;
  end = is.end;
  left_is = ap (λ words. word ∷ words) is.left_is;
  next_is = omega (arith, is.next_is);
  led = (on, fits, is.led);
  ends = is.ends;
  stops = is.stops;
}

valued : {A : Type 0} (rest : Rest) (on : A → Rest) (read : Option A) (last next : ℕ) (word : List ℕ) (left : List (List ℕ)) (line : Line) (now : Words)
    → ((x : A) → read ≡ Some x → Fits rest word (on x))
    → ((x : A) → reads (on x) (at next (behind next word) left) ≡ Ok (line, now) → Reached (on x) (behind next word) left line now)
    → (told read (at next (behind next word) left) >>= λ x. reads (on x.0) x.1) ≡ Ok (line, now) → Reached rest next (word ∷ left) line now
valued rest on None last next word left line now fits hyp e = absurd (cc e)
valued rest on (Some x) last next word left line now fits hyp e = further rest (on x) next word left line now (fits x refl) (hyp x e)

abbrev joined : Member → List Member × Words → Result (List Member × Words) ℕ
joined m ms = Ok (m ∷ ms.0, ms.1)

abbrev said : (List Member → Line) → List Member → List Member × Words → Result (Line × Words) ℕ
said on front ms = Ok (on (front ++ ms.0), ms.1)

again : (m : Member) (front : List Member) (on : List Member → Line) (read : Result (List Member × Words) ℕ) (out : Result (Line × Words) ℕ)
    → ((read >>= joined m) >>= said on front) ≡ out → (read >>= said on (front ++ m ∷ [])) ≡ out
again m front on (Ok (ms, words)) out e = ap (λ (l : List Member). said on [] (l, words)) (append_assoc front (m ∷ []) ms) ∙ e
again m front on (Err column) out e = e

abbrev member_turn : ℕ → ℕ → List ℕ → List (List ℕ) → Option Member → Result (List Member × Words) ℕ
member_turn floor next word left found = told found (at next (behind next word) left) >>= λ m. members_in m.0.node next (behind next word) left >>= joined m.0

member_found_on : (floor : ℕ) (front : List Member) (on : List Member → Line) (found : Option Member) (next : ℕ) (word : List ℕ) (left : List (List ℕ)) (line : Line) (now : Words)
    → ((m : Member) → found ≡ Some m → Fits (members floor front on) word (members m.node (front ++ m ∷ []) on))
    → ((m : Member) → (members_in m.node next (behind next word) left >>= said on (front ++ m ∷ [])) ≡ Ok (line, now)
    → Reached (members m.node (front ++ m ∷ []) on) (behind next word) left line now)
    → (member_turn floor next word left found >>= said on front) ≡ Ok (line, now) → Reached (members floor front on) next (word ∷ left) line now
member_found_on floor front on None next word left line now fits hyp e = absurd (cc e)
member_found_on floor front on (Some m) next word left line now fits hyp e =
    further (members floor front on) (members m.node (front ++ m ∷ []) on) next word left line now (fits m refl)
    (hyp m (again m front on (members_in m.node next (behind next word) left) (Ok (line, now)) e))

abbrev given : Line × Words → Result (Line × Words) ℕ
given x = Ok x

ok_of : (x y : Line × Words) → given x ≡ given y → x ≡ y
ok_of x y e = cc

members_found : (floor : ℕ) (front : List Member) (on : List Member → Line) (last next : ℕ) (left : List (List ℕ)) (line : Line) (now : Words)
    → (members_in floor last next left >>= said on front) ≡ Ok (line, now) → Reached (members floor front on) next left line now
unfolding members_in Leads column_behind
members_found floor front on last next [] line now e =
    let pair = ok_of (on (front ++ []), at last next []) (line, now) e in
    let told : on (front ++ []) ≡ line = ap (λ (x : Line × Words). x.0) pair in
    let words : at last next [] ≡ now = ap (λ (x : Line × Words). x.1) pair in
    let none : [] ≡ now.left = ap (λ (w : Words). w.left) words in
    let place : next ≡ now.next = ap (λ (w : Words). w.next) words in
    record {
      front = [];
      end = members floor front on;
      left_is = none;
      next_is = omega (arith, place);
      led = refl;
      ends = sym told ∙ ap on (append-nil front);
      stops = λ word words some. absurd (cc (none, some));
    }
members_found floor front on last next (word ∷ left) line now e =
    member_found_on floor front on (member_of floor word) next word left line now (λ m is. (m, member_found floor word m is, refl))
    (λ m. members_found m.node (front ++ m ∷ []) on next (behind next word) left line now) e

pub found : (rest : Rest) (last next : ℕ) (left : List (List ℕ)) (line : Line) (now : Words) → reads rest (at last next left) ≡ Ok (line, now) → Reached rest next left line now
unfolding reads word_at Leads column_behind
found (done told) last next left line now e =
    let pair = ok_of (told, at last next left) (line, now) e in
    let words : at last next left ≡ now = ap (λ (x : Line × Words). x.1) pair in
    record {
      front = [];
      end = done told;
      left_is = ap (λ (w : Words). w.left) words;
      next_is = omega (arith, ap (λ (w : Words). w.next) words);
      led = refl;
      ends = sym (ap (λ (x : Line × Words). x.0) pair);
      stops = λ word words some. λ next fits. fits;
    }
found (number low high on) last next [] line now e = absurd (cc e)
found (number low high on) last next (word ∷ left) line now e =
    valued (number low high on) on (number_of low high word) last next word left line now (λ n is. (n, number_found low high word n is, refl))
    (λ n. found (on n) next (behind next word) left line now) e
found (octets limit on) last next [] line now e = absurd (cc e)
found (octets limit on) last next (word ∷ left) line now e =
    valued (octets limit on) on (octets_of limit word) last next word left line now
    (λ bytes is. (bytes, (octets_found limit word bytes is).0, (octets_found limit word bytes is).1, refl))
    (λ bytes. found (on bytes) next (behind next word) left line now) e
found (batch on) last next [] line now e = absurd (cc e)
found (batch on) last next (word ∷ left) line now e =
    valued (batch on) on (batch_of word) last next word left line now
    (λ update is. let some = batch_found word update is in (some.0, some.1, ap on some.2))
    (λ update. found (on update) next (behind next word) left line now) e
found (members floor front on) last next left line now e = members_found floor front on last next left line now e
found (verb on) last next [] line now e = absurd (cc e)
found (verb on) last next (word ∷ left) line now e =
    further (verb on) (on word) next word left line now (
      refl,
      λ is. (let none : reads misfit (at next (behind next word) left) ≡ Ok (line, now) =
          subst (λ (r : Rest). reads r (at next (behind next word) left) ≡ Ok (line, now)) is e in absurd (cc none)),
    )
    (found (on word) next (behind next word) left line now e)
found misfit last next left line now e = absurd (cc e)

-- ---- what is refused

-- A number's bound is one of 64 bits, and a word that is no first word of a line stands only where one is awaited.
unfoldable pub IsSound : Rest → Type 0
IsSound (done line) = Unit {0}
IsSound (number low high on) = (high < 2 ^ 64) × ((n : ℕ) → IsSound (on n))
IsSound (octets limit on) = (bytes : List ℕ) → IsSound (on bytes)
IsSound (batch on) = (update : Update) → IsSound (on update)
IsSound (members floor front on) = Unit {0}
IsSound (verb on) = (word : List ℕ) → (on word ≡ misfit) ⊎ IsSound (on word)
IsSound misfit = ⊥

abbrev pub fault_column : ℕ → List (List ℕ) → List (List ℕ) → ℕ
fault_column next front [] = next + column_behind front - 2
fault_column next front (word ∷ words) = next + column_behind front - 1

pub record Refused (rest : Rest) (next : ℕ) (left : List (List ℕ)) (column : ℕ) : Type 0 where
  pub front : List (List ℕ)
  pub behind : List (List ℕ)
  pub now : Rest
  pub left_is : left ≡ front ++ behind
  pub led : Leads rest front now
  pub stops : Stops now behind
  pub column_is : column ≡ fault_column next front behind

refused_further : (rest on : Rest) (next : ℕ) (word : List ℕ) (left : List (List ℕ)) (column : ℕ)
    → Fits rest word on → Refused on (behind next word) left column → Refused rest next (word ∷ left) column
unfolding Leads column_behind
refused_further rest on next word left column fits is = record {
  front = word ∷ is.front;
  behind = is.behind;
  now = is.now;
  left_is = ap (λ words. word ∷ words) is.left_is;
  led = (on, fits, is.led);
  stops = is.stops;
  column_is = is.column_is ∙ same is.behind;
}
  where
    same : (more : List (List ℕ)) → fault_column (behind next word) is.front more ≡ fault_column next (word ∷ is.front) more
    same [] = omega arith
    same (w ∷ ws) = omega arith

abbrev refused : ℕ → Result (Line × Words) ℕ
refused column = Err column

column_in : (a b : ℕ) → refused a ≡ refused b → a ≡ b
column_in a b e = cc

-- The line ends too early.
missing : (rest : Rest) (next column : ℕ) → ((line : Line) → ¬ Ends rest line) → refused (next - 1) ≡ refused column → Refused rest next [] column
unfolding Leads column_behind
missing rest next column unended e = record {
  front = [];
  behind = [];
  now = rest;
  left_is = refl;
  led = refl;
  stops = unended;
  column_is = (let same = column_in (next - 1) column e in omega (arith, same));
}

-- The word doesn't fit.
unfit : (rest : Rest) (next : ℕ) (word : List ℕ) (left : List (List ℕ)) (column : ℕ) → ((on : Rest) → ¬ Fits rest word on) → refused next ≡ refused column → Refused rest next (word ∷ left) column
unfolding Leads column_behind
unfit rest next word left column none e = record {
  front = [];
  behind = word ∷ left;
  now = rest;
  left_is = refl;
  led = refl;
  stops = none;
  column_is = (let same = column_in next column e in omega (arith, same));
}

refused_value : {A : Type 0} (rest : Rest) (on : A → Rest) (read : Option A) (next : ℕ) (word : List ℕ) (left : List (List ℕ)) (column : ℕ)
    → ((x : A) → read ≡ Some x → Fits rest word (on x)) → (read ≡ None → (now : Rest) → ¬ Fits rest word now)
    → ((x : A) → reads (on x) (at next (behind next word) left) ≡ refused column → Refused (on x) (behind next word) left column)
    → (told read (at next (behind next word) left) >>= λ x. reads (on x.0) x.1) ≡ refused column → Refused rest next (word ∷ left) column
refused_value rest on None next word left column fits none hyp e = unfit rest next word left column (none refl) e
refused_value rest on (Some x) next word left column fits none hyp e = refused_further rest (on x) next word left column (fits x refl) (hyp x e)

again_refused : (m : Member) (front : List Member) (on : List Member → Line) (read : Result (List Member × Words) ℕ) (column : ℕ)
    → ((read >>= joined m) >>= said on front) ≡ refused column → (read >>= said on (front ++ m ∷ [])) ≡ refused column
again_refused m front on (Ok (ms, words)) column e = absurd (cc e)
again_refused m front on (Err place) column e = e

member_refused : (floor : ℕ) (front : List Member) (on : List Member → Line) (found : Option Member) (next : ℕ) (word : List ℕ) (left : List (List ℕ)) (column : ℕ)
    → ((m : Member) → found ≡ Some m → Fits (members floor front on) word (members m.node (front ++ m ∷ []) on))
    → (found ≡ None → (now : Rest) → ¬ Fits (members floor front on) word now)
    → ((m : Member) → (members_in m.node next (behind next word) left >>= said on (front ++ m ∷ [])) ≡ refused column
    → Refused (members m.node (front ++ m ∷ []) on) (behind next word) left column)
    → (member_turn floor next word left found >>= said on front) ≡ refused column → Refused (members floor front on) next (word ∷ left) column
member_refused floor front on None next word left column fits none hyp e = unfit (members floor front on) next word left column (none refl) e
member_refused floor front on (Some m) next word left column fits none hyp e =
    refused_further (members floor front on) (members m.node (front ++ m ∷ []) on) next word left column (fits m refl)
    (hyp m (again_refused m front on (members_in m.node next (behind next word) left) column e))

members_refused : (floor : ℕ) (front : List Member) (on : List Member → Line) (last next : ℕ) (left : List (List ℕ)) (column : ℕ)
    → (members_in floor last next left >>= said on front) ≡ refused column → Refused (members floor front on) next left column
unfolding members_in
members_refused floor front on last next [] column e = absurd (cc e)
members_refused floor front on last next (word ∷ left) column e =
    member_refused floor front on (member_of floor word) next word left column (λ m is. (m, member_found floor word m is, refl))
    (λ none now fits. cc (sym (member_read floor word fits.0 fits.1), none))
    (λ m. members_refused m.node (front ++ m ∷ []) on next (behind next word) left column) e

unsound : (rest : Rest) → IsSound rest → ¬ (rest ≡ misfit)
unfolding IsSound
unsound rest sound is = subst IsSound is sound

verb_refused : (on : List ℕ → Rest) (next : ℕ) (word : List ℕ) (left : List (List ℕ)) (column : ℕ) → (on word ≡ misfit) ⊎ IsSound (on word)
    → (IsSound (on word) → reads (on word) (at next (behind next word) left) ≡ refused column → Refused (on word) (behind next word) left column)
    → reads (on word) (at next (behind next word) left) ≡ refused column → Refused (verb on) next (word ∷ left) column
unfolding reads
verb_refused on next word left column (inl is) hyp e =
    let none : reads misfit (at next (behind next word) left) ≡ refused column =
    subst (λ (r : Rest). reads r (at next (behind next word) left) ≡ refused column) is e in
    unfit (verb on) next word left column (λ now fits. fits.1 (fits.0 ∙ is)) none
verb_refused on next word left column (inr sound) hyp e = refused_further (verb on) (on word) next word left column (refl, unsound (on word) sound) (hyp sound e)

pub stuck : (rest : Rest) (last next : ℕ) (left : List (List ℕ)) (column : ℕ) → IsSound rest → reads rest (at last next left) ≡ refused column → Refused rest next left column
unfolding reads word_at IsSound
stuck (done told) last next left column sound e = absurd (cc e)
stuck (number low high on) last next [] column sound e = missing (number low high on) next column (λ line ends. ends) e
stuck (number low high on) last next (word ∷ left) column sound e =
    refused_value (number low high on) on (number_of low high word) next word left column (λ n is. (n, number_found low high word n is, refl))
    (λ none now fits. cc (sym (number_read low high word fits.0 sound.0 fits.1), none))
    (λ n. stuck (on n) next (behind next word) left column (sound.1 n)) e
stuck (octets limit on) last next [] column sound e = missing (octets limit on) next column (λ line ends. ends) e
stuck (octets limit on) last next (word ∷ left) column sound e =
    refused_value (octets limit on) on (octets_of limit word) next word left column
    (λ bytes is. (bytes, (octets_found limit word bytes is).0, (octets_found limit word bytes is).1, refl))
    (λ none now fits. cc (sym (octets_read limit word fits.0 fits.1 fits.2), none))
    (λ bytes. stuck (on bytes) next (behind next word) left column (sound bytes)) e
stuck (batch on) last next [] column sound e = missing (batch on) next column (λ line ends. ends) e
stuck (batch on) last next (word ∷ left) column sound e =
    refused_value (batch on) on (batch_of word) next word left column
    (λ update is. let some = batch_found word update is in (some.0, some.1, ap on some.2))
    (λ none now fits. cc (sym (batch_read word fits.0 fits.1), none))
    (λ update. stuck (on update) next (behind next word) left column (sound update)) e
stuck (members floor front on) last next left column sound e = members_refused floor front on last next left column e
stuck (verb on) last next [] column sound e = missing (verb on) next column (λ line ends. ends) e
stuck (verb on) last next (word ∷ left) column sound e =
    verb_refused on next word left column (sound word) (stuck (on word) next (behind next word) left column) e
stuck misfit last next left column sound e = absurd sound

-- ---- what is read where the words lead to an end

pub record IsRead (rest : Rest) (last next : ℕ) (left : List (List ℕ)) (line : Line) : Type 0 where
  pub now : Words
  pub read : reads rest (at last next left) ≡ Ok (line, now)
  pub none : now.left ≡ []

ended : (rest end : Rest) (line : Line) → end ≡ rest → Ends end line → Ends rest line
ended rest end line is ends = subst (λ (r : Rest). Ends r line) is ends

led_on : (on next : Rest) (words : List (List ℕ)) (end : Rest) → next ≡ on → Leads next words end → Leads on words end
led_on on next words end is leads = subst (λ (r : Rest). Leads r words end) is leads

value_read : {A : Type 0} (rest : Rest) (on : A → Rest) (read : Option A) (x : A) (last next : ℕ) (word : List ℕ) (left : List (List ℕ)) (line : Line)
    → ((now : Words) → (told read (at next (behind next word) left) >>= λ y. reads (on y.0) y.1) ≡ Ok (line, now) → reads rest (at last next (word ∷ left)) ≡ Ok (line, now))
    → read ≡ Some x → IsRead (on x) next (behind next word) left line → IsRead rest last next (word ∷ left) line
value_read rest on read x last next word left line opens is_x is = record { now = is.now; read = opens is.now (rw is_x is.read); none = is.none }

-- Members to the line's end are read.
pub record AreRead (floor : ℕ) (front : List Member) (on : List Member → Line) (last next : ℕ) (left : List (List ℕ)) (line : Line) : Type 0 where
  pub now : Words
  pub read : (members_in floor last next left >>= said on front) ≡ Ok (line, now)
  pub none : now.left ≡ []

joined_read : (m : Member) (front : List Member) (on : List Member → Line) (read : Result (List Member × Words) ℕ) (out : Result (Line × Words) ℕ)
    → (read >>= said on (front ++ m ∷ [])) ≡ out → ((read >>= joined m) >>= said on front) ≡ out
joined_read m front on (Ok (ms, words)) out e = ap (λ (l : List Member). said on [] (l, words)) (sym (append_assoc front (m ∷ []) ms)) ∙ e
joined_read m front on (Err column) out e = e

members_read : (floor : ℕ) (front : List Member) (on : List Member → Line) (last next : ℕ) (left : List (List ℕ)) (end : Rest) (line : Line)
    → Leads (members floor front on) left end → Ends end line → AreRead floor front on last next left line
unfolding members_in Leads
members_read floor front on last next [] end line leads ends =
    let is : line ≡ on front = ended (members floor front on) end line leads ends in
    record { now = at last next []; read = ap (λ (l : Line). given (l, at last next [])) (ap on (append-nil front) ∙ sym is); none = refl }
members_read floor front on last next (word ∷ left) end line leads ends =
    let fits = leads.1 in
    let m = fits.0 in
    let are = members_read m.node (front ++ m ∷ []) on next (behind next word) left end line
    (led_on (members m.node (front ++ m ∷ []) on) leads.0 left end fits.2 leads.2) ends in
    let turn : (member_turn floor next word left (Some m) >>= said on front) ≡ Ok (line, are.now) =
    joined_read m front on (members_in m.node next (behind next word) left) (Ok (line, are.now)) are.read in
    record { now = are.now; read = rw (member_read floor word m fits.1) turn; none = are.none }

a_verb : (on : List ℕ → Rest) (word : List ℕ) (next : Rest) → Fits (verb on) word next → (on word ≡ misfit) ⊎ IsSound (on word) → IsSound (on word)
a_verb on word next fits (inl is) = absurd (fits.1 (fits.0 ∙ is))
a_verb on word next fits (inr sound) = sound

pub reached : (rest : Rest) (last next : ℕ) (left : List (List ℕ)) (end : Rest) (line : Line) → IsSound rest → Leads rest left end → Ends end line → IsRead rest last next left line
unfolding reads word_at IsSound Leads
reached (done told) last next [] end line sound leads ends =
    let is : line ≡ told = ended (done told) end line leads ends in
    record { now = at last next []; read = ap (λ (l : Line). given (l, at last next [])) (sym is); none = refl }
reached (done told) last next (word ∷ left) end line sound leads ends = absurd (leads.1)
reached (number low high on) last next [] end line sound leads ends = absurd (ended (number low high on) end line leads ends)
reached (number low high on) last next (word ∷ left) end line sound leads ends =
    let n = leads.1.0 in
    value_read (number low high on) on (number_of low high word) n last next word left line (λ now e. e) (number_read low high word n sound.0 leads.1.1)
    (reached (on n) next (behind next word) left end line (sound.1 n) (led_on (on n) leads.0 left end leads.1.2 leads.2) ends)
reached (octets limit on) last next [] end line sound leads ends = absurd (ended (octets limit on) end line leads ends)
reached (octets limit on) last next (word ∷ left) end line sound leads ends =
    let bytes = leads.1.0 in
    value_read (octets limit on) on (octets_of limit word) bytes last next word left line (λ now e. e) (octets_read limit word bytes leads.1.1 leads.1.2)
    (reached (on bytes) next (behind next word) left end line (sound bytes) (led_on (on bytes) leads.0 left end leads.1.3 leads.2) ends)
reached (batch on) last next [] end line sound leads ends = absurd (ended (batch on) end line leads ends)
reached (batch on) last next (word ∷ left) end line sound leads ends =
    let update = Batch leads.1.0 in
    value_read (batch on) on (batch_of word) update last next word left line (λ now e. e) (batch_read word leads.1.0 leads.1.1)
    (reached (on update) next (behind next word) left end line (sound update) (led_on (on update) leads.0 left end leads.1.2 leads.2) ends)
reached (members floor front on) last next left end line sound leads ends =
    let are = members_read floor front on last next left end line leads ends in
    record { now = are.now; read = are.read; none = are.none }
reached (verb on) last next [] end line sound leads ends = absurd (ended (verb on) end line leads ends)
reached (verb on) last next (word ∷ left) end line sound leads ends =
    let inner = reached (on word) next (behind next word) left end line (a_verb on word leads.0 leads.1 (sound word)) (led_on (on word) leads.0 left end leads.1.0 leads.2) ends in
    record { now = inner.now; read = inner.read; none = inner.none }
reached misfit last next left end line sound leads ends = absurd sound
