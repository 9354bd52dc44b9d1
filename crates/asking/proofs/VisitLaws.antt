-- What each call makes of the connection that is present.
use Rattle.std.proofs.Common.{◌≡◌, ℕ, ◌+◌, ◌-◌, ◌<◌, ◌≤◌, Bool, true, List, [], ◌∷◌, ◌++◌, length, take, drop, Option, Some, None, refl, sym, ap, ◌∙◌, subst, append_assoc, arith}
use Rattle.std.specs.Prelude.{Result, Ok}
use Rattle.std.specs.Option.{option_map}
use Rattle.std.proofs.lemmas.List.{append-nil, take-append-drop, take_all, take_rest}
use Rattle.std.proofs.Math.Seq.{take-add, take-append_seam}
use Rattle.edge_io.specs.declared.failed.Failed.{Failed}
use Rattle.edge_io.specs.Visits.{Accepts, ReadsFront, Tells, Visit, Visits, at_present, begun, failed_read, failed_write, hung_up, with_read, with_write}
use Rattle.asking.specs.Connections.{HasBegun, HasEnded, HasExchanged, Visited}
use Rattle.asking.specs.Meetings.{Fact, Leads, Talks}

-- ---- any change

abbrev with_present : Visits → Visit → Visits
with_present visits visit = record { coming = visits.coming; present = Some visit; ended = visits.ended }

-- Of the connection that is present the one was so; now it is this one, and the other is so.
record Becomes (other : Fact) (v : Visit) (old new : Visits) : Type 0 where
  pub visit : Visit
  pub is : new ≡ with_present old visit
  pub whole : visit.taken ++ visit.left ≡ v.taken ++ v.left
  pub fact : other visit

abbrev Step : Fact → Fact → (Visits → Visits → Type 0) → Type 0
Step one other change = (old new : Visits) (v : Visit) → old.present ≡ Some v → one v → change old new → Becomes other v old new

leads : (one other : Fact) (change : Visits → Visits → Type 0) (a b : Option Visits) → Step one other change → Tells a b change → Leads one other a b
leads one other change None None step told None talks = tt
leads one other change None None step told (Some first) talks = absurd talks
leads one other change (Some a) (Some b) step told None talks = absurd talks
leads one other change None (Some b) step told first talks = absurd told
leads one other change (Some a) None step told first talks = absurd told
leads one other change (Some a) (Some b) step told (Some first) (v, present, fact) =
    let here : a.present ≡ Some v = ap (λ (x : Visits). x.present) present.is in
    let becomes = step a b v here fact told in (
      becomes.visit,
      record {
        rest = present.rest;
        came = present.came ∙ ap (λ (input : List ℕ). input ∷ present.rest) (sym becomes.whole);
        is = becomes.is ∙ ap (λ (x : Visits). with_present x becomes.visit) present.is;
      },
      becomes.fact,
    )

changed : (f : Visit → Visit) (a b : Visits) (v : Visit) → b ≡ at_present f a → a.present ≡ Some v → b ≡ with_present a (f v)
changed f a b v b-is is = b-is ∙ ap (λ (p : Option Visit). (let x : Visits = record { coming = a.coming; present = option_map f p; ended = a.ended } in x)) is

by : (f : Visit → Visit) (one other : Fact) → ((v : Visit) → (f v).taken ++ (f v).left ≡ v.taken ++ v.left) → ((v : Visit) → one v → other (f v)) → Step one other (λ old new. new ≡ at_present f old)
by f one other whole so old new v here fact told = record { visit = f v; is = changed f old new v told here; whole = whole v; fact = so v fact }

-- What is so of the connection without a call.
pub talks_so : (one other : Fact) (a b : Option Visits) → ((v : Visit) → one v → other v) → Talks one a b → Talks other a b
talks_so one other None None so talks = tt
talks_so one other None (Some b) so talks = absurd talks
talks_so one other (Some a) None so talks = absurd talks
talks_so one other (Some a) (Some b) so (v, present, fact) = (v, present, so v fact)

-- ---- what was read and sent so far

pub has_begun : (stream text more : List ℕ) (v : Visit) → HasExchanged stream text v → HasBegun stream (text ++ more) v
has_begun stream text more v e = record {
  behind = [];
  count = length text;
  taken = e.taken ∙ sym (append-nil stream);
  written = e.written ∙ sym (take-append_seam text more);
}

pub begun_so : (stream text : List ℕ) (a b : Option Visits) → Talks (HasExchanged stream text) a b → Talks (HasBegun stream text) a b
begun_so stream text a b talks =
    talks_so (HasExchanged stream text) (HasBegun stream text) a b (λ v e. subst (λ (t : List ℕ). HasBegun stream t v) (append-nil text) (has_begun stream text [] v e)) talks

-- ---- a write

abbrev done : ℕ → Result ℕ Failed
done count = Ok count

pub sent : (stream text bytes : List ℕ) (count : ℕ) (a b : Option Visits) → Tells a b (λ old new. new ≡ at_present (with_write bytes (done count)) old)
    → Leads (HasExchanged stream text) (HasExchanged stream (text ++ take count bytes)) a b
sent stream text bytes count a b told =
    leads (HasExchanged stream text) (HasExchanged stream (text ++ take count bytes)) _ a b
    (by (with_write bytes (done count)) _ _ (λ v. refl) (λ v e. record { taken = e.taken; written = ap (λ (t : List ℕ). t ++ take count bytes) e.written })) told

pub unsent : (stream text more : List ℕ) (a b : Option Visits) → Tells a b (λ old new. new ≡ at_present failed_write old)
    → Leads (HasExchanged stream text) (HasBegun stream (text ++ more)) a b
unsent stream text more a b told =
    leads (HasExchanged stream text) (HasBegun stream (text ++ more)) _ a b
    (by failed_write _ _ (λ v. refl) (λ v e. let begun = has_begun stream text more v e in record { behind = begun.behind; count = begun.count; taken = begun.taken; written = begun.written })) told

-- What is left of the text, as a slice.
abbrev rest_of : List ℕ → ℕ → List ℕ
rest_of bytes at = take (length bytes - at) (drop at bytes)

abbrev pub SentSoFar : List ℕ → ℕ → Option Visits → Option Visits → Type 0
SentSoFar bytes at a b = (stream text : List ℕ) → Leads (HasExchanged stream text) (HasExchanged stream (text ++ take at bytes)) a b

pub nothing_sent : (bytes : List ℕ) (a : Option Visits) → SentSoFar bytes 0 a a
nothing_sent bytes a stream text first talks = subst (λ (t : List ℕ). Talks (HasExchanged stream t) first a) (sym (append-nil text)) talks

pub sent_more : (bytes : List ℕ) (at count : ℕ) (a b c : Option Visits) → SentSoFar bytes at a b → Tells b c (λ old new. new ≡ at_present (with_write (rest_of bytes at) (done count)) old)
    → SentSoFar bytes (at + count) a c
sent_more bytes at count a b c so_far told stream text first talks =
    let whole : (text ++ take at bytes) ++ take count (rest_of bytes at) ≡ text ++ take (at + count) bytes =
    append_assoc text (take at bytes) (take count (rest_of bytes at))
    ∙ ap (λ (t : List ℕ). text ++ (take at bytes ++ take count t)) (take_rest bytes at) ∙ ap (λ (t : List ℕ). text ++ t) (sym (take-add at count bytes)) in
    subst (λ (t : List ℕ). Talks (HasExchanged stream t) first c) whole (sent stream (text ++ take at bytes) (rest_of bytes at) count b c told first (so_far stream text first talks))

pub sent_all : (bytes : List ℕ) (at : ℕ) (a b : Option Visits) → length bytes ≤ at → SentSoFar bytes at a b
    → (stream text : List ℕ) → Leads (HasExchanged stream text) (HasExchanged stream (text ++ bytes)) a b
sent_all bytes at a b whole so_far stream text first talks =
    subst (λ (t : List ℕ). Talks (HasExchanged stream (text ++ t)) first b) (take_all at bytes whole) (so_far stream text first talks)

pub sent_in_part : (bytes : List ℕ) (at : ℕ) (a b c : Option Visits) → SentSoFar bytes at a b → Tells b c (λ old new. new ≡ at_present failed_write old)
    → (stream text : List ℕ) → Leads (HasExchanged stream text) (HasBegun stream (text ++ bytes)) a c
sent_in_part bytes at a b c so_far told stream text first talks =
    let whole : (text ++ take at bytes) ++ drop at bytes ≡ text ++ bytes = append_assoc text (take at bytes) (drop at bytes) ∙ ap (λ (t : List ℕ). text ++ t) (take-append-drop at bytes) in
    subst (λ (t : List ℕ). Talks (HasBegun stream t) first c) whole (unsent stream (text ++ take at bytes) (drop at bytes) b c told first (so_far stream text first talks))

-- ---- a read

tells_both : (one other : Visits → Visits → Type 0) (a b : Option Visits) → Tells a b one → Tells a b other → Tells a b (λ old new. one old new × other old new)
tells_both one other None None first second = tt
tells_both one other None (Some b) first second = absurd first
tells_both one other (Some a) None first second = absurd first
tells_both one other (Some a) (Some b) first second = (first, second)

abbrev ReadsSo : List ℕ → ℕ → Visits → Visits → Type 0
ReadsSo into count old new = ReadsFront old.present into (done count) × (new ≡ at_present (with_read (done count)) old)

read_whole : (v : Visit) (count : ℕ) → (with_read (done count) v).taken ++ (with_read (done count) v).left ≡ v.taken ++ v.left
read_whole v count = append_assoc v.taken (take count v.left) (drop count v.left) ∙ ap (λ (t : List ℕ). v.taken ++ t) (take-append-drop count v.left)

read_step : (stream text into : List ℕ) (count : ℕ) → Step (HasExchanged stream text) (HasExchanged (stream ++ take count into) text) (ReadsSo into count)
read_step stream text into count old new v here e (given, told) =
    let front = subst (λ (p : Option Visit). ReadsFront p into (done count)) here given in
    record {
      visit = with_read (done count) v;
      is = changed (with_read (done count)) old new v told here;
      whole = read_whole v count;
      fact = record { taken = ap (λ (t : List ℕ). t ++ take count v.left) e.taken ∙ ap (λ (t : List ℕ). stream ++ t) (sym front.same); written = e.written };
    }

end_step : (stream text into : List ℕ) (count : ℕ) → count ≡ 0 → 0 < length into → Step (HasExchanged stream text) (HasEnded stream text) (ReadsSo into count)
end_step stream text into count none room old new v here e (given, told) =
    let front = subst (λ (p : Option Visit). ReadsFront p into (done count)) here given in
    record {
      visit = with_read (done count) v;
      is = changed (with_read (done count)) old new v told here;
      whole = read_whole v count;
      fact = record {
        exchanged = record { taken = ap (λ (n : ℕ). v.taken ++ take n v.left) none ∙ append-nil v.taken ∙ e.taken; written = e.written };
        nothing_left = ap (λ (n : ℕ). drop n v.left) none ∙ front.ends none room;
      };
    }

pub read_more : (into : List ℕ) (count : ℕ) (a b : Option Visits) → Tells a b (λ old new. ReadsFront old.present into (done count))
    → Tells a b (λ old new. new ≡ at_present (with_read (done count)) old) → (stream text : List ℕ) → Leads (HasExchanged stream text) (HasExchanged (stream ++ take count into) text) a b
read_more into count a b given told stream text =
    leads (HasExchanged stream text) (HasExchanged (stream ++ take count into) text) (ReadsSo into count) a b (read_step stream text into count) (tells_both _ _ a b given told)

pub read_end : (into : List ℕ) (count : ℕ) (a b : Option Visits) → count ≡ 0 → 0 < length into → Tells a b (λ old new. ReadsFront old.present into (done count))
    → Tells a b (λ old new. new ≡ at_present (with_read (done count)) old) → (stream text : List ℕ) → Leads (HasExchanged stream text) (HasEnded stream text) a b
read_end into count a b none room given told stream text =
    leads (HasExchanged stream text) (HasEnded stream text) (ReadsSo into count) a b (end_step stream text into count none room) (tells_both _ _ a b given told)

-- More was read than the stream has.
read_beyond : (stream text piece : List ℕ) (v : Visit) → HasExchanged (stream ++ piece) text v → HasBegun stream text v
read_beyond stream text piece v e = record { behind = piece; count = length text; taken = e.taken; written = e.written ∙ sym (take_all (length text) text (omega arith)) }

pub read_unused : (into : List ℕ) (count : ℕ) (a b : Option Visits) → Tells a b (λ old new. ReadsFront old.present into (done count))
    → Tells a b (λ old new. new ≡ at_present (with_read (done count)) old) → (stream text : List ℕ) → Leads (HasExchanged stream text) (HasBegun stream text) a b
read_unused into count a b given told stream text first talks =
    talks_so (HasExchanged (stream ++ take count into) text) (HasBegun stream text) first b (read_beyond stream text (take count into)) (read_more into count a b given told stream text first talks)

pub unread : (a b : Option Visits) → Tells a b (λ old new. new ≡ at_present failed_read old) → (stream text : List ℕ) → Leads (HasExchanged stream text) (HasBegun stream text) a b
unread a b told stream text =
    leads (HasExchanged stream text) (HasBegun stream text) _ a b
    (by failed_read _ _ (λ v. refl) (λ v e. record { behind = []; count = length text; taken = e.taken ∙ sym (append-nil stream); written = e.written ∙ sym (take_all (length text) text (omega arith)) })) told

-- ---- its begin and its end

abbrev came : Result Bool Failed
came = Ok true

pub accepted : (a b : Option Visits) → Tells a b (Accepts came) → Talks (HasExchanged [] []) a b
accepted None None told = tt
accepted None (Some b) told = absurd told
accepted (Some a) None told = absurd told
accepted (Some a) (Some b) (input, rest, coming, is) = (begun input, record { rest = rest; came = coming; is = is }, record { taken = refl; written = refl })

pub over : (is : Fact) (a b : Option Visits) → Talks is a b → Visited is a (option_map hung_up b)
over is None None talks = tt
over is None (Some b) talks = absurd talks
over is (Some a) None talks = absurd talks
over is (Some a) (Some b) (v, present, fact) = (v, record { rest = present.rest; came = present.came; is = ap hung_up present.is }, fact)

pub hung_up_is : (a b : Option Visits) → Tells a b (λ old new. new ≡ hung_up old) → b ≡ option_map hung_up a
hung_up_is None None told = refl
hung_up_is None (Some b) told = absurd told
hung_up_is (Some a) None told = absurd told
hung_up_is (Some a) (Some b) told = ap (λ (x : Visits). Some x) told
