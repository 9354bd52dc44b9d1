-- What each call makes of the connection that is present at the door.
use Rattle.std.proofs.Common.{◌≡◌, inl, inr, ℕ, ◌+◌, ◌-◌, ◌^◌, ◌<◌, ◌≤◌, Bool, true, false, List, [], ◌∷◌, ◌++◌, length, min, take, drop, Option, Some, None, refl, sym, ap, ◌∙◌, subst, append_assoc, arith}
use Rattle.std.specs.Prelude.{Result, Ok, Err, map}
use Rattle.std.specs.Option.{option_map}
use Rattle.std.proofs.lemmas.List.{append-nil, map-append, take-append-drop, take-append-le, take_all, take_min, take_rest}
use Rattle.std.proofs.Math.Seq.{take-add, take-append_seam}
use Rattle.edge_io.specs.declared.failed.Failed.{Failed}
use Rattle.edge_io.specs.Visits.{Accepts, ReadsFront, Tells, Visit, Visits, at_present, begun, failed_read, failed_write, hung_up, with_read, with_write}
use Rattle.single_server.specs.Serving.{Visited}
use Rattle.single_server.specs.Session.{most_stream}
use Rattle.single_server.specs.Talking.{Exchanged, Fact, HasVisited, IsEndAt, IsUnread, Leads, NoneComes, Says, Talks, VisitsNone, VisitsOne}
use Rattle.single_server.specs.Visits.{input_of}

-- ---- any change

abbrev with_present : Visits → Visit → Visits
with_present visits visit = record { coming = visits.coming; present = Some visit; ended = visits.ended }

-- Of the connection that is present the one was so; now it is this one, and the other is so.
record Becomes (other : Fact) (v : Visit) (old new : Visits) : Type 0 where
  pub visit : Visit
  pub is : new ≡ with_present old visit
  pub whole : input_of visit ≡ input_of v
  pub fact : other visit

abbrev Step : Fact → Fact → (Visits → Visits → Type 0) → Type 0
Step one other change = (old new : Visits) (v : Visit) → old.present ≡ Some v → one v → change old new → Becomes other v old new

leads : (one other : Fact) (change : Visits → Visits → Type 0) (a b : Option Visits) → Step one other change → Tells a b change → Leads one other a b
leads one other change None None step told None talks = tt
leads one other change None None step told (Some first) talks = absurd talks
leads one other change (Some a) (Some b) step told None talks = absurd talks
leads one other change None (Some b) step told first talks = absurd told
leads one other change (Some a) None step told first talks = absurd told
leads one other change (Some a) (Some b) step told (Some first) (v, present, fact) =
    let here : a.present ≡ Some v = ap (λ (x : Visits). x.present) present.is in
    let becomes = step a b v here fact told in (
      becomes.visit,
      record {
        rest = present.rest;
        came = present.came ∙ ap (λ (input : List ℕ). input ∷ present.rest) (sym becomes.whole);
        is = becomes.is ∙ ap (λ (x : Visits). with_present x becomes.visit) present.is;
      },
      becomes.fact,
    )

changed : (f : Visit → Visit) (a b : Visits) (v : Visit) → b ≡ at_present f a → a.present ≡ Some v → b ≡ with_present a (f v)
changed f a b v b-is is = b-is ∙ ap (λ (p : Option Visit). (let x : Visits = record { coming = a.coming; present = option_map f p; ended = a.ended } in x)) is

by : (f : Visit → Visit) (one other : Fact) → ((v : Visit) → input_of (f v) ≡ input_of v) → ((v : Visit) → one v → other (f v)) → Step one other (λ old new. new ≡ at_present f old)
by f one other whole so old new v here fact told = record { visit = f v; is = changed f old new v told here; whole = whole v; fact = so v fact }

-- What is so of the connection without a call.
pub talks_so : (one other : Fact) (a b : Option Visits) → ((v : Visit) → one v → other v) → Talks one a b → Talks other a b
talks_so one other None None so talks = tt
talks_so one other None (Some b) so talks = absurd talks
talks_so one other (Some a) None so talks = absurd talks
talks_so one other (Some a) (Some b) so (v, present, fact) = (v, present, so v fact)

pub leads_so : (one other last : Fact) (a b : Option Visits) → ((v : Visit) → other v → last v) → Leads one other a b → Leads one last a b
leads_so one other last a b so goes first talks = talks_so other last first b so (goes first talks)

pub leads_both : (one other last : Fact) (a b c : Option Visits) → Leads one other a b → Leads other last b c → Leads one last a c
leads_both one other last a b c goes further first talks = further first (goes first talks)

-- ---- what was told

pub says_nothing : (before : Bool) (a : Option Visits) → Says [] before before a a
says_nothing before a stream front first talks = subst (λ (t : List ℕ). Talks (Exchanged stream t before) first a) (sym (append-nil front)) talks

pub says_none : (text : List ℕ) (before now : Bool) (a b : Option Visits) → text ≡ [] → now ≡ before → b ≡ a → Says text before now a b
says_none text before now a b none same still =
    subst (λ (t : List ℕ). Says t before now a b) (sym none) (subst (λ (n : Bool). Says [] before n a b) (sym same) (subst (λ (x : Option Visits). Says [] before before a x) (sym still) (says_nothing before a)))

pub says_both : (one other : List ℕ) (before between now : Bool) (a b c : Option Visits) → Says one before between a b → Says other between now b c → Says (one ++ other) before now a c
says_both one other before between now a b c first second stream front origin talks =
    subst (λ (t : List ℕ). Talks (Exchanged stream t now) origin c) (append_assoc front one other) (second stream (front ++ one) origin (first stream front origin talks))

front_still : (count : ℕ) (x y written : List ℕ) → written ≡ take count x → written ≡ take (min count (length x)) (x ++ y)
front_still count x y written is = is ∙ sym (take-append-le (min count (length x)) x y (omega arith) ∙ take_min count x)

-- Nothing is sent to a connection that is broken.
pub broken_says : (text : List ℕ) (a : Option Visits) → Says text true true a a
broken_says text a stream front first talks =
    talks_so (Exchanged stream front true) (Exchanged stream (front ++ text) true) first a
    (λ v e. record { taken = e.taken; sent = (e.sent.0, min e.sent.1 (length front), front_still e.sent.1 front text v.written e.sent.2) }) talks

-- ---- a write

abbrev done : ℕ → Result ℕ Failed
done count = Ok count

sent : (piece : List ℕ) (count : ℕ) (a b : Option Visits) → Tells a b (λ old new. new ≡ at_present (with_write piece (done count)) old) → Says (take count piece) false false a b
sent piece count a b told stream front =
    leads (Exchanged stream front false) (Exchanged stream (front ++ take count piece) false) _ a b
    (by (with_write piece (done count)) _ _ (λ v. refl) (λ v e. record { taken = e.taken; sent = (e.sent.0, ap (λ (t : List ℕ). t ++ take count piece) e.sent.1) })) told

some_more : (count : ℕ) → 0 < min (count + 1) (2 ^ 64 - 1)
some_more count = omega arith

unsent : (text : List ℕ) (a b : Option Visits) → Tells a b (λ old new. new ≡ at_present failed_write old) → Says text false true a b
unsent text a b told stream front =
    leads (Exchanged stream front false) (Exchanged stream (front ++ text) true) _ a b
    (by failed_write _ _ (λ v. refl) (λ v e. record { taken = e.taken; sent = (some_more v.failed_writes, length front, e.sent.1 ∙ sym (take-append_seam front text)) })) told

-- What is left of the text, as a slice.
abbrev rest_of : List ℕ → ℕ → List ℕ
rest_of bytes at = take (length bytes - at) (drop at bytes)

pub nothing_sent : (bytes : List ℕ) (a : Option Visits) → Says (take 0 bytes) false false a a
nothing_sent bytes a = says_nothing false a

pub sent_more : (bytes : List ℕ) (at count : ℕ) (a b c : Option Visits) → Says (take at bytes) false false a b → Tells b c (λ old new. new ≡ at_present (with_write (rest_of bytes at) (done count)) old)
    → Says (take (at + count) bytes) false false a c
sent_more bytes at count a b c so_far told =
    let whole : take at bytes ++ take count (rest_of bytes at) ≡ take (at + count) bytes = ap (λ (t : List ℕ). take at bytes ++ take count t) (take_rest bytes at) ∙ sym (take-add at count bytes) in
    subst (λ (t : List ℕ). Says t false false a c) whole (says_both (take at bytes) (take count (rest_of bytes at)) false false false a b c so_far (sent (rest_of bytes at) count b c told))

pub sent_all : (bytes : List ℕ) (at : ℕ) (a b : Option Visits) → length bytes ≤ at → Says (take at bytes) false false a b → Says bytes false false a b
sent_all bytes at a b whole so_far = subst (λ (t : List ℕ). Says t false false a b) (take_all at bytes whole) so_far

pub sent_in_part : (bytes : List ℕ) (at : ℕ) (a b c : Option Visits) → Says (take at bytes) false false a b → Tells b c (λ old new. new ≡ at_present failed_write old) → Says bytes false true a c
sent_in_part bytes at a b c so_far told =
    subst (λ (t : List ℕ). Says t false true a c) (take-append-drop at bytes) (says_both (take at bytes) (drop at bytes) false false true a b c so_far (unsent (drop at bytes) b c told))

-- ---- a read

tells_both : (one other : Visits → Visits → Type 0) (a b : Option Visits) → Tells a b one → Tells a b other → Tells a b (λ old new. one old new × other old new)
tells_both one other None None first second = tt
tells_both one other None (Some b) first second = absurd first
tells_both one other (Some a) None first second = absurd first
tells_both one other (Some a) (Some b) first second = (first, second)

abbrev ReadsSo : List ℕ → ℕ → Visits → Visits → Type 0
ReadsSo into count old new = ReadsFront old.present into (done count) × (new ≡ at_present (with_read (done count)) old)

read_whole : (v : Visit) (count : ℕ) → input_of (with_read (done count) v) ≡ input_of v
read_whole v count = append_assoc v.taken (take count v.left) (drop count v.left) ∙ ap (λ (t : List ℕ). v.taken ++ t) (take-append-drop count v.left)

module _ (stream text into : List ℕ) (count : ℕ) where
  taken_more : (v : Visit) → Exchanged stream text false v → take count into ≡ take count v.left → Exchanged (stream ++ take count into) text false (with_read (done count) v)
  taken_more v e same = record { taken = ap (λ (t : List ℕ). t ++ take count v.left) e.taken ∙ ap (λ (t : List ℕ). stream ++ t) (sym same); sent = e.sent }

  read_step : Step (Exchanged stream text false) (Exchanged (stream ++ take count into) text false) (ReadsSo into count)
  read_step old new v here e (given, told) =
      let front = subst (λ (p : Option Visit). ReadsFront p into (done count)) here given in
      record { visit = with_read (done count) v; is = changed (with_read (done count)) old new v told here; whole = read_whole v count; fact = taken_more v e front.same }

  module _ (taken : ℕ) where
    end_step : count ≡ 0 → 0 < length into → Step (Exchanged stream text false) (IsEndAt taken stream (take count into) text) (ReadsSo into count)
    end_step none room old new v here e (given, told) =
        let front = subst (λ (p : Option Visit). ReadsFront p into (done count)) here given in
        record {
          visit = with_read (done count) v;
          is = changed (with_read (done count)) old new v told here;
          whole = read_whole v count;
          fact = record {
            exchanged = taken_more v e front.same;
            ends = inl (ap (λ (n : ℕ). take n into) none, ap (λ (n : ℕ). drop n v.left) none ∙ front.ends none room);
          };
        }

    over_step : most_stream < taken + length (take count into) → Step (Exchanged stream text false) (IsEndAt taken stream (take count into) text) (ReadsSo into count)
    over_step much old new v here e (given, told) =
        let front = subst (λ (p : Option Visit). ReadsFront p into (done count)) here given in
        record {
          visit = with_read (done count) v;
          is = changed (with_read (done count)) old new v told here;
          whole = read_whole v count;
          fact = record { exchanged = taken_more v e front.same; ends = inr much };
        }

module _ (into : List ℕ) (count : ℕ) (a b : Option Visits) (given : Tells a b (λ old new. ReadsFront old.present into (done count))) (told : Tells a b (λ old new. new ≡ at_present (with_read (done count)) old)) where
  pub read_more : (stream text : List ℕ) → Leads (Exchanged stream text false) (Exchanged (stream ++ take count into) text false) a b
  read_more stream text = leads _ _ (ReadsSo into count) a b (read_step stream text into count) (tells_both _ _ a b given told)

  pub read_end : (taken : ℕ) → count ≡ 0 → 0 < length into → (stream text : List ℕ) → Leads (Exchanged stream text false) (IsEndAt taken stream (take count into) text) a b
  read_end taken none room stream text = leads _ _ (ReadsSo into count) a b (end_step stream text into count taken none room) (tells_both _ _ a b given told)

  pub read_over : (taken : ℕ) → most_stream < taken + length (take count into) → (stream text : List ℕ) → Leads (Exchanged stream text false) (IsEndAt taken stream (take count into) text) a b
  read_over taken much stream text = leads _ _ (ReadsSo into count) a b (over_step stream text into count taken much) (tells_both _ _ a b given told)

pub unread : (a b : Option Visits) → Tells a b (λ old new. new ≡ at_present failed_read old) → (stream text : List ℕ) → Leads (Exchanged stream text false) (IsUnread stream text) a b
unread a b told stream text =
    leads (Exchanged stream text false) (IsUnread stream text) _ a b
    (by failed_read _ _ (λ v. refl) (λ v e. record { exchanged = record { taken = e.taken; sent = e.sent }; failed = some_more v.failed_reads })) told

-- ---- its begin and its end

abbrev came : Result Bool Failed
came = Ok true

pub accepted : (a b : Option Visits) → Tells a b (Accepts came) → Talks (Exchanged [] [] false) a b
accepted None None told = tt
accepted None (Some b) told = absurd told
accepted (Some a) None told = absurd told
accepted (Some a) (Some b) (input, rest, coming, is) = (begun input, record { rest = rest; came = coming; is = is }, record { taken = refl; sent = (refl, refl) })

pub ends_visit : (is : Fact) (a b c : Option Visits) → Talks is a b → Tells b c (λ old new. new ≡ hung_up old) → VisitsOne is a c
ends_visit is None None None talks told = tt
ends_visit is None None (Some c) talks told = absurd told
ends_visit is None (Some b) c talks told = absurd talks
ends_visit is (Some a) None c talks told = absurd talks
ends_visit is (Some a) (Some b) None talks told = absurd told
ends_visit is (Some a) (Some b) (Some c) (v, present, fact) told =
    let there : c ≡ record { coming = present.rest; present = None; ended = (hung_up a).ended ++ v ∷ [] } = told ∙ ap hung_up present.is in
    let rest : present.rest ≡ c.coming = sym (ap (λ (x : Visits). x.coming) there) in (
      v,
      fact,
      record {
        inputs = present.came ∙ ap (λ (l : List (List ℕ)). input_of v ∷ l) rest;
        is = there ∙ ap (λ (l : List (List ℕ)). (let x : Visits = record { coming = l; present = None; ended = (hung_up a).ended ++ v ∷ [] } in x)) rest;
      },
    )

-- ---- one after another

ended_then : (visits more : List Visit) (a b c : Visits) → Visited visits a b → Visited more b c → Visited (visits ++ more) a c
ended_then visits more a b c first second = record {
  inputs = first.inputs ∙ ap (λ (l : List (List ℕ)). map input_of visits ++ l) second.inputs
      ∙ sym (append_assoc (map input_of visits) (map input_of more) c.coming) ∙ ap (λ (l : List (List ℕ)). l ++ c.coming) (sym (map-append input_of visits more));
  is = second.is
      ∙ ap (λ (l : List Visit). (let x : Visits = record { coming = c.coming; present = None; ended = l ++ more } in x)) (ap (λ (x : Visits). (hung_up x).ended) first.is ∙ append-nil ((hung_up a).ended ++ visits))
      ∙ ap (λ (l : List Visit). (let x : Visits = record { coming = c.coming; present = None; ended = l } in x)) (append_assoc (hung_up a).ended visits more);
}

-- Visits of which something is so, and another one.
abbrev pub VisitedSo : (List Visit → Type 0) → Option Visits → Option Visits → Type 0
VisitedSo so old now = Tells old now (λ old new. (visits : List Visit) × so visits × Visited visits old new)

pub visited_more : (so : List Visit → Type 0) (is : Fact) (a b c : Option Visits) → VisitedSo so a b → VisitsOne is b c
    → Tells a c (λ old new. (visits : List Visit) × (visit : Visit) × so visits × is visit × Visited (visits ++ visit ∷ []) old new)
visited_more so is None None None first one = tt
visited_more so is None None (Some c) first one = absurd one
visited_more so is None (Some b) c first one = absurd first
visited_more so is (Some a) None c first one = absurd first
visited_more so is (Some a) (Some b) None first one = absurd one
visited_more so is (Some a) (Some b) (Some c) (visits, fact, first) (v, has, one) = (visits, v, fact, has, ended_then visits (v ∷ []) a b c first one)

pub visited_one : (so other : List Visit → Type 0) (is : Fact) (a b c : Option Visits) → ((visits : List Visit) (v : Visit) → so visits → is v → other (visits ++ v ∷ [])) → VisitedSo so a b → VisitsOne is b c → VisitedSo other a c
visited_one so other is None None None goes first one = tt
visited_one so other is None None (Some c) goes first one = absurd one
visited_one so other is None (Some b) c goes first one = absurd first
visited_one so other is (Some a) None c goes first one = absurd first
visited_one so other is (Some a) (Some b) None goes first one = absurd one
visited_one so other is (Some a) (Some b) (Some c) goes (visits, fact, first) (v, has, one) = (visits ++ v ∷ [], goes visits v fact has, ended_then visits (v ∷ []) a b c first one)

hung_still : (visits : List Visit) (a b c : Visits) → Visited visits a b → c ≡ hung_up b → Visited visits a c
hung_still visits a b c first same =
    let still : c ≡ b = same ∙ ap hung_up first.is ∙ ap (λ (l : List Visit). (let x : Visits = record { coming = b.coming; present = None; ended = l } in x)) (append-nil ((hung_up a).ended ++ visits)) ∙ sym first.is in
    subst (λ (x : Visits). Visited visits a x) (sym still) first

pub visited_none : (so : List Visit → Type 0) (a b c : Option Visits) → VisitedSo so a b → VisitsNone b c → VisitedSo so a c
visited_none so None None None first none = tt
visited_none so None None (Some c) first none = absurd none
visited_none so None (Some b) c first none = absurd first
visited_none so (Some a) None c first none = absurd first
visited_none so (Some a) (Some b) None first none = absurd none
visited_none so (Some a) (Some b) (Some c) (visits, fact, first) none = (visits, fact, hung_still visits a b c first none)

pub visited_first : (so : List Visit → Type 0) (a b : Option Visits) → so [] → HasVisited [] a b → VisitedSo so a b
visited_first so None None none first = tt
visited_first so None (Some b) none first = absurd first
visited_first so (Some a) None none first = absurd first
visited_first so (Some a) (Some b) none first = ([], none, first)

-- ---- no connection is accepted

abbrev no_more : Result Bool Failed
no_more = Ok false

pub none_came : (a b : Option Visits) → Tells a b (Accepts no_more) → VisitsNone a b × NoneComes b
none_came None None told = (tt, tt)
none_came None (Some b) told = absurd told
none_came (Some a) None told = absurd told
none_came (Some a) (Some b) (none, is) = (is, ap (λ (x : Visits). x.coming) is ∙ none)

abbrev refused : Failed → Result Bool Failed
refused fault = Err fault

pub not_accepted : (fault : Failed) (a b : Option Visits) → Tells a b (Accepts (refused fault)) → VisitsNone a b
not_accepted fault None None told = tt
not_accepted fault None (Some b) told = absurd told
not_accepted fault (Some a) None told = absurd told
not_accepted fault (Some a) (Some b) told = told

pub first_visit : (a b : Option Visits) → Tells a b (λ old new. new ≡ hung_up old) → HasVisited [] a b
first_visit None None told = tt
first_visit None (Some b) told = absurd told
first_visit (Some a) None told = absurd told
first_visit (Some a) (Some b) told = record {
  inputs = sym (ap (λ (x : Visits). x.coming) told);
  is = told ∙ ap (λ (l : List (List ℕ)). (let x : Visits = record { coming = l; present = None; ended = (hung_up a).ended } in x)) (sym (ap (λ (x : Visits). x.coming) told))
      ∙ ap (λ (l : List Visit). (let x : Visits = record { coming = b.coming; present = None; ended = l } in x)) (sym (append-nil (hung_up a).ended));
}
