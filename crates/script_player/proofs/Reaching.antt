-- Lines are played one after the other.
use Rattle.std.proofs.Common.{◌≡◌, ℕ, zero, suc, ◌+◌, ◌<◌, ◌≤◌, List, [], ◌∷◌, ◌++◌, length, take, drop, get_or, Option, None, Some, refl, sym, ap, ◌∙◌, subst, append_assoc, arith}
use Rattle.std.specs.Prelude.{Err}
use Rattle.std.proofs.lemmas.List.{append-nil, drop_more, length-take-le, take_all, take_more, take-append-drop}
use Rattle.std.proofs.Math.Seq.{take-append-add}
use Rattle.causes.specs.Writing.{Wrote, WroteSome}
use Rattle.edge_io.proofs.Pieces.{Wrote-append}
use Rattle.cluster_script.specs.declared.line.Line.{Line}
use Rattle.cluster_script.specs.Lines.{IsLine}
use Rattle.script_player.specs.declared.replayed.Replayed.{Replayed}
use Rattle.script_player.specs.declared.replayed.Replayed.TheVariants as comes
use Rattle.script_player.specs.declared.script_fault.ScriptFault.{ScriptFault}
use Rattle.script_player.specs.Bounds.{EndsTo, IsPlayed, LineTo, LinesTo}
use Rattle.script_player.specs.Playing.{Play}
use Rattle.script_player.specs.Replaying.{ComesOf, IsCut, end_behind}
use Rattle.script_player.specs.Runs.{Played}
use Rattle.script_player.specs.Scripts.{IsBad, PlaysAll, PlaysAt, end_of}
use Rattle.script_player.specs.Yields.{Yield, joined, nothing}
use Rattle.script_player.proofs.Pumping.{joined_behind, joined_nothing}
use Rattle.script_player.proofs.Running.{is_played}

-- ---- one line more

pub plays_more : (front : List (List ℕ)) (text : List ℕ) (line : Line) (stage mid end : Option Play) (y z : Yield) → PlaysAll front stage y mid → IsLine text line → PlaysAt mid line z end → PlaysAll (front ++ text ∷ []) stage (joined y z) end
unfolding PlaysAll
plays_more [] text line stage mid end y z plays is here =
    let there : PlaysAt stage line z end = subst (λ (o : Option Play). PlaysAt o line z end) plays.1 here in
    let whole : joined y z ≡ joined z nothing = ap (λ (v : Yield). joined v z) plays.0 ∙ sym (joined_nothing z) in
    (line, z, end, nothing, is, there, (refl, refl), whole)
plays_more (first ∷ others) text line stage mid end y z plays is here =
    let behind = plays_more others text line plays.2 mid end plays.3 z plays.6 is here in
    let whole : joined y z ≡ joined plays.1 (joined plays.3 z) = ap (λ (v : Yield). joined v z) plays.7 ∙ joined_behind plays.1 plays.3 z in
    (plays.0, plays.1, plays.2, joined plays.3 z, plays.4, plays.5, behind, whole)

-- ---- what was written

pub nothing_wrote : (now : Option (List ℕ)) → Wrote now now []
nothing_wrote None = tt
nothing_wrote (Some bytes) = sym (append-nil bytes)

front_of : (xs ys : List ℕ) → (j : ℕ) × (take j (xs ++ ys) ≡ xs)
front_of [] ys = (0, refl)
front_of (x ∷ xs) ys = let rest = front_of xs ys in (suc rest.0, ap (λ (zs : List ℕ). x ∷ zs) rest.1)

part_of : (k : ℕ) (xs ys : List ℕ) → (j : ℕ) × (take j (xs ++ ys) ≡ take k xs)
part_of zero xs ys = (0, refl)
part_of (suc k) [] ys = (0, refl)
part_of (suc k) (x ∷ xs) ys = let rest = part_of k xs ys in (suc rest.0, ap (λ (zs : List ℕ). x ∷ zs) rest.1)

wrote_all : (before now : Option (List ℕ)) (text more : List ℕ) → Wrote before now text → WroteSome before now (text ++ more)
wrote_all before now text more wrote = let front = front_of text more in (front.0, subst (λ (t : List ℕ). Wrote before now t) (sym front.1) wrote)

wrote_part : (before mid now : Option (List ℕ)) (text more : List ℕ) → Wrote before mid text → WroteSome mid now more → WroteSome before now (text ++ more)
wrote_part before mid now text more wrote some =
    (length text + some.0, subst (λ (t : List ℕ). Wrote before now t) (sym (take-append-add text more some.0)) (Wrote-append before mid now text (take some.0 more) wrote some.1))

wrote_longer : (before now : Option (List ℕ)) (text more : List ℕ) → WroteSome before now text → WroteSome before now (text ++ more)
wrote_longer before now text more some = let part = part_of some.0 text more in (part.0, subst (λ (t : List ℕ). Wrote before now t) (sym part.1) some.1)

-- ---- so many lines

pub record Reaches (lines : List (List ℕ)) (count : ℕ) (stage : Option Play) (before now : Option (List ℕ)) : Type 0 where
  pub came : Yield
  pub plays : PlaysAll (take count lines) None came stage
  pub printed : Wrote before now came.text

pub reach_none : (lines : List (List ℕ)) (stage : Option Play) (before : Option (List ℕ)) → stage ≡ None → Reaches lines 0 stage before before
unfolding PlaysAll
reach_none lines stage before none = record { came = nothing; plays = (refl, none); printed = nothing_wrote before }

pub reach_more : (lines : List (List ℕ)) (count : ℕ) (text : List ℕ) (stage next : Option Play) (before mid now : Option (List ℕ)) → Reaches lines count stage before mid → count < length lines → text ≡ get_or lines count text
    → IsPlayed (λ y. Wrote mid now y.text) text stage next → Reaches lines (count + 1) next before now
reach_more lines count text stage next before mid now reaches less at played =
    let longer : take (count + 1) lines ≡ take count lines ++ text ∷ [] = take_more lines count text less ∙ ap (λ (t : List ℕ). take count lines ++ t ∷ []) (sym at) in
    record {
      came = joined reaches.came played.1;
      plays = subst (λ (ls : List (List ℕ)). PlaysAll ls None (joined reaches.came played.1) next) (sym longer)
          (plays_more (take count lines) text played.0 None stage next reaches.came played.1 reaches.plays played.2 played.3);
      printed = Wrote-append before mid now reaches.came.text played.1.text reaches.printed played.4;
    }

pub reach_all : (lines : List (List ℕ)) (count : ℕ) (stage : Option Play) (before now : Option (List ℕ)) → Reaches lines count stage before now → length lines ≤ count → (y : Yield) × Played lines y stage × Wrote before now y.text
reach_all lines count stage before now reaches past =
    (reaches.came, is_played lines reaches.came stage (subst (λ (ls : List (List ℕ)). PlaysAll ls None reaches.came stage) (take_all count lines past) reaches.plays), reaches.printed)

-- ---- the end

cut_at : (lines : List (List ℕ)) (count : ℕ) (text : List ℕ) → count < length lines → text ≡ get_or lines count text → lines ≡ take count lines ++ text ∷ drop (count + 1) lines
cut_at lines count text less at =
    let here : drop count lines ≡ text ∷ drop (count + 1) lines = drop_more lines count text less ∙ ap (λ (t : List ℕ). t ∷ drop (count + 1) lines) (sym at) in
    sym (take-append-drop count lines) ∙ ap (λ (ls : List (List ℕ)). take count lines ++ ls) here

stops_bad : (lines : List (List ℕ)) (count number : ℕ) (text : List ℕ) (stage : Option Play) (before mid now : Option (List ℕ)) (line : ℕ) (fault : ScriptFault) → number ≡ count + 1 → Reaches lines count stage before mid → count < length lines
    → text ≡ get_or lines count text → line ≡ number → IsBad stage text fault → now ≡ mid → ComesOf (comes.BadScript line fault) lines before now
stops_bad lines count number text stage before mid now line fault number_is reaches less at line_is bad same = record {
  front = take count lines;
  bad = text;
  rest = drop (count + 1) lines;
  lines_are = cut_at lines count text less at;
  number_is = line_is ∙ (number_is ∙ (let size : length (take count lines) ≡ count = length-take-le count lines (omega (arith, less)) in ap (λ (n : ℕ). n + 1) (sym size)));
  came = reaches.came;
  stage = stage;
  played = is_played (take count lines) reaches.came stage reaches.plays;
  is_bad = bad;
  printed = subst (λ (o : Option (List ℕ)). Wrote before o reaches.came.text) (sym same) reaches.printed;
}

stops_before : (lines : List (List ℕ)) (count : ℕ) (text : List ℕ) (stage : Option Play) (before mid now : Option (List ℕ)) → Reaches lines count stage before mid → count < length lines → text ≡ get_or lines count text → now ≡ mid → IsCut lines before now
stops_before lines count text stage before mid now reaches less at same = record {
  front = take count lines;
  rest = text ∷ drop (count + 1) lines;
  lines_are = cut_at lines count text less at;
  came = reaches.came;
  stage = stage;
  played = is_played (take count lines) reaches.came stage reaches.plays;
  printed = wrote_all before now reaches.came.text [] (subst (λ (o : Option (List ℕ)). Wrote before o reaches.came.text) (sym same) reaches.printed);
}

stops_in : (lines : List (List ℕ)) (count : ℕ) (text : List ℕ) (stage next : Option Play) (before mid now : Option (List ℕ)) → Reaches lines count stage before mid → count < length lines → text ≡ get_or lines count text
    → IsPlayed (λ y. WroteSome mid now y.text) text stage next → IsCut lines before now
stops_in lines count text stage next before mid now reaches less at played = record {
  front = take count lines ++ text ∷ [];
  rest = drop (count + 1) lines;
  lines_are = cut_at lines count text less at ∙ sym (append_assoc (take count lines) (text ∷ []) (drop (count + 1) lines));
  came = joined reaches.came played.1;
  stage = next;
  played = is_played (take count lines ++ text ∷ []) (joined reaches.came played.1) next (plays_more (take count lines) text played.0 None stage next reaches.came played.1 reaches.plays played.2 played.3);
  printed = wrote_longer before now (reaches.came.text ++ played.1.text) (end_behind (drop (count + 1) lines) next) (wrote_part before mid now reaches.came.text played.1.text reaches.printed played.4);
}

pub stops_at : (replayed : Replayed) (lines : List (List ℕ)) (count number : ℕ) (text : List ℕ) (stage next : Option Play) (before mid now : Option (List ℕ)) → number ≡ count + 1 → Reaches lines count stage before mid → count < length lines
    → text ≡ get_or lines count text → LineTo {T = Unit {0}} (Err replayed) number text stage next mid now → LinesTo {T = Unit {0}} (Err replayed) lines next before now
stops_at comes.Done lines count number text stage next before mid now number_is reaches less at line = absurd line
stops_at (comes.BadScript l fault) lines count number text stage next before mid now number_is reaches less at line =
    stops_bad lines count number text stage before mid now l fault number_is reaches less at line.0 line.1 line.2
stops_at comes.ReadFault lines count number text stage next before mid now number_is reaches less at line = absurd line
stops_at comes.WriteFault lines count number text stage next before mid now number_is reaches less at line = stops_in lines count text stage next before mid now reaches less at line
stops_at comes.NoMemory lines count number text stage next before mid now number_is reaches less at line = stops_before lines count text stage before mid now reaches less at line
stops_at comes.TooLong lines count number text stage next before mid now number_is reaches less at line = absurd line

-- ---- the last line

pub stopped : (replayed : Replayed) (lines : List (List ℕ)) (stage : Option Play) (before now : Option (List ℕ)) → LinesTo {T = Unit {0}} (Err replayed) lines stage before now → ComesOf replayed lines before now
stopped comes.Done lines stage before now stops = absurd stops
stopped (comes.BadScript line fault) lines stage before now stops = stops
stopped comes.ReadFault lines stage before now stops = stops
stopped comes.WriteFault lines stage before now stops = stops
stopped comes.NoMemory lines stage before now stops = stops
stopped comes.TooLong lines stage before now stops = stops

all_but : (lines : List (List ℕ)) (y : Yield) (end : Option Play) (before now : Option (List ℕ)) → Played lines y end → WroteSome before now (y.text ++ end_of end) → IsCut lines before now
all_but lines y end before now played printed = record { front = lines; rest = []; lines_are = sym (append-nil lines); came = y; stage = end; played = played; printed = printed }

pub ends : (replayed : Replayed) (lines : List (List ℕ)) (end : Option Play) (before mid now : Option (List ℕ)) → (y : Yield) → Played lines y end → Wrote before mid y.text → EndsTo replayed (end_of end) mid now → ComesOf replayed lines before now
ends comes.Done lines end before mid now y played printed last = record { came = y; end = end; played = played; printed = Wrote-append before mid now y.text (end_of end) printed last }
ends (comes.BadScript line fault) lines end before mid now y played printed last = absurd last
ends comes.ReadFault lines end before mid now y played printed last = absurd last
ends comes.WriteFault lines end before mid now y played printed last = all_but lines y end before now played (wrote_part before mid now y.text (end_of end) printed last)
ends comes.NoMemory lines end before mid now y played printed last =
    all_but lines y end before now played (wrote_all before now y.text (end_of end) (subst (λ (o : Option (List ℕ)). Wrote before o y.text) (sym last) printed))
ends comes.TooLong lines end before mid now y played printed last = absurd last

-- ---- the lines to come

abbrev none : List (List ℕ)
none = []

drop_none : (count : ℕ) → drop count none ≡ []
drop_none zero = refl
drop_none (suc count) = refl

first_is : (a b : List ℕ) (xs ys : List (List ℕ)) → a ∷ xs ≡ b ∷ ys → a ≡ b
first_is a b xs ys is = cc is

rest_is : (a b : List ℕ) (xs ys : List (List ℕ)) → a ∷ xs ≡ b ∷ ys → xs ≡ ys
rest_is a b xs ys is = cc is

-- The next line, and those behind it.
pub next_line : (lines : List (List ℕ)) (count : ℕ) (text : List ℕ) (others : List (List ℕ)) → drop count lines ≡ text ∷ others → (count < length lines) × (text ≡ get_or lines count text) × (drop (count + 1) lines ≡ others)
next_line [] count text others is = absurd (cc (sym (drop_none count) ∙ is))
next_line (line ∷ lines) zero text others is = (omega arith, sym (first_is line text lines others is), rest_is line text lines others is)
next_line (line ∷ lines) (suc count) text others is = let rest = next_line lines count text others is in (
  let less = rest.0 in omega (arith, less),
  rest.1,
  let more : suc count + 1 ≡ suc (count + 1) = omega arith in ap (λ (n : ℕ). drop n (line ∷ lines)) more ∙ rest.2,
)

pub no_line : (lines : List (List ℕ)) (count : ℕ) → drop count lines ≡ [] → length lines ≤ count
no_line [] count is = omega arith
no_line (line ∷ lines) zero is = absurd (cc is)
no_line (line ∷ lines) (suc count) is = let rest = no_line lines count is in omega (arith, rest)
