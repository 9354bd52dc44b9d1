-- The words ask for one command, which ends as it may.
use Rattle.std.proofs.Common.{◌≡◌, ℕ, ◌<◌, List, Option, Some, refl, sym, inl, inr, subst}
use Rattle.causes.specs.Counts.{Rose}
use Rattle.command_words.specs.Commands.{Asked, Asks, ask, drill, export, format, replay, serve, session, showlog}
use Rattle.clus_cli.specs.declared.status.Status.{Status}
use Rattle.clus_cli.specs.declared.status.Status.TheVariants as statuses
use Rattle.disk_core.specs.Views.{DiskView}
use Rattle.clus_cli.specs.Asking.{MayAsk}
use Rattle.clus_cli.specs.Commands.{AsksNode, AsksOfDisk, FormatEnds}
use Rattle.clus_cli.specs.Ends.{Ends, MayEnd, MayPrint, Outside, calls}
use Rattle.clus_cli.specs.Export.{ExportRuns}
use Rattle.clus_cli.specs.Scripts.{MayDrill, MayReplay}
use Rattle.clus_cli.specs.Showlog.{Prints, Refuses, ShowRuns}

-- ---- one command

pub format_may : (most : ℕ) (status : Status) (v w : Outside) → FormatEnds v.disk status w.disk → MayEnd (format most) status v w
format_may most statuses.Done v w ends = tt
format_may most statuses.DiskFault v w ends = ends.1
format_may most (statuses.Fenced held) v w ends = ends
format_may most (statuses.BadScript line fault) v w ends = absurd ends
format_may most statuses.ReadFault v w ends = absurd ends
format_may most statuses.WriteFault v w ends = absurd ends
format_may most statuses.NoMemory v w ends = tt
format_may most statuses.Usage v w ends = absurd ends
format_may most (statuses.BadLog place) v w ends = absurd ends
format_may most statuses.TooLong v w ends = absurd ends
format_may most (statuses.BadCommand line column) v w ends = absurd ends
format_may most (statuses.BadReply place) v w ends = absurd ends
format_may most statuses.NoPeer v w ends = absurd ends

refused_may : (status : Status) (v w : Outside) → Refuses v.disk status w.disk → MayPrint status v w
refused_may (statuses.BadLog place) v w why = why.1
refused_may statuses.DiskFault v w why = why.1
refused_may (statuses.Fenced held) v w why = why
refused_may statuses.NoMemory v w why = tt
refused_may statuses.Done v w why = tt
refused_may (statuses.BadScript line fault) v w why = absurd why
refused_may statuses.ReadFault v w why = absurd why
refused_may statuses.WriteFault v w why = absurd why
refused_may statuses.Usage v w why = absurd why
refused_may statuses.TooLong v w why = absurd why
refused_may (statuses.BadCommand line column) v w why = absurd why
refused_may (statuses.BadReply place) v w why = absurd why
refused_may statuses.NoPeer v w why = absurd why

printed_may : (before : Option (List ℕ)) (text : List ℕ) (status : Status) (now : Option (List ℕ)) (v w : Outside) → Prints before text status now
    → (status ≡ statuses.WriteFault → Rose v.writes w.writes) → MayPrint status v w
printed_may before text statuses.Done now v w prints write = tt
printed_may before text statuses.WriteFault now v w prints write = write refl
printed_may before text statuses.NoMemory now v w prints write = tt
printed_may before text (statuses.BadScript line fault) now v w prints write = absurd prints
printed_may before text statuses.ReadFault now v w prints write = absurd prints
printed_may before text statuses.DiskFault now v w prints write = absurd prints
printed_may before text statuses.Usage now v w prints write = absurd prints
printed_may before text (statuses.BadLog place) now v w prints write = absurd prints
printed_may before text (statuses.Fenced held) now v w prints write = absurd prints
printed_may before text statuses.TooLong now v w prints write = absurd prints
printed_may before text (statuses.BadCommand line column) now v w prints write = absurd prints
printed_may before text (statuses.BadReply place) now v w prints write = absurd prints
printed_may before text statuses.NoPeer now v w prints write = absurd prints

pub showlog_may : (before now : Option (List ℕ)) (status : Status) (v w : Outside) → ShowRuns v.disk before status w.disk now
    → (status ≡ statuses.WriteFault → Rose v.writes w.writes) → MayEnd showlog status v w
showlog_may before now status v w runs write =
    elim runs.ends [
      | inl refused ↦ refused_may status v w refused.why
      | inr shown ↦ printed_may before _ status now v w shown.prints write
    ]

pub export_may : (before now : Option (List ℕ)) (status : Status) (v w : Outside) → ExportRuns v.disk before status w.disk now
    → (status ≡ statuses.WriteFault → Rose v.writes w.writes) → MayEnd export status v w
export_may before now status v w runs write =
    elim runs.ends [
      | inl refused ↦ refused_may status v w refused.why
      | inr exported ↦ printed_may before _ status now v w exported.prints write
    ]

memory_may : (asked : Asked) (v w : Outside) → MayEnd asked statuses.NoMemory v w
memory_may (session stamp) v w = tt
memory_may (serve address count stamp) v w = tt
memory_may replay v w = tt
memory_may (drill number events) v w = tt
memory_may (format most) v w = tt
memory_may showlog v w = tt
memory_may export v w = tt
memory_may (ask address) v w = tt

-- ---- the words

-- `serve` of so many connections, with that stamp.
abbrev pub IsServe : ℕ → Option ℕ → Asked → Type 0
IsServe count stamp (serve address number given) = (number ≡ count) × (given ≡ stamp)
IsServe count stamp asked = ⊥

abbrev pub IsAsk : Asked → Type 0
IsAsk (ask address) = Unit {0}
IsAsk asked = ⊥

pub asks_peer : (address : List ℕ) (other : Asked) → Some (ask address) ≡ Some other → IsAsk other
asks_peer address other is = let same : ask address ≡ other = cc is in subst (λ (a : Asked). IsAsk a) same tt

pub serves : (address : List ℕ) (count : ℕ) (stamp : Option ℕ) (other : Asked) → Some (serve address count stamp) ≡ Some other → IsServe count stamp other
serves address count stamp other is = let same : serve address count stamp ≡ other = cc is in subst (λ (a : Asked). IsServe count stamp a) same (refl, refl)

pub command_ends : (words : List (List ℕ)) (asked : Asked) (status : Status) (v w : Outside) → ((other : Asked) → Asks words other → Some asked ≡ Some other) → MayEnd asked status v w → Ends words status v w
unfolding Ends
command_ends words asked status v w only may other asks = let same : asked ≡ other = cc (only other asks) in subst (λ (a : Asked). MayEnd a status v w) same may

-- `serve` ends in the same ways for each address.
pub serve_ends : (words : List (List ℕ)) (count : ℕ) (stamp : Option ℕ) (status : Status) (v w : Outside) → ((other : Asked) → Asks words other → IsServe count stamp other)
    → ((address : List ℕ) → MayEnd (serve address count stamp) status v w) → Ends words status v w
unfolding Ends
serve_ends words count stamp status v w only may (session given) asks = absurd (only (session given) asks)
serve_ends words count stamp status v w only may (serve address number given) asks =
    let is = only (serve address number given) asks in
    subst (λ (n : ℕ). MayEnd (serve address n given) status v w) (sym is.0) (subst (λ (s : Option ℕ). MayEnd (serve address count s) status v w) (sym is.1) (may address))
serve_ends words count stamp status v w only may replay asks = absurd (only replay asks)
serve_ends words count stamp status v w only may (drill number events) asks = absurd (only (drill number events) asks)
serve_ends words count stamp status v w only may (format most) asks = absurd (only (format most) asks)
serve_ends words count stamp status v w only may showlog asks = absurd (only showlog asks)
serve_ends words count stamp status v w only may export asks = absurd (only export asks)
serve_ends words count stamp status v w only may (ask address) asks = absurd (only (ask address) asks)

-- So does `ask`.
pub ask_ends : (words : List (List ℕ)) (status : Status) (v w : Outside) → ((other : Asked) → Asks words other → IsAsk other) → MayAsk status (calls v) (calls w) → Ends words status v w
unfolding Ends
ask_ends words status v w only may (session stamp) asks = absurd (only (session stamp) asks)
ask_ends words status v w only may (serve address count stamp) asks = absurd (only (serve address count stamp) asks)
ask_ends words status v w only may replay asks = absurd (only replay asks)
ask_ends words status v w only may (drill number events) asks = absurd (only (drill number events) asks)
ask_ends words status v w only may (format most) asks = absurd (only (format most) asks)
ask_ends words status v w only may showlog asks = absurd (only showlog asks)
ask_ends words status v w only may export asks = absurd (only export asks)
ask_ends words status v w only may (ask address) asks = may

pub ask_bad : {A : Type 0} (status : Status) (v w : Outside) (place : ℕ) → MayAsk status (calls v) (calls w) → status ≡ statuses.BadLog place → A
ask_bad status v w place may is = absurd (subst (λ (s : Status). MayAsk s (calls v) (calls w)) is may)

-- A script that is played finds no log at fault.
pub replay_bad : {A : Type 0} (status : Status) (reads read_then prints printed_then place : ℕ) → MayReplay status reads read_then prints printed_then → status ≡ statuses.BadLog place → A
replay_bad status reads read_then prints printed_then place may is = absurd (subst (λ (s : Status). MayReplay s reads read_then prints printed_then) is may)

pub drill_bad : {A : Type 0} (status : Status) (prints printed_then place : ℕ) → MayDrill status prints printed_then → status ≡ statuses.BadLog place → A
drill_bad status prints printed_then place may is = absurd (subst (λ (s : Status). MayDrill s prints printed_then) is may)

pub memory_ends : (words : List (List ℕ)) (v w : Outside) → Ends words statuses.NoMemory v w
unfolding Ends
memory_ends words v w asked asks = memory_may asked v w

pub no_command_ends : (words : List (List ℕ)) (status : Status) (v w : Outside) → ((asked : Asked) → ¬ Asks words asked) → Ends words status v w
unfolding Ends
no_command_ends words status v w none asked asks = absurd (none asked asks)

-- ---- the words of another command

abbrev IsOther : Asked → Type 0
IsOther (session stamp) = ⊥
IsOther (serve address count stamp) = ⊥
IsOther asked = Unit {0}

pub not_node : {A : Type 0} (words : List (List ℕ)) (asked : Asked) → ((other : Asked) → Asks words other → Some asked ≡ Some other) → IsOther asked → AsksNode words → A
not_node words asked only other (inl (stamp, asks)) = let same : asked ≡ session stamp = cc (only (session stamp) asks) in absurd (subst (λ (a : Asked). IsOther a) same other)
not_node words asked only other (inr (count, address, stamp, asks)) =
    let same : asked ≡ serve address count stamp = cc (only (serve address count stamp) asks) in absurd (subst (λ (a : Asked). IsOther a) same other)

pub none_of_disk : {A : Type 0} (words : List (List ℕ)) → ((asked : Asked) → ¬ Asks words asked) → AsksOfDisk words → A
none_of_disk words none (inl (inl (stamp, asks))) = absurd (none (session stamp) asks)
none_of_disk words none (inl (inr (count, address, stamp, asks))) = absurd (none (serve address count stamp) asks)
none_of_disk words none (inr (inl (most, asks))) = absurd (none (format most) asks)
none_of_disk words none (inr (inr (inl asks))) = absurd (none showlog asks)
none_of_disk words none (inr (inr (inr asks))) = absurd (none export asks)

-- `format` finds no log at fault.
pub format_bad : {A : Type 0} (v w : DiskView) (status : Status) (place : ℕ) → FormatEnds v status w → status ≡ statuses.BadLog place → A
format_bad v w status place ends is = absurd (subst (λ (s : Status). FormatEnds v s w) is ends)

-- ---- what a status says of a run over the log

module _ (stamp : Option ℕ) (status : Status) (v w : Outside) (may : MayEnd (session stamp) status v w) where
  at_session : (other : Status) → status ≡ other → MayEnd (session stamp) other v w
  at_session other is = subst (λ (s : Status). MayEnd (session stamp) s v w) is may

  pub session_read : status ≡ statuses.ReadFault → Rose v.reads w.reads
  session_read is = at_session statuses.ReadFault is

  pub session_write : status ≡ statuses.WriteFault → Rose v.writes w.writes
  session_write is = at_session statuses.WriteFault is

  pub session_disk : status ≡ statuses.DiskFault → Rose v.disk.faults w.disk.faults
  session_disk is = at_session statuses.DiskFault is

  pub session_fenced : (held : ℕ) → status ≡ statuses.Fenced held → (1 < v.disk.current.held) × (held ≡ v.disk.current.held)
  session_fenced held is = at_session (statuses.Fenced held) is

  pub session_known : {A : Type 0} → status ≡ statuses.Usage → A
  session_known is = absurd (at_session statuses.Usage is)

module _ (address : List ℕ) (count : ℕ) (stamp : Option ℕ) (status : Status) (v w : Outside) (may : MayEnd (serve address count stamp) status v w) where
  at_serve : (other : Status) → status ≡ other → MayEnd (serve address count stamp) other v w
  at_serve other is = subst (λ (s : Status). MayEnd (serve address count stamp) s v w) is may

  pub serve_accept : status ≡ statuses.ReadFault → Rose v.door.accept w.door.accept
  serve_accept is = at_serve statuses.ReadFault is

  pub serve_write : {A : Type 0} → status ≡ statuses.WriteFault → A
  serve_write is = absurd (at_serve statuses.WriteFault is)

  pub serve_disk : status ≡ statuses.DiskFault → Rose v.disk.faults w.disk.faults
  serve_disk is = at_serve statuses.DiskFault is

  pub serve_fenced : (held : ℕ) → status ≡ statuses.Fenced held → (1 < v.disk.current.held) × (held ≡ v.disk.current.held)
  serve_fenced held is = at_serve (statuses.Fenced held) is

  pub serve_known : {A : Type 0} → status ≡ statuses.Usage → A
  serve_known is = absurd (at_serve statuses.Usage is)
