use Rattle.std.proofs.Common.{◌≡◌, ℕ, [], Option, inl, inr, refl, sym, subst}
use Rattle.asking.specs.Asking.{edges}
use Rattle.command_words.specs.Commands.{ask, drill, export, format, replay, serve, session, showlog}
use Rattle.clus_cli.specs.Commands.{FormatRuns, stamp_of}
use Rattle.clus_cli.specs.Ends.{Outside, outside}
use Rattle.clus_cli.specs.Runs.{DoorRuns, SessionRuns}
use Rattle.clus_cli.proofs.AskLaws.{nothing_ran}
use Rattle.clus_cli.proofs.ScriptLaws.{drilled_as_asked, nothing_drilled, nothing_replayed}
use Rattle.clus_cli.proofs.EndLaws.{ask_bad, ask_ends, asks_peer, command_ends, drill_bad, export_may, format_bad, format_may, memory_ends, no_command_ends, none_of_disk, not_node, replay_bad, serve_ends, serves, showlog_may}
use Rattle.clus_cli.proofs.EndLaws.{serve_accept, serve_disk, serve_fenced, serve_known, serve_write, session_disk, session_fenced, session_known, session_read, session_write}
use Rattle.clus_cli.proofs.running.run.Goals as goal

-- ---- `session`

pub returns-in-Session-clause-ends : goal.returns-in-Session-clause-ends
returns-in-Session-clause-ends g c =
    command_ends _ (session c.in-Session.stamp) c.serve_stream.result _ _ (λ other asks. rw (c.in-Ok-Some.field-0-is, c.in-Session.is) at (c.in-Ok-Some.ensures.only other asks)) (c.serve_stream.ensures.ends _ _)

pub returns-in-Session-clause-session : goal.returns-in-Session-clause-session
returns-in-Session-clause-session g c = λ stamp asks.
    let told = c.in-Ok-Some.ensures.only (session stamp) asks in
    let same : c.in-Session.stamp ≡ stamp = cc (rw (c.in-Ok-Some.field-0-is, c.in-Session.is) at told) in
    inl (subst (λ (t : Option ℕ). SessionRuns (stamp_of t) c.serve_stream.result (g.S.Source.left c.args.input.now) (g.S.Source.left c.serve_stream.new.input)
    (g.K.Sink.written c.args.output.now) (g.K.Sink.written c.serve_stream.new.output) (g.D.Disk.view c.args.disk.now) (g.D.Disk.view c.serve_stream.new.disk)) same c.serve_stream.ensures.runs)

pub returns-in-Session-clause-usage : goal.returns-in-Session-clause-usage
returns-in-Session-clause-usage g c = λ is. session_known c.in-Session.stamp c.serve_stream.result _ _ (c.serve_stream.ensures.ends (g.G.Door.faults c.args.door.now) (g.G.Door.faults c.args.door.now)) is

pub returns-in-Session-clause-read : goal.returns-in-Session-clause-read
returns-in-Session-clause-read g c = λ asks is. session_read c.in-Session.stamp c.serve_stream.result _ _ (c.serve_stream.ensures.ends (g.G.Door.faults c.args.door.now) (g.G.Door.faults c.args.door.now)) is

pub returns-in-Session-clause-write : goal.returns-in-Session-clause-write
returns-in-Session-clause-write g c = λ is. inl (session_write c.in-Session.stamp c.serve_stream.result _ _ (c.serve_stream.ensures.ends (g.G.Door.faults c.args.door.now) (g.G.Door.faults c.args.door.now)) is)

pub returns-in-Session-clause-disk : goal.returns-in-Session-clause-disk
returns-in-Session-clause-disk g c = λ is. session_disk c.in-Session.stamp c.serve_stream.result _ _ (c.serve_stream.ensures.ends (g.G.Door.faults c.args.door.now) (g.G.Door.faults c.args.door.now)) is

pub returns-in-Session-clause-fenced : goal.returns-in-Session-clause-fenced
returns-in-Session-clause-fenced g c = λ held is.
    let greater = session_fenced c.in-Session.stamp c.serve_stream.result _ _ (c.serve_stream.ensures.ends (g.G.Door.faults c.args.door.now) (g.G.Door.faults c.args.door.now)) held is in
    (inl (inl (c.in-Session.stamp, rw (c.in-Ok-Some.field-0-is, c.in-Session.is) at c.in-Ok-Some.ensures.found)), greater.0, greater.1)

pub returns-in-Session-clause-bad_log : goal.returns-in-Session-clause-bad_log
returns-in-Session-clause-bad_log g c = λ place asks told bad. c.serve_stream.ensures.bad_log place told bad

pub returns-in-Session-clause-nothing : goal.returns-in-Session-clause-nothing
returns-in-Session-clause-nothing g c = λ none. absurd (none (session c.in-Session.stamp) (rw (c.in-Ok-Some.field-0-is, c.in-Session.is) at c.in-Ok-Some.ensures.found))

pub returns-in-Session-clause-serve : goal.returns-in-Session-clause-serve
returns-in-Session-clause-serve g c = λ address count stamp asks. absurd (cc (rw (c.in-Ok-Some.field-0-is, c.in-Session.is) at (c.in-Ok-Some.ensures.only (serve address count stamp) asks)))

pub returns-in-Session-clause-accept : goal.returns-in-Session-clause-accept
returns-in-Session-clause-accept g c = λ some is. absurd (cc (rw (c.in-Ok-Some.field-0-is, c.in-Session.is) at (c.in-Ok-Some.ensures.only (serve some.1 some.0 some.2) some.3)))

pub returns-in-Session-clause-ask : goal.returns-in-Session-clause-ask
returns-in-Session-clause-ask g c = λ some. absurd (cc (rw (c.in-Ok-Some.field-0-is, c.in-Session.is) at (c.in-Ok-Some.ensures.only (ask some.0) some.1)))

pub returns-in-Session-clause-replay : goal.returns-in-Session-clause-replay
returns-in-Session-clause-replay g c = λ asks. absurd (cc (rw (c.in-Ok-Some.field-0-is, c.in-Session.is) at (c.in-Ok-Some.ensures.only replay asks)))

pub returns-in-Session-clause-drill : goal.returns-in-Session-clause-drill
returns-in-Session-clause-drill g c = λ number events asks. absurd (cc (rw (c.in-Ok-Some.field-0-is, c.in-Session.is) at (c.in-Ok-Some.ensures.only (drill number events) asks)))

-- ---- `serve`

pub returns-in-Serve-clause-ends : goal.returns-in-Serve-clause-ends
returns-in-Serve-clause-ends g c =
    serve_ends _ c.in-Serve.count c.in-Serve.stamp c.serve_door.result _ _
    (λ other asks. let told = rw (c.in-Ok-Some.field-0-is, c.in-Serve.is) at (c.in-Ok-Some.ensures.only other asks) in serves _ c.in-Serve.count c.in-Serve.stamp other told)
    (λ address. c.serve_door.ensures.ends address _ _ _ _)

pub returns-in-Serve-clause-serve : goal.returns-in-Serve-clause-serve
returns-in-Serve-clause-serve g c = λ address count stamp asks.
    let told = rw (c.in-Ok-Some.field-0-is, c.in-Serve.is) at (c.in-Ok-Some.ensures.only (serve address count stamp) asks) in
    let is = serves _ c.in-Serve.count c.in-Serve.stamp (serve address count stamp) told in
    let runs : DoorRuns (stamp_of stamp) c.in-Serve.count c.serve_door.result (g.G.Door.visits c.args.door.now) (g.G.Door.visits c.serve_door.new.door) (g.D.Disk.view c.args.disk.now)
    (g.D.Disk.view c.serve_door.new.disk) =
    subst (λ (t : Option ℕ). DoorRuns (stamp_of t) c.in-Serve.count c.serve_door.result (g.G.Door.visits c.args.door.now) (g.G.Door.visits c.serve_door.new.door) (g.D.Disk.view c.args.disk.now)
    (g.D.Disk.view c.serve_door.new.disk)) (sym is.1) c.serve_door.ensures.runs in
    inl (subst (λ (n : ℕ). DoorRuns (stamp_of stamp) n c.serve_door.result (g.G.Door.visits c.args.door.now) (g.G.Door.visits c.serve_door.new.door) (g.D.Disk.view c.args.disk.now)
    (g.D.Disk.view c.serve_door.new.disk)) (sym is.0) runs)

pub returns-in-Serve-clause-usage : goal.returns-in-Serve-clause-usage
returns-in-Serve-clause-usage g c = λ is. serve_known [] c.in-Serve.count c.in-Serve.stamp c.serve_door.result _ _ (c.serve_door.ensures.ends [] 0 0 0 0) is

pub returns-in-Serve-clause-accept : goal.returns-in-Serve-clause-accept
returns-in-Serve-clause-accept g c = λ asks is. serve_accept [] c.in-Serve.count c.in-Serve.stamp c.serve_door.result _ _ (c.serve_door.ensures.ends [] 0 0 0 0) is

pub returns-in-Serve-clause-write : goal.returns-in-Serve-clause-write
returns-in-Serve-clause-write g c = λ is. serve_write [] c.in-Serve.count c.in-Serve.stamp c.serve_door.result _ _ (c.serve_door.ensures.ends [] 0 0 0 0) is

pub returns-in-Serve-clause-disk : goal.returns-in-Serve-clause-disk
returns-in-Serve-clause-disk g c = λ is. serve_disk [] c.in-Serve.count c.in-Serve.stamp c.serve_door.result _ _ (c.serve_door.ensures.ends [] 0 0 0 0) is

pub returns-in-Serve-clause-fenced : goal.returns-in-Serve-clause-fenced
returns-in-Serve-clause-fenced g c = λ held is.
    let greater = serve_fenced [] c.in-Serve.count c.in-Serve.stamp c.serve_door.result _ _ (c.serve_door.ensures.ends [] 0 0 0 0) held is in
    (inl (inr (c.in-Serve.count, _, c.in-Serve.stamp, rw (c.in-Ok-Some.field-0-is, c.in-Serve.is) at c.in-Ok-Some.ensures.found)), greater.0, greater.1)

pub returns-in-Serve-clause-bad_log : goal.returns-in-Serve-clause-bad_log
returns-in-Serve-clause-bad_log g c = λ place asks told bad. c.serve_door.ensures.bad_log place told bad

pub returns-in-Serve-clause-nothing : goal.returns-in-Serve-clause-nothing
returns-in-Serve-clause-nothing g c = λ none.
    absurd (none (serve _ c.in-Serve.count c.in-Serve.stamp) (rw (c.in-Ok-Some.field-0-is, c.in-Serve.is) at c.in-Ok-Some.ensures.found))

pub returns-in-Serve-clause-session : goal.returns-in-Serve-clause-session
returns-in-Serve-clause-session g c = λ stamp asks. absurd (cc (rw (c.in-Ok-Some.field-0-is, c.in-Serve.is) at (c.in-Ok-Some.ensures.only (session stamp) asks)))

pub returns-in-Serve-clause-read : goal.returns-in-Serve-clause-read
returns-in-Serve-clause-read g c = λ some is. absurd (cc (rw (c.in-Ok-Some.field-0-is, c.in-Serve.is) at (c.in-Ok-Some.ensures.only (session some.0) some.1)))

pub returns-in-Serve-clause-ask : goal.returns-in-Serve-clause-ask
returns-in-Serve-clause-ask g c = λ some. absurd (cc (rw (c.in-Ok-Some.field-0-is, c.in-Serve.is) at (c.in-Ok-Some.ensures.only (ask some.0) some.1)))

pub returns-in-Serve-clause-replay : goal.returns-in-Serve-clause-replay
returns-in-Serve-clause-replay g c = λ asks. absurd (cc (rw (c.in-Ok-Some.field-0-is, c.in-Serve.is) at (c.in-Ok-Some.ensures.only replay asks)))

pub returns-in-Serve-clause-drill : goal.returns-in-Serve-clause-drill
returns-in-Serve-clause-drill g c = λ number events asks. absurd (cc (rw (c.in-Ok-Some.field-0-is, c.in-Serve.is) at (c.in-Ok-Some.ensures.only (drill number events) asks)))

-- ---- `replay` and `drill`

pub returns-in-Replay-clause-ends : goal.returns-in-Replay-clause-ends
returns-in-Replay-clause-ends g c =
    command_ends _ replay c.replay_script.result _ _ (λ other asks. rw (c.in-Ok-Some.field-0-is, c.in-Replay.is) at (c.in-Ok-Some.ensures.only other asks)) c.replay_script.ensures.may

pub returns-in-Replay-clause-bad_log : goal.returns-in-Replay-clause-bad_log
returns-in-Replay-clause-bad_log g c = λ place asks.
    not_node _ replay (λ other asks. rw (c.in-Ok-Some.field-0-is, c.in-Replay.is) at (c.in-Ok-Some.ensures.only other asks)) tt asks

pub returns-in-Replay-clause-unchanged : goal.returns-in-Replay-clause-unchanged
returns-in-Replay-clause-unchanged g c = λ place is told. replay_bad c.replay_script.result _ _ _ _ place c.replay_script.ensures.may is

pub returns-in-Drill-clause-ends : goal.returns-in-Drill-clause-ends
returns-in-Drill-clause-ends g c =
    command_ends _ (drill c.in-Drill.number c.in-Drill.events) c.drill_script.result _ _ (λ other asks. rw (c.in-Ok-Some.field-0-is, c.in-Drill.is) at (c.in-Ok-Some.ensures.only other asks))
    c.drill_script.ensures.may

pub returns-in-Drill-clause-drill : goal.returns-in-Drill-clause-drill
returns-in-Drill-clause-drill g c = λ number events asks.
    drilled_as_asked c.in-Drill.number c.in-Drill.events number events c.drill_script.result (g.K.Sink.written c.args.output.now) (g.K.Sink.written c.drill_script.new.output)
    (rw (c.in-Ok-Some.field-0-is, c.in-Drill.is) at (c.in-Ok-Some.ensures.only (drill number events) asks)) c.drill_script.ensures.runs

pub returns-in-Drill-clause-bad_log : goal.returns-in-Drill-clause-bad_log
returns-in-Drill-clause-bad_log g c = λ place asks.
    not_node _ (drill c.in-Drill.number c.in-Drill.events) (λ other asks. rw (c.in-Ok-Some.field-0-is, c.in-Drill.is) at (c.in-Ok-Some.ensures.only other asks)) tt asks

pub returns-in-Drill-clause-unchanged : goal.returns-in-Drill-clause-unchanged
returns-in-Drill-clause-unchanged g c = λ place is told. drill_bad c.drill_script.result _ _ place c.drill_script.ensures.may is

-- ---- `ask`

pub returns-in-Ask-clause-bad_log : goal.returns-in-Ask-clause-bad_log
returns-in-Ask-clause-bad_log g c = λ place asks.
    not_node _ (ask c.in-Ask.address.now) (λ other asks. rw (c.in-Ok-Some.field-0-is, c.in-Ask.is) at (c.in-Ok-Some.ensures.only other asks)) tt asks

pub returns-in-Ask-clause-unchanged : goal.returns-in-Ask-clause-unchanged
returns-in-Ask-clause-unchanged g c = λ place is told. ask_bad c.ask.result (outside _ _ _ (g.D.Disk.view c.args.disk.now)) (outside _ _ _ (g.D.Disk.view c.args.disk.now)) place c.ask.ensures.may is

-- ---- the other commands

pub returns-in-Format-clause-format : goal.returns-in-Format-clause-format
returns-in-Format-clause-format g c = λ cap asks.
    let told = c.in-Ok-Some.ensures.only (format cap) asks in
    let same : c.in-Format.cap ≡ cap = cc (rw (c.in-Ok-Some.field-0-is, c.in-Format.is) at told) in
    inl (subst (λ (n : ℕ). FormatRuns n (g.D.Disk.view c.args.disk.now) c.format_log.result (g.D.Disk.view c.format_log.new.disk)) same c.format_log.ensures)

pub returns-in-Format-clause-unchanged : goal.returns-in-Format-clause-unchanged
returns-in-Format-clause-unchanged g c = λ place is told. format_bad (g.D.Disk.view c.args.disk.now) (g.D.Disk.view c.format_log.new.disk) c.format_log.result place c.format_log.ensures.ends is

pub returns-in-Format-clause-bad_log : goal.returns-in-Format-clause-bad_log
returns-in-Format-clause-bad_log g c = λ place asks.
    not_node _ (format c.in-Format.cap) (λ other asks. rw (c.in-Ok-Some.field-0-is, c.in-Format.is) at (c.in-Ok-Some.ensures.only other asks)) tt asks

pub returns-in-Showlog-clause-bad_log : goal.returns-in-Showlog-clause-bad_log
returns-in-Showlog-clause-bad_log g c = λ place asks.
    not_node _ showlog (λ other asks. rw (c.in-Ok-Some.field-0-is, c.in-Showlog.is) at (c.in-Ok-Some.ensures.only other asks)) tt asks

pub returns-in-Export-clause-bad_log : goal.returns-in-Export-clause-bad_log
returns-in-Export-clause-bad_log g c = λ place asks.
    not_node _ export (λ other asks. rw (c.in-Ok-Some.field-0-is, c.in-Export.is) at (c.in-Ok-Some.ensures.only other asks)) tt asks

-- ---- the words of no command

pub returns-in-Ok-None-clause-session : goal.returns-in-Ok-None-clause-session
returns-in-Ok-None-clause-session g c = λ stamp asks. absurd (cc (rw c.in-Ok-None.field-0-is at (c.in-Ok-None.ensures.only (session stamp) asks)))

pub returns-in-Ok-None-clause-serve : goal.returns-in-Ok-None-clause-serve
returns-in-Ok-None-clause-serve g c = λ address count stamp asks. absurd (cc (rw c.in-Ok-None.field-0-is at (c.in-Ok-None.ensures.only (serve address count stamp) asks)))

pub returns-in-Ok-None-clause-replay : goal.returns-in-Ok-None-clause-replay
returns-in-Ok-None-clause-replay g c = λ asks. absurd (cc (rw c.in-Ok-None.field-0-is at (c.in-Ok-None.ensures.only replay asks)))

pub returns-in-Ok-None-clause-drill : goal.returns-in-Ok-None-clause-drill
returns-in-Ok-None-clause-drill g c = λ number events asks. absurd (cc (rw c.in-Ok-None.field-0-is at (c.in-Ok-None.ensures.only (drill number events) asks)))

pub returns-in-Ok-None-clause-format : goal.returns-in-Ok-None-clause-format
returns-in-Ok-None-clause-format g c = λ cap asks. absurd (cc (rw c.in-Ok-None.field-0-is at (c.in-Ok-None.ensures.only (format cap) asks)))

pub returns-in-Ok-None-clause-showlog : goal.returns-in-Ok-None-clause-showlog
returns-in-Ok-None-clause-showlog g c = λ asks. absurd (cc (rw c.in-Ok-None.field-0-is at (c.in-Ok-None.ensures.only showlog asks)))

pub returns-in-Ok-None-clause-export : goal.returns-in-Ok-None-clause-export
returns-in-Ok-None-clause-export g c = λ asks. absurd (cc (rw c.in-Ok-None.field-0-is at (c.in-Ok-None.ensures.only export asks)))

pub returns-in-Ok-None-clause-ask : goal.returns-in-Ok-None-clause-ask
returns-in-Ok-None-clause-ask g c = λ some. absurd (cc (rw c.in-Ok-None.field-0-is at (c.in-Ok-None.ensures.only (ask some.0) some.1)))

pub returns-in-Ok-None-clause-usage : goal.returns-in-Ok-None-clause-usage
returns-in-Ok-None-clause-usage g c = λ is asked asks. absurd (cc (rw c.in-Ok-None.field-0-is at (c.in-Ok-None.ensures.only asked asks)))

pub returns-in-Ok-None-clause-bad_log : goal.returns-in-Ok-None-clause-bad_log
returns-in-Ok-None-clause-bad_log g c = λ place asks. none_of_disk _ (λ asked asks. absurd (cc (rw c.in-Ok-None.field-0-is at (c.in-Ok-None.ensures.only asked asks)))) (inl asks)

pub returns-in-Ok-None-clause-fences : goal.returns-in-Ok-None-clause-fences
returns-in-Ok-None-clause-fences g c = λ asks held. none_of_disk _ (λ asked asks. absurd (cc (rw c.in-Ok-None.field-0-is at (c.in-Ok-None.ensures.only asked asks)))) asks

pub returns-in-Err-clause-ask : goal.returns-in-Err-clause-ask
returns-in-Err-clause-ask g c = λ asks. nothing_ran (g.S.Source.left c.args.input.now) (edges (g.K.Sink.written c.args.output.now) (g.G.Door.visits c.args.door.now))

pub returns-in-Err-clause-replay : goal.returns-in-Err-clause-replay
returns-in-Err-clause-replay g c = λ asks. nothing_replayed _ _

pub returns-in-Err-clause-drill : goal.returns-in-Err-clause-drill
returns-in-Err-clause-drill g c = λ number events asks. nothing_drilled number events _

-- ---- the one command that the words ask for ends as it may

pub returns-in-Format-clause-ends : goal.returns-in-Format-clause-ends
returns-in-Format-clause-ends g c =
    command_ends _ _ c.format_log.result _ _ (λ other asks. rw (c.in-Ok-Some.field-0-is, c.in-Format.is) at (c.in-Ok-Some.ensures.only other asks))
    (format_may c.in-Format.cap c.format_log.result _ _ c.format_log.ensures.ends)

pub returns-in-Showlog-clause-ends : goal.returns-in-Showlog-clause-ends
returns-in-Showlog-clause-ends g c =
    command_ends _ showlog c.show_log.result _ _ (λ other asks. rw (c.in-Ok-Some.field-0-is, c.in-Showlog.is) at (c.in-Ok-Some.ensures.only other asks))
    (showlog_may (g.K.Sink.written c.args.output.now) (g.K.Sink.written c.show_log.new.output) c.show_log.result _ _ c.show_log.ensures.runs c.show_log.ensures.cause)

pub returns-in-Export-clause-ends : goal.returns-in-Export-clause-ends
returns-in-Export-clause-ends g c =
    command_ends _ export c.export_log.result _ _ (λ other asks. rw (c.in-Ok-Some.field-0-is, c.in-Export.is) at (c.in-Ok-Some.ensures.only other asks))
    (export_may (g.K.Sink.written c.args.output.now) (g.K.Sink.written c.export_log.new.output) c.export_log.result _ _ c.export_log.ensures.runs c.export_log.ensures.cause)

pub returns-in-Ask-clause-ends : goal.returns-in-Ask-clause-ends
returns-in-Ask-clause-ends g c =
    ask_ends _ c.ask.result _ _
    (λ other asks. let told = rw (c.in-Ok-Some.field-0-is, c.in-Ask.is) at (c.in-Ok-Some.ensures.only other asks) in asks_peer _ other told)
    c.ask.ensures.may

pub returns-in-Ok-None-clause-ends : goal.returns-in-Ok-None-clause-ends
returns-in-Ok-None-clause-ends g c = no_command_ends _ _ _ _ (λ asked asks. absurd (cc (rw c.in-Ok-None.field-0-is at (c.in-Ok-None.ensures.only asked asks))))

pub returns-in-Err-clause-ends : goal.returns-in-Err-clause-ends
returns-in-Err-clause-ends g c = memory_ends _ _ _
