use Rattle.hive_text.proofs.TextReads.{root_refused, root_taken}
use Rattle.hive_text.proofs.reading.read_behind.Goals as goal

pub read_lines-requires-clause-reading : goal.read_lines-requires-clause-reading
read_lines-requires-clause-reading c =
    (root_taken c.args.cap c.args.text.now c.requires.range c.requires.head c.args.line c.args.size c.in-Some.walk c.requires.next c.in-Some.ensures.0 c.in-Some.ensures.1 c.in-Some.ensures.2).0

pub read_lines-requires-clause-within : goal.read_lines-requires-clause-within
read_lines-requires-clause-within c =
    (root_taken c.args.cap c.args.text.now c.requires.range c.requires.head c.args.line c.args.size c.in-Some.walk c.requires.next c.in-Some.ensures.0 c.in-Some.ensures.1 c.in-Some.ensures.2).1

pub returns-in-None-clause-fault : goal.returns-in-None-clause-fault
returns-in-None-clause-fault c = root_refused c.args.cap c.args.text.now c.requires.range c.requires.head c.args.line c.args.size c.requires.next c.in-None.ensures
