-- The lines, by their words.
use Rattle.std.specs.Prelude.{ℕ, List, [], codes, if◌then◌else◌}
use Rattle.std.specs.Str.{bytes_eq}
use Rattle.gum_messages.specs.declared.member.Member.{Member}
use Rattle.gum_messages.specs.Views.{view_of}
use Rattle.update_records.specs.declared.update.Update.{Update}
use Rattle.cluster_worlds.specs.declared.event.Event.TheVariants.{Start, Declare, Install, Connect, Bytes, HangUp, Deliver, Tick, Checkpoint, Fail, Die, Clock, Batch, DieIn}
use Rattle.cluster_worlds.specs.declared.inner.Inner.{Inner}
use Rattle.cluster_worlds.specs.declared.inner.Inner.TheVariants as inner
use Rattle.cluster_script.specs.declared.line.Line.{Line}
use Rattle.cluster_script.specs.declared.line.Line.TheVariants.{Cap, Step, Pump, Skip, Pick, Bind, Request, Show}
use Rattle.cluster_script.specs.Words.{most}
use Rattle.cluster_script.specs.Requests.{bind_text, request_text}

-- What may stand behind the words so far.
pub data Rest : Type 0 where
  -- nothing more: the line says this
  done : Line → Rest
  -- a number between two bounds, and what stands behind it
  number : ℕ → ℕ → (ℕ → Rest) → Rest
  -- at most so many bytes, and what stands behind them
  octets : ℕ → (List ℕ → Rest) → Rest
  -- a batch, and what stands behind it
  batch : (Update → Rest) → Rest
  -- members to the line's end, ascending by node and above this one, behind those that stand already
  members : ℕ → List Member → (List Member → Line) → Rest
  -- the first word of a line, which decides what stands behind it
  verb : (List ℕ → Rest) → Rest
  -- what stands behind a word that is no first word of a line
  misfit : Rest

-- ---- numbers, by what they count

abbrev pub node : (ℕ → Rest) → Rest
node next = number 1 16 next

-- A view, an incarnation, a connection or a message.
abbrev pub serial : (ℕ → Rest) → Rest
serial next = number 1 4_294_967_295 next

abbrev pub opnum : (ℕ → Rest) → Rest
opnum next = number 0 65_535 next

abbrev pub hex : (List ℕ → Rest) → Rest
hex next = octets most next

-- No request of one fragment has more.
abbrev pub stub : (List ℕ → Rest) → Rest
stub next = octets 5_816 next

-- ---- the lines inside a crash, each by the words behind its first

abbrev pub dying : ℕ → List ℕ → Inner → Rest
dying moment filling event = done (Step (DieIn moment filling event))

unfoldable pub inner_install : ℕ → List ℕ → Rest
inner_install moment filling = node λ n. serial λ view. dying moment filling (inner.Install n view)

unfoldable pub inner_bytes : ℕ → List ℕ → Rest
inner_bytes moment filling = serial λ conn. hex λ piece. dying moment filling (inner.Bytes conn piece)

unfoldable pub inner_bind : ℕ → List ℕ → Rest
inner_bind moment filling = serial λ conn. dying moment filling (inner.Bytes conn bind_text)

unfoldable pub inner_request : ℕ → List ℕ → Rest
inner_request moment filling = serial λ conn. opnum λ op. stub λ bytes. dying moment filling (inner.Bytes conn (request_text 0 op bytes))

unfoldable pub inner_hangup : ℕ → List ℕ → Rest
inner_hangup moment filling = serial λ conn. dying moment filling (inner.HangUp conn)

unfoldable pub inner_deliver : ℕ → List ℕ → Rest
inner_deliver moment filling = serial λ message. dying moment filling (inner.Deliver message)

unfoldable pub inner_tick : ℕ → List ℕ → Rest
inner_tick moment filling = node λ n. dying moment filling (inner.Tick n)

unfoldable pub inner_checkpoint : ℕ → List ℕ → Rest
inner_checkpoint moment filling = node λ n. dying moment filling (inner.Checkpoint n)

unfoldable pub inner_behind : ℕ → List ℕ → List ℕ → Rest
inner_behind moment filling word =
    if bytes_eq word (codes "install") then inner_install moment filling
    else if bytes_eq word (codes "bytes") then inner_bytes moment filling
    else if bytes_eq word (codes "bind") then inner_bind moment filling
    else if bytes_eq word (codes "request") then inner_request moment filling
    else if bytes_eq word (codes "hangup") then inner_hangup moment filling
    else if bytes_eq word (codes "deliver") then inner_deliver moment filling
    else if bytes_eq word (codes "tick") then inner_tick moment filling
    else if bytes_eq word (codes "checkpoint") then inner_checkpoint moment filling
    else misfit

-- ---- the lines, each by the words behind its first

unfoldable pub cap_line : Rest
cap_line = number 4_096 16_777_216 λ cap. done (Cap cap)

unfoldable pub start_line : Rest
start_line = node λ n. done (Step (Start n))

unfoldable pub die_line : Rest
die_line = node λ n. done (Step (Die n))

unfoldable pub tick_line : Rest
tick_line = node λ n. done (Step (Tick n))

unfoldable pub checkpoint_line : Rest
checkpoint_line = node λ n. done (Step (Checkpoint n))

unfoldable pub view_line : Rest
view_line = serial λ view. members 0 [] λ ms. Step (Declare (view_of view ms))

unfoldable pub install_line : Rest
install_line = node λ n. serial λ view. done (Step (Install n view))

unfoldable pub connect_line : Rest
connect_line = serial λ conn. node λ n. done (Step (Connect conn n))

unfoldable pub bytes_line : Rest
bytes_line = serial λ conn. hex λ piece. done (Step (Bytes conn piece))

unfoldable pub hangup_line : Rest
hangup_line = serial λ conn. done (Step (HangUp conn))

unfoldable pub bind_line : Rest
bind_line = serial λ conn. done (Bind conn)

unfoldable pub request_line : Rest
request_line = serial λ conn. opnum λ op. stub λ bytes. done (Request conn op bytes)

unfoldable pub deliver_line : Rest
deliver_line = serial λ message. done (Step (Deliver message))

unfoldable pub pump_line : Rest
pump_line = number 1 65_536 λ count. done (Pump count)

unfoldable pub skip_line : Rest
skip_line = number 1 65_536 λ count. done (Skip count)

unfoldable pub pick_line : Rest
pick_line = number 0 4_294_967_295 λ pick. done (Pick pick)

unfoldable pub fail_line : Rest
fail_line = number 1 1_000 λ call. done (Step (Fail call))

unfoldable pub clock_line : Rest
clock_line = node λ n. number 0 18_446_744_073_709_551_615 λ stamp. done (Step (Clock n stamp))

unfoldable pub batch_line : Rest
batch_line = node λ n. batch λ update. done (Step (Batch n update))

unfoldable pub crash_line : Rest
crash_line = number 0 64 λ moment. hex λ filling. verb λ word. inner_behind moment filling word

unfoldable pub show_line : Rest
show_line = node λ n. done (Show n)

-- What a player of the script does, by the first word.
unfoldable pub player_behind : List ℕ → Rest
player_behind word =
    if bytes_eq word (codes "cap") then cap_line
    else if bytes_eq word (codes "bind") then bind_line
    else if bytes_eq word (codes "request") then request_line
    else if bytes_eq word (codes "pump") then pump_line
    else if bytes_eq word (codes "skip") then skip_line
    else if bytes_eq word (codes "pick") then pick_line
    else if bytes_eq word (codes "show") then show_line
    else misfit

-- And the events of views, connections, messages and disks.
unfoldable pub event_behind : List ℕ → Rest
event_behind word =
    if bytes_eq word (codes "view") then view_line
    else if bytes_eq word (codes "connect") then connect_line
    else if bytes_eq word (codes "bytes") then bytes_line
    else if bytes_eq word (codes "hangup") then hangup_line
    else if bytes_eq word (codes "deliver") then deliver_line
    else if bytes_eq word (codes "fail") then fail_line
    else if bytes_eq word (codes "crash") then crash_line
    else player_behind word

-- And the events of one node.
unfoldable pub line_behind : List ℕ → Rest
line_behind word =
    if bytes_eq word (codes "start") then start_line
    else if bytes_eq word (codes "die") then die_line
    else if bytes_eq word (codes "tick") then tick_line
    else if bytes_eq word (codes "checkpoint") then checkpoint_line
    else if bytes_eq word (codes "install") then install_line
    else if bytes_eq word (codes "clock") then clock_line
    else if bytes_eq word (codes "batch") then batch_line
    else event_behind word
