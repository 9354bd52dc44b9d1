-- The line of each told value.
use Rattle.std.specs.Prelude.{ℕ, List, [], ◌∷◌, length, codes}
use Rattle.std.specs.Fmt.{decimal}
use Rattle.gum_messages.specs.declared.body.Body.{Body}
use Rattle.gum_messages.specs.declared.body.Body.TheVariants.{Ask, Granted, Apply, Applied, Release, Offer, Need, Piece, Ready, OpenView}
use Rattle.cluster_rules.specs.declared.effect.CloseCause.{CloseCause}
use Rattle.cluster_rules.specs.declared.effect.CloseCause.TheVariants as closes
use Rattle.cluster_rules.specs.declared.effect.HaltCause.{HaltCause}
use Rattle.cluster_rules.specs.declared.effect.HaltCause.TheVariants as halts
use Rattle.cluster_worlds.specs.declared.told.Told.{Told}
use Rattle.cluster_worlds.specs.declared.told.Told.TheVariants.{Order, Sent, Reply, Closed, Acked, Opened, Batched, Halted}
use Rattle.script_text.specs.Lines.{hex_word, line, number_or_dash}

-- ---- messages

unfoldable pub kind_of : Body → List ℕ
kind_of (Ask req update) = codes "ask"
kind_of (Granted entry) = codes "granted"
kind_of (Apply entry) = codes "apply"
kind_of (Applied place) = codes "applied"
kind_of (Release req) = codes "release"
kind_of (Offer count cap last) = codes "offer"
kind_of (Need offset) = codes "need"
kind_of (Piece total offset bytes) = codes "piece"
kind_of Ready = codes "ready"
kind_of OpenView = codes "openview"

unfoldable pub fields_of : Body → List (List ℕ)
fields_of (Ask req update) = decimal req ∷ []
fields_of (Granted entry) = decimal entry.id.req ∷ decimal entry.place ∷ []
fields_of (Apply entry) = decimal entry.place ∷ []
fields_of (Applied place) = decimal place ∷ []
fields_of (Release req) = decimal req ∷ []
fields_of (Offer count cap last) = decimal count ∷ []
fields_of (Need offset) = decimal offset ∷ []
fields_of (Piece total offset bytes) = decimal offset ∷ decimal (length bytes) ∷ []
fields_of Ready = []
fields_of OpenView = []

-- ---- causes

unfoldable pub halt_words : HaltCause → List (List ℕ)
halt_words halts.Disk = codes "disk" ∷ []
halt_words (halts.Fenced held) = codes "fenced" ∷ decimal held ∷ []
halt_words (halts.Image place) = codes "image" ∷ decimal place ∷ []

unfoldable pub close_words : CloseCause → List (List ℕ)
close_words closes.Peer = codes "peer" ∷ []
close_words (closes.Pdu place) = codes "pdu" ∷ decimal place ∷ []
close_words closes.Interleaved = codes "interleaved" ∷ []
close_words closes.StubTooLong = codes "stub" ∷ []
close_words closes.Backlog = codes "backlog" ∷ []
close_words closes.Verifier = codes "verifier" ∷ []
close_words closes.NodeStopped = codes "stopped" ∷ []
close_words closes.Limit = codes "limit" ∷ []

-- ---- the lines

unfoldable pub prints : Told → List ℕ
prints (Order place spelling) = line (codes "order") (decimal place ∷ hex_word spelling ∷ [])
prints (Sent number m) =
    line (codes "send") (decimal number ∷ kind_of m.body ∷ decimal m.view ∷ decimal m.from ∷ decimal m.to ∷ fields_of m.body)
prints (Reply conn point bytes) = line (codes "reply") (decimal conn ∷ number_or_dash point ∷ hex_word bytes ∷ [])
prints (Acked node view place) = line (codes "ack") (decimal node ∷ decimal view ∷ decimal place ∷ [])
prints (Opened node view) = line (codes "opened") (decimal node ∷ decimal view ∷ [])
prints (Batched node req point status index) =
    line (codes "batched") (decimal node ∷ decimal req ∷ number_or_dash point ∷ decimal status ∷ decimal index ∷ [])
prints (Halted node cause) = line (codes "halt") (decimal node ∷ halt_words cause)
prints (Closed conn cause) = line (codes "closed") (decimal conn ∷ close_words cause)
