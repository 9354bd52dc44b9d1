-- A connection at the door goes on piece by piece, to its end.
use Rattle.std.proofs.Common.{◌≡◌, ◌≢◌, ◌⊎◌, inl, inr, ℕ, ◌+◌, ◌≤◌, ◌<◌, Bool, true, false, List, [], ◌∷◌, ◌++◌, length, suc, zero, Option, Some, None, is_some, refl, sym, ap, ◌∙◌, subst, arith, length-append}
use Rattle.std.proofs.lemmas.List.{append-nil}
use Rattle.edge_io.specs.Visits.{Visit, Visits}
use Rattle.disk_core.specs.Views.{DiskView}
use Rattle.wire_fields.specs.Numbers.{IsBytes}
use Rattle.rpc_calls.specs.declared.intake_fault.IntakeFault.{IntakeFault}
use Rattle.rpc_calls.specs.declared.item.Item.{Item}
use Rattle.rpc_calls.specs.declared.side.Side.TheVariants.{Server}
use Rattle.rpc_calls.specs.Streams.{Items}
use Rattle.rpc_calls.proofs.StreamItems.{items_are_there}
use Rattle.rpc_calls.proofs.StreamUniqueness.{items_agree}
use Rattle.cluster_rules.specs.declared.effect.Effect.{Effect}
use Rattle.client_connections.specs.Clients.{Client}
use Rattle.cluster_node.specs.States.{client_in}
use Rattle.single_items.specs.Events.{told_to}
use Rattle.single_items.proofs.Telling.{told_both}
use Rattle.single_node.specs.Singles.{SingleState}
use Rattle.single_server.specs.declared.ended.Ended.{Ended}
use Rattle.single_server.specs.Hearing.{Beginning, Heard, IsHeard}
use Rattle.single_server.specs.Serving.{IsCutShort}
use Rattle.single_server.specs.Session.{Starts, most_stream, piece_length}
use Rattle.single_server.specs.Talking.{Exchanged, HasSent, IsCutAt, IsCutOffAt, IsEndAt, IsHeardOutAt, IsOverAt, IsUnread, Leads, Says, TakesAt, Talks}
use Rattle.single_server.specs.Visits.{IsOver, IsSent, Talk}
use Rattle.single_server.proofs.DoorLaws.{leads_both, leads_so}
use Rattle.single_server.proofs.EndLaws.{cut_is_front}

abbrev Doors : Type 0
Doors = Option Visits

-- ---- bytes

pub bytes_none : IsBytes []
bytes_none i = omega arith

bytes_first : (x : ℕ) (xs : List ℕ) → x < 256 → IsBytes xs → IsBytes (x ∷ xs)
bytes_first x xs small h zero = small
bytes_first x xs small h (suc i) = h i

pub bytes_append : (a b : List ℕ) → IsBytes a → IsBytes b → IsBytes (a ++ b)
bytes_append [] b h k = k
bytes_append (x ∷ a) b h k = bytes_first x (a ++ b) (h 0) (bytes_append a b (λ n. h (suc n)) k)

-- ---- what was sent

sent_by : (is_broken : Bool) (text : List ℕ) (v : Visit) → HasSent is_broken text v → IsSent v text
sent_by false text v h = inl h
sent_by true text v h = inr h

-- ---- so far

-- This stream of it was heard, and all that was told was sent.
pub record ReachedAt (c : ℕ) (b : Beginning) (taken : ℕ) (s : SingleState) (w : DiskView) (old now : Doors) : Type 0 where
  pub stream : List ℕ
  pub told : List Effect
  pub heard : Heard c b stream told s w
  pub bytes : IsBytes stream
  pub counted : length stream ≡ taken
  pub leads : Leads (Exchanged [] [] false) (Exchanged stream (told_to c told) false) old now

pub starts_at : (c : ℕ) (b : Beginning) (s : SingleState) (w : DiskView) (old : Doors) → Starts c b s w → ReachedAt c b 0 s w old old
starts_at c b s w old h = record { stream = []; told = []; heard = h; bytes = bytes_none; counted = refl; leads = λ first talks. talks }

module _ (c : ℕ) (b : Beginning) (taken : ℕ) (s : SingleState) (w : DiskView) (old mid : Doors) (r : ReachedAt c b taken s w old mid) where
  -- ---- no further piece

  -- The stream that was heard, and a piece behind it.
  talk_with : (unused : List ℕ) → Talk
  talk_with unused = let all = items_are_there Server r.stream r.bytes in record { stream = r.stream; given = all.0; fault = all.1; unused = unused }

  out_with : (unused : List ℕ) (new : Doors) → length unused ≤ piece_length → s.left ≡ [] → Leads (Exchanged [] [] false) (IsOverAt (talk_with unused) (told_to c r.told)) old new → IsHeardOutAt c b s w old new
  unfolding talk_with
  out_with unused new short quiet over = record {
    talk = talk_with unused;
    items = (items_are_there Server r.stream r.bytes).2;
    short = short;
    told = r.told;
    heard = r.heard;
    quiet = quiet;
    over = over;
  }

  end_over : (piece : List ℕ) (v : Visit) → IsEndAt taken r.stream piece (told_to c r.told) v → IsOverAt (talk_with piece) (told_to c r.told) v
  unfolding talk_with
  end_over piece v e = record { taken = e.exchanged.taken; over = by_end e.ends; sent = inl e.exchanged.sent }
    where
      by_end : ((piece ≡ []) × (v.left ≡ [])) ⊎ (most_stream < taken + length piece) → IsOver (talk_with piece) v
      by_end (inl whole) = inl whole
      by_end (inr much) = inr (inr (inr (inl (subst (λ (n : ℕ). most_stream < n + length piece) (sym r.counted) much))))

  pub ends_at_door : (piece : List ℕ) (new : Doors) → length piece ≤ piece_length → s.left ≡ [] → ((stream text : List ℕ) → Leads (Exchanged stream text false) (IsEndAt taken stream piece text) mid new) → IsHeardOutAt c b s w old new
  ends_at_door piece new short quiet reads =
      out_with piece new short quiet
      (leads_so (Exchanged [] [] false) (IsEndAt taken r.stream piece (told_to c r.told)) (IsOverAt (talk_with piece) (told_to c r.told)) old new (end_over piece)
      (leads_both (Exchanged [] [] false) (Exchanged r.stream (told_to c r.told) false) (IsEndAt taken r.stream piece (told_to c r.told)) old mid new r.leads (reads r.stream (told_to c r.told))))

  unread_over : (v : Visit) → IsUnread r.stream (told_to c r.told) v → IsOverAt (talk_with []) (told_to c r.told) v
  unfolding talk_with
  unread_over v e = record { taken = e.exchanged.taken ∙ sym (append-nil r.stream); over = inr (inl (inl e.failed)); sent = inl e.exchanged.sent }

  pub fails_at_door : (new : Doors) → s.left ≡ [] → ((stream text : List ℕ) → Leads (Exchanged stream text false) (IsUnread stream text) mid new) → IsHeardOutAt c b s w old new
  fails_at_door new quiet reads =
      out_with [] new (omega arith) quiet
      (leads_so (Exchanged [] [] false) (IsUnread r.stream (told_to c r.told)) (IsOverAt (talk_with []) (told_to c r.told)) old new unread_over
      (leads_both (Exchanged [] [] false) (Exchanged r.stream (told_to c r.told) false) (IsUnread r.stream (told_to c r.told)) old mid new r.leads (reads r.stream (told_to c r.told))))

  -- ---- a piece

  module _ (piece : List ℕ) (between new : Doors) (bytes : IsBytes piece) (reads : (stream text : List ℕ) → Leads (Exchanged stream text false) (Exchanged (stream ++ piece) text false) mid between) (t : SingleState) (u : DiskView) where
    -- What was read and told, with this more.
    said : (is_broken : Bool) (more : List Effect) → Says (told_to c more) false is_broken between new → Leads (Exchanged [] [] false) (Exchanged (r.stream ++ piece) (told_to c (r.told ++ more)) is_broken) old new
    said is_broken more says first talks =
        subst (λ (l : List ℕ). Talks (Exchanged (r.stream ++ piece) l is_broken) first new) (sym (told_both c r.told more))
        (says (r.stream ++ piece) (told_to c r.told) first (reads r.stream (told_to c r.told) first (r.leads first talks)))

    pub reaches_at : (size : ℕ) → length piece ≡ size → TakesAt c b r.stream piece r.told t u false false between new → is_some (client_in c t.node) ≡ true → ReachedAt c b (taken + size) t u old new
    reaches_at size long (inl (g, closed)) open_ = record {
      stream = r.stream ++ piece;
      told = r.told ++ g.more;
      heard = g.heard;
      bytes = bytes_append r.stream piece r.bytes bytes;
      counted = (let n = r.counted in let l = length-append r.stream piece in omega (arith, n, l, long));
      leads = said false g.more g.says;
    }
    reaches_at size long (inr (g, gone, refused)) open_ = let e : true ≡ false = sym open_ ∙ ap is_some gone in absurd (cc)

    talk_on : (stream unused : List ℕ) → IsBytes stream → Talk
    talk_on stream unused all = let items = items_are_there Server stream all in record { stream = stream; given = items.0; fault = items.1; unused = unused }

    out_on : (is_broken : Bool) (stream unused : List ℕ) (all : IsBytes stream) (more : List Effect) → r.stream ++ piece ≡ stream ++ unused → length unused ≤ piece_length → t.left ≡ [] → Heard c b stream (r.told ++ more) t u → Says (told_to c more) false is_broken between new
        → ((v : Visit) → HasSent is_broken (told_to c (r.told ++ more)) v → IsOver (talk_on stream unused all) v) → IsHeardOutAt c b t u old new
    unfolding talk_on
    out_on is_broken stream unused all more parts short quiet heard says over = record {
      talk = talk_on stream unused all;
      items = (items_are_there Server stream all).2;
      short = short;
      told = r.told ++ more;
      heard = heard;
      quiet = quiet;
      over = leads_so (Exchanged [] [] false) (Exchanged (r.stream ++ piece) (told_to c (r.told ++ more)) is_broken) (IsOverAt (talk_on stream unused all) (told_to c (r.told ++ more))) old new
          (λ v e. record { taken = e.taken ∙ parts; over = over v e.sent; sent = sent_by is_broken (told_to c (r.told ++ more)) v e.sent }) (said is_broken more says);
    }

    all_heard : IsBytes (r.stream ++ piece)
    all_heard = bytes_append r.stream piece r.bytes bytes

    pub breaks_at : length piece ≤ piece_length → t.left ≡ [] → TakesAt c b r.stream piece r.told t u false true between new → IsHeardOutAt c b t u old new
    breaks_at short quiet (inl (g, closed)) = out_on true (r.stream ++ piece) [] all_heard g.more (sym (append-nil (r.stream ++ piece))) (omega arith) quiet g.heard g.says (λ v e. inr (inl (inr e.0)))
    breaks_at short quiet (inr (g, gone, refused)) = out_on true r.stream piece r.bytes g.more refl short quiet g.heard g.says (λ v e. inr (inl (inr e.0)))

    gone_of : is_some (client_in c t.node) ≡ false → client_in c t.node ≡ None
    gone_of none = by_client (client_in c t.node) none
      where
        by_client : (k : Option Client) → is_some k ≡ false → k ≡ None
        by_client None none = refl
        by_client (Some k) none = absurd (cc)

    faulty : (stream : List ℕ) (all : IsBytes stream) → ((given : List Item) × (fault : IntakeFault) × Items Server stream given (Some fault)) → (items_are_there Server stream all).1 ≢ None
    faulty stream all (given, fault, items) none =
        let there = items_are_there Server stream all in
        let e : None ≡ Some fault = sym none ∙ (items_agree Server stream there.0 given there.1 (Some fault) there.2 items).1 in absurd (cc)

    pub closes_at : length piece ≤ piece_length → t.left ≡ [] → TakesAt c b r.stream piece r.told t u false false between new → is_some (client_in c t.node) ≡ false → IsHeardOutAt c b t u old new
    unfolding talk_on
    closes_at short quiet (inl (g, closed)) gone =
        out_on false (r.stream ++ piece) [] all_heard g.more (sym (append-nil (r.stream ++ piece))) (omega arith) quiet g.heard g.says (λ v e. inr (inr (inl (faulty (r.stream ++ piece) all_heard (closed (gone_of gone))))))
    closes_at short quiet (inr (g, none, refused)) gone = out_on false r.stream piece r.bytes g.more refl short quiet g.heard g.says (λ v e. inr (inr (inr (inr refused))))

    -- ---- the run is cut off

    cut_on : (ended : Ended) (is_broken : Bool) (stream unused : List ℕ) → r.stream ++ piece ≡ stream ++ unused → length unused ≤ piece_length → IsCutAt ended c b stream r.told u false is_broken between new → IsCutOffAt ended c b u old new
    cut_on ended is_broken stream unused parts short g = record {
      off = record { stream = stream; told = r.told ++ g.more; cut = g.cut; first_of = cut_is_front c b stream (r.told ++ g.more) ended u g.cut };
      over = leads_so (Exchanged [] [] false) (Exchanged (r.stream ++ piece) (told_to c (r.told ++ g.more)) is_broken) (IsCutShort c stream (r.told ++ g.more)) old new
          (λ v e. record { unused = unused; taken = e.taken ∙ parts; short = short; sent = sent_by is_broken (told_to c (r.told ++ g.more)) v e.sent }) (said is_broken g.more g.says);
    }

    pub is_cut_at : (ended : Ended) (is_broken : Bool) → length piece ≤ piece_length → IsCutAt ended c b (r.stream ++ piece) r.told u false is_broken between new ⊎ IsCutAt ended c b r.stream r.told u false is_broken between new → IsCutOffAt ended c b u old new
    is_cut_at ended is_broken short (inl g) = cut_on ended is_broken (r.stream ++ piece) [] (sym (append-nil (r.stream ++ piece))) (omega arith) g
    is_cut_at ended is_broken short (inr g) = cut_on ended is_broken r.stream piece refl short g

-- ---- the connection

pub takes_at : (c : ℕ) (b : Beginning) (stream piece : List ℕ) (told : List Effect) (t : SingleState) (w : DiskView) (whole now : Bool) (old new : Doors) → TakesAt c b stream piece told t w whole now old new → IsHeard c t w
takes_at c b stream piece told t w whole now old new (inl (g, closed)) = (b, stream ++ piece, told ++ g.more, g.heard)
takes_at c b stream piece told t w whole now old new (inr (g, gone, refused)) = (b, stream, told ++ g.more, g.heard)
