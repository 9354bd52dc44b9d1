-- Counting told values one after the other.
use Rattle.std.proofs.Common.{◌≡◌, ℕ, ◌+◌, ◌<◌, ◌≤◌, List, length, drop, get_or, sym, ◌∙◌, arith, refl}
use Rattle.std.proofs.lemmas.List.{at_drop_more, drop_all}
use Rattle.cluster_worlds.specs.declared.told.Told.{Told}
use Rattle.cluster_worlds.specs.declared.told.Told.TheVariants.{Order, Sent, Reply, Closed, Acked, Opened, Batched, Halted}
use Rattle.script_text.specs.declared.counts.Counts.{Counts}
use Rattle.script_text.specs.Counting.{HasRoom, counted, with_one}

pub counted_more : (counts : Counts) (told : List Told) (i : ℕ) (one : Told) (all : Counts) → i < length told → one ≡ get_or told i one
    → counted counts (drop i told) ≡ all → counted (with_one counts one) (drop (i + 1) told) ≡ all
unfolding counted
counted_more counts told i one all within is before = sym (at_drop_more (counted counts) told i one within ∙ rw (sym is) refl) ∙ before

pub counted_all : (counts : Counts) (told : List Told) (i : ℕ) (all : Counts) → length told ≤ i → counted counts (drop i told) ≡ all → counts ≡ all
unfolding counted
counted_all counts told i all done before = rw (drop_all i told done) at before

-- Fewer fit too.
fewer : (counts : Counts) (n more : ℕ) → n < more → HasRoom counts more → HasRoom counts n
fewer counts n more less room = record {
  order = omega (arith, room.order);
  acks = omega (arith, room.acks);
  replies = omega (arith, room.replies);
  closed = omega (arith, room.closed);
}

pub room_more : (counts : Counts) (one : Told) (n more : ℕ) → n < more → HasRoom counts more → HasRoom (with_one counts one) n
room_more counts (Order place spelling) n more less room = let rest = fewer counts n more less room in record {
  order = omega (arith, room.order);
  acks = rest.acks;
  replies = rest.replies;
  closed = rest.closed;
}
room_more counts (Acked node view place) n more less room = let rest = fewer counts n more less room in record {
  order = rest.order;
  acks = omega (arith, room.acks);
  replies = rest.replies;
  closed = rest.closed;
}
room_more counts (Reply conn point bytes) n more less room = let rest = fewer counts n more less room in record {
  order = rest.order;
  acks = rest.acks;
  replies = omega (arith, room.replies);
  closed = rest.closed;
}
room_more counts (Closed conn cause) n more less room = let rest = fewer counts n more less room in record {
  order = rest.order;
  acks = rest.acks;
  replies = rest.replies;
  closed = omega (arith, room.closed);
}
room_more counts (Sent number message) n more less room = fewer counts n more less room
room_more counts (Opened node view) n more less room = fewer counts n more less room
room_more counts (Batched node req point status index) n more less room = fewer counts n more less room
room_more counts (Halted node cause) n more less room = fewer counts n more less room
