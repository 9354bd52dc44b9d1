-- Further commands change nothing of what comes before them.
use Rattle.std.proofs.Common.{◌≡◌, Bool, true, false, List, [], ◌∷◌, ◌++◌, Option, None, Some, refl, sym, ap, ◌∙◌, subst, append_assoc}
use Rattle.std.specs.Prelude.{ℕ, option_to_list}
use Rattle.std.proofs.lemmas.List.{append-nil}
use Rattle.rpc_calls.specs.declared.intake_fault.IntakeFault.{IntakeFault}
use Rattle.rpc_calls.specs.declared.item.Item.{Item}
use Rattle.client_commands.specs.declared.command.Command.{Command}
use Rattle.client_exchange.specs.Exchange.{Answered, answered, begun, text_sent}
use Rattle.client_exchange.specs.Requests.{bind_text, first_request}
use Rattle.client_exchange.specs.Stages.{AskingState, fresh, is_resting}
use Rattle.rpc_client.specs.declared.ask.Ask.{Ask}
use Rattle.rpc_client.specs.declared.ask.Ask.TheVariants.{Write}
use Rattle.rpc_client.specs.Clients.{Holds, Kept, still_to_give}
use Rattle.rpc_client.specs.Exchange.{Begins, End, Exchange, IsEnd, fault, more, nothing}
use Rattle.rpc_client.specs.Runs.{Ending, Run, behind, goes_on, refuses, rests, runs, says, stops, waits, whole_run}
use Rattle.rpc_client.proofs.HoldingLaws.{front_of}
use Rattle.rpc_client.proofs.RunLaws.{answered_run, awaiting_run, refused_run, resting_run, started_run}

-- ---- a run with further commands

-- It gives the same first; and where it didn't end because nothing is awaited, it is the same.
pub record Extends (run further : Run) : Type 0 where
  pub rest : List Ask
  pub front : further.0 ≡ run.0 ++ rest
  pub same : ¬ (run.1 ≡ rests) → further ≡ run

same_run : (run : Run) → Extends run run
same_run run = record { rest = []; front = sym (append-nil run.0); same = λ no. refl }

from_rest : (further : Run) → Extends (stops rests) further
from_rest further = record { rest = further.0; front = refl; same = λ no. absurd (no refl) }

behind_both : (given : List Ask) (run further : Run) → Extends run further → Extends (behind given run) (behind given further)
behind_both given run further e = record {
  rest = e.rest;
  front = ap (λ (l : List Ask). given ++ l) e.front ∙ sym (append_assoc given run.0 e.rest);
  same = λ no. ap (λ (r : Run). behind given r) (e.same no);
}

extends_as : (a b c d : Run) → c ≡ a → d ≡ b → Extends a b → Extends c d
extends_as a b c d one two e = subst (λ (r : Run). Extends r d) (sym one) (subst (λ (r : Run). Extends a r) (sym two) e)

abbrev Grows : List Item → AskingState → List Command → List Command → Type 0
Grows items s commands further = Extends (runs s commands items) (runs s (commands ++ further) items)

pub at_end : (s : AskingState) (commands : List Command) → is_resting s.stage ≡ false → runs s commands [] ≡ stops waits
unfolding goes_on
at_end s commands e = awaiting_run s commands [] e ∙ rw e refl

resting_more : (items : List Item) → ((s : AskingState) (commands further : List Command) → is_resting s.stage ≡ false → Grows items s commands further)
    → (s : AskingState) (commands further : List Command) → is_resting s.stage ≡ true → Grows items s commands further
resting_more items awaiting s [] further e = extends_as (stops rests) (runs s further items) _ _ (resting_run s items e) refl (from_rest (runs s further items))
resting_more items awaiting s (command ∷ commands) further e =
    let sent = Write (text_sent s (first_request s.root command)) ∷ [] in
    extends_as (behind sent (runs (begun s command) commands items)) (behind sent (runs (begun s command) (commands ++ further) items)) _ _
    (started_run s command commands items e) (started_run s command (commands ++ further) items e)
    (behind_both sent _ _ (awaiting (begun s command) commands further refl))

either_more : (items : List Item) → ((s : AskingState) (commands further : List Command) → is_resting s.stage ≡ false → Grows items s commands further)
    → (s : AskingState) (commands further : List Command) (resting : Bool) → is_resting s.stage ≡ resting → Grows items s commands further
either_more items awaiting s commands further true e = resting_more items awaiting s commands further e
either_more items awaiting s commands further false e = awaiting s commands further e

item_more : (item : Item) (items : List Item) → ((s : AskingState) (commands further : List Command) → Grows items s commands further)
    → (s : AskingState) (commands further : List Command) (reply : Option Answered) → is_resting s.stage ≡ false → answered s item ≡ reply → Grows (item ∷ items) s commands further
item_more item items others s commands further None e is =
    extends_as (stops (refuses (item ∷ items))) (stops (refuses (item ∷ items))) _ _ (refused_run s commands item items e is) (refused_run s (commands ++ further) item items e is) (same_run _)
item_more item items others s commands further (Some reply) e is =
    let said = says reply.lines reply.sent in
    extends_as (behind said (runs reply.next commands items)) (behind said (runs reply.next (commands ++ further) items)) _ _
    (answered_run s commands item items reply e is) (answered_run s (commands ++ further) item items reply e is) (behind_both said _ _ (others reply.next commands further))

awaiting_more : (items : List Item) (s : AskingState) (commands further : List Command) → is_resting s.stage ≡ false → Grows items s commands further
awaiting_more [] s commands further e = extends_as (stops waits) (stops waits) _ _ (at_end s commands e) (at_end s (commands ++ further) e) (same_run _)
awaiting_more (item ∷ items) s commands further e =
    item_more item items (λ t cs ds. either_more items (λ u es fs r. awaiting_more items u es fs r) t cs ds (is_resting t.stage) refl) s commands further (answered s item) e refl

whole_more : (items : List Item) (commands further : List Command) → Extends (whole_run commands items) (whole_run (commands ++ further) items)
unfolding whole_run
whole_more items commands further = behind_both (Write bind_text ∷ []) _ _ (awaiting_more items fresh commands further refl)

-- ---- an exchange with further commands

abbrev pub IsAwaited : End → Type 0
IsAwaited nothing = ⊥
IsAwaited more = Unit {0}
IsAwaited (fault place) = Unit {0}

pub awaited : (end : End) (stream : List ℕ) (items : List Item) (found : Option IntakeFault) (ending : Ending) → IsAwaited end → IsEnd end stream items found ending → ¬ (ending ≡ rests)
awaited nothing stream items found ending awaits is = absurd awaits
awaited more stream items found ending awaits is = λ e. absurd (cc (sym is.0 ∙ e))
awaited (fault place) stream items None rests awaits is = absurd is
awaited (fault place) stream items (Some found) rests awaits is = absurd is
awaited (fault place) stream items found waits awaits is = λ e. absurd (cc e)
awaited (fault place) stream items found (refuses others) awaits is = λ e. absurd (cc e)

pub exchange_further : (commands further : List Command) (stream : List ℕ) (given : List Ask) (end : End) → IsAwaited end → Exchange commands stream given end
    → Exchange (commands ++ further) stream given end
exchange_further commands further stream given end awaits exchange = λ items found is.
    let ends = exchange items found is in
    let ended : (whole_run commands items).1 ≡ ends.ending = ap (λ (r : Run). r.1) ends.run in
    record {
      ending = ends.ending;
      run = (whole_more items commands further).same (λ e. awaited end stream items found ends.ending awaits ends.is (sym ended ∙ e)) ∙ ends.run;
      is = ends.is;
    }

pub begins_further : (commands further : List Command) (stream : List ℕ) (given : List Ask) → Begins commands stream given → Begins (commands ++ further) stream given
begins_further commands further stream given begins = λ items found is.
    let first = begins items found is in
    let grows = whole_more items commands further in
    record {
      others = first.others ++ grows.rest;
      are = grows.front ∙ ap (λ (l : List Ask). l ++ grows.rest) first.are ∙ append_assoc given first.others grows.rest;
    }

-- What a client has given is the first that it gives.
pub begins_with : (kept : Kept) (commands : List Command) (stream : List ℕ) (given : List Ask) → Holds kept commands stream given → Begins commands stream given
begins_with kept commands stream given h = λ items found is.
    let f = front_of kept commands stream given h items found is in
    let others = option_to_list kept.item ++ f.others in
    let are = f.are ∙ append_assoc h.items (option_to_list kept.item) f.others in
    let run : whole_run commands items ≡ behind (given ++ still_to_give kept) (runs kept.asking [] others) =
    ap (λ (l : List Item). whole_run commands l) are ∙ ap (λ (cs : List Command). whole_run cs (h.items ++ others)) (sym (append-nil commands)) ∙ h.goes_on [] others in
    record {
      others = still_to_give kept ++ (runs kept.asking [] others).0;
      are = ap (λ (r : Run). r.0) run ∙ append_assoc given (still_to_give kept) (runs kept.asking [] others).0;
    }
