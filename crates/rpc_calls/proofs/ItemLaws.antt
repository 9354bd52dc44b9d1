-- Each list of an item fits its count, since its PDU counts it.
use Rattle.std.proofs.Common.{◌≡◌, ℕ, List, length, Option, Some, None, subst}
use Rattle.std.specs.Prelude.{Err, Bool, true, false, nat_lt, IfSome, if◌then◌else◌}
use Rattle.rpc_pdu.proofs.PduLaws.{counts_fit}
use Rattle.rpc_calls.specs.declared.call.Call.{Call}
use Rattle.rpc_calls.specs.declared.intake_fault.IntakeFault.{IntakeFault}
use Rattle.rpc_calls.specs.declared.intake_fault.IntakeFault.TheVariants.{Interleaved, StubTooLong}
use Rattle.rpc_calls.specs.declared.item.Item.{Item}
use Rattle.rpc_calls.specs.declared.item.Item.TheVariants as items
use Rattle.rpc_calls.specs.declared.side.Side.{Side}
use Rattle.rpc_calls.specs.Assembly.{Outcome, ended, extended, finished_if, goes_on, joined, kept_by, most_stub, taken, taken_as}
use Rattle.rpc_calls.specs.Fragments.{fragment_of, is_first, is_last, orphan_of}
use Rattle.rpc_calls.specs.Intakes.{Kept}
use Rattle.rpc_calls.specs.Parts.{IsPart, ItemFits}
use Rattle.rpc_calls.specs.Turns.{Goes}
use Rattle.rpc_calls.proofs.Assembling.{goes_on-same}

part_fits : (frame : List ℕ) (part : Item) → IsPart frame part → ItemFits part
part_fits frame (items.Single pdu) is = counts_fit frame pdu is
part_fits frame (items.BadBind id reason) is = tt
part_fits frame (items.Call call) is = tt

abbrev FitsIfAny : Option Item → Type 0
FitsIfAny item = IfSome item ItemFits

same_fits : (a b : Option Item) → a ≡ b → FitsIfAny a → FitsIfAny b
same_fits a b e fits = let P : Option Item → Type 0 = λ o. FitsIfAny o in subst P e fits

finished_fits : (last : Bool) (call : Call) (behind : Option Call) (item : Option Item) → finished_if last call ≡ goes_on behind item → FitsIfAny item
finished_fits true call behind item e = same_fits (Some (items.Call call)) item (goes_on-same None behind (Some (items.Call call)) item e).1 tt
finished_fits false call behind item e = same_fits None item (goes_on-same (Some call) behind None item e).1 tt

abbrev fail : IntakeFault → Outcome
fail fault = Err fault

err_not_ok : (fault : IntakeFault) (behind : Option Call) (item : Option Item) → fail fault ≡ goes_on behind item → ⊥
err_not_ok fault behind item e = cc

abbrev ended_if : Bool → ℕ → Bool → Call → Outcome
ended_if too_long place last call = if too_long then Err (StubTooLong place) else finished_if last call

checked_fits : (too_long : Bool) (place : ℕ) (last : Bool) (call : Call) (behind : Option Call) (item : Option Item)
    → ended_if too_long place last call ≡ goes_on behind item → FitsIfAny item
checked_fits true place last call behind item e = absurd (err_not_ok (StubTooLong place) behind item e)
checked_fits false place last call behind item e = finished_fits last call behind item e

ended_fits : (place : ℕ) (last : Bool) (call : Option Call) (behind : Option Call) (item : Option Item) → ended place last call ≡ goes_on behind item → FitsIfAny item
ended_fits place last None behind item e = absurd (err_not_ok (Interleaved place) behind item e)
ended_fits place last (Some call) behind item e = checked_fits (nat_lt most_stub (length call.stub)) place last call behind item e

taken_fits : (fragment : Option (Call × ℕ)) (place : ℕ) (before behind : Option Call) (part : Item) (item : Option Item)
    → ItemFits part → taken_as fragment place before part ≡ goes_on behind item → FitsIfAny item
unfolding joined
taken_fits None place before behind part item fits e =
    same_fits (Some part) item (goes_on-same (kept_by (orphan_of part) before) behind (Some part) item e).1 fits
taken_fits (Some fragment) place before behind part item fits e =
    ended_fits place (is_last fragment.1) (extended before fragment.0 (is_first fragment.1)) behind item e

gives_fitting : (side : Side) (place : ℕ) (before behind : Option Call) (frame : List ℕ) (part : Item) (item : Option Item)
    → IsPart frame part → taken side place before part ≡ goes_on behind item → FitsIfAny item
unfolding taken
gives_fitting side place before behind frame part item stands does =
    taken_fits (fragment_of side part) place before behind part item (part_fits frame part stands) does

-- The item of a turn.
pub item_fits : (old new : Kept) (item : Item) → Goes old new (Some item) → ItemFits item
item_fits old new item goes = gives_fitting old.side old.place old.left new.left goes.frame goes.part (Some item) goes.stands goes.does
