-- What a call of a stream is, told without the order of reading: the list of its fragments.
use Rattle.std.specs.Prelude.{◌≡◌, ◌≢◌, ◌⊎◌, ℕ, ◌≤◌, Bool, true, false, List, [], ◌∷◌, ◌++◌, length, Option, Some, None}
use Rattle.rpc_calls.specs.declared.call.Call.{Call}
use Rattle.rpc_calls.specs.declared.item.Item.{Item}
use Rattle.rpc_calls.specs.declared.item.Item.TheVariants as items
use Rattle.rpc_calls.specs.declared.side.Side.{Side}
use Rattle.rpc_calls.specs.Assembly.{most_stub}
use Rattle.rpc_calls.specs.Fragments.{fragment_of, is_first, is_last, orphan_of, with_stub}
use Rattle.rpc_calls.specs.Parts.{IsPart}
use Rattle.rpc_calls.specs.Streams.{put}

-- The parts are what the frames stand for, one by one.
abbrev pub ArePartsOf : List (List ℕ) → List Item → Type 0
ArePartsOf [] [] = Unit {0}
ArePartsOf (frame ∷ frames) (part ∷ parts) = IsPart frame part × ArePartsOf frames parts
ArePartsOf frames parts = ⊥

-- The part is a fragment of this side with these flags, and says this of its call.
pub record IsFragment (side : Side) (part : Item) (fragment : Call) (first last : Bool) : Type 0 where
  pub flags : ℕ
  pub is : fragment_of side part ≡ Some (fragment, flags)
  pub first_flag : is_first flags ≡ first
  pub last_flag : is_last flags ≡ last

-- The part is no fragment of this side, and doesn't give up the call of this id.
pub record StandsApart (side : Side) (call_id : ℕ) (part : Item) : Type 0 where
  pub no_fragment : fragment_of side part ≡ None
  pub goes_on : orphan_of part ≢ Some call_id

-- Among the parts there are, of this side, middle fragments of this call alone, and none gives it up;
-- the stub is theirs joined.
unfoldable pub Middles : Side → ℕ → List Item → List ℕ → Type 0
Middles side call_id [] stub = stub ≡ []
Middles side call_id (part ∷ parts) stub =
    (StandsApart side call_id part × Middles side call_id parts stub)
    ⊎ ((fragment : Call) × (more : List ℕ) × IsFragment side part fragment false false × (fragment.call_id ≡ call_id) × (stub ≡ fragment.stub ++ more)
    × Middles side call_id parts more)

-- A first fragment stands among the parts, with nothing of its side but middle fragments of its call behind it.
pub record IsUnfinished (side : Side) (parts : List Item) (call : Call) : Type 0 where
  pub before : List Item
  pub first : Item
  pub middle : List Item
  pub start : Call
  pub stub : List ℕ
  pub all : parts ≡ before ++ first ∷ middle
  pub begins : IsFragment side first start true false
  pub goes_on : Middles side start.call_id middle stub
  pub call_is : call ≡ with_stub start (start.stub ++ stub)

-- The last of these parts ends this call: its only fragment, or the last one of the unfinished call.
abbrev pub IsCall : Side → List Item → Item → Call → Type 0
IsCall side before last call =
    (IsFragment side last call true true × (length call.stub ≤ most_stub))
    ⊎ ((held : Call) × (fragment : Call) × IsUnfinished side before held × IsFragment side last fragment false true
    × (fragment.call_id ≡ held.call_id) × (length (held.stub ++ fragment.stub) ≤ most_stub) × (call ≡ with_stub held (held.stub ++ fragment.stub)))

-- What item stands where this part does, behind those parts: none at a fragment that isn't the last of
-- its call, the call at its last fragment, and any other part itself.
abbrev pub ItemAt : Side → List Item → Item → Option Item → Type 0
ItemAt side before part None = (fragment : Call) × (first : Bool) × IsFragment side part fragment first false
ItemAt side before part (Some item) =
    ((fragment_of side part ≡ None) × (item ≡ part))
    ⊎ ((call : Call) × (item ≡ items.Call call) × IsCall side before part call)

-- The items that stand at the parts, behind those before them.
unfoldable pub ItemsAt : Side → List Item → List Item → List Item → Type 0
ItemsAt side before [] given = given ≡ []
ItemsAt side before (part ∷ parts) given =
    (item : Option Item) × (more : List Item) × ItemAt side before part item × (given ≡ put item more) × ItemsAt side (before ++ part ∷ []) parts more

-- The call that the parts leave unfinished, where there is one.
abbrev pub LeftIs : Side → List Item → Option Call → Type 0
LeftIs side parts None = (call : Call) → IsUnfinished side parts call → ⊥
LeftIs side parts (Some call) = IsUnfinished side parts call × ((other : Call) → IsUnfinished side parts other → other ≡ call)
