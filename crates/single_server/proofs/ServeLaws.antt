-- The connections of a door are served one after another.
use Rattle.std.proofs.Common.{◌≡◌, ◌≢◌, inl, inr, ℕ, ◌+◌, ◌≤◌, ◌<◌, false, List, [], ◌∷◌, ◌++◌, length, Option, Some, None, refl, sym, ap, ◌∙◌, subst, append_assoc, arith, length-append}
use Rattle.std.proofs.lemmas.List.{append-nil}
use Rattle.std.specs.List.{AllByRecursion}
use Rattle.edge_io.specs.Visits.{Tells, Visit, Visits, hung_up}
use Rattle.disk_core.specs.Views.{DiskView}
use Rattle.update_records.specs.Entry.{Entry}
use Rattle.cluster_node.specs.States.{RunningNode}
use Rattle.single_items.specs.Alone.{AloneRun, alone, next_alone}
use Rattle.single_node.specs.Delivering.{LogsAll}
use Rattle.single_node.specs.Singles.{SingleState}
use Rattle.single_node.proofs.Applied.{still_self}
use Rattle.single_node.proofs.Delivery.{logs_both}
use Rattle.single_server.specs.declared.ended.Ended.{Ended}
use Rattle.single_server.specs.declared.ended.Ended.TheVariants.{BadLog, DiskFault, Done, Fenced, NoMemory, ReadFault, WriteFault}
use Rattle.single_server.specs.Hearing.{Beginning}
use Rattle.single_server.specs.Serving.{AreEnough, HaveServed, HaveServedInPart, IsBrokenOff, IsCutShort, ServesFrom}
use Rattle.single_server.specs.Session.{beginning_at}
use Rattle.single_server.specs.Talking.{Exchanged, HasVisited, IsAttended, IsCutOffAt, IsFree, IsReady, Leads, NoneComes, ServesRest, Talks, VisitsNone, VisitsOne}
use Rattle.single_server.specs.Visits.{AreServed, HasItems, IsServed, Talk, first_behind, records_of}
use Rattle.single_server.proofs.DoorLaws.{VisitedSo, ends_visit, visited_first, visited_more, visited_none, visited_one}

abbrev Doors : Type 0
Doors = Option Visits

-- ---- one connection

pub served_next : (c : ℕ) (b : Beginning) (t : SingleState) (w : DiskView) (old mid between new : Doors) → Talks (Exchanged [] [] false) old mid → IsAttended c b t w (λ talk. Leads (Exchanged [] [] false) (IsServed c b.first talk) mid between)
    → Tells between new (λ old new. new ≡ hung_up old) → IsAttended c b t w (λ talk. VisitsOne (IsServed c b.first talk) old new)
served_next c b t w old mid between new came g hung = record {
  talk = g.talk;
  items = g.items;
  node = g.node;
  free = g.free;
  logs = g.logs;
  told = ends_visit (IsServed c b.first g.talk) old between new (g.told old came) hung;
}

pub cut_next : (ended : Ended) (c : ℕ) (b : Beginning) (w : DiskView) (old mid between new : Doors) → Talks (Exchanged [] [] false) old mid → IsCutOffAt ended c b w mid between
    → Tells between new (λ old new. new ≡ hung_up old) → (off : IsBrokenOff ended c b w) × VisitsOne (IsCutShort c off.stream off.told) old new
cut_next ended c b w old mid between new came g hung = (g.off, ends_visit (IsCutShort c g.off.stream g.off.told) old between new (g.over old came) hung)

-- ---- one more behind the others

items_more : (talks : List Talk) (t : Talk) → AllByRecursion HasItems talks → HasItems t → AllByRecursion HasItems (talks ++ t ∷ [])
items_more [] t all one = (one, tt)
items_more (u ∷ talks) t all one = (all.0, items_more talks t all.1 one)

records_more : (c : ℕ) (first : AloneRun) (talks : List Talk) (t : Talk)
    → records_of c first (talks ++ t ∷ []) ≡ records_of c first talks ++ (alone (c + length talks) (first_behind c first talks) t.given).records
unfolding records_of first_behind
records_more c first [] t =
    let e : c ≡ c + 0 = omega arith in
    append-nil (alone c first t.given).records ∙ ap (λ (n : ℕ). (alone n first t.given).records) e
records_more c first (u ∷ talks) t =
    let next : AloneRun = next_alone (alone c first u.given) in
    let e : c + 1 + length talks ≡ c + length (u ∷ talks) = omega arith in
    ap (λ (l : List Entry). (alone c first u.given).records ++ l)
    (records_more (c + 1) next talks t ∙ ap (λ (n : ℕ). records_of (c + 1) next talks ++ (alone n (first_behind (c + 1) next talks) t.given).records) e)
    ∙ sym (append_assoc (alone c first u.given).records (records_of (c + 1) next talks) (alone (c + length (u ∷ talks)) (first_behind (c + 1) next talks) t.given).records)

first_more : (c : ℕ) (first : AloneRun) (talks : List Talk) (t : Talk) → first_behind c first (talks ++ t ∷ []) ≡ next_alone (alone (c + length talks) (first_behind c first talks) t.given)
unfolding first_behind
first_more c first [] t = let e : c ≡ c + 0 = omega arith in ap (λ (n : ℕ). next_alone (alone n first t.given)) e
first_more c first (u ∷ talks) t =
    let next : AloneRun = next_alone (alone c first u.given) in
    let e : c + 1 + length talks ≡ c + length (u ∷ talks) = omega arith in
    first_more (c + 1) next talks t ∙ ap (λ (n : ℕ). next_alone (alone n (first_behind (c + 1) next talks) t.given)) e

served_more : (c : ℕ) (first : AloneRun) (talks : List Talk) (visits : List Visit) (t : Talk) (v : Visit) → AreServed c first talks visits → IsServed (c + length talks) (first_behind c first talks) t v
    → AreServed c first (talks ++ t ∷ []) (visits ++ v ∷ [])
unfolding AreServed first_behind
served_more c first [] [] t v all one = let e : c + 0 ≡ c = omega arith in (subst (λ (n : ℕ). IsServed n first t v) e one, tt)
served_more c first [] (u ∷ visits) t v all one = absurd all
served_more c first (s ∷ talks) [] t v all one = absurd all
served_more c first (s ∷ talks) (u ∷ visits) t v all one =
    let next : AloneRun = next_alone (alone c first s.given) in
    let e : c + length (s ∷ talks) ≡ c + 1 + length talks = omega arith in
    (all.0, served_more (c + 1) next talks visits t v all.1 (subst (λ (n : ℕ). IsServed n (first_behind (c + 1) next talks) t v) e one))

-- ---- so far

-- So many connections were served since, and the next one begins where Alone says.
pub record SoFar (done : ℕ) (start : Beginning) (s : SingleState) (w : DiskView) (old now : Doors) : Type 0 where
  pub talks : List Talk
  pub items : AllByRecursion HasItems talks
  pub counted : length talks ≡ done
  pub first : AloneRun
  pub node : RunningNode
  pub free : IsFree (done + 1) first node s
  pub goes_on : first ≡ first_behind 1 start.first talks
  pub logs : LogsAll (records_of 1 start.first talks) start.member start.disk node.member w
  pub visited : (origin : Doors) → HasVisited [] origin old → VisitedSo (AreServed 1 start.first talks) origin now

pub none_so_far : (first : AloneRun) (x : RunningNode) (s : SingleState) (w : DiskView) (old : Doors) → IsFree 1 first x s → SoFar 0 (beginning_at first x w) s w old old
unfolding records_of first_behind AreServed
none_so_far first x s w old free = record {
  talks = [];
  items = tt;
  counted = refl;
  first = first;
  node = x;
  free = free;
  goes_on = refl;
  logs = (refl, still_self x.member);
  visited = λ origin came. visited_first (AreServed 1 first []) origin old tt came;
}

module _ (done : ℕ) (start : Beginning) (s : SingleState) (w : DiskView) (old mid : Doors) (r : SoFar done start s w old mid) where
  pub ready : IsReady (done + 1) s
  ready = (r.first, r.node, r.free)

  abbrev pub Next : Beginning
  Next = beginning_at r.first r.node w

  number : done + 1 ≡ 1 + length r.talks
  number = let n = r.counted in omega (arith, n)

  pub one_more : (t : SingleState) (u : DiskView) (new : Doors) → IsAttended (done + 1) Next t u (λ talk. VisitsOne (IsServed (done + 1) r.first talk) mid new) → SoFar (done + 1) start t u old new
  one_more t u new g =
      let same : r.first ≡ first_behind 1 start.first r.talks = r.goes_on in
      let is : alone (done + 1) r.first g.talk.given ≡ alone (1 + length r.talks) (first_behind 1 start.first r.talks) g.talk.given =
      ap (λ (n : ℕ). alone n r.first g.talk.given) number ∙ ap (λ (f : AloneRun). alone (1 + length r.talks) f g.talk.given) same in
      record {
        talks = r.talks ++ g.talk ∷ [];
        items = items_more r.talks g.talk r.items g.items;
        counted = (let n = r.counted in let l = length-append r.talks (g.talk ∷ []) in omega (arith, n, l));
        first = next_alone (alone (done + 1) r.first g.talk.given);
        node = g.node;
        free = g.free;
        goes_on = ap next_alone is ∙ sym (first_more 1 start.first r.talks g.talk);
        logs = subst (λ (l : List Entry). LogsAll l start.member start.disk g.node.member u)
            (ap (λ (x : AloneRun). records_of 1 start.first r.talks ++ x.records) is ∙ sym (records_more 1 start.first r.talks g.talk))
            (logs_both (records_of 1 start.first r.talks) (alone (done + 1) r.first g.talk.given).records start.member r.node.member g.node.member start.disk w u r.logs g.logs);
        visited = λ origin came. visited_one (AreServed 1 start.first r.talks) (AreServed 1 start.first (r.talks ++ g.talk ∷ [])) (IsServed (done + 1) r.first g.talk) origin mid new
            (λ visits v all one. served_more 1 start.first r.talks visits g.talk v all
            (subst (λ (f : AloneRun). IsServed (1 + length r.talks) f g.talk v) same (subst (λ (n : ℕ). IsServed n r.first g.talk v) number one))) (r.visited origin came) g.told;
      }

  -- ---- the end

  have_served : (count : ℕ) (origin new : Doors) → done ≤ count → VisitedSo (AreServed 1 start.first r.talks) origin new → HaveServed start count origin new w
  have_served count origin new few visited = record {
    talks = r.talks;
    items = r.items;
    most = (let n = r.counted in omega (arith, n, few));
    member = r.node.member;
    logs = r.logs;
    told = visited;
  }

  enough_served : (count : ℕ) (new : Doors) → done ≡ count → AreEnough count r.talks new
  enough_served count None all = tt
  enough_served count (Some new) all = inl (r.counted ∙ all)

  enough_came : (count : ℕ) (new : Doors) → NoneComes new → AreEnough count r.talks new
  enough_came count None none = tt
  enough_came count (Some new) none = inr none

  pub all_served : (count : ℕ) → done ≡ count → ServesRest Done start count old mid w
  unfolding have_served
  all_served count all first came = (have_served count first mid (omega (arith, all)) (r.visited first came), enough_served count mid all)

  pub none_comes : (count : ℕ) (new : Doors) (u : DiskView) → done < count → u ≡ w → VisitsNone mid new × NoneComes new → ServesRest Done start count old new u
  unfolding have_served
  none_comes count new u few still (none, gone) first came =
      subst (λ (d : DiskView). ServesFrom Done start count first new d) (sym still) (have_served count first new (omega (arith, few)) (visited_none (AreServed 1 start.first r.talks) first mid new (r.visited first came) none), enough_came count new gone)

  pub fails_there : (count : ℕ) (new : Doors) (u : DiskView) → done < count → u ≡ w → VisitsNone mid new → ServesRest ReadFault start count old new u
  unfolding have_served
  fails_there count new u few still none first came =
      subst (λ (d : DiskView). ServesFrom ReadFault start count first new d) (sym still) (have_served count first new (omega (arith, few)) (visited_none (AreServed 1 start.first r.talks) first mid new (r.visited first came) none), (let n = r.counted in omega (arith, n, few)))

  module _ (ended : Ended) (count : ℕ) (new : Doors) (u : DiskView) (few : done < count) (off : IsBrokenOff ended (done + 1) Next u) (visit : VisitsOne (IsCutShort (done + 1) off.stream off.told) mid new) where
    abbrev Off : ℕ → Type 0
    Off n = (g : IsBrokenOff ended n Next u) × VisitsOne (IsCutShort n g.stream g.told) mid new

    at : Off (1 + length r.talks)
    at = subst (λ (n : ℕ). Off n) number (off, visit)

    in_part : (origin : Doors) → HasVisited [] origin old → HaveServedInPart ended start count origin new u
    in_part origin came = record {
      talks = r.talks;
      items = r.items;
      most = (let n = r.counted in omega (arith, n, few));
      last = Next;
      logs = r.logs;
      goes_on = r.goes_on;
      off = at.0;
      told = visited_more (AreServed 1 start.first r.talks) (IsCutShort (1 + length r.talks) at.0.stream at.0.told) origin mid new (r.visited origin came) at.1;
    }

    pub cut_there : (ended ≢ ReadFault) × (ended ≢ WriteFault) → ServesRest ended start count old new u
    cut_there ends = by_end ended refl off
      where
        by_end : (e : Ended) → ended ≡ e → IsBrokenOff e (done + 1) Next u → ServesRest e start count old new u
        by_end Done is g first came = absurd g.cut
        by_end ReadFault is g first came = absurd (ends.0 is)
        by_end WriteFault is g first came = absurd (ends.1 is)
        by_end DiskFault is g first came = subst (λ (e : Ended). HaveServedInPart e start count first new u) is (in_part first came)
        by_end NoMemory is g first came = subst (λ (e : Ended). HaveServedInPart e start count first new u) is (in_part first came)
        by_end (BadLog place) is g first came = subst (λ (e : Ended). HaveServedInPart e start count first new u) is (in_part first came)
        by_end (Fenced held) is g first came = subst (λ (e : Ended). HaveServedInPart e start count first new u) is (in_part first came)
