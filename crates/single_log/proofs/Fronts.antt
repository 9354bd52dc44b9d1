-- A moment that holds a front of some records holds one of more records.
use Rattle.std.proofs.Common.{List, [], ◌++◌, Option, Some, None, refl, sym, ap, ◌∙◌, append_assoc}
use Rattle.std.proofs.lemmas.List.{append-nil}
use Rattle.std.specs.Option.{option_to_list}
use Rattle.update_records.specs.Entry.{Entry}
use Rattle.disk_core.specs.Images.{Moment, EachImage}
use Rattle.quorum_log.specs.declared.found.Found.{Found}
use Rattle.log_contents.specs.declared.contents.LogContents.{LogContents}
use Rattle.single_log.specs.Images.{HoldsFront, HoldsFurther, MayHoldOne}

module _ (found : Found) (contents : LogContents) where
  pub front_all : (q : List Entry) (m : Moment) → EachImage (HoldsFurther found contents q) m → HoldsFront found contents q m
  front_all q m is = record { front = q; doubtful = None; others = []; split = sym (append-nil q); images = is }

  pub front_one : (q : List Entry) (doubtful : Option Entry) (m : Moment) → EachImage (MayHoldOne found contents q doubtful) m → HoldsFront found contents (q ++ option_to_list doubtful) m
  front_one q None m is = record { front = q; doubtful = None; others = []; split = refl; images = is }
  front_one q (Some e) m is = record { front = q; doubtful = Some e; others = []; split = refl; images = is }

  pub front_longer : (q more : List Entry) (m : Moment) → HoldsFront found contents q m → HoldsFront found contents (q ++ more) m
  front_longer q more m h = record {
    front = h.front;
    doubtful = h.doubtful;
    others = h.others ++ more;
    split = ap (λ (l : List Entry). l ++ more) h.split
        ∙ append_assoc h.front (option_to_list h.doubtful ++ h.others) more
        ∙ ap (λ (l : List Entry). h.front ++ l) (append_assoc (option_to_list h.doubtful) h.others more);
    images = h.images;
  }
