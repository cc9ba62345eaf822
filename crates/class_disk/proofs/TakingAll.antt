-- Packets that have ended are taken one after the other, until none is left.
use Rattle.std.proofs.Common.{◌≡◌, List, [], ◌++◌, refl, sym, ◌∙◌, subst, append_assoc, append-nil}
use Rattle.class_disk.proofs.Common.{All-nil, All-append, moves_none, moves_joined, DeviceLabel, State, IsStart, DeviceView, Way, Unsent, EndedBy, TableView, GoesOn, IsMidway, TakesOne, TakesAll, FindsNone}

-- some are taken so far
pub record TakesSome (way : Way)
    (v : DeviceView) (b : TableView) (v' : DeviceView) (b' : TableView) : Type 0 where
  pub starts : List DeviceLabel
  pub goes_on : GoesOn v b starts v' b'
  pub still : way ≡ Unsent → starts ≡ []
  pub stays : (first : State) (labels : List DeviceLabel)
      → IsMidway (EndedBy way) first labels v b → IsMidway (EndedBy way) first
      (labels ++ starts) v' b'

pub stays_there : (v : DeviceView) (b : TableView) → GoesOn v b [] v b
stays_there v b = record {
  only_starts = All-nil IsStart;
  adapter = moves_none v.adapter;
  same_rules = refl;
  same_most = refl;
  same_places = refl;
  same_last = refl;
  same_submitted = refl;
  same_packets = refl;
  same_rooms = refl;
}

pub goes_further : (v : DeviceView) (b : TableView) (starts : List DeviceLabel) (v' : DeviceView) (b' : TableView)
    (more : List DeviceLabel) (v'' : DeviceView) (b'' : TableView)
    → GoesOn v b starts v' b' → GoesOn v' b' more v'' b'' → GoesOn v b (starts ++ more) v'' b''
goes_further v b starts v' b' more v'' b'' g h = record {
  only_starts = All-append IsStart starts more g.only_starts h.only_starts;
  adapter = moves_joined v.adapter starts v'.adapter more v''.adapter g.adapter h.adapter;
  same_rules = h.same_rules ∙ g.same_rules;
  same_most = h.same_most ∙ g.same_most;
  same_places = h.same_places ∙ g.same_places;
  same_last = h.same_last ∙ g.same_last;
  same_submitted = h.same_submitted ∙ g.same_submitted;
  same_packets = h.same_packets ∙ g.same_packets;
  same_rooms = h.same_rooms ∙ g.same_rooms;
}

module _ (way : Way) where
  pub takes_nothing : (v : DeviceView) (b : TableView) → TakesSome way v b v b
  takes_nothing v b = record {
    starts = [];
    goes_on = stays_there v b;
    still = λ is. refl;
    stays = λ first labels m. subst (λ ls. IsMidway (EndedBy way) first ls v b) (sym (append-nil labels)) m;
  }

  module _ (v : DeviceView) (b : TableView) (v' : DeviceView) (b' : TableView) (v'' : DeviceView)
      (b'' : TableView) where
    pub takes_more : TakesSome way v b v' b' → TakesOne way v' b' v'' b''
        → TakesSome way v b v'' b''
    takes_more s one = record {
      starts = s.starts ++ one.starts;
      goes_on = goes_further v b s.starts v' b' one.starts v'' b'' s.goes_on one.goes_on;
      still = λ is. subst (λ ls. ls ++ one.starts ≡ []) (sym (s.still is)) (one.still is);
      stays = λ first labels m.
          subst (λ ls. IsMidway (EndedBy way) first ls v'' b'') (append_assoc labels s.starts one.starts)
          (one.stays first (labels ++ s.starts) (s.stays first labels m));
    }

    pub takes_all : TakesSome way v b v' b' → FindsNone v' b' v'' b''
        → TakesAll way v b v'' b''
    takes_all s f =
        subst (λ x. TakesAll way v b x b'') (sym f.none.same)
        (subst (λ x. TakesAll way v b v' x) (sym f.same) (record {
          starts = s.starts;
          goes_on = s.goes_on;
          still = s.still;
          stays = s.stays;
          none = record { unfinished = f.none.unfinished; settled = f.none.settled; same = refl };
        }))
