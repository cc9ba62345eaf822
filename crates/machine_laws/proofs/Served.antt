-- A solo request that succeeds, from its call to its answer.
use Rattle.machine_laws.proofs.Common.{◌≡◌, ◌<◌, ℕ, ◌+◌, ◌-◌, true, List, [], ◌∷◌, refl, sym, ◌∙◌, ap, arith, map, length, take, drop, get_or, slice_range, All, list_all, concat, length-map, get_or-map, All-map, IsSector, Kind, Read, Success, ClientRequest, Label, Rules, place_count, Mark, Untouched, OpenRequest, State, Answers, is_done, bytes_of_mark, answer_bytes, Run, IsSoloAt, IsSolo, IsServed, IsSame-sym, part_of}
use Rattle.machine_laws.proofs.Chunks.{chunk, concat_chunk}
use Rattle.machine_laws.proofs.Sectors.{part_is}
use Rattle.machine_laws.proofs.Marks.{all_right}
use Rattle.machine_laws.proofs.Serving.{Mine, Serves, AllActRightly, acts_by, Serves-same, Serves-Step, sized_first, mine_first}
use Rattle.machine_laws.proofs.Sound.{IsSound, IsSound-Step, called_sound, called_serves}

-- a request whose places are all done, each as is right
pub record IsDoneRightly (rules : Rules) (q : ClientRequest) (Right : ℕ → List ℕ → Type 0) (o : OpenRequest) : Type 0 where
  pub request : o.request ≡ q
  pub done : list_all is_done o.marks ≡ true
  pub count : length o.marks ≡ place_count rules q
  pub right : (k : ℕ) (d : Mark) → k < length o.marks → Right k (bytes_of_mark (get_or o.marks k d))

pub rightly_done : (rules : Rules) (number : ℕ) (q : ClientRequest) (Right : List (List (List ℕ)) → ℕ → List ℕ → Type 0) (ended : State) (bytes : List ℕ) (after : State)
    → Serves rules number q Right ended → (h : Answers rules ended number Success bytes after) → IsDoneRightly rules q (Right ended.arrays) h.request
rightly_done rules number q Right ended bytes after k h =
    let mine : Mine q (Right ended.arrays) h.request = mine_first rules number q Right ended h.request h.others h.is_open k h.is_number in
    let done : list_all is_done h.request.marks ≡ true = h.success.0 refl in
    record {
      request = mine.request;
      done = done;
      count = (sized_first rules number q Right ended h.request h.others h.is_open k).places ∙ ap (λ r. place_count rules r) mine.request;
      right = λ i d low. all_right (Right ended.arrays) h.request.marks i d done mine.right low;
    }

module _ (rules : Rules) (number : ℕ) (q : ClientRequest) (Right : List (List (List ℕ)) → ℕ → List ℕ → Type 0)
    (acts : (s s' : State) → IsSound rules s → Serves rules number q Right s → IsSoloAt rules number q s → AllActRightly rules number Right s s') where
  Serves-Run : (s : State) (labels : List Label) (s' : State) → IsSound rules s → Serves rules number q Right s → (run : Run rules s labels s') → IsSolo rules number q s labels s' run → Serves rules number q Right s'
  Serves-Run s [] s' sound k run solo = Serves-same rules number q Right s' s (IsSame-sym s s' run) k
  Serves-Run s (label ∷ labels) s' sound k run solo =
      Serves-Run run.0 labels s' (IsSound-Step rules s label run.0 sound run.1)
      (Serves-Step rules number q Right s label run.0 sound.0 (acts_by rules number Right s label run.0 (λ n bytes h e. acts s run.0 sound k solo.0 n bytes h)) k run.1) run.2 solo.1

  -- where its acts keep right what is right of its places, that is right at its answer
  pub done_rightly : (before : State) (bytes : List ℕ) (after : State) → IsSound rules before → (served : IsServed rules number q bytes before after)
      → IsDoneRightly rules q (Right served.ended.arrays) served.answers.request
  done_rightly before bytes after sound served =
      rightly_done rules number q Right served.ended bytes after
      (Serves-Run served.called served.labels served.ended (called_sound rules before number q served.called sound served.opens) (called_serves rules before number q Right served.called sound served.opens) served.run served.solo)
      served.answers

-- all places of a request, as a range of its array
pub whole_range : (array : List (List ℕ)) (from n : ℕ) → take n (drop from array) ≡ slice_range array (from + 0) (from + 0 + n)
whole_range array from n =
    let a : from + 0 ≡ from = omega arith in
    let b : from + 0 + n - (from + 0) ≡ n = omega arith in
    rw (b, a)

-- THE BYTES OF A READ'S ANSWER

pub read_bytes : (kind : Kind) (marks : List Mark) → kind ≡ Read → list_all is_done marks ≡ true → answer_bytes kind marks ≡ concat (map bytes_of_mark marks)
read_bytes kind marks e done = rw (e, done)

-- those of a place are its sector's
pub read_part : (rules : Rules) (kind : Kind) (marks : List Mark) (bytes : List ℕ) (place : ℕ) → kind ≡ Read → list_all is_done marks ≡ true
    → ((k : ℕ) (d : Mark) → k < length marks → IsSector rules.sector_size (bytes_of_mark (get_or marks k d))) → bytes ≡ answer_bytes kind marks → place < length marks
    → part_of rules bytes place ≡ bytes_of_mark (get_or marks place Untouched)
read_part rules kind marks bytes place read done sized is_bytes low =
    let whole : All (IsSector rules.sector_size) (map bytes_of_mark marks) = All-map (IsSector rules.sector_size) bytes_of_mark marks sized in
    let long : place < length (map bytes_of_mark marks) = rw (length-map marks bytes_of_mark) low in
    part_is rules bytes place ∙ ap (λ ys. chunk rules.sector_size place ys) (is_bytes ∙ read_bytes kind marks read done)
    ∙ sym (concat_chunk rules.sector_size (map bytes_of_mark marks) place [] whole long) ∙ get_or-map bytes_of_mark marks place Untouched [] low
