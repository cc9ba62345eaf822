-- An entry that is booked is that of the next step of its tag, and every step keeps the starts of what is out in the trace.
use Rattle.std.proofs.Common.{◌≡◌, ◌≢◌, ℕ, zero, suc, Bool, true, false, IsTrue, IsFalse, List, [], ◌∷◌, ◌++◌, map, Option, None, Ok, Err, Result, IsPermutation, refl, sym, ap, subst, ◌∙◌, arith, length-append, if◌then◌else◌}
use Rattle.compose.proofs.Common.{Need, All, Contains, eqb, IsDistinct, Decides-eqb, get_or_append_left, All-weaker, All-contains_itself, IsPermutation-sym, IsPermutation-map, Contains-permutation, IsDistinct-IsPermutation, Entry, Completion, DeviceLabel, Fresh, TagInUse, AdapterView, IsInOrder, IsOn, MovesByAll, Books, IsBookable, with_booked, booked_on, with_booking, on_tag_once, is_there, booked_is, AllTagged, StartsSo, all_moved_so, reset_so, Label, Piece, State, AreDistinct, piece_number, as_label, flips, first_unique, IsOfAct, OnTag, AreOnTags, piece_on_tag, use_on_tag, IsFreshOn, IsAct, IsActOrFault, Reply, ManagerView, Told, labels_of, end_labels, as_answer, BooksPiece, ActReplies, ReservesFor, AdapterMoves, IsRightBy, MovesWith, reserves_more, IsRight, IsStarted}
use Rattle.srb.specs.declared.DeviceLabel.TheVariants.{Start, Act, Fault, Return}
use Rattle.machine.specs.declared.Label.TheVariants.{Device}
use Rattle.io_manager.specs.declared.Reply.TheVariants.{Handle as HandleReply, Ok as OkReply, Request as Requested, Answered, Refused, Ignored}
use Rattle.compose.specs.declared.Event.TheVariants.{Act as ActEvent}
use Rattle.compose.proofs.Journaled.{entry_of_act}

-- PIECES OF THE MACHINE AND TAGS IN USE

maps : {X Y Z : Type 0} (g : Y → Z) (f : X → Y) (xs : List X) → map g (map f xs) ≡ map (λ x. g (f x)) xs
maps g f [] = refl
maps g f (x ∷ xs) = rw (maps g f xs) refl

pub there_mapped : {X Y : Type 0} (f : X → Y) (xs : List X) (x : X) → Contains xs x → Contains (map f xs) (f x)
there_mapped f [] x (k, low, is) = absurd (omega (arith, low))
there_mapped f (y ∷ xs) x (zero, low, is) = (0, omega arith, ap f is)
there_mapped f (y ∷ xs) x (suc k, low, is) = let r = there_mapped f xs x (k, omega (arith, low), is) in (suc r.0, (let w = r.1 in omega (arith, w)), r.2)

pub mapped_there : {X Y : Type 0} (f : X → Y) (xs : List X) (y : Y) → Contains (map f xs) y → (x : X) × Contains xs x × (f x ≡ y)
mapped_there f [] y (k, low, is) = absurd (omega (arith, low))
mapped_there f (x ∷ xs) y (zero, low, is) = (x, (0, omega arith, refl), is)
mapped_there f (x ∷ xs) y (suc k, low, is) =
    let r = mapped_there f xs y (k, omega (arith, low), is) in (r.0, (suc r.1.0, (let w = r.1.1 in omega (arith, w)), r.1.2), r.2)

abbrev use_piece : TagInUse → ℕ
use_piece u = u.piece

abbrev on_number : OnTag → ℕ
on_number x = x.number

-- the pieces on the tags have numbers of their own
distinct_uses : (s : State) (tags : List TagInUse) → AreDistinct s → IsPermutation (map piece_on_tag s.pieces) (map use_on_tag tags) → IsDistinct eqb (map use_piece tags)
distinct_uses s tags d p =
    let same : IsPermutation (map piece_number s.pieces) (map use_piece tags) =
    subst (λ ns. IsPermutation ns (map use_piece tags)) (maps on_number piece_on_tag s.pieces) (subst (λ ns. IsPermutation (map on_number (map piece_on_tag s.pieces)) ns) (maps on_number use_on_tag tags) (IsPermutation-map on_number _ _ p)) in
    IsDistinct-IsPermutation eqb flips _ _ same d.pieces

-- THE STEP OF A BOOKED ENTRY

-- the tag's piece, once it was booked
pub record Stands (mid : AdapterView) (tag piece : ℕ) (Holds : TagInUse → Type 0) : Type 0 where
  pub use' : TagInUse
  pub others : List TagInUse
  pub apart : IsFalse mid.faithful
  pub is_on : IsOn mid tag use' others
  pub is_piece : use'.piece ≡ piece
  pub is_fresh : use'.fate ≡ Fresh
  pub holds : Holds use'

-- the bytes of its act stand in its SRB's data, or none were booked
abbrev HasBytes : Entry → TagInUse → Type 0
HasBytes entry use' = use'.srb.data ≡ entry.bytes

abbrev HasNoBytes : TagInUse → Type 0
HasNoBytes use' = IsFalse use'.booked

booked_first : (tag : ℕ) (what : Result Entry Completion) (u : TagInUse) → u.tag ≡ tag → booked_on tag what u ≡ with_booked what u
booked_first tag what u e = rw ((Decides-eqb u.tag tag).1 e) refl

stands : (v : AdapterView) (tag piece : ℕ) (what : Result Entry Completion) (v' : AdapterView) (Holds : TagInUse → Type 0) → Books v tag piece what v' → (can : IsBookable v tag piece what) → ((u : TagInUse) → Holds (with_booked what u))
    → ((u : TagInUse) → ((with_booked what u).tag ≡ u.tag) × ((with_booked what u).piece ≡ u.piece) × ((with_booked what u).fate ≡ u.fate)) → Stands v' tag piece Holds
stands v tag piece what v' Holds h can holds same =
    let is : v' ≡ with_booking tag what v = h.after ∙ ap (λ (b : Bool). if b then with_booking tag what v else v) (h.decides.1 can) in
    subst (λ x. Stands x tag piece Holds) (sym is) (record {
      use' = with_booked what can.use';
      others = map (booked_on tag what) can.others;
      apart = can.apart;
      is_on = record {
        in_use = subst (λ (x : TagInUse). IsPermutation (map (booked_on tag what) v.tags) (x ∷ map (booked_on tag what) can.others)) (booked_first tag what can.use' can.is_on.has_tag)
            (IsPermutation-map (booked_on tag what) _ _ can.is_on.in_use);
        has_tag = (same can.use').0 ∙ can.is_on.has_tag;
      };
      is_piece = (same can.use').1 ∙ can.is_piece;
      is_fresh = (same can.use').2 ∙ can.is_fresh;
      holds = holds can.use';
    })

stands_booked : (v : AdapterView) (tag piece : ℕ) (entry : Entry) (v' : AdapterView) → Books v tag piece (Ok entry) v' → IsBookable v tag piece (Ok entry) → Stands v' tag piece (HasBytes entry)
stands_booked v tag piece entry v' h can = stands v tag piece (Ok entry) v' (HasBytes entry) h can (λ u. refl) (λ u. (refl, refl, refl))

stands_failed : (v : AdapterView) (tag piece : ℕ) (completion : Completion) (v' : AdapterView) → Books v tag piece (Err completion) v' → IsBookable v tag piece (Err completion) → Stands v' tag piece HasNoBytes
stands_failed v tag piece completion v' h can = stands v tag piece (Err completion) v' HasNoBytes h can (λ u. refl) (λ u. (refl, refl, refl))

-- so the machine has a fresh piece there
fresh_there : (mid : ManagerView) (tag piece : ℕ) (Holds : TagInUse → Type 0) → AreOnTags mid → Stands mid.adapter tag piece Holds → (p : Piece) × IsFreshOn mid.state tag p
fresh_there mid tag piece Holds on_tags here =
    let there : Contains (map piece_on_tag mid.state.pieces) (use_on_tag here.use') =
    Contains-permutation _ _ _ (IsPermutation-sym _ _ on_tags) (there_mapped use_on_tag mid.adapter.tags here.use' (is_there mid.adapter tag here.use' here.others here.is_on)) in
    let found = mapped_there piece_on_tag mid.state.pieces (use_on_tag here.use') there in
    (found.0, record { is_out = found.1; is_tag = ap (λ (x : OnTag). x.tag) found.2 ∙ here.is_on.has_tag; is_fresh = ap (λ (x : OnTag). x.fate) found.2 ∙ here.is_fresh })

-- and a fresh piece of the tag is that one
number_is : (mid : ManagerView) (tag piece : ℕ) (Holds : TagInUse → Type 0) → IsInOrder mid.adapter → AreOnTags mid → Stands mid.adapter tag piece Holds → (p : Piece) → IsFreshOn mid.state tag p → p.number ≡ piece
number_is mid tag piece Holds order on_tags here p fresh =
    let there : Contains (map use_on_tag mid.adapter.tags) (piece_on_tag p) = Contains-permutation _ _ _ on_tags (there_mapped piece_on_tag mid.state.pieces p fresh.is_out) in
    let found = mapped_there use_on_tag mid.adapter.tags (piece_on_tag p) there in
    let same_tag : found.0.tag ≡ here.use'.tag = ap (λ (x : OnTag). x.tag) found.2 ∙ fresh.is_tag ∙ sym here.is_on.has_tag in
    let same : found.0 ≡ here.use' = on_tag_once mid.adapter.tags order.tags_differ found.0 here.use' found.1 (is_there mid.adapter tag here.use' here.others here.is_on) same_tag in
    sym (ap (λ (x : OnTag). x.number) found.2) ∙ ap use_piece same ∙ here.is_piece

bytes_are : (mid : AdapterView) (tag piece : ℕ) (entry : Entry) (bytes : List ℕ) (moved : AdapterView) → IsDistinct eqb (map use_piece mid.tags) → Stands mid tag piece (HasBytes entry) → piece ≢ 0 → MovesByAll mid (Act piece bytes ∷ []) moved → bytes ≡ entry.bytes
bytes_are mid tag piece entry bytes moved distinct here other (after, (tag', act), rest) =
    let same : here.use' ≡ act.use' = (first_unique use_piece mid.tags here.use' act.use' here.others act.others distinct here.is_on.in_use act.is_on.in_use (act.is_piece ∙ sym here.is_piece)).0 in
    (act.as_booked here.apart other).1 ∙ sym (ap (λ (u : TagInUse). u.srb.data) same) ∙ here.holds

-- an act reserves nothing, and moves by its label alone
acts_alone : (mid : AdapterView) (reserves : Option Need) (devices : List DeviceLabel) (n piece : ℕ) (bytes : List ℕ) (new : AdapterView) → (h : AdapterMoves false reserves mid devices new) → reserves ≡ None → devices ≡ Act n bytes ∷ [] → n ≡ piece
    → MovesByAll mid (Act piece bytes ∷ []) h.moved
acts_alone mid reserves devices n piece bytes new h none device n_is =
    let first : h.first ≡ mid = subst (λ r. ReservesFor r mid h.first) none h.before in
    let on : MovesByAll h.first (Act n bytes ∷ []) h.moved = subst (λ ls. MovesByAll h.first ls h.moved) device h.moves in
    subst (λ k. MovesByAll mid (Act k bytes ∷ []) h.moved) n_is (subst (λ v. MovesByAll v (Act n bytes ∷ []) h.moved) first on)

-- what the step of a booked entry is
pub record ActsAsBooked (trace : List Label) (piece : ℕ) (entry : Entry) (reply : Reply) (new : ManagerView) : Type 0 where
  pub replies : reply ≡ OkReply
  pub labels : new.labels ≡ Device (Act piece entry.bytes) ∷ []
  pub is_of_act : IsOfAct trace piece entry.bytes entry

module _ (first mid new : ManagerView) (tag piece : ℕ) (entry : Entry) (books : BooksPiece first tag piece (Ok entry) mid) (can : IsBookable first.adapter tag piece (Ok entry)) (order : IsInOrder mid.adapter)
    (on_tags : AreOnTags mid) (distinct : AreDistinct mid.state) where
  here : Stands mid.adapter tag piece (HasBytes entry)
  here = stands_booked first.adapter tag piece entry mid.adapter books.adapter can

  by_label : (label : DeviceLabel) (number : ℕ) → number ≡ piece → IsActOrFault number label → IsAct label → (told : Told) → told.own ≡ [] → told.device ≡ label ∷ [] → told.answers ≡ [] → told.ends ≡ false → told.reserves ≡ None → IsRightBy false told mid new → new.labels ≡ Device (Act piece entry.bytes) ∷ []
  by_label (Act n bytes) number is same act told own device answers ends none by =
      let n_is : n ≡ piece = same ∙ is in
      let moves : MovesByAll mid.adapter (Act piece bytes ∷ []) by.adapter.moved = acts_alone mid.adapter told.reserves told.device n piece bytes new.adapter by.adapter none device n_is in
      let b : bytes ≡ entry.bytes = bytes_are mid.adapter tag piece entry bytes by.adapter.moved (distinct_uses mid.state mid.adapter.tags distinct on_tags) here can.not_first moves in
      by.in_order ∙ rw (own, device, answers, ends) (rw (n_is, b) refl)
  by_label (Start k t block) number is same act told own device answers ends none by = absurd act
  by_label (Fault k) number is same act told own device answers ends none by = absurd act
  by_label (Return k class) number is same act told own device answers ends none by = absurd act

  tells_reply : (reply : Reply) (told : Told) → ActReplies mid tag reply new told → IsRightBy false told mid new → new.labels ≡ Device (Act piece entry.bytes) ∷ []
  tells_reply OkReply told (tells, handles) by =
      by_label tells.label tells.piece.number (number_is mid tag piece (HasBytes entry) order on_tags here tells.piece tells.fresh) tells.acts (tells.if_booked (booked_is first.adapter tag piece entry mid.adapter books.adapter can)) told
      tells.no_own tells.device tells.ends_none.none_answered tells.ends_none.not_ended tells.reserves_none by
  tells_reply Ignored told (unmoved, none, handles) by = let f = fresh_there mid tag piece (HasBytes entry) on_tags here in absurd (none.none f.0 f.1)
  tells_reply (HandleReply handle) told h by = absurd h
  tells_reply (Requested id) told h by = absurd h
  tells_reply (Answered answer) told h by = absurd h
  tells_reply (Refused reason bytes) told h by = absurd h

  pub booked_labels : (reply : Reply) → IsRight mid (ActEvent tag) reply new → new.labels ≡ Device (Act piece entry.bytes) ∷ []
  booked_labels reply right = tells_reply reply right.told right.replies right.by

module _ (trace : List Label) (first mid new : ManagerView) (tag piece : ℕ) (entry : Entry) (books : BooksPiece first tag piece (Ok entry) mid) (can : IsBookable first.adapter tag piece (Ok entry)) (order : IsInOrder mid.adapter)
    (on_tags : AreOnTags mid) (distinct : AreDistinct mid.state) (tagged : AllTagged (IsStarted trace) first.adapter) (same_piece : entry.piece ≡ piece) (same_tag : entry.tag ≡ tag) where
  by_reply : (reply : Reply) (told : Told) → ActReplies mid tag reply new told → IsRightBy false told mid new → ActsAsBooked trace piece entry reply new
  by_reply OkReply told (tells, handles) by = record {
    replies = refl;
    labels = tells_reply first mid new tag piece entry books can order on_tags distinct OkReply told (tells, handles) by;
    is_of_act = entry_of_act trace first.adapter tag piece entry entry.bytes tagged can same_piece same_tag refl;
  }
  by_reply Ignored told (unmoved, none, handles) by = let f = fresh_there mid tag piece (HasBytes entry) on_tags (here first mid new tag piece entry books can order on_tags distinct) in absurd (none.none f.0 f.1)
  by_reply (HandleReply handle) told h by = absurd h
  by_reply (Requested id) told h by = absurd h
  by_reply (Answered answer) told h by = absurd h
  by_reply (Refused reason bytes) told h by = absurd h

  pub booked_step : (reply : Reply) → IsRight mid (ActEvent tag) reply new → ActsAsBooked trace piece entry reply new
  booked_step reply right = by_reply reply right.told right.replies right.by

-- THE STEP OF A BOOKED FAILURE

acts_not : (mid : AdapterView) (tag piece : ℕ) (bytes : List ℕ) (moved : AdapterView) → IsDistinct eqb (map use_piece mid.tags) → Stands mid tag piece HasNoBytes → piece ≢ 0 → MovesByAll mid (Act piece bytes ∷ []) moved → ⊥
acts_not mid tag piece bytes moved distinct here other (after, (tag', act), rest) =
    let same : here.use' ≡ act.use' = (first_unique use_piece mid.tags here.use' act.use' here.others act.others distinct here.is_on.in_use act.is_on.in_use (act.is_piece ∙ sym here.is_piece)).0 in
    let yes : IsTrue here.use'.booked = subst (λ (u : TagInUse). IsTrue u.booked) (sym same) (act.as_booked here.apart other).0 in
    let no_bytes : IsFalse here.use'.booked = here.holds in
    absurd (cc (yes, no_bytes))

pub record FaultsAsBooked (piece : ℕ) (reply : Reply) (new : ManagerView) : Type 0 where
  pub replies : reply ≡ OkReply
  pub labels : new.labels ≡ Device (Fault piece) ∷ []

module _ (first mid new : ManagerView) (tag piece : ℕ) (completion : Completion) (books : BooksPiece first tag piece (Err completion) mid) (can : IsBookable first.adapter tag piece (Err completion)) (order : IsInOrder mid.adapter)
    (on_tags : AreOnTags mid) (distinct : AreDistinct mid.state) where
  fails_here : Stands mid.adapter tag piece HasNoBytes
  fails_here = stands_failed first.adapter tag piece completion mid.adapter books.adapter can

  fault_label : (label : DeviceLabel) (number : ℕ) → number ≡ piece → IsActOrFault number label → (told : Told) → told.own ≡ [] → told.device ≡ label ∷ [] → told.answers ≡ [] → told.ends ≡ false → told.reserves ≡ None → IsRightBy false told mid new → new.labels ≡ Device (Fault piece) ∷ []
  fault_label (Act n bytes) number is same told own device answers ends none by =
      let n_is : n ≡ piece = same ∙ is in
      let moves : MovesByAll mid.adapter (Act piece bytes ∷ []) by.adapter.moved = acts_alone mid.adapter told.reserves told.device n piece bytes new.adapter by.adapter none device n_is in
      absurd (acts_not mid.adapter tag piece bytes by.adapter.moved (distinct_uses mid.state mid.adapter.tags distinct on_tags) fails_here can.not_first moves)
  fault_label (Fault n) number is same told own device answers ends none by =
      let n_is : n ≡ piece = same ∙ is in
      by.in_order ∙ rw (own, device, answers, ends) (rw n_is refl)
  fault_label (Start k t block) number is same told own device answers ends none by = absurd same
  fault_label (Return k class) number is same told own device answers ends none by = absurd same

  fault_reply : (reply : Reply) (told : Told) → ActReplies mid tag reply new told → IsRightBy false told mid new → FaultsAsBooked piece reply new
  fault_reply OkReply told (tells, handles) by = record {
    replies = refl;
    labels = fault_label tells.label tells.piece.number (number_is mid tag piece HasNoBytes order on_tags fails_here tells.piece tells.fresh) tells.acts told
        tells.no_own tells.device tells.ends_none.none_answered tells.ends_none.not_ended tells.reserves_none by;
  }
  fault_reply Ignored told (unmoved, none, handles) by = let f = fresh_there mid tag piece HasNoBytes on_tags fails_here in absurd (none.none f.0 f.1)
  fault_reply (HandleReply handle) told h by = absurd h
  fault_reply (Requested id) told h by = absurd h
  fault_reply (Answered answer) told h by = absurd h
  fault_reply (Refused reason bytes) told h by = absurd h

  pub failed_step : (reply : Reply) → IsRight mid (ActEvent tag) reply new → FaultsAsBooked piece reply new
  failed_step reply right = fault_reply reply right.told right.replies right.by

-- EACH STEP

there_left : (xs ys : List Label) (x : Label) → Contains xs x → Contains (xs ++ ys) x
there_left xs ys x (k, low, is) = (k, (let n = length-append xs ys in omega (arith, n, low)), get_or_append_left xs ys x k low ∙ is)

there_right : (xs ys : List Label) (y : Label) → Contains ys y → Contains (xs ++ ys) y
there_right [] ys y h = h
there_right (x ∷ xs) ys y h = let r = there_right xs ys y h in (suc r.0, (let w = r.1 in omega (arith, w)), r.2)

started_by : (trace : List Label) (label : DeviceLabel) → Contains trace (Device label) → StartsSo (IsStarted trace) label
started_by trace (Start k t block) h = h
started_by trace (Act k bytes) h = tt
started_by trace (Fault k) h = tt
started_by trace (Return k class) h = tt

all_started_by : (trace : List Label) (labels : List DeviceLabel) → All (λ l. Contains trace (Device l)) labels → All (StartsSo (IsStarted trace)) labels
all_started_by trace labels all = All-weaker (λ l. Contains trace (Device l)) (StartsSo (IsStarted trace)) (started_by trace) labels all

told_there : (trace : List Label) (told : Told) (new : ManagerView) → new.labels ≡ labels_of told → (l : DeviceLabel) → Contains told.device l → Contains (trace ++ new.labels) (Device l)
told_there trace told new is l there =
    there_right trace new.labels (Device l) (subst (λ ls. Contains ls (Device l)) (sym is)
    (there_left ((told.own ++ map as_label told.device) ++ map as_answer told.answers) (end_labels told.ends) (Device l)
    (there_left (told.own ++ map as_label told.device) (map as_answer told.answers) (Device l)
    (there_right told.own (map as_label told.device) (Device l) (there_mapped as_label told.device l there)))))

longer_so : (trace more : List Label) (v : AdapterView) → AllTagged (IsStarted trace) v → AllTagged (IsStarted (trace ++ more)) v
longer_so trace more v all = All-weaker (λ (u : TagInUse). IsStarted trace u.piece u.tag u.srb.block) (λ (u : TagInUse). IsStarted (trace ++ more) u.piece u.tag u.srb.block)
    (λ u h. there_left trace more (Device (Start u.piece u.tag u.srb.block)) h) v.tags all

moved_with : (P : ℕ → ℕ → List ℕ → Type 0) (reset : Bool) (old : AdapterView) (labels : List DeviceLabel) (new : AdapterView) → All (StartsSo P) labels → MovesWith reset old labels new → AllTagged P old → AllTagged P new
moved_with P false old labels new so h all = all_moved_so P old labels new so h all
moved_with P true old labels new so (faulted, moves, notes) all = reset_so P faulted new notes (all_moved_so P old labels faulted so moves all)

-- what is on a tag after a step was started in the trace, as long as it was so before
pub tagged_step : (reset : Bool) (trace : List Label) (told : Told) (old new : ManagerView) → IsRightBy reset told old new → AllTagged (IsStarted trace) old.adapter → AllTagged (IsStarted (trace ++ new.labels)) new.adapter
tagged_step reset trace told old new by all =
    let there : All (λ l. Contains (trace ++ new.labels) (Device l)) told.device =
    All-weaker (Contains told.device) (λ l. Contains (trace ++ new.labels) (Device l)) (told_there trace told new by.in_order) told.device (All-contains_itself told.device) in
    let first : AllTagged (IsStarted (trace ++ new.labels)) by.adapter.first =
    subst (AllTagged (IsStarted (trace ++ new.labels))) (sym (reserves_more told.reserves old.adapter by.adapter.first by.adapter.before).after) (longer_so trace new.labels old.adapter all) in
    let moved : AllTagged (IsStarted (trace ++ new.labels)) by.adapter.moved =
    moved_with (IsStarted (trace ++ new.labels)) reset by.adapter.first told.device by.adapter.moved (all_started_by (trace ++ new.labels) told.device there) by.adapter.moves first in
    subst (AllTagged (IsStarted (trace ++ new.labels))) (sym by.adapter.taken) moved
