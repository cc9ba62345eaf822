-- A tag's piece stays as it is, until a label tells of it.
use Rattle.std.proofs.Common.{◌≡◌, ◌≢◌, ◌⊎◌, inl, inr, ℕ, zero, suc, Bool, true, false, List, [], ◌∷◌, ◌++◌, map, IsPermutation, sym, ap, subst, ◌∙◌, arith}
use Rattle.std.specs.Prelude.{All, Contains}
use Rattle.book.proofs.Common.{remove, All-head, All-tail, All-weaker, All-contains, All-contains_itself, Contains-append_left, Contains-append_right, IsPermutation-sym, IsPermutation-remove, Contains-permutation, Srb, DeviceLabel, Fresh, TagInUse, AdapterView, ReservesMore, MovesOn, MovesByAll, acted, faulted, met_by_reset, in_use_from, IsArmed, is_there, Label, as_label, ManagerView, reserves_more, there_mapped, IsLed, led, LeavesPiece, Leaves, ArmedStays}
use Rattle.srb.specs.declared.DeviceLabel.TheVariants.{Start, Act, Fault, Return}
use Rattle.io_manager.specs.Right.{Told, IsRightBy, MovesWith, labels_of, end_labels, as_answer}

-- LISTS

behind : {A : Type 0} (y : A) (xs : List A) (x : A) → Contains xs x → Contains (y ∷ xs) x
behind y xs x (k, low, is) = (suc k, omega (arith, low), is)

first_or_behind : {A : Type 0} (y : A) (xs : List A) (x : A) → Contains (y ∷ xs) x → (y ≡ x) ⊎ Contains xs x
first_or_behind y xs x (zero, low, is) = inl is
first_or_behind y xs x (suc k, low, is) = inr (k, omega (arith, low), is)

-- THE TAG'S PIECE

-- one piece on the tags became another, or came back
module _ (old tags others : List TagInUse) (u changed : TagInUse) (before : IsPermutation old (changed ∷ others)) (apart : changed.piece ≢ u.piece) where
  of_others : Contains old u → Contains others u
  of_others there = elim (first_or_behind changed others u (Contains-permutation _ _ u before there)) [
    | inl same ↦ absurd (apart (ap (λ (x : TagInUse). x.piece) same))
    | inr other ↦ other
  ]

  after_change : (now : TagInUse) → IsPermutation tags (now ∷ others) → Contains old u → Contains tags u
  after_change now after there = Contains-permutation _ _ u (IsPermutation-sym _ _ after) (behind now others u (of_others there))

  after_return : IsPermutation tags others → Contains old u → Contains tags u
  after_return after there = Contains-permutation _ _ u (IsPermutation-sym _ _ after) (of_others there)

stays_on : (old new : AdapterView) (tag : ℕ) (label : DeviceLabel) (u : TagInUse) → LeavesPiece u.piece label → MovesOn old tag label new → Contains old.tags u → Contains new.tags u
stays_on old new tag (Start piece started block) u leaves (same, h) there =
    subst (λ (v : AdapterView). Contains v.tags u) (sym h.accepts.after) (Contains-permutation _ _ u (IsPermutation-sym _ _ h.accepts.in_use) (behind (in_use_from old tag piece h.srb) old.tags u there))
stays_on old new tag (Act piece bytes) u leaves h there =
    subst (λ (v : AdapterView). Contains v.tags u) (sym h.after)
    (after_change old.tags h.tags h.others u h.use' h.is_on.in_use (λ e. leaves (sym h.is_piece ∙ e)) (acted h.moved h.left h.use') h.in_use there)
stays_on old new tag (Fault piece) u leaves h there =
    subst (λ (v : AdapterView). Contains v.tags u) (sym h.after) (after_change old.tags h.tags h.others u h.use' h.is_on.in_use (λ e. leaves (sym h.is_piece ∙ e)) (faulted h.left h.use') h.in_use there)
stays_on old new tag (Return piece class) u leaves h there =
    subst (λ (v : AdapterView). Contains v.tags u) (sym h.after) (after_return old.tags h.tags h.others u h.use' h.is_on.in_use (λ e. leaves (sym h.is_piece ∙ e)) h.in_use there)

all_stays : (old : AdapterView) (labels : List DeviceLabel) (new : AdapterView) (u : TagInUse) → All (LeavesPiece u.piece) labels → MovesByAll old labels new → Contains old.tags u → Contains new.tags u
all_stays old [] new u leave h there = subst (λ (v : AdapterView). Contains v.tags u) (sym h) there
all_stays old (label ∷ labels) new u leave (after, (tag, moves), rest) there =
    all_stays after labels new u (All-tail (LeavesPiece u.piece) label labels leave) rest
    (stays_on old after tag label u (All-head (LeavesPiece u.piece) label labels leave) moves there)

-- THE VIEW

-- the same in a form without the other tags
pub record IsIn (view : AdapterView) (tag piece : ℕ) (srb : Srb) : Type 0 where
  pub use' : TagInUse
  pub there : Contains view.tags use'
  pub has_tag : use'.tag ≡ tag
  pub is_piece : use'.piece ≡ piece
  pub is_fresh : use'.fate ≡ Fresh
  pub is_srb : use'.srb ≡ srb

pub is_in : (view : AdapterView) (tag piece : ℕ) (srb : Srb) → IsArmed view tag piece srb → IsIn view tag piece srb
is_in view tag piece srb h = record { use' = h.use'; there = is_there view tag h.use' h.others h.is_on; has_tag = h.is_on.has_tag; is_piece = h.is_piece; is_fresh = h.is_fresh; is_srb = h.is_srb }

pub is_armed : (view : AdapterView) (tag piece : ℕ) (srb : Srb) → IsIn view tag piece srb → IsArmed view tag piece srb
is_armed view tag piece srb h = record {
  use' = h.use';
  others = remove view.tags h.there.0;
  is_on = record { in_use = IsPermutation-remove view.tags h.there.0 h.use' h.there.1 (sym h.there.2); has_tag = h.has_tag };
  is_piece = h.is_piece;
  is_fresh = h.is_fresh;
  is_srb = h.is_srb;
}

moved_with : (reset : Bool) (old : AdapterView) (labels : List DeviceLabel) (new : AdapterView) (tag piece : ℕ) (srb : Srb) → MovesWith reset old labels new → All (LeavesPiece piece) labels → IsIn old tag piece srb → IsIn new tag piece srb
moved_with false old labels new tag piece srb moves leave h = record {
  use' = h.use';
  there = all_stays old labels new h.use' (subst (λ k. All (LeavesPiece k) labels) (sym h.is_piece) leave) moves h.there;
  has_tag = h.has_tag;
  is_piece = h.is_piece;
  is_fresh = h.is_fresh;
  is_srb = h.is_srb;
}
moved_with true old labels new tag piece srb (faulted_all, moves, notes) leave h =
    let there : Contains faulted_all.tags h.use' = all_stays old labels faulted_all h.use' (subst (λ k. All (LeavesPiece k) labels) (sym h.is_piece) leave) moves h.there in
    let met : Contains notes.tags (met_by_reset h.use') = Contains-permutation _ _ (met_by_reset h.use') (IsPermutation-sym _ _ notes.in_use) (there_mapped met_by_reset faulted_all.tags h.use' there) in
    record {
      use' = met_by_reset h.use';
      there = subst (λ (v : AdapterView). Contains v.tags (met_by_reset h.use')) (sym notes.after) met;
      has_tag = h.has_tag;
      is_piece = h.is_piece;
      is_fresh = h.is_fresh;
      is_srb = h.is_srb;
    }

-- what is reserved leaves all tags as they are
reserved_stays : (old new : AdapterView) (tag piece : ℕ) (srb : Srb) → ReservesMore old new → IsIn old tag piece srb → IsIn new tag piece srb
reserved_stays old new tag piece srb h before = subst (λ v. IsIn v tag piece srb) (sym h.after) (record {
  use' = before.use';
  there = before.there;
  has_tag = before.has_tag;
  is_piece = before.is_piece;
  is_fresh = before.is_fresh;
  is_srb = before.is_srb;
})

-- THE STEP

among : (told : Told) (label : DeviceLabel) → Contains told.device label → Contains (labels_of told) (as_label label)
among told label there =
    let mapped : Contains (map as_label told.device) (as_label label) = there_mapped as_label told.device label there in
    let own : Contains (told.own ++ map as_label told.device) (as_label label) = Contains-append_right told.own (map as_label told.device) (as_label label) mapped in
    let answers : Contains ((told.own ++ map as_label told.device) ++ map as_answer told.answers) (as_label label) = Contains-append_left (told.own ++ map as_label told.device) (map as_answer told.answers) (as_label label) own in
    Contains-append_left ((told.own ++ map as_label told.device) ++ map as_answer told.answers) (end_labels told.ends) (as_label label) answers

device_leaves : (piece : ℕ) (told : Told) → All (Leaves piece) (labels_of told) → All (LeavesPiece piece) told.device
device_leaves piece told leave =
    All-weaker (Contains told.device) (LeavesPiece piece) (λ label there. All-contains (Leaves piece) (labels_of told) (as_label label) leave (among told label there)) told.device (All-contains_itself told.device)

step_stays : (reset : Bool) (told : Told) (old new : ManagerView) (tag piece : ℕ) (srb : Srb) → IsRightBy reset told old new → All (Leaves piece) new.labels → IsArmed old.adapter tag piece srb → IsArmed new.adapter tag piece srb
step_stays reset told old new tag piece srb by leave armed =
    let first : IsIn by.adapter.first tag piece srb =
    reserved_stays old.adapter by.adapter.first tag piece srb (reserves_more told.reserves old.adapter by.adapter.first by.adapter.before) (is_in old.adapter tag piece srb armed) in
    let moved : IsIn by.adapter.moved tag piece srb =
    moved_with reset by.adapter.first told.device by.adapter.moved tag piece srb by.adapter.moves (device_leaves piece told (subst (λ (ls : List Label). All (Leaves piece) ls) by.in_order leave)) first in
    subst (λ (v : AdapterView). IsArmed v tag piece srb) (sym by.adapter.taken) (is_armed (record by.adapter.moved { labels = [] }) tag piece srb (record {
      use' = moved.use';
      there = moved.there;
      has_tag = moved.has_tag;
      is_piece = moved.is_piece;
      is_fresh = moved.is_fresh;
      is_srb = moved.is_srb;
    }))

pub armed_stays : ArmedStays
armed_stays old event reply new tag piece srb right leave armed =
    let by : IsLed old new = led old event reply new right in
    step_stays by.reset by.told old new tag piece srb by.by leave armed
