-- Steps in which the device below does nothing: what is told of them, and how the tables stay sound.
use Rattle.std.proofs.Common.{◌≡◌, ℕ, Bool, false, List, [], ◌++◌, Option, Some, None, refl, sym, ◌∙◌, ap, subst}
use Rattle.io_manager.proofs.Common.{Need, SamePlacesUnless, IsPermutation, append-nil, IsPermutation-refl, Extent, reserves_none, Label, State, Run, DeviceView, Reserves, IsSame-refl, OpenHandle, ManagerView, Holder, Told, ReservesFor, tells_nothing, unless_answered, IsRightBy}
use Rattle.io_manager.specs.declared.Answer.{Answer}

pub none_answered : (holder : Option Holder) → holder ≡ unless_answered [] holder
none_answered None = refl
none_answered (Some holder) = refl

-- what a step tells that only has labels of its own
abbrev pub tells_own : ManagerView → List Label → Told
tells_own v own = record (tells_nothing v) { own = own }

-- the machine, the labels and the handles may change, and more may be reserved
pub right_alone : (v : ManagerView) (own : List Label) (s : State) (reserves : Option Need) (reserved : List Extent) (handles : List (Option OpenHandle)) (next_handle : ℕ) (labels : List Label) (answers : List Answer) (keeps : Bool) (places : ℕ)
    → Run v.rules v.state own s → ReservesFor reserves v.adapter (record v.adapter { reserved = reserved }) → v.adapter.labels ≡ [] → labels ≡ own → answers ≡ v.answers → keeps ≡ v.keeps → SamePlacesUnless reserves v.places places
    → IsRightBy false (record (tells_own v own) { reserves = reserves }) v
    (record v { state = s; adapter = record v.adapter { reserved = reserved }; handles = handles; next_handle = next_handle; labels = labels; answers = answers; keeps = keeps; places = places })
right_alone v own s reserves reserved handles next_handle labels answers keeps places run before none_recorded told waits kept as_many = record {
  in_order = told ∙ sym (append-nil own) ∙ sym (append-nil (own ++ [])) ∙ sym (append-nil ((own ++ []) ++ []));
  rising = tt;
  same_rules = refl;
  same_keeps = kept;
  places = as_many;
  run = subst (λ told. Run v.rules v.state told s) (sym told) run;
  adapter = record {
    first = record v.adapter { reserved = reserved };
    before = before;
    moved = record v.adapter { reserved = reserved };
    moves = refl;
    taken = ap (λ recorded. record v.adapter { reserved = reserved; labels = recorded }) none_recorded;
  };
  outside = λ sector apart. refl;
  holders = λ slot. none_answered _;
  untaken = subst (λ now. IsPermutation now v.answers) (sym waits) (IsPermutation-refl v.answers);
}

-- nothing is told, and nothing changes
pub IsRightBy-unmoved : (v : ManagerView) → v.labels ≡ [] → v.adapter.labels ≡ [] → IsRightBy false (tells_nothing v) v v
IsRightBy-unmoved v none_told none_recorded =
    right_alone v [] v.state None v.adapter.reserved v.handles v.next_handle v.labels v.answers v.keeps v.places (IsSame-refl v.state) refl none_recorded none_told refl refl refl

pub none_reserved : (v : DeviceView) → Reserves v v
none_reserved v = record { same = refl; adapter = reserves_none v.adapter }
