-- What each call of an adapter does to what the adapter shows.
use Rattle.std.specs.Prelude.{◌≡◌, ◌≢◌, ◌⊎◌, ℕ, Bool, true, IsTrue, IsFalse, List, [], ◌∷◌, ◌++◌, map, filter, All, IsPermutation}
use Rattle.std.specs.List.Sorted.{IsStrictlyIncreasing}
use Rattle.std.specs.List.{concat}
use Rattle.srb.specs.declared.Srb.{Srb}
use Rattle.srb.specs.declared.Completion.{Completion}
use Rattle.srb.specs.declared.DeviceLabel.{DeviceLabel}
use Rattle.srb.specs.declared.DeviceLabel.TheVariants.{Fault}
use Rattle.srb.specs.Bare.{in_memory}
use Rattle.srb.specs.Fate.{Fate, Fresh, Acted, Faulted, is_fresh, class_of}
use Rattle.adapter.specs.View.{TagInUse, AdapterView, IsFree, IsOn, ActsOn, FaultsOn, ReturnsOn, MovesByAll, NotesReset, IsSpoiled}

-- the piece on the tag was booked to act, by an adapter whose sectors stand elsewhere
pub record IsBooked (view : AdapterView) (tag : ℕ) : Type 0 where
  pub use' : TagInUse
  pub others : List TagInUse
  pub apart : IsFalse view.faithful
  pub is_on : IsOn view tag use' others
  pub booked : IsTrue use'.booked

-- the tag's piece, which had done nothing yet, acts or faults; what was booked acts
pub record ActsOrFaults (old : AdapterView) (tag : ℕ) (new : AdapterView) : Type 0 where
  pub piece : ℕ
  pub one_of : ((bytes : List ℕ) × ActsOn old tag piece bytes new) ⊎ (FaultsOn old tag piece new × ¬ IsBooked old tag)

-- the tag has no piece that can act
abbrev pub HasNoneFresh : AdapterView → ℕ → Type 0
HasNoneFresh view tag = (use' : TagInUse) (others : List TagInUse) → IsOn view tag use' others → use'.fate ≢ Fresh

-- the tag has no piece that can act, and nothing changes
pub record ActsNot (old : AdapterView) (tag : ℕ) (new : AdapterView) : Type 0 where
  pub none_fresh : HasNoneFresh old tag
  pub same : new ≡ old

-- the tag's piece comes back with its SRB, whose data are what it moved if it acted
pub record Finishes (old : AdapterView) (tag : ℕ) (srb : Srb) (completion : Completion) (new : AdapterView) : Type 0 where
  pub piece : ℕ
  pub returns : ReturnsOn old tag piece (class_of completion) new
  pub comes_back : srb ≡ record returns.use'.srb { sense = completion.sense }
  pub holds_moved : (moved : List (List ℕ)) → returns.use'.fate ≡ Acted moved → srb.data ≡ concat moved

pub record FinishesNot (old : AdapterView) (tag : ℕ) (new : AdapterView) : Type 0 where
  pub is_free : IsFree old tag
  pub same : new ≡ old

-- a piece that has done nothing yet never will
abbrev pub fate_after_reset : Fate → Fate
fate_after_reset Fresh = Faulted
fate_after_reset (Acted moved) = Acted moved
fate_after_reset Faulted = Faulted

-- the SRB of such a piece is left as this one; that of any other piece stays
abbrev pub srb_after_reset : Fate → Srb → Srb → Srb
srb_after_reset Fresh left srb = left
srb_after_reset (Acted moved) left srb = srb
srb_after_reset Faulted left srb = srb

-- a tag in use after a reset, by the SRBs that are left
abbrev pub after_reset : (TagInUse → Srb) → TagInUse → TagInUse
after_reset left use' = record use' {
  fate = fate_after_reset use'.fate;
  srb = srb_after_reset use'.fate (left use') use'.srb;
  was_reset = true;
}

-- the SRB that is left is the piece's, but for its buffers
abbrev pub IsLeftSo : (TagInUse → Srb) → TagInUse → Type 0
IsLeftSo left use' = IsSpoiled use'.srb (left use')

-- the tag's piece has done nothing yet
abbrev pub is_fresh_use : TagInUse → Bool
is_fresh_use use' = is_fresh use'.fate

abbrev pub tag_of : TagInUse → ℕ
tag_of use' = use'.tag

abbrev pub fault_of : TagInUse → DeviceLabel
fault_of use' = Fault use'.piece

-- each piece that had done nothing yet faults, in rising order of tags, and then all pieces out have met a reset
pub record Resets (old new : AdapterView) : Type 0 where
  pub fresh : List TagInUse
  pub tags : List TagInUse
  pub failures : ℕ
  pub left : TagInUse → Srb
  pub are_fresh : IsPermutation (filter is_fresh_use old.tags) fresh
  pub rising : IsStrictlyIncreasing (map tag_of fresh)
  pub spoiled : All (IsLeftSo left) fresh
  pub in_use : IsPermutation tags (map (after_reset left) old.tags)
  pub after : new ≡ record old { tags = tags; failures = failures; labels = old.labels ++ map fault_of fresh }
  pub all_faulted : AdapterView
  pub moves : MovesByAll old (map fault_of fresh) all_faulted
  pub noted : NotesReset all_faulted new

-- the earliest label leaves, as memory has it
pub record LeavesFirst (old : AdapterView) (label : DeviceLabel) (new : AdapterView) : Type 0 where
  pub told : DeviceLabel
  pub rest : List DeviceLabel
  pub first : old.labels ≡ told ∷ rest
  pub shown : label ≡ in_memory old.keeps_bytes told
  pub after : new ≡ record old { labels = rest }

-- there is no label, and nothing changes
pub record HasNoLabel (old new : AdapterView) : Type 0 where
  pub no_label : old.labels ≡ []
  pub same : new ≡ old
