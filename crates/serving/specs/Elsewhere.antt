-- Steps of a stack whose pieces are moved side by side.
use Rattle.std.specs.Prelude.{◌≡◌, ℕ, Bool, List, [], ◌∷◌, All, Contains, IsTrue, Option, Some, None, Result, Ok, Err}
use Rattle.srb.specs.declared.Entry.{Entry}
use Rattle.srb.specs.declared.Completion.{Completion}
use Rattle.adapter.specs.View.{AdapterView}
use Rattle.adapter.specs.Booking.{sent_of, srb_on}
use Rattle.machine.specs.declared.Label.{Label}
use Rattle.io_manager.specs.declared.Answer.{Answer}
use Rattle.io_manager.specs.declared.Refusal.{Refusal}
use Rattle.io_manager.specs.declared.Reply.TheVariants.{Refused as IsRefused}
use Rattle.io_manager.specs.Shown.{ManagerView}
use Rattle.io_manager.specs.Right.{FitsTogether, as_answer}
use Rattle.compose.specs.declared.Event.{Event}
use Rattle.compose.specs.Right.{IsRight}
use Rattle.file_disk.specs.Transfers.{DiskView}
use Rattle.file_disk.specs.declared.file_disk.Moved.{Moved as MovedBytes}
use Rattle.file_disk.specs.declared.file_disk.Moved.TheVariants.{Read as ReadMoved, Sent}
use Rattle.serving.specs.declared.elsewhere.Reached.{Reached}
use Rattle.serving.specs.declared.elsewhere.Reached.TheVariants.{Called, Answered, Refused}
use Rattle.serving.specs.Carried.{Deed, HasBooked, StandsIn}
use Rattle.serving.specs.Beside.{GoesBeside, Gone, HasAnswer, IsCalled, IsNewIn, IsNewest, IsNoReturn}

-- what is handed over of what came of the tag's piece
abbrev pub handed_by : AdapterView → ℕ → ℕ → Result MovedBytes Completion → Result Entry Completion
handed_by view tag piece (Ok (ReadMoved entry)) = Ok entry
handed_by view tag piece (Ok Sent) = sent_of tag piece (srb_on tag view.tags)
handed_by view tag piece (Err completion) = Err completion

-- STEPS

-- the stack told these labels, and no piece was moved
abbrev pub gone_by : List Label → Gone
gone_by labels = record { labels = labels; moments = [] }

-- the stack went on by no piece that was moved or came back, and this is so among its labels
pub record GoesSo (old : ManagerView) (P : Gone → Type 0) (new : ManagerView) : Type 0 where
  pub labels : List Label
  pub went : GoesBeside old labels [] new
  pub no_return : All IsNoReturn labels
  pub so : P (gone_by labels)

-- it refused the event at once
pub record RefusesBeside (old : ManagerView) (event : Event) (reason : Refusal) (new : ManagerView) : Type 0 where
  pub after : ManagerView
  pub bytes : List ℕ
  pub right : IsRight old event (IsRefused reason bytes) after
  pub went : GoesBeside old after.labels [] new
  pub no_return : All IsNoReturn after.labels

-- the stack was asked for the event
abbrev pub AsksBeside : ManagerView → Event → Reached → ManagerView → Type 0
AsksBeside old event (Called number) new = GoesSo old (λ gone. IsCalled old gone event number) new
AsksBeside old event (Answered answer) new = GoesSo old (λ gone. HasAnswer IsNewIn old gone event answer) new
AsksBeside old event (Refused reason) new = RefusesBeside old event reason new

-- an answer that waited was taken
abbrev pub TakesBeside : ManagerView → Option Answer → ManagerView → Type 0
TakesBeside old None new = (old.answers ≡ []) × (new ≡ old)
TakesBeside old (Some answer) new = Contains old.answers answer × GoesBeside old [] [] new

abbrev pub Fails : Result Entry Completion → Type 0
Fails what = (completion : Completion) × (what ≡ Err completion)

-- what came of the tag's piece is booked, and with `failed` it failed
pub record BooksSo (old : ManagerView) (before : DiskView) (tag : ℕ) (failed : Bool) (new : ManagerView) (after : DiskView) : Type 0 where
  pub has : HasBooked old before tag new after
  pub fails : IsTrue failed → Fails has.what

-- what waits to be taken was told among these labels, and no piece came back since
abbrev pub AreNewest : List Label → ManagerView → Type 0
AreNewest labels v = All (λ answer. IsNewest labels (as_answer answer)) v.answers

-- one piece of the tag was moved, acted and came back, and with `failed` it failed
pub record MovesOne (old : ManagerView) (before : DiskView) (tag : ℕ) (failed : Bool) (new : ManagerView) (after : DiskView) : Type 0 where
  pub deed : Deed
  pub on_tag : deed.tag ≡ tag
  pub fails : IsTrue failed → Fails deed.what
  pub labels : List Label
  pub went : GoesBeside old labels (record { deed = deed; before = before; after = after } ∷ []) new
  pub newest : old.answers ≡ [] → AreNewest labels new
  pub stands : StandsIn new after

-- one piece was moved and acted
pub record ActsOne (old : ManagerView) (before : DiskView) (tag : ℕ) (failed : Bool) (new : ManagerView) (after : DiskView) : Type 0 where
  pub deed : Deed
  pub on_tag : deed.tag ≡ tag
  pub fails : IsTrue failed → Fails deed.what
  pub labels : List Label
  pub went : GoesBeside old labels (record { deed = deed; before = before; after = after } ∷ []) new
  pub none_told : old.answers ≡ [] → new.answers ≡ []
  pub stands : StandsIn new after

-- a piece came back, if one did
pub record Returns (old new : ManagerView) : Type 0 where
  pub labels : List Label
  pub went : GoesBeside old labels [] new
  pub newest : old.answers ≡ [] → AreNewest labels new

-- from wherever it was booked, one piece was moved and acted
abbrev pub Acts : ManagerView → ℕ → ManagerView → Type 0
Acts booked tag new =
    (old : ManagerView) (before after : DiskView) (failed : Bool) → StandsIn old before → FitsTogether old → BooksSo old before tag failed booked after → ActsOne old before tag failed new after

-- and came back
abbrev pub ComesBack : ManagerView → ℕ → ManagerView → Type 0
ComesBack booked tag new =
    (old : ManagerView) (before after : DiskView) (failed : Bool) → StandsIn old before → FitsTogether old → BooksSo old before tag failed booked after → MovesOne old before tag failed new after
