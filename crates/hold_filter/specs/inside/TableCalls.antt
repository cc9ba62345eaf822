-- What each call does to the table.
use Rattle.std.specs.Prelude.{◌≡◌, ◌≢◌, ◌<◌, ◌≤◌, ◌⊎◌, ℕ, ◌+◌, false, true, List, [], ◌∷◌, ◌++◌, IsTrue, All, Any}
use Rattle.ntstatus.specs.declared.NtStatus.{NtStatus}
use Rattle.ntstatus.specs.declared.NtStatus.TheVariants.{Cancelled, DeletePending}
use Rattle.irp.specs.declared.Irp.{Irp}
use Rattle.std.specs.Global.{Box}
use Rattle.device.specs.declared.Room.{Room}
use Rattle.linked.specs.Queue.{IsVacant}
use Rattle.hold_filter.specs.declared.table.Held.{Held}
use Rattle.hold_filter.specs.inside.TableView.{Limits, TableView, held_with}

-- both queues have a place for this spot
pub record IsCovered (places : Limits) (spot : ℕ) : Type 0 where
  pub in_held : spot < places.held
  pub in_ended : spot < places.ended

-- no place is lost, and none is made beyond this spot
pub record Covers (old : TableView) (spot : ℕ) (new : TableView) : Type 0 where
  pub more_held : old.places.held ≤ new.places.held
  pub more_ended : old.places.ended ≤ new.places.ended
  pub few_held : (new.places.held ≡ old.places.held) ⊎ (new.places.held ≤ spot + 1)
  pub few_ended : (new.places.ended ≡ old.places.ended) ⊎ (new.places.ended ≤ spot + 1)
  pub after : new ≡ record old { places = new.places }

-- a packet that is held may go to those that have ended
pub record MayEnd (b : TableView) (e : ℕ × Held) : Type 0 where
  pub covered : e.0 < b.places.ended
  pub vacant : IsVacant e.0 b.ended

-- no packet of this number is held
abbrev pub LacksNumber : ℕ → List (ℕ × Held) → Type 0
LacksNumber number held = All (λ (e : ℕ × Held). e.1.irp.value.number ≢ number) held

-- a packet of this number is held at this spot
abbrev pub HoldsAt : ℕ → ℕ → List (ℕ × Held) → Type 0
HoldsAt number spot held = Any (λ (e : ℕ × Held). (e.0 ≡ spot) × (e.1.irp.value.number ≡ number)) held

-- the table has no packet, and never had one
abbrev pub empty : ℕ → TableView
empty window = record {
  window = window;
  held = [];
  ended = [];
  places = record { held = 0; ended = 0 };
  below = 0;
  last_number = 0;
  submitted = 0;
  paused = false;
  removing = false;
}

-- a packet of this number was submitted
abbrev pub counted : ℕ → TableView → TableView
counted number b = record b { last_number = number; submitted = b.submitted + 1 }

-- the packet is queued last
abbrev pub TakesIn : TableView → Box Irp → Room → TableView → Type 0
TakesIn old irp room new = new ≡ record old { held = old.held ++ (room.spot, held_with irp room) ∷ [] }

-- the packet that was held longest leaves the queue
pub record LetsGo (old : TableView) (held : Held) (new : TableView) : Type 0 where
  pub spot : ℕ
  pub rest : List (ℕ × Held)
  pub is_front : old.held ≡ (spot, held) ∷ rest
  pub after : new ≡ record old { held = rest }

-- no packet is held, and nothing changes
pub record LetsNoneGo (old new : TableView) : Type 0 where
  pub none_held : old.held ≡ []
  pub same : new ≡ old

-- the packet with its cancel flag set
abbrev pub marked : Held → Held
marked held = record held { irp = record held.irp { value = record held.irp.value { cancelled = true } } }

-- the packet that is held at this spot has this number, and is cancelled
pub record Withdraws (old : TableView) (spot number : ℕ) (new : TableView) : Type 0 where
  pub before : List (ℕ × Held)
  pub held : Held
  pub behind : List (ℕ × Held)
  pub was_held : old.held ≡ before ++ (spot, held) ∷ behind
  pub is_number : held.irp.value.number ≡ number
  pub after : new ≡ record old { held = before ++ behind; ended = old.ended ++ (spot, marked held) ∷ [] }

-- no packet is held at this spot under this number, and nothing changes
pub record WithdrawsNot (old : TableView) (spot number : ℕ) (new : TableView) : Type 0 where
  pub none : All (λ (e : ℕ × Held). e.0 ≡ spot → e.1.irp.value.number ≢ number) old.held
  pub same : new ≡ old

-- a packet that was cancelled while it was held leaves
pub record HandsCancelled (old : TableView) (held : Held) (status : NtStatus) (new : TableView) : Type 0 where
  pub spot : ℕ
  pub rest : List (ℕ × Held)
  pub is_front : old.ended ≡ (spot, held) ∷ rest
  pub is_status : status ≡ Cancelled
  pub after : new ≡ record old { ended = rest }

-- no held packet was cancelled; the device is removed, and the packet that was held longest leaves
pub record HandsRemoved (old : TableView) (held : Held) (status : NtStatus) (new : TableView) : Type 0 where
  pub spot : ℕ
  pub rest : List (ℕ × Held)
  pub none_ended : old.ended ≡ []
  pub removing : IsTrue old.removing
  pub is_front : old.held ≡ (spot, held) ∷ rest
  pub is_status : status ≡ DeletePending
  pub after : new ≡ record old { held = rest }

-- a packet that ended here leaves
abbrev pub Hands : TableView → Held → NtStatus → TableView → Type 0
Hands old held status new = HandsCancelled old held status new ⊎ HandsRemoved old held status new

-- no packet ended here, and nothing changes
pub record HandsNone (old new : TableView) : Type 0 where
  pub none_ended : old.ended ≡ []
  pub none_held : IsTrue old.removing → old.held ≡ []
  pub same : new ≡ old
