-- Moves of an adapter, one after another, join; no move reserves.
use Rattle.std.proofs.Common.{ℕ, List, [], ◌∷◌, ◌++◌, ◌≡◌, refl, ap, subst, ◌∙◌}
use Rattle.srb.specs.declared.DeviceLabel.{DeviceLabel}
use Rattle.srb.specs.declared.DeviceLabel.TheVariants.{Start, Act, Fault, Return}
use Rattle.srb.specs.declared.Srb.{Srb}
use Rattle.adapter.specs.View.{AdapterView, ReservesMore, MovesOn, MovesByAll, IsSpoiled}

-- an adapter that stays as it is
pub reserves_none : (v : AdapterView) → ReservesMore v v
reserves_none v = record { reserved = v.reserved; after = refl; lasts = λ extent h. h }

-- an SRB that stays as it is
pub unspoiled : (srb : Srb) → IsSpoiled srb srb
unspoiled srb = record { same = refl; as_many = refl; of_write = λ lba count fua asks. refl }

-- by no label an adapter stays as it is
pub moves_none : (v : AdapterView) → MovesByAll v [] v
moves_none v = refl

-- one label, of the piece on this tag
pub moves_one : (old new : AdapterView) (tag : ℕ) (label : DeviceLabel) → MovesOn old tag label new → MovesByAll old (label ∷ []) new
moves_one old new tag label h = (new, (tag, h), refl)

pub moves_joined : (old : AdapterView) (labels : List DeviceLabel) (mid : AdapterView) (more : List DeviceLabel) (new : AdapterView)
    → MovesByAll old labels mid → MovesByAll mid more new → MovesByAll old (labels ++ more) new
moves_joined old [] mid more new a b = subst (λ v. MovesByAll v more new) a b
moves_joined old (label ∷ labels) mid more new (after, first, rest) b = (after, first, moves_joined after labels mid more new rest b)

same_reserved_on : (old new : AdapterView) (tag : ℕ) (label : DeviceLabel) → MovesOn old tag label new → new.reserved ≡ old.reserved
same_reserved_on old new tag (Start piece started block) (same, h) = ap (λ (v : AdapterView). v.reserved) h.accepts.after
same_reserved_on old new tag (Act piece bytes) h = ap (λ (v : AdapterView). v.reserved) h.after
same_reserved_on old new tag (Fault piece) h = ap (λ (v : AdapterView). v.reserved) h.after
same_reserved_on old new tag (Return piece class) h = ap (λ (v : AdapterView). v.reserved) h.after

-- no label reserves
pub same_reserved : (old : AdapterView) (labels : List DeviceLabel) (new : AdapterView) → MovesByAll old labels new → new.reserved ≡ old.reserved
same_reserved old [] new h = ap (λ (v : AdapterView). v.reserved) h
same_reserved old (label ∷ labels) new (after, (tag, first), rest) = same_reserved after labels new rest ∙ same_reserved_on old after tag label first
