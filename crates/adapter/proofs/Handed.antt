-- What a call hands over, where the act wrote what the SRB sends or flushed.
use Rattle.std.proofs.Common.{◌≡◌, ◌⊎◌, inl, inr, ℕ, ◌==◌, Bool, true, false, List, [], ◌∷◌, Option, Some, None, Ok, refl, ap, subst, ◌∙◌, if◌then◌else◌, slice_index}
use Rattle.std.specs.Prelude.{All, AllPairs}
use Rattle.std.proofs.lemmas.List.Elements.{All-head, All-tail, All-cons, All-nil}
use Rattle.std.proofs.lemmas.List.Sorted.{All-permutation}
use Rattle.std.proofs.lemmas.Bool.Decides.{Decides-eqb}
use Rattle.cdb.specs.declared.Cdb.{Cdb}
use Rattle.cdb.specs.declared.Cdb.TheVariants.{Read10, Write10, Sync10, ReadCapacity10, Read16, Write16, Sync16, ReadCapacity16}
use Rattle.cdb.specs.Meaning.{Means}
use Rattle.srb.specs.declared.Srb.{Srb}
use Rattle.srb.specs.declared.Kind.{Kind}
use Rattle.srb.specs.declared.Kind.TheVariants.{Read, Write, Flush}
use Rattle.srb.specs.declared.Booked.{Booked}
use Rattle.srb.specs.declared.Booked.TheVariants.{Copied, Taken, Sent, Failed}
use Rattle.adapter.specs.View.{TagInUse, AdapterView, IsOn, HasNotTag, HaveOtherTags}
use Rattle.adapter.specs.Booking.{IsTransferOf, IsFlushOf, MayBeOf, SendsFor, SentSuits, is_write_code, entry_sent, handed, handed_of, srb_on, sent_of}
use Rattle.adapter.proofs.Booked.{all_on_tag}

-- THE LAW

to : (size sectors tag piece : ℕ) (srb : Srb) (command : Cdb) → Means srb.block command → SendsFor size sectors srb.data command
    → MayBeOf size sectors srb.data (entry_sent tag piece srb) command
to size sectors tag piece srb (Read10 lba count fua) m s = absurd s
to size sectors tag piece srb (Write10 lba count fua) m s = (
  record { kind_is = rw (m.0.operation) refl; first_is = rw (m.0.operation) m.1.address; count_is = rw (m.0.operation) m.1.blocks; inside = s.0; whole = s.1; as_many = refl },
  refl,
)
to size sectors tag piece srb (Sync10 lba count) m s =
    record { kind_is = rw (m.0.operation) refl; first_is = rw (m.0.operation) m.1.address; count_is = rw (m.0.operation) m.1.blocks; none = s; none_booked = s }
to size sectors tag piece srb ReadCapacity10 m s = absurd s
to size sectors tag piece srb (Read16 lba count fua) m s = absurd s
to size sectors tag piece srb (Write16 lba count fua) m s = (
  record { kind_is = rw (m.0.operation) refl; first_is = rw (m.0.operation) m.1.address; count_is = rw (m.0.operation) m.1.blocks; inside = s.0; whole = s.1; as_many = refl },
  refl,
)
to size sectors tag piece srb (Sync16 lba count) m s =
    record { kind_is = rw (m.0.operation) refl; first_is = rw (m.0.operation) m.1.address; count_is = rw (m.0.operation) m.1.blocks; none = s; none_booked = s }
to size sectors tag piece srb (ReadCapacity16 allocation) m s = absurd s

-- what is sent is no read
never_read : (write : Bool) → (if write then Write else Flush) ≡ Read → ⊥
never_read true is = absurd cc
never_read false is = absurd cc

from : (size sectors tag piece : ℕ) (srb : Srb) (command : Cdb) → MayBeOf size sectors srb.data (entry_sent tag piece srb) command → SendsFor size sectors srb.data command
from size sectors tag piece srb (Read10 lba count fua) h = absurd (never_read (is_write_code (slice_index srb.block 0)) h.kind_is)
from size sectors tag piece srb (Write10 lba count fua) h = (h.0.inside, h.0.whole)
from size sectors tag piece srb (Sync10 lba count) h = h.none
from size sectors tag piece srb ReadCapacity10 h = absurd h
from size sectors tag piece srb (Read16 lba count fua) h = absurd (never_read (is_write_code (slice_index srb.block 0)) h.kind_is)
from size sectors tag piece srb (Write16 lba count fua) h = (h.0.inside, h.0.whole)
from size sectors tag piece srb (Sync16 lba count) h = h.none
from size sectors tag piece srb (ReadCapacity16 allocation) h = absurd h

pub sent_suits : SentSuits
sent_suits size sectors tag piece srb = (
  λ h. record { command = h.command; means = h.means; may = to size sectors tag piece srb h.command h.means h.sends },
  λ h. record { command = h.command; means = h.means; sends = from size sectors tag piece srb h.command h.may },
)

-- THE SRB ON A TAG

abbrev OneSrb : ℕ → Srb → TagInUse → Type 0
OneSrb tag srb use' = use'.tag ≡ tag → use'.srb ≡ srb

by_head : (tag : ℕ) (srb : Srb) (w : TagInUse) (ws : List TagInUse) → OneSrb tag srb w → (srb_on tag ws ≡ Some srb) ⊎ All (HasNotTag tag) ws → (b : Bool) → (w.tag == tag) ≡ b
    → (srb_on tag (w ∷ ws) ≡ Some srb) ⊎ All (HasNotTag tag) (w ∷ ws)
by_head tag srb w ws mine rest true is = inl (rw is (ap Some (mine ((Decides-eqb w.tag tag).0 is))))
by_head tag srb w ws mine (inl found) false is = inl (rw is found)
by_head tag srb w ws mine (inr none) false is = inr (All-cons (HasNotTag tag) w ws (λ e. let one : (w.tag == tag) ≡ true = (Decides-eqb w.tag tag).1 e in absurd cc) none)

found_or_none : (tag : ℕ) (srb : Srb) (ws : List TagInUse) → All (OneSrb tag srb) ws → (srb_on tag ws ≡ Some srb) ⊎ All (HasNotTag tag) ws
found_or_none tag srb [] all = inr (All-nil (HasNotTag tag))
found_or_none tag srb (w ∷ ws) all =
    by_head tag srb w ws (All-head (OneSrb tag srb) w ws all) (found_or_none tag srb ws (All-tail (OneSrb tag srb) w ws all)) (w.tag == tag) refl

pub srb_on_is : (v : AdapterView) (tag : ℕ) (u : TagInUse) (others : List TagInUse) → AllPairs HaveOtherTags v.tags → IsOn v tag u others → srb_on tag v.tags ≡ Some u.srb
srb_on_is v tag u others differ on =
    elim (found_or_none tag u.srb v.tags (all_on_tag (λ w. w.srb ≡ u.srb) v tag u others differ on refl)) [
      | inl found ↦ found
      | inr none ↦ absurd (All-head (HasNotTag tag) u others (All-permutation (HasNotTag tag) _ _ on.in_use none) on.has_tag)
    ]

-- what is handed over of the tag's piece is told by its SRB
pub handed_on : (v : AdapterView) (tag piece : ℕ) (what : Booked) (u : TagInUse) (others : List TagInUse) → AllPairs HaveOtherTags v.tags → IsOn v tag u others → handed v tag piece what ≡ handed_of tag piece u.srb what
handed_on v tag piece (Copied entry) u others differ on = refl
handed_on v tag piece (Taken entry) u others differ on = refl
handed_on v tag piece Sent u others differ on = ap (sent_of tag piece) (srb_on_is v tag u others differ on)
handed_on v tag piece (Failed completion) u others differ on = refl
