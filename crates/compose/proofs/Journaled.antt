-- Entries that are booked and acted one after the other are those of the acts of the trace.
use Rattle.std.proofs.Common.{◌≡◌, ℕ, List, [], ◌∷◌, ◌++◌, length, Ok, sym, ap, subst, ◌∙◌, arith, length-append}
use Rattle.compose.proofs.Common.{Contains, get_or_append_left, All-head, All-permutation, Cdb, Read10, Write10, Sync10, ReadCapacity10, Read16, Write16, Sync16, ReadCapacity16, Entry, Label, IsAskedBy, IsOfAct, TakesEntry, AreOfActs, AdapterView, MayBeOf, IsBookable, IsStarted, IsTagged, AllTagged}
use Rattle.srb.specs.declared.DeviceLabel.TheVariants.{Start, Act, Fault, Return}
use Rattle.machine.specs.declared.Label.TheVariants.{Call, Device, Answer, Cancel, Pause, Resume, Remove, Surprise, Removed}

-- ONE ENTRY

may_is_asked : (size sectors : ℕ) (bytes : List ℕ) (entry : Entry) (command : Cdb) → MayBeOf size sectors bytes entry command → IsAskedBy entry command
may_is_asked size sectors bytes entry (Read10 lba count fua) h = (h.kind_is, h.first_is, h.count_is)
may_is_asked size sectors bytes entry (Write10 lba count fua) h = (h.0.kind_is, h.0.first_is, h.0.count_is)
may_is_asked size sectors bytes entry (Sync10 lba count) h = h.kind_is
may_is_asked size sectors bytes entry ReadCapacity10 h = absurd h
may_is_asked size sectors bytes entry (Read16 lba count fua) h = (h.kind_is, h.first_is, h.count_is)
may_is_asked size sectors bytes entry (Write16 lba count fua) h = (h.0.kind_is, h.0.first_is, h.0.count_is)
may_is_asked size sectors bytes entry (Sync16 lba count) h = h.kind_is
may_is_asked size sectors bytes entry (ReadCapacity16 allocation) h = absurd h

-- what may be booked of a piece whose start stands in the trace is of its act
pub entry_of_act : (trace : List Label) (v : AdapterView) (tag piece : ℕ) (entry : Entry) (bytes : List ℕ) → AllTagged (IsStarted trace) v → IsBookable v tag piece (Ok entry) → entry.piece ≡ piece → entry.tag ≡ tag → bytes ≡ entry.bytes
    → IsOfAct trace piece bytes entry
entry_of_act trace v tag piece entry bytes tagged can same_piece same_tag same_bytes =
    let mine : IsTagged (IsStarted trace) can.use' = All-head (IsTagged (IsStarted trace)) can.use' can.others (All-permutation (IsTagged (IsStarted trace)) _ _ can.is_on.in_use tagged) in
    record {
      block = can.use'.srb.block;
      command = can.suits.command;
      started = subst (λ k. IsStarted trace k entry.tag can.use'.srb.block) can.is_piece (subst (λ t. IsStarted trace can.use'.piece t can.use'.srb.block) (can.is_on.has_tag ∙ sym same_tag) mine);
      means = can.suits.means;
      asked = may_is_asked v.sector_size (length v.sectors) can.use'.srb.data entry can.suits.command can.suits.may;
      is_piece = same_piece;
      bytes_are = sym same_bytes;
    }

-- MANY

there_still : (xs ys : List Label) (x : Label) → Contains xs x → Contains (xs ++ ys) x
there_still xs ys x (k, low, is) = (k, (let n = length-append xs ys in omega (arith, n, low)), get_or_append_left xs ys x k low ∙ is)

still_of : (trace more : List Label) (piece : ℕ) (bytes : List ℕ) (entry : Entry) → IsOfAct trace piece bytes entry → IsOfAct (trace ++ more) piece bytes entry
still_of trace more piece bytes entry h = record {
  block = h.block;
  command = h.command;
  started = there_still trace more (Device (Start piece entry.tag h.block)) h.started;
  means = h.means;
  asked = h.asked;
  is_piece = h.is_piece;
  bytes_are = h.bytes_are;
}

still_takes : (trace more : List Label) (label : Label) (entries left : List Entry) → TakesEntry trace label entries left → TakesEntry (trace ++ more) label entries left
still_takes trace more (Device (Act piece bytes)) entries left (entry, is, mine) = (entry, is, still_of trace more piece bytes entry mine)
still_takes trace more (Device (Start piece tag block)) entries left h = h
still_takes trace more (Device (Fault piece)) entries left h = h
still_takes trace more (Device (Return piece class)) entries left h = h
still_takes trace more (Call number q) entries left h = h
still_takes trace more (Answer number status informed bytes) entries left h = h
still_takes trace more (Cancel number) entries left h = h
still_takes trace more Pause entries left h = h
still_takes trace more Resume entries left h = h
still_takes trace more Remove entries left h = h
still_takes trace more Surprise entries left h = h
still_takes trace more Removed entries left h = h

-- a longer trace
pub acts_longer : (trace more labels : List Label) (entries : List Entry) → AreOfActs trace labels entries → AreOfActs (trace ++ more) labels entries
acts_longer trace more [] entries h = h
acts_longer trace more (label ∷ labels) entries (left, takes, rest) = (left, still_takes trace more label entries left takes, acts_longer trace more labels left rest)

takes_more : (trace : List Label) (label : Label) (entries left more : List Entry) → TakesEntry trace label entries left → TakesEntry trace label (entries ++ more) (left ++ more)
takes_more trace (Device (Act piece bytes)) entries left more (entry, is, mine) = (entry, ap (λ es. es ++ more) is, mine)
takes_more trace (Device (Start piece tag block)) entries left more h = ap (λ es. es ++ more) h
takes_more trace (Device (Fault piece)) entries left more h = ap (λ es. es ++ more) h
takes_more trace (Device (Return piece class)) entries left more h = ap (λ es. es ++ more) h
takes_more trace (Call number q) entries left more h = ap (λ es. es ++ more) h
takes_more trace (Answer number status informed bytes) entries left more h = ap (λ es. es ++ more) h
takes_more trace (Cancel number) entries left more h = ap (λ es. es ++ more) h
takes_more trace Pause entries left more h = ap (λ es. es ++ more) h
takes_more trace Resume entries left more h = ap (λ es. es ++ more) h
takes_more trace Remove entries left more h = ap (λ es. es ++ more) h
takes_more trace Surprise entries left more h = ap (λ es. es ++ more) h
takes_more trace Removed entries left more h = ap (λ es. es ++ more) h

-- the labels of one step behind those of the steps before
pub acts_joined : (trace xs ys : List Label) (entries more : List Entry) → AreOfActs trace xs entries → AreOfActs trace ys more → AreOfActs trace (xs ++ ys) (entries ++ more)
acts_joined trace [] ys entries more none rest = subst (λ es. AreOfActs trace ys (es ++ more)) (sym none) rest
acts_joined trace (x ∷ xs) ys entries more (left, takes, h) rest = (left ++ more, takes_more trace x entries left more takes, acts_joined trace xs ys left more h rest)
