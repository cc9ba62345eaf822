-- What the owner of a stack does with pieces, one thing after the other.
use Rattle.serving.proofs.Common.{◌≡◌, inl, inr, ℕ, Bool, List, [], ◌∷◌, ◌++◌, Some, None, refl, sym, ap, subst, ◌∙◌, All, All-append, All-cons, All-nil, All-weaker, slice_get, Srb, Entry, Completion, Result, DiskView, Transfers}
use Rattle.std.specs.Prelude.{IsNone}
use Rattle.cdb.specs.declared.Cdb.{Cdb}
use Rattle.file_disk.specs.Transfers.{Fits}
use Rattle.movers.specs.declared.flight.Flown.{Flown}
use Rattle.movers.specs.Flight.{AllBeside}
use Rattle.serving.specs.Beside.{Aloft, AreApart, Brings, Deals, HasShape, Handed, Hands, IsFlown, IsHandedWell, IsOwn, IsWell, Moment, Moved, Moves, MovesOwn, moves_in, with_back, with_handed}

pub moves_append : (xs ys : List Moment) → moves_in (xs ++ ys) ≡ moves_in xs ++ moves_in ys
moves_append [] ys = refl
moves_append (Hands h ∷ xs) ys = moves_append xs ys
moves_append (Brings at tag None ∷ xs) ys = moves_append xs ys
moves_append (Brings at tag (Some m) ∷ xs) ys = ap (λ (ms : List Moved). m ∷ ms) (moves_append xs ys)
moves_append (Moves m ∷ xs) ys = ap (λ (ms : List Moved). m ∷ ms) (moves_append xs ys)

apart_more : (a b c : Aloft) (xs ys : List Moment) → AreApart a xs b → AreApart b ys c → AreApart a (xs ++ ys) c
apart_more a b c [] ys h k = subst (λ (x : Aloft). AreApart x ys c) h k
apart_more a b c (Hands x ∷ xs) ys h k = (h.0, h.1, apart_more (with_handed x a) b c xs ys h.2 k)
apart_more a b c (Brings at tag m ∷ xs) ys h k = (h.0, apart_more (with_back tag a) b c xs ys h.1 k)
apart_more a b c (Moves m ∷ xs) ys h k = (h.0, apart_more a b c xs ys h.1 k)

own_more : (a b c : DiskView) (xs ys : List Moment) → MovesOwn a xs b → MovesOwn b ys c → MovesOwn a (xs ++ ys) c
own_more a b c [] ys h k = subst (λ (x : DiskView). MovesOwn x ys c) h k
own_more a b c (Hands x ∷ xs) ys h k = own_more a b c xs ys h k
own_more a b c (Brings at tag m ∷ xs) ys h k = own_more a b c xs ys h k
own_more a b c (Moves m ∷ xs) ys h k = (h.0, own_more m.after b c xs ys h.1 k)

pub shape_same : (disk : DiskView) → HasShape disk disk
shape_same disk = record { sector_size = refl; sectors = refl; write_protected = refl }

shape_by : (old new : DiskView) → new ≡ old → HasShape old new
shape_by old new same = subst (λ (d : DiskView). HasShape old d) (sym same) (shape_same old)

-- a piece that was moved leaves the disk's sizes
pub shape_moved : (old new : DiskView) (tag piece : ℕ) (srb : Srb) (what : Result Entry Completion) → Transfers old tag piece srb what new → HasShape old new
shape_moved old new tag piece srb what (inl h) = record {
  sector_size = ap (λ (d : DiskView). d.sector_size) h.after;
  sectors = ap (λ (d : DiskView). d.sectors) h.after;
  write_protected = ap (λ (d : DiskView). d.write_protected) h.after;
}
shape_moved old new tag piece srb what (inr (inl h)) = shape_by old new h.same
shape_moved old new tag piece srb what (inr (inr h)) = shape_by old new h.same

shape_more : (a b c : DiskView) → HasShape a b → HasShape b c → HasShape a c
shape_more a b c h k = record { sector_size = k.sector_size ∙ h.sector_size; sectors = k.sectors ∙ h.sectors; write_protected = k.write_protected ∙ h.write_protected }

-- what an SRB asks of a disk goes by the disk's sizes
fits_alike : (a b : DiskView) (srb : Srb) (command : Cdb) → HasShape a b → Fits b srb command → Fits a srb command
fits_alike a b srb command s f =
    subst (λ (p : Bool). Fits (record b { sector_size = a.sector_size; sectors = a.sectors; write_protected = p }) srb command) s.write_protected
    (subst (λ (n : ℕ). Fits (record b { sector_size = a.sector_size; sectors = n }) srb command) s.sectors
    (subst (λ (n : ℕ). Fits (record b { sector_size = n }) srb command) s.sector_size f))

flown_alike : (a b : DiskView) (srb : Srb) (flown : Flown) → HasShape a b → IsFlown b srb flown → IsFlown a srb flown
flown_alike a b srb flown s f = record {
  task = f.task;
  extent = f.extent;
  asks = record { command = f.asks.command; passes = fits_alike a b srb f.asks.command s f.asks.passes; asks = f.asks.asks };
  flown_is = f.flown_is;
}

well_alike : (a b : DiskView) → HasShape a b → (m : Moment) → IsWell b m → IsWell a m
well_alike a b s (Hands h) w = record { is_copy = w.is_copy; flown = flown_alike a b h.srb h.flown s w.flown }
well_alike a b s (Brings at tag None) w = tt
well_alike a b s (Brings at tag (Some m)) w = w
well_alike a b s (Moves m) w = tt

pub deals_more : (a a' a'' : Aloft) (d d' d'' : DiskView) (xs ys : List Moment) → Deals a d xs a' d' → Deals a' d' ys a'' d'' → Deals a d (xs ++ ys) a'' d''
deals_more a a' a'' d d' d'' xs ys h k = record {
  apart = apart_more a a' a'' xs ys h.apart k.apart;
  own = own_more d d' d'' xs ys h.own k.own;
  well = All-append (IsWell d) xs ys h.well (All-weaker (IsWell d') (IsWell d) (λ (m : Moment) w. well_alike d d' h.shape m w) ys k.well);
  shape = shape_more d d' d'' h.shape k.shape;
}

pub deals_none : (a : Aloft) (d : DiskView) → Deals a d [] a d
deals_none a d = record { apart = refl; own = refl; well = All-nil (IsWell d); shape = shape_same d }

pub deals_one : (a : Aloft) (d : DiskView) (h : Handed) → slice_get a.places h.ask.tag ≡ Some None → All (AllBeside h.flown) a.flown → IsHandedWell d h → Deals a d (Hands h ∷ []) (with_handed h a) d
deals_one a d h free beside well = record { apart = (free, beside, refl); own = refl; well = All-cons (IsWell d) (Hands h) [] well (All-nil (IsWell d)); shape = shape_same d }

pub deals_here : (a : Aloft) (m : Moved) → All IsNone a.places → IsOwn m → Deals a m.before (Moves m ∷ []) a m.after
deals_here a m idle own = record {
  apart = (idle, refl);
  own = (refl, refl);
  well = All-cons (IsWell m.before) (Moves m) [] tt (All-nil (IsWell m.before));
  shape = shape_moved m.before m.after m.deed.tag m.deed.piece m.deed.srb m.deed.what own;
}

pub deals_back : (a : Aloft) (d : DiskView) (at : ℕ) (m : Moved) (tag : ℕ) → slice_get a.places tag ≡ Some (Some at) → m.deed.tag ≡ tag → Deals a d (Brings at tag (Some m) ∷ []) (with_back tag a) d
deals_back a d at m tag there on = record { apart = (there, refl); own = refl; well = All-cons (IsWell d) (Brings at tag (Some m)) [] on (All-nil (IsWell d)); shape = shape_same d }

pub deals_lost : (a : Aloft) (d : DiskView) (at tag : ℕ) → slice_get a.places tag ≡ Some (Some at) → Deals a d (Brings at tag None ∷ []) (with_back tag a) d
deals_lost a d at tag there = record { apart = (there, refl); own = refl; well = All-cons (IsWell d) (Brings at tag None) [] tt (All-nil (IsWell d)); shape = shape_same d }
