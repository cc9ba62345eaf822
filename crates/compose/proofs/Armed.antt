-- What is armed is of a piece of the machine; and what its act tells.
use Rattle.compose.proofs.Common.{◌≡◌, ◌≤◌, inl, inr, ℕ, zero, suc, Bool, true, false, List, [], ◌∷◌, length, Some, None, IsFalse, sym, subst, arith, Contains}
use Rattle.std.proofs.Common.{◌+◌, ◌*◌, Result, Ok, Err, ap, refl, ◌∙◌}
use Rattle.std.specs.Prelude.{All, IsPermutation, slice_range}
use Rattle.std.specs.List.{concat}
use Rattle.std.proofs.lemmas.List.Elements.{All-contains}
use Rattle.std.proofs.lemmas.List.Sorted.{Contains-permutation, IsPermutation-sym}
use Rattle.sector.specs.declared.Extent.{Extent}
use Rattle.cdb.specs.Meaning.{Means}
use Rattle.srb.specs.declared.Srb.{Srb}
use Rattle.srb.specs.declared.Entry.{Entry}
use Rattle.srb.specs.declared.Completion.{Completion}
use Rattle.srb.specs.declared.Kind.{Kind}
use Rattle.srb.specs.declared.Kind.TheVariants.{Read, Write, Flush}
use Rattle.srb.specs.declared.DeviceLabel.TheVariants.{Start, Act}
use Rattle.adapter.specs.View.{TagInUse}
use Rattle.adapter.specs.Booking.{IsArmed}
use Rattle.machine.specs.declared.ClientRequest.{ClientRequest}
use Rattle.machine.specs.declared.Label.{Label}
use Rattle.machine.specs.declared.Label.TheVariants.{Device}
use Rattle.machine.specs.Rules.{Rules}
use Rattle.machine.specs.Sending.{Acts, Transfers, command_for}
use Rattle.machine.specs.State.{State, opening}
use Rattle.machine.specs.Step.{Run}
use Rattle.machine_laws.specs.NumberLaws.{StartsOnce}
use Rattle.machine_laws.specs.Reached.{AreWhole}
use Rattle.machine_laws.specs.Sectors.{IsAct}
use Rattle.machine_laws.specs.Success.{ActsWereAsked, WasAsked}
use Rattle.device.specs.View.{MayAct}
use Rattle.io_manager.specs.Shown.{ManagerView}
use Rattle.io_manager.specs.Right.{FitsTogether}
use Rattle.compose.specs.Armed.{ArmedAskForPieces, AsksForPiece, BookedActsTell}
use Rattle.compose.specs.Journaled.{IsJournaled, IsStartedUse}
use Rattle.compose.proofs.JournaledKept.{distinct_at}
use Rattle.compose.proofs.JournaledStep.{booked_labels, failed_step}

-- a write's act hands over its request's bytes
sent_of : (rules : Rules) (s : State) (q : ClientRequest) (places : Extent) (kind : Kind) (sectors : List (List ℕ)) (arrays' : List (List (List ℕ))) → Transfers rules s q places kind sectors arrays' → kind ≡ Write
    → concat sectors ≡ slice_range q.bytes (places.first * rules.sector_size) ((places.first + places.count) * rules.sector_size)
sent_of rules s q places Write sectors arrays' moves is = moves.0
sent_of rules s q places Read sectors arrays' moves is = absurd (cc (is))
sent_of rules s q places Flush sectors arrays' moves is = absurd (cc (is))

module _ (asked : ActsWereAsked) (once : StartsOnce) (arrays : List (List (List ℕ))) (trace : List Label) (entries : List Entry) (view : ManagerView) (tag piece : ℕ) (srb : Srb)
    (run : Run view.rules (opening arrays) trace view.state) (kept : IsJournaled trace entries view) (whole : AreWhole view.rules arrays) (fits : FitsTogether view) (apart : IsFalse view.rules.faithful)
    (armed : IsArmed view.adapter tag piece srb) where
  there : Contains view.adapter.tags armed.use'
  there = Contains-permutation _ _ armed.use' (IsPermutation-sym _ _ armed.is_on.in_use) (0, omega arith, refl)

  may : MayAct view.rules view.state armed.use'
  may = All-contains (MayAct view.rules view.state) view.adapter.tags armed.use' fits.read.may_act there

  started : Contains trace (Device (Start armed.use'.piece armed.use'.tag armed.use'.srb.block))
  started = All-contains (IsStartedUse trace) view.adapter.tags armed.use' kept.started there

  of_act : (acted : State) → Acts view.rules view.state armed.use'.piece armed.use'.srb.data acted → AsksForPiece view.rules view.state piece srb
  of_act acted h =
      let act : IsAct view.state (Device (Act armed.use'.piece armed.use'.srb.data)) = record {
        number = armed.use'.piece;
        bytes = armed.use'.srb.data;
        piece = h.piece;
        owner = h.owner;
        is_act = refl;
        is_number = h.fresh.is_number;
        is_out = Contains-permutation _ _ h.piece (IsPermutation-sym _ _ h.fresh.is_out) (0, omega arith, refl);
        is_open = h.is_open;
        is_owner = h.is_owner;
      } in
      let was : WasAsked view.rules trace h.owner h.piece =
      asked view.rules arrays trace view.state (Device (Act armed.use'.piece armed.use'.srb.data)) whole run act in
      let its : Contains trace (Device (Start armed.use'.piece h.piece.tag was.block)) = subst (λ (n : ℕ). Contains trace (Device (Start n h.piece.tag was.block))) h.fresh.is_number was.started in
      let same : was.block ≡ armed.use'.srb.block = (once view.rules (opening arrays) trace view.state run armed.use'.piece h.piece.tag armed.use'.tag was.block armed.use'.srb.block its started).1 in
      let asks : Means armed.use'.srb.block (command_for view.rules h.owner.request h.piece.places h.owner.request.kind) =
      subst (λ (block : List ℕ). Means block (command_for view.rules h.owner.request h.piece.places h.owner.request.kind)) same was.asks in
      record {
        piece = h.piece;
        owner = h.owner;
        is_number = h.fresh.is_number ∙ armed.is_piece;
        is_fresh = h.fresh.is_fresh;
        is_out = act.is_out;
        is_open = h.is_open;
        is_owner = h.is_owner;
        asks = subst (λ (x : Srb). Means x.block (command_for view.rules h.owner.request h.piece.places h.owner.request.kind)) armed.is_srb asks;
        sends = λ is. ap (λ (x : Srb). x.data) (sym armed.is_srb) ∙ h.hands_over
            ∙ sent_of view.rules view.state h.owner.request h.piece.places h.owner.request.kind h.sectors h.arrays' h.moves is;
      }

  of_run : (acted : State) → Run view.rules view.state (Device (Act armed.use'.piece armed.use'.srb.data) ∷ []) acted → AsksForPiece view.rules view.state piece srb
  of_run acted (mid, inl (free, h), same) = of_act mid h
  of_run acted (mid, inr owing, same) = absurd owing

  pub asks_for_piece : AsksForPiece view.rules view.state piece srb
  asks_for_piece = let acted = may apart armed.is_fresh in of_run acted.0 acted.1

pub armed_ask_for_pieces : ActsWereAsked → StartsOnce → ArmedAskForPieces
armed_ask_for_pieces asked once arrays trace entries view tag piece srb whole run kept fits apart armed = asks_for_piece asked once arrays trace entries view tag piece srb run kept whole fits apart armed

pub booked_acts_tell : BookedActsTell
booked_acts_tell old booked new tag piece (Ok entry) reply can books order fits reached right = booked_labels old booked new tag piece entry books can order fits (distinct_at reached) reply right
booked_acts_tell old booked new tag piece (Err completion) reply can books order fits reached right = (failed_step old booked new tag piece completion books can order fits (distinct_at reached) reply right).labels
