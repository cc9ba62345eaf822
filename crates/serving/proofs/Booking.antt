-- What came of a piece is booked: of the piece itself, or of a copy of its SRB.
use Rattle.serving.proofs.Common.{◌≡◌, ℕ, Bool, Ok, Err, Result, refl, sym, ap, subst, ◌∙◌, Entry, Srb, Completion, AdapterView, IsArmed, IsInOrder, Suits, ManagerView, DiskView, Transfers, IsOfPiece, Moved, entry_moved, quiet}
use Rattle.io_manager.specs.Right.{BooksPiece}
use Rattle.file_disk.specs.Copies.{CopiesSend, CopiesSuit, CopiesTransfer, IsCopyOf}
use Rattle.file_disk.specs.declared.file_disk.Moved.TheVariants.{Read as ReadMoved, Sent as SentMoved}
use Rattle.movers.specs.declared.ask.Ask.{Ask}
use Rattle.movers.specs.Moving.{DoneView, IsMoved}
use Rattle.serving.specs.Elsewhere.{BooksSo, Fails, handed_by}
use Rattle.std.specs.Prelude.{IsTrue, is_err}
use Rattle.serving.proofs.Carrying.{sent_given}

-- what is handed over is what came of the copy
handed_same : CopiesSend → (v : AdapterView) (tag piece : ℕ) (srb copy : Srb) (moved : Result Moved Completion) → IsInOrder v → IsArmed v tag piece srb → IsCopyOf srb copy
    → handed_by v tag piece moved ≡ entry_moved tag piece copy moved
handed_same send v tag piece srb copy (Ok (ReadMoved entry)) order armed is = refl
handed_same send v tag piece srb copy (Ok SentMoved) order armed is =
    sent_given v tag piece srb order armed ∙ ap (λ (e : Entry). Ok e) (sym (send tag piece srb copy is))
handed_same send v tag piece srb copy (Err completion) order armed is = refl

-- what failed is told as a failure
fails_so : (tag piece : ℕ) (srb : Srb) (moved : Result Moved Completion) → IsTrue (is_err moved) → Fails (entry_moved tag piece srb moved)
fails_so tag piece srb (Ok (ReadMoved entry)) h = absurd (cc (h))
fails_so tag piece srb (Ok SentMoved) h = absurd (cc (h))
fails_so tag piece srb (Err completion) h = (completion, refl)

pub books_so : (old new : ManagerView) (before after : DiskView) (tag piece : ℕ) (srb : Srb) (what given : Result Entry Completion) (failed : Bool) → given ≡ what → IsArmed old.adapter tag piece srb
    → Transfers before tag piece srb what after → Suits before.sector_size before.sectors srb what → IsOfPiece tag piece what → BooksPiece old tag piece given new → (IsTrue failed → Fails what)
    → BooksSo (quiet old) before tag failed (quiet new) after
books_so old new before after tag piece srb what given failed same armed transfers suits of_piece books fails = record {
  has = record {
    piece = piece;
    srb = srb;
    what = what;
    armed = armed;
    transfers = transfers;
    suits = suits;
    of_piece = of_piece;
    books = subst (λ (w : Result Entry Completion). BooksPiece (quiet old) tag piece w (quiet new)) same (record { adapter = books.adapter; same = ap quiet books.same });
  };
  fails = fails;
}

module _ (transfer : CopiesTransfer) (suit : CopiesSuit) (send : CopiesSend) (old new : ManagerView) (done : DoneView) (moved : Result Moved Completion) (srb : Srb) (order : IsInOrder old.adapter) where
  -- what came of a copy came of the piece itself
  by_copy : IsArmed old.adapter done.ask.tag done.ask.piece srb → IsCopyOf srb done.ask.srb
      → entry_moved done.ask.tag done.ask.piece done.ask.srb moved ≡ done.what → IsMoved done.sizes done.ask done.what done.before done.after
      → BooksPiece old done.ask.tag done.ask.piece (handed_by old.adapter done.ask.tag done.ask.piece moved) new
      → BooksSo (quiet old) done.before done.ask.tag (is_err moved) (quiet new) done.after
  by_copy armed is what m books =
      let suits : Suits done.before.sector_size done.before.sectors done.ask.srb done.what =
      subst (λ (n : ℕ). Suits n done.before.sectors done.ask.srb done.what) (sym m.has_sizes.sector_size)
      (subst (λ (n : ℕ). Suits done.sizes.sector_size n done.ask.srb done.what) (sym m.has_sizes.sectors) m.suits) in
      books_so old new done.before done.after done.ask.tag done.ask.piece srb done.what (handed_by old.adapter done.ask.tag done.ask.piece moved) (is_err moved)
      (handed_same send old.adapter done.ask.tag done.ask.piece srb done.ask.srb moved order armed is ∙ what)
      armed (transfer done.before done.after done.ask.tag done.ask.piece srb done.ask.srb done.what is m.transfers)
      (suit done.before.sector_size done.before.sectors srb done.ask.srb done.what is suits) m.of_piece books
      (λ h. subst (λ (w : Result Entry Completion). Fails w) what (fails_so done.ask.tag done.ask.piece done.ask.srb moved h))

  pub booked_by_copy : (ask : Ask) (piece : ℕ) (failed : Bool) → IsArmed old.adapter ask.tag piece srb → piece ≡ ask.piece → IsCopyOf srb ask.srb → ask ≡ done.ask
      → entry_moved ask.tag ask.piece ask.srb moved ≡ done.what → IsMoved done.sizes done.ask done.what done.before done.after
      → BooksPiece old ask.tag piece (handed_by old.adapter ask.tag piece moved) new → failed ≡ is_err moved
      → BooksSo (quiet old) done.before done.ask.tag failed (quiet new) done.after
  booked_by_copy ask piece failed armed same is asked what m books told =
      let at_piece : IsArmed old.adapter ask.tag ask.piece srb = subst (λ (n : ℕ). IsArmed old.adapter ask.tag n srb) same armed in
      let booked : BooksPiece old ask.tag ask.piece (handed_by old.adapter ask.tag ask.piece moved) new =
      subst (λ (n : ℕ). BooksPiece old ask.tag n (handed_by old.adapter ask.tag n moved) new) same books in
      subst (λ (b : Bool). BooksSo (quiet old) done.before done.ask.tag b (quiet new) done.after) (sym told)
      (by_copy
      (subst (λ (a : Ask). IsArmed old.adapter a.tag a.piece srb) asked at_piece)
      (subst (λ (a : Ask). IsCopyOf srb a.srb) asked is)
      (subst (λ (a : Ask). entry_moved a.tag a.piece a.srb moved ≡ done.what) asked what) m
      (subst (λ (a : Ask). BooksPiece old a.tag a.piece (handed_by old.adapter a.tag a.piece moved) new) asked booked))
