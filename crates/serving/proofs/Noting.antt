-- An adapter that keeps the bytes of labels, or not.
use Rattle.serving.proofs.Common.{◌≡◌, ℕ, Bool, List, sym, subst, IsNewBooked, MemView}

-- is as new as it was
pub noted_new : (keeps : Bool) (first : List ℕ) (sectors max_transfer depth : ℕ) (view noted : MemView) → noted ≡ record view { shown = record view.shown { keeps_bytes = keeps } }
    → IsNewBooked first sectors max_transfer depth view → IsNewBooked first sectors max_transfer depth noted
noted_new keeps first sectors max_transfer depth view noted is new = subst (λ (v : MemView). IsNewBooked first sectors max_transfer depth v) (sym is) (record {
  size_is = new.size_is;
  sectors_are = new.sectors_are;
  transfer_is = new.transfer_is;
  depth_is = new.depth_is;
  no_tags = new.no_tags;
  none_accepted = new.none_accepted;
  none_failed = new.none_failed;
  no_labels = new.no_labels;
})
