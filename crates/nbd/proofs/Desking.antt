-- A session whose requests are served side by side, with what holds of its desk.
use Rattle.std.proofs.Common.{◌≡◌, inr, ℕ, List, Option, refl, sym, subst}
use Rattle.std.specs.Io.KnownBytes.{Appends, Keeps as KeepsBytes}
use Rattle.nbd.specs.declared.End.{End}
use Rattle.nbd.specs.declared.End.TheVariants.{Output}
use Rattle.nbd.specs.declared.replies.Answer.{Answer}
use Rattle.nbd.specs.declared.beside.Happening.TheVariants.{Answered, Ended, Idle, Read}
use Rattle.nbd.specs.Replies.{outcome_of, reply_bytes}
use Rattle.nbd.specs.declared.arrays.Sizes.{Sizes}
use Rattle.nbd.specs.Beside.{Account, EndsBeside, IsSessionBeside, nothing_said}
use Rattle.nbd.specs.Handshake.{Opens}
use Rattle.nbd.specs.Desks.{EndsSince, GoesOn, Keeps}
use Rattle.nbd.specs.inside.Beside.{HasServed, HasServedSince}
use Rattle.nbd.proofs.Haggling.{asked_behind, told_behind}
use Rattle.nbd.proofs.Besides as on

module _ {S : Type 0} (left : S → Option (List ℕ)) (Since : S → Account → S → Type 0) where
  pub since_none : (d : S) (x : Option (List ℕ)) → HasServedSince Since d (left d) x (left d) d x
  since_none d x = λ first since. record { account = nothing_said; served = on.served_none (left d) x nothing_said refl; since = since }

  pub reads_more : (i x y : Option (List ℕ)) (a b c : S) → HasServedSince Since a i x (left b) b y → GoesOn left Since b Read c → HasServedSince Since a i x (left c) c y
  reads_more i x y a b c h k = λ first since.
      let s = h first since in
      let g = k first s.account s.since in
      record { account = g.next; served = on.reads_more i (left b) (left c) x y s.account g.next s.served g.happens; since = g.since }

  pub tells_on : (i x y z : Option (List ℕ)) (a b c d : S) (place cookie : ℕ) (answer : Answer) → HasServedSince Since a i x (left b) b y → GoesOn left Since b (Answered place cookie answer) c
      → Appends y z (reply_bytes cookie (outcome_of answer)) → left d ≡ left c → Keeps Since c d → HasServedSince Since a i x (left d) d z
  tells_on i x y z a b c d place cookie answer h k written here keeps = λ first since.
      let s = h first since in
      let g = k first s.account s.since in
      record {
        account = g.next;
        served = subst (λ l. HasServed i x g.next l z) (sym here) (on.tells_one i (left b) (left c) x y z s.account g.next _ s.served g.happens written);
        since = keeps.on first g.next g.since;
      }

  pub passes_on : (i x y z : Option (List ℕ)) (a b c : S) → HasServedSince Since a i x (left b) b y → GoesOn left Since b Idle c → KeepsBytes y z → HasServedSince Since a i x (left c) c z
  passes_on i x y z a b c h k keeps = λ first since.
      let s = h first since in
      let g = k first s.account s.since in
      record { account = g.next; served = on.passes_on i (left b) (left c) x y z s.account g.next s.served g.happens.0 g.happens.1 keeps; since = g.since }

  pub ends_untold : (i x y z : Option (List ℕ)) (a b c d : S) (place cookie : ℕ) (answer : Answer) → HasServedSince Since a i x (left b) b y → GoesOn left Since b (Answered place cookie answer) c
      → Keeps Since c d → EndsSince Since a i x Output d z
  ends_untold i x y z a b c d place cookie answer h k keeps = λ first since.
      let s = h first since in
      let g = k first s.account s.since in
      record { account = g.next; ends = on.ends_untold i (left b) (left c) x y z s.account g.next _ s.served g.happens; since = keeps.on first g.next g.since }

  pub ends_unflushed : (i x y z : Option (List ℕ)) (a b c : S) → HasServedSince Since a i x (left b) b y → GoesOn left Since b Idle c → EndsSince Since a i x Output c z
  ends_unflushed i x y z a b c h k = λ first since.
      let s = h first since in
      let g = k first s.account s.since in
      record { account = g.next; ends = on.ends_unflushed i (left b) x y z s.account g.next s.served g.happens.1; since = g.since }

  pub ends_unended : (i x y z : Option (List ℕ)) (a b c : S) (end : End) → HasServedSince Since a i x (left b) b y → GoesOn left Since b (Ended end) c → EndsSince Since a i x Output c z
  ends_unended i x y z a b c end h k = λ first since.
      let s = h first since in
      let g = k first s.account s.since in
      record { account = g.next; ends = on.ends_unended i (left b) x y z s.account g.next end s.served g.happens; since = g.since }

  pub ends_here : (i x y z : Option (List ℕ)) (a b c : S) (end : End) → HasServedSince Since a i x (left b) b y → GoesOn left Since b (Ended end) c → KeepsBytes y z → EndsSince Since a i x end c z
  ends_here i x y z a b c end h k keeps = λ first since.
      let s = h first since in
      let g = k first s.account s.since in
      record { account = g.next; ends = on.ends_here i (left b) x y z s.account g.next end s.served g.happens keeps; since = g.since }

  pub keeps_none : (d : S) → Keeps Since d d
  keeps_none d = record { on = λ first a since. since }

-- what was said before the requests, and then of them
pub makes_a_session : (sizes : Sizes) (input out rest mid after : Option (List ℕ)) (a : Account) (end : End) → Opens sizes input out rest mid → EndsBeside rest mid a end after
    → IsSessionBeside sizes input out a end after
makes_a_session sizes input out rest mid after a end o e = inr (record {
  flags = o.flags;
  no_zeroes = o.no_zeroes;
  are_flags = o.are_flags;
  options = o.options;
  leads = o.leads;
  is_account = e.is_account;
  none_due = e.none_due;
  last = e.last;
  is_last = e.is_last;
  asked = asked_behind sizes input out rest mid o _ e.read;
  told = told_behind sizes input out rest mid after o end _ e.written;
})
