-- A stack whose labels are kept for who is told of them, or for nobody.
use Rattle.serving.proofs.Common.{◌≡◌, ◌<◌, ℕ, Bool, true, false, [], inl, inr, Option, Some, None, refl, sym, ap, subst, ◌∙◌, All, Answer, Reply, ManagerView, FitsTogether, TakesAnswerOf, Event, Act, Finish, IsRight, StepsUntraced, led, DiskView, BooksArmed, State, IsReached, HasOtherTag, ActsOr, FinishesOr, acts_or, finishes_or, work, quiet, shown_to}
use Rattle.io_manager.specs.declared.Reply.TheVariants.{Handle as HandleReply, Ok as Done, Request as Requested, Answered, Refused, Ignored}
use Rattle.io_manager.specs.Right.{ActReplies, FinishReplies, HasNoneFresh, IsRightBy, IsUnmoved, SameHandles, TellsAct, TellsFinish, Told}
use Rattle.volume.proofs.Steps.{IsActed}

pub quiet_after : (old : ManagerView) (event : Event) (reply : Reply) (new : ManagerView) (u : StepsUntraced old event reply new) → shown_to false new ≡ record u.stepped { labels = [] }
quiet_after old event reply new u =
    ap (shown_to false) u.after ∙ ap (λ (k : Bool). record u.stepped { labels = []; keeps = k }) (sym (led (shown_to false old) event reply u.stepped u.right).by.same_keeps)

module _ (keeps : Bool) where
  pub shown_fits : (v : ManagerView) → FitsTogether v → FitsTogether (shown_to keeps v)
  shown_fits v h = record {
    read = h.read;
    on_tags = h.on_tags;
    has_slot = h.has_slot;
    has_request = h.has_request;
    one_slot = h.one_slot;
    rising = h.rising;
    one_state = h.one_state;
    removed_last = h.removed_last;
  }

  pub shown_books : (v w : ManagerView) (before after : DiskView) (tag : ℕ) → BooksArmed v before tag w after → BooksArmed (shown_to keeps v) before tag (shown_to keeps w) after
  shown_books v w before after tag (inl has) = inl (record {
    piece = has.piece;
    srb = has.srb;
    what = has.what;
    armed = has.armed;
    transfers = has.transfers;
    suits = has.suits;
    of_piece = has.of_piece;
    books = record { adapter = has.books.adapter; same = ap (shown_to keeps) has.books.same };
  })
  shown_books v w before after tag (inr none) = inr (record { none = none.none; same_stack = ap (shown_to keeps) none.same_stack; same_disk = none.same_disk })

  pub shown_takes : (v : ManagerView) (number : ℕ) (found : Option Answer) (w : ManagerView) → TakesAnswerOf v number found w → TakesAnswerOf (shown_to keeps v) number found (shown_to keeps w)
  shown_takes v number None w t = (t.0, ap (shown_to keeps) t.1)
  shown_takes v number (Some answer) w t = (t.0, t.1, t.2, ap (shown_to keeps) t.3)

pub quiet_fits : (v : ManagerView) → FitsTogether v → FitsTogether (quiet v)
quiet_fits v h = shown_fits false v h

-- AN ACT AND A RETURN

-- what is kept of labels says nothing of what they are
by_none : (told : Told) (old new : ManagerView) → IsRightBy false told old new → IsRightBy false told (shown_to false old) (shown_to false new)
by_none told old new h = record {
  in_order = h.in_order;
  rising = h.rising;
  same_rules = h.same_rules;
  same_keeps = refl;
  places = h.places;
  run = h.run;
  adapter = h.adapter;
  outside = h.outside;
  holders = h.holders;
  untaken = h.untaken;
}

handles_none : (old new : ManagerView) → SameHandles old new → SameHandles (shown_to false old) (shown_to false new)
handles_none old new h = record { handles = h.handles; next_handle = h.next_handle }

unmoved_none : (told : Told) (old new : ManagerView) → IsUnmoved old new told → IsUnmoved (shown_to false old) (shown_to false new) told
unmoved_none told old new h = record { nothing = h.nothing; same_state = h.same_state; same_adapter = h.same_adapter }

fresh_none : (old : ManagerView) (tag : ℕ) → HasNoneFresh old tag → HasNoneFresh (shown_to false old) tag
fresh_none old tag h = record { none = h.none }

act_none : (old new : ManagerView) (tag : ℕ) (told : Told) → TellsAct old tag told → TellsAct (shown_to false old) tag told
act_none old new tag told h = record {
  piece = h.piece;
  label = h.label;
  fresh = h.fresh;
  acts = h.acts;
  if_booked = h.if_booked;
  no_own = h.no_own;
  device = h.device;
  ends_none = h.ends_none;
  holders = h.holders;
  reserves_none = h.reserves_none;
}

finish_none : (old new : ManagerView) (tag : ℕ) (told : Told) → TellsFinish old tag told → TellsFinish (shown_to false old) tag told
finish_none old new tag told h = record {
  piece = h.piece;
  class = h.class;
  starts = h.starts;
  is_out = h.is_out;
  is_tag = h.is_tag;
  only_starts = h.only_starts;
  no_own = h.no_own;
  device = h.device;
  holders = h.holders;
  reserves_none = h.reserves_none;
}

act_replies : (old new : ManagerView) (tag : ℕ) (reply : Reply) (told : Told) → ActReplies old tag reply new told → ActReplies (shown_to false old) tag reply (shown_to false new) told
act_replies old new tag Done told h = (act_none old new tag told h.0, handles_none old new h.1)
act_replies old new tag Ignored told h = (unmoved_none told old new h.0, fresh_none old tag h.1, handles_none old new h.2)
act_replies old new tag (HandleReply given) told h = absurd h
act_replies old new tag (Requested id) told h = absurd h
act_replies old new tag (Answered answer) told h = absurd h
act_replies old new tag (Refused reason bytes) told h = absurd h

finish_replies : (old new : ManagerView) (tag : ℕ) (reply : Reply) (told : Told) → FinishReplies old tag reply new told → FinishReplies (shown_to false old) tag reply (shown_to false new) told
finish_replies old new tag Done told h = (finish_none old new tag told h.0, handles_none old new h.1)
finish_replies old new tag Ignored told h = (unmoved_none told old new h.0, h.1, handles_none old new h.2)
finish_replies old new tag (HandleReply given) told h = absurd h
finish_replies old new tag (Requested id) told h = absurd h
finish_replies old new tag (Answered answer) told h = absurd h
finish_replies old new tag (Refused reason bytes) told h = absurd h

-- they say something of the state alone
none_still : (v w : ManagerView) (tag : ℕ) → w.state ≡ v.state → HasNoneFresh v tag → HasNoneFresh w tag
none_still v w tag e h = let it : HasNoneFresh (record v { state = w.state }) tag = subst (λ (s : State). HasNoneFresh (record v { state = s }) tag) (sym e) h in record { none = it.none }

acts_state : (old v w : ManagerView) (tag : ℕ) (reply : Reply) → w.state ≡ v.state → ActsOr old tag v reply → ActsOr old tag w reply
acts_state old v w tag Done e h = subst (λ (s : State). IsActed old.state s) (sym e) h
acts_state old v w tag Ignored e h = (e ∙ h.0, none_still v w tag e h.1)
acts_state old v w tag (HandleReply given) e h = (e ∙ h.0, none_still v w tag e h.1)
acts_state old v w tag (Requested id) e h = (e ∙ h.0, none_still v w tag e h.1)
acts_state old v w tag (Answered answer) e h = (e ∙ h.0, none_still v w tag e h.1)
acts_state old v w tag (Refused reason bytes) e h = (e ∙ h.0, none_still v w tag e h.1)

finishes_state : (old v w : ManagerView) (tag : ℕ) (reply : Reply) → w.state ≡ v.state → FinishesOr old tag v reply → FinishesOr old tag w reply
finishes_state old v w tag Done e h = subst (λ (s : State). work s < work old.state) (sym e) h
finishes_state old v w tag Ignored e h = (e ∙ h.0, subst (λ (s : State). All (HasOtherTag tag) s.pieces) (sym e) h.1)
finishes_state old v w tag (HandleReply given) e h = (e ∙ h.0, subst (λ (s : State). All (HasOtherTag tag) s.pieces) (sym e) h.1)
finishes_state old v w tag (Requested id) e h = (e ∙ h.0, subst (λ (s : State). All (HasOtherTag tag) s.pieces) (sym e) h.1)
finishes_state old v w tag (Answered answer) e h = (e ∙ h.0, subst (λ (s : State). All (HasOtherTag tag) s.pieces) (sym e) h.1)
finishes_state old v w tag (Refused reason bytes) e h = (e ∙ h.0, subst (λ (s : State). All (HasOtherTag tag) s.pieces) (sym e) h.1)

module _ (keeps : Bool) (old stepped new : ManagerView) (tag : ℕ) (reply : Reply) (after : shown_to keeps new ≡ record stepped { labels = [] }) where
  same_state : new.state ≡ stepped.state
  same_state = ap (λ (v : ManagerView). v.state) after

  pub acts_seen : IsRight (shown_to keeps old) (Act tag) reply stepped → ActsOr old tag new reply
  acts_seen right =
      acts_state old (record (shown_to false stepped) { labels = []; keeps = true }) new tag reply same_state
      (acts_or old (shown_to false stepped) tag reply (record {
        told = right.told;
        replies = act_replies (shown_to keeps old) stepped tag reply right.told right.replies;
        by = by_none right.told (shown_to keeps old) stepped right.by;
      }))

  pub finishes_seen : IsReached old.rules old.state → HasNoneFresh old tag → IsRight (shown_to keeps old) (Finish tag) reply stepped → FinishesOr old tag new reply
  finishes_seen reached none right =
      finishes_state old (record (shown_to false stepped) { labels = []; keeps = true }) new tag reply same_state
      (finishes_or old (shown_to false stepped) tag reply reached none (record {
        told = right.told;
        replies = finish_replies (shown_to keeps old) stepped tag reply right.told right.replies;
        by = by_none right.told (shown_to keeps old) stepped right.by;
      }))
