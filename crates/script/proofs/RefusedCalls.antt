-- A call that is refused without its bytes is the call with them.
use Rattle.script.proofs.Common.{◌≡◌, inl, ℕ, List, [], Option, Some, None, ap, refl, replicate, subst, sym, length-replicate, Asked, Refusal, Refused, Refuses, ManagerView, Order, Given, handle_of, IsCarriedOutFor, asked_by}
use Rattle.io_manager.specs.declared.Handle.{Handle as OpenedHandle}
use Rattle.compose.specs.declared.Event.TheVariants.{Read as ReadEvent, Write as WriteEvent}
use Rattle.script.specs.declared.Order.TheVariants.{Open, Close, Read, Write, Flush, Cancel, Mark, QueryRemove, CancelRemove, Remove, SurpriseRemove, Act, Finish, Reset}

module _ (given : Given) (old new : ManagerView) (handle : OpenedHandle) (asked : Asked) (reason : Refusal) where
  -- what was found
  abbrev found : Option (OpenedHandle × Asked) → OpenedHandle × Asked
  found None = (handle, asked)
  found (Some pair) = pair

  pub refused_for : (order : Order) → asked_by given order ≡ Some (handle, asked) → Refuses old handle asked reason new → IsCarriedOutFor given order old (Refused reason []) new
  refused_for (Read number offset length) is refuses =
      let there = subst (λ (pair : OpenedHandle × Asked). Refuses old pair.0 pair.1 reason new) (sym (ap found is)) refuses in
      let bytes : List ℕ = replicate length 0 in (
        Refused reason bytes,
        inl (record {
          event = ReadEvent (handle_of given.handles number) offset bytes;
          is_event = refl;
          right = there bytes (sym (length-replicate length 0));
        }),
        refl,
      )
  refused_for (Write number offset length byte through) is refuses =
      let there = subst (λ (pair : OpenedHandle × Asked). Refuses old pair.0 pair.1 reason new) (sym (ap found is)) refuses in
      let bytes : List ℕ = replicate length byte in (
        Refused reason bytes,
        inl (record {
          event = WriteEvent (handle_of given.handles number) offset bytes through;
          is_event = refl;
          right = there bytes (sym (length-replicate length byte));
        }),
        refl,
      )
  refused_for (Open partition) is refuses = absurd (cc (is))
  refused_for (Close number) is refuses = absurd (cc (is))
  refused_for (Flush number) is refuses = absurd (cc (is))
  refused_for (Cancel number request) is refuses = absurd (cc (is))
  refused_for (Mark request) is refuses = absurd (cc (is))
  refused_for QueryRemove is refuses = absurd (cc (is))
  refused_for CancelRemove is refuses = absurd (cc (is))
  refused_for Remove is refuses = absurd (cc (is))
  refused_for SurpriseRemove is refuses = absurd (cc (is))
  refused_for (Act tag) is refuses = absurd (cc (is))
  refused_for (Finish tag) is refuses = absurd (cc (is))
  refused_for Reset is refuses = absurd (cc (is))
