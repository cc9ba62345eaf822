-- A refused call and its answer change the next number alone.
use Rattle.std.proofs.Common.{◌≡◌, inl, inr, ℕ, ◌+◌, Bool, [], ◌∷◌, Option, Some, None, refl, sym, subst}
use Rattle.io_manager.proofs.Common.{IsNone, IsPermutation-refl, NtStatus, ClientRequest, Rules, State, Run, IsSame-refl, shown_state}
use Rattle.machine.specs.declared.Label.TheVariants.{Call, Answer}
use Rattle.machine.specs.Calling.{refusal, Opens, Admits, Calls}

none_is : {X : Type 0} (o : Option X) → IsNone o → o ≡ None
none_is None h = refl
none_is (Some x) h = cc (h)

pub Run-refused : (rules : Rules) (next : ℕ) (removed : Bool) (s : State) (q : ClientRequest) (status : NtStatus) → IsNone s.owed → q.bytes ≡ [] → refusal rules (shown_state next removed s) q ≡ Some status
    → Run rules (shown_state next removed s) (Call next q ∷ Answer next status 0 [] ∷ []) (shown_state (next + 1) removed s)
Run-refused rules next removed s q status free no_bytes refused =
    let mid : State = record (shown_state (next + 1) removed s) { owed = Some (record { number = next; status = status }) } in
    let called : Admits rules (shown_state next removed s) next q (Some status) mid = record { no_bytes = no_bytes; after = IsSame-refl mid } in (
      mid,
      inl (free, record { next_number = refl; admits = subst (λ r. Admits rules (shown_state next removed s) next q r mid) (sym refused) called }),
      (
        shown_state (next + 1) removed s,
        inr (record {
          is_owed = refl;
          none_moved = refl;
          no_bytes = refl;
          after = record {
            arrays = refl;
            next_request = refl;
            next_piece = refl;
            requests = IsPermutation-refl _;
            pieces = IsPermutation-refl _;
            owed = none_is s.owed free;
            paused = refl;
            removing = refl;
            removed = refl;
          };
        }),
        IsSame-refl (shown_state (next + 1) removed s),
      ),
    )

-- a call that nothing refuses opens its request
pub Calls-opened : (rules : Rules) (s : State) (number : ℕ) (q : ClientRequest) (s' : State) → number ≡ s.next_request → refusal rules s q ≡ None → Opens rules s number q s' → Calls rules s number q s'
Calls-opened rules s number q s' next none opens = record { next_number = next; admits = subst (λ r. Admits rules s number q r s') (sym none) opens }
