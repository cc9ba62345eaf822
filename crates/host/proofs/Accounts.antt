-- What calls and answers do to an account.
use Rattle.std.proofs.Common.{◌≡◌, ℕ, ◌+◌, ◌≤◌, List, [], ◌∷◌, ◌++◌, length, Option, Some, refl, sym, ap, ◌∙◌, subst, arith, length-append}
use Rattle.host.proofs.Common.{slice_get, slice_index_or, ClientRequest, Label, OpenHandle, TraceEntry, entry, IsOpenOn, ShareView, AccountKept, AccountView, EndsWithAnswer, IsTaken, HasCounted, Stands}
use Rattle.machine.specs.declared.Label.TheVariants.{Call as CallLabel}
use Rattle.host.specs.Receipts.{Receipt, AreAnswers, AreBelow, AreCalls, AreRising, Answers, receipt}
use Rattle.host.specs.declared.call.Answered.{Answered}
use Rattle.host.proofs.Keeping.{answers_snoc, below_more, calls_snoc, rising_snoc}

some_same : {A : Type 0} {x y : A} → Some x ≡ Some y → x ≡ y
some_same {A} {x} {y} e = cc

-- the receipt of what stands at the place
pub receipt_is : (es : List TraceEntry) (place : ℕ) (label : Label) (client : ℕ) (e : TraceEntry) (claim : List Receipt) → Stands es place label client → slice_get es place ≡ Some e → claim ≡ (place, e) ∷ [] → claim ≡ receipt place label client
receipt_is es place label client e claim stands at is = is ∙ ap (λ (x : TraceEntry). (place, x) ∷ []) (some_same (sym at ∙ stands))

still_open : (handles : List (Option OpenHandle)) (partitions : List ℕ) (old new : ShareView) → new.client ≡ old.client → new.handle ≡ old.handle
    → IsOpenOn handles old.handle (slice_index_or partitions old.client 0) → IsOpenOn handles new.handle (slice_index_or partitions new.client 0)
still_open handles partitions old new client handle is =
    subst (λ k. IsOpenOn handles new.handle (slice_index_or partitions k 0)) (sym client) (subst (λ h. IsOpenOn handles h (slice_index_or partitions old.client 0)) (sym handle) is)

-- a call more
pub account_called : (handles : List (Option OpenHandle)) (partitions : List ℕ) (old new : ShareView) (called answered claim : List Receipt) (from place number : ℕ) (q : ClientRequest)
    → AccountKept handles partitions old called answered → HasCounted old 1 new → claim ≡ receipt place (CallLabel number q) old.client → AreBelow from called → from ≤ place
    → AccountKept handles partitions new (called ++ claim) answered
account_called handles partitions old new called answered claim from place number q kept counted is below late =
    let list : called ++ claim ≡ called ++ receipt place (CallLabel number q) old.client = ap (λ c. called ++ c) is in
    let long : length (called ++ claim) ≡ length called + 1 = ap length list ∙ length-append called (receipt place (CallLabel number q) old.client) in
    record {
      counted = (let c = kept.counted in let m = counted.more in omega (arith, long));
      calls = subst (λ k. AreCalls k (called ++ claim)) (sym counted.client) (subst (AreCalls old.client) (sym list) (calls_snoc old.client called place (entry (CallLabel number q) (Some old.client)) kept.calls (record { call = refl; row = refl })));
      rising = subst (AreRising 0) (sym list) (rising_snoc 0 called place (entry (CallLabel number q) (Some old.client)) kept.rising (below_more from place called below late) (omega arith));
      answers = subst (λ k. AreAnswers k answered) (sym counted.client) kept.answers;
      handle = still_open handles partitions old new counted.client counted.handle kept.handle;
    }

-- an answer more
pub account_answered : (handles : List (Option OpenHandle)) (partitions : List ℕ) (share : ShareView) (called answered claim : List Receipt) (place : ℕ) (label : Label)
    → AccountKept handles partitions share called answered → claim ≡ receipt place label share.client → Answers label → AccountKept handles partitions share called (answered ++ claim)
account_answered handles partitions share called answered claim place label kept is answers = record {
  counted = kept.counted;
  calls = kept.calls;
  rising = kept.rising;
  answers = subst (AreAnswers share.client) (sym (ap (λ c. answered ++ c) is)) (answers_snoc share.client answered place (entry label (Some share.client)) kept.answers (record { answers = answers; row = refl }));
  handle = kept.handle;
}

-- the receipt of an answer that was taken is the last
pub ends_with_taken : (old : AccountView) (number call : ℕ) (answered : Answered) (new : AccountView) (n : ℕ) → IsTaken old number call answered new → n ≡ number → EndsWithAnswer n new.answered.list
ends_with_taken old number call answered new n taken is = record {
  answer = answered.answer;
  is_number = taken.number_is ∙ sym is;
  place = answered.places.answer;
  client = old.share.client;
  before = old.answered.list;
  is = taken.adds;
}
