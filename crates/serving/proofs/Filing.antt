-- What a partition of a disk in a storage comes to by its requests.
use Rattle.serving.proofs.Common.{◌≡◌, ◌≤◌, ◌<◌, ◌^◌, ℕ, ◌+◌, arith, List, [], ◌∷◌, Bool, None, Option, Result, IsFalse, replicate, refl, ap, subst, result_err, Answer, Handle, Refusal, ManagerView, Event, Sizes, WriteZeroes, ReplyError, IsWithin, DiskView, Requests, StandsIn, over, ComesTo, FiledKept, FiledView, TraceView, HasCleared, IsAsked, IsDone, Writes}

-- ONE REQUEST

abbrev pub filed_over : ManagerView → DiskView → TraceView → Handle → Sizes → FiledView
filed_over stack disk trace handle sizes = record { carried = over stack disk trace; handle = handle; sizes = sizes }

module _ (stack stack' : ManagerView) (disk disk' : DiskView) (trace trace' : TraceView) (handle : Handle) (sizes : Sizes) where
  pub asked_so : (event : Event) (result : Result Answer Refusal) (done : Result (List ℕ) ReplyError) → Requests (over stack disk trace) event result (over stack' disk' trace') → ComesTo disk'.full result done
      → IsAsked (filed_over stack disk trace handle sizes) event done (filed_over stack' disk' trace' handle sizes)
  asked_so event result done requests comes_to = record { result = result; requests = requests; comes_to = comes_to; same_handle = refl; same_sizes = refl }

  pub kept_so : FiledKept (over stack disk trace) sizes → StandsIn stack' disk' → stack'.labels ≡ [] → IsFalse stack'.state.paused → FiledKept (over stack' disk' trace') sizes
  kept_so kept stands taken unpaused = record { stands = stands; taken = taken; unpaused = unpaused; block = kept.block; few = kept.few }

pub done_so : (old new : FiledView) (event : Event) (done : Result (List ℕ) ReplyError) (failed : Option ReplyError) → IsAsked old event done new → failed ≡ result_err done → IsDone old event failed new
done_so old new event done failed asked so = record { done = done; asked = asked; failed_so = so }

-- ZEROS

-- none were written yet
pub cleared_none : (v : FiledView) (offset : ℕ) (through : Bool) → HasCleared v offset 0 through v
cleared_none v offset through = record { counts = []; clears = refl; all = refl }

-- by one write more
pub cleared_more : (old mid new : FiledView) (offset done count : ℕ) (through : Bool) → HasCleared old offset done through mid → Writes mid (offset + done) (replicate count 0) through None new
    → HasCleared old offset (done + count) through new
cleared_more old mid new offset done count through h w = record {
  counts = count ∷ h.counts;
  clears = (mid, h.clears, subst (λ (n : ℕ). Writes mid (offset + n) (replicate count 0) through None new) h.all w);
  all = ap (λ (n : ℕ). n + count) h.all;
}

-- zeros within a disk whose bytes can be counted
pub clears_within : (block bytes offset count : ℕ) (through : Bool) → IsWithin block bytes (WriteZeroes offset count through) → bytes ≤ 2 ^ 63 → offset + count < 2 ^ 64
clears_within block bytes offset count through within few = let inside : offset + count ≤ bytes = within.inside in let half : 2 ^ 63 ≡ 9223372036854775808 = refl in let all : 2 ^ 64 ≡ 18446744073709551616 = refl in omega (arith, inside, few, half, all)
