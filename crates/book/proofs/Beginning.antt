-- What holds of a book at first, and while its tags or its answers change.
use Rattle.book.proofs.Common.{◌≡◌, ℕ, zero, suc, IsFalse, ◌≤◌, List, [], ◌∷◌, length, map, Option, Some, None, replicate, refl, sym, ap, subst, ◌∙◌, arith, Contains-permutation, IsPermutation-sym, All-nil, TagInUse, AdapterView, Label, Rules, sectors_of, array_at, Piece, State, opening, IsSame-refl, AreOfActs, AreWhole, IsReached, HaveSameLengths, RunsKeepLengths, piece_on_tag, use_on_tag, OpenHandle, FitsTogether, TakesAnswerOf, ManagerView, IsStartedUse, Entered, Armed, entries_in, TraceEntry, TracedView, IsTraced, claimed_at, ActsAreOf, IsBlank, IsKept, Claimed, AreOnTags}
use Rattle.std.specs.Prelude.{All, Contains, IsPermutation}
use Rattle.io_manager.specs.declared.Answer.{Answer}
use Rattle.traced.specs.Entries.{labels_of}

none_claimed : (depth tag : ℕ) → claimed_at (replicate depth None) tag ≡ None
none_claimed zero tag = refl
none_claimed (suc depth) zero = refl
none_claimed (suc depth) (suc tag) = none_claimed depth tag

differ : {x : List (ℕ × Armed)} → None ≡ Some x → ⊥
differ {x} e = absurd (cc (e))

-- no piece is out, and so none is on a tag
no_tags : (pieces : List Piece) (tags : List TagInUse) → pieces ≡ [] → IsPermutation (map piece_on_tag pieces) (map use_on_tag tags) → tags ≡ []
no_tags pieces [] none same = refl
no_tags pieces (u ∷ tags) none same =
    let from_none : IsPermutation [] (use_on_tag u ∷ map use_on_tag tags) = subst (λ (ps : List Piece). IsPermutation (map piece_on_tag ps) (use_on_tag u ∷ map use_on_tag tags)) none same in
    let there : Contains [] (use_on_tag u) = Contains-permutation _ _ (use_on_tag u) (IsPermutation-sym _ _ from_none) (0, omega arith, refl) in
    absurd (omega (arith, there.1))

module _ (keeps : RunsKeepLengths) (rules : Rules) (start : State) (partitions : List ℕ) (handles : List (Option OpenHandle)) (traced : TracedView)
    (is : IsTraced rules start partitions handles traced) (fits : FitsTogether traced.stack) (reached : IsReached traced.stack.rules traced.stack.state) (blank : IsBlank start traced) where
  whole_now : AreWhole traced.stack.rules traced.stack.state.arrays
  whole_now p =
      let first : IsReached traced.stack.rules (opening reached.arrays) = record { arrays = reached.arrays; labels = []; whole = reached.whole; run = IsSame-refl (opening reached.arrays) } in
      let same : HaveSameLengths reached.arrays traced.stack.state.arrays = keeps traced.stack.rules (opening reached.arrays) reached.labels traced.stack.state first reached.run in
      let there : sectors_of traced.stack.rules (Some p) ≤ length (array_at reached.arrays p) = reached.whole p in
      let long : length (array_at traced.stack.state.arrays p) ≡ length (array_at reached.arrays p) = same.sectors p in
      omega (arith, there, long)

  whole : AreWhole rules start.arrays
  whole = subst (λ (r : Rules). AreWhole r start.arrays) is.same_rules (subst (λ (s : State). AreWhole traced.stack.rules s.arrays) blank.same_state whole_now)

  none_on_tags : traced.stack.adapter.tags ≡ []
  none_on_tags = no_tags traced.stack.state.pieces traced.stack.adapter.tags (ap (λ (s : State). s.pieces) (blank.same_state ∙ blank.opens)) fits.read.pieces

  pub kept_first : (taken : List Entered) (tags : Claimed) (depth : ℕ) → taken ≡ [] → tags ≡ replicate depth None → IsKept rules start traced taken tags
  kept_first taken tags depth none free = record {
    arrays = start.arrays;
    starts = blank.opens;
    whole = whole;
    journaled = record {
      of_acts = subst (λ (es : List TraceEntry). AreOfActs (labels_of es) (labels_of es) (entries_in taken)) (sym blank.no_entries) (ap entries_in none);
      started = subst (λ (us : List TagInUse). All (IsStartedUse (labels_of traced.entries)) us) (sym none_on_tags) (All-nil (IsStartedUse (labels_of traced.entries)));
    };
    apart = blank.apart;
    on_tags = λ tag number armed claimed. absurd (differ (sym (ap (λ (ts : Claimed). claimed_at ts tag) free ∙ none_claimed depth tag) ∙ claimed));
  }

pub kept_tags : (rules : Rules) (start : State) (traced : TracedView) (taken : List Entered) (tags tags' : Claimed) → IsKept rules start traced taken tags → AreOnTags traced.stack.adapter tags' → IsKept rules start traced taken tags'
kept_tags rules start traced taken tags tags' kept on = record {
  arrays = kept.arrays;
  starts = kept.starts;
  whole = kept.whole;
  journaled = kept.journaled;
  apart = kept.apart;
  on_tags = on;
}

-- the same machine below
kept_same : (rules : Rules) (start : State) (old new : TracedView) (taken : List Entered) (tags : Claimed) → new.entries ≡ old.entries → new.stack.adapter ≡ old.stack.adapter
    → IsKept rules start old taken tags → IsKept rules start new taken tags
kept_same rules start old new taken tags entries adapter kept = record {
  arrays = kept.arrays;
  starts = kept.starts;
  whole = kept.whole;
  journaled = record {
    of_acts = subst (λ (es : List TraceEntry). AreOfActs (labels_of es) (labels_of es) (entries_in taken)) (sym entries) kept.journaled.of_acts;
    started = subst (λ (es : List TraceEntry). All (IsStartedUse (labels_of es)) new.stack.adapter.tags) (sym entries)
        (subst (λ (v : AdapterView). All (IsStartedUse (labels_of old.entries)) v.tags) (sym adapter) kept.journaled.started);
  };
  apart = subst (λ (v : AdapterView). IsFalse v.faithful) (sym adapter) kept.apart;
  on_tags = subst (λ (v : AdapterView). AreOnTags v tags) (sym adapter) kept.on_tags;
}

adapter_same : (old new : ManagerView) (number : ℕ) (result : Option Answer) → TakesAnswerOf old number result new → new.adapter ≡ old.adapter
adapter_same old new number None takes = ap (λ (v : ManagerView). v.adapter) takes.1
adapter_same old new number (Some answer) takes = ap (λ (v : ManagerView). v.adapter) takes.3

-- an answer is taken
pub kept_answered : (rules : Rules) (start : State) (old new : TracedView) (taken : List Entered) (tags : Claimed) (number : ℕ) (result : Option Answer) → TakesAnswerOf old.stack number result new.stack
    → new ≡ record old { stack = new.stack } → IsKept rules start old taken tags → IsKept rules start new taken tags
kept_answered rules start old new taken tags number result takes same =
    kept_same rules start old new taken tags (ap (λ (v : TracedView). v.entries) same) (adapter_same old.stack new.stack number result takes)

pub acts_are : (rules : Rules) (start : State) (traced : TracedView) (taken : List Entered) (tags : Claimed) (trace : List Label) → trace ≡ labels_of traced.entries → IsKept rules start traced taken tags → ActsAreOf rules start trace taken
acts_are rules start traced taken tags trace is kept = record {
  arrays = kept.arrays;
  starts = kept.starts;
  whole = kept.whole;
  of_acts = subst (λ (ls : List Label). AreOfActs ls ls (entries_in taken)) (sym is) kept.journaled.of_acts;
}
