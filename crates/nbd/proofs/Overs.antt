-- A session over storage whose content isn't shown, one exchange after another.
use Rattle.std.proofs.Common.{◌≡◌, ℕ, List, [], ◌∷◌, ◌++◌, length, append-nil, append_assoc, inl, inr, Option, Result, Ok, Err, MatchResult, refl, sym, subst, ◌∙◌, ap}
use Rattle.std.specs.Io.KnownBytes.{Consumes, Appends}
use Rattle.nbd.specs.declared.End.{End}
use Rattle.nbd.specs.declared.End.TheVariants.{Input, Output}
use Rattle.nbd.specs.declared.arrays.Sizes.{Sizes}
use Rattle.nbd.specs.declared.requests.Request.{Request}
use Rattle.nbd.specs.declared.requests.Command.{Command}
use Rattle.nbd.specs.declared.requests.ReplyError.{ReplyError}
use Rattle.nbd.specs.declared.options.Next.TheVariants.{Requests}
use Rattle.nbd.specs.Requests.{command_in, payload_count}
use Rattle.nbd.specs.Replies.{Outcome, failure, reply_bytes}
use Rattle.nbd.specs.inside.Streams.{Skips}
use Rattle.nbd.specs.Session.{Begins, Exchange, IsLast, IsTold, TakesLast, asked_by, said, told_by}
use Rattle.nbd.specs.inside.Session.{TakesRequest}
use Rattle.nbd.specs.Handshake.{EndsOptions, EndsUnasked, Opens, answers_to}
use Rattle.nbd.specs.Over.{CarriesOver, IsExchangeOver, IsSessionOver, RunOver}
use Rattle.nbd.specs.inside.Over.{EndsOver, IsExchangedOver, IsServedOver, ServedOver}
use Rattle.nbd.proofs.Streaming.{takes_more, tells_more}
use Rattle.nbd.proofs.Serving.{begins_after, begins_nothing, begins_with, said_append, told_after, told_nothing}
use Rattle.nbd.proofs.Haggling.{asked_behind, told_behind, told_options}

module _ {S : Type 0} (Carries : Command → List ℕ → S → Outcome → S → Type 0) (sizes : Sizes) where
  -- one request

  refused_by : (r : Request) (old : S) (payload : List ℕ) (e : ReplyError) (found : Result Command ReplyError) → found ≡ Err e
      → MatchResult found (λ command. CarriesOver Carries sizes command payload old (failure e) old) (λ why. (failure e ≡ failure why) × (old ≡ old))
  refused_by r old payload e found is =
      subst (λ (f : Result Command ReplyError). MatchResult f (λ command. CarriesOver Carries sizes command payload old (failure e) old) (λ why. (failure e ≡ failure why) × (old ≡ old))) (sym is) (refl, refl)

  pub refuses : (r : Request) (old : S) (input rest : Option (List ℕ)) (e : ReplyError) (found : Result Command ReplyError) → found ≡ command_in sizes.block sizes.bytes r → found ≡ Err e
      → Skips (payload_count r) input rest → IsServedOver Carries sizes r old input rest (failure e) old
  refuses r old input rest e found asked is skips = record {
    payload = skips.bytes;
    long = skips.long;
    taken = skips.taken;
    serves = refused_by r old skips.bytes e (command_in sizes.block sizes.bytes r) (sym asked ∙ is);
  }

  carried_by : (old new : S) (payload : List ℕ) (o : Outcome) (command : Command) (found : Result Command ReplyError) → found ≡ Ok command → CarriesOver Carries sizes command payload old o new
      → MatchResult found (λ c. CarriesOver Carries sizes c payload old o new) (λ why. (o ≡ failure why) × (new ≡ old))
  carried_by old new payload o command found is h =
      subst (λ (f : Result Command ReplyError). MatchResult f (λ c. CarriesOver Carries sizes c payload old o new) (λ why. (o ≡ failure why) × (new ≡ old))) (sym is) h

  pub carries : (r : Request) (old new : S) (input rest : Option (List ℕ)) (payload : List ℕ) (o : Outcome) (command : Command) (found : Result Command ReplyError)
      → found ≡ command_in sizes.block sizes.bytes r → found ≡ Ok command → length payload ≡ payload_count r → Consumes input rest payload → CarriesOver Carries sizes command payload old o new
      → IsServedOver Carries sizes r old input rest o new
  carries r old new input rest payload o command found asked is long taken h = record {
    payload = payload;
    long = long;
    taken = taken;
    serves = carried_by old new payload o command (command_in sizes.block sizes.bytes r) (sym asked ∙ is) h;
  }

  -- one after another

  run_append : (a b c : S) (xs ys : List Exchange) → RunOver Carries sizes a xs b → RunOver Carries sizes b ys c → RunOver Carries sizes a (xs ++ ys) c
  run_append a b c [] ys h k = subst (λ (s : S). RunOver Carries sizes s ys c) h k
  run_append a b c (x ∷ xs) ys h k = (h.0, h.1, run_append h.0 b c xs ys h.2 k)

  pub ends_at_once : (s : S) (input out : Option (List ℕ)) (end : End) → TakesLast input end → EndsOver Carries sizes s input out end s out
  ends_at_once s input out end h = record {
    exchanges = [];
    last = h.last;
    run = refl;
    asked = h.asked;
    told = told_nothing end out;
    is_last = h.is_last;
  }

  pub ends_unserved : (s new : S) (input out : Option (List ℕ)) (end : End) → end ≡ Input → new ≡ s → EndsOver Carries sizes s input out end new out
  ends_unserved s new input out end e same =
      subst (λ (x : S). EndsOver Carries sizes s input out end x out) (sym same)
      (ends_at_once s input out end (record { last = []; asked = begins_nothing input; is_last = subst (λ (x : End). IsLast x []) (sym e) refl }))

  exchange_of : (old new : S) (input mid rest : Option (List ℕ)) (r : Request) (o : Outcome) (t : TakesRequest input mid r) (s : IsServedOver Carries sizes r old mid rest o new)
      → (x : Exchange) × IsExchangeOver Carries sizes old x new × Consumes input rest (asked_by x) × (told_by x ≡ reply_bytes r.cookie o)
  exchange_of old new input mid rest r o t s = (
    record { header = t.header; request = r; payload = s.payload; outcome = o },
    record { is_request = t.is_request; goes_on = t.goes_on; long = s.long; serves = s.serves },
    takes_more input mid rest t.header s.payload t.taken s.taken,
    refl,
  )

  pub exchanged : (old new : S) (input mid rest out after : Option (List ℕ)) (r : Request) (o : Outcome) → TakesRequest input mid r → IsServedOver Carries sizes r old mid rest o new
      → Appends out after (reply_bytes r.cookie o) → IsExchangedOver Carries sizes old input out new rest after
  exchanged old new input mid rest out after r o t s told =
      let x = exchange_of old new input mid rest r o t s in
      record { exchange = x.0; is = x.1; taken = x.2; told = subst (Appends out after) (sym x.3) told }

  -- then the storage kept the memory of the answer
  pub exchanged_and_kept : (old new kept : S) (input mid rest out after : Option (List ℕ)) (r : Request) (o : Outcome) → kept ≡ new → TakesRequest input mid r → IsServedOver Carries sizes r old mid rest o new
      → Appends out after (reply_bytes r.cookie o) → IsExchangedOver Carries sizes old input out kept rest after
  exchanged_and_kept old new kept input mid rest out after r o same t s told =
      subst (λ (x : S). IsExchangedOver Carries sizes old input out x rest after) (sym same) (exchanged old new input mid rest out after r o t s told)

  -- served, but its reply could not be written
  pub ends_untold : (old new : S) (input mid rest out after : Option (List ℕ)) (r : Request) (o : Outcome) (end : End) → end ≡ Output → TakesRequest input mid r
      → IsServedOver Carries sizes r old mid rest o new → EndsOver Carries sizes old input out end new after
  ends_untold old new input mid rest out after r o end e t s =
      let x = exchange_of old new input mid rest r o t s in
      record {
        exchanges = x.0 ∷ [];
        last = [];
        run = (new, x.1, refl);
        asked = subst (Begins input) (sym (append-nil _ ∙ append-nil _)) (begins_with input rest (asked_by x.0) x.2);
        told = subst (λ (y : End). IsTold y out after (said told_by (x.0 ∷ []))) (sym e) tt;
        is_last = subst (λ (y : End). IsLast y []) (sym e) refl;
      }

  pub served_none : (s : S) (input out : Option (List ℕ)) (taken : Consumes input input []) (told : Appends out out []) → ServedOver Carries sizes s input out s input out
  served_none s input out taken told = record { exchanges = []; run = refl; taken = taken; told = told }

  pub served_more : (a b c : S) (i j k x y z : Option (List ℕ)) → ServedOver Carries sizes a i x b j y → IsExchangedOver Carries sizes b j y c k z → ServedOver Carries sizes a i x c k z
  served_more a b c i j k x y z s e = record {
    exchanges = s.exchanges ++ (e.exchange ∷ []);
    run = run_append a b c s.exchanges (e.exchange ∷ []) s.run (c, e.is, refl);
    taken = subst (Consumes i k) (sym (one_more asked_by s.exchanges e.exchange)) (takes_more i j k (said asked_by s.exchanges) (asked_by e.exchange) s.taken e.taken);
    told = subst (Appends x z) (sym (one_more told_by s.exchanges e.exchange)) (tells_more x y z (said told_by s.exchanges) (told_by e.exchange) s.told e.told);
  }
    where
      one_more : (f : Exchange → List ℕ) (xs : List Exchange) (x : Exchange) → said f (xs ++ (x ∷ [])) ≡ said f xs ++ f x
      one_more f xs x = said_append f xs (x ∷ []) ∙ ap (λ (l : List ℕ). said f xs ++ l) (append-nil (f x))

  pub ends_after : (a b c : S) (i j x y z : Option (List ℕ)) (end : End) → ServedOver Carries sizes a i x b j y → EndsOver Carries sizes b j y end c z → EndsOver Carries sizes a i x end c z
  ends_after a b c i j x y z end s e = record {
    exchanges = s.exchanges ++ e.exchanges;
    last = e.last;
    run = run_append a b c s.exchanges e.exchanges s.run e.run;
    asked =
        subst (Begins i) (sym (ap (λ (l : List ℕ). l ++ e.last) (said_append asked_by s.exchanges e.exchanges) ∙ append_assoc (said asked_by s.exchanges) (said asked_by e.exchanges) e.last))
        (begins_after i j (said asked_by s.exchanges) (said asked_by e.exchanges ++ e.last) s.taken e.asked);
    told = subst (IsTold end x z) (sym (said_append told_by s.exchanges e.exchanges)) (told_after end x y z (said told_by s.exchanges) (said told_by e.exchanges) s.told e.told);
    is_last = e.is_last;
  }

  -- the sizes of the storage as they are now
  pub ends_at_sizes : (a b c : S) (i j x y z : Option (List ℕ)) (end : End) (now : Sizes) → now ≡ sizes → ServedOver Carries sizes a i x b j y → EndsOver Carries now b j y end c z → EndsOver Carries sizes a i x end c z
  ends_at_sizes a b c i j x y z end now same s e = ends_after a b c i j x y z end s (subst (λ (n : Sizes). EndsOver Carries n b j y end c z) same e)

  pub served_at_sizes : (a b c : S) (i j k x y z : Option (List ℕ)) (now : Sizes) → now ≡ sizes → ServedOver Carries sizes a i x b j y → IsExchangedOver Carries now b j y c k z → ServedOver Carries sizes a i x c k z
  served_at_sizes a b c i j k x y z now same s e = served_more a b c i j k x y z s (subst (λ (n : Sizes). IsExchangedOver Carries n b j y c k z) same e)

  -- whole sessions

  pub ended_unasked : (old : S) (told_sizes : Sizes) (i x z : Option (List ℕ)) (end : End) → told_sizes ≡ sizes → EndsUnasked told_sizes i x end z → IsSessionOver Carries sizes old i x end old z
  ended_unasked old told_sizes i x z end same (inl g) = inl (record { same = refl; ended = g })
  ended_unasked old told_sizes i x z end same (inr h') =
      let h : EndsOptions sizes i x end z = subst (λ (s : Sizes). EndsOptions s i x end z) same h' in
      inr (record {
        flags = h.flags;
        no_zeroes = h.no_zeroes;
        are_flags = h.are_flags;
        options = h.options;
        next = h.next;
        leads = h.leads;
        exchanges = [];
        last = h.last;
        in_turn = inr (refl, h.why);
        asked = h.asked;
        told = told_options end x z (said (answers_to sizes h.no_zeroes) h.options) h.told;
        run = refl;
      })

  pub whole_session : (old new : S) (told_sizes : Sizes) (i x k z w : Option (List ℕ)) (end : End) → told_sizes ≡ sizes → Opens told_sizes i x k z → EndsOver Carries sizes old k z end new w
      → IsSessionOver Carries sizes old i x end new w
  whole_session old new told_sizes i x k z w end same o' e =
      let o : Opens sizes i x k z = subst (λ (s : Sizes). Opens s i x k z) same o' in
      inr (record {
        flags = o.flags;
        no_zeroes = o.no_zeroes;
        are_flags = o.are_flags;
        options = o.options;
        next = Requests;
        leads = o.leads;
        exchanges = e.exchanges;
        last = e.last;
        in_turn = inl (refl, e.is_last);
        asked = asked_behind sizes i x k z o _ e.asked;
        told = told_behind sizes i x k z w o end _ e.told;
        run = e.run;
      })
