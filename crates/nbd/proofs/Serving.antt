-- A session, one exchange after another.
use Rattle.std.proofs.Common.{◌≡◌, ℕ, List, [], ◌∷◌, ◌++◌, length, append-nil, append_assoc, Option, None, Some, Result, Ok, Err, MatchResult, Bool, true, false, refl, sym, subst, ◌∙◌, ap, arith}
use Rattle.std.specs.Prelude.{IfErr, MatchBool, OnOk}
use Rattle.std.proofs.lemmas.Bool.Decides.{nat_tests}
use Rattle.std.specs.Io.KnownBytes.{Consumes, Appends}
use Rattle.nbd.specs.declared.End.{End}
use Rattle.nbd.specs.declared.End.TheVariants.{Left, Malformed, Input, Output}
use Rattle.nbd.specs.declared.requests.Request.{Request}
use Rattle.nbd.specs.declared.requests.Command.{Command}
use Rattle.nbd.specs.declared.requests.ReplyError.{ReplyError}
use Rattle.nbd.specs.Content.{Content}
use Rattle.nbd.specs.Requests.{command_in, payload_count, payload_of}
use Rattle.nbd.specs.Replies.{Outcome, failure}
use Rattle.nbd.specs.declared.dialects.Dialect.{Dialect}
use Rattle.nbd.specs.declared.dialects.Dialect.TheVariants.{Plain, Simple, Structured}
use Rattle.nbd.specs.Dialects.{asks_status}
use Rattle.nbd.specs.Chunks.{chunk_of, reply_in}
use Rattle.nbd.specs.Status.{TellsStatus}
use Rattle.nbd.specs.inside.Status.{IsStatusTold}
use Rattle.nbd.specs.Carrying.{Carries, Faulting, Serves}
use Rattle.nbd.specs.inside.Carrying.{IsCarried, IsServed}
use Rattle.nbd.specs.Session.{Begins, Exchange, IsExchange, IsLast, IsTold, Run, asked_by, said, told_in, TakesLast}
use Rattle.nbd.specs.inside.Session.{Ends, IsExchanged, Served, TakesRequest}
use Rattle.nbd.proofs.Streaming.{takes_more, tells_nothing, tells_more}

-- a command that a request asks for, once it was carried out
pub served : (F : Faulting) (r : Request) (old new : Content) (input rest : Option (List ℕ)) (o : Outcome) (command : Command) (found : Result Command ReplyError) (block size : ℕ)
    → block ≡ old.block → size ≡ length old.bytes → found ≡ command_in block size r → found ≡ Ok command → payload_count r ≡ payload_of command
    → IsCarried F command old input rest o new → IsServed F r old input rest o new
served F r old new input rest o command found block size eb es asked is long h = record {
  payload = h.payload;
  long = h.long ∙ sym long;
  taken = h.taken;
  serves = subst (Carried h.payload) (sym is ∙ asked ∙ ap (λ (b : ℕ). command_in b size r) eb ∙ ap (λ (s : ℕ). command_in old.block s r) es) h.carries;
}
  where
    Carried : List ℕ → Result Command ReplyError → Type 0
    Carried payload f = MatchResult f (λ c. Carries F c payload old o new) (λ e. (o ≡ failure e) × (new ≡ old))

pub begins_nothing : (x : Option (List ℕ)) → Begins x []
begins_nothing None = tt
begins_nothing (Some xs) = (xs, refl)

pub begins_after : (x y : Option (List ℕ)) (a b : List ℕ) → Consumes x y a → Begins y b → Begins x (a ++ b)
begins_after None y a b h k = tt
begins_after (Some xs) None a b h k = absurd h
begins_after (Some xs) (Some ys) a b h k = (k.0, h ∙ ap (λ (r : List ℕ). a ++ r) k.1 ∙ sym (append_assoc a b k.0))

pub begins_with : (x y : Option (List ℕ)) (a : List ℕ) → Consumes x y a → Begins x a
begins_with None y a h = tt
begins_with (Some xs) None a h = absurd h
begins_with (Some xs) (Some ys) a h = (ys, h)

pub told_nothing : (end : End) (out : Option (List ℕ)) → IsTold end out out []
told_nothing Left out = tells_nothing out
told_nothing Malformed out = tells_nothing out
told_nothing Input out = tells_nothing out
told_nothing Output out = tt

pub told_after : (end : End) (x y z : Option (List ℕ)) (a b : List ℕ) → Appends x y a → IsTold end y z b → IsTold end x z (a ++ b)
told_after Left x y z a b h k = tells_more x y z a b h k
told_after Malformed x y z a b h k = tells_more x y z a b h k
told_after Input x y z a b h k = tells_more x y z a b h k
told_after Output x y z a b h k = tt

pub said_append : {X : Type 0} (f : X → List ℕ) (xs ys : List X) → said f (xs ++ ys) ≡ said f xs ++ said f ys
said_append f [] ys = refl
said_append f (x ∷ xs) ys = ap (λ (l : List ℕ). f x ++ l) (said_append f xs ys) ∙ sym (append_assoc (f x) (said f xs) (said f ys))

run_append : (F : Faulting) (d : Dialect) (a b c : Content) (xs ys : List Exchange) → Run F d a xs b → Run F d b ys c → Run F d a (xs ++ ys) c
run_append F d a b c [] ys h k = subst (λ (s : Content). Run F d s ys c) h k
run_append F d a b c (x ∷ xs) ys h k = (h.0, h.1, run_append F d h.0 b c xs ys h.2 k)

-- the session ends before a request is served
pub ends_at_once : (F : Faulting) (d : Dialect) (c : Content) (input out : Option (List ℕ)) (end : End) → TakesLast input end → Ends F d c input out end c out
ends_at_once F d c input out end h = record {
  exchanges = [];
  last = h.last;
  run = refl;
  asked = h.asked;
  told = told_nothing end out;
  is_last = h.is_last;
}

pub ends_unserved : (F : Faulting) (d : Dialect) (c new : Content) (input out : Option (List ℕ)) (end : End) → end ≡ Input → new ≡ c → Ends F d c input out end new out
ends_unserved F d c new input out end e same =
    subst (λ (s : Content). Ends F d c input out end s out) (sym same) (ends_at_once F d c input out end (record { last = []; asked = begins_nothing input; is_last = subst (λ (x : End). IsLast x []) (sym e) refl }))

-- one exchange: a request that isn't for what is known of bytes was carried out
exchange_of : (F : Faulting) (d : Dialect) (old new : Content) (input mid rest : Option (List ℕ)) (r : Request) (o : Outcome) → asks_status d r ≡ false → (t : TakesRequest input mid r) (s : IsServed F r old mid rest o new)
    → (x : Exchange) × IsExchange F d old x new × Consumes input rest (asked_by x) × (told_in d x ≡ reply_in d r o)
exchange_of F d old new input mid rest r o other t s = (
  record { header = t.header; request = r; payload = s.payload; outcome = o },
  record {
    is_request = t.is_request;
    goes_on = t.goes_on;
    long = s.long;
    serves = subst (λ (b : Bool). MatchBool b (TellsStatus old r o × (new ≡ old)) (Serves F r s.payload old o new)) (sym other) s.serves;
  },
  takes_more input mid rest t.header s.payload t.taken s.taken,
  refl,
)

pub exchanged : (F : Faulting) (d : Dialect) (old new : Content) (input mid rest out after : Option (List ℕ)) (r : Request) (o : Outcome) → asks_status d r ≡ false → TakesRequest input mid r → IsServed F r old mid rest o new
    → Appends out after (reply_in d r o) → IsExchanged F d old input out new rest after
exchanged F d old new input mid rest out after r o other t s told =
    let x = exchange_of F d old new input mid rest r o other t s in
    record { exchange = x.0; is = x.1; taken = x.2; told = subst (Appends out after) (sym x.3) told }

-- served, but its reply could not be written
pub ends_untold : (F : Faulting) (d : Dialect) (old new : Content) (input mid rest out after : Option (List ℕ)) (r : Request) (o : Outcome) (end : End) → end ≡ Output → asks_status d r ≡ false → TakesRequest input mid r
    → IsServed F r old mid rest o new → Ends F d old input out end new after
ends_untold F d old new input mid rest out after r o end e other t s =
    let x = exchange_of F d old new input mid rest r o other t s in
    record {
      exchanges = x.0 ∷ [];
      last = [];
      run = (new, x.1, refl);
      asked = subst (Begins input) (sym (append-nil _ ∙ append-nil _)) (begins_with input rest (asked_by x.0) x.2);
      told = subst (λ (y : End). IsTold y out after (said (told_in d) (x.0 ∷ []))) (sym e) tt;
      is_last = subst (λ (y : End). IsLast y []) (sym e) refl;
    }

-- what is known of bytes was told

is_for_status : (d : Dialect) (r : Request) → asks_status d r ≡ true → (r.kind ≡ 7) × ((o : Outcome) → chunk_of r o ≡ reply_in d r o)
is_for_status Plain r h = absurd (cc (h))
is_for_status Simple r h = absurd (cc (h))
is_for_status (Structured allocation) r h =
    let kind : r.kind ≡ 7 = grind (arith, nat_tests, h) in
    (kind, λ o. rw kind refl)

pub kind_of_status : (d : Dialect) (r : Request) → asks_status d r ≡ true → r.kind ≡ 7
kind_of_status d r h = (is_for_status d r h).0

pub exchanged_status : (F : Faulting) (d : Dialect) (c : Content) (input mid out after : Option (List ℕ)) (r : Request) → asks_status d r ≡ true → TakesRequest input mid r
    → IsStatusTold c r out after → IsExchanged F d c input out c mid after
exchanged_status F d c input mid out after r asks t s = record {
  exchange = record { header = t.header; request = r; payload = []; outcome = s.outcome };
  is = record {
    is_request = t.is_request;
    goes_on = t.goes_on;
    long = rw (is_for_status d r asks).0 refl;
    serves = subst (λ (b : Bool). MatchBool b (TellsStatus c r s.outcome × (c ≡ c)) (Serves F r [] c s.outcome c)) (sym asks) (s.tells, refl);
  };
  taken = subst (Consumes input mid) (sym (append-nil t.header)) t.taken;
  told = subst (Appends out after) ((is_for_status d r asks).1 s.outcome) s.told;
}

pub ends_unwritten : (F : Faulting) (d : Dialect) (c : Content) (input out after : Option (List ℕ)) (end : End) → end ≡ Output → Ends F d c input out end c after
ends_unwritten F d c input out after end e = record {
  exchanges = [];
  last = [];
  run = refl;
  asked = begins_nothing input;
  told = subst (λ (y : End). IsTold y out after []) (sym e) tt;
  is_last = subst (λ (y : End). IsLast y []) (sym e) refl;
}

pub status_exchanged : {X Y : Type 0} (done : Result X Y) (F : Faulting) (d : Dialect) (c : Content) (input mid out after : Option (List ℕ)) (r : Request) → asks_status d r ≡ true → TakesRequest input mid r
    → OnOk done (IsStatusTold c r out after) → OnOk done (IsExchanged F d c input out c mid after)
status_exchanged (Ok _) F d c input mid out after r asks t s = exchanged_status F d c input mid out after r asks t s
status_exchanged (Err _) F d c input mid out after r asks t s = tt

pub status_ended : {X : Type 0} (done : Result X End) (F : Faulting) (d : Dialect) (c : Content) (input out after : Option (List ℕ)) → IfErr done (λ end. end ≡ Output)
    → IfErr done (λ end. Ends F d c input out end c after)
status_ended (Ok _) F d c input out after h = tt
status_ended (Err end) F d c input out after h = ends_unwritten F d c input out after end h

pub served_more : (F : Faulting) (d : Dialect) (a b c : Content) (i j k x y z : Option (List ℕ)) → Served F d a i x b j y → IsExchanged F d b j y c k z → Served F d a i x c k z
served_more F d a b c i j k x y z s e = record {
  exchanges = s.exchanges ++ (e.exchange ∷ []);
  run = run_append F d a b c s.exchanges (e.exchange ∷ []) s.run (c, e.is, refl);
  taken = subst (Consumes i k) (sym (one_more asked_by s.exchanges e.exchange)) (takes_more i j k (said asked_by s.exchanges) (asked_by e.exchange) s.taken e.taken);
  told = subst (Appends x z) (sym (one_more (told_in d) s.exchanges e.exchange)) (tells_more x y z (said (told_in d) s.exchanges) (told_in d e.exchange) s.told e.told);
}
  where
    one_more : (f : Exchange → List ℕ) (xs : List Exchange) (x : Exchange) → said f (xs ++ (x ∷ [])) ≡ said f xs ++ f x
    one_more f xs x = said_append f xs (x ∷ []) ∙ ap (λ (l : List ℕ). said f xs ++ l) (append-nil (f x))

pub ends_after : (F : Faulting) (d : Dialect) (a b c : Content) (i j x y z : Option (List ℕ)) (end : End) → Served F d a i x b j y → Ends F d b j y end c z → Ends F d a i x end c z
ends_after F d a b c i j x y z end s e = record {
  exchanges = s.exchanges ++ e.exchanges;
  last = e.last;
  run = run_append F d a b c s.exchanges e.exchanges s.run e.run;
  asked =
      subst (Begins i) (sym (ap (λ (l : List ℕ). l ++ e.last) (said_append asked_by s.exchanges e.exchanges) ∙ append_assoc (said asked_by s.exchanges) (said asked_by e.exchanges) e.last))
      (begins_after i j (said asked_by s.exchanges) (said asked_by e.exchanges ++ e.last) s.taken e.asked);
  told = subst (IsTold end x z) (sym (said_append (told_in d) s.exchanges e.exchanges)) (told_after end x y z (said (told_in d) s.exchanges) (said (told_in d) e.exchanges) s.told e.told);
  is_last = e.is_last;
}
