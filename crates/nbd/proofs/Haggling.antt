-- The options, one after another.
use Rattle.std.proofs.Common.{◌≡◌, inl, inr, ℕ, Bool, List, [], ◌∷◌, ◌++◌, length, append-nil, append_assoc, Option, Result, Ok, Err, refl, sym, subst, ◌∙◌, ap}
use Rattle.std.specs.Prelude.{IfErr, IfOk}
use Rattle.std.specs.Io.KnownBytes.{Consumes, Appends}
use Rattle.nbd.specs.declared.End.{End}
use Rattle.nbd.specs.declared.arrays.Sizes.{Sizes}
use Rattle.nbd.specs.declared.End.TheVariants.{Input, Output}
use Rattle.nbd.specs.declared.options.Wish.{Wish}
use Rattle.nbd.specs.declared.options.Next.{Next}
use Rattle.nbd.specs.declared.options.Next.TheVariants.{Options, Requests, Ended}
use Rattle.nbd.specs.Content.{Content, sizes_of}
use Rattle.nbd.specs.Options.{Asked, IsAsked, IsOptionHeader, greeting, next_of, option_bytes, replies_to, wish_in, wish_of}
use Rattle.nbd.specs.inside.Options.{TakesOption, TakesOptionHeader}
use Rattle.nbd.specs.Carrying.{Faulting}
use Rattle.nbd.specs.Session.{Begins, IsTold, asked_by, said, told_in}
use Rattle.nbd.specs.inside.Session.{Ends}
use Rattle.nbd.specs.declared.dialects.Dialect.{Dialect}
use Rattle.nbd.specs.declared.dialects.Dialect.TheVariants.{Plain, Simple}
use Rattle.nbd.specs.Dialects.{heard, next_dialect}
use Rattle.nbd.specs.Handshake.{EndsGreeting, EndsUnasked, IsLastEarly, IsLastOption, IsSession, Leads, Opens, answer_in, answers_in, answers_to, dialect_after, dialect_behind}
use Rattle.nbd.specs.inside.Handshake.{AsksOnce, EndsHaggling, EndsOptionsIn, EndsUnaskedIn, Greets, Haggles, OpensIn, TakesLastOption}
use Rattle.nbd.proofs.Streaming.{takes_more, takes_nothing, tells_more, tells_nothing}
use Rattle.nbd.proofs.Serving.{begins_after, begins_nothing, begins_with, said_append, told_after, told_nothing}

pub asked : (input mid rest : Option (List ℕ)) (code count : ℕ) (wish : Wish) (bytes : List ℕ) → TakesOptionHeader input mid code count → Consumes mid rest bytes
    → length bytes ≡ count → wish ≡ wish_in code bytes → TakesOption input rest code wish
asked input mid rest code count wish bytes t taken long is = record {
  content = bytes;
  header = t.header;
  is_header = subst (IsOptionHeader t.header code) (sym long) t.is_header;
  wish_is = is;
  taken = takes_more input mid rest t.header bytes t.taken taken;
}

pub asks_once : (sizes : Sizes) (no_zeroes : Bool) (dialect spoken : Dialect) (input out rest after : Option (List ℕ)) (code : ℕ) (wish done : Wish) (next : Next) → TakesOption input rest code wish
    → done ≡ heard dialect wish → Appends out after (replies_to sizes no_zeroes code done) → next ≡ next_of wish → spoken ≡ next_dialect dialect code wish
    → AsksOnce sizes no_zeroes dialect input out rest after spoken next
asks_once sizes no_zeroes dialect spoken input out rest after code wish done next t hears told is speaks = record {
  option = record { header = t.header; code = code; content = t.content };
  is = record { is_header = t.is_header };
  next_is = is ∙ ap next_of t.wish_is;
  spoken_is = speaks ∙ ap (next_dialect dialect code) t.wish_is;
  taken = t.taken;
  told = subst (λ (w : Wish). Appends out after (replies_to sizes no_zeroes code w)) (hears ∙ ap (heard dialect) t.wish_is) told;
}

leads_more : (xs : List Asked) (a : Asked) (next : Next) → Leads xs Options → IsAsked a → next ≡ next_of (wish_of a) → Leads (xs ++ (a ∷ [])) next
leads_more [] a next h is e = (is, e)
leads_more (x ∷ []) a next h is e = (h.0, h.1, (is, e))
leads_more (x ∷ y ∷ xs) a next h is e = (h.0, h.1, leads_more (y ∷ xs) a next h.2 is e)

one_more : {X : Type 0} (f : X → List ℕ) (xs : List X) (x : X) → said f (xs ++ (x ∷ [])) ≡ said f xs ++ f x
one_more f xs x = said_append f xs (x ∷ []) ∙ ap (λ (l : List ℕ). said f xs ++ l) (append-nil (f x))

-- one more option, in the dialect behind the others
answers_more : (dialect : Dialect) (sizes : Sizes) (no_zeroes : Bool) (xs : List Asked) (a : Asked)
    → answers_in dialect sizes no_zeroes (xs ++ (a ∷ [])) ≡ answers_in dialect sizes no_zeroes xs ++ answer_in (dialect_after dialect xs) sizes no_zeroes a
answers_more dialect sizes no_zeroes [] a = append-nil (answer_in dialect sizes no_zeroes a)
answers_more dialect sizes no_zeroes (x ∷ xs) a =
    ap (λ (l : List ℕ). answer_in dialect sizes no_zeroes x ++ l) (answers_more (dialect_behind dialect x) sizes no_zeroes xs a)
    ∙ sym (append_assoc (answer_in dialect sizes no_zeroes x) (answers_in (dialect_behind dialect x) sizes no_zeroes xs) (answer_in (dialect_after dialect (x ∷ xs)) sizes no_zeroes a))

spoken_more : (dialect : Dialect) (xs : List Asked) (a : Asked) → dialect_after dialect (xs ++ (a ∷ [])) ≡ dialect_behind (dialect_after dialect xs) a
spoken_more dialect [] a = refl
spoken_more dialect (x ∷ xs) a = spoken_more (dialect_behind dialect x) xs a

pub haggles_more : (sizes : Sizes) (no_zeroes : Bool) (d e f : Dialect) (i x j y k z : Option (List ℕ)) (next : Next) → Haggles sizes no_zeroes d i x j y e Options
    → AsksOnce sizes no_zeroes e j y k z f next → Haggles sizes no_zeroes d i x k z f next
haggles_more sizes no_zeroes d e f i x j y k z next h a = record {
  options = h.options ++ (a.option ∷ []);
  leads = leads_more h.options a.option next h.leads a.is a.next_is;
  spoken_is = a.spoken_is ∙ ap (λ (s : Dialect). dialect_behind s a.option) h.spoken_is ∙ sym (spoken_more d h.options a.option);
  taken =
      subst (Consumes i k) (sym (one_more option_bytes h.options a.option)) (takes_more i j k (said option_bytes h.options) (option_bytes a.option) h.taken a.taken);
  told =
      subst (Appends x z) (sym (answers_more d sizes no_zeroes h.options a.option))
      (tells_more x y z (answers_in d sizes no_zeroes h.options) (answer_in (dialect_after d h.options) sizes no_zeroes a.option) h.told
      (subst (λ (s : Dialect). Appends y z (answer_in s sizes no_zeroes a.option)) h.spoken_is a.told));
}

pub haggles_none : (sizes : Sizes) (no_zeroes : Bool) (d : Dialect) (i x : Option (List ℕ)) → Haggles sizes no_zeroes d i x i x d Options
haggles_none sizes no_zeroes d i x = record { options = []; leads = refl; spoken_is = refl; taken = takes_nothing i; told = tells_nothing x }

-- what was told stays told
told_so_far : (end : End) (x y : Option (List ℕ)) (a : List ℕ) → Appends x y a → IsTold end x y a
told_so_far end x y a h = subst (IsTold end x y) (append-nil a) (told_after end x y y a [] h (told_nothing end y))

pub ends_by_option : (sizes : Sizes) (no_zeroes : Bool) (d e : Dialect) (i x j y : Option (List ℕ)) (end : End) → Haggles sizes no_zeroes d i x j y e (Ended end)
    → EndsHaggling sizes no_zeroes d i x end y
ends_by_option sizes no_zeroes d e i x j y end h = record {
  options = h.options;
  next = Ended end;
  last = [];
  why = inl (refl, refl);
  leads = h.leads;
  asked = subst (Begins i) (sym (append-nil (said option_bytes h.options))) (begins_with i j (said option_bytes h.options) h.taken);
  told = told_so_far end x y (answers_in d sizes no_zeroes h.options) h.told;
}

pub ends_among_options : (sizes : Sizes) (no_zeroes : Bool) (d e : Dialect) (i x j y z : Option (List ℕ)) (end : End) → Haggles sizes no_zeroes d i x j y e Options → TakesLastOption j end
    → IsTold end y z [] → EndsHaggling sizes no_zeroes d i x end z
ends_among_options sizes no_zeroes d e i x j y z end h l told = record {
  options = h.options;
  next = Options;
  last = l.last;
  why = inr (refl, l.is_last);
  leads = h.leads;
  asked = begins_after i j (said option_bytes h.options) l.last h.taken l.asked;
  told = subst (IsTold end x z) (append-nil _) (told_after end x y z (answers_in d sizes no_zeroes h.options) [] h.told told);
}

-- where none came, or writing failed
pub cut_short : (i : Option (List ℕ)) (end : End) → end ≡ Input → TakesLastOption i end
cut_short i end e = record { last = []; asked = begins_nothing i; is_last = subst (λ (x : End). IsLastOption x []) (sym e) refl }

pub untold : (i : Option (List ℕ)) (end : End) → end ≡ Output → TakesLastOption i end
untold i end e = record { last = []; asked = begins_nothing i; is_last = subst (λ (x : End). IsLastOption x []) (sym e) refl }

pub greeting_cut : (i x z : Option (List ℕ)) (end : End) → end ≡ Input → Appends x z greeting → EndsGreeting i x end z
greeting_cut i x z end e told = record {
  last = [];
  is_last = subst (λ (y : End). IsLastEarly y []) (sym e) refl;
  asked = begins_nothing i;
  told = told_so_far end x z greeting told;
}

-- WHOLE SESSIONS

-- of an array's own sizes
pub at_sizes : (P : Sizes → Type 0) (old : Content) (sizes : Sizes) → sizes.block ≡ old.block → sizes.bytes ≡ length old.bytes → sizes.read_only ≡ old.read_only → P sizes
    → P (sizes_of old)
at_sizes P old sizes eb es er h =
    subst (λ (told : Bool). P (record { block = old.block; bytes = length old.bytes; read_only = told })) er
    (subst (λ (size : ℕ). P (record { block = old.block; bytes = size; read_only = sizes.read_only })) es
    (subst (λ (block : ℕ). P (record { block = block; bytes = sizes.bytes; read_only = sizes.read_only })) eb h))

-- what begins a session, and what ends it before its requests

pub opens : (sizes : Sizes) (no_zeroes : Bool) (d spoken : Dialect) (i x j y k z : Option (List ℕ)) → Greets i x j y no_zeroes → Haggles sizes no_zeroes d j y k z spoken Requests
    → OpensIn sizes d i x k z spoken
opens sizes no_zeroes d spoken i x j y k z g h = record {
  flags = g.flags;
  no_zeroes = no_zeroes;
  are_flags = g.are_flags;
  options = h.options;
  leads = h.leads;
  spoken_is = h.spoken_is;
  taken = takes_more i j k g.flags (said option_bytes h.options) g.taken h.taken;
  told = tells_more x y z greeting (answers_in d sizes no_zeroes h.options) g.told h.told;
}

pub ends_unasked : (sizes : Sizes) (no_zeroes : Bool) (d : Dialect) (i x j y z : Option (List ℕ)) (end : End) → Greets i x j y no_zeroes → EndsHaggling sizes no_zeroes d j y end z
    → EndsUnaskedIn sizes d i x end z
ends_unasked sizes no_zeroes d i x j y z end g h = inr (record {
  flags = g.flags;
  no_zeroes = no_zeroes;
  are_flags = g.are_flags;
  options = h.options;
  next = h.next;
  leads = h.leads;
  last = h.last;
  why = h.why;
  asked = begins_after i j g.flags (said option_bytes h.options ++ h.last) g.taken h.asked;
  told = told_after end x y z greeting (answers_in d sizes no_zeroes h.options) g.told h.told;
})

pub opens_by : {E : Type 0} (r : Result Dialect E) (sizes : Sizes) (no_zeroes : Bool) (d : Dialect) (i x j y k z : Option (List ℕ)) → Greets i x j y no_zeroes
    → IfOk r (λ spoken. Haggles sizes no_zeroes d j y k z spoken Requests) → IfOk r (OpensIn sizes d i x k z)
opens_by (Ok spoken) sizes no_zeroes d i x j y k z g h = opens sizes no_zeroes d spoken i x j y k z g h
opens_by (Err _) sizes no_zeroes d i x j y k z g h = tt

pub ends_by : {T : Type 0} (r : Result T End) (sizes : Sizes) (no_zeroes : Bool) (d : Dialect) (i x j y z : Option (List ℕ)) → Greets i x j y no_zeroes
    → IfErr r (λ end. EndsHaggling sizes no_zeroes d j y end z) → IfErr r (λ end. EndsUnaskedIn sizes d i x end z)
ends_by (Ok _) sizes no_zeroes d i x j y z g h = tt
ends_by (Err end) sizes no_zeroes d i x j y z g h = ends_unasked sizes no_zeroes d i x j y z end g h

-- where no other replies are offered, each option is answered alike
plain_answers : (sizes : Sizes) (no_zeroes : Bool) (options : List Asked) → answers_in Plain sizes no_zeroes options ≡ said (answers_to sizes no_zeroes) options
plain_answers sizes no_zeroes [] = refl
plain_answers sizes no_zeroes (a ∷ as') = ap (λ (l : List ℕ). answers_to sizes no_zeroes a ++ l) (plain_answers sizes no_zeroes as')

pub opens_plainly : (sizes : Sizes) (spoken : Dialect) (i x k z : Option (List ℕ)) → OpensIn sizes Plain i x k z spoken → Opens sizes i x k z
opens_plainly sizes spoken i x k z o = record {
  flags = o.flags;
  no_zeroes = o.no_zeroes;
  are_flags = o.are_flags;
  options = o.options;
  leads = o.leads;
  taken = o.taken;
  told = subst (λ (l : List ℕ). Appends x z (greeting ++ l)) (plain_answers sizes o.no_zeroes o.options) o.told;
}

pub ends_plainly : (sizes : Sizes) (i x : Option (List ℕ)) (end : End) (z : Option (List ℕ)) → EndsUnaskedIn sizes Plain i x end z → EndsUnasked sizes i x end z
ends_plainly sizes i x end z (inl g) = inl g
ends_plainly sizes i x end z (inr h) = inr (record {
  flags = h.flags;
  no_zeroes = h.no_zeroes;
  are_flags = h.are_flags;
  options = h.options;
  next = h.next;
  leads = h.leads;
  last = h.last;
  why = h.why;
  asked = h.asked;
  told = subst (λ (l : List ℕ). IsTold end x z (greeting ++ l)) (plain_answers sizes h.no_zeroes h.options) h.told;
})

-- the bytes of a session's requests come behind those that opened it
pub asked_behind : (sizes : Sizes) (i x k z : Option (List ℕ)) (o : Opens sizes i x k z) (rest : List ℕ) → Begins k rest → Begins i (o.flags ++ (said option_bytes o.options ++ rest))
asked_behind sizes i x k z o rest h =
    subst (Begins i) (append_assoc o.flags (said option_bytes o.options) rest) (begins_after i k (o.flags ++ said option_bytes o.options) rest o.taken h)

pub told_behind : (sizes : Sizes) (i x k z w : Option (List ℕ)) (o : Opens sizes i x k z) (end : End) (rest : List ℕ) → IsTold end z w rest
    → IsTold end x w (greeting ++ (said (answers_to sizes o.no_zeroes) o.options ++ rest))
told_behind sizes i x k z w o end rest h =
    let ans = said (answers_to sizes o.no_zeroes) o.options in
    subst (IsTold end x w) (append_assoc greeting ans rest) (told_after end x z w (greeting ++ ans) rest o.told h)

-- the replies to options alone
pub told_options : (end : End) (x z : Option (List ℕ)) (ans : List ℕ) → IsTold end x z (greeting ++ ans) → IsTold end x z (greeting ++ (ans ++ []))
told_options end x z ans h = subst (λ (l : List ℕ). IsTold end x z (greeting ++ l)) (sym (append-nil ans)) h

pub ended_unasked : (F : Faulting) (old : Content) (sizes : Sizes) (i x z : Option (List ℕ)) (end : End) → sizes.block ≡ old.block → sizes.bytes ≡ length old.bytes
    → sizes.read_only ≡ old.read_only → EndsUnaskedIn sizes Simple i x end z → IsSession F old i x end old z
ended_unasked F old sizes i x z end eb es er (inl g) = inl (record { same = refl; ended = g })
ended_unasked F old sizes i x z end eb es er (inr h') =
    let h : EndsOptionsIn (sizes_of old) Simple i x end z = at_sizes (λ (s : Sizes). EndsOptionsIn s Simple i x end z) old sizes eb es er h' in
    inr (record {
      flags = h.flags;
      no_zeroes = h.no_zeroes;
      are_flags = h.are_flags;
      options = h.options;
      next = h.next;
      leads = h.leads;
      exchanges = [];
      last = h.last;
      in_turn = inr (refl, h.why);
      asked = h.asked;
      told = told_options end x z (answers_in Simple (sizes_of old) h.no_zeroes h.options) h.told;
      run = refl;
    })

pub whole_session : (F : Faulting) (old new : Content) (sizes : Sizes) (spoken : Dialect) (i x k z w : Option (List ℕ)) (end : End) → sizes.block ≡ old.block → sizes.bytes ≡ length old.bytes
    → sizes.read_only ≡ old.read_only → OpensIn sizes Simple i x k z spoken → Ends F spoken old k z end new w → IsSession F old i x end new w
whole_session F old new sizes spoken i x k z w end eb es er o' e' =
    let o : OpensIn (sizes_of old) Simple i x k z spoken = at_sizes (λ (s : Sizes). OpensIn s Simple i x k z spoken) old sizes eb es er o' in
    let e : Ends F (dialect_after Simple o.options) old k z end new w = subst (λ (d : Dialect). Ends F d old k z end new w) o.spoken_is e' in
    inr (record {
      flags = o.flags;
      no_zeroes = o.no_zeroes;
      are_flags = o.are_flags;
      options = o.options;
      next = Requests;
      leads = o.leads;
      exchanges = e.exchanges;
      last = e.last;
      in_turn = inl (refl, e.is_last);
      asked =
          subst (Begins i) (append_assoc o.flags (said option_bytes o.options) (said asked_by e.exchanges ++ e.last))
          (begins_after i k (o.flags ++ said option_bytes o.options) (said asked_by e.exchanges ++ e.last) o.taken e.asked);
      told =
          let ans = answers_in Simple (sizes_of old) o.no_zeroes o.options in
          let replies = said (told_in (dialect_after Simple o.options)) e.exchanges in
          subst (IsTold end x w) (append_assoc greeting ans replies) (told_after end x z w (greeting ++ ans) replies o.told e.told);
      run = e.run;
    })
