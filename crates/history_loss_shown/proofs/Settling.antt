-- A read is given its value where that stands in the sector.
use Rattle.std.proofs.Common.{◌≡◌, ◌⊎◌, inl, inr, ℕ, ◌==◌, Bool, true, false, List, [], ◌∷◌, ◌++◌, Option, Some, refl, sym, ◌∙◌, ap, subst, eq-eqb}
use Rattle.std.specs.Prelude.{All, Contains}
use Rattle.std.specs.List.{list_any}
use Rattle.std.proofs.lemmas.Bool.{eqb-true}
use Rattle.std.proofs.lemmas.List.Elements.{All-tail, All-cons, All-contains}
use Rattle.ntstatus.specs.declared.NtStatus.{NtStatus}
use Rattle.srb.specs.declared.Kind.TheVariants.{Read, Write}
use Rattle.machine.specs.declared.ClientRequest.{ClientRequest}
use Rattle.machine.specs.declared.Label.TheVariants.{Call}
use Rattle.machine.specs.Rules.{Rules}
use Rattle.machine_laws.specs.Sectors.{part_of}
use Rattle.history_laws.specs.declared.Asked.{Asked}
use Rattle.loss.specs.Held.{Held, HeldOf, IsOneOf, changed_by}
use Rattle.loss.specs.Sessions.{Line, Told}
use Rattle.history_loss.specs.Schedules.{Event, Seen, Effect, Fails, Carries, IsNoAnswer, IsNoEffect, TakesEffect, TookEffect, next_number, one_place}
use Rattle.history_loss.proofs.Mirroring.{IsBelow, further, newest}
use Rattle.history_loss.proofs.Places.{read_act}
use Rattle.register_loss.specs.declared.What.{What}
use Rattle.register_loss.specs.declared.What.TheVariants.{Read as Reads, Write as Writes, Flush as Flushes, Sync}
use Rattle.register_loss.specs.declared.Open.{Open}
use Rattle.register_loss.specs.Schedules.{is_flush, is_given, is_unmet, is_value, unmet}
use Rattle.register_loss_search.proofs.Listing.{any_from}
use Rattle.history_loss_sights.specs.Sights.{place_of, success_of}
use Rattle.history_loss_sights.proofs.Standing.{Called, behind, in_filter, not_of, of_filter, of_map, one_either, one_left, one_right}
use Rattle.history_loss_shown.proofs.Fitting.{Known, known_more}
use Rattle.history_loss_shown.proofs.Owning.{GoesOn, goes_effect}
use Rattle.history_loss_shown.proofs.Standing.{HasFlush, HasMove, IsKnown, IsNoFault, IsRead, Stands, sound_at, took_more}
use Rattle.history_loss_shown.proofs.Standing as standing

pub same_bytes : (n m : ℕ) (lines : List Line) (a b : List ℕ) → n ≡ m → success_of n lines ≡ Some a → success_of m lines ≡ Some b → a ≡ b
same_bytes n m lines a b same x y = let e : Some a ≡ Some b = sym x ∙ ap (λ k. success_of k lines) same ∙ y in cc (e)

read_no_write : Read ≡ Write → ⊥
read_no_write e = cc (e)

module _ (code : List ℕ → ℕ) (rules : Rules) (i : ℕ) (h : Held) (lines : List Line) (asked : List (Option Asked)) (owed : Option NtStatus) (next : ℕ) (held : HeldOf ℕ) (ops : List Open) where
  abbrev StandsAt : List Event → Type 0
  StandsAt past = Stands code rules i past h lines next held ops

  -- ONE READ

  module _ (past : List Event) (t : StandsAt past) (known : Known past asked owed) (n v : ℕ) (k : IsRead code rules i past lines n v) (given : IsOneOf v held.now) where
    found : (s : List ℕ) × IsOneOf s h.now × (v ≡ code s)
    found = of_map code v h.now (t.holds.now v given)

    abbrev event : Event
    event = Effect n found.0

    is_found : part_of rules k.bytes (place_of rules i k.request) ≡ found.0
    is_found = k.only found.0 found.2

    read_takes : All (IsNoEffect n) past → TakesEffect rules i past h n found.0 h
    read_takes none = record {
      request = k.request;
      place = place_of rules i k.request;
      is_open = record { called = k.called; awaits = k.awaits };
      there = k.at;
      idle = record { effect = λ at. none; failure = sound_at n (place_of rules i k.request) past k.sound };
      carries = subst (λ kind. Carries rules h k.request (place_of rules i k.request) kind found.0) (sym k.kind) found.1;
      after = sym (ap (λ cs. changed_by (next_number past) cs h) (read_act rules i k.request (one_place (place_of rules i k.request)) n k.kind));
    }

    read_took : TookEffect rules (event ∷ past) n k.request (place_of rules i k.request) k.bytes
    read_took = record { sector = found.0; before = newest event past; hands_over = λ kind. is_found }

    read_known : Known (event ∷ past) asked owed
    read_known =
        known_more past asked owed event (All-contains (IsBelow _) past (Seen (Told (Call n k.request))) known.given k.called) (λ m. tt) (λ m q e. absurd (cc (e))) refl known

    its_own : (m : ℕ) (q : ClientRequest) → n ≡ m → Called past m q → q ≡ k.request
    its_own m q same called = known.one n q k.request (subst (λ j. Called past j q) (sym same) called) k.called

    known_still : (m : ℕ) (failed : Bool) (what : What) → IsKnown code rules i past lines m failed what → IsKnown code rules i (event ∷ past) lines m failed what
    known_still m failed Flushes x = standing.known_more code rules i event past lines m failed Flushes tt (λ e. absurd (cc (e))) x
    known_still m failed Sync x = standing.known_more code rules i event past lines m failed Sync tt (λ e. absurd (cc (e))) x
    known_still m failed (Writes w through) x =
        standing.known_more code rules i event past lines m failed (Writes w through) tt
        (λ e. (λ same. read_no_write (sym k.kind ∙ ap (λ q. q.kind) (sym (its_own m x.request same x.called)) ∙ x.kind), tt)) x
    known_still m failed (Reads w) x = record {
      request = x.request;
      called = further event past (Seen (Told (Call m x.request))) x.called;
      awaits = All-cons (IsNoAnswer m) event past tt x.awaits;
      kind = x.kind;
      at = x.at;
      bytes = x.bytes;
      success = x.success;
      only = x.only;
      sound = All-cons (IsNoFault m) event past tt x.sound;
      free = by (n == m) refl;
    }
      where
        by : (b : Bool) → (n == m) ≡ b → All (IsNoEffect m) (event ∷ past) ⊎ TookEffect rules (event ∷ past) m x.request (place_of rules i x.request) x.bytes
        by true e =
            let same : n ≡ m = eqb-true n m e in
            inr (record {
              sector = found.0;
              before = subst (λ j. Contains (event ∷ past) (Effect j found.0)) same (newest event past);
              hands_over = λ kind. ap (λ q. part_of rules x.bytes (place_of rules i q)) (its_own m x.request same x.called)
                  ∙ ap (λ bs. part_of rules bs (place_of rules i k.request)) (same_bytes m n lines x.bytes k.bytes (sym same) x.success k.success) ∙ is_found;
            })
        by false e = elim x.free [
          | inl none ↦ inl (All-cons (IsNoEffect m) event past (λ same. let yes : (n == m) ≡ true = eq-eqb n m same in absurd (cc (yes, e))) none)
          | inr took ↦ inr (took_more code rules i event past m x.request (place_of rules i x.request) x.bytes took)
        ]

    read_stands : StandsAt (event ∷ past)
    read_stands = record {
      counts = t.counts;
      holds = t.holds;
      dated = t.dated;
      known = λ o has. known_still o.number o.failed o.what (t.known o has);
      moves = λ m q bytes called at awaits success.
          elim (t.moves m q bytes (behind event past (Seen (Told (Call m q))) (λ e. cc (e)) called) at (All-tail (IsNoAnswer m) event past awaits) success) [
            | inl took ↦ inl (took_more code rules i event past m q (place_of rules i q) bytes took)
            | inr has ↦ inr has
          ];
      flushes = λ m q bytes called kind awaits success. t.flushes m q bytes (behind event past (Seen (Told (Call m q))) (λ e. cc (e)) called) kind (All-tail (IsNoAnswer m) event past awaits) success;
      failures = λ m place there awaits. t.failures m place (behind event past (Fails m place) (λ e. cc (e)) there) (All-tail (IsNoAnswer m) event past awaits);
    }

  -- ALL THAT ARE GIVEN

  -- a read that had its effect
  pub record IsMet (past : List Event) (o : Open) : Type 0 where
    pub value : ℕ
    pub what : o.what ≡ Reads value
    pub request : ClientRequest
    pub called : Called past o.number request
    pub bytes : List ℕ
    pub success : success_of o.number lines ≡ Some bytes
    pub sound : All (IsNoFault o.number) past
    pub took : TookEffect rules past o.number request (place_of rules i request) bytes

  met_more : (m : ℕ) (s : List ℕ) (past : List Event) (o : Open) → IsMet past o → IsMet (Effect m s ∷ past) o
  met_more m s past o x = record {
    value = x.value;
    what = x.what;
    request = x.request;
    called = further (Effect m s) past (Seen (Told (Call o.number x.request))) x.called;
    bytes = x.bytes;
    success = x.success;
    sound = All-cons (IsNoFault o.number) (Effect m s) past tt x.sound;
    took = took_more code rules i (Effect m s) past o.number x.request (place_of rules i x.request) x.bytes x.took;
  }

  abbrev AreMet : List Event → List Open → Type 0
  AreMet past todo = (o : Open) → IsOneOf o todo → is_given held.now o.what ≡ true → IsMet past o

  abbrev On : List Open → Type 0
  On todo = (past : List Event) → StandsAt past → Known past asked owed → AreMet past todo → GoesOn rules i past h lines

  value_in : (v : ℕ) → list_any (is_value v) held.now ≡ true → IsOneOf v held.now
  value_in v e =
      let found : (u : ℕ) × IsOneOf u held.now × (is_value v u ≡ true) = any_from (is_value v) held.now e in
      subst (λ u. IsOneOf u held.now) (eqb-true found.0 v found.2) found.1

  module _ (o : Open) (todo : List Open) (on : On (o ∷ todo)) (has : IsOneOf o ops) (past : List Event) (t : StandsAt past) (known : Known past asked owed) (met : AreMet past todo) where
    not_given : is_given held.now o.what ≡ false → GoesOn rules i past h lines
    not_given e = on past t known (λ p there given. elim there [
      | inl same ↦ let no : is_given held.now p.what ≡ false = subst (λ (x : Open). is_given held.now x.what ≡ false) (sym same) e in absurd (cc (given, no))
      | inr later ↦ met p later given
    ])

    is_read : (v : ℕ) → o.what ≡ Reads v → IsRead code rules i past lines o.number v → list_any (is_value v) held.now ≡ true → GoesOn rules i past h lines
    is_read v is k given = elim k.free [
      | inr took ↦ on past t known (λ p there g. elim there [ inl same ↦ subst (λ x. IsMet past x) (sym same) (mine took) | inr later ↦ met p later g ])
      | inl none ↦ now none
    ]
      where
        mine : TookEffect rules past o.number k.request (place_of rules i k.request) k.bytes → IsMet past o
        mine took = record { value = v; what = is; request = k.request; called = k.called; bytes = k.bytes; success = k.success; sound = k.sound; took = took }

        now : All (IsNoEffect o.number) past → GoesOn rules i past h lines
        now none =
            let there : IsOneOf v held.now = value_in v given in
            goes_effect rules i past h h lines o.number (found past t known o.number v k there).0 (read_takes past t known o.number v k there none)
            (on (Effect o.number (found past t known o.number v k there).0 ∷ past) (read_stands past t known o.number v k there) (read_known past t known o.number v k there)
            (λ p here g. elim here [
              | inl same ↦ subst (λ x. IsMet (Effect o.number (found past t known o.number v k there).0 ∷ past) x) (sym same) (record {
                value = v;
                what = is;
                request = k.request;
                called = further (Effect o.number (found past t known o.number v k there).0) past (Seen (Told (Call o.number k.request))) k.called;
                bytes = k.bytes;
                success = k.success;
                sound = All-cons (IsNoFault o.number) (Effect o.number (found past t known o.number v k there).0) past tt k.sound;
                took = read_took past t known o.number v k there;
              })
              | inr later ↦ met_more o.number (found past t known o.number v k there).0 past p (met p later g)
            ]))

    by_what : (w : What) → o.what ≡ w → IsKnown code rules i past lines o.number o.failed w → (b : Bool) → is_given held.now w ≡ b → GoesOn rules i past h lines
    by_what w is k false e = not_given (ap (λ x. is_given held.now x) is ∙ e)
    by_what (Reads v) is k true e = is_read v is k e
    by_what (Writes v through) is k true e = absurd (cc (e))
    by_what Flushes is k true e = absurd (cc (e))
    by_what Sync is k true e = absurd (cc (e))

    settle_one : GoesOn rules i past h lines
    settle_one = by_what o.what refl (t.known o has) (is_given held.now o.what) refl

  settle : (todo : List Open) → ((o : Open) → IsOneOf o todo → IsOneOf o ops) → On todo → (past : List Event) → StandsAt past → Known past asked owed → GoesOn rules i past h lines
  settle [] among on past t known = on past t known (λ o none given. absurd none)
  settle (o ∷ todo) among on past t known =
      settle todo (λ p has. among p (inr has)) (λ past' t' known' met. settle_one o todo on (among o (inl refl)) past' t' known' met) past t known

  -- reads that had their effect wait no more
  pub stands_less : (past : List Event) → StandsAt past → Known past asked owed → (left : List Open) → ((o : Open) → IsOneOf o left → IsOneOf o ops) → ((o : Open) → IsOneOf o ops → IsOneOf o left ⊎ IsMet past o)
      → Stands code rules i past h lines next held left
  stands_less past t known left among split = record {
    counts = t.counts;
    holds = t.holds;
    dated = t.dated;
    known = λ o has. t.known o (among o has);
    moves = λ n q bytes called at awaits success. elim (t.moves n q bytes called at awaits success) [ inl took ↦ inl took | inr m ↦ move n q bytes called success m ];
    flushes = λ n q bytes called kind awaits success. flush n (t.flushes n q bytes called kind awaits success);
    failures = λ n place there awaits. failure n place there (t.failures n place there awaits);
  }
    where
      move : (n : ℕ) (q : ClientRequest) (bytes : List ℕ) → Called past n q → success_of n lines ≡ Some bytes → HasMove code rules i n ops → TookEffect rules past n q (place_of rules i q) bytes ⊎ HasMove code rules i n left
      move n q bytes called success (o, has, number, moves) = elim (split o has) [
        | inl stays ↦ inr (o, stays, number, moves)
        | inr met ↦
            let own : met.request ≡ q = known.one o.number met.request q met.called (subst (λ j. Called past j q) (sym number) called) in
            let same : met.bytes ≡ bytes = same_bytes o.number n lines met.bytes bytes number met.success success in
            inl (subst (λ j. TookEffect rules past j q (place_of rules i q) bytes) number
            (subst (λ bs. TookEffect rules past o.number q (place_of rules i q) bs) same (subst (λ x. TookEffect rules past o.number x (place_of rules i x) met.bytes) own met.took)))
      ]

      flush : (n : ℕ) → HasFlush code rules i n ops → HasFlush code rules i n left
      flush n (o, has, number, is) = elim (split o has) [
        | inl stays ↦ (o, stays, number, is)
        | inr met ↦ let no : is_flush o.what ≡ false = ap (λ w. is_flush w) met.what in absurd (cc (is, no))
      ]

      failure : (n place : ℕ) → Contains past (Fails n place) → HasMove code rules i n ops → HasMove code rules i n left
      failure n place there (o, has, number, moves) = elim (split o has) [
        | inl stays ↦ (o, stays, number, moves)
        | inr met ↦ absurd (All-contains (IsNoFault o.number) past (Fails n place) met.sound there (sym number))
      ]

-- what waits, but for what comes with the call that is under way
module _ (code : List ℕ → ℕ) (rules : Rules) (i : ℕ) (h : Held) (lines : List Line) (asked : List (Option Asked)) (owed : Option NtStatus) (next : ℕ) (held : HeldOf ℕ) (waits coming : List Open) where
  pub settles : ((past : List Event) → Stands code rules i past h lines next held (unmet held.now waits ++ coming) → Known past asked owed → GoesOn rules i past h lines)
      → (past : List Event) → Stands code rules i past h lines next held (waits ++ coming) → Known past asked owed → GoesOn rules i past h lines
  settles on past t known =
      settle code rules i h lines asked owed next held (waits ++ coming) waits (λ o has. one_left o waits coming has)
      (λ past' t' known' met. on past' (stands_less code rules i h lines asked owed next held (waits ++ coming) past' t' known' (unmet held.now waits ++ coming) among (split past' met)) known') past t known
    where
      among : (o : Open) → IsOneOf o (unmet held.now waits ++ coming) → IsOneOf o (waits ++ coming)
      among o has = elim (one_either o (unmet held.now waits) coming has) [
        | inl stays ↦ one_left o waits coming (of_filter (is_unmet held.now) o waits stays).0
        | inr comes ↦ one_right o waits coming comes
      ]

      split : (past' : List Event) → ((o : Open) → IsOneOf o waits → is_given held.now o.what ≡ true → IsMet code rules i h lines asked owed next held (waits ++ coming) past' o) → (o : Open) → IsOneOf o (waits ++ coming)
          → IsOneOf o (unmet held.now waits ++ coming) ⊎ IsMet code rules i h lines asked owed next held (waits ++ coming) past' o
      split past' met o has = elim (one_either o waits coming has) [
        | inl waited ↦ by (is_given held.now o.what) refl waited
        | inr comes ↦ inl (one_right o (unmet held.now waits) coming comes)
      ]
        where
          by : (b : Bool) → is_given held.now o.what ≡ b → IsOneOf o waits → IsOneOf o (unmet held.now waits ++ coming) ⊎ IsMet code rules i h lines asked owed next held (waits ++ coming) past' o
          by true e waited = inr (met o waited e)
          by false e waited = inl (one_left o (unmet held.now waits) coming (in_filter (is_unmet held.now) o waits waited (not_of (is_given held.now o.what) e)))
