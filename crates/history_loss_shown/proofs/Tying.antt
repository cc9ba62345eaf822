-- Why no sessions explain a history in which a flush would have to fail twice.
use Rattle.std.proofs.Common.{◌≡◌, ◌≢◌, ◌<◌, ◌⊎◌, inl, inr, ℕ, zero, suc, true, false, List, [], ◌∷◌, refl, sym, ◌∙◌, ap, subst, arith}
use Rattle.std.specs.Prelude.{IsTrue, All, Contains}
use Rattle.std.proofs.lemmas.List.Elements.{All-head, All-tail, All-contains}
use Rattle.ntstatus.specs.declared.NtStatus.TheVariants.{Success}
use Rattle.srb.specs.declared.Kind.{Kind}
use Rattle.srb.specs.declared.Kind.TheVariants.{Read, Write, Flush}
use Rattle.machine.specs.declared.ClientRequest.{ClientRequest}
use Rattle.machine.specs.declared.Label.TheVariants.{Call, Answer}
use Rattle.machine.specs.Rules.{is_transfer, place_count}
use Rattle.machine_laws.specs.Sectors.{part_of}
use Rattle.loss.specs.Held.{Puts, Doubts, Held, HeldOf, IsOneOf, changed, surely}
use Rattle.loss.specs.Sessions.{Line, Told, Lost, Ended}
use Rattle.loss.specs.Worked.{old, one}
use Rattle.history_loss.specs.Histories.{IsExplained}
use Rattle.history_loss.specs.Schedules.{Event, Seen, Effect, Fails, AreScheduled, Carries, FailsThere, IsAt, IsNoAnswer, IsNoFailure, IsOpen, IsScheduled, MayFollow, TookEffect, acted, answered, failed, lines_of, next_number, shared_of}
use Rattle.history_loss.specs.Worked.{flush, read, small, write}
use Rattle.history_loss.proofs.Scheduling.{explained_scheduled}
use Rattle.register_loss.specs.declared.What.TheVariants.{Read as Reads, Write as Writes, Flush as Flushes}
use Rattle.register_loss.specs.declared.Open.{Open}
use Rattle.register_loss.specs.declared.Turn.TheVariants.{Acts, Fails as FailsTurn}
use Rattle.register_loss.specs.declared.Sight.TheVariants.{Call as CallSight, Elsewhere, Done}
use Rattle.register_loss.specs.Schedules.{Register, Turns}
use Rattle.register_loss.specs.Schedules as register
use Rattle.history_loss_sights.proofs.Standing.{behind, first_or_behind, further, newest}
use Rattle.history_loss_shown.specs.Tied.{IsTiedByHand, read_next, tied, write_next}
use Rattle.history_loss_shown.proofs.Counting.{lines_shared}

-- WHERE THE FLUSH FAILS

abbrev fault : Event
fault = Fails 1 0

-- it fails behind at most so many lines
abbrev Within : ℕ → List Event → Type 0
Within k [] = ⊥
Within k (Effect n s ∷ es) = Within k es
Within k (Fails n p ∷ es) = ((n ≡ 1) × (p ≡ 0)) ⊎ Within k es
Within zero (Seen line ∷ es) = ⊥
Within (suc k) (Seen line ∷ es) = Within k es

-- what comes behind so many lines
abbrev Behind : ℕ → List Event → List Event
Behind zero es = es
Behind (suc k) [] = []
Behind (suc k) (Seen line ∷ es) = Behind k es
Behind (suc k) (Effect n s ∷ es) = Behind (suc k) es
Behind (suc k) (Fails n p ∷ es) = Behind (suc k) es

within_shared : (k : ℕ) (es : List Event) → Within k es → Within k (shared_of es)
within_shared k [] h = h
within_shared k (Effect n s ∷ es) h = within_shared k es h
within_shared k (Fails n p ∷ es) (inl is) = inl is
within_shared k (Fails n p ∷ es) (inr h) = inr (within_shared k es h)
within_shared zero (Seen line ∷ es) h = h
within_shared (suc k) (Seen line ∷ es) h = within_shared k es h

shared_within : (k : ℕ) (es : List Event) → Within k (shared_of es) → Within k es
shared_within k [] h = h
shared_within k (Effect n s ∷ es) h = shared_within k es h
shared_within k (Fails n p ∷ es) (inl is) = inl is
shared_within k (Fails n p ∷ es) (inr h) = inr (shared_within k es h)
shared_within zero (Seen line ∷ es) h = h
shared_within (suc k) (Seen line ∷ es) h = shared_within k es h

shared_behind : (k : ℕ) (es : List Event) → shared_of (Behind k es) ≡ Behind k (shared_of es)
shared_behind zero es = refl
shared_behind (suc k) [] = refl
shared_behind (suc k) (Effect n s ∷ es) = shared_behind (suc k) es
shared_behind (suc k) (Fails n p ∷ es) = shared_behind (suc k) es
shared_behind (suc k) (Seen line ∷ es) = shared_behind k es

-- no session ends
abbrev AreTold : List Line → Type 0
AreTold [] = Unit {0}
AreTold (Told label ∷ lines) = AreTold lines
AreTold (Lost ∷ lines) = ⊥
AreTold (Ended ∷ lines) = ⊥

module _ (i : ℕ) where
  -- IT FAILS ONCE

  fails_again : (n p : ℕ) (past : List Event) (h h' : Held) → FailsThere small i past h n p h' → n ≡ 1 → p ≡ 0 → Contains past fault → ⊥
  fails_again n p past h h' f number place there = All-contains (IsNoFailure n p) past fault f.idle.failure there (sym number) (sym place)

  once : (k j : ℕ) (es past : List Event) (h : Held) → MayFollow small i past h es → AreTold (lines_of es) → Contains past fault → Within k (Behind j es) → ⊥
  once k zero [] past h m told there w = w
  once k (suc j) [] past h m told there w = w
  once k zero (Effect n s ∷ es) past h m told there w = once k zero es (Effect n s ∷ past) m.0 m.2 told (further (Effect n s) past fault there) w
  once k (suc j) (Effect n s ∷ es) past h m told there w = once k (suc j) es (Effect n s ∷ past) m.0 m.2 told (further (Effect n s) past fault there) w
  once k zero (Fails n p ∷ es) past h m told there (inl (number, place)) = fails_again n p past h m.0 m.1 number place there
  once k zero (Fails n p ∷ es) past h m told there (inr w) = once k zero es (Fails n p ∷ past) m.0 m.2 told (further (Fails n p) past fault there) w
  once k (suc j) (Fails n p ∷ es) past h m told there w = once k (suc j) es (Fails n p ∷ past) m.0 m.2 told (further (Fails n p) past fault there) w
  once zero zero (Seen line ∷ es) past h m told there w = w
  once (suc k) zero (Seen (Told label) ∷ es) past h m told there w = once k zero es (Seen (Told label) ∷ past) m.0 m.2 told (further (Seen (Told label)) past fault there) w
  once (suc k) zero (Seen Lost ∷ es) past h m told there w = told
  once (suc k) zero (Seen Ended ∷ es) past h m told there w = told
  once k (suc j) (Seen (Told label) ∷ es) past h m told there w = once k j es (Seen (Told label) ∷ past) m.0 m.2 told (further (Seen (Told label)) past fault there) w
  once k (suc j) (Seen Lost ∷ es) past h m told there w = told
  once k (suc j) (Seen Ended ∷ es) past h m told there w = told

  not_twice : (k j : ℕ) (es past : List Event) (h : Held) → MayFollow small i past h es → AreTold (lines_of es) → Within j es → Within k (Behind (suc j) es) → ⊥
  not_twice k j [] past h m told first second = first
  not_twice k j (Effect n s ∷ es) past h m told first second = not_twice k j es (Effect n s ∷ past) m.0 m.2 told first second
  not_twice k j (Fails n p ∷ es) past h m told (inl (number, place)) second =
      once k (suc j) es (Fails n p ∷ past) m.0 m.2 told
      (subst (λ x. Contains (Fails n p ∷ past) (Fails x 0)) number (subst (λ x. Contains (Fails n p ∷ past) (Fails n x)) place (newest (Fails n p) past))) second
  not_twice k j (Fails n p ∷ es) past h m told (inr first) second = not_twice k j es (Fails n p ∷ past) m.0 m.2 told first second
  not_twice k zero (Seen line ∷ es) past h m told first second = first
  not_twice k (suc j) (Seen (Told label) ∷ es) past h m told first second = not_twice k j es (Seen (Told label) ∷ past) m.0 m.2 told first second
  not_twice k (suc j) (Seen Lost ∷ es) past h m told first second = told
  not_twice k (suc j) (Seen Ended ∷ es) past h m told first second = told

  -- WHAT IS OPEN

  abbrev IsFlush : ℕ → ClientRequest → Type 0
  IsFlush n q = (n ≡ 1) × (q ≡ flush)

  no_transfer : (q : ClientRequest) → q ≡ flush → IsTrue (is_transfer q.kind) → ⊥
  no_transfer q is t = let no : IsTrue (is_transfer flush.kind) = subst (λ x. IsTrue (is_transfer x.kind)) is t in absurd (cc (no))

  only_place : (p : ℕ) → p < 1 → p ≡ 0
  only_place p low = omega arith

  flush_place : (q : ClientRequest) (p : ℕ) → q ≡ flush → p < place_count small q → p ≡ 0
  flush_place q p is low = only_place p (subst (λ x. p < place_count small x) is low)

  -- behind what is no call
  open_before : (e : Event) (past : List Event) (n : ℕ) (q : ClientRequest) → ((m : ℕ) (r : ClientRequest) → e ≡ Seen (Told (Call m r)) → ⊥) → IsOpen (e ∷ past) n q → IsOpen past n q
  open_before e past n q no_call o = record { called = behind e past (Seen (Told (Call n q))) (no_call n q) o.called; awaits = All-tail (IsNoAnswer n) e past o.awaits }

  open_or : (past : List Event) (m : ℕ) (r : ClientRequest) (n : ℕ) (q : ClientRequest) → IsOpen (Seen (Told (Call m r)) ∷ past) n q → ((n ≡ m) × (q ≡ r)) ⊎ IsOpen past n q
  open_or past m r n q o = elim (first_or_behind (Seen (Told (Call m r))) past (Seen (Told (Call n q))) o.called) [
    | inl is ↦ inl (cc (is), cc (is))
    | inr before ↦ inr (record { called = before; awaits = All-tail (IsNoAnswer n) (Seen (Told (Call m r))) past o.awaits })
  ]

  -- A WRITE, AND A READ OF WHAT STOOD THERE BEFORE

  module _ (n : ℕ) (w : ClientRequest) (v : List ℕ) (m : ℕ) (r : ClientRequest) (rest : List Line) (writes : w.kind ≡ Write) (reads : r.kind ≡ Read) (w_at : IsAt small i w 0) (r_at : IsAt small i r 0)
      (w_one : place_count small w ≡ 1) (r_one : place_count small r ≡ 1) (acts_as : (next number : ℕ) (h : Held) → acted small next number w 0 i h ≡ changed next (Puts v) h)
      (reads_as : (next number : ℕ) (h : Held) → acted small next number r 0 i h ≡ h) (fails_as : (next : ℕ) (h : Held) → failed small next r 0 i h ≡ h) (other : v ≢ old) (apart : n ≢ 1) (apart' : m ≢ 1) (order : n < m) where
    abbrev GivesOnly : Held → Type 0
    GivesOnly h = (x : List ℕ) → IsOneOf x h.now → x ≡ v

    abbrev Opens : List Event → (ℕ → ClientRequest → Type 0) → Type 0
    Opens past Is = (k : ℕ) (q : ClientRequest) → IsOpen past k q → Is k q ⊎ IsFlush k q

    abbrev None : ℕ → ClientRequest → Type 0
    None k q = ⊥

    abbrev IsW : ℕ → ClientRequest → Type 0
    IsW k q = (k ≡ n) × (q ≡ w)

    abbrev IsR : ℕ → ClientRequest → Type 0
    IsR k q = (k ≡ m) × (q ≡ r)

    w_place : (q : ClientRequest) (p : ℕ) → q ≡ w → p < place_count small q → p ≡ 0
    w_place q p is low = only_place p (subst (λ c. p < c) w_one (subst (λ x. p < place_count small x) is low))

    r_place : (q : ClientRequest) (p : ℕ) → q ≡ r → p < place_count small q → p ≡ 0
    r_place q p is low = only_place p (subst (λ c. p < c) r_one (subst (λ x. p < place_count small x) is low))

    -- the read is open
    abbrev Reading : List Event → Type 0
    Reading es = (past : List Event) (h : Held) → MayFollow small i past h es → lines_of es ≡ Told (Answer m Success 2 old) ∷ rest → Opens past IsR → GivesOnly h → ((s : List ℕ) → Contains past (Effect m s) → s ≡ v) → Within 0 es

    reading : (es : List Event) → Reading es
    reading [] past h f is opens only read_is = absurd (cc (is))
    reading (Effect k s ∷ es) past h f is opens only read_is = by (reading es) (opens k f.1.request f.1.is_open)
      where
        by : Reading es → IsR k f.1.request ⊎ IsFlush k f.1.request → Within 0 es
        by again (inr (number, flushes)) = absurd (no_transfer f.1.request flushes f.1.there.transfer)
        by again (inl (number, own)) =
            let kind : f.1.request.kind ≡ Read = ap (λ x. x.kind) own ∙ reads in
            let given : s ≡ v = only s (subst (λ x. Carries small h f.1.request f.1.place x s) kind f.1.carries) in
            let place : f.1.place ≡ 0 = r_place f.1.request f.1.place own f.1.there.inside in
            let same : f.0 ≡ h = f.1.after ∙ ap (λ q. acted small (next_number past) k q f.1.place i h) own ∙ ap (λ p. acted small (next_number past) k r p i h) place ∙ reads_as (next_number past) k h in
            again (Effect k s ∷ past) h (subst (λ g. MayFollow small i (Effect k s ∷ past) g es) same f.2) is (λ a q o. opens a q (open_before (Effect k s) past a q (λ b c e. cc (e)) o)) only
            (λ x there. elim (first_or_behind (Effect k s) past (Effect m x) there) [ inl e ↦ (let here : s ≡ x = cc (e) in sym here ∙ given) | inr before ↦ read_is x before ])
    reading (Fails k p ∷ es) past h f is opens only read_is = by (reading es) (opens k f.1.request f.1.is_open)
      where
        by : Reading es → IsR k f.1.request ⊎ IsFlush k f.1.request → Within 0 (Fails k p ∷ es)
        by again (inr (number, flushes)) = inl (number, flush_place f.1.request p flushes f.1.inside)
        by again (inl (number, own)) =
            let place : p ≡ 0 = r_place f.1.request p own f.1.inside in
            let same : f.0 ≡ h = f.1.after ∙ ap (λ q. failed small (next_number past) q p i h) own ∙ ap (λ x. failed small (next_number past) r x i h) place ∙ fails_as (next_number past) h in
            inr (again (Fails k p ∷ past) h (subst (λ g. MayFollow small i (Fails k p ∷ past) g es) same f.2) is (λ a q o. opens a q (open_before (Fails k p) past a q (λ b c e. cc (e)) o)) only
            (λ x there. read_is x (behind (Fails k p) past (Effect m x) (λ e. cc (e)) there)))
    reading (Seen line ∷ es) past h f is opens only read_is = absurd (never (subst (λ l. MayFollow small i past h (Seen l ∷ es)) same f))
      where
        same : line ≡ Told (Answer m Success 2 old)
        same = cc (is)

        never : MayFollow small i past h (Seen (Told (Answer m Success 2 old)) ∷ es) → ⊥
        never g = by (opens m g.1.request g.1.is_open)
          where
            by : IsR m g.1.request ⊎ IsFlush m g.1.request → ⊥
            by (inr (number, flushes)) = apart' number
            by (inl (number, own)) =
                let took : TookEffect small past m g.1.request 0 old = g.1.effect refl 0 (subst (λ q. IsAt small i q 0) (sym own) r_at) in
                let given : part_of small old 0 ≡ took.sector = took.hands_over (ap (λ x. x.kind) own ∙ reads) in
                other (sym (read_is took.sector took.before) ∙ sym given)

    -- the write is answered, and the read not yet called
    waiting : (es past : List Event) (h : Held) → MayFollow small i past h es → lines_of es ≡ Told (Call m r) ∷ Told (Answer m Success 2 old) ∷ rest → Opens past None → GivesOnly h → ((s : List ℕ) → Contains past (Effect m s) → ⊥) → Within 1 es
    waiting [] past h f is opens only fresh = absurd (cc (is))
    waiting (Effect k s ∷ es) past h f is opens only fresh = elim (opens k f.1.request f.1.is_open) [ inl none ↦ absurd none | inr (number, flushes) ↦ absurd (no_transfer f.1.request flushes f.1.there.transfer) ]
    waiting (Fails k p ∷ es) past h f is opens only fresh = elim (opens k f.1.request f.1.is_open) [ inl none ↦ absurd none | inr (number, flushes) ↦ inl (number, flush_place f.1.request p flushes f.1.inside) ]
    waiting (Seen line ∷ es) past h f is opens only fresh = on (subst (λ l. MayFollow small i past h (Seen l ∷ es)) same f)
      where
        same : line ≡ Told (Call m r)
        same = cc (is)

        on : MayFollow small i past h (Seen (Told (Call m r)) ∷ es) → Within 0 es
        on g =
            reading es (Seen (Told (Call m r)) ∷ past) h (subst (λ x. MayFollow small i (Seen (Told (Call m r)) ∷ past) x es) g.1 g.2) (cc (is))
            (λ k q o. elim (open_or past m r k q o) [ inl now ↦ inl now | inr before ↦ elim (opens k q before) [ inl none ↦ absurd none | inr flushes ↦ inr flushes ] ]) only
            (λ s there. absurd (fresh s (behind (Seen (Told (Call m r))) past (Effect m s) (λ e. cc (e)) there)))

    -- the write is open
    abbrev Writing : List Event → Type 0
    Writing es = (past : List Event) (h : Held) → MayFollow small i past h es → lines_of es ≡ Told (Answer n Success 2 []) ∷ Told (Call m r) ∷ Told (Answer m Success 2 old) ∷ rest → Opens past IsW
        → ((s : List ℕ) → Contains past (Effect n s) → All (IsNoFailure n 0) past → GivesOnly h) → ((s : List ℕ) → Contains past (Effect m s) → ⊥) → Within 2 es

    writing : (es : List Event) → Writing es
    writing [] past h f is opens only fresh = absurd (cc (is))
    writing (Effect k s ∷ es) past h f is opens only fresh = by (writing es) (opens k f.1.request f.1.is_open)
      where
        by : Writing es → IsW k f.1.request ⊎ IsFlush k f.1.request → Within 2 es
        by again (inr (number, flushes)) = absurd (no_transfer f.1.request flushes f.1.there.transfer)
        by again (inl (number, own)) =
            let place : f.1.place ≡ 0 = w_place f.1.request f.1.place own f.1.there.inside in
            let same : f.0 ≡ changed (next_number past) (Puts v) h =
            f.1.after ∙ ap (λ q. acted small (next_number past) k q f.1.place i h) own ∙ ap (λ p. acted small (next_number past) k w p i h) place ∙ acts_as (next_number past) k h in
            again (Effect k s ∷ past) (changed (next_number past) (Puts v) h) (subst (λ g. MayFollow small i (Effect k s ∷ past) g es) same f.2) is
            (λ a q o. opens a q (open_before (Effect k s) past a q (λ b c e. cc (e)) o))
            (λ x there sound y among. elim among [ inl e ↦ e | inr none ↦ absurd none ])
            (λ x there. elim (first_or_behind (Effect k s) past (Effect m x) there) [
              | inl e ↦ (let here : k ≡ m = cc (e) in let low = order in absurd (omega (arith, here, number, low)))
              | inr before ↦ fresh x before
            ])
    writing (Fails k p ∷ es) past h f is opens only fresh = by (writing es) (opens k f.1.request f.1.is_open)
      where
        by : Writing es → IsW k f.1.request ⊎ IsFlush k f.1.request → Within 2 (Fails k p ∷ es)
        by again (inr (number, flushes)) = inl (number, flush_place f.1.request p flushes f.1.inside)
        by again (inl (number, own)) =
            let place : p ≡ 0 = w_place f.1.request p own f.1.inside in
            inr (again (Fails k p ∷ past) f.0 f.2 is (λ a q o. opens a q (open_before (Fails k p) past a q (λ b c e. cc (e)) o))
            (λ x there sound. absurd (All-head (IsNoFailure n 0) (Fails k p) past sound number place))
            (λ x there. fresh x (behind (Fails k p) past (Effect m x) (λ e. cc (e)) there)))
    writing (Seen line ∷ es) past h f is opens only fresh = on (subst (λ l. MayFollow small i past h (Seen l ∷ es)) same f)
      where
        same : line ≡ Told (Answer n Success 2 [])
        same = cc (is)

        still : (kind : Kind) (g : Held) → kind ≡ Write → answered (next_number past) n kind Success g ≡ g
        still Write g e = refl
        still Read g e = absurd (cc (e))
        still Flush g e = absurd (cc (e))

        on : MayFollow small i past h (Seen (Told (Answer n Success 2 [])) ∷ es) → Within 1 es
        on g = by (opens n g.1.request g.1.is_open)
          where
            by : IsW n g.1.request ⊎ IsFlush n g.1.request → Within 1 es
            by (inr (number, flushes)) = absurd (apart number)
            by (inl (number, own)) =
                let took : TookEffect small past n g.1.request 0 [] = g.1.effect refl 0 (subst (λ q. IsAt small i q 0) (sym own) w_at) in
                let sound : All (IsNoFailure n 0) past = g.1.sound refl 0 (subst (λ q. 0 < place_count small q) (sym own) w_at.inside) in
                let same' : g.0 ≡ h = g.1.after ∙ still g.1.request.kind h (ap (λ x. x.kind) own ∙ writes) in
                waiting es (Seen (Told (Answer n Success 2 [])) ∷ past) h (subst (λ x. MayFollow small i (Seen (Told (Answer n Success 2 [])) ∷ past) x es) same' g.2) (cc (is))
                (λ a q o. elim (opens a q (open_before (Seen (Told (Answer n Success 2 []))) past a q (λ b c e. cc (e)) o)) [
                  | inl (a_is, q_is) ↦ absurd (All-head (IsNoAnswer a) (Seen (Told (Answer n Success 2 []))) past o.awaits (sym a_is))
                  | inr flushes ↦ inr flushes
                ])
                (only took.sector took.before sound) (λ x there. fresh x (behind (Seen (Told (Answer n Success 2 []))) past (Effect m x) (λ e. cc (e)) there))

    -- none is open but the flush
    calling : (es past : List Event) (h : Held) → MayFollow small i past h es → lines_of es ≡ Told (Call n w) ∷ Told (Answer n Success 2 []) ∷ Told (Call m r) ∷ Told (Answer m Success 2 old) ∷ rest → Opens past None
        → ((k : ℕ) (s : List ℕ) → Contains past (Effect k s) → k < n) → Within 3 es
    calling [] past h f is opens low = absurd (cc (is))
    calling (Effect k s ∷ es) past h f is opens low = elim (opens k f.1.request f.1.is_open) [ inl none ↦ absurd none | inr (number, flushes) ↦ absurd (no_transfer f.1.request flushes f.1.there.transfer) ]
    calling (Fails k p ∷ es) past h f is opens low = elim (opens k f.1.request f.1.is_open) [ inl none ↦ absurd none | inr (number, flushes) ↦ inl (number, flush_place f.1.request p flushes f.1.inside) ]
    calling (Seen line ∷ es) past h f is opens low = on (subst (λ l. MayFollow small i past h (Seen l ∷ es)) same f)
      where
        same : line ≡ Told (Call n w)
        same = cc (is)

        below : (k : ℕ) (s : List ℕ) → Contains (Seen (Told (Call n w)) ∷ past) (Effect k s) → k < n
        below k s there = low k s (behind (Seen (Told (Call n w))) past (Effect k s) (λ e. cc (e)) there)

        on : MayFollow small i past h (Seen (Told (Call n w)) ∷ es) → Within 2 es
        on g =
            writing es (Seen (Told (Call n w)) ∷ past) h (subst (λ x. MayFollow small i (Seen (Told (Call n w)) ∷ past) x es) g.1 g.2) (cc (is))
            (λ k q o. elim (open_or past n w k q o) [ inl now ↦ inl now | inr before ↦ elim (opens k q before) [ inl none ↦ absurd none | inr flushes ↦ inr flushes ] ])
            (λ s there sound. let late = below n s there in absurd (omega (arith, late)))
            (λ s there. let late = below m s there in let o = order in absurd (omega (arith, late, o)))

  -- TO THE NEXT LINE

  record At (Is : ℕ → ClientRequest → Type 0) (bound : ℕ) (es : List Event) (line : Line) (lines : List Line) : Type 0 where
    past : List Event
    held : Held
    later : List Event
    follow : MayFollow small i past held (Seen line ∷ later)
    shows : lines_of later ≡ lines
    opens : (k : ℕ) (q : ClientRequest) → IsOpen past k q → Is k q
    low : (k : ℕ) (s : List ℕ) → Contains past (Effect k s) → k < bound
    there : (j : ℕ) → Behind (suc j) es ≡ Behind j later

  module _ (Is : ℕ → ClientRequest → Type 0) (bound : ℕ) (is_low : (k : ℕ) (q : ClientRequest) → Is k q → k < bound) (line : Line) (lines : List Line) where
    upto : (es past : List Event) (h : Held) → MayFollow small i past h es → lines_of es ≡ line ∷ lines → ((k : ℕ) (q : ClientRequest) → IsOpen past k q → Is k q) → ((k : ℕ) (s : List ℕ) → Contains past (Effect k s) → k < bound)
        → At Is bound es line lines
    upto [] past h f is opens low = absurd (cc (is))
    upto (Effect n s ∷ es) past h f is opens low =
        let a : At Is bound es line lines =
        upto es (Effect n s ∷ past) f.0 f.2 is (λ k q o. opens k q (open_before (Effect n s) past k q (λ b c e. cc (e)) o))
        (λ k x there. elim (first_or_behind (Effect n s) past (Effect k x) there) [
          | inl e ↦ let same : n ≡ k = cc (e) in subst (λ j. j < bound) same (is_low n f.1.request (opens n f.1.request f.1.is_open))
          | inr before ↦ low k x before
        ]) in
        record { past = a.past; held = a.held; later = a.later; follow = a.follow; shows = a.shows; opens = a.opens; low = a.low; there = a.there }
    upto (Fails n p ∷ es) past h f is opens low =
        let a : At Is bound es line lines =
        upto es (Fails n p ∷ past) f.0 f.2 is (λ k q o. opens k q (open_before (Fails n p) past k q (λ b c e. cc (e)) o)) (λ k x there. low k x (behind (Fails n p) past (Effect k x) (λ e. cc (e)) there)) in
        record { past = a.past; held = a.held; later = a.later; follow = a.follow; shows = a.shows; opens = a.opens; low = a.low; there = a.there }
    upto (Seen other ∷ es) past h f is opens low = record {
      past = past;
      held = h;
      later = es;
      follow = let same : other ≡ line = cc (is) in subst (λ l. MayFollow small i past h (Seen l ∷ es)) same f;
      shows = cc (is);
      opens = opens;
      low = low;
      there = λ j. refl;
    }

  -- behind the first line the flush is open
  none_open : (k : ℕ) (q : ClientRequest) → IsOpen [] k q → ⊥
  none_open k q o = let low = o.called.1 in absurd (omega (arith, low))

  none_yet : (k : ℕ) (s : List ℕ) → Contains [] (Effect k s) → k < 1
  none_yet k s there = let low = there.1 in absurd (omega (arith, low))

  abbrev flush_lines : List Line
  flush_lines =
      Told (Call 2 write) ∷ Told (Answer 2 Success 2 []) ∷ Told (Call 3 read) ∷ Told (Answer 3 Success 2 old)
      ∷ Told (Call 4 write_next) ∷ Told (Answer 4 Success 2 []) ∷ Told (Call 5 read_next) ∷ Told (Answer 5 Success 2 old) ∷ []

  module _ (es : List Event) (f : MayFollow small i [] (surely old) es) (is : lines_of es ≡ tied) where
    first_line : At (λ k q. ⊥) 1 es (Told (Call 1 flush)) flush_lines
    first_line = upto (λ k q. ⊥) 1 (λ k q none. absurd none) (Told (Call 1 flush)) flush_lines es [] (surely old) f is none_open none_yet

    abbrev past1 : List Event
    past1 = Seen (Told (Call 1 flush)) ∷ first_line.past

    opens1 : (k : ℕ) (q : ClientRequest) → IsOpen past1 k q → IsFlush k q
    opens1 k q o = elim (open_or first_line.past 1 flush k q o) [ inl now ↦ now | inr before ↦ absurd (first_line.opens k q before) ]

    low1 : (k : ℕ) (s : List ℕ) → Contains past1 (Effect k s) → k < 1
    low1 k s there = first_line.low k s (behind (Seen (Told (Call 1 flush))) first_line.past (Effect k s) (λ e. cc (e)) there)

-- SECTOR 0

write_at : IsAt small 0 write 0
write_at = record { admitted = record { known = refl; in_bounds = λ t. refl }; transfer = refl; sector = refl; inside = omega arith }

read_at : IsAt small 0 read 0
read_at = record { admitted = record { known = refl; in_bounds = λ t. refl }; transfer = refl; sector = refl; inside = omega arith }

one_other : one ≢ old
one_other e = cc (e)

abbrev IsNot : ℕ → ℕ → Type 0
IsNot a b = a ≢ b

two_one : IsNot 2 1
two_one e = absurd (omega (arith, e))

three_one : IsNot 3 1
three_one e = absurd (omega (arith, e))

first_fault : (es : List Event) → MayFollow small 0 [] (surely old) es → lines_of es ≡ tied → Within 4 es
first_fault es f is =
    within_more 3 es (first_line 0 es f is).later ((first_line 0 es f is).there) (calling 0 2 write one 3 read (Told (Call 4 write_next) ∷ Told (Answer 4 Success 2 []) ∷ Told (Call 5 read_next) ∷ Told (Answer 5 Success 2 old) ∷ [])
    refl refl write_at read_at refl refl (λ next number h. refl) (λ next number h. refl) (λ next h. refl) one_other two_one three_one (omega arith) (first_line 0 es f is).later (past1 0 es f is) (first_line 0 es f is).follow.0
    (first_line 0 es f is).follow.2 (first_line 0 es f is).shows (λ k q o. inr (opens1 0 es f is k q o)) (λ k s there. let low = low1 0 es f is k s there in omega (arith, low)))
  where
    by_behind : (k : ℕ) (es : List Event) → Within k (Behind 1 es) → Within (suc k) es
    by_behind k [] w = w
    by_behind k (Effect n s ∷ es) w = by_behind k es w
    by_behind k (Fails n p ∷ es) w = inr (by_behind k es w)
    by_behind k (Seen line ∷ es) w = w

    within_more : (k : ℕ) (es later : List Event) → ((j : ℕ) → Behind (suc j) es ≡ Behind j later) → Within k later → Within (suc k) es
    within_more k es later there w = by_behind k es (subst (Within k) (sym (there 0)) w)

-- SECTOR 1

next_write_at : IsAt small 1 write_next 0
next_write_at = record { admitted = record { known = refl; in_bounds = λ t. refl }; transfer = refl; sector = refl; inside = omega arith }

next_read_at : IsAt small 1 read_next 0
next_read_at = record { admitted = record { known = refl; in_bounds = λ t. refl }; transfer = refl; sector = refl; inside = omega arith }

four_one : IsNot 4 1
four_one e = absurd (omega (arith, e))

five_one : IsNot 5 1
five_one e = absurd (omega (arith, e))

abbrev OneMore : ℕ → ClientRequest → ℕ → ClientRequest → Type 0
OneMore n r k q = ((k ≡ n) × (q ≡ r)) ⊎ IsFlush 1 k q

more_low : (n : ℕ) (r : ClientRequest) (bound : ℕ) → n < bound → 1 < bound → (k : ℕ) (q : ClientRequest) → OneMore n r k q → k < bound
more_low n r bound a b k q (inl (number, own)) = omega (arith, a, number)
more_low n r bound a b k q (inr (number, own)) = omega (arith, b, number)

flush_low : (bound : ℕ) → 1 < bound → (k : ℕ) (q : ClientRequest) → IsFlush 1 k q → k < bound
flush_low bound b k q (number, own) = omega (arith, b, number)

module _ (es : List Event) (f : MayFollow small 1 [] (surely old) es) (is : lines_of es ≡ tied) where
  abbrev a1 : At 1 (λ k q. ⊥) 1 es (Told (Call 1 flush)) (flush_lines 1)
  a1 = first_line 1 es f is

  called : At 1 (IsFlush 1) 2 a1.later (Told (Call 2 write))
      (Told (Answer 2 Success 2 []) ∷ Told (Call 3 read) ∷ Told (Answer 3 Success 2 old) ∷ Told (Call 4 write_next) ∷ Told (Answer 4 Success 2 []) ∷ Told (Call 5 read_next) ∷ Told (Answer 5 Success 2 old) ∷ [])
  called =
      upto 1 (IsFlush 1) 2 (flush_low 2 (omega arith)) (Told (Call 2 write)) _ a1.later (past1 1 es f is) a1.follow.0 a1.follow.2 a1.shows (opens1 1 es f is)
      (λ k s there. let low = low1 1 es f is k s there in omega (arith, low))

  written : At 1 (OneMore 2 write) 3 called.later (Told (Answer 2 Success 2 []))
      (Told (Call 3 read) ∷ Told (Answer 3 Success 2 old) ∷ Told (Call 4 write_next) ∷ Told (Answer 4 Success 2 []) ∷ Told (Call 5 read_next) ∷ Told (Answer 5 Success 2 old) ∷ [])
  written =
      upto 1 (OneMore 2 write) 3 (more_low 2 write 3 (omega arith) (omega arith)) (Told (Answer 2 Success 2 [])) _ called.later (Seen (Told (Call 2 write)) ∷ called.past) called.follow.0 called.follow.2 called.shows
      (λ k q o. elim (open_or 1 called.past 2 write k q o) [ inl now ↦ inl now | inr before ↦ inr (called.opens k q before) ])
      (λ k s there. let low = called.low k s (behind (Seen (Told (Call 2 write))) called.past (Effect k s) (λ e. cc (e)) there) in omega (arith, low))

  -- what is answered is open no more
  flush_left : (n : ℕ) (r : ClientRequest) (bytes : List ℕ) (past : List Event) → ((k : ℕ) (q : ClientRequest) → IsOpen past k q → OneMore n r k q) → (k : ℕ) (q : ClientRequest) → IsOpen (Seen (Told (Answer n Success 2 bytes)) ∷ past) k q → IsFlush 1 k q
  flush_left n r bytes past opens k q o = elim (opens k q (open_before 1 (Seen (Told (Answer n Success 2 bytes))) past k q (λ b c e. cc (e)) o)) [
    | inl (number, own) ↦ absurd (All-head (IsNoAnswer k) (Seen (Told (Answer n Success 2 bytes))) past o.awaits (sym number))
    | inr flushes ↦ flushes
  ]

  recalled : At 1 (IsFlush 1) 3 written.later (Told (Call 3 read))
      (Told (Answer 3 Success 2 old) ∷ Told (Call 4 write_next) ∷ Told (Answer 4 Success 2 []) ∷ Told (Call 5 read_next) ∷ Told (Answer 5 Success 2 old) ∷ [])
  recalled =
      upto 1 (IsFlush 1) 3 (flush_low 3 (omega arith)) (Told (Call 3 read)) _ written.later (Seen (Told (Answer 2 Success 2 [])) ∷ written.past) written.follow.0 written.follow.2 written.shows
      (flush_left 2 write [] written.past written.opens) (λ k s there. written.low k s (behind (Seen (Told (Answer 2 Success 2 []))) written.past (Effect k s) (λ e. cc (e)) there))

  given : At 1 (OneMore 3 read) 4 recalled.later (Told (Answer 3 Success 2 old)) (Told (Call 4 write_next) ∷ Told (Answer 4 Success 2 []) ∷ Told (Call 5 read_next) ∷ Told (Answer 5 Success 2 old) ∷ [])
  given =
      upto 1 (OneMore 3 read) 4 (more_low 3 read 4 (omega arith) (omega arith)) (Told (Answer 3 Success 2 old)) _ recalled.later (Seen (Told (Call 3 read)) ∷ recalled.past) recalled.follow.0 recalled.follow.2 recalled.shows
      (λ k q o. elim (open_or 1 recalled.past 3 read k q o) [ inl now ↦ inl now | inr before ↦ inr (recalled.opens k q before) ])
      (λ k s there. let low = recalled.low k s (behind (Seen (Told (Call 3 read))) recalled.past (Effect k s) (λ e. cc (e)) there) in omega (arith, low))

  fault_later : Within 3 given.later
  fault_later =
      calling 1 4 write_next one 5 read_next [] refl refl next_write_at next_read_at refl refl (λ next number h. refl) (λ next number h. refl) (λ next h. refl) one_other four_one five_one (omega arith)
      given.later (Seen (Told (Answer 3 Success 2 old)) ∷ given.past) given.follow.0 given.follow.2 given.shows (λ k q o. inr (flush_left 3 read old given.past given.opens k q o))
      (λ k s there. given.low k s (behind (Seen (Told (Answer 3 Success 2 old))) given.past (Effect k s) (λ e. cc (e)) there))

  second_fault : Within 3 (Behind 5 es)
  second_fault = subst (Within 3) (sym (a1.there 4 ∙ called.there 3 ∙ written.there 2 ∙ recalled.there 1 ∙ given.there 0)) fault_later

-- THE WHOLE

unexplained : IsExplained small (λ i. old) tied → ⊥
unexplained x =
    let a : AreScheduled small (λ i. old) tied = explained_scheduled small (λ i. old) tied x in
    let none : IsScheduled small 0 old a.shared = a.each 0 in
    let next : IsScheduled small 1 old a.shared = a.each 1 in
    let lines : lines_of none.events ≡ tied = sym (lines_shared none.events) ∙ ap lines_of none.shares ∙ a.seen in
    let second : Within 3 (Behind 5 next.events) = second_fault next.events next.in_turn (sym (lines_shared next.events) ∙ ap lines_of next.shares ∙ a.seen) in
    let moved : Within 3 (shared_of (Behind 5 none.events)) =
    subst (Within 3) (shared_behind 5 next.events ∙ ap (Behind 5) (next.shares ∙ sym none.shares) ∙ sym (shared_behind 5 none.events)) (within_shared 3 (Behind 5 next.events) second) in
    not_twice 0 3 4 none.events [] (surely old) none.in_turn (subst AreTold (sym lines) tt) (first_fault none.events none.in_turn lines) (shared_within 3 (Behind 5 none.events) moved)

-- WHAT THE SECTORS SHOW

abbrev flush_open : Open
flush_open = record { number = 1; what = Flushes; failed = false }

abbrev flush_failed : Open
flush_failed = record { number = 1; what = Flushes; failed = true }

abbrev write_open : ℕ → Open
write_open n = record { number = n; what = Writes 1 false; failed = false }

abbrev at : ℕ → HeldOf ℕ → List Open → Register
at next held waits = record { next = next; held = held; waits = waits }

abbrev put : ℕ → HeldOf ℕ
put n = record { now = 1 ∷ []; older = record { value = 9; behind = n } ∷ [] }

abbrev either : HeldOf ℕ
either = record { now = 1 ∷ 9 ∷ []; older = [] }

acts_first : Turns Acts (at 3 (surely 9) (flush_open ∷ write_open 2 ∷ [])) (at 3 (put 3) (flush_open ∷ []))
acts_first = record { of = write_open 2; waits = inr (inl refl); change = Puts 1; may = refl; after = refl }

acts_second : Turns Acts (at 5 (surely 9) (flush_open ∷ write_open 4 ∷ [])) (at 5 (put 5) (flush_open ∷ []))
acts_second = record { of = write_open 4; waits = inr (inl refl); change = Puts 1; may = refl; after = refl }

doubts : (next : ℕ) → Turns FailsTurn (at next (put next) (flush_open ∷ [])) (at next either (flush_failed ∷ []))
doubts next = record { of = flush_open; waits = inl refl; change = Doubts; may = refl; after = refl }

pub by_tie : IsTiedByHand
by_tie = record {
  first = record {
    events = register.Seen (Elsewhere 1) ∷ register.Seen (CallSight 1 Flushes) ∷ register.Seen (Elsewhere 2) ∷ register.Seen (CallSight 2 (Writes 1 false)) ∷ register.Unseen Acts ∷ register.Unseen FailsTurn ∷ register.Seen (Done 2)
        ∷ register.Seen (Elsewhere 3) ∷ register.Seen (CallSight 3 (Reads 9)) ∷ register.Seen (Done 3) ∷ register.Seen (Elsewhere 4) ∷ register.Seen (Done 4) ∷ register.Seen (Elsewhere 5) ∷ register.Seen (Done 5) ∷ [];
    register = at 6 either (flush_failed ∷ []);
    in_turn = (at 2 (surely 9) [], inl refl, (at 2 (surely 9) (flush_open ∷ []), inl refl, (at 3 (surely 9) (flush_open ∷ []), inl refl, (at 3 (surely 9) (flush_open ∷ write_open 2 ∷ []), inl refl, (at 3 (put 3) (flush_open ∷ []), acts_first, (at 3 either (flush_failed ∷ []), doubts 3, (at 3 either (flush_failed ∷ []), inl refl, (at 4 either (flush_failed ∷ []), inl refl, (at 4 either (flush_failed ∷ []), inl refl, (at 4 either (flush_failed ∷ []), inl refl, (at 5 either (flush_failed ∷ []), inl refl, (at 5 either (flush_failed ∷ []), inl refl, (at 6 either (flush_failed ∷ []), inl refl, (at 6 either (flush_failed ∷ []), inl refl, refl))))))))))))));
    seen = refl;
  };
  second = record {
    events = register.Seen (Elsewhere 1) ∷ register.Seen (CallSight 1 Flushes) ∷ register.Seen (Elsewhere 2) ∷ register.Seen (Done 2) ∷ register.Seen (Elsewhere 3) ∷ register.Seen (Done 3) ∷ register.Seen (Elsewhere 4)
        ∷ register.Seen (CallSight 4 (Writes 1 false)) ∷ register.Unseen Acts ∷ register.Unseen FailsTurn ∷ register.Seen (Done 4) ∷ register.Seen (Elsewhere 5) ∷ register.Seen (CallSight 5 (Reads 9)) ∷ register.Seen (Done 5) ∷ [];
    register = at 6 either (flush_failed ∷ []);
    in_turn = (at 2 (surely 9) [], inl refl, (at 2 (surely 9) (flush_open ∷ []), inl refl, (at 3 (surely 9) (flush_open ∷ []), inl refl, (at 3 (surely 9) (flush_open ∷ []), inl refl, (at 4 (surely 9) (flush_open ∷ []), inl refl, (at 4 (surely 9) (flush_open ∷ []), inl refl, (at 5 (surely 9) (flush_open ∷ []), inl refl, (at 5 (surely 9) (flush_open ∷ write_open 4 ∷ []), inl refl, (at 5 (put 5) (flush_open ∷ []), acts_second, (at 5 either (flush_failed ∷ []), doubts 5, (at 5 either (flush_failed ∷ []), inl refl, (at 6 either (flush_failed ∷ []), inl refl, (at 6 either (flush_failed ∷ []), inl refl, (at 6 either (flush_failed ∷ []), inl refl, refl))))))))))))));
    seen = refl;
  };
  unexplained = unexplained;
}
