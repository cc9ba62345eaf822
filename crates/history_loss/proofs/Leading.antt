-- How events lead a sector along its schedule, beside steps of the machine.
use Rattle.std.proofs.Common.{◌≡◌, ℕ, List, [], ◌∷◌, ◌++◌, Option, Some, None, refl, sym, ◌∙◌, ap, subst, arith}
use Rattle.std.specs.Prelude.{IsNone, All}
use Rattle.ntstatus.specs.declared.NtStatus.{NtStatus}
use Rattle.ntstatus.specs.declared.NtStatus.TheVariants.{Success}
use Rattle.srb.specs.declared.Class.{Class}
use Rattle.srb.specs.declared.Kind.{Kind}
use Rattle.srb.specs.declared.Kind.TheVariants.{Read, Write, Flush}
use Rattle.machine.specs.declared.ClientRequest.{ClientRequest}
use Rattle.machine.specs.declared.Label.TheVariants.{Call, Answer}
use Rattle.machine.specs.Rules.{Rules}
use Rattle.machine.specs.State.{State}
use Rattle.machine.specs.Calling.{Admits, AnswersRefused, Calls, refusal}
use Rattle.machine.specs.Answering.{Answers}
use Rattle.machine.specs.Holding.{Cancels}
use Rattle.machine.specs.Sending.{Returns, Starts}
use Rattle.machine_laws.proofs.Sound.{IsSound}
use Rattle.loss.specs.Held.{Held}
use Rattle.loss.specs.Sessions.{Told}
use Rattle.history_loss.specs.Schedules.{Event, Seen, Effect, Fails, Takes, MayFollow, answered, lines_of, next_number, shared_of, so_far}
use Rattle.history_loss.proofs.Mirroring.{IsFilled, Mirrors}
use Rattle.history_loss.proofs.Sending.{Mirrors-Starts, Mirrors-Returns, Mirrors-Cancels}
use Rattle.history_loss.proofs.Calling.{Mirrors-Calls}
use Rattle.history_loss.proofs.Answering.{Mirrors-Answers, Mirrors-AnswersRefused, answers, answers_refused, flush_ended}
use Rattle.history_loss.proofs.Holding.{Ends, Holds, answer_ends, answer_holds, later_holds, started_ends}

-- from these events, and what the sector holds then, to those
abbrev pub Leads : Rules → ℕ → List Event → Held → List Event → List Event → Held → Type 0
Leads rules i past h [] past' h' = (past ≡ past') × (h ≡ h')
Leads rules i past h (event ∷ events) past' h' = (mid : Held) × Takes rules i past h event mid × Leads rules i (so_far event past) mid events past' h'

-- a state of the machine, and what its table says of the sector, beside the events so far and what the sector holds by them
pub record Stage (rules : Rules) (i : ℕ) (past : List Event) (h : Held) (s : State) (t : Held) : Type 0 where
  pub mirrors : Mirrors rules i past (Ends t h) s
  pub holds : Holds s.next_piece t h

-- events lead to such a stage
pub record Next (rules : Rules) (i : ℕ) (past : List Event) (h : Held) (shared : List Event) (s : State) (t : Held) : Type 0 where
  pub events : List Event
  pub past' : List Event
  pub h' : Held
  pub leads : Leads rules i past h events past' h'
  pub shares : shared_of events ≡ shared
  pub stage : Stage rules i past' h' s t

-- JOINED

pub shared_join : (xs ys : List Event) → shared_of (xs ++ ys) ≡ shared_of xs ++ shared_of ys
shared_join [] ys = refl
shared_join (Seen line ∷ xs) ys = ap (λ zs. Seen line ∷ zs) (shared_join xs ys)
shared_join (Effect number sector ∷ xs) ys = shared_join xs ys
shared_join (Fails number place ∷ xs) ys = ap (λ zs. Fails number place ∷ zs) (shared_join xs ys)

pub lines_join : (xs ys : List Event) → lines_of (xs ++ ys) ≡ lines_of xs ++ lines_of ys
lines_join [] ys = refl
lines_join (Seen line ∷ xs) ys = ap (λ zs. line ∷ zs) (lines_join xs ys)
lines_join (Effect number sector ∷ xs) ys = lines_join xs ys
lines_join (Fails number place ∷ xs) ys = lines_join xs ys

module _ (rules : Rules) (i : ℕ) where
  leads_then : (past : List Event) (h : Held) (xs : List Event) (mid : List Event) (g : Held) (ys past' : List Event) (h' : Held)
      → Leads rules i past h xs mid g → Leads rules i mid g ys past' h' → Leads rules i past h (xs ++ ys) past' h'
  leads_then past h [] mid g ys past' h' a b =
      subst (λ p. Leads rules i p h ys past' h') (sym a.0) (subst (λ x. Leads rules i mid x ys past' h') (sym a.1) b)
  leads_then past h (x ∷ xs) mid g ys past' h' a b = (a.0, a.1, leads_then (so_far x past) a.0 xs mid g ys past' h' a.2 b)

  pub leads_follow : (past : List Event) (h : Held) (xs : List Event) (mid : List Event) (g : Held) (ys : List Event)
      → Leads rules i past h xs mid g → MayFollow rules i mid g ys → MayFollow rules i past h (xs ++ ys)
  leads_follow past h [] mid g ys a b = subst (λ p. MayFollow rules i p h ys) (sym a.0) (subst (λ x. MayFollow rules i mid x ys) (sym a.1) b)
  leads_follow past h (x ∷ xs) mid g ys a b = (a.0, a.1, leads_follow (so_far x past) a.0 xs mid g ys a.2 b)

  pub no_event : (past : List Event) (h : Held) (s : State) (t : Held) → Stage rules i past h s t → Next rules i past h [] s t
  no_event past h s t stage = record { events = []; past' = past; h' = h; leads = (refl, refl); shares = refl; stage = stage }

  -- an event that comes first
  pub first_event : (past : List Event) (h : Held) (e : Event) (mid : Held) (shared : List Event) (s : State) (t : Held)
      → Takes rules i past h e mid → Next rules i (so_far e past) mid shared s t → Next rules i past h (shared_of (e ∷ []) ++ shared) s t
  first_event past h e mid shared s t takes n = record {
    events = e ∷ n.events;
    past' = n.past';
    h' = n.h';
    leads = (mid, takes, n.leads);
    shares = shared_join (e ∷ []) n.events ∙ ap (λ xs. shared_of (e ∷ []) ++ xs) n.shares;
    stage = n.stage;
  }

  pub one_event : (past : List Event) (h : Held) (e : Event) (mid : Held) (s : State) (t : Held)
      → Takes rules i past h e mid → Stage rules i (so_far e past) mid s t → Next rules i past h (shared_of (e ∷ [])) s t
  one_event past h e mid s t takes stage =
      record { events = e ∷ []; past' = so_far e past; h' = mid; leads = (mid, takes, (refl, refl)); shares = refl; stage = stage }

  pub next_then : (past : List Event) (h : Held) (shared shared' : List Event) (s s' : State) (t t' : Held) → (n : Next rules i past h shared s t) → Next rules i n.past' n.h' shared' s' t'
      → Next rules i past h (shared ++ shared') s' t'
  next_then past h shared shared' s s' t t' n m = record {
    events = n.events ++ m.events;
    past' = m.past';
    h' = m.h';
    leads = leads_then past h n.events n.past' n.h' m.events m.past' m.h' n.leads m.leads;
    shares = shared_join n.events m.events ∙ ap (λ xs. xs ++ shared_of m.events) n.shares ∙ ap (λ xs. shared ++ xs) m.shares;
    stage = m.stage;
  }

  pub same_stage : (past : List Event) (h : Held) (s : State) (t t' : Held) → t' ≡ t → Stage rules i past h s t → Stage rules i past h s t'
  same_stage past h s t t' e stage = subst (λ x. Stage rules i past h s x) (sym e) stage

  -- STEPS THAT LEAVE THE TABLE AS IT IS

  module _ (past : List Event) (h : Held) (s : State) (t : Held) (sound : IsSound rules s) (filled : All IsFilled s.pieces) (stage : Stage rules i past h s t) where
    same_holds : (s' : State) → s'.next_piece ≡ s.next_piece → Holds s'.next_piece t h
    same_holds s' e = subst (λ n. Holds n t h) (sym e) stage.holds

    pub calls_next : (number : ℕ) (q : ClientRequest) (s' : State) → IsNone s.owed → Calls rules s number q s' → Next rules i past h (Seen (Told (Call number q)) ∷ []) s' t
    calls_next number q s' free c =
        one_event past h (Seen (Told (Call number q))) h s' t refl
        (record { mirrors = Mirrors-Calls rules i past (Ends t h) s number q s' sound filled free stage.mirrors c; holds = same_holds s' (by_answer (refusal rules s q) c.admits) })
      where
        by_answer : (answer : Option NtStatus) → Admits rules s number q answer s' → s'.next_piece ≡ s.next_piece
        by_answer None a = a.after.next_piece
        by_answer (Some status) a = a.after.next_piece

    pub starts_next : (number tag : ℕ) (block : List ℕ) (s' : State) → IsNone s.owed → Starts rules s number tag block s' → Next rules i past h [] s' t
    starts_next number tag block s' free c =
        no_event past h s' t (record {
          mirrors = Mirrors-Starts rules i past (Ends t h) s number tag block s' sound.0 free (started_ends s.next_piece t h stage.holds) stage.mirrors c;
          holds = later_holds s.next_piece t h s'.next_piece (omega (arith, c.after.next_piece)) stage.holds;
        })

    pub returns_next : (number : ℕ) (class : Class) (s' : State) → IsNone s.owed → Returns s number class s' → Next rules i past h [] s' t
    returns_next number class s' free c =
        no_event past h s' t (record { mirrors = Mirrors-Returns rules i past (Ends t h) s number class s' sound free stage.mirrors c; holds = same_holds s' c.after.next_piece })

    pub cancels_next : (number : ℕ) (s' : State) → IsNone s.owed → Cancels s number s' → Next rules i past h [] s' t
    cancels_next number s' free c =
        no_event past h s' t (record { mirrors = Mirrors-Cancels rules i past (Ends t h) s number s' free stage.mirrors c; holds = same_holds s' c.after.next_piece })

    pub refused_next : (number : ℕ) (status : NtStatus) (informed : ℕ) (bytes : List ℕ) (s' : State) → AnswersRefused s number status informed bytes s'
        → Next rules i past h (Seen (Told (Answer number status informed bytes)) ∷ []) s' t
    refused_next number status informed bytes s' c =
        one_event past h (Seen (Told (Answer number status informed bytes))) h s' t (answers_refused rules i past (Ends t h) h s number status informed bytes s' stage.mirrors c)
        (record { mirrors = Mirrors-AnswersRefused rules i past (Ends t h) s number status informed bytes s' filled stage.mirrors c; holds = same_holds s' c.after.next_piece })

    pub answers_next : (number : ℕ) (status : NtStatus) (informed : ℕ) (bytes : List ℕ) (s' : State) → IsNone s.owed → Answers rules s number status bytes s'
        → Next rules i past h (Seen (Told (Answer number status informed bytes)) ∷ []) s' t
    answers_next number status informed bytes s' free c =
        let h' : Held = answered (next_number past) number c.request.request.kind status h in
        let kept : Holds s.next_piece t h' × ((from other : ℕ) → Ends t h from other → Ends t h' from other) =
        by_kind c.request.request.kind status (flush_ended rules i past (Ends t h) s number status bytes s' sound stage.mirrors c) in
        one_event past h (Seen (Told (Answer number status informed bytes))) h' s' t (answers rules i past (Ends t h) h s number status bytes s' sound stage.mirrors c)
        (record {
          mirrors = Mirrors-Answers rules i past (Ends t h) (Ends t h') kept.1 s number status informed bytes s' sound filled free stage.mirrors c;
          holds = subst (λ n. Holds n t h') (sym c.after.next_piece) kept.0;
        })
      where
        by_kind : (kind : Kind) (status : NtStatus) → (kind ≡ Flush → status ≡ Success → Ends t h 0 number)
            → Holds s.next_piece t (answered (next_number past) number kind status h) × ((from other : ℕ) → Ends t h from other → Ends t (answered (next_number past) number kind status h) from other)
        by_kind Flush Success ends =
            (answer_holds s.next_piece t h (next_number past) number (ends refl refl) stage.holds, λ from other e. answer_ends s.next_piece t h (next_number past) number (ends refl refl) from other e)
        by_kind Flush _ ends = (stage.holds, λ from other e. e)
        by_kind Read status ends = (stage.holds, λ from other e. e)
        by_kind Write status ends = (stage.holds, λ from other e. e)
