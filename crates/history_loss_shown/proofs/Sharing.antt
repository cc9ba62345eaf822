-- What sectors share, and one list of what two of them share.
use Rattle.std.proofs.Common.{◌≡◌, ◌<◌, ◌≤◌, ◌⊎◌, inl, inr, ℕ, ◌+◌, Bool, true, false, cond, List, [], ◌∷◌, refl, sym, ◌∙◌, ap, subst, arith, nat_le}
use Rattle.std.specs.Prelude.{All, Contains}
use Rattle.std.proofs.lemmas.Bool.Decides.{leb_tells}
use Rattle.ntstatus.specs.declared.NtStatus.TheVariants.{Success}
use Rattle.machine.specs.declared.ClientRequest.{ClientRequest}
use Rattle.machine.specs.declared.Label.TheVariants.{Call, Device, Answer, Cancel, Pause, Resume, Remove, Surprise, Removed}
use Rattle.machine.specs.Rules.{Rules, place_count}
use Rattle.loss.specs.Held.{Held}
use Rattle.loss.specs.Sessions.{Told, Lost, Ended}
use Rattle.history_loss.specs.Schedules.{Event, Seen, Effect, Fails, IsAdmitted, IsAt, IsNoAnswer, IsNoFailure, IsOpen, above, lines_of, next_number, shared_of, so_far}
use Rattle.history_loss_runs.proofs.Tracking.{all_shared, shared_seen}
use Rattle.history_loss_sights.proofs.Standing.{Called, behind, first_or_behind}
use Rattle.history_loss_shown.proofs.Owning.{Follows}
use Rattle.history_loss_shown.proofs.Stuck.{AreShown}

-- NUMBERS SO FAR

pub record Tidy (past : List Event) : Type 0 where
  pub below : (n : ℕ) (q : ClientRequest) → Called past n q → n < next_number past
  pub one : (n : ℕ) (q r : ClientRequest) → Called past n q → Called past n r → q ≡ r
  pub faults : (n place : ℕ) → Contains past (Fails n place) → n < next_number past

pub tidy_first : Tidy []
tidy_first = record {
  below = λ n q a. let low = a.1 in absurd (omega arith);
  one = λ n q r a b. let low = a.1 in absurd (omega arith);
  faults = λ n place a. let low = a.1 in absurd (omega arith);
}

pub tidy_more : (e : Event) (past : List Event) → ((n : ℕ) (q : ClientRequest) → e ≡ Seen (Told (Call n q)) → ⊥) → ((n place : ℕ) → e ≡ Fails n place → n < next_number past) → next_number (e ∷ past) ≡ next_number past → Tidy past → Tidy (e ∷ past)
tidy_more e past no_call low same t = record {
  below = λ n q a. subst (λ m. n < m) (sym same) (t.below n q (behind e past (Seen (Told (Call n q))) (no_call n q) a));
  one = λ n q r a b. t.one n q r (behind e past (Seen (Told (Call n q))) (no_call n q) a) (behind e past (Seen (Told (Call n r))) (no_call n r) b);
  faults = λ n place a. subst (λ m. n < m) (sym same) (elim (first_or_behind e past (Fails n place) a) [ inl now ↦ low n place now | inr before ↦ t.faults n place before ]);
}

above_at : (n m : ℕ) → n ≡ m → above n m ≡ m + 1
above_at n m is = by_order (leb_tells m n)
  where
    by_order : ((nat_le m n ≡ true) × (m ≤ n)) ⊎ ((nat_le m n ≡ false) × (n < m)) → above n m ≡ m + 1
    by_order (inl low) = ap (λ (b : Bool). cond b (n + 1) m) low.0 ∙ ap (λ k. k + 1) is
    by_order (inr high) = absurd (omega (arith, high.1, is))

pub next_call : (past : List Event) (n : ℕ) (q : ClientRequest) → n ≡ next_number past → next_number (Seen (Told (Call n q)) ∷ past) ≡ next_number past + 1
next_call past n q counts = above_at n (next_number past) counts

pub tidy_call : (past : List Event) (n : ℕ) (q : ClientRequest) → n ≡ next_number past → Tidy past → Tidy (Seen (Told (Call n q)) ∷ past)
tidy_call past n q counts t = record {
  below = λ m r a. elim (this m r a) [
    | inl now ↦ let up = next_call past n q counts in let same = now.0 in omega (arith, up, same, counts)
    | inr before ↦ let up = next_call past n q counts in let low = t.below m r before in omega (arith, up, low)
  ];
  one = λ m r s a b. elim (this m r a) [
    | inl now ↦ elim (this m s b) [ inl now' ↦ now.1 ∙ sym now'.1 | inr before ↦ absurd (old m s now.0 before) ]
    | inr before ↦ elim (this m s b) [ inl now ↦ absurd (old m r now.0 before) | inr before' ↦ t.one m r s before before' ]
  ];
  faults = λ m place a.
      let up = next_call past n q counts in
      let low = t.faults m place (behind (Seen (Told (Call n q))) past (Fails m place) (λ e. cc (e)) a) in
      omega (arith, up, low);
}
  where
    this : (m : ℕ) (r : ClientRequest) → Called (Seen (Told (Call n q)) ∷ past) m r → ((m ≡ n) × (r ≡ q)) ⊎ Called past m r
    this m r a = elim (first_or_behind (Seen (Told (Call n q))) past (Seen (Told (Call m r))) a) [ inl e ↦ inl (cc (e), cc (e)) | inr before ↦ inr before ]

    old : (m : ℕ) (r : ClientRequest) → m ≡ n → Called past m r → ⊥
    old m r same before = let low = t.below m r before in absurd (omega (arith, low, same, counts))

-- WHAT IS SHARED

-- a failure of an open request at one of its places, once, or an answer, before which nothing failed if it is a success
abbrev pub Suits : Rules → List Event → Event → Type 0
Suits rules past (Fails n place) = (q : ClientRequest) × IsOpen past n q × IsAdmitted rules q × (place < place_count rules q) × All (IsNoFailure n place) past
Suits rules past (Seen (Told (Answer n status informed bytes))) = (q : ClientRequest) × IsOpen past n q × (status ≡ Success → (place : ℕ) → place < place_count rules q → All (IsNoFailure n place) past)
Suits rules past (Seen _) = Unit {0}
Suits rules past (Effect n sector) = ⊥

abbrev pub Serves : Rules → List Event → List Event → Type 0
Serves rules past [] = Unit {0}
Serves rules past (e ∷ events) = Suits rules past e × Serves rules (so_far e past) events

-- each failure is at such a sector
abbrev pub IsIn : Rules → (ℕ → Type 0) → List Event → Event → Type 0
IsIn rules P past (Fails n place) = (q : ClientRequest) × Called past n q × ((j : ℕ) × P j × IsAt rules j q place)
IsIn rules P past (Seen line) = Unit {0}
IsIn rules P past (Effect n sector) = Unit {0}

abbrev pub AllIn : Rules → (ℕ → Type 0) → List Event → List Event → Type 0
AllIn rules P past [] = Unit {0}
AllIn rules P past (e ∷ events) = IsIn rules P past e × AllIn rules P (so_far e past) events

-- it shows nothing, and is nowhere at the sector
abbrev pub Foreign : Rules → ℕ → List Event → Event → Type 0
Foreign rules i past (Fails n place) = (q : ClientRequest) × Called past n q × (IsAt rules i q place → ⊥)
Foreign rules i past (Seen line) = ⊥
Foreign rules i past (Effect n sector) = ⊥

-- the second list is the first with failures besides, nowhere at the sector
abbrev pub Extends : Rules → ℕ → List Event → List Event → List Event → Type 0
Extends rules i past a [] = a ≡ []
Extends rules i past a (e ∷ c) = ((a' : List Event) × (a ≡ e ∷ a') × Extends rules i (so_far e past) a' c) ⊎ (Foreign rules i past e × Extends rules i (e ∷ past) a c)

-- WHAT ONE SECTOR SHARES

open_shared : (past : List Event) (n : ℕ) (q : ClientRequest) → IsOpen past n q → IsOpen (shared_of past) n q
open_shared past n q o = record { called = shared_seen past (Told (Call n q)) o.called; awaits = all_shared (IsNoAnswer n) past o.awaits }

pub own_serves : (rules : Rules) (i : ℕ) (events past : List Event) (h : Held) → AreShown (lines_of events) → Follows rules i past h events → Serves rules (shared_of past) (shared_of events)
own_serves rules i [] past h shown f = tt
own_serves rules i (Effect n sector ∷ events) past h shown f = own_serves rules i events (Effect n sector ∷ past) f.0 shown f.3
own_serves rules i (Fails n place ∷ events) past h shown f = (
  (f.1.request, open_shared past n f.1.request f.1.is_open, f.1.admitted, f.1.inside, all_shared (IsNoFailure n place) past f.1.idle.failure),
  own_serves rules i events (Fails n place ∷ past) f.0 shown f.3,
)
own_serves rules i (Seen Lost ∷ events) past h shown f = (tt, own_serves rules i events [] f.0 shown.1 f.3)
own_serves rules i (Seen Ended ∷ events) past h shown f = (tt, own_serves rules i events [] f.0 shown.1 f.3)
own_serves rules i (Seen (Told (Call n q)) ∷ events) past h shown f = (tt, own_serves rules i events (Seen (Told (Call n q)) ∷ past) f.0 shown.1 f.3)
own_serves rules i (Seen (Told (Answer n status informed bytes)) ∷ events) past h shown f = (
  (f.1.request, open_shared past n f.1.request f.1.is_open, λ good place low. all_shared (IsNoFailure n place) past (f.1.sound good place low)),
  own_serves rules i events (Seen (Told (Answer n status informed bytes)) ∷ past) f.0 shown.1 f.3,
)
own_serves rules i (Seen (Told (Device label)) ∷ events) past h shown f = absurd shown.0
own_serves rules i (Seen (Told (Cancel n)) ∷ events) past h shown f = absurd shown.0
own_serves rules i (Seen (Told Pause) ∷ events) past h shown f = absurd shown.0
own_serves rules i (Seen (Told Resume) ∷ events) past h shown f = absurd shown.0
own_serves rules i (Seen (Told Remove) ∷ events) past h shown f = absurd shown.0
own_serves rules i (Seen (Told Surprise) ∷ events) past h shown f = absurd shown.0
own_serves rules i (Seen (Told Removed) ∷ events) past h shown f = absurd shown.0

abbrev pub Is : ℕ → ℕ → Type 0
Is i j = j ≡ i

pub own_in : (rules : Rules) (i : ℕ) (events past : List Event) (h : Held) → AreShown (lines_of events) → Follows rules i past h events → AllIn rules (Is i) (shared_of past) (shared_of events)
own_in rules i [] past h shown f = tt
own_in rules i (Effect n sector ∷ events) past h shown f = own_in rules i events (Effect n sector ∷ past) f.0 shown f.3
own_in rules i (Fails n place ∷ events) past h shown f =
    let own : (q : ClientRequest) × Called past n q × IsAt rules i q place = f.2 in
    ((own.0, shared_seen past (Told (Call n own.0)) own.1, (i, refl, own.2)), own_in rules i events (Fails n place ∷ past) f.0 shown f.3)
own_in rules i (Seen Lost ∷ events) past h shown f = (tt, own_in rules i events [] f.0 shown.1 f.3)
own_in rules i (Seen Ended ∷ events) past h shown f = (tt, own_in rules i events [] f.0 shown.1 f.3)
own_in rules i (Seen (Told (Call n q)) ∷ events) past h shown f = (tt, own_in rules i events (Seen (Told (Call n q)) ∷ past) f.0 shown.1 f.3)
own_in rules i (Seen (Told (Answer n status informed bytes)) ∷ events) past h shown f = (tt, own_in rules i events (Seen (Told (Answer n status informed bytes)) ∷ past) f.0 shown.1 f.3)
own_in rules i (Seen (Told (Device label)) ∷ events) past h shown f = absurd shown.0
own_in rules i (Seen (Told (Cancel n)) ∷ events) past h shown f = absurd shown.0
own_in rules i (Seen (Told Pause) ∷ events) past h shown f = absurd shown.0
own_in rules i (Seen (Told Resume) ∷ events) past h shown f = absurd shown.0
own_in rules i (Seen (Told Remove) ∷ events) past h shown f = absurd shown.0
own_in rules i (Seen (Told Surprise) ∷ events) past h shown f = absurd shown.0
own_in rules i (Seen (Told Removed) ∷ events) past h shown f = absurd shown.0
