-- Open requests of the port, by where their packets are.
use Rattle.std.proofs.Common.{◌≡◌, ◌<◌, ℕ, zero, suc, ◌+◌, ◌-◌, Bool, true, false, not, List, [], ◌∷◌, refl, ap, ◌∙◌, arith, map, length, replicate}
use Rattle.std.specs.Prelude.{All, Any, IsTrue, slice_range}
use Rattle.std.specs.List.{list_all, list_any}
use Rattle.std.proofs.lemmas.List.{length-map, get_or-map}
use Rattle.std.proofs.lemmas.List.Elements.{All-replicate, All-take, All-drop}
use Rattle.srb.specs.declared.Class.TheVariants.{Good, Busy, Bad}
use Rattle.machine.specs.Rules.{Rules}
use Rattle.machine.specs.State.{Mark, Untouched, Out, Done, Failed, Back}
use Rattle.machine.specs.Sending.{is_untouched, is_started, IsUnsent}
use Rattle.machine.specs.Settled.{is_out}
use Rattle.port.specs.declared.queues.Ended.{Ended}
use Rattle.port.specs.declared.queues.Outcome.{Outcome}
use Rattle.port.specs.declared.queues.Outcome.TheVariants.{Returned, Withdrawn, Gone}
use Rattle.port.specs.Shown.{marks_left, places_of, done_open}
use Rattle.device.specs.Served.{sectors_moved}
use Rattle.port.proofs.Lists.{length-cut}

pub Any-map : {X Y : Type 0} (f : X → Y) (P : Y → Type 0) (xs : List X) → Any (λ x. P (f x)) xs → Any P (map f xs)
Any-map f P xs (k, x, low, is, h) =
    let n = length-map xs f in
    (k, f x, omega arith, get_or-map f xs k x (f x) low ∙ ap f is, h)

pub untouched_all : (n : ℕ) → list_all is_untouched (replicate n Untouched) ≡ true
untouched_all zero = refl
untouched_all (suc n) = untouched_all n

pub all_unsent : (n : ℕ) → All IsUnsent (slice_range (replicate n Untouched) 0 (0 + n))
all_unsent n = All-take IsUnsent (0 + n - 0) _ (All-drop IsUnsent 0 (replicate n Untouched) (All-replicate IsUnsent n Untouched refl))

-- marks that begin with one that is not untouched
pub started_by : (marks : List Mark) (mark : Mark) (n : ℕ) → 0 < n → is_untouched mark ≡ false → marks ≡ replicate n mark → not (list_all is_untouched marks) ≡ true
started_by marks mark zero some differs is = absurd (omega arith)
started_by marks mark (suc n) some differs is = rw (is, differs) refl

pub out_by : (n : ℕ) → 0 < n → list_any is_out (replicate n Out) ≡ true
out_by zero some = absurd (omega arith)
out_by (suc n) some = refl

pub done_started : (sectors : List (List ℕ)) → 0 < length sectors → not (list_all is_untouched (map Done sectors)) ≡ true
done_started [] some = absurd (omega arith)
done_started (x ∷ xs) some = refl

pub true_false : {P : Type 0} (b : Bool) → b ≡ true → b ≡ false → P
true_false true h k = absurd (cc (k))
true_false false h k = absurd (cc (h))

-- what ended was started, or cancelled, or waited at a removal
pub ended_started : (rules : Rules) (d : Ended) → 0 < places_of rules d.request
    → (d.outcome ≡ Withdrawn → IsTrue d.irp.value.cancelled) → (d.outcome ≡ Gone → ⊥) → d.irp.value.cancelled ≡ false → is_started (done_open rules d) ≡ true
ended_started rules d some withdrawn stays timely = by_outcome d.outcome refl
  where
    by_outcome : (outcome : Outcome) → d.outcome ≡ outcome → not (list_all is_untouched (marks_left rules d.request d.irp.value.payload d.outcome)) ≡ true
    by_outcome (Returned Good) is = rw is (done_started (sectors_moved rules d.request d.irp.value.payload) (rw length-cut some))
    by_outcome (Returned Busy) is = rw is (started_by _ Back _ some refl refl)
    by_outcome (Returned (Bad completion)) is = rw is (started_by _ (Failed _) _ some refl refl)
    by_outcome Withdrawn is = true_false d.irp.value.cancelled (withdrawn is) timely
    by_outcome Gone is = absurd (stays is)
