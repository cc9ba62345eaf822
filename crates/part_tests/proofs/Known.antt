-- What a client knows, from call to call.
use Rattle.std.proofs.Common.{◌≡◌, ℕ, ◌+◌, Bool, true, false, List, Option, Some, None, refl, sym, subst, ◌∙◌, arith}
use Rattle.std.specs.Prelude.{MatchBool}
use Rattle.srb.specs.declared.DeviceLabel.{DeviceLabel}
use Rattle.sector.specs.declared.Extent.{Extent}
use Rattle.irp.specs.declared.Payload.{Payload}
use Rattle.machine.specs.declared.Request.{Request}
use Rattle.machine.specs.Rules.{Rules}
use Rattle.device.specs.declared.climbing.Climb.{Climb}
use Rattle.hold_filter.proofs.Moving.{run_keeps}
use Rattle.device.specs.View.{DeviceView, Packet}
use Rattle.device.specs.Served.{Moves, Reserves, Submits, Finishes, FinishesNot, Frees, Resets, ResumesAll, HandsUp, TakesLabel}
use Rattle.part_tests.specs.Known.{AreLike, IsKnown, Keeps}

keeps_moves : (v v' : DeviceView) (labels : List DeviceLabel) → Moves v labels v' → Keeps v v'
keeps_moves v v' labels h =
    let k = run_keeps v.rules labels v.state v'.state h.run in
    record { rules = h.same_rules; most = h.same_most; next_request = k.next_request; submitted = h.same_submitted; paused = k.paused; removing = k.removing }

keeps_self : (v : DeviceView) → Keeps v v
keeps_self v = record { rules = refl; most = refl; next_request = refl; submitted = refl; paused = refl; removing = refl }

pub keeps_same : (v v' : DeviceView) → v' ≡ v → Keeps v v'
keeps_same v v' e = subst (λ x. Keeps v x) (sym e) (keeps_self v)

-- what is known stays known
pub known_on : (v v' : DeviceView) (table : List Extent) (next : ℕ) (paused removed : Bool) → Keeps v v' → IsKnown v table next paused removed → IsKnown v' table next paused removed
known_on v v' table next paused removed k r = record {
  rules = subst (λ (x : Rules). AreLike x table) (sym k.rules) r.rules;
  many = let e = k.most in let m = r.many in omega arith;
  numbers = let e = k.next_request in let n = r.numbers in omega arith;
  submitted = let e = k.submitted in let n = r.submitted in omega arith;
  paused_is = k.paused ∙ r.paused_is;
  removing = k.removing ∙ r.removing;
}

pub keeps_reserves : (v v' : DeviceView) → Reserves v v' → Keeps v v'
keeps_reserves v v' h = subst (λ x. Keeps v x) (sym h.same) (record { rules = refl; most = refl; next_request = refl; submitted = refl; paused = refl; removing = refl })

pub keeps_labels : (v v' : DeviceView) (result : Option DeviceLabel) → TakesLabel v result v' → Keeps v v'
keeps_labels v v' None h = keeps_same v v' h.1
keeps_labels v v' (Some label) (rest, first, same) = subst (λ x. Keeps v x) (sym same) (record { rules = refl; most = refl; next_request = refl; submitted = refl; paused = refl; removing = refl })

pub keeps_finishes : (v v' : DeviceView) (tag : ℕ) (result : Bool) → MatchBool result (Finishes v tag v') (FinishesNot v tag v') → Keeps v v'
keeps_finishes v v' tag true h = keeps_moves v v' _ h.moves
keeps_finishes v v' tag false h = keeps_same v v' h.same

pub keeps_resets : (v v' : DeviceView) → Resets v v' → Keeps v v'
keeps_resets v v' h =
    let k = keeps_moves v (record v' { adapter = h.all_faulted }) _ h.moves in
    record { rules = k.rules; most = k.most; next_request = k.next_request; submitted = k.submitted; paused = k.paused; removing = k.removing }

pub keeps_hands : (v v' v'' : DeviceView) (takes : Bool) (climb : Climb) (spot : ℕ) → HandsUp takes v climb spot v' → Frees v' spot v'' → Keeps v v''
keeps_hands v v' v'' takes climb spot h frees =
    let k = keeps_moves _ v' h.left.starts h.left.moves in
    subst (λ x. Keeps v x) (sym frees.same) (record {
      rules = k.rules;
      most = k.most;
      next_request = k.next_request ∙ h.answer.answers.after.next_request;
      submitted = k.submitted;
      paused = k.paused ∙ h.answer.answers.after.paused;
      removing = k.removing ∙ h.answer.answers.after.removing;
    })

pub known_submits : (v v' : DeviceView) (packet : Packet) (request : Request) (payload : Payload) (table : List Extent) (next : ℕ) (paused removed : Bool) → packet.number ≡ next
    → Submits v packet request payload v' → IsKnown v table next paused removed → IsKnown v' table (next + 1) paused removed
known_submits v v' packet request payload table next paused removed is h r =
    let k = keeps_moves _ v' h.starts h.moves in
    record {
      rules = subst (λ (x : Rules). AreLike x table) (sym k.rules) r.rules;
      many = let e = k.most in let m = r.many in omega arith;
      numbers = let e = k.next_request in let f = h.opens.after.next_request in omega arith;
      submitted = let e = k.submitted in let n = r.submitted in omega arith;
      paused_is = k.paused ∙ h.opens.after.paused ∙ r.paused_is;
      removing = k.removing ∙ h.opens.after.removing ∙ r.removing;
    }

pub known_resumes : (v v' : DeviceView) (table : List Extent) (next : ℕ) (paused removed : Bool) → ResumesAll v v' → IsKnown v table next paused removed → IsKnown v' table next false removed
known_resumes v v' table next paused removed h r =
    let k = keeps_moves _ v' h.starts h.moves in
    record {
      rules = subst (λ (x : Rules). AreLike x table) (sym k.rules) r.rules;
      many = let e = k.most in let m = r.many in omega arith;
      numbers = let n = r.numbers in let e = k.next_request in let f = h.resumes.after.next_request in omega arith;
      submitted = let n = r.submitted in let e = k.submitted in omega arith;
      paused_is = k.paused ∙ h.resumes.after.paused;
      removing = k.removing ∙ h.resumes.after.removing ∙ r.removing;
    }
