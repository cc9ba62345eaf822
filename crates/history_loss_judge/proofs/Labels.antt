-- What a label tells one of the sectors of its request.
use Rattle.std.proofs.Common.{◌≡◌, ℕ, ◌+◌, ◌-◌, ◌*◌, Bool, List, Option, Some, None, Result, Ok, Err, refl, sym, ◌∙◌, ap, subst, arith, length, take, drop, add-mul, one-mul, OnOk}
use Rattle.std.specs.Prelude.{if◌then◌else◌}
use Rattle.srb.specs.declared.Kind.TheVariants.{Read, Write, Flush}
use Rattle.ntstatus.specs.declared.NtStatus.{NtStatus}
use Rattle.machine.specs.declared.ClientRequest.{ClientRequest}
use Rattle.machine.specs.declared.Label.{Label}
use Rattle.machine.specs.declared.Label.TheVariants.{Call, Answer}
use Rattle.machine.specs.Rules.{Rules}
use Rattle.loss.specs.Laws.{value_for}
use Rattle.register.specs.Values.{code}
use Rattle.register_loss.specs.declared.What.TheVariants.{Write as Writes}
use Rattle.register_loss.specs.declared.Sight.TheVariants.{Call as CallSight}
use Rattle.history_loss_kept.specs.declared.Wait.{Wait}
use Rattle.history_loss_kept.specs.declared.Wait.TheVariants.{Known, Awaits}
use Rattle.history_loss_kept.specs.declared.Own.{Own}
use Rattle.history_loss_kept.specs.declared.Shared.{Shared}
use Rattle.history_loss_kept.specs.Kept.{call_wait, own_after_answer, with_last}
use Rattle.history_loss_sights.specs.Sights.{has_sector, place_of, success_bytes}
use Rattle.history_loss_sector.specs.Seen.{SeenView}
use Rattle.history_fitting.specs.Services.{sector_in}
use Rattle.history_loss_judge.specs.inside.Telling.{IsToldOf, IsWaitOf, behind_label, shared_called}

pub on_ok : {T E : Type 0} {P Q : Type 0} (r : Result T E) → (P → Q) → OnOk r P → OnOk r Q
on_ok (Ok x) f h = f h
on_ok (Err fault) f h = tt

pub on_both : {T E : Type 0} {P Q S : Type 0} (r : Result T E) → (P → Q → S) → OnOk r P → OnOk r Q → OnOk r S
on_both (Ok x) f h k = f h k
on_both (Err fault) f h k = tt

-- WHAT A CALL SHOWS

range_is : (size place : ℕ) (bytes : List ℕ) → sector_in size bytes place ≡ take size (drop (place * size) bytes)
range_is size place bytes =
    let e : (place + 1) * size ≡ place * size + 1 * size = add-mul place 1 size in
    let o : 1 * size ≡ size = one-mul size in
    let d : (place + 1) * size - place * size ≡ size = omega (arith, e, o) in
    ap (λ n. take n (drop (place * size) bytes)) d

write_is : (rules : Rules) (i place n : ℕ) (q : ClientRequest) (value : ℕ) → value ≡ code (sector_in rules.sector_size q.bytes place) → place_of rules i q ≡ place
    → Some (Known (CallSight n (Writes value q.through))) ≡ call_wait code rules i n q Write
write_is rules i place n q value is at =
    ap (λ v. Some (Known (CallSight n (Writes v q.through)))) (is ∙ ap code (range_is rules.sector_size place q.bytes) ∙ ap (λ p. code (value_for rules q p)) (sym at))

pub write_wait : (rules : Rules) (place n : ℕ) (q : ClientRequest) (value : ℕ) → q.kind ≡ Write → value ≡ code (sector_in rules.sector_size q.bytes place) → IsWaitOf rules place n q (Some (Known (CallSight n (Writes value q.through))))
write_wait rules place n q value kind is = λ i at.
    subst (λ k. Some (Known (CallSight n (Writes value q.through))) ≡ call_wait code rules i n q k) (sym kind) (write_is rules i place n q value is at)

pub read_wait : (rules : Rules) (place n : ℕ) (q : ClientRequest) → q.kind ≡ Read → IsWaitOf rules place n q (Some (Awaits n place))
read_wait rules place n q kind = λ i at.
    subst (λ k. Some (Awaits n place) ≡ call_wait code rules i n q k) (sym kind) (ap (λ p. Some (Awaits n p)) (sym at))

pub flush_wait : (rules : Rules) (place n : ℕ) (q : ClientRequest) → q.kind ≡ Flush → IsWaitOf rules place n q None
flush_wait rules place n q kind = λ i at. subst (λ k. None ≡ call_wait code rules i n q k) (sym kind) refl

-- WHAT A LABEL TELLS

abbrev pub with_own : SeenView → List Own → SeenView
with_own seen own = record { start = seen.start; all = seen.all; steady = seen.steady; own = own }

own_called : (rules : Rules) (i place behind : ℕ) (is_sync : Bool) (shared : List Shared) (n : ℕ) (q : ClientRequest) (own : List Own) (wait : Option Wait) → IsToldOf rules i place shared own behind is_sync (Call n q)
    → IsWaitOf rules place n q wait → with_last behind wait own ≡ (if has_sector rules i q then with_last (length (shared_called (Call n q) shared)) (call_wait code rules i n q q.kind) own else own)
own_called rules i place behind is_sync shared n q own wait told is =
    ap (λ b. with_last b wait own) (sym told.2)
    ∙ ap (λ w. with_last (length (shared_called (Call n q) shared)) w own) (is i told.1)
    ∙ ap (λ b. if b then with_last (length (shared_called (Call n q) shared)) (call_wait code rules i n q q.kind) own else own) (sym told.0)

pub called_is : (rules : Rules) (i place behind : ℕ) (is_sync : Bool) (shared : List Shared) (n : ℕ) (q : ClientRequest) (label : Label) (seen new : SeenView) (wait : Option Wait) → label ≡ Call n q
    → IsToldOf rules i place shared seen.own behind is_sync label → IsWaitOf rules place n q wait → new ≡ with_own seen (with_last behind wait seen.own) → new ≡ behind_label rules i shared label seen
called_is rules i place behind is_sync shared n q label seen new wait is told shows after =
    subst (λ l. IsToldOf rules i place shared seen.own behind is_sync l → new ≡ behind_label rules i shared l seen) (sym is)
    (λ told'. after ∙ ap (with_own seen) (own_called rules i place behind is_sync shared n q seen.own wait told' shows)) told

pub answered_is : (rules : Rules) (i place behind : ℕ) (is_sync : Bool) (shared : List Shared) (n : ℕ) (status : NtStatus) (informed : ℕ) (bytes : List ℕ) (label : Label) (seen new : SeenView) → label ≡ Answer n status informed bytes
    → new ≡ with_own seen new.own → new.own ≡ own_after_answer code rules n shared status (success_bytes status bytes) seen.own → new ≡ behind_label rules i shared label seen
answered_is rules i place behind is_sync shared n status informed bytes label seen new is others own =
    subst (λ l. new ≡ behind_label rules i shared l seen) (sym is) (others ∙ ap (with_own seen) own)
