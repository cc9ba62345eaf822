-- A history with bytes in its gaps has the calls and the answers that it had without.
use Rattle.std.proofs.Common.{◌≡◌, inl, inr, ℕ, Bool, true, false, List, [], ◌∷◌, refl, sym, ◌∙◌, ap, arith}
use Rattle.std.specs.Prelude.{Contains}
use Rattle.ntstatus.specs.declared.NtStatus.{NtStatus}
use Rattle.srb.specs.declared.Kind.{Kind}
use Rattle.machine.specs.declared.ClientRequest.{ClientRequest}
use Rattle.machine.specs.declared.Label.{Label}
use Rattle.machine.specs.declared.Label.TheVariants.{Call, Answer}
use Rattle.history_laws.proofs.Mirroring.{further}
use Rattle.history_runs.specs.Laws.{IsBusyWrite}
use Rattle.history.specs.Gaps.{with_bytes, IsFilled, AreFilled}
use Rattle.history_shown.proofs.Turning.{in_front}

-- a call of this number and kind
abbrev IsCallOf : ℕ → Kind → Label → Type 0
IsCallOf n kind label = (q : ClientRequest) × (label ≡ Call n q) × (q.kind ≡ kind)

abbrev IsAnswerWith : ℕ → NtStatus → ℕ → Label → Type 0
IsAnswerWith n status informed label = (bytes : List ℕ) × (label ≡ Answer n status informed bytes)

call_with : (n : ℕ) (q : ClientRequest) (label : Label) (bytes : List ℕ) → with_bytes label bytes ≡ Call n q → IsCallOf n q.kind label
call_with n q (Call m r) bytes e =
    let number : m ≡ n = cc (e) in
    let same : record r { bytes = bytes } ≡ q = cc (e) in
    (r, ap (λ k. Call k r) number, ap (λ s. s.kind) same)
call_with n q _ bytes e = absurd (cc (e))

answer_with : (n : ℕ) (status : NtStatus) (informed : ℕ) (told : List ℕ) (label : Label) (bytes : List ℕ) → with_bytes label bytes ≡ Answer n status informed told → IsAnswerWith n status informed label
answer_with n status informed told (Answer m other count had) bytes e =
    let number : m ≡ n = cc (e) in
    let same : other ≡ status = cc (e) in
    let many : count ≡ informed = cc (e) in
    (had, ap (λ k. Answer k other count had) number ∙ ap (λ s. Answer n s count had) same ∙ ap (λ c. Answer n status c had) many)
answer_with n status informed told _ bytes e = absurd (cc (e))

call_before : (gap : Bool) (label whole : Label) (n : ℕ) (q : ClientRequest) → IsFilled gap label whole → whole ≡ Call n q → IsCallOf n q.kind label
call_before false label whole n q filled e = (q, sym filled ∙ e, refl)
call_before true label whole n q filled e = call_with n q label filled.bytes (sym filled.is ∙ e)

answer_before : (gap : Bool) (label whole : Label) (n : ℕ) (status : NtStatus) (informed : ℕ) (bytes : List ℕ) → IsFilled gap label whole → whole ≡ Answer n status informed bytes → IsAnswerWith n status informed label
answer_before false label whole n status informed bytes filled e = (bytes, sym filled ∙ e)
answer_before true label whole n status informed bytes filled e = answer_with n status informed bytes label filled.bytes (sym filled.is ∙ e)

-- what is so of a label is so of one of the labels
called : (gaps : List Bool) (labels wholes : List Label) → AreFilled gaps labels wholes → (n : ℕ) (q : ClientRequest) → Contains wholes (Call n q)
    → (r : ClientRequest) × Contains labels (Call n r) × (r.kind ≡ q.kind)
called [] [] [] filled n q (k, low, is) = absurd (omega arith)
called (gap ∷ gaps) (label ∷ labels) (whole ∷ wholes) filled n q there = elim (in_front whole wholes (Call n q) there) [
  | inl now ↦ let c = call_before gap label whole n q filled.0 now in (c.0, (0, omega arith, c.1), c.2)
  | inr later ↦ let c = called gaps labels wholes filled.1 n q later in (c.0, further label labels (Call n c.0) c.1, c.2)
]
called _ _ _ filled n q there = absurd filled

answered : (gaps : List Bool) (labels wholes : List Label) → AreFilled gaps labels wholes → (n : ℕ) (status : NtStatus) (informed : ℕ) (bytes : List ℕ) → Contains wholes (Answer n status informed bytes)
    → (had : List ℕ) × Contains labels (Answer n status informed had)
answered [] [] [] filled n status informed bytes (k, low, is) = absurd (omega arith)
answered (gap ∷ gaps) (label ∷ labels) (whole ∷ wholes) filled n status informed bytes there = elim (in_front whole wholes (Answer n status informed bytes) there) [
  | inl now ↦ let a = answer_before gap label whole n status informed bytes filled.0 now in (a.0, (0, omega arith, a.1))
  | inr later ↦ let a = answered gaps labels wholes filled.1 n status informed bytes later in (a.0, further label labels (Answer n status informed a.0) a.1)
]
answered _ _ _ filled n status informed bytes there = absurd filled

-- so no write is answered DEVICE_BUSY in it, where none was
pub none_busy : (gaps : List Bool) (history whole : List Label) → AreFilled gaps history whole → ((n : ℕ) (q : ClientRequest) → IsBusyWrite history n q → ⊥)
    → (n : ℕ) (q : ClientRequest) → IsBusyWrite whole n q → ⊥
none_busy gaps history whole filled none n q busy =
    let call = called gaps history whole filled n q busy.called in
    let answer = answered gaps history whole filled n _ busy.informed busy.bytes busy.answered in
    none n call.0 (record { is_write = call.2 ∙ busy.is_write; called = call.1; informed = busy.informed; bytes = answer.0; answered = answer.1 })
