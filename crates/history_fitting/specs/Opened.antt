-- Open requests by their numbers, and what is known of the calls so far.
use Rattle.std.specs.Prelude.{◌≡◌, ◌≤◌, ℕ, suc, ◌+◌, ◌==◌, ◌&&◌, Bool, true, false, List, [], Option, Some, None, length, is_none, option_map, slice_get}
use Rattle.std.specs.Ordering.{nat_cmp}
use Rattle.std.specs.BTreeMap.{BTreeMap, get}
use Rattle.ntstatus.specs.declared.NtStatus.{NtStatus}
use Rattle.ntstatus.specs.declared.NtStatus.TheVariants.{Success}
use Rattle.ntstatus.specs.Codes.{value_of}
use Rattle.machine.specs.declared.ClientRequest.{ClientRequest}
use Rattle.machine.specs.declared.Label.{Label}
use Rattle.machine.specs.declared.Label.TheVariants.{Call, Answer}
use Rattle.machine.specs.Rules.{Rules}
use Rattle.history_laws.specs.declared.Asked.{Asked}
use Rattle.history_laws.specs.Fitting.{asked_of, brought, carried, ends, refused}
use Rattle.history_fitting.specs.declared.fitting.Known.{Known}

-- the open request of a number
abbrev pub opened_at : BTreeMap ℕ ClientRequest → ℕ → Option ClientRequest
opened_at opened n = get nat_cmp opened n

-- a request without its bytes
abbrev pub bare : ClientRequest → ClientRequest
bare q = record q { bytes = [] }

-- the request is open, and may be answered so
abbrev pub ends_request : Option ClientRequest → NtStatus → ℕ → ℕ → Bool
ends_request None status informed count = false
ends_request (Some q) status informed count = ends (asked_of q) status informed count

abbrev pub ends_owed : ℕ → ℕ → NtStatus → ℕ → ℕ → NtStatus → Bool
ends_owed calls n status informed count owed = (n == calls) && ((value_of status == value_of owed) && ((informed == 0) && (count == 0)))

abbrev pub may_end : Known → Option NtStatus → ℕ → NtStatus → ℕ → ℕ → Bool
may_end known None n status informed count = ends_request (opened_at known.opened n) status informed count
may_end known (Some owed) n status informed count = ends_owed known.calls n status informed count owed

-- the label may come behind these calls
abbrev pub may_come : Rules → Known → Label → Bool
may_come rules known (Call n q) = is_none known.owed && ((n == known.calls + 1) && (length q.bytes == carried (refused rules q) q))
may_come rules known (Answer n status informed bytes) = may_end known known.owed n status informed (length bytes)
may_come rules known _ = true

-- the number of bytes that an answer owes
abbrev pub brought_to : Option ClientRequest → NtStatus → ℕ
brought_to (Some q) Success = brought q.kind q.length
brought_to _ _ = 0

abbrev pub due : Known → Option NtStatus → ℕ → NtStatus → ℕ
due known None n status = brought_to (opened_at known.opened n) status
due known (Some owed) n status = 0

-- a label whose bytes were not recorded may come behind these calls, with as many as are due
abbrev pub may_come_blank : Known → Label → Bool
may_come_blank known (Call n q) = (length q.bytes == 0) && (is_none known.owed && (n == known.calls + 1))
may_come_blank known (Answer n status informed bytes) = (length bytes == 0) && may_end known known.owed n status informed (due known known.owed n status)
may_come_blank known _ = true

abbrev pub may_come_by : Bool → Rules → Known → Label → Bool
may_come_by false rules known label = may_come rules known label
may_come_by true rules known label = may_come_blank known label

-- there is something else at one number
pub record Puts (old : BTreeMap ℕ ClientRequest) (n : ℕ) (found : Option ClientRequest) (new : BTreeMap ℕ ClientRequest) : Type 0 where
  pub here : opened_at new n ≡ found
  pub others : (m : ℕ) → (m ≡ n → ⊥) → opened_at new m ≡ opened_at old m

-- a request is opened unless it was refused
abbrev pub PutsCall : Option NtStatus → BTreeMap ℕ ClientRequest → ℕ → ClientRequest → BTreeMap ℕ ClientRequest → Type 0
PutsCall None old n q new = Puts old n (Some (bare q)) new
PutsCall (Some status) old n q new = new ≡ old

-- and closed unless it was
abbrev pub PutsAnswer : Option NtStatus → BTreeMap ℕ ClientRequest → ℕ → BTreeMap ℕ ClientRequest → Type 0
PutsAnswer None old n new = Puts old n None new
PutsAnswer (Some owed) old n new = new ≡ old

abbrev pub Takes : Rules → Known → Label → Known → Type 0
Takes rules old (Call n q) new = (new.calls ≡ n) × (new.owed ≡ refused rules q) × PutsCall (refused rules q) old.opened n q new.opened
Takes rules old (Answer n status informed bytes) new = (new.calls ≡ old.calls) × (new.owed ≡ None) × PutsAnswer old.owed old.opened n new.opened
Takes rules old _ new = new ≡ old

abbrev pub flat : Option (Option Asked) → Option Asked
flat None = None
flat (Some asked) = asked

-- just what was asked and isn't answered is open
pub record AreOpen (asked : List (Option Asked)) (known : Known) : Type 0 where
  pub count : length asked ≡ suc known.calls
  pub is : (n : ℕ) → flat (slice_get asked n) ≡ option_map asked_of (opened_at known.opened n)
  pub owing : (status : NtStatus) → known.owed ≡ Some status → opened_at known.opened known.calls ≡ None

-- the first number that no request had which was taken in
abbrev pub first_fresh : Option NtStatus → ℕ → ℕ
first_fresh None calls = suc calls
first_fresh (Some status) calls = calls

-- the request is open, or was never taken in
abbrev pub IsFresh : Known → ℕ → Type 0
IsFresh known n = opened_at known.opened n ≡ None → first_fresh known.owed known.calls ≤ n
