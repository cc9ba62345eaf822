-- What a host is opened with.
use Rattle.host.proofs.Common.{◌≡◌, ℕ, zero, suc, ◌+◌, ◌≤◌, List, length, map, replicate, Some, refl, sym, ap, ◌∙◌, subst, arith, All-nil, All-cons, slice_get-get_or, slice_get_within, TableId, ManagerView, StackSizes, AreOpened, IsNew, AreSizes, sizes_of, IsClientPass, IsOpening, IsReady, client_limit, ticket_limit}
use Rattle.std.specs.Prelude.{All, IsFalse, max, slice_index_or}
use Rattle.machine.specs.State.{State}
use Rattle.pnp.specs.declared.State.TheVariants.{Started}
use Rattle.io_manager.specs.Right.{pnp_state}
use Rattle.io_manager.specs.declared.Handle.{Handle}
use Rattle.remove_lock.specs.Gate.{Standing, issued, standing, fresh}
use Rattle.cancel_marks.specs.Marks.{Standing as SeatStanding, standing as seat_of, starting, IsOther}

-- PASSES

all_same : (gate : TableId) (n : ℕ) → All (IsClientPass gate) (map (λ q. standing gate (fresh q)) (replicate n ticket_limit))
all_same gate zero = All-nil (IsClientPass gate)
all_same gate (suc n) = All-cons (IsClientPass gate) (standing gate (fresh ticket_limit)) (map (λ q. standing gate (fresh q)) (replicate n ticket_limit)) refl (all_same gate n)

pub passes_are : (gate : TableId) (n : ℕ) (quotas : List ℕ) (passes : List Standing) → passes ≡ issued gate quotas → quotas ≡ replicate n ticket_limit → All (IsClientPass gate) passes
passes_are gate n quotas passes is equal = subst (All (IsClientPass gate)) (sym (is ∙ ap (issued gate) equal)) (all_same gate n)

-- A STACK THAT IS READY

opens_first : (v : ManagerView) → IsNew v → IsOpening v.state
opens_first v new = subst IsOpening (sym new.state) refl

pub is_ready : (partitions : List ℕ) (old stack : ManagerView) (handles : List Handle) (sizes : StackSizes) (slots parts steps : ℕ) (marks : TableId × ℕ) (owner : SeatStanding) (seats : List SeatStanding) (gate : TableId) (passes : List Standing)
    → length partitions ≤ client_limit → IsNew old → AreOpened partitions handles old stack → IsFalse stack.adapter.faithful → sizes ≡ sizes_of old.rules → AreSizes sizes → old.rules.open_requests ≡ Some slots → parts ≡ length partitions + 1 → steps ≡ 1
    → marks.1 ≡ slots → owner ≡ seat_of marks.0 0 (starting (max slots 1)) → length seats ≡ length partitions → All (IsOther marks.0) seats → length passes ≡ length partitions + 1 → All (IsClientPass gate) passes
    → IsReady partitions stack handles sizes slots parts steps marks owner seats gate passes
is_ready partitions old stack handles sizes slots parts steps marks owner seats gate passes few new opened apart same are as_many parts_is steps_is slots_is owner_is count_seats are_seats count_passes are_passes = record {
  few = few;
  first = opened.first;
  opens = subst IsOpening (sym opened.same_state) (opens_first old new);
  apart = apart;
  clients = opened.clients;
  given = record {
    count = opened.given.count;
    each = λ c handle at. (opened.given.number c handle at, opened.given.opened c handle (slice_index_or partitions c 0) at (slice_get-get_or partitions c 0 (let w = slice_get_within handles c handle at in let n = opened.given.count in omega arith)));
  };
  as_many = ap (λ r. r.open_requests) opened.same_rules ∙ as_many;
  same_sizes = same ∙ ap sizes_of (sym opened.same_rules);
  are_sizes = are;
  parts_is = parts_is;
  steps_is = steps_is;
  slots_is = slots_is;
  owner_is = owner_is;
  count_seats = count_seats;
  are_seats = are_seats;
  count_passes = count_passes;
  are_passes = are_passes;
}

pub marks_are : (marks : TableId × ℕ) (table : TableId) (slots : ℕ) → marks.0 ≡ table → marks.1 ≡ slots → marks ≡ (table, slots)
marks_are marks table slots first second = ap (λ (t : TableId). (t, marks.1)) first ∙ ap (λ (n : ℕ). (table, n)) second

-- a device of which nothing was asked is at work
pub started_first : (s : State) → IsOpening s → pnp_state s ≡ Started
started_first s opens = ap pnp_state opens
