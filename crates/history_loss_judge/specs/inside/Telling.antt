-- What a label tells one of the sectors of its request.
use Rattle.std.specs.Prelude.{◌≡◌, ℕ, Bool, true, List, ◌++◌, Option, length}
use Rattle.std.specs.List.{list_any}
use Rattle.machine.specs.declared.ClientRequest.{ClientRequest}
use Rattle.machine.specs.declared.Label.{Label}
use Rattle.machine.specs.declared.Label.TheVariants.{Call, Answer}
use Rattle.machine.specs.Rules.{Rules}
use Rattle.register.specs.Values.{code}
use Rattle.history_loss_kept.specs.declared.Wait.{Wait}
use Rattle.history_loss_kept.specs.declared.Own.{Own}
use Rattle.history_loss_kept.specs.declared.Shared.{Shared}
use Rattle.history_loss_kept.specs.Kept.{Session, call_of, call_wait, is_sync_of, step}
use Rattle.history_loss_sights.specs.Sights.{has_sector, place_of}
use Rattle.history_loss_sector.specs.Seen.{SeenView, IsOnce}

-- the call shows this of each sector that lies at the place
abbrev pub IsWaitOf : Rules → ℕ → ℕ → ClientRequest → Option Wait → Type 0
IsWaitOf rules place n q wait = (i : ℕ) → place_of rules i q ≡ place → wait ≡ call_wait code rules i n q q.kind

-- what all sectors see, behind a call
abbrev pub shared_called : Label → List Shared → List Shared
shared_called (Call n q) shared = shared ++ call_of n q.kind q.through
shared_called _ shared = shared

-- a call that moves sector i, which lies at this place; or an answer, in whose session so much came before
abbrev pub IsToldOf : Rules → ℕ → ℕ → List Shared → List Own → ℕ → Bool → Label → Type 0
IsToldOf rules i place shared own behind is_sync (Call n q) =
    (has_sector rules i q ≡ true) × (place_of rules i q ≡ place) × (length (shared_called (Call n q) shared) ≡ behind)
IsToldOf rules i place shared own behind is_sync (Answer n status informed bytes) =
    (length shared ≡ behind) × (list_any (is_sync_of n) shared ≡ is_sync) × IsOnce n own
IsToldOf rules i place shared own behind is_sync _ = Unit {0}

abbrev pub session_of : List Shared → SeenView → Session
session_of shared seen = record { shared = shared; own = seen.own }

-- sector i, one label more
abbrev pub behind_label : Rules → ℕ → List Shared → Label → SeenView → SeenView
behind_label rules i shared label seen = record seen { own = (step code rules i (session_of shared seen) label).own }
