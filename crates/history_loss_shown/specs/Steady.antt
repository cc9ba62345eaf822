-- What a history over sessions shows of a sector where no sync fails: one that does not succeed is left out.
use Rattle.std.specs.Prelude.{◌≡◌, ◌⊎◌, ℕ, false, List, [], ◌∷◌, ◌++◌, Option, Some, None, is_none, map, Bool}
use Rattle.srb.specs.declared.Kind.{Kind}
use Rattle.machine.specs.declared.ClientRequest.{ClientRequest}
use Rattle.machine.specs.declared.Label.TheVariants.{Call, Answer}
use Rattle.machine.specs.Rules.{Rules}
use Rattle.loss.specs.Sessions.{Line, Told, Lost, Ended}
use Rattle.register_loss.specs.declared.What.{What}
use Rattle.register_loss.specs.declared.Sight.{Sight}
use Rattle.register_loss.specs.declared.Sight.TheVariants.{Call as CallSight, Elsewhere, Lost as LostSight, Ended as EndedSight}
use Rattle.history_loss_sights.specs.Sights.{end_of, moves_of, success_of, syncs}

abbrev pub steady_syncs : Bool → Kind → Option (List ℕ) → List What
steady_syncs through kind None = []
steady_syncs through kind (Some bytes) = syncs through kind

-- what a request is to do, by the bytes of its answer, if it succeeds
abbrev pub steady_whats : (List ℕ → ℕ) → Rules → ℕ → ClientRequest → Option (List ℕ) → List What
steady_whats code rules i q answer = steady_syncs q.through q.kind answer ++ moves_of code rules i q answer

-- what lines show
abbrev pub steady_sights_of : (List ℕ → ℕ) → Rules → ℕ → List Line → List Sight
steady_sights_of code rules i [] = []
steady_sights_of code rules i (Lost ∷ lines) = LostSight ∷ steady_sights_of code rules i lines
steady_sights_of code rules i (Ended ∷ lines) = EndedSight ∷ steady_sights_of code rules i lines
steady_sights_of code rules i (Told (Call n q) ∷ lines) = Elsewhere n ∷ (map (CallSight n) (steady_whats code rules i q (success_of n lines)) ++ steady_sights_of code rules i lines)
steady_sights_of code rules i (Told (Answer n status informed bytes) ∷ lines) = end_of n status ∷ steady_sights_of code rules i lines
steady_sights_of code rules i (Told _ ∷ lines) = steady_sights_of code rules i lines

-- each call is of no sync, or succeeds in its session
abbrev pub AllSynced : List Line → Type 0
AllSynced [] = Unit {0}
AllSynced (Told (Call n q) ∷ lines) = ((syncs q.through q.kind ≡ []) ⊎ (is_none (success_of n lines) ≡ false)) × AllSynced lines
AllSynced (_ ∷ lines) = AllSynced lines
