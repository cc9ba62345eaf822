-- What a spot is reserved for.
use Rattle.std.proofs.Common.{◌≡◌, ◌∙◌, ap, sym, ℕ, List, Option, Some}
use Rattle.machine.specs.declared.Request.{Request}
use Rattle.device.specs.View.{Reserved, room_at, request_at, request_of, IsReady, whole_for}

pub asked_at : (rooms : List (Option Reserved)) (spot : ℕ) (request : Request) → room_at rooms spot ≡ Some (whole_for request)
    → request_at rooms spot ≡ request
asked_at rooms spot request reserved = ap request_of reserved

pub ready_at : (rooms : List (Option Reserved)) (spot : ℕ) (request : Request) → room_at rooms spot ≡ Some (whole_for request)
    → IsReady rooms spot
ready_at rooms spot request reserved = reserved ∙ ap (λ r. Some (whole_for r)) (sym (asked_at rooms spot request reserved))
