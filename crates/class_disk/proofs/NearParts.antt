-- What the adapter reserves for the parts of a request.
use Rattle.std.proofs.Common.{◌≡◌, ℕ, ◌+◌, ◌*◌, Bool, true, false, if◌then◌else◌, Some, subst, arith}
use Rattle.class_disk.proofs.Common.{IsIn, piece_of, Request, Rules, home, is_transfer, DeviceView, sectors_asked, Reserves, ReservesNear, home_further, near_part, part_request_of, TableView, view_of}

-- the sectors that a part asks for are some of its request's
part_inside : (rules : Rules) (limit : ℕ) (r : Request) (k sector : ℕ) → IsIn sector (sectors_asked rules (part_request_of limit r k)) → IsIn sector (sectors_asked rules r)
part_inside rules limit r k sector h = by (is_transfer r.kind) h
  where
    by : (transfer : Bool) → IsIn sector (sectors_asked rules (if transfer then record r { extent = piece_of r.extent limit k } else r)) → IsIn sector (sectors_asked rules r)
    by true h =
        let further : home rules (Some r.volume) (r.extent.first + k * limit) ≡ home rules (Some r.volume) r.extent.first + k * limit = home_further rules r.volume r.extent.first (k * limit) in
        let begins = h.0 in
        let ends = h.1 in
        (omega arith, omega arith)
    by false h = h

-- one part more
pub near_more : (v v1 v2 : DeviceView) (limit : ℕ) (r part : Request) (k : ℕ) → part ≡ part_request_of limit r k → Reserves v v1
    → ReservesNear v r v1 → ReservesNear v1 part v2 → ReservesNear v r v2
near_more v v1 v2 limit r part k is reserves first second =
    near_part v v1 v2 r (part_request_of limit r k) reserves (λ sector. part_inside v.rules limit r k sector) first
    (subst (λ (q : Request). ReservesNear v1 q v2) is second)

-- what is reserved below is for what is shown
pub near_above : (v v' : DeviceView) (b b' : TableView) (old : DeviceView) (r : Request) → view_of v b ≡ old → ReservesNear v r v' → ReservesNear old r (view_of v' b')
near_above v v' b b' old r shown near = subst (λ (x : DeviceView). ReservesNear x r (view_of v' b')) shown near
