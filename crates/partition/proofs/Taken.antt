-- What is cancelled above waits for its pieces alone exactly where it does below.
use Rattle.partition.proofs.Common.{List, [], ◌∷◌, map, All, All-nil, All-cons, All-head, All-tail, Extent, Rules, OpenRequest, WaitsIfCancelled, DeviceView, Packet, rules_over, as_called, view_of}

each_below : (rules : Rules) (packets : List Packet) (requests : List OpenRequest) → All WaitsIfCancelled (map (as_called rules packets) requests) → All WaitsIfCancelled requests
each_below rules packets [] all = All-nil WaitsIfCancelled
each_below rules packets (o ∷ requests) all =
    All-cons WaitsIfCancelled o requests (All-head WaitsIfCancelled (as_called rules packets o) (map (as_called rules packets) requests) all)
    (each_below rules packets requests (All-tail WaitsIfCancelled (as_called rules packets o) (map (as_called rules packets) requests) all))

pub taken_below : (table : List Extent) (v : DeviceView) → All WaitsIfCancelled (view_of table v).state.requests → All WaitsIfCancelled v.state.requests
taken_below table v all = each_below (rules_over table v.rules) v.packets v.state.requests all
