-- The machine is read alike from other packets that note the same of its open requests.
use Rattle.partition.proofs.Common.{◌≡◌, List, ◌∙◌, ap, subst, map, get_or, All, Extent, Rules, as_client, OpenRequest, State, Packet, IsBounded, asked, rules_over, on_disk, called, as_called, on_partitions, LiesInside}
use Rattle.partition.proofs.Noted.{map_same}
use Rattle.partition.proofs.Steps.{Stands}

-- as long as the packets of the open requests note the same
abbrev pub AreNotedAlike : List Packet → List Packet → List OpenRequest → Type 0
AreNotedAlike packets packets' requests = All (λ o. asked packets o.number ≡ asked packets' o.number) requests

module _ (below : Rules) (table : List Extent) (packets packets' : List Packet) where
  abbrev over : Rules
  over = rules_over table below

  pub LiesInside-alike : (o : OpenRequest) → asked packets o.number ≡ asked packets' o.number → LiesInside over packets o
      → LiesInside over packets' o
  LiesInside-alike o e h = record {
    bounded = subst (λ r. IsBounded over r) e h.bounded;
    is_asked = h.is_asked ∙ ap (λ r. as_client over (on_disk over r) o.request.bytes) e;
    all_places = h.all_places;
  }

  pub lie_alike : (requests : List OpenRequest) → AreNotedAlike packets packets' requests → All (LiesInside over packets) requests
      → All (LiesInside over packets') requests
  lie_alike requests alike lie = λ k d low. LiesInside-alike (get_or requests k d) (alike k d low) (lie k d low)

  pub called_alike : (requests : List OpenRequest) → AreNotedAlike packets packets' requests
      → map (as_called over packets) requests ≡ map (as_called over packets') requests
  called_alike requests alike =
      map_same (as_called over packets) (as_called over packets') requests
      (λ k d low. let o : OpenRequest = get_or requests k d in ap (λ r. record o { request = called over r o.request }) (alike k d low))

  pub state_alike : (s : State) → AreNotedAlike packets packets' s.requests → on_partitions over packets s ≡ on_partitions over packets' s
  state_alike s alike = ap (λ requests. record (on_partitions over packets s) { requests = requests }) (called_alike s.requests alike)

  pub Stands-alike : (s : State) → AreNotedAlike packets packets' s.requests → Stands below table packets s → Stands below table packets' s
  Stands-alike s alike k = record {
    whole = k.whole;
    partitions = k.partitions;
    some_bytes = k.some_bytes;
    disk = k.disk;
    arrays = k.arrays;
    covers = k.covers;
    requests = lie_alike s.requests alike k.requests;
    distinct = k.distinct;
    placed = k.placed;
    none_owed = k.none_owed;
  }
