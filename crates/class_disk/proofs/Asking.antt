-- What a part asks for below stays as it is while the layer below moves.
use Rattle.std.proofs.Common.{◌≡◌, ◌<◌, inl, inr, ℕ, ◌*◌, ◌/◌, Bool, List, [], ◌∷◌, Some, refl, sym, ◌∙◌, ap, subst, arith, map}
use Rattle.class_disk.proofs.Common.{mul-div_cancel, Extent, IsPermutation-sym, All-permutation, Contains-permutation, All-cons, All-tail, All-weaker, All-contains, NtStatus, DeviceLabel, Start, Act, Fault, Return, Climb, Payload, ClientRequest, Request, Rules, place_count, as_client, State, IsGiven, AreDistinct, Opens, new_request, sent, given_back, Answers, DeviceStep, Run, as_label, DeviceView, Packet, HandsUp, Submits, All-changed, AsksUnder, places_of, IsAsked, IsAskedBy}
use Rattle.std.specs.Prelude.{All}
use Rattle.class_disk.specs.declared.parts.Part.{Part}
use Rattle.class_disk.specs.declared.parts.Progress.TheVariants.{Below}

module _ (rules : Rules) (r : Request) (number : ℕ) where
  abbrev pub AllUnder : State → Type 0
  AllUnder s = All (AsksUnder rules r number) s.requests

  asks_step : (below : Rules) (s : State) (label : DeviceLabel) (s' : State) → AllUnder s → DeviceStep below s label s' → AllUnder s'
  asks_step below s (Start n tag block) s' all h =
      All-permutation (AsksUnder rules r number) _ _ (IsPermutation-sym _ _ h.after.requests) (All-changed (AsksUnder rules r number) s.requests h.owner (sent h.places h.owner) h.others h.is_open all (λ x. x))
  asks_step below s (Act n bytes) s' all h = All-permutation (AsksUnder rules r number) _ _ (IsPermutation-sym _ _ h.after.requests) all
  asks_step below s (Fault n) s' all h = All-permutation (AsksUnder rules r number) _ _ (IsPermutation-sym _ _ h.after.requests) all
  asks_step below s (Return n class) s' all h =
      All-permutation (AsksUnder rules r number) _ _ (IsPermutation-sym _ _ h.after.requests) (All-changed (AsksUnder rules r number) s.requests h.owner (given_back h.piece class h.marks h.owner) h.others h.is_open all (λ x. x))

  pub asks_run : (below : Rules) (labels : List DeviceLabel) (s s' : State) → AllUnder s → Run below s (map as_label labels) s' → AllUnder s'
  asks_run below [] s s' all run = All-permutation (AsksUnder rules r number) _ _ run.requests all
  asks_run below (label ∷ labels) s s' all (mid, inl (free, step), run) = asks_run below labels mid s' (asks_step below s label mid all step) run
  asks_run below (label ∷ labels) s s' all (mid, inr owing, run) = absurd owing

  pub asks_answer : (below : Rules) (s : State) (n : ℕ) (status : NtStatus) (bytes : List ℕ) (s' : State) → AllUnder s → Answers below s n status bytes s' → AllUnder s'
  asks_answer below s n status bytes s' all h =
      All-permutation (AsksUnder rules r number) _ _ (IsPermutation-sym _ _ h.after.requests) (All-tail (AsksUnder rules r number) h.request h.others (All-permutation (AsksUnder rules r number) _ _ h.is_open all))

  asks_with : (below : Rules) (s : State) (n : ℕ) (q : ClientRequest) (s' : State) → AsksUnder rules r number (new_request below s n q) → AllUnder s → Opens below s n q s' → AllUnder s'
  asks_with below s n q s' new all h =
      All-permutation (AsksUnder rules r number) _ _ (IsPermutation-sym _ _ h.after.requests) (All-cons (AsksUnder rules r number) (new_request below s n q) s.requests new all)

  -- another packet went down
  pub asks_other : (below : Rules) (s : State) (n : ℕ) (q : ClientRequest) (s' : State) → number < s.next_request → AllUnder s → Opens below s n q s' → AllUnder s'
  asks_other below s n q s' given all h = asks_with below s n q s' (λ same. absurd (let a = h.new_number in omega (arith, same))) all h

  -- its own did
  pub asks_own : (below : Rules) (s : State) (q : ClientRequest) (s' : State) → AreDistinct s → record q { bytes = [] } ≡ as_client rules r [] → Opens below s number q s' → AllUnder s'
  asks_own below s q s' distinct has h =
      asks_with below s number q s' (λ same. has)
      (All-weaker (IsGiven s.next_request) (AsksUnder rules r number) (λ o low same. absurd (let a = h.new_number in omega (arith, same))) s.requests distinct.given) h

  pub asks_handed : (takes : Bool) (v : DeviceView) (climb : Climb) (spot : ℕ) (v' : DeviceView) → AllUnder v.state → HandsUp takes v climb spot v' → AllUnder v'.state
  asks_handed takes v climb spot v' all h = asks_run v.rules h.left.starts h.answer.answered v'.state (asks_answer v.rules v.state h.answer.packet.number h.answer.status h.answer.bytes h.answer.answered all h.answer.answers) h.left.moves.run

  pub asks_submitted : (v : DeviceView) (packet : Packet) (request : Request) (payload : Payload) (v' : DeviceView) → number < v.state.next_request → AllUnder v.state → Submits v packet request payload v' → AllUnder v'.state
  asks_submitted v packet request payload v' given all h = asks_run v.rules h.starts h.opened v'.state (asks_other v.rules v.state packet.number _ h.opened given all h.opens) h.moves.run

-- so the packet of a part that is handed up asked for just that
pub asks_of_handed : (rules : Rules) (takes : Bool) (v : DeviceView) (climb : Climb) (spot : ℕ) (v' : DeviceView) → (h : HandsUp takes v climb spot v') → (part : Part) (at : ℕ) → part.progress ≡ Below h.answer.packet.number at
    → IsAsked rules v.state.requests part → record h.answer.answers.request.request { bytes = [] } ≡ as_client rules part.request []
asks_of_handed rules takes v climb spot v' h part at is_below asked =
    let all : AllUnder rules part.request h.answer.packet.number v.state = subst (IsAskedBy rules v.state.requests part.request) is_below asked in
    All-contains (AsksUnder rules part.request h.answer.packet.number) v.state.requests h.answer.answers.request all
    (Contains-permutation _ _ h.answer.answers.request (IsPermutation-sym _ _ h.answer.answers.is_open) (0, omega arith, refl)) h.answer.answers.is_number

-- it had as many places as the part
pub places_of_handed : (rules : Rules) (q : ClientRequest) (part : Part) → record q { bytes = [] } ≡ as_client rules part.request [] → place_count rules q ≡ places_of rules part
places_of_handed rules q part same = ap (place_count rules) same

-- and the room that comes with it is for the request of the part
times_same : (size x y : ℕ) → 0 < size → x * size ≡ y * size → x ≡ y
times_same size x y some e = sym (mul-div_cancel x some) ∙ ap (λ n. n / size) e ∙ mul-div_cancel y some

same_extent : (a b : Extent) → a.first ≡ b.first → a.count ≡ b.count → a ≡ b
same_extent a b f c = ap (λ n. record a { first = n }) f ∙ ap (λ n. record b { count = n }) c

same_request : (a b : Request) → a.volume ≡ b.volume → a.kind ≡ b.kind → a.extent ≡ b.extent → a.through ≡ b.through → a ≡ b
same_request a b volume kind extent through =
    ap (λ n. record a { volume = n }) volume ∙ ap (λ n. record a { volume = b.volume; kind = n }) kind
    ∙ ap (λ n. record b { extent = n; through = a.through }) extent ∙ ap (λ n. record b { through = n }) through

pub request_of_handed : (takes : Bool) (v : DeviceView) (climb : Climb) (spot : ℕ) (v' : DeviceView) → 0 < v.rules.sector_size → (h : HandsUp takes v climb spot v') → (part : Part)
    → record h.answer.answers.request.request { bytes = [] } ≡ as_client v.rules part.request [] → part.request ≡ h.answer.request
request_of_handed takes v climb spot v' some h part asks =
    let e : as_client v.rules part.request [] ≡ as_client v.rules h.answer.request [] = sym asks ∙ ap (λ (q : ClientRequest). record q { bytes = [] }) h.answer.is_request in
    let first : part.request.extent.first ≡ h.answer.request.extent.first = times_same v.rules.sector_size _ _ some (ap (λ (q : ClientRequest). q.offset) e) in
    let count : part.request.extent.count ≡ h.answer.request.extent.count = times_same v.rules.sector_size _ _ some (ap (λ (q : ClientRequest). q.length) e) in
    same_request part.request h.answer.request (some_is (ap (λ (q : ClientRequest). q.partition) e)) (ap (λ (q : ClientRequest). q.kind) e) (same_extent part.request.extent h.answer.request.extent first count)
    (ap (λ (q : ClientRequest). q.through) e)
  where
    some_is : {x y : ℕ} → Some x ≡ Some y → x ≡ y
    some_is {x} {y} e = cc (e)
