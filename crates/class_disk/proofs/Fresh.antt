-- A class driver of which nothing was asked yet.
use Rattle.std.proofs.Common.{◌≡◌, ◌<◌, ◌+◌, inl, inr, ℕ, false, List, [], ◌∷◌, Some, map, refl, sym, subst, ap, ◌∙◌, arith}
use Rattle.std.specs.Prelude.{All}
use Rattle.std.proofs.lemmas.List.Sorted.{length_permutation}
use Rattle.adapter.specs.View.{TagInUse}
use Rattle.device.specs.View.{MayAct, use_on_tag}
use Rattle.class_disk.proofs.Common.{All-nil, IsPermutation-refl, Extent, Rules, sectors_of, State, opening, AreCounted-opening, HaveEarned-opening, AreDistinct-opening, AreOnePiece-opening, ArePlaced-opening, IsSame-refl, HasPlaces, DeviceView, Packet, IsOffRooms, IsOrderly, WaitsForTag, IsTopmost, IsPermutation, AwaitsRestartIfEnded, Sizes, class_rules, IsPort, joint_of, TableView, empty_books, IsFreshPort}
use Rattle.machine.specs.Settled.{IsHeld as IsPausedThere, WaitsIfCancelled, Waits, IsAllSent, IsHeldBack, HasMore, IsAtWork}
use Rattle.device.specs.inside.Out.{IsGood, tickets_of}
use Rattle.class_disk.specs.inside.Invariant.{IsMadeUp, AgreesOnCancel, IsInTurn, IsInPieces, IsOver, HasSome}
use Rattle.class_disk.specs.Opening.{opening_over}
use Rattle.class_disk.specs.inside.Driver.{view_of, IsInHand, IsHeld, IsOpen, HaveCauses, AreAsked, AreSpotted}
use Rattle.class_disk.proofs.Owned.{apart_none}

-- a fresh port, written out
abbrev fresh : DeviceView → DeviceView
fresh v = record v { state = opening v.state.arrays; packets = []; submitted = 0 }

fresh_is : (v : DeviceView) → v.state ≡ opening v.state.arrays → v.packets ≡ [] → v.submitted ≡ 0 → v ≡ fresh v
fresh_is v state packets submitted =
    ap (λ (s : State). record v { state = s }) state
    ∙ ap (λ (ps : List Packet). record v { state = opening v.state.arrays; packets = ps }) packets
    ∙ ap (λ (n : ℕ). record v { state = opening v.state.arrays; packets = []; submitted = n }) submitted

-- the one volume is the whole disk
whole_disk : (rules : Rules) (partitions : List Extent) → partitions ≡ record { first = 0; count = rules.disk_sectors } ∷ []
    → sectors_of (record rules { partitions = partitions }) (Some 0) ≡ rules.disk_sectors
whole_disk rules partitions is = ap (λ (ps : List Extent). sectors_of (record rules { partitions = ps }) (Some 0)) is

-- nothing is on a tag
none_out : (tags : List TagInUse) → IsPermutation [] (map use_on_tag tags) → tags ≡ []
none_out [] h = refl
none_out (u ∷ tags) h = let n = length_permutation _ _ h in absurd (omega (arith, n))

hand_fresh : (v : DeviceView) (sizes : Sizes) → v.rooms ≡ [] → IsPort v.rules → IsOrderly (fresh v)
    → sizes.sector_size ≡ v.rules.sector_size → sizes.max_transfer ≡ v.rules.longest → sizes.disk_sectors ≡ sectors_of v.rules (Some 0) → sizes.keeps_bytes ≡ v.rules.keeps_bytes
    → IsInHand (fresh v) (empty_books sizes)
hand_fresh v sizes none port orderly size longest sectors keeping =
    let s : State = opening v.state.arrays in
    let rules : Rules = class_rules v.rules in
    let some_bytes : 0 < v.rules.sector_size = elim orderly.adapter.sector_size [
      | inl e ↦ let same = orderly.read.same_size in omega arith
      | inr e ↦ let same = orderly.read.same_size in omega arith
    ] in
    record {
      port = port;
      sound = record {
        distinct = AreDistinct-opening v.state.arrays;
        placed = ArePlaced-opening v.state.arrays;
        earned = HaveEarned-opening v.state.arrays;
        whole = AreOnePiece-opening v.state.arrays;
      };
      counted = AreCounted-opening v.rules v.state.arrays;
      coupled = record {
        j = joint_of s 1 [];
        same = IsSame-refl s;
        knows = IsPermutation-refl [];
        next_above = refl;
        keeps = record {
          made_up = All-nil (IsMadeUp rules);
          agree = All-nil AgreesOnCancel;
          in_turn = All-nil (IsInTurn s.removing []);
          in_pieces = All-nil (IsInPieces rules);
        };
      };
      rooms_out = record {
        orderly = orderly;
        good = All-nil (IsGood (fresh v));
        apart = apart_none;
        all = subst (λ rs. IsPermutation (tickets_of rs) []) (sym none) (IsPermutation-refl []);
      };
      unfinished = All-nil (AwaitsRestartIfEnded v.rules s);
      settled = record {
        none_owed = refl;
        idle = λ _. All-nil IsPausedThere;
        idle_unpaused = λ _ _. refl;
        cancelled = All-nil WaitsIfCancelled;
        removing = λ _. All-nil Waits;
        sent = λ _ _. All-nil (IsAllSent v.rules);
        released = λ _ _. All-nil (IsHeldBack v.rules s);
        alive = All-nil HasMore;
        at_work = λ _. All-nil IsAtWork;
        within_window = orderly.sending.within_window;
      };
      kept = record {
        sizes = record {
          sector_size = size;
          max_transfer = longest ∙ port.longest;
          whole = record {
            as_many = sym (sectors ∙ whole_disk v.rules v.rules.partitions port.one_disk);
            one_disk = port.one_disk;
            some_bytes = some_bytes;
          };
          keeps_bytes = keeping;
        };
        in_hand = All-nil (IsHeld rules []);
        opens = All-nil (IsOpen rules []);
        ended = IsPermutation-refl [];
        places = omega arith;
        causes = All-nil (HaveCauses rules false);
        budget = omega arith;
      };
      below = record {
        removing = refl;
        next_number = omega arith;
        sent = omega arith;
        submitted = omega arith;
        asked = All-nil (AreAsked rules s.requests);
        spotted = All-nil (AreSpotted []);
        topmost = All-nil IsTopmost;
        some = All-nil (HasSome rules);
        over = All-nil (IsOver 17 false);
      };
      orderly = record {
        adapter = orderly.adapter;
        read = record {
          same_size = orderly.read.same_size;
          same_sectors = orderly.read.same_sectors;
          same_depth = orderly.read.same_depth;
          arrays = orderly.read.arrays;
          pieces = orderly.read.pieces;
          may_act = subst (λ (tags : List TagInUse). All (MayAct rules s) tags) (sym (none_out v.adapter.tags orderly.read.pieces)) (All-nil (MayAct rules s));
        };
        distinct = AreDistinct-opening v.state.arrays;
        places = All-nil HasPlaces;
        packets = IsPermutation-refl [];
        spots = apart_none;
        vacant = All-nil (IsOffRooms []);
        sending = record {
          sent = λ _ _. All-nil (IsAllSent rules);
          released = λ _ _. All-nil (WaitsForTag rules s);
          within_window = orderly.sending.within_window;
        };
        labels = orderly.labels;
        uncounted = orderly.uncounted;
        none_owed = refl;
        not_removed = refl;
      };
    }

pub opens_in_hand : (v : DeviceView) (sizes : Sizes) (b : TableView) → IsFreshPort v → IsOrderly v → b ≡ empty_books sizes
    → sizes.sector_size ≡ v.rules.sector_size → sizes.max_transfer ≡ v.rules.longest → sizes.disk_sectors ≡ sectors_of v.rules (Some 0) → sizes.keeps_bytes ≡ v.rules.keeps_bytes
    → IsInHand v b
opens_in_hand v sizes b f orderly empty size longest sectors keeping =
    let v_is : v ≡ fresh v = fresh_is v f.state f.packets f.submitted in
    subst (λ (x : TableView). IsInHand v x) (sym empty)
    (subst (λ (x : DeviceView). IsInHand x (empty_books sizes)) (sym v_is)
    (hand_fresh v sizes f.rooms f.port (subst IsOrderly v_is orderly) size longest sectors keeping))

-- what is shown of it
pub opens_shown : (v : DeviceView) (sizes : Sizes) (b : TableView) → IsFreshPort v → b ≡ empty_books sizes → view_of v b ≡ opening_over v
opens_shown v sizes b f empty =
    let v_is : v ≡ fresh v = fresh_is v f.state f.packets f.submitted in
    subst (λ (x : TableView). view_of v x ≡ opening_over v) (sym empty)
    (subst (λ (x : DeviceView). view_of x (empty_books sizes) ≡ opening_over x) (sym v_is)
    (ap (λ (n : ℕ). record (opening_over (fresh v)) { places = n }) (let none : v.places + (0 + 0 + 0) ≡ v.places = omega arith in none)))
