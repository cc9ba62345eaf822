-- Parts that were made for a request, one by one, and what a list of them all is.
use Rattle.std.proofs.Common.{◌≡◌, ◌⊎◌, inl, inr, ℕ, zero, suc, ◌+◌, List, [], ◌∷◌, ◌++◌, Some, Bool, true, false, if◌then◌else◌, refl, sym, ◌∙◌, ap, subst, arith, map, length, ◌<◌}
use Rattle.std.specs.Prelude.{All, slice_get}
use Rattle.class_disk.proofs.Common.{range_with_len, length_push, All-nil, All-cons, Request, piece_of, Rules, is_transfer, Sizes, goes_whole, AreSizes, part_count_of, part_request_of, requests_for, HasBuffers, IsHere, IsHereBy, PartId, AreOwnedFrom, ClosedSlot, IsBounded, IsNewPart, AreNewParts, is_whole}
use Rattle.class_disk.specs.declared.parts.Part.{Part}
use Rattle.class_disk.specs.inside.Driver.{IsCut, IsHeld, request_of_part, IsReadyPart, IsReadyBy, IsBuffered, IsBufferedBy}
use Rattle.class_disk.proofs.PiecePlaces.{parts_some}

-- the item behind a list is the last one
get_behind : {X : Type 0} (xs : List X) (x y : X) (k : ℕ) → slice_get (xs ++ x ∷ []) k ≡ Some y
    → (slice_get xs k ≡ Some y) ⊎ ((k ≡ length xs) × (x ≡ y))
get_behind [] x y zero h = inr (refl, cc (h))
get_behind [] x y (suc k) h = absurd (cc (h))
get_behind (z ∷ xs) x y zero h = inl h
get_behind (z ∷ xs) x y (suc k) h = elim (get_behind xs x y k h) [ inl there ↦ inl there | inr last ↦ inr (omega arith, last.1) ]

all_from_get : {X : Type 0} (P : X → Type 0) (xs : List X) → ((k : ℕ) (x : X) → slice_get xs k ≡ Some x → P x) → All P xs
all_from_get P [] h = All-nil P
all_from_get P (x ∷ xs) h = All-cons P x xs (h 0 x refl) (all_from_get P xs (λ k y is. h (suc k) y is))

-- a part is of the kind of its request
pub part_kind : (limit : ℕ) (r : Request) (k : ℕ) → (part_request_of limit r k).kind ≡ r.kind
part_kind limit r k = by (is_transfer r.kind)
  where
    by : (b : Bool) → (if b then record r { extent = piece_of r.extent limit k } else r).kind ≡ r.kind
    by true = refl
    by false = refl

-- what a part was asked for with the table as it was then
pub asked_now : (was now : Sizes) (r asked : Request) (k : ℕ) (part : Part)
    → was ≡ now → asked ≡ part_request_of was.max_transfer r k → (only : Bool) → only ≡ goes_whole now.max_transfer r → IsNewPart was.keeps_bytes only was.sector_size asked part
    → IsNewPart now.keeps_bytes (goes_whole now.max_transfer r) now.sector_size (part_request_of now.max_transfer r k) part
asked_now was now r asked k part same is only whole h =
    subst (λ x. IsNewPart now.keeps_bytes x now.sector_size (part_request_of now.max_transfer r k) part) whole
    (subst (λ (s : Sizes). IsNewPart s.keeps_bytes only s.sector_size (part_request_of s.max_transfer r k) part) same
    (subst (λ q. IsNewPart was.keeps_bytes only was.sector_size q part) is h))

-- and its kind
pub kind_now : (was : Sizes) (r asked : Request) (k : ℕ) → asked ≡ part_request_of was.max_transfer r k → r.kind ≡ asked.kind
kind_now was r asked k is = sym (ap (λ (q : Request). q.kind) is ∙ part_kind was.max_transfer r k)

module _ (sizes : Sizes) (r : Request) where
  pub none_made : AreNewParts sizes r 0 []
  none_made = record { long = refl; are = λ k part is. absurd (cc (is)) }

  -- one part more
  pub one_made : (count : ℕ) (items front : List Part) (part : Part) → items ≡ front ++ part ∷ []
      → AreNewParts sizes r count front
      → IsNewPart sizes.keeps_bytes (goes_whole sizes.max_transfer r) sizes.sector_size (part_request_of sizes.max_transfer r count) part
      → AreNewParts sizes r (count + 1) items
  one_made count items front part is h new = subst (AreNewParts sizes r (count + 1)) (sym is) (record {
    long = let l = h.long in let e = length_push front part in omega arith;
    are = λ k x there. elim (get_behind front part x k there) [
      | inl before ↦ h.are k x before
      | inr last ↦
          let at : count ≡ k = let l = h.long in let e = last.0 in omega arith in
          subst (λ n. IsNewPart sizes.keeps_bytes (goes_whole sizes.max_transfer r) sizes.sector_size (part_request_of sizes.max_transfer r n) x) at
          (subst (IsNewPart sizes.keeps_bytes (goes_whole sizes.max_transfer r) sizes.sector_size (part_request_of sizes.max_transfer r count)) last.1 new)
    ];
  })

  module _ (count : ℕ) (parts : List Part) (h : AreNewParts sizes r count parts) where
    -- none of them is below
    pub new_here : All IsHere parts
    new_here = all_from_get IsHere parts (λ k part is. let new = h.are k part is in subst IsHereBy (sym new.is_ready) tt)

    -- each can be sent
    pub new_ready : All IsReadyPart parts
    new_ready = all_from_get IsReadyPart parts (λ k part is.
        let new = h.are k part is in
        (new.first, subst IsReadyBy (sym new.is_ready) tt))

    -- each has its buffers
    pub new_buffered : (rules : Rules) → sizes.sector_size ≡ rules.sector_size → sizes.max_transfer ≡ rules.max_transfer → sizes.keeps_bytes ≡ rules.keeps_bytes → All (IsBuffered rules (goes_whole rules.max_transfer r)) parts
    new_buffered rules same limits keeping = all_from_get (IsBuffered rules (goes_whole rules.max_transfer r)) parts (λ k part is.
        let new = h.are k part is in
        let own : HasBuffers sizes.keeps_bytes (goes_whole sizes.max_transfer r) rules.sector_size part.request new.place =
        subst (λ n. HasBuffers sizes.keeps_bytes (goes_whole sizes.max_transfer r) n part.request new.place) same
        (subst (λ q. HasBuffers sizes.keeps_bytes (goes_whole sizes.max_transfer r) sizes.sector_size q new.place) (sym new.asks) new.buffers) in
        subst (IsBufferedBy rules (goes_whole rules.max_transfer r) part.request) (sym new.is_ready)
        (subst (λ k. HasBuffers k (goes_whole rules.max_transfer r) rules.sector_size part.request new.place) keeping
        (subst (λ n. HasBuffers sizes.keeps_bytes (goes_whole n r) rules.sector_size part.request new.place) limits own)))

    -- they ask for what the request is cut into
    pub new_requests : (limit : ℕ) → sizes.max_transfer ≡ limit → count ≡ part_count_of limit r
        → map request_of_part parts ≡ requests_for limit r
    new_requests limit same cut =
        asked 0 count parts h.long (λ k n at part is.
        let new = h.are k part is in new.asks ∙ ap (λ m. part_request_of m r k) same ∙ ap (part_request_of limit r) (omega arith))
        ∙ ap (λ n. map (part_request_of limit r) (range_with_len 0 n)) cut
      where
        asked : (first n : ℕ) (ps : List Part) → length ps ≡ n
            → ((k m : ℕ) → m ≡ first + k → (part : Part) → slice_get ps k ≡ Some part → part.request ≡ part_request_of limit r m)
            → map request_of_part ps ≡ map (part_request_of limit r) (range_with_len first n)
        asked first zero [] long all = refl
        asked first (suc n) [] long all = absurd (omega arith)
        asked first zero (p ∷ ps) long all = absurd (omega arith)
        asked first (suc n) (p ∷ ps) long all =
            let head : p.request ≡ part_request_of limit r first = all 0 first (omega arith) p refl in
            let rest : map request_of_part ps ≡ map (part_request_of limit r) (range_with_len (first + 1) n) =
            asked (first + 1) n ps (omega arith) (λ k m at part is. all (suc k) m (omega arith) part is) in
            ap (λ x. x ∷ map request_of_part ps) head ∙ ap (λ xs. part_request_of limit r first ∷ xs) rest

  -- a slot with all parts of its request
  pub new_held : (rules : Rules) (owners : List PartId) (held : ClosedSlot) → held.request ≡ r → AreSizes sizes rules → IsBounded rules r
      → AreNewParts sizes r (part_count_of sizes.max_transfer r) held.parts → AreOwnedFrom owners held.slot 0 held.parts → IsHeld rules owners held
  new_held rules owners held is are bounded h owned = record {
    cut = λ whole. subst (λ q. IsCut rules q held.parts) (sym is) (record {
      bounded = bounded;
      parts_are = new_requests _ held.parts h rules.max_transfer are.max_transfer (ap (λ n. part_count_of n r) are.max_transfer);
    });
    buffered = subst (λ q. All (IsBuffered rules (goes_whole rules.max_transfer q)) held.parts) (sym is) (new_buffered _ held.parts h rules are.sector_size are.max_transfer are.keeps_bytes);
    owned = owned;
    ready = new_ready _ held.parts h;
  }

  -- and there are some
  pub new_whole : (rules : Rules) → AreSizes sizes rules → 0 < rules.max_transfer → IsBounded rules r → (parts : List Part)
      → AreNewParts sizes r (part_count_of sizes.max_transfer r) parts → is_whole parts ≡ true
  new_whole rules are some bounded [] h =
      let n = parts_some sizes.max_transfer r (subst (λ m. 0 < m) (sym are.max_transfer) some) bounded.some in
      absurd (let l = h.long in omega arith)
  new_whole rules are some bounded (part ∷ parts) h = refl
