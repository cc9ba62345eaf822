-- What a label does to the sectors is determined.
use Rattle.std.proofs.Common.{◌≡◌, ℕ, List, ◌∷◌, sym, ap, ◌∙◌, map, eqb}
use Rattle.std.specs.Prelude.{Contains, IsPermutation, remove}
use Rattle.std.proofs.lemmas.List.Sorted.{IsPermutation-remove}
use Rattle.std.specs.List.{IsDistinct}
use Rattle.srb.specs.declared.Class.TheVariants.{Good, Busy, Bad}
use Rattle.srb.specs.declared.DeviceLabel.TheVariants.{Start, Act, Fault, Return}
use Rattle.machine.specs.declared.Label.{Label}
use Rattle.machine.specs.declared.Label.TheVariants.{Call, Device, Answer, Cancel, Pause, Resume, Remove, Surprise, Removed}
use Rattle.machine.specs.Numbers.{AreDistinct, piece_number, request_number}
use Rattle.machine.specs.Rules.{Rules}
use Rattle.machine.specs.State.{OpenRequest, Piece, State}
use Rattle.machine.proofs.Permuting.{first_unique}
use Rattle.loss.specs.Held.{act_changes, changed_by, fault_changes, return_changes}
use Rattle.loss.specs.Moved.{ActsOn, ComesBackBad, FailsOn, IsOut, IsSameTable, Moves, Table, work_of}

first_of : {X : Type 0} (xs : List X) (x : X) → Contains xs x → (others : List X) × IsPermutation xs (x ∷ others)
first_of xs x (k, low, is) = (remove xs k, IsPermutation-remove xs k x low (sym is))

only_one : {X : Type 0} (key : X → ℕ) (xs : List X) (x y : X) → IsDistinct eqb (map key xs) → Contains xs x → Contains xs y → key y ≡ key x → x ≡ y
only_one {X} key xs x y d c k e =
    let p : (others : List X) × IsPermutation xs (x ∷ others) = first_of xs x c in
    let q : (others : List X) × IsPermutation xs (y ∷ others) = first_of xs y k in
    (first_unique key xs x y p.0 q.0 d p.1 q.1 e).0

module _ (s : State) (distinct : AreDistinct s) where
  pub one_piece : (number : ℕ) (p p' : Piece) (o o' : OpenRequest) → IsOut s number p o → IsOut s number p' o' → p ≡ p'
  one_piece number p p' o o' h h' = only_one piece_number s.pieces p p' distinct.pieces h.is_out h'.is_out (h'.is_number ∙ sym h.is_number)

  pub one_owner : (number : ℕ) (p p' : Piece) (o o' : OpenRequest) → IsOut s number p o → IsOut s number p' o' → o ≡ o'
  one_owner number p p' o o' h h' =
      only_one request_number s.requests o o' distinct.requests h.is_open h'.is_open
      (h'.is_owner ∙ ap (λ (x : Piece). x.owner) (sym (one_piece number p p' o o' h h')) ∙ sym h.is_owner)

  acted_one : (rules : Rules) (number : ℕ) (bytes : List ℕ) (t one other : Table) → ActsOn rules s number bytes t one → ActsOn rules s number bytes t other → IsSameTable one other
  acted_one rules number bytes t one other h h' i =
      let p : h.piece ≡ h'.piece = one_piece number h.piece h'.piece h.owner h'.owner h.out h'.out in
      let o : h.owner ≡ h'.owner = one_owner number h.piece h'.piece h.owner h'.owner h.out h'.out in
      h'.after i
      ∙ sym (ap (λ (x : Piece). changed_by s.next_piece (act_changes rules.sector_size number (work_of rules h.owner.request x.places) i) (t i)) p
      ∙ ap (λ (x : OpenRequest). changed_by s.next_piece (act_changes rules.sector_size number (work_of rules x.request h'.piece.places) i) (t i)) o)
      ∙ sym (h.after i)

  failed_one : (rules : Rules) (number : ℕ) (t one other : Table) → FailsOn rules s number t one → FailsOn rules s number t other → IsSameTable one other
  failed_one rules number t one other h h' i =
      let p : h.piece ≡ h'.piece = one_piece number h.piece h'.piece h.owner h'.owner h.out h'.out in
      let o : h.owner ≡ h'.owner = one_owner number h.piece h'.piece h.owner h'.owner h.out h'.out in
      h'.after i
      ∙ sym (ap (λ (x : Piece). changed_by s.next_piece (fault_changes rules.sector_size (work_of rules h.owner.request x.places) i) (t i)) p
      ∙ ap (λ (x : OpenRequest). changed_by s.next_piece (fault_changes rules.sector_size (work_of rules x.request h'.piece.places) i) (t i)) o)
      ∙ sym (h.after i)

  returned_one : (rules : Rules) (number : ℕ) (t one other : Table) → ComesBackBad rules s number t one → ComesBackBad rules s number t other → IsSameTable one other
  returned_one rules number t one other h h' i =
      let p : h.piece ≡ h'.piece = one_piece number h.piece h'.piece h.owner h'.owner h.out h'.out in
      let o : h.owner ≡ h'.owner = one_owner number h.piece h'.piece h.owner h'.owner h.out h'.out in
      h'.after i
      ∙ sym (ap (λ (x : Piece). changed_by s.next_piece (return_changes rules.sector_size x.fate (work_of rules h.owner.request x.places) i) (t i)) p
      ∙ ap (λ (x : OpenRequest). changed_by s.next_piece (return_changes rules.sector_size h'.piece.fate (work_of rules x.request h'.piece.places) i) (t i)) o)
      ∙ sym (h.after i)

same_one : (t one other : Table) → IsSameTable t one → IsSameTable t other → IsSameTable one other
same_one t one other h h' i = h' i ∙ sym (h i)

pub tables_are_one : (rules : Rules) (s : State) (label : Label) (t one other : Table) → AreDistinct s → Moves rules s label t one → Moves rules s label t other → IsSameTable one other
tables_are_one rules s (Device (Act number bytes)) t one other d h h' = acted_one s d rules number bytes t one other h h'
tables_are_one rules s (Device (Fault number)) t one other d h h' = failed_one s d rules number t one other h h'
tables_are_one rules s (Device (Start number tag block)) t one other d h h' = same_one t one other h h'
tables_are_one rules s (Device (Return number (Bad completion))) t one other d h h' = returned_one s d rules number t one other h h'
tables_are_one rules s (Device (Return number Good)) t one other d h h' = same_one t one other h h'
tables_are_one rules s (Device (Return number Busy)) t one other d h h' = same_one t one other h h'
tables_are_one rules s (Call number q) t one other d h h' = same_one t one other h h'
tables_are_one rules s (Answer number status informed bytes) t one other d h h' = same_one t one other h h'
tables_are_one rules s (Cancel number) t one other d h h' = same_one t one other h h'
tables_are_one rules s Pause t one other d h h' = same_one t one other h h'
tables_are_one rules s Resume t one other d h h' = same_one t one other h h'
tables_are_one rules s Remove t one other d h h' = same_one t one other h h'
tables_are_one rules s Surprise t one other d h h' = same_one t one other h h'
tables_are_one rules s Removed t one other d h h' = same_one t one other h h'
