-- One sector as its contracts see it.
use Rattle.std.proofs.Common.{◌≡◌, ℕ, Bool, true, false, List, [], ◌∷◌, ◌++◌, refl, sym, ◌∙◌, ap, subst, append-nil, append_assoc}
use Rattle.std.specs.Prelude.{Result, Ok, Err, OnOk}
use Rattle.register_loss.specs.declared.Sight.{Sight}
use Rattle.register_loss_judge.specs.declared.observed.SoFar.{SoFar}
use Rattle.register_loss_judge.specs.Observed.{IsSoFar, ObservedView}
use Rattle.history_loss_kept.specs.declared.Own.{Own}
use Rattle.history_loss_kept.specs.declared.Shared.{Shared}
use Rattle.history_loss_kept.specs.Kept.{merged, seen_by}
use Rattle.history_loss_sector.specs.declared.filling.Marked.{Marked}
use Rattle.history_loss_sector.specs.Seen.{SeenView, seen_after}
use Rattle.history_loss_sector.specs.inside.Entries.{own_in}
use Rattle.history_loss_sector.proofs.Answering.{own_append}

abbrev pub viewed : ℕ → List Sight → List Sight → List Own → SeenView
viewed start all steady own = record { start = start; all = all; steady = steady; own = own }

module _ (start : ℕ) (all steady : List Sight) (old : List Marked) where
  pub called_is : (new : List Marked) (m : Marked) (seen : SeenView) → viewed start all steady (own_in old) ≡ seen → new ≡ old ++ m ∷ []
      → viewed start all steady (own_in new) ≡ viewed seen.start seen.all seen.steady (seen.own ++ m.own ∷ [])
  called_is new m seen is pushed =
      subst (λ s. viewed start all steady (own_in new) ≡ viewed s.start s.all s.steady (s.own ++ m.own ∷ [])) is
      (ap (λ os. viewed start all steady os) (ap own_in pushed ∙ own_append old (m ∷ [])))

pub on_ok : {T E : Type 0} (r : Result T E) {P Q : Type 0} → (P → Q) → OnOk r P → OnOk r Q
on_ok (Ok x) f p = f p
on_ok (Err x) f p = p

-- A SESSION

module _ (all : Bool) (own : List Marked) (shared : List Shared) (some : own ≡ [] → ⊥) where
  pub seen_some : (last : List Sight) → seen_by all shared last (own_in own) ≡ merged all 0 (own_in own) shared ++ last
  seen_some last = by own some
    where
      by : (ms : List Marked) → (ms ≡ [] → ⊥) → seen_by all shared last (own_in ms) ≡ merged all 0 (own_in ms) shared ++ last
      by [] some = absurd (some refl)
      by (m ∷ ms) some = refl

  pub known_is : (before after : ObservedView) (start : ℕ) (sights : List Sight) (so_far : SoFar) → after ≡ before → start ≡ after.start → sights ≡ after.sights ++ merged all 0 (own_in own) shared
      → IsSoFar start sights so_far → IsSoFar before.start (before.sights ++ seen_by all shared [] (own_in own)) so_far
  known_is before after start sights so_far same starts sees h =
      let seen : sights ≡ before.sights ++ seen_by all shared [] (own_in own) =
      sees ∙ ap (λ (o : ObservedView). o.sights ++ merged all 0 (own_in own) shared) same
      ∙ ap (λ xs. before.sights ++ xs) (sym (append-nil (merged all 0 (own_in own) shared)) ∙ sym (seen_some [])) in
      subst (λ xs. IsSoFar before.start xs so_far) seen (subst (λ n. IsSoFar n sights so_far) (starts ∙ ap (λ (o : ObservedView). o.start) same) h)

  pub sees_turn : (sight : Sight) (old mid new : List Sight) → mid ≡ old ++ merged all 0 (own_in own) shared → new ≡ mid ++ sight ∷ [] → new ≡ old ++ seen_by all shared (sight ∷ []) (own_in own)
  sees_turn sight old mid new sees ends =
      ends ∙ ap (λ xs. xs ++ sight ∷ []) sees ∙ append_assoc old (merged all 0 (own_in own) shared) (sight ∷ []) ∙ ap (λ xs. old ++ xs) (sym (seen_some (sight ∷ [])))

pub turned_is : (start : ℕ) (all steady : List Sight) (own : List Marked) (seen : SeenView) (shared : List Shared) (last : Sight) (start_new : ℕ) (all_new steady_new : List Sight) (own_new : List Marked)
    → viewed start all steady (own_in own) ≡ seen → start_new ≡ start → all_new ≡ all ++ seen_by true shared (last ∷ []) (own_in own)
    → steady_new ≡ steady ++ seen_by false shared (last ∷ []) (own_in own) → own_new ≡ [] → viewed start_new all_new steady_new (own_in own_new) ≡ seen_after shared last seen
turned_is start all steady own seen shared last start_new all_new steady_new own_new is starts alls steadies none =
    subst (λ s. viewed start_new all_new steady_new (own_in own_new) ≡ seen_after shared last s) is
    (ap (λ n. viewed n all_new steady_new (own_in own_new)) starts
    ∙ ap (λ xs. viewed start xs steady_new (own_in own_new)) alls
    ∙ ap (λ xs. viewed start (all ++ seen_by true shared (last ∷ []) (own_in own)) xs (own_in own_new)) steadies
    ∙ ap (λ ms. viewed start (all ++ seen_by true shared (last ∷ []) (own_in own)) (steady ++ seen_by false shared (last ∷ []) (own_in own)) (own_in ms)) none)
