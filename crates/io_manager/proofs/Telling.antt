-- A step that tells labels of its own, and then collects, is right and keeps what holds between two steps.
use Rattle.io_manager.proofs.Common.{◌≡◌, false, List, None, refl, sym, subst, DeviceLabel, MovesByAll, Label, DeviceView, Limits, Tables, ManagerView, Told, IsRight, IsRightBy}
use Rattle.io_manager.specs.inside.Sound.{view_of, IsSound, AsksInside, Collects, ManagerKept}
use Rattle.io_manager.proofs.Righting.{IsServed, told_by, IsRightBy-served}
use Rattle.io_manager.proofs.Stepping.{ManagerKept-collected}

module _ (limits : Limits) (below : DeviceView) (tables : Tables) (old : ManagerView) (kept : ManagerKept limits below tables) (shown : view_of limits below tables ≡ old) where
  pub step_kept : (Row : ManagerView → ManagerView → Told → Type 0) (own : List Label) (labels : List DeviceLabel) (below1 : DeviceView) (tables1 : Tables) (h : IsServed None limits below tables own labels below1 tables1)
      (limits' : Limits) (below2 : DeviceView) (tables2 : Tables) → MovesByAll below.adapter labels below1.adapter → limits' ≡ limits → IsSound limits' below2 tables2 → (c : Collects below1 tables1 below2 tables2)
      → Row (view_of limits below tables) (view_of limits below2 tables2) (told_by limits below tables own labels below1 tables1 below2 tables2 h c None)
      → IsRight (Row old (view_of limits' below2 tables2)) old (view_of limits' below2 tables2) × ManagerKept limits' below2 tables2
  step_kept Row own labels below1 tables1 h limits' below2 tables2 moves same sound c row =
      let sound' : IsSound limits below2 tables2 = subst (λ (l : Limits). IsSound l below2 tables2) same sound in
      let by : IsRightBy false (told_by limits below tables own labels below1 tables1 below2 tables2 h c None) (view_of limits below tables) (view_of limits below2 tables2) × AsksInside below2 =
      IsRightBy-served limits below tables own labels below1 tables1 below2 tables2 h c below.adapter kept.reached kept.inside refl moves sound'.in_state in
      let right : IsRight (Row (view_of limits below tables) (view_of limits below2 tables2)) (view_of limits below tables) (view_of limits below2 tables2) =
      record { told = told_by limits below tables own labels below1 tables1 below2 tables2 h c None; replies = row; by = by.0 } in (
        subst (λ (l : Limits). IsRight (Row old (view_of l below2 tables2)) old (view_of l below2 tables2)) (sym same)
            (subst (λ v. IsRight (Row v (view_of limits below2 tables2)) v (view_of limits below2 tables2)) shown right),
        ManagerKept-collected limits limits' below below1 below2 tables tables1 tables2 false right.told same kept by.0 sound by.1 c,
      )
