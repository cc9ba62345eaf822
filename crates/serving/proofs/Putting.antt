-- A partition table in sector 0.
use Rattle.serving.proofs.Common.{◌≡◌, ◌≢◌, ◌<◌, ℕ, ◌+◌, inl, inr, List, [], ◌∷◌, ◌++◌, Some, None, Result, Ok, Err, get_or, length, map, take, refl, sym, ap, subst, ◌∙◌, IfErr, OnOk, result_err, map-append, take_more, take-length, Extent, Partition, extent_of, MbrFault, told_by, Failure, SyncsAfter, Difference, BadTable, Differs, DiffersFrom, IsFirstOther, StopsPutting}
use Rattle.file_disk.specs.Calls.{Call, Since, StopsWriting, Sync, WritesAll}

-- bytes that were all told, and then synced
pub put_synced : (old mid new : List Call) (offset : ℕ) (bytes : List ℕ) → Since old mid (WritesAll offset bytes) → new ≡ Sync None ∷ mid → Since old new (SyncsAfter offset bytes None)
put_synced old mid new offset bytes writes noted = record {
  calls = Sync None ∷ writes.calls;
  after = noted ∙ ap (λ (calls : List Call). Sync None ∷ calls) writes.after;
  made = record { told = writes.calls; after = refl; writes = writes.made };
}

-- where they were told, the sync failed
pub put_unsynced : (old mid new : List Call) (bytes : List ℕ) (why : Failure) → Since old mid (WritesAll 0 bytes) → new ≡ Sync (Some why) ∷ mid → Since old new (StopsPutting bytes why)
put_unsynced old mid new bytes why writes noted = record {
  calls = Sync (Some why) ∷ writes.calls;
  after = noted ∙ ap (λ (calls : List Call). Sync (Some why) ∷ calls) writes.after;
  made = inr (record { told = writes.calls; after = refl; writes = writes.made });
}

-- not all of them were told
pub put_stopped : (old new : List Call) (bytes : List ℕ) (why : Failure) → Since old new (StopsWriting 0 bytes why) → Since old new (StopsPutting bytes why)
put_stopped old new bytes why stops = record { calls = stops.calls; after = stops.after; made = inl stops.made }

-- where they were told, a sync came to this
pub put_so : {X : Type 0} (old mid new : List Call) (bytes : List ℕ) (result : Result X Failure) → Since old mid (WritesAll 0 bytes) → new ≡ Sync (result_err result) ∷ mid → OnOk result (Since old new (SyncsAfter 0 bytes None))
put_so old mid new bytes (Ok done) writes noted = put_synced old mid new 0 bytes writes noted
put_so old mid new bytes (Err why) writes noted = tt

pub put_fails : {X : Type 0} (old mid new : List Call) (bytes : List ℕ) (result : Result X Failure) → Since old mid (WritesAll 0 bytes) → new ≡ Sync (result_err result) ∷ mid → IfErr result (λ why. Since old new (StopsPutting bytes why))
put_fails old mid new bytes (Ok done) writes noted = tt
put_fails old mid new bytes (Err why) writes noted = put_unsynced old mid new bytes why writes noted

-- COMPARING

-- of two lists one place more is the same
pub same_more : (xs : List Extent) (ps : List Partition) (k : ℕ) (d : Extent) (e : Partition) → k < length xs → k < length ps → take k xs ≡ map extent_of (take k ps) → get_or xs k d ≡ extent_of (get_or ps k e)
    → take (k + 1) xs ≡ map extent_of (take (k + 1) ps)
same_more xs ps k d e x p same one =
    take_more xs k d x
    ∙ ap (λ (l : List Extent). l ++ (get_or xs k d ∷ [])) same
    ∙ ap (λ (y : Extent). map extent_of (take k ps) ++ (y ∷ [])) one
    ∙ sym (ap (λ (l : List Partition). map extent_of l) (take_more ps k e p) ∙ map-append extent_of (take k ps) (get_or ps k e ∷ []))

-- of all places
pub same_all : (xs : List Extent) (ps : List Partition) (k : ℕ) → length xs ≡ k → length ps ≡ k → take k xs ≡ map extent_of (take k ps) → xs ≡ map extent_of ps
same_all xs ps k long many same =
    sym (ap (λ (n : ℕ). take n xs) (sym long) ∙ take-length xs) ∙ same ∙ ap (λ (l : List Partition). map extent_of l) (ap (λ (n : ℕ). take n ps) (sym many) ∙ take-length ps)

-- up to a place where they differ
pub first_other : (xs : List Extent) (ps : List Partition) (k : ℕ) (d : Extent) (e : Partition) (x y : Extent) → k < length xs → k < length ps → take k xs ≡ map extent_of (take k ps) → x ≡ get_or xs k d
    → y ≡ extent_of (get_or ps k e) → (x ≢ y) → IsFirstOther xs ps k x y
first_other xs ps k d e x y here there same is wants other = record {
  same = same;
  found_is = subst (λ (z : Extent). take (k + 1) xs ≡ take k xs ++ (z ∷ [])) (sym is) (take_more xs k d here);
  wanted_is =
      ap (λ (l : List Partition). map extent_of l) (take_more ps k e there) ∙ map-append extent_of (take k ps) (get_or ps k e ∷ [])
      ∙ ap (λ (z : Extent). map extent_of (take k ps) ++ (z ∷ [])) (sym wants);
  other = other;
}

-- WHAT A SECTOR GIVES

module _ (sectors : ℕ) (sector : List ℕ) (wanted : List Extent) where
  module _ (found : List Extent) (answer : ◌≡◌ {A = Result (List Extent) MbrFault} (Ok found) (told_by sectors sector)) where
    pub gives_those : found ≡ wanted → told_by sectors sector ≡ Ok wanted
    gives_those same =
        let ok : ◌≡◌ {A = Result (List Extent) MbrFault} (Ok found) (Ok wanted) = subst (λ (xs : List Extent). ◌≡◌ {A = Result (List Extent) MbrFault} (Ok found) (Ok xs)) same refl in
        sym answer ∙ ok

    pub gives_others : (found ≢ wanted) → told_by sectors sector ≢ Ok wanted
    gives_others differ = λ told. differ (same_items found wanted (answer ∙ told))
      where
        same_items : (xs ys : List Extent) → ◌≡◌ {A = Result (List Extent) MbrFault} (Ok xs) (Ok ys) → xs ≡ ys
        same_items xs ys e = cc

    pub compared_same : {E : Type 0} (result : Result (Unit {0}) E) → OnOk result (found ≡ wanted) → OnOk result (told_by sectors sector ≡ Ok wanted)
    compared_same (Ok x) h = gives_those h
    compared_same (Err e) h = tt

    pub compared_other : {E : Type 0} (result : Result (Unit {0}) E) → IfErr result (λ _. found ≢ wanted) → IfErr result (λ _. told_by sectors sector ≢ Ok wanted)
    compared_other (Ok x) h = tt
    compared_other (Err e) h = gives_others h

    pub compared_differs : (ps : List Partition) (result : Result (Unit {0}) Difference) → IfErr result (DiffersFrom found ps) → IfErr result (Differs (told_by sectors sector) ps)
    compared_differs ps (Ok x) h = tt
    compared_differs ps (Err difference) h = subst (λ (told : Result (List Extent) MbrFault). Differs told ps difference) answer h

  pub bad_table : (fault : MbrFault) (ps : List Partition) → ◌≡◌ {A = Result (List Extent) MbrFault} (Err fault) (told_by sectors sector) → Differs (told_by sectors sector) ps (BadTable fault)
  bad_table fault ps answer = subst (λ (told : Result (List Extent) MbrFault). Differs told ps (BadTable fault)) answer refl

  pub gives_none : (fault : MbrFault) → ◌≡◌ {A = Result (List Extent) MbrFault} (Err fault) (told_by sectors sector) → told_by sectors sector ≢ Ok wanted
  gives_none fault answer = λ told. absurd (let k : ◌≡◌ {A = Result (List Extent) MbrFault} (Err fault) (Ok wanted) = answer ∙ told in cc)
