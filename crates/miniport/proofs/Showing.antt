-- What the adapter in memory shows after a call is what the call promises.
use Rattle.std.proofs.Common.{◌≡◌, ◌<◌, ℕ, zero, suc, ◌+◌, Bool, true, false, List, [], ◌∷◌, length, map, slice_set, get_or, Option, Some, None, Result, Ok, IsPermutation, refl, sym, ap, ◌∙◌, subst, arith, length-set, replicate, if◌then◌else◌}
use Rattle.std.proofs.lemmas.List.{set-get_or, length-replicate, map-set, get_or-map}
use Rattle.std.proofs.lemmas.List.Sorted.{IsPermutation-refl}
use Rattle.std.specs.List.{concat}
use Rattle.cdb.specs.declared.Cdb.{Cdb}
use Rattle.cdb.specs.declared.CdbFault.{CdbFault}
use Rattle.cdb.specs.Meaning.{Means}
use Rattle.srb.specs.declared.Srb.{Srb}
use Rattle.srb.specs.declared.Completion.{Completion}
use Rattle.srb.specs.declared.Class.TheVariants.{Bad}
use Rattle.srb.specs.Fate.{Fresh, Acted, class_of}
use Rattle.adapter.specs.Performing.{Performs}
use Rattle.adapter.specs.View.{TagInUse, IsFree, Accepts, ActsOn, FaultsOn, ReturnsOn, MayReturn, acted}
use Rattle.adapter.proofs.Joining.{unspoiled}
use Rattle.disk.specs.Medium.{MediumView}
use Rattle.miniport.specs.declared.on_tag.OnTag.{OnTag}
use Rattle.miniport.specs.declared.on_tag.Progress.{Progress}
use Rattle.miniport.specs.declared.on_tag.Progress.TheVariants.{Untouched, Moved, Failed}
use Rattle.adapter.specs.Calls.{Finishes, IsBooked}
use Rattle.miniport.specs.Carrying.{disk_of}
use Rattle.miniport.specs.Faults.{fault_of, Decodes, success, busy, bus_reset}
use Rattle.miniport.specs.Moving.{moved_by}
use Rattle.miniport.specs.inside.Slots.{Table, emptied, piece_at, in_use_of, fate_of, tags_of, new_piece, with_new, with_moved, with_failed, with_returned, completion_of, completion_by, slot_completion}
use Rattle.miniport.specs.Memory.{shown_of, view_of, new_view, Dues, ActsByTable, EndsBy}
use Rattle.miniport.specs.inside.Memory.{IsPieceRight}
use Rattle.miniport.proofs.TagsInUse.{taken_first, filled}
use Rattle.miniport.proofs.Keeping.{moved_piece, failed_piece}

-- the number of tags stays
depth_stays : (m : MediumView) (longest : ℕ) (t : Table) (n : ℕ) → length t.slots ≡ n → shown_of m longest t ≡ record (shown_of m longest t) { depth = n }
depth_stays m longest t n e = ap (λ (d : ℕ). record (shown_of m longest t) { depth = d }) e

-- one completion is due anew
due_set : (m : MediumView) (longest : ℕ) (p : Bool) (t : Table) (slots : List (Option OnTag)) (tag : ℕ) (slot : Option OnTag) (due : Option Completion)
    → t.slots ≡ slice_set slots tag slot → slot_completion slot ≡ due
    → view_of m longest p t ≡ record (view_of m longest p t) { due = slice_set (map slot_completion slots) tag due }
due_set m longest p t slots tag slot due e f =
    ap (λ (d : List (Option Completion)). record (view_of m longest p t) { due = d })
    (ap (λ (s : List (Option OnTag)). map slot_completion s) e ∙ map-set slot_completion slots tag slot
    ∙ ap (λ (c : Option Completion). slice_set (map slot_completion slots) tag c) f)

-- ACCEPT

same_slots : (slots : List (Option OnTag)) (tag : ℕ) → piece_at slots tag ≡ None → slice_set slots tag None ≡ slots
same_slots slots tag none = subst (λ (s : Option OnTag). slice_set slots tag s ≡ slots) none (set-get_or slots tag None)

pub accepts : (m : MediumView) (longest : ℕ) (t : Table) (tag piece : ℕ) (srb : Srb) → IsFree (shown_of m longest t) tag → tag < length t.slots
    → piece_at t.slots tag ≡ None → Accepts (shown_of m longest t) tag piece srb (shown_of m longest (with_new tag piece srb t))
accepts m longest t tag piece srb free below none =
    let new = new_piece t.failures piece srb in
    let put : IsPermutation (tags_of m.sector_size 0 (slice_set t.slots tag (Some new))) (in_use_of m.sector_size tag new ∷ tags_of m.sector_size 0 (slice_set t.slots tag None)) =
    filled m.sector_size t.slots tag new below in
    record {
      tags = tags_of m.sector_size 0 (slice_set t.slots tag (Some new));
      is_free = free;
      below = below;
      in_use = subst (λ (s : List (Option OnTag)). IsPermutation (tags_of m.sector_size 0 (slice_set t.slots tag (Some new))) (in_use_of m.sector_size tag new ∷ tags_of m.sector_size 0 s))
          (same_slots t.slots tag none) put;
      after = depth_stays m longest (with_new tag piece srb t) (length t.slots) (length-set t.slots tag (Some new));
    }

pub accepts_due : (m : MediumView) (longest : ℕ) (p : Bool) (t : Table) (tag piece : ℕ) (srb : Srb)
    → Dues tag (Some busy) (view_of m longest p t) (view_of m longest p (with_new tag piece srb t))
accepts_due m longest p t tag piece srb = due_set m longest p (with_new tag piece srb t) t.slots tag (Some (new_piece t.failures piece srb)) (Some busy) refl refl

-- ACT

pub untouched_is_fresh : (size : ℕ) (tag : ℕ) (on : OnTag) → on.progress ≡ Untouched → (in_use_of size tag on).fate ≡ Fresh
untouched_is_fresh size tag on e = ap (λ (p : Progress). fate_of size on.srb p) e

not_met : {w : Bool} (m : MediumView) (f : ℕ) (on : OnTag) (b : Bool) → IsPieceRight w m f on → on.progress ≡ Untouched → on.was_reset ≡ b → b ≡ false
not_met m f on false right untouched e = refl
not_met m f on true right untouched e = absurd ((right.met e).1 untouched)

pub shows_acted : (size tag : ℕ) (on : OnTag) (bytes : List ℕ) (moved : List (List ℕ)) → bytes ≡ concat moved → moved ≡ moved_by size on.srb.block bytes
    → in_use_of size tag (moved_piece on bytes) ≡ acted moved 0 (in_use_of size tag on)
shows_acted size tag on bytes moved e f =
    ap (λ (s : List (List ℕ)). record (in_use_of size tag (moved_piece on bytes)) { fate = Acted s }) (sym f)
    ∙ ap (λ (b : List ℕ). record (in_use_of size tag on) { fate = Acted moved; srb = emptied b on.srb }) e

pub acts : (m : MediumView) (longest : ℕ) (t : Table) (tag : ℕ) (on : OnTag) (command : Cdb) (bytes : List ℕ) (moved sectors : List (List ℕ))
    → tag < length t.slots → piece_at t.slots tag ≡ Some on → on.progress ≡ Untouched → Means on.srb.block command
    → Performs m.sector_size m.sectors on.srb.data command moved sectors → bytes ≡ concat moved → moved ≡ moved_by m.sector_size on.srb.block bytes
    → ActsOn (shown_of m longest t) tag on.piece bytes (shown_of (record m { sectors = sectors }) longest (with_moved tag (moved_piece on bytes) t))
acts m longest t tag on command bytes moved sectors below there untouched means performs bytes_are moved_is =
    let put : IsPermutation (tags_of m.sector_size 0 (slice_set t.slots tag (Some (moved_piece on bytes)))) (in_use_of m.sector_size tag (moved_piece on bytes) ∷ tags_of m.sector_size 0 (slice_set t.slots tag None)) =
    filled m.sector_size t.slots tag (moved_piece on bytes) below in
    record {
      use' = in_use_of m.sector_size tag on;
      others = tags_of m.sector_size 0 (slice_set t.slots tag None);
      command = command;
      moved = moved;
      sectors = sectors;
      left = 0;
      tags = tags_of m.sector_size 0 (slice_set t.slots tag (Some (moved_piece on bytes)));
      is_on = record { in_use = taken_first m.sector_size t.slots tag on there; has_tag = refl };
      is_piece = refl;
      is_fresh = untouched_is_fresh m.sector_size tag on untouched;
      means = means;
      performs = performs;
      hands_over = bytes_are;
      as_booked = λ apart. absurd (cc (apart));
      in_use = subst (λ (u : TagInUse). IsPermutation (tags_of m.sector_size 0 (slice_set t.slots tag (Some (moved_piece on bytes)))) (u ∷ tags_of m.sector_size 0 (slice_set t.slots tag None)))
          (shows_acted m.sector_size tag on bytes moved bytes_are moved_is) put;
      after = depth_stays (record m { sectors = sectors }) longest (with_moved tag (moved_piece on bytes) t) (length t.slots) (length-set t.slots tag (Some (moved_piece on bytes)));
    }

-- an adapter that has its sectors books nothing
pub not_booked : (m : MediumView) (longest : ℕ) (t : Table) (tag : ℕ) → ¬ IsBooked (shown_of m longest t) tag
not_booked m longest t tag h = cc (h.apart)

pub faults : (m : MediumView) (longest : ℕ) (t : Table) (tag : ℕ) (on : OnTag) (completion : Completion) (k : ℕ)
    → tag < length t.slots → piece_at t.slots tag ≡ Some on → on.progress ≡ Untouched
    → FaultsOn (shown_of m longest t) tag on.piece (shown_of (record m { failures = k }) longest (with_failed tag (failed_piece on completion) t))
faults m longest t tag on completion k below there untouched = record {
  use' = in_use_of m.sector_size tag on;
  others = tags_of m.sector_size 0 (slice_set t.slots tag None);
  tags = tags_of m.sector_size 0 (slice_set t.slots tag (Some (failed_piece on completion)));
  failures = t.failures + 1;
  left = on.srb;
  is_on = record { in_use = taken_first m.sector_size t.slots tag on there; has_tag = refl };
  is_piece = refl;
  is_fresh = untouched_is_fresh m.sector_size tag on untouched;
  counted = omega arith;
  spoiled = unspoiled on.srb;
  in_use = filled m.sector_size t.slots tag (failed_piece on completion) below;
  after = depth_stays (record m { failures = k }) longest (with_failed tag (failed_piece on completion) t) (length t.slots) (length-set t.slots tag (Some (failed_piece on completion)));
}

completion_unmet : (on : OnTag) → on.was_reset ≡ false → slot_completion (Some on) ≡ Some (completion_by on.progress)
completion_unmet on e = ap (λ (b : Bool). Some (if b then bus_reset else completion_by on.progress)) e

pub acts_by_table : {w : Bool} (m : MediumView) (longest : ℕ) (p : Bool) (t : Table) (tag : ℕ) (on : OnTag) (command : Cdb) (bytes : List ℕ) (sectors : List (List ℕ))
    → IsPieceRight w m t.failures on → piece_at t.slots tag ≡ Some on → on.progress ≡ Untouched → Means on.srb.block command
    → fault_of (disk_of m p) on.srb (Ok command) ≡ None
    → ActsOn (shown_of m longest t) tag on.piece bytes (shown_of (record m { sectors = sectors }) longest (with_moved tag (moved_piece on bytes) t))
    → ActsByTable (view_of m longest p t) tag (view_of (record m { sectors = sectors }) longest p (with_moved tag (moved_piece on bytes) t))
acts_by_table m longest p t tag on command bytes sectors right there untouched means none act =
    let unmet : on.was_reset ≡ false = not_met m t.failures on on.was_reset right untouched refl in
    record {
      use' = in_use_of m.sector_size tag on;
      others = tags_of m.sector_size 0 (slice_set t.slots tag None);
      decoded = Ok command;
      is_on = record { in_use = taken_first m.sector_size t.slots tag on there; has_tag = refl };
      decodes = means;
      ends = rw none (
        (bytes, act),
        due_set (record m { sectors = sectors }) longest p (with_moved tag (moved_piece on bytes) t) t.slots tag
            (Some (moved_piece on bytes)) (Some success) refl (completion_unmet (moved_piece on bytes) unmet),
      );
    }

-- a piece that fails counts once, and its completion is due
pub fails_by : {w : Bool} (m : MediumView) (longest : ℕ) (p : Bool) (t : Table) (tag : ℕ) (on : OnTag) (completion : Completion) (k : ℕ)
    → IsPieceRight w m t.failures on → on.progress ≡ Untouched
    → FaultsOn (shown_of m longest t) tag on.piece (shown_of (record m { failures = k }) longest (with_failed tag (failed_piece on completion) t))
    → EndsBy (view_of m longest p t) tag on.piece (Some completion) (view_of (record m { failures = k }) longest p (with_failed tag (failed_piece on completion) t))
fails_by m longest p t tag on completion k right untouched act =
    let unmet : on.was_reset ≡ false = not_met m t.failures on on.was_reset right untouched refl in (
      act,
      refl,
      due_set (record m { failures = k }) longest p (with_failed tag (failed_piece on completion) t) t.slots tag
          (Some (failed_piece on completion)) (Some completion) refl (completion_unmet (failed_piece on completion) unmet),
    )

pub faults_by_table : {w : Bool} (m : MediumView) (longest : ℕ) (p : Bool) (t : Table) (tag : ℕ) (on : OnTag) (completion : Completion) (k : ℕ) (decoded : Result Cdb CdbFault)
    → IsPieceRight w m t.failures on → piece_at t.slots tag ≡ Some on → on.progress ≡ Untouched → Decodes on.srb.block decoded
    → fault_of (disk_of m p) on.srb decoded ≡ Some completion
    → FaultsOn (shown_of m longest t) tag on.piece (shown_of (record m { failures = k }) longest (with_failed tag (failed_piece on completion) t))
    → ActsByTable (view_of m longest p t) tag (view_of (record m { failures = k }) longest p (with_failed tag (failed_piece on completion) t))
faults_by_table m longest p t tag on completion k decoded right there untouched decodes fault act = record {
  use' = in_use_of m.sector_size tag on;
  others = tags_of m.sector_size 0 (slice_set t.slots tag None);
  decoded = decoded;
  is_on = record { in_use = taken_first m.sector_size t.slots tag on there; has_tag = refl };
  decodes = decodes;
  ends = rw fault (fails_by m longest p t tag on completion k right untouched act);
}

-- FINISH

may_return : {w : Bool} (size : ℕ) (m : MediumView) (failures : ℕ) (tag : ℕ) (on : OnTag) (b : Bool) (p : Progress) → IsPieceRight w m failures on → on.was_reset ≡ b → on.progress ≡ p
    → MayReturn failures (in_use_of size tag on) (class_of (if b then bus_reset else completion_by p))
may_return size m failures tag on true p right e f = ((right.met e).0, refl, λ h. refl)
may_return size m failures tag on false Untouched right e f = (untouched_is_fresh size tag on f, e)
may_return size m failures tag on false Moved right e f = ((moved_by size on.srb.block on.srb.data, ap (λ (q : Progress). fate_of size on.srb q) f), e)
may_return size m failures tag on false (Failed c) right e f =
    let bad : class_of c ≡ Bad c = (right.failed c f).0 in
    let known : MayReturn failures (in_use_of size tag on) (Bad c) = ((right.failed c f).1, bad, λ h. absurd cc) in
    rw bad known

holds_moved : {w : Bool} (size : ℕ) (m : MediumView) (f : ℕ) (on : OnTag) (p : Progress) (moved : List (List ℕ)) → m.sector_size ≡ size → IsPieceRight w m f on → on.progress ≡ p
    → fate_of size on.srb p ≡ Acted moved → on.srb.data ≡ concat moved
holds_moved size m f on Untouched moved same right e h = absurd cc
holds_moved size m f on (Failed c) moved same right e h = absurd cc
holds_moved size m f on Moved moved same right e h =
    let whole : concat (moved_by size on.srb.block on.srb.data) ≡ on.srb.data = rw (← same) (right.moved e) in
    let k : moved_by size on.srb.block on.srb.data ≡ moved = cc in
    sym whole ∙ ap concat k

pub finishes : {w : Bool} (m : MediumView) (longest : ℕ) (t : Table) (tag : ℕ) (on : OnTag) → IsPieceRight w m t.failures on → piece_at t.slots tag ≡ Some on
    → Finishes (shown_of m longest t) tag (record on.srb { sense = (completion_of on).sense }) (completion_of on) (shown_of m longest (with_returned tag on t))
finishes m longest t tag on right there =
    let use' = in_use_of m.sector_size tag on in
    let back : ReturnsOn (shown_of m longest t) tag on.piece (class_of (completion_of on)) (shown_of m longest (with_returned tag on t)) = record {
      use' = use';
      others = tags_of m.sector_size 0 (slice_set t.slots tag None);
      tags = tags_of m.sector_size 0 (slice_set t.slots tag None);
      is_on = record { in_use = taken_first m.sector_size t.slots tag on there; has_tag = refl };
      failures = t.failures;
      is_piece = refl;
      counted = omega arith;
      may = may_return m.sector_size m t.failures tag on on.was_reset on.progress right refl refl;
      in_use = IsPermutation-refl _;
      after = depth_stays m longest (with_returned tag on t) (length t.slots) (length-set t.slots tag None);
    } in
    record {
      piece = on.piece;
      returns = back;
      comes_back = refl;
      holds_moved = λ moved h. holds_moved m.sector_size m t.failures on on.progress moved refl right refl h;
    }

pub finishes_due : (m : MediumView) (longest : ℕ) (p : Bool) (t : Table) (tag : ℕ) (on : OnTag)
    → Dues tag None (view_of m longest p t) (view_of m longest p (with_returned tag on t))
finishes_due m longest p t tag on = due_set m longest p (with_returned tag on t) t.slots tag None None refl refl

pub is_due : (slots : List (Option OnTag)) (tag : ℕ) (on : OnTag) → tag < length slots → piece_at slots tag ≡ Some on
    → get_or (map slot_completion slots) tag None ≡ Some (completion_of on)
is_due slots tag on below there = get_or-map slot_completion slots tag None None below ∙ ap slot_completion there

-- AT FIRST

no_tags : (size k n : ℕ) → tags_of size k (replicate n None) ≡ []
no_tags size k zero = refl
no_tags size k (suc n) = no_tags size (suc k) n

none_due : (n : ℕ) → map slot_completion (replicate n None) ≡ replicate n None
none_due zero = refl
none_due (suc n) = ap (λ (l : List (Option Completion)). None ∷ l) (none_due n)

abbrev pub new_table : ℕ → Table
new_table n = record { slots = replicate n None; accepted = 0; failures = 0; labels = []; keeps_bytes = true }

pub shown_new : (m : MediumView) (longest n : ℕ) (p : Bool) → view_of m longest p (new_table n) ≡ new_view m longest n p
shown_new m longest n p =
    ap (λ (d : ℕ). record (view_of m longest p (new_table n)) { shown = record (shown_of m longest (new_table n)) { depth = d } }) (length-replicate n None)
    ∙ ap (λ (u : List TagInUse). record (view_of m longest p (new_table n)) { shown = record (shown_of m longest (new_table n)) { depth = n; tags = u } }) (no_tags m.sector_size 0 n)
    ∙ ap (λ (d : List (Option Completion)). record (new_view m longest n p) { due = d }) (none_due n)
