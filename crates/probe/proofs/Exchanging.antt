-- A command sent to an idle adapter, and its way back.
use Rattle.std.proofs.Common.{append-nil, ◌≡◌, ◌<◌, ◌≤◌, ℕ, ◌==◌, false, true, Bool, ◌+◌, ◌⊎◌, List, [], ◌∷◌, All, refl, sym, ◌∙◌, ap, subst, length, arith, inl, inr, IsPermutation, rules}
use Rattle.std.specs.Prelude.{bit_and, if◌then◌else◌}
use Rattle.std.specs.List.{concat}
use Rattle.std.proofs.lemmas.List.Sorted.{length_permutation, All-permutation, IsPermutation-sym, IsPermutation-trans}
use Rattle.std.proofs.lemmas.List.Elements.{All-head, All-cons}
use Rattle.cdb.specs.declared.Cdb.{Cdb}
use Rattle.cdb.specs.declared.Cdb.TheVariants.{Read10, Write10, Sync10, ReadCapacity10, Read16, Write16, Sync16, ReadCapacity16}
use Rattle.cdb.specs.Meaning.{Means}
use Rattle.cdb.proofs.Once.{means_once}
use Rattle.ntstatus.specs.declared.NtStatus.{NtStatus}
use Rattle.ntstatus.specs.Table.{status_of}
use Rattle.srb.specs.declared.DeviceLabel.{DeviceLabel}
use Rattle.srb.specs.declared.DeviceLabel.TheVariants.{Act, Fault}
use Rattle.srb.specs.declared.Srb.{Srb}
use Rattle.srb.specs.declared.Completion.{Completion}
use Rattle.srb.specs.declared.Class.{Class}
use Rattle.srb.specs.declared.Class.TheVariants.{Good, Busy, Bad}
use Rattle.srb.specs.Fate.{Fresh, Acted, class_of}
use Rattle.adapter.specs.View.{AdapterView, TagInUse, HasNotTag, IsFree, Accepts, in_use_from, acted, faulted, MayReturn, ActsOn, FaultsOn, ReturnsOn, MovesOn}
use Rattle.adapter.specs.Performing.{Performs, CarriesOut}
use Rattle.adapter.specs.Calls.{ActsOrFaults, ActsNot, Finishes, FinishesNot}
use Rattle.probe.specs.Exchange.{IsIdle, LooksBy, IsActOrFault, Exchanges}
use Rattle.probe.specs.inside.Exchange.{Looks, bytes_brought, Brings, AsksOnce, Fails}

-- a list in which one item stands is just that item
pub just_one : {X : Type 0} (x y : X) (xs ys : List X) → IsPermutation xs (x ∷ []) → IsPermutation xs (y ∷ ys) → (x ≡ y) × (ys ≡ [])
just_one {X} x y xs ys one more =
    let same = IsPermutation-trans _ _ _ (IsPermutation-sym _ _ one) more in
    let all : All (λ (z : X). z ≡ x) (x ∷ []) = All-cons (λ (z : X). z ≡ x) x [] refl (search rules) in
    let first : y ≡ x = All-head (λ (z : X). z ≡ x) y ys (All-permutation (λ (z : X). z ≡ x) (x ∷ []) (y ∷ ys) same all) in
    let long : length (y ∷ ys) ≡ length (x ∷ []) = length_permutation _ _ same in
    (sym first, empty_of ys (omega (arith, long)))
  where
    empty_of : (ys : List X) → length ys ≡ 0 → ys ≡ []
    empty_of [] e = refl
    empty_of (z ∷ zs) e = absurd (omega (arith, e))

-- a list in which nothing stands
pub none_left : {X : Type 0} (xs : List X) → IsPermutation xs [] → xs ≡ []
none_left [] same = refl
none_left {X} (x ∷ xs) same = let e : length {A = X} [] ≡ length (x ∷ xs) = length_permutation _ _ same in absurd (omega (arith, e))

-- the disk stays where a command only looks, and what it moves is what it brings
looked : (view : AdapterView) (bytes : List ℕ) (command : Cdb) (moved after : List (List ℕ)) → Looks command
    → Performs view.sector_size view.sectors bytes command moved after → (after ≡ view.sectors) × (concat moved ≡ bytes_brought view command)
looked view bytes (Read10 lba count fua) moved after looks h = (h.2, ap concat h.1)
looked view bytes (Write10 lba count fua) moved after looks h = absurd looks
looked view bytes (Sync10 lba blocks) moved after looks h = (h.1, ap concat h.0)
looked view bytes ReadCapacity10 moved after looks h = (h.1, ap concat h.0 ∙ append-nil _)
looked view bytes (Read16 lba count fua) moved after looks h = (h.2, ap concat h.1)
looked view bytes (Write16 lba count fua) moved after looks h = absurd looks
looked view bytes (Sync16 lba blocks) moved after looks h = (h.1, ap concat h.0)
looked view bytes (ReadCapacity16 allocation) moved after looks h = (h.1, ap concat h.0 ∙ append-nil _)

-- also where the adapter's sectors stand elsewhere
looked_at : (faithful : Bool) (view : AdapterView) (bytes : List ℕ) (command : Cdb) (moved after : List (List ℕ)) → Looks command
    → CarriesOut faithful true view.sector_size view.sectors bytes command moved after → (after ≡ view.sectors) × (concat moved ≡ bytes_brought view command)
looked_at true view bytes command moved after looks h = looked view bytes command moved after looks h
looked_at false view bytes (Read10 lba count fua) moved after looks h = (h.1, ap concat (h.0.3 refl))
looked_at false view bytes (Write10 lba count fua) moved after looks h = absurd looks
looked_at false view bytes (Sync10 lba blocks) moved after looks h = (h.1, ap concat h.0)
looked_at false view bytes ReadCapacity10 moved after looks h = (h.1, ap concat h.0 ∙ append-nil _)
looked_at false view bytes (Read16 lba count fua) moved after looks h = (h.1, ap concat (h.0.3 refl))
looked_at false view bytes (Write16 lba count fua) moved after looks h = absurd looks
looked_at false view bytes (Sync16 lba blocks) moved after looks h = (h.1, ap concat h.0)
looked_at false view bytes (ReadCapacity16 allocation) moved after looks h = (h.1, ap concat h.0 ∙ append-nil _)

-- what a class of return says of a piece that acted or faulted
brings_by : (old : AdapterView) (failures : ℕ) (command : Cdb) (use' : TagInUse) (bytes : List ℕ) (last : AdapterView) (class : Class)
    → (use'.fate ≡ Fresh → ⊥) → ((moved : List (List ℕ)) → use'.fate ≡ Acted moved → bytes ≡ bytes_brought old command)
    → use'.failures_before ≡ old.failures → last.failures ≡ failures → MayReturn failures use' class → Brings old command bytes class last
brings_by old failures command use' bytes last Good acts good before after may = good may.0.0 may.0.1
brings_by old failures command use' bytes last Busy acts good before after may = acts may.0
brings_by old failures command use' bytes last (Bad completion) acts good before after may = let h = may.0 in omega (arith, before, after, h)

-- WHAT WAS SENT, AND HOW IT CAME BACK

one_tag : (old first : AdapterView) (sent : Srb) → IsIdle old → Accepts old 0 0 sent first → IsPermutation first.tags (in_use_from old 0 0 sent ∷ [])
one_tag old first sent idle accepts =
    subst (λ (v : AdapterView). IsPermutation v.tags (in_use_from old 0 0 sent ∷ [])) (sym accepts.after)
    (subst (λ (ts : List TagInUse). IsPermutation accepts.tags (in_use_from old 0 0 sent ∷ ts)) idle.no_tags accepts.in_use)

-- the piece on the only tag is piece 0
returned : (second last : AdapterView) (only : TagInUse) (srb : Srb) (completion : Completion) → IsPermutation second.tags (only ∷ [])
    → only.piece ≡ 0 → Finishes second 0 srb completion last → ReturnsOn second 0 0 (class_of completion) last
returned second last only srb completion one first h =
    let alone = just_one only h.returns.use' second.tags h.returns.others one h.returns.is_on.in_use in
    let none : h.piece ≡ 0 = sym h.returns.is_piece ∙ sym (ap (λ (u : TagInUse). u.piece) alone.0) ∙ first in
    subst (λ (n : ℕ). ReturnsOn second 0 n (class_of completion) last) none h.returns

exchanges : (old first second last : AdapterView) (command : Cdb) (sent : Srb) (class : Class) (told : DeviceLabel) → LooksBy old command sent
    → Accepts old 0 0 sent first → IsActOrFault 0 told → MovesOn first 0 told second → ReturnsOn second 0 0 class last → Exchanges old command class (record last { labels = [] })
exchanges old first second last command sent class told looks accepts acts moves returns = record {
  srb = sent;
  accepted = first;
  told = told;
  looks = looks;
  accepts = accepts;
  acts = acts;
  moves = record {
    moved = last;
    moves = (second, (0, moves), (last, (0, returns), refl));
    taken = refl;
  };
}

exchanged_once : (old first second last : AdapterView) (command : Cdb) (sent srb : Srb) (completion : Completion) → IsIdle old
    → LooksBy old command sent → Accepts old 0 0 sent first → ActsOrFaults first 0 second → Finishes second 0 srb completion last → Exchanges old command (class_of completion) (record last { labels = [] })
exchanged_once old first second last command sent srb completion idle looks accepts acts finishes =
    elim acts.one_of [
      | inl h ↦
          let alone = just_one (in_use_from old 0 0 sent) h.1.use' first.tags h.1.others (one_tag old first sent idle accepts) h.1.is_on.in_use in
          let none : acts.piece ≡ 0 = sym h.1.is_piece ∙ sym (ap (λ (u : TagInUse). u.piece) alone.0) in
          let one : IsPermutation second.tags (acted h.1.moved h.1.left h.1.use' ∷ []) =
          subst (λ (v : AdapterView). IsPermutation v.tags (acted h.1.moved h.1.left h.1.use' ∷ [])) (sym h.1.after)
          (subst (λ (os : List TagInUse). IsPermutation h.1.tags (acted h.1.moved h.1.left h.1.use' ∷ os)) alone.1 h.1.in_use) in
          exchanges old first second last command sent (class_of completion) (Act 0 h.0) looks accepts refl
          (subst (λ (n : ℕ). ActsOn first 0 n h.0 second) none h.1)
          (returned second last (acted h.1.moved h.1.left h.1.use') srb completion one (sym (ap (λ (u : TagInUse). u.piece) alone.0)) finishes)
      | inr (h, unbooked) ↦
          let alone = just_one (in_use_from old 0 0 sent) h.use' first.tags h.others (one_tag old first sent idle accepts) h.is_on.in_use in
          let none : acts.piece ≡ 0 = sym h.is_piece ∙ sym (ap (λ (u : TagInUse). u.piece) alone.0) in
          let one : IsPermutation second.tags (faulted h.left h.use' ∷ []) =
          subst (λ (v : AdapterView). IsPermutation v.tags (faulted h.left h.use' ∷ [])) (sym h.after)
          (subst (λ (os : List TagInUse). IsPermutation h.tags (faulted h.left h.use' ∷ os)) alone.1 h.in_use) in
          exchanges old first second last command sent (class_of completion) (Fault 0) looks accepts refl (subst (λ (n : ℕ). FaultsOn first 0 n second) none h)
          (returned second last (faulted h.left h.use') srb completion one (sym (ap (λ (u : TagInUse). u.piece) alone.0)) finishes)
    ]

-- the piece on the only tag comes back
came_back : (old view : AdapterView) (command : Cdb) (use' : TagInUse) (srb : Srb) (completion : Completion) (last : AdapterView)
    → IsPermutation view.tags (use' ∷ [])
    → (use'.fate ≡ Fresh → ⊥) → ((moved : List (List ℕ)) → use'.fate ≡ Acted moved → concat moved ≡ bytes_brought old command)
    → use'.failures_before ≡ old.failures
    → view.sector_size ≡ old.sector_size → view.sectors ≡ old.sectors → view.faithful ≡ old.faithful → view.keeps_bytes ≡ old.keeps_bytes
    → view.max_transfer ≡ old.max_transfer → view.depth ≡ old.depth
    → view.accepted ≡ old.accepted + 1 → old.failures ≤ view.failures
    → Finishes view 0 srb completion last → Exchanges old command (class_of completion) (record last { labels = [] }) → AsksOnce old command srb completion last
came_back old view command use' srb completion last one acts good before size sectors faith bytes_kept most depth counted fails h exchanged =
    let alone = just_one use' h.returns.use' view.tags h.returns.others one h.returns.is_on.in_use in
    let tags : h.returns.tags ≡ [] = none_left _ (subst (λ (os : List TagInUse). IsPermutation h.returns.tags os) alone.1 h.returns.in_use) in
    let after = h.returns.after in
    let failures : last.failures ≡ h.returns.failures = ap (λ (v : AdapterView). v.failures) after in
    let counted' : view.failures ≤ h.returns.failures = h.returns.counted in
    record {
      same = record {
        sector_size = ap (λ (v : AdapterView). v.sector_size) after ∙ size;
        sectors = ap (λ (v : AdapterView). v.sectors) after ∙ sectors;
        faithful = ap (λ (v : AdapterView). v.faithful) after ∙ faith;
        keeps_bytes = ap (λ (v : AdapterView). v.keeps_bytes) after ∙ bytes_kept;
        max_transfer = ap (λ (v : AdapterView). v.max_transfer) after ∙ most;
        depth = ap (λ (v : AdapterView). v.depth) after ∙ depth;
        idle = record { no_tags = ap (λ (v : AdapterView). v.tags) after ∙ tags; no_labels = refl };
        accepted = let e : last.accepted ≡ view.accepted = ap (λ (v : AdapterView). v.accepted) after in omega (arith, e, counted);
        failures = omega (arith, failures, counted', fails);
      };
      brings = brings_by old h.returns.failures command h.returns.use' srb.data last (class_of completion)
          (λ fresh. acts (ap (λ (u : TagInUse). u.fate) alone.0 ∙ fresh))
          (λ moved e. h.holds_moved moved e ∙ good moved (ap (λ (u : TagInUse). u.fate) alone.0 ∙ e))
          (sym (ap (λ (u : TagInUse). u.failures_before) alone.0) ∙ before)
          failures
          h.returns.may;
      exchanged = exchanged;
    }

pub asks_once : (old first second last : AdapterView) (command : Cdb) (sent srb : Srb) (completion : Completion) → IsIdle old
    → LooksBy old command sent → Looks command → Accepts old 0 0 sent first → ActsOrFaults first 0 second → Finishes second 0 srb completion last
    → AsksOnce old command srb completion last
asks_once old first second last command sent srb completion idle by looks accepts acts finishes =
    let exchanged = exchanged_once old first second last command sent srb completion idle by accepts acts finishes in
    let one : IsPermutation accepts.tags (in_use_from old 0 0 sent ∷ []) =
    subst (λ (ts : List TagInUse). IsPermutation accepts.tags (in_use_from old 0 0 sent ∷ ts)) idle.no_tags accepts.in_use in
    let acts' = subst (λ (v : AdapterView). ActsOrFaults v 0 second) accepts.after acts in
    elim acts'.one_of [
      | inl h ↦
          let use' = h.1.use' in
          let alone = just_one (in_use_from old 0 0 sent) h.1.use' accepts.tags h.1.others one h.1.is_on.in_use in
          let same_srb : sent ≡ h.1.use'.srb = ap (λ (u : TagInUse). u.srb) alone.0 in
          let is_command : h.1.command ≡ command =
          means_once sent.block h.1.command command (subst (λ (s : Srb). Means s.block h.1.command) (sym same_srb) h.1.means) by.reading.asks in
          let none : acts'.piece ≡ 0 = sym h.1.is_piece ∙ sym (ap (λ (u : TagInUse). u.piece) alone.0) in
          let told : (acts'.piece == 0) ≡ true = ap (λ (n : ℕ). n == 0) none in
          let seen = looked_at old.faithful old h.1.use'.srb.data command h.1.moved h.1.sectors looks
          (subst (λ (b : Bool). CarriesOut old.faithful b old.sector_size old.sectors h.1.use'.srb.data command h.1.moved h.1.sectors) told
          (subst (λ (c : Cdb). CarriesOut old.faithful (acts'.piece == 0) old.sector_size old.sectors h.1.use'.srb.data c h.1.moved h.1.sectors)
          is_command h.1.performs)) in
          let finishes' = subst (λ (v : AdapterView). Finishes v 0 srb completion last) h.1.after finishes in
          came_back old _ command (acted h.1.moved h.1.left h.1.use') srb completion last
          (subst (λ (os : List TagInUse). IsPermutation h.1.tags (acted h.1.moved h.1.left h.1.use' ∷ os)) alone.1 h.1.in_use)
          (λ fresh. cc (fresh))
          (λ moved e. let same : h.1.moved ≡ moved = cc (e) in ap concat (sym same) ∙ seen.1)
          (sym (ap (λ (u : TagInUse). u.failures_before) alone.0))
          refl seen.0 refl refl refl refl refl (omega arith)
          finishes' exchanged
      | inr (h, unbooked) ↦
          let alone = just_one (in_use_from old 0 0 sent) h.use' accepts.tags h.others one h.is_on.in_use in
          let finishes' = subst (λ (v : AdapterView). Finishes v 0 srb completion last) h.after finishes in
          let counted = h.counted in
          came_back old _ command (faulted h.left h.use') srb completion last
          (subst (λ (os : List TagInUse). IsPermutation h.tags (faulted h.left h.use' ∷ os)) alone.1 h.in_use)
          (λ fresh. cc (fresh))
          (λ moved e. cc (e))
          (sym (ap (λ (u : TagInUse). u.failures_before) alone.0))
          refl refl refl refl refl refl refl (omega (arith, counted))
          finishes' exchanged
    ]

-- the piece that was just accepted can act
pub acts_after : (old first second : AdapterView) (sent : Srb) → IsIdle old → Accepts old 0 0 sent first → ActsNot first 0 second → ⊥
acts_after old first second sent idle accepts not =
    let one : IsPermutation accepts.tags (in_use_from old 0 0 sent ∷ []) =
    subst (λ (ts : List TagInUse). IsPermutation accepts.tags (in_use_from old 0 0 sent ∷ ts)) idle.no_tags accepts.in_use in
    let not' = subst (λ (v : AdapterView). ActsNot v 0 second) accepts.after not in
    not'.none_fresh (in_use_from old 0 0 sent) [] (record { in_use = one; has_tag = refl }) refl

-- after its act the piece is still on the tag
pub finishes_after : (first second last : AdapterView) → ActsOrFaults first 0 second → FinishesNot second 0 last → ⊥
finishes_after first second last acts not =
    elim acts.one_of [
      | inl h ↦
          let free : All (HasNotTag 0) h.1.tags = subst (λ (v : AdapterView). IsFree v 0) h.1.after not.is_free in
          All-head (HasNotTag 0) (acted h.1.moved h.1.left h.1.use') h.1.others (All-permutation (HasNotTag 0) _ _ h.1.in_use free) h.1.is_on.has_tag
      | inr (h, unbooked) ↦
          let free : All (HasNotTag 0) h.tags = subst (λ (v : AdapterView). IsFree v 0) h.after not.is_free in
          All-head (HasNotTag 0) (faulted h.left h.use') h.others (All-permutation (HasNotTag 0) _ _ h.in_use free) h.is_on.has_tag
    ]

-- A COMMAND THAT FAILED

is_itself : (completion other : Completion) → class_of completion ≡ Bad other → other ≡ completion
is_itself completion other = by_tests (bit_and completion.srb_status 63 == 1) (bit_and completion.srb_status 63 == 5)
  where
    by_tests : (good busy : Bool) → (if good then Good else if busy then Busy else Bad completion) ≡ Bad other → other ≡ completion
    by_tests true busy e = cc (e)
    by_tests false true e = cc (e)
    by_tests false false e = cc (e)

pub not_good : (class : Class) (completion : Completion) → class ≡ class_of completion
    → (class ≡ Busy) ⊎ ((other : Completion) × (class ≡ Bad other)) → class_of completion ≡ Good → ⊥
not_good class completion is (inl busy) good = cc (is, busy, good)
not_good class completion is (inr (other, bad)) good = cc (is, bad, good)

-- what came back neither good nor busy came back bad
pub failed : (old new after : AdapterView) (command : Cdb) (srb : Srb) (completion : Completion) (status : NtStatus)
    → AsksOnce old command srb completion new → after ≡ record new { labels = [] }
    → (class_of completion ≡ Good → ⊥) → status ≡ status_of completion.srb_status completion.scsi_status completion.sense → Fails old command status after
failed old new after command srb completion status asks taken bad means = by_class (class_of completion) refl asks.brings asks.exchanged
  where
    by_class : (class : Class) → class_of completion ≡ class → Brings old command srb.data class new
        → Exchanges old command class (record new { labels = [] }) → Fails old command status after
    by_class Good is brings exchanged = absurd (bad is)
    by_class Busy is brings exchanged = absurd brings
    by_class (Bad other) is brings exchanged =
        let same : other ≡ completion = is_itself completion other is in
        record {
          failure = record { completion = completion; is_bad = is ∙ ap Bad same; means = means };
          counted = subst (λ (v : AdapterView). old.failures < v.failures) (sym taken) brings;
          exchanged = subst (λ (v : AdapterView). Exchanges old command (Bad completion) v) (sym taken)
              (subst (λ (c : Completion). Exchanges old command (Bad c) (record new { labels = [] })) same exchanged);
        }
