-- What a call on a volume leaves, in the words of its user.
use Rattle.volume.proofs.Common.{◌≡◌, ◌≢◌, ◌<◌, ◌≤◌, ◌⊎◌, ℕ, ◌+◌, ◌*◌, ◌/◌, ◌^◌, arith, true, false, List, [], Option, Some, refl, sym, ◌∙◌, ap, subst, length, IsTrue, IsFalse, count_by, is_none, is_some, if◌then◌else◌, concat, Success, IsPartition, Read, Write, Flush, ClientRequest, Rules, is_transfer, sectors_of, Handle, OpenHandle, Refusal, InvalidHandle, InvalidParameter, DeletePending, DeviceBusy, InsufficientResources, InvalidDeviceRequest, NotFound, ManagerView, partition_of, Sizes, content_of, extent_at, handle_count, volume_over, VolumeKept, ComesTo, Ends, HasReason, Leaves, sectors_on}
use Rattle.io_manager.specs.declared.Answer.{Answer as AnswerOf}
use Rattle.volume.specs.Calls.{AreInBounds, IsAnswered, IsRefusal, IsSameDisk, Reads, Writes, WritesSome}
use Rattle.volume.proofs.Disk.{sectors_of-extent}
use Rattle.volume.proofs.Content.{in_content, out_of_content, read_content, same_content, write_content, mixed_content, bytes_counted}

pub kept_after : (v new : ManagerView) (handle : Handle) (p : ℕ) (sizes : Sizes) → VolumeKept v handle p sizes → Leaves v new → VolumeKept new handle p sizes
kept_after v new handle p sizes kept leaves = record {
  ready = leaves.ready;
  is_open = ap (λ (handles : List (Option OpenHandle)). partition_of handles handle) leaves.handles.handles ∙ kept.is_open;
  known = subst (λ (r : Rules). p < length r.partitions) (sym leaves.same_rules) kept.known;
  sector_size = kept.sector_size ∙ ap (λ (r : Rules). r.sector_size) (sym leaves.same_rules);
  sectors = kept.sectors ∙ ap (λ (r : Rules). sectors_of r (Some p)) (sym leaves.same_rules);
}

pub counted : (v : ManagerView) (handle : Handle) (p : ℕ) (sizes : Sizes) → VolumeKept v handle p sizes → sizes.sectors * sizes.sector_size ≡ length (content_of v p).bytes
counted v handle p sizes kept =
    ap (λ n. n * sizes.sector_size) (kept.sectors ∙ sectors_of-extent v.rules p) ∙ ap (λ n. (extent_at v.rules.partitions p).count * n) kept.sector_size
    ∙ sym (bytes_counted v kept.ready p kept.known (record { partition = Some p; kind = Flush; offset = 0; length = 0; through = false; bytes = [] }) refl)

pub usual_sectors : (v : ManagerView) (handle : Handle) (p : ℕ) (sizes : Sizes) → VolumeKept v handle p sizes → (sizes.sector_size ≡ 512) ⊎ (sizes.sector_size ≡ 4096)
usual_sectors v handle p sizes kept = subst (λ n. (n ≡ 512) ⊎ (n ≡ 4096)) (sym kept.sector_size) kept.ready.usable.sector_size

pub few_sectors : (v : ManagerView) (handle : Handle) (p : ℕ) (sizes : Sizes) → VolumeKept v handle p sizes → sizes.sectors ≤ 2 ^ 40
few_sectors v handle p sizes kept =
    let part : IsPartition v.rules.disk_sectors (extent_at v.rules.partitions p) = kept.ready.usable.partitions p (record { first = 0; count = 0 }) kept.known in
    let inside : (extent_at v.rules.partitions p).first + (extent_at v.rules.partitions p).count ≤ v.rules.disk_sectors = part.inside in
    let few : v.rules.disk_sectors ≤ 2 ^ 40 = kept.ready.usable.few in
    let same : sizes.sectors ≡ (extent_at v.rules.partitions p).count = kept.sectors ∙ sectors_of-extent v.rules p in
    omega arith

module _ (v : ManagerView) (handle : Handle) (p : ℕ) (sizes : Sizes) (kept : VolumeKept v handle p sizes) (q : ClientRequest) (on : q.partition ≡ partition_of v.handles handle) where
  abbrev is : q.partition ≡ Some p
  is = on ∙ kept.is_open

  pub has_partition : is_none q.partition ≡ false
  has_partition = ap is_none is

  -- as many handles are open
  same_count : (new : ManagerView) → Leaves v new → handle_count new ≡ handle_count v
  same_count new leaves = ap (λ (handles : List (Option OpenHandle)). count_by is_some handles) leaves.handles.handles

  pub same_disk : (new : ManagerView) → Leaves v new → new.adapter.sectors ≡ v.adapter.sectors → IsSameDisk (volume_over v p) (volume_over new p)
  same_disk new leaves same = record {
    content = same_content v kept.ready p kept.known q is new leaves same;
    partition = refl;
    asked = leaves.asked;
    same_handles = same_count new leaves;
  }

  -- a request that was refused
  pub refused : (reason : Refusal) → HasReason v q reason → IsTrue (is_transfer q.kind) → IsRefusal (volume_over v p) (AreInBounds (content_of v p) q.offset q.length) reason
  refused InvalidParameter h transfer = out_of_content v kept.ready p kept.known q is h.1
  refused DeviceBusy h transfer = h
  refused InsufficientResources h transfer = in_content v kept.ready p kept.known q is (h transfer)
  refused InvalidHandle h transfer = absurd h
  refused DeletePending h transfer = absurd h
  refused InvalidDeviceRequest h transfer = absurd h
  refused NotFound h transfer = absurd h

  pub refused_flush : (reason : Refusal) → HasReason v q reason → IsFalse (is_transfer q.kind) → IsRefusal (volume_over v p) (Unit {0}) reason
  refused_flush InvalidParameter h not = absurd (let k : true ≡ false = sym h.0 ∙ not in cc)
  refused_flush DeviceBusy h not = h
  refused_flush InsufficientResources h not = tt
  refused_flush InvalidHandle h not = absurd h
  refused_flush DeletePending h not = absurd h
  refused_flush InvalidDeviceRequest h not = absurd h
  refused_flush NotFound h not = absurd h

  module _ (answer : AnswerOf) (new : ManagerView) (h : Ends v q answer new) where
    pub in_bounds : IsTrue (is_transfer q.kind) → AreInBounds (content_of v p) q.offset q.length
    in_bounds transfer = in_content v kept.ready p kept.known q is (h.in_bounds transfer)

    -- it was told as it was answered; as a request of the volume's user, it is on the volume's partition
    pub told_as : (asked : ClientRequest) → record q { partition = Some p } ≡ asked → IsAnswered (volume_over v p) asked answer.status (volume_over new p)
    told_as asked same = subst (λ (r : ClientRequest). ComesTo v.rules v.state r answer.status new.state) (ap (λ o. record q { partition = o }) is ∙ same) h.comes_to

    pub reads : q.kind ≡ Read → answer.status ≡ Success → Reads (content_of v p) q.offset q.length answer.bytes
    reads is_read ok =
        let transfer : IsTrue (is_transfer q.kind) = ap is_transfer is_read in
        record { in_bounds = in_bounds transfer; bytes_are = h.reads is_read ok ∙ read_content v kept.ready p kept.known q is transfer (h.in_bounds transfer) }

    pub kept_content : q.kind ≢ Write → IsSameDisk (volume_over v p) (volume_over new p)
    kept_content other = same_disk new h.leaves (h.same other)

    -- it was sent
    pub sent_flush : q.kind ≡ Flush → (volume_over v p).state.next_piece < (volume_over new p).state.next_piece
    sent_flush is_flush = h.sent (λ ok. subst (λ n. 0 < n) (sym (ap (λ k. if is_transfer k then q.length / v.rules.sector_size else 1) is_flush)) (omega arith))

    pub sent_failed : answer.status ≢ Success → (volume_over v p).state.next_piece < (volume_over new p).state.next_piece
    sent_failed bad = h.sent (λ ok. absurd (bad ok))

    write_some : q.kind ≡ Write → Writes (volume_over v p) q.offset (concat (sectors_on v.rules q new.adapter.sectors)) (volume_over new p)
    write_some is_write =
        let transfer : IsTrue (is_transfer q.kind) = ap is_transfer is_write in
        record {
          content = write_content v kept.ready p kept.known q is new h.leaves transfer (h.in_bounds transfer) (h.changes is_write);
          partition = refl;
          asked = h.leaves.asked;
          same_handles = same_count new h.leaves;
        }

    pub writes : q.kind ≡ Write → answer.status ≡ Success → Writes (volume_over v p) q.offset q.bytes (volume_over new p)
    writes is_write ok = subst (λ bytes. Writes (volume_over v p) q.offset bytes (volume_over new p)) (h.writes is_write ok) (write_some is_write)

    pub writes_part : q.kind ≡ Write → length q.bytes ≡ q.length → WritesSome (volume_over v p) q.offset q.bytes (volume_over new p)
    writes_part is_write long =
        let transfer : IsTrue (is_transfer q.kind) = ap is_transfer is_write in
        record {
          mixed = concat (sectors_on v.rules q new.adapter.sectors);
          are_mixed = mixed_content v kept.ready p kept.known q is new h.leaves transfer (h.in_bounds transfer) long (h.changes is_write);
          writes = write_some is_write;
        }
