use Rattle.volume.proofs.Common.{◌≡◌, ◌<◌, false, refl, subst, length, is_none, Write, ClientRequest, call_on, Success, VolumeView, volume_over, Ends, Turns}
use Rattle.volume.specs.Calls.{AreInBounds, IsRefusal, IsAnswered, IsSameDisk, Writes, WritesSome, write_of}
use Rattle.volume.proofs.Methods.{has_partition, in_bounds, kept_after, refused, same_disk, sent_failed, told_as, writes, writes_part}
use Rattle.volume.proofs.volume.Volume.write.Goals as goal

pub invariant_of-self : goal.invariant_of-self
invariant_of-self g c =
    let q : ClientRequest = call_on c.self.inside.stack c.self.inside.handle Write c.args.offset c.args.bytes c.args.through in
    let known : is_none q.partition ≡ false = has_partition c.self.inside.stack c.self.inside.handle c.self.inside.partition c.self.inside.sizes c.self.invariant q refl in
    let h : Turns c.self.inside.stack q c.in-Err.reason c.carry_out.new.stack = c.in-Err.ensures q refl known in
    kept_after c.self.inside.stack c.carry_out.new.stack c.self.inside.handle c.self.inside.partition c.self.inside.sizes c.self.invariant h.leaves

pub returns-in-Err-clause-sent : goal.returns-in-Err-clause-sent
returns-in-Err-clause-sent g c =
    let q : ClientRequest = call_on c.self.inside.stack c.self.inside.handle Write c.args.offset c.args.bytes c.args.through in
    let known : is_none q.partition ≡ false = has_partition c.self.inside.stack c.self.inside.handle c.self.inside.partition c.self.inside.sizes c.self.invariant q refl in
    let h : Turns c.self.inside.stack q c.in-Err.reason c.carry_out.new.stack = c.in-Err.ensures q refl known in
    subst (λ (w : VolumeView). (volume_over c.carry_out.new.stack c.self.inside.partition).state.next_piece ≡ w.state.next_piece) c.self.view_is h.none_sent

pub returns-in-Err-clause-writes : goal.returns-in-Err-clause-writes
returns-in-Err-clause-writes g c =
    let q : ClientRequest = call_on c.self.inside.stack c.self.inside.handle Write c.args.offset c.args.bytes c.args.through in
    let known : is_none q.partition ≡ false = has_partition c.self.inside.stack c.self.inside.handle c.self.inside.partition c.self.inside.sizes c.self.invariant q refl in
    let h : Turns c.self.inside.stack q c.in-Err.reason c.carry_out.new.stack = c.in-Err.ensures q refl known in (
      subst (λ (w : VolumeView). IsRefusal w (AreInBounds w.content c.args.offset (length c.args.bytes)) c.in-Err.reason) c.self.view_is
          (refused c.self.inside.stack c.self.inside.handle c.self.inside.partition c.self.inside.sizes c.self.invariant q refl c.in-Err.reason h.why refl),
      subst (λ (w : VolumeView). IsSameDisk w (volume_over c.carry_out.new.stack c.self.inside.partition)) c.self.view_is (same_disk c.self.inside.stack c.self.inside.handle c.self.inside.partition c.self.inside.sizes c.self.invariant q refl c.carry_out.new.stack h.leaves h.same_sectors),
    )

pub invariant_of-self-in-Success : goal.invariant_of-self-in-Success
invariant_of-self-in-Success g c =
    let q : ClientRequest = call_on c.self.inside.stack c.self.inside.handle Write c.args.offset c.args.bytes c.args.through in
    let known : is_none q.partition ≡ false = has_partition c.self.inside.stack c.self.inside.handle c.self.inside.partition c.self.inside.sizes c.self.invariant q refl in
    let h : Ends c.self.inside.stack q c.in-Ok.answer c.carry_out.new.stack = c.in-Ok.ensures q refl known in
    kept_after c.self.inside.stack c.carry_out.new.stack c.self.inside.handle c.self.inside.partition c.self.inside.sizes c.self.invariant h.leaves

pub returns-in-Success-clause-in_bounds : goal.returns-in-Success-clause-in_bounds
returns-in-Success-clause-in_bounds g c =
    let q : ClientRequest = call_on c.self.inside.stack c.self.inside.handle Write c.args.offset c.args.bytes c.args.through in
    let known : is_none q.partition ≡ false = has_partition c.self.inside.stack c.self.inside.handle c.self.inside.partition c.self.inside.sizes c.self.invariant q refl in
    let h : Ends c.self.inside.stack q c.in-Ok.answer c.carry_out.new.stack = c.in-Ok.ensures q refl known in
    subst (λ (w : VolumeView). AreInBounds w.content c.args.offset (length c.args.bytes)) c.self.view_is (in_bounds c.self.inside.stack c.self.inside.handle c.self.inside.partition c.self.inside.sizes c.self.invariant q refl c.in-Ok.answer c.carry_out.new.stack h refl)

pub returns-in-Success-clause-writes : goal.returns-in-Success-clause-writes
returns-in-Success-clause-writes g c =
    let q : ClientRequest = call_on c.self.inside.stack c.self.inside.handle Write c.args.offset c.args.bytes c.args.through in
    let known : is_none q.partition ≡ false = has_partition c.self.inside.stack c.self.inside.handle c.self.inside.partition c.self.inside.sizes c.self.invariant q refl in
    let h : Ends c.self.inside.stack q c.in-Ok.answer c.carry_out.new.stack = c.in-Ok.ensures q refl known in
    subst (λ (w : VolumeView). Writes w c.args.offset c.args.bytes (volume_over c.carry_out.new.stack c.self.inside.partition)) c.self.view_is
    (writes c.self.inside.stack c.self.inside.handle c.self.inside.partition c.self.inside.sizes c.self.invariant q refl c.in-Ok.answer c.carry_out.new.stack h refl c.in-Success.is)

pub returns-in-Success-clause-answered : goal.returns-in-Success-clause-answered
returns-in-Success-clause-answered g c =
    let q : ClientRequest = call_on c.self.inside.stack c.self.inside.handle Write c.args.offset c.args.bytes c.args.through in
    let known : is_none q.partition ≡ false = has_partition c.self.inside.stack c.self.inside.handle c.self.inside.partition c.self.inside.sizes c.self.invariant q refl in
    let h : Ends c.self.inside.stack q c.in-Ok.answer c.carry_out.new.stack = c.in-Ok.ensures q refl known in
    subst (λ (w : VolumeView). IsAnswered w (write_of w c.args.offset c.args.bytes c.args.through) Success (volume_over c.carry_out.new.stack c.self.inside.partition)) c.self.view_is
    (subst (λ status. IsAnswered (volume_over c.self.inside.stack c.self.inside.partition) (write_of (volume_over c.self.inside.stack c.self.inside.partition) c.args.offset c.args.bytes c.args.through) status (volume_over c.carry_out.new.stack c.self.inside.partition)) c.in-Success.is
    (told_as c.self.inside.stack c.self.inside.handle c.self.inside.partition c.self.inside.sizes c.self.invariant q refl c.in-Ok.answer c.carry_out.new.stack h _ refl))

pub invariant_of-self-2 : goal.invariant_of-self-2
invariant_of-self-2 g c =
    let q : ClientRequest = call_on c.self.inside.stack c.self.inside.handle Write c.args.offset c.args.bytes c.args.through in
    let known : is_none q.partition ≡ false = has_partition c.self.inside.stack c.self.inside.handle c.self.inside.partition c.self.inside.sizes c.self.invariant q refl in
    let h : Ends c.self.inside.stack q c.in-Ok.answer c.carry_out.new.stack = c.in-Ok.ensures q refl known in
    kept_after c.self.inside.stack c.carry_out.new.stack c.self.inside.handle c.self.inside.partition c.self.inside.sizes c.self.invariant h.leaves

pub returns : goal.returns
returns g c =
    let q : ClientRequest = call_on c.self.inside.stack c.self.inside.handle Write c.args.offset c.args.bytes c.args.through in
    let known : is_none q.partition ≡ false = has_partition c.self.inside.stack c.self.inside.handle c.self.inside.partition c.self.inside.sizes c.self.invariant q refl in
    let h : Ends c.self.inside.stack q c.in-Ok.answer c.carry_out.new.stack = c.in-Ok.ensures q refl known in
    record {
      in_bounds = tt;
      writes = (
        subst (λ (w : VolumeView). AreInBounds w.content c.args.offset (length c.args.bytes)) c.self.view_is (in_bounds c.self.inside.stack c.self.inside.handle c.self.inside.partition c.self.inside.sizes c.self.invariant q refl c.in-Ok.answer c.carry_out.new.stack h refl),
        c.in_default.not-Success,
        subst (λ (w : VolumeView). WritesSome w c.args.offset c.args.bytes (volume_over c.carry_out.new.stack c.self.inside.partition)) c.self.view_is
            (writes_part c.self.inside.stack c.self.inside.handle c.self.inside.partition c.self.inside.sizes c.self.invariant q refl c.in-Ok.answer c.carry_out.new.stack h refl refl),
      );
      answered =
          subst (λ (w : VolumeView). IsAnswered w (write_of w c.args.offset c.args.bytes c.args.through) c.in-Ok.answer.status (volume_over c.carry_out.new.stack c.self.inside.partition)) c.self.view_is
          (told_as c.self.inside.stack c.self.inside.handle c.self.inside.partition c.self.inside.sizes c.self.invariant q refl c.in-Ok.answer c.carry_out.new.stack h _ refl);
      sent = subst (λ (w : VolumeView). w.state.next_piece < (volume_over c.carry_out.new.stack c.self.inside.partition).state.next_piece) c.self.view_is (sent_failed c.self.inside.stack c.self.inside.handle c.self.inside.partition c.self.inside.sizes c.self.invariant q refl c.in-Ok.answer c.carry_out.new.stack h c.in_default.not-Success);
    }
