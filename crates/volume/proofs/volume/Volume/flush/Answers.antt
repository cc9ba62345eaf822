use Rattle.volume.proofs.Common.{◌≡◌, ◌≢◌, ◌<◌, [], false, refl, subst, is_none, Write, Flush, ClientRequest, call_on, Success, VolumeView, volume_over, Ends, Turns}
use Rattle.volume.specs.Calls.{IsAnswered, IsRefusal, IsSameDisk, flush_of}
use Rattle.volume.proofs.Methods.{has_partition, kept_after, kept_content, refused_flush, same_disk, sent_failed, sent_flush, told_as}
use Rattle.volume.proofs.volume.Volume.flush.Goals as goal

not_write : Flush ≢ Write
not_write e = cc

pub invariant_of-self : goal.invariant_of-self
invariant_of-self g c =
    let q : ClientRequest = call_on c.self.inside.stack c.self.inside.handle Flush 0 [] false in
    let known : is_none q.partition ≡ false = has_partition c.self.inside.stack c.self.inside.handle c.self.inside.partition c.self.inside.sizes c.self.invariant q refl in
    let h : Turns c.self.inside.stack q c.in-Err.reason c.carry_out.new.stack = c.in-Err.ensures q refl known in
    kept_after c.self.inside.stack c.carry_out.new.stack c.self.inside.handle c.self.inside.partition c.self.inside.sizes c.self.invariant h.leaves

pub returns-in-Err-clause-sent : goal.returns-in-Err-clause-sent
returns-in-Err-clause-sent g c =
    let q : ClientRequest = call_on c.self.inside.stack c.self.inside.handle Flush 0 [] false in
    let known : is_none q.partition ≡ false = has_partition c.self.inside.stack c.self.inside.handle c.self.inside.partition c.self.inside.sizes c.self.invariant q refl in
    let h : Turns c.self.inside.stack q c.in-Err.reason c.carry_out.new.stack = c.in-Err.ensures q refl known in
    subst (λ (w : VolumeView). (volume_over c.carry_out.new.stack c.self.inside.partition).state.next_piece ≡ w.state.next_piece) c.self.view_is h.none_sent

pub returns-in-Err-clause-flushes : goal.returns-in-Err-clause-flushes
returns-in-Err-clause-flushes g c =
    let q : ClientRequest = call_on c.self.inside.stack c.self.inside.handle Flush 0 [] false in
    let known : is_none q.partition ≡ false = has_partition c.self.inside.stack c.self.inside.handle c.self.inside.partition c.self.inside.sizes c.self.invariant q refl in
    let h : Turns c.self.inside.stack q c.in-Err.reason c.carry_out.new.stack = c.in-Err.ensures q refl known in
    subst (λ (w : VolumeView). IsRefusal w (Unit {0}) c.in-Err.reason) c.self.view_is (refused_flush c.self.inside.stack c.self.inside.handle c.self.inside.partition c.self.inside.sizes c.self.invariant q refl c.in-Err.reason h.why refl)

pub returns-in-Err-clause-same : goal.returns-in-Err-clause-same
returns-in-Err-clause-same g c =
    let q : ClientRequest = call_on c.self.inside.stack c.self.inside.handle Flush 0 [] false in
    let known : is_none q.partition ≡ false = has_partition c.self.inside.stack c.self.inside.handle c.self.inside.partition c.self.inside.sizes c.self.invariant q refl in
    let h : Turns c.self.inside.stack q c.in-Err.reason c.carry_out.new.stack = c.in-Err.ensures q refl known in
    subst (λ (w : VolumeView). IsSameDisk w (volume_over c.carry_out.new.stack c.self.inside.partition)) c.self.view_is (same_disk c.self.inside.stack c.self.inside.handle c.self.inside.partition c.self.inside.sizes c.self.invariant q refl c.carry_out.new.stack h.leaves h.same_sectors)

pub invariant_of-self-in-Success : goal.invariant_of-self-in-Success
invariant_of-self-in-Success g c =
    let q : ClientRequest = call_on c.self.inside.stack c.self.inside.handle Flush 0 [] false in
    let known : is_none q.partition ≡ false = has_partition c.self.inside.stack c.self.inside.handle c.self.inside.partition c.self.inside.sizes c.self.invariant q refl in
    let h : Ends c.self.inside.stack q c.in-Ok.answer c.carry_out.new.stack = c.in-Ok.ensures q refl known in
    kept_after c.self.inside.stack c.carry_out.new.stack c.self.inside.handle c.self.inside.partition c.self.inside.sizes c.self.invariant h.leaves

pub returns-in-Success-clause-sent : goal.returns-in-Success-clause-sent
returns-in-Success-clause-sent g c =
    let q : ClientRequest = call_on c.self.inside.stack c.self.inside.handle Flush 0 [] false in
    let known : is_none q.partition ≡ false = has_partition c.self.inside.stack c.self.inside.handle c.self.inside.partition c.self.inside.sizes c.self.invariant q refl in
    let h : Ends c.self.inside.stack q c.in-Ok.answer c.carry_out.new.stack = c.in-Ok.ensures q refl known in
    subst (λ (w : VolumeView). w.state.next_piece < (volume_over c.carry_out.new.stack c.self.inside.partition).state.next_piece) c.self.view_is (sent_flush c.self.inside.stack c.self.inside.handle c.self.inside.partition c.self.inside.sizes c.self.invariant q refl c.in-Ok.answer c.carry_out.new.stack h refl)

pub returns-in-Success-clause-same : goal.returns-in-Success-clause-same
returns-in-Success-clause-same g c =
    let q : ClientRequest = call_on c.self.inside.stack c.self.inside.handle Flush 0 [] false in
    let known : is_none q.partition ≡ false = has_partition c.self.inside.stack c.self.inside.handle c.self.inside.partition c.self.inside.sizes c.self.invariant q refl in
    let h : Ends c.self.inside.stack q c.in-Ok.answer c.carry_out.new.stack = c.in-Ok.ensures q refl known in
    subst (λ (w : VolumeView). IsSameDisk w (volume_over c.carry_out.new.stack c.self.inside.partition)) c.self.view_is (kept_content c.self.inside.stack c.self.inside.handle c.self.inside.partition c.self.inside.sizes c.self.invariant q refl c.in-Ok.answer c.carry_out.new.stack h not_write)

pub returns-in-Success-clause-answered : goal.returns-in-Success-clause-answered
returns-in-Success-clause-answered g c =
    let q : ClientRequest = call_on c.self.inside.stack c.self.inside.handle Flush 0 [] false in
    let known : is_none q.partition ≡ false = has_partition c.self.inside.stack c.self.inside.handle c.self.inside.partition c.self.inside.sizes c.self.invariant q refl in
    let h : Ends c.self.inside.stack q c.in-Ok.answer c.carry_out.new.stack = c.in-Ok.ensures q refl known in
    subst (λ (w : VolumeView). IsAnswered w (flush_of w) Success (volume_over c.carry_out.new.stack c.self.inside.partition)) c.self.view_is
    (subst (λ status. IsAnswered (volume_over c.self.inside.stack c.self.inside.partition) (flush_of (volume_over c.self.inside.stack c.self.inside.partition)) status (volume_over c.carry_out.new.stack c.self.inside.partition)) c.in-Success.is
    (told_as c.self.inside.stack c.self.inside.handle c.self.inside.partition c.self.inside.sizes c.self.invariant q refl c.in-Ok.answer c.carry_out.new.stack h _ refl))

pub invariant_of-self-2 : goal.invariant_of-self-2
invariant_of-self-2 g c =
    let q : ClientRequest = call_on c.self.inside.stack c.self.inside.handle Flush 0 [] false in
    let known : is_none q.partition ≡ false = has_partition c.self.inside.stack c.self.inside.handle c.self.inside.partition c.self.inside.sizes c.self.invariant q refl in
    let h : Ends c.self.inside.stack q c.in-Ok.answer c.carry_out.new.stack = c.in-Ok.ensures q refl known in
    kept_after c.self.inside.stack c.carry_out.new.stack c.self.inside.handle c.self.inside.partition c.self.inside.sizes c.self.invariant h.leaves

pub returns : goal.returns
returns g c =
    let q : ClientRequest = call_on c.self.inside.stack c.self.inside.handle Flush 0 [] false in
    let known : is_none q.partition ≡ false = has_partition c.self.inside.stack c.self.inside.handle c.self.inside.partition c.self.inside.sizes c.self.invariant q refl in
    let h : Ends c.self.inside.stack q c.in-Ok.answer c.carry_out.new.stack = c.in-Ok.ensures q refl known in
    record {
      flushes = (tt, c.in_default.not-Success);
      answered =
          subst (λ (w : VolumeView). IsAnswered w (flush_of w) c.in-Ok.answer.status (volume_over c.carry_out.new.stack c.self.inside.partition)) c.self.view_is
          (told_as c.self.inside.stack c.self.inside.handle c.self.inside.partition c.self.inside.sizes c.self.invariant q refl c.in-Ok.answer c.carry_out.new.stack h _ refl);
      sent = subst (λ (w : VolumeView). w.state.next_piece < (volume_over c.carry_out.new.stack c.self.inside.partition).state.next_piece) c.self.view_is (sent_failed c.self.inside.stack c.self.inside.handle c.self.inside.partition c.self.inside.sizes c.self.invariant q refl c.in-Ok.answer c.carry_out.new.stack h c.in_default.not-Success);
      same = subst (λ (w : VolumeView). IsSameDisk w (volume_over c.carry_out.new.stack c.self.inside.partition)) c.self.view_is (kept_content c.self.inside.stack c.self.inside.handle c.self.inside.partition c.self.inside.sizes c.self.invariant q refl c.in-Ok.answer c.carry_out.new.stack h not_write);
    }
