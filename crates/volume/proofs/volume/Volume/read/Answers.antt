use Rattle.volume.proofs.Common.{◌≡◌, ◌≢◌, false, refl, subst, length, IfErr, MatchResult, is_none, Read, Write, ClientRequest, call_on, VolumeView, volume_over, Ends, Turns}
use Rattle.volume.specs.Calls.{AreInBounds, IsFault, IsRefusal, IsAnswered, IsSameDisk, IsToldAsAnswered, Reads, WasSent, read_of}
use Rattle.volume.proofs.Methods.{has_partition, in_bounds, kept_after, kept_content, reads, refused, same_disk, sent_failed, told_as}
use Rattle.volume.proofs.volume.Volume.read.Goals.{in-Success, in_default}
use Rattle.volume.proofs.volume.Volume.read.Goals as goal

not_write : Read ≢ Write
not_write e = cc

pub invariant_of-self : goal.invariant_of-self
invariant_of-self g c =
    let q : ClientRequest = call_on c.self.inside.stack c.self.inside.handle Read c.args.offset c.args.buffer false in
    let known : is_none q.partition ≡ false = has_partition c.self.inside.stack c.self.inside.handle c.self.inside.partition c.self.inside.sizes c.self.invariant q refl in
    let h : Turns c.self.inside.stack q c.in-Err.reason c.carry_out.new.stack = c.in-Err.ensures q refl known in
    kept_after c.self.inside.stack c.carry_out.new.stack c.self.inside.handle c.self.inside.partition c.self.inside.sizes c.self.invariant h.leaves

pub returns-in-Err-clause-sent : goal.returns-in-Err-clause-sent
returns-in-Err-clause-sent g c =
    let q : ClientRequest = call_on c.self.inside.stack c.self.inside.handle Read c.args.offset c.args.buffer false in
    let known : is_none q.partition ≡ false = has_partition c.self.inside.stack c.self.inside.handle c.self.inside.partition c.self.inside.sizes c.self.invariant q refl in
    let h : Turns c.self.inside.stack q c.in-Err.reason c.carry_out.new.stack = c.in-Err.ensures q refl known in
    subst (λ (w : VolumeView). (volume_over c.carry_out.new.stack c.self.inside.partition).state.next_piece ≡ w.state.next_piece) c.self.view_is h.none_sent

pub returns-in-Err-clause-reads : goal.returns-in-Err-clause-reads
returns-in-Err-clause-reads g c =
    let q : ClientRequest = call_on c.self.inside.stack c.self.inside.handle Read c.args.offset c.args.buffer false in
    let known : is_none q.partition ≡ false = has_partition c.self.inside.stack c.self.inside.handle c.self.inside.partition c.self.inside.sizes c.self.invariant q refl in
    let h : Turns c.self.inside.stack q c.in-Err.reason c.carry_out.new.stack = c.in-Err.ensures q refl known in
    subst (λ (w : VolumeView). IsRefusal w (AreInBounds w.content c.args.offset (length c.args.buffer)) c.in-Err.reason) c.self.view_is
    (refused c.self.inside.stack c.self.inside.handle c.self.inside.partition c.self.inside.sizes c.self.invariant q refl c.in-Err.reason h.why refl)

pub returns-in-Err-clause-same : goal.returns-in-Err-clause-same
returns-in-Err-clause-same g c =
    let q : ClientRequest = call_on c.self.inside.stack c.self.inside.handle Read c.args.offset c.args.buffer false in
    let known : is_none q.partition ≡ false = has_partition c.self.inside.stack c.self.inside.handle c.self.inside.partition c.self.inside.sizes c.self.invariant q refl in
    let h : Turns c.self.inside.stack q c.in-Err.reason c.carry_out.new.stack = c.in-Err.ensures q refl known in
    subst (λ (w : VolumeView). IsSameDisk w (volume_over c.carry_out.new.stack c.self.inside.partition)) c.self.view_is (same_disk c.self.inside.stack c.self.inside.handle c.self.inside.partition c.self.inside.sizes c.self.invariant q refl c.carry_out.new.stack h.leaves h.same_sectors)

pub invariant_of-self-2 : goal.invariant_of-self-2
invariant_of-self-2 g c =
    let q : ClientRequest = call_on c.self.inside.stack c.self.inside.handle Read c.args.offset c.args.buffer false in
    let known : is_none q.partition ≡ false = has_partition c.self.inside.stack c.self.inside.handle c.self.inside.partition c.self.inside.sizes c.self.invariant q refl in
    let h : Ends c.self.inside.stack q c.in-Ok.answer c.carry_out.new.stack = c.in-Ok.ensures q refl known in
    kept_after c.self.inside.stack c.carry_out.new.stack c.self.inside.handle c.self.inside.partition c.self.inside.sizes c.self.invariant h.leaves

pub returns-clause-reads : goal.returns-clause-reads
returns-clause-reads g c =
    let q : ClientRequest = call_on c.self.inside.stack c.self.inside.handle Read c.args.offset c.args.buffer false in
    let known : is_none q.partition ≡ false = has_partition c.self.inside.stack c.self.inside.handle c.self.inside.partition c.self.inside.sizes c.self.invariant q refl in
    let h : Ends c.self.inside.stack q c.in-Ok.answer c.carry_out.new.stack = c.in-Ok.ensures q refl known in
    subst (λ (w : VolumeView). MatchResult c.match-answer.result (Reads w.content c.args.offset (length c.args.buffer)) (IsFault w (AreInBounds w.content c.args.offset (length c.args.buffer)))) c.self.view_is
    (elim c.match-answer.branch [
      | in-Success w ↦ rw w.result-is (reads c.self.inside.stack c.self.inside.handle c.self.inside.partition c.self.inside.sizes c.self.invariant q refl c.in-Ok.answer c.carry_out.new.stack h refl w.in-Success.is)
      | in_default w ↦ rw w.result-is (in_bounds c.self.inside.stack c.self.inside.handle c.self.inside.partition c.self.inside.sizes c.self.invariant q refl c.in-Ok.answer c.carry_out.new.stack h refl, w.in_default.not-Success)
    ])

pub returns-clause-same : goal.returns-clause-same
returns-clause-same g c =
    let q : ClientRequest = call_on c.self.inside.stack c.self.inside.handle Read c.args.offset c.args.buffer false in
    let known : is_none q.partition ≡ false = has_partition c.self.inside.stack c.self.inside.handle c.self.inside.partition c.self.inside.sizes c.self.invariant q refl in
    let h : Ends c.self.inside.stack q c.in-Ok.answer c.carry_out.new.stack = c.in-Ok.ensures q refl known in
    subst (λ (w : VolumeView). IsSameDisk w (volume_over c.carry_out.new.stack c.self.inside.partition)) c.self.view_is (kept_content c.self.inside.stack c.self.inside.handle c.self.inside.partition c.self.inside.sizes c.self.invariant q refl c.in-Ok.answer c.carry_out.new.stack h not_write)

pub returns-clause-sent : goal.returns-clause-sent
returns-clause-sent g c =
    let q : ClientRequest = call_on c.self.inside.stack c.self.inside.handle Read c.args.offset c.args.buffer false in
    let known : is_none q.partition ≡ false = has_partition c.self.inside.stack c.self.inside.handle c.self.inside.partition c.self.inside.sizes c.self.invariant q refl in
    let h : Ends c.self.inside.stack q c.in-Ok.answer c.carry_out.new.stack = c.in-Ok.ensures q refl known in
    subst (λ (w : VolumeView). IfErr c.match-answer.result (WasSent w (volume_over c.carry_out.new.stack c.self.inside.partition))) c.self.view_is
    (elim c.match-answer.branch [
      | in-Success w ↦ rw w.result-is tt
      | in_default w ↦ rw w.result-is (sent_failed c.self.inside.stack c.self.inside.handle c.self.inside.partition c.self.inside.sizes c.self.invariant q refl c.in-Ok.answer c.carry_out.new.stack h w.in_default.not-Success)
    ])

pub returns-clause-answered : goal.returns-clause-answered
returns-clause-answered g c =
    let q : ClientRequest = call_on c.self.inside.stack c.self.inside.handle Read c.args.offset c.args.buffer false in
    let known : is_none q.partition ≡ false = has_partition c.self.inside.stack c.self.inside.handle c.self.inside.partition c.self.inside.sizes c.self.invariant q refl in
    let h : Ends c.self.inside.stack q c.in-Ok.answer c.carry_out.new.stack = c.in-Ok.ensures q refl known in
    subst (λ (w : VolumeView). IsToldAsAnswered w (read_of w c.args.offset (length c.args.buffer)) c.match-answer.result (volume_over c.carry_out.new.stack c.self.inside.partition)) c.self.view_is
    (elim c.match-answer.branch [
      | in-Success w ↦
          rw w.result-is (
          subst (λ status. IsAnswered (volume_over c.self.inside.stack c.self.inside.partition) (read_of (volume_over c.self.inside.stack c.self.inside.partition) c.args.offset (length c.args.buffer)) status (volume_over c.carry_out.new.stack c.self.inside.partition)) w.in-Success.is
          (told_as c.self.inside.stack c.self.inside.handle c.self.inside.partition c.self.inside.sizes c.self.invariant q refl c.in-Ok.answer c.carry_out.new.stack h _ refl)
          )
      | in_default w ↦ rw w.result-is (told_as c.self.inside.stack c.self.inside.handle c.self.inside.partition c.self.inside.sizes c.self.invariant q refl c.in-Ok.answer c.carry_out.new.stack h _ refl)
    ])
