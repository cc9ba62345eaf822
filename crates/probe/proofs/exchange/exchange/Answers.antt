use Rattle.std.proofs.Common.{◌≡◌, ℕ, List, ◌∙◌, ap, arith, length}
use Rattle.probe.proofs.Exchanging.{asks_once, acts_after, finishes_after}
use Rattle.probe.proofs.exchange.exchange.Goals as goal

-- the piece acts, and comes back
pub unreachable-requires : goal.unreachable-requires
unreachable-requires g c = acts_after _ _ _ c.reading.result c.requires.idle c.accept.ensures.accepts c.if-not-act.ensures.acts

pub unreachable-requires-in_default : goal.unreachable-requires-in_default
unreachable-requires-in_default g c = finishes_after _ _ _ c.if-not-act.ensures.acts c.in_default.ensures.finishes

pub returns : goal.returns
returns g c =
    let bytes : length c.reading.result.data ≡ length c.args.bytes = ap (λ (xs : List ℕ). length xs) c.reading.ensures.bytes in
    record {
      asks = asks_once _ _ _ _ _ c.reading.result _ _ c.requires.idle
          (record {
            reading = c.reading.ensures.reads;
            data_length = bytes ∙ c.requires.whole;
            label_length = omega (arith, c.reading.ensures.for_label, c.requires.buffers, c.requires.whole);
          })
          c.requires.looks c.accept.ensures.accepts c.if-not-act.ensures.acts c.in-Some.ensures.finishes;
    }
