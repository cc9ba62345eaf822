use Rattle.std.proofs.Common.{◌≡◌, ◌<◌, ◌+◌, ◌-◌, ℕ, suc, List, None, Some, zero, refl, sym, ◌∙◌, ap, arith, true, false}
use Rattle.std.specs.Prelude.{Bool, if◌then◌else◌}
use Rattle.sector.specs.declared.Extent.{Extent}
use Rattle.trace_reader.specs.Known.{KnownView, is_like, unlike_from}
use Rattle.trace_reader.proofs.known.Known.unlike.Goals as goal

at_once : (v : KnownView) (extent : Extent) (bytes : List ℕ) (k : ℕ) (b : Bool) → k < extent.count → is_like v extent bytes k ≡ b
    → unlike_from v extent bytes k (extent.count - k) ≡ (if b then unlike_from v extent bytes (k + 1) (extent.count - (k + 1)) else Some (extent.first + k))
at_once v extent bytes k b low e =
    let more : extent.count - k ≡ suc (extent.count - (k + 1)) = omega arith in
    ap (unlike_from v extent bytes k) more ∙ ap (λ (x : Bool). if x then unlike_from v extent bytes (k + 1) (extent.count - (k + 1)) else Some (extent.first + k)) e

pub loop-k-preserved : goal.loop-k-preserved
loop-k-preserved c = record {
  low = omega arith;
  same = c.loop-k.invariant.same ∙ at_once c.args.self.now c.args.extent c.args.bytes.now c.loop-k.k true c.loop-k-test.true (sym c.is_like.ensures ∙ c.if-not-is_like.false);
}

pub returns-then-not-is_like : goal.returns-then-not-is_like
returns-then-not-is_like c = sym (c.loop-k.invariant.same ∙ at_once c.args.self.now c.args.extent c.args.bytes.now c.loop-k.k false c.loop-k-test.true (sym c.is_like.ensures ∙ c.if-not-is_like.true))

none_left : (v : KnownView) (extent : Extent) (bytes : List ℕ) (k more : ℕ) → more ≡ 0 → unlike_from v extent bytes k more ≡ None
none_left v extent bytes k zero e = refl
none_left v extent bytes k (suc more) e = absurd (omega (arith, e))

pub returns : goal.returns
returns c = sym (c.loop-k.invariant.same ∙ none_left c.args.self.now c.args.extent c.args.bytes.now c.loop-k.k (c.args.extent.count - c.loop-k.k) (omega arith))
