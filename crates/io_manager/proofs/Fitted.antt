-- What of the tables outlasts a move of the device below.
use Rattle.std.proofs.Common.{◌≡◌, ◌≤◌, List, [], ◌∷◌, refl, sym, ◌∙◌, ap, subst, arith, length}
use Rattle.std.specs.Prelude.{All, IsTrue, IsFalse}
use Rattle.io_manager.proofs.Common.{Rules, State, DeviceView, Limits, EndsInRange, FitsBelow, IsInState, AreFirsts}
use Rattle.pnp.specs.declared.State.{State as PnpState}
use Rattle.pnp.specs.declared.State.TheVariants.{Started, RemovePending, Removing, Removed}

pub FitsBelow-same : (limits : Limits) (below below' : DeviceView) → below'.rules ≡ below.rules → below'.most ≡ below.most → FitsBelow limits below → FitsBelow limits below'
FitsBelow-same limits below below' rules most h = record {
  sector_size = h.sector_size ∙ ap (λ (r : Rules). r.sector_size) (sym rules);
  some_bytes = h.some_bytes;
  max_transfer = h.max_transfer ∙ ap (λ (r : Rules). r.max_transfer) (sym rules);
  some_transfer = h.some_transfer;
  depth = h.depth ∙ ap (λ (r : Rules). r.depth) (sym rules);
  keeps_bytes = h.keeps_bytes ∙ ap (λ (r : Rules). r.keeps_bytes) (sym rules);
  firsts = subst (λ (r : Rules). AreFirsts limits.first_sectors r.partitions) (sym rules) h.firsts;
  ends = subst (λ (r : Rules). All EndsInRange r.partitions) (sym rules) h.ends;
  some_open = h.some_open;
  many = rw most h.many;
}

pub no_length : {X : Type 0} (xs : List X) → length xs ≡ 0 → xs ≡ []
no_length [] e = refl
no_length (x ∷ xs) e = absurd (omega arith)

-- with the same flags and no more requests the plug and play state is the same
pub IsInState-fewer : (p : PnpState) (s t : State) → t.paused ≡ s.paused → t.removing ≡ s.removing → length t.requests ≤ length s.requests → IsInState p s → IsInState p t
IsInState-fewer Started s t paused removing fewer h = (subst IsFalse (sym paused) h.0, subst IsFalse (sym removing) h.1)
IsInState-fewer RemovePending s t paused removing fewer h = (subst IsTrue (sym paused) h.0, subst IsFalse (sym removing) h.1)
IsInState-fewer Removing s t paused removing fewer h = (subst IsFalse (sym paused) h.0, subst IsTrue (sym removing) h.1)
IsInState-fewer Removed s t paused removing fewer h =
    let none : length s.requests ≡ 0 = ap length h.2 in
    (subst IsFalse (sym paused) h.0, subst IsTrue (sym removing) h.1, no_length t.requests (omega arith))
