use Rattle.std.proofs.Common.{inl, inr, refl}
use Rattle.file_sessions.proofs.Refuting.{half, read_old, synced_gone, torn}
use Rattle.file_sessions.proofs.works_out.Goals as goal

pub returns : goal.returns
returns c = record {
  held = record {
    first = refl;
    second = refl;
    unsynced = refl;
    before = refl;
    after = refl;
    certain = refl;
    taken = refl;
    rest = refl;
    rest_synced = refl;
    write_failed = refl;
    write_cut = refl;
    doubted = refl;
    doubted_synced = refl;
    mended = refl;
    sync_cut = refl;
    read = refl;
  };
  left = record { apart = (inl refl, inr (inl refl)); torn = torn; synced_gone = synced_gone; read_old = read_old; half = half };
}
