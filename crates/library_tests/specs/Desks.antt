-- What was said at a desk, by how far it has come.
use Rattle.std.specs.Prelude.{ℕ, List, [], ◌∷◌, ◌++◌, replicate}
use Rattle.nbd.specs.declared.requests.Request.{Request}
use Rattle.nbd.specs.declared.requests.ReplyError.TheVariants.{Eio}
use Rattle.nbd.specs.Replies.{failure, success}
use Rattle.nbd.specs.Beside.{Account, Taken, Told, nothing_said}
use Rattle.library_tests.specs.declared.desk.Stage.{Stage}
use Rattle.library_tests.specs.declared.desk.Stage.TheVariants.{Fresh, OneRead, BothRead, PassedOn, OneTold, BothTold}

-- a read of four bytes from the first on, by its name
abbrev pub read_named : ℕ → Taken
read_named cookie = record {
  header = 0x25 ∷ 0x60 ∷ 0x95 ∷ 0x13 ∷ 0 ∷ 0 ∷ 0 ∷ 0 ∷ 0 ∷ 0 ∷ 0 ∷ 0 ∷ 0 ∷ 0 ∷ 0 ∷ cookie ∷ 0 ∷ 0 ∷ 0 ∷ 0 ∷ 0 ∷ 0 ∷ 0 ∷ 0 ∷ 0 ∷ 0 ∷ 0 ∷ 4 ∷ [];
  request = record { flags = 0; kind = 0; cookie = cookie; offset = 0; count = 4 };
  payload = [];
}

abbrev pub failed : Told
failed = record { place = 1; cookie = 8; outcome = failure Eio }

abbrev pub read : Told
read = record { place = 0; cookie = 7; outcome = success [] }

abbrev pub said_at : Stage → Account
said_at Fresh = nothing_said
said_at OneRead = record { taken = read_named 7 ∷ []; told = []; due = 0 ∷ [] }
said_at BothRead = record { taken = read_named 7 ∷ read_named 8 ∷ []; told = []; due = 1 ∷ 0 ∷ [] }
said_at PassedOn = record { taken = read_named 7 ∷ read_named 8 ∷ []; told = []; due = 1 ∷ 0 ∷ [] }
said_at OneTold = record { taken = read_named 7 ∷ read_named 8 ∷ []; told = failed ∷ []; due = 0 ∷ [] }
said_at BothTold = record { taken = read_named 7 ∷ read_named 8 ∷ []; told = failed ∷ read ∷ []; due = [] }
