-- The trace with its rows, and room for more.
use Rattle.std.specs.Prelude.{◌≡◌, ◌<◌, ℕ, ◌+◌, ◌-◌, List, [], ◌∷◌, ◌++◌, Option, Some, None, length}
use Rattle.machine.specs.declared.Label.{Label}
use Rattle.machine.specs.declared.Label.TheVariants.{Call}
use Rattle.traced.specs.declared.TraceEntry.{TraceEntry}
use Rattle.traced.specs.Entries.{entry, owner_of, row_of, AreRowed}
use Rattle.traced.specs.Rows.{RowView, IsRowAt}

-- what there is of a trace: its entries, the clients of all requests by number, how many more labels there is room for,
-- and the client that has the places for a call
pub record LogView : Type 0 where
  pub entries : List TraceEntry
  pub owners : List ℕ
  pub room : ℕ
  pub ready : Option ℕ

-- the clients of all requests, after this label: a call is by the client
abbrev pub owners_after : ℕ → List ℕ → Label → List ℕ
owners_after client owners (Call number q) = owners ++ client ∷ []
owners_after client owners _ = owners

-- a call uses up its places
abbrev pub ready_after : Option ℕ → Label → Option ℕ
ready_after ready (Call number q) = None
ready_after ready _ = ready

-- the log after one more label: a call is by the client
abbrev pub noted : ℕ → LogView → Label → LogView
noted client p label = record {
  entries = p.entries ++ entry label (row_of (owners_after client p.owners label) label) ∷ [];
  owners = owners_after client p.owners label;
  room = p.room - 1;
  ready = ready_after p.ready label;
}

abbrev pub noted_all : ℕ → LogView → List Label → LogView
noted_all client p [] = p
noted_all client p (label ∷ labels) = noted_all client (noted client p label) labels

-- the rows are those of the entries, one for each client, and each request is of one of these clients
pub record AreKept (clients : ℕ) (entries : List TraceEntry) (owners : List ℕ) (rows : List RowView) : Type 0 where
  pub rowed : AreRowed owners entries
  pub owned : (number c : ℕ) → owner_of owners number ≡ Some c → c < clients
  pub count : length rows ≡ clients
  pub each : (c : ℕ) → c < clients → IsRowAt entries rows c
