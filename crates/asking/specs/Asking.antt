-- What an event asks for, and what it hands in.
use Rattle.std.specs.Prelude.{ℕ, List, [], Option, Some, None}
use Rattle.srb.specs.declared.Kind.{Kind}
use Rattle.srb.specs.declared.Kind.TheVariants.{Read as ReadKind, Write as WriteKind, Flush as FlushKind}
use Rattle.compose.specs.declared.Event.{Event}
use Rattle.compose.specs.declared.Event.TheVariants.{Read, Write, Flush}

-- the kind of the request that an event asks for
abbrev pub kind_asked : Event → Option Kind
kind_asked (Read handle offset buffer) = Some ReadKind
kind_asked (Write handle offset bytes through) = Some WriteKind
kind_asked (Flush handle) = Some FlushKind
kind_asked _ = None

-- the bytes that an event hands in
abbrev pub bytes_of : Event → List ℕ
bytes_of (Read handle offset buffer) = buffer
bytes_of (Write handle offset bytes through) = bytes
bytes_of _ = []
