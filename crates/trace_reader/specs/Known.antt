-- What the lines of a trace have told of bytes, where some were not recorded.
use Rattle.std.specs.Prelude.{◌≡◌, ℕ, zero, suc, ◌+◌, ◌-◌, ◌*◌, ◌==◌, ◌||◌, ◌&&◌, nat_le, not, Bool, List, [], ◌∷◌, ◌++◌, Option, Some, None, filter, length, slice_get, slice_index, slice_index_or, slice_range, if◌then◌else◌}
use Rattle.std.specs.List.{find}
use Rattle.std.specs.Option.{option_map}
use Rattle.std.specs.Str.{bytes_eq}
use Rattle.byteorder.specs.Endian.{big_from}
use Rattle.sector.specs.declared.Extent.{Extent}
use Rattle.sector.specs.Splice.{splice}
use Rattle.srb.specs.declared.DeviceLabel.{DeviceLabel}
use Rattle.srb.specs.declared.DeviceLabel.TheVariants as device
use Rattle.srb.specs.declared.Kind.{Kind}
use Rattle.srb.specs.declared.Kind.TheVariants.{Read, Write, Flush}
use Rattle.machine.specs.declared.ClientRequest.{ClientRequest}
use Rattle.machine.specs.declared.Label.{Label}
use Rattle.machine.specs.declared.Label.TheVariants as label
use Rattle.trace_line.specs.declared.Line.{Line}
use Rattle.judge.specs.Deciding.{chunked}
use Rattle.trace_reader.specs.declared.known.Asked.{Asked}
use Rattle.trace_reader.specs.declared.known.Sent.{Sent}
use Rattle.trace_reader.specs.declared.known.Moved.{Moved}
use Rattle.trace_reader.specs.declared.known.ByteRule.{ByteRule}
use Rattle.trace_reader.specs.declared.known.ByteRule.TheVariants as rule

-- the bytes of a sector, the partitions, the requests that are open, the transfers that are out, what pieces of open requests read,
-- and what is known of each sector of the disk: its bytes, or none where nothing is known
pub record KnownView : Type 0 where
  pub size : ℕ
  pub partitions : List Extent
  pub asked : List Asked
  pub sent : List Sent
  pub moved : List Moved
  pub sectors : List (List ℕ)

abbrev pub is_asked : ℕ → Asked → Bool
is_asked number a = a.number == number

abbrev pub is_sent : ℕ → Sent → Bool
is_sent number piece = piece.number == number

abbrev pub is_other_request : ℕ → Asked → Bool
is_other_request number a = not (a.number == number)

abbrev pub is_other_piece : ℕ → Sent → Bool
is_other_piece number piece = not (piece.number == number)

abbrev pub is_of_other : ℕ → Moved → Bool
is_of_other number m = not (m.owner == number)

-- bytes agree where both are told
abbrev pub agrees : List ℕ → List ℕ → Bool
agrees a b = (length a == 0) || ((length b == 0) || bytes_eq a b)

-- THE BYTES OF A PIECE

-- where a partition begins, in sectors of the disk
abbrev pub first_of : List Extent → Option ℕ → ℕ
first_of partitions None = 0
first_of partitions (Some p) = elim (slice_get partitions p) [ Some extent ↦ extent.first | None ↦ 0 ]

-- where a request begins, in bytes of the disk
abbrev pub base_of : KnownView → ClientRequest → ℕ
base_of v q = first_of v.partitions q.partition * v.size + q.offset

-- the bytes of a request that begin at this byte of the disk, this many
abbrev pub part_at : ℕ → List ℕ → ℕ → ℕ → List ℕ
part_at base bytes from count = slice_range bytes (from - base) (from - base + count)

-- the kind and the sectors of a transfer, by its command block: READ and WRITE in their forms of ten and sixteen bytes
abbrev pub ten_at : Kind → List ℕ → Option (Kind × Extent)
ten_at kind block = if nat_le 10 (length block) then Some (kind, record { first = big_from 2 4 block; count = big_from 7 2 block }) else None

abbrev pub sixteen_at : Kind → List ℕ → Option (Kind × Extent)
sixteen_at kind block = if nat_le 16 (length block) then Some (kind, record { first = big_from 2 8 block; count = big_from 10 4 block }) else None

abbrev pub by_code : ℕ → List ℕ → Option (Kind × Extent)
by_code code block =
    if code == 0x28 then ten_at Read block
    else (if code == 0x2A then ten_at Write block
    else (if code == 0x88 then sixteen_at Read block else (if code == 0x8A then sixteen_at Write block else None)))

abbrev pub transfer_in : List ℕ → Option (Kind × Extent)
transfer_in block = elim (slice_get block 0) [ Some code ↦ by_code code block | None ↦ None ]

-- what a call has told of the bytes of a piece
abbrev pub due_by : KnownView → Sent → Option Asked → List ℕ
due_by v piece None = []
due_by v piece (Some a) = part_at a.base a.bytes (piece.extent.first * v.size) (piece.extent.count * v.size)

abbrev pub due_of : KnownView → Sent → Option ℕ → List ℕ
due_of v piece None = []
due_of v piece (Some owner) = due_by v piece (find (is_asked owner) v.asked)

-- of the request that its start names
abbrev pub due : KnownView → Sent → List ℕ
due v piece = due_of v piece piece.owner

-- WHAT A LINE MAY CONTRADICT

-- the bytes of sector k of some
abbrev pub sector_in : ℕ → ℕ → List ℕ → List ℕ
sector_in size k bytes = slice_range bytes (k * size) (k * size + size)

abbrev pub is_like : KnownView → Extent → List ℕ → ℕ → Bool
is_like v extent bytes k = agrees (slice_index_or v.sectors (extent.first + k) []) (sector_in v.size k bytes)

-- the first of so many sectors, from the k-th on, of which something else is known
abbrev pub unlike_from : KnownView → Extent → List ℕ → ℕ → ℕ → Option ℕ
unlike_from v extent bytes k zero = None
unlike_from v extent bytes k (suc more) = if is_like v extent bytes k then unlike_from v extent bytes (k + 1) more else Some (extent.first + k)

abbrev pub unlike : KnownView → Extent → List ℕ → Option ℕ
unlike v extent bytes = unlike_from v extent bytes 0 extent.count

-- a read's piece had other bytes than the answer
abbrev pub is_denied : KnownView → Asked → List ℕ → Moved → Bool
is_denied v a bytes m = (m.owner == a.number) && not (agrees (part_at a.base bytes ((m.first + m.place) * v.size) (length m.bytes)) m.bytes)

abbrev pub act_rule_of : KnownView → List ℕ → Sent → Kind → Option ByteRule
act_rule_of v bytes piece Read = option_map (λ sector. rule.Sector piece.number sector) (unlike v piece.extent bytes)
act_rule_of v bytes piece Write = if agrees (due v piece) bytes then None else Some (rule.Call piece.number)
act_rule_of v bytes piece Flush = None

abbrev pub act_rule : KnownView → List ℕ → Option Sent → Option ByteRule
act_rule v bytes None = None
act_rule v bytes (Some piece) = act_rule_of v bytes piece piece.kind

abbrev pub answer_rule : KnownView → List ℕ → Option Asked → Option ByteRule
answer_rule v bytes None = None
answer_rule v bytes (Some a) = option_map (λ m. rule.Act m.piece) (find (is_denied v a bytes) v.moved)

abbrev pub device_rule : KnownView → DeviceLabel → Option ByteRule
device_rule v (device.Start piece tag block) = None
device_rule v (device.Act piece bytes) = act_rule v bytes (find (is_sent piece) v.sent)
device_rule v (device.Fault piece) = None
device_rule v (device.Return piece class) = None

-- what was told before is otherwise: an act of a write is unlike its call, one of a read unlike what is known of its sectors, an answer
-- unlike the acts of its pieces
abbrev pub byte_rule : KnownView → Label → Option ByteRule
byte_rule v (label.Device l) = device_rule v l
byte_rule v (label.Answer number status informed bytes) = answer_rule v bytes (find (is_asked number) v.asked)
byte_rule v _ = None

-- WHAT IS KNOWN BEHIND A LINE

abbrev pub with_asked : KnownView → ℕ → ClientRequest → KnownView
with_asked v number q = record v { asked = v.asked ++ record { number = number; base = base_of v q; kind = q.kind; bytes = q.bytes } ∷ [] }

abbrev pub with_sent : KnownView → ℕ → Option ℕ → Option (Kind × Extent) → KnownView
with_sent v number owner None = v
with_sent v number owner (Some (kind, extent)) =
    record v { sent = v.sent ++ record { number = number; owner = owner; kind = kind; extent = extent } ∷ [] }

-- these bytes stand in the sectors; where none are told nothing is known of them
abbrev pub with_sectors : KnownView → Extent → List ℕ → KnownView
with_sectors v extent bytes = record v { sectors = splice v.sectors extent.first (chunked extent.count v.size bytes) }

-- the bytes that a write put there: those that its act tells, or else its call
abbrev pub put_by : KnownView → Sent → List ℕ → List ℕ
put_by v piece bytes = if length bytes == 0 then due v piece else bytes

abbrev pub with_moved : KnownView → Sent → List ℕ → Option ℕ → KnownView
with_moved v piece bytes None = v
with_moved v piece bytes (Some owner) =
    record v { moved = v.moved ++ record { owner = owner; piece = piece.number; first = piece.extent.first; place = 0; bytes = bytes } ∷ [] }

-- what is known of sector k of a read's piece
abbrev pub held_at : List (List ℕ) → ℕ → Sent → ℕ → Moved
held_at sectors owner piece k =
    record { owner = owner; piece = piece.number; first = piece.extent.first; place = k; bytes = slice_index_or sectors (piece.extent.first + k) [] }

-- of its first sectors, so many
abbrev pub held_below : List (List ℕ) → ℕ → Sent → ℕ → List Moved
held_below sectors owner piece zero = []
held_below sectors owner piece (suc k) = held_below sectors owner piece k ++ held_at sectors owner piece k ∷ []

abbrev pub with_held : KnownView → Sent → Option ℕ → KnownView
with_held v piece None = v
with_held v piece (Some owner) = record v { moved = v.moved ++ held_below v.sectors owner piece piece.extent.count }

-- a read whose bytes are told makes its sectors known; where they are not, it brought what was known of each of its sectors
abbrev pub with_read : KnownView → Sent → List ℕ → KnownView
with_read v piece bytes = if length bytes == 0 then with_held v piece piece.owner else with_moved (with_sectors v piece.extent bytes) piece bytes piece.owner

abbrev pub acted_by : KnownView → List ℕ → Sent → Kind → KnownView
acted_by v bytes piece Read = with_read v piece bytes
acted_by v bytes piece Write = with_sectors v piece.extent (put_by v piece bytes)
acted_by v bytes piece Flush = v

abbrev pub acted : KnownView → List ℕ → Option Sent → KnownView
acted v bytes None = v
acted v bytes (Some piece) = acted_by v bytes piece piece.kind

abbrev pub without_piece : KnownView → ℕ → KnownView
without_piece v number = record v { sent = filter (is_other_piece number) v.sent }

abbrev pub without_request : KnownView → ℕ → KnownView
without_request v number = record v { asked = filter (is_other_request number) v.asked; moved = filter (is_of_other number) v.moved }

abbrev pub after_device : KnownView → Option ℕ → DeviceLabel → KnownView
after_device v owner (device.Start piece tag block) = with_sent v piece owner (transfer_in block)
after_device v owner (device.Act piece bytes) = acted v bytes (find (is_sent piece) v.sent)
after_device v owner (device.Fault piece) = v
after_device v owner (device.Return piece class) = without_piece v piece

abbrev pub after_label : KnownView → Option ℕ → Label → KnownView
after_label v owner (label.Call number q) = with_asked v number q
after_label v owner (label.Device l) = after_device v owner l
after_label v owner (label.Answer number status informed bytes) = without_request v number
after_label v owner _ = v

abbrev pub after_line : KnownView → Line → KnownView
after_line v line = after_label v line.owner line.label
