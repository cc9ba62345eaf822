-- What the definitions of this crate come to.
use Rattle.std.specs.Prelude.{◌≡◌, ◌≤◌, ◌<◌, ◌^◌, ◌+◌, ◌↔◌, ℕ, List, ◌++◌, length, slice_index, Option}
use Rattle.byteorder.specs.Endian.{big_bytes}
use Rattle.nbd.specs.declared.requests.Request.{Request}
use Rattle.nbd.specs.declared.constants.TheConstants.{NBD_REQUEST_MAGIC}
use Rattle.nbd.specs.Content.{Content, IsSameOutside, written}
use Rattle.nbd.specs.declared.End.{End}
use Rattle.nbd.specs.declared.arrays.Sizes.{Sizes}
use Rattle.nbd.specs.Requests.{IsRequest}
use Rattle.nbd.specs.Handshake.{Opens}
use Rattle.nbd.specs.Beside.{Account, EndsBeside, IsSessionBeside}

-- the 28 bytes that a client sends for a request
abbrev pub request_bytes : Request → List ℕ
request_bytes r =
    big_bytes 4 NBD_REQUEST_MAGIC ++ (big_bytes 2 r.flags ++ (big_bytes 2 r.kind ++ (big_bytes 8 r.cookie ++ (big_bytes 8 r.offset ++ big_bytes 4 r.count))))

-- each field has room in its bytes
pub record FitsRequest (r : Request) : Type 0 where
  pub flags : r.flags < 2 ^ 16
  pub kind : r.kind < 2 ^ 16
  pub cookie : r.cookie < 2 ^ 64
  pub offset : r.offset < 2 ^ 64
  pub count : r.count < 2 ^ 32

-- each number of the list is a byte
abbrev pub AreBytes : List ℕ → Type 0
AreBytes bytes = (k : ℕ) → slice_index bytes k < 256

-- a request is read from the bytes that a client sends for it, and from no others
abbrev pub HasOneSpelling : Type 0
HasOneSpelling = (r : Request) (bytes : List ℕ) → FitsRequest r → AreBytes bytes → IsRequest bytes r ↔ (bytes ≡ request_bytes r)

-- what is written in an array changes nothing outside
abbrev pub WritesInside : Type 0
WritesInside = (c : Content) (offset : ℕ) (bytes : List ℕ) → offset + length bytes ≤ length c.bytes → IsSameOutside c offset (length bytes) (written c offset bytes)

-- a client that was greeted and came to its requests had a whole session, once these ended
abbrev pub MakesASession : Type 0
MakesASession = (sizes : Sizes) (input out rest mid after : Option (List ℕ)) (a : Account) (end : End) → Opens sizes input out rest mid → EndsBeside rest mid a end after
    → IsSessionBeside sizes input out a end after
