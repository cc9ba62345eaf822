-- Each command for one place has a block.
use Rattle.std.proofs.Common.{◌≡◌, ◌<◌, ℕ, zero, suc, ◌+◌, ◌^◌, Bool, true, false, List, [], ◌∷◌, ◌++◌, refl, ◌∙◌, arith, slice_index, lit<, lit≤, All}
use Rattle.std.specs.Prelude.{nat_lt, nat_le, if◌then◌else◌}
use Rattle.std.proofs.lemmas.Bool.{and_parts, ltb-true}
use Rattle.std.proofs.lemmas.List.Elements.{All-cons, All-nil}
use Rattle.std.specs.Int.{byte_at}
use Rattle.byteorder.specs.Endian.{big_bytes}
use Rattle.byteorder.specs.Numbers.{big_from-cons, big_number-reads_back}
use Rattle.sector.specs.declared.Extent.{Extent}
use Rattle.cdb.specs.declared.Cdb.{Cdb}
use Rattle.cdb.specs.declared.Cdb.TheVariants.{Read10, Write10, Sync10, Read16, Write16, Sync16}
use Rattle.cdb.specs.Meaning.{Means, IsPlain, IsZeroAt, HasAccess, HasPlace, HasLongPlace, AreBytes}
use Rattle.srb.specs.declared.Kind.{Kind}
use Rattle.srb.specs.declared.Kind.TheVariants.{Read, Write, Flush}
use Rattle.machine.specs.declared.ClientRequest.{ClientRequest}
use Rattle.machine.specs.Rules.{Rules, home, first_sector}
use Rattle.machine.specs.Sending.{fits_ten, read_command, write_command, flush_command, command_for}

-- a block that asks for the command, and for nothing else
pub record BlockOf (command : Cdb) : Type 0 where
  pub block : List ℕ
  pub asks : Means block command
  pub plain : IsPlain block command

abbrev access : Bool → ℕ
access fua = if fua then 8 else 0

-- a command of ten bytes for one block, and one of sixteen
abbrev short : ℕ → ℕ → ℕ → ℕ → List ℕ
short code option lba count = code ∷ option ∷ (big_bytes 4 lba ++ (0 ∷ 0 ∷ count ∷ 0 ∷ []))

abbrev long : ℕ → ℕ → ℕ → ℕ → List ℕ
long code option lba count = code ∷ option ∷ (big_bytes 8 lba ++ (0 ∷ 0 ∷ 0 ∷ count ∷ 0 ∷ 0 ∷ []))

bytes_none : AreBytes []
bytes_none k low = absurd (omega arith)

bytes_more : (x : ℕ) (xs : List ℕ) → x < 256 → AreBytes xs → AreBytes (x ∷ xs)
bytes_more x xs low all zero within = low
bytes_more x xs low all (suc k) within = all k (omega arith)

bytes_joined : (xs ys : List ℕ) → AreBytes xs → AreBytes ys → AreBytes (xs ++ ys)
bytes_joined [] ys all more = more
bytes_joined (x ∷ xs) ys all more = bytes_more x (xs ++ ys) (all 0 (omega arith)) (bytes_joined xs ys (λ k low. all (suc k) (omega arith)) more)

byte_low : (n x : ℕ) → byte_at n x < 256
byte_low zero x = omega arith
byte_low (suc n) x = omega arith

number_bytes : (n x : ℕ) → AreBytes (big_bytes n x)
number_bytes zero x = bytes_none
number_bytes (suc n) x = bytes_more (byte_at n x) (big_bytes n x) (byte_low n x) (number_bytes n x)

short_bytes : (code option lba count : ℕ) → code < 256 → option < 256 → count < 256 → AreBytes (short code option lba count)
short_bytes code option lba count c o n =
    bytes_more code (option ∷ (big_bytes 4 lba ++ (0 ∷ 0 ∷ count ∷ 0 ∷ []))) c (bytes_more option (big_bytes 4 lba ++ (0 ∷ 0 ∷ count ∷ 0 ∷ [])) o
    (bytes_joined (big_bytes 4 lba) (0 ∷ 0 ∷ count ∷ 0 ∷ []) (number_bytes 4 lba)
    (bytes_more 0 (0 ∷ count ∷ 0 ∷ []) (lit< tt) (bytes_more 0 (count ∷ 0 ∷ []) (lit< tt) (bytes_more count (0 ∷ []) n (bytes_more 0 [] (lit< tt) bytes_none))))))

long_bytes : (code option lba count : ℕ) → code < 256 → option < 256 → count < 256 → AreBytes (long code option lba count)
long_bytes code option lba count c o n =
    bytes_more code (option ∷ (big_bytes 8 lba ++ (0 ∷ 0 ∷ 0 ∷ count ∷ 0 ∷ 0 ∷ []))) c (bytes_more option (big_bytes 8 lba ++ (0 ∷ 0 ∷ 0 ∷ count ∷ 0 ∷ 0 ∷ [])) o
    (bytes_joined (big_bytes 8 lba) (0 ∷ 0 ∷ 0 ∷ count ∷ 0 ∷ 0 ∷ []) (number_bytes 8 lba)
    (bytes_more 0 (0 ∷ 0 ∷ count ∷ 0 ∷ 0 ∷ []) (lit< tt) (bytes_more 0 (0 ∷ count ∷ 0 ∷ 0 ∷ []) (lit< tt) (bytes_more 0 (count ∷ 0 ∷ 0 ∷ []) (lit< tt)
    (bytes_more count (0 ∷ 0 ∷ []) n (bytes_more 0 (0 ∷ []) (lit< tt) (bytes_more 0 [] (lit< tt) bytes_none))))))))

short_place : (code option lba : ℕ) → lba < 2 ^ 32 → HasPlace (short code option lba 1) lba 1
short_place code option lba low = record {
  address = big_from-cons 1 4 code (option ∷ (big_bytes 4 lba ++ (0 ∷ 0 ∷ 1 ∷ 0 ∷ []))) ∙ big_from-cons 0 4 option (big_bytes 4 lba ++ (0 ∷ 0 ∷ 1 ∷ 0 ∷ []))
      ∙ big_number-reads_back 4 lba (0 ∷ 0 ∷ 1 ∷ 0 ∷ []) (omega arith);
  blocks = refl;
}

long_place : (code option lba : ℕ) → lba < 2 ^ 64 → HasLongPlace (long code option lba 1) lba 1
long_place code option lba low = record {
  address = big_from-cons 1 8 code (option ∷ (big_bytes 8 lba ++ (0 ∷ 0 ∷ 0 ∷ 1 ∷ 0 ∷ 0 ∷ []))) ∙ big_from-cons 0 8 option (big_bytes 8 lba ++ (0 ∷ 0 ∷ 0 ∷ 1 ∷ 0 ∷ 0 ∷ []))
      ∙ big_number-reads_back 8 lba (0 ∷ 0 ∷ 0 ∷ 1 ∷ 0 ∷ 0 ∷ []) (omega arith);
  blocks = refl;
}

access_low : (fua : Bool) → access fua < 256
access_low true = lit< tt
access_low false = lit< tt

has_access : (fua : Bool) (block : List ℕ) → slice_index block 1 ≡ access fua → HasAccess block fua
has_access true block e = record { unprotected = rw e refl; forced = (λ _. rw e (λ z. cc (z)), λ _. refl) }
has_access false block e = record { unprotected = rw e refl; forced = (λ h. absurd (cc (h)), λ h. let h' = rw e at h in absurd (h' refl)) }

zeros_two : (block : List ℕ) (a b : ℕ) → slice_index block a ≡ 0 → slice_index block b ≡ 0 → All (IsZeroAt block) (a ∷ b ∷ [])
zeros_two block a b e f = All-cons (IsZeroAt block) a (b ∷ []) e (All-cons (IsZeroAt block) b [] f (All-nil (IsZeroAt block)))

read_block : (lba : ℕ) (fua : Bool) → lba < 2 ^ 64 → BlockOf (read_command lba 1 fua)
read_block lba fua low = by_size (fits_ten lba 1) refl
  where
    by_size : (b : Bool) → fits_ten lba 1 ≡ b → BlockOf (if b then Read10 lba 1 fua else Read16 lba 1 fua)
    by_size true fits = record {
      block = short 0x28 (access fua) lba 1;
      asks = (record { operation = refl; long_enough = lit≤ tt }, short_place 0x28 (access fua) lba (ltb-true lba (2 ^ 32) (and_parts (nat_lt lba (2 ^ 32)) (nat_lt 1 (2 ^ 16)) fits).0), has_access fua (short 0x28 (access fua) lba 1) refl);
      plain = record { are_bytes = short_bytes 0x28 (access fua) lba 1 (lit< tt) (access_low fua) (lit< tt); no_more = refl; option = refl; unused_bytes = zeros_two (short 0x28 (access fua) lba 1) 6 9 refl refl };
    }
    by_size false fits = record {
      block = long 0x88 (access fua) lba 1;
      asks = (record { operation = refl; long_enough = lit≤ tt }, long_place 0x88 (access fua) lba low, has_access fua (long 0x88 (access fua) lba 1) refl);
      plain = record { are_bytes = long_bytes 0x88 (access fua) lba 1 (lit< tt) (access_low fua) (lit< tt); no_more = refl; option = refl; unused_bytes = zeros_two (long 0x88 (access fua) lba 1) 14 15 refl refl };
    }

write_block : (lba : ℕ) (fua : Bool) → lba < 2 ^ 64 → BlockOf (write_command lba 1 fua)
write_block lba fua low = by_size (fits_ten lba 1) refl
  where
    by_size : (b : Bool) → fits_ten lba 1 ≡ b → BlockOf (if b then Write10 lba 1 fua else Write16 lba 1 fua)
    by_size true fits = record {
      block = short 0x2A (access fua) lba 1;
      asks = (record { operation = refl; long_enough = lit≤ tt }, short_place 0x2A (access fua) lba (ltb-true lba (2 ^ 32) (and_parts (nat_lt lba (2 ^ 32)) (nat_lt 1 (2 ^ 16)) fits).0), has_access fua (short 0x2A (access fua) lba 1) refl);
      plain = record { are_bytes = short_bytes 0x2A (access fua) lba 1 (lit< tt) (access_low fua) (lit< tt); no_more = refl; option = refl; unused_bytes = zeros_two (short 0x2A (access fua) lba 1) 6 9 refl refl };
    }
    by_size false fits = record {
      block = long 0x8A (access fua) lba 1;
      asks = (record { operation = refl; long_enough = lit≤ tt }, long_place 0x8A (access fua) lba low, has_access fua (long 0x8A (access fua) lba 1) refl);
      plain = record { are_bytes = long_bytes 0x8A (access fua) lba 1 (lit< tt) (access_low fua) (lit< tt); no_more = refl; option = refl; unused_bytes = zeros_two (long 0x8A (access fua) lba 1) 14 15 refl refl };
    }

flush_block : (disk_sectors : ℕ) → BlockOf (flush_command disk_sectors)
flush_block disk_sectors = by_size (nat_le disk_sectors (2 ^ 32))
  where
    by_size : (b : Bool) → BlockOf (if b then Sync10 0 0 else Sync16 0 0)
    by_size true = record {
      block = short 0x35 0 0 0;
      asks = (record { operation = refl; long_enough = lit≤ tt }, record { address = refl; blocks = refl });
      plain = record { are_bytes = short_bytes 0x35 0 0 0 (lit< tt) (lit< tt) (lit< tt); no_more = refl; option = refl; unused_bytes = zeros_two (short 0x35 0 0 0) 6 9 refl refl };
    }
    by_size false = record {
      block = long 0x91 0 0 0;
      asks = (record { operation = refl; long_enough = lit≤ tt }, record { address = refl; blocks = refl });
      plain = record { are_bytes = long_bytes 0x91 0 0 0 (lit< tt) (lit< tt) (lit< tt); no_more = refl; option = refl; unused_bytes = zeros_two (long 0x91 0 0 0) 14 15 refl refl };
    }

abbrev pub one_place : ℕ → Extent
one_place first = record { first = first; count = 1 }

-- a block for one place of a request; of a flush there is one wherever it is
pub block_for : (rules : Rules) (q : ClientRequest) (place : ℕ) (kind : Kind) → (is_place : kind ≡ Flush → ⊥) → home rules q.partition (first_sector rules q + place) < 2 ^ 64
    → BlockOf (command_for rules q (one_place place) kind)
block_for rules q place Read other low = read_block _ q.through low
block_for rules q place Write other low = write_block _ q.through low
block_for rules q place Flush other low = absurd (other refl)

pub block_for_flush : (rules : Rules) (q : ClientRequest) (place : ℕ) (kind : Kind) → kind ≡ Flush → BlockOf (command_for rules q (one_place place) kind)
block_for_flush rules q place Read e = absurd (cc (e))
block_for_flush rules q place Write e = absurd (cc (e))
block_for_flush rules q place Flush e = flush_block rules.disk_sectors
