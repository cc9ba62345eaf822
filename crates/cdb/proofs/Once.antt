-- A block means one command or has one fault, and never both.
use Rattle.std.proofs.Common.{◌≡◌, ◌↔◌, ◌≤◌, ◌<◌, ◌⊎◌, ℕ, Bool, true, false, IsTrue, List, length, slice_index, ap, subst, refl, sym, ◌∙◌, inl, inr, arith, Result, Ok, Err, MatchResult}
use Rattle.cdb.specs.declared.Cdb.{Cdb}
use Rattle.cdb.specs.declared.Cdb.TheVariants.{Read10, Write10, Sync10, ReadCapacity10, Read16, Write16, Sync16, ReadCapacity16}
use Rattle.cdb.specs.declared.CdbFault.{CdbFault}
use Rattle.cdb.specs.declared.CdbFault.TheVariants.{ShortCdb, UnknownOpcode, InvalidField}
use Rattle.cdb.specs.Meaning.{Means, protect, service_action, size_of}
use Rattle.cdb.specs.Faults.{IsTransferCode, IsLongTransferCode, IsShortCode, IsLongCode, IsKnownCode, IsTransfer, IsOtherService, IsCut, HasFault}

-- the operation code of a command
abbrev pub code_of : Cdb → ℕ
code_of (Read10 lba count fua) = 0x28
code_of (Write10 lba count fua) = 0x2A
code_of (Sync10 lba count) = 0x35
code_of ReadCapacity10 = 0x25
code_of (Read16 lba count fua) = 0x88
code_of (Write16 lba count fua) = 0x8A
code_of (Sync16 lba count) = 0x91
code_of (ReadCapacity16 allocation) = 0x9E

pub has_code : (block : List ℕ) (c : Cdb) → Means block c → slice_index block 0 ≡ code_of c
has_code block (Read10 l n f) h = h.0.operation
has_code block (Write10 l n f) h = h.0.operation
has_code block (Sync10 l n) h = h.0.operation
has_code block ReadCapacity10 h = h.operation
has_code block (Read16 l n f) h = h.0.operation
has_code block (Write16 l n f) h = h.0.operation
has_code block (Sync16 l n) h = h.0.operation
has_code block (ReadCapacity16 a) h = h.0.operation

-- two tests of one fact are one
same_test : {P : Type 0} (a b : Bool) → IsTrue a ↔ P → IsTrue b ↔ P → a ≡ b
same_test true true f g = refl
same_test false false f g = refl
same_test true false f g = sym (g.1 (f.0 refl))
same_test false true f g = f.1 (g.0 refl)

-- two commands of one code that one block means
same_code : (block : List ℕ) (c d : Cdb) → code_of c ≡ code_of d → Means block c → Means block d → c ≡ d
same_code block (Read10 l n f) (Read10 m k g) e h i = let e : f ≡ g = same_test f g h.2.forced i.2.forced in grind (arith, h.1.address, h.1.blocks, i.1.address, i.1.blocks)
same_code block (Write10 l n f) (Write10 m k g) e h i = let e : f ≡ g = same_test f g h.2.forced i.2.forced in grind (arith, h.1.address, h.1.blocks, i.1.address, i.1.blocks)
same_code block (Sync10 l n) (Sync10 m k) e h i = grind (arith, h.1.address, h.1.blocks, i.1.address, i.1.blocks)
same_code block ReadCapacity10 ReadCapacity10 e h i = refl
same_code block (Read16 l n f) (Read16 m k g) e h i = let e : f ≡ g = same_test f g h.2.forced i.2.forced in grind (arith, h.1.address, h.1.blocks, i.1.address, i.1.blocks)
same_code block (Write16 l n f) (Write16 m k g) e h i = let e : f ≡ g = same_test f g h.2.forced i.2.forced in grind (arith, h.1.address, h.1.blocks, i.1.address, i.1.blocks)
same_code block (Sync16 l n) (Sync16 m k) e h i = grind (arith, h.1.address, h.1.blocks, i.1.address, i.1.blocks)
same_code block (ReadCapacity16 a) (ReadCapacity16 b) e h i = grind (arith, h.1.room, i.1.room)
same_code block (Read10 l n f) (Write10 m k g) e h i = absurd (omega arith)
same_code block (Read10 l n f) (Sync10 m k) e h i = absurd (omega arith)
same_code block (Read10 l n f) ReadCapacity10 e h i = absurd (omega arith)
same_code block (Read10 l n f) (Read16 m k g) e h i = absurd (omega arith)
same_code block (Read10 l n f) (Write16 m k g) e h i = absurd (omega arith)
same_code block (Read10 l n f) (Sync16 m k) e h i = absurd (omega arith)
same_code block (Read10 l n f) (ReadCapacity16 a) e h i = absurd (omega arith)
same_code block (Write10 l n f) (Read10 m k g) e h i = absurd (omega arith)
same_code block (Write10 l n f) (Sync10 m k) e h i = absurd (omega arith)
same_code block (Write10 l n f) ReadCapacity10 e h i = absurd (omega arith)
same_code block (Write10 l n f) (Read16 m k g) e h i = absurd (omega arith)
same_code block (Write10 l n f) (Write16 m k g) e h i = absurd (omega arith)
same_code block (Write10 l n f) (Sync16 m k) e h i = absurd (omega arith)
same_code block (Write10 l n f) (ReadCapacity16 a) e h i = absurd (omega arith)
same_code block (Sync10 l n) (Read10 m k g) e h i = absurd (omega arith)
same_code block (Sync10 l n) (Write10 m k g) e h i = absurd (omega arith)
same_code block (Sync10 l n) ReadCapacity10 e h i = absurd (omega arith)
same_code block (Sync10 l n) (Read16 m k g) e h i = absurd (omega arith)
same_code block (Sync10 l n) (Write16 m k g) e h i = absurd (omega arith)
same_code block (Sync10 l n) (Sync16 m k) e h i = absurd (omega arith)
same_code block (Sync10 l n) (ReadCapacity16 a) e h i = absurd (omega arith)
same_code block ReadCapacity10 (Read10 m k g) e h i = absurd (omega arith)
same_code block ReadCapacity10 (Write10 m k g) e h i = absurd (omega arith)
same_code block ReadCapacity10 (Sync10 m k) e h i = absurd (omega arith)
same_code block ReadCapacity10 (Read16 m k g) e h i = absurd (omega arith)
same_code block ReadCapacity10 (Write16 m k g) e h i = absurd (omega arith)
same_code block ReadCapacity10 (Sync16 m k) e h i = absurd (omega arith)
same_code block ReadCapacity10 (ReadCapacity16 a) e h i = absurd (omega arith)
same_code block (Read16 l n f) (Read10 m k g) e h i = absurd (omega arith)
same_code block (Read16 l n f) (Write10 m k g) e h i = absurd (omega arith)
same_code block (Read16 l n f) (Sync10 m k) e h i = absurd (omega arith)
same_code block (Read16 l n f) ReadCapacity10 e h i = absurd (omega arith)
same_code block (Read16 l n f) (Write16 m k g) e h i = absurd (omega arith)
same_code block (Read16 l n f) (Sync16 m k) e h i = absurd (omega arith)
same_code block (Read16 l n f) (ReadCapacity16 a) e h i = absurd (omega arith)
same_code block (Write16 l n f) (Read10 m k g) e h i = absurd (omega arith)
same_code block (Write16 l n f) (Write10 m k g) e h i = absurd (omega arith)
same_code block (Write16 l n f) (Sync10 m k) e h i = absurd (omega arith)
same_code block (Write16 l n f) ReadCapacity10 e h i = absurd (omega arith)
same_code block (Write16 l n f) (Read16 m k g) e h i = absurd (omega arith)
same_code block (Write16 l n f) (Sync16 m k) e h i = absurd (omega arith)
same_code block (Write16 l n f) (ReadCapacity16 a) e h i = absurd (omega arith)
same_code block (Sync16 l n) (Read10 m k g) e h i = absurd (omega arith)
same_code block (Sync16 l n) (Write10 m k g) e h i = absurd (omega arith)
same_code block (Sync16 l n) (Sync10 m k) e h i = absurd (omega arith)
same_code block (Sync16 l n) ReadCapacity10 e h i = absurd (omega arith)
same_code block (Sync16 l n) (Read16 m k g) e h i = absurd (omega arith)
same_code block (Sync16 l n) (Write16 m k g) e h i = absurd (omega arith)
same_code block (Sync16 l n) (ReadCapacity16 a) e h i = absurd (omega arith)
same_code block (ReadCapacity16 a) (Read10 m k g) e h i = absurd (omega arith)
same_code block (ReadCapacity16 a) (Write10 m k g) e h i = absurd (omega arith)
same_code block (ReadCapacity16 a) (Sync10 m k) e h i = absurd (omega arith)
same_code block (ReadCapacity16 a) ReadCapacity10 e h i = absurd (omega arith)
same_code block (ReadCapacity16 a) (Read16 m k g) e h i = absurd (omega arith)
same_code block (ReadCapacity16 a) (Write16 m k g) e h i = absurd (omega arith)
same_code block (ReadCapacity16 a) (Sync16 m k) e h i = absurd (omega arith)

pub means_once : (block : List ℕ) (c d : Cdb) → Means block c → Means block d → c ≡ d
means_once block c d h i = same_code block c d (sym (has_code block c h) ∙ has_code block d i) h i

-- a block of a known code that asks for a command has all its bytes
long_enough : (block : List ℕ) (c : Cdb) → Means block c → size_of c ≤ length block
long_enough block (Read10 l n f) h = h.0.long_enough
long_enough block (Write10 l n f) h = h.0.long_enough
long_enough block (Sync10 l n) h = h.0.long_enough
long_enough block ReadCapacity10 h = h.long_enough
long_enough block (Read16 l n f) h = h.0.long_enough
long_enough block (Write16 l n f) h = h.0.long_enough
long_enough block (Sync16 l n) h = h.0.long_enough
long_enough block (ReadCapacity16 a) h = h.0.long_enough

-- a code is of ten bytes or of sixteen
short_is_low : (code : ℕ) → IsShortCode code → code < 128
short_is_low code (inl (inl e)) = omega arith
short_is_low code (inl (inr e)) = omega arith
short_is_low code (inr (inl e)) = omega arith
short_is_low code (inr (inr e)) = omega arith

long_is_high : (code : ℕ) → IsLongCode code → 128 ≤ code
long_is_high code (inl (inl e)) = omega arith
long_is_high code (inl (inr e)) = omega arith
long_is_high code (inr (inl e)) = omega arith
long_is_high code (inr (inr e)) = omega arith

transfer_is_low : (code : ℕ) → IsTransferCode code → code < 128
transfer_is_low code h = short_is_low code (inl h)

transfer_is_high : (code : ℕ) → IsLongTransferCode code → 128 ≤ code
transfer_is_high code h = long_is_high code (inl h)

-- the command's code is one of ten bytes, or one of sixteen
known : (c : Cdb) → ((size_of c ≡ 10) × IsShortCode (code_of c)) ⊎ ((size_of c ≡ 16) × IsLongCode (code_of c))
known (Read10 l n f) = inl (refl, inl (inl refl))
known (Write10 l n f) = inl (refl, inl (inr refl))
known (Sync10 l n) = inl (refl, inr (inl refl))
known ReadCapacity10 = inl (refl, inr (inr refl))
known (Read16 l n f) = inr (refl, inl (inl refl))
known (Write16 l n f) = inr (refl, inl (inr refl))
known (Sync16 l n) = inr (refl, inr (inl refl))
known (ReadCapacity16 a) = inr (refl, inr (inr refl))

known_code : (block : List ℕ) (c : Cdb) → Means block c → IsKnownCode (slice_index block 0)
known_code block c h = subst IsKnownCode (sym (has_code block c h)) (elim (known c) [ inl k ↦ inl k.1 | inr k ↦ inr k.1 ])

not_cut : (block : List ℕ) (c : Cdb) → Means block c → IsCut block → ⊥
not_cut block c h cut =
    let code : slice_index block 0 ≡ code_of c = has_code block c h in
    let long : size_of c ≤ length block = long_enough block c h in
    elim cut [
      | inl k ↦ let low : slice_index block 0 < 128 = short_is_low _ k.0 in
          elim (known c) [ inl e ↦ omega (arith, e.0, k.1) | inr e ↦ let high : 128 ≤ code_of c = long_is_high _ e.1 in omega arith ]
      | inr k ↦ let high : 128 ≤ slice_index block 0 = long_is_high _ k.0 in
          elim (known c) [ inl e ↦ let low : code_of c < 128 = short_is_low _ e.1 in omega arith | inr e ↦ omega (arith, e.0, k.1) ]
    ]

-- the code of a transfer
abbrev pub IsAnyTransfer : ℕ → Type 0
IsAnyTransfer code = IsTransferCode code ⊎ IsLongTransferCode code

any_transfer : (block : List ℕ) → IsTransfer block → IsAnyTransfer (slice_index block 0)
any_transfer block (inl k) = inl k.0
any_transfer block (inr k) = inr k.0

no_transfer : (code : ℕ) → IsAnyTransfer code → (code ≡ 0x35) ⊎ ((code ≡ 0x25) ⊎ ((code ≡ 0x91) ⊎ (code ≡ 0x9E))) → ⊥
no_transfer code (inl (inl e)) k = elim k [ inl i ↦ omega arith | inr (inl i) ↦ omega arith | inr (inr (inl i)) ↦ omega arith | inr (inr (inr i)) ↦ omega arith ]
no_transfer code (inl (inr e)) k = elim k [ inl i ↦ omega arith | inr (inl i) ↦ omega arith | inr (inr (inl i)) ↦ omega arith | inr (inr (inr i)) ↦ omega arith ]
no_transfer code (inr (inl e)) k = elim k [ inl i ↦ omega arith | inr (inl i) ↦ omega arith | inr (inr (inl i)) ↦ omega arith | inr (inr (inr i)) ↦ omega arith ]
no_transfer code (inr (inr e)) k = elim k [ inl i ↦ omega arith | inr (inl i) ↦ omega arith | inr (inr (inl i)) ↦ omega arith | inr (inr (inr i)) ↦ omega arith ]

unprotected : (block : List ℕ) (c : Cdb) → Means block c → IsAnyTransfer (slice_index block 0) → protect block ≡ 0
unprotected block (Read10 l n f) h t = h.2.unprotected
unprotected block (Write10 l n f) h t = h.2.unprotected
unprotected block (Read16 l n f) h t = h.2.unprotected
unprotected block (Write16 l n f) h t = h.2.unprotected
unprotected block (Sync10 l n) h t = absurd (no_transfer _ t (inl h.0.operation))
unprotected block ReadCapacity10 h t = absurd (no_transfer _ t (inr (inl h.operation)))
unprotected block (Sync16 l n) h t = absurd (no_transfer _ t (inr (inr (inl h.0.operation))))
unprotected block (ReadCapacity16 a) h t = absurd (no_transfer _ t (inr (inr (inr h.0.operation))))

service_is_capacity : (block : List ℕ) (c : Cdb) → Means block c → slice_index block 0 ≡ 0x9E → service_action block ≡ 0x10
service_is_capacity block (ReadCapacity16 a) h e = h.1.action
service_is_capacity block (Read10 l n f) h e = absurd (omega (arith, e, h.0.operation))
service_is_capacity block (Write10 l n f) h e = absurd (omega (arith, e, h.0.operation))
service_is_capacity block (Sync10 l n) h e = absurd (omega (arith, e, h.0.operation))
service_is_capacity block ReadCapacity10 h e = absurd (omega (arith, e, h.operation))
service_is_capacity block (Read16 l n f) h e = absurd (omega (arith, e, h.0.operation))
service_is_capacity block (Write16 l n f) h e = absurd (omega (arith, e, h.0.operation))
service_is_capacity block (Sync16 l n) h e = absurd (omega (arith, e, h.0.operation))

has_bytes : (c : Cdb) → 10 ≤ size_of c
has_bytes c = elim (known c) [ inl e ↦ omega (arith, e.0) | inr e ↦ omega (arith, e.0) ]

pub never_both : (block : List ℕ) (c : Cdb) (fault : CdbFault) → Means block c → HasFault block fault → ⊥
never_both block c ShortCdb h (inl e) =
    let long : size_of c ≤ length block = long_enough block c h in
    let some : 10 ≤ size_of c = has_bytes c in omega arith
never_both block c ShortCdb h (inr cut) = not_cut block c h cut
never_both block c UnknownOpcode h w = w.1 (known_code block c h)
never_both block c InvalidField h (inl w) = let none : protect block ≡ 0 = unprotected block c h (any_transfer block w.0) in omega (arith, w.1)
never_both block c InvalidField h (inr w) = w.2 (service_is_capacity block c h w.0)

-- a transfer, or another service, has all its bytes and a known code
not_cut_transfer : (block : List ℕ) → IsTransfer block → IsCut block → ⊥
not_cut_transfer block (inl t) (inl k) = omega (arith, t.1, k.1)
not_cut_transfer block (inr t) (inr k) = omega (arith, t.1, k.1)
not_cut_transfer block (inl t) (inr k) =
    let low : slice_index block 0 < 128 = transfer_is_low _ t.0 in
    let high : 128 ≤ slice_index block 0 = long_is_high _ k.0 in omega arith
not_cut_transfer block (inr t) (inl k) =
    let high : 128 ≤ slice_index block 0 = transfer_is_high _ t.0 in
    let low : slice_index block 0 < 128 = short_is_low _ k.0 in omega arith

not_cut_service : (block : List ℕ) → IsOtherService block → IsCut block → ⊥
not_cut_service block s (inl k) = let low : slice_index block 0 < 128 = short_is_low _ k.0 in omega (arith, s.0)
not_cut_service block s (inr k) = omega (arith, s.1, k.1)

has_some : (block : List ℕ) → HasFault block InvalidField → 10 ≤ length block
has_some block (inl (inl t, p)) = t.1
has_some block (inl (inr t, p)) = omega (arith, t.1)
has_some block (inr s) = omega (arith, s.1)

not_short : (block : List ℕ) → HasFault block InvalidField → HasFault block ShortCdb → ⊥
not_short block f (inl e) = let some : 10 ≤ length block = has_some block f in omega arith
not_short block (inl f) (inr cut) = not_cut_transfer block f.0 cut
not_short block (inr f) (inr cut) = not_cut_service block f cut

field_known : (block : List ℕ) → HasFault block InvalidField → IsKnownCode (slice_index block 0)
field_known block (inl (inl t, p)) = inl (inl t.0)
field_known block (inl (inr t, p)) = inr (inl t.0)
field_known block (inr s) = inr (inr (inr s.0))

cut_known : (block : List ℕ) → IsCut block → IsKnownCode (slice_index block 0)
cut_known block (inl k) = inl k.0
cut_known block (inr k) = inr k.0

not_unknown : (block : List ℕ) → HasFault block ShortCdb → HasFault block UnknownOpcode → ⊥
not_unknown block (inl e) w = omega (arith, w.0)
not_unknown block (inr cut) w = w.1 (cut_known block cut)

pub fault_once : (block : List ℕ) (f g : CdbFault) → HasFault block f → HasFault block g → f ≡ g
fault_once block ShortCdb ShortCdb v w = refl
fault_once block UnknownOpcode UnknownOpcode v w = refl
fault_once block InvalidField InvalidField v w = refl
fault_once block ShortCdb UnknownOpcode v w = absurd (not_unknown block v w)
fault_once block ShortCdb InvalidField v w = absurd (not_short block w v)
fault_once block UnknownOpcode ShortCdb v w = absurd (not_unknown block w v)
fault_once block UnknownOpcode InvalidField v w = absurd (v.1 (field_known block w))
fault_once block InvalidField ShortCdb v w = absurd (not_short block v w)
fault_once block InvalidField UnknownOpcode v w = absurd (w.1 (field_known block v))

-- an answer that is right where it is Ok and where it isn't is the only one
pub ok_exactly : (block : List ℕ) (r : Result Cdb CdbFault) → MatchResult r (Means block) (HasFault block) → (c : Cdb) → (r ≡ Ok c) ↔ Means block c
ok_exactly block (Ok d) h c = (λ e. let k : d ≡ c = cc in subst (λ (x : Cdb). Means block x) k h, λ m. ap Ok (means_once block d c h m))
ok_exactly block (Err f) h c = (λ e. absurd cc, λ m. absurd (never_both block c f m h))

pub fault_exactly : (block : List ℕ) (r : Result Cdb CdbFault) → MatchResult r (Means block) (HasFault block) → (f : CdbFault) → (r ≡ Err f) ↔ HasFault block f
fault_exactly block (Err g) h f = (λ e. let k : g ≡ f = cc in subst (λ (x : CdbFault). HasFault block x) k h, λ w. ap Err (fault_once block g f h w))
fault_exactly block (Ok d) h f = (λ e. absurd cc, λ w. absurd (never_both block d f h w))
