-- What a journal entered may be booked.
use Rattle.sector_journal.proofs.Common.{◌≡◌, ◌≢◌, ℕ, Bool, List, length, Ok, Err, IsFalse, sym, subst, ◌∙◌, inl, inr, Cdb, Read10, Write10, Sync10, ReadCapacity10, Read16, Write16, Sync16, ReadCapacity16, Means, Srb, Kind, Entry, Completion, AdapterView, IsArmed, IsTransferOf, IsFlushOf, MayBeOf, IsOfSrb, IsBookable, MediumView, AskTheSame, Enters, Refuses}

transfer_of : (size sectors : ℕ) (one other : List ℕ) (kind : Kind) (lba count : ℕ) (entry : Entry) → length one ≡ length other → IsTransferOf size sectors one kind lba count entry
    → IsTransferOf size sectors other kind lba count entry
transfer_of size sectors one other kind lba count entry long h = record {
  kind_is = h.kind_is;
  first_is = h.first_is;
  count_is = h.count_is;
  inside = h.inside;
  whole = sym long ∙ h.whole;
  as_many = h.as_many ∙ long;
}

flush_of : (one other : List ℕ) (lba count : ℕ) (entry : Entry) → length one ≡ length other → IsFlushOf one lba count entry → IsFlushOf other lba count entry
flush_of one other lba count entry long h = record {
  kind_is = h.kind_is;
  first_is = h.first_is;
  count_is = h.count_is;
  none = sym long ∙ h.none;
  none_booked = h.none_booked;
}

may_be : (size sectors : ℕ) (one other : Srb) (entry : Entry) (command : Cdb) → AskTheSame one other → Means one.block command → MayBeOf size sectors one.data entry command
    → MayBeOf size sectors other.data entry command
may_be size sectors one other entry (Read10 lba count fua) same means h = transfer_of size sectors one.data other.data _ lba count entry same.as_long h
may_be size sectors one other entry (Read16 lba count fua) same means h = transfer_of size sectors one.data other.data _ lba count entry same.as_long h
may_be size sectors one other entry (Write10 lba count fua) same means h =
    (transfer_of size sectors one.data other.data _ lba count entry same.as_long h.0, h.1 ∙ same.same_bytes lba count fua (inl means))
may_be size sectors one other entry (Write16 lba count fua) same means h =
    (transfer_of size sectors one.data other.data _ lba count entry same.as_long h.0, h.1 ∙ same.same_bytes lba count fua (inr means))
may_be size sectors one other entry (Sync10 lba count) same means h = flush_of one.data other.data lba count entry same.as_long h
may_be size sectors one other entry (Sync16 lba count) same means h = flush_of one.data other.data lba count entry same.as_long h
may_be size sectors one other entry ReadCapacity10 same means h = absurd h
may_be size sectors one other entry (ReadCapacity16 allocation) same means h = absurd h

pub of_srb : (size sectors : ℕ) (one other : Srb) (entry : Entry) → AskTheSame one other → IsOfSrb size sectors one entry → IsOfSrb size sectors other entry
of_srb size sectors one other entry same h = record {
  command = h.command;
  means = subst (λ (x : List ℕ). Means x h.command) same.same_block h.means;
  may = may_be size sectors one other entry h.command same h.means h.may;
}

module _ (view : AdapterView) (medium medium' : MediumView) (write_protected : Bool) (tag piece : ℕ) (one srb : Srb) (apart : IsFalse view.faithful) (not_first : piece ≢ 0) (armed : IsArmed view tag piece srb) where
  -- an entry
  pub entered_bookable : (entry : Entry) → medium.sector_size ≡ view.sector_size → length medium.sectors ≡ length view.sectors → AskTheSame one srb → Enters medium write_protected tag piece one entry medium'
      → IsBookable view tag piece (Ok entry)
  entered_bookable entry size_is count_is same enters =
      let of : IsOfSrb view.sector_size (length view.sectors) srb entry =
      subst (λ (x : ℕ). IsOfSrb x (length view.sectors) srb entry) size_is
      (subst (λ (x : ℕ). IsOfSrb medium.sector_size x srb entry) count_is (of_srb medium.sector_size (length medium.sectors) one srb entry same enters.of_srb)) in
      record {
        use' = armed.use';
        others = armed.others;
        apart = apart;
        is_on = armed.is_on;
        is_piece = armed.is_piece;
        is_fresh = armed.is_fresh;
        not_first = not_first;
        suits = subst (λ (x : Srb). IsOfSrb view.sector_size (length view.sectors) x entry) (sym armed.is_srb) of;
      }

  -- a failure
  pub refused_bookable : (completion : Completion) → Refuses medium write_protected one completion medium' → IsBookable view tag piece (Err completion)
  refused_bookable completion refuses = record {
    use' = armed.use';
    others = armed.others;
    apart = apart;
    is_on = armed.is_on;
    is_piece = armed.is_piece;
    is_fresh = armed.is_fresh;
    not_first = not_first;
    suits = refuses.is_bad;
  }
