-- The rooms below of a list of parts, as parts are put behind it and taken off its end.
use Rattle.std.proofs.Common.{◌≡◌, List, [], ◌∷◌, ◌++◌, Some, sym, ap, subst, append_assoc}
use Rattle.class_disk.proofs.Common.{IsPermutation, IsPermutation-sym, IsPermutation-append_left, IsPermutation-append_comm, DeviceView, Ticket, AllOut, Progress, TransferPacket}
use Rattle.class_disk.proofs.Rooms.{out_any_order}
use Rattle.class_disk.specs.declared.parts.Part.{Part}
use Rattle.class_disk.specs.declared.parts.Progress.TheVariants.{Ready, Below, Ended}
use Rattle.class_disk.specs.inside.Parts.{packet_by, ticket_for, ticket_by, tickets_of}
use Rattle.class_disk.proofs.Noting.{tickets_of-append}

-- those of the last part come first
last_first : (front : List Part) (part : Part) (others : List Ticket)
    → IsPermutation (tickets_of (front ++ part ∷ []) ++ others) (tickets_of (part ∷ []) ++ (tickets_of front ++ others))
last_first front part others =
    subst (λ ws. IsPermutation (ws ++ others) (tickets_of (part ∷ []) ++ (tickets_of front ++ others))) (sym (tickets_of-append front (part ∷ [])))
    (subst (IsPermutation ((tickets_of front ++ tickets_of (part ∷ [])) ++ others))
    (append_assoc (tickets_of (part ∷ [])) (tickets_of front) others)
    (IsPermutation-append_left others _ _ (IsPermutation-append_comm (tickets_of front) (tickets_of (part ∷ [])))))

module _ (v : DeviceView) where
  -- the room of a part that is taken off the end comes first
  pub taken_off : (items front : List Part) (part : Part) (ticket : Ticket) → items ≡ front ++ part ∷ []
      → ticket_by part.request part.progress ≡ ticket ∷ [] → (others : List Ticket) → AllOut v (tickets_of items ++ others) → AllOut v (ticket ∷ (tickets_of front ++ others))
  taken_off items front part ticket is has others h =
      let first : AllOut v (tickets_of (part ∷ []) ++ (tickets_of front ++ others)) =
      out_any_order v _ _ (last_first front part others) (subst (λ xs. AllOut v (tickets_of xs ++ others)) is h) in
      subst (λ own. AllOut v ((own ++ []) ++ (tickets_of front ++ others))) has first

  -- those of a part that is put behind
  pub put_behind : (items front : List Part) (part : Part) → items ≡ front ++ part ∷ []
      → (others : List Ticket) → AllOut v (tickets_of (part ∷ []) ++ (tickets_of front ++ others)) → AllOut v (tickets_of items ++ others)
  put_behind items front part is others h =
      subst (λ xs. AllOut v (tickets_of xs ++ others)) (sym is) (out_any_order v _ _ (IsPermutation-sym _ _ (last_first front part others)) h)

-- the room of a part that is not below
pub part_ticket : (part : Part) (packet : TransferPacket) → packet_by part.progress ≡ Some packet → ticket_by part.request part.progress ≡ ticket_for part.request packet ∷ []
part_ticket part packet h = by part.progress h
  where
    by : (p : Progress) → packet_by p ≡ Some packet → ticket_by part.request p ≡ ticket_for part.request packet ∷ []
    by (Ready place) is = let e : place.packet ≡ packet = cc (is) in ap (λ x. ticket_for part.request x ∷ []) e
    by (Below number spot) is = absurd (cc (is))
    by (Ended ended) is = let e : ended.packet ≡ packet = cc (is) in ap (λ x. ticket_for part.request x ∷ []) e
