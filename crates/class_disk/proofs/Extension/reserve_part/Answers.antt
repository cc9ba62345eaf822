use Rattle.class_disk.proofs.Common.{◌∙◌, refl, ap, subst, near_same, IsBufferOf}
use Rattle.std.specs.Prelude.{vec_capacity, if◌then◌else◌}
use Rattle.class_disk.proofs.Making.{none_asked, part_made}
use Rattle.class_disk.proofs.Reserving.{on_err}
use Rattle.class_disk.proofs.Extension.reserve_part.Goals as goal

pub returns-in_err-data-clause-refused : goal.returns-in_err-data-clause-refused
returns-in_err-data-clause-refused g c = on_err _ (none_asked _ _)

pub returns-in_err-for_label-clause-refused : goal.returns-in_err-for_label-clause-refused
returns-in_err-for_label-clause-refused g c = on_err _ (none_asked _ _)

pub returns-clause-part : goal.returns-clause-part
returns-clause-part g c =
    record {
      asks = refl;
      first = refl;
      place = record { packet = c.in_ok-packet.packet; «data» = c.in_ok-data.data; for_label = c.in_ok-for_label.for_label };
      is_ready = refl;
      buffers = record {
        buffer =
            subst (IsBufferOf c.args.request.now.kind c.in_ok-data.data.items (vec_capacity c.in_ok-data.data))
            (c.own_bytes.ensures ∙ ap (λ n. if c.args.is_only then 0 else n) c.byte_count-length.ensures) c.in_ok-data.ensures;
        for_label = λ kept. c.in_ok-for_label.ensures kept ∙ c.byte_count-length.ensures;
      };
    }

pub returns-clause-makes : goal.returns-clause-makes
returns-clause-makes g c = part_made _ _ c.args.id _ c.in_ok-packet.packet _ _ _ refl _ refl refl c.in_ok-packet.ensures.makes

pub returns-in_err-data-clause-near : goal.returns-in_err-data-clause-near
returns-in_err-data-clause-near g c = near_same (g.D.Shown.view c.args.self.now.device) (g.D.Shown.view c.args.self.now.device) c.args.request.now refl

pub returns-in_err-for_label-clause-near : goal.returns-in_err-for_label-clause-near
returns-in_err-for_label-clause-near g c = near_same (g.D.Shown.view c.args.self.now.device) (g.D.Shown.view c.args.self.now.device) c.args.request.now refl
