use Rattle.traced.proofs.Common.{rules, ◌≡◌, ◌+◌, ◌++◌, ◌∷◌, [], List, length, sym, ap, ◌∙◌, subst, slice_get-get_or}
use Rattle.io_manager.specs.declared.Handle.{Handle}
use Rattle.traced.proofs.Clients.{WereOpened, opened_next, all_opened}
use Rattle.traced.proofs.opening.open_handles.Goals as goal

pub loop-c-preserved : goal.loop-c-preserved
loop-c-preserved g c =
    let at = slice_get-get_or c.args.partitions.now c.loop-c.c 0 (search rules) in
    let items : c.push_reserved.new.self.items ≡ c.loop-c.handles.items ++ c.in_ok-handle.handle ∷ [] = ◌∙◌ {A = List Handle} c.push_reserved.ensures.items (ap (λ (hs : List Handle). hs ++ c.in_ok-handle.handle ∷ []) c.reserve.ensures.items) in
    record {
      opened = subst (λ (handles : List Handle). WereOpened c.args.partitions.now (c.loop-c.c + 1) handles c.args.stack.now c.open_one.new.stack) (sym items)
          (opened_next _ _ _ _ _ _ _ _ c.loop-c.invariant.opened at c.in_ok-handle.ensures.opens);
      apart = λ h. c.in_ok-handle.ensures.apart (c.loop-c.invariant.apart h);
    }

pub returns-clause-opened : goal.returns-clause-opened
returns-clause-opened g c =
    let done : c.loop-c.c ≡ length c.args.partitions.now = search rules in
    all_opened _ _ _ _ (subst (λ n. WereOpened c.args.partitions.now n c.loop-c.handles.items c.args.stack.now c.loop-c.stack) done c.loop-c.invariant.opened)
