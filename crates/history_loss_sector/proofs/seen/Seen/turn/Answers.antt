use Rattle.std.proofs.Common.{◌≡◌, ◌++◌, ◌∷◌, [], true, false, ◌∙◌, ap, arith, length}
use Rattle.std.specs.Global.{Vec}
use Rattle.history_loss_kept.specs.Kept.{merged, seen_by}
use Rattle.history_loss_sector.specs.declared.filling.Marked.{Marked}
use Rattle.history_loss_sector.specs.Seen.{shared_in, turned_sight}
use Rattle.history_loss_sector.specs.inside.Entries.{own_in}
use Rattle.history_loss_sector.proofs.Viewing.{on_ok, sees_turn, turned_is}
use Rattle.history_loss_sector.proofs.seen.Seen.turn.Goals as goal

pub returns : goal.returns
returns c =
    let own = c.self.inside.own.items in
    let shared = shared_in c.args.shared.now in
    let last = turned_sight c.args.how in
    let all = c.self.inside.all.seen in
    let steady = c.self.inside.steady.seen in
    let some : own ≡ [] → ⊥ = λ e. let none : length own ≡ 0 = ap length e in absurd (grind (arith, c.is_empty.ensures, c.if-is_empty.false, none)) in
    let taken : c.replace-own.result.items ≡ own = ap (λ (ms : Vec Marked). ms.items) c.replace-own.ensures.value in
    let all_sees : c.see_merged.new.watched.seen.sights ≡ all.sights ++ merged true 0 (own_in own) shared =
    c.in_ok-see_merged.ensures.seen ∙ ap (λ ms. all.sights ++ merged true 0 (own_in ms) shared) (c.as_slice.ensures.value ∙ taken) in
    let steady_sees : c.see_merged-2.new.watched.seen.sights ≡ steady.sights ++ merged false 0 (own_in own) shared =
    c.in_ok-see_merged-2.ensures.seen ∙ ap (λ ms. steady.sights ++ merged false 0 (own_in ms) shared) (c.as_slice-2.ensures.value ∙ taken) in
    let alls : c.see.new.self.seen.sights ≡ all.sights ++ seen_by true shared (last ∷ []) (own_in own) =
    sees_turn true own shared some last all.sights c.see_merged.new.watched.seen.sights c.see.new.self.seen.sights all_sees (c.in_ok-see.ensures.seen ∙ ap (λ s. c.see_merged.new.watched.seen.sights ++ s ∷ []) c.turned_sight-sight.ensures) in
    on_ok c.see-2.result
    (λ ends. turned_is all.start all.sights steady.sights own c.args.self.now shared last c.see.new.self.seen.start c.see.new.self.seen.sights c.see-2.new.self.seen.sights c.replace-own.new.dest.items
    c.self.view_is (c.see.ensures.start ∙ c.see_merged.ensures.start) alls
    (sees_turn false own shared some last steady.sights c.see_merged-2.new.watched.seen.sights c.see-2.new.self.seen.sights steady_sees (ends ∙ ap (λ s. c.see_merged-2.new.watched.seen.sights ++ s ∷ []) c.turned_sight-sight.ensures))
    (ap (λ (ms : Vec Marked). ms.items) c.replace-own.ensures.after ∙ c.new.ensures.items))
    c.see-2.ensures.seen
