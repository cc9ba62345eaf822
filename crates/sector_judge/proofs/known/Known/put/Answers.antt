use Rattle.std.proofs.Common.{◌∙◌, ◌++◌, ◌∷◌, [], ap, map, List}
use Rattle.sector_judge.specs.declared.candidates.Candidate.{Candidate}
use Rattle.sector_judge.specs.declared.candidates.Candidate.TheVariants.{Told}
use Rattle.sector_judge.specs.inside.Lists.{outdated}
use Rattle.sector_judge.proofs.Changing.{put_shown}
use Rattle.sector_judge.proofs.known.Known.put.Goals as goal

pub returns : goal.returns
returns c =
    put_shown c.self.inside.any c.self.inside.firsts.items c.self.inside.current.items c.self.inside.older.items c.args.self.now c.self.view_is c.args.next c.args.value c.push.new.self.items c.add_outdated.new.older.items
    (c.in_ok-add_outdated.ensures ∙ ap (λ (cs : List Candidate). c.self.inside.older.items ++ map (outdated c.args.next) cs) c.deref.ensures.value) (c.in_ok-push.ensures.items ∙ ap (λ (cs : List Candidate). cs ++ Told c.args.value ∷ []) c.clear.ensures.items)
