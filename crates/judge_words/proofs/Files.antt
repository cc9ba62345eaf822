-- The paths that one word or two give.
use Rattle.std.proofs.Common.{◌≡◌, Option, None, Some, subst}
use Rattle.clap.specs.Words.{Text}
use Rattle.judge_words.specs.CommandLine.{AreFiles}

pub as_found : (first second first' second' config : Option Text) (last : Text) → first ≡ first' → second ≡ second' → AreFiles first second config last → AreFiles first' second' config last
as_found first second first' second' config last e f has = subst (λ (x : Option Text). AreFiles x second' config last) e (subst (λ (x : Option Text). AreFiles first x config last) f has)

pub no_files : (first second config : Option Text) (last : Text) → ◌≡◌ {A = Option Text} None first → AreFiles first second config last → ⊥
no_files None second config last none has = has
no_files (Some first) second config last none has = absurd (cc (none))
