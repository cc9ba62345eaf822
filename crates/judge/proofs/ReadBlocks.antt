-- What the block of a start is read as.
use Rattle.std.proofs.Common.{◌≡◌, ℕ, List, Option, Some, None, sym, ◌∙◌, ap, subst}
use Rattle.std.specs.Prelude.{Ok, Err, MatchOption, slice_get}
use Rattle.cdb.specs.declared.Cdb.{Cdb}
use Rattle.cdb.specs.declared.CdbFault.{CdbFault}
use Rattle.cdb.specs.Meaning.{IsPlain, Means}
use Rattle.cdb.specs.Faults.{HasFault}
use Rattle.judge.specs.declared.label_rules.Difference.{Difference}
use Rattle.judge.specs.declared.start_rules.StartRule.TheVariants as start_rule
use Rattle.judge.specs.Breaking.{BreaksBlock, Differs}
use Rattle.judge.specs.Ruling.{difference}
use Rattle.judge.specs.LabelRuling.{IsBlockOf, IsReadAs}
use Rattle.judge.proofs.Named.{differs}

-- no block asks for two commands
abbrev pub OneMeaning : Type 0
OneMeaning = (block : List ℕ) (c d : Cdb) → Means block c → Means block d → c ≡ d

-- a command has one plain block
abbrev pub OneSpelling : Type 0
OneSpelling = (a b : List ℕ) (c : Cdb) → Means a c → IsPlain a c → Means b c → IsPlain b c → a ≡ b

-- no byte differs, or this is the first that does
pub same_if : (own block : List ℕ) → ◌≡◌ {A = Option Difference} None (difference 0 own block) → own ≡ block
same_if own block e = subst (λ o. MatchOption o (own ≡ block) (Differs own block)) (sym e) (differs own block)

pub differs_if : (own block : List ℕ) (d : Difference) → Some d ≡ difference 0 own block → Differs own block d
differs_if own block d e = subst (λ o. MatchOption o (own ≡ block) (Differs own block)) (sym e) (differs own block)

module _ (once : OneMeaning) (block own : List ℕ) (command : Cdb) (means : Means block command) (own_plain : IsPlain own command) where
  pub read_plain : own ≡ block → IsReadAs block (Ok command)
  read_plain same = record {
    command = λ c. (λ e. let is : command ≡ c = cc (e) in subst (λ x. IsBlockOf block x) is (record { asks = means; plain = subst (λ b. IsPlain b command) same own_plain }), λ h. ap Ok (once block command c means h.asks));
    only = λ c d e m. let is : command ≡ c = cc (e) in sym is ∙ once block command d means m;
    broken = λ r e. absurd (cc (e));
  }

  module _ (spelled : OneSpelling) (own_means : Means own command) (d : Difference) (unlike : Differs own block d) where
    not_plain : (c : Cdb) → Means block c → IsPlain block c → ⊥
    not_plain c m p =
        let is : c ≡ command = once block c command m means in
        let same : block ≡ own = spelled block own command means (subst (λ x. IsPlain block x) is p) own_means own_plain in
        unlike.unlike (sym unlike.is_told ∙ ap (λ b. slice_get b d.at) same ∙ unlike.is_due)

    pub read_spare : IsReadAs block (Err (start_rule.NotPlain d))
    read_spare = record {
      command = λ c. (λ e. absurd (cc (e)), λ h. absurd (not_plain c h.asks h.plain));
      only = λ c k e m. absurd (cc (e));
      broken = λ r e. let is : start_rule.NotPlain d ≡ r = cc (e) in
          subst (λ x. BreaksBlock block x) is (record { command = command; own = own; asks = means; is_own = own_means; is_plain = own_plain; differs = unlike }, not_plain);
    }

pub read_none : (block : List ℕ) (fault : CdbFault) → ((c : Cdb) → Means block c → ⊥) → HasFault block fault → IsReadAs block (Err (start_rule.Block fault))
read_none block fault none has = record {
  command = λ c. (λ e. absurd (cc (e)), λ h. absurd (none c h.asks));
  only = λ c k e m. absurd (cc (e));
  broken = λ r e. let is : start_rule.Block fault ≡ r = cc (e) in subst (λ x. BreaksBlock block x) is (has, none);
}
