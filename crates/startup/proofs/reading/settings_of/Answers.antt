use Rattle.std.proofs.Common.{◌≡◌, ℕ, List, Bool, true, false, Option, Some, refl, ap, sym, ◌∙◌, subst, inl}
use Rattle.std.specs.Prelude.{if◌then◌else◌}
use Rattle.std.specs.Str.{IsUtf8, is_utf8}
use Rattle.std.proofs.lemmas.Str.{IsUtf8-from_is_utf8, is_utf8-from_IsUtf8}
use Rattle.settings.specs.declared.ConfigFault.{ConfigFault}
use Rattle.settings.specs.declared.ConfigFault.TheVariants.{NotToml}
use Rattle.settings.specs.Faults.{IsRefusedFor, text_fault}
use Rattle.startup.specs.Reading.{settings_fault}
use Rattle.startup.proofs.reading.settings_of.Goals as goal

fault_by : (text : List ℕ) (b : Bool) → is_utf8 text ≡ b → settings_fault text ≡ (if b then text_fault text else Some NotToml)
fault_by text b is = ap (λ (b : Bool). if b then text_fault text else Some NotToml) is

no_text : (text : List ℕ) → (IsUtf8 text → ⊥) → (b : Bool) → is_utf8 text ≡ b → b ≡ false
no_text text never true is = absurd (never (IsUtf8-from_is_utf8 text is))
no_text text never false is = refl

pub returns-in-Ok-clause-fault : goal.returns-in-Ok-clause-fault
returns-in-Ok-clause-fault c =
    let cases = c.in-Ok.ensures.cases in
    let same : settings_fault c.args.text.now ≡ text_fault c.in-Ok.text.now =
    fault_by c.args.text.now true (is_utf8-from_IsUtf8 c.args.text.now cases.1) ∙ ap text_fault (sym cases.0) in
    subst (λ (f : Option ConfigFault). IsRefusedFor f c.config.result) (sym same) c.config.ensures.fault

pub returns-in-Err-clause-fault : goal.returns-in-Err-clause-fault
returns-in-Err-clause-fault c =
    let text = c.args.text.now in
    let never = c.in-Err.ensures.cases.0 in
    inl (sym (fault_by text false (no_text text never (is_utf8 text) refl)))
