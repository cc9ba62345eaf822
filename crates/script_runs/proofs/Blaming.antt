-- Why nothing is written of a script, or not all.
use Rattle.std.proofs.Common.{◌≡◌, ℕ, List, Option, Bool, true, false, inl, inr, refl, subst, sym, ◌∙◌}
use Rattle.std.specs.Str.{IsUtf8, is_utf8}
use Rattle.std.proofs.lemmas.Str.{IsUtf8-from_is_utf8}
use Rattle.settings.specs.declared.Config.{Config}
use Rattle.script.specs.declared.Line.{Line}
use Rattle.script.specs.declared.ScriptFault.{ScriptFault}
use Rattle.script.specs.declared.ScriptFault.TheVariants.{BadLine, NoMemory, OutputFailed}
use Rattle.script.specs.Faults.{IsPrintFault}
use Rattle.script.specs.Script.{IsFaultOf}
use Rattle.startup.specs.Reading.{AreRead, IsAllOf}
use Rattle.script_runs.specs.declared.faults.Error.{Error}
use Rattle.script_runs.specs.declared.faults.Error.TheVariants.{Script, Startup, Unreadable}
use Rattle.script_runs.specs.Runs.{AreGiven, IsRunFault, IsUnread, IsUntold}

-- a text was begun
pub begun : (old new : Option (List ℕ)) (fault : ScriptFault) → IsPrintFault fault → IsUntold old new (Script fault)
begun old new fault (inl is) = subst (λ f. IsUntold old new (Script f)) (sym is) tt
begun old new fault (inr is) = subst (λ f. IsUntold old new (Script f)) (sym is) tt

-- nothing was
pub unread : (old new : Option (List ℕ)) (fault : Error) → new ≡ old → IsUntold old new fault
unread old new (Startup fault) same = same
unread old new Unreadable same = same
unread old new (Script (BadLine line)) same = same
unread old new (Script NoMemory) same = tt
unread old new (Script OutputFailed) same = tt

module _ (config script : Option (List ℕ)) where
  module _ (settings : Config) (are_read : AreRead config settings) where
    pub by_reading : (fault : Error) → IsUnread fault → IsRunFault config script fault
    by_reading fault (inl is) = subst (IsRunFault config script) (sym is) (settings, are_read)
    by_reading fault (inr is) = subst (IsRunFault config script) (sym is) tt

    -- a text that isn't UTF-8
    pub by_bytes : (bytes items : List ℕ) → IsAllOf script items → bytes ≡ items → (IsUtf8 bytes → ⊥)
        → IsRunFault config script (Script (BadLine 1))
    by_bytes bytes items all same never =
        (settings, are_read, (bytes, subst (IsAllOf script) (sym same) all, inr (no_text (is_utf8 bytes) refl, refl)))
      where
        no_text : (b : Bool) → is_utf8 bytes ≡ b → is_utf8 bytes ≡ false
        no_text true is = absurd (never (IsUtf8-from_is_utf8 bytes is))
        no_text false is = is

    pub by_lines : (text bytes items : List ℕ) (fault : ScriptFault) → IsAllOf script items → text ≡ bytes
        → bytes ≡ items → IsFaultOf text fault
        → IsRunFault config script (Script fault)
    by_lines text bytes items (BadLine line) all same_text same_bytes bad =
        (settings, are_read, (text, subst (IsAllOf script) (sym (same_text ∙ same_bytes)) all, inl bad))
    by_lines text bytes items NoMemory all same_text same_bytes bad = tt
    by_lines text bytes items OutputFailed all same_text same_bytes bad = absurd bad

    pub by_play : (lines : List Line) (fault : ScriptFault) → AreGiven config script settings lines
        → IsPrintFault fault → IsRunFault config script (Script fault)
    by_play lines fault given (inl is) = subst (λ f. IsRunFault config script (Script f)) (sym is) tt
    by_play lines fault given (inr is) = subst (λ f. IsRunFault config script (Script f)) (sym is) (settings, lines, given)
