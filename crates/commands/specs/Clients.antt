-- What is printed of clients, what it says of their run, and why no tally is printed.
use Rattle.std.specs.Prelude.{◌≡◌, ◌≤◌, ◌⊎◌, ℕ, ◌*◌, ◌==◌, ◌&&◌, ◌++◌, ◌∷◌, [], Bool, IsSomeAnd, List, Option, codes, false, if◌then◌else◌, length, slice_get, true}
use Rattle.std.specs.Fmt.{decimal}
use Rattle.std.specs.Io.KnownBytes.{Appends}
use Rattle.machine.specs.declared.Label.{Label}
use Rattle.sector_journal.specs.declared.acted.Entered.{Entered}
use Rattle.host.specs.Closing.{IsFaithfulRun, act_count}
use Rattle.rounds.specs.declared.Tally.{Tally}
use Rattle.settings.specs.declared.Config.{Config}
use Rattle.settings.specs.Medium.{disk_of}
use Rattle.settings.specs.declared.ConfigFault.TheVariants.{OutOfRange}
use Rattle.script.specs.declared.ScriptFault.TheVariants.{OutputFailed}
use Rattle.startup.specs.declared.faults.Error.TheVariants.{Settings, Start}
use Rattle.startup.specs.Reading.{AreRead, HasFault}
use Rattle.startup.specs.Started.{IsApartFault, rules_over}
use Rattle.startup.specs.declared.ending.Verdict.{Verdict}
use Rattle.startup.specs.declared.ending.Verdict.TheVariants.{Passed, Failed}
use Rattle.commands.specs.declared.faults.Error.{Error}
use Rattle.commands.specs.declared.faults.Error.TheVariants.{Usage, Startup, ScriptUnreadable, Script, NoMemory}

-- the line of a tally, with its end
abbrev pub tally_line : ℕ → ℕ → Tally → List ℕ
tally_line threads rounds t =
    codes "threads " ++ (decimal threads ++ (codes " rounds " ++ (decimal rounds ++ (codes " answered " ++ (decimal t.answered ++ (codes " differing " ++ (decimal t.differing ++ 10 ∷ [])))))))

-- nothing was left out: the trace has as many acts as there are entries
abbrev pub is_whole : List Label → List Entered → Bool
is_whole trace entries = act_count trace == length entries

-- each client made two calls a round: all succeeded, no read gave other bytes than were written, and the run is whole
abbrev pub verdict_on : ℕ → ℕ → Tally → Bool → Verdict
verdict_on threads rounds t whole = if (t.differing == 0) && (t.answered == 2 * threads * rounds) && whole then Passed else Failed

-- the line of this tally was printed: at most two calls a round of each client succeeded
pub record PrintsTally (threads rounds : ℕ) (tally : Tally) (old new : Option (List ℕ)) : Type 0 where
  pub most : tally.answered ≤ 2 * (threads * rounds)
  pub appends : Appends old new (tally_line threads rounds tally)

-- the trace is a run over the disk of the settings that this input gives; its acts read and write the disk's sectors
abbrev pub IsRunOver : Option (List ℕ) → List Label → List Entered → List (List ℕ) → Type 0
IsRunOver input trace entries sectors =
    (settings : Config) × AreRead input settings × IsFaithfulRun (rules_over false true settings) (disk_of settings) trace entries sectors

-- each client, of this many, has a sector of partition 0, and may have a request open
pub record HasRoom (c : Config) (threads : ℕ) : Type 0 where
  pub sectors : IsSomeAnd (slice_get c.partitions.items 0) (λ p. threads ≤ p.count)
  pub requests : threads ≤ c.open_requests

-- the output failed, or memory was refused
abbrev pub IsOutputFault : Error → Type 0
IsOutputFault fault = (fault ≡ Script OutputFailed) ⊎ (fault ≡ NoMemory)

-- nothing was printed, unless the output failed or memory was refused
abbrev pub IsUntold : Option (List ℕ) → Option (List ℕ) → Error → Type 0
IsUntold old new fault = IsOutputFault fault ⊎ (new ≡ old)

-- why no tally is printed of this many clients. Settings are looked at first, then a stack is started, and then there
-- has to be room for the clients
abbrev pub IsClientsFault : Option (List ℕ) → ℕ → Error → Type 0
IsClientsFault config threads Usage = ⊥
IsClientsFault config threads (Startup (Start fault)) = (settings : Config) × AreRead config settings × IsApartFault settings fault
IsClientsFault config threads (Startup (Settings OutOfRange)) =
    HasFault config (Settings OutOfRange) ⊎ ((settings : Config) × AreRead config settings × ¬ (HasRoom settings threads))
IsClientsFault config threads (Startup fault) = HasFault config fault
IsClientsFault config threads ScriptUnreadable = ⊥
IsClientsFault config threads (Script OutputFailed) = (settings : Config) × AreRead config settings × HasRoom settings threads
IsClientsFault config threads (Script _) = ⊥
IsClientsFault config threads NoMemory = Unit {0}
