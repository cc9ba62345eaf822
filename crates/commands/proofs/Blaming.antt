-- Why nothing is printed, or not all.
use Rattle.std.proofs.Common.{◌≡◌, ◌≤◌, ◌↔◌, ℕ, List, [], ◌∷◌, Option, Bool, true, false, IsTrue, IsSomeAnd, ap, inl, inr, map, slice_get, subst, sym, ◌∙◌}
use Rattle.machine.specs.Rules.{Rules}
use Rattle.settings.specs.declared.Config.{Config}
use Rattle.settings.specs.declared.Partition.{Partition}
use Rattle.settings.specs.declared.ConfigFault.TheVariants.{OutOfRange}
use Rattle.settings.specs.Medium.{extent_of}
use Rattle.rounds.specs.declared.RoundsFault.{RoundsFault}
use Rattle.rounds.specs.declared.RoundsFault.TheVariants.{NoPartition}
use Rattle.rounds.specs.Faults.{IsRoundsFault}
use Rattle.startup.specs.Started.{rules_over}
use Rattle.startup.specs.declared.faults.Error.TheVariants.{Settings}
use Rattle.startup.specs.Reading.{AreRead}
use Rattle.commands.specs.declared.faults.Error.{Error}
use Rattle.commands.specs.declared.faults.Error.TheVariants.{Startup}
use Rattle.commands.specs.Clients.{HasRoom, IsClientsFault, IsOutputFault}
use Rattle.commands.specs.Faults.{fault_of_run}
use Rattle.commands.specs.Trace.{IsTraceFault}
use Rattle.script_runs.specs.declared.faults.Error.{Error as RunError}
use Rattle.script_runs.specs.declared.faults.Error.TheVariants.{Startup as RunStartup, Unreadable as RunUnreadable, Script as RunScript}
use Rattle.script_runs.specs.Runs.{IsRunFault}

-- A SCRIPT

-- a run's fault is the program's
pub by_run : (config script : Option (List ℕ)) (fault : RunError) → IsRunFault config script fault → IsTraceFault config script (fault_of_run fault)
by_run config script (RunStartup fault) why = why
by_run config script RunUnreadable why = why
by_run config script (RunScript fault) why = why

-- CLIENTS

module _ (config : Option (List ℕ)) (threads : ℕ) where
  module _ (settings : Config) (are_read : AreRead config settings) where
    out_of_range : (fault : Error) → fault ≡ Startup (Settings OutOfRange) → (HasRoom settings threads → ⊥) → IsClientsFault config threads fault
    out_of_range fault is none = subst (IsClientsFault config threads) (sym is) (inr (settings, are_read, none))

    pub no_room : (has : Bool) (fault : Error) → IsTrue has ↔ HasRoom settings threads → has ≡ false → fault ≡ Startup (Settings OutOfRange) → IsClientsFault config threads fault
    no_room true fault means lacks is = absurd (cc (lacks))
    no_room false fault means lacks is = out_of_range fault is (λ room. never (means.1 room))
      where
        never : IsTrue false → ⊥
        never holds = absurd (cc (holds))

    -- settings without a partition have room for nobody
    pub no_partition : (rules : Rules) (missed : RoundsFault) (fault : Error) → rules ≡ rules_over false true settings → missed ≡ NoPartition → IsRoundsFault rules missed → fault ≡ Startup (Settings OutOfRange)
        → IsClientsFault config threads fault
    no_partition rules missed fault of_them named why is = out_of_range fault is (λ room. by settings.partitions.items (sym (ap (λ (r : Rules). r.partitions) of_them) ∙ none) room.sectors)
      where
        none : rules.partitions ≡ []
        none = subst (IsRoundsFault rules) named why

        by : (ps : List Partition) → map extent_of ps ≡ [] → IsSomeAnd (slice_get ps 0) (λ p. threads ≤ p.count) → ⊥
        by [] none some = some
        by (p ∷ ps) none some = absurd (cc (none))

    -- where there is room, the output alone can fail
    pub no_output : (has : Bool) (fault : Error) → IsTrue has ↔ HasRoom settings threads → has ≡ true → IsOutputFault fault → IsClientsFault config threads fault
    no_output has fault means room (inl is) = subst (IsClientsFault config threads) (sym is) (settings, are_read, means.0 room)
    no_output has fault means room (inr is) = subst (IsClientsFault config threads) (sym is) tt
