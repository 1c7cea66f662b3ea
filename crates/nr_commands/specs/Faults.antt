-- What a command returns if a part of it is refused.
use Rattle.nr_files.specs.declared.blocks.BlocksFault.{BlocksFault}
use Rattle.nr_files.specs.declared.blocks.BlocksFault.TheVariants as blocks_fault
use Rattle.nr_commands.specs.declared.fault.RunFault.{RunFault}
use Rattle.nr_commands.specs.declared.fault.RunFault.TheVariants.{Blocks, Memory, Schedule, Settings, Table}
use Rattle.nr_files.specs.declared.schedule.ScheduleFault.{ScheduleFault}
use Rattle.nr_files.specs.declared.schedule.ScheduleFault.TheVariants as schedule_fault
use Rattle.nr_files.specs.declared.settings.SettingsFault.{SettingsFault}
use Rattle.nr_files.specs.declared.settings.SettingsFault.TheVariants as settings_fault
use Rattle.nr_shifttable.specs.declared.fault.TableFault.{TableFault}
use Rattle.nr_shifttable.specs.declared.fault.TableFault.TheVariants as table_fault

-- a refusal of the blocks file; out of memory is a fault of its own
abbrev pub blocks_refusal : BlocksFault → RunFault
blocks_refusal blocks_fault.Memory = Memory
blocks_refusal said = Blocks said

-- a refusal of the shift table file; out of memory is a fault of its own
abbrev pub table_refusal : TableFault → RunFault
table_refusal table_fault.Memory = Memory
table_refusal said = Table said

-- a refusal of the settings file; out of memory is a fault of its own
abbrev pub settings_refusal : SettingsFault → RunFault
settings_refusal settings_fault.Memory = Memory
settings_refusal said = Settings said

-- a refusal of the schedule file; out of memory is a fault of its own
abbrev pub schedule_refusal : ScheduleFault → RunFault
schedule_refusal schedule_fault.Memory = Memory
schedule_refusal said = Schedule said
