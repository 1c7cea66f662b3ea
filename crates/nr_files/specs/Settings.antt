-- The settings file, which is TOML text with the code rate and the limit of the buffer (TS 38.212, 5.4.2.1).
use Rattle.std.specs.Prelude.{ℕ, pos, Bool, true, not, ◌&&◌, ◌||◌, nat_le, nat_lt, if◌then◌else◌, Option, Some}
use Rattle.std.specs.Prelude.{None, Result, Ok, Err, List, length, codes}
use Rattle.std.specs.Str.{bytes_eq, is_utf8}
use Rattle.toml.specs.{Data.Data, Data.integer, Data.Members, Data.no_members, Data.member, Data.get_member, Parse.parse_document}
use Rattle.nr_refusal.specs.Refusal.{◌>>=◌, or_fault}
use Rattle.nr_transmission.specs.declared.settings.Settings.{Settings}
use Rattle.nr_files.specs.declared.settings.SettingsFault.{SettingsFault}
use Rattle.nr_files.specs.declared.settings.SettingsFault.TheVariants as fault

-- the name of a setting
abbrev pub is_known : List ℕ → Bool
is_known key = bytes_eq key (codes "rate2048") || bytes_eq key (codes "lbrm")

-- each name of the table is the name of a setting
abbrev pub all_known : Members → Bool
all_known no_members = true
all_known (member key value members) = is_known key && all_known members

-- the integer of a value, from `low` to `high`
abbrev pub number_in : ℕ → ℕ → Data → Result ℕ SettingsFault
number_in low high (integer (pos n)) = if nat_le low n && nat_le n high then Ok n else Err fault.Range
number_in low high (integer _) = Err fault.Range
number_in low high _ = Err fault.Kind

-- the limit TBS_LBRM (TS 38.212, 5.4.2.1), if there is a value
abbrev pub limit_of : Option Data → Result (Option ℕ) SettingsFault
limit_of None = Ok None
limit_of (Some value) = number_in 0 4294967295 value >>= λ n. Ok (Some n)

-- the settings of a table, or its first fault
unfoldable pub settings_of : Members → Result Settings SettingsFault
settings_of members =
    if not (all_known members) then Err fault.Unknown
    else (do
      rate ← or_fault fault.Missing (get_member (codes "rate2048") members)
      rate2048 ← number_in 1 2048 rate
      lbrm ← limit_of (get_member (codes "lbrm") members)
      Ok (record { rate2048 = rate2048; lbrm = lbrm }))

-- the settings of a settings file, or its first fault
unfoldable pub settings_said : List ℕ → Result Settings SettingsFault
settings_said text =
    if nat_lt 65536 (length text) then Err fault.TooLong
    else (if not (is_utf8 text) then Err fault.Toml
    else or_fault fault.Toml (parse_document text) >>= settings_of)
