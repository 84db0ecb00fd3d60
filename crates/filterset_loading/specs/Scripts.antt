-- The scripts of shells.
use Rattle.std.specs.Prelude.{ℕ, ◌++◌, ◌==◌, chars, codes, encode_utf8, if◌then◌else◌}
use Rattle.std.specs.List.{flat_map}
use Rattle.clap.specs.declared.builder.command.Command.{Command}
use Rattle.filterset_display.specs.Columns.{Text}
use Rattle.filterset_loading.specs.Table.{table}
use Rattle.filterset_loading.specs.declared.engines.TheConstants.{BASH_END, BASH_START, FISH_END, FISH_START, ZSH_END, ZSH_START}
use Rattle.filterset_loading.specs.declared.shell.Shell.{Shell, TheVariants.Bash, TheVariants.Fish, TheVariants.Zsh}

abbrev pub name_of : Shell → Text
name_of Bash = codes "bash"
name_of Zsh = codes "zsh"
name_of Fish = codes "fish"

-- what a character between apostrophes is written as: 39 is the apostrophe and 92 the backslash
abbrev pub quoted_char : ℕ → Text
quoted_char c = if c == 39 then codes "'\\''" else if c == 92 then codes "'\\\\'" else encode_utf8 c

abbrev pub quoted : Text → Text
quoted text = flat_map quoted_char (chars text)

-- the table between apostrophes, in a script
abbrev pub script_between : Text → Command → Text → Text
script_between start command end = start ++ (quoted (table command) ++ end)

abbrev pub script_of : Shell → Command → Text
script_of Bash command = script_between BASH_START.now command BASH_END.now
script_of Zsh command = script_between ZSH_START.now command ZSH_END.now
script_of Fish command = script_between FISH_START.now command FISH_END.now
