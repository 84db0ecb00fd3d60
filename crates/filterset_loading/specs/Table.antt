-- The table of a program's commands and arguments. A line has five columns: the command that it is about, or nothing for
-- the program itself; a name; a short name; which values are taken; and help.
use Rattle.std.specs.Prelude.{ℕ, List, [], ◌++◌, Option, None, Some, codes, encode_utf8, unwrap_or}
use Rattle.std.specs.{Borrow.Bor, List.flat_map, Option.option_map_or}
use Rattle.clap.specs.{Words.parser_of, declared.builder.command.Command.TheViews.out-Command as fields_of}
use Rattle.clap.specs.declared.builder.action.ArgAction.{ArgAction, TheVariants.Append, TheVariants.Set}
use Rattle.clap.specs.declared.builder.{arg.Arg.Arg, command.Command.Command}
use Rattle.clap.specs.declared.builder.value_parser.ValueParser.{ValueParser, TheVariants.Names}
use Rattle.filterset_display.specs.Columns.{Text}
use Rattle.filterset_loading.specs.declared.engines.TheConstants.{ADDED}

-- the long name of an argument, which one that is given by its place lacks
abbrev pub long_name : Option (Bor Text) → Text
long_name None = []
long_name (Some name) = codes "--" ++ name.now

abbrev pub short_name : Option ℕ → Text
short_name None = []
short_name (Some c) = codes "-" ++ encode_utf8 c

-- the values that a parser takes: its names, or any
abbrev pub parsed_by : ValueParser → Text
parsed_by (Names names) = flat_map (λ n. n.now ++ codes " ") names.now
parsed_by _ = codes "-"

-- a flag takes no values
abbrev pub taken_by : ArgAction → ValueParser → Text
taken_by Set parser = parsed_by parser
taken_by Append parser = parsed_by parser
taken_by _ parser = []

abbrev pub taken : Arg → Text
taken argument = taken_by (unwrap_or argument.action Set) (parser_of argument)

abbrev pub help_of : Option (Bor Text) → Text
help_of help = option_map_or (λ t. t.now) help []

-- the line of an argument of a command
abbrev pub argument_line : Text → Arg → Text
argument_line command argument =
    command ++ (codes "|" ++ (long_name argument.long ++ (codes "|" ++ (short_name argument.short
    ++ (codes "|" ++ (taken argument ++ (codes "|" ++ (help_of argument.help ++ codes "\n"))))))))

abbrev pub arguments_text : Text → List Arg → Text
arguments_text command arguments = flat_map (argument_line command) arguments

-- the line of a command, and those of its arguments
abbrev pub command_text : Command → Text
command_text command =
    (codes "|" ++ ((fields_of command).name.now ++ (codes "|||" ++ (help_of (fields_of command).about ++ codes "\n"))))
    ++ arguments_text (fields_of command).name.now (fields_of command).args.items

-- what `clap` adds by itself, the program's own arguments, and its commands
abbrev pub table : Command → Text
table command = ADDED.now ++ (arguments_text [] (fields_of command).args.items
    ++ flat_map command_text (fields_of command).subcommands.items)
