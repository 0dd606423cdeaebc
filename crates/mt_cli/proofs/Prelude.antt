-- What the proofs beside this file take from the toolchain, from the crates below and from this crate's definitions, under one name. Declares nothing.
unfoldable pub use Rattle.clap.proofs.OnLiterals.{clap_on_literals}
pub use Rattle.clap.proofs.SimpleLemmas.{is_false}
pub use Rattle.clap.proofs.WalkLemmas.{bundle_ends, first_value-rows, list_any-map, walk_stopped}
pub use Rattle.clap.specs.Faults.{bundle_step_fault, check_fault, defaults_fault, entered_fault, fault_of, is_simple_and_free, long_fault, settle_fault, step_fault, turn_fault, word_fault}
unfoldable pub use Rattle.clap.specs.Faults.{flags_fault, walk_fault}
pub use Rattle.clap.specs.Kinds.{HasKind, Kinds, or_else}
pub use Rattle.clap.specs.Lexer.{long_of, name_and_value, short_of}
pub use Rattle.clap.specs.Simple.{HasMatchesOf, Shape, app_of_fields, built, built_leaf, entered, inherited, is_simple, marked_built, names_of, on_top, subcommand_of, subcommand_rows_of, with_leaf_noted}
pub use Rattle.clap.specs.Values.{kind_of}
pub use Rattle.clap.specs.Walk.{Held, Names, Row, Rule, Step, Text, Waiting, Walk, after_flag, after_step, arg_by_long, arg_by_short, finished, idle, long_word, nothing_held, option, plain, plain_word, positional, rows_after, settled, subcommand_met, value, walk, walk_from, word_met}
unfoldable pub use Rattle.clap.specs.Walk.{walked}
pub use Rattle.clap.specs.Words.{AddsSubcommand, App, app_of, found_of, new_app, with_subcommand}
pub use Rattle.clap.specs.declared.builder.value_parser.Reading.TheVariants.{AsWritten}
pub use Rattle.clap.specs.declared.error.Error.{Error}
pub use Rattle.clap.specs.declared.error.kind.ErrorKind.TheVariants.{OutOfMemory}
pub use Rattle.clap.specs.declared.parser.matches.ArgMatches.{ArgMatches}
pub use Rattle.clap.specs.declared.parser.matches.ValueSource.TheVariants.{CommandLine}
pub use Rattle.std.proofs.Common.{Bool, IfOk, IfSome, List, None, Option, Result, Some, [], ap, ap₂, arith, bytes_eq, chars, codes, drop, false, fold, if◌then◌else◌, inl, inr, is_some, length, map, nat_le, nat_lt, option_and_then, option_map, refl, slice_get, string_bytes, subst, suc, sym, take, take-append-drop, take_all, true, true≢false, zero, ℕ, ◌&&◌, ◌++◌, ◌<◌, ◌==◌, ◌^◌, ◌||◌, ◌∙◌, ◌∷◌, ◌≡◌, ◌≢◌, ◌≤◌, ◌⊎◌}
pub use Rattle.mt_base.proofs.Std.{IfOk-weaker, after_first, and_parts, before_first, bytes_eq-Decides, cases_lt, eqb-true, leb-true, list_all, list_any, ltb-true, nat_tests, or_parts, passes_at_first, position_or_len, split_at_first}
pub use Rattle.std.specs.Char.{digit_value, is_ascii_digit}
pub use Rattle.std.specs.Str.Parse.{AllDigits, IsNumeral, digits_value, without_leading_plus}
pub use Rattle.mt_base.specs.Names.{fewest_rows, most_lanes, most_rows, most_steps}
pub use Rattle.mt_cli.specs.Commands.{IsWithin, bulk_of, command_of, ids_of, in_two_words, make_of, rows_said, rows_word, show_of, trial_of}
pub use Rattle.mt_cli.specs.Grammar.{bulk_app, bulk_in, command_met, grammar, ids_app, ids_in, image_app, is_end_of_options, make_app, make_in, plain_app, replay_app, rows_app, rows_given, show_app, trial_app, trial_in, verify_app}
pub use Rattle.mt_cli.specs.Numbers.{greatest_number, is_number, most_index, most_workers, number_in}
pub use Rattle.mt_cli.specs.declared.commands.Command.{Command}
pub use Rattle.mt_cli.specs.declared.commands.Command.TheVariants.{Bulk, Ids, Image, Make, Replay, Show, Trial, Verify}
