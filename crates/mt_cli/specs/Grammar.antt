-- What `clap` knows of the program's words, and what its answer says.
-- Source: this project's own, the command line of its program; the crate `clap`.
use Rattle.std.specs.Prelude.{true, Bool, ℕ, List, Option, Some, None, codes, if◌then◌else◌, option_and_then, option_map, bytes_eq}
use Rattle.clap.specs.Words.{App, Row, Rule, Text, first_of, new_app, new_rule, with_rule, with_subcommand}
use Rattle.mt_base.specs.Width.{most_rows}
use Rattle.mt_cli.specs.Commands.{bulk_with, ids_with, make_with, rows_word, trial_with}
use Rattle.mt_cli.specs.declared.commands.Command.{Command}
use Rattle.mt_cli.specs.declared.commands.Command.TheVariants.{Image, Replay, Show, Verify}

-- an option with a value
abbrev pub option_rule : Text → Rule
option_rule name = record (new_rule name) { long = Some name }

-- a word that has to be there
abbrev pub word_rule : Text → Rule
word_rule name = record (new_rule name) { required = true }

-- a word, and perhaps a number of nodes
abbrev pub rows_app : Text → App
rows_app verb = with_rule (new_app verb) (option_rule (codes "rows"))

abbrev pub replay_app : App
replay_app = rows_app (codes "replay")

abbrev pub make_app : App
make_app = with_rule (with_rule (with_rule (new_app (codes "make")) (word_rule (codes "number"))) (word_rule (codes "steps"))) (word_rule (codes "lanes"))

abbrev pub trial_app : App
trial_app = with_rule (with_rule (new_app (codes "trial")) (word_rule (codes "number"))) (word_rule (codes "steps"))

abbrev pub verify_app : App
verify_app = rows_app (codes "verify")

abbrev pub image_app : App
image_app = rows_app (codes "image")

abbrev pub show_app : App
show_app = new_app (codes "show")

abbrev pub bulk_app : App
bulk_app = with_rule (new_app (codes "bulk")) (word_rule (codes "workers"))

abbrev pub ids_app : App
ids_app = with_rule (with_rule (with_rule (with_rule (new_app (codes "ids")) (word_rule (codes "lo"))) (word_rule (codes "hi"))) (word_rule (codes "steps"))) (word_rule (codes "drop"))

-- the program's words: no name before them, and no help
abbrev pub plain_app : App
plain_app = record (new_app (codes "mtreplay")) {
  top = record (new_app (codes "mtreplay")).top { no_binary_name = true; disable_help_flag = true; disable_help_subcommand = true };
}

abbrev pub grammar : App
grammar =
    let of_logs : App = with_subcommand (with_subcommand (with_subcommand (with_subcommand plain_app replay_app.top) make_app.top) trial_app.top) verify_app.top in
    with_subcommand (with_subcommand (with_subcommand (with_subcommand of_logs image_app.top) show_app.top) bulk_app.top) ids_app.top

-- the number of nodes that the matches of a subcommand say
abbrev pub rows_given : List Row → Option ℕ
rows_given rows = elim (first_of (codes "rows") rows) as (λ _. Option ℕ) [ None ↦ Some most_rows | Some word ↦ rows_word word ]

-- the command that they are
abbrev pub make_in : List Row → Option Command
make_in rows = option_and_then (λ number. option_and_then (λ steps. option_and_then (λ lanes. make_with number steps lanes) (first_of (codes "lanes") rows))
    (first_of (codes "steps") rows)) (first_of (codes "number") rows)

abbrev pub trial_in : List Row → Option Command
trial_in rows = option_and_then (λ number. option_and_then (λ steps. trial_with number steps) (first_of (codes "steps") rows)) (first_of (codes "number") rows)

abbrev pub bulk_in : List Row → Option Command
bulk_in rows = option_and_then bulk_with (first_of (codes "workers") rows)

abbrev pub ids_in : List Row → Option Command
ids_in rows = option_and_then (λ lo. option_and_then (λ hi. option_and_then (λ steps. option_and_then (λ drops. ids_with lo hi steps drops) (first_of (codes "drop") rows))
    (first_of (codes "steps") rows)) (first_of (codes "hi") rows)) (first_of (codes "lo") rows)

abbrev pub command_in : Text → List Row → Option Command
command_in name rows = if bytes_eq name (codes "replay") then option_map Replay (rows_given rows)
    else (if bytes_eq name (codes "make") then make_in rows
    else (if bytes_eq name (codes "trial") then trial_in rows
    else (if bytes_eq name (codes "verify") then option_map Verify (rows_given rows)
    else (if bytes_eq name (codes "image") then option_map Image (rows_given rows)
    else (if bytes_eq name (codes "show") then Some Show
    else (if bytes_eq name (codes "bulk") then bulk_in rows
    else (if bytes_eq name (codes "ids") then ids_in rows else None)))))))

abbrev pub command_met : Option (Text × List Row) → Option Command
command_met = option_and_then (λ p. command_in p.0 p.1)

-- `--`
abbrev pub is_end_of_options : Text → Bool
is_end_of_options word = bytes_eq word (codes "--")
