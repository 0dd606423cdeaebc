use Rattle.mt_cli.proofs.Prelude.{sym, ◌∙◌, map, string_bytes, list_any-map, is_end_of_options}
use Rattle.mt_cli.proofs.Limits.{command_within}
use Rattle.mt_cli.proofs.NoCommands.{ended}
use Rattle.mt_cli.proofs.Readings.{refused, taken}
use Rattle.mt_cli.proofs.words.read_words.Goals as goal

pub returns-then-ends_options-clause-command : goal.returns-then-ends_options-clause-command
returns-then-ends_options-clause-command c = sym (ended (map string_bytes c.args.words.now) (sym (list_any-map is_end_of_options string_bytes c.args.words.now) ∙ (sym c.ends_options.ensures ∙ c.if-ends_options.true)))

pub returns-in-Ok-clause-command : goal.returns-in-Ok-clause-command
returns-in-Ok-clause-command c =
    let none = sym (list_any-map is_end_of_options string_bytes c.args.words.now) ∙ (sym c.ends_options.ensures ∙ c.if-ends_options.false) in
    c.command_met.ensures ∙ taken _ _ c.in-Ok.matches c.in_ok-grammar.ensures none c.in-Ok.ensures.matches c.in-Ok.ensures.kinds

pub returns-clause-command : goal.returns-clause-command
returns-clause-command c =
    let none = sym (list_any-map is_end_of_options string_bytes c.args.words.now) ∙ (sym c.ends_options.ensures ∙ c.if-ends_options.false) in
    refused _ _ c.in-Err.error c.in_ok-grammar.ensures none c.in-Err.ensures.kinds (λ e. c.in_default.not-OutOfMemory (c.kind.ensures ∙ e))

pub returns-in-Ok-clause-within : goal.returns-in-Ok-clause-within
returns-in-Ok-clause-within c = command_within _ (map string_bytes c.args.words.now) (returns-in-Ok-clause-command c)
