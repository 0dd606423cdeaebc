-- A command of `clap` as it is built.
use Rattle.mt_cli.proofs.Prelude.{◌≡◌, ◌∙◌, true, false, Result, ap, ap₂, codes, IfOk, IfOk-weaker, and_parts, AddsSubcommand, App, app_of, new_app, with_subcommand, app_of_fields, is_false, plain_app}
use Rattle.clap.specs.declared.builder.command.Command.{Command}
use Rattle.clap.specs.declared.builder.command.Command.TheViews.{out-Command as fields_of}

-- a plain command has no arguments of all its subcommands
pub local : (c : Command) (a : App) → app_of c ≡ a → a.top.is_plain ≡ true → (fields_of c).has_globals ≡ false
local c a is plain =
    let fields = and_parts _ _ (ap (λ (x : App). x.top.is_plain) is ∙ plain) in
    is_false _ (and_parts _ _ (and_parts _ _ fields.1).1).0

-- one more subcommand
pub with_sub : {E : Type 0} (old sub : Command) (before added : App) (r : Result Command E) → app_of old ≡ before → app_of sub ≡ added → added.top.is_plain ≡ true
    → IfOk r (λ c. AddsSubcommand old sub c) → IfOk r (λ c. app_of c ≡ with_subcommand before added.top)
with_sub old sub before added r is_before is_added plain h =
    IfOk-weaker r (λ c. AddsSubcommand old sub c) (λ c. app_of c ≡ with_subcommand before added.top)
    (λ c adds. adds.shape (local sub added is_added plain) ∙ ap₂ with_subcommand is_before (ap (λ (x : App). x.top) is_added)) h

-- the settings of the program's own words
pub plain : (new named flagless helpless : Command) → app_of new ≡ new_app (codes "mtreplay") → fields_of named ≡ record (fields_of new) { no_binary_name = true }
    → fields_of flagless ≡ record (fields_of named) { disable_help_flag = true } → fields_of helpless ≡ record (fields_of flagless) { disable_help_subcommand = true }
    → app_of helpless ≡ plain_app
plain new named flagless helpless is a b c =
    ap app_of_fields c
    ∙ ap (λ (x : App). record x { top = record x.top { disable_help_subcommand = true } }) (ap app_of_fields b
    ∙ ap (λ (x : App). record x { top = record x.top { disable_help_flag = true } }) (ap app_of_fields a
    ∙ ap (λ (x : App). record x { top = record x.top { no_binary_name = true } }) is))
