use Rattle.mt_cli.proofs.Prelude.{◌∙◌, ap, ap₂, refl, App, with_subcommand, bulk_app, ids_app, image_app, make_app, replay_app, show_app, trial_app, verify_app}
use Rattle.mt_cli.proofs.Building.{local, plain, with_sub}
use Rattle.mt_cli.proofs.grammar.grammar.Goals as goal

pub returns : goal.returns
returns c =
    let none = plain _ _ _ _ c.new.ensures.app c.no_binary_name.ensures c.disable_help_flag.ensures c.disable_help_subcommand.ensures in
    let one = c.in_ok-subcommand.ensures.shape (local _ replay_app c.in_ok-rows_words.ensures refl) ∙ ap₂ with_subcommand none (ap (λ (a : App). a.top) c.in_ok-rows_words.ensures) in
    let two = c.in_ok-subcommand-2.ensures.shape (local _ make_app c.in_ok-make_words.ensures refl) ∙ ap₂ with_subcommand one (ap (λ (a : App). a.top) c.in_ok-make_words.ensures) in
    let three = c.in_ok-subcommand-3.ensures.shape (local _ trial_app c.in_ok-trial_words.ensures refl) ∙ ap₂ with_subcommand two (ap (λ (a : App). a.top) c.in_ok-trial_words.ensures) in
    let four = c.in_ok-subcommand-4.ensures.shape (local _ verify_app c.in_ok-rows_words-2.ensures refl) ∙ ap₂ with_subcommand three (ap (λ (a : App). a.top) c.in_ok-rows_words-2.ensures) in
    let five = c.in_ok-subcommand-5.ensures.shape (local _ image_app c.in_ok-rows_words-3.ensures refl) ∙ ap₂ with_subcommand four (ap (λ (a : App). a.top) c.in_ok-rows_words-3.ensures) in
    let six = c.in_ok-subcommand-6.ensures.shape (local _ show_app c.in_ok-show_words.ensures refl) ∙ ap₂ with_subcommand five (ap (λ (a : App). a.top) c.in_ok-show_words.ensures) in
    let seven = c.in_ok-subcommand-7.ensures.shape (local _ bulk_app c.in_ok-bulk_words.ensures refl) ∙ ap₂ with_subcommand six (ap (λ (a : App). a.top) c.in_ok-bulk_words.ensures) in
    with_sub _ _ _ ids_app c.subcommand-8.result seven c.in_ok-ids_words.ensures refl c.subcommand-8.ensures
